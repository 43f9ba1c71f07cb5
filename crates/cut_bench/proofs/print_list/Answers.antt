-- The text of a list that the writer accepts lies within the buffer.
use Rattle.std.proofs.Common.{◌≡◌, ◌≤◌, ◌<◌, ◌∙◌, sym, ap, arith, ℕ, List, length}
use Rattle.std.specs.Prelude.{Result, Ok, Err}
use Rattle.std.specs.Result.{result_unwrap_or}
use native.Mathlib.Decide.{dec_lt}
use lib.IntN.{ℤ}
use lib.Seq.{length-take-le}
use Rattle.list.specs.Limits.{max_entries}
use Rattle.text.specs.Writing.{WriteAnswer, written, accepted_write, write_told, write_of}
use Rattle.text.specs.declared.WriteFault.{WriteFault}
use Rattle.text.proofs.Writes.{write_long, write_short, write_fits}
use Rattle.cut_bench.proofs.print_list.Goals as goal

fits : (l : List ℤ) (n m : ℕ) → accepted_write n ≡ write_of l m → n ≤ m
fits l n m q = go (dec_lt max_entries (length l)) (dec_lt m (length (written l)))
  where
    go : Dec (max_entries < length l) → Dec (m < length (written l)) → n ≤ m
    go (yes h) k = absurd (omega (arith, ap (λ (a : WriteAnswer). a.code) (q ∙ write_long l m h)))
    go (no h) (yes k) = absurd (omega (arith, ap (λ (a : WriteAnswer). a.code) (q ∙ write_short l m (omega arith) k)))
    go (no h) (no k) = omega (arith, ap (λ (a : WriteAnswer). a.length) (q ∙ write_fits l m (omega arith) (omega arith)))

within : (r : Result ℕ WriteFault) (l : List ℤ) (m : ℕ) → write_told r ≡ write_of l m → result_unwrap_or r 0 ≤ m
within (Ok n) l m q = fits l n m q
within (Err f) l m q = omega arith

pub slice_bounds-out-end : goal.slice_bounds-out-end
slice_bounds-out-end g c =
    let few = within c.write.result c.args.list.now 256 c.write.ensures.value in
    omega (arith, few, c.unwrap_or-n.ensures, c.write.auto.text)

pub slice_bounds-write_all-end : goal.slice_bounds-write_all-end
slice_bounds-write_all-end g c =
    let few = within c.write.result c.args.list.now 256 c.write.ensures.value in
    sym (length-take-le c.unwrap_or-n.result c.write.new.text (omega (arith, few, c.unwrap_or-n.ensures, c.write.auto.text)))
