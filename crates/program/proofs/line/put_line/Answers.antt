use Prim.Native.Nat.{ℕ, ◌+◌}
use mathlib.Core.Path.{◌≡◌, ap, sym, ◌∙◌}
use mathlib.Core.List.{List, [], ◌∷◌, ◌++◌}
use native.Mathlib.Omega.{arith}
use lib.ListN.{length, drop, get_or, length-append}
use Rattle.number.specs.Decimal.{decimal_text}
use Rattle.number.proofs.Putting.{put_none}
use Rattle.program.specs.Printed.{behind, line}
use Rattle.program.proofs.Lines.{behind_more, behind_last, line_at_place, line_past, line_short, put_on}
use Rattle.program.proofs.line.put_line.Goals.{then-i-lt7, else-i-lt7}
use Rattle.program.proofs.line.put_line.Goals as goal

pub loop-i-preserved : goal.loop-i-preserved
loop-i-preserved c =
    let xs : List ℕ = c.args.numbers.now in
    let i : ℕ = c.loop-i.i in
    let b : ℕ = c.if-i-lt7.behind in
    let e : b ≡ behind (drop (i + 1) xs) =
    elim c.if-i-lt7.branch [ then-i-lt7 w ↦ w.behind-is ∙ behind_more xs i (omega arith) | else-i-lt7 w ↦ w.behind-is ∙ behind_last xs i (omega arith) ] in
    let piece : List ℕ = decimal_text (get_or xs i 0) ++ b ∷ [] in
    let place : line (drop i xs) ≡ piece ++ line (drop (i + 1) xs) = line_at_place xs i b (omega arith) e in
    let n = ap length place ∙ length-append piece (line (drop (i + 1) xs)) in
    let m = length-append (decimal_text (get_or xs i 0)) (b ∷ []) in
    let s = line_short xs c.fits-numbers in (
      c.put_number-at.array_long,
      omega (arith, c.put_number-at.ensures.value),
      omega (arith, c.put_number-at.ensures.value),
      put_on c.loop-i.at c.put_number-at.result piece (line (drop (i + 1) xs)) (line (drop i xs)) c.loop-i.output c.put_number-at.new.output
          place (omega arith) (omega (arith, c.put_number-at.ensures.value)) c.put_number-at.ensures.output_after
          ∙ c.loop-i.invariant.3,
    )

pub returns-clause-output_after : goal.returns-clause-output_after
returns-clause-output_after c =
    let z = line_past c.args.numbers.now c.loop-i.i (omega arith) in
    sym (put_none c.loop-i.at c.loop-i.output) ∙ rw z at c.loop-i.invariant.3
