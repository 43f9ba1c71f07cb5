-- `put_answer` meets its contract: each way out prints what the definition prints there.
use Rattle.std.proofs.Common.{◌≡◌, refl, arith, sym, List, ℕ, length, replicate}
use lib.IntN.{pos}
use lib.Seq.{length-take-le}
use Rattle.number.specs.Steps.{put}
use Rattle.program.specs.Limits.{input_entries}
use Rattle.program.proofs.Answering.{large_printed, fault_printed, few, part_read, part_printed}
use Rattle.program.proofs.put_answer.Goals as goal

-- what has been put, said of what is printed
same : {w w' : List ℕ} (r : ℕ) (t t' : List ℕ) → w' ≡ w → (r ≡ length w) × (t' ≡ put 0 w t) → (r ≡ length w') × (t' ≡ put 0 w' t)
same r t t' e h = rw e h

pub returns-then-input-gt-INPUT_BYTES : goal.returns-then-input-gt-INPUT_BYTES
returns-then-input-gt-INPUT_BYTES c =
    let both = same c.put_refusal.result c.args.output.now c.put_refusal.new.output (large_printed c.args.input.now (omega arith)) (c.put_refusal.ensures.value, c.put_refusal.ensures.output_after) in
    record { value = both.0; output_after = both.1 }

pub slice_bounds-list-end : goal.slice_bounds-list-end
slice_bounds-list-end c = omega (arith, few c.args.input.now c.in-Ok.entries c.in-Ok.ensures.value, c.read.auto.list)

pub slice_bounds-put_cut-end : goal.slice_bounds-put_cut-end
slice_bounds-put_cut-end c =
    sym (length-take-le c.in-Ok.entries c.read.new.list (omega (arith, few c.args.input.now c.in-Ok.entries c.in-Ok.ensures.value, c.read.auto.list)))

pub put_cut-requires : goal.put_cut-requires
put_cut-requires c =
    part_read c.args.input.now c.in-Ok.entries c.in-Ok.ensures.value (replicate input_entries (pos 0)) c.read.new.list refl c.read.ensures.list_after

pub returns-in-Ok : goal.returns-in-Ok
returns-in-Ok c =
    let both = same c.put_cut.result c.args.output.now c.put_cut.new.output
    (part_printed c.args.input.now c.in-Ok.entries c.in-Ok.ensures.value (replicate input_entries (pos 0)) c.read.new.list refl c.read.ensures.list_after (omega arith))
    (c.put_cut.ensures.value, c.put_cut.ensures.output_after) in
    record { value = both.0; output_after = both.1 }

pub returns-in-Err : goal.returns-in-Err
returns-in-Err c =
    let both = same c.put_refusal-in-Err.result c.args.output.now c.put_refusal-in-Err.new.output
    (fault_printed c.args.input.now c.in-Err.fault c.in-Err.ensures.value (omega arith))
    (c.put_refusal-in-Err.ensures.value, c.put_refusal-in-Err.ensures.output_after) in
    record { value = both.0; output_after = both.1 }
