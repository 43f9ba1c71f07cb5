-- The writer accepts only where the buffer has room, so the text lies within it.
use Rattle.std.proofs.Common.{arith, sym}
use lib.Seq.{length-take-le}
use Rattle.text.proofs.Exactly.{written_exactly}
use Rattle.text_bench.proofs.print_list.Goals as goal

pub slice_bounds-out-end : goal.slice_bounds-out-end
slice_bounds-out-end g c =
    let w = (written_exactly c.args.list.now 64 c.in-Ok.n).0 (sym c.in-Ok.ensures.value) in
    omega (arith, c.write.auto.text)

pub slice_bounds-write_all-end : goal.slice_bounds-write_all-end
slice_bounds-write_all-end g c =
    let w = (written_exactly c.args.list.now 64 c.in-Ok.n).0 (sym c.in-Ok.ensures.value) in
    sym (length-take-le c.in-Ok.n c.write.new.text (omega (arith, c.write.auto.text)))
