use mathlib.Core.Path.{refl, sym, ◌∙◌}
use borrow.Author.Tests.{eqb-true, eqb-false}
use lib.ListN.{length}
use Rattle.fans.proofs.SingularCount.{byte_is, ends_start, ends_turn}
use Rattle.fans.proofs.singular.mark_singular_ends.Goals as goal
use Rattle.fans.proofs.singular.mark_singular_ends.Goals.{then-is_singular, else-is_singular}

pub loop-e-init : goal.loop-e-init
loop-e-init c = ends_start c.args.table.words.now c.args.table.corners (length c.args.marks.now) c.args.marks.now refl c.requires.1

pub loop-e-preserved : goal.loop-e-preserved
loop-e-preserved c =
    let n = c.args.table.corners in
    let e = c.loop-e.e in
    let here = c.loop-e-test.true in
    let turn = ends_turn c.args.table.words.now n (length c.args.marks.now) c.requires.0 c.loop-e.marks c.loop-e.count e here (c.args.table.nexts e here) c.loop-e.invariant in
    elim c.if-is_singular.branch [
      | then-is_singular w ↦
          let ends = w.ends-from.ensures in
          rw (w.marks-is, w.count-is, w.from-count.ensures, w.from-count-then-is_singular.ensures, byte_is w.make_singular.result, byte_is w.make_singular-then-is_singular.result)
          (turn.singular _ _ _ _ (rw ends.0 at w.make_singular.ensures) (rw ends.1 at w.make_singular-then-is_singular.ensures) (eqb-true _ n (sym c.is_singular.ensures ∙ w.if-is_singular.true)))
      | else-is_singular w ↦ rw (w.marks-is, w.count-is) (turn.other (eqb-false _ n (sym c.is_singular.ensures ∙ w.if-is_singular.false)))
    ]
