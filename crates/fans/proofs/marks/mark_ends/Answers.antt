use mathlib.Core.Path.{sym, ◌∙◌}
use borrow.Author.Tests.{eqb-true, eqb-false}
use Rattle.fans.proofs.Marking.{end_turn}
use Rattle.fans.proofs.marks.mark_ends.Goals as goal
use Rattle.fans.proofs.marks.mark_ends.Goals.{then-is_boundary, else-is_boundary+then-is_singular, else-is_boundary+else-is_singular}

pub loop-e-preserved : goal.loop-e-preserved
loop-e-preserved c =
    let n = c.args.table.corners in
    let e = c.loop-e.e in
    let turn = end_turn c.args.table.words.now n c.args.marks.now c.requires c.loop-e.marks e c.loop-e-test.true (c.args.table.nexts e c.loop-e-test.true) c.loop-e.invariant in
    elim c.if-is_boundary.branch [
      | then-is_boundary w ↦
          rw (w.marks-is, w.raise-then-is_boundary.ensures, w.raise.ensures, w.ends-from.ensures.0, w.ends-from.ensures.1) (turn.boundary (eqb-true _ e (sym c.is_boundary.ensures ∙ w.if-is_boundary.true)))
      | else-is_boundary+then-is_singular w ↦
          let ends = w.ends-from-then-is_singular.ensures in
          rw (w.marks-is, ends.0, ends.1) (turn.singular (eqb-true _ n (sym w.is_singular.ensures ∙ w.if-is_singular.true)))
      | else-is_boundary+else-is_singular w ↦
          rw w.marks-is (turn.regular (eqb-false _ e (sym c.is_boundary.ensures ∙ w.if-is_boundary.false)) (eqb-false _ n (sym w.is_singular.ensures ∙ w.if-is_singular.false)))
    ]
