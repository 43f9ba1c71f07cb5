use Prim.Native.Nat.{◌+◌, ◌*◌}
use mathlib.Core.Path.{◌≡◌, ◌∙◌, ap}
use native.Mathlib.Omega.{arith}
use lib.ListN.{length}
use lib.Seq.{get_or-drop}
use Rattle.groups.specs.Forest.{at}
use Rattle.fans.proofs.Marking.{fan_turn, fan_done}
use Rattle.fans.proofs.marks.mark_fans.Goals as goal
use Rattle.fans.proofs.marks.mark_fans.Goals.{then-e-parent+then-marks-v, then-e-parent+else-marks-v, else-e-parent}

pub loop-e-preserved : goal.loop-e-preserved
loop-e-preserved c =
    let t = c.args.table.words.now in
    let n = c.args.table.corners in
    let e = c.loop-e.e in
    let turn = fan_turn t n (length c.args.marks.now) c.requires.0 c.loop-e.marks e (omega (arith, c.loop-e-test.true, c.requires.2)) c.loop-e.invariant in
    let parent : at c.args.parents.now e ≡ at t (3 * n + e) = ap (λ xs. at xs e) c.requires.1 ∙ get_or-drop (3 * n) t e 0 in
    elim c.if-e-parent.branch [
      | then-e-parent+then-marks-v w ↦
          rw (w.marks-is, w.vertex-v.ensures) (turn.first (omega (arith, parent, w.if-e-parent.true)) (rw w.vertex-v.ensures at w.if-marks-v.true))
      | then-e-parent+else-marks-v w ↦
          rw (w.marks-is, w.vertex-v.ensures) (turn.again (omega (arith, parent, w.if-e-parent.true)) (rw w.vertex-v.ensures at w.if-marks-v.false))
      | else-e-parent w ↦ rw w.marks-is (turn.child (omega (arith, parent, w.if-e-parent.false)))
    ]

pub returns : goal.returns
returns c =
    fan_done c.args.table.words.now c.args.table.corners (length c.args.marks.now) c.loop-e.marks c.loop-e.e (omega (arith, c.loop-e-test.false, c.requires.2)) c.loop-e.invariant
