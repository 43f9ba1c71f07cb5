use native.Mathlib.Omega.{arith}
use mathlib.Core.Path.{refl, sym, ◌∙◌}
use Rattle.groups.proofs.JoinLoop.{loop_start, mate_below, turn_joins, turn_none, loop_end}
use Rattle.groups.proofs.join_edges.Goals as goal
use Rattle.groups.proofs.join_edges.Goals.{in-Some, in_default}

pub loop-e-init : goal.loop-e-init
loop-e-init c = (refl, loop_start c.args.table.words.now c.args.table.corners c.args.parents.now.of.now)

pub join_across-requires : goal.join_across-requires
join_across-requires c =
    let below = mate_below c.args.table.words.now c.args.table.corners c.args.parents.now.of.now c.loop-e.parents.of.now c.loop-e.e c.loop-e-test.true c.loop-e.invariant.1 _ (sym c.later_mate.ensures ∙ c.in-Some.is) in
    (omega arith, c.loop-e-test.true, below)

pub loop-e-preserved : goal.loop-e-preserved
loop-e-preserved c =
    let t = c.args.table.words.now in
    let told = sym c.later_mate.ensures in
    elim c.match-later_mate.branch [
      | in-Some w ↦
          rw w.parents-is (w.join_across.ensures.lent ∙ c.loop-e.invariant.0, turn_joins t c.args.table.corners c.args.parents.now.of.now c.loop-e.parents.of.now c.loop-e.e c.loop-e-test.true c.loop-e.invariant.1 _ (told ∙ w.in-Some.is) w.join_across.new.parents.of.now w.join_across.ensures.regrouped)
      | in_default w ↦
          rw w.parents-is (c.loop-e.invariant.0, turn_none t c.args.table.corners c.args.parents.now.of.now c.loop-e.parents.of.now c.loop-e.e c.loop-e-test.true c.loop-e.invariant.1 (told ∙ w.in_default.is))
    ]

pub returns : goal.returns
returns c =
    record { lent = c.loop-e.invariant.0; regrouped = loop_end c.args.table.words.now c.args.table.corners c.args.parents.now.of.now c.loop-e.parents.of.now c.loop-e.e c.loop-e-test.false c.loop-e.invariant.1 }
