use Prim.Native.Nat.{◌+◌, ◌*◌, ◌<◌}
use mathlib.Core.Path.{◌≡◌}
use native.Mathlib.Omega.{arith}
use mir.Syntax.{w32}
use mir.ValLaws.{to_z_pos}
use Rattle.groups.specs.Forest.{at}
use Rattle.renumber.proofs.Numbering.{number_turn, vertex_word, parent_word, numbered}
use Rattle.renumber.proofs.number.Goals as goal
use Rattle.renumber.proofs.number.Goals.{then-parent-e, else-parent-e}

pub loop-e-preserved : goal.loop-e-preserved
loop-e-preserved c =
    let w₀ = c.args.w.now in
    let n = c.args.c in
    let e = c.loop-e.e in
    let S = c.split_at_mut-numbers.ensures in
    let V = c.split_at.ensures in
    let P = c.split_at-2.ensures in
    let here : e < n = omega (arith, c.loop-e-test.true, P.back_len, V.back_len, S.back_len, c.requires.0.table.long) in
    let vertex : at c.split_at.result.0.now e ≡ at w₀ (n + e) = rw (V.front, S.back) (vertex_word w₀ n e here) in
    let parent : at c.split_at-2.result.1.now e ≡ at w₀ (3 * n + e) = rw (P.back, V.back, S.back) (parent_word w₀ n e) in
    let turn = number_turn w₀ n c.requires.0 c.loop-e.numbers c.args.map.now c.loop-e.map c.loop-e.count e here c.loop-e.invariant c.requires.1 in
    elim c.if-parent-e.branch [
      | then-parent-e w ↦ rw (w.numbers-is, w.map-is, w.count-is, parent) (turn.child (omega (arith, parent, w.if-parent-e.true)))
      | else-parent-e w ↦
          rw (w.numbers-is, w.map-is, w.count-is, vertex, to_z_pos w32 (at w₀ (n + e)) (c.requires.0.inside e here)) (turn.root (omega (arith, parent, w.if-parent-e.false)))
    ]

pub returns : goal.returns
returns c =
    let S = c.split_at_mut-numbers.ensures in
    rw S.back (numbered c.args.w.now c.args.c c.requires.0.table.long c.loop-e.numbers c.args.map.now c.loop-e.map c.loop-e.count c.loop-e.e (omega (arith, c.loop-e-test.false, c.split_at-2.ensures.back_len, c.split_at.ensures.back_len, S.back_len, c.requires.0.table.long)) c.loop-e.invariant)
