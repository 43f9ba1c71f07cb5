use mathlib.Core.Path.{◌≡◌, sym, ◌∙◌, ap}
use borrow.Author.Rules.{rules}
use native.Mathlib.Omega.{arith}
use lib.IntN.{pos}
use lib.ListN.{get_or}
use mir.Syntax.{w32}
use mir.ValLaws.{to_z_pos}
use Rattle.std.proofs.lemmas.Int.{to_z-of_z}
use Rattle.list.specs.Faces.{is_end}
use Rattle.renumber.proofs.Walk.{end_is, list_turn, walk_inside}
use Rattle.renumber.proofs.fill_list.Goals as goal
use Rattle.renumber.proofs.fill_list.Goals.{then-is_end, else-is_end}

pub loop-i-preserved : goal.loop-i-preserved
loop-i-preserved c =
    let x = get_or c.args.list.now c.loop-i.i (pos 0) in
    let turn = list_turn c.args.list.now c.args.w.now c.args.new_list.now c.loop-i.new_list c.loop-i.e c.loop-i.i c.requires.0 c.requires.1 c.loop-i-test.true c.loop-i.invariant in
    let kind : c.is_end.result ≡ is_end x = c.is_end.ensures ∙ ap is_end (to_z-of_z w32 x (search rules)) in
    elim c.if-is_end.branch [
      | then-is_end w ↦
          let end = sym kind ∙ w.if-is_end.true in
          rw (w.new_list-is, w.e-is, ← end_is x end) (turn.end end)
      | else-is_end w ↦
          let other = sym kind ∙ w.if-is_end.false in
          let inside = walk_inside c.args.list.now c.loop-i.e c.loop-i.i c.loop-i-test.true c.loop-i.invariant.walk other in
          rw (w.new_list-is, w.e-is, to_z_pos w32 (get_or c.args.w.now c.loop-i.e 0) (c.requires.2 c.loop-i.e (omega (arith, inside)))) (turn.corner other)
    ]
