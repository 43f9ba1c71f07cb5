use mathlib.Core.Path.{sym, ◌∙◌}
use mathlib.Core.List.{List}
use lib.IntN.{ℤ}
use Rattle.list.specs.Faces.{vertices}
use Rattle.list.proofs.Repeats.{looked, repeat_placed, repeat_unplaced, unrepeated_turn, vertices_long}
use Rattle.list.proofs.rules.repeat_by_looking.Goals as goal

pub returns-then-contains : goal.returns-then-contains
returns-then-contains c =
    let l : List ℤ = c.args.face.now in
    repeat_placed l c.loop-j.j c.loop-j-test.true (sym (c.contains.ensures.value ∙ looked l c.loop-j.j c.loop-j-test.true c.requires) ∙ c.if-contains.true) c.loop-j.invariant

pub loop-j-preserved : goal.loop-j-preserved
loop-j-preserved c =
    let l : List ℤ = c.args.face.now in
    unrepeated_turn (vertices l) c.loop-j.j (rw vertices_long c.loop-j-test.true) (sym (c.contains.ensures.value ∙ looked l c.loop-j.j c.loop-j-test.true c.requires) ∙ c.if-contains.false) c.loop-j.invariant

pub returns : goal.returns
returns c = repeat_unplaced c.args.face.now c.loop-j.j c.loop-j-test.false c.loop-j.invariant
