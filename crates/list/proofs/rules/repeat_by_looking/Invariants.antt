-- `rules::repeat_by_looking` meets its contract: no repeat is among the entries passed.
use Rattle.list.specs.Faces.{vertices}
use Rattle.list.proofs.Repeats.{Unrepeated}
use Rattle.list.proofs.rules.repeat_by_looking.Given as goal

abbrev pub invariant-loop-j : goal.invariant-loop-j
invariant-loop-j l = Unrepeated (vertices l.face) l.j
