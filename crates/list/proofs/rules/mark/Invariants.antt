-- `rules::mark` meets its contract: the flags set are those of the vertices passed, so a flag that is set tells the first repeat.
use Rattle.list.proofs.Repeats.{Marking}
use Rattle.list.proofs.rules.mark.Given as goal

abbrev pub invariant-loop-i : goal.invariant-loop-i
invariant-loop-i l = Marking l.face l.initial.flags l.i l.flags
