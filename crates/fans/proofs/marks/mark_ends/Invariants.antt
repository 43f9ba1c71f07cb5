-- `marks::mark_ends` meets its contract: the marks so far, finished by the edges of the corners that are left, are the final marks.
use Rattle.fans.proofs.Marking.{EndLoop}
use Rattle.fans.proofs.marks.mark_ends.Given as goal

abbrev pub invariant-loop-e : goal.invariant-loop-e
invariant-loop-e l = EndLoop l.table.words.now l.table.corners l.initial.marks l.marks l.e
