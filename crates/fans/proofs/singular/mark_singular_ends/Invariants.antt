-- `singular::mark_singular_ends` meets its contract: the marks so far and the singular edges of the corners that are left give the
-- marks, and the count is always that of the marks.
use lib.ListN.{length}
use Rattle.fans.proofs.SingularCount.{EndsLoop}
use Rattle.fans.proofs.singular.mark_singular_ends.Given as goal

abbrev pub invariant-loop-e : goal.invariant-loop-e
invariant-loop-e l = EndsLoop l.table.words.now l.table.corners (length l.initial.marks) l.marks l.count l.e
