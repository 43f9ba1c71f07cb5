-- `singular::count_fans` meets its contract: the marks so far and the fans of the entries that are left give the marks, and the
-- count is always that of the marks that have become singular.
use Rattle.fans.proofs.SingularCount.{FansLoop}
use Rattle.fans.proofs.singular.count_fans.Given as goal

abbrev pub invariant-loop-entry : goal.invariant-loop-entry
invariant-loop-entry l = FansLoop l.map l.initial.marks l.marks l.count l.entry-index
