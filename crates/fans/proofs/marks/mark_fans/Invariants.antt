-- `marks::mark_fans` meets its contract: a vertex's mark says how many of its roots are met, and those left make up all.
use lib.ListN.{length}
use Rattle.fans.proofs.Marking.{FanLoop}
use Rattle.fans.proofs.marks.mark_fans.Given as goal

abbrev pub invariant-loop-e : goal.invariant-loop-e
invariant-loop-e l = FanLoop l.table.words.now l.table.corners (length l.initial.marks) l.marks l.e
