-- `Parents::root` meets its contract: each step goes to a parent, which is in the same group and not after it, and a corner whose parent is not earlier ends it.
use Rattle.groups.specs.Forest.{Rises}
use Rattle.groups.proofs.parents.Parents.root.Given as goal

abbrev pub invariant-loop-r : goal.invariant-loop-r
invariant-loop-r l = Rises l.self.of.now 0 l.x l.r

abbrev pub decreases-loop-r : goal.decreases-loop-r
decreases-loop-r l = l.r
