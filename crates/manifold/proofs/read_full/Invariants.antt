-- What was read lies within the buffer, and less of it is left each time.
use Rattle.std.proofs.Common.{◌-◌, ◌≤◌, length}
use Rattle.manifold.proofs.read_full.Given as goal

abbrev pub invariant-loop-n : goal.invariant-loop-n
invariant-loop-n g l = l.n ≤ length l.buffer

abbrev pub decreases-loop-n : goal.decreases-loop-n
decreases-loop-n g l = length l.buffer - l.n
