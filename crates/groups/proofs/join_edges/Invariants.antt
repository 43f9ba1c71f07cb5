-- `join_edges` meets its contract: the links joined and the links at the corners that are left always make up those of the table.
use mathlib.Core.Path.{◌≡◌}
use Rattle.groups.proofs.JoinLoop.{JoinLoop}
use Rattle.groups.proofs.join_edges.Given as goal

abbrev pub invariant-loop-e : goal.invariant-loop-e
invariant-loop-e l = (l.parents.of.ghost_name ≡ l.initial.parents.of.ghost_name) × JoinLoop l.table.words.now l.table.corners l.initial.parents.of.now l.parents.of.now l.e
