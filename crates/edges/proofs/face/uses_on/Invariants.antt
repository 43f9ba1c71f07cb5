-- `face::uses_on` meets its contract: the pairs counted and those left make up all of the face's.
use Rattle.std.proofs.Common.{◌≡◌, ◌+◌, ◌≤◌, drop, length}
use Rattle.list.specs.Faces.{vertices}
use Rattle.edges.specs.Uses.{uses_of_face, uses_on}
use Rattle.edges.proofs.Question.{pairs_along}
use Rattle.edges.proofs.face.uses_on.Given as goal

abbrev pub invariant-loop-entry : goal.invariant-loop-entry
invariant-loop-entry l =
    record {
      few : l.count ≤ l.entry-index;
      all : l.count + pairs_along l.a l.b l.from (drop l.entry-index (vertices l.face)) ≡ length (uses_on (uses_of_face 0 (vertices l.face)) l.a l.b);
    }
