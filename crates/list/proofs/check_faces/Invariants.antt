-- `check_faces` meets its contract: the faces passed are sound, so the answer is the one that the faces left lead to.
use mathlib.Core.Path.{◌≡◌}
use lib.ListN.{replicate}
use Rattle.list.specs.Cursor.{faces_left}
use Rattle.list.proofs.Checking.{Checking}
use Rattle.list.proofs.check_faces.Given as goal

abbrev pub invariant-loop-face : goal.invariant-loop-face
invariant-loop-face g l =
    Checking l.list l.n l.faces l.corners (faces_left l.face-iterator) × (l.flags ≡ replicate g.row.MOST 0)
