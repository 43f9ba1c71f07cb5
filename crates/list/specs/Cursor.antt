-- The cursor that goes from face to face.
--
--   face_seen f        the face that the cursor answers, as its start and its entries
--   faces_left c       the faces from the cursor c on
--   Step               what a step answers: a face's start and end with the position of the next cursor, or the end of the list
--   step_at l i        the answer to a step of the cursor at position i of the list l
--   step_told r p      the answer r of a step that leaves the cursor at position p
--   StepMade c r d     a step of the cursor c answers r and leaves the cursor d
use Rattle.std.specs.Prelude.{ℕ, ℤ, ◌≡◌, ◌+◌, List, [], ◌∷◌, length, drop, Option, Some, None, IfNone}
use Rattle.std.specs.Iterator.{YieldsFirstBy}
use Rattle.list.specs.Faces.{Face, runs, faces_from}
use Rattle.list.specs.declared.cursor.Cursor.{Cursor}
use Rattle.list.specs.declared.cursor.Face as Declared

abbrev pub face_seen : Declared.Face → Face
face_seen f = record { start = f.start; entries = f.entries.now }

abbrev pub faces_left : Cursor → List Face
faces_left c = faces_from c.at (runs (drop c.at c.list.now))

pub data Step : Type 0 where
  Face_at : (start end next : ℕ) → Step
  Done : Step

abbrev pub step_of : ℕ → List (List ℤ) → Step
step_of i [] = Done
step_of i (r ∷ rs) = Face_at i (i + length r) (i + length r + 1)

abbrev pub step_at : List ℤ → ℕ → Step
step_at l i = step_of i (runs (drop i l))

abbrev pub step_told : Option Declared.Face → ℕ → Step
step_told None next = Done
step_told (Some f) next = Face_at f.start (f.start + length f.entries.now) next

pub record StepMade (c : Cursor) (r : Option Declared.Face) (d : Cursor) : Type 0 where
  pub yields : YieldsFirstBy face_seen faces_left c r d
  pub told : step_told r d.at ≡ step_at c.list.now c.at
  pub stays : IfNone r (d.at ≡ c.at)
  pub same : d.list.now ≡ c.list.now
