-- The check's answer, and when a list is valid (document 01, "The list and its numbers" and "Numbers given back, and their order").
--
--   outside n x         the entry x is below -1 or at least n
--   first_outside n r   the place in the face r of its first entry outside; r's length if there is none
--   elem v vs           the vertex v is one of vs
--   first_repeat vs     the place of the first vertex equal to an earlier one of vs; vs's length if there is none
--   face_fault n r      the first fault of the face r, in the order of the codes; Ok where it has none
--   CheckAnswer         the check's answer: code, place, faces, corners
--   refused, accepted   the same, of a refused and of an accepted list
--   by_fault s f rest   the code and place of the fault f of a face that starts at s; a face without one hands on to the rest
--   check_of l n        the check's answer for the list l and the vertex count n
--   ValidFace, Valid    the validity of a face and of a list
use Rattle.std.specs.Prelude.{ℕ, zero, suc, ◌+◌, ◌≤◌, ◌<◌, ◌≡◌, List, [], ◌∷◌, Bool, true, false, cond, ◌||◌, leb, ltb, eqb, ℤ, pos, negsuc, length, get_or, Result, Ok, Err}
use Rattle.list.specs.Limits.{max_entries, max_vertices}
use Rattle.list.specs.Faces.{Face, faces, runs, corners, vertices, first_where}
use Rattle.list.specs.declared.rules.FaceFault.{FaceFault}
use Rattle.list.specs.declared.rules.FaceFault.TheVariants as Fault·

abbrev pub outside : ℕ → ℤ → Bool
outside n (pos k) = leb n k
outside n (negsuc zero) = false
outside n (negsuc (suc k)) = true

abbrev pub first_outside : ℕ → List ℤ → ℕ
first_outside n r = first_where (outside n) r

abbrev pub elem : ℕ → List ℕ → Bool
elem v [] = false
elem v (w ∷ ws) = eqb v w || elem v ws

-- the same where the vertices of seen stand before those of vs
abbrev pub repeat_after : List ℕ → List ℕ → ℕ
repeat_after seen [] = 0
repeat_after seen (v ∷ vs) = let later = repeat_after (v ∷ seen) vs in cond (elem v seen) 0 (suc later)

abbrev pub first_repeat : List ℕ → ℕ
first_repeat vs = repeat_after [] vs

unfoldable pub face_fault : ℕ → List ℤ → Result (Unit {0}) FaceFault
face_fault n r =
    cond (ltb (first_outside n r) (length r))
    (Err (Fault·.Outside (first_outside n r)))
    (cond (ltb (length r) 3)
    (Err Fault·.Short)
    (cond (ltb (first_repeat (vertices r)) (length r)) (Err (Fault·.Repeated (first_repeat (vertices r)))) (Ok tt)))

pub record CheckAnswer : Type 0 where
  pub code : ℕ
  pub place : ℕ
  pub faces : ℕ
  pub corners : ℕ

abbrev pub refused : ℕ → ℕ → CheckAnswer
refused code place = record { code = code; place = place; faces = 0; corners = 0 }

abbrev pub accepted : ℕ → ℕ → CheckAnswer
accepted faces corners = record { code = 0; place = 0; faces = faces; corners = corners }

abbrev pub by_fault : ℕ → Result (Unit {0}) FaceFault → CheckAnswer → CheckAnswer
by_fault s (Ok _) rest = rest
by_fault s (Err (Fault·.Outside i)) rest = refused 3 (s + i)
by_fault s (Err Fault·.Short) rest = refused 4 s
by_fault s (Err (Fault·.Repeated i)) rest = refused 5 (s + i)

unfoldable pub check_faces : ℕ → List Face → CheckAnswer → CheckAnswer
check_faces n [] ok = ok
check_faces n (f ∷ fs) ok = by_fault f.start (face_fault n f.entries) (check_faces n fs ok)

unfoldable pub check_of : List ℤ → ℕ → CheckAnswer
check_of l n =
    cond (ltb max_entries (length l))
    (refused 1 0)
    (cond (ltb max_vertices n) (refused 2 0) (check_faces n (faces l) (accepted (length (faces l)) (length (corners l)))))

-- at least 3 corners, each from 0 to n-1, all different
pub record ValidFace (n : ℕ) (r : List ℤ) : Type 0 where
  pub long : 3 ≤ length r
  pub inside : (i : ℕ) → i < length r → (v : ℕ) × (get_or r i (pos 0) ≡ pos v) × (v < n)
  pub different : (i j : ℕ) → i < j → j < length r → get_or r i (pos 0) ≡ get_or r j (pos 0) → ⊥

pub record Valid (l : List ℤ) (n : ℕ) : Type 0 where
  pub few_entries : length l ≤ max_entries
  pub few_vertices : n ≤ max_vertices
  pub each_face : (k : ℕ) → k < length (runs l) → ValidFace n (get_or (runs l) k [])
