-- Laws of runs and faces: what a list is from one position on, and where its faces stand.
use Prim.Native.Nat.{ℕ, zero, suc, ◌+◌, ◌-◌, ◌≤◌, ◌<◌}
use mathlib.Core.Path.{◌≡◌, refl, ◌∙◌, ap, subst, subst⁻¹}
use mathlib.Core.Bool.{Bool, true, false}
use mathlib.Core.List.{List, [], ◌∷◌}
use native.Mathlib.Numerals.{add-one}
use native.Mathlib.Omega.{arith}
use lib.IntN.{ℤ, pos}
use native.Mathlib.Nat.{add-suc, add-sub_cancel_left}
use native.Mathlib.Decide.{dec_lt}
use lib.ListN.{length, take, drop, length-drop, drop_of_length-le}
use lib.Seq.{drop-drop, length-take-le, get_or-take}
use Rattle.list.specs.Faces.{is_end, run_length, NoEnd, runs, Face, faces_from, faces}
use Rattle.std.proofs.lemmas.Iterator.{YieldsList}
use Rattle.std.proofs.lemmas.Iterator.Consumers.{YieldsList-from_shown}
use Rattle.list.specs.Cursor.{Face_at, step_at, face_seen, faces_left, StepMade}
use Rattle.list.specs.declared.cursor.Cursor.{Cursor}
use Rattle.list.proofs.First.{first_fits, first_before}

-- a list that isn't empty is its first run, then the runs behind the -1 that ends it
pub runs_first : (l : List ℤ) → 0 < length l → runs l ≡ take (run_length l) l ∷ runs (drop (suc (run_length l)) l)
runs_first [] h = absurd (omega arith)
runs_first (x ∷ xs) h = go (is_end x) refl xs (runs_first xs)
  where
    go : (b : Bool) → is_end x ≡ b → (xs : List ℤ) → (0 < length xs → runs xs ≡ take (run_length xs) xs ∷ runs (drop (suc (run_length xs)) xs)) → runs (x ∷ xs) ≡ take (run_length (x ∷ xs)) (x ∷ xs) ∷ runs (drop (suc (run_length (x ∷ xs))) (x ∷ xs))
    go true e xs ih = rw e
    go false e [] ih = rw e
    go false e (y ∷ ys) ih = rw (e, ih (omega arith))

module _ (l : List ℤ) (i : ℕ) (h : i < length l) where
  nonempty : 0 < length (drop i l)
  nonempty = simp length-drop (omega arith)

  pub run_inside : i + run_length (drop i l) ≤ length l
  run_inside = omega (arith, first_fits is_end (drop i l), length-drop i l)

  -- the runs from position i are the part of the list up to the end of the run there, then the runs behind its -1
  pub runs_split : runs (drop i l) ≡ take (run_length (drop i l)) (drop i l) ∷ runs (drop (i + run_length (drop i l) + 1) l)
  runs_split = runs_first (drop i l) nonempty ∙ rw (drop-drop (suc (run_length (drop i l))) i l, add-suc, add-one)

  pub run_long : length (take (run_length (drop i l)) (drop i l)) ≡ run_length (drop i l)
  run_long = length-take-le (run_length (drop i l)) (drop i l) (first_fits is_end (drop i l))

  -- the faces from position i are the face there, then those behind its -1
  pub left_face : faces_from i (runs (drop i l)) ≡ record { start = i; entries = take (run_length (drop i l)) (drop i l) } ∷ faces_from (i + run_length (drop i l) + 1) (runs (drop (i + run_length (drop i l) + 1) l))
  left_face = rw (runs_split, run_long)

  pub left_face_to : (e : ℕ) → e ≡ i + run_length (drop i l) → faces_from i (runs (drop i l)) ≡ record { start = i; entries = take (e - i) (drop i l) } ∷ faces_from (e + 1) (runs (drop (e + 1) l))
  left_face_to e q = rw (q, add-sub_cancel_left i (run_length (drop i l))) left_face

  pub step_face : (e : ℕ) → e ≡ i + run_length (drop i l) → Face_at i (i + length (take (e - i) (drop i l))) (e + 1) ≡ step_at l i
  step_face e q = rw (q, add-sub_cancel_left i (run_length (drop i l)), runs_split, run_long) refl

pub left_done : (l : List ℤ) (i : ℕ) → length l ≤ i → faces_from i (runs (drop i l)) ≡ []
left_done l i h = rw (drop_of_length-le l h)

-- calls of the cursor give the faces that are left
pub cursor_yields : (s : Cursor) (fs : List Face) → faces_left s ≡ fs → YieldsList StepMade face_seen s fs
cursor_yields s fs e = subst (YieldsList StepMade face_seen s) e (YieldsList-from_shown StepMade face_seen faces_left (λ t u h. ap length h.yields.0) (λ t x u h. h.yields) s)

-- the face f stands in the list l
pub record Within (l : List ℤ) (f : Face) : Type 0 where
  pub start : f.start < length l
  pub end : f.start + length f.entries ≤ length l
  pub part : take (length f.entries) (drop f.start l) ≡ f.entries
  pub no_end : NoEnd f.entries

abbrev pub AllWithin : List ℤ → List Face → Type 0
AllWithin l [] = Unit {0}
AllWithin l (f ∷ fs) = Within l f × AllWithin l fs

within_here : (l : List ℤ) (i : ℕ) → i < length l → Within l (record { start = i; entries = take (run_length (drop i l)) (drop i l) })
within_here l i h =
    record {
      start = h;
      end = rw (run_long l i h) (run_inside l i h);
      part = rw (run_long l i h);
      no_end = λ j q. ap is_end (get_or-take (run_length (drop i l)) (drop i l) j (pos 0) (rw (run_long l i h) at q)) ∙ first_before is_end (drop i l) j (rw (run_long l i h) at q);
    }

-- so does each of the faces from a position on; at most n entries are behind it
within_from : (n : ℕ) (l : List ℤ) (i : ℕ) → length l ≤ i + n → AllWithin l (faces_from i (runs (drop i l)))
within_from zero l i h = subst⁻¹ (AllWithin l) (left_done l i (omega arith)) tt
within_from (suc n) l i h = go (within_from n l) (dec_lt i (length l))
  where
    go : ((j : ℕ) → length l ≤ j + n → AllWithin l (faces_from j (runs (drop j l)))) → Dec (i < length l) → AllWithin l (faces_from i (runs (drop i l)))
    go rest (yes q) =
        subst⁻¹ (AllWithin l) (left_face l i q) (within_here l i q, rest (i + run_length (drop i l) + 1) (omega arith))
    go rest (no q) = subst⁻¹ (AllWithin l) (left_done l i (omega arith)) tt

pub all_within : (l : List ℤ) → AllWithin l (faces l)
all_within l = within_from (length l) l 0 (omega arith)
