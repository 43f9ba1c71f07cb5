-- Laws of the check's walk over the faces: where it starts, a turn over a sound face, a fault, the end.
use Prim.Native.Nat.{ℕ, zero, suc, ◌+◌, ◌≤◌, ◌<◌}
use mathlib.Core.Path.{◌≡◌, refl, sym, ◌∙◌, ap, ap₂, subst⁻¹}
use mathlib.Core.Bool.{Bool, true, false, cond}
use mathlib.Core.List.{List, [], ◌∷◌}
use native.Mathlib.Omega.{arith}
use native.Mathlib.Decide.{dec_lt}
use borrow.Author.Tests.{lt-ltb, le-ltb}
use lib.IntN.{ℤ}
use lib.ListN.{length, drop, replicate, length-replicate, drop_of_length-le}
use lib.Seq.{drop-drop}
use Rattle.list.specs.Faces.{Face, is_end, runs, push, faces_from, faces, corners, run_length}
use Rattle.list.specs.Check.{CheckAnswer, face_fault, by_fault, check_faces, check_of, accepted, refused}
use Rattle.list.specs.Limits.{max_entries, max_vertices}
use Rattle.list.specs.Flags.{Flags}
use Rattle.list.specs.declared.rules.FaceFault.{FaceFault}
use Rattle.std.specs.Prelude.{Result, Ok, Err}
use Rattle.list.proofs.Faults.{fault_fits, place_in}
use Rattle.list.proofs.Runs.{Within, AllWithin, all_within, left_face, run_long}

pub faces_long : (s : ℕ) (rs : List (List ℤ)) → length (faces_from s rs) ≡ length rs
faces_long s [] = refl
faces_long s (r ∷ rs) = ap suc (faces_long (s + length r + 1) rs)

push_long : (x : ℤ) (rs : List (List ℤ)) → length (push x rs) ≤ suc (length rs)
push_long x [] = omega arith
push_long x (r ∷ rs) = omega arith

pub runs_fit : (l : List ℤ) → length (runs l) ≤ length l
runs_fit [] = omega arith
runs_fit (x ∷ xs) = go (is_end x) (runs_fit xs)
  where
    go : (b : Bool) → length (runs xs) ≤ length xs → length (cond b ([] ∷ runs xs) (push x (runs xs))) ≤ suc (length xs)
    go true h = omega arith
    go false h = omega (arith, push_long x (runs xs))

pub corners_fit : (l : List ℤ) → length (corners l) ≤ length l
corners_fit [] = omega arith
corners_fit (x ∷ xs) = go (is_end x) (corners_fit xs)
  where
    go : (b : Bool) → length (corners xs) ≤ length xs → length (cond b (corners xs) (x ∷ corners xs)) ≤ suc (length xs)
    go true h = omega arith
    go false h = omega arith

-- the corners of a list are those of its first run, then those behind the -1 that ends it
corners_first : (l : List ℤ) → length (corners l) ≡ run_length l + length (corners (drop (suc (run_length l)) l))
corners_first [] = refl
corners_first (x ∷ xs) = go (is_end x) refl (corners_first xs)
  where
    go : (b : Bool) → is_end x ≡ b → length (corners xs) ≡ run_length xs + length (corners (drop (suc (run_length xs)) xs)) → length (corners (x ∷ xs)) ≡ run_length (x ∷ xs) + length (corners (drop (suc (run_length (x ∷ xs))) (x ∷ xs)))
    go true e ih = rw e (omega arith)
    go false e ih = rw e (omega arith)

-- how many corners the faces have
abbrev pub cornered : List Face → ℕ
cornered [] = 0
cornered (f ∷ fs) = length f.entries + cornered fs

-- the corners from a position on are those of the faces there
corners_from : (n : ℕ) (l : List ℤ) (i : ℕ) → length l ≤ i + n → length (corners (drop i l)) ≡ cornered (faces_from i (runs (drop i l)))
corners_from zero l i h = rw (drop_of_length-le l {i = i} (omega arith))
corners_from (suc n) l i h = go (corners_from n l) (dec_lt i (length l))
  where
    go : ((j : ℕ) → length l ≤ j + n → length (corners (drop j l)) ≡ cornered (faces_from j (runs (drop j l)))) → Dec (i < length l) → length (corners (drop i l)) ≡ cornered (faces_from i (runs (drop i l)))
    go rest (yes q) =
        let n : ℕ = run_length (drop i l) in
        let behind : i + suc n ≡ i + n + 1 = omega arith in
        let here : length (corners (drop i l)) ≡ n + length (corners (drop (i + n + 1) l)) = corners_first (drop i l) ∙ ap (λ k. n + length (corners k)) (drop-drop (suc n) i l ∙ ap (λ k. drop k l) behind) in
        rw (left_face l i q, run_long l i q) (here ∙ ap (λ k. n + k) (rest (i + n + 1) (omega arith)))
    go rest (no q) = rw (drop_of_length-le l {i = i} (omega arith))

pub corners_counted : (l : List ℤ) → length (corners l) ≡ cornered (faces l)
corners_counted l = corners_from (length l) l 0 (omega arith)

-- the answer where no face of l has a fault
abbrev pub sound : List ℤ → CheckAnswer
sound l = accepted (length (faces l)) (length (corners l))

-- the faces passed are sound and counted: those left decide, and make up the counts
pub record Checking (l : List ℤ) (n count passed : ℕ) (left : List Face) : Type 0 where
  pub answer : check_faces n left (sound l) ≡ check_faces n (faces l) (sound l)
  pub counted : count + length left ≡ length (faces l)
  pub cornered_is : passed + cornered left ≡ length (corners l)
  pub within : AllWithin l left

pub checking_start : (l : List ℤ) {n : ℕ} {left : List Face} → left ≡ faces l → Checking l n 0 0 left
checking_start l {n = n} e =
    subst⁻¹ (Checking l n 0 0) e (record { answer = refl; counted = omega arith; cornered_is = omega (arith, corners_counted l); within = all_within l })

pub checking_done : {l : List ℤ} {n count passed : ℕ} {left : List Face} → left ≡ [] → Checking l n count passed left → accepted count passed ≡ check_faces n (faces l) (sound l)
unfolding check_faces
checking_done e k =
    ap₂ accepted (omega (arith, rw e at k.counted)) (omega (arith, rw e at k.cornered_is))
    ∙ (rw e at k.answer)

module _ {l : List ℤ} {n count passed : ℕ} {left : List Face} {face : Face} {rest : List Face} (e : left ≡ face ∷ rest) (k : Checking l n count passed left) where
  pub checking_within : Within l face
  checking_within = (rw e at k.within).0

  -- the fault of the face at hand decides, or the rest does
  checking_face : {f : Result (Unit {0}) FaceFault} → f ≡ face_fault n face.entries → by_fault face.start f (check_faces n rest (sound l)) ≡ check_faces n (faces l) (sound l)
  unfolding check_faces
  checking_face q = rw q (rw e at k.answer)

  -- a fault y that is told as x
  pub checking_fault : {x y : FaceFault} → x ≡ y → Err x ≡ face_fault n face.entries → by_fault face.start (Err y) (check_faces n rest (sound l)) ≡ check_faces n (faces l) (sound l)
  checking_fault d q = checking_face (ap Err (sym d) ∙ q)

  -- its place is one of the list, or its end
  pub checking_place : {x y : FaceFault} → x ≡ y → Err x ≡ face_fault n face.entries → face.start + place_in (Err y) ≤ length l
  checking_place d q =
      omega (arith, checking_within.end, fault_fits n face.entries, ap place_in (ap Err (sym d) ∙ q))

  pub checking_turn : Ok tt ≡ face_fault n face.entries → Checking l n (count + 1) (passed + length face.entries) rest
  checking_turn q =
      record {
        answer = checking_face q;
        counted = omega (arith, rw e at k.counted);
        cornered_is = omega (arith, rw e at k.cornered_is);
        within = (rw e at k.within).1;
      }

  pub checking_fits : (count + 1 ≤ length l) × (passed + length face.entries ≤ length l)
  checking_fits =
      (omega (arith, rw e at k.counted, faces_long 0 (runs l), runs_fit l), omega (arith, rw e at k.cornered_is, corners_fit l))

-- the limits are looked at first
module _ (l : List ℤ) (n : ℕ) where
  pub check_entries : max_entries < length l → refused 1 0 ≡ check_of l n
  unfolding check_of
  check_entries h = rw (lt-ltb max_entries (length l) h)

  module _ (few : length l ≤ max_entries) where
    pub check_vertices : max_vertices < n → refused 2 0 ≡ check_of l n
    unfolding check_of
    check_vertices h = rw (le-ltb max_entries (length l) few, lt-ltb max_vertices n h)

    pub check_faces_lem : n ≤ max_vertices → check_faces n (faces l) (sound l) ≡ check_of l n
    unfolding check_of
    check_faces_lem h = rw (le-ltb max_entries (length l) few, le-ltb max_vertices n h)

pub flags_new : (n m : ℕ) → n ≤ m → 0 < m → Flags n (replicate m 0)
flags_new n m h s = (record { each = rw length-replicate h; some = rw length-replicate s; zeros = rw length-replicate })

-- each outcome of the check
pub ruleset check_cases = (check_entries, check_vertices, check_faces_lem, flags_new)
