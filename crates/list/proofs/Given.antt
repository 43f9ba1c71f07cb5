-- The check's answer is the one that the code table gives: each code with its place *exactly when* its row says.
use Prim.Native.Nat.{ℕ, zero, suc, ◌+◌, ◌<◌}
use mathlib.Core.Path.{◌≡◌, refl, sym, ◌∙◌, ap, subst, subst₂}
use mathlib.Core.Bool.{Bool, true, false, cond}
use mathlib.Core.List.{List, [], ◌∷◌}
use mathlib.Core.Logic.{◌↔◌}
use native.Mathlib.Omega.{arith}
use native.Mathlib.Decide.{dec_lt}
use lib.IntN.{ℤ, pos}
use lib.ListN.{length, get_or}
use Rattle.list.specs.Limits.{max_entries, max_vertices}
use Rattle.list.specs.Faces.{is_end, runs, push, Face, faces_from, faces, corners}
use Rattle.list.specs.Check.{CheckAnswer, ValidFace, Valid, face_fault, by_fault, check_faces, check_of, refused, accepted}
use Rattle.list.specs.Codes.{run, start_of, Within, FirstFaulty, Row}
use Rattle.list.specs.Show.{span_in}
use Rattle.std.specs.Prelude.{Result, Ok, Err}
use Rattle.list.specs.declared.rules.FaceFault.{FaceFault}
use Rattle.list.specs.declared.rules.FaceFault.TheVariants as Fault·
use Rattle.list.proofs.Facewise.{FaceSaid, out, few, twice, fine, face_said, face_only}
use Rattle.list.proofs.Checking.{sound, check_entries, check_vertices, check_faces_lem}

-- no entry of a run is -1
Clean : List (List ℤ) → Type 0
Clean rs = (k i : ℕ) → k < length rs → i < length (get_or rs k []) → is_end (get_or (get_or rs k []) i (pos 0)) ≡ false

clean_end : (rs : List (List ℤ)) → Clean rs → Clean ([] ∷ rs)
unfolding Clean
clean_end rs c zero i h q = absurd (omega arith)
clean_end rs c (suc k) i h q = c k i (omega arith) q

clean_push : (x : ℤ) (rs : List (List ℤ)) → is_end x ≡ false → Clean rs → Clean (push x rs)
unfolding Clean
clean_push x [] e c zero zero h q = e
clean_push x [] e c zero (suc i) h q = absurd (omega arith)
clean_push x [] e c (suc k) i h q = absurd (omega arith)
clean_push x (r ∷ rs) e c zero zero h q = e
clean_push x (r ∷ rs) e c zero (suc i) h q = c zero i (omega arith) (omega arith)
clean_push x (r ∷ rs) e c (suc k) i h q = c (suc k) i h q

runs_clean : (l : List ℤ) → Clean (runs l)
runs_clean [] = unfold Clean in λ k i h q. absurd (omega arith)
runs_clean (x ∷ xs) = go (is_end x) refl (runs_clean xs)
  where
    go : (b : Bool) → is_end x ≡ b → Clean (runs xs) → Clean (cond b ([] ∷ runs xs) (push x (runs xs)))
    go true e c = clean_end (runs xs) c
    go false e c = clean_push x (runs xs) e c

pub run_clean : (l : List ℤ) (k i : ℕ) → k < length (runs l) → i < length (run l k) → is_end (get_or (run l k) i (pos 0)) ≡ false
unfolding Clean
run_clean l = runs_clean l

module _ (n : ℕ) where
  -- the runs before k have no fault
  SoundBefore : List (List ℤ) → ℕ → Type 0
  SoundBefore rs k = (j : ℕ) → j < k → face_fault n (get_or rs j []) ≡ Ok tt

  data Searched (rs : List (List ℤ)) : Type 0 where
    no_fault : SoundBefore rs (length rs) → Searched rs
    fault_at : (k : ℕ) → k < length rs → SoundBefore rs k → (face_fault n (get_or rs k []) ≡ Ok tt → ⊥) → Searched rs

  sound_cons : (r : List ℤ) (rs : List (List ℤ)) (k : ℕ) → face_fault n r ≡ Ok tt → SoundBefore rs k → SoundBefore (r ∷ rs) (suc k)
  unfolding SoundBefore
  sound_cons r rs k e b zero h = e
  sound_cons r rs k e b (suc j) h = b j (omega arith)

  search_fault : (rs : List (List ℤ)) → Searched rs
  search_fault [] = no_fault (unfold SoundBefore in λ j h. absurd (omega arith))
  search_fault (r ∷ rs) = go (face_fault n r) refl (search_fault rs)
    where
      first : (face_fault n r ≡ Ok tt → ⊥) → Searched (r ∷ rs)
      first d = fault_at 0 (omega arith) (unfold SoundBefore in λ j h. absurd (omega arith)) d

      later : face_fault n r ≡ Ok tt → Searched rs → Searched (r ∷ rs)
      later e (no_fault b) = no_fault (sound_cons r rs (length rs) e b)
      later e (fault_at k h b d) = fault_at (suc k) (omega arith) (sound_cons r rs k e b) d

      go : (f : Result (Unit {0}) FaceFault) → face_fault n r ≡ f → Searched rs → Searched (r ∷ rs)
      go (Ok _) e s = later e s
      go (Err (Fault·.Outside i)) e s = first (λ q. let z : ◌≡◌ {A = ℕ} 0 1 = cc in omega arith)
      go (Err Fault·.Short) e s = first (λ q. let z : ◌≡◌ {A = ℕ} 0 1 = cc in omega arith)
      go (Err (Fault·.Repeated i)) e s = first (λ q. let z : ◌≡◌ {A = ℕ} 0 1 = cc in omega arith)

  all_sound : (s : ℕ) (rs : List (List ℤ)) (ok : CheckAnswer) → SoundBefore rs (length rs) → check_faces n (faces_from s rs) ok ≡ ok
  unfolding SoundBefore check_faces
  all_sound s [] ok b = refl
  all_sound s (r ∷ rs) ok b = rw (b 0 (omega arith)) (all_sound (s + length r + 1) rs ok (λ j h. b (suc j) (omega arith)))

  -- the first fault decides
  decided : (s : ℕ) (rs : List (List ℤ)) (ok : CheckAnswer) (k : ℕ) (f : Result (Unit {0}) FaceFault) → k < length rs → SoundBefore rs k → face_fault n (get_or rs k []) ≡ f → (rest : CheckAnswer) × (check_faces n (faces_from s rs) ok ≡ by_fault (span_in (faces_from s rs) k).start f rest)
  unfolding SoundBefore check_faces
  decided s [] ok k f h b e = absurd (omega arith)
  decided s (r ∷ rs) ok zero f h b e = (check_faces n (faces_from (s + length r + 1) rs) ok, ap (λ (g : Result (Unit {0}) FaceFault). by_fault s g (check_faces n (faces_from (s + length r + 1) rs) ok)) e)
  decided s (r ∷ rs) ok (suc k) f h b e = rw (b 0 (omega arith)) (decided (s + length r + 1) rs ok k f (omega arith) (λ j q. b (suc j) (omega arith)) e)

module _ (l : List ℤ) (n : ℕ) where
  clean_at : (k : ℕ) → k < length (runs l) → (i : ℕ) → i < length (run l k) → is_end (get_or (run l k) i (pos 0)) ≡ false
  clean_at k h i = run_clean l k i h

  sound_valid : (r : List ℤ) (f : Result (Unit {0}) FaceFault) → FaceSaid n r f → f ≡ Ok tt → ValidFace n r
  sound_valid r f (out i h o first) e = let z : ◌≡◌ {A = ℕ} 0 1 = cc in absurd (omega arith)
  sound_valid r f (few none s) e = let z : ◌≡◌ {A = ℕ} 0 1 = cc in absurd (omega arith)
  sound_valid r f (twice j none long h a first) e = let z : ◌≡◌ {A = ℕ} 0 1 = cc in absurd (omega arith)
  sound_valid r f (fine v) e = v

  -- a face without fault is valid, and the other way round
  pub face_valid : (k : ℕ) → k < length (runs l) → face_fault n (run l k) ≡ Ok tt → ValidFace n (run l k)
  face_valid k h e = sound_valid (run l k) (face_fault n (run l k)) (face_said n (run l k) (clean_at k h)) e

  pub valid_face : (k : ℕ) → k < length (runs l) → ValidFace n (run l k) → face_fault n (run l k) ≡ Ok tt
  valid_face k h v = face_only n (run l k) (clean_at k h) (Ok tt) (fine v)

  faulty_at : (k : ℕ) → k < length (runs l) → SoundBefore n (runs l) k → FirstFaulty l n k
  unfolding SoundBefore
  faulty_at k h b = record { there = h; earlier = λ j q. face_valid j (omega arith) (b j q) }

  sound_at : (k : ℕ) → FirstFaulty l n k → SoundBefore n (runs l) k
  unfolding SoundBefore
  sound_at k f j q = valid_face j (omega (arith, f.there)) (f.earlier j q)

  RowOf : CheckAnswer → Type 0
  RowOf a = Row l n a.code a.place

  row_at : Within l n → (k : ℕ) → k < length (runs l) → SoundBefore n (runs l) k → (f : Result (Unit {0}) FaceFault) → (f ≡ Ok tt → ⊥) → FaceSaid n (run l k) f → (rest : CheckAnswer) → RowOf (by_fault (start_of l k) f rest)
  unfolding RowOf
  row_at w k h b f d (out i q o first) rest =
      (w, record { face = k; faulty = faulty_at k h b; place = i; inside = q; out = o; first = first; position = refl })
  row_at w k h b f d (few none s) rest = (w, record { face = k; faulty = faulty_at k h b; none_out = none; short = s; position = refl })
  row_at w k h b f d (twice j none long q a first) rest =
      (w, record { face = k; faulty = faulty_at k h b; none_out = none; long = long; place = j; inside = q; again = a; first = first; position = refl })
  row_at w k h b f d (fine v) rest = absurd (d refl)

  row_within : Within l n → Searched n (runs l) → RowOf (check_of l n)
  unfolding RowOf SoundBefore
  row_within w (no_fault b) =
      subst RowOf (sym (all_sound n 0 (runs l) (sound l) b) ∙ check_faces_lem l n w.few_entries w.few_vertices)
      (record { few_entries = w.few_entries; few_vertices = w.few_vertices; each_face = λ k h. face_valid k h (b k h) }, refl)
  row_within w (fault_at k h b d) =
      let e = decided n 0 (runs l) (sound l) k (face_fault n (run l k)) h b refl in
      subst RowOf (sym e.1 ∙ check_faces_lem l n w.few_entries w.few_vertices)
      (row_at w k h b (face_fault n (run l k)) d (face_said n (run l k) (clean_at k h)) e.0)

  -- the answer has a row of the table
  pub code_row : Row l n (check_of l n).code (check_of l n).place
  unfolding RowOf
  code_row = go (dec_lt max_entries (length l)) (dec_lt max_vertices n)
    where
      go : Dec (max_entries < length l) → Dec (max_vertices < n) → RowOf (check_of l n)
      go (yes h) d = subst RowOf (check_entries l n h) (h, refl)
      go (no h) (yes q) = subst RowOf (check_vertices l n (omega arith) q) (omega arith, q, refl)
      go (no h) (no q) = row_within (record { few_entries = omega arith; few_vertices = omega arith }) (search_fault n (runs l))

  Answers : CheckAnswer → ℕ → ℕ → Type 0
  Answers a c p = (a.code ≡ c) × (a.place ≡ p)

  answers_at : Within l n → (k : ℕ) → FirstFaulty l n k → (f : Result (Unit {0}) FaceFault) → FaceSaid n (run l k) f → (c p : ℕ) → ((rest : CheckAnswer) → Answers (by_fault (start_of l k) f rest) c p) → Answers (check_of l n) c p
  answers_at w k q f s c p given =
      let e = decided n 0 (runs l) (sound l) k f q.there (sound_at k q) (face_only n (run l k) (clean_at k q.there) f s) in
      subst (λ (a : CheckAnswer). Answers a c p) (sym e.1 ∙ check_faces_lem l n w.few_entries w.few_vertices) (given e.0)

  -- a row of the table has the answer
  pub row_code : (c p : ℕ) → Row l n c p → ((check_of l n).code ≡ c) × ((check_of l n).place ≡ p)
  unfolding Answers SoundBefore
  row_code zero p r =
      let v = r.0 in
      subst (λ (a : CheckAnswer). Answers a 0 p)
      (sym (all_sound n 0 (runs l) (sound l) (λ k h. valid_face k h (v.each_face k h))) ∙ check_faces_lem l n v.few_entries v.few_vertices)
      (refl, sym r.1)
  row_code (suc zero) p r = subst (λ (a : CheckAnswer). Answers a 1 p) (check_entries l n r.0) (refl, sym r.1)
  row_code (suc (suc zero)) p r = subst (λ (a : CheckAnswer). Answers a 2 p) (check_vertices l n r.0 r.1) (refl, sym r.2)
  row_code (suc (suc (suc zero))) p r =
      let s = r.1 in
      answers_at r.0 s.face s.faulty (Err (Fault·.Outside s.place)) (out s.place s.inside s.out s.first) 3 p (λ rest. (refl, sym s.position))
  row_code (suc (suc (suc (suc zero)))) p r =
      let s = r.1 in
      answers_at r.0 s.face s.faulty (Err Fault·.Short) (few s.none_out s.short) 4 p (λ rest. (refl, sym s.position))
  row_code (suc (suc (suc (suc (suc zero))))) p r =
      let s = r.1 in
      answers_at r.0 s.face s.faulty (Err (Fault·.Repeated s.place)) (twice s.place s.none_out s.long s.inside s.again s.first) 5 p (λ rest. (refl, sym s.position))
  row_code (suc (suc (suc (suc (suc (suc c)))))) p r = absurd r

  -- a code is given with its place exactly when its row of the table says so
  pub given_exactly_when : (c p : ℕ) → (((check_of l n).code ≡ c) × ((check_of l n).place ≡ p)) ↔ Row l n c p
  given_exactly_when c p = ((λ e. subst₂ (Row l n) e.0 e.1 code_row), row_code c p)

  -- code 0 is given exactly when the list is valid
  pub accepted_exactly_when : ((check_of l n).code ≡ 0) ↔ Valid l n
  accepted_exactly_when =
      ((λ e. (subst (λ c. Row l n c (check_of l n).place) e code_row).0), (λ v. (row_code 0 0 (v, refl)).0))

-- an answer is the one of a sound list, or a refusal with all counts 0
data Counted (l : List ℤ) : CheckAnswer → Type 0 where
  all : Counted l (sound l)
  zeros : (c p : ℕ) → Counted l (refused (suc c) p)

counted_faces : (l : List ℤ) (n : ℕ) (fs : List Face) → Counted l (check_faces n fs (sound l))
unfolding check_faces
counted_faces l n [] = all
counted_faces l n (f ∷ fs) = go (face_fault n f.entries) (counted_faces l n fs)
  where
    go : (g : Result (Unit {0}) FaceFault) → Counted l (check_faces n fs (sound l)) → Counted l (by_fault f.start g (check_faces n fs (sound l)))
    go (Ok _) c = c
    go (Err (Fault·.Outside i)) c = zeros 2 (f.start + i)
    go (Err Fault·.Short) c = zeros 3 f.start
    go (Err (Fault·.Repeated i)) c = zeros 4 (f.start + i)

counted : (l : List ℤ) (n : ℕ) → Counted l (check_of l n)
counted l n = go (dec_lt max_entries (length l)) (dec_lt max_vertices n)
  where
    go : Dec (max_entries < length l) → Dec (max_vertices < n) → Counted l (check_of l n)
    go (yes h) d = subst (Counted l) (check_entries l n h) (zeros 0 0)
    go (no h) (yes q) = subst (Counted l) (check_vertices l n (omega arith) q) (zeros 1 0)
    go (no h) (no q) = subst (Counted l) (check_faces_lem l n (omega arith) (omega arith)) (counted_faces l n (faces l))

-- accepted: place 0, and the numbers of faces and corners
pub accepted_counts : (l : List ℤ) (n : ℕ) → (check_of l n).code ≡ 0 → check_of l n ≡ accepted (length (faces l)) (length (corners l))
accepted_counts l n = go (check_of l n) (counted l n)
  where
    go : (a : CheckAnswer) → Counted l a → a.code ≡ 0 → a ≡ sound l
    go a all e = refl
    go a (zeros c p) e = absurd (omega arith)

-- refused: all else is 0
pub refused_zeros : (l : List ℤ) (n : ℕ) → ((check_of l n).code ≡ 0 → ⊥) → ((check_of l n).faces ≡ 0) × ((check_of l n).corners ≡ 0)
refused_zeros l n = go (check_of l n) (counted l n)
  where
    go : (a : CheckAnswer) → Counted l a → (a.code ≡ 0 → ⊥) → (a.faces ≡ 0) × (a.corners ≡ 0)
    go a all d = absurd (d refl)
    go a (zeros c p) d = (refl, refl)
