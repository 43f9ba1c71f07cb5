-- Lists with -1 at the same positions have faces of the same lengths, and so the same next corners. A list numbered afresh is valid
-- where corners of one label lie on one vertex.
--
--   lengths rs      the lengths of the faces rs
--   offset ms k     the number of corners before face k, where the faces have ms corners
use Prim.Native.Nat.{ℕ, zero, suc, ◌+◌, ◌≤◌, ◌<◌}
use mathlib.Core.Path.{◌≡◌, refl, sym, ◌∙◌, ap}
use mathlib.Core.Bool.{Bool, true, false, cond}
use mathlib.Core.List.{List, [], ◌∷◌, map}
use native.Mathlib.Nat.{zero-add, add_assoc}
use native.Mathlib.Omega.{arith}
use lib.IntN.{ℤ, pos}
use lib.ListN.{length, get_or, length-map, length-append, get_or-map, get_or-append}
use lib.Seq.{get_or-append-add}
use Rattle.list.specs.Faces.{is_end, push, runs, corners, num, vertices}
use Rattle.list.specs.Check.{ValidFace, Valid}
use Rattle.list.proofs.Checking.{corners_fit}
use Rattle.order.proofs.Lists.{map-append}
use Rattle.edges.specs.Uses.{Use, uses_to_end, uses_of_face, uses_from, uses, no_use}
use Rattle.edges.specs.Table.{next_words}
use Rattle.edges.proofs.Uses.{joined, corners_joined}
use Rattle.groups.specs.Distinct.{distinct}
use Rattle.renumber.proofs.Sizes.{new_list_length}
use Rattle.renumber.specs.Renumber.{new_numbers, new_list_of, new_vertices}
use Rattle.demands.specs.Renumbered.{Corner, ends}
use Rattle.demands.proofs.Distinct.{different_fit, distinct_different, distinct_of}
use Rattle.demands.proofs.Numbering.{new_ends, new_entry, number_below, same_label, Refines}
use Rattle.demands.proofs.Corners.{next}

abbrev pub lengths : List (List ℤ) → List ℕ
lengths rs = map (λ (r : List ℤ). length r) rs

-- the lengths after one more corner in front
lengthened : List ℕ → List ℕ
lengthened [] = 1 ∷ []
lengthened (m ∷ ms) = suc m ∷ ms

push_lengths : (x : ℤ) (rs : List (List ℤ)) → lengths (push x rs) ≡ lengthened (lengths rs)
unfolding lengthened
push_lengths x [] = refl
push_lengths x (r ∷ rs) = refl

pub same_lengths : (l k : List ℤ) → ends l ≡ ends k → lengths (runs l) ≡ lengths (runs k)
same_lengths [] [] e = refl
same_lengths [] (y ∷ ys) e = cc
same_lengths (x ∷ xs) [] e = cc
same_lengths (x ∷ xs) (y ∷ ys) e =
    let first : is_end x ≡ is_end y = cc in
    let rest : ends xs ≡ ends ys = cc in
    rw first (go (is_end y) (same_lengths xs ys rest))
  where
    go : (b : Bool) → lengths (runs xs) ≡ lengths (runs ys) → lengths (cond b ([] ∷ runs xs) (push x (runs xs))) ≡ lengths (cond b ([] ∷ runs ys) (push y (runs ys)))
    go true ih = ap (λ (ms : List ℕ). 0 ∷ ms) ih
    go false ih = push_lengths x (runs xs) ∙ ap lengthened ih ∙ sym (push_lengths y (runs ys))

nexts_to_end : (c₀ v₀ w₀ c v w : ℕ) (vs ws : List ℕ) → length vs ≡ length ws → next_words (uses_to_end c₀ v₀ c v vs) ≡ next_words (uses_to_end c₀ w₀ c w ws)
nexts_to_end c₀ v₀ w₀ c v w [] [] e = refl
nexts_to_end c₀ v₀ w₀ c v w [] (x ∷ xs) e = absurd (omega arith)
nexts_to_end c₀ v₀ w₀ c v w (x ∷ xs) [] e = absurd (omega arith)
nexts_to_end c₀ v₀ w₀ c v w (x ∷ xs) (y ∷ ys) e = ap (λ (ms : List ℕ). (c + 1) ∷ ms) (nexts_to_end c₀ v₀ w₀ (c + 1) x y xs ys (omega arith))

nexts_face : (c : ℕ) (vs ws : List ℕ) → length vs ≡ length ws → next_words (uses_of_face c vs) ≡ next_words (uses_of_face c ws)
nexts_face c [] [] e = refl
nexts_face c [] (w ∷ ws) e = absurd (omega arith)
nexts_face c (v ∷ vs) [] e = absurd (omega arith)
nexts_face c (v ∷ vs) (w ∷ ws) e = nexts_to_end c v w c v w vs ws (omega arith)

nexts_runs : (c : ℕ) (rs qs : List (List ℤ)) → lengths rs ≡ lengths qs → next_words (uses_from c rs) ≡ next_words (uses_from c qs)
nexts_runs c [] [] e = refl
nexts_runs c [] (q ∷ qs) e = cc
nexts_runs c (r ∷ rs) [] e = cc
nexts_runs c (r ∷ rs) (q ∷ qs) e =
    let first : length r ≡ length q = cc in
    let rest : lengths rs ≡ lengths qs = cc in
    map-append (λ (u : Use). u.next) (uses_of_face c (vertices r)) (uses_from (c + length r) rs) ∙
    rw (nexts_face c (vertices r) (vertices q) (length-map r num ∙ first ∙ sym (length-map q num)), first, nexts_runs (c + length q) rs qs rest)
    (sym (map-append (λ (u : Use). u.next) (uses_of_face c (vertices q)) (uses_from (c + length q) qs)))

-- lists with -1 at the same positions have the same next corners
pub same_next : (l k : List ℤ) → ends l ≡ ends k → (e : ℕ) → next l e ≡ next k e
same_next l k p e =
    sym (get_or-map (λ (u : Use). u.next) (uses l) e no_use) ∙
    ap (λ (ms : List ℕ). get_or ms e 0) (nexts_runs 0 (runs l) (runs k) (same_lengths l k p)) ∙
    get_or-map (λ (u : Use). u.next) (uses k) e no_use

abbrev pub offset : List ℕ → ℕ → ℕ
offset [] k = 0
offset (m ∷ ms) zero = 0
offset (m ∷ ms) (suc k) = m + offset ms k

face_length : (rs : List (List ℤ)) (k : ℕ) → length (get_or rs k []) ≡ get_or (lengths rs) k 0
face_length rs k = sym (get_or-map (λ (r : List ℤ). length r) rs k [])

-- the entries of face k are the corners from its offset on
face_corners : (rs : List (List ℤ)) (k i : ℕ) → k < length rs → i < length (get_or rs k []) → (offset (lengths rs) k + i < length (joined rs)) × (get_or (joined rs) (offset (lengths rs) k + i) (pos 0) ≡ get_or (get_or rs k []) i (pos 0))
face_corners [] k i h b = absurd (omega arith)
face_corners (r ∷ rs) zero i h b = rw zero-add (omega (arith, length-append r (joined rs)), get_or-append r (joined rs) (pos 0) i b)
face_corners (r ∷ rs) (suc k) i h b =
    let ih = face_corners rs k i (omega arith) b in
    rw add_assoc (omega (arith, ih.0, length-append r (joined rs)), get_or-append-add r (joined rs) (offset (lengths rs) k + i) (pos 0) ∙ ih.1)

module _ (l : List ℤ) (n : ℕ) (v : Valid l n) (labels : List ℕ) (same : length labels ≡ length (corners l)) where
  abbrev new : List ℤ
  new = new_list_of l labels

  new_lengths : lengths (runs new) ≡ lengths (runs l)
  new_lengths = same_lengths new l (new_ends l labels same)

  pub new_few : new_vertices labels ≤ length (corners l)
  new_few = omega (arith, different_fit (distinct labels) labels (distinct_different labels) (λ x i. distinct_of x labels i))

  module _ (k : ℕ) (h : k < length (runs new)) where
    h' : k < length (runs l)
    h' = omega (arith, length-map (runs new) (λ (r : List ℤ). length r), length-map (runs l) (λ (r : List ℤ). length r), ap length new_lengths)

    as_long : length (get_or (runs new) k []) ≡ length (get_or (runs l) k [])
    as_long = face_length (runs new) k ∙ ap (λ (ms : List ℕ). get_or ms k 0) new_lengths ∙ sym (face_length (runs l) k)

    -- the corner at place i of the face
    abbrev place : ℕ → ℕ
    place i = offset (lengths (runs l)) k + i

    module _ (i : ℕ) (b : i < length (get_or (runs new) k [])) where
      old_entry : get_or (corners l) (place i) (pos 0) ≡ get_or (get_or (runs l) k []) i (pos 0)
      old_entry = rw (corners_joined l) (face_corners (runs l) k i h' (omega (arith, as_long))).1

      place_below : Corner l (place i)
      place_below = rw (corners_joined l) (face_corners (runs l) k i h' (omega (arith, as_long))).0

      new_at : get_or (get_or (runs new) k []) i (pos 0) ≡ pos (get_or (new_numbers labels) (place i) 0)
      new_at =
          sym (face_corners (runs new) k i h b).1 ∙
          rw (new_lengths, ← corners_joined new) (new_entry l labels same (place i))

    face_valid : Refines l labels same → ValidFace (new_vertices labels) (get_or (runs new) k [])
    face_valid refines = record {
      long = omega (arith, as_long, (v.each_face k h').long);
      inside = λ i b. (get_or (new_numbers labels) (place i) 0, new_at i b, number_below labels (place i) (omega (arith, place_below i b)));
      different = λ i j i<j b e.
          let a : i < length (get_or (runs new) k []) = omega arith in
          let numbers : get_or (new_numbers labels) (place i) 0 ≡ get_or (new_numbers labels) (place j) 0 = cc (new_at i a, new_at j b) in
          let label = same_label labels (place i) (place j) (omega (arith, place_below i a)) (omega (arith, place_below j b)) numbers in
          (v.each_face k h').different i j i<j (omega (arith, as_long)) (sym (old_entry i a) ∙ refines (place i) (place j) (place_below i a) (place_below j b) label ∙ old_entry j b);
    }

  -- the list numbered afresh is valid
  pub new_valid : Refines l labels same → Valid new (new_vertices labels)
  new_valid refines = record {
    few_entries = rw (new_list_length l labels) v.few_entries;
    few_vertices = omega (arith, new_few, corners_fit l, v.few_entries);
    each_face = λ k h. face_valid k h refines;
  }
