-- The final marks are the classes: a vertex has as many fans as roots, and the words of the edge table tell the kind of an edge.
use Prim.Native.Nat.{ℕ, zero, suc, ◌+◌, ◌*◌, ◌≤◌, ◌<◌}
use mathlib.Core.Path.{◌≡◌, refl, sym, ◌∙◌, ap}
use mathlib.Core.Bool.{Bool, true, false, cond, ◌&&◌, true≢false}
use mathlib.Core.List.{List, [], ◌∷◌}
use native.Mathlib.Nat.{zero-add, add-zero, add-suc, suc-add}
use native.Mathlib.Omega.{arith}
use borrow.Author.Tests.{eqb-true, eqb-false, eq-eqb, ne_eqb, leb-true, le-leb, lt-ltb}
use lib.Dec.{leb, ltb, eqb}
use lib.IntN.{ℤ}
use lib.ListN.{length, get_or, take, drop, length-map, drop_of_length-le}
use lib.Seq.{drop-cons, ext_get_or}
use Rattle.order.specs.Choose.{up_from}
use Rattle.order.proofs.Lists.{all_in, choose_some, choose_none, choose_same, get_or-mapped, length-up_from, get_or-up_from, in_up_from, up_from_in}
use Rattle.mates.specs.Mates.{mate_word}
use Rattle.edges.specs.Uses.{Use, uses, is_boundary, is_singular, use_at, no_use}
use Rattle.edges.specs.Table.{table_of}
use Rattle.edges.proofs.Uses.{next_below, to_next}
use Rattle.edges.proofs.Mates.{word, faces_at, mate_alone, mate_many, word_alone, word_many}
use Rattle.edges.proofs.Table.{table_next, table_vertex, table_mate}
use Rattle.groups.specs.Groups.{up_to, fan_labels}
use Rattle.groups.specs.Distinct.{distinct}
use Rattle.fans.specs.Classes.{touches, ends_edge_of, ends_edge, has_face, labels_at, fans_at, class_of, classes_of}
use Rattle.groups.specs.Forest.{at, Forest, Grouped}
use Rattle.fans.specs.Marks.{is_root_on, roots_on, fan_mark, touches_at, marks_end, boundary_word, singular_word, finished, final_mark}
use Rattle.groups.proofs.Counting.{word_kept}
use Rattle.groups.proofs.Roots.{forest_earliest, root_by_parent, roots_in, pick, distinct_roots}
use Rattle.groups.proofs.TableLinks.{fan_vertex}

-- the classes stand in the order of the vertices
module _ (l : List ℤ) (n : ℕ) where
  pub classes_length : length (classes_of l n) ≡ n
  unfolding classes_of
  classes_length = length-map (up_to n) (class_of l) ∙ length-up_from 0 n

  pub classes_at : (v : ℕ) → v < n → get_or (classes_of l n) v 0 ≡ class_of l v
  unfolding classes_of
  classes_at v h = get_or-mapped (class_of l) (up_to n) v 0 0 (rw length-up_from h) ∙ ap (class_of l) (get_or-up_from 0 n v 0 h ∙ zero-add v)

labels_pick : (v : ℕ) (q : ℕ → Bool) (us : List Use) (labels : List ℕ) (e : ℕ) → length us ≡ length labels → ((i : ℕ) → i < length us → q (e + i) ≡ eqb v (get_or us i no_use).from) → labels_at v us labels ≡ pick q e labels
labels_pick v q [] [] e n f = refl
labels_pick v q [] (x ∷ xs) e n f = absurd (omega arith)
labels_pick v q (u ∷ us) [] e n f = absurd (omega arith)
labels_pick v q (u ∷ us) (x ∷ xs) e n f =
    let here : q e ≡ eqb v u.from = rw add-zero at (f 0 (omega arith)) in
    rw (here, labels_pick v q us xs (suc e) (omega arith) (λ i h. rw (suc-add e i, ← add-suc e i) (f (suc i) (omega arith))))

-- a vertex with a face is the vertex of some corner, one without is the vertex of none
pub has_corner : (us : List Use) (v : ℕ) → has_face us v ≡ true → (i : ℕ) × (i < length us) × (v ≡ (get_or us i no_use).from)
has_corner [] v h = absurd (true≢false (sym h))
has_corner (u ∷ us) v h = go (eqb v u.from) refl (has_corner us v)
  where
    go : (t : Bool) → eqb v u.from ≡ t → (has_face us v ≡ true → (i : ℕ) × (i < length us) × (v ≡ (get_or us i no_use).from)) → (i : ℕ) × (i < suc (length us)) × (v ≡ (get_or (u ∷ us) i no_use).from)
    go true d ih = (0, omega arith, eqb-true v u.from d)
    go false d ih = let r = ih (rw d at h) in (suc r.0, omega (arith, r.1), r.2)

pub no_corner : (us : List Use) (v : ℕ) → has_face us v ≡ false → (i : ℕ) → i < length us → eqb v (get_or us i no_use).from ≡ false
no_corner [] v h i l = absurd (omega arith)
no_corner (u ∷ us) v h i l = go (eqb v u.from) refl (no_corner us v) i l
  where
    go : (t : Bool) → eqb v u.from ≡ t → (has_face us v ≡ false → (i : ℕ) → i < length us → eqb v (get_or us i no_use).from ≡ false) → (i : ℕ) → i < suc (length us) → eqb v (get_or (u ∷ us) i no_use).from ≡ false
    go true d ih i l = absurd (true≢false (rw d at h))
    go false d ih zero l = d
    go false d ih (suc i) l = ih (rw d at h) i (omega arith)

and-false : (t : Bool) → (t && false) ≡ false
and-false true = refl
and-false false = refl

finished_class : (k : ℕ) (s b : Bool) → finished (fan_mark (suc k)) s b ≡ cond s 3 (cond (ltb 1 (suc k)) 4 (cond b 2 1))
finished_class k true b = refl
finished_class zero false true = refl
finished_class zero false false = refl
finished_class (suc k) false true = rw (lt-ltb 1 (suc (suc k)) (omega arith))
finished_class (suc k) false false = rw (lt-ltb 1 (suc (suc k)) (omega arith))

module _ (l : List ℤ) (w : List ℕ) (front : take (3 * length (uses l)) w ≡ take (3 * length (uses l)) (table_of l)) (F : Forest w (3 * length (uses l)) (fan_labels l)) (size : length w ≡ 4 * length (uses l)) where
  abbrev c : ℕ
  c = length (uses l)

  kept : (i : ℕ) → i < 3 * c → at w i ≡ at (table_of l) i
  kept i h = word_kept (table_of l) w (3 * c) i front h

  fans_long : length (fan_labels l) ≡ c
  fans_long = omega (arith, F.long)

  next_word : (e : ℕ) → e < c → at w e ≡ (use_at l e).next
  next_word e h = kept e (omega arith) ∙ table_next l e h

  vertex_word : (e : ℕ) → e < c → at w (c + e) ≡ (use_at l e).from
  vertex_word e h = kept (c + e) (omega arith) ∙ table_vertex l e h

  mate_word_lem : (e : ℕ) → e < c → at w (2 * c + e) ≡ word l e
  mate_word_lem e h = kept (2 * c + e) (omega arith) ∙ table_mate l e h

  to_word : (e : ℕ) → e < c → at w (c + at w e) ≡ (use_at l e).to
  to_word e h = rw (next_word e h) (vertex_word (use_at l e).next (next_below l e h) ∙ sym (to_next l e h))

  -- roots

  abbrev on : ℕ → ℕ → Bool
  on v i = eqb v (use_at l i).from

  root_is : (i : ℕ) → i < c → leb i (at w (3 * c + i)) ≡ eqb (at (fan_labels l) i) i
  root_is i h = root_by_parent w (3 * c) (fan_labels l) F i (omega (arith, fans_long))

  roots_are : (v : ℕ) → roots_on w c v 0 c ≡ length (roots_in (on v) (fan_labels l) 0 c)
  roots_are v =
      ap length
      (choose_same (is_root_on w c v) (λ (i : ℕ). eqb (at (fan_labels l) i) i && on v i) (up_from 0 c)
      (all_in (λ (i : ℕ). is_root_on w c v i ≡ (eqb (at (fan_labels l) i) i && on v i)) (up_from 0 c) (λ i a. let h : i < c = omega (arith, up_from_in 0 c i a) in rw (root_is i h, vertex_word i h))))

  fans_are : (v : ℕ) → fans_at l v ≡ roots_on w c v 0 c
  unfolding fans_at
  fans_are v =
      ap (λ (xs : List ℕ). length (distinct xs)) (labels_pick v (on v) (uses l) (fan_labels l) 0 (sym fans_long) (λ i h. let z : 0 + i ≡ i = omega arith in rw z)) ∙
      ap length (distinct_roots (on v) (fan_labels l) (forest_earliest w (3 * c) (fan_labels l) F) (λ i h. ap (eqb v) (fan_vertex l i h))) ∙
      rw fans_long (sym (roots_are v))

  -- edges

  boundary_is : (e : ℕ) → e < c → boundary_word e (at w (2 * c + e)) ≡ is_boundary (faces_at l e)
  boundary_is e h = rw (mate_word_lem e h) (go (eqb (word l e) e) refl)
    where
      go : (t : Bool) → eqb (word l e) e ≡ t → t ≡ is_boundary (faces_at l e)
      go true q = sym (eq-eqb (faces_at l e) 1 ((mate_alone l e h).0 (word_alone l e h (eqb-true (word l e) e q))))
      go false q = sym (ne_eqb (faces_at l e) 1 (λ o. eqb-false (word l e) e q (ap (mate_word c e) ((mate_alone l e h).1 o))))

  singular_is : (e : ℕ) → e < c → singular_word c e (at w (2 * c + e)) ≡ is_singular (faces_at l e)
  singular_is e h = rw (mate_word_lem e h) (go (eqb (word l e) c) refl)
    where
      go : (t : Bool) → eqb (word l e) c ≡ t → t ≡ is_singular (faces_at l e)
      go true q = sym (le-leb 3 (faces_at l e) ((mate_many l e h).0 (word_many l e h (eqb-true (word l e) c q))))
      go false q = sym (few (leb 3 (faces_at l e)) refl)
        where
          few : (t : Bool) → leb 3 (faces_at l e) ≡ t → leb 3 (faces_at l e) ≡ false
          few true o = absurd (eqb-false (word l e) c q (ap (mate_word c e) ((mate_many l e h).1 (leb-true 3 (faces_at l e) o))))
          few false o = o

  touches_is : (v e : ℕ) → e < c → touches_at w c v e ≡ touches v (use_at l e)
  touches_is v e h = rw (to_word e h, vertex_word e h)

  ends_from : (kind : ℕ → ℕ → Bool) (kind' : ℕ → Bool) → ((e : ℕ) → e < c → kind e (at w (2 * c + e)) ≡ kind' (faces_at l e)) → (v n e : ℕ) → e + n ≡ c → marks_end kind w c v e n ≡ ends_edge_of kind' (uses l) (drop e (uses l)) v
  ends_from kind kind' f v zero e h = rw (drop_of_length-le (uses l) {i = e} (omega arith))
  ends_from kind kind' f v (suc n) e h =
      rw (drop-cons (uses l) e no_use (omega arith), f e (omega arith), touches_is v e (omega arith), ends_from kind kind' f v n (suc e) (omega arith))

  ends_are : (kind : ℕ → ℕ → Bool) (kind' : ℕ → Bool) → ((e : ℕ) → e < c → kind e (at w (2 * c + e)) ≡ kind' (faces_at l e)) → (v : ℕ) → marks_end kind w c v 0 c ≡ ends_edge kind' (uses l) v
  ends_are kind kind' f v = ends_from kind kind' f v c 0 (omega arith)

  -- a vertex without a face ends no edge
  none_ends : (kind : ℕ → ℕ → Bool) (v : ℕ) → ((i : ℕ) → i < c → on v i ≡ false) → (n e : ℕ) → e + n ≡ c → marks_end kind w c v e n ≡ false
  none_ends kind v f zero e h = refl
  none_ends kind v f (suc n) e h =
      rw (touches_is v e (omega arith), f e (omega arith), to_next l e (omega arith), f (use_at l e).next (next_below l e (omega arith)), none_ends kind v f n (suc e) (omega arith))

  -- a vertex with a face has a fan: its corner's label
  some_fan : (v i : ℕ) → i < c → v ≡ (use_at l i).from → 1 ≤ roots_on w c v 0 c
  some_fan v i h o =
      let E = forest_earliest w (3 * c) (fan_labels l) F in
      let r = at (fan_labels l) i in
      let low : r ≤ i = E.below i (omega (arith, fans_long)) in
      let top : eqb (at (fan_labels l) r) r ≡ true = eq-eqb (at (fan_labels l) r) r (E.fixed i (omega (arith, fans_long))) in
      let here : eqb v (use_at l r).from ≡ true = eq-eqb v (use_at l r).from (o ∙ sym (fan_vertex l i (omega (arith, fans_long)))) in
      choose_some (is_root_on w c v) r (up_from 0 c) (in_up_from 0 c r (omega arith) (omega arith))
      (rw (root_is r (omega arith), vertex_word r (omega arith), top, here))

  no_roots : (v : ℕ) → ((i : ℕ) → i < c → on v i ≡ false) → roots_on w c v 0 c ≡ 0
  no_roots v f =
      ap length
      (choose_none (is_root_on w c v) (up_from 0 c)
      (all_in (λ (i : ℕ). is_root_on w c v i ≡ false) (up_from 0 c) (λ i a. let h : i < c = omega (arith, up_from_in 0 c i a) in rw (vertex_word i h, f i h) (and-false (leb i (at w (3 * c + i)))))))

  class_found : (v : ℕ) → final_mark w c v (fan_mark (roots_on w c v 0 c)) ≡ class_of l v
  unfolding class_of
  class_found v = go (has_face (uses l) v) refl
    where
      faced : (k : ℕ) → 1 ≤ k → roots_on w c v 0 c ≡ k → final_mark w c v (fan_mark k) ≡ cond (ends_edge is_singular (uses l) v) 3 (cond (ltb 1 k) 4 (cond (ends_edge is_boundary (uses l) v) 2 1))
      faced zero h q = absurd (omega arith)
      faced (suc k) h q = rw (ends_are (singular_word c) is_singular singular_is v, ends_are boundary_word is_boundary boundary_is v) (finished_class k (ends_edge is_singular (uses l) v) (ends_edge is_boundary (uses l) v))

      go : (t : Bool) → has_face (uses l) v ≡ t → final_mark w c v (fan_mark (roots_on w c v 0 c)) ≡ cond t (cond (ends_edge is_singular (uses l) v) 3 (cond (ltb 1 (fans_at l v)) 4 (cond (ends_edge is_boundary (uses l) v) 2 1))) 0
      go true q =
          let r = has_corner (uses l) v q in
          rw (fans_are v) (faced (roots_on w c v 0 c) (some_fan v r.0 r.1 r.2) refl)
      go false q =
          let none = no_corner (uses l) v q in
          let roots : roots_on w c v 0 c ≡ 0 = no_roots v none in
          rw (roots, none_ends (singular_word c) v none c 0 (omega arith), none_ends boundary_word v none c 0 (omega arith))

  pub classes_found : (n : ℕ) (xs : List ℕ) → length xs ≡ n → ((v : ℕ) → v < n → at xs v ≡ final_mark w c v (fan_mark (roots_on w c v 0 c))) → xs ≡ classes_of l n
  classes_found n xs h f =
      ext_get_or 0 xs (classes_of l n) (h ∙ sym (classes_length l n)) (λ v i. f v (omega arith) ∙ class_found v ∙ sym (classes_at l n v (omega arith)))

pub grouped_classes : (l : List ℤ) (c : ℕ) (w : List ℕ) → Grouped l c w → (n : ℕ) (xs : List ℕ) → length xs ≡ n → ((v : ℕ) → v < n → at xs v ≡ final_mark w c v (fan_mark (roots_on w c v 0 c))) → xs ≡ classes_of l n
grouped_classes l c w G n xs h f =
    classes_found l w (rw G.count at G.front) (rw G.count at G.forest) (rw G.count at G.size) n xs h (rw G.count at f)

pub grouped_class : (l : List ℤ) (c : ℕ) (w : List ℕ) → Grouped l c w → (v : ℕ) → final_mark w c v (fan_mark (roots_on w c v 0 c)) ≡ class_of l v
grouped_class l c w G v =
    rw G.count (class_found l w (rw G.count at G.front) (rw G.count at G.forest) (rw G.count at G.size) v)
