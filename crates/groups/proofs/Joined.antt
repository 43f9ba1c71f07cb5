-- Forests of parents. A join puts the later of two roots under the earlier, and the labels are then the merged ones.
use Prim.Native.Nat.{ℕ, ◌+◌, ◌≤◌, ◌<◌, min, max}
use mathlib.Core.Path.{◌≡◌, refl, sym, ◌∙◌, ap, subst}
use mathlib.Core.Bool.{Bool, true, false, cond}
use mathlib.Core.List.{List, [], ◌∷◌, ◌++◌, map}
use native.Mathlib.Omega.{arith}
use native.Mathlib.Decide.{dec_le}
use borrow.Author.Tests.{eqb-true, eqb-false, eq-eqb, ne_eqb}
use lib.Dec.{eqb}
use lib.ListN.{length, set, length-set, length-map, length-append}
use lib.Seq.{get_or-set_same, get_or-set_other, get_or-append-add, take-set-le}
use Rattle.order.proofs.Lists.{get_or-mapped}
use Rattle.groups.specs.Groups.{Link, merge, merge_all, replaced}
use Rattle.groups.specs.Forest.{at, link, Forest, Descends, Rises, Climbs, Regrouped, links_across}

replaced_from : (b a : ℕ) → replaced b a b ≡ a
replaced_from b a = rw (eq-eqb b b refl)

replaced_other : (b a x : ℕ) → (x ≡ b → ⊥) → replaced b a x ≡ x
replaced_other b a x n = rw (ne_eqb x b n)

replaced_to : (b a : ℕ) → replaced b a a ≡ a
replaced_to b a = go (eqb a b)
  where
    go : (t : Bool) → cond t a a ≡ a
    go true = refl
    go false = refl

-- the root b gets the parent a, a root not after b
module _ (w : List ℕ) (p : ℕ) (labels : List ℕ) (F : Forest w p labels) (a b : ℕ) (a≤b : a ≤ b) (inside : b < length labels) (ra : at labels a ≡ a) (rb : at labels b ≡ b) where
  merged_at : (i : ℕ) → i < length labels → at (map (replaced b a) labels) i ≡ replaced b a (at labels i)
  merged_at i h = get_or-mapped (replaced b a) labels i 0 0 h

  word_same : (i : ℕ) → i ≡ b → at (set w (p + b) a) (p + i) ≡ a
  word_same i e = rw e (get_or-set_same w (p + b) a 0 (omega (arith, F.long)))

  word_other : (i : ℕ) → (i ≡ b → ⊥) → at (set w (p + b) a) (p + i) ≡ at w (p + i)
  word_other i n = get_or-set_other w (p + b) (p + i) a 0 (λ e. n (omega arith))

  down : (i : ℕ) → i < length labels → (t : Bool) → eqb i b ≡ t → at (set w (p + b) a) (p + i) ≤ i
  down i h true e = omega (arith, word_same i (eqb-true i b e), eqb-true i b e)
  down i h false e = omega (arith, word_other i (eqb-false i b e), F.down i h)

  same : (i : ℕ) → i < length labels → (t : Bool) → eqb i b ≡ t → at (map (replaced b a) labels) (at (set w (p + b) a) (p + i)) ≡ at (map (replaced b a) labels) i
  same i h true e =
      rw (word_same i (eqb-true i b e), merged_at i h, merged_at a (omega arith), ra, eqb-true i b e, rb, replaced_from b a, replaced_to b a)
  same i h false e =
      let d : at w (p + i) ≤ i = F.down i h in
      rw (word_other i (eqb-false i b e), merged_at i h, merged_at (at w (p + i)) (omega arith), F.same i h)

  root : (i : ℕ) → i < length labels → (t : Bool) → eqb i b ≡ t → at (set w (p + b) a) (p + i) ≡ i → at (map (replaced b a) labels) i ≡ i
  root i h true e r =
      merged_at i h ∙ rw (eqb-true i b e, rb, replaced_from b a) (omega (arith, word_same i (eqb-true i b e), eqb-true i b e))
  root i h false e r =
      let q : at labels i ≡ i = F.root i h (sym (word_other i (eqb-false i b e)) ∙ r) in
      merged_at i h ∙ rw q (replaced_other b a i (eqb-false i b e))

  forest_under : Forest (set w (p + b) a) p (map (replaced b a) labels)
  forest_under =
      let l : length (map (replaced b a) labels) ≡ length labels = length-map labels (replaced b a) in
      record {
        long = length-set w (p + b) a ∙ F.long ∙ rw l refl;
        down = λ i h. down i (omega arith) (eqb i b) refl;
        same = λ i h. same i (omega arith) (eqb i b) refl;
        root = λ i h. root i (omega arith) (eqb i b) refl;
      }

-- going on from child to parent
pub rises_on : (w : List ℕ) (p x r q : ℕ) → Rises w p x r → Rises w p r q → Rises w p x q
rises_on w p x r q R Q = record { below = omega (arith, R.below, Q.below); along = λ f h. Q.along f h ∙ R.along f h }

rises_parent : (w : List ℕ) (p x : ℕ) → p + x < length w → at w (p + x) ≤ x → Rises w p x (at w (p + x))
rises_parent w p x h q = record { below = q; along = λ f g. g x h }

-- the same where the parents stand alone
zero_at : (w : List ℕ) (i : ℕ) → at w (0 + i) ≡ at w i
zero_at w i = let z : 0 + i ≡ i = omega arith in ap (at w) z

pub rises_here : (w : List ℕ) (x : ℕ) → x < length w → at w x ≤ x → Rises w 0 x (at w x)
rises_here w x h q = subst (λ (k : ℕ). Rises w 0 x k) (zero_at w x) (rises_parent w 0 x (omega arith) (omega (arith, zero_at w x)))

pub climbs_here : (w : List ℕ) (x r : ℕ) → Rises w 0 x r → r ≤ at w r → Climbs w 0 x r
climbs_here w x r R h = record { rises = R; stops = omega (arith, zero_at w r) }

descends_at : (w : List ℕ) (x : ℕ) → x < length w → Descends w 0 → at w x ≤ x
descends_at w x h D = omega (arith, zero_at w x, D x (omega arith))

pub rises_twice : (w : List ℕ) (x : ℕ) → x < length w → Descends w 0 → Rises w 0 x (at w (at w x))
rises_twice w x h D =
    let near = descends_at w x h D in
    let far = descends_at w (at w x) (omega (arith, near)) D in
    rises_on w 0 x (at w x) (at w (at w x)) (rises_here w x h near) (rises_here w (at w x) (omega (arith, near)) far)

-- the roots a and b of the corners x and y are their labels
module _ (w : List ℕ) (p : ℕ) (labels : List ℕ) (F : Forest w p labels) (x r : ℕ) (inside : x < length labels) (C : Climbs w p x r) where
  pub root_is_label : at labels x ≡ r
  root_is_label =
      let own : at w (p + r) ≡ r = omega (arith, C.rises.below, C.stops, F.down r (omega (arith, C.rises.below))) in
      sym (C.rises.along (at labels) (λ i h. F.same i (omega (arith, F.long)))) ∙ F.root r (omega (arith, C.rises.below)) own

  pub label_of_root : at labels r ≡ r
  label_of_root = C.rises.along (at labels) (λ i h. F.same i (omega (arith, F.long))) ∙ root_is_label

module _ (w : List ℕ) (p : ℕ) (labels : List ℕ) (F : Forest w p labels) (x y a b : ℕ) (hx : x < length labels) (hy : y < length labels) (A : Climbs w p x a) (B : Climbs w p y b) where
  merge_is : (lo hi : ℕ) → min a b ≡ lo → max a b ≡ hi → merge labels (link x y) ≡ map (replaced hi lo) labels
  merge_is lo hi e d = rw (root_is_label w p labels F x a hx A, root_is_label w p labels F y b hy B, e, d)

  pub join_second : a ≤ b → Forest (set w (p + b) a) p (merge labels (link x y))
  join_second h =
      rw (merge_is a b (omega arith) (omega arith))
      (forest_under w p labels F a b h (omega (arith, B.rises.below)) (label_of_root w p labels F x a hx A) (label_of_root w p labels F y b hy B))

  pub join_first : b ≤ a → Forest (set w (p + a) b) p (merge labels (link x y))
  join_first h =
      rw (merge_is b a (omega arith) (omega arith))
      (forest_under w p labels F b a h (omega (arith, A.rises.below)) (label_of_root w p labels F y b hy B) (label_of_root w p labels F x a hx A))

-- the join as the code makes it
module _ (w : List ℕ) (p x y a b : ℕ) (hx : p + x < length w) (hy : p + y < length w) (A : Climbs w p x a) (B : Climbs w p y b) where
  regrouped : Regrouped w (set w (p + max a b) (min a b)) p (λ labels. merge labels (link x y))
  regrouped =
      record {
        long = length-set w (p + max a b) (min a b);
        front = take-set-le p w (p + max a b) (min a b) (omega arith);
        down = λ D i h. falls D i (omega (arith, length-set w (p + max a b) (min a b))) (eqb i (max a b)) refl;
        groups = λ labels F. joined labels F (dec_le a b);
      }
    where
      falls : Descends w p → (i : ℕ) → p + i < length w → (t : Bool) → eqb i (max a b) ≡ t → at (set w (p + max a b) (min a b)) (p + i) ≤ i
      falls D i h true e =
          let q : i ≡ max a b = eqb-true i (max a b) e in
          let k : p + i ≡ p + max a b = omega arith in
          omega (arith, ap (at (set w (p + max a b) (min a b))) k, get_or-set_same w (p + max a b) (min a b) 0 (omega arith))
      falls D i h false e =
          let n = eqb-false i (max a b) e in
          omega (arith, get_or-set_other w (p + max a b) (p + i) (min a b) 0 (λ q. n (omega arith)), D i h)

      joined : (labels : List ℕ) (F : Forest w p labels) → Dec (a ≤ b) → Forest (set w (p + max a b) (min a b)) p (merge labels (link x y))
      joined labels F (yes h) =
          let lo : min a b ≡ a = omega arith in
          let hi : max a b ≡ b = omega arith in
          rw (lo, hi) (join_second w p labels F x y a b (omega (arith, F.long)) (omega (arith, F.long)) A B h)
      joined labels F (no h) =
          let lo : min a b ≡ b = omega arith in
          let hi : max a b ≡ a = omega arith in
          rw (lo, hi) (join_first w p labels F x y a b (omega (arith, F.long)) (omega (arith, F.long)) A B (omega arith))

pub regrouped_alone : (w : List ℕ) (x y a b : ℕ) → x < length w → y < length w → Climbs w 0 x a → Climbs w 0 y b → Regrouped w (set w (max a b) (min a b)) 0 (λ labels. merge labels (link x y))
regrouped_alone w x y a b hx hy A B =
    let z : 0 + max a b ≡ max a b = omega arith in
    subst (λ (k : ℕ). Regrouped w (set w k (min a b)) 0 (λ labels. merge labels (link x y))) z (regrouped w 0 x y a b (omega arith) (omega arith) A B)

-- parents that stand behind the first p words
module _ (t ps : List ℕ) (p : ℕ) (l : length t ≡ p) where
  at_behind : (i : ℕ) → at (t ++ ps) (p + i) ≡ at ps (0 + i)
  at_behind i =
      let z : i ≡ 0 + i = omega arith in
      ap (λ (k : ℕ). at (t ++ ps) (k + i)) (sym l) ∙ get_or-append-add t ps i 0 ∙ ap (at ps) z

  pub forest_behind : (labels : List ℕ) → Forest ps 0 labels → Forest (t ++ ps) p labels
  forest_behind labels F =
      record {
        long = omega (arith, length-append t ps, l, F.long);
        down = λ i q. rw (at_behind i) (F.down i q);
        same = λ i q. rw (at_behind i) (F.same i q);
        root = λ i q e. F.root i q (sym (at_behind i) ∙ e);
      }

-- a join after a join
regrouped_then : (w w₁ w₂ : List ℕ) (p : ℕ) (k₁ k₂ : Link) → Regrouped w w₁ p (λ labels. merge labels k₁) → Regrouped w₁ w₂ p (λ labels. merge labels k₂) → Regrouped w w₂ p (λ labels. merge_all labels (k₁ ∷ k₂ ∷ []))
regrouped_then w w₁ w₂ p k₁ k₂ R S =
    record { long = S.long ∙ R.long; front = S.front ∙ R.front; down = λ D. S.down (R.down D); groups = λ labels F. S.groups (merge labels k₁) (R.groups labels F) }

-- the two joins across an edge of the table t, along which the two uses run the same way or opposite ways
module _ (t w w₁ w₂ : List ℕ) (p c e m : ℕ) where
  pub across_same : at t (c + e) ≡ at t (c + m) → Regrouped w w₁ p (λ labels. merge labels (link e m)) → Regrouped w₁ w₂ p (λ labels. merge labels (link (at t e) (at t m))) → Regrouped w w₂ p (λ labels. merge_all labels (links_across t c e m))
  across_same h R S =
      rw (eq-eqb (at t (c + e)) (at t (c + m)) h) (regrouped_then w w₁ w₂ p (link e m) (link (at t e) (at t m)) R S)

  pub across_opposite : (at t (c + e) ≡ at t (c + m) → ⊥) → Regrouped w w₁ p (λ labels. merge labels (link e (at t m))) → Regrouped w₁ w₂ p (λ labels. merge labels (link (at t e) m)) → Regrouped w w₂ p (λ labels. merge_all labels (links_across t c e m))
  across_opposite h R S =
      rw (ne_eqb (at t (c + e)) (at t (c + m)) h) (regrouped_then w w₁ w₂ p (link e (at t m)) (link (at t e) m) R S)
