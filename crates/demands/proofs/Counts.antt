-- The counts of singular edges and of singular vertices count what document 01 says.
use Prim.Native.Nat.{ℕ, zero, suc, ◌≤◌, ◌<◌, min, max}
use mathlib.Core.Path.{◌≡◌, refl, sym, ◌∙◌, ap, ap₂}
use mathlib.Core.Bool.{Bool, true, false, cond, ◌&&◌, false≢true}
use mathlib.Core.List.{List, [], ◌∷◌}
use mathlib.Core.Logic.{◌⊎◌, inl, inr, ⊎_elim}
use native.Mathlib.Omega.{arith}
use borrow.Author.Tests.{eqb-true, eq-eqb, ltb-true, ltb-false, leb-true, le-leb}
use lib.Dec.{eqb, ltb}
use lib.IntN.{ℤ}
use lib.ListN.{length, get_or, length-map}
use Rattle.list.specs.Check.{Valid}
use Rattle.order.specs.Choose.{choose, up_from}
use Rattle.order.proofs.Lists.{In, in_choose, in_chosen, in_at, at_in, choose-map, in_up_from, up_from_in, Rising, rising_up_from, rising_choose, rising_above, all_at, from_table}
use Rattle.mates.specs.Mates.{starts_many}
use Rattle.edges.specs.Uses.{Use, uses, lo, hi, is_boundary, is_singular, starts_singular, singular_edge_count, no_use, use_at}
use Rattle.edges.proofs.Uses.{corner_at_lem}
use Rattle.edges.proofs.Faces.{on_edge_lem, use_proper, Proper}
use Rattle.edges.proofs.Mates.{sharing, sharing_is, sharing_faces, in_sharing}
use Rattle.fans.specs.Classes.{has_face, ends_edge, fans_at, class_of, classes_of, is_singular_class, singular_vertex_count}
use Rattle.demands.specs.Counted.{Counted, SingularEdge, SingularVertex}
use Rattle.demands.proofs.Distinct.{equal_or_not}

-- numbers that rise stand at one place each

rising_order : (s : ℕ) (xs : List ℕ) (i j : ℕ) → Rising s xs → i < j → j < length xs → get_or xs i 0 < get_or xs j 0
rising_order s [] i j r h k = absurd (omega arith)
rising_order s (x ∷ xs) i zero r h k = absurd (omega arith)
rising_order s (x ∷ xs) zero (suc j) r h k = all_at (λ (y : ℕ). suc x ≤ y) 0 xs (rising_above (suc x) xs r.1) j (omega arith)
rising_order s (x ∷ xs) (suc i) (suc j) r h k = rising_order (suc x) xs i j r.1 (omega arith) (omega arith)

rising_once : (s : ℕ) (xs : List ℕ) (i j : ℕ) → Rising s xs → i < length xs → j < length xs → get_or xs i 0 ≡ get_or xs j 0 → i ≡ j
rising_once s xs i j r h k e = go (ltb i j) refl (ltb j i) refl
  where
    go : (a : Bool) → ltb i j ≡ a → (b : Bool) → ltb j i ≡ b → i ≡ j
    go true p b q = absurd (omega (arith, rising_order s xs i j r (ltb-true i j p) k))
    go false p true q = absurd (omega (arith, rising_order s xs j i r (ltb-true j i q) h))
    go false p false q = omega (arith, ltb-false i j p, ltb-false j i q)

-- the numbers below m that pass a test are counted by choosing them
counted_chosen : (p : ℕ → Bool) (m : ℕ) → Counted (λ (x : ℕ). (x < m) × (p x ≡ true)) (length (choose p (up_from 0 m)))
counted_chosen p m = record {
  nth = λ i. get_or xs i 0;
  each = λ i h. let r = in_chosen p (get_or xs i 0) (up_from 0 m) (at_in 0 xs i h) in (omega (arith, up_from_in 0 m (get_or xs i 0) r.0), r.1);
  all = λ x h. in_at 0 x xs (in_choose p x (up_from 0 m) (in_up_from 0 m x (omega arith) (omega (arith, h.0))) h.1);
  once = λ i j h k e. rising_once 0 xs i j (rising_choose p 0 (up_from 0 m) (rising_up_from 0 m)) h k e;
}
  where
    xs : List ℕ
    xs = choose p (up_from 0 m)

-- things that correspond to counted ones, one to one, are as many
counted_through : {A B : Type 0} {P : A → Type 0} {m : ℕ} (Q : B → Type 0) (f : A → B) → ((a : A) → P a → Q (f a)) → ((b : B) → Q b → (a : A) × P a × (f a ≡ b)) → ((a b : A) → P a → P b → f a ≡ f b → a ≡ b) → Counted P m → Counted Q m
counted_through Q f into onto apart c = record {
  nth = λ i. f (c.nth i);
  each = λ i h. into (c.nth i) (c.each i h);
  all = λ b q. let r = onto b q in let i = c.all r.0 r.1 in (i.0, i.1, ap f i.2 ∙ r.2);
  once = λ i j h k e. c.once i j h k (apart (c.nth i) (c.nth j) (c.each i h) (c.each j k) e);
}

-- where nothing has the property the count is 0
pub counted_none : {A : Type 0} {P : A → Type 0} {m : ℕ} → ((a : A) → P a → ⊥) → Counted P m → m ≡ 0
counted_none {m = zero} none c = refl
counted_none {m = suc m} none c = absurd (none (c.nth 0) (c.each 0 (omega arith)))

pub class_few : (l : List ℤ) (v : ℕ) → class_of l v ≤ 4
unfolding class_of
class_few l v = go (has_face (uses l) v) (ends_edge is_singular (uses l) v) (ltb 1 (fans_at l v)) (ends_edge is_boundary (uses l) v)
  where
    go : (f s m b : Bool) → cond f (cond s 3 (cond m 4 (cond b 2 1))) 0 ≤ 4
    go false s m b = omega arith
    go true true m b = omega arith
    go true false true b = omega arith
    go true false false true = omega arith
    go true false false false = omega arith

module _ (l : List ℤ) (n : ℕ) where
  chosen_vertices : length (choose (λ (v : ℕ). is_singular_class (class_of l v)) (up_from 0 n)) ≡ singular_vertex_count l n
  unfolding singular_vertex_count classes_of
  chosen_vertices =
      sym (length-map (choose (λ (v : ℕ). is_singular_class (class_of l v)) (up_from 0 n)) (class_of l)) ∙
      ap length (sym (choose-map is_singular_class (class_of l) (up_from 0 n)))

  pub singular_vertices : Counted (SingularVertex l n) (singular_vertex_count l n)
  singular_vertices = counted_through (SingularVertex l n) (λ (v : ℕ). v) into onto (λ u v p q e. e) (rw chosen_vertices at (counted_chosen (λ (v : ℕ). is_singular_class (class_of l v)) n))
    where
      into : (v : ℕ) → (v < n) × (is_singular_class (class_of l v) ≡ true) → SingularVertex l n v
      into v p = (p.0, go (equal_or_not (class_of l v) 3) (leb-true 3 (class_of l v) p.1) (class_few l v))
        where
          go : {k : ℕ} → (k ≡ 3) ⊎ (k ≡ 3 → ⊥) → 3 ≤ k → k ≤ 4 → (k ≡ 3) ⊎ (k ≡ 4)
          go (inl e) h j = inl e
          go (inr e) h j = inr (omega arith)

      onto : (v : ℕ) → SingularVertex l n v → (w : ℕ) × ((w < n) × (is_singular_class (class_of l w) ≡ true)) × (w ≡ v)
      onto v p = (v, (p.0, le-leb 3 (class_of l v) (⊎_elim (λ e. omega arith) (λ e. omega arith) p.1)), refl)

starts_long : (e : ℕ) (xs : List ℕ) → starts_many e xs ≡ true → 3 ≤ length xs
starts_long e [] h = absurd (false≢true h)
starts_long e (x ∷ []) h = absurd (false≢true h)
starts_long e (x ∷ y ∷ []) h = absurd (false≢true h)
starts_long e (x ∷ y ∷ z ∷ zs) h = omega arith

starts_once : (e f : ℕ) (xs : List ℕ) → starts_many e xs ≡ true → starts_many f xs ≡ true → e ≡ f
starts_once e f [] h k = absurd (false≢true h)
starts_once e f (x ∷ []) h k = absurd (false≢true h)
starts_once e f (x ∷ y ∷ []) h k = absurd (false≢true h)
starts_once e f (x ∷ y ∷ z ∷ zs) h k = sym (eqb-true x e h) ∙ eqb-true x f k

starts_found : (xs : List ℕ) → 3 ≤ length xs → (e : ℕ) × In e xs × (starts_many e xs ≡ true)
starts_found [] h = absurd (omega arith)
starts_found (x ∷ []) h = absurd (omega arith)
starts_found (x ∷ y ∷ []) h = absurd (omega arith)
starts_found (x ∷ y ∷ z ∷ zs) h = (x, inl refl, eq-eqb x x refl)

module _ (l : List ℤ) (n : ℕ) (valid : Valid l n) where
  abbrev c : ℕ
  c = length (uses l)

  -- the use that starts at e is the first of a singular edge
  abbrev is_first : ℕ → Bool
  is_first e = starts_singular (uses l) (use_at l e)

  abbrev pair_at : ℕ → ℕ × ℕ
  pair_at e = (lo (use_at l e), hi (use_at l e))

  chosen_edges : length (choose is_first (up_from 0 c)) ≡ singular_edge_count l
  chosen_edges =
      sym (length-map (choose is_first (up_from 0 c)) (use_at l)) ∙
      ap length (sym (choose-map (starts_singular (uses l)) (use_at l) (up_from 0 c))) ∙
      ap (λ (us : List Use). length (choose (starts_singular (uses l)) us)) (from_table no_use (uses l))

  sharing_pair : (a b p q : ℕ) → min a b ≡ min p q → max a b ≡ max p q → sharing l a b ≡ sharing l p q
  sharing_pair a b p q low high =
      ap₂ (λ (x y : ℕ). choose (λ (e : ℕ). eqb (lo (use_at l e)) x && eqb (hi (use_at l e)) y) (up_from 0 c)) low high

  first_is : (e : ℕ) → e < c → is_first e ≡ starts_many e (sharing l (lo (use_at l e)) (hi (use_at l e)))
  first_is e h =
      ap₂ starts_many (corner_at_lem l e h)
      (sharing_is l (use_at l e).from (use_at l e).to ∙ sharing_pair (use_at l e).from (use_at l e).to (lo (use_at l e)) (hi (use_at l e)) (omega arith) (omega arith))

  pub singular_edges : Counted (SingularEdge l) (singular_edge_count l)
  singular_edges = counted_through (SingularEdge l) pair_at into onto apart (rw chosen_edges at (counted_chosen is_first c))
    where
      First : ℕ → Type 0
      First e = (e < c) × (is_first e ≡ true)

      into : (e : ℕ) → First e → SingularEdge l (pair_at e)
      into e p =
          let proper : Proper n (use_at l e) = use_proper l n valid e p.0 in
          let differ : (use_at l e).from ≡ (use_at l e).to → ⊥ = proper.ends_differ in
          (omega arith, rw (sharing_faces l (lo (use_at l e)) (hi (use_at l e))) at (starts_long e (sharing l (lo (use_at l e)) (hi (use_at l e))) (sym (first_is e p.0) ∙ p.1)))

      onto : (k : ℕ × ℕ) → SingularEdge l k → (e : ℕ) × First e × (pair_at e ≡ k)
      onto k p =
          let r = starts_found (sharing l k.0 k.1) (rw (sharing_faces l k.0 k.1) p.1) in
          let e = r.0 in
          let s = in_sharing l k.0 k.1 e r.1 in
          let on = on_edge_lem k.0 k.1 (use_at l e) s.1 in
          let low : lo (use_at l e) ≡ k.0 = omega (arith, on.0, p.0) in
          let high : hi (use_at l e) ≡ k.1 = omega (arith, on.1, p.0) in
          (e, (s.0, first_is e s.0 ∙ ap₂ (λ (a b : ℕ). starts_many e (sharing l a b)) low high ∙ r.2), λ i. (low i, high i))

      apart : (e f : ℕ) → First e → First f → pair_at e ≡ pair_at f → e ≡ f
      apart e f p q k =
          starts_once e f (sharing l (lo (use_at l f)) (hi (use_at l f)))
          (ap (λ (k : ℕ × ℕ). starts_many e (sharing l k.0 k.1)) (sym k) ∙ sym (first_is e p.0) ∙ p.1)
          (sym (first_is f q.0) ∙ q.1)
