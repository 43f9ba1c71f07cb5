-- The class of a vertex, and the number of singular edges, in the words of document 01.
use Prim.Native.Nat.{ℕ, zero, suc, ◌≤◌, ◌<◌, min, max}
use mathlib.Core.Path.{◌≡◌, refl, sym, ◌∙◌, ap, ap₂}
use mathlib.Core.Bool.{Bool, true, false, cond, ◌&&◌, ◌||◌, true≢false, false≢true}
use mathlib.Core.List.{List, [], ◌∷◌}
use mathlib.Core.Logic.{◌⊎◌, inl, inr, ⊎_elim, ◌↔◌}
use native.Mathlib.Omega.{arith}
use borrow.Author.Tests.{eqb-true, eq-eqb, ltb-true, lt-ltb, leb-true, le-leb}
use lib.Dec.{eqb, ltb}
use lib.IntN.{ℤ}
use lib.ListN.{length, get_or}
use Rattle.list.specs.Check.{Valid}
use Rattle.order.specs.Choose.{choose}
use Rattle.order.proofs.Lists.{In}
use Rattle.edges.specs.Uses.{Use, uses, lo, hi, uses_on, faces_on, on_edge, is_boundary, is_singular, no_use, use_at}
use Rattle.edges.proofs.Uses.{uses_long, from_at, next_below}
use Rattle.edges.proofs.Faces.{and-true}
use Rattle.edges.proofs.Mates.{sharing, sharing_faces, sharing_same, in_sharing}
use Rattle.groups.specs.Groups.{every_edge, groups_of_uses, fan_labels}
use Rattle.groups.specs.Distinct.{distinct}
use Rattle.fans.proofs.Classing.{has_corner, no_corner}
use Rattle.fans.specs.Classes.{touches, ends_edge_of, ends_edge, has_face, labels_at, fans_at, class_of}
use Rattle.demands.specs.Renumbered.{Corner, vertex_at}
use Rattle.demands.specs.Linked.{OneFan}
use Rattle.demands.specs.Labelling.{label_at}
use Rattle.demands.specs.Classed.{Used, Standalone, EndsSingular, EndsBoundary, ManyFans}
use Rattle.demands.proofs.Distinct.{Different, distinct_has, distinct_of, distinct_different, two_in}
use Rattle.demands.proofs.Corners.{next}
use Rattle.demands.proofs.Crossing.{use_from, use_to, edge_vertices}
use Rattle.demands.proofs.Result.{groups_length}
use Rattle.demands.proofs.Fewest.{fan_joined, joined_fan}

or_cases : (a b : Bool) → (a || b) ≡ true → (a ≡ true) ⊎ (b ≡ true)
or_cases true b e = inl refl
or_cases false b e = inr e

or_left : (a b : Bool) → a ≡ true → (a || b) ≡ true
or_left a b e = rw e

or_right : (a b : Bool) → b ≡ true → (a || b) ≡ true
or_right true b e = refl
or_right false b e = e

-- some element of a list passes a test

abbrev some : {A : Type 0} → (A → Bool) → List A → Bool
some p [] = false
some p (x ∷ xs) = p x || some p xs

some_found : {A : Type 0} (p : A → Bool) (d : A) (xs : List A) → some p xs ≡ true → (i : ℕ) × (i < length xs) × (p (get_or xs i d) ≡ true)
some_found p d [] e = absurd (false≢true e)
some_found p d (x ∷ xs) e = go (or_cases (p x) (some p xs) e) (some_found p d xs)
  where
    go : (p x ≡ true) ⊎ (some p xs ≡ true) → (some p xs ≡ true → (i : ℕ) × (i < length xs) × (p (get_or xs i d) ≡ true)) → (i : ℕ) × (i < suc (length xs)) × (p (get_or (x ∷ xs) i d) ≡ true)
    go (inl q) ih = (0, omega arith, q)
    go (inr q) ih = let r = ih q in (suc r.0, omega (arith, r.1), r.2)

some_holds : {A : Type 0} (p : A → Bool) (d : A) (xs : List A) (i : ℕ) → i < length xs → p (get_or xs i d) ≡ true → some p xs ≡ true
some_holds p d [] i h e = absurd (omega arith)
some_holds p d (x ∷ xs) zero h e = or_left (p x) (some p xs) e
some_holds p d (x ∷ xs) (suc i) h e = or_right (p x) (some p xs) (some_holds p d xs i (omega arith) e)

ends_edge_some : (kind : ℕ → Bool) (us vs : List Use) (v : ℕ) → ends_edge_of kind us vs v ≡ some (λ (u : Use). touches v u && kind (length (uses_on us u.from u.to))) vs
ends_edge_some kind us [] v = refl
ends_edge_some kind us (u ∷ vs) v = ap (λ (b : Bool). (touches v u && kind (length (uses_on us u.from u.to))) || b) (ends_edge_some kind us vs v)

-- which of an edge's vertices is named first doesn't matter
faces_turned : (l : List ℤ) (a b : ℕ) → faces_on l a b ≡ faces_on l b a
faces_turned l a b =
    let low : min a b ≡ min b a = omega arith in
    let high : max a b ≡ max b a = omega arith in
    ap₂ (λ (p q : ℕ). length (choose (λ (u : Use). eqb (lo u) p && eqb (hi u) q) (uses l))) low high

module _ (l : List ℤ) (v : ℕ) where
  has_face_lem : has_face (uses l) v ≡ true → Used l v
  has_face_lem e =
      let r = has_corner (uses l) v e in
      (r.0, omega (arith, r.1, uses_long l), sym (from_at l r.0) ∙ sym r.2)

  face_has : Used l v → has_face (uses l) v ≡ true
  face_has r = go (has_face (uses l) v) refl
    where
      go : (b : Bool) → has_face (uses l) v ≡ b → b ≡ true
      go true e = refl
      go false e = sym (no_corner (uses l) v e r.0 (omega (arith, r.1, uses_long l))) ∙ eq-eqb v (use_at l r.0).from (sym r.2 ∙ sym (from_at l r.0))

  -- a use of an edge at v
  use_at_lem : (w : ℕ) → 0 < faces_on l v w → (e : ℕ) × Corner l e × (on_edge v w (use_at l e) ≡ true)
  use_at_lem w h = go (sharing l v w) refl
    where
      go : (xs : List ℕ) → sharing l v w ≡ xs → (e : ℕ) × Corner l e × (on_edge v w (use_at l e) ≡ true)
      go [] p = absurd (omega (arith, sharing_faces l v w, ap length p))
      go (e ∷ xs) p =
          let i : In e (sharing l v w) = rw p (inl refl) in
          let r = in_sharing l v w e i in
          (e, omega (arith, r.0, uses_long l), r.1)

  corner_at_edge : (w : ℕ) → 0 < faces_on l v w → Used l v
  corner_at_edge w h =
      let r = use_at_lem w h in
      let e = r.0 in
      ⊎_elim
      (λ p. (e, r.1, p.0))
      (λ p. (next l e, omega (arith, next_below l e (omega (arith, r.1, uses_long l)), uses_long l), p.1))
      (edge_vertices l e r.1 v w r.2)

  module _ (kind : ℕ → Bool) where
    ends_edge_lem : ends_edge kind (uses l) v ≡ true → (w : ℕ) × (kind (faces_on l v w) ≡ true)
    ends_edge_lem e =
        let r = some_found (λ (u : Use). touches v u && kind (length (uses_on (uses l) u.from u.to))) no_use (uses l) (sym (ends_edge_some kind (uses l) (uses l) v) ∙ e) in
        let u = use_at l r.0 in
        let both = and-true (touches v u) (kind (faces_on l u.from u.to)) r.2 in
        go u (or_cases (eqb v u.from) (eqb v u.to) both.0) both.1
      where
        go : (u : Use) → (eqb v u.from ≡ true) ⊎ (eqb v u.to ≡ true) → kind (faces_on l u.from u.to) ≡ true → (w : ℕ) × (kind (faces_on l v w) ≡ true)
        go u (inl p) k = (u.to, ap (λ (a : ℕ). kind (faces_on l a u.to)) (eqb-true v u.from p) ∙ k)
        go u (inr p) k = (u.from, ap (λ (a : ℕ). kind (faces_on l a u.from)) (eqb-true v u.to p) ∙ ap kind (faces_turned l u.to u.from) ∙ k)

    edge_ends : kind 0 ≡ false → (w : ℕ) → kind (faces_on l v w) ≡ true → ends_edge kind (uses l) v ≡ true
    edge_ends none w k =
        let some_face : 0 < faces_on l v w = positive (faces_on l v w) k in
        let r = use_at_lem w some_face in
        let e = r.0 in
        let u = use_at l e in
        let as_many : faces_on l u.from u.to ≡ faces_on l v w = sym (sharing_faces l u.from u.to) ∙ ap length (sharing_same l v w e r.2) ∙ sharing_faces l v w in
        let touch : touches v u ≡ true = ⊎_elim
        (λ p. or_left (eqb v u.from) (eqb v u.to) (eq-eqb v u.from (sym p.0 ∙ sym (use_from l e r.1))))
        (λ p. or_right (eqb v u.from) (eqb v u.to) (eq-eqb v u.to (sym p.1 ∙ sym (use_to l e r.1))))
        (edge_vertices l e r.1 v w r.2) in
        ends_edge_some kind (uses l) (uses l) v ∙
        some_holds (λ (u : Use). touches v u && kind (length (uses_on (uses l) u.from u.to))) no_use (uses l) e (omega (arith, r.1, uses_long l)) (rw (touch, as_many) k)
      where
        positive : (m : ℕ) → kind m ≡ true → 0 < m
        positive zero k = absurd (true≢false (sym k ∙ none))
        positive (suc m) k = omega arith

-- the labels of the corners on v

labels_at_lem : (v k : ℕ) (us : List Use) (labels : List ℕ) → In k (labels_at v us labels) → (x : ℕ) × (x < length us) × ((get_or us x no_use).from ≡ v) × (label_at labels x ≡ k)
labels_at_lem v k [] labels i = absurd i
labels_at_lem v k (u ∷ us) [] i = absurd i
labels_at_lem v k (u ∷ us) (y ∷ labels) i = go (eqb v u.from) refl i (labels_at_lem v k us labels)
  where
    Found : List Use → List ℕ → Type 0
    Found us labels = (x : ℕ) × (x < length us) × ((get_or us x no_use).from ≡ v) × (label_at labels x ≡ k)

    later : Found us labels → Found (u ∷ us) (y ∷ labels)
    later r = (suc r.0, omega (arith, r.1), r.2, r.3)

    go : (b : Bool) → eqb v u.from ≡ b → In k (cond b (y ∷ labels_at v us labels) (labels_at v us labels)) → (In k (labels_at v us labels) → Found us labels) → Found (u ∷ us) (y ∷ labels)
    go true p (inl e) ih = (0, omega arith, sym (eqb-true v u.from p), sym e)
    go true p (inr i) ih = later (ih i)
    go false p i ih = later (ih i)

at_labels : (v x : ℕ) (us : List Use) (labels : List ℕ) → x < length us → x < length labels → (get_or us x no_use).from ≡ v → In (label_at labels x) (labels_at v us labels)
at_labels v x [] labels h k e = absurd (omega arith)
at_labels v x (u ∷ us) [] h k e = absurd (omega arith)
at_labels v zero (u ∷ us) (y ∷ labels) h k e = rw (eq-eqb v u.from (sym e)) (inl refl)
at_labels v (suc x) (u ∷ us) (y ∷ labels) h k e = go (eqb v u.from) (at_labels v x us labels (omega arith) (omega arith) e)
  where
    go : (b : Bool) → In (label_at labels x) (labels_at v us labels) → In (label_at labels x) (cond b (y ∷ labels_at v us labels) (labels_at v us labels))
    go true i = inr i
    go false i = i

module _ (l : List ℤ) (n : ℕ) (valid : Valid l n) (v : ℕ) where
  many_fans : ltb 1 (fans_at l v) ≡ true → ManyFans l v
  unfolding fans_at fan_labels
  many_fans e = go (distinct ks) (distinct_different ks) (λ k i. distinct_of k ks i) (ltb-true 1 (length (distinct ks)) e)
    where
      fans : List ℕ
      fans = groups_of_uses every_edge (uses l)

      ks : List ℕ
      ks = labels_at v (uses l) fans

      go : (ds : List ℕ) → Different ds → ((k : ℕ) → In k ds → In k ks) → 1 < length ds → ManyFans l v
      go [] d has h = absurd (omega arith)
      go (a ∷ []) d has h = absurd (omega arith)
      go (a ∷ b ∷ ds) d has h =
          let x = labels_at_lem v a (uses l) fans (has a (inl refl)) in
          let y = labels_at_lem v b (uses l) fans (has b (inr (inl refl))) in
          record {
            one = x.0;
            two = y.0;
            one_below = omega (arith, x.1, uses_long l);
            two_below = omega (arith, y.1, uses_long l);
            one_on = sym (from_at l x.0) ∙ x.2;
            two_on = sym (from_at l y.0) ∙ y.2;
            apart = λ j. d.0 (inl (sym x.3 ∙ joined_fan l n valid j ∙ y.3));
          }

  fans_many : ManyFans l v → ltb 1 (fans_at l v) ≡ true
  unfolding fans_at fan_labels
  fans_many m = lt-ltb 1 (length (distinct ks)) (two_in (label_at fans x) (label_at fans y) (distinct ks) (distinct_has (label_at fans x) ks (at x m.one_below m.one_on)) (distinct_has (label_at fans y) ks (at y m.two_below m.two_on)) (λ e. m.apart (fan_joined l n valid x y m.one_below m.two_below e)))
    where
      fans : List ℕ
      fans = groups_of_uses every_edge (uses l)

      ks : List ℕ
      ks = labels_at v (uses l) fans

      x : ℕ
      x = m.one

      y : ℕ
      y = m.two

      at : (z : ℕ) → Corner l z → vertex_at l z ≡ v → In (label_at fans z) ks
      at z h e = at_labels v z (uses l) fans (omega (arith, uses_long l)) (omega (arith, groups_length every_edge l n valid)) (from_at l z ∙ e)

  singular_found : ends_edge is_singular (uses l) v ≡ true → EndsSingular l v
  singular_found e = let r = ends_edge_lem l v is_singular e in (r.0, leb-true 3 (faces_on l v r.0) r.1)

  found_singular : EndsSingular l v → ends_edge is_singular (uses l) v ≡ true
  found_singular r = edge_ends l v is_singular refl r.0 (le-leb 3 (faces_on l v r.0) r.1)

  boundary_found : ends_edge is_boundary (uses l) v ≡ true → EndsBoundary l v
  boundary_found e = let r = ends_edge_lem l v is_boundary e in (r.0, eqb-true (faces_on l v r.0) 1 r.1)

  found_boundary : EndsBoundary l v → ends_edge is_boundary (uses l) v ≡ true
  found_boundary r = edge_ends l v is_boundary refl r.0 (eq-eqb (faces_on l v r.0) 1 r.1)

  singular_used : EndsSingular l v → Used l v
  singular_used r = corner_at_edge l v r.0 (omega (arith, r.1))

  boundary_used : EndsBoundary l v → Used l v
  boundary_used r = corner_at_edge l v r.0 (omega (arith, r.1))

  many_used : ManyFans l v → Used l v
  many_used m = (m.one, m.one_below, m.one_on)

  -- the classes, each with what it says
  data Verdict (k : ℕ) : Type 0 where
    standalone : k ≡ 0 → Standalone l v → Verdict k
    singular : k ≡ 3 → EndsSingular l v → Verdict k
    isolated : k ≡ 4 → (EndsSingular l v → ⊥) → ManyFans l v → Verdict k
    boundary : k ≡ 2 → (EndsSingular l v → ⊥) → (ManyFans l v → ⊥) → EndsBoundary l v → Verdict k
    inner : k ≡ 1 → Used l v → (EndsSingular l v → ⊥) → (ManyFans l v → ⊥) → (EndsBoundary l v → ⊥) → Verdict k

  refuted : {A : Type 0} (b : Bool) → b ≡ false → (A → b ≡ true) → A → ⊥
  refuted b p f a = true≢false (sym (f a) ∙ p)

  verdict : Verdict (class_of l v)
  unfolding class_of
  verdict = go (has_face (uses l) v) refl (ends_edge is_singular (uses l) v) refl (ltb 1 (fans_at l v)) refl (ends_edge is_boundary (uses l) v) refl
    where
      go : (f : Bool) → has_face (uses l) v ≡ f → (s : Bool) → ends_edge is_singular (uses l) v ≡ s → (m : Bool) → ltb 1 (fans_at l v) ≡ m → (b : Bool) → ends_edge is_boundary (uses l) v ≡ b → Verdict (cond f (cond s 3 (cond m 4 (cond b 2 1))) 0)
      go false f s p m q b r = standalone refl (refuted _ f (face_has l v))
      go true f true p m q b r = singular refl (singular_found p)
      go true f false p true q b r = isolated refl (refuted _ p found_singular) (many_fans q)
      go true f false p false q true r = boundary refl (refuted _ p found_singular) (refuted _ q fans_many) (boundary_found r)
      go true f false p false q false r = inner refl (has_face_lem l v f) (refuted _ p found_singular) (refuted _ q fans_many) (refuted _ r found_boundary)

  pub class_standalone : (class_of l v ≡ 0) ↔ Standalone l v
  class_standalone = go verdict
    where
      go : {k : ℕ} → Verdict k → (k ≡ 0) ↔ Standalone l v
      go (standalone p a) = (λ e. a, λ s. p)
      go (singular p a) = (λ e. absurd (omega arith), λ s. absurd (s (singular_used a)))
      go (isolated p n a) = (λ e. absurd (omega arith), λ s. absurd (s (many_used a)))
      go (boundary p n m a) = (λ e. absurd (omega arith), λ s. absurd (s (boundary_used a)))
      go (inner p x n m b) = (λ e. absurd (omega arith), λ s. absurd (s x))

  pub class_singular : (class_of l v ≡ 3) ↔ EndsSingular l v
  class_singular = go verdict
    where
      go : {k : ℕ} → Verdict k → (k ≡ 3) ↔ EndsSingular l v
      go (standalone p a) = (λ e. absurd (omega arith), λ s. absurd (a (singular_used s)))
      go (singular p a) = (λ e. a, λ s. p)
      go (isolated p n a) = (λ e. absurd (omega arith), λ s. absurd (n s))
      go (boundary p n m a) = (λ e. absurd (omega arith), λ s. absurd (n s))
      go (inner p x n m b) = (λ e. absurd (omega arith), λ s. absurd (n s))

  pub class_isolated : (class_of l v ≡ 4) ↔ ((EndsSingular l v → ⊥) × ManyFans l v)
  class_isolated = go verdict
    where
      go : {k : ℕ} → Verdict k → (k ≡ 4) ↔ ((EndsSingular l v → ⊥) × ManyFans l v)
      go (standalone p a) = (λ e. absurd (omega arith), λ s. absurd (a (many_used s.1)))
      go (singular p a) = (λ e. absurd (omega arith), λ s. absurd (s.0 a))
      go (isolated p n a) = (λ e. (n, a), λ s. p)
      go (boundary p n m a) = (λ e. absurd (omega arith), λ s. absurd (m s.1))
      go (inner p x n m b) = (λ e. absurd (omega arith), λ s. absurd (m s.1))

  pub class_boundary : (class_of l v ≡ 2) ↔ ((EndsSingular l v → ⊥) × (ManyFans l v → ⊥) × EndsBoundary l v)
  class_boundary = go verdict
    where
      go : {k : ℕ} → Verdict k → (k ≡ 2) ↔ ((EndsSingular l v → ⊥) × (ManyFans l v → ⊥) × EndsBoundary l v)
      go (standalone p a) = (λ e. absurd (omega arith), λ s. absurd (a (boundary_used s.2)))
      go (singular p a) = (λ e. absurd (omega arith), λ s. absurd (s.0 a))
      go (isolated p n a) = (λ e. absurd (omega arith), λ s. absurd (s.1 a))
      go (boundary p n m a) = (λ e. (n, m, a), λ s. p)
      go (inner p x n m b) = (λ e. absurd (omega arith), λ s. absurd (b s.2))

  pub class_inner : (class_of l v ≡ 1) ↔ ((Standalone l v → ⊥) × (EndsSingular l v → ⊥) × (ManyFans l v → ⊥) × (EndsBoundary l v → ⊥))
  class_inner = go verdict
    where
      go : {k : ℕ} → Verdict k → (k ≡ 1) ↔ ((Standalone l v → ⊥) × (EndsSingular l v → ⊥) × (ManyFans l v → ⊥) × (EndsBoundary l v → ⊥))
      go (standalone p a) = (λ e. absurd (omega arith), λ s. absurd (s.0 a))
      go (singular p a) = (λ e. absurd (omega arith), λ s. absurd (s.1 a))
      go (isolated p n a) = (λ e. absurd (omega arith), λ s. absurd (s.2 a))
      go (boundary p n m a) = (λ e. absurd (omega arith), λ s. absurd (s.3 a))
      go (inner p x n m b) = (λ e. (λ s. s x, n, m, b), λ s. p)

  -- with at most two faces an edge and one fan a vertex there are classes 1 and 2 only
  pub class_regular : ((a b : ℕ) → faces_on l a b ≤ 2) → OneFan l → Used l v → (class_of l v ≡ 1) ⊎ (class_of l v ≡ 2)
  class_regular few fan used = go verdict
    where
      go : {k : ℕ} → Verdict k → (k ≡ 1) ⊎ (k ≡ 2)
      go (standalone p a) = absurd (a used)
      go (singular p a) = absurd (omega (arith, few v a.0, a.1))
      go (isolated p n a) = absurd (a.apart (fan a.one a.two a.one_below a.two_below (a.one_on ∙ sym a.two_on)))
      go (boundary p n m a) = inr p
      go (inner p x n m b) = inl p
