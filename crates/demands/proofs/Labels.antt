-- Labels are the smallest groups: two corners have the same label exactly when links join them, and the label is the group's earliest
-- corner. The fold over the links is followed on labels as a function of the corner, and carried to lists once.
use Prim.Native.Nat.{ℕ, zero, suc, ◌≤◌, ◌<◌, min, max}
use mathlib.Core.Path.{◌≡◌, refl, sym, ◌∙◌, ap, fun_ext}
use mathlib.Core.Bool.{Bool, true, false, cond}
use mathlib.Core.List.{List, [], ◌∷◌}
use mathlib.Core.Logic.{◌⊎◌, inl, inr}
use native.Mathlib.Omega.{arith}
use borrow.Author.Tests.{leb-true, leb-false, ltb-true, ltb-false, eqb-true, eqb-false}
use lib.Dec.{leb, ltb, eqb}
use lib.ListN.{length, get_or, length-map, get_or-map, get_or-eq_default}
use Rattle.order.specs.Choose.{up_from}
use Rattle.order.proofs.Lists.{In, length-up_from, get_or-up_from}
use Rattle.groups.specs.Groups.{Link, up_to, replaced, merge, merge_all, labels_of}
use Rattle.demands.specs.Joined.{Joined, link, same, back, chain}
use Rattle.demands.specs.Labelling.{label_at}
use Rattle.demands.proofs.Equivalence.{joined_equal}

-- x and y are the two corners of a link of ks
abbrev pub Linking : List Link → ℕ → ℕ → Type 0
Linking ks x y = (k : Link) × In k ks × (x ≡ k.one) × (y ≡ k.two)

-- labels after one link and after several, as a function of the corner
abbrev step : (ℕ → ℕ) → Link → ℕ → ℕ
step f k x = replaced (max (f k.one) (f k.two)) (min (f k.one) (f k.two)) (f x)

abbrev steps : (ℕ → ℕ) → List Link → ℕ → ℕ
steps f [] x = f x
steps f (k ∷ ks) x = steps (step f k) ks x

record Early (f : ℕ → ℕ) : Type 0 where
  early : (x : ℕ) → f x ≤ x
  itself : (x : ℕ) → f (f x) ≡ f x

replaced_is : (a b x : ℕ) → ((x ≡ a) × (replaced a b x ≡ b)) ⊎ ((x ≡ a → ⊥) × (replaced a b x ≡ x))
replaced_is a b x = go (eqb x a) refl
  where
    go : (t : Bool) → eqb x a ≡ t → ((x ≡ a) × (cond t b x ≡ b)) ⊎ ((x ≡ a → ⊥) × (cond t b x ≡ x))
    go true e = inl (eqb-true x a e, refl)
    go false e = inr (eqb-false x a e, refl)

-- two numbers are their smaller and their larger one
sorted : (a b : ℕ) → ((min a b ≡ a) × (max a b ≡ b)) ⊎ ((min a b ≡ b) × (max a b ≡ a))
sorted a b = go (leb a b) refl
  where
    go : (t : Bool) → leb a b ≡ t → ((min a b ≡ a) × (max a b ≡ b)) ⊎ ((min a b ≡ b) × (max a b ≡ a))
    go true e = inl (omega (arith, leb-true a b e), omega (arith, leb-true a b e))
    go false e = inr (omega (arith, leb-false a b e), omega (arith, leb-false a b e))

module _ (f : ℕ → ℕ) (k : Link) where
  -- the smaller and the larger label of the link
  abbrev small : ℕ
  small = min (f k.one) (f k.two)

  abbrev large : ℕ
  large = max (f k.one) (f k.two)

  step_joins : step f k k.one ≡ step f k k.two
  step_joins = go (replaced_is large small (f k.one)) (replaced_is large small (f k.two))
    where
      Is : ℕ → ℕ → Type 0
      Is x r = ((x ≡ large) × (r ≡ small)) ⊎ ((x ≡ large → ⊥) × (r ≡ x))

      go : {r q : ℕ} → Is (f k.one) r → Is (f k.two) q → r ≡ q
      go (inl p) (inl q) = omega arith
      go (inl p) (inr q) = omega arith
      go (inr p) (inl q) = omega arith
      go (inr p) (inr q) = omega arith

  step_early : Early f → Early (step f k)
  step_early i = record { early = λ x. first x (replaced_is large small (f x)); itself = λ x. again x (replaced_is large small (f x)) }
    where
      small_fixed : f small ≡ small
      small_fixed = go (sorted (f k.one) (f k.two))
        where
          go : ((small ≡ f k.one) × (large ≡ f k.two)) ⊎ ((small ≡ f k.two) × (large ≡ f k.one)) → f small ≡ small
          go (inl p) = ap f p.0 ∙ i.itself k.one ∙ sym p.0
          go (inr p) = ap f p.0 ∙ i.itself k.two ∙ sym p.0

      small_kept : {r : ℕ} → ((small ≡ large) × (r ≡ small)) ⊎ ((small ≡ large → ⊥) × (r ≡ small)) → r ≡ small
      small_kept (inl p) = p.1
      small_kept (inr p) = p.1

      first : (x : ℕ) {r : ℕ} → ((f x ≡ large) × (r ≡ small)) ⊎ ((f x ≡ large → ⊥) × (r ≡ f x)) → r ≤ x
      first x (inl p) = omega (arith, i.early x)
      first x (inr p) = omega (arith, i.early x)

      again : (x : ℕ) → ((f x ≡ large) × (step f k x ≡ small)) ⊎ ((f x ≡ large → ⊥) × (step f k x ≡ f x)) → step f k (step f k x) ≡ step f k x
      again x (inl p) =
          ap (λ (r : ℕ). step f k r) p.1 ∙
          ap (λ (r : ℕ). replaced large small r) small_fixed ∙ small_kept (replaced_is large small small) ∙ sym p.1
      again x (inr p) = ap (λ (r : ℕ). step f k r) p.1 ∙ ap (λ (r : ℕ). replaced large small r) (i.itself x)

  step_splits : (x y : ℕ) → step f k x ≡ step f k y → (f x ≡ f y) ⊎ ((f x ≡ f k.one) × (f y ≡ f k.two)) ⊎ ((f x ≡ f k.two) × (f y ≡ f k.one))
  step_splits x y e = go (replaced_is large small (f x)) (replaced_is large small (f y)) (sorted (f k.one) (f k.two))
    where
      go : ((f x ≡ large) × (step f k x ≡ small)) ⊎ ((f x ≡ large → ⊥) × (step f k x ≡ f x)) → ((f y ≡ large) × (step f k y ≡ small)) ⊎ ((f y ≡ large → ⊥) × (step f k y ≡ f y)) → ((small ≡ f k.one) × (large ≡ f k.two)) ⊎ ((small ≡ f k.two) × (large ≡ f k.one)) → (f x ≡ f y) ⊎ ((f x ≡ f k.one) × (f y ≡ f k.two)) ⊎ ((f x ≡ f k.two) × (f y ≡ f k.one))
      go (inl p) (inl q) s = inl (p.0 ∙ sym q.0)
      go (inl p) (inr q) (inl s) = inr (inr (p.0 ∙ s.1, sym q.1 ∙ sym e ∙ p.1 ∙ s.0))
      go (inl p) (inr q) (inr s) = inr (inl (p.0 ∙ s.1, sym q.1 ∙ sym e ∙ p.1 ∙ s.0))
      go (inr p) (inl q) (inl s) = inr (inl (sym p.1 ∙ e ∙ q.1 ∙ s.0, q.0 ∙ s.1))
      go (inr p) (inl q) (inr s) = inr (inr (sym p.1 ∙ e ∙ q.1 ∙ s.0, q.0 ∙ s.1))
      go (inr p) (inr q) s = inl (sym p.1 ∙ e ∙ q.1)

steps_early : (f : ℕ → ℕ) (ks : List Link) → Early f → Early (steps f ks)
steps_early f [] i = i
steps_early f (k ∷ ks) i = steps_early (step f k) ks (step_early f k i)

steps_equal : (f : ℕ → ℕ) (ks : List Link) (x y : ℕ) → f x ≡ f y → steps f ks x ≡ steps f ks y
steps_equal f [] x y e = e
steps_equal f (k ∷ ks) x y e = steps_equal (step f k) ks x y (ap (replaced (large f k) (small f k)) e)

steps_join : (f : ℕ → ℕ) (ks : List Link) (x y : ℕ) → Linking ks x y → steps f ks x ≡ steps f ks y
steps_join f [] x y l = absurd l.1
steps_join f (k ∷ ks) x y l = go l.1 (λ m. steps_join (step f k) ks x y (l.0, m, l.2, l.3))
  where
    one : l.0 ≡ k → step f k x ≡ step f k y
    one e = ap (step f k) (l.2 ∙ ap (λ (k : Link). k.one) e) ∙ step_joins f k ∙ ap (step f k) (sym (l.3 ∙ ap (λ (k : Link). k.two) e))

    go : (l.0 ≡ k) ⊎ In l.0 ks → (In l.0 ks → steps (step f k) ks x ≡ steps (step f k) ks y) → steps (step f k) ks x ≡ steps (step f k) ks y
    go (inl e) ih = steps_equal (step f k) ks x y (one e)
    go (inr m) ih = ih m

-- below c, equal labels are of corners that R joins
abbrev Joining : ℕ → (ℕ → ℕ → Type 0) → (ℕ → ℕ) → Type 0
Joining c R f = (x y : ℕ) → x < c → y < c → f x ≡ f y → Joined R x y

-- the links are of R and of corners below c
abbrev pub Below : ℕ → (ℕ → ℕ → Type 0) → List Link → Type 0
Below c R ks = (k : Link) → In k ks → R k.one k.two × (k.one < c) × (k.two < c)

steps_joining : (c : ℕ) (R : ℕ → ℕ → Type 0) (f : ℕ → ℕ) (ks : List Link) → Below c R ks → Joining c R f → Joining c R (steps f ks)
steps_joining c R f [] below j = j
steps_joining c R f (k ∷ ks) below j = steps_joining c R (step f k) ks (λ k m. below k (inr m)) one
  where
    this : R k.one k.two × (k.one < c) × (k.two < c)
    this = below k (inl refl)

    one : Joining c R (step f k)
    one x y x<c y<c e = go (step_splits f k x y e)
      where
        go : (f x ≡ f y) ⊎ ((f x ≡ f k.one) × (f y ≡ f k.two)) ⊎ ((f x ≡ f k.two) × (f y ≡ f k.one)) → Joined R x y
        go (inl p) = j x y x<c y<c p
        go (inr (inl p)) = chain (j x k.one x<c this.1 p.0) (chain (link this.0) (j k.two y this.2 y<c (sym p.1)))
        go (inr (inr p)) = chain (j x k.two x<c this.2 p.0) (chain (back (link this.0)) (j k.one y this.1 y<c (sym p.1)))

merge_is : (labels : List ℕ) (k : Link) (x : ℕ) → label_at (merge labels k) x ≡ step (label_at labels) k x
merge_is labels k x = ap (get_or (merge labels k) x) (sym past) ∙ get_or-map (replaced (large f k) (small f k)) labels x 0
  where
    f : ℕ → ℕ
    f = label_at labels

    past : replaced (large f k) (small f k) 0 ≡ 0
    past = go (replaced_is (large f k) (small f k) 0)
      where
        go : {r : ℕ} → ((0 ≡ large f k) × (r ≡ small f k)) ⊎ ((0 ≡ large f k → ⊥) × (r ≡ 0)) → r ≡ 0
        go (inl p) = omega arith
        go (inr p) = p.1

merge_all_is : (labels : List ℕ) (ks : List Link) (x : ℕ) → label_at (merge_all labels ks) x ≡ steps (label_at labels) ks x
merge_all_is labels [] x = refl
merge_all_is labels (k ∷ ks) x = merge_all_is (merge labels k) ks x ∙ ap (λ (f : ℕ → ℕ). steps f ks x) (fun_ext (merge_is labels k))

merge_all-length : (labels : List ℕ) (ks : List Link) → length (merge_all labels ks) ≡ length labels
merge_all-length labels [] = refl
merge_all-length labels (k ∷ ks) = merge_all-length (merge labels k) ks ∙ simp length-map

up_from_past : (s n x : ℕ) → n ≤ x → get_or (up_from s n) x 0 ≡ 0
up_from_past s n x h = get_or-eq_default (up_from s n) 0 (rw length-up_from h)

up_to_early : (c : ℕ) → Early (label_at (up_to c))
up_to_early c = record { early = λ x. first x (ltb x c) refl; itself = λ x. again x (ltb x c) refl }
  where
    first : (x : ℕ) (t : Bool) → ltb x c ≡ t → label_at (up_to c) x ≤ x
    first x true e = rw (get_or-up_from 0 c x 0 (ltb-true x c e)) (omega arith)
    first x false e = rw (up_from_past 0 c x (ltb-false x c e)) (omega arith)

    again : (x : ℕ) (t : Bool) → ltb x c ≡ t → label_at (up_to c) (label_at (up_to c) x) ≡ label_at (up_to c) x
    again x true e = ap (label_at (up_to c)) (get_or-up_from 0 c x 0 (ltb-true x c e) ∙ omega arith)
    again x false e = ap (label_at (up_to c)) (up_from_past 0 c x (ltb-false x c e)) ∙ zero_kept c ∙ sym (up_from_past 0 c x (ltb-false x c e))
      where
        zero_kept : (c : ℕ) → label_at (up_to c) 0 ≡ 0
        zero_kept zero = refl
        zero_kept (suc c) = refl

module _ (c : ℕ) (ks : List Link) where
  pub labels_length : length (labels_of c ks) ≡ c
  unfolding labels_of
  labels_length = merge_all-length (up_to c) ks ∙ length-up_from 0 c

  labels_are : (x : ℕ) → label_at (labels_of c ks) x ≡ steps (label_at (up_to c)) ks x
  unfolding labels_of
  labels_are x = merge_all_is (up_to c) ks x

  -- the label is an earliest corner of its group
  pub label_early : (x : ℕ) → label_at (labels_of c ks) x ≤ x
  label_early x = rw labels_are ((steps_early (label_at (up_to c)) ks (up_to_early c)).early x)

  pub label_itself : (x : ℕ) → label_at (labels_of c ks) (label_at (labels_of c ks) x) ≡ label_at (labels_of c ks) x
  label_itself x = simp labels_are ((steps_early (label_at (up_to c)) ks (up_to_early c)).itself x)

  -- corners of a link have one label
  pub joined_label : {x y : ℕ} → Joined (Linking ks) x y → label_at (labels_of c ks) x ≡ label_at (labels_of c ks) y
  joined_label = joined_equal (label_at (labels_of c ks)) (λ x y l. labels_are x ∙ steps_join (label_at (up_to c)) ks x y l ∙ sym (labels_are y))

  -- corners of one label are joined by any relation that holds the links
  pub label_joined : (R : ℕ → ℕ → Type 0) → Below c R ks → (x y : ℕ) → x < c → y < c → label_at (labels_of c ks) x ≡ label_at (labels_of c ks) y → Joined R x y
  label_joined R below x y x<c y<c e = steps_joining c R (label_at (up_to c)) ks below start x y x<c y<c (sym (labels_are x) ∙ e ∙ labels_are y)
    where
      start : Joining c R (label_at (up_to c))
      start x y x<c y<c e =
          let equal : x ≡ y = omega (arith, e, get_or-up_from 0 c x 0 x<c, get_or-up_from 0 c y 0 y<c) in
          same equal
