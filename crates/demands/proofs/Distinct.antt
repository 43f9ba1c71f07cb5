-- Laws of the different elements of a list and of places in it. Different elements of one list that are all in another are no more than its
-- elements, and where they are as many, the other has no element twice.
--
--   Different xs    no element of xs stands in it twice
use Prim.Native.Nat.{ℕ, zero, suc, ◌≤◌, ◌<◌}
use mathlib.Core.Path.{◌≡◌, refl, sym, ◌∙◌, ap}
use mathlib.Core.Bool.{Bool, true, false, cond, ◌||◌, true≢false, false≢true}
use mathlib.Core.List.{List, [], ◌∷◌, map}
use mathlib.Core.Logic.{◌⊎◌, inl, inr, ⊎_elim}
use native.Mathlib.Omega.{arith}
use borrow.Author.Tests.{eqb-true, eqb-false, eq-eqb, ne_eqb}
use lib.Dec.{eqb}
use lib.ListN.{length, get_or, length-map}
use Rattle.order.proofs.Lists.{In, at_in}
use Rattle.groups.specs.Distinct.{is_in, distinct_after, distinct, place_in}

abbrev pub Different : List ℕ → Type 0
Different [] = Unit {0}
Different (x ∷ xs) = (In x xs → ⊥) × Different xs

pub equal_or_not : (x y : ℕ) → (x ≡ y) ⊎ (x ≡ y → ⊥)
equal_or_not x y = go (eqb x y) refl
  where
    go : (b : Bool) → eqb x y ≡ b → (x ≡ y) ⊎ (x ≡ y → ⊥)
    go true e = inl (eqb-true x y e)
    go false e = inr (eqb-false x y e)

-- the test says whether x is among xs
pub is_in-true : (x : ℕ) (xs : List ℕ) → In x xs → is_in x xs ≡ true
is_in-true x [] i = absurd i
is_in-true x (y ∷ ys) (inl e) = rw (eq-eqb x y e)
is_in-true x (y ∷ ys) (inr i) = go (eqb x y) (is_in-true x ys i)
  where
    go : (b : Bool) → is_in x ys ≡ true → (b || is_in x ys) ≡ true
    go true e = refl
    go false e = e

is_in_in : (x : ℕ) (xs : List ℕ) → is_in x xs ≡ true → In x xs
is_in_in x [] e = absurd (false≢true e)
is_in_in x (y ∷ ys) e = go (eqb x y) refl (is_in_in x ys) e
  where
    go : (b : Bool) → eqb x y ≡ b → (is_in x ys ≡ true → In x ys) → (b || is_in x ys) ≡ true → (x ≡ y) ⊎ In x ys
    go true p ih e = inl (eqb-true x y p)
    go false p ih e = inr (ih e)

-- the elements of ys other than one that equals x
without : ℕ → List ℕ → List ℕ
without x [] = []
without x (y ∷ ys) = cond (eqb x y) ys (y ∷ without x ys)

without_length : (x : ℕ) (ys : List ℕ) → In x ys → suc (length (without x ys)) ≡ length ys
unfolding without
without_length x [] i = absurd i
without_length x (y ∷ ys) i = go (eqb x y) refl i (without_length x ys)
  where
    go : (b : Bool) → eqb x y ≡ b → (x ≡ y) ⊎ In x ys → (In x ys → suc (length (without x ys)) ≡ length ys) → suc (length (cond b ys (y ∷ without x ys))) ≡ suc (length ys)
    go true e i ih = refl
    go false e (inl p) ih = absurd (eqb-false x y e p)
    go false e (inr i) ih = ap suc (ih i)

without_in : (x z : ℕ) (ys : List ℕ) → (z ≡ x → ⊥) → In z ys → In z (without x ys)
unfolding without
without_in x z [] n i = absurd i
without_in x z (y ∷ ys) n i = go (eqb x y) refl i (without_in x z ys n)
  where
    go : (b : Bool) → eqb x y ≡ b → (z ≡ y) ⊎ In z ys → (In z ys → In z (without x ys)) → In z (cond b ys (y ∷ without x ys))
    go true e (inl p) ih = absurd (n (p ∙ sym (eqb-true x y e)))
    go true e (inr i) ih = i
    go false e (inl p) ih = inl p
    go false e (inr i) ih = inr (ih i)

pub different_fit : (xs ys : List ℕ) → Different xs → ((x : ℕ) → In x xs → In x ys) → length xs ≤ length ys
different_fit [] ys d h = omega arith
different_fit (x ∷ xs) ys d h =
    let other : (z : ℕ) → In z xs → z ≡ x → ⊥ = λ z i e. d.0 (rw e at i) in
    let rest : length xs ≤ length (without x ys) = different_fit xs (without x ys) d.1 (λ z i. without_in x z ys (other z i) (h z (inr i))) in
    omega (arith, without_length x ys (h x (inl refl)))

in_map : (f : ℕ → ℕ) (x : ℕ) (xs : List ℕ) → In x xs → In (f x) (map f xs)
in_map f x [] i = i
in_map f x (y ∷ ys) (inl e) = inl (ap f e)
in_map f x (y ∷ ys) (inr i) = inr (in_map f x ys i)

-- every element of gs is f of one of ds
abbrev Onto : (ℕ → ℕ) → List ℕ → List ℕ → Type 0
Onto f ds gs = (g : ℕ) → In g gs → (d : ℕ) × In d ds × (f d ≡ g)

pub onto_fit : (f : ℕ → ℕ) (ds gs : List ℕ) → Different gs → Onto f ds gs → length gs ≤ length ds
onto_fit f ds gs different onto =
    rw (length-map ds f) at (different_fit gs (map f ds) different (λ g i. let d = onto g i in rw d.2 at (in_map f d.0 ds d.1)))

pub onto_exact : (f : ℕ → ℕ) (ds gs : List ℕ) → Different gs → Onto f ds gs → length ds ≤ length gs → (x y : ℕ) → In x ds → In y ds → f x ≡ f y → x ≡ y
onto_exact f ds gs different onto few x y x_in y_in e = ⊎_elim (λ p. p) (λ n. absurd (spare n)) (equal_or_not x y)
  where
    -- without x there are still enough
    fewer : (x ≡ y → ⊥) → Onto f (without x ds) gs
    fewer n g i =
        let d = onto g i in
        go d.0 d.1 d.2 (equal_or_not d.0 x)
      where
        go : (d : ℕ) → In d ds → f d ≡ g → (d ≡ x) ⊎ (d ≡ x → ⊥) → (d : ℕ) × In d (without x ds) × (f d ≡ g)
        go d d_in p (inl q) = (y, without_in x y ds (λ r. n (sym r)) y_in, sym e ∙ ap f (sym q) ∙ p)
        go d d_in p (inr q) = (d, without_in x d ds q d_in, p)

    spare : (x ≡ y → ⊥) → ⊥
    spare n = omega (arith, onto_fit f (without x ds) gs different (fewer n), without_length x ds x_in, few)

-- how the different elements of a list that are not among seen come about
data After : List ℕ → List ℕ → List ℕ → Type 0 where
  none : {seen : List ℕ} → After seen [] []
  old : {seen xs ds : List ℕ} {x : ℕ} → is_in x seen ≡ true → After seen xs ds → After seen (x ∷ xs) ds
  new : {seen xs ds : List ℕ} {x : ℕ} → is_in x seen ≡ false → After (x ∷ seen) xs ds → After seen (x ∷ xs) (x ∷ ds)

after : (seen xs : List ℕ) → After seen xs (distinct_after seen xs)
after seen [] = none
after seen (x ∷ xs) = go (is_in x seen) refl (after seen xs) (after (x ∷ seen) xs)
  where
    go : (b : Bool) → is_in x seen ≡ b → {os ns : List ℕ} → After seen xs os → After (x ∷ seen) xs ns → After seen (x ∷ xs) (cond b os (x ∷ ns))
    go true e o n = old e o
    go false e o n = new e n

-- they are elements of the list, not among seen, and different

after_has : {seen xs ds : List ℕ} (x : ℕ) → After seen xs ds → In x xs → (In x seen → ⊥) → In x ds
after_has x none i n = i
after_has {seen} x (old {x = y} p a) (inl e) n = absurd (n (rw e (is_in_in y seen p)))
after_has x (old p a) (inr i) n = after_has x a i n
after_has x (new p a) (inl e) n = inl e
after_has x (new {x = y} p a) (inr i) n = ⊎_elim (λ e. inl e) (λ d. inr (after_has x a i (⊎_elim d n))) (equal_or_not x y)

after_of : {seen xs ds : List ℕ} (x : ℕ) → After seen xs ds → In x ds → In x xs × (In x seen → ⊥)
after_of x none i = absurd i
after_of x (old p a) i = let r = after_of x a i in (inr r.0, r.1)
after_of {seen} x (new {x = y} p a) (inl e) = (inl e, λ j. true≢false (sym (is_in-true y seen (rw e at j)) ∙ p))
after_of x (new p a) (inr i) = let r = after_of x a i in (inr r.0, λ j. r.1 (inr j))

after_different : {seen xs ds : List ℕ} → After seen xs ds → Different ds
after_different none = tt
after_different (old p a) = after_different a
after_different (new {x = x} p a) = (λ i. (after_of x a i).1 (inl refl), after_different a)

pub distinct_has : (x : ℕ) (xs : List ℕ) → In x xs → In x (distinct xs)
distinct_has x xs i = after_has x (after [] xs) i (λ i. i)

pub distinct_of : (x : ℕ) (xs : List ℕ) → In x (distinct xs) → In x xs
distinct_of x xs i = (after_of x (after [] xs) i).0

pub distinct_different : (xs : List ℕ) → Different (distinct xs)
distinct_different xs = after_different (after [] xs)

-- the place of an element

pub place_below : (x : ℕ) (xs : List ℕ) → In x xs → place_in x xs < length xs
place_below x [] i = absurd i
place_below x (y ∷ ys) i = go (eqb x y) refl i (place_below x ys)
  where
    go : (b : Bool) → eqb x y ≡ b → (x ≡ y) ⊎ In x ys → (In x ys → place_in x ys < length ys) → cond b 0 (suc (place_in x ys)) < suc (length ys)
    go true e i ih = omega arith
    go false e (inl p) ih = absurd (eqb-false x y e p)
    go false e (inr i) ih = omega (arith, ih i)

pub place_holds : (x : ℕ) (xs : List ℕ) → In x xs → get_or xs (place_in x xs) 0 ≡ x
place_holds x [] i = absurd i
place_holds x (y ∷ ys) i = go (eqb x y) refl i (place_holds x ys)
  where
    go : (b : Bool) → eqb x y ≡ b → (x ≡ y) ⊎ In x ys → (In x ys → get_or ys (place_in x ys) 0 ≡ x) → get_or (y ∷ ys) (cond b 0 (suc (place_in x ys))) 0 ≡ x
    go true e i ih = sym (eqb-true x y e)
    go false e (inl p) ih = absurd (eqb-false x y e p)
    go false e (inr i) ih = ih i

-- an element that stands further behind among the different ones was first used after the others
after_order : {seen xs ds : List ℕ} → After seen xs ds → (i k : ℕ) → i < length xs → (In (get_or xs i 0) seen → ⊥) → k < place_in (get_or xs i 0) ds → (j : ℕ) × (j < i) × (get_or xs j 0 ≡ get_or ds k 0)
after_order none i k h n b = absurd (omega arith)
after_order {seen} (old {x = y} p a) zero k h n b = absurd (n (is_in_in y seen p))
after_order (old p a) (suc i) k h n b = let r = after_order a i k (omega arith) n b in (suc r.0, omega (arith, r.1), r.2)
after_order (new {x = y} p a) zero k h n b = let z : k < 0 = rw (eq-eqb y y refl) at b in absurd (omega arith)
after_order (new p a) (suc i) zero h n b = (0, omega arith, refl)
after_order {seen} (new {xs = ys} {ds = ds} {x = y} p a) (suc i) (suc k) h n b = go (eqb (get_or ys i 0) y) refl b (after_order a i k (omega arith))
  where
    Earlier : Type 0
    Earlier = (j : ℕ) × (j < i) × (get_or ys j 0 ≡ get_or ds k 0)

    go : (t : Bool) → eqb (get_or ys i 0) y ≡ t → suc k < cond t 0 (suc (place_in (get_or ys i 0) ds)) → ((In (get_or ys i 0) (y ∷ seen) → ⊥) → k < place_in (get_or ys i 0) ds → Earlier) → (j : ℕ) × (j < suc i) × (get_or (y ∷ ys) j 0 ≡ get_or ds k 0)
    go true e b ih = absurd (omega arith)
    go false e b ih = let r = ih (⊎_elim (eqb-false (get_or ys i 0) y e) n) (omega arith) in (suc r.0, omega (arith, r.1), r.2)

pub distinct_order : (xs : List ℕ) (i k : ℕ) → i < length xs → k < place_in (get_or xs i 0) (distinct xs) → (j : ℕ) × (j < i) × (get_or xs j 0 ≡ get_or (distinct xs) k 0)
distinct_order xs i k h b = after_order (after [] xs) i k h (λ i. i) b

pub place_at : (xs : List ℕ) (i : ℕ) → Different xs → i < length xs → place_in (get_or xs i 0) xs ≡ i
place_at [] i d h = absurd (omega arith)
place_at (x ∷ xs) zero d h = rw (eq-eqb x x refl)
place_at (x ∷ xs) (suc i) d h =
    let other : get_or xs i 0 ≡ x → ⊥ = λ e. d.0 (rw e at (at_in 0 xs i (omega arith))) in
    rw (ne_eqb (get_or xs i 0) x other) (ap suc (place_at xs i d.1 (omega arith)))

-- three different elements make a list of at least three
pub three_in : (x y z : ℕ) (xs : List ℕ) → In x xs → In y xs → In z xs → (x ≡ y → ⊥) → (x ≡ z → ⊥) → (y ≡ z → ⊥) → 3 ≤ length xs
three_in x y z xs x_in y_in z_in x≢y x≢z y≢z = different_fit (x ∷ y ∷ z ∷ []) xs (⊎_elim x≢y (⊎_elim x≢z (λ i. i)), (⊎_elim y≢z (λ i. i), (λ i. i, tt))) each
  where
    each : (w : ℕ) → (w ≡ x) ⊎ (w ≡ y) ⊎ (w ≡ z) ⊎ ⊥ → In w xs
    each w (inl e) = rw e x_in
    each w (inr (inl e)) = rw e y_in
    each w (inr (inr (inl e))) = rw e z_in
    each w (inr (inr (inr i))) = absurd i

pub two_in : (x y : ℕ) (xs : List ℕ) → In x xs → In y xs → (x ≡ y → ⊥) → 2 ≤ length xs
two_in x y xs x_in y_in x≢y = different_fit (x ∷ y ∷ []) xs (⊎_elim x≢y (λ i. i), (λ i. i, tt)) each
  where
    each : (w : ℕ) → (w ≡ x) ⊎ (w ≡ y) ⊎ ⊥ → In w xs
    each w (inl e) = rw e x_in
    each w (inr (inl e)) = rw e y_in
    each w (inr (inr i)) = absurd i
