-- Laws of choosing and counting, of numbers in a row, and of lists whose elements all have a property.
--
--   In x xs         x is an element of xs
--   Rising s xs     the numbers xs rise strictly, from s on
use Prim.Native.Nat.{ℕ, zero, suc, ◌+◌, ◌≤◌, ◌<◌}
use mathlib.Core.Path.{◌≡◌, refl, sym, ◌∙◌, ap}
use mathlib.Core.Bool.{Bool, true, false, cond}
use mathlib.Core.List.{List, [], ◌∷◌, ◌++◌, map}
use mathlib.Core.Logic.{◌⊎◌, inl, inr, ⊎_elim}
use native.Mathlib.Omega.{arith}
use native.Mathlib.Nat.{add-zero, add-suc, suc-add, zero-add, eq-or-lt_of_le}
use lib.ListN.{length, get_or}
use Rattle.order.specs.Choose.{choose, All, up_from}

module _ {A : Type 0} where
  abbrev pub In : A → List A → Type 0
  In x [] = ⊥
  In x (y ∷ ys) = (x ≡ y) ⊎ In x ys

  pub all_of : (P : A → Type 0) (d : A) (xs : List A) → ((i : ℕ) → i < length xs → P (get_or xs i d)) → All P xs
  all_of P d [] h = tt
  all_of P d (x ∷ xs) h = (h 0 (omega arith), all_of P d xs (λ i hi. h (suc i) (omega arith)))

  pub all_at : (P : A → Type 0) (d : A) (xs : List A) → All P xs → (i : ℕ) → i < length xs → P (get_or xs i d)
  all_at P d [] a i h = absurd (omega arith)
  all_at P d (x ∷ xs) a zero h = a.0
  all_at P d (x ∷ xs) a (suc i) h = all_at P d xs a.1 i (omega arith)

  pub all_append : (P : A → Type 0) (xs ys : List A) → All P xs → All P ys → All P (xs ++ ys)
  all_append P [] ys a b = b
  all_append P (x ∷ xs) ys a b = (a.0, all_append P xs ys a.1 b)

  pub all_map : (P Q : A → Type 0) (xs : List A) → ((x : A) → P x → Q x) → All P xs → All Q xs
  all_map P Q [] f a = tt
  all_map P Q (x ∷ xs) f a = (f x a.0, all_map P Q xs f a.1)

  pub all_both : (P Q : A → Type 0) (xs : List A) → All P xs → All Q xs → All (λ (x : A). P x × Q x) xs
  all_both P Q [] a b = tt
  all_both P Q (x ∷ xs) a b = ((a.0, b.0), all_both P Q xs a.1 b.1)

  pub all_in : (P : A → Type 0) (xs : List A) → ((x : A) → In x xs → P x) → All P xs
  all_in P [] f = tt
  all_in P (x ∷ xs) f = (f x (inl refl), all_in P xs (λ y h. f y (inr h)))

  pub choose-append : (p : A → Bool) (xs ys : List A) → choose p (xs ++ ys) ≡ choose p xs ++ choose p ys
  choose-append p [] ys = refl
  choose-append p (x ∷ xs) ys = go (p x) (choose-append p xs ys)
    where
      go : (b : Bool) → choose p (xs ++ ys) ≡ choose p xs ++ choose p ys → cond b (x ∷ choose p (xs ++ ys)) (choose p (xs ++ ys)) ≡ cond b (x ∷ choose p xs) (choose p xs) ++ choose p ys
      go true e = ap (λ (l : List A). x ∷ l) e
      go false e = e

  pub choose_none : (p : A → Bool) (xs : List A) → All (λ (x : A). p x ≡ false) xs → choose p xs ≡ []
  choose_none p [] a = refl
  choose_none p (x ∷ xs) a = rw a.0 (choose_none p xs a.1)

  pub choose_all : (p : A → Bool) (xs : List A) → All (λ (x : A). p x ≡ true) xs → choose p xs ≡ xs
  choose_all p [] a = refl
  choose_all p (x ∷ xs) a = rw a.0 (ap (λ (l : List A). x ∷ l) (choose_all p xs a.1))

  pub choose_same : (p q : A → Bool) (xs : List A) → All (λ (x : A). p x ≡ q x) xs → choose p xs ≡ choose q xs
  choose_same p q [] a = refl
  choose_same p q (x ∷ xs) a = rw (a.0, choose_same p q xs a.1)

  pub in_choose : (p : A → Bool) (x : A) (xs : List A) → In x xs → p x ≡ true → In x (choose p xs)
  in_choose p x [] h e = h
  in_choose p x (y ∷ ys) (inl q) e = rw (sym (ap p q) ∙ e) (inl q)
  in_choose p x (y ∷ ys) (inr h) e = go (p y) (in_choose p x ys h e)
    where
      go : (b : Bool) → In x (choose p ys) → In x (cond b (y ∷ choose p ys) (choose p ys))
      go true i = inr i
      go false i = i

  pub in_chosen : (p : A → Bool) (x : A) (xs : List A) → In x (choose p xs) → In x xs × (p x ≡ true)
  in_chosen p x [] h = absurd h
  in_chosen p x (y ∷ ys) h = go (p y) refl (in_chosen p x ys) h
    where
      go : (b : Bool) → p y ≡ b → (In x (choose p ys) → In x ys × (p x ≡ true)) → In x (cond b (y ∷ choose p ys) (choose p ys)) → In x (y ∷ ys) × (p x ≡ true)
      go true e ih (inl q) = (inl q, ap p q ∙ e)
      go true e ih (inr i) = (inr (ih i).0, (ih i).1)
      go false e ih i = (inr (ih i).0, (ih i).1)

  pub in_at : (d x : A) (xs : List A) → In x xs → (p : ℕ) × (p < length xs) × (get_or xs p d ≡ x)
  in_at d x [] i = absurd i
  in_at d x (y ∷ ys) (inl e) = (0, omega arith, sym e)
  in_at d x (y ∷ ys) (inr i) = let r = in_at d x ys i in (suc r.0, omega (arith, r.1), r.2)

  pub at_in : (d : A) (xs : List A) (i : ℕ) → i < length xs → In (get_or xs i d) xs
  at_in d [] i h = absurd (omega arith)
  at_in d (x ∷ xs) zero h = inl refl
  at_in d (x ∷ xs) (suc i) h = inr (at_in d xs i (omega arith))

  pub choose_some : (p : A → Bool) (x : A) (xs : List A) → In x xs → p x ≡ true → 0 < length (choose p xs)
  choose_some p x xs i e = omega (arith, (in_at x x (choose p xs) (in_choose p x xs i e)).1)

  pub choose_few : (p : A → Bool) (xs : List A) → length (choose p xs) ≤ length xs
  choose_few p [] = omega arith
  choose_few p (x ∷ xs) = go (p x) (choose_few p xs)
    where
      go : (b : Bool) → length (choose p xs) ≤ length xs → length (cond b (x ∷ choose p xs) (choose p xs)) ≤ suc (length xs)
      go true h = omega arith
      go false h = omega arith

  -- a property that no two elements share holds of one at most
  pub choose_one : (p : A → Bool) (d : A) (xs : List A) → ((i j : ℕ) → i < j → j < length xs → p (get_or xs i d) ≡ true → p (get_or xs j d) ≡ true → ⊥) → length (choose p xs) ≤ 1
  choose_one p d [] h = omega arith
  choose_one p d (x ∷ xs) h = go (p x) refl (choose_one p d xs (λ i j l m. h (suc i) (suc j) (omega arith) (omega arith)))
    where
      other : p x ≡ true → (b : Bool) (i : ℕ) → i < length xs → p (get_or xs i d) ≡ b → b ≡ false
      other e true i m q = absurd (h 0 (suc i) (omega arith) (omega arith) e q)
      other e false i m q = refl

      go : (b : Bool) → p x ≡ b → length (choose p xs) ≤ 1 → length (cond b (x ∷ choose p xs) (choose p xs)) ≤ 1
      go true e ih = rw (choose_none p xs (all_of (λ (y : A). p y ≡ false) d xs (λ i m. other e (p (get_or xs i d)) i m refl))) (omega arith)
      go false e ih = ih

module _ {A B : Type 0} where
  pub map-append : (f : A → B) (xs ys : List A) → map f (xs ++ ys) ≡ map f xs ++ map f ys
  map-append f [] ys = refl
  map-append f (x ∷ xs) ys = ap (λ (l : List B). f x ∷ l) (map-append f xs ys)

  pub get_or-mapped : (f : A → B) (xs : List A) (i : ℕ) (d : A) (b : B) → i < length xs → get_or (map f xs) i b ≡ f (get_or xs i d)
  get_or-mapped f [] i d b h = absurd (omega arith)
  get_or-mapped f (x ∷ xs) zero d b h = refl
  get_or-mapped f (x ∷ xs) (suc i) d b h = get_or-mapped f xs i d b (omega arith)

  -- to choose among the images is to choose by the image
  pub choose-map : (p : B → Bool) (f : A → B) (xs : List A) → choose p (map f xs) ≡ map f (choose (λ (x : A). p (f x)) xs)
  choose-map p f [] = refl
  choose-map p f (x ∷ xs) = go (p (f x)) (choose-map p f xs)
    where
      go : (b : Bool) → choose p (map f xs) ≡ map f (choose (λ (y : A). p (f y)) xs) → cond b (f x ∷ choose p (map f xs)) (choose p (map f xs)) ≡ map f (cond b (x ∷ choose (λ (y : A). p (f y)) xs) (choose (λ (y : A). p (f y)) xs))
      go true e = ap (λ (l : List B). f x ∷ l) e
      go false e = e

pub length-up_from : (s m : ℕ) → length (up_from s m) ≡ m
length-up_from s zero = refl
length-up_from s (suc m) = ap suc (length-up_from (suc s) m)

pub up_from-add : (s m k : ℕ) → up_from s (m + k) ≡ up_from s m ++ up_from (s + m) k
up_from-add s zero k = rw (zero-add, add-zero)
up_from-add s (suc m) k = rw (suc-add, add-suc s m, ← suc-add s m) (ap (λ (l : List ℕ). s ∷ l) (up_from-add (suc s) m k))

pub up_from_snoc : (s m : ℕ) → up_from s (m + 1) ≡ up_from s m ++ ((s + m) ∷ [])
up_from_snoc s m = up_from-add s m 1

pub get_or-up_from : (s m i d : ℕ) → i < m → get_or (up_from s m) i d ≡ s + i
get_or-up_from s zero i d h = absurd (omega arith)
get_or-up_from s (suc m) zero d h = omega arith
get_or-up_from s (suc m) (suc i) d h = omega (arith, get_or-up_from (suc s) m i d (omega arith))

pub in_up_from : (s m x : ℕ) → s ≤ x → x < s + m → In x (up_from s m)
in_up_from s zero x h k = absurd (omega arith)
in_up_from s (suc m) x h k = ⊎_elim (λ e. inl (sym e)) (λ l. inr (in_up_from (suc s) m x l (omega arith))) (eq-or-lt_of_le h)

pub up_from_in : (s m x : ℕ) → In x (up_from s m) → (s ≤ x) × (x < s + m)
up_from_in s zero x h = absurd h
up_from_in s (suc m) x (inl e) = (omega arith, omega arith)
up_from_in s (suc m) x (inr h) = let r : (suc s ≤ x) × (x < suc s + m) = up_from_in (suc s) m x h in (omega arith, omega arith)

abbrev pub Rising : ℕ → List ℕ → Type 0
Rising s [] = Unit {0}
Rising s (x ∷ xs) = (s ≤ x) × Rising (suc x) xs

pub rising_lower : (s t : ℕ) (xs : List ℕ) → s ≤ t → Rising t xs → Rising s xs
rising_lower s t [] h r = tt
rising_lower s t (x ∷ xs) h r = (omega arith, r.1)

pub rising_up_from : (s m : ℕ) → Rising s (up_from s m)
rising_up_from s zero = tt
rising_up_from s (suc m) = (omega arith, rising_up_from (suc s) m)

pub rising_choose : (p : ℕ → Bool) (s : ℕ) (xs : List ℕ) → Rising s xs → Rising s (choose p xs)
rising_choose p s [] r = tt
rising_choose p s (x ∷ xs) r = go (p x) (rising_choose p (suc x) xs r.1)
  where
    go : (b : Bool) → Rising (suc x) (choose p xs) → Rising s (cond b (x ∷ choose p xs) (choose p xs))
    go true q = (r.0, q)
    go false q = rising_lower s (suc x) (choose p xs) (omega arith) q

pub rising_above : (s : ℕ) (xs : List ℕ) → Rising s xs → All (λ (x : ℕ). s ≤ x) xs
rising_above s [] r = tt
rising_above s (x ∷ xs) r = (r.0, all_map (λ (y : ℕ). suc x ≤ y) (λ (y : ℕ). s ≤ y) xs (λ y h. omega arith) (rising_above (suc x) xs r.1))

pub map-up_from : {A : Type 0} (f : ℕ → A) (s m : ℕ) → map f (up_from (suc s) m) ≡ map (λ (i : ℕ). f (suc i)) (up_from s m)
map-up_from f s zero = refl
map-up_from {A} f s (suc m) = ap (λ (l : List A). f (suc s) ∷ l) (map-up_from f (suc s) m)

-- a list is the table of its own elements
pub from_table : {A : Type 0} (d : A) (xs : List A) → map (λ (i : ℕ). get_or xs i d) (up_from 0 (length xs)) ≡ xs
from_table d [] = refl
from_table {A} d (x ∷ xs) = ap (λ (l : List A). x ∷ l) (map-up_from (λ (i : ℕ). get_or (x ∷ xs) i d) 0 (length xs) ∙ from_table d xs)
