-- The places of the roots: among the roots in ascending order, which are the different labels in the order of first use, and among
-- the labels.
use Prim.Native.Nat.{ℕ, zero, suc, ◌+◌, ◌-◌, ◌≤◌, ◌<◌}
use mathlib.Core.Path.{◌≡◌, refl, sym, ◌∙◌, ap}
use mathlib.Core.Bool.{Bool, true, false, cond, ◌&&◌}
use mathlib.Core.List.{List, [], ◌∷◌}
use native.Mathlib.Numerals.{add-one}
use native.Mathlib.Omega.{arith}
use borrow.Author.Tests.{eqb-true, eqb-false, eq-eqb, ne_eqb}
use lib.Dec.{eqb}
use lib.ListN.{length}
use Rattle.groups.specs.Distinct.{distinct, place_in}
use Rattle.groups.specs.Forest.{at}
use Rattle.groups.proofs.Counting.{count_down}
use Rattle.groups.proofs.Roots.{Earliest, roots_in, pick, distinct_roots}

module _ (q : ℕ → Bool) (labels : List ℕ) where
  abbrev is_root : ℕ → Bool
  is_root i = eqb (at labels i) i && q i

  pub roots_split : (c e : ℕ) → e < c → (t : Bool) → is_root e ≡ t → roots_in q labels e (c - e) ≡ cond t (e ∷ roots_in q labels (e + 1) (c - (e + 1))) (roots_in q labels (e + 1) (c - (e + 1)))
  roots_split c e h t d = rw (count_down c e h, add-one e, ← d)

  -- a root's place among the roots: with the roots from it on it makes up all of them
  pub root_place : (n s e : ℕ) → s ≤ e → e < s + n → is_root e ≡ true → place_in e (roots_in q labels s n) + length (roots_in q labels e (s + n - e)) ≡ length (roots_in q labels s n)
  root_place zero s e a b r = absurd (omega arith)
  root_place (suc n) s e a b r = go (eqb e s) refl (root_place n (suc s) e)
    where
      go : (t : Bool) → eqb e s ≡ t → (suc s ≤ e → e < suc s + n → is_root e ≡ true → place_in e (roots_in q labels (suc s) n) + length (roots_in q labels e (suc s + n - e)) ≡ length (roots_in q labels (suc s) n)) → place_in e (roots_in q labels s (suc n)) + length (roots_in q labels e (s + suc n - e)) ≡ length (roots_in q labels s (suc n))
      go true d ih =
          let same : e ≡ s = eqb-true e s d in
          let here : is_root s ≡ true = rw same at r in
          let all : s + suc n - s ≡ suc n = omega arith in
          rw (same, all, here, eq-eqb s s refl) (omega arith)
      go false d ih = later (is_root s) refl
        where
          shift : s + suc n - e ≡ suc s + n - e
          shift = omega arith

          rest : place_in e (roots_in q labels (suc s) n) + length (roots_in q labels e (suc s + n - e)) ≡ length (roots_in q labels (suc s) n)
          rest = ih (omega (arith, eqb-false e s d)) (omega arith) r

          later : (t : Bool) → is_root s ≡ t → place_in e (roots_in q labels s (suc n)) + length (roots_in q labels e (s + suc n - e)) ≡ length (roots_in q labels s (suc n))
          later true u = rw (shift, u, d) (omega (arith, rest))
          later false u = rw (shift, u) rest

pick_all : (e : ℕ) (xs : List ℕ) → pick (λ (i : ℕ). true) e xs ≡ xs
pick_all e [] = refl
pick_all e (x ∷ xs) = ap (λ (r : List ℕ). x ∷ r) (pick_all (suc e) xs)

-- the roots of all corners
abbrev pub any_corner : ℕ → Bool
any_corner i = true

module _ (labels : List ℕ) (E : Earliest labels) where
  pub distinct_all : distinct labels ≡ roots_in any_corner labels 0 (length labels)
  distinct_all = ap distinct (sym (pick_all 0 labels)) ∙ distinct_roots any_corner labels E (λ i h. refl)

-- the place of what stands at i and nowhere before
place_first : (xs : List ℕ) (x i : ℕ) → i < length xs → at xs i ≡ x → ((j : ℕ) → j < i → at xs j ≡ x → ⊥) → place_in x xs ≡ i
place_first [] x i h e n = absurd (omega arith)
place_first (y ∷ ys) x zero h e n = rw (eq-eqb x y (sym e))
place_first (y ∷ ys) x (suc i) h e n =
    rw (ne_eqb x y (λ d. n 0 (omega arith) (sym d)))
    (ap suc (place_first ys x i (omega arith) e (λ j l. n (suc j) (omega arith))))

-- a root's first use is itself
pub place_of_root : (labels : List ℕ) → Earliest labels → (e : ℕ) → e < length labels → at labels e ≡ e → place_in e labels ≡ e
place_of_root labels E e h r = place_first labels e e h r (λ j l d. omega (arith, E.below j (omega arith)))
