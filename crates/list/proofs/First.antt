-- Laws of the first entry with a property, and of a place that is told where it is one.
use Prim.Native.Nat.{ℕ, suc, ◌+◌, ◌≤◌, ◌<◌}
use mathlib.Core.Path.{◌≡◌, refl, ◌∙◌, ap}
use mathlib.Core.Bool.{Bool, true, false, cond, not}
use borrow.Author.Tests.{lt-ltb, le-ltb}
use mathlib.Core.List.{List}
use native.Mathlib.Omega.{arith}
use native.Mathlib.Decide.{dec_lt}
use lib.IntN.{ℤ, pos}
use lib.ListN.{length, get_or}
use Rattle.std.specs.Prelude.{Some, None, unwrap_or}
use Rattle.std.specs.List.{position_or_len}
use Rattle.std.proofs.lemmas.List.Recursion.{is_position_or_len}
use Rattle.std.proofs.lemmas.List.Sums.{prefix_len-le-length, fails_before_first, passes_at_first, position_or_len_is}
use Rattle.list.specs.Faces.{first_where, place_or_none}

-- the first place is the library's
pub first_position : (p : ℤ → Bool) (l : List ℤ) → first_where p l ≡ position_or_len p l
first_position p l = is_position_or_len (first_where p) p refl (λ x xs. next (p x) (first_where p xs)) l
  where
    next : (b : Bool) (k : ℕ) → cond b 0 (suc k) ≡ cond b 0 (1 + k)
    next b k = ap (cond b 0) (omega arith)

pub first_fits : (p : ℤ → Bool) (l : List ℤ) → first_where p l ≤ length l
first_fits p l = rw first_position (prefix_len-le-length (λ x. not (p x)) l)

pub first_before : (p : ℤ → Bool) (l : List ℤ) (i : ℕ) → i < first_where p l → p (get_or l i (pos 0)) ≡ false
first_before p l i h = fails_before_first p l i (pos 0) (rw first_position at h)

pub first_none : (p : ℤ → Bool) (l : List ℤ) → length l ≤ first_where p l → (i : ℕ) → i < length l → p (get_or l i (pos 0)) ≡ false
first_none p l h i q = first_before p l i (omega arith)

pub first_found : (p : ℤ → Bool) (l : List ℤ) → first_where p l < length l → p (get_or l (first_where p l) (pos 0)) ≡ true
first_found p l h = rw first_position (passes_at_first p l (pos 0) (rw first_position at h))

-- an entry with the property, and none before it, is the first one
pub first_only : (p : ℤ → Bool) (l : List ℤ) (i : ℕ) → i < length l → p (get_or l i (pos 0)) ≡ true → ((j : ℕ) → j < i → p (get_or l j (pos 0)) ≡ false) → first_where p l ≡ i
first_only p l i h e none = first_position p l ∙ position_or_len_is p l i (pos 0) (omega arith) none (λ _. e)

-- a place of a list, or none: what each says of the place r
module _ {A : Type 0} (l : List A) where
  pub placed : (i r : ℕ) → i < length l → i ≡ r → Some i ≡ place_or_none l r
  placed i r h e = rw (← e, lt-ltb i (length l) h)

  pub unplaced : (r : ℕ) → length l ≤ r → None ≡ place_or_none l r
  unplaced r h = rw (le-ltb r (length l) h)

  pub place_some : (i r : ℕ) → Some i ≡ place_or_none l r → (i ≡ r) × (r < length l)
  place_some i r e = go (dec_lt r (length l))
    where
      go : Dec (r < length l) → (i ≡ r) × (r < length l)
      go (yes h) = let e' = rw (lt-ltb r (length l) h) at e in (cc, h)
      go (no h) = let e' = rw (le-ltb r (length l) (omega arith)) at e in (cc)

  pub place_none : (r : ℕ) → None ≡ place_or_none l r → length l ≤ r
  place_none r e = go (dec_lt r (length l))
    where
      go : Dec (r < length l) → length l ≤ r
      go (yes h) = let e' = rw (lt-ltb r (length l) h) at e in (cc)
      go (no h) = omega arith

  -- the place, or else the length, is the place
  pub place_taken : (r : ℕ) → r ≤ length l → unwrap_or (place_or_none l r) (length l) ≡ r
  place_taken r h = go (dec_lt r (length l))
    where
      go : Dec (r < length l) → unwrap_or (place_or_none l r) (length l) ≡ r
      go (yes q) = rw (lt-ltb r (length l) q)
      go (no q) = rw (le-ltb r (length l) (omega arith)) (omega arith)
