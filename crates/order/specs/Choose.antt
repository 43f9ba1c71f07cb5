-- Choosing and counting in a list, and numbers in a row.
--
--   choose p xs    the elements of xs that p holds of, in their order
--   count p xs     how many there are
--   All P xs       every element of xs has the property P
--   up_from s m     s, s+1, .. : m numbers in a row
use Rattle.std.specs.Prelude.{ℕ, zero, suc, List, [], ◌∷◌, Bool, cond, length}

module _ {A : Type 0} where
  abbrev pub choose : (A → Bool) → List A → List A
  choose p [] = []
  choose p (x ∷ xs) = let chosen = choose p xs in cond (p x) (x ∷ chosen) chosen

  abbrev pub count : (A → Bool) → List A → ℕ
  count p xs = length (choose p xs)

  abbrev pub All : (A → Type 0) → List A → Type 0
  All P [] = Unit {0}
  All P (x ∷ xs) = P x × All P xs

abbrev pub up_from : ℕ → ℕ → List ℕ
up_from s zero = []
up_from s (suc m) = s ∷ up_from (suc s) m
