-- The different elements of a list, in the order of first use.
--
--   is_in x xs             x is one of xs
--   distinct xs            the different elements of xs, each where it is first used
--   place_in x xs           the place of x in xs
use Rattle.std.specs.Prelude.{ℕ, suc, List, [], ◌∷◌, Bool, false, cond, ◌||◌, eqb}

abbrev pub is_in : ℕ → List ℕ → Bool
is_in x [] = false
is_in x (y ∷ ys) = eqb x y || is_in x ys

-- the different elements of xs that are not among seen
abbrev pub distinct_after : List ℕ → List ℕ → List ℕ
distinct_after seen [] = []
distinct_after seen (x ∷ xs) =
    let old = distinct_after seen xs in
    let new = distinct_after (x ∷ seen) xs in
    cond (is_in x seen) old (x ∷ new)

abbrev pub distinct : List ℕ → List ℕ
distinct xs = distinct_after [] xs

abbrev pub place_in : ℕ → List ℕ → ℕ
place_in x [] = 0
place_in x (y ∷ ys) = cond (eqb x y) 0 (suc (place_in x ys))
