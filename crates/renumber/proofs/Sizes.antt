-- The new list is as long as the list, and the map has an entry for each new vertex.
use Prim.Native.Nat.{ℕ, suc}
use mathlib.Core.Path.{◌≡◌, refl, ap}
use mathlib.Core.List.{List, [], ◌∷◌}
use mathlib.Core.Bool.{Bool, true, false, cond}
use lib.IntN.{ℤ, pos}
use lib.ListN.{length, get_or, length-map}
use Rattle.list.specs.Faces.{is_end, corners}
use Rattle.groups.specs.Distinct.{distinct, place_in}
use Rattle.renumber.specs.Renumber.{new_numbers, refilled, new_list_of, new_vertices, map_of}

refilled-length : (l : List ℤ) (ks : List ℕ) → length (refilled l ks) ≡ length l
refilled-length [] ks = refl
refilled-length (x ∷ xs) [] = ap suc (refilled-length xs [])
refilled-length (x ∷ xs) (k ∷ ks) = go (is_end x) (refilled-length xs (k ∷ ks)) (refilled-length xs ks)
  where
    go : (b : Bool) → length (refilled xs (k ∷ ks)) ≡ length xs → length (refilled xs ks) ≡ length xs
        → length (cond b (x ∷ refilled xs (k ∷ ks)) (pos k ∷ refilled xs ks)) ≡ suc (length xs)
    go true g h = ap suc g
    go false g h = ap suc h

pub new_list_length : (l : List ℤ) (labels : List ℕ) → length (new_list_of l labels) ≡ length l
unfolding new_list_of
new_list_length l labels = refilled-length l (new_numbers labels)

pub map-length : (l : List ℤ) (labels : List ℕ) → length (map_of l labels) ≡ new_vertices labels
unfolding map_of
map-length l labels = length-map (distinct labels) (λ (x : ℕ). get_or (corners l) (place_in x labels) (pos 0))
