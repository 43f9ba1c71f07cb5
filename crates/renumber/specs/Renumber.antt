-- A list numbered afresh by labels of its corners (document 01, "Edges, fans and classes", 4 and 5). It knows nothing of edges.
--
--   new_numbers labels     each corner's new vertex: its label's place among the different labels in the order of first use
--   new_list_of l labels   the new list: the input's length, -1 at the same positions, at each corner its new vertex
--   new_vertices labels    the number of new vertices
--   map_of l labels        for each new vertex the input vertex of its earliest corner
use Rattle.std.specs.Prelude.{ℕ, List, [], ◌∷◌, map, cond, ℤ, pos, length, get_or}
use Rattle.list.specs.Faces.{is_end, corners}
use Rattle.groups.specs.Distinct.{distinct, place_in}

unfoldable pub new_numbers : List ℕ → List ℕ
new_numbers labels = let d = distinct labels in map (λ (x : ℕ). place_in x d) labels

-- the numbers stand at the corners of l, in their order
abbrev pub refilled : List ℤ → List ℕ → List ℤ
refilled [] numbers = []
refilled (x ∷ xs) [] = x ∷ refilled xs []
refilled (x ∷ xs) (k ∷ ks) =
    let kept = refilled xs (k ∷ ks) in
    let filled = refilled xs ks in
    cond (is_end x) (x ∷ kept) (pos k ∷ filled)

unfoldable pub new_list_of : List ℤ → List ℕ → List ℤ
new_list_of l labels = refilled l (new_numbers labels)

abbrev pub new_vertices : List ℕ → ℕ
new_vertices labels = length (distinct labels)

unfoldable pub map_of : List ℤ → List ℕ → List ℤ
map_of l labels = map (λ (x : ℕ). get_or (corners l) (place_in x labels) (pos 0)) (distinct labels)
