-- What is said of a list and of its renumbered copy (document 01, "Edges, fans and classes", 4 and 5).
--
--   Corner l x       x is a corner of the list l
--   vertex_at l x    the vertex of corner x
--   ends l           for each position whether the entry there is -1
--   mapped m l       the list l, each index replaced by its entry of the map m
--   FirstUse l       the vertices are numbered 0, 1, 2 in the order of first use: each vertex below that of a corner is that of an
--                    earlier corner
use Rattle.std.specs.Prelude.{ℕ, ◌<◌, ◌≡◌, List, [], ◌∷◌, map, Bool, cond, ℤ, pos, length, get_or}
use Rattle.list.specs.Faces.{is_end, corners, num}

abbrev pub Corner : List ℤ → ℕ → Type 0
Corner l x = x < length (corners l)

abbrev pub vertex_at : List ℤ → ℕ → ℕ
vertex_at l x = num (get_or (corners l) x (pos 0))

abbrev pub ends : List ℤ → List Bool
ends l = map is_end l

abbrev pub mapped : List ℤ → List ℤ → List ℤ
mapped m [] = []
mapped m (x ∷ xs) = cond (is_end x) x (get_or m (num x) (pos 0)) ∷ mapped m xs

abbrev pub FirstUse : List ℤ → Type 0
FirstUse l = (x : ℕ) → Corner l x → (v : ℕ) → v < vertex_at l x → (y : ℕ) × (y < x) × (vertex_at l y ≡ v)
