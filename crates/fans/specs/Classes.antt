-- The class of a vertex (document 01, "Edges, fans and classes", 3).
--
--   touches v u            the use u has the vertex v for an endpoint
--   ends_edge kind us v    v is an endpoint of an edge whose number of faces is of that kind
--   has_face us v          v has a face
--   fans_at l v            the number of fans at v: the different fan labels of its corners
--   class_of l v            0 standalone; 3 endpoint of a singular edge; otherwise 4 if it has more than one fan; otherwise 2 if it
--                          is an endpoint of a boundary edge; otherwise 1
--   classes_of l n         the classes of the vertices 0 to n-1
--   singular_vertex_count l n  how many of them are of class 3 or 4
use Rattle.std.specs.Prelude.{ℕ, List, [], ◌∷◌, map, Bool, false, cond, ◌&&◌, ◌||◌, leb, ltb, eqb, ℤ, length}
use Rattle.order.specs.Choose.{count}
use Rattle.edges.specs.Uses.{Use, uses, uses_on, is_boundary, is_singular}
use Rattle.groups.specs.Groups.{up_to, fan_labels}
use Rattle.groups.specs.Distinct.{distinct}

abbrev pub touches : ℕ → Use → Bool
touches v u = eqb v u.from || eqb v u.to

-- one of the uses vs, among the uses us, touches v and is of an edge of that kind
abbrev pub ends_edge_of : (ℕ → Bool) → List Use → List Use → ℕ → Bool
ends_edge_of kind us [] v = false
ends_edge_of kind us (u ∷ vs) v = (touches v u && kind (length (uses_on us u.from u.to))) || ends_edge_of kind us vs v

abbrev pub ends_edge : (ℕ → Bool) → List Use → ℕ → Bool
ends_edge kind us v = ends_edge_of kind us us v

abbrev pub has_face : List Use → ℕ → Bool
has_face [] v = false
has_face (u ∷ us) v = eqb v u.from || has_face us v

-- the labels of the corners on v
abbrev pub labels_at : ℕ → List Use → List ℕ → List ℕ
labels_at v [] labels = []
labels_at v (u ∷ us) [] = []
labels_at v (u ∷ us) (x ∷ labels) = let rest = labels_at v us labels in cond (eqb v u.from) (x ∷ rest) rest

unfoldable pub fans_at : List ℤ → ℕ → ℕ
fans_at l v = length (distinct (labels_at v (uses l) (fan_labels l)))

unfoldable pub class_of : List ℤ → ℕ → ℕ
class_of l v =
    cond (has_face (uses l) v)
    (cond (ends_edge is_singular (uses l) v)
    3
    (cond (ltb 1 (fans_at l v)) 4 (cond (ends_edge is_boundary (uses l) v) 2 1)))
    0

unfoldable pub classes_of : List ℤ → ℕ → List ℕ
classes_of l n = map (class_of l) (up_to n)

abbrev pub is_singular_class : ℕ → Bool
is_singular_class k = leb 3 k

unfoldable pub singular_vertex_count : List ℤ → ℕ → ℕ
singular_vertex_count l n = count is_singular_class (classes_of l n)
