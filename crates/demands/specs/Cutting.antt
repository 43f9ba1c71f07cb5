-- The parts of the cut by name (document 01, "Edges, fans and classes", 4 and 5).
--
--   Accepted l n    the check accepts the list l with the vertex count n
--   new_list l      the new list
--   new_map l       the map
--   new_count l     the number of new vertices
--   IsNewList l k   what document 01 says of the new list k for the list l: -1 at the same positions, at each corner a vertex, numbered
--                   in the order of first use, the same exactly for corners that links join
use Rattle.std.specs.Prelude.{ℕ, ◌≡◌, List, ◌↔◌, ℤ, pos, get_or}
use Rattle.list.specs.Faces.{corners}
use Rattle.list.specs.Check.{check_of}
use Rattle.groups.specs.Groups.{group_labels}
use Rattle.renumber.specs.Renumber.{new_list_of, new_vertices, map_of}
use Rattle.demands.specs.Joined.{Joined}
use Rattle.demands.specs.Renumbered.{Corner, vertex_at, ends, FirstUse}
use Rattle.demands.specs.Linked.{Linked}

abbrev pub Accepted : List ℤ → ℕ → Type 0
Accepted l n = (check_of l n).code ≡ 0

abbrev pub new_list : List ℤ → List ℤ
new_list l = new_list_of l (group_labels l)

abbrev pub new_map : List ℤ → List ℤ
new_map l = map_of l (group_labels l)

abbrev pub new_count : List ℤ → ℕ
new_count l = new_vertices (group_labels l)

pub record IsNewList (l k : List ℤ) : Type 0 where
  pub same_ends : ends k ≡ ends l
  pub vertices : (x : ℕ) → Corner l x → get_or (corners k) x (pos 0) ≡ pos (vertex_at k x)
  pub first_use : FirstUse k
  pub groups : (x y : ℕ) → Corner l x → Corner l y → (vertex_at k x ≡ vertex_at k y) ↔ Joined (Linked l) x y
