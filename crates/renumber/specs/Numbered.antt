-- What the renumbering asks of the work buffer, and what its passes leave. No contract of the cut or of the class call speaks of it.
--
--   CornerWords l c w      the vertices in w are the corners of the list l, and few
--   root_vertices w c e n  the vertices of those of the n corners from e on that have no earlier parent
--   Numbered               the numbers that are written over the first block, the map after and before, and how many roots there are
--   Renumbered             the new list, the map after and before, and the number of new vertices, for these labels
use Rattle.std.specs.Prelude.{ℕ, ◌+◌, ◌*◌, ◌<◌, ◌^◌, ◌≡◌, List, ◌++◌, map, ℤ, pos, length, get_or, drop}
use Rattle.list.specs.Faces.{corners}
use Rattle.order.specs.Choose.{choose, up_from}
use Rattle.groups.specs.Forest.{at, Forest, VertexWords, is_root}
use Rattle.renumber.specs.Renumber.{new_numbers, new_list_of, new_vertices, map_of}
use Rattle.list.specs.Written.{over}

pub record CornerWords (l : List ℤ) (c : ℕ) (w : List ℕ) : Type 0 where
  pub count : length (corners l) ≡ c
  pub words : VertexWords w c (2 ^ 31)
  pub entries : (e : ℕ) → e < c → get_or (corners l) e (pos 0) ≡ pos (at w (c + e))

abbrev pub root_vertices : List ℕ → ℕ → ℕ → ℕ → List ℕ
root_vertices w c e n = map (λ (i : ℕ). at w (c + i)) (choose (is_root w c) (up_from e n))

pub record Numbered (w : List ℕ) (c : ℕ) (w' : List ℕ) (old new : List ℤ) (roots : ℕ) : Type 0 where
  pub low : (j : ℕ) → j < c → at w' j < c
  pub back : new ≡ over (map pos (root_vertices w c 0 c)) old
  pub numbers : (labels : List ℕ) → Forest w (3 * c) labels → w' ≡ new_numbers labels ++ drop c w
  pub count : (labels : List ℕ) → Forest w (3 * c) labels → roots ≡ new_vertices labels

pub record Renumbered (l : List ℤ) (labels : List ℕ) (vertices : ℕ) (new_list map map' : List ℤ) : Type 0 where
  pub list : new_list ≡ new_list_of l labels
  pub back : map' ≡ over (map_of l labels) map
  pub count : vertices ≡ new_vertices labels
