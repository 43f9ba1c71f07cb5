-- Edges and the faces on them (document 01, "Edges, fans and classes", 1).
--
--   Use                one use of an edge by a face: the corner where it starts, the next corner of the face (after the last
--                      the first), and the vertices of the two. It runs from the one to the other
--   uses l             the uses of the list l: one for each corner, in the order of the corners
--   no_use              what stands where there is no use
--   use_at l e         the use that starts at corner e of the list l
--   next_in m i        the place that follows place i in a face of m corners: after the last the first
--   lo u, hi u         the edge of the use u, an unordered pair: its lower and its higher vertex
--   is_edge v w a b    the edge between v and w is the one between a and b
--   on_edge a b u      u is a use of the edge between a and b, whichever way it runs
--   uses_on us a b     the uses of that edge
--   faces_on l a b     the number of faces on that edge; 0 where it is no edge
--   is_boundary, is_singular  of the number of faces on an edge: one, three or more
--   mate_of us u       the mate of the use u, what it meets across its edge: alone (no other face), the other use's corner, or many.
--                      That is crate mates' `Mate`, by the corners of the uses of its edge
--   singular_edge_count l  the number of edges of l with three or more faces
use Rattle.std.specs.Prelude.{ℕ, suc, ◌+◌, min, max, List, [], ◌∷◌, ◌++◌, map, Bool, cond, ◌&&◌, leb, eqb, ℤ, length, get_or}
use Rattle.list.specs.Faces.{runs, vertices}
use Rattle.order.specs.Choose.{choose, count}
use Rattle.mates.specs.Mates.{Mate, mate_among, starts_many}

pub record Use : Type 0 where
  pub corner : ℕ
  pub next : ℕ
  pub from : ℕ
  pub to : ℕ

-- the uses of a face from its corner c on vertex v to the end, its first corner being c₀ on vertex v₀
abbrev pub uses_to_end : ℕ → ℕ → ℕ → ℕ → List ℕ → List Use
uses_to_end c₀ v₀ c v [] = record { corner = c; next = c₀; from = v; to = v₀ } ∷ []
uses_to_end c₀ v₀ c v (w ∷ ws) = record { corner = c; next = c + 1; from = v; to = w } ∷ uses_to_end c₀ v₀ (c + 1) w ws

-- the uses of a face whose first corner is c
abbrev pub uses_of_face : ℕ → List ℕ → List Use
uses_of_face c [] = []
uses_of_face c (v ∷ vs) = uses_to_end c v c v vs

abbrev pub uses_from : ℕ → List (List ℤ) → List Use
uses_from c [] = []
uses_from c (r ∷ rs) = uses_of_face c (vertices r) ++ uses_from (c + length r) rs

abbrev pub uses : List ℤ → List Use
uses l = uses_from 0 (runs l)

abbrev pub no_use : Use
no_use = record { corner = 0; next = 0; from = 0; to = 0 }

abbrev pub use_at : List ℤ → ℕ → Use
use_at l e = get_or (uses l) e no_use

abbrev pub next_in : ℕ → ℕ → ℕ
next_in m i = cond (eqb (suc i) m) 0 (suc i)

abbrev pub lo : Use → ℕ
lo u = min u.from u.to

abbrev pub hi : Use → ℕ
hi u = max u.from u.to

abbrev pub is_edge : ℕ → ℕ → ℕ → ℕ → Bool
is_edge v w a b = eqb (min v w) (min a b) && eqb (max v w) (max a b)

abbrev pub on_edge : ℕ → ℕ → Use → Bool
on_edge a b u = is_edge u.from u.to a b

abbrev pub uses_on : List Use → ℕ → ℕ → List Use
uses_on us a b = choose (on_edge a b) us

abbrev pub faces_on : List ℤ → ℕ → ℕ → ℕ
faces_on l a b = length (uses_on (uses l) a b)

abbrev pub is_boundary : ℕ → Bool
is_boundary faces = eqb faces 1

abbrev pub is_singular : ℕ → Bool
is_singular faces = leb 3 faces

abbrev pub corners_of : List Use → List ℕ
corners_of us = map (λ (u : Use). u.corner) us

abbrev pub mate_of : List Use → Use → Mate
mate_of us u = mate_among u.corner (corners_of (uses_on us u.from u.to))

-- u is the first use of a singular edge
abbrev pub starts_singular : List Use → Use → Bool
starts_singular us u = starts_many u.corner (corners_of (uses_on us u.from u.to))

abbrev pub singular_edge_count : List ℤ → ℕ
singular_edge_count l = count (starts_singular (uses l)) (uses l)
