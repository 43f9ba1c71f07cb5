-- Corners that are linked across an edge (document 01, "Edges, fans and classes", 2 and 4).
--
--   corner_by l e s      of the use that starts at corner e: the corner by whose side s it runs
--   Across l x s y t     the corners x and y lie on one vertex, and the edge by x's side s, which is that by y's side t, has two faces:
--                        those of x and y
--   Linked l x y         the faces of x and y are the only two faces on an edge at their vertex
--   OneFan l             round each vertex every corner is reached from every other across edges with two faces
use Rattle.std.specs.Prelude.{ℕ, ◌≡◌, List, true, ℤ}
use Rattle.edges.specs.Uses.{on_edge, faces_on, use_at}
use Rattle.demands.specs.Joined.{Joined, Side, starts, stops}
use Rattle.demands.specs.Renumbered.{Corner, vertex_at}

abbrev pub corner_by : List ℤ → ℕ → Side → ℕ
corner_by l e starts = e
corner_by l e stops = (use_at l e).next

pub record Across (l : List ℤ) (x : ℕ) (s : Side) (y : ℕ) (t : Side) : Type 0 where
  -- the two uses of the edge, by the corners where they start
  pub one : ℕ
  pub two : ℕ
  pub one_below : Corner l one
  pub two_below : Corner l two
  pub differ : one ≡ two → ⊥
  pub same_edge : on_edge (use_at l one).from (use_at l one).to (use_at l two) ≡ true
  pub two_faces : faces_on l (use_at l one).from (use_at l one).to ≡ 2
  pub x_is : x ≡ corner_by l one s
  pub y_is : y ≡ corner_by l two t
  pub same_vertex : vertex_at l x ≡ vertex_at l y

abbrev pub Linked : List ℤ → ℕ → ℕ → Type 0
Linked l x y = (s : Side) × (t : Side) × Across l x s y t

abbrev pub OneFan : List ℤ → Type 0
OneFan l = (x y : ℕ) → Corner l x → Corner l y → vertex_at l x ≡ vertex_at l y → Joined (Linked l) x y
