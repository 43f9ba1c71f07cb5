-- What the classes say of a vertex, in the words of document 01 ("Edges, fans and classes", 3).
--
--   Used l v            v is the vertex of a corner, so it has a face
--   Standalone l v      v has no face
--   EndsSingular l v    v is an endpoint of a singular edge
--   EndsBoundary l v    v is an endpoint of a boundary edge
--   ManyFans l v        v has more than one fan: two of its corners are joined by no links
use Rattle.std.specs.Prelude.{ℕ, ◌≤◌, ◌≡◌, List, ℤ}
use Rattle.edges.specs.Uses.{faces_on}
use Rattle.demands.specs.Joined.{Joined}
use Rattle.demands.specs.Renumbered.{Corner, vertex_at}
use Rattle.demands.specs.Linked.{Linked}

abbrev pub Used : List ℤ → ℕ → Type 0
Used l v = (x : ℕ) × Corner l x × (vertex_at l x ≡ v)

abbrev pub Standalone : List ℤ → ℕ → Type 0
Standalone l v = Used l v → ⊥

abbrev pub EndsSingular : List ℤ → ℕ → Type 0
EndsSingular l v = (w : ℕ) × (3 ≤ faces_on l v w)

abbrev pub EndsBoundary : List ℤ → ℕ → Type 0
EndsBoundary l v = (w : ℕ) × (faces_on l v w ≡ 1)

pub record ManyFans (l : List ℤ) (v : ℕ) : Type 0 where
  pub one : ℕ
  pub two : ℕ
  pub one_below : Corner l one
  pub two_below : Corner l two
  pub one_on : vertex_at l one ≡ v
  pub two_on : vertex_at l two ≡ v
  pub apart : Joined (Linked l) one two → ⊥
