-- Labellings of the corners that a cut could make (the order, demand 3: fewest labels).
--
--   label_at labels x          the label of corner x
--   LinkedWithin l labels k   links across edges with two faces, between corners of label k
--   Labelling l labels        each corner has a label, and any two corners of one label lie on one vertex and are linked, through
--                             corners of that label, across edges at that vertex with exactly two faces
--   label_count labels        the number of different labels
use Rattle.std.specs.Prelude.{ℕ, ◌≡◌, List, ℤ, length, get_or}
use Rattle.list.specs.Faces.{corners}
use Rattle.groups.specs.Distinct.{distinct}
use Rattle.demands.specs.Joined.{Joined}
use Rattle.demands.specs.Renumbered.{Corner, vertex_at}
use Rattle.demands.specs.Linked.{Linked}

abbrev pub label_at : List ℕ → ℕ → ℕ
label_at labels x = get_or labels x 0

abbrev pub LinkedWithin : List ℤ → List ℕ → ℕ → ℕ → ℕ → Type 0
LinkedWithin l labels k x y = Linked l x y × (label_at labels x ≡ k) × (label_at labels y ≡ k)

pub record Labelling (l : List ℤ) (labels : List ℕ) : Type 0 where
  pub one_each : length labels ≡ length (corners l)
  pub one_vertex : (x y : ℕ) → Corner l x → Corner l y → label_at labels x ≡ label_at labels y → vertex_at l x ≡ vertex_at l y
  pub linked : (x y : ℕ) → Corner l x → Corner l y → label_at labels x ≡ label_at labels y → Joined (LinkedWithin l labels (label_at labels x)) x y

abbrev pub label_count : List ℕ → ℕ
label_count labels = length (distinct labels)
