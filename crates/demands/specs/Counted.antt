-- What it means that a number counts something (document 01, "Numbers given back, and their order").
--
--   Counted P m          m is the number of things with the property P: they can be listed from 0 to m-1, each of them once
--   SingularEdge l       the property of a pair, lower vertex first, to be a singular edge of l
--   SingularVertex l n   the property of a vertex of l to be of class 3 or 4
use Rattle.std.specs.Prelude.{ℕ, ◌≤◌, ◌<◌, ◌≡◌, List, ◌⊎◌, ℤ}
use Rattle.edges.specs.Uses.{faces_on}
use Rattle.fans.specs.Classes.{class_of}

pub record Counted {A : Type 0} (P : A → Type 0) (m : ℕ) : Type 0 where
  pub nth : ℕ → A
  pub each : (i : ℕ) → i < m → P (nth i)
  pub all : (a : A) → P a → (i : ℕ) × (i < m) × (nth i ≡ a)
  pub once : (i j : ℕ) → i < m → j < m → nth i ≡ nth j → i ≡ j

abbrev pub SingularEdge : List ℤ → ℕ × ℕ → Type 0
SingularEdge l e = (e.0 < e.1) × (3 ≤ faces_on l e.0 e.1)

abbrev pub SingularVertex : List ℤ → ℕ → ℕ → Type 0
SingularVertex l n v = (v < n) × ((class_of l v ≡ 3) ⊎ (class_of l v ≡ 4))
