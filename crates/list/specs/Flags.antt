-- The flags of the repeat rule: a byte for each vertex, set while a long face is passed over.
--
--   seen_to vs j     the first j vertices of vs, the last of them in front
--   marked fs vs     the flags fs with those of vs set
--   Flags n fs       the flags fs serve n vertices, and are all 0
--   SetWithin vs fs  of the flags fs none but those of vertices of vs are set, and there is one for each of vs
--   Clear vs fs      the flags fs are all 0, and there is one for each vertex of vs
use Rattle.std.specs.Prelude.{ℕ, zero, suc, ◌≤◌, ◌<◌, ◌≡◌, List, [], ◌∷◌, false, length, get_or, set, replicate}
use Rattle.list.specs.Check.{elem}

abbrev pub seen_to : List ℕ → ℕ → List ℕ
seen_to vs zero = []
seen_to vs (suc j) = get_or vs j 0 ∷ seen_to vs j

abbrev pub marked : List ℕ → List ℕ → List ℕ
marked fs [] = fs
marked fs (v ∷ vs) = set (marked fs vs) v 1

-- a flag for each of n vertices and for the vertex 0, all of them 0
pub record Flags (n : ℕ) (fs : List ℕ) : Type 0 where
  pub each : n ≤ length fs
  pub some : 0 < length fs
  pub zeros : fs ≡ replicate (length fs) 0

pub record Clear (vs fs : List ℕ) : Type 0 where
  pub zeros : fs ≡ replicate (length fs) 0
  pub room : (j : ℕ) → j < length vs → get_or vs j 0 < length fs

pub record SetWithin (vs fs : List ℕ) : Type 0 where
  pub others : (v : ℕ) → elem v vs ≡ false → get_or fs v 0 ≡ 0
  pub room : (j : ℕ) → j < length vs → get_or vs j 0 < length fs
