-- The rows of the code table that the check uses, in the table's words (document 01, "Numbers given back, and their order").
--
--   Outside n z        the entry z is below -1 or at least n
--   run l k            the entries of face k
--   start_of l k        where face k starts
--   Within l n         the limits are kept: no code before 3 is given
--   FirstFaulty l n k  face k is there, and every face before it is valid
--   Row3, Row4, Row5   code 3, 4, 5 is given with place p at the first faulty face, in that order within it
--   Row l n c p        code c is given with place p for the list l and the vertex count n; 0 where the list is valid
use Rattle.std.specs.Prelude.{ℕ, zero, suc, ◌+◌, ◌≤◌, ◌<◌, ◌≡◌, List, [], ℤ, pos, negsuc, length, get_or}
use Rattle.list.specs.Limits.{max_entries, max_vertices}
use Rattle.list.specs.Faces.{runs}
use Rattle.list.specs.Check.{ValidFace, Valid}
use Rattle.list.specs.Show.{span_of}

pub data Outside (n : ℕ) : ℤ → Type 0 where
  below : (m : ℕ) → Outside n (negsuc (suc m))
  at_least : (v : ℕ) → n ≤ v → Outside n (pos v)

abbrev pub run : List ℤ → ℕ → List ℤ
run l k = get_or (runs l) k []

abbrev pub start_of : List ℤ → ℕ → ℕ
start_of l k = (span_of l k).start

pub record Within (l : List ℤ) (n : ℕ) : Type 0 where
  pub few_entries : length l ≤ max_entries
  pub few_vertices : n ≤ max_vertices

pub record FirstFaulty (l : List ℤ) (n k : ℕ) : Type 0 where
  pub there : k < length (runs l)
  pub earlier : (j : ℕ) → j < k → ValidFace n (run l j)

-- an entry below -1 or at least n: the position of the first in its face
pub record Row3 (l : List ℤ) (n p : ℕ) : Type 0 where
  pub face : ℕ
  pub faulty : FirstFaulty l n face
  pub place : ℕ
  pub inside : place < length (run l face)
  pub out : Outside n (get_or (run l face) place (pos 0))
  pub first : (i : ℕ) → i < place → Outside n (get_or (run l face) i (pos 0)) → ⊥
  pub position : p ≡ start_of l face + place

-- no entry of the face is outside
abbrev pub NoneOutside : ℕ → List ℤ → Type 0
NoneOutside n r = (i : ℕ) → i < length r → Outside n (get_or r i (pos 0)) → ⊥

-- a face with fewer than 3 entries: where the face starts
pub record Row4 (l : List ℤ) (n p : ℕ) : Type 0 where
  pub face : ℕ
  pub faulty : FirstFaulty l n face
  pub none_out : NoneOutside n (run l face)
  pub short : length (run l face) < 3
  pub position : p ≡ start_of l face

-- entry j of the face equals an earlier one
pub record RepeatAt (r : List ℤ) (j : ℕ) : Type 0 where
  pub earlier : ℕ
  pub before : earlier < j
  pub equal : get_or r earlier (pos 0) ≡ get_or r j (pos 0)

-- an index twice in a face: the first entry equal to an earlier one of its face
pub record Row5 (l : List ℤ) (n p : ℕ) : Type 0 where
  pub face : ℕ
  pub faulty : FirstFaulty l n face
  pub none_out : NoneOutside n (run l face)
  pub long : 3 ≤ length (run l face)
  pub place : ℕ
  pub inside : place < length (run l face)
  pub again : RepeatAt (run l face) place
  pub first : (j : ℕ) → j < place → RepeatAt (run l face) j → ⊥
  pub position : p ≡ start_of l face + place

-- code c is given with place p: in the order of the codes, each where no earlier one is
abbrev pub Row : List ℤ → ℕ → ℕ → ℕ → Type 0
Row l n zero p = Valid l n × (p ≡ 0)
Row l n (suc zero) p = (max_entries < length l) × (p ≡ 0)
Row l n (suc (suc zero)) p = (length l ≤ max_entries) × (max_vertices < n) × (p ≡ 0)
Row l n (suc (suc (suc zero))) p = Within l n × Row3 l n p
Row l n (suc (suc (suc (suc zero)))) p = Within l n × Row4 l n p
Row l n (suc (suc (suc (suc (suc zero))))) p = Within l n × Row5 l n p
Row l n (suc (suc (suc (suc (suc (suc c)))))) p = ⊥
