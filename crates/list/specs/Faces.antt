-- The faces and corners of an index list (document 01, "The list and its numbers" and "Showing one face").
--
--   is_end x           the entry x is -1, which ends a face
--   runs l             the runs between entries of -1; a last run counts only if it isn't empty
--   first_where p l    the place of the first entry that p holds of; l's length if there is none
--   place_or_none l i  the place i of the list l; none where i is not below l's length
--   run_length l       the number of entries before the first -1
--   NoEnd r            no entry of r is -1
--   is_natural x       the entry x is not negative
--   Naturals r         no entry of r is negative
--   Face               where a face starts, as a position among all entries, and its entries without its -1
--   faces l            the faces of l, numbered from 0 in list order
--   corners l          the entries other than -1, in list order
--   num x              the entry x as a vertex: a natural number
--   vertices r         the entries of a face as vertices
--   rejoined rs e      the runs rs put together again with a -1 behind each, behind the last one only if e says so
--   ends_closed l      the last entry of l is -1
use Rattle.std.specs.Prelude.{ℕ, zero, suc, ◌+◌, ◌<◌, ◌≡◌, List, [], ◌∷◌, ◌++◌, map, Bool, true, false, cond, ltb, ℤ, pos, negsuc, length, get_or, Option, Some, None}

abbrev pub is_end : ℤ → Bool
is_end (pos k) = false
is_end (negsuc zero) = true
is_end (negsuc (suc k)) = false

-- x stands in front of the first run
abbrev pub push : ℤ → List (List ℤ) → List (List ℤ)
push x [] = (x ∷ []) ∷ []
push x (r ∷ rs) = (x ∷ r) ∷ rs

abbrev pub runs : List ℤ → List (List ℤ)
runs [] = []
runs (x ∷ xs) = let rs = runs xs in cond (is_end x) ([] ∷ rs) (push x rs)

abbrev pub first_where : (ℤ → Bool) → List ℤ → ℕ
first_where p [] = 0
first_where p (x ∷ xs) = let later = first_where p xs in cond (p x) 0 (suc later)

abbrev pub place_or_none : {A : Type 0} → List A → ℕ → Option ℕ
place_or_none l i = cond (ltb i (length l)) (Some i) None

abbrev pub run_length : List ℤ → ℕ
run_length l = first_where is_end l

abbrev pub NoEnd : List ℤ → Type 0
NoEnd r = (i : ℕ) → i < length r → is_end (get_or r i (pos 0)) ≡ false

abbrev pub is_natural : ℤ → Bool
is_natural (pos k) = true
is_natural (negsuc k) = false

abbrev pub Naturals : List ℤ → Type 0
Naturals r = (i : ℕ) → i < length r → is_natural (get_or r i (pos 0)) ≡ true

pub record Face : Type 0 where
  pub start : ℕ
  pub entries : List ℤ

-- the faces whose runs are rs, the first of them starting at position s
abbrev pub faces_from : ℕ → List (List ℤ) → List Face
faces_from s [] = []
faces_from s (r ∷ rs) = record { start = s; entries = r } ∷ faces_from (s + length r + 1) rs

abbrev pub faces : List ℤ → List Face
faces l = faces_from 0 (runs l)

abbrev pub corners : List ℤ → List ℤ
corners [] = []
corners (x ∷ xs) = let cs = corners xs in cond (is_end x) cs (x ∷ cs)

abbrev pub num : ℤ → ℕ
num (pos k) = k
num (negsuc k) = 0

abbrev pub vertices : List ℤ → List ℕ
vertices r = map num r

-- the entry that ends a face
abbrev pub end : ℤ
end = negsuc 0

abbrev pub rejoined : List (List ℤ) → Bool → List ℤ
rejoined [] e = []
rejoined (r ∷ []) e = r ++ cond e (end ∷ []) []
rejoined (r ∷ s ∷ rs) e = r ++ end ∷ rejoined (s ∷ rs) e

abbrev pub ends_closed : List ℤ → Bool
ends_closed [] = false
ends_closed (x ∷ []) = is_end x
ends_closed (x ∷ y ∷ ys) = ends_closed (y ∷ ys)
