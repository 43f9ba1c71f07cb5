-- The rows of the code table for the calls above the check, in the table's words and order (document 01, "Numbers given back, and
-- their order"). Each holds where no earlier one does.
--
--   ListRow l n c p           code c from 1 to 5 is given with place p, as the check gives it
--   Pair n a b                a and b are two different indices, each from 0 to n-1
--   EdgeRow l n a b c p       the edge question about a and b gives code c with place p
--   ClassesRow l n b w c p    the class call gives it for buffers of b classes and w words
--   CutRow l n a b w c p      the cut gives it for buffers of a entries of the new list, b of the map and w words
use Rattle.std.specs.Prelude.{ℕ, ◌≤◌, ◌<◌, ◌≡◌, List, ℤ, pos, length}
use Rattle.list.specs.Faces.{corners}
use Rattle.list.specs.Check.{Valid}
use Rattle.list.specs.Codes.{Row}
use Rattle.cut.specs.Cut.{words_needed}

pub record ListRow (l : List ℤ) (n c p : ℕ) : Type 0 where
  pub refused : c ≡ 0 → ⊥
  pub row : Row l n c p

pub record Pair (n : ℕ) (a b : ℤ) : Type 0 where
  pub one : ℕ
  pub two : ℕ
  pub is_one : a ≡ pos one
  pub is_two : b ≡ pos two
  pub one_below : one < n
  pub two_below : two < n
  pub differ : one ≡ two → ⊥

pub data EdgeRow (l : List ℤ) (n : ℕ) (a b : ℤ) : ℕ → ℕ → Type 0 where
  codes_1_to_5 : {c p : ℕ} → ListRow l n c p → EdgeRow l n a b c p
  code_10 : Valid l n → (Pair n a b → ⊥) → EdgeRow l n a b 10 0
  accepted : Valid l n → Pair n a b → EdgeRow l n a b 0 0

pub data ClassesRow (l : List ℤ) (n b w : ℕ) : ℕ → ℕ → Type 0 where
  codes_1_to_5 : {c p : ℕ} → ListRow l n c p → ClassesRow l n b w c p
  code_8 : Valid l n → b < n → ClassesRow l n b w 8 n
  code_9 : Valid l n → n ≤ b → w < words_needed l → ClassesRow l n b w 9 (words_needed l)
  accepted : Valid l n → n ≤ b → words_needed l ≤ w → ClassesRow l n b w 0 0

pub data CutRow (l : List ℤ) (n a b w : ℕ) : ℕ → ℕ → Type 0 where
  codes_1_to_5 : {c p : ℕ} → ListRow l n c p → CutRow l n a b w c p
  code_6 : Valid l n → a < length l → CutRow l n a b w 6 (length l)
  code_7 : Valid l n → length l ≤ a → b < length (corners l) → CutRow l n a b w 7 (length (corners l))
  code_9 : Valid l n → length l ≤ a → length (corners l) ≤ b → w < words_needed l → CutRow l n a b w 9 (words_needed l)
  accepted : Valid l n → length l ≤ a → length (corners l) ≤ b → words_needed l ≤ w → CutRow l n a b w 0 0
