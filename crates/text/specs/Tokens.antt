-- A text as the things that stand in it, with their places (document 01, "Text").
--
--   Token            an opening bracket, a closing bracket or a number with its bytes, each with the place of its first byte
--   start_of k        that place
--   push p b r       the byte b of a number at place p, in front of the things r
--   token p b r      the byte b at place p, in front of the things r: a bracket, or one more byte of a number
--   tokens p c s     the things in s, which starts at place p; c says whether s starts in a comment
--   tokens_at t i    the things in the text t from place i on
use Rattle.std.specs.Prelude.{ℕ, suc, List, [], ◌∷◌, Bool, false, cond, drop, eqb}
use Rattle.number.specs.Bytes.{open_byte, close_byte, in_comment, in_gap}

pub data Token : Type 0 where
  opening : ℕ → Token
  closing : ℕ → Token
  number : ℕ → List ℕ → Token

abbrev pub start_of : Token → ℕ
start_of (opening p) = p
start_of (closing p) = p
start_of (number p bs) = p

-- the byte b at place p belongs to the number that starts right behind it, or is a number of its own
abbrev pub push : ℕ → ℕ → List Token → List Token
push p b [] = number p (b ∷ []) ∷ []
push p b (opening q ∷ r) = number p (b ∷ []) ∷ opening q ∷ r
push p b (closing q ∷ r) = number p (b ∷ []) ∷ closing q ∷ r
push p b (number q bs ∷ r) = cond (eqb q (suc p)) (number p (b ∷ bs) ∷ r) (number p (b ∷ []) ∷ number q bs ∷ r)

abbrev pub token : ℕ → ℕ → List Token → List Token
token p b r = cond (eqb b open_byte) (opening p ∷ r) (cond (eqb b close_byte) (closing p ∷ r) (push p b r))

abbrev pub tokens : ℕ → Bool → List ℕ → List Token
tokens p c [] = []
tokens p c (b ∷ s) = let r : List Token = tokens (suc p) (in_comment c b) s in cond (in_gap c b) r (token p b r)

abbrev pub tokens_at : List ℕ → ℕ → List Token
tokens_at t i = tokens i false (drop i t)
