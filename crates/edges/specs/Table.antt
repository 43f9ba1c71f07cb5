-- The edge table, and the answer to the edge question (document 01, "Numbers given back, and their order", code 10).
--
--   mate_words us        the words of the mates of the uses us, by crate mates' `mate_word`: the corner itself where its edge has one
--                        face, the other corner where it has two, the number of corners where it has more
--   table_of l            four words a corner, in four blocks: each corner's next corner, its vertex, its mate's word, and 0
--   is_index n z         z is an index: from 0 to n-1
--   is_pair n a b        a and b are two different indices
--   vertex_of n z        z as a vertex, where it is an index
--   pair_of n a b        a and b as vertices, where they are two different indices
--   EdgeAnswer           the answer to the edge question in numbers: code, place, number of faces
--   edge_of l n a b       the answer to the edge question
use Rattle.std.specs.Prelude.{ℕ, List, ◌++◌, map, Bool, false, cond, not, ◌&&◌, ltb, eqb, ℤ, pos, negsuc, length, replicate, Option, Some, None, if◌then◌else◌}
use Rattle.list.specs.Faces.{num}
use Rattle.list.specs.Check.{check_of}
use Rattle.mates.specs.Mates.{mate_word}
use Rattle.edges.specs.Uses.{Use, uses, mate_of, faces_on}

abbrev pub next_words : List Use → List ℕ
next_words us = map (λ (u : Use). u.next) us

abbrev pub vertex_words : List Use → List ℕ
vertex_words us = map (λ (u : Use). u.from) us

abbrev pub mate_words : List Use → List ℕ
mate_words us = map (λ (u : Use). mate_word (length us) u.corner (mate_of us u)) us

-- nothing past the three blocks
abbrev pub table_of_uses : List Use → List ℕ
table_of_uses us = next_words us ++ vertex_words us ++ mate_words us ++ replicate (length us) 0

unfoldable pub table_of : List ℤ → List ℕ
table_of l = table_of_uses (uses l)

abbrev pub is_index : ℕ → ℤ → Bool
is_index n (pos k) = ltb k n
is_index n (negsuc k) = false

pub record EdgeAnswer : Type 0 where
  pub code : ℕ
  pub place : ℕ
  pub faces : ℕ

abbrev pub edge_answer : ℕ → ℕ → ℕ → EdgeAnswer
edge_answer code place faces = record { code = code; place = place; faces = faces }

-- a and b are two different indices
abbrev pub is_pair : ℕ → ℤ → ℤ → Bool
is_pair n a b = is_index n a && is_index n b && not (eqb (num a) (num b))

-- z as a vertex of n, and both as vertices where they are a pair
abbrev pub vertex_of : ℕ → ℤ → Option ℕ
vertex_of n z = if is_index n z then Some (num z) else None

abbrev pub pair_of : ℕ → ℤ → ℤ → Option (ℕ × ℕ)
pair_of n a b = if is_pair n a b then Some (num a, num b) else None

unfoldable pub edge_of : List ℤ → ℕ → ℤ → ℤ → EdgeAnswer
edge_of l n a b =
    cond (eqb (check_of l n).code 0)
    (cond (is_pair n a b) (edge_answer 0 0 (faces_on l (num a) (num b))) (edge_answer 10 0 0))
    (edge_answer (check_of l n).code (check_of l n).place 0)
