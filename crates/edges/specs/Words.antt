-- The key of an edge, a corner's next corner and its vertex in one word, and the pass that takes these words apart.
--
--   pair_key a b                  the key of the edge between a and b: one number for both vertices, the lower one first
--   key_of u                       the key of the edge of the use u
--   corner_word next from         the word of a corner
--   corner_of u                   the word of the corner that the use u starts at
--   corner_words us               the words of the corners of the uses us
--   TakenApart c w w'             w' has the next corners of w's words in its first block, their vertices in its second, w's third
--                                 block, and 0 in its fourth
use Rattle.std.specs.Prelude.{ℕ, ◌+◌, ◌*◌, ◌/◌, ◌%◌, ◌<◌, min, max, ◌≡◌, List, map, length, get_or}
use Rattle.list.specs.Limits.{max_vertices}
use Rattle.edges.specs.Uses.{Use}

abbrev pub pair_key : ℕ → ℕ → ℕ
pair_key a b = min a b * max_vertices + max a b

abbrev pub key_of : Use → ℕ
key_of u = pair_key u.from u.to

abbrev pub corner_word : ℕ → ℕ → ℕ
corner_word next from = next * max_vertices + from

abbrev pub corner_of : Use → ℕ
corner_of u = corner_word u.next u.from

abbrev pub corner_words : List Use → List ℕ
corner_words us = map corner_of us

pub record TakenApart (c : ℕ) (w w' : List ℕ) : Type 0 where
  pub long : length w' ≡ length w
  pub next : (e : ℕ) → e < c → get_or w' e 0 ≡ get_or w (3 * c + e) 0 / max_vertices
  pub vertex : (e : ℕ) → e < c → get_or w' (c + e) 0 ≡ get_or w (3 * c + e) 0 % max_vertices
  pub mate : (e : ℕ) → e < c → get_or w' (2 * c + e) 0 ≡ get_or w (2 * c + e) 0
  pub clear : (e : ℕ) → e < c → get_or w' (3 * c + e) 0 ≡ 0
