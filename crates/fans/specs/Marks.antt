-- The classes as the passes over the work buffer find them, from the words of the edge table and the parents behind it.
--
--   VerticesBelow w c n  all vertices of the table are below n
--   is_root_on w c v i   corner i lies on the vertex v and has no earlier parent
--   roots_on w c v e n   how many of the n corners from e on do
--   fan_mark k           the mark of a vertex with k fans: 0, 1, or 4 for more
--   touches_at w c v e   v is an endpoint of the edge that starts at corner e
--   marks_end            of the n corners from e on one starts an edge that v ends and whose mate's word is of that kind
--   boundary_word, singular_word  the kinds: one face, or three and more
--   raised k             the mark k of an endpoint of a boundary edge
--   finished k s b       the mark k once it is known whether the vertex ends a singular edge, and whether a boundary edge
use Rattle.std.specs.Prelude.{ℕ, zero, suc, ◌+◌, ◌*◌, ◌<◌, List, Bool, false, cond, ◌&&◌, ◌||◌, eqb}
use Rattle.order.specs.Choose.{count, up_from}
use Rattle.groups.specs.Forest.{at, is_root}

abbrev pub VerticesBelow : List ℕ → ℕ → ℕ → Type 0
VerticesBelow w c n = (e : ℕ) → e < c → at w (c + e) < n

abbrev pub is_root_on : List ℕ → ℕ → ℕ → ℕ → Bool
is_root_on w c v i = is_root w c i && eqb v (at w (c + i))

abbrev pub roots_on : List ℕ → ℕ → ℕ → ℕ → ℕ → ℕ
roots_on w c v e n = count (is_root_on w c v) (up_from e n)

abbrev pub fan_mark : ℕ → ℕ
fan_mark zero = 0
fan_mark (suc zero) = 1
fan_mark (suc (suc k)) = 4

abbrev pub touches_at : List ℕ → ℕ → ℕ → ℕ → Bool
touches_at w c v e = eqb v (at w (c + e)) || eqb v (at w (c + at w e))

abbrev pub marks_end : (ℕ → ℕ → Bool) → List ℕ → ℕ → ℕ → ℕ → ℕ → Bool
marks_end kind w c v e zero = false
marks_end kind w c v e (suc n) = (touches_at w c v e && kind e (at w (2 * c + e))) || marks_end kind w c v (suc e) n

abbrev pub boundary_word : ℕ → ℕ → Bool
boundary_word e m = eqb m e

abbrev pub singular_word : ℕ → ℕ → ℕ → Bool
singular_word c e m = eqb m c

abbrev pub raised : ℕ → ℕ
raised k = cond (eqb k 1) 2 k

abbrev pub finished : ℕ → Bool → Bool → ℕ
finished k s b = cond s 3 (cond b (raised k) k)

-- the mark of the vertex v in w
abbrev pub final_mark : List ℕ → ℕ → ℕ → ℕ → ℕ
final_mark w c v k = finished k (marks_end (singular_word c) w c v 0 c) (marks_end boundary_word w c v 0 c)
