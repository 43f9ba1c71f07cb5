-- The limits of an index list (document 01, "The list and its numbers").
--
--   max_entries    the most entries that a list may have
--   max_vertices   the greatest vertex count n
--
-- The code names the same two numbers as associated constants of its list type; `IndexList::max_entries` and
-- `IndexList::max_vertices` promise that the two are these.
use Rattle.std.specs.Prelude.{ℕ}

abbrev pub max_entries : ℕ
max_entries = 65536

abbrev pub max_vertices : ℕ
max_vertices = 65536
