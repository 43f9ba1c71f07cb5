-- The program's limits (document 01, "The program" and code 14), and the room that its answer takes.
--
--   input_bytes     the most bytes of input
--   input_entries   the most entries of the list that the input holds
--   output_bytes    room for any answer: seven numbers, and two texts of lists, each with a line feed
--
-- The code names the same numbers as constants: `INPUT_BYTES`, `INPUT_ENTRIES` and `OUTPUT_BYTES`.
use Rattle.std.specs.Prelude.{ℕ, ◌+◌, ◌*◌}

abbrev pub input_bytes : ℕ
input_bytes = 16384

abbrev pub input_entries : ℕ
input_entries = 1024

-- a number has at most 20 digits and a byte behind it; an entry at most 11 bytes and two behind it; a text two brackets
abbrev pub output_bytes : ℕ
output_bytes = 7 * 21 + 2 * (13 * input_entries + 3)
