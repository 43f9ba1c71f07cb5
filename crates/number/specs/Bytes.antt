-- The bytes of a text (document 01, "Text").
--
--   tab, line_feed, carriage_return, space, comma  the bytes that separate by themselves
--   hash             `#`, which begins a comment
--   open_byte        the opening bracket
--   close_byte       the closing bracket
--   minus_byte       the sign `-`
--   plus_byte        the sign `+`
--   zero_byte        the digit `0`
--   nine_byte        the digit `9`
--   is_separator b   b is a tab, line feed, carriage return, space or comma
--   ends_line b      b ends a comment: a line feed or a carriage return
--   in_number b      b belongs to a number: it is no separator, bracket or `#`
--   is_digit b       b is a decimal digit
--   in_comment c b   whether a comment goes on behind the byte b, where c says whether b itself stands in one
--   in_gap c b       whether b belongs to what separates: a separator, or a byte of a comment
use Rattle.std.specs.Prelude.{ℕ, Bool, ◌||◌, ◌&&◌, not, cond, eqb, leb}

abbrev pub tab : ℕ
tab = 9

abbrev pub line_feed : ℕ
line_feed = 10

abbrev pub carriage_return : ℕ
carriage_return = 13

abbrev pub space : ℕ
space = 32

abbrev pub comma : ℕ
comma = 44

abbrev pub hash : ℕ
hash = 35

abbrev pub open_byte : ℕ
open_byte = 91

abbrev pub close_byte : ℕ
close_byte = 93

abbrev pub minus_byte : ℕ
minus_byte = 45

abbrev pub plus_byte : ℕ
plus_byte = 43

abbrev pub zero_byte : ℕ
zero_byte = 48

abbrev pub nine_byte : ℕ
nine_byte = 57

abbrev pub is_separator : ℕ → Bool
is_separator b = eqb b tab || eqb b line_feed || eqb b carriage_return || eqb b space || eqb b comma

abbrev pub ends_line : ℕ → Bool
ends_line b = eqb b line_feed || eqb b carriage_return

abbrev pub in_number : ℕ → Bool
in_number b = not (is_separator b || eqb b hash || eqb b open_byte || eqb b close_byte)

abbrev pub is_digit : ℕ → Bool
is_digit b = leb zero_byte b && leb b nine_byte

abbrev pub in_comment : Bool → ℕ → Bool
in_comment c b = cond c (not (ends_line b)) (eqb b hash)

abbrev pub in_gap : Bool → ℕ → Bool
in_gap c b = c || eqb b hash || is_separator b
