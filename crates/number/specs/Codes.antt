-- The codes of the text calls (document 01, "Numbers given back, and their order").
--
--   too_long        1    more entries than a list may have
--   not_of_the_form  11   text not of the form of document 01, "Text"
--   out_of_range    12   number outside -2,147,483,648 to 2,147,483,647
--   too_many        13   more numbers than the lent list holds, or than a list may have
--   no_room_code    15   text buffer shorter than the text
use Rattle.std.specs.Prelude.{ℕ}

abbrev pub too_long : ℕ
too_long = 1

abbrev pub not_of_the_form : ℕ
not_of_the_form = 11

abbrev pub out_of_range : ℕ
out_of_range = 12

abbrev pub too_many : ℕ
too_many = 13

abbrev pub no_room_code : ℕ
no_room_code = 15
