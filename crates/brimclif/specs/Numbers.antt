-- The numbers of an answer in document 01's order ("Numbers given back, and their order"), as the C interface hands them over;
-- those of the check, of the edge question and of the reading stand where these answers are told, those of the cut where its answer
-- is defined.
--
--   classes_numbers r   code, place
--   write_numbers r     code, place, the text's length
--   span_numbers r      where a face starts and ends
use Rattle.std.specs.Prelude.{ℕ, List, [], ◌∷◌}
use Rattle.list.specs.declared.Span.{Span}
use Rattle.cut.specs.Cut.{ClassesAnswer}
use Rattle.text.specs.Writing.{WriteAnswer}

abbrev pub classes_numbers : ClassesAnswer → List ℕ
classes_numbers r = r.code ∷ r.place ∷ []

abbrev pub write_numbers : WriteAnswer → List ℕ
write_numbers r = r.code ∷ r.place ∷ r.length ∷ []

abbrev pub span_numbers : Span → List ℕ
span_numbers r = r.start ∷ r.end ∷ []
