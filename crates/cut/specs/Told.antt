-- The answers of the cut and of the class call, told in document 01's numbers ("Numbers given back, and their order").
--
--   cut_code r, cut_place r           the code and the place of the cut's refusal r
--   cut_answer code place cut         a code, a place and counts as the numbers of an answer
--   cut_told r                        the numbers of the cut's answer r
--   classes_code r, classes_place r   the code and the place of the class call's refusal r
--   classes_told r                    the numbers of the class call's answer r
use Rattle.std.specs.Prelude.{ℕ, Result, Ok, Err}
use Rattle.list.specs.Told.{code_of, place_of}
use Rattle.cut.specs.Cut.{CutAnswer, ClassesAnswer, cut_refused, classes_refused}
use Rattle.cut.specs.declared.answer.Cut.{Cut}
use Rattle.cut.specs.declared.answer.CutRefusal.{CutRefusal}
use Rattle.cut.specs.declared.answer.CutRefusal.TheVariants as Cut·
use Rattle.cut.specs.declared.answer.ClassesRefusal.{ClassesRefusal}
use Rattle.cut.specs.declared.answer.ClassesRefusal.TheVariants as Classes·

abbrev pub cut_code : CutRefusal → ℕ
cut_code (Cut·.Invalid fault) = code_of fault
cut_code (Cut·.NewListShort needed) = 6
cut_code (Cut·.MapShort needed) = 7
cut_code (Cut·.WorkShort needed) = 9

abbrev pub cut_place : CutRefusal → ℕ
cut_place (Cut·.Invalid fault) = place_of fault
cut_place (Cut·.NewListShort needed) = needed
cut_place (Cut·.MapShort needed) = needed
cut_place (Cut·.WorkShort needed) = needed

abbrev pub cut_answer : ℕ → ℕ → Cut → CutAnswer
cut_answer code place cut =
    record {
      code = code;
      place = place;
      faces = cut.faces;
      corners = cut.corners;
      vertices = cut.vertices;
      singular_edges = cut.singular_edges;
      singular_vertices = cut.singular_vertices;
    }

abbrev pub cut_told : Result Cut CutRefusal → CutAnswer
cut_told (Ok cut) = cut_answer 0 0 cut
cut_told (Err refusal) = cut_refused (cut_code refusal) (cut_place refusal)

abbrev pub classes_code : ClassesRefusal → ℕ
classes_code (Classes·.Invalid fault) = code_of fault
classes_code (Classes·.ClassesShort needed) = 8
classes_code (Classes·.WorkShort needed) = 9

abbrev pub classes_place : ClassesRefusal → ℕ
classes_place (Classes·.Invalid fault) = place_of fault
classes_place (Classes·.ClassesShort needed) = needed
classes_place (Classes·.WorkShort needed) = needed

abbrev pub classes_told : Result (Unit {0}) ClassesRefusal → ClassesAnswer
classes_told (Ok made) = classes_refused 0 0
classes_told (Err refusal) = classes_refused (classes_code refusal) (classes_place refusal)
