-- The check's answers, told in document 01's numbers ("Numbers given back, and their order").
--
--   code_of f, place_of f   the code and the place of the refusal f
--   check_told r            the numbers of the check's answer r
--   check_numbers r         these in their order: code, place, faces, corners
--   valid_told r            the same as check_told, where the list itself is answered
use Rattle.std.specs.Prelude.{ℕ, List, [], ◌∷◌, Result, Ok, Err}
use Rattle.list.specs.Check.{CheckAnswer, refused, accepted}
use Rattle.list.specs.declared.Counts.{Counts}
use Rattle.list.specs.declared.valid.ValidList.{ValidList}
use Rattle.list.specs.declared.Fault.{Fault}
use Rattle.list.specs.declared.Fault.TheVariants as Fault·

abbrev pub code_of : Fault → ℕ
code_of Fault·.TooManyEntries = 1
code_of Fault·.TooManyVertices = 2
code_of (Fault·.Outside place) = 3
code_of (Fault·.Short place) = 4
code_of (Fault·.Repeated place) = 5

abbrev pub place_of : Fault → ℕ
place_of Fault·.TooManyEntries = 0
place_of Fault·.TooManyVertices = 0
place_of (Fault·.Outside place) = place
place_of (Fault·.Short place) = place
place_of (Fault·.Repeated place) = place

abbrev pub check_told : Result Counts Fault → CheckAnswer
check_told (Ok counts) = accepted counts.faces counts.corners
check_told (Err fault) = refused (code_of fault) (place_of fault)

abbrev pub check_numbers : CheckAnswer → List ℕ
check_numbers r = r.code ∷ r.place ∷ r.faces ∷ r.corners ∷ []

abbrev pub valid_told : Result ValidList Fault → CheckAnswer
valid_told (Ok list) = accepted list.faces list.corners
valid_told (Err fault) = refused (code_of fault) (place_of fault)
