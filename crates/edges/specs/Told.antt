-- The answers to the edge question, told in document 01's numbers ("Numbers given back, and their order", code 10).
--
--   edge_code r, edge_place r   the code and the place of the refusal r
--   edge_told r                 the numbers of the answer r
--   edge_numbers r              these in their order: code, place, faces on the edge
use Rattle.std.specs.Prelude.{ℕ, List, [], ◌∷◌, Result, Ok, Err}
use Rattle.list.specs.Told.{code_of, place_of}
use Rattle.edges.specs.Table.{EdgeAnswer, edge_answer}
use Rattle.edges.specs.declared.EdgeRefusal.{EdgeRefusal}
use Rattle.edges.specs.declared.EdgeRefusal.TheVariants as Refusal·

abbrev pub edge_code : EdgeRefusal → ℕ
edge_code (Refusal·.Invalid fault) = code_of fault
edge_code Refusal·.NotAPair = 10

abbrev pub edge_place : EdgeRefusal → ℕ
edge_place (Refusal·.Invalid fault) = place_of fault
edge_place Refusal·.NotAPair = 0

abbrev pub edge_told : Result ℕ EdgeRefusal → EdgeAnswer
edge_told (Ok faces) = edge_answer 0 0 faces
edge_told (Err refusal) = edge_answer (edge_code refusal) (edge_place refusal) 0

abbrev pub edge_numbers : EdgeAnswer → List ℕ
edge_numbers r = r.code ∷ r.place ∷ r.faces ∷ []
