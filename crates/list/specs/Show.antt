-- Showing one face (document 01, "Showing one face").
--
--   span_of l k         where face k of l starts and ends; 0 and 0 if there is none
--   face_of l k        the entries of face k of l; none if there is none
--   asked w a b        the list before or the list after, as w says
use Rattle.std.specs.Prelude.{ℕ, zero, suc, ◌+◌, List, [], ◌∷◌, ℤ, length}
use Rattle.list.specs.Faces.{Face, faces}
use Rattle.list.specs.declared.Span.{Span}
use Rattle.list.specs.declared.Which.{Which}
use Rattle.list.specs.declared.Which.TheVariants as Which·

abbrev pub span_in : List Face → ℕ → Span
span_in [] k = record { start = 0; end = 0 }
span_in (f ∷ fs) zero = record { start = f.start; end = f.start + length f.entries }
span_in (f ∷ fs) (suc k) = span_in fs k

abbrev pub span_of : List ℤ → ℕ → Span
span_of l k = span_in (faces l) k

abbrev pub face_in : List Face → ℕ → List ℤ
face_in [] k = []
face_in (f ∷ fs) zero = f.entries
face_in (f ∷ fs) (suc k) = face_in fs k

abbrev pub face_of : List ℤ → ℕ → List ℤ
face_of l k = face_in (faces l) k

abbrev pub asked : Which → List ℤ → List ℤ → List ℤ
asked Which·.Before before after = before
asked Which·.After before after = after
