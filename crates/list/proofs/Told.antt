-- Two answers of the check that are told alike are the same.
use Prim.Native.Nat.{ℕ, zero, suc}
use mathlib.Core.Path.{◌≡◌, refl, sym, ◌∙◌, ap}
use Rattle.std.specs.Prelude.{Result, Ok, Err}
use Rattle.list.specs.Check.{CheckAnswer}
use Rattle.list.specs.Told.{code_of, check_told}
use Rattle.list.specs.declared.Counts.{Counts}
use Rattle.list.specs.declared.Fault.{Fault}
use Rattle.list.specs.declared.Fault.TheVariants as Fault·

-- the refusal of a code after 0 and a place
abbrev pub fault_of : ℕ → ℕ → Fault
fault_of zero place = Fault·.TooManyEntries
fault_of (suc zero) place = Fault·.TooManyVertices
fault_of (suc (suc zero)) place = Fault·.Outside place
fault_of (suc (suc (suc zero))) place = Fault·.Short place
fault_of (suc (suc (suc (suc c)))) place = Fault·.Repeated place

abbrev result_of : ℕ → CheckAnswer → Result Counts Fault
result_of zero a = Ok (record { faces = a.faces; corners = a.corners })
result_of (suc c) a = Err (fault_of c a.place)

told_back : (r : Result Counts Fault) → result_of (check_told r).code (check_told r) ≡ r
told_back (Ok counts) = refl
told_back (Err Fault·.TooManyEntries) = refl
told_back (Err Fault·.TooManyVertices) = refl
told_back (Err (Fault·.Outside place)) = refl
told_back (Err (Fault·.Short place)) = refl
told_back (Err (Fault·.Repeated place)) = refl

pub check_told_injective : (r s : Result Counts Fault) → check_told r ≡ check_told s → r ≡ s
check_told_injective r s e = sym (told_back r) ∙ ap (λ (a : CheckAnswer). result_of a.code a) e ∙ told_back s

-- a refusal has a code
pub fault_coded : (f : Fault) → code_of f ≡ 0 → ⊥
fault_coded Fault·.TooManyEntries e = absurd (cc e)
fault_coded Fault·.TooManyVertices e = absurd (cc e)
fault_coded (Fault·.Outside place) e = absurd (cc e)
fault_coded (Fault·.Short place) e = absurd (cc e)
fault_coded (Fault·.Repeated place) e = absurd (cc e)
