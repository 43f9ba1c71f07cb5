-- Two answers that are told alike are the same, and a refusal has a code.
use Prim.Native.Nat.{ℕ, zero, suc}
use mathlib.Core.Path.{◌≡◌, refl, sym, ◌∙◌, ap}
use Rattle.std.specs.Prelude.{Result, Ok, Err}
use Rattle.list.proofs.Told.{fault_of, fault_coded}
use Rattle.list.specs.declared.Fault.TheVariants as Fault·
use Rattle.cut.specs.Cut.{CutAnswer, ClassesAnswer}
use Rattle.cut.specs.Told.{cut_code, cut_told, classes_code, classes_told}
use Rattle.cut.specs.declared.answer.Cut.{Cut}
use Rattle.cut.specs.declared.answer.CutRefusal.{CutRefusal}
use Rattle.cut.specs.declared.answer.CutRefusal.TheVariants as Cut·
use Rattle.cut.specs.declared.answer.ClassesRefusal.{ClassesRefusal}
use Rattle.cut.specs.declared.answer.ClassesRefusal.TheVariants as Classes·

-- the cut's refusal of a code after 0 and a place
abbrev cut_refusal : ℕ → ℕ → CutRefusal
cut_refusal (suc (suc (suc (suc (suc zero))))) place = Cut·.NewListShort place
cut_refusal (suc (suc (suc (suc (suc (suc zero)))))) place = Cut·.MapShort place
cut_refusal (suc (suc (suc (suc (suc (suc (suc (suc c)))))))) place = Cut·.WorkShort place
cut_refusal c place = Cut·.Invalid (fault_of c place)

abbrev cut_result : ℕ → CutAnswer → Result Cut CutRefusal
cut_result zero a =
    Ok (record { faces = a.faces; corners = a.corners; vertices = a.vertices; singular_edges = a.singular_edges; singular_vertices = a.singular_vertices })
cut_result (suc c) a = Err (cut_refusal c a.place)

cut_back : (r : Result Cut CutRefusal) → cut_result (cut_told r).code (cut_told r) ≡ r
cut_back (Ok cut) = refl
cut_back (Err (Cut·.Invalid Fault·.TooManyEntries)) = refl
cut_back (Err (Cut·.Invalid Fault·.TooManyVertices)) = refl
cut_back (Err (Cut·.Invalid (Fault·.Outside place))) = refl
cut_back (Err (Cut·.Invalid (Fault·.Short place))) = refl
cut_back (Err (Cut·.Invalid (Fault·.Repeated place))) = refl
cut_back (Err (Cut·.NewListShort needed)) = refl
cut_back (Err (Cut·.MapShort needed)) = refl
cut_back (Err (Cut·.WorkShort needed)) = refl

pub cut_told_injective : (r s : Result Cut CutRefusal) → cut_told r ≡ cut_told s → r ≡ s
cut_told_injective r s e = sym (cut_back r) ∙ ap (λ (a : CutAnswer). cut_result a.code a) e ∙ cut_back s

pub cut_coded : (r : CutRefusal) → cut_code r ≡ 0 → ⊥
cut_coded (Cut·.Invalid fault) e = fault_coded fault e
cut_coded (Cut·.NewListShort needed) e = absurd (cc e)
cut_coded (Cut·.MapShort needed) e = absurd (cc e)
cut_coded (Cut·.WorkShort needed) e = absurd (cc e)

-- the class call's refusal of a code after 0 and a place
abbrev classes_refusal : ℕ → ℕ → ClassesRefusal
classes_refusal (suc (suc (suc (suc (suc (suc (suc zero))))))) place = Classes·.ClassesShort place
classes_refusal (suc (suc (suc (suc (suc (suc (suc (suc c)))))))) place = Classes·.WorkShort place
classes_refusal c place = Classes·.Invalid (fault_of c place)

abbrev classes_result : ℕ → ClassesAnswer → Result (Unit {0}) ClassesRefusal
classes_result zero a = Ok tt
classes_result (suc c) a = Err (classes_refusal c a.place)

classes_back : (r : Result (Unit {0}) ClassesRefusal) → classes_result (classes_told r).code (classes_told r) ≡ r
classes_back (Ok made) = refl
classes_back (Err (Classes·.Invalid Fault·.TooManyEntries)) = refl
classes_back (Err (Classes·.Invalid Fault·.TooManyVertices)) = refl
classes_back (Err (Classes·.Invalid (Fault·.Outside place))) = refl
classes_back (Err (Classes·.Invalid (Fault·.Short place))) = refl
classes_back (Err (Classes·.Invalid (Fault·.Repeated place))) = refl
classes_back (Err (Classes·.ClassesShort needed)) = refl
classes_back (Err (Classes·.WorkShort needed)) = refl

pub classes_told_injective : (r s : Result (Unit {0}) ClassesRefusal) → classes_told r ≡ classes_told s → r ≡ s
classes_told_injective r s e = sym (classes_back r) ∙ ap (λ (a : ClassesAnswer). classes_result a.code a) e ∙ classes_back s

pub classes_coded : (r : ClassesRefusal) → classes_code r ≡ 0 → ⊥
classes_coded (Classes·.Invalid fault) e = fault_coded fault e
classes_coded (Classes·.ClassesShort needed) e = absurd (cc e)
classes_coded (Classes·.WorkShort needed) e = absurd (cc e)
