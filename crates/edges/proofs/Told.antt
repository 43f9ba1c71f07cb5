-- Two answers to the edge question that are told by the same numbers are one.
--
--   edge_back c a     the answer that is told by the code c and the other numbers of a
use Prim.Native.Nat.{ℕ, zero, suc}
use mathlib.Core.Path.{◌≡◌, refl, sym, ◌∙◌, ap}
use Rattle.std.specs.Prelude.{Result, Ok, Err}
use Rattle.list.specs.declared.Fault.TheVariants as Fault·
use Rattle.list.proofs.Told.{fault_of}
use Rattle.edges.specs.Table.{EdgeAnswer}
use Rattle.edges.specs.Told.{edge_told}
use Rattle.edges.specs.declared.EdgeRefusal.{EdgeRefusal}
use Rattle.edges.specs.declared.EdgeRefusal.TheVariants as Refusal·

edge_back : ℕ → EdgeAnswer → Result ℕ EdgeRefusal
edge_back zero a = Ok a.faces
edge_back (suc (suc (suc (suc (suc (suc c)))))) a = Err Refusal·.NotAPair
edge_back (suc c) a = Err (Refusal·.Invalid (fault_of c a.place))

told_back : (r : Result ℕ EdgeRefusal) → edge_back (edge_told r).code (edge_told r) ≡ r
unfolding edge_back
told_back (Ok faces) = refl
told_back (Err (Refusal·.Invalid Fault·.TooManyEntries)) = refl
told_back (Err (Refusal·.Invalid Fault·.TooManyVertices)) = refl
told_back (Err (Refusal·.Invalid (Fault·.Outside place))) = refl
told_back (Err (Refusal·.Invalid (Fault·.Short place))) = refl
told_back (Err (Refusal·.Invalid (Fault·.Repeated place))) = refl
told_back (Err Refusal·.NotAPair) = refl

pub edge_told_injective : (r s : Result ℕ EdgeRefusal) → edge_told r ≡ edge_told s → r ≡ s
edge_told_injective r s e = sym (told_back r) ∙ ap (λ (a : EdgeAnswer). edge_back a.code a) e ∙ told_back s
