-- "Any two results that its contract admits coincide", for every function that users may call, and for the edge table. `Learnt` is
-- what a caller learns from the contract: of the arguments, the answer, and the arguments as the call leaves them.
use mathlib.Core.Path.{◌≡◌, refl, sym, ◌∙◌, ap, ◌∙⁻¹◌}
use mathlib.Core.List.{head-eq_of_cons-eq, tail-eq_of_cons-eq}
use contract.Lifetimes.{Lfts}
use Prim.Native.Nat.{ℕ}
use Rattle.std.specs.Prelude.{Option, Some, None, IfNone, Result, Ok, Err, IfOk}
use Rattle.std.specs.Option.{option_map}
use Rattle.std.specs.Iterator.{YieldsFirstBy}
use Rattle.list.specs.Cursor.{face_seen, faces_left, step_told}
use Rattle.list.specs.declared.cursor.Cursor.{Cursor}
use Rattle.list.specs.declared.cursor.Face.{Face}
use Rattle.list.specs.Told.{valid_told}
use Rattle.list.specs.declared.valid.ValidList.{ValidList}
use Rattle.list.specs.declared.Fault.{Fault}
use Rattle.list.proofs.Told.{check_told_injective}
use Rattle.number.proofs.Told.{number_told_injective}
use Rattle.text.proofs.Told.{read_told_injective, write_told_injective}
use Rattle.edges.proofs.Told.{edge_told_injective}
use Rattle.cut.proofs.Told.{cut_told_injective, classes_told_injective}
use Rattle.list.proofs.IndexList.max_entries.Reads as max_entries
use Rattle.list.proofs.IndexList.max_vertices.Reads as max_vertices
use Rattle.list.proofs.IndexList.cursor.Reads as cursor
use Rattle.list.proofs.cursor.CursorIterator.next.Reads as next
use Rattle.list.proofs.cursor.Cursor.step.Reads as step
use Rattle.list.proofs.is_end.Reads as is_end
use Rattle.list.proofs.end_at.Reads as end_at
use Rattle.list.proofs.vertex_at.Reads as vertex_at
use Rattle.list.proofs.check.Reads as check
use Rattle.list.proofs.numbers.Reads as check_numbers
use Rattle.list.proofs.face_span.Reads as face_span
use Rattle.list.proofs.face.Reads as face
use Rattle.number.proofs.bytes.is_separator.Reads as is_separator
use Rattle.number.proofs.bytes.ends_line.Reads as ends_line
use Rattle.number.proofs.bytes.in_number.Reads as in_number_lem
use Rattle.number.proofs.bytes.is_digit.Reads as is_digit
use Rattle.number.proofs.bytes.in_comment.Reads as in_comment
use Rattle.number.proofs.bytes.in_gap.Reads as in_gap
use Rattle.number.proofs.decimal.digit_count.Reads as digit_count
use Rattle.number.proofs.decimal.put_digits.Reads as put_digits
use Rattle.text.proofs.read.Reads as read
use Rattle.text.proofs.read_numbers.Reads as read_numbers
use Rattle.text.proofs.write.Reads as write
use Rattle.number.proofs.read_number.Reads as read_number
use Rattle.edges.proofs.faces_on.Reads as faces_on
use Rattle.edges.proofs.numbers.Reads as edge_numbers
use Rattle.edges.proofs.edge_table.Reads as edge_table
use Rattle.cut.proofs.answer.numbers.Reads as numbers
use Rattle.cut.proofs.answer.seven_numbers.Reads as seven_numbers
use Rattle.cut.proofs.classes.Reads as classes
use Rattle.cut.proofs.cut.Reads as cut
use Rattle.list.proofs.FaultRefusal.code.Reads as fault_code
use Rattle.list.proofs.FaultRefusal.place.Reads as fault_place
use Rattle.text.proofs.ReadFaultRefusal.code.Reads as read_fault_code
use Rattle.text.proofs.ReadFaultRefusal.place.Reads as read_fault_place
use Rattle.text.proofs.WriteFaultRefusal.code.Reads as write_fault_code
use Rattle.text.proofs.WriteFaultRefusal.place.Reads as write_fault_place
use Rattle.edges.proofs.EdgeRefusalRefusal.code.Reads as edge_refusal_code
use Rattle.edges.proofs.EdgeRefusalRefusal.place.Reads as edge_refusal_place
use Rattle.cut.proofs.answer.CutRefusalRefusal.code.Reads as cut_refusal_code
use Rattle.cut.proofs.answer.CutRefusalRefusal.place.Reads as cut_refusal_place
use Rattle.cut.proofs.answer.ClassesRefusalRefusal.code.Reads as classes_refusal_code
use Rattle.cut.proofs.answer.ClassesRefusalRefusal.place.Reads as classes_refusal_place
use Rattle.list.proofs.vertex.Reads as vertex
use Rattle.list.proofs.ValidList.new.Reads as valid_list
use Rattle.edges.proofs.EdgeRefusalFromFault.from.Reads as edge_from
use Rattle.cut.proofs.answer.CutRefusalFromFault.from.Reads as cut_from
use Rattle.cut.proofs.answer.ClassesRefusalFromFault.from.Reads as classes_from
use Rattle.text.proofs.ReadFaultFromNumberFault.from.Reads as read_from

-- list
pub max_entries_determined : (κs : Lfts 0) (a : _) (r₁ r₂ : _) (s₁ s₂ : _) → max_entries.Learnt κs a r₁ s₁ → max_entries.Learnt κs a r₂ s₂ → r₁ ≡ r₂
max_entries_determined κs a r₁ r₂ s₁ s₂ p q = p ∙⁻¹ q

pub max_vertices_determined : (κs : Lfts 0) (a : _) (r₁ r₂ : _) (s₁ s₂ : _) → max_vertices.Learnt κs a r₁ s₁ → max_vertices.Learnt κs a r₂ s₂ → r₁ ≡ r₂
max_vertices_determined κs a r₁ r₂ s₁ s₂ p q = p ∙⁻¹ q

pub cursor_determined : (κs : Lfts 1) (a : _) (r₁ r₂ : _) (s₁ s₂ : _) → cursor.Learnt κs a r₁ s₁ → cursor.Learnt κs a r₂ s₂ → (r₁.list.now ≡ r₂.list.now) × (r₁.at ≡ r₂.at)
cursor_determined κs a r₁ r₂ s₁ s₂ p q = (p.0 ∙⁻¹ q.0, p.1 ∙⁻¹ q.1)

-- a call of the cursor gives the first of the faces that were left, and leaves the others
one_step : (s : Cursor) (r₁ r₂ : Option Face) (t₁ t₂ : Cursor) → YieldsFirstBy face_seen faces_left s r₁ t₁ → YieldsFirstBy face_seen faces_left s r₂ t₂ → (option_map face_seen r₁ ≡ option_map face_seen r₂) × (faces_left t₁ ≡ faces_left t₂)
one_step s None None t₁ t₂ p q = (refl, p.1 ∙⁻¹ q.1)
one_step s None (Some g) t₁ t₂ p q = absurd (cc (sym p.0 ∙ q))
one_step s (Some f) None t₁ t₂ p q = absurd (cc (sym q.0 ∙ p))
one_step s (Some f) (Some g) t₁ t₂ p q =
    let e = sym p ∙ q in (ap Some (head-eq_of_cons-eq e), tail-eq_of_cons-eq e)

-- and the position that it leaves is one
one_place : (r₁ r₂ : Option Face) (i at₁ at₂ : ℕ) → step_told r₁ at₁ ≡ step_told r₂ at₂ → IfNone r₁ (at₁ ≡ i) → IfNone r₂ (at₂ ≡ i) → at₁ ≡ at₂
one_place None None i at₁ at₂ e p q = p ∙⁻¹ q
one_place None (Some g) i at₁ at₂ e p q = absurd (cc e)
one_place (Some f) None i at₁ at₂ e p q = absurd (cc e)
one_place (Some f) (Some g) i at₁ at₂ e p q = cc e

pub step_determined : (κs : Lfts 2) (a : _) (r₁ r₂ : _) (s₁ s₂ : _) → step.Learnt κs a r₁ s₁ → step.Learnt κs a r₂ s₂ → (option_map face_seen r₁ ≡ option_map face_seen r₂) × (s₁.0.now.at ≡ s₂.0.now.at) × (s₁.0.now.list.now ≡ s₂.0.now.list.now)
step_determined κs a r₁ r₂ s₁ s₂ p q =
    ((one_step a.0.now r₁ r₂ s₁.0.now s₂.0.now p.0 q.0).0, one_place r₁ r₂ a.0.now.at s₁.0.now.at s₂.0.now.at (p.1.0 ∙⁻¹ q.1.0) p.1.1.0 q.1.1.0, p.1.1.1 ∙⁻¹ q.1.1.1)

pub next_determined : (κs : Lfts 2) (a : _) (r₁ r₂ : _) (s₁ s₂ : _) → next.Learnt κs a r₁ s₁ → next.Learnt κs a r₂ s₂ → (option_map face_seen r₁ ≡ option_map face_seen r₂) × (s₁.0.now.at ≡ s₂.0.now.at) × (s₁.0.now.list.now ≡ s₂.0.now.list.now)
next_determined κs a r₁ r₂ s₁ s₂ p q =
    ((one_step a.0.now r₁ r₂ s₁.0.now s₂.0.now p.0.yields q.0.yields).0, one_place r₁ r₂ a.0.now.at s₁.0.now.at s₂.0.now.at (p.0.told ∙⁻¹ q.0.told) p.0.stays q.0.stays, p.0.same ∙⁻¹ q.0.same)

pub is_end_determined : (κs : Lfts 0) (a : _) (r₁ r₂ : _) (s₁ s₂ : _) → is_end.Learnt κs a r₁ s₁ → is_end.Learnt κs a r₂ s₂ → r₁ ≡ r₂
is_end_determined κs a r₁ r₂ s₁ s₂ p q = p ∙⁻¹ q

pub end_at_determined : (κs : Lfts 1) (a : _) (r₁ r₂ : _) (s₁ s₂ : _) → end_at.Learnt κs a r₁ s₁ → end_at.Learnt κs a r₂ s₂ → r₁ ≡ r₂
end_at_determined κs a r₁ r₂ s₁ s₂ p q = p ∙⁻¹ q

pub vertex_at_determined : (κs : Lfts 1) (a : _) (r₁ r₂ : _) (s₁ s₂ : _) → vertex_at.Learnt κs a r₁ s₁ → vertex_at.Learnt κs a r₂ s₂ → r₁ ≡ r₂
vertex_at_determined κs a r₁ r₂ s₁ s₂ p q = p ∙⁻¹ q

pub check_determined : (κs : Lfts 1) (a : _) (r₁ r₂ : _) (s₁ s₂ : _) → check.Learnt κs a r₁ s₁ → check.Learnt κs a r₂ s₂ → r₁ ≡ r₂
check_determined κs a r₁ r₂ s₁ s₂ p q = check_told_injective r₁ r₂ (p ∙⁻¹ q)

pub check_numbers_determined : (κs : Lfts 0) (a : _) (r₁ r₂ : _) (s₁ s₂ : _) → check_numbers.Learnt κs a r₁ s₁ → check_numbers.Learnt κs a r₂ s₂ → r₁ ≡ r₂
check_numbers_determined κs a r₁ r₂ s₁ s₂ p q = p ∙⁻¹ q

pub face_span_determined : (κs : Lfts 1) (a : _) (r₁ r₂ : _) (s₁ s₂ : _) → face_span.Learnt κs a r₁ s₁ → face_span.Learnt κs a r₂ s₂ → r₁ ≡ r₂
face_span_determined κs a r₁ r₂ s₁ s₂ p q = p ∙⁻¹ q

pub face_determined : (κs : Lfts 1) (a : _) (r₁ r₂ : _) (s₁ s₂ : _) → face.Learnt κs a r₁ s₁ → face.Learnt κs a r₂ s₂ → r₁.now ≡ r₂.now
face_determined κs a r₁ r₂ s₁ s₂ p q = p ∙⁻¹ q

pub fault_code_determined : (κs : Lfts 0) (a : _) (r₁ r₂ : _) (s₁ s₂ : _) → fault_code.Learnt κs a r₁ s₁ → fault_code.Learnt κs a r₂ s₂ → r₁ ≡ r₂
fault_code_determined κs a r₁ r₂ s₁ s₂ p q = p ∙⁻¹ q

pub fault_place_determined : (κs : Lfts 0) (a : _) (r₁ r₂ : _) (s₁ s₂ : _) → fault_place.Learnt κs a r₁ s₁ → fault_place.Learnt κs a r₂ s₂ → r₁ ≡ r₂
fault_place_determined κs a r₁ r₂ s₁ s₂ p q = p ∙⁻¹ q

-- its counts or its fault are one; the list and the vertex count in the answer are those that were given
pub valid_list_determined : (κs : Lfts 1) (a : _) (r₁ r₂ : _) (s₁ s₂ : _) → valid_list.Learnt κs a r₁ s₁ → valid_list.Learnt κs a r₂ s₂ → (valid_told r₁ ≡ valid_told r₂) × IfOk r₁ (λ l. IfOk r₂ (λ k. (l.entries.now ≡ k.entries.now) × (l.vertices ≡ k.vertices)))
valid_list_determined κs a r₁ r₂ s₁ s₂ p q = (p.0 ∙⁻¹ q.0, one_list r₁ r₂ p.1 q.1)
  where
    one_list : (r₁ r₂ : Result ValidList Fault) → IfOk r₁ (λ l. (l.entries.now ≡ a.0.now) × (l.vertices ≡ a.1.0)) → IfOk r₂ (λ l. (l.entries.now ≡ a.0.now) × (l.vertices ≡ a.1.0)) → IfOk r₁ (λ l. IfOk r₂ (λ k. (l.entries.now ≡ k.entries.now) × (l.vertices ≡ k.vertices)))
    one_list (Ok l) (Ok k) p q = (p.0 ∙⁻¹ q.0, p.1 ∙⁻¹ q.1)
    one_list (Ok l) (Err f) p q = tt
    one_list (Err f) r p q = tt

pub vertex_determined : (κs : Lfts 0) (a : _) (r₁ r₂ : _) (s₁ s₂ : _) → vertex.Learnt κs a r₁ s₁ → vertex.Learnt κs a r₂ s₂ → r₁ ≡ r₂
vertex_determined κs a r₁ r₂ s₁ s₂ p q = p ∙⁻¹ q

-- number
pub read_number_determined : (κs : Lfts 1) (a : _) (r₁ r₂ : _) (s₁ s₂ : _) → read_number.Learnt κs a r₁ s₁ → read_number.Learnt κs a r₂ s₂ → r₁ ≡ r₂
read_number_determined κs a r₁ r₂ s₁ s₂ p q = number_told_injective r₁ r₂ (p ∙⁻¹ q)

pub is_separator_determined : (κs : Lfts 0) (a : _) (r₁ r₂ : _) (s₁ s₂ : _) → is_separator.Learnt κs a r₁ s₁ → is_separator.Learnt κs a r₂ s₂ → r₁ ≡ r₂
is_separator_determined κs a r₁ r₂ s₁ s₂ p q = p ∙⁻¹ q

pub ends_line_determined : (κs : Lfts 0) (a : _) (r₁ r₂ : _) (s₁ s₂ : _) → ends_line.Learnt κs a r₁ s₁ → ends_line.Learnt κs a r₂ s₂ → r₁ ≡ r₂
ends_line_determined κs a r₁ r₂ s₁ s₂ p q = p ∙⁻¹ q

pub in_number_determined : (κs : Lfts 0) (a : _) (r₁ r₂ : _) (s₁ s₂ : _) → in_number_lem.Learnt κs a r₁ s₁ → in_number_lem.Learnt κs a r₂ s₂ → r₁ ≡ r₂
in_number_determined κs a r₁ r₂ s₁ s₂ p q = p ∙⁻¹ q

pub is_digit_determined : (κs : Lfts 0) (a : _) (r₁ r₂ : _) (s₁ s₂ : _) → is_digit.Learnt κs a r₁ s₁ → is_digit.Learnt κs a r₂ s₂ → r₁ ≡ r₂
is_digit_determined κs a r₁ r₂ s₁ s₂ p q = p ∙⁻¹ q

pub in_comment_determined : (κs : Lfts 0) (a : _) (r₁ r₂ : _) (s₁ s₂ : _) → in_comment.Learnt κs a r₁ s₁ → in_comment.Learnt κs a r₂ s₂ → r₁ ≡ r₂
in_comment_determined κs a r₁ r₂ s₁ s₂ p q = p ∙⁻¹ q

pub in_gap_determined : (κs : Lfts 0) (a : _) (r₁ r₂ : _) (s₁ s₂ : _) → in_gap.Learnt κs a r₁ s₁ → in_gap.Learnt κs a r₂ s₂ → r₁ ≡ r₂
in_gap_determined κs a r₁ r₂ s₁ s₂ p q = p ∙⁻¹ q

pub digit_count_determined : (κs : Lfts 0) (a : _) (r₁ r₂ : _) (s₁ s₂ : _) → digit_count.Learnt κs a r₁ s₁ → digit_count.Learnt κs a r₂ s₂ → r₁ ≡ r₂
digit_count_determined κs a r₁ r₂ s₁ s₂ p q = p.0 ∙⁻¹ q.0

pub put_digits_determined : (κs : Lfts 1) (a : _) (r₁ r₂ : _) (s₁ s₂ : _) → put_digits.Learnt κs a r₁ s₁ → put_digits.Learnt κs a r₂ s₂ → s₁.0.now ≡ s₂.0.now
put_digits_determined κs a r₁ r₂ s₁ s₂ p q = p ∙⁻¹ q

-- text
pub read_determined : (κs : Lfts 2) (a : _) (r₁ r₂ : _) (s₁ s₂ : _) → read.Learnt κs a r₁ s₁ → read.Learnt κs a r₂ s₂ → (r₁ ≡ r₂) × (s₁.1.0.now ≡ s₂.1.0.now)
read_determined κs a r₁ r₂ s₁ s₂ p q = (read_told_injective r₁ r₂ (p.0 ∙⁻¹ q.0), p.1 ∙⁻¹ q.1)

pub read_numbers_determined : (κs : Lfts 0) (a : _) (r₁ r₂ : _) (s₁ s₂ : _) → read_numbers.Learnt κs a r₁ s₁ → read_numbers.Learnt κs a r₂ s₂ → r₁ ≡ r₂
read_numbers_determined κs a r₁ r₂ s₁ s₂ p q = p ∙⁻¹ q

pub write_determined : (κs : Lfts 2) (a : _) (r₁ r₂ : _) (s₁ s₂ : _) → write.Learnt κs a r₁ s₁ → write.Learnt κs a r₂ s₂ → (r₁ ≡ r₂) × (s₁.1.0.now ≡ s₂.1.0.now)
write_determined κs a r₁ r₂ s₁ s₂ p q = (write_told_injective r₁ r₂ (p.0 ∙⁻¹ q.0), p.1 ∙⁻¹ q.1)

pub read_fault_code_determined : (κs : Lfts 0) (a : _) (r₁ r₂ : _) (s₁ s₂ : _) → read_fault_code.Learnt κs a r₁ s₁ → read_fault_code.Learnt κs a r₂ s₂ → r₁ ≡ r₂
read_fault_code_determined κs a r₁ r₂ s₁ s₂ p q = p ∙⁻¹ q

pub read_fault_place_determined : (κs : Lfts 0) (a : _) (r₁ r₂ : _) (s₁ s₂ : _) → read_fault_place.Learnt κs a r₁ s₁ → read_fault_place.Learnt κs a r₂ s₂ → r₁ ≡ r₂
read_fault_place_determined κs a r₁ r₂ s₁ s₂ p q = p ∙⁻¹ q

pub write_fault_code_determined : (κs : Lfts 0) (a : _) (r₁ r₂ : _) (s₁ s₂ : _) → write_fault_code.Learnt κs a r₁ s₁ → write_fault_code.Learnt κs a r₂ s₂ → r₁ ≡ r₂
write_fault_code_determined κs a r₁ r₂ s₁ s₂ p q = p ∙⁻¹ q

pub write_fault_place_determined : (κs : Lfts 0) (a : _) (r₁ r₂ : _) (s₁ s₂ : _) → write_fault_place.Learnt κs a r₁ s₁ → write_fault_place.Learnt κs a r₂ s₂ → r₁ ≡ r₂
write_fault_place_determined κs a r₁ r₂ s₁ s₂ p q = p ∙⁻¹ q

pub read_from_determined : (κs : Lfts 0) (a : _) (r₁ r₂ : _) (s₁ s₂ : _) → read_from.Learnt κs a r₁ s₁ → read_from.Learnt κs a r₂ s₂ → r₁ ≡ r₂
read_from_determined κs a r₁ r₂ s₁ s₂ p q = p ∙⁻¹ q

-- edges
pub faces_on_determined : (κs : Lfts 1) (a : _) (r₁ r₂ : _) (s₁ s₂ : _) → faces_on.Learnt κs a r₁ s₁ → faces_on.Learnt κs a r₂ s₂ → r₁ ≡ r₂
faces_on_determined κs a r₁ r₂ s₁ s₂ p q = edge_told_injective r₁ r₂ (p ∙⁻¹ q)

pub edge_numbers_determined : (κs : Lfts 0) (a : _) (r₁ r₂ : _) (s₁ s₂ : _) → edge_numbers.Learnt κs a r₁ s₁ → edge_numbers.Learnt κs a r₂ s₂ → r₁ ≡ r₂
edge_numbers_determined κs a r₁ r₂ s₁ s₂ p q = p ∙⁻¹ q

pub edge_table_determined : (κs : Lfts 2) (a : _) (r₁ r₂ : _) (s₁ s₂ : _) → edge_table.Learnt κs a r₁ s₁ → edge_table.Learnt κs a r₂ s₂ → (r₁ ≡ r₂) × (s₁.1.1.0.now ≡ s₂.1.1.0.now)
edge_table_determined κs a r₁ r₂ s₁ s₂ p q = (p.1 ∙⁻¹ q.1, p.0 ∙⁻¹ q.0)

pub edge_refusal_code_determined : (κs : Lfts 0) (a : _) (r₁ r₂ : _) (s₁ s₂ : _) → edge_refusal_code.Learnt κs a r₁ s₁ → edge_refusal_code.Learnt κs a r₂ s₂ → r₁ ≡ r₂
edge_refusal_code_determined κs a r₁ r₂ s₁ s₂ p q = p ∙⁻¹ q

pub edge_refusal_place_determined : (κs : Lfts 0) (a : _) (r₁ r₂ : _) (s₁ s₂ : _) → edge_refusal_place.Learnt κs a r₁ s₁ → edge_refusal_place.Learnt κs a r₂ s₂ → r₁ ≡ r₂
edge_refusal_place_determined κs a r₁ r₂ s₁ s₂ p q = p ∙⁻¹ q

pub edge_from_determined : (κs : Lfts 0) (a : _) (r₁ r₂ : _) (s₁ s₂ : _) → edge_from.Learnt κs a r₁ s₁ → edge_from.Learnt κs a r₂ s₂ → r₁ ≡ r₂
edge_from_determined κs a r₁ r₂ s₁ s₂ p q = p ∙⁻¹ q

-- cut: the answer and each lent buffer
pub numbers_determined : (κs : Lfts 0) (a : _) (r₁ r₂ : _) (s₁ s₂ : _) → numbers.Learnt κs a r₁ s₁ → numbers.Learnt κs a r₂ s₂ → r₁ ≡ r₂
numbers_determined κs a r₁ r₂ s₁ s₂ p q = p ∙⁻¹ q

pub seven_numbers_determined : (κs : Lfts 0) (a : _) (r₁ r₂ : _) (s₁ s₂ : _) → seven_numbers.Learnt κs a r₁ s₁ → seven_numbers.Learnt κs a r₂ s₂ → r₁ ≡ r₂
seven_numbers_determined κs a r₁ r₂ s₁ s₂ p q = p ∙⁻¹ q

pub classes_determined : (κs : Lfts 3) (a : _) (r₁ r₂ : _) (s₁ s₂ : _) → classes.Learnt κs a r₁ s₁ → classes.Learnt κs a r₂ s₂ → (r₁ ≡ r₂) × (s₁.1.1.0.now ≡ s₂.1.1.0.now) × (s₁.1.1.1.0.now ≡ s₂.1.1.1.0.now)
classes_determined κs a r₁ r₂ s₁ s₂ p q = (classes_told_injective r₁ r₂ (p.0 ∙⁻¹ q.0), p.1.0 ∙⁻¹ q.1.0, p.1.1 ∙⁻¹ q.1.1)

pub cut_determined : (κs : Lfts 4) (a : _) (r₁ r₂ : _) (s₁ s₂ : _) → cut.Learnt κs a r₁ s₁ → cut.Learnt κs a r₂ s₂ → (r₁ ≡ r₂) × (s₁.1.1.0.now ≡ s₂.1.1.0.now) × (s₁.1.1.1.0.now ≡ s₂.1.1.1.0.now) × (s₁.1.1.1.1.0.now ≡ s₂.1.1.1.1.0.now)
cut_determined κs a r₁ r₂ s₁ s₂ p q =
    (cut_told_injective r₁ r₂ (p.0 ∙⁻¹ q.0), p.1.0 ∙⁻¹ q.1.0, p.1.1.0 ∙⁻¹ q.1.1.0, p.1.1.1 ∙⁻¹ q.1.1.1)

pub cut_refusal_code_determined : (κs : Lfts 0) (a : _) (r₁ r₂ : _) (s₁ s₂ : _) → cut_refusal_code.Learnt κs a r₁ s₁ → cut_refusal_code.Learnt κs a r₂ s₂ → r₁ ≡ r₂
cut_refusal_code_determined κs a r₁ r₂ s₁ s₂ p q = p ∙⁻¹ q

pub cut_refusal_place_determined : (κs : Lfts 0) (a : _) (r₁ r₂ : _) (s₁ s₂ : _) → cut_refusal_place.Learnt κs a r₁ s₁ → cut_refusal_place.Learnt κs a r₂ s₂ → r₁ ≡ r₂
cut_refusal_place_determined κs a r₁ r₂ s₁ s₂ p q = p ∙⁻¹ q

pub classes_refusal_code_determined : (κs : Lfts 0) (a : _) (r₁ r₂ : _) (s₁ s₂ : _) → classes_refusal_code.Learnt κs a r₁ s₁ → classes_refusal_code.Learnt κs a r₂ s₂ → r₁ ≡ r₂
classes_refusal_code_determined κs a r₁ r₂ s₁ s₂ p q = p ∙⁻¹ q

pub classes_refusal_place_determined : (κs : Lfts 0) (a : _) (r₁ r₂ : _) (s₁ s₂ : _) → classes_refusal_place.Learnt κs a r₁ s₁ → classes_refusal_place.Learnt κs a r₂ s₂ → r₁ ≡ r₂
classes_refusal_place_determined κs a r₁ r₂ s₁ s₂ p q = p ∙⁻¹ q

pub cut_from_determined : (κs : Lfts 0) (a : _) (r₁ r₂ : _) (s₁ s₂ : _) → cut_from.Learnt κs a r₁ s₁ → cut_from.Learnt κs a r₂ s₂ → r₁ ≡ r₂
cut_from_determined κs a r₁ r₂ s₁ s₂ p q = p ∙⁻¹ q

pub classes_from_determined : (κs : Lfts 0) (a : _) (r₁ r₂ : _) (s₁ s₂ : _) → classes_from.Learnt κs a r₁ s₁ → classes_from.Learnt κs a r₂ s₂ → r₁ ≡ r₂
classes_from_determined κs a r₁ r₂ s₁ s₂ p q = p ∙⁻¹ q
