-- "Any two results that its contract admits coincide", for every function of the C interface: the answer's numbers, and each buffer that the
-- call was lent. `Learnt` is what a caller learns from the contract.
use mathlib.Core.Path.{◌≡◌, ◌∙⁻¹◌}
use contract.Lifetimes.{Lfts}
use Rattle.brimclif.proofs.brimclif_check.Reads as check
use Rattle.brimclif.proofs.brimclif_edge.Reads as edge
use Rattle.brimclif.proofs.brimclif_classes.Reads as classes
use Rattle.brimclif.proofs.brimclif_cut.Reads as cut
use Rattle.brimclif.proofs.brimclif_read.Reads as read
use Rattle.brimclif.proofs.brimclif_write.Reads as write
use Rattle.brimclif.proofs.brimclif_face.Reads as face

pub check_determined : (κs : Lfts 2) (a : _) (r₁ r₂ : _) (s₁ s₂ : _) → check.Learnt κs a r₁ s₁ → check.Learnt κs a r₂ s₂ → s₁.1.1.0.now ≡ s₂.1.1.0.now
check_determined κs a r₁ r₂ s₁ s₂ p q = p ∙⁻¹ q

pub edge_determined : (κs : Lfts 2) (a : _) (r₁ r₂ : _) (s₁ s₂ : _) → edge.Learnt κs a r₁ s₁ → edge.Learnt κs a r₂ s₂ → s₁.1.1.1.1.0.now ≡ s₂.1.1.1.1.0.now
edge_determined κs a r₁ r₂ s₁ s₂ p q = p ∙⁻¹ q

pub classes_determined : (κs : Lfts 4) (a : _) (r₁ r₂ : _) (s₁ s₂ : _) → classes.Learnt κs a r₁ s₁ → classes.Learnt κs a r₂ s₂ → (s₁.1.1.1.1.0.now ≡ s₂.1.1.1.1.0.now) × (s₁.1.1.0.now ≡ s₂.1.1.0.now) × (s₁.1.1.1.0.now ≡ s₂.1.1.1.0.now)
classes_determined κs a r₁ r₂ s₁ s₂ p q = (p.0 ∙⁻¹ q.0, p.1.0 ∙⁻¹ q.1.0, p.1.1 ∙⁻¹ q.1.1)

pub cut_determined : (κs : Lfts 5) (a : _) (r₁ r₂ : _) (s₁ s₂ : _) → cut.Learnt κs a r₁ s₁ → cut.Learnt κs a r₂ s₂ → (s₁.1.1.1.1.1.0.now ≡ s₂.1.1.1.1.1.0.now) × (s₁.1.1.0.now ≡ s₂.1.1.0.now) × (s₁.1.1.1.0.now ≡ s₂.1.1.1.0.now) × (s₁.1.1.1.1.0.now ≡ s₂.1.1.1.1.0.now)
cut_determined κs a r₁ r₂ s₁ s₂ p q = (p.0 ∙⁻¹ q.0, p.1.0 ∙⁻¹ q.1.0, p.1.1.0 ∙⁻¹ q.1.1.0, p.1.1.1 ∙⁻¹ q.1.1.1)

pub read_determined : (κs : Lfts 3) (a : _) (r₁ r₂ : _) (s₁ s₂ : _) → read.Learnt κs a r₁ s₁ → read.Learnt κs a r₂ s₂ → (s₁.1.1.0.now ≡ s₂.1.1.0.now) × (s₁.1.0.now ≡ s₂.1.0.now)
read_determined κs a r₁ r₂ s₁ s₂ p q = (p.0 ∙⁻¹ q.0, p.1 ∙⁻¹ q.1)

pub write_determined : (κs : Lfts 3) (a : _) (r₁ r₂ : _) (s₁ s₂ : _) → write.Learnt κs a r₁ s₁ → write.Learnt κs a r₂ s₂ → (s₁.1.1.0.now ≡ s₂.1.1.0.now) × (s₁.1.0.now ≡ s₂.1.0.now)
write_determined κs a r₁ r₂ s₁ s₂ p q = (p.0 ∙⁻¹ q.0, p.1 ∙⁻¹ q.1)

pub face_determined : (κs : Lfts 2) (a : _) (r₁ r₂ : _) (s₁ s₂ : _) → face.Learnt κs a r₁ s₁ → face.Learnt κs a r₂ s₂ → s₁.1.1.0.now ≡ s₂.1.1.0.now
face_determined κs a r₁ r₂ s₁ s₂ p q = p ∙⁻¹ q
