-- "Any two results that its contract admits coincide", for the program's function: the bytes printed, and all behind them. `Learnt` is
-- what a caller learns from the contract.
use mathlib.Core.Path.{◌≡◌, ◌∙⁻¹◌}
use contract.Lifetimes.{Lfts}
use Rattle.program.proofs.respond.Reads as respond

pub respond_determined : (κs : Lfts 1) (a : _) (r₁ r₂ : _) (s₁ s₂ : _) → respond.Learnt κs a r₁ s₁ → respond.Learnt κs a r₂ s₂ → r₁ ≡ r₂
respond_determined κs a r₁ r₂ s₁ s₂ p q = p ∙⁻¹ q
