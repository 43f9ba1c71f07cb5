-- `separate` meets its contract: one corner more is its own parent with each turn.
use Prim.Native.Nat.{ℕ, ◌<◌}
use mathlib.Core.Path.{◌≡◌}
use Rattle.groups.specs.Forest.{at}
use Rattle.groups.proofs.separate.Given as goal

abbrev pub invariant-loop-i : goal.invariant-loop-i
invariant-loop-i l = (j : ℕ) → j < l.i → at l.parents j ≡ j
