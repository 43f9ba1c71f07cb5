-- `number::magnitude` meets its contract. The value so far with the digits left comes to what all digits come to.
use mathlib.Core.Path.{◌≡◌}
use Prim.Native.Nat.{◌≤◌}
use lib.ListN.{drop}
use Rattle.number.specs.Numbers.{decimal, magnitude_of}
use Rattle.number.specs.Steps.{beyond, clipped}
use Rattle.number.proofs.magnitude.Given as goal

abbrev pub invariant-loop-b : goal.invariant-loop-b
invariant-loop-b l = (l.m ≤ beyond) × (clipped (decimal l.m (drop l.b-index l.digits)) ≡ clipped (magnitude_of l.digits))
