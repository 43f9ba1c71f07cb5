use native.Mathlib.Omega.{arith}
use Rattle.groups.proofs.JoinLoop.{forest_of_own}
use Rattle.groups.proofs.separate.Goals as goal

pub returns : goal.returns
returns c = rw c.loop-i.auto.parents at (forest_of_own c.loop-i.parents (λ j h. c.loop-i.invariant j (omega arith)))
