-- Laws of the vertex count: what an entry's bits say of it, and the count as a fold over the entries.
use Prim.Native.Nat.{ℕ, max}
use mathlib.Core.Path.{◌≡◌}
use mathlib.Core.List.{List, [], ◌∷◌}
use native.Mathlib.Omega.{arith}
use lib.IntN.{ℤ}
use Rattle.std.specs.Prelude.{fold}
use Rattle.program.specs.Printed.{count_to, vertex_count}

-- the count goes on from what was counted
folds_on : (l : List ℤ) (n : ℕ) → fold (λ (a : ℕ) (x : ℤ). max a (count_to x)) n l ≡ max n (vertex_count l)
folds_on [] n = omega arith
folds_on (x ∷ xs) n = omega (arith, folds_on xs (max n (count_to x)))

pub vertex_count_folds : (l : List ℤ) → vertex_count l ≡ fold (λ (a : ℕ) (x : ℤ). max a (count_to x)) 0 l
vertex_count_folds l = omega (arith, folds_on l 0)
