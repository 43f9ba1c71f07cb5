-- What is left of a count, and words that the front of a list decides.
use Prim.Native.Nat.{ℕ, suc, ◌+◌, ◌-◌, ◌<◌}
use mathlib.Core.Path.{◌≡◌, sym, ◌∙◌, ap}
use mathlib.Core.List.{List}
use native.Mathlib.Omega.{arith}
use lib.ListN.{take}
use lib.Seq.{get_or-take}
use Rattle.groups.specs.Forest.{at}

-- what is left of c after e is one more than what is left after e + 1
pub count_down : (c e : ℕ) → e < c → c - e ≡ suc (c - (e + 1))
count_down c e h = omega arith

pub word_kept : (w w' : List ℕ) (p i : ℕ) → take p w' ≡ take p w → i < p → at w' i ≡ at w i
word_kept w w' p i e h = sym (get_or-take p w' i 0 h) ∙ ap (λ (x : List ℕ). at x i) e ∙ get_or-take p w i 0 h
