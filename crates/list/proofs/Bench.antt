-- The bench lists of document 01 that concern the check alone.
use Prim.Native.Nat.{ℕ, ◌+◌, ◌-◌}
use mathlib.Core.Path.{◌≡◌, refl, sym}
use mathlib.Core.List.{List, [], ◌∷◌, map}
use native.Mathlib.Omega.{arith}
use lib.IntN.{ℤ, pos, negsuc}
use lib.ListN.{replicate, length-replicate}
use Rattle.list.specs.Limits.{max_entries, max_vertices}
use Rattle.list.specs.Check.{CheckAnswer, check_of, check_faces, face_fault, refused, accepted}
use Rattle.list.proofs.Checking.{check_entries}

pub record Row : Type 0 where
  pub list : List ℤ
  pub n : ℕ
  pub answer : CheckAnswer

abbrev row : List ℤ → ℕ → CheckAnswer → Row
row l n a = record { list = l; n = n; answer = a }

pub bench : List Row
bench =
    row [] 0 (accepted 0 0) ∷
    row (pos 7 ∷ pos 3 ∷ pos 9 ∷ negsuc 0 ∷ []) 10 (accepted 1 3) ∷
    row (pos 0 ∷ pos 1 ∷ pos 2 ∷ negsuc 0 ∷ pos 1 ∷ pos 2 ∷ pos 3 ∷ []) 4 (accepted 2 6) ∷
    row (pos 0 ∷ pos 1 ∷ negsuc 0 ∷ []) 2 (refused 4 0) ∷
    row (negsuc 0 ∷ []) 0 (refused 4 0) ∷
    row (pos 0 ∷ pos 1 ∷ pos 2 ∷ negsuc 0 ∷ negsuc 0 ∷ []) 3 (refused 4 4) ∷
    row (pos 0 ∷ pos 1 ∷ pos 5 ∷ negsuc 0 ∷ []) 5 (refused 3 2) ∷
    row (pos 0 ∷ pos 1 ∷ pos 5 ∷ negsuc 0 ∷ []) 6 (accepted 1 3) ∷
    row (pos 0 ∷ pos 0 ∷ negsuc 1 ∷ []) 3 (refused 3 2) ∷
    row (pos 0 ∷ pos 1 ∷ pos 2 ∷ negsuc 0 ∷ pos 0 ∷ pos 3 ∷ pos 0 ∷ negsuc 0 ∷ []) 4 (refused 5 6) ∷
    row (pos (max_vertices - 3) ∷ pos (max_vertices - 2) ∷ pos (max_vertices - 1) ∷ negsuc 0 ∷ []) max_vertices (accepted 1 3) ∷
    row (pos (max_vertices - 3) ∷ pos (max_vertices - 2) ∷ pos (max_vertices - 1) ∷ negsuc 0 ∷ []) (max_vertices + 1) (refused 2 0) ∷
    row [] (max_vertices + 1) (refused 2 0) ∷
    []

pub bench_holds : map (λ (r : Row). row r.list r.n (check_of r.list r.n)) bench ≡ bench
unfolding bench check_of check_faces face_fault
bench_holds = refl

-- one entry more than the limit is refused by 1, whatever they are and whatever n is
pub too_long : (x : ℤ) (n : ℕ) → check_of (replicate (max_entries + 1) x) n ≡ refused 1 0
too_long x n = sym (check_entries (replicate (max_entries + 1) x) n (rw (length-replicate (max_entries + 1) x) (omega arith)))
