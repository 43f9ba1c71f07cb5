-- Laws of one signed entry z: what the code's tests and casts, made on its 32 bits, say of it in the words of the definitions.
-- Each asks that z fits, which a slice's element does.
use Prim.Native.Nat.{ℕ, ◌<◌, ◌^◌}
use mathlib.Core.Path.{◌≡◌, refl}
use mathlib.Core.Bool.{true, false, true≢false}
use mathlib.Core.List.{List}
use native.Mathlib.Omega.{arith}
use borrow.Author.Tests.{ltb-true}
use lib.Dec.{T}
use lib.IntN.{ℤ, pos, negsuc, nat_abs}
use lib.ListN.{get_or}
use lib.Signed.{mag, lt_z, non_neg}
use mir.Syntax.{w32, w64}
use mir.Val.{of_z, to_z, Fits, SFits}
use mir.ValLaws.{to_z-of_z}
use Rattle.list.specs.Faces.{num}

-- the bits of z read back are z
pub read_back : (z : ℤ) → mag z < 2 ^ 31 → to_z w32 (of_z w32 z) ≡ z
read_back z f = to_z-of_z w32 z (record { sfits = f })

-- an entry of a list that is passed on is the same vertex
pub passed_on : (l : List ℤ) (i v : ℕ) → SFits w32 (get_or l i (pos 0)) → v ≡ num (to_z w32 (of_z w32 (get_or l i (pos 0)))) → v ≡ num (get_or l i (pos 0))
passed_on l i v f e = simp to_z-of_z at e

module _ (z : ℤ) (f : mag z < 2 ^ 31) where
  pub num_negative : lt_z (to_z w32 (of_z w32 z)) (pos 0) ≡ true → 0 ≡ num z
  num_negative = rw (read_back z f) (go z)
    where
      go : (z : ℤ) → lt_z z (pos 0) ≡ true → 0 ≡ num z
      go (pos k) h = absurd (omega (arith, ltb-true k 0 h))
      go (negsuc k) h = refl

  pub num_natural : lt_z (to_z w32 (of_z w32 z)) (pos 0) ≡ false → nat_abs (to_z w32 (of_z w32 z)) ≡ num z
  num_natural = rw (read_back z f) (go z)
    where
      go : (z : ℤ) → lt_z z (pos 0) ≡ false → nat_abs z ≡ num z
      go (pos k) h = refl
      go (negsuc k) h = absurd (true≢false h)

  pub cast_natural : lt_z (to_z w32 (of_z w32 z)) (pos 0) ≡ false → T (non_neg (to_z w32 (of_z w32 z))) × Fits w64 (nat_abs (to_z w32 (of_z w32 z)))
  cast_natural = rw (read_back z f) (go z f)
    where
      go : (z : ℤ) → mag z < 2 ^ 31 → lt_z z (pos 0) ≡ false → T (non_neg z) × Fits w64 (nat_abs z)
      go (pos k) f h = (tt, record { fits = omega arith })
      go (negsuc k) f h = absurd (true≢false h)
