-- An entry of a list, which fits 32 bits: its own bits read back, their sign and their magnitude.
use mathlib.Core.Path.{◌≡◌, refl}
use native.Mathlib.Omega.{arith}
use lib.IntN.{ℤ, pos, negsuc, nat_abs}
use lib.Signed.{lt_z}
use borrow.Author.Tests.{le-ltb}
use mir.Syntax.{w32}
use mir.Val.{SFits, of_z, to_z}
use mir.ValLaws.{to_z-of_z}
use Rattle.text.specs.Writing.{is_negative}

negative_flag : (x : ℤ) → lt_z x (pos 0) ≡ is_negative x
negative_flag (pos n) = le-ltb n 0 (omega arith)
negative_flag (negsuc n) = refl

module _ (x : ℤ) (f : SFits w32 x) where
  pub sign_read : lt_z (to_z w32 (of_z w32 x)) (pos 0) ≡ is_negative x
  sign_read = rw (to_z-of_z w32 x f) (negative_flag x)

  pub magnitude_read : nat_abs (to_z w32 (of_z w32 x)) ≡ nat_abs x
  magnitude_read = rw (to_z-of_z w32 x f)
