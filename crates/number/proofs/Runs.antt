-- The bytes of a number: those in front of the first byte that belongs to none.
use mathlib.Core.Path.{◌≡◌, refl, ap}
use Prim.Native.Nat.{ℕ, ◌+◌, ◌≤◌}
use native.Mathlib.Numerals.{one-add}
use native.Mathlib.Omega.{arith}
use mathlib.Core.List.{List, [], ◌∷◌}
use mathlib.Core.Bool.{Bool, true, false, cond, not}
use lib.ListN.{length, take, drop, length-take, length-drop}
use lib.Dec.{ltb}
use borrow.Author.Tests.{ltb-false}
use Rattle.std.specs.Prelude.{Some, None}
use Rattle.std.specs.List.{position, position_or_len}
use Rattle.std.specs.Option.{unwrap_or}
use Rattle.std.proofs.lemmas.List.Sums.{prefix_len-le-length}
use Rattle.number.specs.Bytes.{in_number}
use Rattle.number.specs.Numbers.{number_bytes}

pub run_taken : (s : List ℕ) → take (position_or_len (λ b. not (in_number b)) s) s ≡ number_bytes s
run_taken [] = refl
run_taken (b ∷ s) = go (in_number b) (run_taken s)
  where
    go : (d : Bool) → take (position_or_len (λ b. not (in_number b)) s) s ≡ number_bytes s
        → take (cond (not (not d)) (1 + position_or_len (λ b. not (in_number b)) s) 0) (b ∷ s) ≡ cond d (b ∷ number_bytes s) []
    go true h = rw one-add (ap (λ (r : List ℕ). b ∷ r) h)
    go false h = refl

pub run_length_lem : (s : List ℕ) → length (number_bytes s) ≤ length s
run_length_lem s = omega (arith, simp length-take at (ap length (run_taken s)))

pub run_within : (t : List ℕ) (at : ℕ) → at ≤ length t → at + length (number_bytes (drop at t)) ≤ length t
run_within t at h = omega (arith, run_length_lem (drop at t), length-drop at t)

pub place_or_end : (p : ℕ → Bool) (s : List ℕ) → unwrap_or (position p s) (length s) ≡ position_or_len p s
place_or_end p s = go (ltb (position_or_len p s) (length s)) refl
  where
    go : (b : Bool) → ltb (position_or_len p s) (length s) ≡ b → unwrap_or (cond b (Some (position_or_len p s)) None) (length s) ≡ position_or_len p s
    go true e = refl
    go false e = omega (arith, ltb-false _ _ e, prefix_len-le-length (λ b. not (p b)) s)
