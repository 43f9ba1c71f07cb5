-- Digits and their value, as the number reader takes them: one digit at a time, and nothing above `beyond`.
use mathlib.Core.Path.{◌≡◌, refl, ap}
use Prim.Native.Nat.{ℕ, suc, ◌+◌, ◌-◌, ◌*◌, ◌<◌, min}
use native.Mathlib.Numerals.{add-one}
use native.Mathlib.Omega.{arith}
use mathlib.Core.List.{List, [], ◌∷◌}
use mathlib.Core.Bool.{Bool, true, false, cond}
use mathlib.Core.Option.{none}
use lib.ListN.{length, drop, get_or}
use lib.Seq.{drop-cons}
use Rattle.std.specs.Prelude.{Some}
use Rattle.number.specs.Bytes.{is_digit, zero_byte}
use Rattle.number.specs.Numbers.{decimal}
use Rattle.number.specs.Steps.{beyond, clipped}

-- two values that are kept as the same one stay so behind any digits
pub clip_same : (m k : ℕ) (bs : List ℕ) → min m beyond ≡ min k beyond → clipped (decimal m bs) ≡ clipped (decimal k bs)
clip_same m k [] e = ap Some e
clip_same m k (b ∷ bs) e = go (is_digit b) (clip_same (m * 10 + (b - zero_byte)) (k * 10 + (b - zero_byte)) bs (omega arith))
  where
    go : (d : Bool) → clipped (decimal (m * 10 + (b - zero_byte)) bs) ≡ clipped (decimal (k * 10 + (b - zero_byte)) bs)
        → clipped (cond d (decimal (m * 10 + (b - zero_byte)) bs) none) ≡ clipped (cond d (decimal (k * 10 + (b - zero_byte)) bs) none)
    go true h = h
    go false h = refl

-- a turn: the digit at i goes into the value, which stays at `beyond` once past it
pub digit_more : (bs : List ℕ) (i m : ℕ) → i < length bs → is_digit (get_or bs i 0) ≡ true
    → clipped (decimal (min (m * 10 + (get_or bs i 0 - zero_byte)) beyond) (drop (i + 1) bs)) ≡ clipped (decimal m (drop i bs))
digit_more bs i m h e =
    rw (drop-cons bs i 0 h, e, add-one i)
    (clip_same (min (m * 10 + (get_or bs i 0 - zero_byte)) beyond) (m * 10 + (get_or bs i 0 - zero_byte)) (drop (suc i) bs) (omega arith))
