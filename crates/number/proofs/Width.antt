-- How many digits a number has: between which powers of ten it lies, and how many at most.
use mathlib.Core.Path.{◌≡◌, ap}
use Prim.Native.Nat.{ℕ, zero, suc, ◌+◌, ◌*◌, ◌/◌, ◌≤◌, ◌<◌, ◌^◌, max}
use native.Mathlib.Nat.{pow-succ'}
use native.Mathlib.Omega.{arith}
use native.Mathlib.Decide.{dec_lt}
use Rattle.number.specs.Decimal.{width, width_one, width_more}

-- a number below 10 to the k-th has at most k digits
pub width_within_lem : (k n : ℕ) → n < 10 ^ suc k → width n ≤ suc k
width_within_lem zero n h = omega (arith, width_one n h)
width_within_lem (suc k) n h = go (dec_lt n 10) (λ r. width_within_lem k (n / 10) r)
  where
    go : Dec (n < 10) → (n / 10 < 10 ^ suc k → width (n / 10) ≤ suc k) → width n ≤ suc (suc k)
    go (yes s) r = omega (arith, width_one n s)
    go (no s) r =
        let p = pow-succ' 10 (suc k) in
        let m : 10 ≤ n = omega arith in
        omega (arith, width_more n m, r (omega arith))

pub width_64 : (n : ℕ) → n < 2 ^ 64 → width n ≤ 20
width_64 n h = width_within_lem 19 n (omega arith)

pub width_between : (k n : ℕ) → 10 ^ k ≤ n → n < 10 * 10 ^ k → width n ≡ k + 1
width_between zero n l h = omega (arith, width_one n (omega arith))
width_between (suc k) n l h =
    let p = pow-succ' 10 k in
    let m : 10 ≤ n = omega (arith, one_or_more k) in
    omega (arith, width_more n m, width_between k (n / 10) (omega arith) (omega arith))
  where
    one_or_more : (j : ℕ) → 1 ≤ 10 ^ j
    one_or_more zero = omega arith
    one_or_more (suc j) = omega (arith, pow-succ' 10 j, one_or_more j)

-- 0 has as many digits as 1
pub width_max_one : (n : ℕ) → width (max n 1) ≡ width n
width_max_one zero = omega (arith, width_one 0 (omega arith), width_one 1 (omega arith))
width_max_one (suc n) = ap width (omega arith)
