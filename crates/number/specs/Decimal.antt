-- A number written in shortest decimal (document 01, "Text").
--
--   width n            how many digits n has
--   width_within f n   the same, where f bounds how many are looked for
--   low_digits k n     the k lowest decimal digits of n, as bytes
--   decimal_text n     n in shortest decimal
use Rattle.std.specs.Prelude.{◌≡◌, refl, ℕ, zero, suc, ◌+◌, ◌/◌, ◌%◌, ◌≤◌, ◌<◌, List, [], ◌∷◌, ◌++◌, Bool, true, false, cond, ltb}
use Rattle.std.proofs.Common.{ap, sym, arith, lt-ltb, le-ltb, ltb-false}
use Rattle.number.specs.Bytes.{zero_byte}

abbrev pub width_within : ℕ → ℕ → ℕ
width_within zero n = 1
width_within (suc f) n = let r : ℕ = suc (width_within f (n / 10)) in cond (ltb n 10) 1 r

unfoldable pub width : ℕ → ℕ
width n = width_within n n

-- ---- the two equations of `width`

pub width_one : (n : ℕ) → n < 10 → width n ≡ 1
unfolding width
width_one n h = go n
  where
    go : (f : ℕ) → width_within f n ≡ 1
    go zero = refl
    go (suc f) = rw (lt-ltb n 10 h)

-- any bound that is large enough gives the same
within_same : (f g n : ℕ) → n ≤ f → n ≤ g → width_within f n ≡ width_within g n
within_same zero zero n p q = refl
within_same zero (suc g) n p q = sym (rw (lt-ltb n 10 (omega arith)))
within_same (suc f) zero n p q = rw (lt-ltb n 10 (omega arith))
within_same (suc f) (suc g) n p q = go (ltb n 10) refl (λ a b. within_same f g (n / 10) a b)
  where
    go : (b : Bool) → ltb n 10 ≡ b → (n / 10 ≤ f → n / 10 ≤ g → width_within f (n / 10) ≡ width_within g (n / 10))
        → cond (ltb n 10) 1 (suc (width_within f (n / 10))) ≡ cond (ltb n 10) 1 (suc (width_within g (n / 10)))
    go true e h = rw e
    go false e h = rw e (ap suc (h (omega (arith, ltb-false n 10 e)) (omega (arith, ltb-false n 10 e))))

pub width_more : (n : ℕ) → 10 ≤ n → width n ≡ suc (width (n / 10))
unfolding width
width_more zero h = absurd (omega arith)
width_more (suc m) h =
    rw (le-ltb (suc m) 10 h) (ap suc (within_same m (suc m / 10) (suc m / 10) (omega arith) (omega arith)))

-- ---- the digits

abbrev pub low_digits : ℕ → ℕ → List ℕ
low_digits zero n = []
low_digits (suc k) n = low_digits k (n / 10) ++ (zero_byte + n % 10) ∷ []

abbrev pub decimal_text : ℕ → List ℕ
decimal_text n = low_digits (width n) n
