-- A number has the form exactly when it is an optional `+` or `-` and then one or more decimal digits.
use mathlib.Core.Path.{◌≡◌, refl, ap}
use mathlib.Core.Logic.{◌↔◌}
use Prim.Native.Nat.{ℕ, ◌-◌, ◌*◌, ◌+◌, ◌<◌}
use native.Mathlib.Omega.{arith}
use mathlib.Core.List.{List, [], ◌∷◌, ◌++◌}
use mathlib.Core.Bool.{Bool, true, false}
use mathlib.Core.Option.{some}
use lib.Dec.{eqb}
use lib.ListN.{length}
use borrow.Author.Tests.{eqb-true}
use Rattle.number.specs.Bytes.{plus_byte, minus_byte, zero_byte}
use Rattle.number.specs.Numbers.{decimal, magnitude_of}
use Rattle.text.specs.Faults.{AllDigits, Sign, no_sign, plus, minus, Spelled, HasForm}
use Rattle.text.proofs.RoundTrip.{first_digit, rest_decimal, digits_plain, digits_signed}

-- digits have a value, and what has a value is digits
digits_value : (a : ℕ) (bs : List ℕ) → AllDigits bs → (k : ℕ) × (decimal a bs ≡ some k)
digits_value a [] h = (a, refl)
digits_value a (b ∷ bs) h =
    let r = digits_value (a * 10 + (b - zero_byte)) bs h.1 in
    (r.0, rw h.0 r.1)

value_digits : (a k : ℕ) (bs : List ℕ) → decimal a bs ≡ some k → AllDigits bs
value_digits a k [] e = tt
value_digits a k (b ∷ bs) e = (first_digit a k b bs e, value_digits (a * 10 + (b - zero_byte)) k bs (rest_decimal a k b bs e))

spelled_form : (sign digits : List ℕ) → Sign sign → 0 < length digits → (k : ℕ) → decimal 0 digits ≡ some k → HasForm (sign ++ digits) k
spelled_form sign digits no_sign h k e = (digits_plain k digits h e).1
spelled_form sign digits plus h k e = digits_signed k digits h e
spelled_form sign digits minus h k e = digits_signed k digits h e

-- one or more digits behind the sign that was taken off
some_digits : (k : ℕ) (bs : List ℕ) → magnitude_of bs ≡ some k → (0 < length bs) × AllDigits bs
some_digits k [] e = cc
some_digits k (b ∷ bs) e = (omega arith, value_digits 0 k (b ∷ bs) e)

form_spelled : (bs : List ℕ) (k : ℕ) → HasForm bs k → Spelled bs
form_spelled [] k e = cc
form_spelled (b ∷ bs) k e = go (eqb b minus_byte) (eqb b plus_byte) refl refl
  where
    taken : (x : ℕ) → Sign (x ∷ []) → b ≡ x → magnitude_of bs ≡ some k → Spelled (b ∷ bs)
    taken x s q f =
        let d = some_digits k bs f in
        record {
          sign = x ∷ [];
          digits = bs;
          optional = s;
          one_or_more = d.0;
          decimal_digits = d.1;
          together = ap (λ (y : ℕ). y ∷ bs) q;
        }

    go : (m p : Bool) → eqb b minus_byte ≡ m → eqb b plus_byte ≡ p → Spelled (b ∷ bs)
    go true p u v = taken minus_byte minus (eqb-true b minus_byte u) (rw u at e)
    go false true u v = taken plus_byte plus (eqb-true b plus_byte v) (rw (u, v) at e)
    go false false u v =
        let f : magnitude_of (b ∷ bs) ≡ some k = rw (u, v) at e in
        let d = some_digits k (b ∷ bs) f in
        record {
          sign = [];
          digits = b ∷ bs;
          optional = no_sign;
          one_or_more = d.0;
          decimal_digits = d.1;
          together = refl;
        }

-- "it has an optional `+` or `-` and then one or more decimal digits"
pub form_exactly : (bs : List ℕ) → ((k : ℕ) × HasForm bs k) ↔ Spelled bs
form_exactly bs = (
  λ h. form_spelled bs h.0 h.1,
  λ s.
      let v = digits_value 0 s.digits s.decimal_digits in
      (v.0, rw s.together (spelled_form s.sign s.digits s.optional s.one_or_more v.0 v.1)),
)
