-- A number in a text (document 01, "Text"), and what reading at a number gives.
--
--   number_bytes s       the bytes of the number that s begins with: those up to the next separator, bracket, `#` or end
--   is_minus bs          bs begins with `-`
--   unsigned bs          bs without an optional `+` or `-` at its start
--   decimal m bs         the decimal value of the digits bs behind digits of value m; none where a byte is no digit
--   magnitude_of bs      the decimal value of bs, one or more digits
--   greatest minus       the greatest magnitude of a number with that sign: -2,147,483,648 to 2,147,483,647
--   signed minus m       the number of magnitude m
--   Number               what reading at a number gives: its value with the place after it, or a refusal's code and place
--   of_magnitude p e s o  the reading of a number from place p to place e with sign s whose digits come to o
--   number_of p e bs      the reading of the number bs that starts at place p and ends before place e
--   number_at t at        the reading of the text t at place at
--   number_told r          what the number reader answers, in document 01's numbers
--   code_of, place_of      document 01's numbers for a reading: 0 with its place after it, or the refusal with its place
use Rattle.std.specs.Prelude.{ℕ, ◌+◌, ◌-◌, ◌*◌, List, [], ◌∷◌, Bool, false, cond, ◌||◌, ℤ, pos, neg_ℤ, length, drop, eqb, leb, Result, Ok, Err}
use Rattle.std.proofs.Math.Option.{Option, none, some}
use Rattle.number.specs.Codes.{not_of_the_form, out_of_range}
use Rattle.number.specs.Bytes.{minus_byte, plus_byte, zero_byte, in_number, is_digit}
use Rattle.number.specs.declared.NumberRead.{NumberRead}
use Rattle.number.specs.declared.NumberFault.{NumberFault}
use Rattle.number.specs.declared.NumberFault.TheVariants.{NotOfTheForm, OutOfRange}

abbrev pub number_bytes : List ℕ → List ℕ
number_bytes [] = []
number_bytes (b ∷ s) = let r : List ℕ = number_bytes s in cond (in_number b) (b ∷ r) []

abbrev pub is_minus : List ℕ → Bool
is_minus [] = false
is_minus (b ∷ bs) = eqb b minus_byte

abbrev pub unsigned : List ℕ → List ℕ
unsigned [] = []
unsigned (b ∷ bs) = cond (eqb b minus_byte || eqb b plus_byte) bs (b ∷ bs)

abbrev pub decimal : ℕ → List ℕ → Option ℕ
decimal m [] = some m
decimal m (b ∷ bs) = let r : Option ℕ = decimal (m * 10 + (b - zero_byte)) bs in cond (is_digit b) r none

abbrev pub magnitude_of : List ℕ → Option ℕ
magnitude_of [] = none
magnitude_of (b ∷ bs) = decimal 0 (b ∷ bs)

abbrev pub greatest : Bool → ℕ
greatest minus = cond minus 2147483648 2147483647

abbrev pub signed : Bool → ℕ → ℤ
signed minus m = cond minus (neg_ℤ (pos m)) (pos m)

pub data Number : Type 0 where
  Value : ℤ → ℕ → Number
  Refused : ℕ → ℕ → Number

abbrev pub of_magnitude : ℕ → ℕ → Bool → Option ℕ → Number
of_magnitude p e minus none = Refused not_of_the_form p
of_magnitude p e minus (some m) = cond (leb m (greatest minus)) (Value (signed minus m) e) (Refused out_of_range p)

abbrev pub number_of : ℕ → ℕ → List ℕ → Number
number_of p e bs = of_magnitude p e (is_minus bs) (magnitude_of (unsigned bs))

abbrev pub number_at : List ℕ → ℕ → Number
number_at t at = number_of at (at + length (number_bytes (drop at t))) (number_bytes (drop at t))

abbrev pub number_told : Result NumberRead NumberFault → Number
number_told (Ok r) = Value r.value r.next
number_told (Err (NotOfTheForm p)) = Refused not_of_the_form p
number_told (Err (OutOfRange p)) = Refused out_of_range p

abbrev pub code_of : Number → ℕ
code_of (Value v e) = 0
code_of (Refused c p) = c

abbrev pub place_of : Number → ℕ
place_of (Value v e) = e
place_of (Refused c p) = p
