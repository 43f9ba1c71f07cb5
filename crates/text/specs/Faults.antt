-- When each of the reader's codes is given, in the words of document 01's table, and where.
--
--   AllDigits bs       the bytes bs are decimal digits
--   Sign bs            the bytes bs are an optional `+` or `-`
--   Spelled bs         bs is an optional `+` or `-` and then one or more decimal digits
--   HasForm bs k       bs is so spelled, with digits of value k
--   NoForm bs          bs is not of that form
--   InRange bs         bs is of that form and a number from -2,147,483,648 to 2,147,483,647
--   OutOfRange bs      bs is of that form and a number outside
--   Fine ks            the things ks are numbers of the form and in range
--   Eleven e m ks p    a text of length e that is the things ks is not of the form, and p is its leftmost fault
--   Twelve m ks p      the number at place p is out of range, and that is the leftmost fault
--   Thirteen m ks p    the number at place p is the first one too many for m entries, and that is the leftmost fault
--   Whole m ks n       the things ks are a text of the form, with n numbers, and n is at most m
use Rattle.std.specs.Prelude.{◌≡◌, ℕ, ◌≤◌, ◌<◌, List, [], ◌∷◌, ◌++◌, length, true}
use Rattle.std.proofs.Math.Option.{none, some}
use Rattle.number.specs.Bytes.{plus_byte, minus_byte, is_digit}
use Rattle.number.specs.Numbers.{is_minus, unsigned, magnitude_of, greatest}
use Rattle.text.specs.Tokens.{Token, opening, closing, number, start_of}

abbrev pub AllDigits : List ℕ → Type 0
AllDigits [] = Unit {0}
AllDigits (b ∷ bs) = (is_digit b ≡ true) × AllDigits bs

pub data Sign : List ℕ → Type 0 where
  no_sign : Sign []
  plus : Sign (plus_byte ∷ [])
  minus : Sign (minus_byte ∷ [])

pub record Spelled (bs : List ℕ) : Type 0 where
  pub sign : List ℕ
  pub digits : List ℕ
  pub optional : Sign sign
  pub one_or_more : 0 < length digits
  pub decimal_digits : AllDigits digits
  pub together : bs ≡ sign ++ digits

-- that this is the same as `Spelled` is proved: `form_exactly`
abbrev pub HasForm : List ℕ → ℕ → Type 0
HasForm bs k = magnitude_of (unsigned bs) ≡ some k

abbrev pub NoForm : List ℕ → Type 0
NoForm bs = magnitude_of (unsigned bs) ≡ none

abbrev pub InRange : List ℕ → Type 0
InRange bs = (k : ℕ) × HasForm bs k × (k ≤ greatest (is_minus bs))

abbrev pub OutOfRange : List ℕ → Type 0
OutOfRange bs = (k : ℕ) × HasForm bs k × (greatest (is_minus bs) < k)

pub data Fine : List Token → Type 0 where
  none_left : Fine []
  one_more : {p : ℕ} {bs : List ℕ} {ks : List Token} → InRange bs → Fine ks → Fine (number p bs ∷ ks)

-- `front` are the numbers to the left of the fault: nothing is wrong with them, and they have room
pub data Eleven (e m : ℕ) (ks : List Token) (p : ℕ) : Type 0 where
  no_bracket : ks ≡ [] → p ≡ e → Eleven e m ks p
  closed_first : (r : List Token) → ks ≡ closing p ∷ r → Eleven e m ks p
  number_first : (bs : List ℕ) (r : List Token) → ks ≡ number p bs ∷ r → Eleven e m ks p
  never_closed : (q : ℕ) (front : List Token) → Fine front → length front ≤ m → ks ≡ opening q ∷ front → p ≡ e → Eleven e m ks p
  opened_twice : (q : ℕ) (front r : List Token) → Fine front → length front ≤ m → ks ≡ opening q ∷ (front ++ opening p ∷ r) → Eleven e m ks p
  bad_number : (q : ℕ) (front : List Token) (bs : List ℕ) (r : List Token) → Fine front → length front ≤ m → NoForm bs
      → ks ≡ opening q ∷ (front ++ number p bs ∷ r) → Eleven e m ks p
  second_thing : (q : ℕ) (front : List Token) (c : ℕ) (k : Token) (r : List Token) → Fine front → length front ≤ m
      → ks ≡ opening q ∷ (front ++ closing c ∷ k ∷ r) → p ≡ start_of k → Eleven e m ks p

pub data Twelve (m : ℕ) (ks : List Token) (p : ℕ) : Type 0 where
  too_large : (q : ℕ) (front : List Token) (bs : List ℕ) (r : List Token) → Fine front → length front ≤ m → OutOfRange bs
      → ks ≡ opening q ∷ (front ++ number p bs ∷ r) → Twelve m ks p

pub data Thirteen (m : ℕ) (ks : List Token) (p : ℕ) : Type 0 where
  no_room : (q : ℕ) (front : List Token) (bs : List ℕ) (r : List Token) → Fine front → length front ≡ m → InRange bs
      → ks ≡ opening q ∷ (front ++ number p bs ∷ r) → Thirteen m ks p

pub data Whole (m : ℕ) (ks : List Token) (n : ℕ) : Type 0 where
  of_the_form : (q : ℕ) (front : List Token) (c : ℕ) → Fine front → length front ≤ m → ks ≡ opening q ∷ (front ++ closing c ∷ []) → n ≡ length front
      → Whole m ks n
