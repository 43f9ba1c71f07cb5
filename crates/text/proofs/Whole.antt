-- A whole text: what the opening bracket decides, and that an accepted text gives as many entries as it counts.
use mathlib.Core.Path.{◌≡◌, refl, ap, sym, ◌∙◌}
use Prim.Native.Nat.{ℕ, suc, ◌+◌, ◌≤◌, ◌<◌}
use native.Mathlib.Numerals.{add-one}
use native.Mathlib.Omega.{arith}
use mathlib.Core.List.{List, [], ◌∷◌}
use mathlib.Core.Bool.{Bool, true, false, cond}
use mathlib.Core.Option.{Option, none, some}
use lib.IntN.{ℤ}
use lib.Dec.{ltb, leb}
use lib.ListN.{length, take, get_or}
use lib.Seq.{take_all}
use borrow.Author.Tests.{ltb-true, eq-eqb, ne_eqb}
use native.Mathlib.Decide.{dec_lt, ℕ_discrete}
use Rattle.std.specs.Prelude.{Err}
use Rattle.number.specs.Bytes.{open_byte, close_byte}
use Rattle.number.specs.Codes.{not_of_the_form, out_of_range, too_many}
use Rattle.number.specs.Numbers.{number_of, magnitude_of, unsigned, is_minus, signed, greatest, of_magnitude}
use Rattle.text.specs.Tokens.{Token, opening, closing, number, tokens, tokens_at}
use Rattle.list.specs.Written.{over}
use Rattle.text.specs.Reading.{accepted, refused, room_of, read_told, behind, counted, inside, opened, read_of, values_of, value_then, read_into}
use Rattle.text.specs.Steps.{blank, Opened}
use Rattle.number.specs.Numbers.{Number}
use Rattle.number.specs.Numbers.{Value, Refused}
use Rattle.text.specs.Reading.{ReadAnswer}
use Rattle.text.specs.declared.ReadFault.{ReadFault}
use Rattle.text.specs.declared.ReadFault.TheVariants.{NotOfTheForm, OutOfRange, TooMany}
use Rattle.text.proofs.Lexing.{skip_end, skip_within}
use Rattle.text.proofs.Items.{first_opens, first_closes, first_number}

-- the code that refuses a number is 11 or 12
pub refused_code : (p e : ℕ) (bs : List ℕ) (c q : ℕ) → number_of p e bs ≡ Refused c q → 0 < c
refused_code p e bs c q h = by_magnitude (magnitude_of (unsigned bs)) h
  where
    by_range : (m : ℕ) (r : Bool) → cond r (Value (signed (is_minus bs) m) e) (Refused out_of_range p) ≡ Refused c q → 0 < c
    by_range m true k = cc
    by_range m false k = let z : out_of_range ≡ c = cc in omega arith

    by_magnitude : (o : Option ℕ) → of_magnitude p e (is_minus bs) o ≡ Refused c q → 0 < c
    by_magnitude none k = let z : not_of_the_form ≡ c = cc in omega arith
    by_magnitude (some m) k = by_range m (leb m (greatest (is_minus bs))) k

-- ---- an accepted text: as many entries as values

abbrev Counts : ℕ → ℕ → List ℤ → ReadAnswer → Type 0
Counts m n vs r = r.code ≡ 0 → r.entries ≡ n + length vs

number_counts : (m n p : ℕ) (x : Number) (vs : List ℤ) (next : ReadAnswer) → ((c q : ℕ) → x ≡ Refused c q → 0 < c)
    → Counts m (suc n) vs next → Counts m n (value_then x vs) (counted p (ltb n m) x next)
number_counts m n p (Refused c q) vs next k h z = let w = k c q refl in absurd (omega arith)
number_counts m n p (Value v e) vs next k h z = go (ltb n m) refl z
  where
    go : (r : Bool) → ltb n m ≡ r → Counts m n (v ∷ vs) (cond r next (refused too_many p))
    go true t z = let w = h z in omega arith
    go false t z = absurd (omega arith)

behind_counts : (m n : ℕ) (ks : List Token) → Counts m n [] (behind n ks)
behind_counts m n [] z = omega arith
behind_counts m n (k ∷ ks) z = absurd (omega arith)

pub inside_counts : (e m n : ℕ) (ks : List Token) → Counts m n (values_of ks) (inside e m n ks)
inside_counts e m n [] z = absurd (omega arith)
inside_counts e m n (opening p ∷ ks) z = absurd (omega arith)
inside_counts e m n (closing p ∷ ks) z = behind_counts m n ks z
inside_counts e m n (number p bs ∷ ks) z =
    number_counts m n p (number_of p (p + length bs) bs) (values_of ks) (inside e m (suc n) ks)
    (refused_code p (p + length bs) bs) (inside_counts e m (suc n) ks) z

-- accepted or not, no more entries are answered than there is room for
behind_fits : (m n : ℕ) (ks : List Token) → n ≤ m → (behind n ks).entries ≤ m
behind_fits m n [] h = h
behind_fits m n (k ∷ ks) h = omega arith

number_fits : (m n p : ℕ) (x : Number) (next : ReadAnswer) → (suc n ≤ m → next.entries ≤ m) → (counted p (ltb n m) x next).entries ≤ m
number_fits m n p (Refused c q) next f = omega arith
number_fits m n p (Value v e) next f = go (ltb n m) refl
  where
    go : (r : Bool) → ltb n m ≡ r → (cond r next (refused too_many p)).entries ≤ m
    go true t = f (ltb-true n m t)
    go false t = omega arith

inside_fits : (e m n : ℕ) (ks : List Token) → n ≤ m → (inside e m n ks).entries ≤ m
inside_fits e m n [] h = omega arith
inside_fits e m n (opening p ∷ ks) h = omega arith
inside_fits e m n (closing p ∷ ks) h = behind_fits m n ks h
inside_fits e m n (number p bs ∷ ks) h = number_fits m n p (number_of p (p + length bs) bs) (inside e m (suc n) ks) (λ k. inside_fits e m (suc n) ks k)

opened_fits : (e m : ℕ) (ks : List Token) → (opened e m ks).entries ≤ m
opened_fits e m [] = omega arith
opened_fits e m (opening p ∷ ks) = inside_fits e m 0 ks (omega arith)
opened_fits e m (closing p ∷ ks) = omega arith
opened_fits e m (number p bs ∷ ks) = omega arith

pub read_fits : (t : List ℕ) (n : ℕ) → (read_of t n).entries ≤ n
unfolding read_of
read_fits t n = omega (arith, opened_fits (length t) (room_of n) (tokens 0 false t))

-- ---- the opening bracket

module _ (t : List ℕ) (q : ℕ) (at : q ≡ 0 + blank false t) where
  pub whole_unopened : (n : ℕ) → (q < length t → get_or t q 0 ≡ open_byte → ⊥) → read_of t n ≡ refused not_of_the_form q
  unfolding read_of
  whole_unopened n o = by_end (dec_lt q (length t))
    where
      by_close : q < length t → Dec (get_or t q 0 ≡ close_byte) → opened (length t) (room_of n) (tokens 0 false t) ≡ refused not_of_the_form q
      by_close h (yes c) = ap (opened (length t) (room_of n)) (first_closes t 0 q at h c)
      by_close h (no c) = ap (opened (length t) (room_of n)) (first_number t 0 q at h (o h) c)

      by_end : Dec (q < length t) → opened (length t) (room_of n) (tokens 0 false t) ≡ refused not_of_the_form q
      by_end (yes h) = by_close h (ℕ_discrete (get_or t q 0) close_byte)
      by_end (no h) =
          let k : length t ≡ q = omega (arith, skip_within t 0 q at (omega arith)) in
          ap (opened (length t) (room_of n)) (skip_end t 0 q at (omega arith)) ∙ ap (refused not_of_the_form) k

  pub whole_opened : q < length t → get_or t q 0 ≡ open_byte → tokens 0 false t ≡ opening q ∷ tokens_at t (q + 1)
  whole_opened h o = rw (add-one q) (first_opens t 0 q at h o)

module _ (t : List ℕ) (i : ℕ) (head : Opened t i) where
  pub read_inside : (n : ℕ) → read_of t n ≡ inside (length t) (room_of n) 0 (tokens_at t i)
  unfolding read_of
  read_inside n = ap (opened (length t) (room_of n)) head.1

  -- an accepted text: its first values over the start of the list
  pub read_entries : (l : List ℤ) (n : ℕ) → read_of t (length l) ≡ accepted n → over (take n (values_of (tokens_at t i))) l ≡ read_into t l
  unfolding read_into
  read_entries l n e =
      let inner : inside (length t) (room_of (length l)) 0 (tokens_at t i) ≡ accepted n = sym (read_inside (length l)) ∙ e in
      let w = inside_counts (length t) (room_of (length l)) 0 (tokens_at t i) (ap (λ (r : ReadAnswer). r.code) inner) in
      let k = ap (λ (r : ReadAnswer). r.entries) inner in
      rw (eq-eqb (read_of t (length l)).code 0 (ap (λ (r : ReadAnswer). r.code) e), head.1)
      (ap (λ (vs : List ℤ). over vs l) (take_all n (values_of (tokens_at t i)) (omega arith)))

-- a refused text leaves the list as it was
pub into_refused : (t : List ℕ) (l : List ℤ) → ((read_of t (length l)).code ≡ 0 → ⊥) → read_into t l ≡ l
unfolding read_into
into_refused t l h = rw (ne_eqb (read_of t (length l)).code 0 h)

pub into_faulty : (t : List ℕ) (l : List ℤ) (f : ReadFault) → read_of t (length l) ≡ read_told (Err f) → read_into t l ≡ l
into_faulty t l f e = into_refused t l (λ z. refuses f (sym (ap (λ (r : ReadAnswer). r.code) e) ∙ z))
  where
    refuses : (f : ReadFault) → (read_told (Err f)).code ≡ 0 → ⊥
    refuses (NotOfTheForm p) z = absurd (omega arith)
    refuses (OutOfRange p) z = absurd (omega arith)
    refuses (TooMany p) z = absurd (omega arith)
