-- Each code is given exactly when document 01's table says, with the table's place.
--
--   eleven_exactly      11: the text is not of the form, at its leftmost fault
--   twelve_exactly      12: a number out of range, at its first byte
--   thirteen_exactly    13: more numbers than there is room for, at the first byte of the first one too many
--   verdict             every text is accepted or refused by one of the three
--   accepted_exactly    0: the text is of the form, and its numbers are in range and have room
--   one_exactly         1: more entries than a list may have
--   fifteen_exactly     15: the buffer is shorter than the text, and the place is the text's length
--   needed_exact        the length needed is exact: with it the writer accepts, with less it refuses
use mathlib.Core.Path.{◌≡◌, refl, ap, sym, subst, ◌∙◌}
use mathlib.Core.Logic.{◌↔◌}
use Prim.Native.Nat.{ℕ, suc, ◌+◌, ◌≤◌, ◌<◌}
use native.Mathlib.Nat.{add-zero, add-suc, suc-add, zero-add}
use native.Mathlib.Omega.{arith}
use native.Mathlib.Decide.{dec_lt, dec_le}
use mathlib.Core.List.{List, [], ◌∷◌, ◌++◌, append-nil}
use mathlib.Core.Bool.{false}
use mathlib.Core.Option.{Option, none, some}
use lib.IntN.{ℤ}
use lib.ListN.{length}
use borrow.Author.Tests.{lt-ltb, le-ltb, le-leb, lt-leb}
use Rattle.list.specs.Limits.{max_entries}
use Rattle.number.specs.Codes.{too_long, not_of_the_form, out_of_range, too_many, no_room_code}
use Rattle.number.specs.Numbers.{number_of, magnitude_of, unsigned, is_minus, signed, greatest}
use Rattle.text.specs.Tokens.{Token, opening, closing, number, start_of, tokens}
use Rattle.text.specs.Reading.{refused, accepted, room_of, inside, opened, read_of}
use Rattle.text.specs.Faults.{HasForm, NoForm, InRange, OutOfRange, Fine, none_left, one_more, Eleven, no_bracket, closed_first, number_first, never_closed, opened_twice, bad_number, second_thing, Twelve, too_large, Thirteen, no_room, Whole, of_the_form}
use Rattle.text.specs.Writing.{written, refused_write, accepted_write, write_of}
use Rattle.number.specs.Numbers.{Value, Refused}
use Rattle.text.specs.Reading.{ReadAnswer}
use Rattle.text.specs.Writing.{WriteAnswer}
use Rattle.text.proofs.Writes.{write_long, write_short, write_fits}

-- ---- the parts of an answer

abbrev code : ReadAnswer → ℕ
code r = r.code

abbrev place : ReadAnswer → ℕ
place r = r.place

abbrev entries : ReadAnswer → ℕ
entries r = r.entries

-- ---- one number

number_in : (p e : ℕ) (bs : List ℕ) (k : ℕ) → HasForm bs k → k ≤ greatest (is_minus bs) → number_of p e bs ≡ Value (signed (is_minus bs) k) e
number_in p e bs k f r = rw (f, le-leb k (greatest (is_minus bs)) r)

number_out : (p e : ℕ) (bs : List ℕ) → OutOfRange bs → number_of p e bs ≡ Refused out_of_range p
number_out p e bs r = rw (r.1, lt-leb r.0 (greatest (is_minus bs)) r.2)

number_bad : (p e : ℕ) (bs : List ℕ) → NoForm bs → number_of p e bs ≡ Refused not_of_the_form p
number_bad p e bs f = rw f

-- a number is one of the three
data Kind (bs : List ℕ) : Type 0 where
  fits : InRange bs → Kind bs
  outside : OutOfRange bs → Kind bs
  broken : NoForm bs → Kind bs

kind : (bs : List ℕ) → Kind bs
kind bs = go (magnitude_of (unsigned bs)) refl
  where
    by : (k : ℕ) → HasForm bs k → Dec (k ≤ greatest (is_minus bs)) → Kind bs
    by k f (yes r) = fits (k, f, r)
    by k f (no r) = outside (k, f, omega arith)

    go : (o : Option ℕ) → magnitude_of (unsigned bs) ≡ o → Kind bs
    go none f = broken f
    go (some k) f = by k f (dec_le k (greatest (is_minus bs)))

-- ---- numbers that nothing is wrong with are passed over

fine_passed : (e m n : ℕ) (front : List Token) (rest : List Token) → Fine front → n + length front ≤ m
    → inside e m n (front ++ rest) ≡ inside e m (n + length front) rest
fine_passed e m n front rest none_left h = rw (add-zero n)
fine_passed e m n front rest (one_more {p = p} {bs = bs} {ks = ks} r f) h =
    rw (number_in p (p + length bs) bs r.0 r.1 r.2, lt-ltb n m (omega arith))
    (fine_passed e m (suc n) ks rest f (omega arith) ∙ ap (λ (j : ℕ). inside e m j rest) (suc-add n (length ks) ∙ sym (add-suc n (length ks))))

-- ---- where the numbers that nothing is wrong with stop

data Stop (m n : ℕ) (rest : List Token) : Type 0 where
  ends : rest ≡ [] → Stop m n rest
  reopens : (p : ℕ) (r : List Token) → rest ≡ opening p ∷ r → Stop m n rest
  closes : (c : ℕ) → rest ≡ closing c ∷ [] → Stop m n rest
  trails : (c : ℕ) (k : Token) (r : List Token) → rest ≡ closing c ∷ k ∷ r → Stop m n rest
  breaks : (p : ℕ) (bs : List ℕ) (r : List Token) → NoForm bs → rest ≡ number p bs ∷ r → Stop m n rest
  exceeds : (p : ℕ) (bs : List ℕ) (r : List Token) → OutOfRange bs → rest ≡ number p bs ∷ r → Stop m n rest
  crowds : (p : ℕ) (bs : List ℕ) (r : List Token) → InRange bs → n ≡ m → rest ≡ number p bs ∷ r → Stop m n rest

record Split (m n : ℕ) (ks : List Token) : Type 0 where
  front : List Token
  rest : List Token
  fine : Fine front
  room : n + length front ≤ m
  shape : ks ≡ front ++ rest
  stop : Stop m (n + length front) rest

stop_now : (m n : ℕ) (ks : List Token) → n ≤ m → Stop m n ks → Split m n ks
stop_now m n ks h s = record {
  front = [];
  rest = ks;
  fine = none_left;
  room = omega arith;
  shape = refl;
  stop = rw (add-zero n) s;
}

stop_later : (m n p : ℕ) (bs : List ℕ) (ks : List Token) → InRange bs → Split m (suc n) ks → Split m n (number p bs ∷ ks)
stop_later m n p bs ks r s =
    let e : n + suc (length s.front) ≡ suc n + length s.front = omega arith in
    record {
      front = number p bs ∷ s.front;
      rest = s.rest;
      fine = one_more r s.fine;
      room = omega (arith, s.room);
      shape = ap (λ (x : List Token). number p bs ∷ x) s.shape;
      stop = rw e s.stop;
    }

split : (m n : ℕ) (ks : List Token) → n ≤ m → Split m n ks
split m n [] h = stop_now m n [] h (ends refl)
split m n (opening p ∷ ks) h = stop_now m n (opening p ∷ ks) h (reopens p ks refl)
split m n (closing c ∷ []) h = stop_now m n (closing c ∷ []) h (closes c refl)
split m n (closing c ∷ k ∷ ks) h = stop_now m n (closing c ∷ k ∷ ks) h (trails c k ks refl)
split m n (number p bs ∷ ks) h = go (kind bs) (dec_lt n m) (λ l. split m (suc n) ks l)
  where
    go : Kind bs → Dec (n < m) → (suc n ≤ m → Split m (suc n) ks) → Split m n (number p bs ∷ ks)
    go (fits r) (yes l) f = stop_later m n p bs ks r (f l)
    go (fits r) (no l) f = stop_now m n (number p bs ∷ ks) h (crowds p bs ks r (omega arith) refl)
    go (outside r) l f = stop_now m n (number p bs ∷ ks) h (exceeds p bs ks r refl)
    go (broken r) l f = stop_now m n (number p bs ∷ ks) h (breaks p bs ks r refl)

-- ---- the answer at a stop

abbrev answer_at : ℕ → (m n : ℕ) (rest : List Token) → Stop m n rest → ReadAnswer
answer_at e m n rest (ends s) = refused not_of_the_form e
answer_at e m n rest (reopens p r s) = refused not_of_the_form p
answer_at e m n rest (closes c s) = accepted n
answer_at e m n rest (trails c k r s) = refused not_of_the_form (start_of k)
answer_at e m n rest (breaks p bs r f s) = refused not_of_the_form p
answer_at e m n rest (exceeds p bs r f s) = refused out_of_range p
answer_at e m n rest (crowds p bs r f h s) = refused too_many p

stop_answers : (e m n : ℕ) (rest : List Token) (s : Stop m n rest) → inside e m n rest ≡ answer_at e m n rest s
stop_answers e m n rest (ends s) = ap (inside e m n) s
stop_answers e m n rest (reopens p r s) = ap (inside e m n) s
stop_answers e m n rest (closes c s) = ap (inside e m n) s
stop_answers e m n rest (trails c k r s) = ap (inside e m n) s
stop_answers e m n rest (breaks p bs r f s) = ap (inside e m n) s ∙ rw (number_bad p (p + length bs) bs f)
stop_answers e m n rest (exceeds p bs r f s) = ap (inside e m n) s ∙ rw (number_out p (p + length bs) bs f)
stop_answers e m n rest (crowds p bs r f h s) =
    ap (inside e m n) s ∙ rw (number_in p (p + length bs) bs f.0 f.1 f.2, le-ltb n m (omega arith))

-- inside the brackets, at a split
split_answers : (e m : ℕ) (front rest : List Token) → Fine front → length front ≤ m → (s : Stop m (length front) rest)
    → inside e m 0 (front ++ rest) ≡ answer_at e m (length front) rest s
split_answers e m front rest f h s =
    fine_passed e m 0 front rest f (omega arith)
    ∙ ap (λ (j : ℕ). inside e m j rest) (zero-add (length front))
    ∙ stop_answers e m (length front) rest s

-- ---- from the fault to the answer

module _ (e m : ℕ) (ks : List Token) where
  eleven_given : (p : ℕ) → Eleven e m ks p → opened e m ks ≡ refused not_of_the_form p
  eleven_given p (no_bracket s k) = ap (opened e m) s ∙ ap (refused not_of_the_form) (sym k)
  eleven_given p (closed_first r s) = ap (opened e m) s
  eleven_given p (number_first bs r s) = ap (opened e m) s
  eleven_given p (never_closed q front f h s k) =
      ap (opened e m) (s ∙ ap (λ (x : List Token). opening q ∷ x) (sym (append-nil front)))
      ∙ split_answers e m front [] f h (ends refl)
      ∙ ap (refused not_of_the_form) (sym k)
  eleven_given p (opened_twice q front r f h s) = ap (opened e m) s ∙ split_answers e m front (opening p ∷ r) f h (reopens p r refl)
  eleven_given p (bad_number q front bs r f h b s) = ap (opened e m) s ∙ split_answers e m front (number p bs ∷ r) f h (breaks p bs r b refl)
  eleven_given p (second_thing q front c k r f h s l) =
      ap (opened e m) s ∙ split_answers e m front (closing c ∷ k ∷ r) f h (trails c k r refl) ∙ ap (refused not_of_the_form) (sym l)

  twelve_given : (p : ℕ) → Twelve m ks p → opened e m ks ≡ refused out_of_range p
  twelve_given p (too_large q front bs r f h b s) = ap (opened e m) s ∙ split_answers e m front (number p bs ∷ r) f h (exceeds p bs r b refl)

  thirteen_given : (p : ℕ) → Thirteen m ks p → opened e m ks ≡ refused too_many p
  thirteen_given p (no_room q front bs r f h b s) =
      ap (opened e m) s ∙ split_answers e m front (number p bs ∷ r) f (omega arith) (crowds p bs r b h refl)

  whole_given : (n : ℕ) → Whole m ks n → opened e m ks ≡ accepted n
  whole_given n (of_the_form q front c f h s k) =
      ap (opened e m) s ∙ split_answers e m front (closing c ∷ []) f h (closes c refl) ∙ ap accepted (sym k)

-- ---- every text is accepted or refused by one of the three

pub data Verdict (e m : ℕ) (ks : List Token) : Type 0 where
  by_eleven : (p : ℕ) → Eleven e m ks p → Verdict e m ks
  by_twelve : (p : ℕ) → Twelve m ks p → Verdict e m ks
  by_thirteen : (p : ℕ) → Thirteen m ks p → Verdict e m ks
  by_none : (n : ℕ) → Whole m ks n → Verdict e m ks

module _ (e m q : ℕ) (ks front rest : List Token) (f : Fine front) (h : length front ≤ m) (shape : ks ≡ front ++ rest) where
  -- the things of the text, with what stands where the numbers stop
  behind_front : (r : List Token) → rest ≡ r → opening q ∷ ks ≡ opening q ∷ (front ++ r)
  behind_front r s = ap (λ (x : List Token). opening q ∷ x) (shape ∙ ap (λ (x : List Token). front ++ x) s)

  stop_verdict : Stop m (length front) rest → Verdict e m (opening q ∷ ks)
  stop_verdict (ends s) =
      by_eleven e (never_closed q front f h (behind_front [] s ∙ ap (λ (x : List Token). opening q ∷ x) (append-nil front)) refl)
  stop_verdict (reopens p r s) = by_eleven p (opened_twice q front r f h (behind_front (opening p ∷ r) s))
  stop_verdict (closes c s) = by_none (length front) (of_the_form q front c f h (behind_front (closing c ∷ []) s) refl)
  stop_verdict (trails c k r s) = by_eleven (start_of k) (second_thing q front c k r f h (behind_front (closing c ∷ k ∷ r) s) refl)
  stop_verdict (breaks p bs r b s) = by_eleven p (bad_number q front bs r f h b (behind_front (number p bs ∷ r) s))
  stop_verdict (exceeds p bs r b s) = by_twelve p (too_large q front bs r f h b (behind_front (number p bs ∷ r) s))
  stop_verdict (crowds p bs r b n s) = by_thirteen p (no_room q front bs r f n b (behind_front (number p bs ∷ r) s))

pub verdict : (e m : ℕ) (ks : List Token) → Verdict e m ks
verdict e m [] = by_eleven e (no_bracket refl refl)
verdict e m (closing p ∷ r) = by_eleven p (closed_first r refl)
verdict e m (number p bs ∷ r) = by_eleven p (number_first bs r refl)
verdict e m (opening q ∷ ks) =
    let s = split m 0 ks (omega arith) in
    stop_verdict e m q ks s.front s.rest s.fine (omega (arith, s.room)) s.shape (rw (zero-add (length s.front)) at s.stop)

-- ---- from the answer to the fault: the verdict is that one, since the others have another code

module _ (e m : ℕ) (ks : List Token) where
  eleven_only : (p : ℕ) → opened e m ks ≡ refused not_of_the_form p → Eleven e m ks p
  eleven_only p a = go (verdict e m ks)
    where
      go : Verdict e m ks → Eleven e m ks p
      go (by_eleven q x) = subst (Eleven e m ks) (ap place (sym (eleven_given e m ks q x) ∙ a)) x
      go (by_twelve q x) = absurd (omega (arith, ap code (sym (twelve_given e m ks q x) ∙ a)))
      go (by_thirteen q x) = absurd (omega (arith, ap code (sym (thirteen_given e m ks q x) ∙ a)))
      go (by_none n x) = absurd (omega (arith, ap code (sym (whole_given e m ks n x) ∙ a)))

  twelve_only : (p : ℕ) → opened e m ks ≡ refused out_of_range p → Twelve m ks p
  twelve_only p a = go (verdict e m ks)
    where
      go : Verdict e m ks → Twelve m ks p
      go (by_eleven q x) = absurd (omega (arith, ap code (sym (eleven_given e m ks q x) ∙ a)))
      go (by_twelve q x) = subst (Twelve m ks) (ap place (sym (twelve_given e m ks q x) ∙ a)) x
      go (by_thirteen q x) = absurd (omega (arith, ap code (sym (thirteen_given e m ks q x) ∙ a)))
      go (by_none n x) = absurd (omega (arith, ap code (sym (whole_given e m ks n x) ∙ a)))

  thirteen_only : (p : ℕ) → opened e m ks ≡ refused too_many p → Thirteen m ks p
  thirteen_only p a = go (verdict e m ks)
    where
      go : Verdict e m ks → Thirteen m ks p
      go (by_eleven q x) = absurd (omega (arith, ap code (sym (eleven_given e m ks q x) ∙ a)))
      go (by_twelve q x) = absurd (omega (arith, ap code (sym (twelve_given e m ks q x) ∙ a)))
      go (by_thirteen q x) = subst (Thirteen m ks) (ap place (sym (thirteen_given e m ks q x) ∙ a)) x
      go (by_none n x) = absurd (omega (arith, ap code (sym (whole_given e m ks n x) ∙ a)))

  whole_only : (n : ℕ) → opened e m ks ≡ accepted n → Whole m ks n
  whole_only n a = go (verdict e m ks)
    where
      go : Verdict e m ks → Whole m ks n
      go (by_eleven q x) = absurd (omega (arith, ap code (sym (eleven_given e m ks q x) ∙ a)))
      go (by_twelve q x) = absurd (omega (arith, ap code (sym (twelve_given e m ks q x) ∙ a)))
      go (by_thirteen q x) = absurd (omega (arith, ap code (sym (thirteen_given e m ks q x) ∙ a)))
      go (by_none k x) = subst (Whole m ks) (ap entries (sym (whole_given e m ks k x) ∙ a)) x

-- ---- the theorems

module _ (t : List ℕ) (n : ℕ) where
  -- "11: text not of the form below; byte position"
  pub eleven_exactly : (p : ℕ) → read_of t n ≡ refused not_of_the_form p ↔ Eleven (length t) (room_of n) (tokens 0 false t) p
  unfolding read_of
  eleven_exactly p = (eleven_only (length t) (room_of n) (tokens 0 false t) p, eleven_given (length t) (room_of n) (tokens 0 false t) p)

  -- "12: number outside -2,147,483,648 to 2,147,483,647; first byte of the number"
  pub twelve_exactly : (p : ℕ) → read_of t n ≡ refused out_of_range p ↔ Twelve (room_of n) (tokens 0 false t) p
  unfolding read_of
  twelve_exactly p = (twelve_only (length t) (room_of n) (tokens 0 false t) p, twelve_given (length t) (room_of n) (tokens 0 false t) p)

  -- "13: more numbers than the lent list holds, or than 65,536; first byte of the first one too many"
  pub thirteen_exactly : (p : ℕ) → read_of t n ≡ refused too_many p ↔ Thirteen (room_of n) (tokens 0 false t) p
  unfolding read_of
  thirteen_exactly p = (thirteen_only (length t) (room_of n) (tokens 0 false t) p, thirteen_given (length t) (room_of n) (tokens 0 false t) p)

  -- accepted: a text of the form, whose numbers are in range and have room
  pub accepted_exactly : (k : ℕ) → read_of t n ≡ accepted k ↔ Whole (room_of n) (tokens 0 false t) k
  unfolding read_of
  accepted_exactly k = (whole_only (length t) (room_of n) (tokens 0 false t) k, whole_given (length t) (room_of n) (tokens 0 false t) k)

-- ---- the writer

abbrev write_code : WriteAnswer → ℕ
write_code r = r.code

abbrev write_place : WriteAnswer → ℕ
write_place r = r.place

abbrev write_length : WriteAnswer → ℕ
write_length r = r.length

module _ (l : List ℤ) (n : ℕ) where
  -- which of the three answers it is
  answer_is : {X : Type 0} → (max_entries < length l → write_of l n ≡ refused_write too_long 0 → X)
      → (length l ≤ max_entries → n < length (written l) → write_of l n ≡ refused_write no_room_code (length (written l)) → X)
      → (length l ≤ max_entries → length (written l) ≤ n → write_of l n ≡ accepted_write (length (written l)) → X) → X
  answer_is {X} long short fitting = go (dec_lt max_entries (length l)) (dec_lt n (length (written l)))
    where
      go : Dec (max_entries < length l) → Dec (n < length (written l)) → X
      go (yes h) k = long h (write_long l n h)
      go (no h) (yes k) = short (omega arith) k (write_short l n (omega arith) k)
      go (no h) (no k) = fitting (omega arith) (omega arith) (write_fits l n (omega arith) (omega arith))

  -- "1: more than 65,536 entries; 0"
  pub one_exactly : write_of l n ≡ refused_write too_long 0 ↔ max_entries < length l
  one_exactly = (
    λ a. answer_is (λ h e. h) (λ h k e. absurd (omega (arith, ap write_code (sym e ∙ a)))) (λ h k e. absurd (omega (arith, ap write_code (sym e ∙ a)))),
    write_long l n,
  )

  -- "15: text buffer shorter than the text; length needed"
  pub fifteen_exactly : (p : ℕ) → write_of l n ≡ refused_write no_room_code p ↔ ((length l ≤ max_entries) × (n < length (written l)) × (p ≡ length (written l)))
  fifteen_exactly p = (
    λ a.
        answer_is (λ h e. absurd (omega (arith, ap write_code (sym e ∙ a)))) (λ h k e. (h, k, ap write_place (sym a ∙ e)))
        (λ h k e. absurd (omega (arith, ap write_code (sym e ∙ a)))),
    λ x. write_short l n x.0 x.1 ∙ ap (refused_write no_room_code) (sym x.2),
  )

  -- accepted: a list of permitted length, and a buffer with room for its text
  pub written_exactly : (k : ℕ) → write_of l n ≡ accepted_write k ↔ ((length l ≤ max_entries) × (length (written l) ≤ n) × (k ≡ length (written l)))
  written_exactly j = (
    λ a.
        answer_is (λ h e. absurd (omega (arith, ap write_code (sym e ∙ a)))) (λ h k e. absurd (omega (arith, ap write_code (sym e ∙ a))))
        (λ h k e. (h, k, ap write_length (sym a ∙ e))),
    λ x. write_fits l n x.0 x.1 ∙ ap accepted_write (sym x.2),
  )

-- the length that a refusal by 15 asks for is exact: with it the list is written, and with less it is refused
pub needed_exact : (l : List ℤ) (n p : ℕ) → write_of l n ≡ refused_write no_room_code p
    → (write_of l p ≡ accepted_write p) × ((k : ℕ) → k < p → write_of l k ≡ refused_write no_room_code p)
needed_exact l n p a =
    let x = (fifteen_exactly l n p).0 a in
    ((written_exactly l p p).1 (x.0, omega (arith, x.2), x.2), λ k h. (fifteen_exactly l k p).1 (x.0, omega (arith, x.2), x.2))
