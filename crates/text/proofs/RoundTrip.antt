-- Reading what was written gives the list: each entry's text is one number of the text, and that number is the entry.
--
--   shortest          no digits of the same value are fewer than those that the writer puts
--   entry_reads       the shortest decimal of an entry reads as that entry
--   entry_token       and it is one thing of a text, as long as no byte of a number follows
--   round_trip        the written text of a list, read into a list with room, gives exactly that list, accepted
use mathlib.Core.Path.{◌≡◌, refl, ap, sym, ◌∙◌}
use Prim.Native.Nat.{ℕ, zero, suc, ◌+◌, ◌-◌, ◌*◌, ◌/◌, ◌%◌, ◌≤◌, ◌<◌}
use native.Mathlib.Nat.{zero-add, add-zero, add-suc, suc-add}
use native.Mathlib.Numerals.{add-two}
use native.Mathlib.Omega.{arith}
use native.Mathlib.Decide.{dec_lt}
use mathlib.Core.List.{List, [], ◌∷◌, ◌++◌, append_assoc, append-nil}
use mathlib.Core.Bool.{Bool, true, false, cond}
use mathlib.Core.Option.{none, some}
use lib.IntN.{ℤ, pos, negsuc}
use lib.Dec.{eqb, leb}
use lib.ListN.{length}
use lib.Seq.{drop-append_seam}
use borrow.Author.Tests.{ne_eqb, lt-ltb, le-leb, leb-true}
use Rattle.list.specs.Limits.{max_entries}
use Rattle.number.specs.Bytes.{tab, line_feed, carriage_return, space, comma, hash, open_byte, close_byte, zero_byte, nine_byte, minus_byte, plus_byte, is_digit, in_number}
use Rattle.number.specs.Numbers.{number_bytes, is_minus, unsigned, decimal, magnitude_of, greatest, number_of}
use Rattle.text.specs.Tokens.{Token, number, tokens}
use Rattle.list.specs.Written.{over}
use Rattle.text.specs.Reading.{accepted, room_of, inside, read_of, values_of, read_into}
use Rattle.number.specs.Decimal.{width, width_one, width_more, decimal_text}
use Rattle.text.specs.Writing.{entry_text, joint, entries_text, written, Fits32, AllFit}
use Rattle.number.specs.Numbers.{Value}
use Rattle.text.specs.Reading.{ReadAnswer}
use Rattle.std.proofs.lemmas.Bool.{and_parts}
use Rattle.number.proofs.Putting.{digits_length}
use Rattle.text.proofs.Lexing.{number_run}

-- ---- digits

digit_is_lem : (b : ℕ) → b < 10 → is_digit (zero_byte + b) ≡ true
digit_is_lem b h = rw (le-leb zero_byte (zero_byte + b) (omega arith), le-leb (zero_byte + b) nine_byte (omega arith))

-- digits that have a value have it with one digit more
decimal_more : (a m d : ℕ) (bs : List ℕ) → decimal a bs ≡ some m → d < 10 → decimal a (bs ++ (zero_byte + d) ∷ []) ≡ some (m * 10 + d)
decimal_more a m d [] e h =
    let k : a ≡ m = cc in
    rw (digit_is_lem d h) (ap some (omega arith))
decimal_more a m d (b ∷ bs) e h = go (is_digit b) e (λ k. decimal_more (a * 10 + (b - zero_byte)) m d bs k h)
  where
    go : (y : Bool) → cond y (decimal (a * 10 + (b - zero_byte)) bs) none ≡ some m
        → (decimal (a * 10 + (b - zero_byte)) bs ≡ some m → decimal (a * 10 + (b - zero_byte)) (bs ++ (zero_byte + d) ∷ []) ≡ some (m * 10 + d))
        → cond y (decimal (a * 10 + (b - zero_byte)) (bs ++ (zero_byte + d) ∷ [])) none ≡ some (m * 10 + d)
    go true k f = f k
    go false k f = cc

-- the shortest decimal of a number has its value
decimal_small : (n : ℕ) → n < 10 → decimal 0 (decimal_text n) ≡ some n
decimal_small n h = rw (width_one n h) (decimal_more 0 0 (n % 10) [] refl (omega arith) ∙ ap some (omega arith))

decimal_large : (n : ℕ) → 10 ≤ n → decimal 0 (decimal_text (n / 10)) ≡ some (n / 10) → decimal 0 (decimal_text n) ≡ some n
decimal_large n h e =
    rw (width_more n h) (decimal_more 0 (n / 10) (n % 10) (decimal_text (n / 10)) e (omega arith) ∙ ap some (omega arith))

decimal_within : (f n : ℕ) → n ≤ f → decimal 0 (decimal_text n) ≡ some n
decimal_within zero n h = decimal_small n (omega arith)
decimal_within (suc f) n h = go (dec_lt n 10) (λ k. decimal_within f (n / 10) k)
  where
    go : Dec (n < 10) → (n / 10 ≤ f → decimal 0 (decimal_text (n / 10)) ≡ some (n / 10)) → decimal 0 (decimal_text n) ≡ some n
    go (yes k) g = decimal_small n k
    go (no k) g = decimal_large n (omega arith) (g (omega arith))

pub decimal_text_lem : (n : ℕ) → decimal 0 (decimal_text n) ≡ some n
decimal_text_lem n = decimal_within n n (omega arith)

-- ---- digits as a number

-- a digit belongs to a number and is no sign
digit_in : (b : ℕ) → is_digit b ≡ true → in_number b ≡ true
digit_in b e =
    let lo = leb-true zero_byte b (and_parts (leb zero_byte b) (leb b nine_byte) e).0 in
    let hi = leb-true b nine_byte (and_parts (leb zero_byte b) (leb b nine_byte) e).1 in
    let other : (x : ℕ) → (b ≡ x → ⊥) → eqb b x ≡ false = λ x h. ne_eqb b x h in
    rw (
      other tab (λ k. omega arith),
      other line_feed (λ k. omega arith),
      other carriage_return (λ k. omega arith),
      other space (λ k. omega arith),
      other comma (λ k. omega arith),
      other hash (λ k. omega arith),
      other open_byte (λ k. omega arith),
      other close_byte (λ k. omega arith),
    )

-- the first of one or more digits is a digit
pub first_digit : (a m b : ℕ) (bs : List ℕ) → decimal a (b ∷ bs) ≡ some m → is_digit b ≡ true
first_digit a m b bs e = go (is_digit b) refl e
  where
    go : (y : Bool) → is_digit b ≡ y → cond y (decimal (a * 10 + (b - zero_byte)) bs) none ≡ some m → is_digit b ≡ true
    go true k f = k
    go false k f = cc

pub rest_decimal : (a m b : ℕ) (bs : List ℕ) → decimal a (b ∷ bs) ≡ some m → decimal (a * 10 + (b - zero_byte)) bs ≡ some m
rest_decimal a m b bs e = rw (first_digit a m b bs e) at e

-- digits are all bytes of a number
digits_run : (a m : ℕ) (bs r : List ℕ) → decimal a bs ≡ some m → number_bytes (bs ++ r) ≡ bs ++ number_bytes r
digits_run a m [] r e = refl
digits_run a m (b ∷ bs) r e =
    rw (digit_in b (first_digit a m b bs e)) (ap (λ (x : List ℕ). b ∷ x) (digits_run (a * 10 + (b - zero_byte)) m bs r (rest_decimal a m b bs e)))

-- digits without a sign read as themselves
pub digits_plain : (m : ℕ) (bs : List ℕ) → 0 < length bs → decimal 0 bs ≡ some m → (is_minus bs ≡ false) × (magnitude_of (unsigned bs) ≡ some m)
digits_plain m [] h e = absurd (omega arith)
digits_plain m (b ∷ bs) h e =
    let d = first_digit 0 m b bs e in
    let lo = leb-true zero_byte b (and_parts (leb zero_byte b) (leb b nine_byte) d).0 in
    let minus = ne_eqb b minus_byte (λ k. omega arith) in
    (minus, rw (minus, ne_eqb b plus_byte (λ k. omega arith)) e)

-- with a minus in front they read as the magnitude
pub digits_signed : (m : ℕ) (bs : List ℕ) → 0 < length bs → decimal 0 bs ≡ some m → magnitude_of bs ≡ some m
digits_signed m [] h e = absurd (omega arith)
digits_signed m (b ∷ bs) h e = e

width_some : (n : ℕ) → 0 < length (decimal_text n)
width_some n = go (dec_lt n 10)
  where
    go : Dec (n < 10) → 0 < length (decimal_text n)
    go (yes k) = omega (arith, digits_length (width n) n, width_one n k)
    go (no k) = omega (arith, digits_length (width n) n, width_more n (omega arith))

-- ---- no digits of the same value are fewer

digit_small : (b : ℕ) → is_digit b ≡ true → b - zero_byte < 10
digit_small b e = omega (arith, leb-true b nine_byte (and_parts (leb zero_byte b) (leb b nine_byte) e).1)

width_step : (a d : ℕ) → d < 10 → width (a * 10 + d) ≤ suc (width a)
width_step a d h = go (dec_lt (a * 10 + d) 10)
  where
    go : Dec (a * 10 + d < 10) → width (a * 10 + d) ≤ suc (width a)
    go (yes k) = omega (arith, width_one (a * 10 + d) k)
    go (no k) =
        let q : (a * 10 + d) / 10 ≡ a = omega arith in
        omega (arith, width_more (a * 10 + d) (omega arith), ap width q)

width_grows : (a m : ℕ) (bs : List ℕ) → decimal a bs ≡ some m → width m ≤ width a + length bs
width_grows a m [] e =
    let k : a ≡ m = cc in
    omega (arith, ap width k)
width_grows a m (b ∷ bs) e =
    let d = digit_small b (first_digit a m b bs e) in
    omega (arith, width_step a (b - zero_byte) d, width_grows (a * 10 + (b - zero_byte)) m bs (rest_decimal a m b bs e))

-- one or more digits of value m are at least as many as the writer puts
pub shortest : (m : ℕ) (bs : List ℕ) → magnitude_of bs ≡ some m → length (decimal_text m) ≤ length bs
shortest m [] e = cc
shortest m (b ∷ bs) e =
    let d = digit_small b (first_digit 0 m b bs e) in
    omega (arith, digits_length (width m) m, width_one (0 * 10 + (b - zero_byte)) (omega arith), width_grows (0 * 10 + (b - zero_byte)) m bs (rest_decimal 0 m b bs e))

-- ---- an entry

pub entry_reads : (p e : ℕ) (x : ℤ) → Fits32 x → number_of p e (entry_text x) ≡ Value x e
entry_reads p e (pos m) h =
    let d = digits_plain m (decimal_text m) (width_some m) (decimal_text_lem m) in
    rw (d.0, d.1, le-leb m (greatest false) h)
entry_reads p e (negsuc k) h =
    rw (digits_signed (suc k) (decimal_text (suc k)) (width_some (suc k)) (decimal_text_lem (suc k)), le-leb (suc k) (greatest true) h)

entry_run : (x : ℤ) (r : List ℕ) → number_bytes r ≡ [] → number_bytes (entry_text x ++ r) ≡ entry_text x
entry_run (pos m) r e = digits_run 0 m (decimal_text m) r (decimal_text_lem m) ∙ ap (λ (z : List ℕ). decimal_text m ++ z) e ∙ append-nil (decimal_text m)
entry_run (negsuc k) r e =
    ap (λ (z : List ℕ). minus_byte ∷ z)
    (digits_run 0 (suc k) (decimal_text (suc k)) r (decimal_text_lem (suc k)) ∙ ap (λ (z : List ℕ). decimal_text (suc k) ++ z) e ∙ append-nil (decimal_text (suc k)))

-- bytes that are the whole run in front of r are one thing of the text
run_token : (p : ℕ) (bs r : List ℕ) → 0 < length bs → number_bytes (bs ++ r) ≡ bs → tokens p false (bs ++ r) ≡ number p bs ∷ tokens (p + length bs) false r
run_token p [] r h e = absurd (omega arith)
run_token p (b ∷ bs) r h e = go (in_number b) refl e
  where
    go : (y : Bool) → in_number b ≡ y → cond y (b ∷ number_bytes (bs ++ r)) [] ≡ b ∷ bs
        → tokens p false (b ∷ (bs ++ r)) ≡ number p (b ∷ bs) ∷ tokens (p + suc (length bs)) false r
    go true k f =
        let w : number_bytes (bs ++ r) ≡ bs = cc in
        number_run p b (bs ++ r) k ∙ rw (w, drop-append_seam bs r)
    go false k f = cc

entry_some : (x : ℤ) → 0 < length (entry_text x)
entry_some (pos m) = width_some m
entry_some (negsuc k) = omega arith

pub entry_token : (p : ℕ) (x : ℤ) (r : List ℕ) → number_bytes r ≡ [] → tokens p false (entry_text x ++ r) ≡ number p (entry_text x) ∷ tokens (p + length (entry_text x)) false r
entry_token p x r e = run_token p (entry_text x) r (entry_some x) (entry_run x r e)

-- ---- the entries

-- what stands between two entries, or behind the last, is no byte of a number
joint_ends : (xs : List ℤ) → number_bytes (joint xs ++ entries_text xs) ≡ []
joint_ends [] = refl
joint_ends (x ∷ xs) = refl

joint_passed : (p : ℕ) (xs : List ℤ) → tokens p false (joint xs ++ entries_text xs) ≡ tokens (p + length (joint xs)) false (entries_text xs)
joint_passed p [] = rw (add-zero p)
joint_passed p (x ∷ xs) = rw (add-two p)

head_fits : (x : ℤ) (xs : List ℤ) → AllFit (x ∷ xs) → Fits32 x
head_fits x xs h = h 0 (omega arith)

pub tail_fits : (x : ℤ) (xs : List ℤ) → AllFit (x ∷ xs) → AllFit xs
tail_fits x xs h i k = h (suc i) (omega arith)

-- the first entry of a list is the first number of its text
entries_token : (p : ℕ) (x : ℤ) (xs : List ℤ)
    → tokens p false (entries_text (x ∷ xs)) ≡ number p (entry_text x) ∷ tokens (p + length (entry_text x) + length (joint xs)) false (entries_text xs)
entries_token p x xs =
    ap (tokens p false) (append_assoc (entry_text x) (joint xs) (entries_text xs))
    ∙ entry_token p x (joint xs ++ entries_text xs) (joint_ends xs)
    ∙ ap (λ (ks : List Token). number p (entry_text x) ∷ ks) (joint_passed (p + length (entry_text x)) xs)

entries_values : (p : ℕ) (l : List ℤ) → AllFit l → values_of (tokens p false (entries_text l)) ≡ l
entries_values p [] h = refl
entries_values p (x ∷ xs) h =
    rw (entries_token p x xs, entry_reads p (p + length (entry_text x)) x (head_fits x xs h))
    (ap (λ (ys : List ℤ). x ∷ ys) (entries_values (p + length (entry_text x) + length (joint xs)) xs (tail_fits x xs h)))

entries_accepted : (e m n p : ℕ) (l : List ℤ) → AllFit l → n + length l ≤ m → inside e m n (tokens p false (entries_text l)) ≡ accepted (n + length l)
entries_accepted e m n p [] h k = ap accepted (sym (add-zero n))
entries_accepted e m n p (x ∷ xs) h k =
    rw (entries_token p x xs, entry_reads p (p + length (entry_text x)) x (head_fits x xs h), lt-ltb n m (omega arith))
    (entries_accepted e m (suc n) (p + length (entry_text x) + length (joint xs)) xs (tail_fits x xs h) (omega arith)
    ∙ ap accepted (suc-add n (length xs) ∙ sym (add-suc n (length xs))))

-- ---- the round trip

-- "the text form of every list of permitted length reads back as that list"
pub record ReadsBack (l buffer : List ℤ) : Type 0 where
  pub answer : read_of (written l) (length buffer) ≡ accepted (length l)
  pub content : read_into (written l) buffer ≡ over l buffer

pub round_trip : (l buffer : List ℤ) → length l ≤ max_entries → AllFit l → length l ≤ length buffer → ReadsBack l buffer
unfolding read_into
round_trip l buffer h f k =
    let a : read_of (written l) (length buffer) ≡ accepted (length l) =
    entries_accepted (length (written l)) (room_of (length buffer)) 0 1 l f (omega arith) ∙ ap accepted (zero-add (length l)) in
    record {
      answer = a;
      content = rw (ap (λ (r : ReadAnswer). r.code) a) (ap (λ (vs : List ℤ). over vs buffer) (entries_values 1 l f));
    }
