-- What is printed by the input's size and by what the reader answers, and what is known of the entries that it read.
use Prim.Native.Nat.{ℕ, zero, suc, ◌+◌, ◌≤◌, ◌<◌}
use mathlib.Core.Path.{◌≡◌, refl, ap, sym, ◌∙◌}
use mathlib.Core.List.{List, [], ◌∷◌}
use mathlib.Core.Bool.{Bool, true, false, cond}
use mathlib.Core.Option.{Option, none, some}
use native.Mathlib.Nat.{zero-add}
use native.Mathlib.Omega.{arith}
use borrow.Author.Tests.{lt-ltb, le-ltb, eq-eqb, ne_eqb, leb-true}
use lib.Dec.{leb}
use lib.IntN.{ℤ}
use lib.ListN.{length, take, drop, replicate, length-append}
use lib.Seq.{take_at, take-append_seam}
use Rattle.number.specs.Numbers.{Number, Value, Refused, is_minus, unsigned, magnitude_of, greatest, signed, of_magnitude, number_of}
use Rattle.number.specs.Codes.{out_of_range}
use Rattle.text.specs.Tokens.{Token, opening, closing, number, tokens}
use Rattle.list.specs.Written.{over}
use Rattle.text.specs.Reading.{ReadAnswer, accepted, read_told, room_of, opened, read_of, value_then, values_of, entries_of, read_into}
use Rattle.text.specs.declared.ReadFault.{ReadFault}
use Rattle.text.specs.declared.ReadFault.TheVariants.{NotOfTheForm, OutOfRange, TooMany}
use Rattle.text.specs.Writing.{Fits32, AllFit}
use Rattle.number.specs.Steps.{put}
use Rattle.text.specs.Faults.{Whole, of_the_form}
use Rattle.text.proofs.Whole.{inside_counts}
use Rattle.text.proofs.Exactly.{Verdict, by_eleven, by_twelve, by_thirteen, by_none, verdict, eleven_exactly, twelve_exactly, thirteen_exactly, accepted_exactly}
use Rattle.program.specs.Limits.{input_bytes, input_entries, output_bytes}
use Rattle.std.specs.Prelude.{Err}
use Rattle.program.specs.Printed.{line, refusal, refused, printed_cut, entries_in, Read, too_large_code, printed, response_of}
use Rattle.program.specs.declared.InputFault.TheVariants.{Unread}
use Rattle.program.specs.declared.Response.{Response}
use Rattle.program.proofs.Fitting.{fit_cons}

-- a fault of the text has a code
fault_coded : (f : ReadFault) → (read_told (Err f)).code ≡ 0 → ⊥
fault_coded (NotOfTheForm p) z = absurd (omega arith)
fault_coded (OutOfRange p) z = absurd (omega arith)
fault_coded (TooMany p) z = absurd (omega arith)

module _ (t : List ℕ) where
  pub large_printed : input_bytes < length t → printed t ≡ line (refusal too_large_code input_bytes)
  unfolding printed
  large_printed h = rw (lt-ltb input_bytes (length t) h)

  pub unread_printed : length t ≤ input_bytes → ((read_of t input_entries).code ≡ 0 → ⊥)
      → printed t ≡ line (refusal (read_of t input_entries).code (read_of t input_entries).place)
  unfolding printed
  unread_printed h z = rw (le-ltb input_bytes (length t) h, ne_eqb (read_of t input_entries).code 0 z)

  pub read_printed : length t ≤ input_bytes → (read_of t input_entries).code ≡ 0 → printed t ≡ printed_cut (entries_in t)
  unfolding printed
  read_printed h z = rw (le-ltb input_bytes (length t) h, eq-eqb (read_of t input_entries).code 0 z)

  pub fault_printed : (f : ReadFault) → read_told (Err f) ≡ read_of t input_entries → length t ≤ input_bytes → printed t ≡ line (refused (Unread f))
  fault_printed f q h =
      unread_printed h (λ z. fault_coded f (ap (λ (r : ReadAnswer). r.code) q ∙ z)) ∙ ap (λ (r : ReadAnswer). line (refusal r.code r.place)) (sym q)

  -- the output as it is lent is 0
  pub responded : (bytes : List ℕ) (n : ℕ) → n ≡ length (printed t) → bytes ≡ put 0 (printed t) (replicate output_bytes 0)
      → ◌≡◌ {A = Response} (record { bytes = bytes; length = n }) (response_of t)
  unfolding response_of
  responded bytes n e h = rw (e, h, zero-add (length (printed t)))

  -- what is printed lies within the response's bytes, as lending that part of them asks
  pub within : (r : Response) → r ≡ response_of t → (r.length ≤ length r.bytes) × (r.length ≡ length (take r.length r.bytes))
  unfolding response_of
  within r e =
      let w : List ℕ = printed t in
      let zeros : List ℕ = drop (length w) (replicate output_bytes 0) in
      rw e (omega (arith, length-append w zeros), ap length (sym (take-append_seam w zeros)))

-- ---- the entries read are of 32 bits

value_fits : (p e : ℕ) (bs : List ℕ) (v : ℤ) (q : ℕ) → number_of p e bs ≡ Value v q → Fits32 v
value_fits p e bs v q h = by_magnitude (magnitude_of (unsigned bs)) h
  where
    signed_fits : (minus : Bool) (m : ℕ) → m ≤ greatest minus → Fits32 (signed minus m)
    signed_fits false m k = k
    signed_fits true zero k = omega arith
    signed_fits true (suc m) k = k

    by_range : (m : ℕ) (r : Bool) → leb m (greatest (is_minus bs)) ≡ r → cond r (Value (signed (is_minus bs) m) e) (Refused out_of_range p) ≡ Value v q → Fits32 v
    by_range m true k g = let z : signed (is_minus bs) m ≡ v = cc in rw z at (signed_fits (is_minus bs) m (leb-true m (greatest (is_minus bs)) k))
    by_range m false k g = let z : ◌≡◌ {A = ℕ} 0 1 = cc in absurd (omega arith)

    by_magnitude : (o : Option ℕ) → of_magnitude p e (is_minus bs) o ≡ Value v q → Fits32 v
    by_magnitude none g = let z : ◌≡◌ {A = ℕ} 0 1 = cc in absurd (omega arith)
    by_magnitude (some m) g = by_range m (leb m (greatest (is_minus bs))) refl g

values_fit : (ks : List Token) → AllFit (values_of ks)
values_fit [] = λ i h. absurd (omega arith)
values_fit (opening p ∷ ks) = λ i h. absurd (omega arith)
values_fit (closing p ∷ ks) = λ i h. absurd (omega arith)
values_fit (number p bs ∷ ks) = go (number_of p (p + length bs) bs) refl (values_fit ks)
  where
    go : (x : Number) → number_of p (p + length bs) bs ≡ x → AllFit (values_of ks) → AllFit (value_then x (values_of ks))
    go (Value v q) e f = fit_cons v (values_of ks) (value_fits p (p + length bs) bs v q e) f
    go (Refused c q) e f = λ i h. absurd (omega arith)

entries_fit : (ks : List Token) → AllFit (entries_of ks)
entries_fit [] = λ i h. absurd (omega arith)
entries_fit (opening p ∷ ks) = values_fit ks
entries_fit (closing p ∷ ks) = λ i h. absurd (omega arith)
entries_fit (number p bs ∷ ks) = λ i h. absurd (omega arith)

-- ---- an accepted text: as many entries as are counted

opened_counts : (e m : ℕ) (ks : List Token) → (opened e m ks).code ≡ 0 → (opened e m ks).entries ≡ length (entries_of ks)
opened_counts e m [] z = absurd (omega arith)
opened_counts e m (opening p ∷ ks) z = omega (arith, inside_counts e m 0 ks z)
opened_counts e m (closing p ∷ ks) z = absurd (omega arith)
opened_counts e m (number p bs ∷ ks) z = absurd (omega arith)

whole_few : (m : ℕ) (ks : List Token) (n : ℕ) → Whole m ks n → n ≤ m
whole_few m ks n (of_the_form q front c f h s e) = omega arith

module _ (t : List ℕ) (ok : (read_of t input_entries).code ≡ 0) where
  counted : (read_of t input_entries).entries ≡ length (entries_in t)
  unfolding read_of
  counted = opened_counts (length t) (room_of input_entries) (tokens 0 false t) ok

  pub entries_few : (read_of t input_entries).entries ≤ input_entries
  entries_few = go (verdict (length t) (room_of input_entries) (tokens 0 false t))
    where
      go : Verdict (length t) (room_of input_entries) (tokens 0 false t) → (read_of t input_entries).entries ≤ input_entries
      go (by_eleven p x) = absurd (omega (arith, ap (λ (r : ReadAnswer). r.code) ((eleven_exactly t input_entries p).1 x)))
      go (by_twelve p x) = absurd (omega (arith, ap (λ (r : ReadAnswer). r.code) ((twelve_exactly t input_entries p).1 x)))
      go (by_thirteen p x) = absurd (omega (arith, ap (λ (r : ReadAnswer). r.code) ((thirteen_exactly t input_entries p).1 x)))
      go (by_none n x) =
          omega (arith, ap (λ (r : ReadAnswer). r.entries) ((accepted_exactly t input_entries n).1 x), whole_few (room_of input_entries) (tokens 0 false t) n x)

  pub entries_read : Read (entries_in t)
  entries_read = record { few = omega (arith, counted, entries_few); fit = entries_fit (tokens 0 false t) }

  -- the list lent to the reader, and the part of it that the entries fill
  pub entries_part : (l₀ l : List ℤ) → length l₀ ≡ input_entries → l ≡ read_into t l₀ → take (read_of t input_entries).entries l ≡ entries_in t
  unfolding read_into
  entries_part l₀ l room h =
      let e : l ≡ over (entries_in t) l₀ = h ∙ rw (room, eq-eqb (read_of t input_entries).code 0 ok) in
      ap (take (read_of t input_entries).entries) e
      ∙ take_at (entries_in t) (drop (length (entries_in t)) l₀) (read_of t input_entries).entries (sym counted)

-- the reader's answer of n entries
module _ (t : List ℕ) (n : ℕ) (q : accepted n ≡ read_of t input_entries) where
  ok : (read_of t input_entries).code ≡ 0
  ok = ap (λ (r : ReadAnswer). r.code) (sym q)

  pub few : n ≤ input_entries
  few = omega (arith, ap (λ (r : ReadAnswer). r.entries) q, entries_few t ok)

  pub part_read : (l₀ l : List ℤ) → length l₀ ≡ input_entries → l ≡ read_into t l₀ → Read (take n l)
  part_read l₀ l room h = rw (ap (λ (r : ReadAnswer). r.entries) q, entries_part t ok l₀ l room h) (entries_read t ok)

  pub part_printed : (l₀ l : List ℤ) → length l₀ ≡ input_entries → l ≡ read_into t l₀ → length t ≤ input_bytes → printed t ≡ printed_cut (take n l)
  part_printed l₀ l room h small = read_printed t small ok ∙ ap printed_cut (sym (rw (ap (λ (r : ReadAnswer). r.entries) q) (entries_part t ok l₀ l room h)))
