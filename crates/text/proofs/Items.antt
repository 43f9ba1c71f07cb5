-- What stands at a place of a text, as the reader finds it by looking at one byte, and what that says of the things of the text.
use mathlib.Core.Path.{◌≡◌, refl, ap, sym, ◌∙◌}
use Prim.Native.Nat.{ℕ, suc, ◌+◌, ◌≤◌, ◌<◌}
use native.Mathlib.Decide.{dec_lt, ℕ_discrete}
use native.Mathlib.Omega.{arith}
use mathlib.Core.List.{List, [], ◌∷◌}
use mathlib.Core.Bool.{Bool, true, false, cond}
use mathlib.Core.Option.{Option, none, some}
use lib.IntN.{ℤ}
use lib.Dec.{ltb, leb}
use lib.ListN.{length, drop, get_or}
use lib.Seq.{drop-cons}
use borrow.Author.Tests.{ne_eqb, eq-eqb, ltb-true}
use Rattle.std.proofs.lemmas.Grind.{get_or_default_zero}
use Rattle.number.specs.Bytes.{open_byte, close_byte, in_number}
use Rattle.number.specs.Codes.{not_of_the_form, out_of_range, too_many}
use Rattle.number.specs.Numbers.{number_bytes, number_of, number_at, number_told, magnitude_of, unsigned, is_minus, signed, greatest, of_magnitude}
use Rattle.text.specs.Tokens.{Token, opening, closing, number, tokens_at}
use Rattle.text.specs.Reading.{refused, accepted, behind, counted, inside, values_of, value_then, read_fault}
use Rattle.text.specs.Steps.{blank, item_of, item_of_number, item_told}
use Rattle.number.specs.Numbers.{Number}
use Rattle.number.specs.Numbers.{Value, Refused}
use Rattle.text.specs.Reading.{ReadAnswer}
use Rattle.text.specs.Steps.{Entry, Closed, Fault}
use Rattle.number.proofs.Runs.{run_within}
use Rattle.number.specs.declared.NumberFault.{NumberFault}
use Rattle.number.specs.declared.NumberFault.TheVariants.{NotOfTheForm, OutOfRange}
use Rattle.std.specs.Prelude.{Result, Ok, Err, Option as StdOption, Some, None}
use Rattle.text.specs.declared.ReadFault.{ReadFault}
use Rattle.text.specs.declared.reader.Entry as declared
use Rattle.text.proofs.Lexing.{skip_tokens, skip_end, skip_byte, skip_token, in_number_lem, number_tokens}

-- a byte that `get` finds at place q is the one there
pub found_byte : (t : List ℕ) (q b : ℕ) → true ≡ ltb q (length t) → b ≡ get_or t q b → (q < length t) × (get_or t q 0 ≡ b)
found_byte t q b h e = let w = ltb-true q (length t) (sym h) in (w, sym (get_or_default_zero t q b w) ∙ sym e)

-- ---- the things from place i on, by the byte at the first place q that does not separate

module _ (t : List ℕ) (i q : ℕ) (at : q ≡ i + blank false (drop i t)) where
  pub first_opens : q < length t → get_or t q 0 ≡ open_byte → tokens_at t i ≡ opening q ∷ tokens_at t (suc q)
  first_opens h e = skip_token t i q at h ∙ rw (eq-eqb (get_or t q 0) open_byte e)

  pub first_closes : q < length t → get_or t q 0 ≡ close_byte → tokens_at t i ≡ closing q ∷ tokens_at t (suc q)
  first_closes h e = skip_token t i q at h ∙ rw e

  pub first_number : q < length t → (get_or t q 0 ≡ open_byte → ⊥) → (get_or t q 0 ≡ close_byte → ⊥)
      → tokens_at t i ≡ number q (number_bytes (drop q t)) ∷ tokens_at t (q + length (number_bytes (drop q t)))
  first_number h o c =
      skip_tokens t i ∙ ap (tokens_at t) (sym at)
      ∙ number_tokens t q h (in_number_lem (get_or t q 0) (skip_byte t i q at h) (ne_eqb (get_or t q 0) open_byte o) (ne_eqb (get_or t q 0) close_byte c))

  -- ---- the item there

  pub item_end : length t ≤ q → item_of (length t) (tokens_at t i) ≡ Fault not_of_the_form (length t)
  item_end h = ap (item_of (length t)) (skip_end t i q at h)

  pub item_opens : q < length t → get_or t q 0 ≡ open_byte → item_of (length t) (tokens_at t i) ≡ Fault not_of_the_form q
  item_opens h e = ap (item_of (length t)) (first_opens h e)

  pub item_closes : q < length t → get_or t q 0 ≡ close_byte → item_of (length t) (tokens_at t i) ≡ Closed (suc q)
  item_closes h e = ap (item_of (length t)) (first_closes h e)

  pub item_number : q < length t → (get_or t q 0 ≡ open_byte → ⊥) → (get_or t q 0 ≡ close_byte → ⊥)
      → item_of (length t) (tokens_at t i) ≡ item_of_number q (number_at t q)
  item_number h o c = ap (item_of (length t)) (first_number h o c)

  -- ---- behind the closing bracket

  pub behind_end : (n : ℕ) → length t ≤ q → behind n (tokens_at t i) ≡ accepted n
  behind_end n h = ap (behind n) (skip_end t i q at h)

  pub behind_thing : (n : ℕ) → q < length t → behind n (tokens_at t i) ≡ refused not_of_the_form q
  behind_thing n h = by_open (ℕ_discrete (get_or t q 0) open_byte)
    where
      by_close : (get_or t q 0 ≡ open_byte → ⊥) → Dec (get_or t q 0 ≡ close_byte) → behind n (tokens_at t i) ≡ refused not_of_the_form q
      by_close o (yes e) = ap (behind n) (first_closes h e)
      by_close o (no c) = ap (behind n) (first_number h o c)

      by_open : Dec (get_or t q 0 ≡ open_byte) → behind n (tokens_at t i) ≡ refused not_of_the_form q
      by_open (yes e) = ap (behind n) (first_opens h e)
      by_open (no o) = by_close o (ℕ_discrete (get_or t q 0) close_byte)

-- a refused number is the fault that the reader makes of it
pub item_refused : (q nx : ℕ) (f : NumberFault) → item_told nx (Err (read_fault f)) ≡ item_of_number q (number_told (Err f))
item_refused q nx (NotOfTheForm p) = refl
item_refused q nx (OutOfRange p) = refl

-- ---- what the things of a text from place i on can be

data View (t : List ℕ) (i : ℕ) : Type 0 where
  ended : tokens_at t i ≡ [] → View t i
  opens : (q : ℕ) → tokens_at t i ≡ opening q ∷ tokens_at t (suc q) → View t i
  closes : (q : ℕ) → tokens_at t i ≡ closing q ∷ tokens_at t (suc q) → View t i
  counts : (q : ℕ) (bs : List ℕ) → tokens_at t i ≡ number q bs ∷ tokens_at t (q + length bs) → i < q + length bs → q + length bs ≤ length t → View t i

some_bytes : (t : List ℕ) (q : ℕ) → q < length t → in_number (get_or t q 0) ≡ true → 0 < length (number_bytes (drop q t))
some_bytes t q h e = rw (drop-cons t q 0 h, e) (omega arith)

view : (t : List ℕ) (i : ℕ) → View t i
view t i = by_end (dec_lt (i + blank false (drop i t)) (length t))
  where
    q : ℕ
    q = i + blank false (drop i t)

    by_close : q < length t → (get_or t q 0 ≡ open_byte → ⊥) → Dec (get_or t q 0 ≡ close_byte) → View t i
    by_close h o (yes e) = closes q (first_closes t i q refl h e)
    by_close h o (no c) =
        let n = in_number_lem (get_or t q 0) (skip_byte t i q refl h) (ne_eqb (get_or t q 0) open_byte o) (ne_eqb (get_or t q 0) close_byte c) in
        counts q (number_bytes (drop q t)) (first_number t i q refl h o c)
        (omega (arith, some_bytes t q h n)) (run_within t q (omega arith))

    by_open : q < length t → Dec (get_or t q 0 ≡ open_byte) → View t i
    by_open h (yes e) = opens q (first_opens t i q refl h e)
    by_open h (no o) = by_close h o (ℕ_discrete (get_or t q 0) close_byte)

    by_end : Dec (q < length t) → View t i
    by_end (yes h) = by_open h (ℕ_discrete (get_or t q 0) open_byte)
    by_end (no h) = ended (skip_end t i q refl (omega arith))

-- ---- what an item says of the things from its place on

abbrev pub is_entry : Result (StdOption declared.Entry) ReadFault → Bool
is_entry (Ok (Some e)) = true
is_entry (Ok None) = false
is_entry (Err f) = false

-- a number that is read ends where its bytes end
number_next : (p e : ℕ) (bs : List ℕ) (v : ℤ) (nx : ℕ) → number_of p e bs ≡ Value v nx → nx ≡ e
number_next p e bs v nx h = by_magnitude (magnitude_of (unsigned bs)) h
  where
    by_range : (m : ℕ) (r : Bool) → cond r (Value (signed (is_minus bs) m) e) (Refused out_of_range p) ≡ Value v nx → nx ≡ e
    by_range m true k = cc
    by_range m false k = cc

    by_magnitude : (o : Option ℕ) → of_magnitude p e (is_minus bs) o ≡ Value v nx → nx ≡ e
    by_magnitude none k = cc
    by_magnitude (some m) k = by_range m (leb m (greatest (is_minus bs))) k

pub record EntryAt (t : List ℕ) (i p : ℕ) (v : ℤ) (nx : ℕ) : Type 0 where
  pub bytes : List ℕ
  pub things : tokens_at t i ≡ number p bytes ∷ tokens_at t nx
  pub value : number_of p (p + length bytes) bytes ≡ Value v nx
  pub later : i < nx
  pub within : nx ≤ length t

module _ (t : List ℕ) (i : ℕ) where
  pub entry_at : (p : ℕ) (v : ℤ) (nx : ℕ) → item_of (length t) (tokens_at t i) ≡ Entry p v nx → EntryAt t i p v nx
  entry_at p v nx h = by_view (view t i)
    where
      by_number : (q : ℕ) (bs : List ℕ) → tokens_at t i ≡ number q bs ∷ tokens_at t (q + length bs) → i < q + length bs → q + length bs ≤ length t
          → (n : Number) → number_of q (q + length bs) bs ≡ n → item_of_number q n ≡ Entry p v nx → EntryAt t i p v nx
      by_number q bs e l w (Refused c r) k j = cc
      by_number q bs e l w (Value u n) k j =
          let hp : q ≡ p = cc in
          let hv : u ≡ v = cc in
          let hn : n ≡ nx = cc in
          let m : n ≡ q + length bs = number_next q (q + length bs) bs u n k in
          rw (← hp, ← hv, ← hn)
          (record {
            bytes = bs;
            things = rw m e;
            value = k;
            later = omega arith;
            within = omega arith;
          })

      by_view : View t i → EntryAt t i p v nx
      by_view (ended e) = let k : Fault not_of_the_form (length t) ≡ Entry p v nx = rw e at h in cc
      by_view (opens q e) = let k : Fault not_of_the_form q ≡ Entry p v nx = rw e at h in cc
      by_view (closes q e) = let k : Closed (suc q) ≡ Entry p v nx = rw e at h in cc
      by_view (counts q bs e l w) = by_number q bs e l w (number_of q (q + length bs) bs) refl (rw e at h)

  pub inside_entry : (m n p : ℕ) (v : ℤ) (nx : ℕ) → item_of (length t) (tokens_at t i) ≡ Entry p v nx
      → inside (length t) m n (tokens_at t i) ≡ cond (ltb n m) (inside (length t) m (suc n) (tokens_at t nx)) (refused too_many p)
  inside_entry m n p v nx h = let a = entry_at p v nx h in rw (a.things, a.value)

  pub values_entry : (p : ℕ) (v : ℤ) (nx : ℕ) → item_of (length t) (tokens_at t i) ≡ Entry p v nx → values_of (tokens_at t i) ≡ v ∷ values_of (tokens_at t nx)
  values_entry p v nx h = let a = entry_at p v nx h in rw (a.things, a.value)

  pub inside_closed : (m n nx : ℕ) → item_of (length t) (tokens_at t i) ≡ Closed nx → inside (length t) m n (tokens_at t i) ≡ behind n (tokens_at t nx)
  inside_closed m n nx h = by_view (view t i)
    where
      by_number : (q : ℕ) (x : Number) → item_of_number q x ≡ Closed nx → ⊥
      by_number q (Value v e) k = cc
      by_number q (Refused c r) k = cc

      by_view : View t i → inside (length t) m n (tokens_at t i) ≡ behind n (tokens_at t nx)
      by_view (ended e) = let k : Fault not_of_the_form (length t) ≡ Closed nx = rw e at h in cc
      by_view (opens q e) = let k : Fault not_of_the_form q ≡ Closed nx = rw e at h in cc
      by_view (closes q e) = let k : Closed (suc q) ≡ Closed nx = rw e at h in let w : suc q ≡ nx = cc in rw (e, w)
      by_view (counts q bs e l w) = absurd (by_number q (number_of q (q + length bs) bs) (rw e at h))

  pub inside_fault : (m n c p : ℕ) → item_of (length t) (tokens_at t i) ≡ Fault c p → inside (length t) m n (tokens_at t i) ≡ refused c p
  inside_fault m n c p h = by_things (tokens_at t i) h
    where
      by_number : (q : ℕ) (x : Number) (next : ReadAnswer) → item_of_number q x ≡ Fault c p → counted q (ltb n m) x next ≡ refused c p
      by_number q (Value v e) next k = cc
      by_number q (Refused d r) next k = let a : d ≡ c = cc in let b : r ≡ p = cc in rw (a, b)

      by_things : (ks : List Token) → item_of (length t) ks ≡ Fault c p → inside (length t) m n ks ≡ refused c p
      by_things [] k = let a : not_of_the_form ≡ c = cc in let b : length t ≡ p = cc in rw (← a, ← b)
      by_things (opening q ∷ ks) k = let a : not_of_the_form ≡ c = cc in let b : q ≡ p = cc in rw (← a, ← b)
      by_things (closing q ∷ ks) k = cc
      by_things (number q bs ∷ ks) k = by_number q (number_of q (q + length bs) bs) (inside (length t) m (suc n) ks) k

  pub values_other : (r : Result (StdOption declared.Entry) ReadFault) (at : ℕ) → is_entry r ≡ false → item_told at r ≡ item_of (length t) (tokens_at t i)
      → values_of (tokens_at t i) ≡ []
  values_other r at n h = by_things (tokens_at t i) (λ p v nx e. entry_only r p v nx n (h ∙ e))
    where
      entry_only : (r : Result (StdOption declared.Entry) ReadFault) (p : ℕ) (v : ℤ) (nx : ℕ) → is_entry r ≡ false → item_told at r ≡ Entry p v nx → ⊥
      entry_only (Ok (Some m)) p v nx k e = cc
      entry_only (Ok None) p v nx k e = cc
      entry_only (Err f) p v nx k e = cc

      by_number : (q : ℕ) (x : Number) (vs : List ℤ) → ((p : ℕ) (v : ℤ) (nx : ℕ) → item_of_number q x ≡ Entry p v nx → ⊥) → value_then x vs ≡ []
      by_number q (Value v e) vs k = absurd (k q v e refl)
      by_number q (Refused c r) vs k = refl

      by_things : (ks : List Token) → ((p : ℕ) (v : ℤ) (nx : ℕ) → item_of (length t) ks ≡ Entry p v nx → ⊥) → values_of ks ≡ []
      by_things [] k = refl
      by_things (opening q ∷ ks) k = refl
      by_things (closing q ∷ ks) k = refl
      by_things (number q bs ∷ ks) k = by_number q (number_of q (q + length bs) bs) (values_of ks) k
