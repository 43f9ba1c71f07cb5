-- The things of a text from a place on, as the reader meets them: what separates is passed over, and then a bracket or a number stands there.
use mathlib.Core.Path.{◌≡◌, refl, ap, sym, ◌∙◌}
use Prim.Native.Nat.{ℕ, suc, ◌+◌, ◌≤◌, ◌<◌}
use native.Mathlib.Numerals.{add-one}
use native.Mathlib.Nat.{add-zero, add-suc, suc-add}
use native.Mathlib.Omega.{arith}
use mathlib.Core.List.{List, [], ◌∷◌}
use mathlib.Core.Bool.{Bool, true, false, cond, ◌||◌}
use lib.Dec.{eqb}
use lib.ListN.{length, drop, get_or, length-drop, drop_of_length-le}
use lib.Seq.{drop-cons, drop-drop, get_or-drop}
use borrow.Author.Tests.{ne_eqb, eq-eqb, not-true}
use Rattle.std.proofs.lemmas.Bool.{or_parts}
use Rattle.number.specs.Bytes.{hash, open_byte, close_byte, is_separator, in_number, in_comment, in_gap}
use Rattle.number.specs.Numbers.{number_bytes}
use Rattle.text.specs.Tokens.{Token, opening, closing, number, start_of, push, token, tokens, tokens_at}
use Rattle.text.specs.Steps.{blank}

-- ---- what separates

-- no bytes passed over
none_passed : (p k : ℕ) (s : List ℕ) → k ≡ 0 → tokens p false s ≡ tokens (p + k) false (drop k s)
none_passed p k s e = rw (e, add-zero p)

one_passed : (p k : ℕ) (c : Bool) (b : ℕ) (s : List ℕ) → tokens (suc p) c s ≡ tokens (suc p + k) false (drop k s)
    → tokens (suc p) c s ≡ tokens (p + suc k) false (drop (suc k) (b ∷ s))
one_passed p k c b s h = rw (add-suc p k, ← suc-add p k) h

pub blank-tokens : (p : ℕ) (c : Bool) (s : List ℕ) → tokens p c s ≡ tokens (p + blank c s) false (drop (blank c s) s)
blank-tokens p c [] = refl
blank-tokens p true (b ∷ s) = one_passed p (blank (in_comment true b) s) (in_comment true b) b s (blank-tokens (suc p) (in_comment true b) s)
blank-tokens p false (b ∷ s) = go (in_gap false b) refl (blank-tokens (suc p) (in_comment false b) s)
  where
    go : (g : Bool) → in_gap false b ≡ g
        → tokens (suc p) (in_comment false b) s ≡ tokens (suc p + blank (in_comment false b) s) false (drop (blank (in_comment false b) s) s)
        → tokens p false (b ∷ s) ≡ tokens (p + blank false (b ∷ s)) false (drop (blank false (b ∷ s)) (b ∷ s))
    go true e h = rw e (one_passed p (blank (in_comment false b) s) (in_comment false b) b s h)
    go false e h = none_passed p (blank false (b ∷ s)) (b ∷ s) (rw e)

pub blank-length : (c : Bool) (s : List ℕ) → blank c s ≤ length s
blank-length c [] = omega arith
blank-length c (b ∷ s) = go (in_gap c b) (blank-length (in_comment c b) s)
  where
    go : (g : Bool) → blank (in_comment c b) s ≤ length s → cond g (suc (blank (in_comment c b) s)) 0 ≤ suc (length s)
    go true h = omega arith
    go false h = omega arith

pub blank_stops : (c : Bool) (s : List ℕ) → blank c s < length s → in_gap false (get_or s (blank c s) 0) ≡ false
blank_stops c [] h = absurd (omega arith)
blank_stops true (b ∷ s) h = blank_stops (in_comment true b) s (omega arith)
blank_stops false (b ∷ s) h = go (in_gap false b) refl (blank_stops (in_comment false b) s) h
  where
    go : (g : Bool) → in_gap false b ≡ g → (blank (in_comment false b) s < length s → in_gap false (get_or s (blank (in_comment false b) s) 0) ≡ false)
        → cond g (suc (blank (in_comment false b) s)) 0 < suc (length s)
        → in_gap false (get_or (b ∷ s) (cond g (suc (blank (in_comment false b) s)) 0) 0) ≡ false
    go true e f h = f (omega arith)
    go false e f h = e

-- what separates in front of a place can be left out
pub skip_tokens : (t : List ℕ) (i : ℕ) → tokens_at t i ≡ tokens_at t (i + blank false (drop i t))
skip_tokens t i =
    blank-tokens i false (drop i t)
    ∙ ap (λ (s : List ℕ). tokens (i + blank false (drop i t)) false s) (drop-drop (blank false (drop i t)) i t)

-- the end of a text, and the byte that a place past what separates holds
module _ (t : List ℕ) (i q : ℕ) (at : q ≡ i + blank false (drop i t)) where
  pub skip_end : length t ≤ q → tokens_at t i ≡ []
  skip_end h = skip_tokens t i ∙ rw (← at, drop_of_length-le t h)

  pub skip_within : i ≤ length t → q ≤ length t
  skip_within h = omega (arith, blank-length false (drop i t), length-drop i t)

  pub skip_byte : q < length t → in_gap false (get_or t q 0) ≡ false
  skip_byte h =
      rw (at, ← get_or-drop i t (blank false (drop i t)) 0)
      (blank_stops false (drop i t) (omega (arith, length-drop i t)))

  pub skip_token : q < length t → tokens_at t i ≡ token q (get_or t q 0) (tokens_at t (suc q))
  skip_token h =
      let g = skip_byte h in
      let two = or_parts (false || eqb (get_or t q 0) hash) (is_separator (get_or t q 0)) g in
      let one = or_parts false (eqb (get_or t q 0) hash) two.0 in
      skip_tokens t i ∙ rw (← at, drop-cons t q 0 h, g, one.1)

-- ---- a number

-- a byte that neither separates nor is a bracket belongs to a number
pub in_number_lem : (b : ℕ) → in_gap false b ≡ false → eqb b open_byte ≡ false → eqb b close_byte ≡ false → in_number b ≡ true
in_number_lem b g o c =
    let two = or_parts (false || eqb b hash) (is_separator b) g in
    let one = or_parts false (eqb b hash) two.0 in
    rw (two.1, one.1, o, c)

-- the other way round: a byte of a number neither separates nor is a bracket
record Plain (b : ℕ) : Type 0 where
  gap : in_gap false b ≡ false
  comment : in_comment false b ≡ false
  no_open : eqb b open_byte ≡ false
  no_close : eqb b close_byte ≡ false

plain : (b : ℕ) → in_number b ≡ true → Plain b
plain b e =
    let all = not-true (is_separator b || eqb b hash || eqb b open_byte || eqb b close_byte) e in
    let three = or_parts _ (eqb b close_byte) all in
    let two = or_parts _ (eqb b open_byte) three.0 in
    let one = or_parts (is_separator b) (eqb b hash) two.0 in
    record {
      gap = rw (one.1, one.0);
      comment = one.1;
      no_open = two.1;
      no_close = three.1;
    }

-- the first of the things ks starts at place p or later
abbrev Later : ℕ → List Token → Type 0
Later p [] = Unit {0}
Later p (k ∷ ks) = p ≤ start_of k

later_weaker : (p : ℕ) (ks : List Token) → Later (suc p) ks → Later p ks
later_weaker p [] h = tt
later_weaker p (k ∷ ks) h = omega arith

push_starts : (p b : ℕ) (ks : List Token) → Later p (push p b ks)
push_starts p b [] = omega arith
push_starts p b (opening q ∷ ks) = omega arith
push_starts p b (closing q ∷ ks) = omega arith
push_starts p b (number q bs ∷ ks) = go (eqb q (suc p))
  where
    go : (e : Bool) → Later p (cond e (number p (b ∷ bs) ∷ ks) (number p (b ∷ []) ∷ number q bs ∷ ks))
    go true = omega arith
    go false = omega arith

token_starts : (p b : ℕ) (ks : List Token) → Later p (token p b ks)
token_starts p b ks = go (eqb b open_byte) (eqb b close_byte)
  where
    go : (o c : Bool) → Later p (cond o (opening p ∷ ks) (cond c (closing p ∷ ks) (push p b ks)))
    go true c = omega arith
    go false true = omega arith
    go false false = push_starts p b ks

tokens_later : (p : ℕ) (c : Bool) (s : List ℕ) → Later p (tokens p c s)
tokens_later p c [] = tt
tokens_later p c (b ∷ s) = go (in_gap c b) (tokens_later (suc p) (in_comment c b) s)
  where
    go : (g : Bool) → Later (suc p) (tokens (suc p) (in_comment c b) s)
        → Later p (cond g (tokens (suc p) (in_comment c b) s) (token p b (tokens (suc p) (in_comment c b) s)))
    go true h = later_weaker p (tokens (suc p) (in_comment c b) s) h
    go false h = token_starts p b (tokens (suc p) (in_comment c b) s)

-- a byte in front of something that does not go on with the number is a number of its own
push_alone : (p b : ℕ) (ks : List Token) → Later (suc (suc p)) ks → push p b ks ≡ number p (b ∷ []) ∷ ks
push_alone p b [] h = refl
push_alone p b (opening q ∷ ks) h = refl
push_alone p b (closing q ∷ ks) h = refl
push_alone p b (number q bs ∷ ks) h = rw (ne_eqb q (suc p) (λ e. omega arith))

push_ends : (p b d : ℕ) (s : List ℕ) → in_number d ≡ false → push p b (tokens (suc p) false (d ∷ s)) ≡ number p (b ∷ []) ∷ tokens (suc p) false (d ∷ s)
push_ends p b d s e = go (in_gap false d) (eqb d open_byte) (eqb d close_byte) refl refl refl
  where
    rest : List Token
    rest = tokens (suc (suc p)) (in_comment false d) s

    seen : Bool → Bool → Bool → List Token
    seen g o c = cond g rest (cond o (opening (suc p) ∷ rest) (cond c (closing (suc p) ∷ rest) (push (suc p) d rest)))

    go : (g o c : Bool) → in_gap false d ≡ g → eqb d open_byte ≡ o → eqb d close_byte ≡ c → push p b (seen g o c) ≡ number p (b ∷ []) ∷ seen g o c
    go true o c x y z = push_alone p b rest (tokens_later (suc (suc p)) (in_comment false d) s)
    go false true c x y z = refl
    go false false true x y z = refl
    go false false false x y z =
        let w : true ≡ false = sym (in_number_lem d x y z) ∙ e in
        cc

-- the bytes behind a byte of a number, as long as they belong to it
push_run : (p b : ℕ) (s : List ℕ)
    → push p b (tokens (suc p) false s) ≡ number p (b ∷ number_bytes s) ∷ tokens (p + suc (length (number_bytes s))) false (drop (length (number_bytes s)) s)
push_run p b [] = refl
push_run p b (d ∷ s) = go (in_number d) refl (push_run (suc p) d s)
  where
    go : (n : Bool) → in_number d ≡ n
        → push (suc p) d (tokens (suc (suc p)) false s) ≡ number (suc p) (d ∷ number_bytes s) ∷ tokens (suc p + suc (length (number_bytes s))) false (drop (length (number_bytes s)) s)
        → push p b (tokens (suc p) false (d ∷ s))
        ≡ number p (b ∷ number_bytes (d ∷ s)) ∷ tokens (p + suc (length (number_bytes (d ∷ s)))) false (drop (length (number_bytes (d ∷ s))) (d ∷ s))
    go true e h =
        let w = plain d e in
        rw (e, w.gap, w.comment, w.no_open, w.no_close, h, eq-eqb (suc p) (suc p) refl, add-suc p (suc (length (number_bytes s))), suc-add p (suc (length (number_bytes s))))
    go false e h = push_ends p b d s e ∙ rw (e, add-one p)

-- a number in front of a text: its bytes, and then what stands behind them
pub number_run : (p b : ℕ) (s : List ℕ) → in_number b ≡ true
    → tokens p false (b ∷ s) ≡ number p (b ∷ number_bytes s) ∷ tokens (p + suc (length (number_bytes s))) false (drop (length (number_bytes s)) s)
number_run p b s e =
    let w = plain b e in
    rw (w.gap, w.comment, w.no_open, w.no_close) (push_run p b s)

-- the same at place q of a text
pub number_tokens : (t : List ℕ) (q : ℕ) → q < length t → in_number (get_or t q 0) ≡ true
    → tokens_at t q ≡ number q (number_bytes (drop q t)) ∷ tokens_at t (q + length (number_bytes (drop q t)))
number_tokens t q h e =
    let b = get_or t q 0 in
    let s = drop (suc q) t in
    let n = length (number_bytes s) in
    let k : suc q + n ≡ q + suc n = omega arith in
    let d : drop n s ≡ drop (q + suc n) t = drop-drop n (suc q) t ∙ ap (λ (j : ℕ). drop j t) k in
    let w = plain b e in
    rw (drop-cons t q 0 h, e, w.gap, w.comment, w.no_open, w.no_close)
    (push_run q b s ∙ ap (λ (r : List ℕ). number q (b ∷ number_bytes s) ∷ tokens (q + suc n) false r) d)

-- ---- the turns of the loop that passes over what separates

module _ (t : List ℕ) (i : ℕ) (c : Bool) where
  pub skip_more : i < length t → in_gap c (get_or t i 0) ≡ true
      → (i + 1) + blank (in_comment c (get_or t i 0)) (drop (i + 1) t) ≡ i + blank c (drop i t)
  skip_more h e = rw (drop-cons t i 0 h, e, add-one i) (omega arith)

  pub skip_stops : i < length t → in_gap c (get_or t i 0) ≡ false → i + blank c (drop i t) ≡ i
  skip_stops h e = rw (drop-cons t i 0 h, e) (add-zero i)

  pub skip_ends : length t ≤ i → i + blank c (drop i t) ≡ i
  skip_ends h = rw (drop_of_length-le t h) (add-zero i)
