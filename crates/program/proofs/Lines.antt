-- Laws of a line of numbers: how long a number is, and one number more.
use Prim.Native.Nat.{ℕ, suc, ◌+◌, ◌-◌, ◌*◌, ◌≤◌, ◌<◌, ◌^◌}
use mathlib.Core.Path.{◌≡◌, ap, sym, ◌∙◌}
use mathlib.Core.List.{List, [], ◌∷◌, ◌++◌, append-nil}
use native.Mathlib.Numerals.{add-one}
use native.Mathlib.Omega.{arith}
use lib.IntN.{ℤ}
use lib.ListN.{length, get_or, take, drop, set, length-append, length-drop, drop_of_length-le}
use lib.Seq.{take_all, drop-cons, drop-drop}
use Rattle.list.specs.Limits.{max_entries}
use Rattle.number.specs.Decimal.{width, low_digits, decimal_text}
use Rattle.std.specs.Prelude.{Result, Ok}
use Rattle.text.specs.Writing.{written, accepted_write, write_told, write_of, write_into}
use Rattle.text.specs.declared.WriteFault.{WriteFault}
use Rattle.text.proofs.Told.{write_told_injective}
use Rattle.number.specs.Steps.{put}
use Rattle.number.proofs.Width.{width_64}
use Rattle.number.proofs.Putting.{digits_length, put-length, put_byte, put_behind}
use Rattle.text.proofs.Writes.{write_fits, into_written}
use Rattle.program.specs.Printed.{space, line_feed, behind, number_text, line, list_line}

-- ---- a number with the byte behind it

module _ (x : ℕ) where
  number_length : length (decimal_text x) ≡ width x
  number_length = digits_length (width x) x

  -- its d digits have been put at place at, and the byte b behind it follows
  pub number_put : (at d b : ℕ) (t t' : List ℕ) → d ≡ width x → at + d < length t → t' ≡ put at (low_digits d x) t
      → set t' (at + d) b ≡ put at (decimal_text x ++ b ∷ []) t
  number_put at d b t t' hd room ht =
      let n : length (low_digits d x) ≡ d = digits_length d x in
      let long : length t' ≡ length t = ap length ht ∙ put-length at (low_digits d x) t (omega arith) in
      put_byte (at + d) b t' (omega arith)
      ∙ rw (ht) (ap (λ (k : ℕ). put (at + k) (b ∷ []) (put at (low_digits d x) t)) (sym n))
      ∙ put_behind at (low_digits d x) (b ∷ []) t (omega arith)
      ∙ rw hd

  pub number_behind : (at d : ℕ) → d ≡ width x → d ≤ 20 → (at + d + 1 ≡ at + length (decimal_text x) + 1) × (at + d + 1 ≤ at + 21)
  number_behind at d hd h = (omega (arith, number_length), omega arith)

-- ---- the number at place i of a line

module _ (xs : List ℕ) (i : ℕ) where
  pub behind_more : i + 1 < length xs → space ≡ behind (drop (i + 1) xs)
  behind_more h = rw (drop-cons xs (i + 1) 0 h)

  pub behind_last : length xs ≤ i + 1 → line_feed ≡ behind (drop (i + 1) xs)
  behind_last h = rw (drop_of_length-le xs h)

  pub line_at_place : (b : ℕ) → i < length xs → b ≡ behind (drop (i + 1) xs)
      → line (drop i xs) ≡ (decimal_text (get_or xs i 0) ++ b ∷ []) ++ line (drop (i + 1) xs)
  line_at_place b h e = rw (e, drop-cons xs i 0 h, add-one i)

-- one piece of a text has been put at place at, and the rest of it follows
pub put_on : (at q : ℕ) (a b w t t' : List ℕ) → w ≡ a ++ b → at + length w ≤ length t → q ≡ at + length a → t' ≡ put at a t → put q b t' ≡ put at w t
put_on at q a b w t t' hw room hq ht =
    let n : length w ≡ length a + length b = ap length hw ∙ length-append a b in
    rw (hq, ht) (put_behind at a b t (omega arith)) ∙ ap (λ (vs : List ℕ). put at vs t) (sym hw)

pub line_past : (xs : List ℕ) (i : ℕ) → length xs ≤ i → line (drop i xs) ≡ []
line_past xs i h = rw (drop_of_length-le xs h)

-- a line of numbers of 64 bits has at most 21 bytes for each
pub line_short : (xs : List ℕ) → ((k : ℕ) → get_or xs k 0 < 2 ^ 64) → length (line xs) ≤ 21 * length xs
line_short [] f = omega arith
line_short (x ∷ xs) f =
    omega (arith, line_short xs (λ k. f (suc k)), number_length x, width_64 x (f 0), length-append (number_text (x ∷ xs)) (line xs), length-append (decimal_text x) (behind xs ∷ []))

-- ---- the text of a list, written to the part of the output t, of m bytes, from place at on

module _ (l : List ℤ) (t : List ℕ) (m : ℕ) (long : length t ≡ m) (at : ℕ) (few : length l ≤ max_entries) (room : at + length (list_line l) ≤ m) where
  list_length : length (list_line l) ≡ length (written l) + 1
  list_length = length-append (written l) (line_feed ∷ [])

  rest : take (m - at) (drop at t) ≡ drop at t
  rest = take_all (m - at) (drop at t) (simp length-drop (omega arith))

  none_after : drop (m - at) (drop at t) ≡ []
  none_after = drop_of_length-le (drop at t) {i = m - at} (simp length-drop (omega arith))

  accepted : write_of l (length (drop at t)) ≡ accepted_write (length (written l))
  accepted = write_fits l (length (drop at t)) few (simp length-drop (omega (arith, list_length)))

  -- the writer accepts
  pub list_accepted : (r : Result ℕ WriteFault) → write_told r ≡ write_of l (length (take (m - at) (drop at t))) → r ≡ Ok (length (written l))
  list_accepted r hr = write_told_injective r (Ok (length (written l))) (hr ∙ ap (λ (u : List ℕ). write_of l (length u)) rest ∙ accepted)

  pub list_room : at + length (written l) + 1 ≤ m
  list_room = omega (arith, list_length)

  pub list_behind : at + length (written l) + 1 ≡ at + length (list_line l)
  list_behind = omega (arith, list_length)

  -- the part is back in its place, and the line feed follows
  pub list_put : (u : List ℕ) (q : ℕ) → u ≡ write_into l (take (m - at) (drop at t)) → q ≡ at + length (written l)
      → set (take at t ++ (u ++ drop (m - at) (drop at t))) q line_feed ≡ put at (list_line l) t
  list_put u q hu hq =
      let w : List ℕ = written l in
      let e : u ≡ w ++ drop (at + length w) t =
      hu ∙ rw rest (into_written l (drop at t) (length w) accepted ∙ ap (λ (x : List ℕ). w ++ x) (drop-drop (length w) at t)) in
      let kept : length (put at w t) ≡ length t = put-length at w t (omega (arith, list_length)) in
      rw (none_after, append-nil u, e, hq) (put_byte (at + length w) line_feed (put at w t) (omega (arith, list_length)))
      ∙ put_behind at w (line_feed ∷ []) t (omega (arith, list_length))
