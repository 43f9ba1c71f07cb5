-- What the writer has put, one piece behind another, and an entry as the pieces that its steps put.
use mathlib.Core.Path.{◌≡◌, refl, ap, sym, ◌∙◌}
use Prim.Native.Nat.{ℕ, ◌+◌, ◌≤◌}
use native.Mathlib.Nat.{add-zero}
use native.Mathlib.Omega.{arith}
use mathlib.Core.List.{List, [], ◌∷◌, ◌++◌}
use mathlib.Core.Bool.{Bool, true, false, cond}
use lib.IntN.{ℤ, nat_abs}
use lib.ListN.{length, length-append}
use Rattle.number.specs.Bytes.{minus_byte}
use Rattle.number.specs.Decimal.{width, low_digits}
use Rattle.number.proofs.Putting.{put_none, put-length, put_behind}
use Rattle.text.specs.Writing.{is_negative, entry_text}
use Rattle.text.specs.Steps.{Puts}
use Rattle.text.specs.declared.writer.Writer.{Writer}

pub puts_none : (a : Writer) → Puts a a []
puts_none a = record { lent = refl; place = sym (add-zero a.at); text_after = sym (put_none a.at a.text.now) }

pub puts_long : (a b : Writer) (xs : List ℕ) → Puts a b xs → a.at + length xs ≤ length a.text.now → length b.text.now ≡ length a.text.now
puts_long a b xs p room = ap length p.text_after ∙ put-length a.at xs a.text.now room

module _ (a b : Writer) (xs ys : List ℕ) (p : Puts a b xs) (room : a.at + length (xs ++ ys) ≤ length a.text.now) where
  pub puts_room : b.at + length ys ≤ length b.text.now
  puts_room =
      let n = length-append xs ys in
      omega (arith, p.place, puts_long a b xs p (omega arith))

  pub puts_behind : (c : Writer) → Puts b c ys → Puts a c (xs ++ ys)
  puts_behind c q =
      let n = length-append xs ys in record {
        lent = q.lent ∙ p.lent;
        place = omega (arith, p.place, q.place);
        text_after = q.text_after ∙ rw (p.place, p.text_after) (put_behind a.at xs ys a.text.now (omega arith));
      }

-- an entry is its sign and its digits
pub entry_pieces : (x : ℤ) (neg : Bool) (m d : ℕ) → neg ≡ is_negative x → m ≡ nat_abs x → d ≡ width m
    → cond neg (minus_byte ∷ []) [] ++ low_digits d m ≡ entry_text x
entry_pieces x neg m d hn hm hd = rw (hd, hm, hn) (go (is_negative x))
  where
    go : (b : Bool) → cond b (minus_byte ∷ []) [] ++ low_digits (width (nat_abs x)) (nat_abs x)
        ≡ cond b (minus_byte ∷ low_digits (width (nat_abs x)) (nat_abs x)) (low_digits (width (nat_abs x)) (nat_abs x))
    go true = refl
    go false = refl
