-- Writing a list as a text (document 01, "Text" and codes 1, 15).
--
--   is_negative x      the entry x is below 0
--   entry_text x       the entry x in shortest decimal
--   joint xs           what stands between an entry and the entries xs behind it: a comma and a space, or nothing behind the last
--   item_text l        the first entry of l with what stands behind it
--   entries_text l     the entries of l joined, and the closing bracket
--   written l          the text of the list l
--   WriteAnswer        document 01's numbers for a writing: code, place and the text's length
--   refused_write c p  the answer that refuses with code c at place p
--   accepted_write n   the answer that accepts, with a text of n bytes
--   write_code f       the code of the fault f
--   write_place f      its place: the length needed, or 0
--   write_told r       what `write` answers, in these numbers
--   write_of l n       the answer to the list l and a text buffer of n bytes
--   write_into l t     the text buffer afterwards: the text in front of what stays, or all as it was
--   Fits32 x           the entry x is from -2,147,483,648 to 2,147,483,647
--   AllFit l           so is every entry of l
use Rattle.std.specs.Prelude.{ℕ, suc, ◌≤◌, ◌<◌, List, [], ◌∷◌, ◌++◌, Bool, true, false, cond, ℤ, pos, negsuc, nat_abs, length, get_or, eqb, ltb, Result, Ok, Err}
use Rattle.list.specs.Limits.{max_entries}
use Rattle.list.specs.Written.{over}
use Rattle.number.specs.Codes.{too_long, no_room_code}
use Rattle.number.specs.Bytes.{space, comma, open_byte, close_byte, minus_byte}
use Rattle.number.specs.Numbers.{greatest}
use Rattle.number.specs.Decimal.{decimal_text}
use Rattle.text.specs.declared.WriteFault.{WriteFault}
use Rattle.text.specs.declared.WriteFault.TheVariants.{TooLong, NoRoom}

pub record WriteAnswer : Type 0 where
  pub code : ℕ
  pub place : ℕ
  pub length : ℕ

abbrev pub is_negative : ℤ → Bool
is_negative (pos m) = false
is_negative (negsuc m) = true

abbrev pub entry_text : ℤ → List ℕ
entry_text x = cond (is_negative x) (minus_byte ∷ decimal_text (nat_abs x)) (decimal_text (nat_abs x))

abbrev pub joint : List ℤ → List ℕ
joint [] = []
joint (x ∷ xs) = comma ∷ space ∷ []

abbrev pub item_text : List ℤ → List ℕ
item_text [] = []
item_text (x ∷ xs) = entry_text x ++ joint xs

abbrev pub entries_text : List ℤ → List ℕ
entries_text [] = close_byte ∷ []
entries_text (x ∷ xs) = item_text (x ∷ xs) ++ entries_text xs

abbrev pub written : List ℤ → List ℕ
written l = open_byte ∷ entries_text l

abbrev pub refused_write : ℕ → ℕ → WriteAnswer
refused_write c p = record { code = c; place = p; length = 0 }

abbrev pub accepted_write : ℕ → WriteAnswer
accepted_write n = record { code = 0; place = 0; length = n }

abbrev pub write_code : WriteFault → ℕ
write_code TooLong = too_long
write_code (NoRoom n) = no_room_code

abbrev pub write_place : WriteFault → ℕ
write_place TooLong = 0
write_place (NoRoom n) = n

abbrev pub write_told : Result ℕ WriteFault → WriteAnswer
write_told (Ok n) = accepted_write n
write_told (Err f) = refused_write (write_code f) (write_place f)

unfoldable pub write_of : List ℤ → ℕ → WriteAnswer
write_of l n =
    cond (ltb max_entries (length l)) (refused_write too_long 0)
    (cond (ltb n (length (written l))) (refused_write no_room_code (length (written l))) (accepted_write (length (written l))))

unfoldable pub write_into : List ℤ → List ℕ → List ℕ
unfolding write_of
write_into l t = cond (eqb (write_of l (length t)).code 0) (over (written l) t) t

abbrev pub Fits32 : ℤ → Type 0
Fits32 (pos m) = m ≤ greatest false
Fits32 (negsuc m) = suc m ≤ greatest true

abbrev pub AllFit : List ℤ → Type 0
AllFit l = (i : ℕ) → i < length l → Fits32 (get_or l i (pos 0))
