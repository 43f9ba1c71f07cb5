-- Telling an answer in document 01's numbers loses nothing: two answers told alike are one.
use mathlib.Core.Path.{◌≡◌, refl, ap, sym, ◌∙◌}
use Prim.Native.Nat.{ℕ}
use mathlib.Core.Bool.{cond}
use lib.Dec.{eqb}
use Rattle.std.specs.Prelude.{Result, Ok, Err}
use Rattle.number.specs.Codes.{too_long, not_of_the_form, out_of_range}
use Rattle.text.specs.Reading.{ReadAnswer, read_told}
use Rattle.text.specs.Writing.{WriteAnswer, write_told}
use Rattle.text.specs.declared.ReadFault.{ReadFault}
use Rattle.text.specs.declared.ReadFault.TheVariants.{NotOfTheForm, OutOfRange, TooMany}
use Rattle.text.specs.declared.WriteFault.{WriteFault}
use Rattle.text.specs.declared.WriteFault.TheVariants.{TooLong, NoRoom}

-- the answers that are told so
read_back : ReadAnswer → Result ℕ ReadFault
read_back r =
    cond (eqb r.code 0) (Ok r.entries)
    (cond (eqb r.code not_of_the_form) (Err (NotOfTheForm r.place)) (cond (eqb r.code out_of_range) (Err (OutOfRange r.place)) (Err (TooMany r.place))))

write_back : WriteAnswer → Result ℕ WriteFault
write_back r = cond (eqb r.code 0) (Ok r.length) (cond (eqb r.code too_long) (Err TooLong) (Err (NoRoom r.place)))

read_back_told : (r : Result ℕ ReadFault) → read_back (read_told r) ≡ r
unfolding read_back
read_back_told (Ok n) = refl
read_back_told (Err (NotOfTheForm p)) = refl
read_back_told (Err (OutOfRange p)) = refl
read_back_told (Err (TooMany p)) = refl

write_back_told : (r : Result ℕ WriteFault) → write_back (write_told r) ≡ r
unfolding write_back
write_back_told (Ok n) = refl
write_back_told (Err TooLong) = refl
write_back_told (Err (NoRoom n)) = refl

pub read_told_injective : (a b : Result ℕ ReadFault) → read_told a ≡ read_told b → a ≡ b
read_told_injective a b e = sym (read_back_told a) ∙ ap read_back e ∙ read_back_told b

pub write_told_injective : (a b : Result ℕ WriteFault) → write_told a ≡ write_told b → a ≡ b
write_told_injective a b e = sym (write_back_told a) ∙ ap write_back e ∙ write_back_told b
