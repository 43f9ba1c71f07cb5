-- Telling a reading in document 01's numbers loses nothing: two readings told alike are one.
use mathlib.Core.Path.{◌≡◌, refl, ap, sym, ◌∙◌}
use mathlib.Core.Bool.{cond}
use lib.Dec.{eqb}
use Rattle.std.specs.Prelude.{Result, Ok, Err}
use Rattle.number.specs.Codes.{not_of_the_form}
use Rattle.number.specs.Numbers.{Number, Value, Refused, number_told}
use Rattle.number.specs.declared.NumberRead.{NumberRead}
use Rattle.number.specs.declared.NumberFault.{NumberFault}
use Rattle.number.specs.declared.NumberFault.TheVariants.{NotOfTheForm, OutOfRange}

-- the reading that is told so
back : Number → Result NumberRead NumberFault
back (Value v e) = Ok (record { value = v; next = e })
back (Refused c p) = cond (eqb c not_of_the_form) (Err (NotOfTheForm p)) (Err (OutOfRange p))

back_told : (r : Result NumberRead NumberFault) → back (number_told r) ≡ r
unfolding back
back_told (Ok r) = refl
back_told (Err (NotOfTheForm p)) = refl
back_told (Err (OutOfRange p)) = refl

pub number_told_injective : (a b : Result NumberRead NumberFault) → number_told a ≡ number_told b → a ≡ b
number_told_injective a b e = sym (back_told a) ∙ ap back e ∙ back_told b
