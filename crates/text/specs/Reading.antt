-- Reading a text into a lent list (document 01, "Text" and codes 11, 12, 13).
--
--   ReadAnswer         document 01's numbers for a reading: code, place and how many entries
--   refused c p        the answer that refuses with code c at place p: everything else is 0
--   accepted n         the answer that accepts n entries: code 0, place 0
--   read_code f        the code of the fault f
--   read_place f       its place
--   read_told r        what `read` answers, in these numbers
--   read_numbers r     these in their order: code, place, entries read
--   read_fault f       the fault of a text whose leftmost fault is the number's fault f
--   room_of n          how many numbers a lent list of n entries takes
--   behind n ks        the things ks behind the closing bracket, where n entries have been read: there must be none
--   counted p b x r    the number x read at place p: its own refusal, 13 where b says that it has no room, else the answer r
--   inside e m n ks    the things ks inside the brackets, in a text of length e, where n of at most m entries have been read
--   opened e m ks      the things ks of a whole text: the first must be the opening bracket
--   read_of t n         the answer to the text t and a lent list of n entries
--   value_then x vs    the value of the number x in front of the values vs, or none where x is refused
--   values_of ks        the values of the numbers that ks begins with
--   entries_of ks      the entries of a text that is the things ks
--   read_into t l      the lent list afterwards: the entries read in front of what stays, or all as it was
use Rattle.std.specs.Prelude.{ℕ, suc, ◌+◌, min, List, [], ◌∷◌, Bool, false, cond, ℤ, length, eqb, ltb, Result, Ok, Err}
use Rattle.list.specs.Limits.{max_entries}
use Rattle.list.specs.Written.{over}
use Rattle.number.specs.Codes.{not_of_the_form, out_of_range, too_many}
use Rattle.number.specs.Numbers.{Number, Value, Refused, number_of, code_of, place_of}
use Rattle.number.specs.declared.NumberFault as number_fault
use Rattle.number.specs.declared.NumberFault.TheVariants as number_faults
use Rattle.text.specs.Tokens.{Token, opening, closing, number, start_of, tokens}
use Rattle.text.specs.declared.ReadFault.{ReadFault}
use Rattle.text.specs.declared.ReadFault.TheVariants.{NotOfTheForm, OutOfRange, TooMany}

pub record ReadAnswer : Type 0 where
  pub code : ℕ
  pub place : ℕ
  pub entries : ℕ

abbrev pub refused : ℕ → ℕ → ReadAnswer
refused c p = record { code = c; place = p; entries = 0 }

abbrev pub accepted : ℕ → ReadAnswer
accepted n = record { code = 0; place = 0; entries = n }

abbrev pub read_code : ReadFault → ℕ
read_code (NotOfTheForm p) = not_of_the_form
read_code (OutOfRange p) = out_of_range
read_code (TooMany p) = too_many

abbrev pub read_place : ReadFault → ℕ
read_place (NotOfTheForm p) = p
read_place (OutOfRange p) = p
read_place (TooMany p) = p

abbrev pub read_told : Result ℕ ReadFault → ReadAnswer
read_told (Ok n) = accepted n
read_told (Err f) = refused (read_code f) (read_place f)

abbrev pub read_numbers : ReadAnswer → List ℕ
read_numbers r = r.code ∷ r.place ∷ r.entries ∷ []

abbrev pub read_fault : number_fault.NumberFault → ReadFault
read_fault (number_faults.NotOfTheForm p) = NotOfTheForm p
read_fault (number_faults.OutOfRange p) = OutOfRange p

abbrev pub room_of : ℕ → ℕ
room_of n = min n max_entries

abbrev pub behind : ℕ → List Token → ReadAnswer
behind n [] = accepted n
behind n (k ∷ ks) = refused not_of_the_form (start_of k)

abbrev pub counted : ℕ → Bool → Number → ReadAnswer → ReadAnswer
counted p room (Value v e) next = cond room next (refused too_many p)
counted p room (Refused c q) next = refused (code_of (Refused c q)) (place_of (Refused c q))

abbrev pub inside : ℕ → ℕ → ℕ → List Token → ReadAnswer
inside e m n [] = refused not_of_the_form e
inside e m n (opening p ∷ ks) = refused not_of_the_form p
inside e m n (closing p ∷ ks) = behind n ks
inside e m n (number p bs ∷ ks) =
    let next : ReadAnswer = inside e m (suc n) ks in counted p (ltb n m) (number_of p (p + length bs) bs) next

abbrev pub opened : ℕ → ℕ → List Token → ReadAnswer
opened e m [] = refused not_of_the_form e
opened e m (opening p ∷ ks) = inside e m 0 ks
opened e m (closing p ∷ ks) = refused not_of_the_form p
opened e m (number p bs ∷ ks) = refused not_of_the_form p

unfoldable pub read_of : List ℕ → ℕ → ReadAnswer
read_of t n = opened (length t) (room_of n) (tokens 0 false t)

abbrev pub value_then : Number → List ℤ → List ℤ
value_then (Value v e) vs = v ∷ vs
value_then (Refused c p) vs = []

abbrev pub values_of : List Token → List ℤ
values_of [] = []
values_of (opening p ∷ ks) = []
values_of (closing p ∷ ks) = []
values_of (number p bs ∷ ks) = let vs : List ℤ = values_of ks in value_then (number_of p (p + length bs) bs) vs

abbrev pub entries_of : List Token → List ℤ
entries_of [] = []
entries_of (opening p ∷ ks) = values_of ks
entries_of (closing p ∷ ks) = []
entries_of (number p bs ∷ ks) = []

unfoldable pub read_into : List ℕ → List ℤ → List ℤ
unfolding read_of
read_into t l = cond (eqb (read_of t (length l)).code 0) (over (entries_of (tokens 0 false t)) l) l
