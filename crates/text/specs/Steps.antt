-- What the functions inside the reader promise, where that is no definition of document 01.
--
--   blank c s      how many bytes of separators and comments s begins with; c says whether s starts in a comment
--   Thing          what stands at a place inside the brackets: a number's place, value and next place, the closing
--                  bracket with the place behind it, or a refusal's code and place
--   Opened t i      the things of the text t are an opening bracket and those from place i on
--   item_told i r   what `next_entry` answers, as such a thing, where it has come to place i
--   item_of_number  the thing that a number read at place p is
--   item_of e ks    the first of the things ks inside the brackets, in a text of length e
--   entry_item x more  the entry x, with a comma and a space behind it where more follow
--   Puts old new bs  the writer old has put the bytes bs at its place and become new, whose place is behind them
use Rattle.std.specs.Prelude.{◌++◌, ℕ, ℤ, suc, ◌+◌, List, [], ◌∷◌, Bool, cond, length, Result, Ok, Err, Option, Some, None, ◌≡◌, false}
use Rattle.number.specs.Bytes.{comma, space, in_comment, in_gap}
use Rattle.number.specs.Steps.{put}
use Rattle.number.specs.Codes.{not_of_the_form}
use Rattle.number.specs.Numbers.{Number, Value, Refused, number_of, code_of, place_of}
use Rattle.text.specs.Tokens.{Token, opening, closing, number, tokens, tokens_at}
use Rattle.text.specs.Reading.{read_code, read_place}
use Rattle.text.specs.Writing.{entry_text}
use Rattle.text.specs.declared.ReadFault.{ReadFault}
use Rattle.text.specs.declared.reader.Entry as declared
use Rattle.text.specs.declared.writer.Writer.{Writer}

abbrev pub blank : Bool → List ℕ → ℕ
blank c [] = 0
blank c (b ∷ s) = let r : ℕ = blank (in_comment c b) s in cond (in_gap c b) (suc r) 0

pub data Thing : Type 0 where
  Entry : ℕ → ℤ → ℕ → Thing
  Closed : ℕ → Thing
  Fault : ℕ → ℕ → Thing

abbrev pub Opened : List ℕ → ℕ → Type 0
Opened t i = (q : ℕ) × (tokens 0 false t ≡ opening q ∷ tokens_at t i)

abbrev pub item_told : ℕ → Result (Option declared.Entry) ReadFault → Thing
item_told next (Ok (Some e)) = Entry e.place e.value next
item_told next (Ok None) = Closed next
item_told next (Err f) = Fault (read_code f) (read_place f)

abbrev pub item_of_number : ℕ → Number → Thing
item_of_number p (Value v e) = Entry p v e
item_of_number p (Refused c q) = Fault (code_of (Refused c q)) (place_of (Refused c q))

abbrev pub item_of : ℕ → List Token → Thing
item_of e [] = Fault not_of_the_form e
item_of e (opening p ∷ ks) = Fault not_of_the_form p
item_of e (closing p ∷ ks) = Closed (suc p)
item_of e (number p bs ∷ ks) = item_of_number p (number_of p (p + length bs) bs)

abbrev pub entry_item : ℤ → Bool → List ℕ
entry_item x more = entry_text x ++ cond more (comma ∷ space ∷ []) []

pub record Puts (old new : Writer) (bs : List ℕ) : Type 0 where
  pub lent : new.text.ghost_name ≡ old.text.ghost_name
  pub place : new.at ≡ old.at + length bs
  pub text_after : new.text.now ≡ put old.at bs old.text.now
