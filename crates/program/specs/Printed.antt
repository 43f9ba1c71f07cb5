-- What the program prints (document 01, "The program").
--
--   count_to x        one more than the entry x; 0 where x is negative
--   vertex_count l   the n that the program takes: the greatest entry plus one, 0 if none is above -1
--   space            the byte between two numbers
--   line_feed        the byte that ends a line
--   behind xs        the byte between a number and the numbers xs behind it: a space, or a line feed behind the last
--   number_text xs   the first number of xs in shortest decimal, and the byte behind it
--   line xs          the numbers xs with one space between them, on a line of their own
--   list_line l      the text of the list l, on a line of its own
--   refusal c p      the seven numbers of a refusal with code c at place p
--   too_large_code   14   the code of an input above the limit
--   input_code f, input_place f   the code and the place of the fault f of an input
--   refused f        the seven numbers of that fault
--   cut_answer l     the cut's answer for the entries l with the program's n, in buffers for as many entries as the program reads
--   cut_lists l      the lines of the new list and of the map
--   printed_cut l    what is printed for the entries l: the seven numbers, and if accepted the two lists
--   entries_in t     the entries that the input t holds
--   Read l           what is known of entries that were read: they are few enough, and each is of 32 bits
--   printed t        what is printed for the input t: 14 is looked at first, then 11 to 13, then the cut's codes
--   code_for t       the first of the numbers printed for the input t
--   response_of t    what is printed, at the start of the program's output, which is 0 behind it
use Rattle.std.specs.Prelude.{ℕ, ◌+◌, ◌*◌, ◌≤◌, max, List, [], ◌∷◌, ◌++◌, false, cond, ltb, eqb, ℤ, pos, negsuc, length, drop, replicate, Err}
use Rattle.text.specs.Tokens.{tokens}
use Rattle.text.specs.Reading.{read_of, read_told, entries_of}
use Rattle.number.specs.Decimal.{decimal_text}
use Rattle.text.specs.Writing.{written, AllFit}
use Rattle.groups.specs.Groups.{group_labels}
use Rattle.renumber.specs.Renumber.{new_list_of, map_of}
use Rattle.cut.specs.Cut.{CutAnswer, cut_numbers, cut_of}
use Rattle.program.specs.Limits.{input_bytes, input_entries, output_bytes}
use Rattle.program.specs.declared.Response.{Response}
use Rattle.program.specs.declared.InputFault.{InputFault}
use Rattle.program.specs.declared.InputFault.TheVariants.{TooLarge, Unread}

abbrev pub count_to : ℤ → ℕ
count_to (pos k) = k + 1
count_to (negsuc k) = 0

abbrev pub vertex_count : List ℤ → ℕ
vertex_count [] = 0
vertex_count (x ∷ xs) = max (count_to x) (vertex_count xs)

abbrev pub space : ℕ
space = 32

abbrev pub line_feed : ℕ
line_feed = 10

abbrev pub behind : List ℕ → ℕ
behind [] = line_feed
behind (x ∷ xs) = space

abbrev pub number_text : List ℕ → List ℕ
number_text [] = []
number_text (x ∷ xs) = decimal_text x ++ behind xs ∷ []

abbrev pub line : List ℕ → List ℕ
line [] = []
line (x ∷ xs) = number_text (x ∷ xs) ++ line xs

abbrev pub list_line : List ℤ → List ℕ
list_line l = written l ++ line_feed ∷ []

abbrev pub refusal : ℕ → ℕ → List ℕ
refusal code place = code ∷ place ∷ 0 ∷ 0 ∷ 0 ∷ 0 ∷ 0 ∷ []

abbrev pub too_large_code : ℕ
too_large_code = 14

abbrev pub input_code : InputFault → ℕ
input_code TooLarge = too_large_code
input_code (Unread fault) = (read_told (Err fault)).code

abbrev pub input_place : InputFault → ℕ
input_place TooLarge = input_bytes
input_place (Unread fault) = (read_told (Err fault)).place

abbrev pub refused : InputFault → List ℕ
refused fault = refusal (input_code fault) (input_place fault)

unfoldable pub cut_answer : List ℤ → CutAnswer
cut_answer l = cut_of l (vertex_count l) input_entries input_entries (4 * input_entries)

abbrev pub cut_lists : List ℤ → List ℕ
cut_lists l = list_line (new_list_of l (group_labels l)) ++ list_line (map_of l (group_labels l))

unfoldable pub printed_cut : List ℤ → List ℕ
printed_cut l = line (cut_numbers (cut_answer l)) ++ cond (eqb (cut_answer l).code 0) (cut_lists l) []

abbrev pub entries_in : List ℕ → List ℤ
entries_in t = entries_of (tokens 0 false t)

pub record Read (l : List ℤ) : Type 0 where
  pub few : length l ≤ input_entries
  pub fit : AllFit l

unfoldable pub printed : List ℕ → List ℕ
printed t =
    cond (ltb input_bytes (length t))
    (line (refusal too_large_code input_bytes))
    (cond (eqb (read_of t input_entries).code 0)
    (printed_cut (entries_in t))
    (line (refusal (read_of t input_entries).code (read_of t input_entries).place)))

unfoldable pub code_for : List ℕ → ℕ
code_for t =
    cond (ltb input_bytes (length t))
    too_large_code
    (cond (eqb (read_of t input_entries).code 0) (cut_answer (entries_in t)).code (read_of t input_entries).code)

unfoldable pub response_of : List ℕ → Response
response_of t =
    record { bytes = printed t ++ drop (length (printed t)) (replicate output_bytes 0); length = length (printed t) }
