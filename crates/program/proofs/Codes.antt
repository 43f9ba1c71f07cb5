-- The codes that the program prints: 14 exactly when the input is too large, and otherwise no code but 0 to 5 and 11 to 13.
use Prim.Native.Nat.{ℕ, ◌*◌, ◌≤◌, ◌<◌}
use mathlib.Core.Path.{◌≡◌, refl, ap, ◌∙◌}
use mathlib.Core.Logic.{◌↔◌}
use mathlib.Core.List.{List, [], ◌∷◌, ◌++◌, append_assoc}
use mathlib.Core.Bool.{Bool, true, false, cond}
use native.Mathlib.Decide.{dec_lt}
use native.Mathlib.Omega.{arith}
use borrow.Author.Tests.{lt-ltb, le-ltb, eq-eqb, ne_eqb, eqb-true, eqb-false}
use lib.Dec.{eqb, ltb}
use lib.IntN.{ℤ}
use lib.ListN.{length, drop}
use Rattle.list.specs.Faces.{Face, corners, faces}
use Rattle.list.specs.Check.{CheckAnswer, refused, by_fault, face_fault, check_faces, check_of, accepted}
use Rattle.std.specs.Prelude.{Result, Ok, Err}
use Rattle.list.specs.declared.rules.FaceFault.{FaceFault}
use Rattle.list.specs.declared.rules.FaceFault.TheVariants as Fault·
use Rattle.list.specs.Limits.{max_entries, max_vertices}
use Rattle.list.proofs.Checking.{corners_fit}
use Rattle.text.specs.Tokens.{tokens}
use Rattle.text.specs.Reading.{ReadAnswer, room_of, read_of}
use Rattle.number.specs.Decimal.{decimal_text}
use Rattle.text.proofs.Exactly.{Verdict, by_eleven, by_twelve, by_thirteen, by_none, verdict, eleven_exactly, twelve_exactly, thirteen_exactly, accepted_exactly}
use Rattle.cut.specs.Cut.{cut_numbers, words_needed, cut_refused, cut_accepted, cut_of}
use Rattle.program.specs.Limits.{input_bytes, input_entries}
use Rattle.program.specs.Printed.{vertex_count, space, line, cut_answer, cut_lists, printed_cut, entries_in, Read, too_large_code, printed, code_for}
use Rattle.program.proofs.Answering.{large_printed, unread_printed, read_printed, entries_read}

-- ---- the reader's codes

pub read_code : (t : List ℕ) (n : ℕ) → (read_of t n).code ≤ 13
read_code t n = go (verdict (length t) (room_of n) (tokens 0 false t))
  where
    go : Verdict (length t) (room_of n) (tokens 0 false t) → (read_of t n).code ≤ 13
    go (by_eleven p x) = omega (arith, ap (λ (r : ReadAnswer). r.code) ((eleven_exactly t n p).1 x))
    go (by_twelve p x) = omega (arith, ap (λ (r : ReadAnswer). r.code) ((twelve_exactly t n p).1 x))
    go (by_thirteen p x) = omega (arith, ap (λ (r : ReadAnswer). r.code) ((thirteen_exactly t n p).1 x))
    go (by_none k x) = omega (arith, ap (λ (r : ReadAnswer). r.code) ((accepted_exactly t n k).1 x))

-- ---- the cut's codes in the program's buffers

check_code : (l : List ℤ) (n : ℕ) → (check_of l n).code ≤ 5
unfolding check_of check_faces
check_code l n = by_entries (ltb max_entries (length l)) (ltb max_vertices n)
  where
    ok : CheckAnswer
    ok = accepted (length (faces l)) (length (corners l))

    by_face : (s : ℕ) (x : Result (Unit {0}) FaceFault) (rest : CheckAnswer) → rest.code ≤ 5 → (by_fault s x rest).code ≤ 5
    by_face s (Ok _) rest h = h
    by_face s (Err (Fault·.Outside i)) rest h = omega arith
    by_face s (Err Fault·.Short) rest h = omega arith
    by_face s (Err (Fault·.Repeated i)) rest h = omega arith

    by_faces : (fs : List Face) → (check_faces n fs ok).code ≤ 5
    by_faces [] = omega arith
    by_faces (f ∷ fs) = by_face f.start (face_fault n f.entries) (check_faces n fs ok) (by_faces fs)

    by_entries : (a b : Bool) → (cond a (refused 1 0) (cond b (refused 2 0) (check_faces n (faces l) ok))).code ≤ 5
    by_entries true b = omega arith
    by_entries false true = omega arith
    by_entries false false = by_faces (faces l)

-- the program's buffers are never too short
pub cut_code : (l : List ℤ) → Read l → (cut_answer l).code ≤ 5
unfolding cut_answer cut_of
cut_code l read =
    let c = corners_fit l in
    let h : length l ≤ input_entries = read.few in
    rw (le-ltb input_entries (length l) h, le-ltb input_entries (length (corners l)) (omega arith), le-ltb (4 * input_entries) (words_needed l) (omega arith))
    (go (eqb (check_of l (vertex_count l)).code 0))
  where
    go : (b : Bool) → (cond b (cut_accepted l (vertex_count l)) (cut_refused (check_of l (vertex_count l)).code (check_of l (vertex_count l)).place)).code ≤ 5
    go true = omega arith
    go false = check_code l (vertex_count l)

-- ---- what the first number says

-- the bytes w start with the number c and a space
abbrev pub Starts : ℕ → List ℕ → Type 0
Starts c w = (rest : List ℕ) × (w ≡ decimal_text c ++ space ∷ rest)

line_starts : (c x : ℕ) (xs : List ℕ) → Starts c (line (c ∷ x ∷ xs))
line_starts c x xs = (line (x ∷ xs), append_assoc (decimal_text c) (space ∷ []) (line (x ∷ xs)))

cut_starts : (l : List ℤ) → Starts (cut_answer l).code (printed_cut l)
unfolding printed_cut
cut_starts l =
    let n = cut_numbers (cut_answer l) in
    let s = line_starts (cut_answer l).code (cut_answer l).place (drop 2 n) in
    let lists = cond (eqb (cut_answer l).code 0) (cut_lists l) [] in
    (s.0 ++ lists, ap (λ (w : List ℕ). w ++ lists) s.1 ∙ append_assoc (decimal_text (cut_answer l).code) (space ∷ s.0) lists)

module _ (t : List ℕ) where
  large_code : input_bytes < length t → code_for t ≡ too_large_code
  unfolding code_for
  large_code h = rw (lt-ltb input_bytes (length t) h)

  unread_code : length t ≤ input_bytes → ((read_of t input_entries).code ≡ 0 → ⊥) → code_for t ≡ (read_of t input_entries).code
  unfolding code_for
  unread_code h z = rw (le-ltb input_bytes (length t) h, ne_eqb (read_of t input_entries).code 0 z)

  cut_code_for : length t ≤ input_bytes → (read_of t input_entries).code ≡ 0 → code_for t ≡ (cut_answer (entries_in t)).code
  unfolding code_for
  cut_code_for h z = rw (le-ltb input_bytes (length t) h, eq-eqb (read_of t input_entries).code 0 z)

  -- the code is 0 to 13 where the input is not too large
  small_code : length t ≤ input_bytes → code_for t ≤ 13
  small_code h = go (eqb (read_of t input_entries).code 0) refl
    where
      go : (b : Bool) → eqb (read_of t input_entries).code 0 ≡ b → code_for t ≤ 13
      go true e =
          let z = eqb-true (read_of t input_entries).code 0 e in
          omega (arith, cut_code_for h z, cut_code (entries_in t) (entries_read t z))
      go false e = omega (arith, unread_code h (eqb-false (read_of t input_entries).code 0 e), read_code t input_entries)

  -- code 14 is given exactly when the input is above 16,384 bytes
  pub given_14 : (code_for t ≡ too_large_code) ↔ (input_bytes < length t)
  given_14 = (λ e. go e (dec_lt input_bytes (length t)), large_code)
    where
      go : code_for t ≡ too_large_code → Dec (input_bytes < length t) → input_bytes < length t
      go e (yes h) = h
      go e (no h) = let s : length t ≤ input_bytes = omega arith in absurd (omega (arith, small_code s))

  -- the code is what is printed first
  pub code_printed : Starts (code_for t) (printed t)
  code_printed = by_size (dec_lt input_bytes (length t))
    where
      by_reading : length t ≤ input_bytes → (b : Bool) → eqb (read_of t input_entries).code 0 ≡ b → Starts (code_for t) (printed t)
      by_reading h true e =
          let z = eqb-true (read_of t input_entries).code 0 e in
          rw (cut_code_for h z, read_printed t h z) (cut_starts (entries_in t))
      by_reading h false e =
          let z = eqb-false (read_of t input_entries).code 0 e in
          rw (unread_code h z, unread_printed t h z) (line_starts (read_of t input_entries).code (read_of t input_entries).place (0 ∷ 0 ∷ 0 ∷ 0 ∷ 0 ∷ []))

      by_size : Dec (input_bytes < length t) → Starts (code_for t) (printed t)
      by_size (yes h) = rw (large_code h, large_printed t h) (line_starts too_large_code input_bytes (0 ∷ 0 ∷ 0 ∷ 0 ∷ 0 ∷ []))
      by_size (no h) = by_reading (omega arith) (eqb (read_of t input_entries).code 0) refl
