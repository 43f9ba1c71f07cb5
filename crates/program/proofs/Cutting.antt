-- What the program makes of the cut's answer and of the buffers that the cut has filled.
use Prim.Native.Nat.{ℕ, ◌+◌, ◌*◌, ◌≤◌, ◌<◌}
use mathlib.Core.Path.{◌≡◌, refl, ap, sym, ◌∙◌}
use mathlib.Core.List.{List, [], ◌∷◌, ◌++◌, append-nil, append_assoc}
use mathlib.Core.Bool.{Bool, true, false, cond}
use native.Mathlib.Omega.{arith}
use native.Mathlib.Nat.{zero-add}
use borrow.Author.Tests.{eqb-false, eq-eqb, ne_eqb}
use lib.Dec.{eqb, ltb}
use lib.IntN.{ℤ, pos}
use lib.ListN.{length, take, drop, replicate, length-append, length-drop}
use lib.Seq.{take_at}
use Rattle.list.specs.Faces.{corners}
use Rattle.list.specs.Check.{check_of}
use Rattle.text.specs.Writing.{written, AllFit}
use Rattle.number.specs.Steps.{put}
use Rattle.number.proofs.Putting.{put_behind}
use Rattle.groups.specs.Groups.{group_labels}
use Rattle.groups.specs.Distinct.{distinct}
use Rattle.renumber.specs.Renumber.{new_list_of, map_of}
use Rattle.list.specs.Written.{over}
use Rattle.cut.specs.Cut.{CutAnswer, cut_numbers, words_needed, cut_refused, cut_accepted, cut_of, is_cut, cut_list, cut_map}
use Rattle.std.specs.Prelude.{Result, Ok, Err}
use Rattle.cut.specs.Told.{cut_told}
use Rattle.cut.specs.declared.answer.Cut.{Cut}
use Rattle.cut.specs.declared.answer.CutRefusal.{CutRefusal}
use Rattle.cut.proofs.Told.{cut_coded}
use Rattle.program.specs.Limits.{input_entries, output_bytes}
use Rattle.program.specs.Printed.{vertex_count, line_feed, line, list_line, cut_answer, cut_lists, printed_cut, Read}
use Rattle.renumber.proofs.Sizes.{new_list_length, map-length}
use Rattle.program.proofs.Fitting.{map_fits, new_list_fits, text_short}

-- a test that could have refused has not
passed : (x : Bool) (code place : ℕ) (rest : CutAnswer) → 0 < code → (cond x (cut_refused code place) rest).code ≡ 0 → cond x (cut_refused code place) rest ≡ rest
passed true code place rest h z = absurd (omega arith)
passed false code place rest h z = refl

-- an answer with code 0 is an acceptance
accepted_cut : (l : List ℤ) (n a b w : ℕ) → (cut_of l n a b w).code ≡ 0 → cut_of l n a b w ≡ cut_accepted l n
unfolding cut_of
accepted_cut l n a b w = go (eqb (check_of l n).code 0) refl
  where
    third : CutAnswer
    third = cond (ltb w (words_needed l)) (cut_refused 9 (words_needed l)) (cut_accepted l n)

    second : CutAnswer
    second = cond (ltb b (length (corners l))) (cut_refused 7 (length (corners l))) third

    first : CutAnswer
    first = cond (ltb a (length l)) (cut_refused 6 (length l)) second

    go : (x : Bool) → eqb (check_of l n).code 0 ≡ x → (cond x first (cut_refused (check_of l n).code (check_of l n).place)).code ≡ 0
        → cond x first (cut_refused (check_of l n).code (check_of l n).place) ≡ cut_accepted l n
    go true e z =
        let p = passed (ltb a (length l)) 6 (length l) second (omega arith) z in
        let q = passed (ltb b (length (corners l))) 7 (length (corners l)) third (omega arith) (ap (λ (r : CutAnswer). r.code) (sym p) ∙ z) in
        let u = passed (ltb w (words_needed l)) 9 (words_needed l) (cut_accepted l n) (omega arith) (ap (λ (r : CutAnswer). r.code) (sym q ∙ sym p) ∙ z) in
        p ∙ q ∙ u
    go false e z = absurd (eqb-false (check_of l n).code 0 e z)

-- the parts of the buffers nl and mp that hold the new list and the map, of v vertices, of the list l; their lines are short
pub record Parts (l : List ℤ) (v : ℕ) (nl mp : List ℤ) : Type 0 where
  pub vertices : v ≤ input_entries
  pub new_list : take (length l) nl ≡ new_list_of l (group_labels l)
  pub new_map : take v mp ≡ map_of l (group_labels l)
  pub list_few : length (new_list_of l (group_labels l)) ≤ input_entries
  pub map_few : length (map_of l (group_labels l)) ≤ input_entries
  pub list_short : length (list_line (new_list_of l (group_labels l))) ≤ 13 * input_entries + 3
  pub map_short : length (list_line (map_of l (group_labels l))) ≤ 13 * input_entries + 3

-- ---- the buffers as they are lent, what the cut answers, and what it leaves in them

module _ (l : List ℤ) (read : Read l) (nl₀ mp₀ : List ℤ) (w₀ : List ℕ)
    (list_room : length nl₀ ≡ input_entries) (map_room : length mp₀ ≡ input_entries) (work_room : length w₀ ≡ 4 * input_entries)
    (n : ℕ) (counted : n ≡ vertex_count l) (a : CutAnswer) (answered : a ≡ cut_of l n (length nl₀) (length mp₀) (length w₀))
  where
    pub answer_is : a ≡ cut_answer l
    unfolding cut_answer
    answer_is = answered ∙ rw (counted, list_room, map_room, work_room)

    module _ (nl mp : List ℤ) (listed : nl ≡ cut_list l n nl₀ mp₀ w₀) (mapped : mp ≡ cut_map l n nl₀ mp₀ w₀) (kept : length mp ≡ length mp₀) (ok : a.code ≡ 0)
      where
        made : is_cut l n nl₀ mp₀ w₀ ≡ true
        made = eq-eqb (cut_of l n (length nl₀) (length mp₀) (length w₀)).code 0 (ap (λ (r : CutAnswer). r.code) (sym answered) ∙ ok)

        list_is : nl ≡ over (new_list_of l (group_labels l)) nl₀
        unfolding cut_list
        list_is = listed ∙ rw made

        map_is : mp ≡ over (map_of l (group_labels l)) mp₀
        unfolding cut_map
        map_is = mapped ∙ rw made

        -- the map buffer has kept its length, so there is room in it for the map
        map_within : length (map_of l (group_labels l)) ≤ input_entries
        map_within =
            let m : List ℤ = map_of l (group_labels l) in
            omega (arith, ap length map_is, length-append m (drop (length m) mp₀), length-drop (length m) mp₀)

        list_within : length (new_list_of l (group_labels l)) ≤ input_entries
        list_within = omega (arith, read.few, new_list_length l (group_labels l))

        vertices_are : a.vertices ≡ length (map_of l (group_labels l))
        vertices_are =
            ap (λ (r : CutAnswer). r.vertices) (answered ∙ accepted_cut l n (length nl₀) (length mp₀) (length w₀) (ap (λ (r : CutAnswer). r.code) (sym answered) ∙ ok))
            ∙ sym (map-length l (group_labels l))

        line_short : (m : List ℤ) → length m ≤ input_entries → AllFit m → length (list_line m) ≤ 13 * input_entries + 3
        line_short m h f = omega (arith, text_short m f, length-append (written m) (line_feed ∷ []))

        pub parts : Parts l a.vertices nl mp
        parts =
            let g = group_labels l in
            let few : length (distinct g) ≤ 2147483647 = omega (arith, map_within, map-length l g) in
            record {
              vertices = omega (arith, vertices_are, map_within);
              new_list =
                  ap (take (length l)) list_is
                  ∙ take_at (new_list_of l g) (drop (length (new_list_of l g)) nl₀) (length l) (new_list_length l g);
              new_map =
                  ap (take a.vertices) map_is ∙ take_at (map_of l g) (drop (length (map_of l g)) mp₀) a.vertices (sym vertices_are);
              list_few = list_within;
              map_few = map_within;
              list_short = line_short (new_list_of l g) list_within (new_list_fits l g read.fit few);
              map_short = line_short (map_of l g) map_within (map_fits l g read.fit);
            }

-- ---- the lines put one behind another

-- b stands behind a, which starts the output
pub put_more : (at : ℕ) (a b t t' t'' : List ℕ) → at ≡ length a → t' ≡ put 0 a t → t'' ≡ put at b t' → length a + length b ≤ length t → t'' ≡ put 0 (a ++ b) t
put_more at a b t t' t'' e h' h'' room =
    h'' ∙ rw (e, h') (ap (λ (k : ℕ). put k b (put 0 a t)) (sym (zero-add (length a))) ∙ put_behind 0 a b t (omega arith))

module _ (l : List ℤ) where
  pub refused_printed : ((cut_answer l).code ≡ 0 → ⊥) → printed_cut l ≡ line (cut_numbers (cut_answer l))
  unfolding printed_cut
  refused_printed h = rw (ne_eqb (cut_answer l).code 0 h) (append-nil (line (cut_numbers (cut_answer l))))

  accepted_printed : (cut_answer l).code ≡ 0 → printed_cut l ≡ line (cut_numbers (cut_answer l)) ++ cut_lists l
  unfolding printed_cut
  accepted_printed h = rw (eq-eqb (cut_answer l).code 0 h)

  module _ (h : (cut_answer l).code ≡ 0) (at₁ at₂ at₃ : ℕ) (t t₁ t₂ t₃ : List ℕ)
      (e₁ : at₁ ≡ length (line (cut_numbers (cut_answer l)))) (h₁ : t₁ ≡ put 0 (line (cut_numbers (cut_answer l))) t)
      (e₂ : at₂ ≡ at₁ + length (list_line (new_list_of l (group_labels l)))) (h₂ : t₂ ≡ put at₁ (list_line (new_list_of l (group_labels l))) t₁)
      (e₃ : at₃ ≡ at₂ + length (list_line (map_of l (group_labels l)))) (h₃ : t₃ ≡ put at₂ (list_line (map_of l (group_labels l))) t₂)
      (room : at₃ ≤ length t)
    where
      abbrev one : List ℕ
      one = line (cut_numbers (cut_answer l))

      abbrev two : List ℕ
      two = list_line (new_list_of l (group_labels l))

      abbrev three : List ℕ
      three = list_line (map_of l (group_labels l))

      whole : printed_cut l ≡ (one ++ two) ++ three
      whole = accepted_printed h ∙ sym (append_assoc one two three)

      pub three_lines : (at₃ ≡ length (printed_cut l)) × (t₃ ≡ put 0 (printed_cut l) t)
      three_lines =
          rw whole (
            omega (arith, length-append (one ++ two) three, length-append one two),
            put_more at₂ (one ++ two) three t t₂ t₃ (omega (arith, length-append one two)) (put_more at₁ one two t t₁ t₂ e₁ h₁ h₂ (omega arith)) h₃
                (omega (arith, length-append one two)),
          )

-- ---- what `put_cut` has at hand

-- the buffers as it lends them
abbrev entries : List ℤ
entries = replicate input_entries (pos 0)

abbrev words : List ℕ
words = replicate (4 * input_entries) 0

module _ {l : List ℤ} (read : Read l) {n : ℕ} (counted : n ≡ vertex_count l) where
  pub answer_told : (r : Result Cut CutRefusal) → cut_told r ≡ cut_of l n (length entries) (length entries) (length words) → cut_told r ≡ cut_answer l
  answer_told r e = answer_is l read entries entries words refl refl refl n counted (cut_told r) e

  pub parts_made : (made : Cut) → cut_told (Ok made) ≡ cut_of l n (length entries) (length entries) (length words)
      → {nl mp : List ℤ} → nl ≡ cut_list l n entries entries words → mp ≡ cut_map l n entries entries words → length mp ≡ length entries → Parts l made.vertices nl mp
  parts_made made e {nl = nl} {mp = mp} listed mapped kept = parts l read entries entries words refl refl refl n counted (cut_told (Ok made)) e nl mp listed mapped kept refl

-- a refusal: its line is all that is printed
pub refusal_put : (l : List ℤ) (r : CutRefusal) → cut_told (Err r) ≡ cut_answer l → (at : ℕ) (t t' : List ℕ)
    → at ≡ length (line (cut_numbers (cut_told (Err r)))) → t' ≡ put 0 (line (cut_numbers (cut_told (Err r)))) t
    → (at ≡ length (printed_cut l)) × (t' ≡ put 0 (printed_cut l) t)
refusal_put l r told at t t' e h =
    rw (refused_printed l (λ z. cut_coded r (ap (λ (a : CutAnswer). a.code) told ∙ z)))
    (e ∙ ap (λ (a : CutAnswer). length (line (cut_numbers a))) told, h ∙ ap (λ (a : CutAnswer). put 0 (line (cut_numbers a)) t) told)

-- the three lines of an accepted list, put one behind another
module _ {l : List ℤ} {v : ℕ} {nl mp : List ℤ} (w : Parts l v nl mp) (at₁ : ℕ) (small : at₁ ≤ 147) where
  pub list_room : (length (take (length l) nl) ≤ input_entries) × (at₁ + length (list_line (take (length l) nl)) ≤ output_bytes)
  list_room = rw w.new_list (w.list_few, omega (arith, w.list_short))

  module _ {at₂ : ℕ} (e₂ : at₂ ≡ at₁ + length (list_line (take (length l) nl))) where
    abbrev at_list : at₂ ≡ at₁ + length (list_line (new_list_of l (group_labels l)))
    at_list = rw w.new_list at e₂

    pub map_room : (length (take v mp) ≤ input_entries) × (at₂ + length (list_line (take v mp)) ≤ output_bytes)
    map_room = rw w.new_map (w.map_few, omega (arith, at_list, w.list_short, w.map_short))

    pub all_put : (made : Cut) → cut_told (Ok made) ≡ cut_answer l → (t : List ℕ) {at₃ : ℕ} {t₁ t₂ t₃ : List ℕ}
        → at₁ ≡ length (line (cut_numbers (cut_told (Ok made)))) → t₁ ≡ put 0 (line (cut_numbers (cut_told (Ok made)))) t
        → t₂ ≡ put at₁ (list_line (take (length l) nl)) t₁
        → at₃ ≡ at₂ + length (list_line (take v mp)) → t₃ ≡ put at₂ (list_line (take v mp)) t₂ → length t ≡ output_bytes
        → (at₃ ≡ length (printed_cut l)) × (t₃ ≡ put 0 (printed_cut l) t)
    all_put made told t {at₃ = at₃} {t₁ = t₁} {t₂ = t₂} {t₃ = t₃} e₁ h₁ h₂ e₃ h₃ long =
        let e₃' = rw w.new_map at e₃ in
        three_lines l (sym (ap (λ (a : CutAnswer). a.code) told)) at₁ at₂ at₃ t t₁ t₂ t₃
        (e₁ ∙ ap (λ (a : CutAnswer). length (line (cut_numbers a))) told) (h₁ ∙ ap (λ (a : CutAnswer). put 0 (line (cut_numbers a)) t) told)
        at_list (rw w.new_list at h₂) e₃' (rw w.new_map at h₃) (omega (arith, at_list, w.list_short, w.map_short))
