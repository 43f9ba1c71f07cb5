-- Demand 1 for the calls above the check: each code exactly when its row of the table says, and what a refusal leaves.
use Prim.Native.Nat.{ℕ, ◌≤◌, ◌<◌}
use mathlib.Core.Path.{◌≡◌, refl, sym, ◌∙◌, subst, subst₂}
use mathlib.Core.Bool.{Bool, true, false, not, ◌&&◌, true≢false, false≢true}
use mathlib.Core.List.{List}
use mathlib.Core.Logic.{◌↔◌}
use native.Mathlib.Omega.{arith}
use native.Mathlib.Decide.{dec_lt}
use borrow.Author.Tests.{eq-eqb, ne_eqb, eqb-true, eqb-false, lt-ltb, le-ltb, ltb-true}
use lib.Dec.{eqb, ltb}
use lib.IntN.{ℤ, pos, negsuc}
use lib.ListN.{length}
use Rattle.list.specs.Faces.{corners, num}
use Rattle.list.specs.Check.{Valid, check_of}
use Rattle.list.proofs.Given.{code_row, row_code, accepted_exactly_when}
use Rattle.edges.specs.Table.{edge_of, edge_answer, is_pair}
use Rattle.edges.specs.Uses.{faces_on}
use Rattle.edges.specs.Table.{EdgeAnswer}
use Rattle.cut.specs.Cut.{words_needed, cut_of, cut_refused, cut_accepted, classes_answer, classes_refused, cut_list, cut_map, cut_work, classes_bytes, classes_work}
use Rattle.cut.specs.Cut.{CutAnswer}
use Rattle.cut.specs.Cut.{ClassesAnswer}
use Rattle.demands.specs.Refused.{ListRow, Pair, EdgeRow, ClassesRow, CutRow}

pair_said : (n : ℕ) (a b : ℤ) → is_pair n a b ≡ true → Pair n a b
pair_said n (pos i) (pos j) e = go (ltb i n) refl (ltb j n) refl (eqb i j) refl e
  where
    go : (s : Bool) → ltb i n ≡ s → (t : Bool) → ltb j n ≡ t → (u : Bool) → eqb i j ≡ u → (s && t && not u) ≡ true → Pair n (pos i) (pos j)
    go true p true q false r e =
        record { one = i; two = j; is_one = refl; is_two = refl; one_below = ltb-true i n p; two_below = ltb-true j n q; differ = eqb-false i j r }
    go true p true q true r e = absurd (false≢true e)
    go true p false q u r e = absurd (false≢true e)
    go false p t q u r e = absurd (false≢true e)
pair_said n (pos i) (negsuc j) e = go (ltb i n) e
  where
    go : (s : Bool) → (s && false && not (eqb i 0)) ≡ true → Pair n (pos i) (negsuc j)
    go true e = absurd (false≢true e)
    go false e = absurd (false≢true e)
pair_said n (negsuc i) b e = absurd (false≢true e)

pair_holds : (n : ℕ) (a b : ℤ) → Pair n a b → is_pair n a b ≡ true
pair_holds n a b p =
    rw (p.is_one, p.is_two, lt-ltb p.one n p.one_below, lt-ltb p.two n p.two_below, ne_eqb p.one p.two p.differ)

pair_denied : (n : ℕ) (a b : ℤ) → (Pair n a b → ⊥) → is_pair n a b ≡ false
pair_denied n a b d = go (is_pair n a b) refl
  where
    go : (t : Bool) → is_pair n a b ≡ t → t ≡ false
    go true e = absurd (d (pair_said n a b e))
    go false e = refl

-- a call that goes on to its own tests where the check accepts
module _ (l : List ℤ) (n : ℕ) where
  -- the check's refusal, or the list is valid
  data Checked : Type 0 where
    refused : ((check_of l n).code ≡ 0 → ⊥) → ListRow l n (check_of l n).code (check_of l n).place → Checked
    passed : (check_of l n).code ≡ 0 → Valid l n → Checked

  checked : Checked
  checked = go (eqb (check_of l n).code 0) refl
    where
      go : (b : Bool) → eqb (check_of l n).code 0 ≡ b → Checked
      go true e = let z = eqb-true (check_of l n).code 0 e in passed z ((accepted_exactly_when l n).0 z)
      go false e = let d = eqb-false (check_of l n).code 0 e in refused d (record { refused = d; row = code_row l n })

  -- a row from 1 to 5 is the check's answer
  row_refused : (c p : ℕ) → ListRow l n c p → ((check_of l n).code ≡ c) × ((check_of l n).place ≡ p) × ((check_of l n).code ≡ 0 → ⊥)
  row_refused c p r = let a = row_code l n c p r.row in (a.0, a.1, λ z. r.refused (sym a.0 ∙ z))

  valid_code : Valid l n → (check_of l n).code ≡ 0
  valid_code v = (accepted_exactly_when l n).1 v

  module _ (a b w : ℕ) where
    cut_refused_lem : ((check_of l n).code ≡ 0 → ⊥) → cut_of l n a b w ≡ cut_refused (check_of l n).code (check_of l n).place
    unfolding cut_of
    cut_refused_lem d = rw (ne_eqb (check_of l n).code 0 d)

    module _ (z : (check_of l n).code ≡ 0) where
      cut_6 : a < length l → cut_of l n a b w ≡ cut_refused 6 (length l)
      unfolding cut_of
      cut_6 h = rw (eq-eqb (check_of l n).code 0 z, lt-ltb a (length l) h)

      module _ (room : length l ≤ a) where
        cut_7 : b < length (corners l) → cut_of l n a b w ≡ cut_refused 7 (length (corners l))
        unfolding cut_of
        cut_7 h = rw (eq-eqb (check_of l n).code 0 z, le-ltb a (length l) room, lt-ltb b (length (corners l)) h)

        module _ (map_room : length (corners l) ≤ b) where
          cut_9 : w < words_needed l → cut_of l n a b w ≡ cut_refused 9 (words_needed l)
          unfolding cut_of
          cut_9 h =
              rw (eq-eqb (check_of l n).code 0 z, le-ltb a (length l) room, le-ltb b (length (corners l)) map_room, lt-ltb w (words_needed l) h)

          cut_0 : words_needed l ≤ w → cut_of l n a b w ≡ cut_accepted l n
          unfolding cut_of
          cut_0 h =
              rw (eq-eqb (check_of l n).code 0 z, le-ltb a (length l) room, le-ltb b (length (corners l)) map_room, le-ltb w (words_needed l) h)

    CutGives : CutAnswer → Type 0
    CutGives r = CutRow l n a b w r.code r.place

    cut_gives : CutRow l n a b w (cut_of l n a b w).code (cut_of l n a b w).place
    unfolding CutGives
    cut_gives = go checked (dec_lt a (length l)) (dec_lt b (length (corners l))) (dec_lt w (words_needed l))
      where
        go : Checked → Dec (a < length l) → Dec (b < length (corners l)) → Dec (w < words_needed l) → CutGives (cut_of l n a b w)
        go (refused d r) p q s = subst CutGives (sym (cut_refused_lem d)) (CutRow.codes_1_to_5 r)
        go (passed z v) (yes p) q s = subst CutGives (sym (cut_6 z p)) (CutRow.code_6 v p)
        go (passed z v) (no p) (yes q) s = subst CutGives (sym (cut_7 z (omega arith) q)) (CutRow.code_7 v (omega arith) q)
        go (passed z v) (no p) (no q) (yes s) = subst CutGives (sym (cut_9 z (omega arith) (omega arith) s)) (CutRow.code_9 v (omega arith) (omega arith) s)
        go (passed z v) (no p) (no q) (no s) = subst CutGives (sym (cut_0 z (omega arith) (omega arith) (omega arith))) (CutRow.accepted v (omega arith) (omega arith) (omega arith))

    CutIs : CutAnswer → ℕ → ℕ → Type 0
    CutIs r c p = (r.code ≡ c) × (r.place ≡ p)

    cut_given : (c p : ℕ) → CutRow l n a b w c p → ((cut_of l n a b w).code ≡ c) × ((cut_of l n a b w).place ≡ p)
    unfolding CutIs
    cut_given c p (CutRow.codes_1_to_5 r) = let k = row_refused c p r in subst (λ (t : CutAnswer). CutIs t c p) (sym (cut_refused_lem k.2)) (k.0, k.1)
    cut_given c p (CutRow.code_6 v h) = subst (λ (t : CutAnswer). CutIs t 6 (length l)) (sym (cut_6 (valid_code v) h)) (refl, refl)
    cut_given c p (CutRow.code_7 v r h) = subst (λ (t : CutAnswer). CutIs t 7 (length (corners l))) (sym (cut_7 (valid_code v) r h)) (refl, refl)
    cut_given c p (CutRow.code_9 v r m h) = subst (λ (t : CutAnswer). CutIs t 9 (words_needed l)) (sym (cut_9 (valid_code v) r m h)) (refl, refl)
    cut_given c p (CutRow.accepted v r m h) = subst (λ (t : CutAnswer). CutIs t 0 0) (sym (cut_0 (valid_code v) r m h)) (refl, refl)

    -- each code of the cut, with its place, exactly when its row says
    pub cut_exactly_when : (c p : ℕ) → (((cut_of l n a b w).code ≡ c) × ((cut_of l n a b w).place ≡ p)) ↔ CutRow l n a b w c p
    cut_exactly_when c p = ((λ e. subst₂ (CutRow l n a b w) e.0 e.1 cut_gives), cut_given c p)

    -- refused: all other numbers are 0
    pub cut_refused_zeros : ((cut_of l n a b w).code ≡ 0 → ⊥) → ((cut_of l n a b w).faces ≡ 0) × ((cut_of l n a b w).corners ≡ 0) × ((cut_of l n a b w).vertices ≡ 0) × ((cut_of l n a b w).singular_edges ≡ 0) × ((cut_of l n a b w).singular_vertices ≡ 0)
    cut_refused_zeros = go checked (dec_lt a (length l)) (dec_lt b (length (corners l))) (dec_lt w (words_needed l))
      where
        Zeros : CutAnswer → Type 0
        Zeros r = (r.code ≡ 0 → ⊥) → (r.faces ≡ 0) × (r.corners ≡ 0) × (r.vertices ≡ 0) × (r.singular_edges ≡ 0) × (r.singular_vertices ≡ 0)

        go : Checked → Dec (a < length l) → Dec (b < length (corners l)) → Dec (w < words_needed l) → Zeros (cut_of l n a b w)
        go (refused d r) p q s = subst Zeros (sym (cut_refused_lem d)) (λ e. (refl, refl, refl, refl, refl))
        go (passed z v) (yes p) q s = subst Zeros (sym (cut_6 z p)) (λ e. (refl, refl, refl, refl, refl))
        go (passed z v) (no p) (yes q) s = subst Zeros (sym (cut_7 z (omega arith) q)) (λ e. (refl, refl, refl, refl, refl))
        go (passed z v) (no p) (no q) (yes s) = subst Zeros (sym (cut_9 z (omega arith) (omega arith) s)) (λ e. (refl, refl, refl, refl, refl))
        go (passed z v) (no p) (no q) (no s) = subst Zeros (sym (cut_0 z (omega arith) (omega arith) (omega arith))) (λ e. absurd (e refl))

  -- refused: every lent buffer is as it was
  pub cut_refused_keeps : (new_list map : List ℤ) (work : List ℕ) → ((cut_of l n (length new_list) (length map) (length work)).code ≡ 0 → ⊥) → (cut_list l n new_list map work ≡ new_list) × (cut_map l n new_list map work ≡ map) × (cut_work l n new_list map work ≡ work)
  unfolding cut_list cut_map cut_work
  cut_refused_keeps new_list map work d =
      let e = ne_eqb (cut_of l n (length new_list) (length map) (length work)).code 0 d in
      (rw e, rw e, rw e)

  module _ (b w : ℕ) where
    classes_refused_lem : ((check_of l n).code ≡ 0 → ⊥) → classes_answer l n b w ≡ classes_refused (check_of l n).code (check_of l n).place
    unfolding classes_answer
    classes_refused_lem d = rw (ne_eqb (check_of l n).code 0 d)

    module _ (z : (check_of l n).code ≡ 0) where
      classes_8 : b < n → classes_answer l n b w ≡ classes_refused 8 n
      unfolding classes_answer
      classes_8 h = rw (eq-eqb (check_of l n).code 0 z, lt-ltb b n h)

      module _ (room : n ≤ b) where
        classes_9 : w < words_needed l → classes_answer l n b w ≡ classes_refused 9 (words_needed l)
        unfolding classes_answer
        classes_9 h = rw (eq-eqb (check_of l n).code 0 z, le-ltb b n room, lt-ltb w (words_needed l) h)

        classes_0 : words_needed l ≤ w → classes_answer l n b w ≡ classes_refused 0 0
        unfolding classes_answer
        classes_0 h = rw (eq-eqb (check_of l n).code 0 z, le-ltb b n room, le-ltb w (words_needed l) h)

    ClassesGives : ClassesAnswer → Type 0
    ClassesGives r = ClassesRow l n b w r.code r.place

    classes_gives : ClassesRow l n b w (classes_answer l n b w).code (classes_answer l n b w).place
    unfolding ClassesGives
    classes_gives = go checked (dec_lt b n) (dec_lt w (words_needed l))
      where
        go : Checked → Dec (b < n) → Dec (w < words_needed l) → ClassesGives (classes_answer l n b w)
        go (refused d r) q s = subst ClassesGives (sym (classes_refused_lem d)) (ClassesRow.codes_1_to_5 r)
        go (passed z v) (yes q) s = subst ClassesGives (sym (classes_8 z q)) (ClassesRow.code_8 v q)
        go (passed z v) (no q) (yes s) = subst ClassesGives (sym (classes_9 z (omega arith) s)) (ClassesRow.code_9 v (omega arith) s)
        go (passed z v) (no q) (no s) = subst ClassesGives (sym (classes_0 z (omega arith) (omega arith))) (ClassesRow.accepted v (omega arith) (omega arith))

    ClassesIs : ClassesAnswer → ℕ → ℕ → Type 0
    ClassesIs r c p = (r.code ≡ c) × (r.place ≡ p)

    classes_given : (c p : ℕ) → ClassesRow l n b w c p → ((classes_answer l n b w).code ≡ c) × ((classes_answer l n b w).place ≡ p)
    unfolding ClassesIs
    classes_given c p (ClassesRow.codes_1_to_5 r) = let k = row_refused c p r in subst (λ (t : ClassesAnswer). ClassesIs t c p) (sym (classes_refused_lem k.2)) (k.0, k.1)
    classes_given c p (ClassesRow.code_8 v h) = subst (λ (t : ClassesAnswer). ClassesIs t 8 n) (sym (classes_8 (valid_code v) h)) (refl, refl)
    classes_given c p (ClassesRow.code_9 v r h) = subst (λ (t : ClassesAnswer). ClassesIs t 9 (words_needed l)) (sym (classes_9 (valid_code v) r h)) (refl, refl)
    classes_given c p (ClassesRow.accepted v r h) = subst (λ (t : ClassesAnswer). ClassesIs t 0 0) (sym (classes_0 (valid_code v) r h)) (refl, refl)

    -- each code of the class call, with its place, exactly when its row says
    pub classes_exactly_when : (c p : ℕ) → (((classes_answer l n b w).code ≡ c) × ((classes_answer l n b w).place ≡ p)) ↔ ClassesRow l n b w c p
    classes_exactly_when c p = ((λ e. subst₂ (ClassesRow l n b w) e.0 e.1 classes_gives), classes_given c p)

  -- refused: both lent buffers are as they were
  pub classes_refused_keeps : (classes work : List ℕ) → ((classes_answer l n (length classes) (length work)).code ≡ 0 → ⊥) → (classes_bytes l n classes work ≡ classes) × (classes_work l n classes work ≡ work)
  unfolding classes_bytes classes_work
  classes_refused_keeps classes work d = let e = ne_eqb (classes_answer l n (length classes) (length work)).code 0 d in (rw e, rw e)

  module _ (a b : ℤ) where
    edge_refused : ((check_of l n).code ≡ 0 → ⊥) → edge_of l n a b ≡ edge_answer (check_of l n).code (check_of l n).place 0
    unfolding edge_of
    edge_refused d = rw (ne_eqb (check_of l n).code 0 d)

    edge_10 : (check_of l n).code ≡ 0 → is_pair n a b ≡ false → edge_of l n a b ≡ edge_answer 10 0 0
    unfolding edge_of
    edge_10 z e = rw (eq-eqb (check_of l n).code 0 z, e)

    edge_0 : (check_of l n).code ≡ 0 → is_pair n a b ≡ true → edge_of l n a b ≡ edge_answer 0 0 (faces_on l (num a) (num b))
    unfolding edge_of
    edge_0 z e = rw (eq-eqb (check_of l n).code 0 z, e)

    EdgeGives : EdgeAnswer → Type 0
    EdgeGives r = EdgeRow l n a b r.code r.place

    edge_gives : EdgeRow l n a b (edge_of l n a b).code (edge_of l n a b).place
    unfolding EdgeGives
    edge_gives = go checked (is_pair n a b) refl
      where
        go : Checked → (t : Bool) → is_pair n a b ≡ t → EdgeGives (edge_of l n a b)
        go (refused d r) t e = subst EdgeGives (sym (edge_refused d)) (EdgeRow.codes_1_to_5 r)
        go (passed z v) true e = subst EdgeGives (sym (edge_0 z e)) (EdgeRow.accepted v (pair_said n a b e))
        go (passed z v) false e = subst EdgeGives (sym (edge_10 z e)) (EdgeRow.code_10 v (λ p. true≢false (sym (pair_holds n a b p) ∙ e)))

    EdgeIs : EdgeAnswer → ℕ → ℕ → Type 0
    EdgeIs r c p = (r.code ≡ c) × (r.place ≡ p)

    edge_given : (c p : ℕ) → EdgeRow l n a b c p → ((edge_of l n a b).code ≡ c) × ((edge_of l n a b).place ≡ p)
    unfolding EdgeIs
    edge_given c p (EdgeRow.codes_1_to_5 r) = let k = row_refused c p r in subst (λ (t : EdgeAnswer). EdgeIs t c p) (sym (edge_refused k.2)) (k.0, k.1)
    edge_given c p (EdgeRow.code_10 v d) = subst (λ (t : EdgeAnswer). EdgeIs t 10 0) (sym (edge_10 (valid_code v) (pair_denied n a b d))) (refl, refl)
    edge_given c p (EdgeRow.accepted v q) = subst (λ (t : EdgeAnswer). EdgeIs t 0 0) (sym (edge_0 (valid_code v) (pair_holds n a b q))) (refl, refl)

    -- each code of the edge question, with its place, exactly when its row says
    pub edge_exactly_when : (c p : ℕ) → (((edge_of l n a b).code ≡ c) × ((edge_of l n a b).place ≡ p)) ↔ EdgeRow l n a b c p
    edge_exactly_when c p = ((λ e. subst₂ (EdgeRow l n a b) e.0 e.1 edge_gives), edge_given c p)

    -- refused: no faces
    pub edge_refused_zero : ((edge_of l n a b).code ≡ 0 → ⊥) → (edge_of l n a b).faces ≡ 0
    edge_refused_zero = go checked (is_pair n a b) refl
      where
        Zero : EdgeAnswer → Type 0
        Zero r = (r.code ≡ 0 → ⊥) → r.faces ≡ 0

        go : Checked → (t : Bool) → is_pair n a b ≡ t → Zero (edge_of l n a b)
        go (refused d r) t e = subst Zero (sym (edge_refused d)) (λ k. refl)
        go (passed z v) true e = subst Zero (sym (edge_0 z e)) (λ k. absurd (k refl))
        go (passed z v) false e = subst Zero (sym (edge_10 z e)) (λ k. refl)
