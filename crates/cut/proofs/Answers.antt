-- The answers of the class call and of the cut, outcome by outcome: each refusal leaves every buffer as it was, and an accepted
-- list leaves what is written before the rest.
use Prim.Native.Nat.{ℕ, ◌*◌, ◌≤◌, ◌<◌}
use mathlib.Core.Path.{◌≡◌, sym, ◌∙◌, ap}
use mathlib.Core.List.{List, ◌++◌}
use borrow.Author.Tests.{ne_eqb, lt-ltb, le-ltb}
use lib.IntN.{ℤ}
use lib.ListN.{length, drop, replicate, length-replicate}
use Rattle.std.specs.Prelude.{Result, Ok, Err}
use Rattle.std.specs.Result.{IsErrAnd}
use Rattle.list.specs.Faces.{corners}
use Rattle.list.specs.Check.{CheckAnswer, check_of, refused, accepted}
use Rattle.list.proofs.Given.{accepted_counts}
use Rattle.groups.specs.Groups.{group_labels}
use Rattle.renumber.specs.Renumber.{new_list_of}
use Rattle.fans.specs.Classes.{classes_of}
use Rattle.list.specs.Written.{over}
use Rattle.list.specs.Told.{code_of, place_of}
use Rattle.list.specs.declared.Fault.{Fault}
use Rattle.list.proofs.Told.{fault_coded}
use Rattle.cut.specs.Cut.{CutAnswer, classes_answer, classes_bytes, classes_work, cut_of, cut_list, cut_map, cut_work}
use Rattle.cut.specs.Told.{cut_code, cut_told, classes_code, classes_told}
use Rattle.cut.specs.Made.{CutMade}
use Rattle.cut.specs.declared.answer.Cut.{Cut}
use Rattle.cut.specs.declared.answer.CutRefusal.{CutRefusal}
use Rattle.cut.specs.declared.answer.CutRefusal.TheVariants as Cut·
use Rattle.cut.specs.declared.answer.ClassesRefusal.{ClassesRefusal}
use Rattle.cut.specs.declared.answer.ClassesRefusal.TheVariants as Classes·
use Rattle.cut.proofs.Told.{cut_coded, classes_coded}

-- the counts of a list that the check accepts
corners_are : (l : List ℤ) (n f c : ℕ) → accepted f c ≡ check_of l n → c ≡ length (corners l)
corners_are l n f c q = ap (λ (a : CheckAnswer). a.corners) (q ∙ accepted_counts l n (ap (λ (a : CheckAnswer). a.code) (sym q)))

-- xs before the rest of what was lent
over_is : {A : Type 0} (xs whole old : List A) (m : ℕ) → xs ≡ whole → length xs ≡ m → xs ++ drop m old ≡ over whole old
over_is xs whole old m e s = rw (← s, e)

-- what the class call answers and leaves
module _ (l : List ℤ) (n : ℕ) (lent work : List ℕ) where
  pub record ClassesPost (r : Result (Unit {0}) ClassesRefusal) (bytes' work' : List ℕ) : Type 0 where
    pub answer : classes_told r ≡ classes_answer l n (length lent) (length work)
    pub bytes : bytes' ≡ classes_bytes l n lent work
    pub cleared : work' ≡ classes_work l n lent work

  classes_kept : (r : ClassesRefusal) → classes_told (Err r) ≡ classes_answer l n (length lent) (length work) → ClassesPost (Err r) lent work
  unfolding classes_bytes classes_work
  classes_kept r e =
      record { answer = e; bytes = rw (← e, ne_eqb (classes_code r) 0 (classes_coded r)); cleared = rw (← e, ne_eqb (classes_code r) 0 (classes_coded r)) }

  pub classes_invalid : (r : Result (Unit {0}) ClassesRefusal) (f : Fault) → IsErrAnd r (λ x. x ≡ Classes·.Invalid f) → refused (code_of f) (place_of f) ≡ check_of l n → ClassesPost r lent work
  unfolding classes_answer
  classes_invalid (Ok made) f e q = absurd e
  classes_invalid (Err x) f e q = rw e (classes_kept (Classes·.Invalid f) (rw (← q, ne_eqb (code_of f) 0 (fault_coded f))))

  module _ (f c : ℕ) (q : accepted f c ≡ check_of l n) where
    pub classes_room : length lent < n → ClassesPost (Err (Classes·.ClassesShort n)) lent work
    unfolding classes_answer
    classes_room h = classes_kept (Classes·.ClassesShort n) (rw (← q, lt-ltb (length lent) n h))

    module _ (room : n ≤ length lent) where
      pub classes_words : length work < 4 * c → ClassesPost (Err (Classes·.WorkShort (4 * c))) lent work
      unfolding classes_answer
      classes_words k =
          classes_kept (Classes·.WorkShort (4 * c))
          (rw (← q, le-ltb (length lent) n room, ← corners_are l n f c q, lt-ltb (length work) (4 * c) k))

      answer_done : 4 * c ≤ length work → classes_told (Ok tt) ≡ classes_answer l n (length lent) (length work)
      unfolding classes_answer
      answer_done k = rw (← q, le-ltb (length lent) n room, ← corners_are l n f c q, le-ltb (length work) (4 * c) k)

      pub classes_done : 4 * c ≤ length work → (xs ws : List ℕ) → xs ≡ classes_of l n → length xs ≡ n → ws ≡ replicate (4 * c) 0 → ClassesPost (Ok tt) (xs ++ drop n lent) (ws ++ drop (4 * c) work)
      unfolding classes_bytes classes_work
      classes_done k xs ws e s d =
          record {
            answer = answer_done k;
            bytes = rw (← answer_done k) (over_is xs (classes_of l n) lent n e s);
            cleared = rw (← answer_done k, ← corners_are l n f c q) (over_is ws (replicate (4 * c) 0) work (4 * c) d (rw d (length-replicate (4 * c) 0)));
          }

-- what the cut answers and leaves
module _ (l : List ℤ) (n : ℕ) (new_list map : List ℤ) (work : List ℕ) where
  abbrev answer : CutAnswer
  answer = cut_of l n (length new_list) (length map) (length work)

  pub record CutPost (r : Result Cut CutRefusal) (new_list' map' : List ℤ) (work' : List ℕ) : Type 0 where
    pub answer : cut_told r ≡ cut_of l n (length new_list) (length map) (length work)
    pub filled : new_list' ≡ cut_list l n new_list map work
    pub mapped : map' ≡ cut_map l n new_list map work
    pub cleared : work' ≡ cut_work l n new_list map work

  cut_kept : (r : CutRefusal) → cut_told (Err r) ≡ answer → CutPost (Err r) new_list map work
  unfolding cut_list cut_map cut_work
  cut_kept r e =
      let none = ne_eqb (cut_code r) 0 (cut_coded r) in
      record { answer = e; filled = rw (← e, none); mapped = rw (← e, none); cleared = rw (← e, none) }

  pub cut_invalid : (r : Result Cut CutRefusal) (f : Fault) → IsErrAnd r (λ x. x ≡ Cut·.Invalid f) → refused (code_of f) (place_of f) ≡ check_of l n → CutPost r new_list map work
  unfolding cut_of
  cut_invalid (Ok made) f e q = absurd e
  cut_invalid (Err x) f e q = rw e (cut_kept (Cut·.Invalid f) (rw (← q, ne_eqb (code_of f) 0 (fault_coded f))))

  module _ (f c : ℕ) (q : accepted f c ≡ check_of l n) where
    pub cut_list_room : length new_list < length l → CutPost (Err (Cut·.NewListShort (length l))) new_list map work
    unfolding cut_of
    cut_list_room h = cut_kept (Cut·.NewListShort (length l)) (rw (← q, lt-ltb (length new_list) (length l) h))

    module _ (room : length l ≤ length new_list) where
      pub cut_map_room : length map < c → CutPost (Err (Cut·.MapShort c)) new_list map work
      unfolding cut_of
      cut_map_room h =
          cut_kept (Cut·.MapShort c) (rw (← q, le-ltb (length new_list) (length l) room, ← corners_are l n f c q, lt-ltb (length map) c h))

      module _ (back : c ≤ length map) where
        pub cut_words : length work < 4 * c → CutPost (Err (Cut·.WorkShort (4 * c))) new_list map work
        unfolding cut_of
        cut_words h =
            cut_kept (Cut·.WorkShort (4 * c))
            (rw (← q, le-ltb (length new_list) (length l) room, ← corners_are l n f c q, le-ltb (length map) c back, lt-ltb (length work) (4 * c) h))

        module _ (words : 4 * c ≤ length work) (counts : Cut) (xs ys : List ℤ) (ws : List ℕ) (M : CutMade l n f c counts xs map ys ws) where
          answer_made : cut_told (Ok counts) ≡ answer
          unfolding cut_of
          answer_made =
              rw (M.faces_are, M.corners_are, M.vertices_are, M.edges_are, M.points_are, ← q, le-ltb (length new_list) (length l) room, ← corners_are l n f c q, le-ltb (length map) c back, le-ltb (length work) (4 * c) words)

          pub cut_done : length xs ≡ length l → CutPost (Ok counts) (xs ++ drop (length l) new_list) ys (ws ++ drop (4 * c) work)
          unfolding cut_list cut_map cut_work
          cut_done size =
              record {
                answer = answer_made;
                filled = rw (← answer_made) (over_is xs (new_list_of l (group_labels l)) new_list (length l) M.list size);
                mapped = rw (← answer_made) M.back;
                cleared = rw (← answer_made, ← corners_are l n f c q)
                    (over_is ws (replicate (4 * c) 0) work (4 * c) M.cleared (rw M.cleared (length-replicate (4 * c) 0)));
              }
