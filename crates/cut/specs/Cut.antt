-- The answers of the cut and of the class call, and what they leave in the lent buffers (document 01, "Numbers given back, and
-- their order"). The buffers' lengths decide codes 6 to 9; their content at entry is kept wherever nothing is written.
--
--   CutAnswer              the cut's answer: code, place, faces, corners, vertices, singular edges, singular vertices
--   ClassesAnswer          the class call's answer: code, place
--   cut_numbers r          the seven numbers of the cut's answer r, in document 01's order
--   cut_of l n a b w        the cut's answer for buffers of a, b and w: new list, map, work
--   classes_answer l n b w  the class call's answer for buffers of b and w: classes, work
--   cut_list, cut_map, cut_work     the new list's, the map's and the work's content after the cut
--   classes_bytes, classes_work     the class buffer's and the work's content after the class call
use Rattle.std.specs.Prelude.{ℕ, ◌*◌, List, [], ◌∷◌, Bool, cond, ltb, eqb, ℤ, length, replicate}
use Rattle.list.specs.Faces.{corners}
use Rattle.list.specs.Check.{check_of}
use Rattle.edges.specs.Uses.{singular_edge_count}
use Rattle.groups.specs.Groups.{group_labels}
use Rattle.renumber.specs.Renumber.{new_list_of, new_vertices, map_of}
use Rattle.list.specs.Written.{over}
use Rattle.fans.specs.Classes.{classes_of, singular_vertex_count}

pub record CutAnswer : Type 0 where
  pub code : ℕ
  pub place : ℕ
  pub faces : ℕ
  pub corners : ℕ
  pub vertices : ℕ
  pub singular_edges : ℕ
  pub singular_vertices : ℕ

pub record ClassesAnswer : Type 0 where
  pub code : ℕ
  pub place : ℕ

-- words of work that are needed
abbrev pub words_needed : List ℤ → ℕ
words_needed l = 4 * length (corners l)

abbrev pub cut_numbers : CutAnswer → List ℕ
cut_numbers r = r.code ∷ r.place ∷ r.faces ∷ r.corners ∷ r.vertices ∷ r.singular_edges ∷ r.singular_vertices ∷ []

abbrev pub cut_refused : ℕ → ℕ → CutAnswer
cut_refused code place =
    record { code = code; place = place; faces = 0; corners = 0; vertices = 0; singular_edges = 0; singular_vertices = 0 }

abbrev pub cut_accepted : List ℤ → ℕ → CutAnswer
cut_accepted l n =
    record {
      code = 0;
      place = 0;
      faces = (check_of l n).faces;
      corners = (check_of l n).corners;
      vertices = new_vertices (group_labels l);
      singular_edges = singular_edge_count l;
      singular_vertices = singular_vertex_count l n;
    }

unfoldable pub cut_of : List ℤ → ℕ → ℕ → ℕ → ℕ → CutAnswer
cut_of l n list_room map_room work_room =
    cond (eqb (check_of l n).code 0)
    (cond (ltb list_room (length l))
    (cut_refused 6 (length l))
    (cond (ltb map_room (length (corners l)))
    (cut_refused 7 (length (corners l)))
    (cond (ltb work_room (words_needed l)) (cut_refused 9 (words_needed l)) (cut_accepted l n))))
    (cut_refused (check_of l n).code (check_of l n).place)

abbrev pub classes_refused : ℕ → ℕ → ClassesAnswer
classes_refused code place = record { code = code; place = place }

unfoldable pub classes_answer : List ℤ → ℕ → ℕ → ℕ → ClassesAnswer
classes_answer l n class_room work_room =
    cond (eqb (check_of l n).code 0)
    (cond (ltb class_room n)
    (classes_refused 8 n)
    (cond (ltb work_room (words_needed l)) (classes_refused 9 (words_needed l)) (classes_refused 0 0)))
    (classes_refused (check_of l n).code (check_of l n).place)

module _ (l : List ℤ) (n : ℕ) (new_list map : List ℤ) (work : List ℕ) where
  -- the cut is made
  abbrev pub is_cut : Bool
  is_cut = eqb (cut_of l n (length new_list) (length map) (length work)).code 0

  unfoldable pub cut_list : List ℤ
  cut_list = cond is_cut (over (new_list_of l (group_labels l)) new_list) new_list

  unfoldable pub cut_map : List ℤ
  cut_map = cond is_cut (over (map_of l (group_labels l)) map) map

  unfoldable pub cut_work : List ℕ
  cut_work = cond is_cut (over (replicate (words_needed l) 0) work) work

module _ (l : List ℤ) (n : ℕ) (classes work : List ℕ) where
  -- the vertices are classed
  abbrev pub is_classed : Bool
  is_classed = eqb (classes_answer l n (length classes) (length work)).code 0

  unfoldable pub classes_bytes : List ℕ
  classes_bytes = cond is_classed (over (classes_of l n) classes) classes

  unfoldable pub classes_work : List ℕ
  classes_work = cond is_classed (over (replicate (words_needed l) 0) work) work
