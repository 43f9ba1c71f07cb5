-- The starred bench lists of document 01: list, vertex count, the seven numbers, the new list, the map, the classes; where a
-- list is refused, nothing is written.
use Prim.Native.Nat.{ℕ, ◌*◌}
use mathlib.Core.Path.{◌≡◌, refl}
use mathlib.Core.List.{List, [], ◌∷◌, map}
use lib.IntN.{ℤ, pos, negsuc}
use lib.ListN.{length, take, replicate}
use Rattle.list.specs.Check.{check_of, face_fault, check_faces}
use Rattle.groups.specs.Groups.{group_labels, fan_labels, links, labels_of}
use Rattle.renumber.specs.Renumber.{new_list_of, new_numbers, map_of}
use Rattle.fans.specs.Classes.{classes_of, class_of, fans_at, singular_vertex_count}
use Rattle.cut.specs.Cut.{cut_of, cut_list, cut_map, classes_answer, classes_bytes}

pub record Row : Type 0 where
  pub list : List ℤ
  pub n : ℕ
  pub numbers : List ℕ
  pub new_list : List ℤ
  pub new_map : List ℤ
  pub classes : List ℕ

abbrev row : List ℤ → ℕ → List ℕ → List ℤ → List ℤ → List ℕ → Row
row l n numbers new_list new_map classes = record { list = l; n = n; numbers = numbers; new_list = new_list; new_map = new_map; classes = classes }

-- what the cut and the class call answer and write for a row's list: the parts of the buffers that are expected to be written
abbrev pub answered : Row → Row
answered r =
    let l = r.list in
    let n = r.n in
    let room = replicate (length l) (pos 0) in
    let words = replicate {A = ℕ} (4 * length l) 0 in
    let bytes = replicate {A = ℕ} n 0 in
    let a = cut_of l n (length l) (length l) (4 * length l) in
    record {
      list = l;
      n = n;
      numbers = a.code ∷ a.place ∷ a.faces ∷ a.corners ∷ a.vertices ∷ a.singular_edges ∷ a.singular_vertices ∷ [];
      new_list = take (length r.new_list) (cut_list l n room room words);
      new_map = take (length r.new_map) (cut_map l n room room words);
      classes = take (length r.classes) (classes_bytes l n bytes words);
    }

pub bench : List Row
bench =
    -- empty list, n = 0
    row ([]) 0
    (0 ∷ 0 ∷ 0 ∷ 0 ∷ 0 ∷ 0 ∷ 0 ∷ [])
    ([])
    ([])
    ([]) ∷
    -- one triangle
    row (pos 7 ∷ pos 3 ∷ pos 9 ∷ negsuc 0 ∷ []) 10
    (0 ∷ 0 ∷ 1 ∷ 3 ∷ 3 ∷ 0 ∷ 0 ∷ [])
    (pos 0 ∷ pos 1 ∷ pos 2 ∷ negsuc 0 ∷ [])
    (pos 7 ∷ pos 3 ∷ pos 9 ∷ [])
    (0 ∷ 0 ∷ 0 ∷ 2 ∷ 0 ∷ 0 ∷ 0 ∷ 2 ∷ 0 ∷ 2 ∷ []) ∷
    -- two triangles on an edge
    row (pos 0 ∷ pos 1 ∷ pos 2 ∷ negsuc 0 ∷ pos 2 ∷ pos 1 ∷ pos 3 ∷ negsuc 0 ∷ []) 4
    (0 ∷ 0 ∷ 2 ∷ 6 ∷ 4 ∷ 0 ∷ 0 ∷ [])
    (pos 0 ∷ pos 1 ∷ pos 2 ∷ negsuc 0 ∷ pos 2 ∷ pos 1 ∷ pos 3 ∷ negsuc 0 ∷ [])
    (pos 0 ∷ pos 1 ∷ pos 2 ∷ pos 3 ∷ [])
    (2 ∷ 2 ∷ 2 ∷ 2 ∷ []) ∷
    -- the same, running the same way, with no final -1
    row (pos 0 ∷ pos 1 ∷ pos 2 ∷ negsuc 0 ∷ pos 1 ∷ pos 2 ∷ pos 3 ∷ []) 4
    (0 ∷ 0 ∷ 2 ∷ 6 ∷ 4 ∷ 0 ∷ 0 ∷ [])
    (pos 0 ∷ pos 1 ∷ pos 2 ∷ negsuc 0 ∷ pos 1 ∷ pos 2 ∷ pos 3 ∷ [])
    (pos 0 ∷ pos 1 ∷ pos 2 ∷ pos 3 ∷ [])
    (2 ∷ 2 ∷ 2 ∷ 2 ∷ []) ∷
    -- the touching pair
    row (pos 0 ∷ pos 1 ∷ pos 2 ∷ negsuc 0 ∷ pos 0 ∷ pos 3 ∷ pos 4 ∷ negsuc 0 ∷ []) 5
    (0 ∷ 0 ∷ 2 ∷ 6 ∷ 6 ∷ 0 ∷ 1 ∷ [])
    (pos 0 ∷ pos 1 ∷ pos 2 ∷ negsuc 0 ∷ pos 3 ∷ pos 4 ∷ pos 5 ∷ negsuc 0 ∷ [])
    (pos 0 ∷ pos 1 ∷ pos 2 ∷ pos 0 ∷ pos 3 ∷ pos 4 ∷ [])
    (4 ∷ 2 ∷ 2 ∷ 2 ∷ 2 ∷ []) ∷
    -- three faces on an edge
    row (pos 0 ∷ pos 1 ∷ pos 2 ∷ negsuc 0 ∷ pos 0 ∷ pos 1 ∷ pos 3 ∷ negsuc 0 ∷ pos 0 ∷ pos 1 ∷ pos 4 ∷ negsuc 0 ∷ []) 5
    (0 ∷ 0 ∷ 3 ∷ 9 ∷ 9 ∷ 1 ∷ 2 ∷ [])
    (pos 0 ∷ pos 1 ∷ pos 2 ∷ negsuc 0 ∷ pos 3 ∷ pos 4 ∷ pos 5 ∷ negsuc 0 ∷ pos 6 ∷ pos 7 ∷ pos 8 ∷ negsuc 0 ∷ [])
    (pos 0 ∷ pos 1 ∷ pos 2 ∷ pos 0 ∷ pos 1 ∷ pos 3 ∷ pos 0 ∷ pos 1 ∷ pos 4 ∷ [])
    (3 ∷ 3 ∷ 2 ∷ 2 ∷ 2 ∷ []) ∷
    -- two tetrahedra on one edge
    row (pos 0 ∷ pos 1 ∷ pos 2 ∷ negsuc 0 ∷ pos 0 ∷ pos 3 ∷ pos 1 ∷ negsuc 0 ∷ pos 0 ∷ pos 2 ∷ pos 3 ∷ negsuc 0 ∷ pos 1 ∷ pos 3 ∷ pos 2 ∷ negsuc 0 ∷ pos 0 ∷ pos 1 ∷ pos 4 ∷ negsuc 0 ∷ pos 0 ∷ pos 5 ∷ pos 1 ∷ negsuc 0 ∷ pos 0 ∷ pos 4 ∷ pos 5 ∷ negsuc 0 ∷ pos 1 ∷ pos 5 ∷ pos 4 ∷ negsuc 0 ∷ []) 6
    (0 ∷ 0 ∷ 8 ∷ 24 ∷ 8 ∷ 1 ∷ 2 ∷ [])
    (pos 0 ∷ pos 1 ∷ pos 2 ∷ negsuc 0 ∷ pos 0 ∷ pos 3 ∷ pos 1 ∷ negsuc 0 ∷ pos 0 ∷ pos 2 ∷ pos 3 ∷ negsuc 0 ∷ pos 1 ∷ pos 3 ∷ pos 2 ∷ negsuc 0 ∷ pos 4 ∷ pos 5 ∷ pos 6 ∷ negsuc 0 ∷ pos 4 ∷ pos 7 ∷ pos 5 ∷ negsuc 0 ∷ pos 4 ∷ pos 6 ∷ pos 7 ∷ negsuc 0 ∷ pos 5 ∷ pos 7 ∷ pos 6 ∷ negsuc 0 ∷ [])
    (pos 0 ∷ pos 1 ∷ pos 2 ∷ pos 3 ∷ pos 0 ∷ pos 1 ∷ pos 4 ∷ pos 5 ∷ [])
    (3 ∷ 3 ∷ 1 ∷ 1 ∷ 1 ∷ 1 ∷ []) ∷
    -- two triangles back to back
    row (pos 0 ∷ pos 1 ∷ pos 2 ∷ negsuc 0 ∷ pos 0 ∷ pos 2 ∷ pos 1 ∷ negsuc 0 ∷ []) 3
    (0 ∷ 0 ∷ 2 ∷ 6 ∷ 3 ∷ 0 ∷ 0 ∷ [])
    (pos 0 ∷ pos 1 ∷ pos 2 ∷ negsuc 0 ∷ pos 0 ∷ pos 2 ∷ pos 1 ∷ negsuc 0 ∷ [])
    (pos 0 ∷ pos 1 ∷ pos 2 ∷ [])
    (1 ∷ 1 ∷ 1 ∷ []) ∷
    -- a face of two
    row (pos 0 ∷ pos 1 ∷ negsuc 0 ∷ []) 2
    (4 ∷ 0 ∷ 0 ∷ 0 ∷ 0 ∷ 0 ∷ 0 ∷ [])
    ([])
    ([])
    ([]) ∷
    -- an empty face
    row (negsuc 0 ∷ []) 0
    (4 ∷ 0 ∷ 0 ∷ 0 ∷ 0 ∷ 0 ∷ 0 ∷ [])
    ([])
    ([])
    ([]) ∷
    -- an empty face behind another
    row (pos 0 ∷ pos 1 ∷ pos 2 ∷ negsuc 0 ∷ negsuc 0 ∷ []) 3
    (4 ∷ 4 ∷ 0 ∷ 0 ∷ 0 ∷ 0 ∷ 0 ∷ [])
    ([])
    ([])
    ([]) ∷
    -- an entry at n
    row (pos 0 ∷ pos 1 ∷ pos 5 ∷ negsuc 0 ∷ []) 5
    (3 ∷ 2 ∷ 0 ∷ 0 ∷ 0 ∷ 0 ∷ 0 ∷ [])
    ([])
    ([])
    ([]) ∷
    -- the same below n
    row (pos 0 ∷ pos 1 ∷ pos 5 ∷ negsuc 0 ∷ []) 6
    (0 ∷ 0 ∷ 1 ∷ 3 ∷ 3 ∷ 0 ∷ 0 ∷ [])
    (pos 0 ∷ pos 1 ∷ pos 2 ∷ negsuc 0 ∷ [])
    (pos 0 ∷ pos 1 ∷ pos 5 ∷ [])
    (2 ∷ 2 ∷ 0 ∷ 0 ∷ 0 ∷ 2 ∷ []) ∷
    -- an entry below -1
    row (pos 0 ∷ pos 0 ∷ negsuc 1 ∷ []) 3
    (3 ∷ 2 ∷ 0 ∷ 0 ∷ 0 ∷ 0 ∷ 0 ∷ [])
    ([])
    ([])
    ([]) ∷
    []

pub bench_holds : map answered bench ≡ bench
unfolding bench check_of check_faces face_fault group_labels fan_labels links labels_of new_list_of new_numbers map_of classes_of class_of fans_at singular_vertex_count cut_of cut_list cut_map classes_answer classes_bytes
bench_holds = refl
