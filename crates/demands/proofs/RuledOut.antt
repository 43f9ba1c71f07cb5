-- The wrong programs that document 01 names do not meet the contract: each is caught at a bench list, by the demand that document 01
-- names beside it.
use Prim.Native.Nat.{ℕ, ◌*◌}
use mathlib.Core.Path.{◌≡◌, ap}
use mathlib.Core.List.{List, [], ◌∷◌}
use native.Mathlib.Omega.{arith}
use lib.IntN.{ℤ, pos, negsuc}
use lib.ListN.{length, get_or, replicate}
use Rattle.list.specs.Faces.{num}
use Rattle.list.specs.Check.{check_of, check_faces, face_fault}
use Rattle.groups.specs.Groups.{group_labels, fan_labels, links, labels_of}
use Rattle.renumber.specs.Renumber.{new_list_of, new_numbers, map_of}
use Rattle.fans.specs.Classes.{classes_of, class_of, fans_at, singular_vertex_count}
use Rattle.cut.specs.Cut.{cut_of, cut_list, cut_map}
use Rattle.cut.specs.Cut.{CutAnswer}
use Rattle.demands.specs.Wrong.{Outcome, Program, asked, Meets, refuses_all, fixed_answer, writes_nothing, plain_copy, vertex_per_corner, first_edge_only, made_up_counts, tears_singular, copies_at_singular, opposite_only, one_endpoint, first_two_of_three}

-- a program's outcome with buffers of the length that a list l needs at most, each entry of them 5
abbrev outcome : Program → List ℤ → ℕ → Outcome
outcome p l n = p l n (replicate (length l) (pos 5)) (replicate (length l) (pos 5)) (replicate {A = ℕ} (4 * length l) 0)

met : (p : Program) → Meets p → (l : List ℤ) (n : ℕ) → outcome p l n ≡ outcome asked l n
met p m l n = m l n (replicate (length l) (pos 5)) (replicate (length l) (pos 5)) (replicate {A = ℕ} (4 * length l) 0)

-- one triangle
abbrev triangle : List ℤ
triangle = pos 7 ∷ pos 3 ∷ pos 9 ∷ negsuc 0 ∷ []

-- two triangles on an edge
abbrev pair : List ℤ
pair = pos 0 ∷ pos 1 ∷ pos 2 ∷ negsuc 0 ∷ pos 2 ∷ pos 1 ∷ pos 3 ∷ negsuc 0 ∷ []

-- the same, running the same way
abbrev along : List ℤ
along = pos 0 ∷ pos 1 ∷ pos 2 ∷ negsuc 0 ∷ pos 1 ∷ pos 2 ∷ pos 3 ∷ []

-- the touching pair
abbrev touching : List ℤ
touching = pos 0 ∷ pos 1 ∷ pos 2 ∷ negsuc 0 ∷ pos 0 ∷ pos 3 ∷ pos 4 ∷ negsuc 0 ∷ []

-- three faces on an edge
abbrev book : List ℤ
book = pos 0 ∷ pos 1 ∷ pos 2 ∷ negsuc 0 ∷ pos 0 ∷ pos 1 ∷ pos 3 ∷ negsuc 0 ∷ pos 0 ∷ pos 1 ∷ pos 4 ∷ negsuc 0 ∷ []

-- two tetrahedra on one edge
abbrev bodies : List ℤ
bodies = pos 0 ∷ pos 1 ∷ pos 2 ∷ negsuc 0 ∷ pos 0 ∷ pos 3 ∷ pos 1 ∷ negsuc 0 ∷ pos 0 ∷ pos 2 ∷ pos 3 ∷ negsuc 0 ∷ pos 1 ∷ pos 3 ∷ pos 2 ∷ negsuc 0 ∷ pos 0 ∷ pos 1 ∷ pos 4 ∷ negsuc 0 ∷ pos 0 ∷ pos 5 ∷ pos 1 ∷ negsuc 0 ∷ pos 0 ∷ pos 4 ∷ pos 5 ∷ negsuc 0 ∷ pos 1 ∷ pos 5 ∷ pos 4 ∷ negsuc 0 ∷ []

-- refuses all (demand 2: each code is given exactly when the table says)
pub refuses_all_caught : Meets refuses_all → ⊥
unfolding check_of check_faces face_fault group_labels fan_labels links labels_of new_list_of new_numbers map_of classes_of class_of fans_at singular_vertex_count cut_of cut_list cut_map
refuses_all_caught m = let e : ◌≡◌ {A = ℕ} 1 0 = ap (λ (r : Outcome). r.answer.code) (met refuses_all m triangle 10) in omega arith

-- a fixed answer (demand 2: the bench lists differ)
pub fixed_answer_caught : (r : CutAnswer) → Meets (fixed_answer r) → ⊥
unfolding check_of check_faces face_fault group_labels fan_labels links labels_of new_list_of new_numbers map_of classes_of class_of fans_at singular_vertex_count cut_of cut_list cut_map
fixed_answer_caught r m =
    let none : r.faces ≡ 0 = ap (λ (o : Outcome). o.answer.faces) (met (fixed_answer r) m [] 0) in
    let one : r.faces ≡ 1 = ap (λ (o : Outcome). o.answer.faces) (met (fixed_answer r) m triangle 10) in
    omega arith

-- writes nothing (demand 2: the bench lists differ)
pub writes_nothing_caught : Meets writes_nothing → ⊥
unfolding check_of check_faces face_fault group_labels fan_labels links labels_of new_list_of new_numbers map_of classes_of class_of fans_at singular_vertex_count cut_of cut_list cut_map
writes_nothing_caught m = let e : ◌≡◌ {A = ℕ} 5 0 = ap (λ (r : Outcome). num (get_or r.new_list 0 (pos 0))) (met writes_nothing m triangle 10) in omega arith

-- copies the input with a plain map (demand 3: one fan per vertex)
pub plain_copy_caught : Meets plain_copy → ⊥
unfolding check_of check_faces face_fault group_labels fan_labels links labels_of new_list_of new_numbers map_of classes_of class_of fans_at singular_vertex_count cut_of cut_list cut_map
plain_copy_caught m = let e : ◌≡◌ {A = ℕ} 0 3 = ap (λ (r : Outcome). num (get_or r.new_list 4 (pos 0))) (met plain_copy m touching 5) in omega arith

-- one vertex per corner (demand 3: least number of labels)
pub vertex_per_corner_caught : Meets vertex_per_corner → ⊥
unfolding check_of check_faces face_fault group_labels fan_labels links labels_of new_list_of new_numbers map_of classes_of class_of fans_at singular_vertex_count cut_of cut_list cut_map
vertex_per_corner_caught m = let e : ◌≡◌ {A = ℕ} 6 4 = ap (λ (r : Outcome). r.answer.vertices) (met vertex_per_corner m pair 4) in omega arith

-- joins over the first regular edge and then only seems to go on (demand 2: smallest groups over all regular edges)
pub first_edge_only_caught : Meets first_edge_only → ⊥
unfolding check_of check_faces face_fault group_labels fan_labels links labels_of new_list_of new_numbers map_of classes_of class_of fans_at singular_vertex_count cut_of cut_list cut_map
first_edge_only_caught m = let e : ◌≡◌ {A = ℕ} 22 8 = ap (λ (r : Outcome). r.answer.vertices) (met first_edge_only m bodies 6) in omega arith

-- makes up the counts (demand 2: each is counted in a definition from the list alone)
pub made_up_counts_caught : (f c v e s : ℕ) → Meets (made_up_counts f c v e s) → ⊥
unfolding check_of check_faces face_fault group_labels fan_labels links labels_of new_list_of new_numbers map_of classes_of class_of fans_at singular_vertex_count cut_of cut_list cut_map
made_up_counts_caught f c v e s m =
    let none : f ≡ 0 = ap (λ (o : Outcome). o.answer.faces) (met (made_up_counts f c v e s) m [] 0) in
    let one : f ≡ 1 = ap (λ (o : Outcome). o.answer.faces) (met (made_up_counts f c v e s) m triangle 10) in
    omega arith

-- tears every singular edge open: in the two tetrahedra the edge stays joined in each body
pub tears_singular_caught : Meets tears_singular → ⊥
unfolding check_of check_faces face_fault group_labels fan_labels links labels_of new_list_of new_numbers map_of classes_of class_of fans_at singular_vertex_count cut_of cut_list cut_map
tears_singular_caught m = let e : ◌≡◌ {A = ℕ} 20 8 = ap (λ (r : Outcome). r.answer.vertices) (met tears_singular m bodies 6) in omega arith

-- copies a vertex only when it ends a singular edge: the touching pair stays joined
pub copies_at_singular_caught : Meets copies_at_singular → ⊥
unfolding check_of check_faces face_fault group_labels fan_labels links labels_of new_list_of new_numbers map_of classes_of class_of fans_at singular_vertex_count cut_of cut_list cut_map
copies_at_singular_caught m = let e : ◌≡◌ {A = ℕ} 5 6 = ap (λ (r : Outcome). r.answer.vertices) (met copies_at_singular m touching 5) in omega arith

-- pairs edges only when the faces run opposite ways
pub opposite_only_caught : Meets opposite_only → ⊥
unfolding check_of check_faces face_fault group_labels fan_labels links labels_of new_list_of new_numbers map_of classes_of class_of fans_at singular_vertex_count cut_of cut_list cut_map
opposite_only_caught m = let e : ◌≡◌ {A = ℕ} 6 4 = ap (λ (r : Outcome). r.answer.vertices) (met opposite_only m along 4) in omega arith

-- joins corners at one endpoint of an edge and leaves the other
pub one_endpoint_caught : Meets one_endpoint → ⊥
unfolding check_of check_faces face_fault group_labels fan_labels links labels_of new_list_of new_numbers map_of classes_of class_of fans_at singular_vertex_count cut_of cut_list cut_map
one_endpoint_caught m = let e : ◌≡◌ {A = ℕ} 5 4 = ap (λ (r : Outcome). r.answer.vertices) (met one_endpoint m pair 4) in omega arith

-- pairs the first two faces of a three-face edge
pub first_two_of_three_caught : Meets first_two_of_three → ⊥
unfolding check_of check_faces face_fault group_labels fan_labels links labels_of new_list_of new_numbers map_of classes_of class_of fans_at singular_vertex_count cut_of cut_list cut_map
first_two_of_three_caught m = let e : ◌≡◌ {A = ℕ} 7 9 = ap (λ (r : Outcome). r.answer.vertices) (met first_two_of_three m book 5) in omega arith
