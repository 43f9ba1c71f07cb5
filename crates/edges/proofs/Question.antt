-- Counting the uses of an edge: in one face by its pairs of a corner and the next, and face by face.
use Prim.Native.Nat.{ℕ, ◌+◌, ◌-◌, ◌≤◌, ◌<◌}
use mathlib.Core.Path.{◌≡◌, refl, sym, ◌∙◌, ap, ap₂}
use mathlib.Core.Bool.{Bool, true, false, cond}
use mathlib.Core.List.{List, [], ◌∷◌}
use native.Mathlib.Omega.{arith}
use native.Mathlib.Numerals.{add-one, unary_clauses}
use lib.IntN.{ℤ, pos}
use lib.Seq.{drop-cons}
use lib.ListN.{length, get_or, drop, length-append}
use Rattle.std.proofs.lemmas.List.Sums.{sum_by-cons}
use lib.Dec.{eqb}
use Rattle.std.specs.Prelude.{Option, Some, None, Ok, Err}
use Rattle.std.specs.List.{sum_by}
use Rattle.list.specs.Faces.{Face, faces, num, vertices}
use Rattle.mates.specs.Matching.{last_of}
use Rattle.list.specs.Check.{check_of, refused}
use Rattle.list.specs.Told.{code_of, place_of}
use Rattle.list.specs.declared.Fault.{Fault}
use Rattle.list.specs.declared.Fault.TheVariants as Fault·
use Rattle.list.proofs.Repeats.{vertex_of, vertices_long}
use Rattle.list.proofs.Checking.{corners_fit}
use Rattle.edges.specs.Uses.{Use, uses_to_end, uses_of_face, uses, is_edge, on_edge, uses_on, faces_on}
use Rattle.edges.specs.Table.{is_pair, pair_of, edge_answer, edge_of}
use Rattle.edges.specs.Told.{edge_told}
use Rattle.edges.specs.declared.EdgeRefusal.TheVariants as Refusal·
use Rattle.order.proofs.Lists.{choose-append, choose_few}
use Rattle.edges.proofs.Uses.{uses_long}
use Rattle.edges.proofs.Faces.{face_anywhere}
use Rattle.edges.proofs.Walk.{uses_left, left_all}

-- how often the edge between a and b lies between one number and the next, along v and the numbers behind it
abbrev pub pairs_along : ℕ → ℕ → ℕ → List ℕ → ℕ
pairs_along a b v [] = 0
pairs_along a b v (w ∷ ws) = cond (is_edge v w a b) 1 0 + pairs_along a b w ws

-- one test, counted and chosen by
one_more : (t : Bool) (u : Use) (us : List Use) → length (cond t (u ∷ us) us) ≡ cond t 1 0 + length us
one_more true u us = omega arith
one_more false u us = omega arith

-- the pairs along a face, from its last corner to the first and on to the last, are its uses, so as many are on an edge

pairs_to_end : (a b c₀ v₀ c v : ℕ) (ws : List ℕ) → cond (is_edge (last_of v ws) v₀ a b) 1 0 + pairs_along a b v ws ≡ length (uses_on (uses_to_end c₀ v₀ c v ws) a b)
pairs_to_end a b c₀ v₀ c v [] = sym (one_more (is_edge v v₀ a b) (record { corner = c; next = c₀; from = v; to = v₀ }) [])
pairs_to_end a b c₀ v₀ c v (w ∷ ws) =
    let us = uses_to_end c₀ v₀ (c + 1) w ws in
    omega (arith, one_more (is_edge v w a b) (record { corner = c; next = c + 1; from = v; to = w }) (uses_on us a b), pairs_to_end a b c₀ v₀ (c + 1) w ws)

pub pairs_on : (a b c : ℕ) (r : List ℤ) → pairs_along a b (last_of 0 (vertices r)) (vertices r) ≡ length (uses_on (uses_of_face c (vertices r)) a b)
pairs_on a b c [] = refl
pairs_on a b c (x ∷ xs) = pairs_to_end a b c (num x) c (num x) (vertices xs)

-- the vertex of a face's last corner
pub last_vertex : (r : List ℤ) → num (get_or r (length r - 1) (pos 0)) ≡ last_of 0 (vertices r)
last_vertex [] = refl
last_vertex (x ∷ xs) = simp unary_clauses (go x xs)
  where
    go : (x : ℤ) (xs : List ℤ) → num (get_or (x ∷ xs) (length xs) (pos 0)) ≡ last_of (num x) (vertices xs)
    go x [] = refl
    go x (y ∷ ys) = go y ys

-- the pairs from the corner at place i of a face on: the next one, and those behind it
pub pairs_left : (a b from to : ℕ) (t : Bool) (r : List ℤ) (i : ℕ) → i < length r → to ≡ num (get_or r i (pos 0)) → t ≡ is_edge from to a b → pairs_along a b from (drop i (vertices r)) ≡ cond t 1 0 + pairs_along a b to (drop (i + 1) (vertices r))
pairs_left a b from to t r i h e f = rw (f, e, drop-cons (vertices r) i 0 (rw (vertices_long r) h), vertex_of r i, add-one)

-- the uses of an edge in each face, from its first corner on
abbrev pub face_uses : ℕ → ℕ → Face → ℕ
face_uses a b f = length (uses_on (uses_of_face 0 (vertices f.entries)) a b)

uses_summed : (a b at : ℕ) (fs : List Face) → sum_by (face_uses a b) fs ≡ length (uses_on (uses_left at fs) a b)
uses_summed a b at [] = refl
uses_summed a b at (f ∷ fs) =
    sum_by-cons (face_uses a b) f fs ∙ ap₂ (λ (m n : ℕ). m + n) (face_anywhere a b 0 at (vertices f.entries)) (uses_summed a b (at + length f.entries) fs) ∙
    sym (ap length (choose-append (on_edge a b) (uses_of_face at (vertices f.entries)) (uses_left (at + length f.entries) fs)) ∙ length-append (uses_on (uses_of_face at (vertices f.entries)) a b) (uses_on (uses_left (at + length f.entries) fs) a b))

pub faces_summed : (l : List ℤ) (a b : ℕ) → sum_by (face_uses a b) (faces l) ≡ faces_on l a b
faces_summed l a b = uses_summed a b 0 (faces l) ∙ ap (λ (us : List Use). length (uses_on us a b)) (left_all l)

pub faces_few : (l : List ℤ) (a b : ℕ) → faces_on l a b ≤ length l
faces_few l a b = omega (arith, choose_few (on_edge a b) (uses l), uses_long l, corners_fit l)

-- the answers: the check's refusal, then that of the pair, then the count
module _ (l : List ℤ) (n : ℕ) (a b : ℤ) where
  pub edge_refused : (f : Fault) → refused (code_of f) (place_of f) ≡ check_of l n → edge_told (Err (Refusal·.Invalid f)) ≡ edge_of l n a b
  unfolding edge_of
  edge_refused f e = rw (← e) (go f)
    where
      go : (f : Fault) → edge_told (Err (Refusal·.Invalid f)) ≡ cond (eqb (code_of f) 0) (cond (is_pair n a b) (edge_answer 0 0 (faces_on l (num a) (num b))) (edge_answer 10 0 0)) (edge_answer (code_of f) (place_of f) 0)
      go Fault·.TooManyEntries = refl
      go Fault·.TooManyVertices = refl
      go (Fault·.Outside place) = refl
      go (Fault·.Short place) = refl
      go (Fault·.Repeated place) = refl

  module _ (e : (check_of l n).code ≡ 0) where
    pub edge_paired : (b' : Bool) → is_pair n a b ≡ b' → cond b' (edge_answer 0 0 (faces_on l (num a) (num b))) (edge_answer 10 0 0) ≡ edge_of l n a b
    unfolding edge_of
    edge_paired b' q = rw (e, q)

    pub edge_no_pair : pair_of n a b ≡ None → edge_told (Err Refusal·.NotAPair) ≡ edge_of l n a b
    edge_no_pair = go (is_pair n a b) refl
      where
        go : (t : Bool) → is_pair n a b ≡ t → cond {A = Option (ℕ × ℕ)} t (Some (num a, num b)) None ≡ None → edge_told (Err Refusal·.NotAPair) ≡ edge_of l n a b
        go true q h = cc
        go false q h = edge_paired false q

    pub edge_counted : (v w : ℕ) → pair_of n a b ≡ Some (v, w) → edge_told (Ok (faces_on l v w)) ≡ edge_of l n a b
    edge_counted v w = go (is_pair n a b) refl
      where
        go : (t : Bool) → is_pair n a b ≡ t → cond {A = Option (ℕ × ℕ)} t (Some (num a, num b)) None ≡ Some (v, w) → edge_told (Ok (faces_on l v w)) ≡ edge_of l n a b
        go true q h =
            let same : ◌≡◌ {A = ℕ × ℕ} (v, w) (num a, num b) = cc in
            ap (λ (p : ℕ × ℕ). edge_told (Ok (faces_on l p.0 p.1))) same ∙ edge_paired true q
        go false q h = cc
