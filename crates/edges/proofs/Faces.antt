-- In a valid list a face uses an edge at most once, so the uses of an edge are faces on it.
--
--   has_edge a b r    the face r has the edge between a and b
use Prim.Native.Nat.{ℕ, suc, ◌+◌, ◌≤◌, ◌<◌, min, max}
use mathlib.Core.Path.{◌≡◌, refl, sym, ◌∙◌, ap}
use mathlib.Core.Bool.{Bool, true, false, cond, ◌&&◌, false≢true}
use mathlib.Core.List.{List, [], ◌∷◌}
use mathlib.Core.Logic.{◌⊎◌, inl, inr}
use native.Mathlib.Omega.{arith}
use borrow.Author.Tests.{eq-eqb, eqb-true, eqb-false, ltb-true, ltb-false}
use lib.Dec.{eqb, ltb}
use lib.IntN.{ℤ, pos}
use lib.ListN.{length, get_or, length-append, length-map, get_or-map}
use Rattle.list.specs.Faces.{runs, num, vertices}
use Rattle.list.specs.Check.{ValidFace, Valid}
use Rattle.order.specs.Choose.{choose, count, All}
use Rattle.edges.specs.Uses.{Use, uses_to_end, uses_of_face, uses_from, uses, next_in, lo, hi, is_edge, on_edge, uses_on, faces_on, no_use, use_at}
use Rattle.order.proofs.Lists.{all_of, all_at, all_append, choose-append, choose_one}
use Rattle.edges.proofs.Uses.{use_in, use_in_lem, uses_face_long, next_inside}

abbrev pub has_edge : ℕ → ℕ → List ℤ → Bool
has_edge a b r = ltb 0 (length (uses_on (uses_of_face 0 (vertices r)) a b))

pub and-true : (a b : Bool) → (a && b) ≡ true → (a ≡ true) × (b ≡ true)
and-true true b e = (refl, e)
and-true false b e = absurd (false≢true e)

-- what it says of a pair, and of a use, to be an edge

pub is_edge_lem : (v w a b : ℕ) → is_edge v w a b ≡ true → (min v w ≡ min a b) × (max v w ≡ max a b)
is_edge_lem v w a b e =
    let p = and-true (eqb (min v w) (min a b)) (eqb (max v w) (max a b)) e in
    (eqb-true (min v w) (min a b) p.0, eqb-true (max v w) (max a b) p.1)

pub edge_is : (v w a b : ℕ) → min v w ≡ min a b → max v w ≡ max a b → is_edge v w a b ≡ true
edge_is v w a b p q = rw (eq-eqb (min v w) (min a b) p) (eq-eqb (max v w) (max a b) q)

pub on_edge_lem : (a b : ℕ) (u : Use) → on_edge a b u ≡ true → (lo u ≡ min a b) × (hi u ≡ max a b)
on_edge_lem a b u = is_edge_lem u.from u.to a b

pub edge_on : (a b : ℕ) (u : Use) → lo u ≡ min a b → hi u ≡ max a b → on_edge a b u ≡ true
edge_on a b u = edge_is u.from u.to a b

-- two pairs that are the same unordered pair and start differently are each the other turned round
turned : (a b c d : ℕ) → min a b ≡ min c d → max a b ≡ max c d → (a ≡ c → ⊥) → (a ≡ d) × (b ≡ c)
turned a b c d p q h = (omega arith, omega arith)

-- in a face of at least three corners no two places follow each other both ways
pub next_twice : (m i : ℕ) → 3 ≤ m → i ≡ next_in m (next_in m i) → ⊥
next_twice m i h = go (eqb (suc i) m) refl
  where
    again : (j : ℕ) → ((j ≡ 0) × (suc i ≡ m)) ⊎ ((j ≡ suc i) × (suc i ≡ m → ⊥)) → (b : Bool) → eqb (suc j) m ≡ b → i ≡ cond b 0 (suc j) → ⊥
    again j (inl p) true q e = omega (arith, eqb-true (suc j) m q)
    again j (inl p) false q e = omega arith
    again j (inr p) true q e = omega (arith, eqb-true (suc j) m q)
    again j (inr p) false q e = omega arith

    go : (a : Bool) → eqb (suc i) m ≡ a → i ≡ next_in m (cond a 0 (suc i)) → ⊥
    go true p = again 0 (inl (refl, eqb-true (suc i) m p)) (eqb 1 m) refl
    go false p = again (suc i) (inr (refl, eqb-false (suc i) m p)) (eqb (suc (suc i)) m) refl

module _ (n : ℕ) (r : List ℤ) (v : ValidFace n r) where
  abbrev vs : List ℕ
  vs = vertices r

  pub vertex_in : (i : ℕ) → i < length vs → get_or vs i 0 < n
  vertex_in i h =
      let w = v.inside i (rw (length-map r num) at h) in
      rw (get_or-map num r i (pos 0), ap num w.1) w.2

  -- two places with one vertex are one place
  pub vertex_once : (i j : ℕ) → i < j → j < length vs → get_or vs i 0 ≡ get_or vs j 0 → ⊥
  vertex_once i j h k e =
      let m : j < length r = rw (length-map r num) at k in
      let p = v.inside i (omega arith) in
      let q = v.inside j m in
      let x : num (get_or r i (pos 0)) ≡ num (get_or r j (pos 0)) = sym (get_or-map num r i (pos 0)) ∙ e ∙ get_or-map num r j (pos 0) in
      v.different i j h m (p.1 ∙ ap pos (sym (ap num p.1) ∙ x ∙ ap num q.1) ∙ sym q.1)

  pub face_long : 3 ≤ length vs
  face_long = rw (length-map r num) v.long

  pub same_place : (i j : ℕ) → i < length vs → j < length vs → get_or vs i 0 ≡ get_or vs j 0 → i ≡ j
  same_place i j h k e = go (eqb i j) refl (ltb i j) refl
    where
      go : (b : Bool) → eqb i j ≡ b → (t : Bool) → ltb i j ≡ t → i ≡ j
      go true p t q = eqb-true i j p
      go false p true q = absurd (vertex_once i j (ltb-true i j q) k e)
      go false p false q = absurd (vertex_once j i (omega (arith, eqb-false i j p, ltb-false i j q)) h (sym e))

  pub face_edge_once : (c a b i j : ℕ) → i < j → j < length vs → on_edge a b (use_in c vs i) ≡ true → on_edge a b (use_in c vs j) ≡ true → ⊥
  face_edge_once c a b i j h k p q =
      let i' = next_in (length vs) i in
      let j' = next_in (length vs) j in
      let e = on_edge_lem a b (use_in c vs i) p in
      let f = on_edge_lem a b (use_in c vs j) q in
      let t = turned (get_or vs i 0) (get_or vs i' 0) (get_or vs j 0) (get_or vs j' 0) (e.0 ∙ sym f.0) (e.1 ∙ sym f.1) (vertex_once i j h k) in
      next_twice (length vs) i face_long
      (same_place i j' (omega arith) (next_inside (length vs) j k) t.0 ∙
      ap (next_in (length vs)) (sym (same_place i' j (next_inside (length vs) i (omega arith)) k t.1)))

  -- a face uses an edge at most once
  pub face_uses_once : (c a b : ℕ) → length (uses_on (uses_of_face c vs) a b) ≤ 1
  face_uses_once c a b =
      choose_one (on_edge a b) no_use (uses_of_face c vs)
      (λ i j h k p q.
      let m : j < length vs = rw (uses_face_long c vs) at k in
      face_edge_once c a b i j h m
      (rw (use_in_lem c vs i no_use (omega arith)) at p)
      (rw (use_in_lem c vs j no_use m) at q))

-- where a face's corners are numbered from doesn't matter to its edges

as_many : (t : Bool) (u x : Use) (us xs : List Use) → length us ≡ length xs → length (cond t (u ∷ us) us) ≡ length (cond t (x ∷ xs) xs)
as_many true u x us xs e = ap suc e
as_many false u x us xs e = e

to_end_anywhere : (a b c₀ d₀ v₀ c d v : ℕ) (ws : List ℕ) → length (uses_on (uses_to_end c₀ v₀ c v ws) a b) ≡ length (uses_on (uses_to_end d₀ v₀ d v ws) a b)
to_end_anywhere a b c₀ d₀ v₀ c d v [] = as_many (eqb (min v v₀) (min a b) && eqb (max v v₀) (max a b)) _ _ [] [] refl
to_end_anywhere a b c₀ d₀ v₀ c d v (w ∷ ws) = as_many (eqb (min v w) (min a b) && eqb (max v w) (max a b)) _ _ (uses_on (uses_to_end c₀ v₀ (c + 1) w ws) a b) (uses_on (uses_to_end d₀ v₀ (d + 1) w ws) a b) (to_end_anywhere a b c₀ d₀ v₀ (c + 1) (d + 1) w ws)

pub face_anywhere : (a b c d : ℕ) (vs : List ℕ) → length (uses_on (uses_of_face c vs) a b) ≡ length (uses_on (uses_of_face d vs) a b)
face_anywhere a b c d [] = refl
face_anywhere a b c d (v ∷ vs) = to_end_anywhere a b c d v c d v vs

faces_count : (n a b c : ℕ) (rs : List (List ℤ)) → ((k : ℕ) → k < length rs → ValidFace n (get_or rs k [])) → length (uses_on (uses_from c rs) a b) ≡ count (has_edge a b) rs
faces_count n a b c [] v = refl
faces_count n a b c (r ∷ rs) v =
    let here = uses_of_face c (vertices r) in
    let rest = uses_from (c + length r) rs in
    ap length (choose-append (on_edge a b) here rest) ∙ length-append (uses_on here a b) (uses_on rest a b) ∙
    go (has_edge a b r) refl (length (uses_on here a b)) (face_anywhere a b c 0 (vertices r)) (face_uses_once n r (v 0 (omega arith)) c a b) (length (uses_on rest a b)) (faces_count n a b (c + length r) rs (λ k h. v (suc k) (omega arith)))
  where
    go : (t : Bool) → has_edge a b r ≡ t → (m : ℕ) → m ≡ length (uses_on (uses_of_face 0 (vertices r)) a b) → m ≤ 1 → (s : ℕ) → s ≡ count (has_edge a b) rs → m + s ≡ length (cond t (r ∷ choose (has_edge a b) rs) (choose (has_edge a b) rs))
    go true e m p q s f = omega (arith, ltb-true 0 (length (uses_on (uses_of_face 0 (vertices r)) a b)) e)
    go false e m p q s f = omega (arith, ltb-false 0 (length (uses_on (uses_of_face 0 (vertices r)) a b)) e)

-- uses are faces: the number of uses of an edge is the number of faces that have it
pub uses_are_faces : (l : List ℤ) (n a b : ℕ) → Valid l n → faces_on l a b ≡ count (has_edge a b) (runs l)
uses_are_faces l n a b v = faces_count n a b 0 (runs l) v.each_face

-- what a valid list says of a use: it runs between two different vertices of the list
pub record Proper (n : ℕ) (u : Use) : Type 0 where
  pub from_in : u.from < n
  pub to_in : u.to < n
  pub ends_differ : u.from ≡ u.to → ⊥

next_moves : (m i : ℕ) → 3 ≤ m → i ≡ next_in m i → ⊥
next_moves m i h = go (eqb (suc i) m) refl
  where
    go : (b : Bool) → eqb (suc i) m ≡ b → i ≡ cond b 0 (suc i) → ⊥
    go true e p = omega (arith, eqb-true (suc i) m e)
    go false e p = omega arith

pub face_proper : (n c : ℕ) (r : List ℤ) → ValidFace n r → All (Proper n) (uses_of_face c (vertices r))
face_proper n c r v =
    all_of (Proper n) no_use (uses_of_face c (vertices r))
    (λ i h.
    let k : i < length (vertices r) = rw (uses_face_long c (vertices r)) at h in
    let j = next_in (length (vertices r)) i in
    let m : j < length (vertices r) = next_inside (length (vertices r)) i k in
    rw (use_in_lem c (vertices r) i no_use k)
    (record {
      from_in = vertex_in n r v i k;
      to_in = vertex_in n r v j m;
      ends_differ = λ e. next_moves (length (vertices r)) i (face_long n r v) (same_place n r v i j k m e);
    }))

pub runs_proper : (n c : ℕ) (rs : List (List ℤ)) → ((k : ℕ) → k < length rs → ValidFace n (get_or rs k [])) → All (Proper n) (uses_from c rs)
runs_proper n c [] v = tt
runs_proper n c (r ∷ rs) v =
    all_append (Proper n) (uses_of_face c (vertices r)) (uses_from (c + length r) rs) (face_proper n c r (v 0 (omega arith))) (runs_proper n (c + length r) rs (λ k h. v (suc k) (omega arith)))

pub use_proper : (l : List ℤ) (n : ℕ) → Valid l n → (e : ℕ) → e < length (uses l) → Proper n (use_at l e)
use_proper l n v e h = all_at (Proper n) no_use (uses l) (runs_proper n 0 (runs l) v.each_face) e h
