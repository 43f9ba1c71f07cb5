-- What a valid list says of its corners, in the words in which the demands are proved: one use starts at each corner and one stops
-- there, and its two neighbours lie on vertices that differ from its own and from each other.
--
--   next l e        the corner that follows corner e in its face
--   Cornered l      those facts of the list l
use Prim.Native.Nat.{ℕ, suc, ◌+◌, ◌-◌, ◌≤◌, ◌<◌}
use mathlib.Core.Path.{◌≡◌, refl, sym, ◌∙◌, ap}
use mathlib.Core.Bool.{Bool, true, false, cond}
use mathlib.Core.List.{List, [], ◌∷◌, ◌++◌}
use native.Mathlib.Nat.{zero-add}
use native.Mathlib.Omega.{arith}
use borrow.Author.Tests.{eqb-true, ltb-true, ltb-false}
use lib.Dec.{eqb, ltb}
use lib.IntN.{ℤ}
use lib.ListN.{length, get_or, length-append, length-map, get_or-append}
use lib.Seq.{get_or-append-add}
use Rattle.list.specs.Faces.{runs, num, vertices}
use Rattle.list.specs.Check.{ValidFace, Valid}
use Rattle.edges.specs.Uses.{Use, uses_of_face, uses_from, uses, next_in, no_use, use_at}
use Rattle.edges.proofs.Uses.{use_in_lem, next_inside, uses_face_long, uses_long, from_at, to_next, next_below}
use Rattle.edges.proofs.Faces.{next_twice, use_proper, same_place, face_long}
use Rattle.demands.specs.Renumbered.{Corner, vertex_at}

abbrev pub next : List ℤ → ℕ → ℕ
next l e = (use_at l e).next

pub record Cornered (l : List ℤ) : Type 0 where
  pub next_inside : (e : ℕ) → Corner l e → Corner l (next l e)
  pub next_once : (e f : ℕ) → Corner l e → Corner l f → next l e ≡ next l f → e ≡ f
  pub ends_differ : (e : ℕ) → Corner l e → vertex_at l e ≡ vertex_at l (next l e) → ⊥
  pub neighbours_differ : (e : ℕ) → Corner l e → vertex_at l e ≡ vertex_at l (next l (next l e)) → ⊥

-- an element of two lists put together is one of the first or of the second
pub data Part {A : Type 0} (d : A) (xs ys : List A) (i : ℕ) : Type 0 where
  first : i < length xs → get_or (xs ++ ys) i d ≡ get_or xs i d → Part d xs ys i
  second : (j : ℕ) → j < length ys → i ≡ length xs + j → get_or (xs ++ ys) i d ≡ get_or ys j d → Part d xs ys i

pub part : {A : Type 0} (d : A) (xs ys : List A) (i : ℕ) → i < length (xs ++ ys) → Part d xs ys i
part d xs ys i h = go (ltb i (length xs)) refl
  where
    go : (b : Bool) → ltb i (length xs) ≡ b → Part d xs ys i
    go true e = let k : i < length xs = ltb-true i (length xs) e in first k (get_or-append xs ys d i k)
    go false e =
        let k : length xs ≤ i = ltb-false i (length xs) e in
        let s : length xs + (i - length xs) ≡ i = omega arith in
        second (i - length xs) (omega (arith, length-append xs ys)) (sym s) (rw s at (get_or-append-add xs ys (i - length xs) d))

next_in_once : (m i j : ℕ) → i < m → j < m → next_in m i ≡ next_in m j → i ≡ j
next_in_once m i j h k = go (eqb (suc i) m) refl (eqb (suc j) m) refl
  where
    go : (a : Bool) → eqb (suc i) m ≡ a → (b : Bool) → eqb (suc j) m ≡ b → cond a 0 (suc i) ≡ cond b 0 (suc j) → i ≡ j
    go true p true q e = omega (arith, eqb-true (suc i) m p, eqb-true (suc j) m q)
    go true p false q e = omega arith
    go false p true q e = omega arith
    go false p false q e = omega arith

abbrev next_of : List Use → ℕ → ℕ
next_of us i = (get_or us i no_use).next

-- the same of the uses us, whose first corner is c
record Ring (c : ℕ) (us : List Use) : Type 0 where
  range : (i : ℕ) → i < length us → (c ≤ next_of us i) × (next_of us i < c + length us)
  once : (i j : ℕ) → i < length us → j < length us → next_of us i ≡ next_of us j → i ≡ j
  apart : (i k : ℕ) → i < length us → k < length us → next_of us i ≡ c + k → (get_or us i no_use).from ≡ (get_or us k no_use).to → ⊥

ring_none : (c : ℕ) → Ring c []
ring_none c = record { range = λ i h. absurd (omega arith); once = λ i j h k e. absurd (omega arith); apart = λ i k h h' e p. omega arith }

module _ (n c : ℕ) (r : List ℤ) (v : ValidFace n r) where
  abbrev vs : List ℕ
  vs = vertices r

  abbrev us : List Use
  us = uses_of_face c vs

  abbrev m : ℕ
  m = length vs

  long : length us ≡ m
  long = uses_face_long c vs

  next_at : (i : ℕ) → i < length us → next_of us i ≡ c + next_in m i
  next_at i h = ap (λ (u : Use). u.next) (use_in_lem c vs i no_use (omega (arith, long)))

  ring_face : Ring c us
  ring_face = record {
    range = λ i h. let b = next_inside m i (omega (arith, long)) in (omega (arith, next_at i h), omega (arith, next_at i h, long));
    once = λ i j h k e. next_in_once m i j (omega (arith, long)) (omega (arith, long)) (omega (arith, next_at i h, next_at j k));
    apart = far;
  }
    where
      far : (i k : ℕ) → i < length us → k < length us → next_of us i ≡ c + k → (get_or us i no_use).from ≡ (get_or us k no_use).to → ⊥
      far i k h h' e p =
          let i_below : i < m = omega (arith, long) in
          let k_below : k < m = omega (arith, long) in
          let is_next : k ≡ next_in m i = omega (arith, next_at i h) in
          let vertex : get_or vs i 0 ≡ get_or vs (next_in m k) 0 = sym (ap (λ (u : Use). u.from) (use_in_lem c vs i no_use i_below)) ∙ p ∙ ap (λ (u : Use). u.to) (use_in_lem c vs k no_use k_below) in
          next_twice m i (face_long n r v) (same_place n r v i (next_in m k) i_below (next_inside m k k_below) vertex ∙ ap (next_in m) is_next)

ring_append : (c : ℕ) (us ws : List Use) → Ring c us → Ring (c + length us) ws → Ring c (us ++ ws)
ring_append c us ws a b = record {
  range = λ i h. range i (part no_use us ws i h);
  once = λ i j h k. once i j (part no_use us ws i h) (part no_use us ws j k);
  apart = λ i k h h'. apart i k (part no_use us ws i h) (part no_use us ws k h');
}
  where
    all : List Use
    all = us ++ ws

    long : length all ≡ length us + length ws
    long = length-append us ws

    nexts : {u w : Use} → u ≡ w → u.next ≡ w.next
    nexts p = ap (λ (u : Use). u.next) p

    froms : {u w : Use} → u ≡ w → u.from ≡ w.from
    froms p = ap (λ (u : Use). u.from) p

    tos : {u w : Use} → u ≡ w → u.to ≡ w.to
    tos p = ap (λ (u : Use). u.to) p

    range : (i : ℕ) → Part no_use us ws i → (c ≤ next_of all i) × (next_of all i < c + length all)
    range i (first h p) = omega (arith, a.range i h, long, nexts p)
    range i (second j h e p) = omega (arith, b.range j h, long, nexts p)

    once : (i j : ℕ) → Part no_use us ws i → Part no_use us ws j → next_of all i ≡ next_of all j → i ≡ j
    once i j (first h p) (first k q) e = a.once i j h k (sym (nexts p) ∙ e ∙ nexts q)
    once i j (first h p) (second j' k f q) e = absurd (omega (arith, a.range i h, b.range j' k, nexts p, nexts q))
    once i j (second i' h f p) (first k q) e = absurd (omega (arith, b.range i' h, a.range j k, nexts p, nexts q))
    once i j (second i' h f p) (second j' k g q) e = omega (arith, b.once i' j' h k (sym (nexts p) ∙ e ∙ nexts q))

    apart : (i k : ℕ) → Part no_use us ws i → Part no_use us ws k → next_of all i ≡ c + k → (get_or all i no_use).from ≡ (get_or all k no_use).to → ⊥
    apart i k (first h p) (first h' q) e f = a.apart i k h h' (sym (nexts p) ∙ e) (sym (froms p) ∙ f ∙ tos q)
    apart i k (first h p) (second k' h' g q) e f = omega (arith, a.range i h, nexts p)
    apart i k (second i' h g p) (first h' q) e f = omega (arith, b.range i' h, nexts p)
    apart i k (second i' h g p) (second k' h' g' q) e f = b.apart i' k' h h' (omega (arith, nexts p)) (sym (froms p) ∙ f ∙ tos q)

ring_runs : (n c : ℕ) (rs : List (List ℤ)) → ((k : ℕ) → k < length rs → ValidFace n (get_or rs k [])) → Ring c (uses_from c rs)
ring_runs n c [] v = ring_none c
ring_runs n c (r ∷ rs) v =
    let long : length (uses_of_face c (vertices r)) ≡ length r = uses_face_long c (vertices r) ∙ length-map r num in
    ring_append c (uses_of_face c (vertices r)) (uses_from (c + length r) rs) (ring_face n c r (v 0 (omega arith)))
    (rw long (ring_runs n (c + length r) rs (λ k h. v (suc k) (omega arith))))

pub valid_cornered : (l : List ℤ) (n : ℕ) → Valid l n → Cornered l
valid_cornered l n v = record {
  next_inside = λ e h. rw (← uses_long l) (next_below l e (omega (arith, uses_long l)));
  next_once = λ e f h k. ring.once e f (omega (arith, uses_long l)) (omega (arith, uses_long l));
  ends_differ = λ e h p. let b : e < length (uses l) = omega (arith, uses_long l) in (use_proper l n v e b).ends_differ (from_at l e ∙ p ∙ sym (from_at l (next l e)) ∙ sym (to_next l e b));
  neighbours_differ = λ e h p.
      let b : e < length (uses l) = omega (arith, uses_long l) in
      let d : next l e < length (uses l) = next_below l e b in
      ring.apart e (next l e) b d (sym (zero-add (next l e))) (from_at l e ∙ p ∙ sym (from_at l (next l (next l e))) ∙ sym (to_next l (next l e) d));
}
  where
    ring : Ring 0 (uses l)
    ring = ring_runs n 0 (runs l) v.each_face
