-- Laws of the uses of a list: there is one for each corner, in the order of the corners, and its next corner is where the use
-- that follows it in its face starts.
--
--   use_at l e      the use that starts at corner e of the list l
--   use_in c vs i   the use at place i of the face with vertices vs, whose first corner is c
use Prim.Native.Nat.{ℕ, zero, suc, ◌+◌, ◌-◌, ◌≤◌, ◌<◌}
use mathlib.Core.Path.{◌≡◌, refl, sym, ◌∙◌, ap}
use mathlib.Core.Bool.{Bool, true, false, cond}
use mathlib.Core.List.{List, [], ◌∷◌, ◌++◌}
use native.Mathlib.Omega.{arith}
use native.Mathlib.Nat.{add-zero, add-suc, suc-add, zero-add}
use native.Mathlib.Numerals.{add-one}
use borrow.Author.Tests.{eqb-false, ltb-true, ltb-false}
use lib.Dec.{eqb, ltb, eqb-zero-suc, eqb-suc-suc}
use lib.IntN.{ℤ, pos}
use lib.ListN.{length, get_or, length-append, length-map, get_or-append, get_or-map}
use lib.Seq.{get_or-append-add}
use Rattle.list.specs.Faces.{is_end, push, runs, corners, num, vertices}
use Rattle.order.specs.Choose.{up_from}
use Rattle.edges.specs.Uses.{Use, uses_to_end, uses_of_face, uses_from, uses, next_in, corners_of, no_use, use_at}
use Rattle.edges.specs.Table.{vertex_words}
use Rattle.order.proofs.Lists.{up_from-add, get_or-up_from, map-append}

-- the runs put behind one another
abbrev pub joined : List (List ℤ) → List ℤ
joined [] = []
joined (r ∷ rs) = r ++ joined rs

joined_push : (x : ℤ) (rs : List (List ℤ)) → joined (push x rs) ≡ x ∷ joined rs
joined_push x [] = refl
joined_push x (r ∷ rs) = refl

pub corners_joined : (l : List ℤ) → corners l ≡ joined (runs l)
corners_joined [] = refl
corners_joined (x ∷ xs) = go (is_end x) (corners_joined xs)
  where
    go : (b : Bool) → corners xs ≡ joined (runs xs) → cond b (corners xs) (x ∷ corners xs) ≡ joined (cond b ([] ∷ runs xs) (push x (runs xs)))
    go true e = e
    go false e = rw e (sym (joined_push x (runs xs)))

-- the vertices where the uses start are those of the corners

from_to_end : (c₀ v₀ c v : ℕ) (ws : List ℕ) → vertex_words (uses_to_end c₀ v₀ c v ws) ≡ v ∷ ws
from_to_end c₀ v₀ c v [] = refl
from_to_end c₀ v₀ c v (w ∷ ws) = ap (λ (l : List ℕ). v ∷ l) (from_to_end c₀ v₀ (c + 1) w ws)

pub from_face : (c : ℕ) (vs : List ℕ) → vertex_words (uses_of_face c vs) ≡ vs
from_face c [] = refl
from_face c (v ∷ vs) = from_to_end c v c v vs

from_runs : (c : ℕ) (rs : List (List ℤ)) → vertex_words (uses_from c rs) ≡ vertices (joined rs)
from_runs c [] = refl
from_runs c (r ∷ rs) =
    map-append (λ (u : Use). u.from) (uses_of_face c (vertices r)) (uses_from (c + length r) rs) ∙
    rw (from_face c (vertices r), from_runs (c + length r) rs) (sym (map-append num r (joined rs)))

pub from_corners : (l : List ℤ) → vertex_words (uses l) ≡ vertices (corners l)
from_corners l = rw (corners_joined l) (from_runs 0 (runs l))

-- one use for each corner
pub uses_long : (l : List ℤ) → length (uses l) ≡ length (corners l)
uses_long l = sym (length-map (uses l) (λ (u : Use). u.from)) ∙ ap length (from_corners l) ∙ length-map (corners l) num

pub uses_face_long : (c : ℕ) (vs : List ℕ) → length (uses_of_face c vs) ≡ length vs
uses_face_long c vs = sym (length-map (uses_of_face c vs) (λ (u : Use). u.from)) ∙ ap length (from_face c vs)

-- the e-th use starts at corner e

corner_to_end : (c₀ v₀ c v : ℕ) (ws : List ℕ) → corners_of (uses_to_end c₀ v₀ c v ws) ≡ up_from c (suc (length ws))
corner_to_end c₀ v₀ c v [] = refl
corner_to_end c₀ v₀ c v (w ∷ ws) = rw add-one (ap (λ (l : List ℕ). c ∷ l) (corner_to_end c₀ v₀ (suc c) w ws))

corner_face : (c : ℕ) (vs : List ℕ) → corners_of (uses_of_face c vs) ≡ up_from c (length vs)
corner_face c [] = refl
corner_face c (v ∷ vs) = corner_to_end c v c v vs

pub corner_runs : (c : ℕ) (rs : List (List ℤ)) → corners_of (uses_from c rs) ≡ up_from c (length (joined rs))
corner_runs c [] = refl
corner_runs c (r ∷ rs) =
    map-append (λ (u : Use). u.corner) (uses_of_face c (vertices r)) (uses_from (c + length r) rs) ∙
    rw (corner_face c (vertices r), corner_runs (c + length r) rs, length-map r num, length-append r (joined rs)) (sym (up_from-add c (length r) (length (joined rs))))

pub corner_row : (l : List ℤ) → corners_of (uses l) ≡ up_from 0 (length (uses l))
corner_row l = rw (uses_long l, corners_joined l) (corner_runs 0 (runs l))

module _ (l : List ℤ) (e : ℕ) (h : e < length (uses l)) where
  pub corner_at_lem : (use_at l e).corner ≡ e
  corner_at_lem =
      sym (get_or-map (λ (u : Use). u.corner) (uses l) e no_use) ∙ ap (λ (xs : List ℕ). get_or xs e 0) (corner_row l) ∙ get_or-up_from 0 (length (uses l)) e 0 h ∙ zero-add e

pub from_at : (l : List ℤ) (e : ℕ) → (use_at l e).from ≡ num (get_or (corners l) e (pos 0))
from_at l e =
    sym (get_or-map (λ (u : Use). u.from) (uses l) e no_use) ∙ ap (λ (xs : List ℕ). get_or xs e 0) (from_corners l) ∙ get_or-map num (corners l) e (pos 0)

-- the uses of one face, by their places in it

abbrev pub use_in : ℕ → List ℕ → ℕ → Use
use_in c vs i = record { corner = c + i; next = c + next_in (length vs) i; from = get_or vs i 0; to = get_or vs (next_in (length vs) i) 0 }

use_to_end : (c₀ v₀ c v : ℕ) (ws : List ℕ) (i : ℕ) (d : Use) → i ≤ length ws → get_or (uses_to_end c₀ v₀ c v ws) i d ≡ record { corner = c + i; next = cond (eqb i (length ws)) c₀ (c + suc i); from = get_or (v ∷ ws) i 0; to = cond (eqb i (length ws)) v₀ (get_or ws i 0) }
use_to_end c₀ v₀ c v [] zero d h = rw add-zero
use_to_end c₀ v₀ c v [] (suc i) d h = absurd (omega arith)
use_to_end c₀ v₀ c v (w ∷ ws) zero d h = rw (eqb-zero-suc (length ws), add-zero)
use_to_end c₀ v₀ c v (w ∷ ws) (suc i) d h = use_to_end c₀ v₀ (c + 1) w ws i d (omega arith) ∙ simp (eqb-suc-suc, add-one, suc-add, add-suc)

pub use_in_lem : (c : ℕ) (vs : List ℕ) (i : ℕ) (d : Use) → i < length vs → get_or (uses_of_face c vs) i d ≡ use_in c vs i
use_in_lem c [] i d h = absurd (omega arith)
use_in_lem c (v ∷ vs) i d h = use_to_end c v c v vs i d (omega arith) ∙ rw (eqb-suc-suc i (length vs)) (go (eqb i (length vs)))
  where
    go : (b : Bool) → ◌≡◌ {A = Use} (record { corner = c + i; next = cond b c (c + suc i); from = get_or (v ∷ vs) i 0; to = cond b v (get_or vs i 0) }) (record { corner = c + i; next = c + cond b 0 (suc i); from = get_or (v ∷ vs) i 0; to = get_or (v ∷ vs) (cond b 0 (suc i)) 0 })
    go true = rw add-zero
    go false = refl

pub next_inside : (m i : ℕ) → i < m → next_in m i < m
next_inside m i h = go (eqb (suc i) m) refl
  where
    go : (b : Bool) → eqb (suc i) m ≡ b → cond b 0 (suc i) < m
    go true e = omega arith
    go false e = omega (arith, eqb-false (suc i) m e)

-- the next corner of a use is the corner of the use that starts where it ends: uses us that start with corner c
pub record Follows (c : ℕ) (us : List Use) (i : ℕ) : Type 0 where
  pub place : ℕ
  pub inside : place < length us
  pub next_is : (get_or us i no_use).next ≡ c + place
  pub to_is : (get_or us i no_use).to ≡ (get_or us place no_use).from

follows_face : (c : ℕ) (vs : List ℕ) (i : ℕ) → i < length vs → Follows c (uses_of_face c vs) i
follows_face c vs i h =
    let j = next_in (length vs) i in
    let k : j < length vs = next_inside (length vs) i h in
    record {
      place = j;
      inside = rw (uses_face_long c vs) k;
      next_is = ap (λ (u : Use). u.next) (use_in_lem c vs i no_use h);
      to_is = ap (λ (u : Use). u.to) (use_in_lem c vs i no_use h) ∙ sym (ap (λ (u : Use). u.from) (use_in_lem c vs j no_use k));
    }

follows_left : (c : ℕ) (us ws : List Use) (i : ℕ) → i < length us → Follows c us i → Follows c (us ++ ws) i
follows_left c us ws i h f =
    record {
      place = f.place;
      inside = omega (arith, f.inside, length-append us ws);
      next_is = rw (get_or-append us ws no_use i h) f.next_is;
      to_is = rw (get_or-append us ws no_use i h, get_or-append us ws no_use f.place f.inside) f.to_is;
    }

follows_right : (c : ℕ) (us ws : List Use) (i : ℕ) → Follows (c + length us) ws i → Follows c (us ++ ws) (length us + i)
follows_right c us ws i f =
    record {
      place = length us + f.place;
      inside = omega (arith, f.inside, length-append us ws);
      next_is = rw (get_or-append-add us ws i no_use) (omega (arith, f.next_is));
      to_is = rw (get_or-append-add us ws i no_use, get_or-append-add us ws f.place no_use) f.to_is;
    }

follows_runs : (c : ℕ) (rs : List (List ℤ)) (i : ℕ) → i < length (uses_from c rs) → Follows c (uses_from c rs) i
follows_runs c [] i h = absurd (omega arith)
follows_runs c (r ∷ rs) i h = go (ltb i (length (uses_of_face c (vertices r)))) refl (follows_runs (c + length r) rs)
  where
    long : length (uses_of_face c (vertices r)) ≡ length r
    long = uses_face_long c (vertices r) ∙ length-map r num

    go : (b : Bool) → ltb i (length (uses_of_face c (vertices r))) ≡ b → ((j : ℕ) → j < length (uses_from (c + length r) rs) → Follows (c + length r) (uses_from (c + length r) rs) j) → Follows c (uses_from c (r ∷ rs)) i
    go true e rest =
        let k : i < length (uses_of_face c (vertices r)) = ltb-true i (length (uses_of_face c (vertices r))) e in
        follows_left c (uses_of_face c (vertices r)) (uses_from (c + length r) rs) i k (follows_face c (vertices r) i (rw (uses_face_long c (vertices r)) at k))
    go false e rest =
        let k : length (uses_of_face c (vertices r)) ≤ i = ltb-false i (length (uses_of_face c (vertices r))) e in
        let j = i - length r in
        let m : j < length (uses_from (c + length r) rs) = omega (arith, long, length-append (uses_of_face c (vertices r)) (uses_from (c + length r) rs)) in
        let s : length (uses_of_face c (vertices r)) + j ≡ i = omega (arith, long) in
        rw s at (follows_right c (uses_of_face c (vertices r)) (uses_from (c + length r) rs) j (rw long (rest j m)))

-- of corner e: its next corner is a corner of the list, on the vertex to which its use runs
module _ (l : List ℤ) (e : ℕ) (h : e < length (uses l)) where
  follows : Follows 0 (uses l) e
  follows = follows_runs 0 (runs l) e h

  next_place : (use_at l e).next ≡ follows.place
  next_place = follows.next_is ∙ zero-add follows.place

  pub next_below : (use_at l e).next < length (uses l)
  next_below = rw next_place follows.inside

  pub to_next : (use_at l e).to ≡ (use_at l (use_at l e).next).from
  to_next = rw next_place follows.to_is
