-- The count of the singular vertices: the marks of its passes tell the same vertices as the classes, and the running count is
-- always that of the marks.
use Prim.Native.Nat.{ℕ, zero, suc, ◌+◌, ◌-◌, ◌*◌, ◌≤◌, ◌<◌}
use mathlib.Core.Path.{◌≡◌, refl, sym, ◌∙◌, ap}
use mathlib.Core.Bool.{Bool, true, false, cond, ◌&&◌, ◌||◌}
use mathlib.Core.List.{List, [], ◌∷◌}
use native.Mathlib.Numerals.{add-one}
use native.Mathlib.Nat.{sub-zero}
use native.Mathlib.Omega.{arith}
use borrow.Author.Tests.{eqb-true, eq-eqb, ne_eqb, le-leb, lt-leb, ltb-true, ltb-false}
use lib.Dec.{eqb}
use mir.Val.{bool_byte}
use Rattle.std.proofs.Common.{nat_lt}
use lib.IntN.{ℤ, pos}
use lib.ListN.{length, get_or, set, drop, replicate, length-set, get_or-replicate}
use lib.Seq.{drop-cons}
use Rattle.list.specs.Faces.{num, vertices}
use Rattle.order.specs.Choose.{choose, count}
use Rattle.order.proofs.Blocks.{bit}
use Rattle.fans.specs.Classes.{is_singular_class}
use Rattle.groups.specs.Forest.{at}
use Rattle.fans.specs.Marks.{VerticesBelow, touches_at, marks_end, singular_word, fan_mark, finished}
use Rattle.fans.specs.Singular.{is_singular_mark, fan_met, second_fan, after_fans, MadeSingular, EndsCounted}
use Rattle.fans.proofs.Marking.{at_set, from_inside, to_inside, both_set, ends_step}

-- what a store does to a count
count_set : (p : ℕ → Bool) (xs : List ℕ) (v x : ℕ) → v < length xs → count p (set xs v x) + bit (p (at xs v)) ≡ count p xs + bit (p x)
count_set p [] v x h = absurd (omega arith)
count_set p (y ∷ ys) zero x h = go (p x) (p y)
  where
    go : (s t : Bool) → length (cond s (x ∷ choose p ys) (choose p ys)) + bit t ≡ length (cond t (y ∷ choose p ys) (choose p ys)) + bit s
    go true true = omega arith
    go true false = omega arith
    go false true = omega arith
    go false false = omega arith
count_set p (y ∷ ys) (suc v) x h = go (p y) (count_set p ys v x (omega arith))
  where
    go : (t : Bool) → count p (set ys v x) + bit (p (at ys v)) ≡ count p ys + bit (p x) → length (cond t (y ∷ choose p (set ys v x)) (choose p (set ys v x))) + bit (p (at ys v)) ≡ length (cond t (y ∷ choose p ys) (choose p ys)) + bit (p x)
    go true e = omega arith
    go false e = e

pub second_few : (m : ℕ) → second_fan m ≤ 1
second_few m = go (eqb m 1)
  where
    go : (t : Bool) → cond t 1 0 ≤ 1
    go true = omega arith
    go false = omega arith

-- the vertex v was singular already, or was not
module _ (xs : List ℕ) (v : ℕ) (h : v < length xs) where
  stored : count is_singular_mark (set xs v 2) + bit (is_singular_mark (at xs v)) ≡ count is_singular_mark xs + 1
  stored = count_set is_singular_mark xs v 2 h

  -- it was not where its mark was below 2
  pub made : MadeSingular xs v (set xs v 2) (cond (nat_lt (at xs v) 2) 1 0)
  made = go (nat_lt (at xs v) 2) refl
    where
      go : (t : Bool) → nat_lt (at xs v) 2 ≡ t → MadeSingular xs v (set xs v 2) (cond t 1 0)
      go true q =
          let s : count is_singular_mark (set xs v 2) + 0 ≡ count is_singular_mark xs + 1 = rw (lt-leb 2 (at xs v) (ltb-true (at xs v) 2 q)) at stored in
          record { marked = refl; few = omega arith; counted = omega arith }
      go false q =
          let s : count is_singular_mark (set xs v 2) + 1 ≡ count is_singular_mark xs + 1 = rw (le-leb 2 (at xs v) (ltb-false (at xs v) 2 q)) at stored in
          record { marked = refl; few = omega arith; counted = omega arith }

-- a truth value as a number, as the code adds it up
pub byte_is : (b : Bool) → bool_byte b ≡ cond b 1 0
byte_is true = refl
byte_is false = refl

fan_counts : (m : ℕ) → bit (is_singular_mark (fan_met m)) ≡ bit (is_singular_mark m) + second_fan m
fan_counts zero = refl
fan_counts (suc zero) = refl
fan_counts (suc (suc m)) =
    rw (ne_eqb (suc (suc m)) 0 (omega arith), ne_eqb (suc (suc m)) 1 (omega arith), le-leb 2 (suc (suc m)) (omega arith))

fan_counted : (xs : List ℕ) (v : ℕ) → v < length xs → count is_singular_mark xs + second_fan (at xs v) ≡ count is_singular_mark (set xs v (fan_met (at xs v)))
fan_counted xs v h = omega (arith, count_set is_singular_mark xs v (fan_met (at xs v)) h, fan_counts (at xs v))

count_zeros : (n : ℕ) → count is_singular_mark (replicate n 0) ≡ 0
count_zeros zero = refl
count_zeros (suc n) = count_zeros n

-- the endpoints of singular edges

pub record EndsLoop (w : List ℕ) (c n : ℕ) (xs : List ℕ) (k e : ℕ) : Type 0 where
  pub size : length xs ≡ n
  pub few : k ≤ 2 * e
  pub counted : k ≡ count is_singular_mark xs
  pub left : (v : ℕ) → v < n → cond (marks_end (singular_word c) w c v e (c - e)) 2 (at xs v) ≡ cond (marks_end (singular_word c) w c v 0 c) 2 0

pub ends_start : (w : List ℕ) (c n : ℕ) (xs : List ℕ) → length xs ≡ n → xs ≡ replicate n 0 → EndsLoop w c n xs 0 0
ends_start w c n xs s z =
    record {
      size = s;
      few = omega arith;
      counted = rw z (sym (count_zeros n));
      left = λ v h. let none : at xs v ≡ 0 = rw z (get_or-replicate n v 0 0 h) in rw (sub-zero c, none);
    }

end_met : (m : ℕ) (t s : Bool) → cond s 2 (cond t 2 m) ≡ cond ((t && true) || s) 2 m
end_met m true true = refl
end_met m true false = refl
end_met m false s = refl

end_passed : (m : ℕ) (t s : Bool) → cond s 2 m ≡ cond ((t && false) || s) 2 m
end_passed m true s = refl
end_passed m false s = refl

pub record EndsTurn (w : List ℕ) (c n : ℕ) (xs : List ℕ) (k e : ℕ) : Type 0 where
  pub singular : (ys zs : List ℕ) (s t : ℕ) → MadeSingular xs (at w (c + e)) ys s → MadeSingular ys (at w (c + at w e)) zs t → at w (2 * c + e) ≡ c → EndsLoop w c n zs (k + s + t) (e + 1)
  pub other : (at w (2 * c + e) ≡ c → ⊥) → EndsLoop w c n xs k (e + 1)

module _ (w : List ℕ) (c n : ℕ) (W : VerticesBelow w c n) (xs : List ℕ) (k e : ℕ) (h : e < c) (next : at w e < c) (L : EndsLoop w c n xs k e) where
  abbrev a : ℕ
  a = at w (c + e)

  abbrev b : ℕ
  b = at w (c + at w e)

  ends_met : (ys zs : List ℕ) (s t : ℕ) → MadeSingular xs a ys s → MadeSingular ys b zs t → at w (2 * c + e) ≡ c → EndsLoop w c n zs (k + s + t) (e + 1)
  ends_met ys zs s t M N m =
      let from = from_inside w c n W xs L.size e h in
      let to : b < length (set xs a 2) = omega (arith, to_inside w c n W xs L.size e next, length-set xs a 2) in
      let both : zs ≡ set (set xs a 2) b 2 = N.marked ∙ ap (λ (x : List ℕ). set x b 2) M.marked in
      record {
        size = ap length both ∙ length-set (set xs a 2) b 2 ∙ length-set xs a 2 ∙ L.size;
        few = omega (arith, L.few, M.few, N.few);
        counted = omega (arith, L.counted, M.counted, N.counted);
        left = λ v i.
            rw (both, at_set (set xs a 2) b 2 v to, at_set xs a 2 v from, both_set (at xs v) 2 (eqb v a) (eqb v b))
            (end_met (at xs v) (eqb v a || eqb v b) (marks_end (singular_word c) w c v (e + 1) (c - (e + 1))) ∙ (rw (ends_step (singular_word c) w c v e h, eq-eqb (at w (2 * c + e)) c m) at (L.left v i)));
      }

  ends_passed : (at w (2 * c + e) ≡ c → ⊥) → EndsLoop w c n xs k (e + 1)
  ends_passed m =
      record {
        size = L.size;
        few = omega (arith, L.few);
        counted = L.counted;
        left = λ v i.
            end_passed (at xs v) (touches_at w c v e) (marks_end (singular_word c) w c v (e + 1) (c - (e + 1))) ∙ (rw (ends_step (singular_word c) w c v e h, ne_eqb (at w (2 * c + e)) c m) at (L.left v i));
      }

  pub ends_turn : EndsTurn w c n xs k e
  ends_turn =
      record {
        singular = ends_met;
        other = ends_passed;
      }

-- without singular edges there are none
module _ (w : List ℕ) (c : ℕ) (f : (e : ℕ) → e < c → singular_word c e (at w (2 * c + e)) ≡ false) where
  no_ends : (v n e : ℕ) → e + n ≡ c → marks_end (singular_word c) w c v e n ≡ false
  no_ends v zero e h = refl
  no_ends v (suc n) e h = rw (f e (omega arith), no_ends v n (suc e) (omega arith)) (go (touches_at w c v e))
    where
      go : (t : Bool) → ((t && false) || false) ≡ false
      go true = refl
      go false = refl

  pub ends_none : (xs : List ℕ) → xs ≡ replicate (length xs) 0 → EndsCounted w c xs 0
  ends_none xs z =
      record {
        marked = λ v h. rw (no_ends v c 0 (omega arith)) (ap (λ (ys : List ℕ). at ys v) z ∙ get_or-replicate (length xs) v 0 0 h);
        counted = sym (ap (count is_singular_mark) z ∙ count_zeros (length xs));
      }

-- the fans

pub record FansLoop (l : List ℤ) (old xs : List ℕ) (k i : ℕ) : Type 0 where
  pub size : length xs ≡ length old
  pub few : k ≤ i
  pub counted : k + count is_singular_mark old ≡ count is_singular_mark xs
  pub left : (v : ℕ) → v < length old → after_fans (count (eqb v) (vertices (drop i l))) (at xs v) ≡ after_fans (count (eqb v) (vertices l)) (at old v)

fan_stored : (l : List ℤ) (old xs : List ℕ) (k i u s : ℕ) → i < length l → u ≡ num (get_or l i (pos 0)) → u < length old → s ≡ second_fan (at xs u) → FansLoop l old xs k i → FansLoop l old (set xs u (fan_met (at xs u))) (k + s) (i + 1)
fan_stored l old xs k i u s h q inside p L =
    let here : u < length xs = omega (arith, L.size) in
    record {
      size = length-set xs u (fan_met (at xs u)) ∙ L.size;
      few = omega (arith, L.few, second_few (at xs u));
      counted = omega (arith, L.counted, fan_counted xs u here);
      left = λ v j. rw (add-one i, at_set xs u (fan_met (at xs u)) v here) (go v (eqb v u) refl (split v (L.left v j)));
    }
  where
    split : (v : ℕ) → after_fans (count (eqb v) (vertices (drop i l))) (at xs v) ≡ after_fans (count (eqb v) (vertices l)) (at old v) → after_fans (length (cond (eqb v u) (u ∷ choose (eqb v) (vertices (drop (suc i) l))) (choose (eqb v) (vertices (drop (suc i) l))))) (at xs v) ≡ after_fans (count (eqb v) (vertices l)) (at old v)
    split v e = rw q (rw (drop-cons l i (pos 0) h) at e)

    go : (v : ℕ) (t : Bool) → eqb v u ≡ t → after_fans (length (cond (eqb v u) (u ∷ choose (eqb v) (vertices (drop (suc i) l))) (choose (eqb v) (vertices (drop (suc i) l))))) (at xs v) ≡ after_fans (count (eqb v) (vertices l)) (at old v) → after_fans (count (eqb v) (vertices (drop (suc i) l))) (cond (eqb v u) (fan_met (at xs u)) (at xs v)) ≡ after_fans (count (eqb v) (vertices l)) (at old v)
    go v true d e = let same : v ≡ u = eqb-true v u d in rw (d, ← same) (rw d at e)
    go v false d e = rw d (rw d at e)

-- a fan is met at the vertex of entry i, whose mark becomes y
pub fans_more : (l : List ℤ) (old xs : List ℕ) (k i u y s : ℕ) → i < length l → u ≡ num (get_or l i (pos 0)) → u < length old → y ≡ fan_met (at xs u) → s ≡ second_fan (at xs u) → FansLoop l old xs k i → FansLoop l old (set xs u y) (k + s) (i + 1)
fans_more l old xs k i u y s h q inside d p L = rw d (fan_stored l old xs k i u s h q inside p L)

-- the marks against the classes

singular_after : (k : ℕ) → after_fans k 2 ≡ 2
singular_after zero = refl
singular_after (suc k) = singular_after k

pub mark_class : (k : ℕ) (s b : Bool) → is_singular_mark (after_fans k (cond s 2 0)) ≡ is_singular_class (finished (fan_mark k) s b)
mark_class k true b = rw (singular_after k)
mark_class zero false true = refl
mark_class zero false false = refl
mark_class (suc zero) false true = refl
mark_class (suc zero) false false = refl
mark_class (suc (suc k)) false true = rw (singular_after k)
mark_class (suc (suc k)) false false = rw (singular_after k)

pub count_same : (p q : ℕ → Bool) (xs ys : List ℕ) → length xs ≡ length ys → ((i : ℕ) → i < length xs → p (at xs i) ≡ q (at ys i)) → count p xs ≡ count q ys
count_same p q [] [] n f = refl
count_same p q [] (y ∷ ys) n f = absurd (omega arith)
count_same p q (x ∷ xs) [] n f = absurd (omega arith)
count_same p q (x ∷ xs) (y ∷ ys) n f = rw (f 0 (omega arith)) (go (q y) (count_same p q xs ys (omega arith) (λ i h. f (suc i) (omega arith))))
  where
    go : (t : Bool) → count p xs ≡ count q ys → length (cond t (x ∷ choose p xs) (choose p xs)) ≡ length (cond t (y ∷ choose q ys) (choose q ys))
    go true e = ap suc e
    go false e = e
