-- The passes that mark the vertices: the marks so far and the corners that are left always give the final marks.
use Prim.Native.Nat.{ℕ, zero, suc, ◌+◌, ◌-◌, ◌*◌, ◌≤◌, ◌<◌}
use mathlib.Core.Path.{◌≡◌, refl, sym, ◌∙◌, ap}
use mathlib.Core.Bool.{Bool, true, false, cond, ◌&&◌, ◌||◌}
use mathlib.Core.List.{List}
use native.Mathlib.Numerals.{add-one}
use native.Mathlib.Omega.{arith}
use borrow.Author.Tests.{eqb-true, eqb-false, eq-eqb, ne_eqb, le-leb, lt-leb}
use lib.Dec.{eqb}
use lib.ListN.{length, set, length-set}
use lib.Seq.{get_or-set_same, get_or-set_other}
use Rattle.groups.specs.Forest.{at}
use Rattle.fans.specs.Marks.{VerticesBelow, is_root_on, roots_on, fan_mark, touches_at, marks_end, boundary_word, singular_word, raised, finished, final_mark}
use Rattle.groups.proofs.Counting.{count_down}

pub at_set : (xs : List ℕ) (a x v : ℕ) → a < length xs → at (set xs a x) v ≡ cond (eqb v a) x (at xs v)
at_set xs a x v h = go (eqb v a) refl
  where
    go : (t : Bool) → eqb v a ≡ t → at (set xs a x) v ≡ cond t x (at xs v)
    go true e = rw (eqb-true v a e) (get_or-set_same xs a x 0 h)
    go false e = get_or-set_other xs a v x 0 (eqb-false v a e)

-- both ends of the edge at corner e have a mark
module _ (w : List ℕ) (c n : ℕ) (W : VerticesBelow w c n) (xs : List ℕ) (size : length xs ≡ n) (e : ℕ) where
  pub from_inside : e < c → at w (c + e) < length xs
  from_inside h = omega (arith, W e h)

  pub to_inside : at w e < c → at w (c + at w e) < length xs
  to_inside h = omega (arith, W (at w e) h)

fan_first : (k : ℕ) → fan_mark k ≡ 0 → fan_mark (suc k) ≡ 1
fan_first zero e = refl
fan_first (suc zero) e = absurd (omega arith)
fan_first (suc (suc k)) e = absurd (omega arith)

fan_again : (k : ℕ) → (fan_mark k ≡ 0 → ⊥) → fan_mark (suc k) ≡ 4
fan_again zero n = absurd (n refl)
fan_again (suc k) n = refl

-- k of the vertex's roots are met, and its mark says so
pub record FanSeen (w : List ℕ) (c : ℕ) (xs : List ℕ) (e v : ℕ) : Type 0 where
  pub met : ℕ
  pub mark : at xs v ≡ fan_mark met
  pub left : met + roots_on w c v e (c - e) ≡ roots_on w c v 0 c

pub record FanLoop (w : List ℕ) (c n : ℕ) (xs : List ℕ) (e : ℕ) : Type 0 where
  pub size : length xs ≡ n
  pub seen : (v : ℕ) → v < n → FanSeen w c xs e v

roots_step : (w : List ℕ) (c v e : ℕ) → e < c → (t : Bool) → is_root_on w c v e ≡ t → roots_on w c v e (c - e) ≡ cond t (suc (roots_on w c v (e + 1) (c - (e + 1)))) (roots_on w c v (e + 1) (c - (e + 1)))
roots_step w c v e h true q = rw (count_down c e h, add-one e, q)
roots_step w c v e h false q = rw (count_down c e h, add-one e, q)

pub record FanTurn (w : List ℕ) (c n : ℕ) (xs : List ℕ) (e : ℕ) : Type 0 where
  pub child : at w (3 * c + e) < e → FanLoop w c n xs (e + 1)
  pub first : e ≤ at w (3 * c + e) → at xs (at w (c + e)) ≡ 0 → FanLoop w c n (set xs (at w (c + e)) 1) (e + 1)
  pub again : e ≤ at w (3 * c + e) → (at xs (at w (c + e)) ≡ 0 → ⊥) → FanLoop w c n (set xs (at w (c + e)) 4) (e + 1)

module _ (w : List ℕ) (c n : ℕ) (W : VerticesBelow w c n) (xs : List ℕ) (e : ℕ) (h : e < c) (L : FanLoop w c n xs e) where
  fan_child : at w (3 * c + e) < e → FanLoop w c n xs (e + 1)
  fan_child p = record { size = L.size; seen = λ v i. same v (L.seen v i) }
    where
      same : (v : ℕ) → FanSeen w c xs e v → FanSeen w c xs (e + 1) v
      same v S = record { met = S.met; mark = S.mark; left = rw (roots_step w c v e h false (rw (lt-leb e (at w (3 * c + e)) p))) at S.left }

  -- corner e is a root on its vertex, which gets the mark x
  fan_root : (x : ℕ) → e ≤ at w (3 * c + e) → ((k : ℕ) → at xs (at w (c + e)) ≡ fan_mark k → x ≡ fan_mark (suc k)) → FanLoop w c n (set xs (at w (c + e)) x) (e + 1)
  fan_root x p f = record { size = length-set xs (at w (c + e)) x ∙ L.size; seen = λ v i. go v (L.seen v i) (eqb v (at w (c + e))) refl }
    where
      here : at w (c + e) < length xs
      here = from_inside w c n W xs L.size e h

      root : (v : ℕ) (t : Bool) → eqb v (at w (c + e)) ≡ t → is_root_on w c v e ≡ t
      root v t q = rw (le-leb e (at w (3 * c + e)) p) q

      go : (v : ℕ) → FanSeen w c xs e v → (t : Bool) → eqb v (at w (c + e)) ≡ t → FanSeen w c (set xs (at w (c + e)) x) (e + 1) v
      go v S true q =
          let on : v ≡ at w (c + e) = eqb-true v (at w (c + e)) q in
          let l : S.met + suc (roots_on w c v (e + 1) (c - (e + 1))) ≡ roots_on w c v 0 c = rw (roots_step w c v e h true (root v true q)) at S.left in
          record {
            met = suc S.met;
            mark = at_set xs (at w (c + e)) x v here ∙ rw q (f S.met (ap (at xs) (sym on) ∙ S.mark));
            left = omega arith;
          }
      go v S false q =
          record {
            met = S.met;
            mark = at_set xs (at w (c + e)) x v here ∙ rw q S.mark;
            left = rw (roots_step w c v e h false (root v false q)) at S.left;
          }

  pub fan_turn : FanTurn w c n xs e
  fan_turn =
      record {
        child = fan_child;
        first = λ p z. fan_root 1 p (λ k q. sym (fan_first k (sym q ∙ z)));
        again = λ p z. fan_root 4 p (λ k q. sym (fan_again k (λ o. z (q ∙ o))));
      }

pub fan_done : (w : List ℕ) (c n : ℕ) (xs : List ℕ) (e : ℕ) → c ≤ e → FanLoop w c n xs e → (v : ℕ) → v < n → at xs v ≡ fan_mark (roots_on w c v 0 c)
fan_done w c n xs e h L v i =
    let S = L.seen v i in
    let none : c - e ≡ 0 = omega arith in
    let all : S.met + 0 ≡ roots_on w c v 0 c = rw none at S.left in
    let met : S.met ≡ roots_on w c v 0 c = omega arith in
    S.mark ∙ ap fan_mark met

raised_twice : (k : ℕ) → raised (raised k) ≡ raised k
raised_twice k = go (eqb k 1) refl
  where
    go : (t : Bool) → eqb k 1 ≡ t → raised (cond t 2 k) ≡ cond t 2 k
    go true q = refl
    go false q = rw q

-- a mark at an edge's end, and the same said of what is left
end_boundary : (k : ℕ) (t s b : Bool) → finished (cond t (raised k) k) s b ≡ finished k ((t && false) || s) ((t && true) || b)
end_boundary k true true b = refl
end_boundary k true false true = raised_twice k
end_boundary k true false false = refl
end_boundary k false s b = refl

end_singular : (k : ℕ) (t s b : Bool) → finished (cond t 3 k) s b ≡ finished k ((t && true) || s) ((t && false) || b)
end_singular k true true b = refl
end_singular k true false true = refl
end_singular k true false false = refl
end_singular k false s b = refl

end_regular : (k : ℕ) (t s b : Bool) → finished k s b ≡ finished k ((t && false) || s) ((t && false) || b)
end_regular k true s b = refl
end_regular k false s b = refl

-- the two ends of an edge are marked, both or the one that they are
both_raised : (k : ℕ) (s t : Bool) → cond t (raised (cond s (raised k) k)) (cond s (raised k) k) ≡ cond (s || t) (raised k) k
both_raised k true true = raised_twice k
both_raised k true false = refl
both_raised k false true = refl
both_raised k false false = refl

pub both_set : (k x : ℕ) (s t : Bool) → cond t x (cond s x k) ≡ cond (s || t) x k
both_set k x true true = refl
both_set k x true false = refl
both_set k x false true = refl
both_set k x false false = refl

raise_at : (xs : List ℕ) (a v : ℕ) → a < length xs → at (set xs a (raised (at xs a))) v ≡ cond (eqb v a) (raised (at xs v)) (at xs v)
raise_at xs a v h = at_set xs a (raised (at xs a)) v h ∙ go (eqb v a) refl
  where
    go : (t : Bool) → eqb v a ≡ t → cond t (raised (at xs a)) (at xs v) ≡ cond t (raised (at xs v)) (at xs v)
    go true q = rw (eqb-true v a q)
    go false q = refl

pub record EndLoop (w : List ℕ) (c : ℕ) (xs₀ xs : List ℕ) (e : ℕ) : Type 0 where
  pub size : length xs ≡ length xs₀
  pub left : (v : ℕ) → v < length xs₀ → finished (at xs v) (marks_end (singular_word c) w c v e (c - e)) (marks_end boundary_word w c v e (c - e)) ≡ final_mark w c v (at xs₀ v)

pub ends_step : (kind : ℕ → ℕ → Bool) (w : List ℕ) (c v e : ℕ) → e < c → marks_end kind w c v e (c - e) ≡ ((touches_at w c v e && kind e (at w (2 * c + e))) || marks_end kind w c v (e + 1) (c - (e + 1)))
ends_step kind w c v e h = rw (count_down c e h, add-one e)

abbrev twice_raised : List ℕ → ℕ → ℕ → List ℕ
twice_raised xs a b = set (set xs a (raised (at xs a))) b (raised (at (set xs a (raised (at xs a))) b))

pub record EndTurn (w : List ℕ) (c : ℕ) (xs₀ xs : List ℕ) (e : ℕ) : Type 0 where
  pub boundary : at w (2 * c + e) ≡ e → EndLoop w c xs₀ (twice_raised xs (at w (c + e)) (at w (c + at w e))) (e + 1)
  pub singular : at w (2 * c + e) ≡ c → EndLoop w c xs₀ (set (set xs (at w (c + e)) 3) (at w (c + at w e)) 3) (e + 1)
  pub regular : (at w (2 * c + e) ≡ e → ⊥) → (at w (2 * c + e) ≡ c → ⊥) → EndLoop w c xs₀ xs (e + 1)

module _ (w : List ℕ) (c : ℕ) (xs₀ : List ℕ) (W : VerticesBelow w c (length xs₀)) (xs : List ℕ) (e : ℕ) (h : e < c) (next : at w e < c) (L : EndLoop w c xs₀ xs e) where
  -- what is left at e, once the kind of its edge is known
  turned : (ys : List ℕ) (s b : Bool) → singular_word c e (at w (2 * c + e)) ≡ s → boundary_word e (at w (2 * c + e)) ≡ b → length ys ≡ length xs → ((v : ℕ) (r t : Bool) → finished (at ys v) r t ≡ finished (at xs v) ((touches_at w c v e && s) || r) ((touches_at w c v e && b) || t)) → EndLoop w c xs₀ ys (e + 1)
  turned ys s b p q n f =
      record {
        size = n ∙ L.size;
        left = λ v i.
            f v (marks_end (singular_word c) w c v (e + 1) (c - (e + 1))) (marks_end boundary_word w c v (e + 1) (c - (e + 1))) ∙
            (rw (ends_step (singular_word c) w c v e h, ends_step boundary_word w c v e h, p, q) at (L.left v i));
      }

  pub end_turn : EndTurn w c xs₀ xs e
  end_turn =
      let a = at w (c + e) in
      let b = at w (c + at w e) in
      let from = from_inside w c (length xs₀) W xs L.size e h in
      let to = to_inside w c (length xs₀) W xs L.size e next in
      record {
        boundary = λ m.
            turned (twice_raised xs a b) false true (ne_eqb (at w (2 * c + e)) c (omega arith)) (eq-eqb (at w (2 * c + e)) e m)
            (length-set (set xs a (raised (at xs a))) b (raised (at (set xs a (raised (at xs a))) b)) ∙ length-set xs a (raised (at xs a)))
            (λ v r t. rw (raise_at (set xs a (raised (at xs a))) b v (omega (arith, to, length-set xs a (raised (at xs a)))), raise_at xs a v from, both_raised (at xs v) (eqb v a) (eqb v b)) (end_boundary (at xs v) (eqb v a || eqb v b) r t));
        singular = λ m.
            turned (set (set xs a 3) b 3) true false (eq-eqb (at w (2 * c + e)) c m) (ne_eqb (at w (2 * c + e)) e (omega arith))
            (length-set (set xs a 3) b 3 ∙ length-set xs a 3)
            (λ v r t. rw (at_set (set xs a 3) b 3 v (omega (arith, to, length-set xs a 3)), at_set xs a 3 v from, both_set (at xs v) 3 (eqb v a) (eqb v b)) (end_singular (at xs v) (eqb v a || eqb v b) r t));
        regular = λ m k.
            turned xs false false (ne_eqb (at w (2 * c + e)) c k) (ne_eqb (at w (2 * c + e)) e m) refl
            (λ v r t. end_regular (at xs v) (touches_at w c v e) r t);
      }
