-- Labels that are each the earliest corner of its group: the different ones, in the order of first use, are the roots in
-- ascending order.
use Prim.Native.Nat.{ℕ, zero, suc, ◌+◌, ◌≤◌, ◌<◌}
use mathlib.Core.Path.{◌≡◌, refl, sym, ◌∙◌, ap}
use mathlib.Core.Bool.{Bool, true, false, cond, ◌&&◌, ◌||◌, true≢false, false≢true}
use mathlib.Core.List.{List, [], ◌∷◌}
use native.Mathlib.Omega.{arith}
use borrow.Author.Tests.{eqb-true, eqb-false, eq-eqb, ne_eqb, leb-true, leb-false, ltb-true, ltb-false}
use lib.Dec.{leb, ltb, eqb}
use lib.ListN.{length, drop, drop_of_length-le}
use lib.Seq.{drop-cons}
use Rattle.order.specs.Choose.{choose, up_from}
use Rattle.groups.specs.Distinct.{is_in, distinct_after, distinct}
use Rattle.groups.specs.Forest.{at, Forest}

-- a label is not after its corners, and is its own label
pub record Earliest (labels : List ℕ) : Type 0 where
  pub below : (i : ℕ) → i < length labels → at labels i ≤ i
  pub fixed : (i : ℕ) → i < length labels → at labels (at labels i) ≡ at labels i

module _ (w : List ℕ) (p : ℕ) (labels : List ℕ) (F : Forest w p labels) where
  -- the two facts of the corners below n
  early : (n i : ℕ) → i < n → i < length labels → (at labels i ≤ i) × (at labels (at labels i) ≡ at labels i)
  early zero i h l = absurd (omega arith)
  early (suc n) i h l = go (ltb (at w (p + i)) i) refl (early n)
    where
      go : (t : Bool) → ltb (at w (p + i)) i ≡ t → ((j : ℕ) → j < n → j < length labels → (at labels j ≤ j) × (at labels (at labels j) ≡ at labels j)) → (at labels i ≤ i) × (at labels (at labels i) ≡ at labels i)
      go true e ih =
          let lt : at w (p + i) < i = ltb-true (at w (p + i)) i e in
          let r = ih (at w (p + i)) (omega arith) (omega arith) in
          let s : at labels (at w (p + i)) ≡ at labels i = F.same i l in
          (omega (arith, r.0), rw (← s) r.1)
      go false e ih =
          let own : at labels i ≡ i = F.root i l (omega (arith, ltb-false (at w (p + i)) i e, F.down i l)) in
          (omega arith, ap (at labels) own)

  pub forest_earliest : Earliest labels
  forest_earliest = record { below = λ i h. (early (suc i) i (omega arith) h).0; fixed = λ i h. (early (suc i) i (omega arith) h).1 }

  -- a corner with an earlier parent is no root, any other is
  pub parent_earlier : (i : ℕ) → i < length labels → at w (p + i) < i → eqb (at labels i) i ≡ false
  parent_earlier i h l =
      ne_eqb (at labels i) i (omega (arith, F.same i h, forest_earliest.below (at w (p + i)) (omega arith)))

  pub parent_own : (i : ℕ) → i < length labels → i ≤ at w (p + i) → eqb (at labels i) i ≡ true
  parent_own i h l = eq-eqb (at labels i) i (F.root i h (omega (arith, F.down i h)))

  pub root_by_parent : (i : ℕ) → i < length labels → leb i (at w (p + i)) ≡ eqb (at labels i) i
  root_by_parent i h = go (leb i (at w (p + i))) refl
    where
      go : (t : Bool) → leb i (at w (p + i)) ≡ t → t ≡ eqb (at labels i) i
      go true q = sym (parent_own i h (leb-true i (at w (p + i)) q))
      go false q = sym (parent_earlier i h (leb-false i (at w (p + i)) q))

-- of the corners e to e + n - 1 those that q holds of and that are their own labels
abbrev pub roots_in : (ℕ → Bool) → List ℕ → ℕ → ℕ → List ℕ
roots_in q labels e n = choose (λ (i : ℕ). eqb (at labels i) i && q i) (up_from e n)

-- of the labels of the corners from e on those of the corners that q holds of
abbrev pub pick : (ℕ → Bool) → ℕ → List ℕ → List ℕ
pick q e [] = []
pick q e (x ∷ xs) = let rest = pick q (suc e) xs in cond (q e) (x ∷ rest) rest

-- x is seen, or the one seen last
is_in_cons : (x y : ℕ) (seen : List ℕ) → is_in y (x ∷ seen) ≡ true → (y ≡ x → ⊥) → is_in y seen ≡ true
is_in_cons x y seen h n = rw (ne_eqb y x n) at h

is_in_head : (x y : ℕ) (seen : List ℕ) → y ≡ x → is_in y (x ∷ seen) ≡ true
is_in_head x y seen e = rw (eq-eqb y x e)

is_in_tail : (x y : ℕ) (seen : List ℕ) → is_in y seen ≡ true → is_in y (x ∷ seen) ≡ true
is_in_tail x y seen h = rw h (go (eqb y x))
  where
    go : (t : Bool) → (t || true) ≡ true
    go true = refl
    go false = refl

-- seen are the labels of the corners before e that q holds of
record Seen (q : ℕ → Bool) (labels : List ℕ) (e : ℕ) (seen : List ℕ) : Type 0 where
  below : (x : ℕ) → is_in x seen ≡ true → x < e
  all : (j : ℕ) → j < e → q j ≡ true → is_in (at labels j) seen ≡ true

module _ (q : ℕ → Bool) (labels : List ℕ) (E : Earliest labels) (q_same : (i : ℕ) → i < length labels → q (at labels i) ≡ q i) where
  abbrev Roots : ℕ → ℕ → Type 0
  Roots n e = (seen : List ℕ) → Seen q labels e seen → distinct_after seen (pick q e (drop e labels)) ≡ roots_in q labels e n

  module _ (e : ℕ) (seen : List ℕ) (S : Seen q labels e seen) where
    -- e is not picked
    seen_other : q e ≡ false → Seen q labels (suc e) seen
    seen_other o =
        record {
          below = λ x h. omega (arith, S.below x h);
          all = λ j h t. go j h t (eqb j e) refl;
        }
      where
        go : (j : ℕ) → j < suc e → q j ≡ true → (b : Bool) → eqb j e ≡ b → is_in (at labels j) seen ≡ true
        go j h t true d = absurd (true≢false (sym t ∙ ap q (eqb-true j e d) ∙ o))
        go j h t false d = S.all j (omega (arith, eqb-false j e d)) t

    -- e's label is seen already
    seen_old : is_in (at labels e) seen ≡ true → Seen q labels (suc e) seen
    seen_old o =
        record {
          below = λ x h. omega (arith, S.below x h);
          all = λ j h t. go j h t (eqb j e) refl;
        }
      where
        go : (j : ℕ) → j < suc e → q j ≡ true → (b : Bool) → eqb j e ≡ b → is_in (at labels j) seen ≡ true
        go j h t true d = rw (eqb-true j e d) o
        go j h t false d = S.all j (omega (arith, eqb-false j e d)) t

    -- e's label is e
    seen_new : at labels e ≡ e → Seen q labels (suc e) (at labels e ∷ seen)
    seen_new o =
        record {
          below = λ x h. low x h (eqb x (at labels e)) refl;
          all = λ j h t. go j h t (eqb j e) refl;
        }
      where
        low : (x : ℕ) → is_in x (at labels e ∷ seen) ≡ true → (b : Bool) → eqb x (at labels e) ≡ b → x < suc e
        low x h true d = omega (arith, eqb-true x (at labels e) d)
        low x h false d = omega (arith, S.below x (is_in_cons (at labels e) x seen h (eqb-false x (at labels e) d)))

        go : (j : ℕ) → j < suc e → q j ≡ true → (b : Bool) → eqb j e ≡ b → is_in (at labels j) (at labels e ∷ seen) ≡ true
        go j h t true d = is_in_head (at labels e) (at labels j) seen (ap (at labels) (eqb-true j e d))
        go j h t false d = is_in_tail (at labels e) (at labels j) seen (S.all j (omega (arith, eqb-false j e d)) t)

    -- one corner after another, picked or not, a root or not
    roots_step : (n : ℕ) → e + suc n ≡ length labels → Roots n (suc e) → (s t : Bool) → q e ≡ s → eqb (at labels e) e ≡ t → distinct_after seen (cond s (at labels e ∷ pick q (suc e) (drop (suc e) labels)) (pick q (suc e) (drop (suc e) labels))) ≡ cond (t && s) (e ∷ roots_in q labels (suc e) n) (roots_in q labels (suc e) n)
    roots_step n l ih false true a b = ih seen (seen_other a)
    roots_step n l ih false false a b = ih seen (seen_other a)
    roots_step n l ih true true a b =
        let own : at labels e ≡ e = eqb-true (at labels e) e b in
        rw (fresh (is_in (at labels e) seen) refl, ih (at labels e ∷ seen) (seen_new own), own)
      where
        fresh : (t : Bool) → is_in (at labels e) seen ≡ t → is_in (at labels e) seen ≡ false
        fresh true d = absurd (omega (arith, S.below (at labels e) d, eqb-true (at labels e) e b))
        fresh false d = d
    roots_step n l ih true false a b =
        let lt : at labels e < e = omega (arith, E.below e (omega arith), eqb-false (at labels e) e b) in
        let old : is_in (at labels e) seen ≡ true = rw (E.fixed e (omega arith)) at (S.all (at labels e) lt (q_same e (omega arith) ∙ a)) in
        rw old (ih seen (seen_old old))

  roots_from : (n e : ℕ) → e + n ≡ length labels → Roots n e
  roots_from zero e l seen S = rw (drop_of_length-le labels {i = e} (omega arith))
  roots_from (suc n) e l seen S = rw (drop-cons labels e 0 (omega arith)) (roots_step e seen S n l (roots_from n (suc e) (omega arith)) (q e) (eqb (at labels e) e) refl refl)

  pub distinct_roots : distinct (pick q 0 labels) ≡ roots_in q labels 0 (length labels)
  distinct_roots =
      roots_from (length labels) 0 (omega arith) []
      (record { below = λ x h. absurd (false≢true h); all = λ j h t. absurd (omega arith) })
