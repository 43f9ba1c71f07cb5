-- The walk over a list's entries that counts the corners met, and the new list that is written on the way.
use Prim.Native.Nat.{ℕ, zero, suc, ◌+◌, ◌≤◌, ◌<◌}
use mathlib.Core.Path.{◌≡◌, refl, sym, ◌∙◌, ap}
use mathlib.Core.Bool.{true, false, true≢false}
use mathlib.Core.List.{List, [], ◌∷◌}
use native.Mathlib.Numerals.{add-one}
use native.Mathlib.Omega.{arith}
use lib.IntN.{ℤ, pos, negsuc}
use lib.ListN.{length, get_or, set, drop, length-drop, length-set}
use lib.Seq.{drop-cons}
use Rattle.list.specs.Faces.{is_end, corners}
use Rattle.renumber.specs.Renumber.{refilled}
use Rattle.renumber.proofs.Filled.{Filled, filled_more}

refilled-end : (x : ℤ) (xs : List ℤ) (ks : List ℕ) → is_end x ≡ true → refilled (x ∷ xs) ks ≡ x ∷ refilled xs ks
refilled-end x xs [] e = refl
refilled-end x xs (k ∷ ks) e = rw e

-- the one entry that ends a face
pub end_is : (x : ℤ) → is_end x ≡ true → x ≡ negsuc 0
end_is (pos k) q = absurd (true≢false (sym q))
end_is (negsuc zero) q = refl
end_is (negsuc (suc k)) q = absurd (true≢false (sym q))

-- the walk stands at position i, and e corners are met
pub record Walk (l : List ℤ) (e i : ℕ) : Type 0 where
  pub left : corners (drop i l) ≡ drop e (corners l)
  pub met : e ≤ length (corners l)

module _ (l : List ℤ) (e i : ℕ) (h : i < length l) (W : Walk l e i) where
  walk_end : is_end (get_or l i (pos 0)) ≡ true → Walk l e (i + 1)
  walk_end q = record { left = rw add-one (rw (drop-cons l i (pos 0), q) at W.left); met = W.met }

  module _ (q : is_end (get_or l i (pos 0)) ≡ false) where
    at_corner : get_or l i (pos 0) ∷ corners (drop (i + 1) l) ≡ drop e (corners l)
    at_corner = rw add-one (rw (drop-cons l i (pos 0), q) at W.left)

    pub walk_inside : e < length (corners l)
    walk_inside = omega (arith, ap length at_corner, length-drop e (corners l), W.met)

    both : get_or l i (pos 0) ∷ corners (drop (i + 1) l) ≡ get_or (corners l) e (pos 0) ∷ drop (suc e) (corners l)
    both = at_corner ∙ drop-cons (corners l) e (pos 0) walk_inside

    walk_corner : Walk l (e + 1) (i + 1)
    walk_corner = let rest : corners (drop (i + 1) l) ≡ drop (suc e) (corners l) = cc both in record { left = rest ∙ rw add-one; met = omega (arith, walk_inside) }

-- the new list written up to position i
pub record ListLoop (l : List ℤ) (w : List ℕ) (old xs : List ℤ) (e i : ℕ) : Type 0 where
  pub walk : Walk l e i
  pub size : length xs ≡ length old
  pub filled : Filled old (refilled l w) (refilled (drop i l) (drop e w)) i xs

-- the two turns of the loop at position i
pub record ListTurn (l : List ℤ) (w : List ℕ) (old xs : List ℤ) (e i : ℕ) : Type 0 where
  pub end : is_end (get_or l i (pos 0)) ≡ true → ListLoop l w old (set xs i (get_or l i (pos 0))) e (i + 1)
  pub corner : is_end (get_or l i (pos 0)) ≡ false → ListLoop l w old (set xs i (pos (get_or w e 0))) (e + 1) (i + 1)

module _ (l : List ℤ) (w : List ℕ) (old xs : List ℤ) (e i : ℕ) (room : length old ≡ length l) (enough : length (corners l) ≤ length w) (h : i < length l) (L : ListLoop l w old xs e i) where
  more : (v : ℤ) (rest : List ℤ) → refilled (drop i l) (drop e w) ≡ v ∷ rest → Filled old (refilled l w) rest (i + 1) (set xs i v)
  more v rest q = filled_more old (refilled l w) rest i xs (pos 0) v (omega arith) (rw q at L.filled)

  list_end : is_end (get_or l i (pos 0)) ≡ true → ListLoop l w old (set xs i (get_or l i (pos 0))) e (i + 1)
  list_end q =
      record {
        walk = walk_end l e i h L.walk q;
        size = length-set xs i (get_or l i (pos 0)) ∙ L.size;
        filled =
            more (get_or l i (pos 0)) (refilled (drop (i + 1) l) (drop e w))
            (rw (drop-cons l i (pos 0), add-one) (refilled-end (get_or l i (pos 0)) (drop (suc i) l) (drop e w) q));
      }

  list_corner : is_end (get_or l i (pos 0)) ≡ false → ListLoop l w old (set xs i (pos (get_or w e 0))) (e + 1) (i + 1)
  list_corner q =
      let inside : e < length w = omega (arith, walk_inside l e i h L.walk q) in
      record {
        walk = walk_corner l e i h L.walk q;
        size = length-set xs i (pos (get_or w e 0)) ∙ L.size;
        filled = more (pos (get_or w e 0)) (refilled (drop (i + 1) l) (drop (e + 1) w)) (rw (drop-cons l i (pos 0), drop-cons w e 0, add-one i, add-one e, q));
      }

  pub list_turn : ListTurn l w old xs e i
  list_turn = record { end = list_end; corner = list_corner }
