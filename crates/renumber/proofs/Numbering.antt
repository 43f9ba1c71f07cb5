-- The loop that numbers the corners: before e every corner has the place of its label among the roots, k roots are met, and the
-- map has their vertices.
use Prim.Native.Nat.{ℕ, zero, suc, ◌+◌, ◌-◌, ◌*◌, ◌≤◌, ◌<◌, ◌^◌}
use mathlib.Core.Path.{◌≡◌, refl, sym, ◌∙◌, ap}
use mathlib.Core.Bool.{Bool, true, false, cond, ◌&&◌}
use mathlib.Core.List.{List, ◌∷◌, ◌++◌, map}
use native.Mathlib.Numerals.{add-one}
use native.Mathlib.Omega.{arith}
use borrow.Author.Count.{below_more}
use borrow.Author.Tests.{leb-true, le-leb, lt-leb}
use lib.IntN.{ℤ, pos}
use lib.Dec.{eqb}
use lib.ListN.{length, get_or, set, take, drop, length-set, length-map, get_or-append}
use lib.Seq.{get_or-set_same, get_or-set_other, get_or-take, get_or-drop, ext_get_or, length-take-le, take_at}
use Rattle.list.specs.Faces.{corners}
use Rattle.order.specs.Choose.{choose, up_from}
use Rattle.order.proofs.Lists.{get_or-mapped}
use Rattle.groups.specs.Distinct.{place_in, distinct}
use Rattle.renumber.specs.Renumber.{new_numbers, new_vertices, refilled, new_list_of, map_of}
use Rattle.list.specs.Written.{over}
use Rattle.groups.specs.Forest.{at, Forest, VertexWords, is_root}
use Rattle.renumber.specs.Numbered.{CornerWords, root_vertices, Numbered, Renumbered}
use Rattle.groups.proofs.Counting.{count_down}
use Rattle.renumber.proofs.Filled.{Filled, filled_more, filled_end}
use Rattle.groups.proofs.Roots.{roots_in, forest_earliest, parent_earlier, parent_own, root_by_parent}
use Rattle.renumber.proofs.Places.{any_corner, roots_split, root_place, place_of_root, distinct_all}

-- the blocks of the vertices and of the parents, behind the first
pub vertex_word : (w : List ℕ) (c e : ℕ) → e < c → at (take c (drop c w)) e ≡ at w (c + e)
vertex_word w c e h = get_or-take c (drop c w) e 0 h ∙ get_or-drop c w e 0

pub parent_word : (w : List ℕ) (c e : ℕ) → at (drop c (drop c (drop c w))) e ≡ at w (3 * c + e)
parent_word w c e =
    let z : c + (c + (c + e)) ≡ 3 * c + e = omega arith in
    get_or-drop c (drop c (drop c w)) e 0 ∙ get_or-drop c (drop c w) (c + e) 0 ∙ get_or-drop c w (c + (c + e)) 0 ∙ ap (at w) z

-- the roots of c corners, and those from e on
abbrev roots : List ℕ → ℕ → List ℕ
roots labels c = roots_in any_corner labels 0 c

abbrev roots_after : List ℕ → ℕ → ℕ → List ℕ
roots_after labels c e = roots_in any_corner labels e (c - e)

pub record Placed (labels : List ℕ) (c : ℕ) (w : List ℕ) (k e : ℕ) : Type 0 where
  pub counted : k + length (roots_after labels c e) ≡ length (roots labels c)
  pub numbers : (j : ℕ) → j < e → at w j ≡ place_in (at labels j) (roots labels c)

-- the map's entries of the roots from e on
abbrev entries_after : List ℕ → ℕ → ℕ → List ℤ
entries_after w c e = map pos (root_vertices w c e (c - e))

pub record NumberLoop (w₀ : List ℕ) (c : ℕ) (w : List ℕ) (old xs : List ℤ) (k e : ℕ) : Type 0 where
  pub few : k ≤ e
  pub long : length w ≡ c
  pub low : (j : ℕ) → j < e → at w j < c
  pub size : length xs ≡ length old
  pub filled : Filled old (map pos (root_vertices w₀ c 0 c)) (entries_after w₀ c e) k xs
  pub placed : (labels : List ℕ) → Forest w₀ (3 * c) labels → Placed labels c w k e

entries_split : (w : List ℕ) (c e : ℕ) → e < c → (t : Bool) → is_root w c e ≡ t → entries_after w c e ≡ cond t (pos (at w (c + e)) ∷ entries_after w c (e + 1)) (entries_after w c (e + 1))
entries_split w c e h true q = rw (count_down c e h, add-one e, q)
entries_split w c e h false q = rw (count_down c e h, add-one e, q)

-- the two turns of the loop at e
pub record NumberTurn (w₀ : List ℕ) (c : ℕ) (w : List ℕ) (old xs : List ℤ) (k e : ℕ) : Type 0 where
  pub child : at w₀ (3 * c + e) < e → NumberLoop w₀ c (set w e (at w (at w₀ (3 * c + e)))) old xs k (e + 1)
  pub root : e ≤ at w₀ (3 * c + e) → NumberLoop w₀ c (set w e k) old (set xs k (pos (at w₀ (c + e)))) (k + 1) (e + 1)

module _ (w₀ : List ℕ) (c : ℕ) (W : VertexWords w₀ c (2 ^ 31)) (w : List ℕ) (old xs : List ℤ) (k e : ℕ) (h : e < c) (N : NumberLoop w₀ c w old xs k e) where
  numbers_more : (labels : List ℕ) (x : ℕ) → Placed labels c w k e → x ≡ place_in (at labels e) (roots labels c) → (j : ℕ) → j < e + 1 → at (set w e x) j ≡ place_in (at labels j) (roots labels c)
  numbers_more labels x M q =
      below_more (λ (j : ℕ). at (set w e x) j ≡ place_in (at labels j) (roots labels c)) e
      (λ j l. get_or-set_other w e j x 0 (omega arith) ∙ M.numbers j l)
      (get_or-set_same w e x 0 (omega (arith, N.long)) ∙ q)

  low_more : (x : ℕ) → x < c → (j : ℕ) → j < e + 1 → at (set w e x) j < c
  low_more x l =
      below_more (λ (j : ℕ). at (set w e x) j < c) e
      (λ j i. omega (arith, get_or-set_other w e j x 0 (omega arith), N.low j i))
      (omega (arith, get_or-set_same w e x 0 (omega (arith, N.long))))

  number_child : at w₀ (3 * c + e) < e → NumberLoop w₀ c (set w e (at w (at w₀ (3 * c + e)))) old xs k (e + 1)
  number_child l =
      record {
        few = omega (arith, N.few);
        long = length-set w e (at w (at w₀ (3 * c + e))) ∙ N.long;
        low = low_more (at w (at w₀ (3 * c + e))) (N.low (at w₀ (3 * c + e)) l);
        size = N.size;
        filled = rw (entries_split w₀ c e h false (lt-leb e (at w₀ (3 * c + e)) l)) at N.filled;
        placed = λ labels F. child labels F (N.placed labels F);
      }
    where
      child : (labels : List ℕ) → Forest w₀ (3 * c) labels → Placed labels c w k e → Placed labels c (set w e (at w (at w₀ (3 * c + e)))) k (e + 1)
      child labels F M =
          let i : e < length labels = omega (arith, F.long, W.table.long) in
          let out = parent_earlier w₀ (3 * c) labels F e i l in
          record {
            counted = rw (roots_split any_corner labels c e h false (rw out)) at M.counted;
            numbers =
                numbers_more labels (at w (at w₀ (3 * c + e))) M
                (M.numbers (at w₀ (3 * c + e)) l ∙ ap (λ (x : ℕ). place_in x (roots labels c)) (F.same e i));
          }

  number_root : c ≤ length old → e ≤ at w₀ (3 * c + e) → NumberLoop w₀ c (set w e k) old (set xs k (pos (at w₀ (c + e)))) (k + 1) (e + 1)
  number_root room l =
      record {
        few = omega (arith, N.few);
        long = length-set w e k ∙ N.long;
        low = low_more k (omega (arith, N.few));
        size = length-set xs k (pos (at w₀ (c + e))) ∙ N.size;
        filled =
            filled_more old (map pos (root_vertices w₀ c 0 c)) (entries_after w₀ c (e + 1)) k xs (pos 0) (pos (at w₀ (c + e))) (omega (arith, N.few))
            (rw (entries_split w₀ c e h true (le-leb e (at w₀ (3 * c + e)) l)) at N.filled);
        placed = λ labels F. root labels F (N.placed labels F);
      }
    where
      root : (labels : List ℕ) → Forest w₀ (3 * c) labels → Placed labels c w k e → Placed labels c (set w e k) (k + 1) (e + 1)
      root labels F M =
          let i : e < length labels = omega (arith, F.long, W.table.long) in
          let own : at w₀ (3 * c + e) ≡ e = omega (arith, F.down e i) in
          let is : (eqb (at labels e) e && true) ≡ true = rw (parent_own w₀ (3 * c) labels F e i l) in
          let z : 0 + c - e ≡ c - e = omega arith in
          let place : place_in e (roots labels c) + length (roots_after labels c e) ≡ length (roots labels c) = rw z at (root_place any_corner labels c 0 e (omega arith) (omega arith) is) in
          let split : k + suc (length (roots_after labels c (e + 1))) ≡ length (roots labels c) = rw (roots_split any_corner labels c e h true is) at M.counted in
          record {
            counted = omega arith;
            numbers = numbers_more labels k M (rw (F.root e i own) (omega (arith, M.counted)));
          }

  pub number_turn : c ≤ length old → NumberTurn w₀ c w old xs k e
  number_turn room = record { child = number_child; root = number_root room }

module _ (w₀ : List ℕ) (c : ℕ) (size : length w₀ ≡ 4 * c) (w : List ℕ) (old xs : List ℤ) (k e : ℕ) (h : c ≤ e) (N : NumberLoop w₀ c w old xs k e) where
  module _ (labels : List ℕ) (F : Forest w₀ (3 * c) labels) where
    count : length labels ≡ c
    count = omega (arith, F.long)

    distinct_is : distinct labels ≡ roots labels c
    distinct_is = distinct_all labels (forest_earliest w₀ (3 * c) labels F) ∙ rw count

    vertices_counted : k ≡ new_vertices labels
    vertices_counted =
        let none : c - e ≡ 0 = omega arith in
        let all : k + 0 ≡ length (roots labels c) = rw none at (N.placed labels F).counted in
        rw distinct_is (omega arith)

    first : w ≡ new_numbers labels
    unfolding new_numbers
    first =
        let whole : length (map (λ (x : ℕ). place_in x (distinct labels)) labels) ≡ c = length-map labels (λ (x : ℕ). place_in x (distinct labels)) ∙ count in
        ext_get_or 0 w (map (λ (x : ℕ). place_in x (distinct labels)) labels) (N.long ∙ sym whole)
        (λ i l. (N.placed labels F).numbers i (omega (arith, N.long)) ∙ rw (← distinct_is) (sym (get_or-mapped (λ (x : ℕ). place_in x (distinct labels)) labels i 0 0 (omega (arith, N.long)))))

  pub numbered : Numbered w₀ c (w ++ drop c w₀) old xs k
  numbered =
      let none : c - e ≡ 0 = omega arith in
      record {
        low = λ j i. rw (get_or-append w (drop c w₀) 0 j (omega (arith, N.long))) (N.low j (omega arith));
        back = (filled_end old (map pos (root_vertices w₀ c 0 c)) k xs (rw none at N.filled)).0;
        numbers = λ labels F. ap (λ ns. ns ++ drop c w₀) (first labels F);
        count = vertices_counted;
      }

-- the entry of a new vertex
abbrev entry_of : List ℤ → List ℕ → ℕ → ℤ
entry_of l labels x = get_or (corners l) (place_in x labels) (pos 0)

map_chosen : (p q : ℕ → Bool) (f : ℕ → ℤ) (g : ℕ → ℕ) (n s : ℕ) → ((i : ℕ) → i < s + n → p i ≡ q i) → ((i : ℕ) → i < s + n → q i ≡ true → f i ≡ pos (g i)) → map f (choose p (up_from s n)) ≡ map pos (map g (choose q (up_from s n)))
map_chosen p q f g zero s a b = refl
map_chosen p q f g (suc n) s a b = go (q s) refl (map_chosen p q f g n (suc s) (λ i h. a i (omega arith)) (λ i h. b i (omega arith)))
  where
    go : (t : Bool) → q s ≡ t → map f (choose p (up_from (suc s) n)) ≡ map pos (map g (choose q (up_from (suc s) n))) → map f (choose p (up_from s (suc n))) ≡ map pos (map g (choose q (up_from s (suc n))))
    go true d ih = rw (a s (omega arith), d, b s (omega arith) d) (ap (λ (r : List ℤ). pos (g s) ∷ r) ih)
    go false d ih = rw (a s (omega arith), d) ih

-- what is made of the vertices and groups in w₀
module _ (l : List ℤ) (w₀ : List ℕ) (c : ℕ) (C : CornerWords l c w₀) (labels : List ℕ) (F : Forest w₀ (3 * c) labels) where
  labels_long : length labels ≡ c
  labels_long = omega (arith, F.long, C.words.table.long)

  root_is : (i : ℕ) → i < c → (eqb (at labels i) i && true) ≡ is_root w₀ c i
  root_is i h = rw (← root_by_parent w₀ (3 * c) labels F i (omega (arith, labels_long))) (go (is_root w₀ c i))
    where
      go : (t : Bool) → (t && true) ≡ t
      go true = refl
      go false = refl

  root_entry : (i : ℕ) → i < c → is_root w₀ c i ≡ true → entry_of l labels i ≡ pos (at w₀ (c + i))
  root_entry i h q =
      let s : i < length labels = omega (arith, labels_long) in
      let own : at labels i ≡ i = F.root i s (omega (arith, F.down i s, leb-true i (at w₀ (3 * c + i)) q)) in
      rw (place_of_root labels (forest_earliest w₀ (3 * c) labels F) i s own) (C.entries i h)

  -- the map's entries are the vertices of the roots
  pub map_of_roots : map_of l labels ≡ map pos (root_vertices w₀ c 0 c)
  unfolding map_of
  map_of_roots =
      rw (distinct_all labels (forest_earliest w₀ (3 * c) labels F), labels_long)
      (map_chosen (λ (i : ℕ). eqb (at labels i) i && true) (is_root w₀ c) (entry_of l labels) (λ (i : ℕ). at w₀ (c + i)) c 0 (λ i h. root_is i (omega arith)) (λ i h. root_entry i (omega arith)))

  module _ (w : List ℕ) (old new : List ℤ) (r : ℕ) (N : Numbered w₀ c w old new r) where
    -- the first block, read by itself, holds the numbers
    numbers_first : take c w ≡ new_numbers labels
    unfolding new_numbers
    numbers_first = rw (N.numbers labels F) (take_at (new_numbers labels) (drop c w₀) c (length-map labels (λ (x : ℕ). place_in x (distinct labels)) ∙ labels_long))

    pub renumbered : (xs : List ℤ) → xs ≡ refilled l (take c w) → Renumbered l labels r xs old new
    unfolding new_list_of
    renumbered xs a =
        record {
          list = a ∙ ap (refilled l) numbers_first;
          back = N.back ∙ ap (λ (es : List ℤ). over es old) (sym map_of_roots);
          count = N.count labels F;
        }

-- what is read of the first block
pub number_low : (w : List ℕ) (c : ℕ) → c ≤ length w → ((j : ℕ) → j < c → at w j < c) → (j : ℕ) → j < length (take c w) → at (take c w) j < c
number_low w c h low j l =
    let i : j < c = omega (arith, length-take-le c w h) in
    omega (arith, get_or-take c w j 0 i, low j i)
