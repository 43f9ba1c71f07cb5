-- The loop of joins over the corners of an edge table, and the forest that it starts from.
use Prim.Native.Nat.{ℕ, zero, suc, ◌+◌, ◌-◌, ◌*◌, ◌≤◌, ◌<◌}
use mathlib.Core.Path.{◌≡◌, refl, sym, ◌∙◌, ap}
use mathlib.Core.Bool.{Bool, true, false, cond, ◌&&◌}
use mathlib.Core.List.{List, [], ◌∷◌, ◌++◌, append_assoc, append-nil}
use native.Mathlib.Numerals.{add-one}
use native.Mathlib.Nat.{zero-add, sub-zero}
use native.Mathlib.Omega.{arith}
use borrow.Author.Tests.{ltb-true}
use lib.Dec.{ltb}
use lib.ListN.{length, take}
use lib.Seq.{take_at, take_all, length-take-le}
use Rattle.order.proofs.Lists.{length-up_from, get_or-up_from}
use Rattle.groups.specs.Groups.{Link, merge_all, merge, up_to, labels_of}
use Rattle.groups.specs.Forest.{at, Forest, Regrouped, TableWords, later_mate_of, links_across, links_at_corner, links_from_corner, table_links}
use Rattle.std.specs.Prelude.{Some, None}
use Rattle.groups.proofs.Joined.{forest_behind}
use Rattle.groups.proofs.Counting.{count_down, word_kept}

pub merge_all-append : (labels : List ℕ) (ks js : List Link) → merge_all labels (ks ++ js) ≡ merge_all (merge_all labels ks) js
merge_all-append labels [] js = refl
merge_all-append labels (k ∷ ks) js = merge_all-append (merge labels k) ks js

and_right : (s t : Bool) → (s && t) ≡ true → t ≡ true
and_right true t q = q
and_right false t q = absurd (cc q)

links_step : (w : List ℕ) (c e : ℕ) → e < c → links_from_corner w c e (c - e) ≡ links_at_corner w c e ++ links_from_corner w c (e + 1) (c - (e + 1))
links_step w c e h = rw (count_down c e h, add-one e)

-- the first three blocks decide the links
module _ (w₀ : List ℕ) (c : ℕ) (w : List ℕ) (front : take (3 * c) w ≡ take (3 * c) w₀) where
  table_at : (i : ℕ) → i < 3 * c → at w i ≡ at w₀ i
  table_at i h = word_kept w₀ w (3 * c) i front h

  pub table_kept : length w ≡ length w₀ → TableWords w₀ c → TableWords w c
  table_kept l T = record { long = l ∙ T.long; nexts = λ i h. rw (table_at i (omega arith)) (T.nexts i h) }

  across_kept : (e m : ℕ) → e < c → m < c → links_across w c e m ≡ links_across w₀ c e m
  across_kept e m h l = rw (table_at (c + e) (omega arith), table_at (c + m) (omega arith), table_at e (omega arith), table_at m (omega arith))

  corner_kept : (e : ℕ) → e < c → links_at_corner w c e ≡ links_at_corner w₀ c e
  corner_kept e h = rw (table_at (2 * c + e) (omega arith)) (go (at w₀ (2 * c + e)) (ltb e (at w₀ (2 * c + e))) (ltb (at w₀ (2 * c + e)) c) refl)
    where
      go : (m : ℕ) (s t : Bool) → ltb m c ≡ t → cond (s && t) (links_across w c e m) [] ≡ cond (s && t) (links_across w₀ c e m) []
      go m true true q = across_kept e m h (ltb-true m c q)
      go m true false q = refl
      go m false true q = refl
      go m false false q = refl

  from_kept : (e n : ℕ) → e + n ≤ c → links_from_corner w c e n ≡ links_from_corner w₀ c e n
  from_kept e zero h = refl
  from_kept e (suc n) h = rw (corner_kept e (omega arith), from_kept (suc e) n (omega arith))

  pub links_kept : table_links w c ≡ table_links w₀ c
  unfolding table_links
  links_kept = from_kept 0 c (omega arith)

-- in the parents ps, at first ps₀, the links of the table t at the corners before e are joined
pub record JoinLoop (t : List ℕ) (c : ℕ) (ps₀ ps : List ℕ) (e : ℕ) : Type 0 where
  pub joined : List Link
  pub regrouped : Regrouped ps₀ ps 0 (λ labels. merge_all labels joined)
  pub left : joined ++ links_from_corner t c e (c - e) ≡ table_links t c

pub loop_start : (t : List ℕ) (c : ℕ) (ps : List ℕ) → JoinLoop t c ps ps 0
unfolding table_links
loop_start t c ps = record { joined = []; regrouped = record { long = refl; front = refl; down = λ D. D; groups = λ labels F. F }; left = rw (sub-zero c) }

-- the turns of the loop at e, of which the body takes one
module _ (t : List ℕ) (c : ℕ) (ps₀ ps : List ℕ) (e : ℕ) (h : e < c) (J : JoinLoop t c ps₀ ps e) where
  next_left : (ks : List Link) → links_at_corner t c e ≡ ks → (J.joined ++ ks) ++ links_from_corner t c (e + 1) (c - (e + 1)) ≡ table_links t c
  next_left ks q = append_assoc J.joined ks (links_from_corner t c (e + 1) (c - (e + 1))) ∙ rw (← q, ← links_step t c e h) J.left

  loop_skip : (ltb e (at t (2 * c + e)) && ltb (at t (2 * c + e)) c) ≡ false → JoinLoop t c ps₀ ps (e + 1)
  loop_skip q = record { joined = J.joined ++ []; regrouped = rw append-nil J.regrouped; left = next_left [] (rw q) }

  abbrev later : Bool
  later = ltb e (at t (2 * c + e)) && ltb (at t (2 * c + e)) c

  pub turn_none : later_mate_of t c e ≡ None → JoinLoop t c ps₀ ps (e + 1)
  turn_none n = loop_skip (go later n)
    where
      go : (b : Bool) → cond b (Some (at t (2 * c + e))) None ≡ None → b ≡ false
      go true q = absurd (cc q)
      go false q = refl

  module _ (m : ℕ) (o : later_mate_of t c e ≡ Some m) where
    mate_is : (later ≡ true) × (at t (2 * c + e) ≡ m)
    mate_is = go later refl o
      where
        go : (b : Bool) → later ≡ b → cond b (Some (at t (2 * c + e))) None ≡ Some m → (later ≡ true) × (at t (2 * c + e) ≡ m)
        go true d q = (d, cc q)
        go false d q = absurd (cc q)

    pub mate_below : m < c
    mate_below = ltb-true m c (and_right (ltb e m) (ltb m c) (rw mate_is.1 at mate_is.0))

    pub turn_joins : (ps' : List ℕ) → Regrouped ps ps' 0 (λ labels. merge_all labels (links_across t c e m)) → JoinLoop t c ps₀ ps' (e + 1)
    turn_joins ps' R =
        let ks = links_across t c e m in
        record {
          joined = J.joined ++ ks;
          regrouped =
              record {
                long = R.long ∙ J.regrouped.long;
                front = R.front ∙ J.regrouped.front;
                down = λ D. R.down (J.regrouped.down D);
                groups = λ labels F. rw merge_all-append (R.groups (merge_all labels J.joined) (J.regrouped.groups labels F));
              };
          left = next_left ks (rw (mate_is.0, mate_is.1));
        }

pub loop_end : (t : List ℕ) (c : ℕ) (ps₀ ps : List ℕ) (e : ℕ) → c ≤ e → JoinLoop t c ps₀ ps e → Regrouped ps₀ ps 0 (λ labels. merge_all labels (table_links t c))
loop_end t c ps₀ ps e h J =
    let done : c - e ≡ 0 = omega arith in
    let all : J.joined ≡ table_links t c = sym (append-nil J.joined) ∙ (rw done at J.left) in
    rw all at J.regrouped

-- every corner its own parent
pub forest_of_own : (ps : List ℕ) → ((i : ℕ) → i < length ps → at ps i ≡ i) → Forest ps 0 (up_to (length ps))
forest_of_own ps own =
    let l : length (up_to (length ps)) ≡ length ps = length-up_from 0 (length ps) in
    record {
      long = omega arith;
      down = λ i h. rw zero-add (omega (arith, own i (omega arith)));
      same = λ i h. rw zero-add (ap (at (up_to (length ps))) (own i (omega arith)));
      root = λ i h q. omega (arith, get_or-up_from 0 (length ps) i 0 (omega arith));
    }

-- joins from every corner its own parent on give the labels of the links; the parents stand behind the table
pub grouped : (w ps qs rs : List ℕ) (c : ℕ) → rs ≡ qs → length w ≡ 4 * c → length ps ≡ c → Forest ps 0 (up_to (length ps)) → Regrouped ps qs 0 (λ labels. merge_all labels (table_links (take (3 * c) w) c)) → (take (3 * c) (take (3 * c) w ++ rs) ≡ take (3 * c) w) × Forest (take (3 * c) w ++ rs) (3 * c) (labels_of c (table_links w c))
unfolding labels_of
grouped w ps qs rs c e l n F R =
    let front : length (take (3 * c) w) ≡ 3 * c = length-take-le (3 * c) w (omega arith) in
    let same : take (3 * c) (take (3 * c) w) ≡ take (3 * c) w = take_all (3 * c) (take (3 * c) w) (omega arith) in (
      take_at (take (3 * c) w) rs (3 * c) front,
      rw e (forest_behind (take (3 * c) w) qs (3 * c) front (merge_all (up_to c) (table_links w c)) (rw (← links_kept w c (take (3 * c) w) same) (R.groups (up_to c) (rw n at F)))),
    )
