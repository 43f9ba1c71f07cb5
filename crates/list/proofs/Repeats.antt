-- Laws of the repeat rule: which vertices have been seen, the first repeat from a place on, and the flags that tell it.
use Prim.Native.Nat.{ℕ, zero, suc, ◌+◌, ◌≤◌, ◌<◌}
use mathlib.Core.Path.{◌≡◌, refl, sym, ◌∙◌, ap, subst⁻¹}
use mathlib.Core.Bool.{Bool, true, false, cond, ◌||◌, true≢false, false≢true, or_comm, or_assoc, or-false, or-true}
use mathlib.Core.List.{List, [], ◌∷◌, ◌++◌}
use native.Mathlib.Numerals.{add-one}
use native.Mathlib.Omega.{arith}
use native.Mathlib.Decide.{dec_lt}
use borrow.Author.Tests.{eqb-true, eqb-false, eq-eqb}
use lib.Dec.{eqb}
use lib.IntN.{ℤ, pos, negsuc}
use lib.ListN.{length, get_or, take, drop, set, replicate, length-take, length-set, length-map, get_or-map, drop_of_length-le, length-replicate, get_or-replicate}
use lib.Seq.{drop-cons, get_or-take, take-suc, get_or-set_same, get_or-set_other}
use mir.Syntax.{w32}
use mir.Val.{of_z, to_z, SFits}
use Rattle.std.specs.Prelude.{Some, None}
use Rattle.std.specs.List.{list_any}
use Rattle.std.specs.Ordering.{int_eq}
use Rattle.std.proofs.lemmas.List.{get_or_past, ext_get_or}
use Rattle.std.proofs.lemmas.Bool.Decides.{same_from_decides, Decides-int_eq}
use Rattle.list.specs.Faces.{is_natural, Naturals, num, vertices, place_or_none}
use Rattle.list.specs.Check.{elem, repeat_after, first_repeat}
use Rattle.list.proofs.First.{placed, unplaced}
use Rattle.list.proofs.Signs.{passed_on}
use Rattle.list.specs.Flags.{seen_to, marked, Clear, SetWithin}

pub vertex_of : (l : List ℤ) (i : ℕ) → get_or (vertices l) i 0 ≡ num (get_or l i (pos 0))
vertex_of l i = get_or-map num l i (pos 0)

pub vertices_long : (l : List ℤ) → length (vertices l) ≡ length l
vertices_long l = length-map l num

pub vertices_take : (l : List ℤ) (j : ℕ) → vertices (take j l) ≡ take j (vertices l)
vertices_take l zero = refl
vertices_take [] (suc j) = refl
vertices_take (x ∷ xs) (suc j) = ap {B = List ℕ} (λ r. num x ∷ r) (vertices_take xs j)

module _ (v : ℕ) where
  pub elem-append : (xs ys : List ℕ) → elem v (xs ++ ys) ≡ (elem v xs || elem v ys)
  elem-append [] ys = refl
  elem-append (x ∷ xs) ys = rw (elem-append xs ys) (sym (or_assoc (eqb v x) (elem v xs) (elem v ys)))

  -- the vertices seen are those before the place
  pub elem_seen : (vs : List ℕ) (j : ℕ) → j ≤ length vs → elem v (seen_to vs j) ≡ elem v (take j vs)
  elem_seen vs zero h = refl
  elem_seen vs (suc j) h =
      rw (elem_seen vs j (omega arith), take-suc vs j 0 h, elem-append (take j vs) (get_or vs j 0 ∷ []))
      (rw (or-false (eqb v (get_or vs j 0))) (or_comm (eqb v (get_or vs j 0)) (elem v (take j vs))))

module _ (vs : List ℕ) where
  pub repeat_here : (i : ℕ) → i < length vs → elem (get_or vs i 0) (seen_to vs i) ≡ true → repeat_after (seen_to vs i) (drop i vs) ≡ 0
  repeat_here i h e = rw (drop-cons vs i 0, e)

  pub repeat_later : (i : ℕ) → i < length vs → elem (get_or vs i 0) (seen_to vs i) ≡ false → repeat_after (seen_to vs i) (drop i vs) ≡ suc (repeat_after (seen_to vs (suc i)) (drop (suc i) vs))
  repeat_later i h e = rw (drop-cons vs i 0, e)

  pub repeat_past : (i : ℕ) → length vs ≤ i → repeat_after (seen_to vs i) (drop i vs) ≡ 0
  repeat_past i h = rw (drop_of_length-le vs h)

  -- no repeat has been passed at place i: the places passed and the repeat that is left make up the first repeat
  pub record Unrepeated (i : ℕ) : Type 0 where
    pub place : i ≤ length vs
    pub left : i + repeat_after (seen_to vs i) (drop i vs) ≡ first_repeat vs

  pub unrepeated_start : Unrepeated 0
  unrepeated_start = record { place = omega arith; left = omega arith }

  pub unrepeated_turn : (i : ℕ) → i < length vs → elem (get_or vs i 0) (seen_to vs i) ≡ false → Unrepeated i → Unrepeated (i + 1)
  unrepeated_turn i h e u = rw add-one (record { place = h; left = omega (arith, repeat_later i h e) })

  pub unrepeated_found : (i : ℕ) → i < length vs → elem (get_or vs i 0) (seen_to vs i) ≡ true → Unrepeated i → i ≡ first_repeat vs
  unrepeated_found i h e u = omega (arith, repeat_here i h e)

  pub unrepeated_end : (i : ℕ) → length vs ≤ i → Unrepeated i → i ≡ first_repeat vs
  unrepeated_end i h u = omega (arith, repeat_past i h)

  pub unrepeated_before : (i : ℕ) → i ≤ first_repeat vs → Unrepeated i
  unrepeated_before zero h = unrepeated_start
  unrepeated_before (suc i) h = go (unrepeated_before i (omega arith)) (dec_lt i (length vs)) (elem (get_or vs i 0) (seen_to vs i)) refl
    where
      go : Unrepeated i → Dec (i < length vs) → (b : Bool) → elem (get_or vs i 0) (seen_to vs i) ≡ b → Unrepeated (suc i)
      go u (yes p) true e = absurd (omega (arith, repeat_here i p e))
      go u (yes p) false e = rw add-one at (unrepeated_turn i p e u)
      go u (no q) b e = absurd (omega (arith, repeat_past i (omega arith)))

  -- a vertex before the first repeat has not been seen before
  pub seen_not : (j : ℕ) → j < length vs → j < first_repeat vs → elem (get_or vs j 0) (seen_to vs j) ≡ false
  seen_not j p h = go (elem (get_or vs j 0) (seen_to vs j)) refl
    where
      go : (b : Bool) → elem (get_or vs j 0) (seen_to vs j) ≡ b → b ≡ false
      go true e = absurd (omega (arith, unrepeated_before j (omega arith), repeat_here j p e))
      go false e = refl

pub marked_long : (fs vs : List ℕ) → length (marked fs vs) ≡ length fs
marked_long fs [] = refl
marked_long fs (v ∷ vs) = length-set (marked fs vs) v 1 ∙ marked_long fs vs

-- a flag tells whether its vertex is among those marked
pub flag_tells : (fs vs : List ℕ) (v : ℕ) → v < length fs → get_or fs v 0 ≡ 0 → get_or (marked fs vs) v 0 ≡ cond (elem v vs) 1 0
flag_tells fs [] v h z = z
flag_tells fs (w ∷ ws) v h z = go (flag_tells fs ws v h z) (eqb v w) refl
  where
    go : get_or (marked fs ws) v 0 ≡ cond (elem v ws) 1 0 → (b : Bool) → eqb v w ≡ b → get_or (set (marked fs ws) w 1) v 0 ≡ cond (b || elem v ws) 1 0
    go before true e = rw (← (eqb-true v w e)) (get_or-set_same (marked fs ws) v 1 0 (rw marked_long h))
    go before false e = get_or-set_other (marked fs ws) w v 1 0 (eqb-false v w e) ∙ before

pub clear_flag : (vs fs : List ℕ) → Clear vs fs → (v : ℕ) → v < length fs → get_or fs v 0 ≡ 0
clear_flag vs fs c v h = subst⁻¹ (λ (l : List ℕ). get_or l v 0 ≡ 0) c.zeros (get_or-replicate (length fs) v 0 0 h)

-- at place i no repeat has been passed, and the flags set are those of the vertices passed
pub record Marking (l : List ℤ) (fs : List ℕ) (i : ℕ) (flags : List ℕ) : Type 0 where
  pub unrepeated : Unrepeated (vertices l) i
  pub set : flags ≡ marked fs (seen_to (vertices l) i)

pub marking_start : {l : List ℤ} {fs : List ℕ} → Marking l fs 0 fs
marking_start {l = l} {fs = fs} = record { unrepeated = unrepeated_start (vertices l); set = refl }

-- a turn at place i, where the vertex v stands
module _ {l : List ℤ} {fs : List ℕ} (c : Clear (vertices l) fs) {i v : ℕ} (h : i < length l) (f : SFits w32 (get_or l i (pos 0))) (e : v ≡ num (to_z w32 (of_z w32 (get_or l i (pos 0))))) {flags : List ℕ} (m : Marking l fs i flags) where
  inside : i < length (vertices l)
  inside = rw vertices_long h

  stands : v ≡ get_or (vertices l) i 0
  stands = passed_on l i v f e ∙ sym (vertex_of l i)

  vertex_room : v < length fs
  vertex_room = rw stands (c.room i inside)

  -- its flag tells whether it has been seen
  flag_seen : get_or flags v 0 ≡ cond (elem (get_or (vertices l) i 0) (seen_to (vertices l) i)) 1 0
  flag_seen =
      rw (m.set, ← stands) (flag_tells fs (seen_to (vertices l) i) v vertex_room (clear_flag (vertices l) fs c v vertex_room))

  pub marking_room : v < length flags
  marking_room = rw (m.set, marked_long) vertex_room

  marking_found : (get_or flags v 0 ≡ 0 → ⊥) → i ≡ first_repeat (vertices l)
  marking_found z = unrepeated_found (vertices l) i inside (go (elem (get_or (vertices l) i 0) (seen_to (vertices l) i)) flag_seen) m.unrepeated
    where
      go : (b : Bool) → get_or flags v 0 ≡ cond b 1 0 → b ≡ true
      go true e = refl
      go false e = absurd (z e)

  pub marking_repeat : (get_or flags v 0 ≡ 0 → ⊥) → Some i ≡ place_or_none l (first_repeat (vertices l))
  marking_repeat z = placed l i (first_repeat (vertices l)) h (marking_found z)

  pub marking_before : (get_or flags v 0 ≡ 0 → ⊥) → flags ≡ marked fs (seen_to (vertices l) (first_repeat (vertices l)))
  marking_before z = m.set ∙ ap (λ r. marked fs (seen_to (vertices l) r)) (marking_found z)

  pub marking_turn : get_or flags v 0 ≡ 0 → Marking l fs (i + 1) (set flags v 1)
  marking_turn z =
      record {
        unrepeated = unrepeated_turn (vertices l) i inside (go (elem (get_or (vertices l) i 0) (seen_to (vertices l) i)) (sym flag_seen ∙ z)) m.unrepeated;
        set = rw (m.set, stands, add-one);
      }
    where
      go : (b : Bool) → ◌≡◌ {A = ℕ} (cond b 1 0) 0 → b ≡ false
      go true e = absurd (omega arith)
      go false e = refl

-- the flags set on the way to place r are those of the vertices before it
pub marked_within : (l : List ℤ) (fs : List ℕ) (r : ℕ) → r ≤ length l → Clear (vertices l) fs → SetWithin (vertices (take r l)) (marked fs (seen_to (vertices l) r))
marked_within l fs r h c =
    record {
      others = λ v e. others v e (dec_lt v (length fs));
      room = λ j q. room j q;
    }
  where
    seen : (v : ℕ) → elem v (vertices (take r l)) ≡ false → elem v (seen_to (vertices l) r) ≡ false
    seen v e = elem_seen v (vertices l) r (rw vertices_long h) ∙ rw (← (vertices_take l r)) e

    others : (v : ℕ) → elem v (vertices (take r l)) ≡ false → Dec (v < length fs) → get_or (marked fs (seen_to (vertices l) r)) v 0 ≡ 0
    others v e (yes q) =
        rw (flag_tells fs (seen_to (vertices l) r) v q (clear_flag (vertices l) fs c v q), seen v e)
    others v e (no q) =
        get_or_past (marked fs (seen_to (vertices l) r)) v 0 (omega (arith, marked_long fs (seen_to (vertices l) r)))

    room : (j : ℕ) → j < length (vertices (take r l)) → get_or (vertices (take r l)) j 0 < length (marked fs (seen_to (vertices l) r))
    room j q =
        let below : j < r = omega (arith, vertices_long (take r l), length-take r l) in
        rw (marked_long, vertices_take, get_or-take r (vertices l) j 0 below) (c.room j (omega (arith, vertices_long l)))

-- clearing a vertex's flag leaves the flags of the others
pub clear_first : (v : ℕ) (vs fs : List ℕ) → SetWithin (v ∷ vs) fs → SetWithin vs (set fs v 0)
clear_first v vs fs w =
    record {
      others = λ u e. go u e (eqb u v) refl;
      room = λ j h. rw length-set (w.room (suc j) (omega arith));
    }
  where
    go : (u : ℕ) → elem u vs ≡ false → (b : Bool) → eqb u v ≡ b → get_or (set fs v 0) u 0 ≡ 0
    go u e true q = rw (eqb-true u v q) (get_or-set_same fs v 0 0 (w.room 0 (omega arith)))
    go u e false q = get_or-set_other fs v u 0 0 (eqb-false u v q) ∙ w.others u (rw (q, e))

pub clear_last : (fs : List ℕ) → SetWithin [] fs → fs ≡ replicate (length fs) 0
clear_last fs w =
    ext_get_or 0 fs (replicate (length fs) 0) (sym (length-replicate (length fs) 0)) (λ i h. w.others i refl ∙ sym (get_or-replicate (length fs) i 0 0 h))

pub repeat_fits : (seen vs : List ℕ) → repeat_after seen vs ≤ length vs
repeat_fits seen [] = omega arith
repeat_fits seen (v ∷ vs) = go (elem v seen) (repeat_fits (v ∷ seen) vs)
  where
    go : (b : Bool) → repeat_after (v ∷ seen) vs ≤ length vs → cond b 0 (suc (repeat_after (v ∷ seen) vs)) ≤ suc (length vs)
    go true h = omega arith
    go false h = omega arith

-- natural entries are equal exactly where they are one vertex
same_entries : (x y : ℤ) → is_natural x ≡ true → is_natural y ≡ true → int_eq y x ≡ eqb (num x) (num y)
same_entries (pos a) (pos b) p q =
    same_from_decides (int_eq (pos b) (pos a)) (eqb a b) (Decides-int_eq (pos b) (pos a)) (λ e. ap pos (sym (eqb-true a b e)), λ e. eq-eqb a b (cc))
same_entries (pos a) (negsuc b) p q = absurd (false≢true q)
same_entries (negsuc a) y p q = absurd (false≢true p)

entry_among : (x : ℤ) (r : List ℤ) → is_natural x ≡ true → Naturals r → list_any (λ y. int_eq y x) r ≡ elem (num x) (vertices r)
entry_among x [] p n = refl
entry_among x (y ∷ ys) p n =
    rw (same_entries x y p (n 0 (omega arith)), entry_among x ys p (λ i h. n (suc i) (omega arith)))

-- the entries before a place are natural where all are
naturals_before : (l : List ℤ) (j : ℕ) → Naturals l → Naturals (take j l)
naturals_before l j h i k =
    let q : i < j = omega (arith, length-take j l) in
    ap is_natural (get_or-take j l i (pos 0) q) ∙ h i (omega (arith, length-take j l))

-- looking for an entry in the part before it tells whether its vertex has been seen
pub looked : (l : List ℤ) (j : ℕ) → j < length l → Naturals l → list_any (λ y. int_eq y (get_or l j (pos 0))) (take j l) ≡ elem (get_or (vertices l) j 0) (seen_to (vertices l) j)
looked l j h n =
    rw (entry_among (get_or l j (pos 0)) (take j l) (n j h) (naturals_before l j n), ← (vertex_of l j), vertices_take l j)
    (sym (elem_seen (get_or (vertices l) j 0) (vertices l) j (rw vertices_long (omega arith))))

-- what the place of the first repeat is, where a vertex has been seen and where none is left
module _ (l : List ℤ) where
  pub repeat_placed : (i : ℕ) → i < length l → elem (get_or (vertices l) i 0) (seen_to (vertices l) i) ≡ true → Unrepeated (vertices l) i → Some i ≡ place_or_none l (first_repeat (vertices l))
  repeat_placed i h e u =
      placed l i (first_repeat (vertices l)) h (unrepeated_found (vertices l) i (rw vertices_long h) e u)

  pub repeat_unplaced : (i : ℕ) → length l ≤ i → Unrepeated (vertices l) i → None ≡ place_or_none l (first_repeat (vertices l))
  repeat_unplaced i h u =
      unplaced l (first_repeat (vertices l)) (omega (arith, unrepeated_end (vertices l) i (rw vertices_long h) u))

-- a vertex that has been seen stands at an earlier place, and the other way round
pub seen_index : (vs : List ℕ) (j v : ℕ) → elem v (seen_to vs j) ≡ true → (i : ℕ) × (i < j) × (get_or vs i 0 ≡ v)
seen_index vs zero v e = absurd (false≢true e)
seen_index vs (suc j) v e = go (seen_index vs j v) (eqb v (get_or vs j 0)) refl e
  where
    go : (elem v (seen_to vs j) ≡ true → (i : ℕ) × (i < j) × (get_or vs i 0 ≡ v)) → (b : Bool) → eqb v (get_or vs j 0) ≡ b → (b || elem v (seen_to vs j)) ≡ true → (i : ℕ) × (i < suc j) × (get_or vs i 0 ≡ v)
    go earlier true q e = (j, omega arith, sym (eqb-true v (get_or vs j 0) q))
    go earlier false q e = let s = earlier e in (s.0, omega (arith, s.1), s.2)

pub seen_has : (vs : List ℕ) (j i v : ℕ) → i < j → get_or vs i 0 ≡ v → elem v (seen_to vs j) ≡ true
seen_has vs zero i v h e = absurd (omega arith)
seen_has vs (suc j) i v h e = go (seen_has vs j i v) (dec_lt i j)
  where
    go : (i < j → get_or vs i 0 ≡ v → elem v (seen_to vs j) ≡ true) → Dec (i < j) → (eqb v (get_or vs j 0) || elem v (seen_to vs j)) ≡ true
    go earlier (yes q) = rw (earlier q e) (or-true (eqb v (get_or vs j 0)))
    go earlier (no q) =
        let last : i ≡ j = omega arith in
        rw (eq-eqb v (get_or vs j 0) (sym e ∙ ap (λ k. get_or vs k 0) last))

module _ (vs : List ℕ) where
  pub repeat_found : first_repeat vs < length vs → elem (get_or vs (first_repeat vs) 0) (seen_to vs (first_repeat vs)) ≡ true
  repeat_found h = go (elem (get_or vs (first_repeat vs) 0) (seen_to vs (first_repeat vs))) refl
    where
      go : (b : Bool) → elem (get_or vs (first_repeat vs) 0) (seen_to vs (first_repeat vs)) ≡ b → b ≡ true
      go true e = refl
      go false e = absurd (omega (arith, (unrepeated_before vs (first_repeat vs) (omega arith)).left, repeat_later vs (first_repeat vs) h e))

  -- a vertex that has been seen, and none before it, is the first repeat
  pub repeat_only : (j : ℕ) → j < length vs → elem (get_or vs j 0) (seen_to vs j) ≡ true → ((i : ℕ) → i < j → elem (get_or vs i 0) (seen_to vs i) ≡ false) → first_repeat vs ≡ j
  repeat_only j h e none = go (dec_lt (first_repeat vs) j) (dec_lt j (first_repeat vs))
    where
      go : Dec (first_repeat vs < j) → Dec (j < first_repeat vs) → first_repeat vs ≡ j
      go (yes q) d = absurd (true≢false (sym (repeat_found (omega arith)) ∙ none (first_repeat vs) q))
      go (no q) (yes t) = absurd (true≢false (sym e ∙ seen_not vs j h t))
      go (no q) (no t) = omega arith
