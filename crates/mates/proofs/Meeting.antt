-- The walk along the order: why the words found by matching each corner with the last one before it that has its key are the right
-- ones.
--
--   Turned ks xs i ms r      what the meeting of the corner at place i leaves: the words ms; r is 1 where it is the third, else 0
--   Meeting ks xs i ms ls s  the first i corners have met, and s singular edges were counted
use Prim.Native.Nat.{ℕ, zero, suc, ◌+◌, ◌*◌, ◌≤◌, ◌<◌}
use mathlib.Core.Path.{◌≡◌, refl, sym, ◌∙◌, ap}
use mathlib.Core.Bool.{Bool, true, false, cond}
use mathlib.Core.List.{List, [], ◌∷◌, ◌++◌, append-nil}
use mathlib.Core.Logic.{◌⊎◌, inl, inr}
use native.Mathlib.Omega.{arith}
use native.Mathlib.Numerals.{add-one}
use borrow.Author.Tests.{eq-eqb, ne_eqb, eqb-true, eqb-false}
use lib.Dec.{eqb}
use lib.ListN.{get_or-append, length, get_or, take, drop, set, replicate, length-set, length-replicate, get_or-replicate, take-append-drop, length-drop}
use lib.Seq.{take-suc, take_all, get_or-take, get_or-set_same, get_or-set_other, length-take-le}
use Rattle.list.specs.Limits.{max_entries}
use Rattle.order.specs.Choose.{choose, count, All, up_from}
use Rattle.order.specs.Sort.{part, digit_is, Sorted, key_at, lower, higher, Arranged, KeysBelow, Grouped}
use Rattle.order.proofs.Lists.{In, at_in, all_at, all_of, all_in, all_map, in_choose, all_both, in_up_from, choose-append, choose_none, choose_same, choose_few, length-up_from, Rising, rising_choose, rising_up_from}
use Rattle.order.proofs.Parts.{past}
use Rattle.order.proofs.Blocks.{all_choose, all_chosen, bit, count_split}
use Rattle.mates.specs.Mates.{mate_among, mate_word, starts_many}
use Rattle.mates.specs.Matching.{same_key, word_by, starts_by, RightAt, last_of, met, starts_met, earlier, last_at, noted, Met, Words}
use Rattle.mates.proofs.Settling.{all_front, all_last, written, Settled, settled_same, none_new, own, paired, joined, crowded, settle_pair, settle_join, settle_crowd}

-- the front of a list, its last element, and its elements by place

rising_front : (s : ℕ) (xs ys : List ℕ) → Rising s (xs ++ ys) → Rising s xs
rising_front s [] ys r = tt
rising_front s (x ∷ xs) ys r = (r.0, rising_front (suc x) xs ys r.1)

last_snoc : (d x : ℕ) (xs : List ℕ) → last_of d (xs ++ (x ∷ [])) ≡ x
last_snoc d x [] = refl
last_snoc d x (y ∷ ys) = last_snoc y x ys

in_all : (P : ℕ → Type 0) (x : ℕ) (xs : List ℕ) → All P xs → In x xs → P x
in_all P x [] a i = absurd i
in_all P x (y ∷ ys) a (inl e) = rw e a.0
in_all P x (y ∷ ys) a (inr i) = in_all P x ys a.1 i

sorted_at : (f : ℕ → ℕ) (xs : List ℕ) → Sorted f xs → (p q : ℕ) → p < q → q < length xs → f (get_or xs p 0) ≤ f (get_or xs q 0)
sorted_at f [] s p q h k = absurd (omega arith)
sorted_at f (x ∷ xs) s zero zero h k = absurd (omega arith)
sorted_at f (x ∷ xs) s zero (suc q) h k = all_at (λ (y : ℕ). f x ≤ f y) 0 xs s.0 q (omega arith)
sorted_at f (x ∷ xs) s (suc p) zero h k = absurd (omega arith)
sorted_at f (x ∷ xs) s (suc p) (suc q) h k = sorted_at f xs s.1 p q (omega arith) (omega arith)

-- what corner 0 has is chosen with it at the head
choose_first : (p : ℕ → Bool) (c : ℕ) → 0 < c → p 0 ≡ true → get_or (choose p (up_from 0 c)) 0 0 ≡ 0
choose_first p zero h e = absurd (omega arith)
choose_first p (suc m) h e = rw e

-- the corners met, in an order xs whose keys are those of ks
module _ (ks xs : List ℕ) (i : ℕ) (h : i < length xs) where
  abbrev come : ℕ
  come = get_or xs i 0

  met_next : (k : ℕ) → met ks xs (i + 1) k ≡ met ks xs i k ++ choose (digit_is (key_at ks) k) (come ∷ [])
  met_next k = rw (add-one i, take-suc xs i 0 h) (choose-append (digit_is (key_at ks) k) (take i xs) (come ∷ []))

  met_same : met ks xs (i + 1) (key_at ks come) ≡ met ks xs i (key_at ks come) ++ (come ∷ [])
  met_same = met_next (key_at ks come) ∙ rw (eq-eqb (key_at ks come) (key_at ks come) refl)

  met_other : (k : ℕ) → (key_at ks come ≡ k → ⊥) → met ks xs (i + 1) k ≡ met ks xs i k
  met_other k o = met_next k ∙ rw (ne_eqb (key_at ks come) k o) (append-nil (met ks xs i k))

met_key : (ks xs : List ℕ) (i k : ℕ) → All (λ (x : ℕ). key_at ks x ≡ k) (met ks xs i k)
met_key ks xs i k = all_map (λ (x : ℕ). digit_is (key_at ks) k x ≡ true) (λ (x : ℕ). key_at ks x ≡ k) (met ks xs i k) (λ x e. eqb-true (key_at ks x) k e) (all_chosen (digit_is (key_at ks) k) (take i xs))

module _ (c : ℕ) (ks xs : List ℕ) (f : ℕ → ℕ) (a : Arranged c (key_at ks) f xs) where
  met_front : (i k : ℕ) → met ks xs i k ++ choose (digit_is (key_at ks) k) (drop i xs) ≡ choose (digit_is (key_at ks) k) (up_from 0 c)
  met_front i k = sym (choose-append (digit_is (key_at ks) k) (take i xs) (drop i xs)) ∙ ap (choose (digit_is (key_at ks) k)) (take-append-drop i xs) ∙ a.stable k

  met_rises : (i k : ℕ) → Rising 0 (met ks xs i k)
  met_rises i k =
      rising_front 0 (met ks xs i k) (choose (digit_is (key_at ks) k) (drop i xs)) (rw (met_front i k) (rising_choose (digit_is (key_at ks) k) 0 (up_from 0 c) (rising_up_from 0 c)))

  met_inside : (i k : ℕ) → All (λ (x : ℕ). x < c) (met ks xs i k)
  met_inside i k =
      all_choose (λ (x : ℕ). x < c) (digit_is (key_at ks) k) (take i xs) (all_front (λ (x : ℕ). x < c) (take i xs) (drop i xs) (rw (take-append-drop i xs) a.order.inside))

  -- all met
  met_all : (k : ℕ) → met ks xs c k ≡ choose (digit_is (key_at ks) k) (up_from 0 c)
  met_all k = ap (choose (digit_is (key_at ks) k)) (take_all c xs (omega (arith, a.order.long))) ∙ a.stable k

module _ (ks xs : List ℕ) (i : ℕ) (ls : List ℕ) (m : Met ks xs i ls) (h : i < length ks) where
  abbrev c : ℕ
  c = length ks

  abbrev pub corner : ℕ
  corner = get_or xs i 0

  abbrev pub key : ℕ
  key = key_at ks corner

  abbrev pub before : List ℕ
  before = earlier ks xs i

  corner_at : (p : ℕ) → p < c → get_or xs p 0 < c
  corner_at p q = all_at (λ (e : ℕ). e < c) 0 xs m.arranged.order.inside p (rw m.arranged.order.long q)

  pub corner_in : corner < c
  corner_in = corner_at i h

  long_order : length xs ≡ c
  long_order = m.arranged.order.long

  pub vertex_in : higher key < length ls
  vertex_in = m.fits corner corner_in

  all_here : met ks xs (i + 1) key ≡ before ++ (corner ∷ [])
  all_here = met_same ks xs i (rw long_order h)

  -- the first corner with the key of corner 0 is that one
  first_zero : before ≡ [] → key_at ks 0 ≡ key → corner ≡ 0
  first_zero s k =
      ap (λ (l : List ℕ). get_or l 0 0) (rw (all_here, s) at (met_front c ks xs (λ (e : ℕ). lower (key_at ks e)) m.arranged (i + 1) key)) ∙
      choose_first (digit_is (key_at ks) key) c (omega arith) (eq-eqb (key_at ks 0) key k)

  last_met : (zs : List ℕ) → before ≡ zs → key_at ks (last_at ks ls corner) ≡ key → last_at ks ls corner ≡ last_of corner zs
  last_met [] s k = go (m.seen corner corner_in)
    where
      go : (last_at ks ls corner ≡ 0) ⊎ ((p : ℕ) × (p < i) × (get_or xs p 0 ≡ last_at ks ls corner)) → last_at ks ls corner ≡ corner
      go (inl z) = z ∙ sym (first_zero s (ap (key_at ks) (sym z) ∙ k))
      go (inr p) =
          let here : In (get_or (take i xs) p.0 0) (take i xs) = at_in 0 (take i xs) p.0 (rw (length-take-le i xs (omega (arith, long_order))) p.1) in
          let there : In (last_at ks ls corner) (take i xs) = rw (get_or-take i xs p.0 0 p.1 ∙ p.2) at here in
          absurd (rw s at (in_choose (digit_is (key_at ks) key) (last_at ks ls corner) (take i xs) there (eq-eqb (key_at ks (last_at ks ls corner)) key k)))
  last_met (z ∷ zs) s k = sym (rw s at (m.last i (omega arith) h))

  last_none : (zs : List ℕ) → before ≡ zs → (key_at ks (last_at ks ls corner) ≡ key → ⊥) → corner ≡ last_of corner zs
  last_none [] s o = refl
  last_none (z ∷ zs) s o =
      let a : All (λ (x : ℕ). key_at ks x ≡ key) (z ∷ zs) = rw s at (met_key ks xs i key) in
      let l : last_of z zs ≡ last_at ks ls corner = rw s at (m.last i (omega arith) h) in
      absurd (o (rw l at (all_last (λ (x : ℕ). key_at ks x ≡ key) z zs a.0 a.1)))

  pub last_hit : key_at ks (last_at ks ls corner) ≡ key → last_at ks ls corner ≡ last_of corner before
  last_hit = last_met before refl

  pub last_miss : (key_at ks (last_at ks ls corner) ≡ key → ⊥) → corner ≡ last_of corner before
  last_miss = last_none before refl

  pub here_rises : Rising 0 (before ++ (corner ∷ []))
  here_rises = rw all_here at (met_rises c ks xs (λ (e : ℕ). lower (key_at ks e)) m.arranged (i + 1) key)

  pub here_inside : All (λ (x : ℕ). x < c) (before ++ (corner ∷ []))
  here_inside = rw all_here at (met_inside c ks xs (λ (e : ℕ). lower (key_at ks e)) m.arranged (i + 1) key)

  here_key : All (λ (x : ℕ). key_at ks x ≡ key) (before ++ (corner ∷ []))
  here_key = rw all_here at (met_key ks xs (i + 1) key)

  -- another key with the same higher vertex has no corner before this one and one behind it: its lower vertex is another
  none_before : (q : ℕ) → i < q → q < c → higher (key_at ks (get_or xs q 0)) ≡ higher key → (key ≡ key_at ks (get_or xs q 0) → ⊥) → met ks xs i (key_at ks (get_or xs q 0)) ≡ []
  none_before q a b s o =
      let f = key_at ks (get_or xs q 0) in
      choose_none (digit_is (key_at ks) f) (take i xs)
      (all_of (λ (x : ℕ). digit_is (key_at ks) f x ≡ false) 0 (take i xs)
      (λ p l.
      let t : p < i = rw (length-take-le i xs (omega (arith, long_order))) at l in
      rw (get_or-take i xs p 0 t)
      (ne_eqb (key_at ks (get_or xs p 0)) f
      (λ u. o (omega (arith, u, s, sorted_at (λ (e : ℕ). lower (key_at ks e)) xs m.arranged.sorted p i t (rw long_order h), sorted_at (λ (e : ℕ). lower (key_at ks e)) xs m.arranged.sorted i q a (rw long_order b)))))))

  -- ls' has the corner as the last one met at its vertex
  abbrev ls' : List ℕ
  ls' = noted ks ls corner

  last_here : (f : ℕ) → higher (key_at ks f) ≡ higher key → get_or ls' (higher (key_at ks f)) 0 ≡ corner
  last_here f s = rw s (get_or-set_same ls (higher key) corner 0 vertex_in)

  last_there : (f : ℕ) → (higher (key_at ks f) ≡ higher key → ⊥) → get_or ls' (higher (key_at ks f)) 0 ≡ last_at ks ls f
  last_there f o = get_or-set_other ls (higher key) (higher (key_at ks f)) corner 0 o

  abbrev Seen' : ℕ → Type 0
  Seen' f = (get_or ls' (higher (key_at ks f)) 0 ≡ 0) ⊎ ((p : ℕ) × (p < i + 1) × (get_or xs p 0 ≡ get_or ls' (higher (key_at ks f)) 0))

  seen' : (f : ℕ) → f < c → (t : Bool) → eqb (higher (key_at ks f)) (higher key) ≡ t → Seen' f
  seen' f b true t = inr (i, omega arith, sym (last_here f (eqb-true (higher (key_at ks f)) (higher key) t)))
  seen' f b false t = go (m.seen f b)
    where
      same : get_or ls' (higher (key_at ks f)) 0 ≡ last_at ks ls f
      same = last_there f (eqb-false (higher (key_at ks f)) (higher key) t)

      go : (last_at ks ls f ≡ 0) ⊎ ((p : ℕ) × (p < i) × (get_or xs p 0 ≡ last_at ks ls f)) → Seen' f
      go (inl z) = inl (same ∙ z)
      go (inr p) = inr (p.0, omega (arith, p.1), p.2 ∙ sym same)

  abbrev Last' : ℕ → Type 0
  Last' f = last_of (get_or ls' (higher (key_at ks f)) 0) (met ks xs (i + 1) (key_at ks f)) ≡ get_or ls' (higher (key_at ks f)) 0

  last' : (q : ℕ) → i + 1 ≤ q → q < c → (t : Bool) → eqb (higher (key_at ks (get_or xs q 0))) (higher key) ≡ t → (u : Bool) → eqb key (key_at ks (get_or xs q 0)) ≡ u → Last' (get_or xs q 0)
  last' q a b true t true u =
      let s : key ≡ key_at ks (get_or xs q 0) = eqb-true key (key_at ks (get_or xs q 0)) u in
      let l = last_here (get_or xs q 0) (eqb-true (higher (key_at ks (get_or xs q 0))) (higher key) t) in
      rw (l, ← s, all_here) (last_snoc corner corner before)
  last' q a b true t false u =
      let o : key ≡ key_at ks (get_or xs q 0) → ⊥ = eqb-false key (key_at ks (get_or xs q 0)) u in
      let s : higher (key_at ks (get_or xs q 0)) ≡ higher key = eqb-true (higher (key_at ks (get_or xs q 0))) (higher key) t in
      rw (last_here (get_or xs q 0) s, met_other ks xs i (rw long_order h) (key_at ks (get_or xs q 0)) o, none_before q (omega arith) b s o)
  last' q a b false t u v =
      let o : higher (key_at ks (get_or xs q 0)) ≡ higher key → ⊥ = eqb-false (higher (key_at ks (get_or xs q 0))) (higher key) t in
      rw (last_there (get_or xs q 0) o, met_other ks xs i (rw long_order h) (key_at ks (get_or xs q 0)) (λ s. o (ap higher (sym s)))) (m.last q (omega arith) b)

  pub met_turn : Met ks xs (i + 1) ls'
  met_turn =
      record {
        few = m.few;
        arranged = m.arranged;
        inside = omega arith;
        fits = rw (length-set ls (higher key) corner) m.fits;
        seen = λ f b. seen' f b (eqb (higher (key_at ks f)) (higher key)) refl;
        last = λ q a b. last' q a b (eqb (higher (key_at ks (get_or xs q 0))) (higher key)) refl (eqb key (key_at ks (get_or xs q 0))) refl;
      }

  module _ (ms : List ℕ) (W : Words ks xs i ms) where
    abbrev M₁ : ℕ → ℕ
    M₁ x = get_or ms x 0

    before_words : All (λ (x : ℕ). M₁ x ≡ mate_word c x (mate_among x before)) before
    before_words = W.right key

    module _ (ms' : List ℕ) (r : ℕ) (room : length ms' ≡ c) (S : Settled c corner before M₁ (λ (x : ℕ). get_or ms' x 0) r) where
      words' : (k : ℕ) → (t : Bool) → eqb key k ≡ t → All (λ (x : ℕ). get_or ms' x 0 ≡ mate_word c x (mate_among x (met ks xs (i + 1) k))) (met ks xs (i + 1) k)
      words' k true t = let s : key ≡ k = eqb-true key k t in rw (← s, all_here) S.words
      words' k false t =
          let o : key ≡ k → ⊥ = eqb-false key k t in
          rw (met_other ks xs i (rw long_order h) k o)
          (all_map (λ (x : ℕ). (key_at ks x ≡ k) × (M₁ x ≡ mate_word c x (mate_among x (met ks xs i k)))) (λ (x : ℕ). get_or ms' x 0 ≡ mate_word c x (mate_among x (met ks xs i k))) (met ks xs i k)
          (λ x p. S.others x (λ j. o (sym (in_all (λ (y : ℕ). key_at ks y ≡ key) x (before ++ (corner ∷ [])) here_key j) ∙ p.0)) ∙ p.1)
          (all_both (λ (x : ℕ). key_at ks x ≡ k) (λ (x : ℕ). M₁ x ≡ mate_word c x (mate_among x (met ks xs i k))) (met ks xs i k) (met_key ks xs i k) (W.right k)))

      words_turn : Words ks xs (i + 1) ms'
      words_turn = record { room = room; right = λ k. words' k (eqb key k) refl }

      more : (x : ℕ) → (t : Bool) → eqb key (key_at ks x) ≡ t → bit (starts_met ks xs i x) + bit (S.new x) ≡ bit (starts_met ks xs (i + 1) x)
      more x true t = let s : key ≡ key_at ks x = eqb-true key (key_at ks x) t in rw (← s, all_here) (S.starts x)
      more x false t =
          let o : key ≡ key_at ks x → ⊥ = eqb-false key (key_at ks x) t in
          rw (met_other ks xs i (rw long_order h) (key_at ks x) o) (go (S.new x) refl (λ n. o (sym (in_all (λ (y : ℕ). key_at ks y ≡ key) x before (met_key ks xs i key) (S.new_in x n)))))
        where
          go : (b : Bool) → S.new x ≡ b → (S.new x ≡ true → ⊥) → bit (starts_met ks xs i x) + bit b ≡ bit (starts_met ks xs i x)
          go true e f = absurd (f e)
          go false e f = omega arith

      met_counted : count (starts_met ks xs i) (up_from 0 c) + r ≡ count (starts_met ks xs (i + 1)) (up_from 0 c)
      met_counted = rw S.counted at (count_split (starts_met ks xs i) S.new (starts_met ks xs (i + 1)) (λ x. more x (eqb key (key_at ks x)) refl) (up_from 0 c))

-- looking up, in the words of the code: v is the higher vertex that it found
module _ (ks xs : List ℕ) (i : ℕ) (ls : List ℕ) (m : Met ks xs i ls) (h : i < length ks) (v : ℕ) (e : v ≡ higher (get_or ks (get_or xs i 0) 0)) where
  pub look_hit : get_or ks (get_or ls v 0) 0 ≡ get_or ks (get_or xs i 0) 0 → get_or ls v 0 ≡ last_of (get_or xs i 0) (earlier ks xs i)
  look_hit = rw e (last_hit ks xs i ls m h)

  pub look_miss : (get_or ks (get_or ls v 0) 0 ≡ get_or ks (get_or xs i 0) 0 → ⊥) → get_or xs i 0 ≡ last_of (get_or xs i 0) (earlier ks xs i)
  look_miss = rw e (last_miss ks xs i ls m h)

set_word : (ms : List ℕ) (e v x : ℕ) → e < length ms → get_or (set ms e v) x 0 ≡ written (λ (y : ℕ). get_or ms y 0) e v x
set_word ms e v x h = go (eqb x e) refl
  where
    go : (t : Bool) → eqb x e ≡ t → get_or (set ms e v) x 0 ≡ cond t v (get_or ms x 0)
    go true t = rw (eqb-true x e t) (get_or-set_same ms e v 0 h)
    go false t = get_or-set_other ms e x v 0 (eqb-false x e t)

-- what one corner's meeting leaves
pub record Turned (ks xs : List ℕ) (i : ℕ) (ms' : List ℕ) (r : ℕ) : Type 0 where
  pub words : Words ks xs (i + 1) ms'
  pub counted : count (starts_met ks xs i) (up_from 0 (length ks)) + r ≡ count (starts_met ks xs (i + 1)) (up_from 0 (length ks))

-- the words that the code writes: a is the corner that it found
module _ (ks xs : List ℕ) (i : ℕ) (ls : List ℕ) (m : Met ks xs i ls) (h : i < length ks) (ms : List ℕ) (W : Words ks xs i ms) where
  abbrev c₁ : ℕ
  c₁ = length ks

  abbrev e : ℕ
  e = get_or xs i 0

  abbrev ys : List ℕ
  ys = earlier ks xs i

  abbrev M : ℕ → ℕ
  M x = get_or ms x 0

  -- the corner's own word first
  abbrev ms₂ : List ℕ
  ms₂ = set ms e e

  pub e_in : e < c₁
  e_in = corner_in ks xs i ls m h

  last_in_order : last_of e ys < c₁
  last_in_order = all_last (λ (x : ℕ). x < c₁) e ys e_in (all_front (λ (x : ℕ). x < c₁) ys (e ∷ []) (here_inside ks xs i ls m h))

  word₂ : (x : ℕ) → get_or ms₂ x 0 ≡ own c₁ e M x
  word₂ x = set_word ms e e x (omega (arith, e_in, W.room))

  room₂ : length ms₂ ≡ c₁
  room₂ = length-set ms e e ∙ W.room

  -- one word more
  module _ (ms' : List ℕ) (N : ℕ → ℕ) (k : length ms' ≡ c₁) (q : (x : ℕ) → get_or ms' x 0 ≡ N x) (f v : ℕ) (b : f < c₁) where
    more_room : length (set ms' f v) ≡ c₁
    more_room = length-set ms' f v ∙ k

    more_word : (x : ℕ) → get_or (set ms' f v) x 0 ≡ written N f v x
    more_word x = set_word ms' f v x (omega arith) ∙ ap (λ (y : ℕ). cond (eqb x f) v y) (q x)

  turned : (ms' : List ℕ) (N : ℕ → ℕ) (r : ℕ) → length ms' ≡ c₁ → ((x : ℕ) → get_or ms' x 0 ≡ N x) → Settled c₁ e ys M N r → Turned ks xs i ms' r
  turned ms' N r k q S =
      let T = settled_same c₁ e ys M N (λ (x : ℕ). get_or ms' x 0) r q S in
      record { words = words_turn ks xs i ls m h ms W ms' r k T; counted = met_counted ks xs i ls m h ms W ms' r k T }

  abbrev mj : List ℕ
  mj = set ms₂ e c₁

  joined_room : length mj ≡ c₁
  joined_room = more_room ms₂ (own c₁ e M) room₂ word₂ e c₁ e_in

  joined_word : (x : ℕ) → get_or mj x 0 ≡ joined c₁ e M x
  joined_word = more_word ms₂ (own c₁ e M) room₂ word₂ e c₁ e_in

  module _ (a : ℕ) (p : a ≡ last_of e ys) where
    pub found_in : a < c₁
    found_in = rw p last_in_order

    pub pair_turn : get_or ms₂ a 0 ≡ a → Turned ks xs i (set (set ms₂ e a) a e) 0
    pair_turn s =
        let k = more_room ms₂ (own c₁ e M) room₂ word₂ e a e_in in
        let q = more_word ms₂ (own c₁ e M) room₂ word₂ e a e_in in
        turned (set (set ms₂ e a) a e) (paired c₁ e M a) 0
        (more_room (set ms₂ e a) (written (own c₁ e M) e a) k q a e found_in)
        (more_word (set ms₂ e a) (written (own c₁ e M) e a) k q a e found_in)
        (rw p (settle_pair c₁ e M ys (here_rises ks xs i ls m h) (here_inside ks xs i ls m h) (before_words ks xs i ls m h ms W) (rw p at (sym (word₂ a) ∙ s))))

    pub join_turn : (get_or ms₂ a 0 ≡ a → ⊥) → get_or ms₂ a 0 ≡ c₁ → Turned ks xs i mj 0
    join_turn o s =
        let o₂ : own c₁ e M a ≡ a → ⊥ = λ t. o (word₂ a ∙ t) in
        turned mj (joined c₁ e M) 0 joined_room joined_word
        (settle_join c₁ e M ys (here_rises ks xs i ls m h) (here_inside ks xs i ls m h) (before_words ks xs i ls m h ms W) (rw p at o₂) (rw p at (sym (word₂ a) ∙ s)))

    crowd : (get_or ms₂ a 0 ≡ a → ⊥) → (get_or ms₂ a 0 ≡ c₁ → ⊥) → (get_or ms₂ a 0 < c₁) × Settled c₁ e ys M (crowded c₁ e M a (get_or ms₂ a 0)) 1
    crowd o u =
        let o₂ : own c₁ e M a ≡ a → ⊥ = λ t. o (word₂ a ∙ t) in
        let u₂ : own c₁ e M a ≡ c₁ → ⊥ = λ t. u (word₂ a ∙ t) in
        rw (word₂ a, p)
        (settle_crowd c₁ e M ys (here_rises ks xs i ls m h) (here_inside ks xs i ls m h) (before_words ks xs i ls m h ms W) (rw p at o₂) (rw p at u₂))

    pub crowd_in : (get_or ms₂ a 0 ≡ a → ⊥) → (get_or ms₂ a 0 ≡ c₁ → ⊥) → get_or ms₂ a 0 < c₁
    crowd_in o u = (crowd o u).0

    pub crowd_turn : (get_or ms₂ a 0 ≡ a → ⊥) → (get_or ms₂ a 0 ≡ c₁ → ⊥) → Turned ks xs i (set (set mj a c₁) (get_or ms₂ a 0) c₁) 1
    crowd_turn o u =
        let t = crowd o u in
        let b = get_or ms₂ a 0 in
        let k = more_room mj (joined c₁ e M) joined_room joined_word a c₁ found_in in
        let q = more_word mj (joined c₁ e M) joined_room joined_word a c₁ found_in in
        turned (set (set mj a c₁) b c₁) (crowded c₁ e M a b) 1
        (more_room (set mj a c₁) (written (joined c₁ e M) a c₁) k q b c₁ t.0)
        (more_word (set mj a c₁) (written (joined c₁ e M) a c₁) k q b c₁ t.0)
        t.1

-- corner after corner
pub record Meeting (ks xs : List ℕ) (i : ℕ) (ms ls : List ℕ) (s : ℕ) : Type 0 where
  pub met : Met ks xs i ls
  pub words : Words ks xs i ms
  pub counted : count (starts_met ks xs i) (up_from 0 (length ks)) ≡ s

pub meeting_none : (ks xs ms ls : List ℕ) → Met ks xs 0 ls → length ms ≡ length ks → Meeting ks xs 0 ms ls 0
meeting_none ks xs ms ls m r = record { met = m; words = record { room = r; right = λ k. tt }; counted = none_new (length ks) }

module _ (ks xs : List ℕ) (i : ℕ) (ms ls : List ℕ) (s : ℕ) (P : Meeting ks xs i ms ls s) where
  pub meeting_few : s ≤ length ks
  meeting_few = omega (arith, P.counted, choose_few (starts_met ks xs i) (up_from 0 (length ks)), length-up_from 0 (length ks))

  -- all have met
  module _ (h : i ≡ length ks) where
    all_met : (e : ℕ) → met ks xs i (key_at ks e) ≡ same_key ks e
    all_met e = rw h (met_all (length ks) ks xs (λ (f : ℕ). lower (key_at ks f)) P.met.arranged (key_at ks e))

    pub meeting_right : (e : ℕ) → e < length ks → get_or ms e 0 ≡ word_by ks e
    meeting_right e q =
        let here : In e (same_key ks e) = in_choose (digit_is (key_at ks) (key_at ks e)) e (up_from 0 (length ks)) (in_up_from 0 (length ks) e (omega arith) (omega arith)) (eq-eqb (key_at ks e) (key_at ks e) refl) in
        in_all (λ (x : ℕ). get_or ms x 0 ≡ mate_word (length ks) x (mate_among x (same_key ks e))) e (same_key ks e) (rw (all_met e) at (P.words.right (key_at ks e))) here

    pub meeting_counted : s ≡ count (starts_by ks) (up_from 0 (length ks))
    meeting_counted =
        sym P.counted ∙
        ap length
        (choose_same (starts_met ks xs i) (starts_by ks) (up_from 0 (length ks))
        (all_in (λ (e : ℕ). starts_met ks xs i e ≡ starts_by ks e) (up_from 0 (length ks)) (λ e q. ap (starts_many e) (all_met e))))

-- none has met: every vertex has 0
pub none_met : (n m : ℕ) (ks xs : List ℕ) → length ks ≤ max_entries → Arranged (length ks) (key_at ks) (λ (e : ℕ). lower (key_at ks e)) xs → ((e : ℕ) → e < length ks → higher (key_at ks e) < n) → n ≤ m → Met ks xs 0 (replicate m 0)
none_met n m ks xs few a v h =
    record {
      few = few;
      arranged = a;
      inside = omega arith;
      fits = λ e q. rw length-replicate (below e q);
      seen = λ e q. inl (get_or-replicate m (higher (key_at ks e)) 0 0 (below e q));
      last = λ q a d. refl;
    }
  where
    below : (e : ℕ) → e < length ks → higher (key_at ks e) < m
    below e q = omega (arith, v e q)

-- the work buffer that is split after the keys, and its back after the order: none of its corners has met
module _ {c : ℕ} {w keys back order : List ℕ} (front : keys ≡ take c w) (behind : back ≡ drop c w) (next : order ≡ take c back) (g : Grouped c w) where
  order_part : order ≡ part c c w
  order_part = next ∙ ap (take c) behind

  keys_long : length keys ≡ c
  keys_long = rw front (length-take-le c w (omega (arith, g.long)))

  order_long : length order ≡ c
  order_long = rw order_part (length-take-le c (drop c w) (omega (arith, g.long, length-drop c w)))

  pub none_met_yet : {n m : ℕ} → KeysBelow c n w → n ≤ m → Met keys order 0 (replicate m 0)
  none_met_yet {n = n} {m = m} v h =
      none_met n m keys order (rw keys_long g.few) (rw (keys_long, front, order_part) g.arranged)
      (λ e q. let q' = rw keys_long at q in rw (front, get_or-take c w e 0 q') (v e q').1) h

  -- the words stand where the contract says
  pub right_joined : (mates tail : List ℕ) → length mates ≡ c → ((e : ℕ) → e < length keys → get_or mates e 0 ≡ word_by keys e) → (e : ℕ) → e < c → RightAt c (part 0 c w) (keys ++ (order ++ (mates ++ tail))) e
  right_joined mates tail l r e h =
      let place : 2 * c + e ≡ c + (c + e) = omega arith in
      let words : get_or mates e 0 ≡ word_by (part 0 c w) e = r e (rw keys_long h) ∙ ap (λ k. word_by k e) front in
      rw place (past keys (order ++ (mates ++ tail)) c (c + e) keys_long ∙ past order (mates ++ tail) c e order_long ∙ get_or-append mates tail 0 e (rw l h) ∙ words)
