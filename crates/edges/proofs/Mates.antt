-- Laws of mates: the mate of a corner's edge is alone, the other corner or many exactly when one, two or more faces lie on the
-- edge, and the mate of a regular edge's mate is the corner itself.
--
--   sharing l a b     the corners whose uses are uses of the edge between a and b
--   mate l e          the mate of corner e
--   faces_at l e      the number of faces on the edge that starts at corner e
--   word l e          the word of the edge table for corner e's mate
use Prim.Native.Nat.{ℕ, ◌≤◌, ◌<◌}
use mathlib.Core.Path.{◌≡◌, refl, sym, ◌∙◌, ap}
use mathlib.Core.Bool.{true, cond}
use mathlib.Core.List.{List, [], ◌∷◌, map}
use mathlib.Core.Logic.{◌↔◌, inl, inr}
use native.Mathlib.Omega.{arith}
use borrow.Author.Tests.{eq-eqb, ne_eqb}
use lib.Dec.{eqb}
use lib.IntN.{ℤ}
use lib.ListN.{length, length-map}
use Rattle.order.specs.Choose.{choose, All, up_from}
use Rattle.order.proofs.Lists.{In, all_in, in_choose, in_chosen, choose-map, in_up_from, up_from_in, Rising, rising_up_from, rising_choose, from_table}
use Rattle.mates.specs.Mates.{Mate, alone, other, many, mate_among, mate_word}
use Rattle.edges.specs.Uses.{Use, uses, on_edge, uses_on, faces_on, corners_of, mate_of, no_use, use_at}
use Rattle.edges.proofs.Uses.{corner_at_lem}
use Rattle.edges.proofs.Faces.{on_edge_lem, edge_on}

abbrev pub sharing : List ℤ → ℕ → ℕ → List ℕ
sharing l a b = choose (λ (e : ℕ). on_edge a b (use_at l e)) (up_from 0 (length (uses l)))

abbrev pub mate : List ℤ → ℕ → Mate
mate l e = mate_of (uses l) (use_at l e)

abbrev pub faces_at : List ℤ → ℕ → ℕ
faces_at l e = faces_on l (use_at l e).from (use_at l e).to

abbrev pub word : List ℤ → ℕ → ℕ
word l e = mate_word (length (uses l)) e (mate l e)

corners_back : (g : ℕ → Use) (es : List ℕ) → All (λ (e : ℕ). (g e).corner ≡ e) es → corners_of (map g es) ≡ es
corners_back g [] a = refl
corners_back g (e ∷ es) a = rw a.0 (ap (λ (l : List ℕ). e ∷ l) (corners_back g es a.1))

pub sharing_is : (l : List ℤ) (a b : ℕ) → corners_of (uses_on (uses l) a b) ≡ sharing l a b
sharing_is l a b =
    ap (λ (us : List Use). corners_of (choose (on_edge a b) us)) (sym (from_table no_use (uses l))) ∙
    ap corners_of (choose-map (on_edge a b) (use_at l) (up_from 0 (length (uses l)))) ∙
    corners_back (use_at l) (sharing l a b)
    (all_in (λ (e : ℕ). (use_at l e).corner ≡ e) (sharing l a b) (λ e i. corner_at_lem l e (omega (arith, up_from_in 0 (length (uses l)) e (in_chosen (λ (f : ℕ). on_edge a b (use_at l f)) e (up_from 0 (length (uses l))) i).0))))

pub sharing_faces : (l : List ℤ) (a b : ℕ) → length (sharing l a b) ≡ faces_on l a b
sharing_faces l a b = sym (ap length (sharing_is l a b)) ∙ length-map (uses_on (uses l) a b) (λ (u : Use). u.corner)

pub sharing_rises : (l : List ℤ) (a b : ℕ) → Rising 0 (sharing l a b)
sharing_rises l a b = rising_choose (λ (e : ℕ). on_edge a b (use_at l e)) 0 (up_from 0 (length (uses l))) (rising_up_from 0 (length (uses l)))

pub in_sharing : (l : List ℤ) (a b e : ℕ) → In e (sharing l a b) → (e < length (uses l)) × (on_edge a b (use_at l e) ≡ true)
in_sharing l a b e i =
    let p = in_chosen (λ (f : ℕ). on_edge a b (use_at l f)) e (up_from 0 (length (uses l))) i in
    (omega (arith, up_from_in 0 (length (uses l)) e p.0), p.1)

pub shares : (l : List ℤ) (a b e : ℕ) → e < length (uses l) → on_edge a b (use_at l e) ≡ true → In e (sharing l a b)
shares l a b e h o = in_choose (λ (f : ℕ). on_edge a b (use_at l f)) e (up_from 0 (length (uses l))) (in_up_from 0 (length (uses l)) e (omega arith) (omega arith)) o

-- corners of one edge share it with the same corners
pub sharing_same : (l : List ℤ) (a b e : ℕ) → on_edge a b (use_at l e) ≡ true → sharing l (use_at l e).from (use_at l e).to ≡ sharing l a b
sharing_same l a b e o =
    let p = on_edge_lem a b (use_at l e) o in
    rw (p.0, p.1)

-- the verdict on a rising list of corners that has the corner asked about

among_alone : (e : ℕ) (xs : List ℕ) → In e xs → (mate_among e xs ≡ alone) ↔ (length xs ≡ 1)
among_alone e [] i = absurd i
among_alone e (x ∷ []) i = (λ p. refl, λ p. refl)
among_alone e (x ∷ y ∷ []) i = (λ p. let z : ◌≡◌ {A = ℕ} 0 1 = cc in omega arith, λ p. absurd (omega arith))
among_alone e (x ∷ y ∷ z ∷ zs) i = (λ p. let z : ◌≡◌ {A = ℕ} 0 1 = cc in omega arith, λ p. absurd (omega arith))

among_many : (e : ℕ) (xs : List ℕ) → In e xs → (mate_among e xs ≡ many) ↔ (3 ≤ length xs)
among_many e [] i = absurd i
among_many e (x ∷ []) i = (λ p. let z : ◌≡◌ {A = ℕ} 0 1 = cc in omega arith, λ p. absurd (omega arith))
among_many e (x ∷ y ∷ []) i = (λ p. let z : ◌≡◌ {A = ℕ} 0 1 = cc in omega arith, λ p. absurd (omega arith))
among_many e (x ∷ y ∷ z ∷ zs) i = (λ p. omega arith, λ p. refl)

among_other : (e : ℕ) (xs : List ℕ) → In e xs → ((f : ℕ) × (mate_among e xs ≡ other f)) ↔ (length xs ≡ 2)
among_other e [] i = absurd i
among_other e (x ∷ []) i = (λ p. let q = p.1 in let z : ◌≡◌ {A = ℕ} 0 1 = cc in omega arith, λ p. absurd (omega arith))
among_other e (x ∷ y ∷ []) i = (λ p. refl, λ p. (cond (eqb x e) y x, refl))
among_other e (x ∷ y ∷ z ∷ zs) i = (λ p. let q = p.1 in let z : ◌≡◌ {A = ℕ} 0 1 = cc in omega arith, λ p. absurd (omega arith))

among_back : (s e f : ℕ) (xs : List ℕ) → Rising s xs → In e xs → mate_among e xs ≡ other f → In f xs × (f ≡ e → ⊥) × (mate_among f xs ≡ other e)
among_back s e f [] r i m = absurd i
among_back s e f (x ∷ []) r i m = let z : ◌≡◌ {A = ℕ} 0 1 = cc in absurd (omega arith)
among_back s e f (x ∷ y ∷ []) r (inl p) m =
    let m' : other y ≡ other f = rw (eq-eqb x e (sym p)) at m in
    let q : y ≡ f = cc in
    (inr (inl (sym q)), omega arith, rw (ne_eqb x f (omega arith)) (ap other (sym p)))
among_back s e f (x ∷ y ∷ []) r (inr (inl p)) m =
    let m' : other x ≡ other f = rw (ne_eqb x e (omega arith)) at m in
    let q : x ≡ f = cc in
    (inl (sym q), omega arith, rw (eq-eqb x f q) (ap other (sym p)))
among_back s e f (x ∷ y ∷ []) r (inr (inr i)) m = absurd i
among_back s e f (x ∷ y ∷ z ∷ zs) r i m = let z : ◌≡◌ {A = ℕ} 0 1 = cc in absurd (omega arith)

-- what holds of the mate f of a regular edge's corner e
pub record Regular (l : List ℤ) (e f : ℕ) : Type 0 where
  pub below : f < length (uses l)
  pub differs : f ≡ e → ⊥
  pub back : mate l f ≡ other e
  pub same_edge : on_edge (use_at l e).from (use_at l e).to (use_at l f) ≡ true

module _ (l : List ℤ) (e : ℕ) (h : e < length (uses l)) where
  abbrev here : List ℕ
  here = sharing l (use_at l e).from (use_at l e).to

  own_edge : on_edge (use_at l e).from (use_at l e).to (use_at l e) ≡ true
  own_edge = edge_on (use_at l e).from (use_at l e).to (use_at l e) refl refl

  pub is_here : In e here
  is_here = shares l (use_at l e).from (use_at l e).to e h own_edge

  pub mate_is : mate l e ≡ mate_among e here
  mate_is = rw (corner_at_lem l e h) (ap (mate_among e) (sharing_is l (use_at l e).from (use_at l e).to))

  faces_here : length here ≡ faces_at l e
  faces_here = sharing_faces l (use_at l e).from (use_at l e).to

  pub mate_alone : (mate l e ≡ alone) ↔ (faces_at l e ≡ 1)
  mate_alone = rw (mate_is, ← faces_here) (among_alone e here is_here)

  pub mate_other : ((f : ℕ) × (mate l e ≡ other f)) ↔ (faces_at l e ≡ 2)
  mate_other = rw (mate_is, ← faces_here) (among_other e here is_here)

  pub mate_many : (mate l e ≡ many) ↔ (3 ≤ faces_at l e)
  mate_many = rw (mate_is, ← faces_here) (among_many e here is_here)

-- the mate of a regular edge's mate is the corner itself
pub mate_regular : (l : List ℤ) (e f : ℕ) → e < length (uses l) → mate l e ≡ other f → Regular l e f
mate_regular l e f h m =
    let a = (use_at l e).from in
    let b = (use_at l e).to in
    let t = among_back 0 e f (sharing l a b) (sharing_rises l a b) (is_here l e h) (sym (mate_is l e h) ∙ m) in
    let s = in_sharing l a b f t.0 in
    record {
      below = s.0;
      differs = t.1;
      back = mate_is l f s.0 ∙ ap (mate_among f) (sharing_same l a b f s.1) ∙ t.2;
      same_edge = s.1;
    }

-- the word tells the mate

module _ (l : List ℤ) (e : ℕ) (h : e < length (uses l)) where
  told : (m : Mate) → mate l e ≡ m → (word l e ≡ e → m ≡ alone) × (word l e ≡ length (uses l) → m ≡ many) × ((word l e ≡ e → ⊥) → (word l e ≡ length (uses l) → ⊥) → m ≡ other (word l e))
  told alone p = rw p (λ q. refl, λ q. absurd (omega arith), λ q r. absurd (q refl))
  told (other f) p = rw p (λ q. absurd ((mate_regular l e f h p).differs q), λ q. absurd (omega (arith, (mate_regular l e f h p).below)), λ q r. refl)
  told many p = rw p (λ q. absurd (omega arith), λ q. refl, λ q r. absurd (r refl))

  pub word_alone : word l e ≡ e → mate l e ≡ alone
  word_alone = (told (mate l e) refl).0

  pub word_many : word l e ≡ length (uses l) → mate l e ≡ many
  word_many = (told (mate l e) refl).1

  pub word_other : (word l e ≡ e → ⊥) → (word l e ≡ length (uses l) → ⊥) → mate l e ≡ other (word l e)
  word_other = (told (mate l e) refl).2
