-- Corners that meet across an edge with two faces, for any choice J of such edges: a side of a corner meets at most one side, and is
-- met by it.
--
--   vertex_by l e s     the vertex of the corner by whose side s the use that starts at e runs
--   Ends l e f          the uses that start at the corners e and f have the same two vertices, whichever way they run
--   Crossing J l        corners meet across an edge with two faces that J chooses, asked of the earlier of its uses
use Prim.Native.Nat.{ℕ, ◌≤◌, min, max}
use mathlib.Core.Path.{◌≡◌, refl, sym, ◌∙◌, ap, subst}
use mathlib.Core.Bool.{Bool, true, false, cond}
use mathlib.Core.List.{List}
use mathlib.Core.Logic.{◌⊎◌, inl, inr, ⊎_elim}
use native.Mathlib.Omega.{arith}
use borrow.Author.Tests.{ltb-true, ltb-false, lt-ltb, le-ltb}
use lib.Dec.{ltb}
use lib.IntN.{ℤ}
use lib.ListN.{length}
use Rattle.edges.specs.Uses.{Use, on_edge, faces_on, use_at}
use Rattle.edges.proofs.Uses.{uses_long, from_at, to_next}
use Rattle.edges.proofs.Faces.{on_edge_lem, edge_on}
use Rattle.edges.proofs.Mates.{sharing, sharing_faces, sharing_same, shares, is_here}
use Rattle.demands.specs.Joined.{Side, starts, stops, opposite}
use Rattle.demands.specs.Renumbered.{Corner, vertex_at}
use Rattle.demands.specs.Linked.{corner_by, Across}
use Rattle.demands.proofs.Walk.{Meeting}
use Rattle.demands.proofs.Distinct.{equal_or_not, three_in}
use Rattle.demands.proofs.Corners.{next, Cornered}

-- two unordered pairs that are the same
pair_ends : (a b c d : ℕ) → min a b ≡ min c d → max a b ≡ max c d → ((a ≡ c) × (b ≡ d)) ⊎ ((a ≡ d) × (b ≡ c))
pair_ends a b c d p q = go (equal_or_not a c)
  where
    go : (a ≡ c) ⊎ (a ≡ c → ⊥) → ((a ≡ c) × (b ≡ d)) ⊎ ((a ≡ d) × (b ≡ c))
    go (inl e) = inl (e, omega arith)
    go (inr n) = inr (omega arith, omega arith)

abbrev pub vertex_by : List ℤ → ℕ → Side → ℕ
vertex_by l e s = vertex_at l (corner_by l e s)

abbrev pub Ends : List ℤ → ℕ → ℕ → Type 0
Ends l e f = ((vertex_at l e ≡ vertex_at l f) × (vertex_at l (next l e) ≡ vertex_at l (next l f))) ⊎ ((vertex_at l e ≡ vertex_at l (next l f)) × (vertex_at l (next l e) ≡ vertex_at l f))

module _ (l : List ℤ) (e : ℕ) (h : Corner l e) where
  pub use_from : (use_at l e).from ≡ vertex_at l e
  use_from = from_at l e

  pub use_to : (use_at l e).to ≡ vertex_at l (next l e)
  use_to = to_next l e (omega (arith, uses_long l)) ∙ from_at l (next l e)

  -- a use of an edge runs from one of its vertices to the other
  pub edge_vertices : (a b : ℕ) → on_edge a b (use_at l e) ≡ true → ((vertex_at l e ≡ a) × (vertex_at l (next l e) ≡ b)) ⊎ ((vertex_at l e ≡ b) × (vertex_at l (next l e) ≡ a))
  edge_vertices a b o =
      let p = on_edge_lem a b (use_at l e) o in
      rw (use_from, use_to) at (pair_ends (use_at l e).from (use_at l e).to a b p.0 p.1)

  pub vertices_edge : (a b : ℕ) → ((vertex_at l e ≡ a) × (vertex_at l (next l e) ≡ b)) ⊎ ((vertex_at l e ≡ b) × (vertex_at l (next l e) ≡ a)) → on_edge a b (use_at l e) ≡ true
  vertices_edge a b (inl p) = edge_on a b (use_at l e) (omega (arith, use_from, use_to)) (omega (arith, use_from, use_to))
  vertices_edge a b (inr p) = edge_on a b (use_at l e) (omega (arith, use_from, use_to)) (omega (arith, use_from, use_to))

module _ (l : List ℤ) (e f : ℕ) (e_below : Corner l e) (f_below : Corner l f) where
  pub same_ends : on_edge (use_at l e).from (use_at l e).to (use_at l f) ≡ true → Ends l f e
  same_ends o = ⊎_elim
      (λ p. inl (p.0 ∙ use_from l e e_below, p.1 ∙ use_to l e e_below))
      (λ p. inr (p.0 ∙ use_to l e e_below, p.1 ∙ use_from l e e_below))
      (edge_vertices l f f_below (use_at l e).from (use_at l e).to o)

  pub ends_same : Ends l f e → on_edge (use_at l e).from (use_at l e).to (use_at l f) ≡ true
  ends_same p = vertices_edge l f f_below (use_at l e).from (use_at l e).to (⊎_elim
      (λ p. inl (p.0 ∙ sym (use_from l e e_below), p.1 ∙ sym (use_to l e e_below)))
      (λ p. inr (p.0 ∙ sym (use_to l e e_below), p.1 ∙ sym (use_from l e e_below)))
      p)

pub ends_back : (l : List ℤ) (e f : ℕ) → Ends l e f → Ends l f e
ends_back l e f (inl p) = inl (sym p.0, sym p.1)
ends_back l e f (inr p) = inr (sym p.1, sym p.0)

-- uses whose ends by the sides s and t lie on one vertex, and whose other ends do too, have the same two vertices
pub sides_ends : (l : List ℤ) (e f : ℕ) (s t : Side) → vertex_by l e s ≡ vertex_by l f t → vertex_by l e (opposite s) ≡ vertex_by l f (opposite t) → Ends l e f
sides_ends l e f starts starts p q = inl (p, q)
sides_ends l e f starts stops p q = inr (p, q)
sides_ends l e f stops starts p q = inr (q, p)
sides_ends l e f stops stops p q = inl (q, p)

module _ (l : List ℤ) (ok : Cornered l) where
  pub corner_by_below : (e : ℕ) (s : Side) → Corner l e → Corner l (corner_by l e s)
  corner_by_below e starts h = h
  corner_by_below e stops h = ok.next_inside e h

  -- the other ends too lie on one vertex
  pub ends_sides : (e f : ℕ) (s t : Side) → Corner l f → Ends l e f → vertex_by l e s ≡ vertex_by l f t → vertex_by l e (opposite s) ≡ vertex_by l f (opposite t)
  ends_sides e f starts starts h (inl p) q = p.1
  ends_sides e f starts starts h (inr p) q = absurd (ok.ends_differ f h (sym q ∙ p.0))
  ends_sides e f starts stops h (inl p) q = absurd (ok.ends_differ f h (sym p.0 ∙ q))
  ends_sides e f starts stops h (inr p) q = p.1
  ends_sides e f stops starts h (inl p) q = absurd (ok.ends_differ f h (sym q ∙ p.1))
  ends_sides e f stops starts h (inr p) q = p.0
  ends_sides e f stops stops h (inl p) q = p.0
  ends_sides e f stops stops h (inr p) q = absurd (ok.ends_differ f h (sym p.1 ∙ q))

  -- a side of a corner belongs to one use
  pub side_once : (e f : ℕ) (s : Side) → Corner l e → Corner l f → corner_by l e s ≡ corner_by l f s → e ≡ f
  side_once e f starts h k p = p
  side_once e f stops h k p = ok.next_once e f h k p

  -- and the edges by a corner's two sides lead to different vertices
  pub corner_once : (e f : ℕ) (s t : Side) → Corner l e → Corner l f → corner_by l e s ≡ corner_by l f t → vertex_by l e (opposite s) ≡ vertex_by l f (opposite t) → e ≡ f
  corner_once e f starts starts h k p q = side_once e f starts h k p
  corner_once e f starts stops h k p q = absurd (ok.neighbours_differ f k (sym q ∙ ap (λ (x : ℕ). vertex_at l (next l x)) p))
  corner_once e f stops starts h k p q = absurd (ok.neighbours_differ e h (q ∙ ap (λ (x : ℕ). vertex_at l (next l x)) (sym p)))
  corner_once e f stops stops h k p q = side_once e f stops h k p

  -- a use's two ends lie on different vertices
  pub end_once : (f : ℕ) (s t : Side) → Corner l f → vertex_by l f s ≡ vertex_by l f t → s ≡ t
  end_once f starts starts h p = refl
  end_once f starts stops h p = absurd (ok.ends_differ f h p)
  end_once f stops starts h p = absurd (ok.ends_differ f h (sym p))
  end_once f stops stops h p = refl

  -- an edge has at least three faces where three uses have its vertices
  pub three_faces : (e f g : ℕ) → Corner l e → Corner l f → Corner l g → Ends l f e → Ends l g e → (e ≡ f → ⊥) → (e ≡ g → ⊥) → (f ≡ g → ⊥) → 3 ≤ faces_on l (use_at l e).from (use_at l e).to
  three_faces e f g e_below f_below g_below p q e≢f e≢g f≢g =
      let a = (use_at l e).from in
      let b = (use_at l e).to in
      rw (sharing_faces l a b) at
      (three_in e f g (sharing l a b)
      (is_here l e (omega (arith, uses_long l)))
      (shares l a b f (omega (arith, uses_long l)) (ends_same l e f e_below f_below p))
      (shares l a b g (omega (arith, uses_long l)) (ends_same l e g e_below g_below q))
      e≢f e≢g f≢g)

  -- and the use that shares an edge of two faces with another is the only one
  pub two_only : (e f g : ℕ) → Corner l e → Corner l f → Corner l g → faces_on l (use_at l e).from (use_at l e).to ≡ 2 → Ends l f e → Ends l g e → (e ≡ f → ⊥) → (e ≡ g → ⊥) → f ≡ g
  two_only e f g e_below f_below g_below two p q e≢f e≢g =
      ⊎_elim (λ r. r) (λ n. absurd (omega (arith, three_faces e f g e_below f_below g_below p q e≢f e≢g n, two))) (equal_or_not f g)

abbrev pub joins : (Use → Bool) → List ℤ → ℕ → ℕ → Bool
joins J l e f = cond (ltb e f) (J (use_at l e)) (J (use_at l f))

pub record Crossing (J : Use → Bool) (l : List ℤ) (x : ℕ) (s : Side) (y : ℕ) (t : Side) : Type 0 where
  pub across : Across l x s y t
  pub made : joins J l across.one across.two ≡ true

joins_back : (J : Use → Bool) (l : List ℤ) (e f : ℕ) → (e ≡ f → ⊥) → joins J l e f ≡ joins J l f e
joins_back J l e f n = go (ltb e f) refl
  where
    go : (b : Bool) → ltb e f ≡ b → cond b (J (use_at l e)) (J (use_at l f)) ≡ joins J l f e
    go true p = rw (le-ltb f e (omega (arith, ltb-true e f p)))
    go false p = rw (lt-ltb f e (omega (arith, ltb-false e f p)))

unfoldable pub across_back : (l : List ℤ) {x y : ℕ} {s t : Side} → Across l x s y t → Across l y t x s
across_back l a =
    let e = a.one in
    let f = a.two in
    record {
      one = f;
      two = e;
      one_below = a.two_below;
      two_below = a.one_below;
      differ = λ p. a.differ (sym p);
      same_edge = ends_same l f e a.two_below a.one_below (ends_back l f e (same_ends l e f a.one_below a.two_below a.same_edge));
      two_faces =
          sym (sharing_faces l (use_at l f).from (use_at l f).to) ∙
          ap length (sharing_same l (use_at l e).from (use_at l e).to f a.same_edge) ∙
          sharing_faces l (use_at l e).from (use_at l e).to ∙
          a.two_faces;
      x_is = a.y_is;
      y_is = a.x_is;
      same_vertex = sym a.same_vertex;
    }

pub crossing_meets : (J : Use → Bool) (l : List ℤ) → Cornered l → Meeting (Crossing J l)
unfolding across_back
crossing_meets J l ok = record {
  meet_back = λ {x} {y} {s} {t} c. record { across = across_back l c.across; made = sym (joins_back J l c.across.one c.across.two c.across.differ) ∙ c.made };
  meet_one = λ {x} {y} {z} {s} {t} {u} c d. one c.across d.across;
}
  where
    one : {x y z : ℕ} {s t u : Side} → Across l x s y t → Across l x s z u → (y ≡ z) × (t ≡ u)
    one {x} {y} {z} {s} {t} {u} a b =
        let e = a.one in
        let f = a.two in
        let g = b.two in
        let same_one : b.one ≡ e = side_once l ok b.one e s b.one_below a.one_below (sym b.x_is ∙ a.x_is) in
        let g_ends : Ends l g e = subst (λ (k : ℕ). Ends l g k) same_one (same_ends l b.one g b.one_below b.two_below b.same_edge) in
        let f_ends : Ends l f e = same_ends l e f a.one_below a.two_below a.same_edge in
        let same_two : f ≡ g = two_only l ok e f g a.one_below a.two_below b.two_below a.two_faces f_ends g_ends a.differ (λ p. b.differ (same_one ∙ p)) in
        let vertex : vertex_by l f t ≡ vertex_by l f u = ap (vertex_at l) (sym a.y_is) ∙ sym a.same_vertex ∙ b.same_vertex ∙ ap (vertex_at l) (b.y_is ∙ ap (λ (k : ℕ). corner_by l k u) (sym same_two)) in
        let side : t ≡ u = end_once l ok f t u a.two_below vertex in
        (a.y_is ∙ ap (corner_by l f) side ∙ ap (λ (k : ℕ). corner_by l k u) same_two ∙ sym b.y_is, side)
