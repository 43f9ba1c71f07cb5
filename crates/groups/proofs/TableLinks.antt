-- The edge table of a list: its links are those of the list's uses, and a link joins corners on one vertex, so that a label lies
-- on the vertex of its corners.
use Prim.Native.Nat.{ℕ, zero, suc, ◌+◌, ◌≤◌, ◌<◌, min, max}
use mathlib.Core.Path.{◌≡◌, refl, sym, ◌∙◌, ap}
use mathlib.Core.Bool.{Bool, true, false, cond, ◌&&◌}
use mathlib.Core.List.{List, [], ◌∷◌}
use native.Mathlib.Omega.{arith}
use borrow.Author.Tests.{lt-ltb, le-ltb, eqb-true, eqb-false, leb-true, leb-false}
use lib.Dec.{leb, ltb, eqb}
use lib.IntN.{ℤ}
use lib.ListN.{length, drop, length-map, drop_of_length-le}
use lib.Seq.{drop-cons}
use Rattle.order.specs.Choose.{All}
use Rattle.order.proofs.Lists.{all_append, length-up_from, get_or-up_from, get_or-mapped}
use Rattle.mates.specs.Mates.{Mate, alone, other, many, mate_word}
use Rattle.edges.specs.Uses.{uses, lo, hi, use_at, no_use}
use Rattle.edges.specs.Table.{table_of}
use Rattle.edges.proofs.Uses.{corner_at_lem, next_below, to_next}
use Rattle.edges.proofs.Faces.{on_edge_lem}
use Rattle.edges.proofs.Mates.{mate, Regular, mate_regular}
use Rattle.edges.proofs.Table.{table_long, table_next, table_vertex, table_mate}
use Rattle.groups.specs.Groups.{Link, links_of, links_at, links_from, links, every_edge, up_to, replaced, merge, merge_all, labels_of, fan_labels}
use Rattle.groups.specs.Forest.{at, link, TableWords, links_across, links_at_corner, links_from_corner, table_links}

module _ (l : List ℤ) where
  abbrev c : ℕ
  c = length (uses l)

  abbrev T : List ℕ
  T = table_of l

  pub table_words : TableWords (table_of l) (length (uses l))
  table_words = record { long = table_long l; nexts = λ e h. rw (table_next l e h) (next_below l e h) }

  across_uses : (e f : ℕ) → e < c → f < c → links_across T c e f ≡ links_of (use_at l e) (use_at l f)
  across_uses e f h k =
      rw (table_next l e h, table_next l f k, table_vertex l e h, table_vertex l f k, corner_at_lem l e h, corner_at_lem l f k)

  corner_uses : (e : ℕ) → e < c → links_at_corner T c e ≡ links_at every_edge (uses l) (use_at l e) (mate l e)
  corner_uses e h = rw (table_mate l e h) (go (mate l e) refl)
    where
      go : (m : Mate) → mate l e ≡ m → cond (ltb e (mate_word c e m) && ltb (mate_word c e m) c) (links_across T c e (mate_word c e m)) [] ≡ links_at every_edge (uses l) (use_at l e) m
      go alone q = rw (le-ltb e e (omega arith))
      go (other f) q =
          let R = mate_regular l e f h q in
          rw (lt-ltb f c R.below, across_uses e f h R.below, corner_at_lem l e h)
      go many q = rw (lt-ltb e c h, le-ltb c c (omega arith))

  from_uses : (n e : ℕ) → e + n ≡ c → links_from_corner T c e n ≡ links_from every_edge (uses l) (drop e (uses l))
  from_uses zero e h = rw (drop_of_length-le (uses l) {i = e} (omega arith))
  from_uses (suc n) e h = rw (drop-cons (uses l) e no_use (omega arith), corner_uses e (omega arith), from_uses n (suc e) (omega arith))

  pub table_links_lem : table_links (table_of l) (length (uses l)) ≡ links every_edge (uses l)
  unfolding table_links links
  table_links_lem = from_uses c 0 (omega arith)

  pub table_fans : labels_of (length (uses l)) (table_links (table_of l) (length (uses l))) ≡ fan_labels l
  unfolding fan_labels
  table_fans = rw table_links_lem

-- labels that lie on their corners' vertices still do after a link of two corners on one vertex; at_vertex gives the vertex of a corner
module _ (at_vertex : ℕ → ℕ) where
  abbrev SameVertex : ℕ → Link → Type 0
  SameVertex c k = (k.one < c) × (k.two < c) × (at_vertex k.one ≡ at_vertex k.two)

  abbrev OnVertices : List ℕ → Type 0
  OnVertices labels = (i : ℕ) → i < length labels → at_vertex (at labels i) ≡ at_vertex i

  lower_upper : (a b : ℕ) → at_vertex a ≡ at_vertex b → at_vertex (min a b) ≡ at_vertex (max a b)
  lower_upper a b e = go (leb a b) refl
    where
      go : (t : Bool) → leb a b ≡ t → at_vertex (min a b) ≡ at_vertex (max a b)
      go true d =
          let h : a ≤ b = leb-true a b d in
          let p : min a b ≡ a = omega arith in
          let q : max a b ≡ b = omega arith in
          rw (p, q) e
      go false d =
          let h : b < a = leb-false a b d in
          let p : min a b ≡ b = omega arith in
          let q : max a b ≡ a = omega arith in
          rw (p, q) (sym e)

  merge_vertices : (labels : List ℕ) (k : Link) → SameVertex (length labels) k → OnVertices labels → OnVertices (merge labels k)
  merge_vertices labels k s o i h =
      let a = at labels k.one in
      let b = at labels k.two in
      let m : i < length labels = rw (length-map labels (replaced (max a b) (min a b))) at h in
      let same : at_vertex a ≡ at_vertex b = o k.one s.0 ∙ s.2 ∙ sym (o k.two s.1) in
      rw (get_or-mapped (replaced (max a b) (min a b)) labels i 0 0 m) (go a b (at labels i) (lower_upper a b same) (o i m) (eqb (at labels i) (max a b)) refl)
    where
      go : (a b x : ℕ) → at_vertex (min a b) ≡ at_vertex (max a b) → at_vertex x ≡ at_vertex i → (t : Bool) → eqb x (max a b) ≡ t → at_vertex (cond t (min a b) x) ≡ at_vertex i
      go a b x e d true q = e ∙ ap at_vertex (sym (eqb-true x (max a b) q)) ∙ d
      go a b x e d false q = d

  merge_all_vertices : (c : ℕ) (ks : List Link) (labels : List ℕ) → length labels ≡ c → All (SameVertex c) ks → OnVertices labels → OnVertices (merge_all labels ks)
  merge_all_vertices c [] labels n a o = o
  merge_all_vertices c (k ∷ ks) labels n a o =
      merge_all_vertices c ks (merge labels k) (length-map labels (replaced (max (at labels k.one) (at labels k.two)) (min (at labels k.one) (at labels k.two))) ∙ n) a.1 (merge_vertices labels k (rw n a.0) o)

  labels_vertices : (c : ℕ) (ks : List Link) → All (SameVertex c) ks → OnVertices (labels_of c ks)
  unfolding labels_of
  labels_vertices c ks a =
      merge_all_vertices c ks (up_to c) (length-up_from 0 c) a (λ i h. ap at_vertex (get_or-up_from 0 c i 0 (rw length-up_from at h) ∙ omega arith))

module _ (l : List ℤ) where
  abbrev vertex : ℕ → ℕ
  vertex e = (use_at l e).from

  regular_same : (e f : ℕ) → e < length (uses l) → Regular l e f → All (SameVertex vertex (length (uses l))) (links_of (use_at l e) (use_at l f))
  regular_same e f h R = rw (corner_at_lem l e h, corner_at_lem l f R.below) (go (eqb (vertex e) (vertex f)) refl)
    where
      edge : (lo (use_at l f) ≡ min (use_at l e).from (use_at l e).to) × (hi (use_at l f) ≡ max (use_at l e).from (use_at l e).to)
      edge = on_edge_lem (use_at l e).from (use_at l e).to (use_at l f) R.same_edge

      go : (t : Bool) → eqb (vertex e) (vertex f) ≡ t → All (SameVertex vertex (length (uses l))) (cond t (link e f ∷ link (use_at l e).next (use_at l f).next ∷ []) (link e (use_at l f).next ∷ link (use_at l e).next f ∷ []))
      go true d = (
        (h, R.below, eqb-true (vertex e) (vertex f) d),
        ((next_below l e h, next_below l f R.below, omega (arith, edge, to_next l e h, to_next l f R.below, eqb-true (vertex e) (vertex f) d)), tt),
      )
      go false d = (
        (h, next_below l f R.below, omega (arith, edge, to_next l f R.below, eqb-false (vertex e) (vertex f) d)),
        ((next_below l e h, R.below, omega (arith, edge, to_next l e h, eqb-false (vertex e) (vertex f) d)), tt),
      )

  corner_same : (e : ℕ) → e < length (uses l) → All (SameVertex vertex (length (uses l))) (links_at_corner (table_of l) (length (uses l)) e)
  corner_same e h = rw (corner_uses l e h) (go (mate l e) refl)
    where
      go : (m : Mate) → mate l e ≡ m → All (SameVertex vertex (length (uses l))) (links_at every_edge (uses l) (use_at l e) m)
      go alone q = tt
      go (other f) q = pick (ltb (use_at l e).corner f)
        where
          pick : (t : Bool) → All (SameVertex vertex (length (uses l))) (cond (t && true) (links_of (use_at l e) (use_at l f)) [])
          pick true = regular_same e f h (mate_regular l e f h q)
          pick false = tt
      go many q = tt

  from_same : (n e : ℕ) → e + n ≡ length (uses l) → All (SameVertex vertex (length (uses l))) (links_from_corner (table_of l) (length (uses l)) e n)
  from_same zero e h = tt
  from_same (suc n) e h =
      all_append (SameVertex vertex (length (uses l))) (links_at_corner (table_of l) (length (uses l)) e) (links_from_corner (table_of l) (length (uses l)) (suc e) n) (corner_same e (omega arith)) (from_same n (suc e) (omega arith))

  -- a fan's label lies on the vertex of its corners
  pub fan_vertex : (i : ℕ) → i < length (fan_labels l) → (use_at l (at (fan_labels l) i)).from ≡ (use_at l i).from
  unfolding table_links
  fan_vertex = rw (← table_fans l) (labels_vertices vertex (length (uses l)) (table_links (table_of l) (length (uses l))) (from_same (length (uses l)) 0 (omega arith)))
