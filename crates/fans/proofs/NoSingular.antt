-- A list whose number of singular edges is 0 has no corner on one: the first use of a singular edge would be counted.
use Prim.Native.Nat.{ℕ, ◌+◌, ◌*◌, ◌≤◌, ◌<◌}
use mathlib.Core.Path.{◌≡◌, refl, sym, ◌∙◌, ap}
use mathlib.Core.Bool.{true}
use mathlib.Core.List.{List, [], ◌∷◌}
use mathlib.Core.Logic.{inl}
use native.Mathlib.Omega.{arith}
use borrow.Author.Tests.{eq-eqb, ne_eqb}
use lib.IntN.{ℤ}
use lib.ListN.{length}
use Rattle.order.proofs.Lists.{at_in, choose_some}
use Rattle.mates.specs.Mates.{many, starts_many}
use Rattle.edges.specs.Uses.{uses, starts_singular, singular_edge_count, use_at, no_use}
use Rattle.edges.specs.Table.{table_of}
use Rattle.edges.proofs.Uses.{corner_at_lem}
use Rattle.edges.proofs.Mates.{mate, word, sharing, sharing_is, sharing_faces, in_sharing, sharing_same, mate_many, word_many}
use Rattle.edges.proofs.Table.{table_mate}
use Rattle.groups.specs.Forest.{at, Grouped}
use Rattle.fans.specs.Singular.{NoneWhereZero}
use Rattle.groups.proofs.Counting.{word_kept}

-- the first of three or more corners that share an edge
starts_many_lem : (l : List ℤ) (a b : ℕ) (xs : List ℕ) → sharing l a b ≡ xs → 3 ≤ length xs → (x : ℕ) × (x < length (uses l)) × (starts_singular (uses l) (use_at l x) ≡ true)
starts_many_lem l a b [] q n = absurd (omega arith)
starts_many_lem l a b (x ∷ []) q n = absurd (omega arith)
starts_many_lem l a b (x ∷ y ∷ []) q n = absurd (omega arith)
starts_many_lem l a b (x ∷ y ∷ z ∷ zs) q n =
    let i = in_sharing l a b x (rw q (inl refl)) in
    let same : sharing l (use_at l x).from (use_at l x).to ≡ x ∷ y ∷ z ∷ zs = sharing_same l a b x i.1 ∙ q in
    (x, i.0, rw (corner_at_lem l x i.0) (ap (starts_many x) (sharing_is l (use_at l x).from (use_at l x).to ∙ same) ∙ eq-eqb x x refl))

not_many : (l : List ℤ) → singular_edge_count l ≡ 0 → (e : ℕ) → e < length (uses l) → mate l e ≡ many → ⊥
not_many l n e h m =
    let a = (use_at l e).from in
    let b = (use_at l e).to in
    let s = starts_many_lem l a b (sharing l a b) refl (omega (arith, sharing_faces l a b, (mate_many l e h).0 m)) in
    let some : 0 < singular_edge_count l = choose_some (starts_singular (uses l)) (use_at l s.0) (uses l) (at_in no_use (uses l) s.0 s.1) s.2 in
    omega arith

pub none_where_zero : (l : List ℤ) (c : ℕ) (w : List ℕ) (edges : ℕ) → Grouped l c w → edges ≡ singular_edge_count l → NoneWhereZero w c edges
none_where_zero l c w edges G q = record { none = λ z e h. ne_eqb (at w (2 * c + e)) c (no z e h) }
  where
    no : edges ≡ 0 → (e : ℕ) → e < c → at w (2 * c + e) ≡ c → ⊥
    no z e h o =
        let u : e < length (uses l) = omega (arith, G.count) in
        let v : at (table_of l) (2 * c + e) ≡ word l e = rw G.count (table_mate l e u) in
        not_many l (sym q ∙ z) e u (word_many l e u (sym v ∙ sym (word_kept (table_of l) w (3 * c) (2 * c + e) G.front (omega arith)) ∙ o ∙ G.count))
