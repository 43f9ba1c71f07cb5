-- What the demands say of the new list leaves one list only: -1 at the same positions, numbers in the order of first use, equal exactly at
-- joined corners. So a list with one fan round each vertex, numbered by first use, is its own cut.
use Prim.Native.Nat.{ℕ, zero, suc, ◌<◌}
use mathlib.Core.Path.{◌≡◌, refl, sym, ◌∙◌, ap}
use mathlib.Core.Bool.{Bool, true, false, cond}
use mathlib.Core.List.{List, [], ◌∷◌}
use mathlib.Core.Logic.{◌↔◌}
use native.Mathlib.Omega.{arith}
use borrow.Author.Tests.{ltb-true, ltb-false}
use lib.Dec.{ltb}
use lib.IntN.{ℤ, pos}
use lib.ListN.{length, get_or}
use lib.Seq.{ext_get_or}
use Rattle.list.specs.Faces.{is_end, corners}
use Rattle.list.proofs.Rejoined.{end_only}
use Rattle.renumber.proofs.Sizes.{map-length}
use Rattle.renumber.specs.Renumber.{new_list_of, new_vertices, map_of}
use Rattle.demands.specs.Renumbered.{Corner, vertex_at, ends, mapped, FirstUse}
use Rattle.demands.specs.Labelling.{label_at}
use Rattle.demands.proofs.Numbering.{new_ends, new_corners_length, new_entry, new_vertex, first_use, same_number, same_label, number_used, back_number}

-- a list is known by where -1 stands and by its corners
same_list : (l k : List ℤ) → ends l ≡ ends k → corners l ≡ corners k → l ≡ k
same_list [] [] e c = refl
same_list [] (y ∷ ys) e c = cc
same_list (x ∷ xs) [] e c = cc
same_list (x ∷ xs) (y ∷ ys) e c =
    let first : is_end x ≡ is_end y = cc in
    let rest : ends xs ≡ ends ys = cc in
    go (is_end x) refl (is_end y) refl first c (same_list xs ys rest)
  where
    go : (a : Bool) → is_end x ≡ a → (b : Bool) → is_end y ≡ b → a ≡ b → cond a (corners xs) (x ∷ corners xs) ≡ cond b (corners ys) (y ∷ corners ys) → (corners xs ≡ corners ys → xs ≡ ys) → x ∷ xs ≡ y ∷ ys
    go true p true q r c ih =
        let heads : x ≡ y = end_only x p ∙ sym (end_only y q) in
        let tails : xs ≡ ys = ih c in
        cc
    go true p false q r c ih = cc
    go false p true q r c ih = cc
    go false p false q r c ih =
        let heads : x ≡ y = cc in
        let tails : xs ≡ ys = ih (cc) in
        cc

as_many_corners : (l k : List ℤ) → ends l ≡ ends k → length (corners l) ≡ length (corners k)
as_many_corners [] [] e = refl
as_many_corners [] (y ∷ ys) e = cc
as_many_corners (x ∷ xs) [] e = cc
as_many_corners (x ∷ xs) (y ∷ ys) e =
    let first : is_end x ≡ is_end y = cc in
    let rest : ends xs ≡ ends ys = cc in
    rw first (go (is_end y) (as_many_corners xs ys rest))
  where
    go : (b : Bool) → length (corners xs) ≡ length (corners ys) → length (cond b (corners xs) (x ∷ corners xs)) ≡ length (cond b (corners ys) (y ∷ corners ys))
    go true ih = ih
    go false ih = ap suc ih

-- numbers below c in the order of first use
abbrev InOrder : ℕ → (ℕ → ℕ) → Type 0
InOrder c f = (x : ℕ) → x < c → (v : ℕ) → v < f x → (y : ℕ) × (y < x) × (f y ≡ v)

-- two numberings in the order of first use that are equal at the same corners are the same
order_only : (c : ℕ) (f g : ℕ → ℕ) → InOrder c f → InOrder c g → ((x y : ℕ) → x < c → y < c → (f x ≡ f y) ↔ (g x ≡ g y)) → (b x : ℕ) → x < b → x < c → f x ≡ g x
order_only c f g f_order g_order both zero x h k = absurd (omega arith)
order_only c f g f_order g_order both (suc b) x h k = go (ltb (f x) (g x)) refl (ltb (g x) (f x)) refl (λ y below. order_only c f g f_order g_order both b y (omega arith) (omega arith))
  where
    go : (s : Bool) → ltb (f x) (g x) ≡ s → (t : Bool) → ltb (g x) (f x) ≡ t → ((y : ℕ) → y < x → f y ≡ g y) → f x ≡ g x
    go true p t q earlier =
        let r = g_order x k (f x) (ltb-true (f x) (g x) p) in
        let e : f r.0 ≡ f x = earlier r.0 r.1 ∙ r.2 in
        sym r.2 ∙ (both r.0 x (omega (arith, r.1)) k).0 e
    go false p true q earlier =
        let r = f_order x k (g x) (ltb-true (g x) (f x) q) in
        let e : g r.0 ≡ g x = sym (earlier r.0 r.1) ∙ r.2 in
        sym ((both r.0 x (omega (arith, r.1)) k).1 e) ∙ r.2
    go false p false q earlier = omega (arith, ltb-false (f x) (g x) p, ltb-false (g x) (f x) q)

module _ (l : List ℤ) (labels : List ℕ) (same : length labels ≡ length (corners l)) where
  -- the list numbered afresh is the only one
  pub new_only : (k : List ℤ) → ends k ≡ ends l → ((x : ℕ) → Corner l x → get_or (corners k) x (pos 0) ≡ pos (vertex_at k x)) → FirstUse k → ((x y : ℕ) → Corner l x → Corner l y → (vertex_at k x ≡ vertex_at k y) ↔ (label_at labels x ≡ label_at labels y)) → k ≡ new_list_of l labels
  new_only k k_ends k_entries k_order k_same = same_list k new (k_ends ∙ sym (new_ends l labels same)) (ext_get_or (pos 0) (corners k) (corners new) (k_long ∙ sym (new_corners_length l labels same)) each)
    where
      new : List ℤ
      new = new_list_of l labels

      k_long : length (corners k) ≡ length (corners l)
      k_long = as_many_corners k l k_ends

      both : (x y : ℕ) → Corner l x → Corner l y → (vertex_at k x ≡ vertex_at k y) ↔ (vertex_at new x ≡ vertex_at new y)
      both x y h j = (
        λ e. new_vertex l labels same x ∙ same_number labels x y (omega arith) (omega arith) ((k_same x y h j).0 e) ∙ sym (new_vertex l labels same y),
        λ e. (k_same x y h j).1 (same_label labels x y (omega arith) (omega arith) (sym (new_vertex l labels same x) ∙ e ∙ new_vertex l labels same y)),
      )

      vertex : (x : ℕ) → Corner l x → vertex_at k x ≡ vertex_at new x
      vertex x h =
          order_only (length (corners l)) (vertex_at k) (vertex_at new)
          (λ x h. k_order x (omega (arith, k_long)))
          (λ x h. first_use l labels same x (omega (arith, new_corners_length l labels same)))
          both (suc x) x (omega arith) h

      each : (x : ℕ) → Corner k x → get_or (corners k) x (pos 0) ≡ get_or (corners new) x (pos 0)
      each x h =
          let b : Corner l x = omega (arith, k_long) in
          k_entries x b ∙ ap pos (vertex x b ∙ new_vertex l labels same x) ∙ sym (new_entry l labels same x)

  -- and so is the map that gives the list back
  pub map_only : (m : List ℤ) → length m ≡ new_vertices labels → mapped m (new_list_of l labels) ≡ l → mapped (map_of l labels) (new_list_of l labels) ≡ l → m ≡ map_of l labels
  map_only m long back own =
      ext_get_or (pos 0) m (map_of l labels) (long ∙ sym (map-length l labels))
      (λ v h.
      let r = number_used labels v (omega arith) in
      let b : Corner l r.0 = omega (arith, r.1) in
      ap (λ (k : ℕ). get_or m k (pos 0)) (sym r.2) ∙ back_number l labels same m back r.0 b ∙
      sym (back_number l labels same (map_of l labels) own r.0 b) ∙ ap (λ (k : ℕ). get_or (map_of l labels) k (pos 0)) r.2)
