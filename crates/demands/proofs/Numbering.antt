-- Laws of a list numbered afresh by labels, whatever the labels are: -1 stands at the same positions, corners have the same new vertex exactly
-- when they have the same label, the numbers appear in the order of first use, and the map gives the list back exactly when corners of
-- one label lie on one vertex.
use Prim.Native.Nat.{ℕ, zero, suc, ◌<◌}
use mathlib.Core.Path.{◌≡◌, refl, sym, ◌∙◌, ap}
use mathlib.Core.Bool.{Bool, true, false, cond}
use mathlib.Core.List.{List, [], ◌∷◌, map}
use mathlib.Core.Logic.{◌↔◌}
use native.Mathlib.Omega.{arith}
use lib.IntN.{ℤ, pos}
use lib.ListN.{length, get_or, length-map, get_or-map}
use Rattle.list.specs.Faces.{is_end, corners, num}
use Rattle.order.proofs.Lists.{In, at_in, get_or-mapped}
use Rattle.groups.specs.Distinct.{distinct, place_in}
use Rattle.renumber.specs.Renumber.{new_numbers, refilled, new_list_of, new_vertices, map_of}
use Rattle.demands.specs.Renumbered.{Corner, vertex_at, ends, mapped, FirstUse}
use Rattle.demands.specs.Labelling.{label_at}
use Rattle.demands.specs.Classed.{Used}
use Rattle.demands.specs.Counted.{Counted}
use Rattle.demands.proofs.Distinct.{distinct_has, distinct_of, distinct_different, place_below, place_holds, place_at, distinct_order}

-- how a list refilled with as many numbers as it has corners comes about
data Filled : List ℤ → List ℕ → List ℤ → Type 0 where
  none : Filled [] [] []
  kept : {x : ℤ} {xs zs : List ℤ} {ks : List ℕ} → is_end x ≡ true → Filled xs ks zs → Filled (x ∷ xs) ks (x ∷ zs)
  filled : {x : ℤ} {k : ℕ} {xs zs : List ℤ} {ks : List ℕ} → is_end x ≡ false → Filled xs ks zs → Filled (x ∷ xs) (k ∷ ks) (pos k ∷ zs)

fill : (l : List ℤ) (ks : List ℕ) → length ks ≡ length (corners l) → Filled l ks (refilled l ks)
fill [] [] h = none
fill [] (k ∷ ks) h = absurd (omega arith)
fill (x ∷ xs) [] h = go (is_end x) refl h (fill xs [])
  where
    go : (b : Bool) → is_end x ≡ b → 0 ≡ length (cond b (corners xs) (x ∷ corners xs)) → {zs : List ℤ} → (0 ≡ length (corners xs) → Filled xs [] zs) → Filled (x ∷ xs) [] (x ∷ zs)
    go true e h rest = kept e (rest h)
    go false e h rest = absurd (omega arith)
fill (x ∷ xs) (k ∷ ks) h = go (is_end x) refl h (fill xs (k ∷ ks)) (fill xs ks)
  where
    go : (b : Bool) → is_end x ≡ b → suc (length ks) ≡ length (cond b (corners xs) (x ∷ corners xs)) → {ys zs : List ℤ} → (suc (length ks) ≡ length (corners xs) → Filled xs (k ∷ ks) ys) → (length ks ≡ length (corners xs) → Filled xs ks zs) → Filled (x ∷ xs) (k ∷ ks) (cond b (x ∷ ys) (pos k ∷ zs))
    go true e h same next = kept e (same h)
    go false e h same next = filled e (next (omega arith))

filled_ends : {l new : List ℤ} {ks : List ℕ} → Filled l ks new → ends new ≡ ends l
filled_ends none = refl
filled_ends (kept {x = x} e f) = ap (λ (bs : List Bool). is_end x ∷ bs) (filled_ends f)
filled_ends (filled e f) = rw (e, filled_ends f)

filled_corners : {l new : List ℤ} {ks : List ℕ} → Filled l ks new → corners new ≡ map pos ks
filled_corners none = refl
filled_corners (kept e f) = rw e (filled_corners f)
filled_corners (filled {k = k} e f) = ap (λ (zs : List ℤ). pos k ∷ zs) (filled_corners f)

-- m gives each of the corners cs back from its new vertex
abbrev Back : List ℤ → List ℤ → List ℕ → Type 0
Back m cs ks = (i : ℕ) → i < length cs → get_or m (get_or ks i 0) (pos 0) ≡ get_or cs i (pos 0)

filled_back : (m : List ℤ) {l new : List ℤ} {ks : List ℕ} → Filled l ks new → Back m (corners l) ks → mapped m new ≡ l
filled_back m none back = refl
filled_back m (kept {x = x} {xs = xs} {ks = ks} e f) back =
    let rest : Back m (corners xs) ks = rw e at back in
    rw (e, filled_back m f rest)
filled_back m (filled {x = x} {k = k} {xs = xs} {ks = ks} e f) back =
    let all : Back m (x ∷ corners xs) (k ∷ ks) = rw e at back in
    rw (all 0 (omega arith), filled_back m f (λ i b. all (suc i) (omega arith)))

back_filled : (m : List ℤ) {l new : List ℤ} {ks : List ℕ} → Filled l ks new → mapped m new ≡ l → Back m (corners l) ks
back_filled m none e = λ i b. absurd (omega arith)
back_filled m (kept p f) e = rw p (back_filled m f (cc))
back_filled m (filled {x = x} {k = k} {xs = xs} {ks = ks} p f) e = rw p (at (cc) (back_filled m f (cc)))
  where
    at : get_or m k (pos 0) ≡ x → Back m (corners xs) ks → Back m (x ∷ corners xs) (k ∷ ks)
    at first rest zero b = first
    at first rest (suc i) b = rest i (omega arith)

module _ (labels : List ℕ) where
  pub numbers_length : length (new_numbers labels) ≡ length labels
  unfolding new_numbers
  numbers_length = length-map labels (λ (x : ℕ). place_in x (distinct labels))

  module _ (x : ℕ) (h : x < length labels) where
    pub number_is : get_or (new_numbers labels) x 0 ≡ place_in (label_at labels x) (distinct labels)
    unfolding new_numbers
    number_is = get_or-mapped (λ (x : ℕ). place_in x (distinct labels)) labels x 0 0 h

    label_in : In (label_at labels x) (distinct labels)
    label_in = distinct_has (label_at labels x) labels (at_in 0 labels x h)

    pub number_below : get_or (new_numbers labels) x 0 < new_vertices labels
    number_below = rw number_is (place_below (label_at labels x) (distinct labels) label_in)

    -- a number leads to the label
    pub number_label : get_or (distinct labels) (get_or (new_numbers labels) x 0) 0 ≡ label_at labels x
    number_label = rw number_is (place_holds (label_at labels x) (distinct labels) label_in)

  module _ (x y : ℕ) (x_below : x < length labels) (y_below : y < length labels) where
    pub same_number : label_at labels x ≡ label_at labels y → get_or (new_numbers labels) x 0 ≡ get_or (new_numbers labels) y 0
    same_number e = number_is x x_below ∙ ap (λ (k : ℕ). place_in k (distinct labels)) e ∙ sym (number_is y y_below)

    pub same_label : get_or (new_numbers labels) x 0 ≡ get_or (new_numbers labels) y 0 → label_at labels x ≡ label_at labels y
    same_label e = sym (number_label x x_below) ∙ ap (λ (k : ℕ). get_or (distinct labels) k 0) e ∙ number_label y y_below

  pub number_order : (x k : ℕ) → x < length labels → k < get_or (new_numbers labels) x 0 → (y : ℕ) × (y < x) × (get_or (new_numbers labels) y 0 ≡ k)
  number_order x k h b =
      let few : k < length (distinct labels) = omega (arith, number_below x h) in
      let r = distinct_order labels x k h (rw (number_is x h) at b) in
      let y_below : r.0 < length labels = omega (arith, r.1) in
      (r.0, r.1, number_is r.0 y_below ∙ ap (λ (z : ℕ). place_in z (distinct labels)) r.2 ∙ place_at (distinct labels) k (distinct_different labels) few)

  -- every number below the count is that of a corner
  pub number_used : (k : ℕ) → k < new_vertices labels → (x : ℕ) × (x < length labels) × (get_or (new_numbers labels) x 0 ≡ k)
  number_used k h =
      let z = get_or (distinct labels) k 0 in
      let i : In z labels = distinct_of z labels (at_in 0 (distinct labels) k h) in
      let x = place_in z labels in
      let b : x < length labels = place_below z labels i in
      (x, b, number_is x b ∙ ap (λ (w : ℕ). place_in w (distinct labels)) (place_holds z labels i) ∙ place_at (distinct labels) k (distinct_different labels) h)

module _ (l : List ℤ) (labels : List ℕ) (same : length labels ≡ length (corners l)) where
  numbers_fit : length (new_numbers labels) ≡ length (corners l)
  numbers_fit = numbers_length labels ∙ same

  pub new_ends : ends (new_list_of l labels) ≡ ends l
  unfolding new_list_of
  new_ends = filled_ends (fill l (new_numbers labels) numbers_fit)

  new_corners : corners (new_list_of l labels) ≡ map pos (new_numbers labels)
  unfolding new_list_of
  new_corners = filled_corners (fill l (new_numbers labels) numbers_fit)

  pub new_corners_length : length (corners (new_list_of l labels)) ≡ length (corners l)
  new_corners_length = ap length new_corners ∙ length-map (new_numbers labels) pos ∙ numbers_fit

  pub new_entry : (x : ℕ) → get_or (corners (new_list_of l labels)) x (pos 0) ≡ pos (get_or (new_numbers labels) x 0)
  new_entry x = ap (λ (zs : List ℤ). get_or zs x (pos 0)) new_corners ∙ get_or-map pos (new_numbers labels) x 0

  pub new_vertex : (x : ℕ) → vertex_at (new_list_of l labels) x ≡ get_or (new_numbers labels) x 0
  new_vertex x = ap num (new_entry x)

  pub first_use : FirstUse (new_list_of l labels)
  first_use x h v b =
      let r = number_order labels x v (omega (arith, new_corners_length)) (rw (new_vertex x) at b) in
      (r.0, r.1, new_vertex r.0 ∙ r.2)

  pub new_used : (v : ℕ) → v < new_vertices labels → Used (new_list_of l labels) v
  new_used v h =
      let r = number_used labels v h in
      (r.0, omega (arith, r.1, new_corners_length), new_vertex r.0 ∙ r.2)

  -- the new vertices are those of the new list's corners
  pub vertices_counted : Counted (Used (new_list_of l labels)) (new_vertices labels)
  vertices_counted = record {
    nth = λ v. v;
    each = new_used;
    all = λ v u. (v, omega (arith, number_below labels u.0 (omega (arith, u.1, new_corners_length)), new_vertex u.0, u.2), refl);
    once = λ u v h k e. e;
  }

  module _ (x : ℕ) (h : Corner l x) where
    -- the earliest corner of x's label
    abbrev earliest : ℕ
    earliest = place_in (label_at labels x) labels

    x_in : In (label_at labels x) labels
    x_in = at_in 0 labels x (omega arith)

    earliest_below : earliest < length labels
    earliest_below = place_below (label_at labels x) labels x_in

    earliest_label : label_at labels earliest ≡ label_at labels x
    earliest_label = place_holds (label_at labels x) labels x_in

    map_entry : get_or (map_of l labels) (get_or (new_numbers labels) x 0) (pos 0) ≡ get_or (corners l) earliest (pos 0)
    unfolding map_of
    map_entry =
        let b : x < length labels = omega arith in
        get_or-mapped (λ (z : ℕ). get_or (corners l) (place_in z labels) (pos 0)) (distinct labels) (get_or (new_numbers labels) x 0) 0 (pos 0) (number_below labels x b) ∙
        ap (λ (z : ℕ). get_or (corners l) (place_in z labels) (pos 0)) (number_label labels x b)

  -- corners of one label have one entry
  abbrev pub Refines : Type 0
  Refines = (x y : ℕ) → Corner l x → Corner l y → label_at labels x ≡ label_at labels y → get_or (corners l) x (pos 0) ≡ get_or (corners l) y (pos 0)

  -- a map gives the list back exactly when it gives each corner's entry for its new vertex
  number_back : (m : List ℤ) → Back m (corners l) (new_numbers labels) → mapped m (new_list_of l labels) ≡ l
  unfolding new_list_of
  number_back m = filled_back m (fill l (new_numbers labels) numbers_fit)

  pub back_number : (m : List ℤ) → mapped m (new_list_of l labels) ≡ l → (x : ℕ) → Corner l x → get_or m (get_or (new_numbers labels) x 0) (pos 0) ≡ get_or (corners l) x (pos 0)
  unfolding new_list_of
  back_number m e = back_filled m (fill l (new_numbers labels) numbers_fit) e

  pub map_back : (mapped (map_of l labels) (new_list_of l labels) ≡ l) ↔ Refines
  map_back = (one_entry, gives_back)
    where
      one_entry : mapped (map_of l labels) (new_list_of l labels) ≡ l → Refines
      one_entry e x y x_below y_below p =
          sym (back_number (map_of l labels) e x x_below) ∙
          ap (λ (k : ℕ). get_or (map_of l labels) k (pos 0)) (same_number labels x y (omega arith) (omega arith) p) ∙
          back_number (map_of l labels) e y y_below

      gives_back : Refines → mapped (map_of l labels) (new_list_of l labels) ≡ l
      gives_back refines =
          number_back (map_of l labels) (λ x h. map_entry x h ∙ refines (earliest x h) x (omega (arith, earliest_below x h)) h (earliest_label x h))
