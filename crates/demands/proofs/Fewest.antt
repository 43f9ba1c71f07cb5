-- The cut at every regular edge: its groups are what the links of the list join, and every labelling that a cut could make has at least
-- as many labels, for each of its labels lies within one group.
use Prim.Native.Nat.{ℕ, ◌≤◌}
use mathlib.Core.Path.{◌≡◌, refl, sym, ◌∙◌}
use mathlib.Core.Bool.{Bool, true, false, cond}
use mathlib.Core.List.{List}
use mathlib.Core.Logic.{◌↔◌}
use native.Mathlib.Omega.{arith}
use lib.Dec.{ltb}
use lib.IntN.{ℤ}
use lib.ListN.{length}
use Rattle.list.specs.Check.{Valid}
use Rattle.order.proofs.Lists.{In, at_in}
use Rattle.edges.specs.Uses.{uses}
use Rattle.groups.specs.Groups.{links, every_edge}
use Rattle.groups.specs.Distinct.{distinct, place_in}
use Rattle.renumber.specs.Renumber.{new_vertices}
use Rattle.demands.specs.Joined.{Joined, link}
use Rattle.demands.specs.Renumbered.{Corner, vertex_at}
use Rattle.demands.specs.Linked.{Linked}
use Rattle.demands.specs.Labelling.{label_at, Labelling, label_count}
use Rattle.demands.proofs.Equivalence.{joined_equal, joined_through, joined_within}
use Rattle.demands.proofs.Walk.{Met}
use Rattle.demands.proofs.Labels.{label_early, label_itself}
use Rattle.demands.proofs.Distinct.{distinct_has, distinct_of, distinct_different, place_below, place_holds, onto_fit, onto_exact}
use Rattle.demands.proofs.Crossing.{Crossing}
use Rattle.demands.proofs.Links.{group_joined, joined_group}
use Rattle.demands.proofs.Result.{groups, groups_length, cornered}

module _ (l : List ℤ) where
  pub linked_met : {x y : ℕ} → Linked l x y → Met (Crossing every_edge l) x y
  linked_met m = (m.0, m.1, record { across = m.2; made = either (ltb m.2.one m.2.two) })
    where
      either : (b : Bool) → cond b true true ≡ true
      either true = refl
      either false = refl

  pub joined_linked : {x y : ℕ} → Joined (Met (Crossing every_edge l)) x y → Joined (Linked l) x y
  joined_linked = joined_through (λ x y m. link (m.0, m.1, m.2.across))

  pub linked_joined : {x y : ℕ} → Joined (Linked l) x y → Joined (Met (Crossing every_edge l)) x y
  linked_joined = joined_through (λ x y m. link (linked_met m))

module _ (l : List ℤ) (n : ℕ) (v : Valid l n) where
  abbrev pub fans : List ℕ
  fans = groups every_edge l n v

  pub fan_joined : (x y : ℕ) → Corner l x → Corner l y → label_at fans x ≡ label_at fans y → Joined (Linked l) x y
  fan_joined x y h k e = joined_linked l (group_joined every_edge l (cornered every_edge l n v) x y h k e)

  pub joined_fan : {x y : ℕ} → Joined (Linked l) x y → label_at fans x ≡ label_at fans y
  joined_fan j = joined_group every_edge l (cornered every_edge l n v) (linked_joined l j)

  -- a group's label is its earliest corner
  pub fan_earliest : (x : ℕ) → Corner l x → Joined (Linked l) x (label_at fans x) × ((y : ℕ) → Joined (Linked l) x y → label_at fans x ≤ y)
  fan_earliest x h =
      let early = label_early (length (uses l)) (links every_edge (uses l)) in
      let itself = label_itself (length (uses l)) (links every_edge (uses l)) in
      (fan_joined x (label_at fans x) h (omega (arith, early x)) (sym (itself x)), λ y j. omega (arith, joined_fan j, early y))

  module _ (labels : List ℕ) (labelling : Labelling l labels) where
    -- the group within which a label lies, by the label's earliest corner
    fan_of : ℕ → ℕ
    fan_of k = label_at fans (place_in k labels)

    -- corners of one label are in one group
    label_fan : (x y : ℕ) → Corner l x → Corner l y → label_at labels x ≡ label_at labels y → label_at fans x ≡ label_at fans y
    label_fan x y h k e = joined_fan (joined_through (λ p q m. link m.0) (labelling.linked x y h k e))

    within : (x : ℕ) → Corner l x → fan_of (label_at labels x) ≡ label_at fans x
    unfolding fan_of
    within x h =
        let i : In (label_at labels x) labels = at_in 0 labels x (omega (arith, labelling.one_each)) in
        label_fan (place_in (label_at labels x) labels) x (omega (arith, place_below (label_at labels x) labels i, labelling.one_each)) h (place_holds (label_at labels x) labels i)

    every_fan : (g : ℕ) → In g (distinct fans) → (d : ℕ) × In d (distinct labels) × (fan_of d ≡ g)
    every_fan g i =
        let j : In g fans = distinct_of g fans i in
        let x = place_in g fans in
        let h : Corner l x = omega (arith, place_below g fans j, groups_length every_edge l n v) in
        (label_at labels x, distinct_has (label_at labels x) labels (at_in 0 labels x (omega (arith, labelling.one_each))), within x h ∙ place_holds g fans j)

    pub fewest : new_vertices fans ≤ label_count labels
    fewest = onto_fit fan_of (distinct labels) (distinct fans) (distinct_different fans) every_fan

    pub fewest_same : label_count labels ≡ new_vertices fans → (x y : ℕ) → Corner l x → Corner l y → (label_at labels x ≡ label_at labels y) ↔ (label_at fans x ≡ label_at fans y)
    fewest_same as_few x y h k = (
      label_fan x y h k,
      λ e.
          onto_exact fan_of (distinct labels) (distinct fans) (distinct_different fans) every_fan (omega arith) (label_at labels x) (label_at labels y)
          (distinct_has (label_at labels x) labels (at_in 0 labels x (omega (arith, labelling.one_each))))
          (distinct_has (label_at labels y) labels (at_in 0 labels y (omega (arith, labelling.one_each))))
          (within x h ∙ e ∙ sym (within y k)),
    )

  -- the groups themselves are such a labelling
  pub fans_labelling : Labelling l fans
  fans_labelling = record {
    one_each = groups_length every_edge l n v;
    one_vertex = λ x y h k e. joined_equal (vertex_at l) (λ p q m. m.2.same_vertex) (fan_joined x y h k e);
    linked = λ x y h k e. joined_within (Linked l) (label_at fans) (λ p q m. joined_fan (link m)) (fan_joined x y h k e);
  }
