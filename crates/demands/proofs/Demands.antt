-- Demands 2 and 3 of the order, sentence by sentence, for every list that the check accepts (`Demand1` has the first). A corner stands for its face at its vertex: a face has a vertex
-- at one corner only.
use Prim.Native.Nat.{ℕ, ◌≤◌, ◌<◌}
use mathlib.Core.Path.{◌≡◌, refl, sym, ◌∙◌, ap}
use mathlib.Core.Bool.{Bool}
use mathlib.Core.List.{List}
use mathlib.Core.Logic.{◌↔◌, ◌⊎◌, inl, inr}
use native.Mathlib.Omega.{arith}
use lib.IntN.{ℤ, pos}
use lib.ListN.{length, get_or}
use Rattle.list.specs.Faces.{corners, runs}
use Rattle.list.specs.Check.{CheckAnswer, Valid}
use Rattle.list.proofs.Given.{accepted_exactly_when, accepted_counts}
use Rattle.list.proofs.Checking.{faces_long}
use Rattle.list.specs.Limits.{max_entries}
use Rattle.text.specs.Writing.{AllFit}
use Rattle.text.proofs.RoundTrip.{ReadsBack, round_trip}
use Rattle.order.specs.Choose.{count}
use Rattle.edges.specs.Uses.{Use, uses, faces_on, singular_edge_count}
use Rattle.edges.proofs.Faces.{has_edge, uses_are_faces}
use Rattle.groups.specs.Groups.{every_edge, groups_of_uses, group_labels}
use Rattle.renumber.proofs.Sizes.{map-length}
use Rattle.renumber.specs.Renumber.{new_list_of, new_vertices}
use Rattle.fans.proofs.Classing as Classing
use Rattle.fans.specs.Classes.{class_of, classes_of, singular_vertex_count}
use Rattle.cut.specs.Cut.{cut_accepted}
use Rattle.cut.proofs.Words.{corner_entry}
use Rattle.demands.specs.Joined.{Equivalence, Joined}
use Rattle.demands.specs.Renumbered.{Corner, vertex_at, ends, mapped, FirstUse}
use Rattle.demands.specs.Linked.{Linked, OneFan}
use Rattle.demands.specs.Labelling.{label_at, Labelling, label_count}
use Rattle.demands.specs.Classed.{Used, Standalone, EndsSingular, EndsBoundary, ManyFans}
use Rattle.demands.specs.Counted.{Counted, SingularEdge, SingularVertex}
use Rattle.demands.specs.Cutting.{Accepted, new_list, new_map, new_count, IsNewList}
use Rattle.demands.proofs.Equivalence.{joined_equivalence, joined_least, joined_equal}
use Rattle.demands.proofs.Numbering as Numbering
use Rattle.demands.proofs.Result as Result
use Rattle.demands.proofs.Fewest as Fewest
use Rattle.demands.proofs.Classes as Classes
use Rattle.demands.proofs.Counts as Counts
use Rattle.demands.proofs.Only as Only

-- Demand 2: "the text form of every list of permitted length reads back as that list", into a list with room; every entry of a list of
-- 32-bit integers fits
pub text_reads_back : (l buffer : List ℤ) → length l ≤ max_entries → AllFit l → length l ≤ length buffer → ReadsBack l buffer
text_reads_back = round_trip

module _ (l : List ℤ) (n : ℕ) (accepted : Accepted l n) where
  valid : Valid l n
  valid = (accepted_exactly_when l n).0 accepted

  groups_length : length (group_labels l) ≡ length (corners l)
  unfolding group_labels
  groups_length = Result.groups_length every_edge l n valid

  -- Demand 2

  -- "-1 at the same positions", and so the input's length
  pub ends_stay : ends (new_list l) ≡ ends l
  ends_stay = Numbering.new_ends l (group_labels l) groups_length

  -- "replacing each new index by its map entry gives the input entry for entry"
  pub map_gives_back : mapped (new_map l) (new_list l) ≡ l
  unfolding group_labels
  map_gives_back = (Numbering.map_back l (group_labels l) groups_length).1 (Result.groups_refine every_edge l n valid)

  -- "new numbers in the order of first use"
  pub numbered_by_first_use : FirstUse (new_list l)
  numbered_by_first_use = Numbering.first_use l (group_labels l) groups_length

  -- the map has an entry for each new vertex: the input vertex of its corners
  pub map_for_each : length (new_map l) ≡ new_count l
  map_for_each = map-length l (group_labels l)

  pub map_entry : (x : ℕ) → Corner l x → get_or (new_map l) (vertex_at (new_list l) x) (pos 0) ≡ get_or (corners l) x (pos 0)
  map_entry x h =
      ap (λ (v : ℕ). get_or (new_map l) v (pos 0)) (Numbering.new_vertex l (group_labels l) groups_length x) ∙
      Numbering.back_number l (group_labels l) groups_length (new_map l) map_gives_back x h

  -- "two corners have the same new vertex exactly when they are joined by the smallest equivalence that holds the paper's links"
  pub same_vertex_when_joined : (x y : ℕ) → Corner l x → Corner l y → (vertex_at (new_list l) x ≡ vertex_at (new_list l) y) ↔ Joined (Linked l) x y
  unfolding group_labels
  same_vertex_when_joined x y h k = (
    λ e. Fewest.joined_linked l (Result.new_joined every_edge l n valid x y h k e),
    λ j. Result.joined_new every_edge l n valid x y h k (Fewest.linked_joined l j),
  )

  -- and their group's label is its earliest corner
  pub label_earliest : (x : ℕ) → Corner l x → Joined (Linked l) x (label_at (group_labels l) x) × ((y : ℕ) → Joined (Linked l) x y → label_at (group_labels l) x ≤ y)
  unfolding group_labels
  label_earliest x h = Fewest.fan_earliest l n valid x h

  -- "smallest": an equivalence, and within every other that holds the links
  pub joined_is_equivalence : Equivalence (Joined (Linked l))
  joined_is_equivalence = joined_equivalence

  pub joined_is_smallest : (E : ℕ → ℕ → Type 0) → Equivalence E → ((x y : ℕ) → Linked l x y → E x y) → (x y : ℕ) → Joined (Linked l) x y → E x y
  joined_is_smallest E equivalence holds x y j = joined_least equivalence holds j

  -- these sentences leave one new list and one map only
  pub new_list_is : IsNewList l (new_list l)
  new_list_is = record {
    same_ends = ends_stay;
    vertices = λ x h. Numbering.new_entry l (group_labels l) groups_length x ∙ ap pos (sym (Numbering.new_vertex l (group_labels l) groups_length x));
    first_use = numbered_by_first_use;
    groups = same_vertex_when_joined;
  }

  pub new_list_only : (k : List ℤ) → IsNewList l k → k ≡ new_list l
  unfolding group_labels
  new_list_only k is =
      Only.new_only l (group_labels l) groups_length k is.same_ends is.vertices is.first_use
      (λ x y h j. (λ e. Fewest.joined_fan l n valid ((is.groups x y h j).0 e), λ e. (is.groups x y h j).1 (Fewest.fan_joined l n valid x y h j e)))

  pub map_only : (m : List ℤ) → length m ≡ new_count l → mapped m (new_list l) ≡ l → m ≡ new_map l
  map_only m long back = Only.map_only l (group_labels l) groups_length m long back map_gives_back

  -- "the counts ... are those of document 01"
  pub counts_faces : (cut_accepted l n).faces ≡ length (runs l)
  counts_faces = ap (λ (a : CheckAnswer). a.faces) (accepted_counts l n accepted) ∙ faces_long 0 (runs l)

  pub counts_corners : (cut_accepted l n).corners ≡ length (corners l)
  counts_corners = ap (λ (a : CheckAnswer). a.corners) (accepted_counts l n accepted)

  pub counts_vertices : Counted (Used (new_list l)) (cut_accepted l n).vertices
  counts_vertices = Numbering.vertices_counted l (group_labels l) groups_length

  pub counts_singular_edges : Counted (SingularEdge l) (cut_accepted l n).singular_edges
  counts_singular_edges = Counts.singular_edges l n valid

  pub counts_singular_vertices : Counted (SingularVertex l n) (cut_accepted l n).singular_vertices
  counts_singular_vertices = Counts.singular_vertices l n

  -- the number of faces on an edge counts faces
  pub counts_faces_on : (a b : ℕ) → faces_on l a b ≡ count (has_edge a b) (runs l)
  counts_faces_on a b = uses_are_faces l n a b valid

  -- "the ... classes are those of document 01, each also stated in its words"
  pub classes_length : length (classes_of l n) ≡ n
  classes_length = Classing.classes_length l n

  pub classes_at : (v : ℕ) → v < n → get_or (classes_of l n) v 0 ≡ class_of l v
  classes_at = Classing.classes_at l n

  module _ (v : ℕ) where
    -- 0 standalone (no face)
    pub class_0 : (class_of l v ≡ 0) ↔ Standalone l v
    class_0 = Classes.class_standalone l n valid v

    -- 3 endpoint of a singular edge
    pub class_3 : (class_of l v ≡ 3) ↔ EndsSingular l v
    class_3 = Classes.class_singular l n valid v

    -- otherwise 4 if it has more than one fan
    pub class_4 : (class_of l v ≡ 4) ↔ ((EndsSingular l v → ⊥) × ManyFans l v)
    class_4 = Classes.class_isolated l n valid v

    -- otherwise 2 if it is an endpoint of a boundary edge
    pub class_2 : (class_of l v ≡ 2) ↔ ((EndsSingular l v → ⊥) × (ManyFans l v → ⊥) × EndsBoundary l v)
    class_2 = Classes.class_boundary l n valid v

    -- otherwise 1
    pub class_1 : (class_of l v ≡ 1) ↔ ((Standalone l v → ⊥) × (EndsSingular l v → ⊥) × (ManyFans l v → ⊥) × (EndsBoundary l v → ⊥))
    class_1 = Classes.class_inner l n valid v

  -- Demand 3

  -- "each edge of the new list has one or two faces"
  pub one_or_two_faces : (a b : ℕ) → 0 < faces_on (new_list l) a b → (faces_on (new_list l) a b ≡ 1) ⊎ (faces_on (new_list l) a b ≡ 2)
  unfolding group_labels
  one_or_two_faces a b = Result.result_one_or_two every_edge l n valid a b

  -- "round each new vertex every face is reached from every other by stepping across result edges at that vertex"
  pub one_fan : OneFan (new_list l)
  unfolding group_labels
  one_fan = Result.result_fan every_edge l n valid

  -- "the new list with its vertex count is accepted by the check"
  pub new_list_accepted : Accepted (new_list l) (new_count l)
  unfolding group_labels
  new_list_accepted = (accepted_exactly_when (new_list l) (new_count l)).1 (Result.result_valid every_edge l n valid)

  -- "every labelling of the corners such that any two corners of one label lie on one input vertex and are linked, through corners of that
  -- label, across edges at that vertex with exactly two faces in the input, has at least as many labels as the result has vertices"
  pub fewest_labels : (labels : List ℕ) → Labelling l labels → new_count l ≤ label_count labels
  unfolding group_labels
  fewest_labels labels labelling = Fewest.fewest l n valid labels labelling

  -- "and if it has equally many, it makes the same groups"
  pub fewest_same_groups : (labels : List ℕ) → Labelling l labels → label_count labels ≡ new_count l → (x y : ℕ) → Corner l x → Corner l y → (label_at labels x ≡ label_at labels y) ↔ (vertex_at (new_list l) x ≡ vertex_at (new_list l) y)
  unfolding group_labels
  fewest_same_groups labels labelling as_few x y h k =
      let same = Fewest.fewest_same l n valid labels labelling as_few x y h k in
      let new = same_vertex_when_joined x y h k in
      (λ e. new.1 (Fewest.fan_joined l n valid x y h k (same.0 e)), λ e. same.1 (Fewest.joined_fan l n valid (new.0 e)))

  -- such a labelling is there: the cut's own
  pub cut_is_labelling : Labelling l (group_labels l)
  unfolding group_labels
  cut_is_labelling = Fewest.fans_labelling l n valid

  -- "The edge and fan parts are proved for any set of cut edges that holds all singular ones": J says which regular edges are not cut
  module _ (J : Use → Bool) where
    abbrev pub joined_by : List ℤ
    joined_by = new_list_of l (groups_of_uses J (uses l))

    pub any_edges : (a b : ℕ) → faces_on joined_by a b ≤ 2
    any_edges = Result.result_edges J l n valid

    pub any_one_fan : OneFan joined_by
    any_one_fan = Result.result_fan J l n valid

    pub any_accepted : Accepted joined_by (new_vertices (groups_of_uses J (uses l)))
    any_accepted = (accepted_exactly_when joined_by (new_vertices (groups_of_uses J (uses l)))).1 (Result.result_valid J l n valid)

  -- a list with one fan round each vertex, numbered by first use, is its own cut
  pub own_cut : OneFan l → FirstUse l → new_list l ≡ l
  own_cut fan order =
      sym
      (new_list_only l
      (record {
        same_ends = refl;
        vertices = corner_entry l n valid;
        first_use = order;
        groups = λ x y h k. (fan x y h k, λ j. joined_equal (vertex_at l) (λ p q m. m.2.same_vertex) j);
      }))

module _ (l : List ℤ) (n : ℕ) (accepted : Accepted l n) where
  -- the result has no standalone vertex, no singular edge and no singular vertex
  pub new_classes : (v : ℕ) → v < new_count l → (class_of (new_list l) v ≡ 1) ⊎ (class_of (new_list l) v ≡ 2)
  unfolding group_labels
  new_classes v h =
      Classes.class_regular (new_list l) (new_count l) ((accepted_exactly_when (new_list l) (new_count l)).0 (new_list_accepted l n accepted)) v
      (Result.result_edges every_edge l n (valid l n accepted))
      (one_fan l n accepted)
      (Numbering.new_used l (group_labels l) (groups_length l n accepted) v h)

  pub no_singular_edges : singular_edge_count (new_list l) ≡ 0
  unfolding group_labels
  no_singular_edges =
      Counts.counted_none (λ e s. omega (arith, s.1, Result.result_edges every_edge l n (valid l n accepted) e.0 e.1))
      (counts_singular_edges (new_list l) (new_count l) (new_list_accepted l n accepted))

  pub no_singular_vertices : singular_vertex_count (new_list l) (new_count l) ≡ 0
  no_singular_vertices =
      Counts.counted_none (λ v s. no_class (new_classes v s.0) s.1)
      (counts_singular_vertices (new_list l) (new_count l) (new_list_accepted l n accepted))
    where
      no_class : {k : ℕ} → (k ≡ 1) ⊎ (k ≡ 2) → (k ≡ 3) ⊎ (k ≡ 4) → ⊥
      no_class (inl p) (inl q) = omega arith
      no_class (inl p) (inr q) = omega arith
      no_class (inr p) (inl q) = omega arith
      no_class (inr p) (inr q) = omega arith

  -- the cut of a cut is that cut
  pub cut_again : new_list (new_list l) ≡ new_list l
  cut_again = own_cut (new_list l) (new_count l) (new_list_accepted l n accepted) (one_fan l n accepted) (numbered_by_first_use l n accepted)
