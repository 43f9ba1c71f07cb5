-- The list numbered afresh by its groups, for any choice J of joined regular edges: it is valid, each of its edges has one or two faces,
-- and round each of its vertices there is one fan.
use Prim.Native.Nat.{ℕ, ◌≤◌, ◌<◌}
use mathlib.Core.Path.{◌≡◌, refl, sym, ◌∙◌, ap}
use mathlib.Core.Bool.{Bool, true}
use mathlib.Core.List.{List, [], ◌∷◌}
use mathlib.Core.Logic.{◌⊎◌, inl, inr, ⊎_elim}
use native.Mathlib.Omega.{arith}
use lib.IntN.{ℤ, pos}
use lib.ListN.{length}
use Rattle.list.specs.Faces.{corners}
use Rattle.list.specs.Check.{Valid}
use Rattle.order.proofs.Lists.{In, Rising}
use Rattle.edges.specs.Uses.{Use, uses, on_edge, faces_on, use_at}
use Rattle.edges.proofs.Uses.{uses_long}
use Rattle.edges.proofs.Mates.{sharing, sharing_faces, sharing_rises, in_sharing, shares, is_here}
use Rattle.groups.specs.Groups.{links, groups_of_uses}
use Rattle.renumber.specs.Renumber.{new_list_of, new_vertices}
use Rattle.cut.proofs.Words.{corner_entry}
use Rattle.demands.specs.Joined.{Joined, link, Side, starts, stops, opposite}
use Rattle.demands.specs.Renumbered.{Corner, vertex_at}
use Rattle.demands.specs.Linked.{corner_by, Across, OneFan}
use Rattle.demands.proofs.Equivalence.{joined_equal, joined_through}
use Rattle.demands.proofs.Walk.{Free, Met, three_free}
use Rattle.demands.proofs.Labels.{labels_length}
use Rattle.demands.proofs.Distinct.{equal_or_not, two_in}
use Rattle.demands.proofs.Numbering.{new_ends, new_corners_length, new_vertex, same_number, same_label, Refines}
use Rattle.demands.proofs.Corners.{next, Cornered, valid_cornered}
use Rattle.demands.proofs.Crossing.{vertex_by, Ends, edge_vertices, same_ends, ends_same, ends_back, sides_ends, corner_by_below, ends_sides, side_once, corner_once, three_faces, Crossing, crossing_meets}
use Rattle.demands.proofs.Links.{crossing_below, group_joined, joined_group}
use Rattle.demands.proofs.Shape.{same_next, new_valid}

module _ (J : Use → Bool) (l : List ℤ) (n : ℕ) (v : Valid l n) where
  abbrev pub groups : List ℕ
  groups = groups_of_uses J (uses l)

  abbrev pub result : List ℤ
  result = new_list_of l groups

  pub cornered : Cornered l
  cornered = valid_cornered l n v

  pub groups_length : length groups ≡ length (corners l)
  groups_length = labels_length (length (uses l)) (links J (uses l)) ∙ uses_long l

  -- corners that are joined lie on one vertex
  pub joined_vertex : {x y : ℕ} → Joined (Met (Crossing J l)) x y → vertex_at l x ≡ vertex_at l y
  joined_vertex = joined_equal (vertex_at l) (λ x y m. m.2.across.same_vertex)

  pub groups_refine : Refines l groups groups_length
  groups_refine x y h k e =
      corner_entry l n v x h ∙ ap pos (joined_vertex (group_joined J l cornered x y h k e)) ∙ sym (corner_entry l n v y k)

  pub result_valid : Valid result (new_vertices groups)
  result_valid = new_valid l n v groups groups_length groups_refine

  pub result_corners : length (corners result) ≡ length (corners l)
  result_corners = new_corners_length l groups groups_length

  result_next : (e : ℕ) → next result e ≡ next l e
  result_next e = same_next result l (new_ends l groups groups_length) e

  result_corner_by : (e : ℕ) (s : Side) → corner_by result e s ≡ corner_by l e s
  result_corner_by e starts = refl
  result_corner_by e stops = result_next e

  -- corners have the same new vertex exactly when they are joined
  module _ (x y : ℕ) (x_below : Corner l x) (y_below : Corner l y) where
    pub joined_new : Joined (Met (Crossing J l)) x y → vertex_at result x ≡ vertex_at result y
    joined_new j =
        new_vertex l groups groups_length x ∙
        same_number groups x y (omega (arith, groups_length)) (omega (arith, groups_length)) (joined_group J l cornered j) ∙
        sym (new_vertex l groups groups_length y)

    pub new_joined : vertex_at result x ≡ vertex_at result y → Joined (Met (Crossing J l)) x y
    new_joined e =
        group_joined J l cornered x y x_below y_below
        (same_label groups x y (omega (arith, groups_length)) (omega (arith, groups_length)) (sym (new_vertex l groups groups_length x) ∙ e ∙ new_vertex l groups groups_length y))

  -- a corner's side at an edge with three faces is free
  crowded : (e : ℕ) (s : Side) → Corner l e → 3 ≤ faces_on l (use_at l e).from (use_at l e).to → Free (Crossing J l) (corner_by l e s) s
  crowded e s h many y t c =
      let a = c.across in
      let is_e : a.one ≡ e = side_once l cornered a.one e s a.one_below h (sym a.x_is) in
      let two : faces_on l (use_at l e).from (use_at l e).to ≡ 2 = rw is_e at a.two_faces in
      omega arith

  -- the use that starts at corner e runs between the new vertices a and b: by its side its end on a
  record On (a b e : ℕ) : Type 0 where
    corner : Corner l e
    side : Side
    on_a : vertex_at result (corner_by l e side) ≡ a
    on_b : vertex_at result (corner_by l e (opposite side)) ≡ b

  sharing_on : (a b e : ℕ) → In e (sharing result a b) → On a b e
  sharing_on a b e i =
      let r = in_sharing result a b e i in
      let h : Corner l e = omega (arith, r.0, uses_long result, result_corners) in
      let stop : vertex_at result (next l e) ≡ vertex_at result (next result e) = ap (vertex_at result) (sym (result_next e)) in
      ⊎_elim
      (λ p. record { corner = h; side = starts; on_a = p.0; on_b = stop ∙ p.1 })
      (λ p. record { corner = h; side = stops; on_a = stop ∙ p.1; on_b = p.0 })
      (edge_vertices result e (omega (arith, result_corners)) a b r.1)

  -- two uses of one new edge: their ends on each of its vertices are joined, so in the input they are uses of one edge too
  module _ {a b e f : ℕ} (o : On a b e) (q : On a b f) where
    by_joined : (s t : Side) → vertex_at result (corner_by l e s) ≡ vertex_at result (corner_by l f t) → Joined (Met (Crossing J l)) (corner_by l e s) (corner_by l f t)
    by_joined s t = new_joined (corner_by l e s) (corner_by l f t) (corner_by_below l cornered e s o.corner) (corner_by_below l cornered f t q.corner)

    ends_joined : Joined (Met (Crossing J l)) (corner_by l e o.side) (corner_by l f q.side)
    ends_joined = by_joined o.side q.side (o.on_a ∙ sym q.on_a)

    others_vertex : vertex_by l e (opposite o.side) ≡ vertex_by l f (opposite q.side)
    others_vertex = joined_vertex (by_joined (opposite o.side) (opposite q.side) (o.on_b ∙ sym q.on_b))

    old_ends : Ends l e f
    old_ends = sides_ends l e f o.side q.side (joined_vertex ends_joined) others_vertex

    ends_differ : (e ≡ f → ⊥) → corner_by l e o.side ≡ corner_by l f q.side → ⊥
    ends_differ e≢f p = e≢f (corner_once l cornered e f o.side q.side o.corner q.corner p others_vertex)

  -- of three uses of one new edge each has a free side there
  end_free : {a b e f g : ℕ} (o : On a b e) → On a b f → On a b g → (e ≡ f → ⊥) → (e ≡ g → ⊥) → (f ≡ g → ⊥) → Free (Crossing J l) (corner_by l e o.side) o.side
  end_free {a} {b} {e} {f} {g} o q r e≢f e≢g f≢g =
      crowded e o.side o.corner
      (three_faces l cornered e f g o.corner q.corner r.corner (old_ends q o) (old_ends r o) e≢f e≢g f≢g)

  three_uses : {a b e f g : ℕ} → On a b e → On a b f → On a b g → e < f → f < g → ⊥
  three_uses o q r e<f f<g =
      three_free (crossing_meets J l cornered)
      (end_free o q r (omega arith) (omega arith) (omega arith))
      (end_free q o r (omega arith) (omega arith) (omega arith))
      (end_free r o q (omega arith) (omega arith) (omega arith))
      (ends_joined o q)
      (ends_joined o r)
      (ends_differ q o (omega arith))
      (ends_differ r o (omega arith))
      (ends_differ r q (omega arith))

  -- each edge of the result has at most two faces
  pub result_edges : (a b : ℕ) → faces_on result a b ≤ 2
  result_edges a b = rw (sharing_faces result a b) at (go (sharing result a b) (sharing_rises result a b) (sharing_on a b))
    where
      go : (xs : List ℕ) → Rising 0 xs → ((e : ℕ) → In e xs → On a b e) → length xs ≤ 2
      go [] r on = omega arith
      go (e ∷ []) r on = omega arith
      go (e ∷ f ∷ []) r on = omega arith
      go (e ∷ f ∷ g ∷ xs) r on =
          absurd (three_uses (on e (inl refl)) (on f (inr (inl refl))) (on g (inr (inr (inl refl)))) (omega arith) (omega arith))

  pub result_one_or_two : (a b : ℕ) → 0 < faces_on result a b → (faces_on result a b ≡ 1) ⊎ (faces_on result a b ≡ 2)
  result_one_or_two a b h =
      let few = result_edges a b in
      ⊎_elim (λ e. inl e) (λ e. inr (omega arith)) (equal_or_not (faces_on result a b) 1)

  -- the other ends of two uses that meet do too
  crossing_opposite : {x y : ℕ} {s t : Side} (c : Crossing J l x s y t) → Crossing J l (corner_by l c.across.one (opposite s)) (opposite s) (corner_by l c.across.two (opposite t)) (opposite t)
  crossing_opposite {x} {y} {s} {t} c =
      let a = c.across in
      let ends : Ends l a.one a.two = ends_back l a.two a.one (same_ends l a.one a.two a.one_below a.two_below a.same_edge) in
      record {
        across = record {
          one = a.one;
          two = a.two;
          one_below = a.one_below;
          two_below = a.two_below;
          differ = a.differ;
          same_edge = a.same_edge;
          two_faces = a.two_faces;
          x_is = refl;
          y_is = refl;
          same_vertex = ends_sides l cornered a.one a.two s t a.two_below ends (ap (vertex_at l) (sym a.x_is) ∙ a.same_vertex ∙ ap (vertex_at l) a.y_is);
        };
        made = c.made;
      }

  -- corners that meet have the same new vertex
  crossing_new : {x y : ℕ} {s t : Side} → Crossing J l x s y t → vertex_at result x ≡ vertex_at result y
  crossing_new {x} {y} {s} {t} c =
      let b = crossing_below J l cornered c.across in
      joined_new x y b.0 b.1 (link (s, t, c))

  -- corners that meet in the input meet in the result
  crossing_result : {x y : ℕ} {s t : Side} → Crossing J l x s y t → Across result x s y t
  crossing_result {x} {y} {s} {t} c =
      let e = c.across.one in
      let f = c.across.two in
      let e_below : Corner result e = rw result_corners c.across.one_below in
      let f_below : Corner result f = rw result_corners c.across.two_below in
      let x_is : x ≡ corner_by result e s = c.across.x_is ∙ sym (result_corner_by e s) in
      let y_is : y ≡ corner_by result f t = c.across.y_is ∙ sym (result_corner_by f t) in
      let here : vertex_by result f t ≡ vertex_by result e s = ap (vertex_at result) (sym y_is) ∙ sym (crossing_new c) ∙ ap (vertex_at result) x_is in
      let there : vertex_by result f (opposite t) ≡ vertex_by result e (opposite s) = ap (vertex_at result) (result_corner_by f (opposite t)) ∙ sym (crossing_new (crossing_opposite c)) ∙ ap (vertex_at result) (sym (result_corner_by e (opposite s))) in
      let on : on_edge (use_at result e).from (use_at result e).to (use_at result f) ≡ true = ends_same result e f e_below f_below (sides_ends result f e t s here there) in
      let a = (use_at result e).from in
      let b = (use_at result e).to in
      let both : 2 ≤ length (sharing result a b) = two_in e f (sharing result a b) (is_here result e (omega (arith, uses_long result))) (shares result a b f (omega (arith, uses_long result)) on) c.across.differ in
      record {
        one = e;
        two = f;
        one_below = e_below;
        two_below = f_below;
        differ = c.across.differ;
        same_edge = on;
        two_faces = omega (arith, result_edges a b, sharing_faces result a b);
        x_is = x_is;
        y_is = y_is;
        same_vertex = crossing_new c;
      }

  -- round each vertex of the result there is one fan
  pub result_fan : OneFan result
  result_fan x y h k e =
      joined_through (λ x y m. link (m.0, m.1, crossing_result m.2))
      (new_joined x y (omega (arith, result_corners)) (omega (arith, result_corners)) e)
