-- The links of a list are the meetings of its corners across the chosen regular edges, so its groups are what those meetings join.
use Prim.Native.Nat.{ℕ, zero, suc, ◌≤◌, ◌<◌}
use mathlib.Core.Path.{◌≡◌, refl, sym, ◌∙◌, ap}
use mathlib.Core.Bool.{Bool, true, false, cond, ◌&&◌}
use mathlib.Core.List.{List, [], ◌∷◌, ◌++◌}
use mathlib.Core.Logic.{◌⊎◌, inl, inr, ⊎_elim}
use native.Mathlib.Omega.{arith}
use borrow.Author.Tests.{ltb-true, ltb-false, lt-ltb, eqb-true, eqb-false, eq-eqb, ne_eqb}
use lib.Dec.{ltb, eqb}
use lib.IntN.{ℤ}
use lib.ListN.{length, get_or}
use Rattle.order.proofs.Lists.{In}
use Rattle.mates.specs.Mates.{Mate, alone, other, many}
use Rattle.edges.specs.Uses.{Use, uses, mate_of, no_use, use_at}
use Rattle.edges.proofs.Uses.{uses_long, corner_at_lem}
use Rattle.edges.proofs.Mates.{Regular, mate_other, mate_regular}
use Rattle.groups.specs.Groups.{Link, links_of, links_at, links_from, links, groups_of_uses}
use Rattle.demands.specs.Joined.{Joined, link, Side, starts, stops}
use Rattle.demands.specs.Renumbered.{Corner, vertex_at}
use Rattle.demands.specs.Linked.{corner_by, Across}
use Rattle.demands.specs.Labelling.{label_at}
use Rattle.demands.proofs.Equivalence.{joined_equal}
use Rattle.demands.proofs.Walk.{Met}
use Rattle.demands.proofs.Labels.{Linking, Below, label_joined, joined_label}
use Rattle.demands.proofs.Corners.{next, Cornered}
use Rattle.demands.proofs.Crossing.{vertex_by, Ends, use_from, same_ends, ends_back, ends_sides, two_only, corner_by_below, Crossing, across_back}

module _ {A : Type 0} where
  pub in_left : (x : A) (xs ys : List A) → In x xs → In x (xs ++ ys)
  in_left x [] ys i = absurd i
  in_left x (z ∷ zs) ys (inl e) = inl e
  in_left x (z ∷ zs) ys (inr i) = inr (in_left x zs ys i)

  pub in_right : (x : A) (xs ys : List A) → In x ys → In x (xs ++ ys)
  in_right x [] ys i = i
  in_right x (z ∷ zs) ys i = inr (in_right x zs ys i)

  pub in_cases : (x : A) (xs ys : List A) → In x (xs ++ ys) → In x xs ⊎ In x ys
  in_cases x [] ys i = inr i
  in_cases x (z ∷ zs) ys (inl e) = inl (inl e)
  in_cases x (z ∷ zs) ys (inr i) = ⊎_elim (λ j. inl (inr j)) (λ j. inr j) (in_cases x zs ys i)

-- the two links of uses that start on one vertex, and of uses that don't
abbrev straight : Use → Use → List Link
straight u v = record { one = u.corner; two = v.corner } ∷ record { one = u.next; two = v.next } ∷ []

abbrev crosswise : Use → Use → List Link
crosswise u v = record { one = u.corner; two = v.next } ∷ record { one = u.next; two = v.corner } ∷ []

module _ (J : Use → Bool) (us : List Use) (k : Link) where
  -- the links of the i-th of the uses vs
  abbrev links_nth : List Use → ℕ → List Link
  links_nth vs i = links_at J us (get_or vs i no_use) (mate_of us (get_or vs i no_use))

  links_nth_lem : (vs : List Use) → In k (links_from J us vs) → (i : ℕ) × (i < length vs) × In k (links_nth vs i)
  links_nth_lem [] h = absurd h
  links_nth_lem (u ∷ vs) h = go (in_cases k (links_at J us u (mate_of us u)) (links_from J us vs) h) (links_nth_lem vs)
    where
      go : In k (links_at J us u (mate_of us u)) ⊎ In k (links_from J us vs) → (In k (links_from J us vs) → (i : ℕ) × (i < length vs) × In k (links_nth vs i)) → (i : ℕ) × (i < suc (length vs)) × In k (links_nth (u ∷ vs) i)
      go (inl h) ih = (0, omega arith, h)
      go (inr h) ih = let r = ih h in (suc r.0, omega (arith, r.1), r.2)

  nth_links : (vs : List Use) (i : ℕ) → i < length vs → In k (links_nth vs i) → In k (links_from J us vs)
  nth_links [] i h m = absurd (omega arith)
  nth_links (u ∷ vs) zero h m = in_left k (links_at J us u (mate_of us u)) (links_from J us vs) m
  nth_links (u ∷ vs) (suc i) h m = in_right k (links_at J us u (mate_of us u)) (links_from J us vs) (nth_links vs i (omega arith) m)

  -- a use has links where its mate is another use, later and chosen
  links_of_lem : (u : Use) (m : Mate) → In k (links_at J us u m) → (f : ℕ) × (m ≡ other f) × (u.corner < f) × (J u ≡ true) × In k (links_of u (get_or us f no_use))
  links_of_lem u alone h = absurd h
  links_of_lem u many h = absurd h
  links_of_lem u (other f) h = go (ltb u.corner f) refl (J u) refl h
    where
      go : (a : Bool) → ltb u.corner f ≡ a → (b : Bool) → J u ≡ b → In k (cond (a && b) (links_of u (get_or us f no_use)) []) → (g : ℕ) × (other f ≡ other g) × (u.corner < g) × (J u ≡ true) × In k (links_of u (get_or us g no_use))
      go true p true q h = (f, refl, ltb-true u.corner f p, q, h)
      go true p false q h = absurd h
      go false p b q h = absurd h

module _ (J : Use → Bool) (l : List ℤ) (ok : Cornered l) where
  below : (e : ℕ) → Corner l e → e < length (uses l)
  below e h = omega (arith, uses_long l)

  -- the uses e and f are the only two of their edge
  module _ (e f : ℕ) (e_below : Corner l e) (mate : mate_of (uses l) (use_at l e) ≡ other f) where
    regular : Regular l e f
    regular = mate_regular l e f (below e e_below) mate

    f_below : Corner l f
    f_below = omega (arith, regular.below, uses_long l)

    ends : Ends l e f
    ends = ends_back l f e (same_ends l e f e_below f_below regular.same_edge)

    meets : J (use_at l e) ≡ true → e < f → (x y : ℕ) (s t : Side) → x ≡ corner_by l e s → y ≡ corner_by l f t → vertex_by l e s ≡ vertex_by l f t → Crossing J l x s y t
    meets chosen earlier x y s t x_is y_is p = record {
      across = record {
        one = e;
        two = f;
        one_below = e_below;
        two_below = f_below;
        differ = λ q. regular.differs (sym q);
        same_edge = regular.same_edge;
        two_faces = (mate_other l e (below e e_below)).0 (f, mate);
        x_is = x_is;
        y_is = y_is;
        same_vertex = ap (vertex_at l) x_is ∙ p ∙ ap (vertex_at l) (sym y_is);
      };
      made = rw (lt-ltb e f earlier) chosen;
    }

    link_of : (k : Link) → J (use_at l e) ≡ true → e < f → In k (links_of (use_at l e) (use_at l f)) → Met (Crossing J l) k.one k.two
    link_of k chosen earlier = go (eqb (use_at l e).from (use_at l f).from) refl
      where
        e_is : (use_at l e).corner ≡ e
        e_is = corner_at_lem l e (below e e_below)

        f_is : (use_at l f).corner ≡ f
        f_is = corner_at_lem l f regular.below

        from_same : (p : (use_at l e).from ≡ (use_at l f).from) → vertex_at l e ≡ vertex_at l f
        from_same p = sym (use_from l e e_below) ∙ p ∙ use_from l f f_below

        crossed : ((use_at l e).from ≡ (use_at l f).from → ⊥) → Ends l e f → vertex_at l e ≡ vertex_at l (next l f)
        crossed n (inl p) = absurd (n (use_from l e e_below ∙ p.0 ∙ sym (use_from l f f_below)))
        crossed n (inr p) = p.0

        ones : {j : Link} → k ≡ j → k.one ≡ j.one
        ones p = ap (λ (k : Link). k.one) p

        twos : {j : Link} → k ≡ j → k.two ≡ j.two
        twos p = ap (λ (k : Link). k.two) p

        go : (b : Bool) → eqb (use_at l e).from (use_at l f).from ≡ b → In k (cond b (straight (use_at l e) (use_at l f)) (crosswise (use_at l e) (use_at l f))) → Met (Crossing J l) k.one k.two
        go true q (inl p) =
            let v = from_same (eqb-true (use_at l e).from (use_at l f).from q) in
            (starts, starts, meets chosen earlier k.one k.two starts starts (ones p ∙ e_is) (twos p ∙ f_is) v)
        go true q (inr (inl p)) =
            let v = from_same (eqb-true (use_at l e).from (use_at l f).from q) in
            (stops, stops, meets chosen earlier k.one k.two stops stops (ones p) (twos p) (ends_sides l ok e f starts starts f_below ends v))
        go true q (inr (inr p)) = absurd p
        go false q (inl p) =
            let v = crossed (eqb-false (use_at l e).from (use_at l f).from q) ends in
            (starts, stops, meets chosen earlier k.one k.two starts stops (ones p ∙ e_is) (twos p) v)
        go false q (inr (inl p)) =
            let v = crossed (eqb-false (use_at l e).from (use_at l f).from q) ends in
            (stops, starts, meets chosen earlier k.one k.two stops starts (ones p) (twos p ∙ f_is) (ends_sides l ok e f starts stops f_below ends v))
        go false q (inr (inr p)) = absurd p

  link_meets : (k : Link) → In k (links J (uses l)) → Met (Crossing J l) k.one k.two
  unfolding links
  link_meets k i =
      let r = links_nth_lem J (uses l) k (uses l) i in
      let e = r.0 in
      let q = links_of_lem J (uses l) k (use_at l e) (mate_of (uses l) (use_at l e)) r.2 in
      link_of e q.0 (omega (arith, r.1, uses_long l)) q.1 k q.3 (omega (arith, q.2, corner_at_lem l e r.1)) q.4

  pub crossing_below : {x y : ℕ} {s t : Side} → Across l x s y t → Corner l x × Corner l y
  crossing_below {x} {y} {s} {t} a =
      (omega (arith, a.x_is, corner_by_below l ok a.one s a.one_below), omega (arith, a.y_is, corner_by_below l ok a.two t a.two_below))

  -- the link for the ends of e and f by their sides s and t
  link_by : (e f : ℕ) (s t : Side) → Corner l e → Corner l f → Ends l e f → vertex_by l e s ≡ vertex_by l f t → (k : Link) × In k (links_of (use_at l e) (use_at l f)) × (corner_by l e s ≡ k.one) × (corner_by l f t ≡ k.two)
  link_by e f s t e_below f_below ends = go s t
    where
      e_is : e ≡ (use_at l e).corner
      e_is = sym (corner_at_lem l e (below e e_below))

      f_is : f ≡ (use_at l f).corner
      f_is = sym (corner_at_lem l f (below f f_below))

      from_same : vertex_at l e ≡ vertex_at l f → eqb (use_at l e).from (use_at l f).from ≡ true
      from_same p = eq-eqb (use_at l e).from (use_at l f).from (use_from l e e_below ∙ p ∙ sym (use_from l f f_below))

      from_not : vertex_at l e ≡ vertex_at l (next l f) → eqb (use_at l e).from (use_at l f).from ≡ false
      from_not p =
          ne_eqb (use_at l e).from (use_at l f).from
          (λ q. ok.ends_differ f f_below (sym (use_from l f f_below) ∙ sym q ∙ use_from l e e_below ∙ p))

      go : (s t : Side) → vertex_by l e s ≡ vertex_by l f t → (k : Link) × In k (links_of (use_at l e) (use_at l f)) × (corner_by l e s ≡ k.one) × (corner_by l f t ≡ k.two)
      go starts starts p = rw (from_same p) (record { one = (use_at l e).corner; two = (use_at l f).corner }, inl refl, e_is, f_is)
      go starts stops p = rw (from_not p) (record { one = (use_at l e).corner; two = (use_at l f).next }, inl refl, e_is, refl)
      go stops starts p = rw (from_not (ends_sides l ok e f stops starts f_below ends p)) (record { one = (use_at l e).next; two = (use_at l f).corner }, inr (inl refl), refl, f_is)
      go stops stops p = rw (from_same (ends_sides l ok e f stops stops f_below ends p)) (record { one = (use_at l e).next; two = (use_at l f).next }, inr (inl refl), refl, refl)

  -- corners that meet, where x's use is the earlier one, are those of a link
  meets_link : {x y : ℕ} {s t : Side} (a : Across l x s y t) → J (use_at l a.one) ≡ true → a.one < a.two → Linking (links J (uses l)) x y
  unfolding links
  meets_link {x} {y} {s} {t} a chosen earlier =
      let e = a.one in
      let f = a.two in
      let h : e < length (uses l) = below e a.one_below in
      let r = (mate_other l e h).1 a.two_faces in
      let regular : Regular l e r.0 = mate_regular l e r.0 h r.1 in
      let g_below : Corner l r.0 = omega (arith, regular.below, uses_long l) in
      let ends : Ends l f e = same_ends l e f a.one_below a.two_below a.same_edge in
      let is_f : r.0 ≡ f = two_only l ok e r.0 f a.one_below g_below a.two_below a.two_faces (same_ends l e r.0 a.one_below g_below regular.same_edge) ends (λ p. regular.differs (sym p)) a.differ in
      let mate : mate_of (uses l) (use_at l e) ≡ other f = r.1 ∙ ap other is_f in
      let k = link_by e f s t a.one_below a.two_below (ends_back l f e ends) (ap (vertex_at l) (sym a.x_is) ∙ a.same_vertex ∙ ap (vertex_at l) a.y_is) in
      let tested : (ltb (use_at l e).corner f && J (use_at l e)) ≡ true = rw (corner_at_lem l e h, lt-ltb e f earlier) chosen in
      let there : In k.0 (links_at J (uses l) (use_at l e) (other f)) = rw tested k.1 in
      (k.0, nth_links J (uses l) k.0 (uses l) e h (rw mate there), a.x_is ∙ k.2, a.y_is ∙ k.3)

  abbrev pub group : ℕ → ℕ
  group x = label_at (groups_of_uses J (uses l)) x

  pub group_joined : (x y : ℕ) → Corner l x → Corner l y → group x ≡ group y → Joined (Met (Crossing J l)) x y
  group_joined x y h k = label_joined (length (uses l)) (links J (uses l)) (Met (Crossing J l)) each x y (below x h) (below y k)
    where
      each : Below (length (uses l)) (Met (Crossing J l)) (links J (uses l))
      each k i =
          let m = link_meets k i in
          let b = crossing_below m.2.across in
          (m, below k.one b.0, below k.two b.1)

  pub joined_group : {x y : ℕ} → Joined (Met (Crossing J l)) x y → group x ≡ group y
  unfolding across_back
  joined_group = joined_equal group (λ x y m. one m.2)
    where
      label : {x y : ℕ} → Linking (links J (uses l)) x y → group x ≡ group y
      label r = joined_label (length (uses l)) (links J (uses l)) (link r)

      one : {x y : ℕ} {s t : Side} → Crossing J l x s y t → group x ≡ group y
      one {x} {y} c = go (ltb c.across.one c.across.two) refl c.made
        where
          go : (b : Bool) → ltb c.across.one c.across.two ≡ b → cond b (J (use_at l c.across.one)) (J (use_at l c.across.two)) ≡ true → group x ≡ group y
          go true p chosen = label (meets_link c.across chosen (ltb-true c.across.one c.across.two p))
          go false p chosen = sym (label (meets_link (across_back l c.across) chosen (later (ltb-false c.across.one c.across.two p) c.across.differ)))
            where
              later : c.across.two ≤ c.across.one → (c.across.one ≡ c.across.two → ⊥) → c.across.two < c.across.one
              later q n = omega arith
