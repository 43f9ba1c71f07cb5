-- The groups of a valid list made its new vertices: the map has the vertices of the roots, so that to go through it is to meet
-- every fan once, and the singular vertices are counted.
use Prim.Native.Nat.{ℕ, zero, suc, ◌+◌, ◌-◌, ◌*◌, ◌≤◌, ◌<◌}
use mathlib.Core.Path.{◌≡◌, refl, sym, ◌∙◌, ap}
use mathlib.Core.Bool.{Bool, true, false, cond}
use mathlib.Core.List.{List, [], ◌∷◌, map}
use native.Mathlib.Omega.{arith}
use lib.Dec.{eqb}
use lib.IntN.{ℤ, pos}
use lib.ListN.{length, get_or, take, drop, replicate, length-map, length-replicate, replicate-append-replicate, get_or-map}
use lib.Seq.{length-take-le, take_at}
use Rattle.list.specs.Faces.{num, vertices}
use Rattle.list.specs.declared.valid.ValidList.{ValidList}
use Rattle.list.proofs.Passed.{list_valid}
use Rattle.order.specs.Choose.{All, choose, count, up_from}
use Rattle.order.proofs.Lists.{all_at, choose_few, length-up_from}
use Rattle.groups.specs.Groups.{group_labels, fan_labels}
use Rattle.renumber.specs.Renumber.{map_of}
use Rattle.fans.specs.Classes.{class_of, classes_of, is_singular_class, singular_vertex_count}
use Rattle.groups.specs.Forest.{at, Forest, VertexWords, Grouped, is_root}
use Rattle.renumber.specs.Numbered.{CornerWords, root_vertices, Renumbered}
use Rattle.cut.specs.Made.{GroupsCut}
use Rattle.fans.specs.Marks.{roots_on, marks_end, boundary_word, singular_word}
use Rattle.fans.specs.Singular.{is_singular_mark, after_fans, NoneWhereZero, EndsCounted, FansCounted}
use Rattle.renumber.proofs.Sizes.{map-length}
use Rattle.renumber.proofs.Numbering.{map_of_roots}
use Rattle.fans.proofs.SingularCount.{mark_class, count_same}
use Rattle.fans.proofs.Classing.{classes_length, classes_at, grouped_class}
use Rattle.cut.proofs.Words.{words_of_groups, corner_words_lem}

-- m marks that are all 0, and the part for n vertices
abbrev pub zeros : ℕ → List ℕ
zeros m = replicate m 0

module _ (n m : ℕ) (h : n ≤ m) where
  pub lent_long : n ≡ length (take n (zeros m))
  lent_long = sym (length-take-le n (zeros m) (omega (arith, length-replicate {A = ℕ} m 0)))

  lent_zeros : take n (zeros m) ≡ zeros n
  lent_zeros =
      let rest : n + (m - n) ≡ m = omega arith in
      ap (λ (k : ℕ). take n (zeros k)) (sym rest) ∙ ap (take n) (sym (replicate-append-replicate n (m - n) 0)) ∙ take_at (zeros n) (zeros (m - n)) n (length-replicate n 0)

  pub lent_ends : (w : List ℕ) (c e : ℕ) → VertexWords w c n → NoneWhereZero w c e
      → VertexWords w c (length (take n (zeros m))) × (take n (zeros m) ≡ zeros (length (take n (zeros m)))) × NoneWhereZero w c e
  lent_ends w c e W z = rw (← lent_long) (W, lent_zeros, z)

-- the entries of vertices are those vertices
vertices_back : (vs : List ℕ) → vertices (map pos vs) ≡ vs
vertices_back [] = refl
vertices_back (v ∷ vs) = ap (λ (r : List ℕ). v ∷ r) (vertices_back vs)

module _ (w : List ℕ) (c : ℕ) where
  roots_few : (m s : ℕ) → length (root_vertices w c s m) ≤ m
  roots_few m s =
      omega (arith, length-map (choose (is_root w c) (up_from s m)) (λ (i : ℕ). at w (c + i)), choose_few (is_root w c) (up_from s m), length-up_from s m)

  roots_inside : (n m s : ℕ) → ((i : ℕ) → i < s + m → at w (c + i) < n) → All (λ (v : ℕ). v < n) (root_vertices w c s m)
  roots_inside n zero s f = tt
  roots_inside n (suc m) s f = go (is_root w c s) refl (roots_inside n m (suc s) (λ i h. f i (omega arith)))
    where
      go : (t : Bool) → is_root w c s ≡ t → All (λ (v : ℕ). v < n) (root_vertices w c (suc s) m) → All (λ (v : ℕ). v < n) (root_vertices w c s (suc m))
      go true d a = rw d (f s (omega arith), a)
      go false d a = rw d a

  -- a vertex is met as often as it has roots
  roots_on_lem : (v m s : ℕ) → count (eqb v) (root_vertices w c s m) ≡ roots_on w c v s m
  roots_on_lem v zero s = refl
  roots_on_lem v (suc m) s = go (is_root w c s) (eqb v (at w (c + s))) refl refl (roots_on_lem v m (suc s))
    where
      go : (t u : Bool) → is_root w c s ≡ t → eqb v (at w (c + s)) ≡ u → count (eqb v) (root_vertices w c (suc s) m) ≡ roots_on w c v (suc s) m → count (eqb v) (root_vertices w c s (suc m)) ≡ roots_on w c v s (suc m)
      go true true d e ih = rw (d, e) (ap suc ih)
      go true false d e ih = rw (d, e) ih
      go false u d e ih = rw d ih

-- the cut's groups are the fans
groups_are_fans : (l : List ℤ) → fan_labels l ≡ group_labels l
unfolding fan_labels group_labels
groups_are_fans l = refl

-- a list, and the work buffer in which its corners are grouped
module _ (list : ValidList) (w : List ℕ) (G : Grouped list.entries.now list.corners w) where
  abbrev l : List ℤ
  l = list.entries.now

  abbrev n : ℕ
  n = list.vertices

  abbrev c : ℕ
  c = list.corners

  pub marks_words : VertexWords w c n
  marks_words = words_of_groups l n c (list_valid list) list.corners_counted w G

  pub entry_words : CornerWords l c w
  entry_words = corner_words_lem l n c (list_valid list) list.corners_counted w G

  groups_forest : Forest w (3 * c) (group_labels l)
  groups_forest = rw (groups_are_fans l) at G.forest

  -- what the numbering of the groups made
  module _ (r : ℕ) (new_list old new : List ℤ) (numbered : (labels : List ℕ) → Forest w (3 * c) labels → Renumbered l labels r new_list old new) where
    R : Renumbered l (group_labels l) r new_list old new
    R = numbered (group_labels l) groups_forest

    map_long : length (map_of l (group_labels l)) ≡ r
    map_long = map-length l (group_labels l) ∙ sym R.count

    roots_are : map_of l (group_labels l) ≡ map pos (root_vertices w c 0 c)
    roots_are = map_of_roots l w c entry_words (group_labels l) groups_forest

    -- the map's part for the new vertices
    part_is : take r new ≡ map pos (root_vertices w c 0 c)
    part_is =
        ap (take r) R.back ∙ take_at (map_of l (group_labels l)) (drop (length (map_of l (group_labels l))) old) r map_long ∙ roots_are

    pub part_few : r ≤ c
    part_few = omega (arith, map_long, ap length roots_are, length-map (root_vertices w c 0 c) pos, roots_few w c c 0)

    pub part_inside : (i : ℕ) → i < length (take r new) → num (get_or (take r new) i (pos 0)) < n
    part_inside = rw part_is inside
      where
        inside : (i : ℕ) → i < length (map pos (root_vertices w c 0 c)) → num (get_or (map pos (root_vertices w c 0 c)) i (pos 0)) < n
        inside i h =
            rw (get_or-map pos (root_vertices w c 0 c) i 0)
            (all_at (λ (v : ℕ). v < n) 0 (root_vertices w c 0 c) (roots_inside w c n c 0 (λ j k. marks_words.inside j (omega arith))) i (omega (arith, length-map (root_vertices w c 0 c) pos)))

    module _ (xs ys : List ℕ) (s t : ℕ) (long : length xs ≡ n) (kept : length ys ≡ length xs) (E : EndsCounted w c xs s) (F : FansCounted (vertices (take r new)) xs ys t) where
      pub points_few : s + t ≤ n
      points_few = omega (arith, E.counted, F.counted, choose_few is_singular_mark ys)

      met : (v : ℕ) → count (eqb v) (vertices (take r new)) ≡ roots_on w c v 0 c
      met v = ap (λ (es : List ℤ). count (eqb v) (vertices es)) part_is ∙ ap (count (eqb v)) (vertices_back (root_vertices w c 0 c)) ∙ roots_on_lem w c v c 0

      same_class : (v : ℕ) → v < n → is_singular_mark (at ys v) ≡ is_singular_class (class_of l v)
      same_class v h =
          let mark : at ys v ≡ after_fans (roots_on w c v 0 c) (cond (marks_end (singular_word c) w c v 0 c) 2 0) = F.marked v (omega arith) ∙ rw (met v, E.marked v (omega arith)) in
          ap is_singular_mark mark ∙
          mark_class (roots_on w c v 0 c) (marks_end (singular_word c) w c v 0 c) (marks_end boundary_word w c v 0 c) ∙
          ap is_singular_class (grouped_class l c w G v)

      points_are : s + t ≡ singular_vertex_count l n
      unfolding singular_vertex_count
      points_are =
          let all : s + t ≡ count is_singular_mark ys = omega (arith, E.counted, F.counted) in
          all ∙
          count_same is_singular_mark is_singular_class ys (classes_of l n) (kept ∙ long ∙ sym (classes_length l n))
          (λ v i. same_class v (omega arith) ∙ ap is_singular_class (sym (classes_at l n v (omega arith))))

      pub groups_cut : GroupsCut l n r (s + t) new_list old new
      groups_cut = record { renumbered = R; points_are = points_are }
