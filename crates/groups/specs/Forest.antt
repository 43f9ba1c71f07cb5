-- The work buffer of c corners: four blocks of c words, the three of the edge table and one of parents, by which it holds groups;
-- and what the passes over it leave. No contract of the cut or of the class call speaks of it.
--
--   at w i             the word at i
--   link x y           the link between the corners x and y
--   Forest w p labels  the parents from p on are those of groups with these labels: a parent is in its child's group and not after
--                      it, and a corner that is its own parent is its group's label
--   Descends w p       no parent from p on is after its child
--   Rises w p x r      r is reached from x by going from child to parent
--   Climbs w p x r     r is reached from x by going from child to parent, and has no earlier parent
--   Regrouped w w' p g  from p on w has become w', as long, and where it held groups with some labels, it holds those with g of them
--   TableWords w c     four blocks, and each next corner is a corner
--   VertexWords w c n  the same, with few corners, and all vertices below n
--   is_root w c i      corner i has no earlier parent
--   Grouped l c w      w holds the edge table of the list l and the parents of its fans
--   later_mate_of w c e  the later corner with which e alone shares its edge, where there is one
--   links_across       the links across an edge whose two uses start at two corners, from the words of the edge table
--   links_at_corner    the links at a corner, the earlier of the two
--   table_links w c    the links of the edge table in w
use Rattle.std.specs.Prelude.{ℕ, zero, suc, ◌+◌, ◌*◌, ◌≤◌, ◌<◌, ◌^◌, ◌≡◌, List, [], ◌∷◌, ◌++◌, Bool, cond, ◌&&◌, leb, ltb, eqb, Option, Some, None, ℤ, length, get_or, take}
use Rattle.edges.specs.Uses.{uses}
use Rattle.edges.specs.Table.{table_of}
use Rattle.groups.specs.Groups.{Link, fan_labels}

abbrev pub at : List ℕ → ℕ → ℕ
at w i = get_or w i 0

abbrev pub link : ℕ → ℕ → Link
link x y = record { one = x; two = y }

pub record Forest (w : List ℕ) (p : ℕ) (labels : List ℕ) : Type 0 where
  pub long : length w ≡ p + length labels
  pub down : (i : ℕ) → i < length labels → at w (p + i) ≤ i
  pub same : (i : ℕ) → i < length labels → at labels (at w (p + i)) ≡ at labels i
  pub root : (i : ℕ) → i < length labels → at w (p + i) ≡ i → at labels i ≡ i

abbrev pub Descends : List ℕ → ℕ → Type 0
Descends w p = (i : ℕ) → p + i < length w → at w (p + i) ≤ i

pub record Rises (w : List ℕ) (p x r : ℕ) : Type 0 where
  pub below : r ≤ x
  pub along : (f : ℕ → ℕ) → ((i : ℕ) → p + i < length w → f (at w (p + i)) ≡ f i) → f r ≡ f x

pub record Climbs (w : List ℕ) (p x r : ℕ) : Type 0 where
  pub rises : Rises w p x r
  pub stops : r ≤ at w (p + r)

pub record Regrouped (w w' : List ℕ) (p : ℕ) (g : List ℕ → List ℕ) : Type 0 where
  pub long : length w' ≡ length w
  pub front : take p w' ≡ take p w
  pub down : Descends w p → Descends w' p
  pub groups : (labels : List ℕ) → Forest w p labels → Forest w' p (g labels)

pub record TableWords (w : List ℕ) (c : ℕ) : Type 0 where
  pub long : length w ≡ 4 * c
  pub nexts : (e : ℕ) → e < c → at w e < c

pub record VertexWords (w : List ℕ) (c n : ℕ) : Type 0 where
  pub table : TableWords w c
  pub few : c < 2 ^ 30
  pub inside : (e : ℕ) → e < c → at w (c + e) < n

abbrev pub is_root : List ℕ → ℕ → ℕ → Bool
is_root w c i = leb i (at w (3 * c + i))

pub record Grouped (l : List ℤ) (c : ℕ) (w : List ℕ) : Type 0 where
  pub count : c ≡ length (uses l)
  pub size : length w ≡ 4 * c
  pub front : take (3 * c) w ≡ take (3 * c) (table_of l)
  pub forest : Forest w (3 * c) (fan_labels l)

abbrev pub later_mate_of : List ℕ → ℕ → ℕ → Option ℕ
later_mate_of w c e = cond (ltb e (at w (2 * c + e)) && ltb (at w (2 * c + e)) c) (Some (at w (2 * c + e))) None

abbrev pub links_across : List ℕ → ℕ → ℕ → ℕ → List Link
links_across w c e m =
    cond (eqb (at w (c + e)) (at w (c + m)))
    (link e m ∷ link (at w e) (at w m) ∷ [])
    (link e (at w m) ∷ link (at w e) m ∷ [])

abbrev pub links_at_corner : List ℕ → ℕ → ℕ → List Link
links_at_corner w c e = cond (ltb e (at w (2 * c + e)) && ltb (at w (2 * c + e)) c) (links_across w c e (at w (2 * c + e))) []

-- those at n corners from e on
abbrev pub links_from_corner : List ℕ → ℕ → ℕ → ℕ → List Link
links_from_corner w c e zero = []
links_from_corner w c e (suc n) = links_at_corner w c e ++ links_from_corner w c (suc e) n

unfoldable pub table_links : List ℕ → ℕ → List Link
table_links w c = links_from_corner w c 0 c
