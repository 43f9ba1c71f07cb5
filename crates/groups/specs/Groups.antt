-- Links, and the groups of corners that they join (document 01, "Edges, fans and classes", 2 and 4).
--
--   Link               two corners on the same vertex that are joined
--   links_of u v       the links across the edge of the uses u and v: the two corners at one endpoint, and the two at the other
--   links J us         the links across the regular edges, each edge taken once, at its earlier use. J says which regular edges
--                      are joined
--   every_edge         all of them are
--   up_to c             0, 1, .. up to c-1
--   merge k labels     the link k replaces the larger of its two labels by the smaller, everywhere
--   labels_of c ks     the labels of c corners, at first their own numbers, after the links ks: equal for corners of one group,
--                      and then its earliest corner
--   group_labels l     the cut's groups: labels of the corners of l over all regular edges
--   fan_labels l       the fans: the same, whatever the cut joins
use Rattle.std.specs.Prelude.{ℕ, min, max, List, [], ◌∷◌, ◌++◌, map, Bool, true, cond, ◌&&◌, ltb, eqb, ℤ, length, get_or}
use Rattle.order.specs.Choose.{up_from}
use Rattle.mates.specs.Mates.{Mate, alone, other, many}
use Rattle.edges.specs.Uses.{Use, uses, mate_of, no_use}

pub record Link : Type 0 where
  pub one : ℕ
  pub two : ℕ

abbrev pub links_of : Use → Use → List Link
links_of u v =
    cond (eqb u.from v.from)
    (record { one = u.corner; two = v.corner } ∷ record { one = u.next; two = v.next } ∷ [])
    (record { one = u.corner; two = v.next } ∷ record { one = u.next; two = v.corner } ∷ [])

-- the links at the use u, whose mate is m
abbrev pub links_at : (Use → Bool) → List Use → Use → Mate → List Link
links_at J us u alone = []
links_at J us u (other f) = cond (ltb u.corner f && J u) (links_of u (get_or us f no_use)) []
links_at J us u many = []

-- the links at the uses vs, among the uses us
abbrev pub links_from : (Use → Bool) → List Use → List Use → List Link
links_from J us [] = []
links_from J us (u ∷ vs) = links_at J us u (mate_of us u) ++ links_from J us vs

unfoldable pub links : (Use → Bool) → List Use → List Link
links J us = links_from J us us

abbrev pub every_edge : Use → Bool
every_edge u = true

abbrev pub up_to : ℕ → List ℕ
up_to c = up_from 0 c

abbrev pub replaced : ℕ → ℕ → ℕ → ℕ
replaced from to x = cond (eqb x from) to x

abbrev pub merge : List ℕ → Link → List ℕ
merge labels k =
    let a = get_or labels k.one 0 in
    let b = get_or labels k.two 0 in
    map (replaced (max a b) (min a b)) labels

abbrev pub merge_all : List ℕ → List Link → List ℕ
merge_all labels [] = labels
merge_all labels (k ∷ ks) = merge_all (merge labels k) ks

unfoldable pub labels_of : ℕ → List Link → List ℕ
labels_of c ks = merge_all (up_to c) ks

abbrev pub groups_of_uses : (Use → Bool) → List Use → List ℕ
groups_of_uses J us = labels_of (length us) (links J us)

unfoldable pub group_labels : List ℤ → List ℕ
group_labels l = groups_of_uses every_edge (uses l)

unfoldable pub fan_labels : List ℤ → List ℕ
fan_labels l = groups_of_uses every_edge (uses l)
