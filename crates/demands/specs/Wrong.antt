-- The wrong programs that document 01 names ("How much a contract has to say" and "Errors that look reasonable"), as definitions over a
-- list, its vertex count and the lent buffers.
--
--   Outcome            what a cut leaves: its answer, the new list's and the map's buffer
--   Program            a cut: its outcome for every list, vertex count, new list, map and work
--   asked              the outcome that the contract asks for
--   Meets p            the program p meets the contract
--   by_labels f        the cut that groups the corners by the labels f gives
--   refuses_all, fixed_answer, writes_nothing, plain_copy, vertex_per_corner, first_edge_only, made_up_counts, tears_singular,
--   copies_at_singular, opposite_only, one_endpoint, first_two_of_three  the twelve
use Rattle.std.specs.Prelude.{ℕ, ◌+◌, ◌≡◌, List, [], ◌∷◌, ◌++◌, map, Bool, false, cond, not, ◌||◌, eqb, ℤ, pos, length, get_or, take}
use Rattle.list.specs.Check.{check_of}
use Rattle.mates.specs.Mates.{Mate, alone, other, many}
use Rattle.edges.specs.Uses.{Use, uses, uses_on, corners_of, is_singular, singular_edge_count, mate_of, no_use}
use Rattle.groups.specs.Groups.{Link, links_of, links, every_edge, up_to, labels_of, group_labels}
use Rattle.renumber.specs.Renumber.{new_list_of, new_vertices, map_of}
use Rattle.fans.specs.Classes.{ends_edge, singular_vertex_count}
use Rattle.list.specs.Written.{over}
use Rattle.cut.specs.Cut.{cut_of, cut_list, cut_map, cut_refused}
use Rattle.cut.specs.Cut.{CutAnswer}

pub record Outcome : Type 0 where
  pub answer : CutAnswer
  pub new_list : List ℤ
  pub new_map : List ℤ

abbrev pub Program : Type 0
Program = List ℤ → ℕ → List ℤ → List ℤ → List ℕ → Outcome

abbrev pub asked : Program
asked l n a b w =
    record { answer = cut_of l n (length a) (length b) (length w); new_list = cut_list l n a b w; new_map = cut_map l n a b w }

abbrev pub Meets : Program → Type 0
Meets p = (l : List ℤ) (n : ℕ) (a b : List ℤ) (w : List ℕ) → p l n a b w ≡ asked l n a b w

-- the seven numbers with that many new vertices
abbrev pub numbers_with : List ℤ → ℕ → ℕ → CutAnswer
numbers_with l n vertices =
    record {
      code = 0;
      place = 0;
      faces = (check_of l n).faces;
      corners = (check_of l n).corners;
      vertices = vertices;
      singular_edges = singular_edge_count l;
      singular_vertices = singular_vertex_count l n;
    }

abbrev pub by_labels : (List ℤ → List ℕ) → Program
by_labels labels l n a b w =
    record { answer = numbers_with l n (new_vertices (labels l)); new_list = over (new_list_of l (labels l)) a; new_map = over (map_of l (labels l)) b }

-- refuses all
abbrev pub refuses_all : Program
refuses_all l n a b w = record { answer = cut_refused 1 0; new_list = a; new_map = b }

-- a fixed answer, whatever it is
abbrev pub fixed_answer : CutAnswer → Program
fixed_answer r l n a b w = record { answer = r; new_list = (asked l n a b w).new_list; new_map = (asked l n a b w).new_map }

-- writes nothing
abbrev pub writes_nothing : Program
writes_nothing l n a b w = record { answer = (asked l n a b w).answer; new_list = a; new_map = b }

-- copies the input with a plain map
abbrev pub plain_copy : Program
plain_copy l n a b w = record { answer = numbers_with l n n; new_list = over l a; new_map = over (map pos (up_to n)) b }

-- one vertex per corner
abbrev pub vertex_per_corner : Program
vertex_per_corner = by_labels (λ l. up_to (length (uses l)))

-- joins over the first regular edge, and then only seems to go on
abbrev pub first_edge_only : Program
first_edge_only = by_labels (λ l. labels_of (length (uses l)) (take 2 (links every_edge (uses l))))

-- makes up the counts
abbrev pub made_up_counts : ℕ → ℕ → ℕ → ℕ → ℕ → Program
made_up_counts faces corners vertices edges singular l n a b w =
    record {
      answer = record {
        code = 0;
        place = 0;
        faces = faces;
        corners = corners;
        vertices = vertices;
        singular_edges = edges;
        singular_vertices = singular;
      };
      new_list = (asked l n a b w).new_list;
      new_map = (asked l n a b w).new_map;
    }

abbrev pub of_edges : (List Use → Use → Bool) → Program
of_edges joined = by_labels (λ l. labels_of (length (uses l)) (links (joined (uses l)) (uses l)))

-- tears every singular edge open: joins nothing at its endpoints
abbrev pub tears_singular : Program
tears_singular = of_edges (λ us u. not (ends_edge is_singular us u.from || ends_edge is_singular us u.to))

-- copies a vertex only when it ends a singular edge: the corners of any other stay one vertex, under a label of its own
abbrev pub copies_at_singular : Program
copies_at_singular = by_labels labels
  where
    pick : List Use → List Use → List ℕ → List ℕ
    pick us [] ks = []
    pick us (u ∷ vs) [] = []
    pick us (u ∷ vs) (k ∷ ks) = let rest = pick us vs ks in cond (ends_edge is_singular us u.from) k (length us + u.from) ∷ rest

    labels : List ℤ → List ℕ
    labels l = pick (uses l) (uses l) (group_labels l)

-- pairs edges only when the faces run opposite ways
abbrev pub opposite_only : Program
opposite_only = of_edges opposite
  where
    runs_back : List Use → Use → Mate → Bool
    runs_back us u alone = false
    runs_back us u (other f) = not (eqb u.from (get_or us f no_use).from)
    runs_back us u many = false

    opposite : List Use → Use → Bool
    opposite us u = runs_back us u (mate_of us u)

-- joins corners at one endpoint of an edge and leaves the other
abbrev pub one_endpoint : Program
one_endpoint = by_labels (λ l. labels_of (length (uses l)) (every_second (links every_edge (uses l))))
  where
    every_second : List Link → List Link
    every_second [] = []
    every_second (k ∷ []) = k ∷ []
    every_second (k ∷ j ∷ ks) = k ∷ every_second ks

-- pairs the first two faces of a three-face edge
abbrev pub first_two_of_three : Program
first_two_of_three = by_labels (λ l. labels_of (length (uses l)) (paired (uses l) (uses l)))
  where
    pair_of : List Use → Use → List ℕ → List Link
    pair_of us u [] = []
    pair_of us u (x ∷ []) = []
    pair_of us u (x ∷ y ∷ zs) = cond (eqb x u.corner) (links_of u (get_or us y no_use)) []

    paired : List Use → List Use → List Link
    paired us [] = []
    paired us (u ∷ vs) = pair_of us u (corners_of (uses_on us u.from u.to)) ++ paired us vs
