-- What the cut of a valid list makes, in two steps. Only the contracts of private functions speak of it.
--
--   GroupsCut          what is made of the groups of a list with n vertices: the new list, the map and two counts of vertices
--   CutMade            what is made of a valid list with so many faces and corners: the counts, the new list, the map and the cleared work
use Rattle.std.specs.Prelude.{ℕ, ◌*◌, ◌≡◌, List, ℤ, replicate}
use Rattle.edges.specs.Uses.{singular_edge_count}
use Rattle.groups.specs.Groups.{group_labels}
use Rattle.fans.specs.Classes.{singular_vertex_count}
use Rattle.renumber.specs.Renumber.{new_list_of, new_vertices, map_of}
use Rattle.list.specs.Written.{over}
use Rattle.renumber.specs.Numbered.{Renumbered}
use Rattle.cut.specs.declared.answer.Cut.{Cut}

pub record GroupsCut (l : List ℤ) (n vertices points : ℕ) (new_list map map' : List ℤ) : Type 0 where
  pub renumbered : Renumbered l (group_labels l) vertices new_list map map'
  pub points_are : points ≡ singular_vertex_count l n

pub record CutMade (l : List ℤ) (n faces corners : ℕ) (counts : Cut) (new_list map map' : List ℤ) (work : List ℕ) : Type 0 where
  pub list : new_list ≡ new_list_of l (group_labels l)
  pub back : map' ≡ over (map_of l (group_labels l)) map
  pub cleared : work ≡ replicate (4 * corners) 0
  pub faces_are : counts.faces ≡ faces
  pub corners_are : counts.corners ≡ corners
  pub vertices_are : counts.vertices ≡ new_vertices (group_labels l)
  pub edges_are : counts.singular_edges ≡ singular_edge_count l
  pub points_are : counts.singular_vertices ≡ singular_vertex_count l n
