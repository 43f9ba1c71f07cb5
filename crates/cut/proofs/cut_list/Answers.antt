-- `cut_list` meets its contract: a list has few enough vertices for the greater table.
use Rattle.std.proofs.Common.{arith}
use Rattle.list.proofs.Passed.{list_valid}
use Rattle.cut.proofs.cut_list.Goals as goal

pub cut_groups-counts-requires-else-list-le-FEW_VERTICES : goal.cut_groups-counts-requires-else-list-le-FEW_VERTICES
cut_groups-counts-requires-else-list-le-FEW_VERTICES c =
    ((list_valid c.args.list).few_vertices, omega arith, c.group_list-singular_edges.ensures.0, c.group_list-singular_edges.ensures.1, c.requires.0, c.requires.1)

pub group_list-singular_edges-requires : goal.group_list-singular_edges-requires
group_list-singular_edges-requires c = (list_valid c.args.list, c.args.list.corners_counted, c.requires.2)
