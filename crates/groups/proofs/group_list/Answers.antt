-- `group_list` meets its contract: the groups of the edge table of a list are the fans of the list.
use mathlib.Core.Path.{◌∙◌}
use Rattle.groups.proofs.Grouping.{few_corners, words_of_table, grouped_of_table}
use Rattle.groups.proofs.group_list.Goals as goal

pub group-requires : goal.group-requires
group-requires c =
    (words_of_table c.args.list.now c.args.n c.args.c c.requires.0 c.requires.1 c.edge_table-singular.new.work c.edge_table-singular.ensures.table, few_corners c.args.list.now c.args.n c.args.c c.requires.0 c.requires.1)

pub returns : goal.returns
returns c =
    (grouped_of_table c.args.list.now c.args.n c.args.c c.requires.0 c.requires.1 c.edge_table-singular.new.work c.edge_table-singular.ensures.table c.group.new.w (c.group.auto.w ∙ c.edge_table-singular.auto.work ∙ c.requires.2) c.group.ensures, c.edge_table-singular.ensures.singular)
