-- `class_list` meets its contract: the marks over the groups of a list are its classes.
use Rattle.list.proofs.Passed.{list_valid}
use Rattle.cut.proofs.Words.{words_of_groups}
use Rattle.cut.proofs.class_list.Goals as goal

pub mark-requires : goal.mark-requires
mark-requires c =
    let l = c.args.list in
    rw c.requires.0 (words_of_groups l.entries.now l.vertices l.corners (list_valid l) l.corners_counted c.group_list.new.work c.group_list.ensures.0)

pub group_list-requires : goal.group_list-requires
group_list-requires c = (list_valid c.args.list, c.args.list.corners_counted, c.requires.1)
