-- A face with no entry outside is fit for the search for repeats; the returns are `fault_told`.
use Rattle.list.specs.Check.{first_outside}
use Rattle.list.proofs.First.{place_none}
use Rattle.list.proofs.Faults.{inside_natural, inside_clear}
use Rattle.list.proofs.rules.check_face.Goals as goal

pub repeat_by_looking-repeat-requires : goal.repeat_by_looking-repeat-requires
repeat_by_looking-repeat-requires c =
    let r = c.args.face.now in
    inside_natural c.args.n r (place_none r (first_outside c.args.n r) c.in_default.ensures) c.requires.0

pub repeat_by_flags-repeat-requires : goal.repeat_by_flags-repeat-requires
repeat_by_flags-repeat-requires c =
    let r = c.args.face.now in
    inside_clear c.args.n r c.args.flags.now (place_none r (first_outside c.args.n r) c.in_default.ensures) c.requires.1.each c.requires.1.some c.requires.1.zeros
