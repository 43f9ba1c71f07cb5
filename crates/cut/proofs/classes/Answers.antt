-- `classes` meets its contract: each return is one outcome of `classes_answer`, and only the last has written.
use Rattle.std.proofs.Common.{arith, ◌∙◌}
use lib.Seq.{length-take-le}
use Rattle.groups.proofs.Grouping.{few_corners}
use Rattle.list.proofs.Passed.{list_valid}
use Rattle.cut.proofs.Answers.{classes_invalid, classes_room, classes_words, classes_done}
use Rattle.cut.proofs.classes.Goals as goal

pub returns-in_err-list : goal.returns-in_err-list
returns-in_err-list c =
    let p = classes_invalid c.args.list.now c.args.n c.args.classes.now c.args.work.now c.from_residual.result c.in_err-list.field-0.0 c.from_residual.ensures.1 c.in_err-list.ensures.told in
    record { answer = p.answer; bytes = p.bytes; cleared = p.cleared }

pub returns-then-classes-n : goal.returns-then-classes-n
returns-then-classes-n c =
    let list = c.in_ok-list.list in
    let p = classes_room c.args.list.now c.args.n c.args.classes.now c.args.work.now list.faces list.corners c.in_ok-list.ensures.told c.if-classes-n.true in
    record { answer = p.answer; bytes = p.bytes; cleared = p.cleared }

pub overflow_mul-words : goal.overflow_mul-words
overflow_mul-words c =
    let list = c.in_ok-list.list in
    omega (arith, few_corners list.entries.now list.vertices list.corners (list_valid list) list.corners_counted)

pub returns-then-work-words : goal.returns-then-work-words
returns-then-work-words c =
    let list = c.in_ok-list.list in
    let p = classes_words c.args.list.now c.args.n c.args.classes.now c.args.work.now list.faces list.corners c.in_ok-list.ensures.told c.if-classes-n.false c.if-work-words.true in
    record { answer = p.answer; bytes = p.bytes; cleared = p.cleared }

pub returns : goal.returns
returns c =
    let list = c.in_ok-list.list in
    let p = classes_done c.args.list.now c.args.n c.args.classes.now c.args.work.now list.faces list.corners c.in_ok-list.ensures.told c.if-classes-n.false c.if-work-words.false
    c.class_list.new.marks c.class_list.new.work (rw (c.in_ok-list.ensures.same.0, c.in_ok-list.ensures.same.1) at c.class_list.ensures.0)
    (c.class_list.auto.marks ∙ length-take-le c.args.n c.args.classes.now c.if-classes-n.false) c.class_list.ensures.1 in
    record { answer = p.answer; bytes = p.bytes; cleared = p.cleared }
