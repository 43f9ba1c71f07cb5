-- `cut` meets its contract: each return is one outcome of `cut_of`, and only the last has written.
use Rattle.std.proofs.Common.{arith, ◌∙◌, ap, length}
use lib.Seq.{length-take-le}
use Rattle.groups.proofs.Grouping.{few_corners}
use Rattle.list.proofs.Passed.{list_valid}
use Rattle.cut.proofs.Answers.{cut_invalid, cut_list_room, cut_map_room, cut_words, cut_done}
use Rattle.cut.proofs.cut.Goals as goal

pub returns-in_err-list : goal.returns-in_err-list
returns-in_err-list c =
    let p = cut_invalid c.args.list.now c.args.n c.args.new_list.now c.args.map.now c.args.work.now c.from_residual.result c.in_err-list.field-0.0 c.from_residual.ensures.1 c.in_err-list.ensures.told in
    record { answer = p.answer; filled = p.filled; mapped = p.mapped; cleared = p.cleared }

pub returns-then-new_list-size : goal.returns-then-new_list-size
returns-then-new_list-size c =
    let list = c.in_ok-list.list in
    let same = c.in_ok-list.ensures.same in
    let p = cut_list_room c.args.list.now c.args.n c.args.new_list.now c.args.map.now c.args.work.now list.faces list.corners c.in_ok-list.ensures.told (rw same.0 at c.if-new_list-size.true) in
    rw same.0 (record { answer = p.answer; filled = p.filled; mapped = p.mapped; cleared = p.cleared })

pub returns-then-map-c : goal.returns-then-map-c
returns-then-map-c c =
    let list = c.in_ok-list.list in
    let same = c.in_ok-list.ensures.same in
    let p = cut_map_room c.args.list.now c.args.n c.args.new_list.now c.args.map.now c.args.work.now list.faces list.corners c.in_ok-list.ensures.told (rw same.0 at c.if-new_list-size.false) c.if-map-c.true in
    record { answer = p.answer; filled = p.filled; mapped = p.mapped; cleared = p.cleared }

pub overflow_mul-words : goal.overflow_mul-words
overflow_mul-words c =
    let list = c.in_ok-list.list in
    omega (arith, few_corners list.entries.now list.vertices list.corners (list_valid list) list.corners_counted)

pub returns-then-work-words : goal.returns-then-work-words
returns-then-work-words c =
    let list = c.in_ok-list.list in
    let same = c.in_ok-list.ensures.same in
    let p = cut_words c.args.list.now c.args.n c.args.new_list.now c.args.map.now c.args.work.now list.faces list.corners c.in_ok-list.ensures.told (rw same.0 at c.if-new_list-size.false) c.if-map-c.false c.if-work-words.true in
    record { answer = p.answer; filled = p.filled; mapped = p.mapped; cleared = p.cleared }

pub returns : goal.returns
returns c =
    let list = c.in_ok-list.list in
    let same = c.in_ok-list.ensures.same in
    let room = rw same.0 at c.if-new_list-size.false in
    let p = cut_done c.args.list.now c.args.n c.args.new_list.now c.args.map.now c.args.work.now list.faces list.corners c.in_ok-list.ensures.told room c.if-map-c.false c.if-work-words.false
    c.cut_list.result c.cut_list.new.new_list c.cut_list.new.map c.cut_list.new.work (rw (same.0, same.1) at c.cut_list.ensures)
    (c.cut_list.auto.new_list ∙ length-take-le (length list.entries.now) c.args.new_list.now c.if-new_list-size.false ∙ ap length same.0) in
    rw same.0 (record { answer = p.answer; filled = p.filled; mapped = p.mapped; cleared = p.cleared })
