-- `put_cut` meets its contract: the seven numbers are those of the cut's answer, and the two lists are the parts that the cut wrote.
use Rattle.std.proofs.Common.{sym, arith, length}
use lib.Seq.{length-take-le}
use Rattle.program.proofs.Cutting.{answer_told, parts_made, refusal_put, list_room, map_room, all_put}
use Rattle.program.proofs.put_cut.Goals as goal

pub returns-in_default : goal.returns-in_default
returns-in_default c =
    let told = answer_told c.requires c.vertex_count-n.ensures c.cut-answer.result c.cut-answer.ensures.answer in
    let both = refusal_put c.args.list.now c.in_default.field-0 (rw c.in_default.is at told) c.put_line-at.result c.args.output.now c.put_line-at.new.output
    (rw (c.numbers.ensures, c.in_default.is) at c.put_line-at.ensures.value.0) (rw (c.numbers.ensures, c.in_default.is) at c.put_line-at.ensures.output_after) in
    record { value = both.0; output_after = both.1 }

pub slice_bounds-put_list-end : goal.slice_bounds-put_list-end
slice_bounds-put_list-end c =
    sym (length-take-le (length c.args.list.now) c.cut-answer.new.new_list (omega (arith, c.cut-answer.auto.new_list, c.requires.few)))

pub put_list-end-requires : goal.put_list-end-requires
put_list-end-requires c =
    list_room (parts_made c.requires c.vertex_count-n.ensures c.in-Ok.made c.in-Ok.ensures.answer c.cut-answer.ensures.filled c.cut-answer.ensures.mapped c.cut-answer.auto.map) c.put_line-at.result c.put_line-at.ensures.value.1

pub slice_bounds-map-end : goal.slice_bounds-map-end
slice_bounds-map-end c =
    omega (arith, (parts_made c.requires c.vertex_count-n.ensures c.in-Ok.made c.in-Ok.ensures.answer c.cut-answer.ensures.filled c.cut-answer.ensures.mapped c.cut-answer.auto.map).vertices, c.cut-answer.auto.map)

pub slice_bounds-put_list-end-2 : goal.slice_bounds-put_list-end-2
slice_bounds-put_list-end-2 c =
    sym (length-take-le c.in-Ok.made.vertices c.cut-answer.new.map (omega (arith, (parts_made c.requires c.vertex_count-n.ensures c.in-Ok.made c.in-Ok.ensures.answer c.cut-answer.ensures.filled c.cut-answer.ensures.mapped c.cut-answer.auto.map).vertices, c.cut-answer.auto.map)))

pub put_list-requires : goal.put_list-requires
put_list-requires c =
    map_room (parts_made c.requires c.vertex_count-n.ensures c.in-Ok.made c.in-Ok.ensures.answer c.cut-answer.ensures.filled c.cut-answer.ensures.mapped c.cut-answer.auto.map) c.put_line-at.result c.put_line-at.ensures.value.1 c.put_list-end.ensures.value

pub returns : goal.returns
returns c =
    let w = parts_made c.requires c.vertex_count-n.ensures c.in-Ok.made c.in-Ok.ensures.answer c.cut-answer.ensures.filled c.cut-answer.ensures.mapped c.cut-answer.auto.map in
    let told = answer_told c.requires c.vertex_count-n.ensures c.cut-answer.result c.cut-answer.ensures.answer in
    let both = all_put w c.put_line-at.result c.put_line-at.ensures.value.1 c.put_list-end.ensures.value
    c.in-Ok.made (rw c.in-Ok.is at told) c.args.output.now
    (rw (c.numbers.ensures, c.in-Ok.is) at c.put_line-at.ensures.value.0) (rw (c.numbers.ensures, c.in-Ok.is) at c.put_line-at.ensures.output_after)
    c.put_list-end.ensures.output_after c.put_list.ensures.value c.put_list.ensures.output_after c.told-output in
    record { value = both.0; output_after = both.1 }
