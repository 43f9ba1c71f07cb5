-- `cut_groups` meets its contract: the map of the groups has the vertex of every fan.
use Rattle.std.proofs.Common.{◌∙◌, sym, arith}
use lib.Seq.{length-take-le}
use Rattle.fans.proofs.NoSingular.{none_where_zero}
use Rattle.list.proofs.Passed.{list_valid}
use Rattle.cut.proofs.Cutting.{lent_long, lent_ends, marks_words, entry_words, part_few, part_inside, points_few, groups_cut}
use Rattle.cut.proofs.cut_groups.Goals as goal

pub whole_as_front-marks : goal.whole_as_front-marks
whole_as_front-marks g c = (c.requires.0, omega (arith, c.requires.1))

pub singular_ends-ends-requires : goal.singular_ends-ends-requires
singular_ends-ends-requires g c =
    let list = c.args.list in
    let w = c.args.work.now in
    lent_ends list.vertices g.row.MOST c.requires.0 w list.corners c.args.singular_edges (marks_words list w c.requires.2)
    (none_where_zero list.entries.now list.corners w c.args.singular_edges c.requires.2 c.requires.3)

pub renumber-vertices-requires : goal.renumber-vertices-requires
renumber-vertices-requires g c = (entry_words c.args.list c.args.work.now c.requires.2, c.requires.4, c.requires.5)

pub slice_bounds-count_fans-end : goal.slice_bounds-count_fans-end
slice_bounds-count_fans-end g c =
    let few = part_few c.args.list c.args.work.now c.requires.2 c.renumber-vertices.result c.renumber-vertices.new.new_list c.args.map.now c.renumber-vertices.new.map c.renumber-vertices.ensures in
    omega (arith, few, c.renumber-vertices.auto.map, c.requires.5)

pub slice_bounds-count_fans-end-2 : goal.slice_bounds-count_fans-end-2
slice_bounds-count_fans-end-2 g c =
    let few = part_few c.args.list c.args.work.now c.requires.2 c.renumber-vertices.result c.renumber-vertices.new.new_list c.args.map.now c.renumber-vertices.new.map c.renumber-vertices.ensures in
    sym (length-take-le c.renumber-vertices.result c.renumber-vertices.new.map (omega (arith, few, c.renumber-vertices.auto.map, c.requires.5)))

pub count_fans-fans-requires : goal.count_fans-fans-requires
count_fans-fans-requires g c =
    let inside = part_inside c.args.list c.args.work.now c.requires.2 c.renumber-vertices.result c.renumber-vertices.new.new_list c.args.map.now c.renumber-vertices.new.map c.renumber-vertices.ensures in
    λ i h. omega (arith, inside i h, c.singular_ends-ends.auto.marks, lent_long c.args.list.vertices g.row.MOST c.requires.0)

pub overflow_add-result : goal.overflow_add-result
overflow_add-result g c =
    let list = c.args.list in
    let few = points_few list c.args.work.now c.requires.2 c.renumber-vertices.result c.renumber-vertices.new.new_list c.args.map.now c.renumber-vertices.new.map c.renumber-vertices.ensures
    c.singular_ends-ends.new.marks c.count_fans-fans.new.marks c.singular_ends-ends.result c.count_fans-fans.result (c.singular_ends-ends.auto.marks ∙ sym (lent_long list.vertices g.row.MOST c.requires.0)) c.count_fans-fans.auto.marks
    c.singular_ends-ends.ensures c.count_fans-fans.ensures in
    omega (arith, few, (list_valid list).few_vertices)

pub returns : goal.returns
returns g c =
    let list = c.args.list in
    groups_cut list c.args.work.now c.requires.2 c.renumber-vertices.result c.renumber-vertices.new.new_list c.args.map.now c.renumber-vertices.new.map c.renumber-vertices.ensures
    c.singular_ends-ends.new.marks c.count_fans-fans.new.marks c.singular_ends-ends.result c.count_fans-fans.result (c.singular_ends-ends.auto.marks ∙ sym (lent_long list.vertices g.row.MOST c.requires.0)) c.count_fans-fans.auto.marks
    c.singular_ends-ends.ensures c.count_fans-fans.ensures
