-- `make` meets its contract: a list that the check accepts is valid, and the check counts its corners.
use Rattle.std.proofs.Common.{◌∙◌, ◌*◌, ap, arith, length-take-le}
use Rattle.list.proofs.Passed.{list_valid}
use Rattle.edges_bench.proofs.make.Goals as goal

pub edge_table-singular-requires : goal.edge_table-singular-requires
edge_table-singular-requires c =
    let list = c.in_ok-list.list in
    (list_valid list, length-take-le (4 * list.corners) c.args.work.now (omega arith) ∙ ap (λ k. 4 * k) list.corners_counted)
