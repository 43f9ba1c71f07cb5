-- `faces_on` meets its contract: after the check's refusal comes that of the pair, and then the count is asked for.
use Rattle.std.proofs.Common.{◌≡◌, None, Some, arith}
use Rattle.std.proofs.lemmas.Int.{to_z-of_z}
use Rattle.list.specs.Check.{check_of}
use Rattle.edges.specs.Table.{pair_of}
use Rattle.edges.proofs.Question.{edge_no_pair, edge_counted}
use Rattle.edges.proofs.faces_on.Goals as goal

pub returns-in_err-a : goal.returns-in_err-a
returns-in_err-a c =
    let accepted : (check_of c.args.list.now c.args.n).code ≡ 0 = grind arith in
    let none : pair_of c.args.n c.args.a c.args.b ≡ None = grind (arith, to_z-of_z) in
    grind (arith, edge_no_pair c.args.list.now c.args.n c.args.a c.args.b accepted none)

pub returns : goal.returns
returns c =
    let accepted : (check_of c.args.list.now c.args.n).code ≡ 0 = grind arith in
    let some : pair_of c.args.n c.args.a c.args.b ≡ Some (c.in_ok-a.a, c.in_ok-a.b) = grind (arith, to_z-of_z) in
    rw c.count_faces.ensures (edge_counted c.args.list.now c.args.n c.args.a c.args.b accepted _ _ some)
