-- `Parents::join` meets its contract: the roots of the two corners are their labels, and the later one goes under the earlier as `merge` has it.
use mathlib.Core.Path.{refl}
use Rattle.groups.proofs.Joined.{regrouped_alone}
use Rattle.groups.proofs.parents.Parents.join.Goals as goal

pub returns : goal.returns
returns c =
    let R = regrouped_alone c.args.self.now.of.now c.args.x c.args.y c.root-a.result c.root-b.result c.requires.0 c.requires.1 c.root-a.ensures c.root-b.ensures in
    record { lent = refl; regrouped = rw (c.max-last.ensures, c.min.ensures) R }
