-- `join_across` meets its contract: whether the two uses run the same way decides which corners lie on one endpoint, as in `links_across`.
use mathlib.Core.Path.{sym, ◌∙◌}
use Rattle.groups.proofs.Joined.{across_same, across_opposite}
use Rattle.groups.proofs.join_across.Goals as goal

pub returns-then-vertex : goal.returns-then-vertex
returns-then-vertex c =
    let lent = c.join-then-vertex.ensures.lent ∙ c.join.ensures.lent in
    let R = across_same c.args.table.words.now c.args.parents.now.of.now c.join.new.self.of.now c.join-then-vertex.new.self.of.now 0 c.args.table.corners c.args.e c.args.m
    (sym c.vertex.ensures ∙ c.if-vertex.true ∙ c.vertex-2.ensures) c.join.ensures.regrouped (rw (c.next-f.ensures, c.next-g.ensures) at c.join-then-vertex.ensures.regrouped) in
    record { lent = lent; regrouped = R }

pub returns-else-vertex : goal.returns-else-vertex
returns-else-vertex c =
    let lent = c.join-else-vertex-2.ensures.lent ∙ c.join-else-vertex.ensures.lent in
    let R = across_opposite c.args.table.words.now c.args.parents.now.of.now c.join-else-vertex.new.self.of.now c.join-else-vertex-2.new.self.of.now 0 c.args.table.corners c.args.e c.args.m
    (λ q. c.if-vertex.false (c.vertex.ensures ∙ q ∙ sym c.vertex-2.ensures)) (rw c.next-g.ensures at c.join-else-vertex.ensures.regrouped) (rw c.next-f.ensures at c.join-else-vertex-2.ensures.regrouped) in
    record { lent = lent; regrouped = R }
