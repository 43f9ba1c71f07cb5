-- `matching::last_before` meets its contract: a corner noted at the vertex that has the key is the last with it, and where the one
-- noted has another key none was met.
use Rattle.std.proofs.Common.{◌∙◌}
use Rattle.mates.proofs.Meeting.{look_hit, look_miss}
use Rattle.mates.proofs.matching.last_before.Goals as goal

pub returns-then-keys-m-clause-last : goal.returns-then-keys-m-clause-last
returns-then-keys-m-clause-last c =
    c.from-m.ensures ∙ look_hit _ _ _ _ c.requires.0 c.requires.1 c.higher_of-d.result c.higher_of-d.ensures (rw c.from-m.ensures at c.if-keys-m.true)

pub returns-else-keys-m-clause-last : goal.returns-else-keys-m-clause-last
returns-else-keys-m-clause-last c = look_miss _ _ _ _ c.requires.0 c.requires.1 c.higher_of-d.result c.higher_of-d.ensures (rw c.from-m.ensures at c.if-keys-m.false)
