-- `matching::meet_all` meets its contract: corner after corner meets, and in the end each has met all that have its key.
use Rattle.mates.proofs.Meeting.{Meeting}
use Rattle.mates.proofs.matching.meet_all.Given as goal

abbrev pub invariant-loop-i : goal.invariant-loop-i
invariant-loop-i g l = Meeting l.keys l.order l.i l.mates l.last l.singular
