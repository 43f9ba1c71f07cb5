use Rattle.std.proofs.Common.{arith}
use Rattle.mates.proofs.Meeting.{meeting_none, meeting_few, meeting_right, meeting_counted}
use Rattle.mates.proofs.matching.meet_all.Goals as goal

pub loop-i-init : goal.loop-i-init
loop-i-init g c = meeting_none _ _ _ _ c.requires.1 c.requires.2

pub overflow_add-singular : goal.overflow_add-singular
overflow_add-singular g c = omega (arith, c.requires.1.few, meeting_few _ _ _ _ _ _ c.loop-i.invariant)

pub returns-clause-right : goal.returns-clause-right
returns-clause-right g c = meeting_right _ _ _ _ _ _ c.loop-i.invariant (omega arith)

pub returns-clause-counted : goal.returns-clause-counted
returns-clause-counted g c = meeting_counted _ _ _ _ _ _ c.loop-i.invariant (omega arith)
