-- `matching::meet` meets its contract: the corner finds the last one before it that has its key, and the words of those with it become
-- what they are among one corner more.
use Rattle.std.proofs.Common.{arith, length-set}
use Rattle.mates.proofs.Meeting.{met_turn, found_in, pair_turn, join_turn, crowd_in, crowd_turn}
use Rattle.mates.proofs.matching.meet.Goals as goal

pub bounds-mates-a : goal.bounds-mates-a
bounds-mates-a c = simp length-set (omega (arith, c.requires.1.room, found_in _ _ _ _ c.requires.0 c.requires.2 _ c.requires.1 _ c.last_before-a.ensures.last))

pub returns-then-b-a-clause-met : goal.returns-then-b-a-clause-met
returns-then-b-a-clause-met c = rw c.last_before-a.ensures.noted (met_turn _ _ _ _ c.requires.0 c.requires.2)

pub returns-then-b-a-clause-words : goal.returns-then-b-a-clause-words
returns-then-b-a-clause-words c = (pair_turn _ _ _ _ c.requires.0 c.requires.2 _ c.requires.1 _ c.last_before-a.ensures.last c.if-b-a.true).words

pub returns-then-b-a-clause-counted : goal.returns-then-b-a-clause-counted
returns-then-b-a-clause-counted c = (pair_turn _ _ _ _ c.requires.0 c.requires.2 _ c.requires.1 _ c.last_before-a.ensures.last c.if-b-a.true).counted

pub returns-then-b-many-clause-met : goal.returns-then-b-many-clause-met
returns-then-b-many-clause-met c = rw c.last_before-a.ensures.noted (met_turn _ _ _ _ c.requires.0 c.requires.2)

pub returns-then-b-many-clause-words : goal.returns-then-b-many-clause-words
returns-then-b-many-clause-words c = (join_turn _ _ _ _ c.requires.0 c.requires.2 _ c.requires.1 _ c.last_before-a.ensures.last c.if-b-a.false c.if-b-many.true).words

pub returns-then-b-many-clause-counted : goal.returns-then-b-many-clause-counted
returns-then-b-many-clause-counted c = (join_turn _ _ _ _ c.requires.0 c.requires.2 _ c.requires.1 _ c.last_before-a.ensures.last c.if-b-a.false c.if-b-many.true).counted

pub bounds-mates-a-2 : goal.bounds-mates-a-2
bounds-mates-a-2 c = simp length-set (omega (arith, c.requires.1.room, found_in _ _ _ _ c.requires.0 c.requires.2 _ c.requires.1 _ c.last_before-a.ensures.last))

pub bounds-mates-b : goal.bounds-mates-b
bounds-mates-b c = simp length-set (omega (arith, c.requires.1.room, crowd_in _ _ _ _ c.requires.0 c.requires.2 _ c.requires.1 _ c.last_before-a.ensures.last c.if-b-a.false c.if-b-many.false))

pub returns-clause-met : goal.returns-clause-met
returns-clause-met c = rw c.last_before-a.ensures.noted (met_turn _ _ _ _ c.requires.0 c.requires.2)

pub returns-clause-words : goal.returns-clause-words
returns-clause-words c = (crowd_turn _ _ _ _ c.requires.0 c.requires.2 _ c.requires.1 _ c.last_before-a.ensures.last c.if-b-a.false c.if-b-many.false).words

pub returns-clause-counted : goal.returns-clause-counted
returns-clause-counted c = (crowd_turn _ _ _ _ c.requires.0 c.requires.2 _ c.requires.1 _ c.last_before-a.ensures.last c.if-b-a.false c.if-b-many.false).counted
