use Rattle.std.proofs.Common.{rules}
use Rattle.list.proofs.Repeats.{marking_start, marking_room, marking_repeat, marking_before, marking_turn}
use Rattle.list.proofs.rules.mark.Goals as goal

pub loop-i-init : goal.loop-i-init
loop-i-init c = marking_start

pub bounds-flags-v : goal.bounds-flags-v
bounds-flags-v c = marking_room c.requires c.loop-i-test.true (search rules) c.vertex-v.ensures c.loop-i.invariant

pub returns-then-flags-v-ne0-clause-repeat : goal.returns-then-flags-v-ne0-clause-repeat
returns-then-flags-v-ne0-clause-repeat c = marking_repeat c.requires c.loop-i-test.true (search rules) c.vertex-v.ensures c.loop-i.invariant c.if-flags-v-ne0.true

pub returns-then-flags-v-ne0-clause-before_it : goal.returns-then-flags-v-ne0-clause-before_it
returns-then-flags-v-ne0-clause-before_it c = marking_before c.requires c.loop-i-test.true (search rules) c.vertex-v.ensures c.loop-i.invariant c.if-flags-v-ne0.true

pub bounds-flags-v-in-loop-i : goal.bounds-flags-v-in-loop-i
bounds-flags-v-in-loop-i c = marking_room c.requires c.loop-i-test.true (search rules) c.vertex-v.ensures c.loop-i.invariant

pub loop-i-preserved : goal.loop-i-preserved
loop-i-preserved c = marking_turn c.requires c.loop-i-test.true (search rules) c.vertex-v.ensures c.loop-i.invariant c.if-flags-v-ne0.false
