-- `fill_list` meets its contract: the entries written and the rest refilled always make up the whole list refilled.
use Rattle.renumber.proofs.Walk.{ListLoop}
use Rattle.renumber.proofs.fill_list.Given as goal

abbrev pub invariant-loop-i : goal.invariant-loop-i
invariant-loop-i l = ListLoop l.list l.w l.initial.new_list l.new_list l.e l.i
