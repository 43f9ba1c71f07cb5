-- `number` meets its contract: the corners before e have the places of their labels among the roots, and the roots met,
-- whose vertices the map has, and those left make up all.
use Rattle.renumber.proofs.Numbering.{NumberLoop}
use Rattle.renumber.proofs.number.Given as goal

abbrev pub invariant-loop-e : goal.invariant-loop-e
invariant-loop-e l = NumberLoop l.fn.w l.c l.numbers l.initial.map l.map l.count l.e
