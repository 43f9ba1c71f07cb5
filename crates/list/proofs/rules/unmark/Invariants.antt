-- `rules::unmark` meets its contract: only flags of vertices that are left may be set, until none is left.
use lib.ListN.{drop}
use Rattle.list.specs.Faces.{vertices}
use Rattle.list.specs.Flags.{SetWithin}
use Rattle.list.proofs.rules.unmark.Given as goal

abbrev pub invariant-loop-entry : goal.invariant-loop-entry
invariant-loop-entry l = SetWithin (drop l.entry-index (vertices l.part)) l.flags
