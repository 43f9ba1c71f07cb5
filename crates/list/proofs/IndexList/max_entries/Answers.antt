-- `IndexList::max_entries` meets its contract by computation; the answer is written out so that a wrong one is refused here.
use mathlib.Core.Path.{refl}
use Rattle.list.proofs.IndexList.max_entries.Goals as goal

pub returns : goal.returns
returns c = refl
