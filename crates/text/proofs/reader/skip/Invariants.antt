-- `text::reader::skip` meets its contract. What is left of the bytes that separate, added to the place, never changes.
use mathlib.Core.Path.{◌≡◌}
use mathlib.Core.Bool.{false}
use Prim.Native.Nat.{◌+◌}
use lib.ListN.{drop}
use Rattle.text.specs.Steps.{blank}
use Rattle.text.proofs.reader.skip.Given as goal

abbrev pub invariant-loop-i : goal.invariant-loop-i
invariant-loop-i l = l.i + blank l.comment (drop l.i l.rest) ≡ blank false l.rest
