-- `Reader::look` meets its contract. What the things from the place on answer, with the entries counted so far, never changes.
use mathlib.Core.Path.{◌≡◌}
use Prim.Native.Nat.{◌-◌}
use lib.ListN.{length}
use Rattle.text.specs.Tokens.{tokens_at}
use Rattle.text.specs.Reading.{inside}
use Rattle.text.proofs.reader.Reader.look.Given as goal

abbrev pub invariant-loop-entry : goal.invariant-loop-entry
invariant-loop-entry l =
    let t = l.fn.self.text.now in
    (l.self.text.now ≡ t) × (inside (length t) l.room l.entries (tokens_at t l.self.at) ≡ inside (length t) l.room 0 (tokens_at t l.fn.self.at))

abbrev pub decreases-loop-entry : goal.decreases-loop-entry
decreases-loop-entry l = length l.fn.self.text.now - l.self.at
