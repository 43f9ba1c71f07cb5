-- `Reader::fill` meets its contract. What is left to write, over what is left of the list, never changes.
use mathlib.Core.Path.{◌≡◌}
use Prim.Native.Nat.{◌-◌}
use mathlib.Core.List.{◌++◌}
use lib.ListN.{length, take, drop}
use Rattle.text.specs.Tokens.{tokens_at}
use Rattle.list.specs.Written.{over}
use Rattle.text.specs.Reading.{values_of}
use Rattle.text.proofs.reader.Reader.fill.Given as goal

abbrev pub invariant-loop-slot : goal.invariant-loop-slot
invariant-loop-slot l =
    let t = l.fn.self.text.now in
    let n = length l.initial.list in
    (l.self.text.now ≡ t)
    × (take l.slot-index l.list ++ over (take (n - l.slot-index) (values_of (tokens_at t l.self.at))) (drop l.slot-index l.list)
    ≡ over (take n (values_of (tokens_at t l.fn.self.at))) l.initial.list)
