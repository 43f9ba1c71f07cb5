-- `decimal::put_digits` meets its contract. What is left to put, over the buffer as it is, never changes.
use mathlib.Core.Path.{◌≡◌}
use Rattle.number.specs.Decimal.{low_digits}
use Rattle.number.specs.Steps.{put}
use Rattle.number.proofs.decimal.put_digits.Given as goal

abbrev pub invariant-loop-k : goal.invariant-loop-k
invariant-loop-k l = put l.at (low_digits l.k l.rest) l.text ≡ put l.at (low_digits l.count l.n) l.initial.text
