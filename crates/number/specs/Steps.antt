-- What functions promise one another about numbers and bytes, where that is no definition of document 01.
--
--   beyond         a magnitude past the range of either sign: a larger one is kept as this one
--   clipped o      the digits' value as the number reader keeps it
--   put at vs t    the bytes vs at place at of t, and what stood in front of them and behind them
use Rattle.std.specs.Prelude.{ℕ, ◌+◌, min, List, ◌++◌, length, take, drop, Option, Some, None}
use Rattle.std.proofs.Math.Option.{none, some}
use Rattle.std.proofs.Math.Option as math

abbrev pub beyond : ℕ
beyond = 4294967295

abbrev pub clipped : math.Option ℕ → Option ℕ
clipped none = None
clipped (some m) = Some (min m beyond)

abbrev pub put : ℕ → List ℕ → List ℕ → List ℕ
put at vs t = take at t ++ (vs ++ drop (at + length vs) t)
