use mathlib.Core.Path.{◌∙◌}
use native.Mathlib.Omega.{arith}
use Rattle.number.proofs.Putting.{put_digit}
use Rattle.number.proofs.decimal.put_digits.Goals as goal

pub loop-k-preserved : goal.loop-k-preserved
loop-k-preserved c =
    let k = c.loop-k in
    put_digit c.args.at k.k k.rest k.text (omega arith) (omega arith) ∙ k.invariant
