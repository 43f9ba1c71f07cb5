-- `decimal::digit_count` meets its contract: 0 has the one digit that 1 has.
use mathlib.Core.Path.{sym, ◌∙◌}
use native.Mathlib.Omega.{arith}
use Rattle.number.proofs.Width.{width_between, width_max_one}
use Rattle.number.proofs.decimal.digit_count.Goals as goal

pub returns : goal.returns
returns c =
    let e = c.ilog10.ensures in
    let w = width_between _ _ e.power_le e.next_power_gt in
    (sym (rw c.max.ensures at w) ∙ width_max_one c.args.n, omega arith)
