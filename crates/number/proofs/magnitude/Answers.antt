use mathlib.Core.Path.{◌∙◌, sym}
use native.Mathlib.Omega.{arith}
use Rattle.number.proofs.Decimals.{digit_more}
use Rattle.number.proofs.magnitude.Goals as goal

pub loop-b-preserved : goal.loop-b-preserved
loop-b-preserved c =
    let k = c.loop-b in
    let bs = c.args.digits.now in (
      omega arith,
      rw (c.min-m.ensures, c.from.ensures, c.from-in-loop-b.ensures)
          (digit_more bs k.b-index k.m (omega arith)
          (sym c.is_digit.ensures ∙ c.if-not-is_digit.false) ∙ k.invariant.1),
    )
