-- `line::put_number` meets its contract: the digits of the number, and the byte behind it.
use native.Mathlib.Omega.{arith}
use Rattle.program.proofs.Lines.{number_behind, number_put}
use Rattle.program.proofs.line.put_number.Goals as goal

pub returns-clause-value : goal.returns-clause-value
returns-clause-value c = number_behind c.args.number c.args.at c.digit_count-count.result c.digit_count-count.ensures.0 c.digit_count-count.ensures.1

pub returns-clause-output_after : goal.returns-clause-output_after
returns-clause-output_after c =
    number_put c.args.number c.args.at c.digit_count-count.result c.args.behind c.args.output.now c.put_digits.new.text c.digit_count-count.ensures.0 (omega arith) c.put_digits.ensures
