-- `respond` meets its contract: what is printed stands at the start of an output that was 0.
use Rattle.program.proofs.Answering.{responded}
use Rattle.program.proofs.respond.Goals as goal

pub returns : goal.returns
returns c =
    responded c.args.input.now c.put_answer-length.new.output c.put_answer-length.result c.put_answer-length.ensures.value c.put_answer-length.ensures.output_after
