-- `text::writer::text_length` meets its contract: the sum is that of the definition.
use Rattle.std.proofs.Common.{◌≡◌, ◌+◌, rules, arith, length}
use Rattle.std.specs.List.{sum_by}
use Rattle.std.proofs.iter.runs.Sources.{sums}
use Rattle.text.specs.Writing.{entry_text}
use Rattle.text.proofs.Entries.{written_long}
use Rattle.text.proofs.writer.text_length.Goals as goal

pub returns : goal.returns
returns c =
    let s : c.sum-entries.result ≡ sum_by (λ x. length (entry_text x) + 2) c.args.list.now = search (rules, sums) in
    omega (arith, written_long c.args.list.now)
