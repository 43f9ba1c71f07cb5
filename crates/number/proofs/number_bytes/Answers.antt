-- `number::number_bytes` meets its contract: the part in front of the first byte of no number is the definition's run.
use Rattle.std.proofs.Common.{rules, tests, not}
use Rattle.std.proofs.lemmas.Iterator.{YieldsList-from_slice}
use Rattle.std.proofs.lemmas.Iterator.Search.{position_from_yields_List}
use Rattle.number.specs.Bytes.{in_number}
use Rattle.number.proofs.Runs.{run_taken, place_or_end}
use Rattle.number.proofs.number_bytes.Goals as goal

pub returns : goal.returns
returns c =
    let s = c.args.rest.now in
    let e = position_from_yields_List (λ b. not (in_number b)) _ _ c.position-end.result c.position-end.ensures.ran (YieldsList-from_slice s cc) (λ x b q k. search (rules, tests)) in
    rw (c.unwrap_or.ensures, e, place_or_end) (run_taken s)
