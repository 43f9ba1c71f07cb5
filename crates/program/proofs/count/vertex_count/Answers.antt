-- `count::vertex_count` meets its contract: the chain gives the greatest of the entries' counts.
use Rattle.std.proofs.Common.{unwrap_or, ap, sym, ◌∙◌, rules, tests}
use Rattle.std.proofs.lemmas.Iterator.{YieldsList-from_slice, YieldsList-from_map}
use Rattle.std.proofs.lemmas.Iterator.Consumers.{reduce_from_yields_List}
use Rattle.std.proofs.lemmas.List.Folds.{max_of_map}
use Rattle.program.specs.Printed.{count_to}
use Rattle.program.proofs.Counting.{vertex_count_folds}
use Rattle.program.proofs.count.vertex_count.Goals as goal

pub returns : goal.returns
returns c =
    let l = c.args.list.now in
    c.unwrap_or.ensures
    ∙ ap (λ o. unwrap_or o 0) (reduce_from_yields_List _ c.map.result _ c.max.ensures.ran (YieldsList-from_map _ count_to (YieldsList-from_slice l cc) c.map.ensures.closure (λ x b q k. search (rules, tests))))
    ∙ max_of_map count_to l
    ∙ sym (vertex_count_folds l)
