-- `entry::run_length` meets its contract: the first -1 has its place there, or the part ends first.
use mathlib.Core.Path.{sym, ◌∙◌, ap, ◌≡◌}
use mathlib.Core.List.{List}
use borrow.Author.Tests.{tests}
use lib.IntN.{ℤ}
use lib.ListN.{length}
use Rattle.std.specs.Prelude.{unwrap_or}
use Rattle.std.proofs.Common.{rules}
use Rattle.std.proofs.lemmas.Iterator.{YieldsList-from_slice}
use Rattle.std.proofs.lemmas.Iterator.Search.{position_from_yields_List}
use Rattle.list.specs.Faces.{is_end, run_length, place_or_none}
use Rattle.list.proofs.First.{first_position, first_fits, place_taken}
use Rattle.list.proofs.entry.run_length.Goals as goal

pub returns : goal.returns
returns c =
    let part : List ℤ = c.args.part.now in
    let found : c.position.result ≡ place_or_none part (run_length part) = position_from_yields_List is_end _ _ _ c.position.ensures.ran (YieldsList-from_slice part cc) (λ x b q k. search (rules, tests)) ∙ sym (ap (place_or_none part) (first_position is_end part)) in
    c.unwrap_or.ensures ∙ ap (λ p. unwrap_or p (length part)) found ∙ place_taken part (run_length part) (first_fits is_end part)
