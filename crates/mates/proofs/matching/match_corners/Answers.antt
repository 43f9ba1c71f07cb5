-- `matching::match_corners` meets its contract: with 0 at every vertex none has met.
use Rattle.std.proofs.Common.{◌∙◌, sym, arith}
use Rattle.mates.proofs.Meeting.{none_met_yet, right_joined}
use Rattle.mates.proofs.matching.match_corners.Goals as goal

pub meet_all-requires : goal.meet_all-requires
meet_all-requires c =
    (omega arith, none_met_yet c.split_at_mut-keys.ensures.front c.split_at_mut-keys.ensures.back c.split_at_mut-order.ensures.front c.requires.0 c.requires.2 c.if-n-le-FEW_VERTICES.true, c.split_at_mut-mates.ensures.front_len ∙ sym c.split_at_mut-keys.ensures.front_len)

pub returns-then-n-le-FEW_VERTICES-clause-right : goal.returns-then-n-le-FEW_VERTICES-clause-right
returns-then-n-le-FEW_VERTICES-clause-right c =
    right_joined c.split_at_mut-keys.ensures.front c.split_at_mut-keys.ensures.back c.split_at_mut-order.ensures.front c.requires.0 c.meet_all.new.mates _ (c.meet_all.auto.mates ∙ c.split_at_mut-mates.ensures.front_len) c.meet_all.ensures.right

pub meet_all-requires-else-n-le-FEW_VERTICES : goal.meet_all-requires-else-n-le-FEW_VERTICES
meet_all-requires-else-n-le-FEW_VERTICES c =
    (omega arith, none_met_yet c.split_at_mut-keys.ensures.front c.split_at_mut-keys.ensures.back c.split_at_mut-order.ensures.front c.requires.0 c.requires.2 c.requires.1, c.split_at_mut-mates.ensures.front_len ∙ sym c.split_at_mut-keys.ensures.front_len)

pub returns-else-n-le-FEW_VERTICES-clause-right : goal.returns-else-n-le-FEW_VERTICES-clause-right
returns-else-n-le-FEW_VERTICES-clause-right c =
    right_joined c.split_at_mut-keys.ensures.front c.split_at_mut-keys.ensures.back c.split_at_mut-order.ensures.front c.requires.0 c.meet_all-else-n-le-FEW_VERTICES.new.mates _ (c.meet_all-else-n-le-FEW_VERTICES.auto.mates ∙ c.split_at_mut-mates.ensures.front_len) c.meet_all-else-n-le-FEW_VERTICES.ensures.right
