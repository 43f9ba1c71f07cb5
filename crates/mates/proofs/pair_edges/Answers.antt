-- `pair_edges` meets its contract: the order of the corners is what finding the mates asks, and has the keys as they came.
use Prim.Native.Nat.{ℕ, ◌*◌}
use mathlib.Core.List.{List}
use mathlib.Core.Logic.{inl}
use native.Mathlib.Omega.{arith}
use Rattle.order.specs.Sort.{Kept, KeysBelow}
use Rattle.order.proofs.Parts.{kept_part, kept_trans, kept_wider}
use Rattle.mates.proofs.pair_edges.Goals as goal

-- keys that are kept are below the vertex count still
keys-below-kept : (c n : ℕ) (w w' : List ℕ) → Kept c (2 * c) w w' → KeysBelow c n w → KeysBelow c n w'
keys-below-kept c n w w' k v e h = rw (k.low e h) (v e h)

pub order_corners-requires : goal.order_corners-requires
order_corners-requires c = (c.requires.0, c.requires.1, c.requires.3)

pub match_corners-requires : goal.match_corners-requires
match_corners-requires c =
    (c.order_corners.ensures.grouped, c.requires.2, keys-below-kept c.args.c c.args.n c.args.work.now c.order_corners.new.work c.order_corners.ensures.kept c.requires.3)

pub returns : goal.returns
returns c =
    let w = c.args.work.now in
    let w₁ = c.order_corners.new.work in
    let w₂ = c.match_corners.new.work in
    let kept = c.order_corners.ensures.kept in
    let keys = kept_part c.args.c (2 * c.args.c) 0 c.args.c w w₁ (inl (omega arith)) (omega (arith, c.requires.0)) kept in
    record { right = rw keys at c.match_corners.ensures.right; counted = rw keys at c.match_corners.ensures.counted; kept = kept_trans c.args.c (2 * c.args.c) w w₁ w₂ kept (kept_wider (2 * c.args.c) c.args.c c.args.c (2 * c.args.c) w₁ w₂ (omega arith) (omega arith) c.match_corners.ensures.kept) }
