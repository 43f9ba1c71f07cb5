-- `edge_table` meets its contract: the keys pair the corners, the corners' words are taken apart, and the four blocks are the table.
use Rattle.std.proofs.Common.{◌≡◌, ◌-◌, ◌/◌, ◌*◌, length, arith, length-take, length-drop}
use Rattle.edges.specs.Uses.{uses}
use Rattle.edges.proofs.Uses.{uses_long}
use Rattle.edges.proofs.Walk.{valid_wider, few_corners}
use Rattle.edges.proofs.Assembly.{begun, keys_below, table_singular, table_is}
use Rattle.edges.proofs.edge_table.Goals as goal

pub write_words-requires-clause-valid : goal.write_words-requires-clause-valid
write_words-requires-clause-valid c = valid_wider _ _ c.requires.0

pub write_words-requires-clause-room : goal.write_words-requires-clause-room
write_words-requires-clause-room c =
    let corners : length (uses c.args.list.now) ≡ length c.args.work.now / 4 = omega (arith, c.requires.1, uses_long c.args.list.now) in
    simp (length-take, length-drop) (omega arith, omega arith)

pub pair_edges-singular-requires : goal.pair_edges-singular-requires
pair_edges-singular-requires c =
    let l = c.args.list.now in
    let v = c.requires.0 in
    let m = length c.args.work.now / 4 in
    let corners : length (uses l) ≡ m = omega (arith, c.requires.1, uses_long l) in
    let rest : length c.split_at_mut-keys.result.1.now ≡ 3 * m = omega (arith, c.requires.1, c.split_at_mut-keys.ensures.back_len) in
    let b = begun l m (length c.split_at_mut-keys.result.1.now - 2 * m) c.write_words.new.keys c.split_at_mut-keys.result.1.now c.write_words.new.words corners rest (omega arith) c.write_words.ensures.keys c.write_words.ensures.words in
    (b.long, omega (arith, few_corners l c.args.n v), v.few_vertices, keys_below l c.args.n m _ v corners b.keys)

pub returns : goal.returns
returns c =
    let l = c.args.list.now in
    let v = c.requires.0 in
    let m = length c.args.work.now / 4 in
    let corners : length (uses l) ≡ m = omega (arith, c.requires.1, uses_long l) in
    let rest : length c.split_at_mut-keys.result.1.now ≡ 3 * m = omega (arith, c.requires.1, c.split_at_mut-keys.ensures.back_len) in
    let b = begun l m (length c.split_at_mut-keys.result.1.now - 2 * m) c.write_words.new.keys c.split_at_mut-keys.result.1.now c.write_words.new.words corners rest (omega arith) c.write_words.ensures.keys c.write_words.ensures.words in
    record {
      table = table_is l c.args.n m v corners _ _ _ b.keys b.long b.words c.pair_edges-singular.ensures.right c.pair_edges-singular.ensures.kept c.take_apart.ensures;
      singular = table_singular l c.args.n m v corners _ c.pair_edges-singular.new.work c.take_apart.new.work b.keys _ c.pair_edges-singular.ensures.counted;
    }
