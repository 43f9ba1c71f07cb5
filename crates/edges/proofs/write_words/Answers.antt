use Rattle.std.proofs.Common.{◌≡◌, ◌≤◌, ◌+◌, ◌∙◌, length, ap, arith}
use Rattle.list.specs.Limits.{max_vertices}
use Rattle.list.proofs.Repeats.{vertices_long}
use Rattle.edges.specs.Uses.{uses}
use Rattle.edges.specs.Words.{key_of, corner_of}
use Rattle.edges.proofs.Faces.{vertex_in}
use Rattle.edges.proofs.FaceWords.{words_long}
use Rattle.edges.proofs.Walk.{few_corners, wording_start, wording_room, wording_valid, wording_turn, wording_done}
use Rattle.edges.proofs.write_words.Goals as goal

pub loop-face-init : goal.loop-face-init
loop-face-init c =
    wording_start _ _ _ _ (rw (c.into_iter-face-iterator.ensures.into_iter_gives, c.cursor-face-items.ensures.list, c.cursor-face-items.ensures.at)) c.requires.valid

pub slice_bounds-write_words-end : goal.slice_bounds-write_words-end
slice_bounds-write_words-end c =
    let room : c.loop-face.at + length c.in-Some.face.entries.now ≤ length (uses c.args.list.now) = wording_room _ _ _ _ _ _ _ c.in-Some.ensures.steps.yields c.loop-face.invariant in
    omega (arith, c.requires.room.0)

pub write_words-requires-clause-face_bound : goal.write_words-requires-clause-face_bound
write_words-requires-clause-face_bound c =
    omega (arith, wording_room _ _ _ _ _ _ _ c.in-Some.ensures.steps.yields c.loop-face.invariant, few_corners _ _ c.requires.valid)

pub write_words-requires-clause-by_index : goal.write_words-requires-clause-by_index
write_words-requires-clause-by_index c =
    let f = c.in-Some.face.entries.now in
    λ i h. vertex_in max_vertices f (wording_valid _ _ _ _ _ _ _ c.in-Some.ensures.steps.yields c.loop-face.invariant) i (rw (vertices_long f) h)

pub loop-face-preserved : goal.loop-face-preserved
loop-face-preserved c =
    let f = c.in-Some.face.entries.now in
    let at = c.loop-face.at in
    let keys : length c.write_words.new.keys ≡ length f = ap length c.write_words.ensures.keys ∙ words_long key_of at f in
    let words : length c.write_words.new.words ≡ length f = ap length c.write_words.ensures.words ∙ words_long corner_of at f in
    wording_turn _ _ _ _ _ _ _ _ _ _ c.in-Some.ensures.steps.yields c.loop-face.invariant (c.loop-face.auto.keys ∙ c.requires.room.0) (c.loop-face.auto.words ∙ c.requires.room.1) keys words c.write_words.ensures.keys c.write_words.ensures.words

pub returns : goal.returns
returns c =
    let done = wording_done _ _ _ _ _ c.in-None.ensures.steps.yields.0 c.loop-face.invariant (c.loop-face.auto.keys ∙ c.requires.room.0) (c.loop-face.auto.words ∙ c.requires.room.1) in
    record { keys = done.0; words = done.1 }
