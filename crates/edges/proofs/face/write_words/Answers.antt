use Rattle.std.proofs.Common.{◌≡◌, ◌≢◌, ◌+◌, ◌<◌, ◌∙◌, ℕ, List, ap, ap₂, arith, get_or, length, map, pos, below_more, get_or-set_other, get_or-set_same}
use Rattle.std.proofs.lemmas.Int.{ints, to_z-of_z}
use lib.ListN.{set}
use lib.Seq.{ext_get_or}
use Rattle.list.specs.Faces.{num, vertices}
use Rattle.list.proofs.Repeats.{vertex_of}
use Rattle.edges.specs.Uses.{uses_of_face}
use Rattle.edges.specs.Words.{pair_key, key_of, corner_word, corner_of, corner_words}
use Rattle.edges.proofs.Uses.{next_inside}
use Rattle.edges.proofs.FaceWords.{words_long, key_word, corner_word_lem}
use Rattle.edges.proofs.face.write_words.Goals as goal

-- one word more
more : (ys zs : List ℕ) (i v : ℕ) → i < length zs → v ≡ get_or ys i 0 → ((k : ℕ) → k < i → get_or zs k 0 ≡ get_or ys k 0) → (k : ℕ) → k < i + 1 → get_or (set zs i v) k 0 ≡ get_or ys k 0
more ys zs i v h e before = below_more _ _ (λ k q. let ne : k ≢ i = omega arith in rw get_or-set_other (before k q)) (rw get_or-set_same e)

pub key-requires : goal.key-requires
key-requires c =
    let r = c.args.face.now in
    let from : c.vertex-from.result ≡ num (get_or r c.loop-i.i (pos 0)) = grind (arith, to_z-of_z) in
    let to : c.vertex-to.result ≡ num (get_or r c.next_in-next.result (pos 0)) = grind (arith, ints, to_z-of_z) in
    let inside : c.next_in-next.result < length r = omega (arith, next_inside (length r) c.loop-i.i c.loop-i-test.true) in
    (omega (arith, vertex_of r c.loop-i.i, c.requires.by_index c.loop-i.i c.loop-i-test.true), omega (arith, vertex_of r c.next_in-next.result, c.requires.by_index c.next_in-next.result inside))

pub packed-requires : goal.packed-requires
packed-requires c =
    let r = c.args.face.now in
    let from : c.vertex-from.result ≡ num (get_or r c.loop-i.i (pos 0)) = grind (arith, to_z-of_z) in
    (omega (arith, next_inside (length r) c.loop-i.i c.loop-i-test.true), omega (arith, vertex_of r c.loop-i.i, c.requires.by_index c.loop-i.i c.loop-i-test.true))

pub loop-i-preserved : goal.loop-i-preserved
loop-i-preserved c =
    let r = c.args.face.now in
    let at = c.args.at in
    let i = c.loop-i.i in
    let from : c.vertex-from.result ≡ num (get_or r i (pos 0)) = grind (arith, to_z-of_z) in
    let to : c.vertex-to.result ≡ num (get_or r c.next_in-next.result (pos 0)) = grind (arith, ints, to_z-of_z) in
    let next = c.next_in-next.ensures in
    let k : c.key.result ≡ get_or (map key_of (uses_of_face at (vertices r))) i 0 = c.key.ensures ∙ ap₂ pair_key from (to ∙ ap (λ j. num (get_or r j (pos 0))) next) ∙ key_word at r i c.loop-i-test.true in
    let w : c.packed.result ≡ get_or (corner_words (uses_of_face at (vertices r))) i 0 = c.packed.ensures ∙ ap₂ corner_word (ap (λ j. at + j) next) from ∙ corner_word_lem at r i c.loop-i-test.true in
    record { keys = more _ _ i _ (omega arith) k c.loop-i.invariant.keys; words = more _ _ i _ (omega arith) w c.loop-i.invariant.words }

pub returns-clause-keys : goal.returns-clause-keys
returns-clause-keys c = ext_get_or 0 _ _ (omega (arith, words_long key_of c.args.at c.args.face.now)) (λ k h. c.loop-i.invariant.keys k (omega arith))

pub returns-clause-words : goal.returns-clause-words
returns-clause-words c = ext_get_or 0 _ _ (omega (arith, words_long corner_of c.args.at c.args.face.now)) (λ k h. c.loop-i.invariant.words k (omega arith))
