-- `face::write_words` meets its contract: each word written is that of its corner.
use Rattle.std.proofs.Common.{◌≡◌, ℕ, ◌<◌, get_or, map}
use Rattle.list.specs.Faces.{vertices}
use Rattle.edges.specs.Uses.{uses_of_face}
use Rattle.edges.specs.Words.{key_of, corner_words}
use Rattle.edges.proofs.face.write_words.Given as goal

abbrev pub invariant-loop-i : goal.invariant-loop-i
invariant-loop-i l =
    record {
      keys : (k : ℕ) → k < l.i → get_or l.keys k 0 ≡ get_or (map key_of (uses_of_face l.at (vertices l.face))) k 0;
      words : (k : ℕ) → k < l.i → get_or l.words k 0 ≡ get_or (corner_words (uses_of_face l.at (vertices l.face))) k 0;
    }
