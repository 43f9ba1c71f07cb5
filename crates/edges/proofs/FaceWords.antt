-- The words of one face, by the places of its corners.
use Prim.Native.Nat.{ℕ, ◌+◌, ◌<◌}
use mathlib.Core.Path.{◌≡◌, sym, ◌∙◌, ap}
use mathlib.Core.List.{List, map}
use lib.IntN.{ℤ, pos}
use lib.ListN.{length, get_or, length-map, get_or-map}
use Rattle.list.specs.Faces.{num, vertices}
use Rattle.list.proofs.Repeats.{vertex_of, vertices_long}
use Rattle.edges.specs.Uses.{Use, uses_of_face, next_in, no_use}
use Rattle.edges.specs.Words.{pair_key, key_of, corner_word, corner_of, corner_words}
use Rattle.edges.proofs.Uses.{use_in_lem, uses_face_long}

module _ (at : ℕ) (r : List ℤ) (i : ℕ) (h : i < length r) where
  pub place : get_or (uses_of_face at (vertices r)) i no_use ≡ record { corner = at + i; next = at + next_in (length r) i; from = num (get_or r i (pos 0)); to = num (get_or r (next_in (length r) i) (pos 0)) }
  place = use_in_lem at (vertices r) i no_use (rw (vertices_long r) h) ∙ rw (vertices_long r, vertex_of r i, vertex_of r (next_in (length r) i))

  pub key_word : pair_key (num (get_or r i (pos 0))) (num (get_or r (next_in (length r) i) (pos 0))) ≡ get_or (map key_of (uses_of_face at (vertices r))) i 0
  key_word = sym (get_or-map key_of (uses_of_face at (vertices r)) i no_use ∙ ap key_of place)

  pub corner_word_lem : corner_word (at + next_in (length r) i) (num (get_or r i (pos 0))) ≡ get_or (corner_words (uses_of_face at (vertices r))) i 0
  corner_word_lem = sym (get_or-map corner_of (uses_of_face at (vertices r)) i no_use ∙ ap corner_of place)

-- a word for each corner of the face
pub words_long : (g : Use → ℕ) (at : ℕ) (r : List ℤ) → length (map g (uses_of_face at (vertices r))) ≡ length r
words_long g at r = length-map (uses_of_face at (vertices r)) g ∙ uses_face_long at (vertices r) ∙ vertices_long r
