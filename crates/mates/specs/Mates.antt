-- What a corner meets across its edge, told by the corners of the uses of that edge (document 01, "Edges, fans and classes", 1).
--
--   Mate               what a use meets across its edge: alone (no other face), the other use's corner, or many
--   mate_among c xs    the mate of corner c among the corners xs of the uses of its edge
--   mate_word c e m    the word for the mate m of corner e, of c corners: e itself where e's edge has one face, the other corner
--                      where it has two, c where it has more
--   starts_many c xs   c is the first of xs, and they are three or more
use Rattle.std.specs.Prelude.{ℕ, List, [], ◌∷◌, Bool, false, cond, eqb}

pub data Mate : Type 0 where
  alone : Mate
  other : ℕ → Mate
  many : Mate

abbrev pub mate_among : ℕ → List ℕ → Mate
mate_among c [] = alone
mate_among c (x ∷ []) = alone
mate_among c (x ∷ y ∷ []) = other (cond (eqb x c) y x)
mate_among c (x ∷ y ∷ z ∷ zs) = many

abbrev pub mate_word : ℕ → ℕ → Mate → ℕ
mate_word c e alone = e
mate_word c e (other f) = f
mate_word c e many = c

abbrev pub starts_many : ℕ → List ℕ → Bool
starts_many c [] = false
starts_many c (x ∷ []) = false
starts_many c (x ∷ y ∷ []) = false
starts_many c (x ∷ y ∷ z ∷ zs) = eqb x c
