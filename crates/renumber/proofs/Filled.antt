-- A buffer filled from the front: what is written and what is left to write always make up the whole, and what follows is as it was.
use Prim.Native.Nat.{ℕ, suc, ◌+◌, ◌<◌}
use mathlib.Core.Path.{◌≡◌, sym, ◌∙◌, ap}
use mathlib.Core.List.{List, [], ◌∷◌, ◌++◌, append-nil}
use native.Mathlib.Numerals.{add-one}
use lib.ListN.{length, get_or, set, drop, length-append}
use lib.Seq.{drop-cons, set_at, append_snoc}

module _ {A : Type 0} where
  -- the buffer xs, at first old, is written up to i, and rest is left to write of whole
  pub record Filled (old whole rest : List A) (i : ℕ) (xs : List A) : Type 0 where
    pub front : List A
    pub size : length front ≡ i
    pub is : xs ≡ front ++ drop i old
    pub makes : front ++ rest ≡ whole

  pub filled_more : (old whole rest : List A) (i : ℕ) (xs : List A) (d v : A) → i < length old → Filled old whole (v ∷ rest) i xs → Filled old whole rest (i + 1) (set xs i v)
  filled_more old whole rest i xs d v h F =
      record {
        front = F.front ++ (v ∷ []);
        size = length-append F.front (v ∷ []) ∙ rw (F.size, add-one);
        is = rw (F.is, drop-cons old i d h, add-one, append_snoc) (set_at F.front (get_or old i d) (drop (suc i) old) v i F.size);
        makes = rw append_snoc F.makes;
      }

  pub filled_end : (old whole : List A) (i : ℕ) (xs : List A) → Filled old whole [] i xs → (xs ≡ whole ++ drop (length whole) old) × (length whole ≡ i)
  filled_end old whole i xs F =
      let all : F.front ≡ whole = sym (append-nil F.front) ∙ F.makes in
      let size : length whole ≡ i = ap length (sym all) ∙ F.size in
      (F.is ∙ rw (all, size), size)
