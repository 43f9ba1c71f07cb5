-- The text of one entry, by its sign and its magnitude, and of an entry with what stands behind it.
use mathlib.Core.Path.{◌≡◌, refl, ap, sym, ◌∙◌}
use Prim.Native.Nat.{ℕ, suc, ◌+◌, ◌≤◌, ◌<◌, max}
use native.Mathlib.Numerals.{add-one}
use native.Mathlib.Nat.{add-zero}
use native.Mathlib.Omega.{arith}
use mathlib.Core.List.{List, [], ◌∷◌, ◌++◌}
use mathlib.Core.Bool.{Bool, true, false, cond}
use lib.Dec.{ltb}
use lib.IntN.{ℤ, pos, nat_abs}
use lib.ListN.{length, drop, get_or, length-append, drop_of_length-le}
use lib.Seq.{drop-cons}
use mir.Syntax.{w32}
use mir.Val.{SFits, bool_byte, of_z, to_z}
use mir.ValLaws.{to_z-of_z}
use borrow.Author.Tests.{ltb-true, ltb-false}
use Rattle.std.specs.List.{sum_by}
use Rattle.std.proofs.lemmas.List.Recursion.{is_sum_by}
use Rattle.number.specs.Bytes.{space, comma, minus_byte, close_byte}
use Rattle.number.specs.Decimal.{width, low_digits}
use Rattle.text.specs.Writing.{is_negative, entry_text, joint, item_text, entries_text, written}
use Rattle.text.specs.Steps.{entry_item}
use Rattle.number.specs.Steps.{put}
use Rattle.number.proofs.Putting.{digits_length, put_behind}

module _ (x : ℤ) (neg : Bool) (m d : ℕ) (hn : neg ≡ is_negative x) (hm : m ≡ nat_abs x) (hd : d ≡ width m) where
  entry_text_lem : entry_text x ≡ cond neg (minus_byte ∷ low_digits d m) (low_digits d m)
  entry_text_lem = rw (hn, hd, hm)

  pub entry_long : length (entry_text x) ≡ d + bool_byte neg
  entry_long = ap length entry_text_lem ∙ go neg
    where
      go : (b : Bool) → length (cond b (minus_byte ∷ low_digits d m) (low_digits d m)) ≡ d + bool_byte b
      go true = rw (digits_length d m, add-one d)
      go false = rw (digits_length d m, add-zero d)

pub sign_short : (b : Bool) → bool_byte b ≤ 1
sign_short true = omega arith
sign_short false = omega arith

-- ---- the list's length in bytes

-- each entry with two bytes more: those of the last one are the brackets'
abbrev joined : List ℤ → ℕ
joined [] = 0
joined (x ∷ l) = length (entry_text x) + 2 + joined l

entries_long : (x : ℤ) (l : List ℤ) → length (written (x ∷ l)) ≡ joined (x ∷ l)
entries_long x [] =
    let none : List ℕ = [] in
    let e : length (entries_text (x ∷ [])) ≡ length (entry_text x ++ none) + 1 = length-append (entry_text x ++ none) (close_byte ∷ none) in
    omega (arith, length-append (entry_text x) none)
entries_long x (y ∷ l) =
    let two : List ℕ = comma ∷ space ∷ [] in
    let e : length (entries_text (x ∷ y ∷ l)) ≡ length (entry_text x ++ two) + length (entries_text (y ∷ l)) = length-append (entry_text x ++ two) (entries_text (y ∷ l)) in
    omega (arith, entries_long y l, length-append (entry_text x) two)

pub written_long : (l : List ℤ) → length (written l) ≡ max (sum_by (λ y. length (entry_text y) + 2) l) 2
written_long l = rw (← is_sum_by joined (λ y. length (entry_text y) + 2) refl (λ _ _. refl) l) (go l)
  where
    go : (k : List ℤ) → length (written k) ≡ max (joined k) 2
    go [] = refl
    go (x ∷ k) = omega (arith, entries_long x k)

-- ---- the entry at place i of a list, and what stands behind it

module _ (l : List ℤ) (i : ℕ) (h : i < length l) where
  pub item_at_place : item_text (drop i l) ≡ entry_text (get_or l i (pos 0)) ++ joint (drop (suc i) l)
  item_at_place = rw (drop-cons l i (pos 0) h)

  pub entries_at_place : entries_text (drop i l) ≡ item_text (drop i l) ++ entries_text (drop (i + 1) l)
  entries_at_place = rw (drop-cons l i (pos 0) h, add-one i)

  -- the entry with what stands behind it, where `more` says whether another one follows
  pub item_is : item_text (drop i l) ≡ entry_item (get_or l i (pos 0)) (ltb (i + 1) (length l))
  item_is = item_at_place ∙ ap (λ (r : List ℕ). entry_text (get_or l i (pos 0)) ++ r) (go (ltb (i + 1) (length l)) refl)
    where
      go : (b : Bool) → ltb (i + 1) (length l) ≡ b → joint (drop (suc i) l) ≡ cond b (comma ∷ space ∷ []) []
      go true e = let k : suc i < length l = omega (arith, ltb-true _ _ e) in rw (drop-cons l (suc i) (pos 0) k)
      go false e = let k : length l ≤ suc i = omega (arith, ltb-false _ _ e) in rw (drop_of_length-le l k)

  -- the same, as the writer has it from the entry's bits
  pub item_read : SFits w32 (get_or l i (pos 0)) → entry_item (to_z w32 (of_z w32 (get_or l i (pos 0)))) (ltb (i + 1) (length l)) ≡ item_text (drop i l)
  item_read f = rw (to_z-of_z w32 (get_or l i (pos 0)) f) (sym item_is)

  -- a turn of the loop that puts the entries
  pub put_turn : (at q : ℕ) (t t' : List ℕ) → at + length (entries_text (drop i l)) ≤ length t
      → q ≡ at + length (item_text (drop i l)) → t' ≡ put at (item_text (drop i l)) t
      → put q (entries_text (drop (i + 1) l)) t' ≡ put at (entries_text (drop i l)) t
  put_turn at q t t' room hq ht =
      let a : List ℕ = item_text (drop i l) in
      let b : List ℕ = entries_text (drop (i + 1) l) in
      let n : length (entries_text (drop i l)) ≡ length a + length b = ap length entries_at_place ∙ length-append a b in
      rw (hq, ht) (put_behind at a b t (omega arith)) ∙ ap (λ (vs : List ℕ). put at vs t) (sym entries_at_place)
