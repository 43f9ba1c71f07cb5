-- Entries of 32 bits: the entries of the new list and of the map are such where those of the list are, and their texts are short.
use Prim.Native.Nat.{ℕ, zero, suc, ◌+◌, ◌*◌, ◌≤◌}
use mathlib.Core.List.{List, [], ◌∷◌, map}
use mathlib.Core.Bool.{Bool, true, false, cond}
use native.Mathlib.Omega.{arith}
use lib.Dec.{eqb}
use lib.IntN.{ℤ, pos, negsuc}
use lib.ListN.{length, get_or, length-append}
use Rattle.list.specs.Faces.{is_end, corners}
use Rattle.number.specs.Decimal.{width}
use Rattle.text.specs.Writing.{entry_text, joint, item_text, entries_text, written, Fits32, AllFit}
use Rattle.text.proofs.RoundTrip.{tail_fits}
use Rattle.number.proofs.Putting.{digits_length}
use Rattle.groups.specs.Distinct.{distinct, place_in}
use Rattle.renumber.specs.Renumber.{new_numbers, refilled, new_list_of, map_of}
use Rattle.number.proofs.Width.{width_within_lem}

pub fit_cons : (x : ℤ) (xs : List ℤ) → Fits32 x → AllFit xs → AllFit (x ∷ xs)
fit_cons x xs f fs zero h = f
fit_cons x xs f fs (suc i) h = fs i (omega arith)

fit_at : (l : List ℤ) → AllFit l → (i : ℕ) → Fits32 (get_or l i (pos 0))
fit_at [] f i = omega arith
fit_at (x ∷ xs) f zero = f 0 (omega arith)
fit_at (x ∷ xs) f (suc i) = fit_at xs (tail_fits x xs f) i

fit_map : (f : ℕ → ℤ) → ((x : ℕ) → Fits32 (f x)) → (xs : List ℕ) → AllFit (map f xs)
fit_map f h [] = λ i k. absurd (omega arith)
fit_map f h (x ∷ xs) = fit_cons (f x) (map f xs) (h x) (fit_map f h xs)

fit_corners : (l : List ℤ) → AllFit l → AllFit (corners l)
fit_corners [] f = f
fit_corners (x ∷ xs) f = go (is_end x) (fit_corners xs (tail_fits x xs f))
  where
    go : (b : Bool) → AllFit (corners xs) → AllFit (cond b (corners xs) (x ∷ corners xs))
    go true fs = fs
    go false fs = fit_cons x (corners xs) (f 0 (omega arith)) fs

pub map_fits : (l : List ℤ) (labels : List ℕ) → AllFit l → AllFit (map_of l labels)
unfolding map_of
map_fits l labels f =
    fit_map (λ (x : ℕ). get_or (corners l) (place_in x labels) (pos 0)) (λ x. fit_at (corners l) (fit_corners l f) (place_in x labels)) (distinct labels)

-- ---- the new list

place_within : (x : ℕ) (xs : List ℕ) → place_in x xs ≤ length xs
place_within x [] = omega arith
place_within x (y ∷ ys) = go (eqb x y) (place_within x ys)
  where
    go : (b : Bool) → place_in x ys ≤ length ys → cond b 0 (suc (place_in x ys)) ≤ suc (length ys)
    go true h = omega arith
    go false h = omega arith

-- the numbers ks are all at most m
abbrev Up : ℕ → List ℕ → Type 0
Up m ks = (j : ℕ) → get_or ks j 0 ≤ m

up_map : (m : ℕ) (f : ℕ → ℕ) → ((x : ℕ) → f x ≤ m) → (xs : List ℕ) → Up m (map f xs)
up_map m f h [] j = omega arith
up_map m f h (x ∷ xs) zero = h x
up_map m f h (x ∷ xs) (suc j) = up_map m f h xs j

refilled_fits : (l : List ℤ) (ks : List ℕ) → AllFit l → Up 2147483647 ks → AllFit (refilled l ks)
refilled_fits [] ks f u = f
refilled_fits (x ∷ xs) [] f u = fit_cons x (refilled xs []) (f 0 (omega arith)) (refilled_fits xs [] (tail_fits x xs f) u)
refilled_fits (x ∷ xs) (k ∷ ks) f u =
    go (is_end x) (refilled_fits xs (k ∷ ks) (tail_fits x xs f) u) (refilled_fits xs ks (tail_fits x xs f) (λ j. u (suc j)))
  where
    go : (b : Bool) → AllFit (refilled xs (k ∷ ks)) → AllFit (refilled xs ks) → AllFit (cond b (x ∷ refilled xs (k ∷ ks)) (pos k ∷ refilled xs ks))
    go true g h = fit_cons x (refilled xs (k ∷ ks)) (f 0 (omega arith)) g
    go false g h = fit_cons (pos k) (refilled xs ks) (u 0) h

pub new_list_fits : (l : List ℤ) (labels : List ℕ) → AllFit l → length (distinct labels) ≤ 2147483647 → AllFit (new_list_of l labels)
unfolding new_list_of new_numbers
new_list_fits l labels f h =
    refilled_fits l (new_numbers labels) f
    (up_map 2147483647 (λ (x : ℕ). place_in x (distinct labels)) (λ x. omega (arith, place_within x (distinct labels))) labels)

-- ---- texts

entry_short : (x : ℤ) → Fits32 x → length (entry_text x) ≤ 11
entry_short (pos m) f = omega (arith, digits_length (width m) m, width_within_lem 9 m (omega arith))
entry_short (negsuc m) f = omega (arith, digits_length (width (suc m)) (suc m), width_within_lem 9 (suc m) (omega arith))

entries_short : (l : List ℤ) → AllFit l → length (entries_text l) ≤ 13 * length l + 1
entries_short [] f = omega arith
entries_short (x ∷ xs) f =
    let r = entries_short xs (tail_fits x xs f) in
    let e = entry_short x (f 0 (omega arith)) in
    let j = joint_short xs in
    omega (arith, length-append (item_text (x ∷ xs)) (entries_text xs), length-append (entry_text x) (joint xs))
  where
    joint_short : (ys : List ℤ) → length (joint ys) ≤ 2
    joint_short [] = omega arith
    joint_short (y ∷ ys) = omega arith

-- a list's text has at most 13 bytes for each entry of 32 bits, and two brackets
pub text_short : (l : List ℤ) → AllFit l → length (written l) ≤ 13 * length l + 2
text_short l f = omega (arith, entries_short l f)
