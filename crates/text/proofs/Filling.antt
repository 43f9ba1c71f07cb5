-- Values written over the start of a list, one at a time.
use mathlib.Core.Path.{◌≡◌, ap, sym, ◌∙◌}
use Prim.Native.Nat.{ℕ, suc, ◌+◌, ◌-◌, ◌≤◌, ◌<◌}
use native.Mathlib.Numerals.{add-one}
use native.Mathlib.Omega.{arith}
use mathlib.Core.List.{List, [], ◌∷◌, ◌++◌, append_assoc}
use lib.IntN.{ℤ, pos}
use lib.ListN.{length, take, drop, set, length-take, take-append-drop}
use lib.Seq.{drop-cons, take-suc-set, drop-set-lt, append_snoc, take-nil, length-take-le}
use Rattle.std.proofs.lemmas.List.{drop-append-le}
use Rattle.list.specs.Written.{over}

module _ (l : List ℤ) (k n : ℕ) where
  -- one value more
  pub fill_turn : (v : ℤ) (vs : List ℤ) → k < n → k < length l
      → take (k + 1) (set l k v) ++ over (take (n - (k + 1)) vs) (drop (k + 1) (set l k v)) ≡ take k l ++ over (take (n - k) (v ∷ vs)) (drop k l)
  fill_turn v vs h i =
      let ws : List ℤ = take (n - suc k) vs in
      let m : n - k ≡ suc (n - suc k) = omega arith in
      rw (add-one k, take-suc-set l k v i, drop-set-lt (suc k) l k v (omega arith), m, drop-cons l k (pos 0) i)
      (append_snoc (take k l) v (over ws (drop (suc k) l)))

  -- nothing more to write
  pub fill_none : take k l ++ over (take (n - k) []) (drop k l) ≡ l
  fill_none = rw (take-nil {A = ℤ} (n - k)) (take-append-drop k l)

  pub fill_end : (vs : List ℤ) → n ≤ k → take k l ++ over (take (n - k) vs) (drop k l) ≡ l
  fill_end vs h = let m : n - k ≡ 0 = omega arith in rw m (take-append-drop k l)

-- the first n entries filled, with the rest of the list behind them
pub fill_part : (l vs : List ℤ) (n : ℕ) → n ≤ length l → over (take (length (take n l)) vs) (take n l) ++ drop n l ≡ over (take n vs) l
fill_part l vs n h =
    let ws : List ℤ = take n vs in
    let m : length (take n l) ≡ n = length-take-le n l h in
    let few : length ws ≤ length (take n l) = omega (arith, length-take n vs) in
    rw m (append_assoc ws (drop (length ws) (take n l)) (drop n l)
    ∙ ap (λ (r : List ℤ). ws ++ r) (sym (drop-append-le (length ws) (take n l) (drop n l) few) ∙ ap (drop (length ws)) (take-append-drop n l)))
