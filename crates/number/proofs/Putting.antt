-- Bytes put at a place of a buffer: one at a time, one piece behind another, and the buffer's length.
use mathlib.Core.Path.{◌≡◌, refl, ap, sym, ◌∙◌}
use Prim.Native.Nat.{ℕ, zero, suc, ◌+◌, ◌-◌, ◌/◌, ◌%◌, ◌≤◌, ◌<◌}
use native.Mathlib.Nat.{add-zero, add_assoc}
use native.Mathlib.Numerals.{add-one}
use native.Mathlib.Omega.{arith}
use mathlib.Core.List.{List, [], ◌∷◌, ◌++◌, append_assoc}
use lib.ListN.{length, take, drop, set, length-append, length-take, length-drop, take-append-drop}
use lib.Seq.{length-take-le, take-set-le, set_split, drop_at, take_at, drop-drop, append_snoc}
use Rattle.number.specs.Bytes.{zero_byte}
use Rattle.number.specs.Decimal.{low_digits}
use Rattle.number.specs.Steps.{put}

pub put_none : (at : ℕ) (t : List ℕ) → put at [] t ≡ t
put_none at t = rw (add-zero at) (take-append-drop at t)

pub put-length : (at : ℕ) (vs t : List ℕ) → at + length vs ≤ length t → length (put at vs t) ≡ length t
put-length at vs t h =
    simp (length-append, length-take, length-drop) (omega arith)

-- a piece behind another one
pub put_behind : (at : ℕ) (vs ws t : List ℕ) → at + length vs + length ws ≤ length t → put (at + length vs) ws (put at vs t) ≡ put at (vs ++ ws) t
put_behind at vs ws t h =
    let n : length (take at t ++ vs) ≡ at + length vs = length-append (take at t) vs ∙ ap (λ (k : ℕ). k + length vs) (length-take-le at t (omega arith)) in
    let r : List ℕ = drop (at + length vs) t in
    let p : put at vs t ≡ (take at t ++ vs) ++ r = sym (append_assoc (take at t) vs r) in
    let front : take (at + length vs) (put at vs t) ≡ take at t ++ vs = ap (take (at + length vs)) p ∙ take_at (take at t ++ vs) r (at + length vs) n in
    let back : drop (at + length vs + length ws) (put at vs t) ≡ drop (at + length (vs ++ ws)) t =
    sym (drop-drop (length ws) (at + length vs) (put at vs t))
    ∙ ap (λ (x : List ℕ). drop (length ws) (drop (at + length vs) x)) p
    ∙ ap (drop (length ws)) (drop_at (take at t ++ vs) r (at + length vs) n)
    ∙ drop-drop (length ws) (at + length vs) t
    ∙ ap (λ (k : ℕ). drop k t) (add_assoc at (length vs) (length ws) ∙ ap (λ (k : ℕ). at + k) (sym (length-append vs ws))) in
    ap (λ (x : List ℕ). x ++ (ws ++ drop (at + length vs + length ws) (put at vs t))) front
    ∙ ap (λ (x : List ℕ). (take at t ++ vs) ++ (ws ++ x)) back
    ∙ append_assoc (take at t) vs (ws ++ drop (at + length (vs ++ ws)) t)
    ∙ ap (λ (x : List ℕ). take at t ++ x) (sym (append_assoc vs ws (drop (at + length (vs ++ ws)) t)))

-- one byte stored is one byte put
pub put_byte : (at : ℕ) (v : ℕ) (t : List ℕ) → at < length t → set t at v ≡ put at (v ∷ []) t
put_byte at v t h = set_split t at v h ∙ rw (add-one at)

-- a byte stored behind the piece first
pub put_last : (at : ℕ) (vs : List ℕ) (v : ℕ) (t : List ℕ) → at + length vs < length t
    → put at vs (set t (at + length vs) v) ≡ put at (vs ++ v ∷ []) t
put_last at vs v t h =
    let k : ℕ = at + length vs in
    let d : drop k (set t k v) ≡ v ∷ drop (suc k) t =
    ap (drop k) (set_split t k v h) ∙ drop_at (take k t) (v ∷ drop (suc k) t) k (length-take-le k t (omega arith)) in
    let m : at + length (vs ++ v ∷ []) ≡ suc k = omega (arith, length-append vs (v ∷ [])) in
    rw (take-set-le at t k v (omega arith), d, m) (ap (λ (x : List ℕ). take at t ++ x) (sym (append_snoc vs v (drop (suc k) t))))

pub digits_length : (k n : ℕ) → length (low_digits k n) ≡ k
digits_length zero n = refl
digits_length (suc k) n = length-append (low_digits k (n / 10)) ((zero_byte + n % 10) ∷ []) ∙ rw (digits_length k (n / 10)) (add-one k)

-- a turn of the loop that puts digits: the last one, and then those in front of it
pub put_digit : (at k n : ℕ) (t : List ℕ) → 0 < k → at + k ≤ length t
    → put at (low_digits (k - 1) (n / 10)) (set t (at + (k - 1)) (zero_byte + n % 10)) ≡ put at (low_digits k n) t
put_digit at zero n t p h = absurd (omega arith)
put_digit at (suc k) n t p h =
    let e : length (low_digits k (n / 10)) ≡ k = digits_length k (n / 10) in
    let d : suc k - 1 ≡ k = omega arith in
    rw d
    (ap (λ (j : ℕ). put at (low_digits k (n / 10)) (set t (at + j) (zero_byte + n % 10))) (sym e)
    ∙ put_last at (low_digits k (n / 10)) (zero_byte + n % 10) t (rw e (omega arith)))
