-- The faces' parts and their -1 put together again give the list.
use Prim.Native.Nat.{ℕ, zero, suc, ◌+◌}
use mathlib.Core.Path.{◌≡◌, refl, sym, ◌∙◌, ap}
use mathlib.Core.Bool.{Bool, true, false, cond, false≢true}
use mathlib.Core.List.{List, [], ◌∷◌, map}
use native.Mathlib.Omega.{arith}
use lib.IntN.{ℤ, pos, negsuc}
use lib.ListN.{length}
use Rattle.list.specs.Faces.{is_end, push, runs, Face, faces_from, faces, end, rejoined, ends_closed}
use Rattle.list.proofs.Runs.{runs_first}

pub end_only : (x : ℤ) → is_end x ≡ true → x ≡ end
end_only (pos k) e = absurd (false≢true e)
end_only (negsuc zero) e = refl
end_only (negsuc (suc k)) e = absurd (false≢true e)

rejoined-push : (x : ℤ) (r : List ℤ) (rs : List (List ℤ)) (e : Bool) → rejoined ((x ∷ r) ∷ rs) e ≡ x ∷ rejoined (r ∷ rs) e
rejoined-push x r [] e = refl
rejoined-push x r (s ∷ rs) e = refl

pub runs-rejoined : (l : List ℤ) → rejoined (runs l) (ends_closed l) ≡ l
runs-rejoined [] = refl
runs-rejoined (x ∷ []) = go (is_end x) refl
  where
    go : (b : Bool) → is_end x ≡ b → rejoined (cond b ([] ∷ []) ((x ∷ []) ∷ [])) b ≡ x ∷ []
    go true e = ap {B = List ℤ} (λ y. y ∷ []) (sym (end_only x e))
    go false e = refl
runs-rejoined (x ∷ y ∷ ys) = go (is_end x) refl (runs (y ∷ ys)) (runs_first (y ∷ ys) (omega arith)) (runs-rejoined (y ∷ ys))
  where
    go : (b : Bool) → is_end x ≡ b → (rs : List (List ℤ)) {q : List ℤ} {qs : List (List ℤ)} → rs ≡ q ∷ qs → rejoined rs (ends_closed (y ∷ ys)) ≡ y ∷ ys → rejoined (cond b ([] ∷ rs) (push x rs)) (ends_closed (y ∷ ys)) ≡ x ∷ y ∷ ys
    go b e [] n ih = let z : ◌≡◌ {A = ℕ} 0 1 = cc in absurd (omega arith)
    go true e (r ∷ rs) n ih = rw (ih, sym (end_only x e))
    go false e (r ∷ rs) n ih = rejoined-push x r rs (ends_closed (y ∷ ys)) ∙ ap {B = List ℤ} (λ l. x ∷ l) ih

-- the entries of the faces are the runs
pub entries_runs : (s : ℕ) (rs : List (List ℤ)) → map (λ (f : Face). f.entries) (faces_from s rs) ≡ rs
entries_runs s [] = refl
entries_runs s (r ∷ rs) = ap {B = List (List ℤ)} (λ qs. r ∷ qs) (entries_runs (s + length r + 1) rs)

pub faces-rejoined : (l : List ℤ) → rejoined (map (λ (f : Face). f.entries) (faces l)) (ends_closed l) ≡ l
faces-rejoined l = rw (entries_runs 0 (runs l)) (runs-rejoined l)
