-- The work buffer of a valid list once its corners are grouped: it is what the passes over it ask for.
use Prim.Native.Nat.{ℕ, suc, ◌+◌, ◌*◌, ◌≤◌, ◌<◌, ◌^◌}
use mathlib.Core.Path.{◌≡◌, refl, sym, ◌∙◌, ap}
use mathlib.Core.List.{List, [], ◌∷◌}
use native.Mathlib.Omega.{arith}
use lib.IntN.{ℤ, pos}
use lib.ListN.{length, get_or}
use Rattle.list.specs.Faces.{runs, corners, num}
use Rattle.list.specs.Check.{ValidFace, Valid}
use Rattle.order.specs.Choose.{All}
use Rattle.order.proofs.Lists.{all_of, all_at, all_append}
use Rattle.edges.specs.Uses.{uses, use_at}
use Rattle.edges.specs.Table.{table_of}
use Rattle.edges.proofs.Uses.{joined, corners_joined, from_at}
use Rattle.edges.proofs.Faces.{use_proper}
use Rattle.edges.proofs.Table.{table_vertex}
use Rattle.groups.specs.Forest.{at, VertexWords, Grouped}
use Rattle.groups.proofs.Counting.{word_kept}
use Rattle.groups.proofs.JoinLoop.{table_kept}
use Rattle.groups.proofs.Grouping.{few_corners, words_of_table}
use Rattle.renumber.specs.Numbered.{CornerWords}

-- a vertex is below a greater number too
words_more : (w : List ℕ) (c n m : ℕ) → n ≤ m → VertexWords w c n → VertexWords w c m
words_more w c n m h W = record { table = W.table; few = W.few; inside = λ e i. omega (arith, W.inside e i) }

-- a corner's entry is a vertex
abbrev Natural : ℤ → Type 0
Natural x = x ≡ pos (num x)

faces_natural : (n : ℕ) (rs : List (List ℤ)) → ((k : ℕ) → k < length rs → ValidFace n (get_or rs k [])) → All Natural (joined rs)
faces_natural n [] v = tt
faces_natural n (r ∷ rs) v =
    all_append Natural r (joined rs) (all_of Natural (pos 0) r (λ i h. let x = ((v 0 (omega arith)).inside i h).1 in x ∙ ap (λ (z : ℤ). pos (num z)) (sym x))) (faces_natural n rs (λ k h. v (suc k) (omega arith)))

pub corner_entry : (l : List ℤ) (n : ℕ) → Valid l n → (e : ℕ) → e < length (corners l) → get_or (corners l) e (pos 0) ≡ pos (num (get_or (corners l) e (pos 0)))
corner_entry l n ok e h = all_at Natural (pos 0) (corners l) (rw (corners_joined l) (faces_natural n (runs l) ok.each_face)) e h

module _ (l : List ℤ) (n c : ℕ) (ok : Valid l n) (q : c ≡ length (corners l)) where
  pub words_of_groups : (w : List ℕ) → Grouped l c w → VertexWords w c n
  words_of_groups w G =
      record {
        table = table_kept (table_of l) c w G.front (G.size ∙ sym (words_of_table l n c ok q (table_of l) refl).long) (words_of_table l n c ok q (table_of l) refl);
        few = few_corners l n c ok q;
        inside = inside;
      }
    where
      inside : (e : ℕ) → e < c → at w (c + e) < n
      inside e h =
          let u : e < length (uses l) = omega (arith, G.count) in
          let v : at (table_of l) (c + e) ≡ (use_at l e).from = rw G.count (table_vertex l e u) in
          omega (arith, word_kept (table_of l) w (3 * c) (c + e) G.front (omega arith), v, (use_proper l n ok e u).from_in)

  -- the vertices of the table are the list's entries
  pub corner_words_lem : (w : List ℕ) → Grouped l c w → CornerWords l c w
  corner_words_lem w G =
      record {
        count = sym q;
        words = words_more w c n (2 ^ 31) (omega (arith, ok.few_vertices)) (words_of_groups w G);
        entries = λ e h.
            let u : e < length (uses l) = omega (arith, G.count) in
            let v : at (table_of l) (c + e) ≡ (use_at l e).from = rw G.count (table_vertex l e u) in
            corner_entry l n ok e (omega arith) ∙ ap pos (sym (word_kept (table_of l) w (3 * c) (c + e) G.front (omega arith) ∙ v ∙ from_at l e));
      }
