-- The work buffer of a valid list once its corners are grouped: its groups are the fans of the list.
use Prim.Native.Nat.{ℕ, ◌*◌, ◌<◌, ◌^◌}
use mathlib.Core.Path.{◌≡◌, sym, ◌∙◌, ap}
use mathlib.Core.List.{List}
use native.Mathlib.Omega.{arith}
use lib.IntN.{ℤ}
use lib.ListN.{length, take}
use Rattle.list.specs.Faces.{corners}
use Rattle.list.specs.Check.{Valid}
use Rattle.list.proofs.Checking.{corners_fit}
use Rattle.edges.specs.Uses.{uses}
use Rattle.edges.specs.Table.{table_of}
use Rattle.edges.proofs.Uses.{uses_long}
use Rattle.groups.specs.Groups.{labels_of, fan_labels}
use Rattle.groups.specs.Forest.{Forest, TableWords, Grouped, table_links}
use Rattle.groups.proofs.TableLinks.{table_words, table_fans}

module _ (l : List ℤ) (n c : ℕ) (ok : Valid l n) (q : c ≡ length (corners l)) where
  pub few_corners : c < 2 ^ 30
  few_corners = omega (arith, corners_fit l, ok.few_entries)

  uses_are : c ≡ length (uses l)
  uses_are = q ∙ sym (uses_long l)

  module _ (w : List ℕ) (table : w ≡ table_of l) where
    pub words_of_table : TableWords w c
    words_of_table = rw (table, uses_are) (table_words l)

    pub grouped_of_table : (w' : List ℕ) → length w' ≡ 4 * c → (take (3 * c) w' ≡ take (3 * c) w) × Forest w' (3 * c) (labels_of c (table_links w c)) → Grouped l c w'
    grouped_of_table w' s g =
        record {
          count = uses_are;
          size = s;
          front = g.0 ∙ ap (take (3 * c)) table;
          forest = rw (table, labels) at g.1;
        }
      where
        labels : labels_of c (table_links (table_of l) c) ≡ fan_labels l
        labels = rw uses_are (table_fans l)
