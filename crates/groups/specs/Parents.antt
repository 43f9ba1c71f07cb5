-- The parents as the joins have them, lent: they stay where they are, and their groups have become others.
--
--   Joins old new g    the parents old have become new, which hold the groups with the labels g of those before
use Rattle.std.specs.Prelude.{◌≡◌, ℕ, List}
use Rattle.groups.specs.declared.parents.Parents.{Parents}
use Rattle.groups.specs.Forest.{Regrouped}

pub record Joins (old new : Parents) (g : List ℕ → List ℕ) : Type 0 where
  pub lent : new.of.ghost_name ≡ old.of.ghost_name
  pub regrouped : Regrouped old.of.now new.of.now 0 g
