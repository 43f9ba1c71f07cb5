-- Laws of the smallest equivalence that holds a relation.
use mathlib.Core.Path.{◌≡◌, refl, sym, ◌∙◌, ap}
use mathlib.Core.Logic.{◌↔◌}
use Rattle.demands.specs.Joined.{Equivalence, Joined, link, same, back, chain}

module _ {A : Type 0} {R : A → A → Type 0} where
  pub joined_equivalence : Equivalence (Joined R)
  joined_equivalence = record { e_same = λ x y p. same p; e_back = λ x y j. back j; e_chain = λ x y z j k. chain j k }

  -- an equivalence that holds R holds all that R joins
  pub joined_least : {E : A → A → Type 0} → Equivalence E → ((x y : A) → R x y → E x y) → {x y : A} → Joined R x y → E x y
  joined_least q holds (link r) = holds _ _ r
  joined_least q holds (same p) = q.e_same _ _ p
  joined_least q holds (back j) = q.e_back _ _ (joined_least q holds j)
  joined_least q holds (chain j k) = q.e_chain _ _ _ (joined_least q holds j) (joined_least q holds k)

  -- what is equal at the two ends of every link is equal at joined elements
  pub joined_equal : {B : Type 0} (f : A → B) → ((x y : A) → R x y → f x ≡ f y) → {x y : A} → Joined R x y → f x ≡ f y
  joined_equal f h = joined_least (record { e_same = λ x y p. ap f p; e_back = λ x y p. sym p; e_chain = λ x y z p q. p ∙ q }) h

  -- what every link carries both ways is carried between joined elements
  pub joined_carries : (P : A → Type 0) → ((x y : A) → R x y → P x ↔ P y) → {x y : A} → Joined R x y → P x ↔ P y
  joined_carries P h = joined_least carried h
    where
      carried : Equivalence (λ (x y : A). P x ↔ P y)
      carried = record {
        e_same = λ x y e. (λ a. rw e at a, λ a. rw (← e) at a);
        e_back = λ x y b. (b.1, b.0);
        e_chain = λ x y z b c. (λ a. c.0 (b.0 a), λ a. b.1 (c.1 a));
      }

module _ {A : Type 0} {R S : A → A → Type 0} where
  pub joined_through : ((x y : A) → R x y → Joined S x y) → {x y : A} → Joined R x y → Joined S x y
  joined_through h = joined_least joined_equivalence h

module _ {A B : Type 0} (R : A → A → Type 0) (f : A → B) where
  -- links between elements at which f is k
  abbrev pub Within : B → A → A → Type 0
  Within k p q = R p q × (f p ≡ k) × (f q ≡ k)

  -- elements joined by links along which f is equal are joined by links at that value of f
  pub joined_within : ((x y : A) → R x y → f x ≡ f y) → {x y : A} → Joined R x y → Joined (Within (f x)) x y
  joined_within h j = (joined_least both (λ x y r. (h x y r, link (r, refl, sym (h x y r)))) j).1
    where
      both : Equivalence (λ (x y : A). (f x ≡ f y) × Joined (Within (f x)) x y)
      both = record {
        e_same = λ x y p. (ap f p, same p);
        e_back = λ x y b. (sym b.0, back (rw b.0 at b.1));
        e_chain = λ x y z b d. (b.0 ∙ d.0, chain b.1 (rw (← b.0) at d.1));
      }
