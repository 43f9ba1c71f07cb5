-- Corners that are joined, directly or through others (document 01, "Edges, fans and classes", 2 and 4).
--
--   Equivalence E   E is an equivalence
--   Joined R x y    x and y are joined by the smallest equivalence that holds R
--   Side            a corner's two sides: of the two edges of its face there, the one that starts at it and the one that stops at it
--   opposite s      the corner's other side
use Rattle.std.specs.Prelude.{◌≡◌}

pub record Equivalence {A : Type 0} (E : A → A → Type 0) : Type 0 where
  pub e_same : (x y : A) → x ≡ y → E x y
  pub e_back : (x y : A) → E x y → E y x
  pub e_chain : (x y z : A) → E x y → E y z → E x z

pub data Joined {A : Type 0} (R : A → A → Type 0) : A → A → Type 0 where
  link : {x y : A} → R x y → Joined R x y
  same : {x y : A} → x ≡ y → Joined R x y
  back : {x y : A} → Joined R x y → Joined R y x
  chain : {x y z : A} → Joined R x y → Joined R y z → Joined R x z

pub data Side : Type 0 where
  starts : Side
  stops : Side

abbrev pub opposite : Side → Side
opposite starts = stops
opposite stops = starts
