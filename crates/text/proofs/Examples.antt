-- The definitions computed on small texts: what document 01 says of each, as one table under a single statement.
--
-- A row is a text, how many entries the lent list has, and the answer.
use mathlib.Core.Path.{◌≡◌, refl}
use Prim.Native.Nat.{ℕ}
use mathlib.Core.List.{List, [], ◌∷◌, map}
use lib.IntN.{pos, negsuc}
use Rattle.text.specs.Reading.{refused, accepted, read_of, read_into}
use Rattle.number.specs.Decimal.{width}
use Rattle.text.specs.Writing.{written, write_of, refused_write, accepted_write}
use Rattle.text.specs.Reading.{ReadAnswer}

pub record Row : Type 0 where
  pub text : List ℕ
  pub room : ℕ
  pub answer : ReadAnswer

-- bytes: 91 [   93 ]   32 space   44 ,   35 #   10 line feed   45 -   43 +   48 to 57 the digits   120 x
pub rows : List Row
rows =
    record { text = []; room = 4; answer = refused 11 0 }
    ∷ record { text = 91 ∷ 93 ∷ []; room = 4; answer = accepted 0 }
    -- [-1 2], and ] in a comment
    ∷ record { text = 91 ∷ 45 ∷ 49 ∷ 32 ∷ 50 ∷ 93 ∷ []; room = 4; answer = accepted 2 }
    ∷ record { text = 91 ∷ 49 ∷ 35 ∷ 93 ∷ []; room = 4; answer = refused 11 4 }
    ∷ record { text = 91 ∷ 49 ∷ 35 ∷ 93 ∷ 10 ∷ 93 ∷ []; room = 4; answer = accepted 1 }
    -- [1][ and [[
    ∷ record { text = 91 ∷ 49 ∷ 93 ∷ 91 ∷ []; room = 4; answer = refused 11 3 }
    ∷ record { text = 91 ∷ 91 ∷ []; room = 4; answer = refused 11 1 }
    -- [+], [0x1]
    ∷ record { text = 91 ∷ 43 ∷ 93 ∷ []; room = 4; answer = refused 11 1 }
    ∷ record { text = 91 ∷ 48 ∷ 120 ∷ 49 ∷ 93 ∷ []; room = 4; answer = refused 11 1 }
    -- [2147483648], [-2147483648]
    ∷ record { text = 91 ∷ 50 ∷ 49 ∷ 52 ∷ 55 ∷ 52 ∷ 56 ∷ 51 ∷ 54 ∷ 52 ∷ 56 ∷ 93 ∷ []; room = 4; answer = refused 12 1 }
    ∷ record { text = 91 ∷ 45 ∷ 50 ∷ 49 ∷ 52 ∷ 55 ∷ 52 ∷ 56 ∷ 51 ∷ 54 ∷ 52 ∷ 56 ∷ 93 ∷ []; room = 4; answer = accepted 1 }
    -- [1,2] and [1,x] with room for one entry
    ∷ record { text = 91 ∷ 49 ∷ 44 ∷ 50 ∷ 93 ∷ []; room = 1; answer = refused 13 3 }
    ∷ record { text = 91 ∷ 49 ∷ 44 ∷ 120 ∷ 93 ∷ []; room = 1; answer = refused 11 3 }
    ∷ []

pub read_table : map (λ r. read_of r.text r.room) rows ≡ map (λ r. r.answer) rows
unfolding rows read_of
read_table = refl

-- [-1 2] into a list of three entries of 7
pub read_values : read_into (91 ∷ 45 ∷ 49 ∷ 32 ∷ 50 ∷ 93 ∷ []) (pos 7 ∷ pos 7 ∷ pos 7 ∷ []) ≡ negsuc 0 ∷ pos 2 ∷ pos 7 ∷ []
unfolding read_into
read_values = refl

-- [10, -2147483648, 0]
pub written_values : written (pos 10 ∷ negsuc 2147483647 ∷ pos 0 ∷ [])
    ≡ 91 ∷ 49 ∷ 48 ∷ 44 ∷ 32 ∷ 45 ∷ 50 ∷ 49 ∷ 52 ∷ 55 ∷ 52 ∷ 56 ∷ 51 ∷ 54 ∷ 52 ∷ 56 ∷ 44 ∷ 32 ∷ 48 ∷ 93 ∷ []
unfolding width
written_values = refl

-- [0] wants three bytes
pub write_table : (write_of (pos 0 ∷ []) 3 ≡ accepted_write 3) × (write_of (pos 0 ∷ []) 2 ≡ refused_write 15 3)
unfolding write_of width
write_table = (refl, refl)
