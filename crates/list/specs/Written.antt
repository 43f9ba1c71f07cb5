-- A lent buffer that is written from its start on; what follows is as it was.
--
--   over xs old            the buffer old with xs written at its start
use Rattle.std.specs.Prelude.{List, ◌++◌, length, drop}

abbrev pub over {ℓ} : {A : Type ℓ} → List A → List A → List A
over xs old = xs ++ drop (length xs) old
