-- `write_words` meets its contract: the words written and those of the faces left make up the words of the list's uses.
use Rattle.list.specs.Cursor.{faces_left}
use Rattle.edges.proofs.Walk.{Wording}
use Rattle.edges.proofs.write_words.Given as goal

abbrev pub invariant-loop-face : goal.invariant-loop-face
invariant-loop-face l = Wording l.list l.at (faces_left l.face-iterator) l.keys l.words
