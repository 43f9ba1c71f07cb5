-- The printed cases of document 01, "The program", and the largest entry of 32 bits, whose n is worked out in 64 bits.
use Prim.Native.Nat.{ℕ}
use Prim.Native.Char.{code}
use Prim.Native.String as Text
use mathlib.Core.Path.{◌≡◌, refl}
use mathlib.Core.List.{List, [], ◌∷◌}
use Rattle.list.specs.Check.{check_of, face_fault, check_faces}
use Rattle.text.specs.Reading.{read_of}
use Rattle.number.specs.Decimal.{width}
use Rattle.groups.specs.Groups.{group_labels, fan_labels, links, labels_of}
use Rattle.renumber.specs.Renumber.{new_list_of, new_numbers, map_of}
use Rattle.fans.specs.Classes.{classes_of, class_of, fans_at, singular_vertex_count}
use Rattle.cut.specs.Cut.{cut_of}
use Rattle.program.specs.Printed.{cut_answer, printed_cut, printed}

-- the bytes of a text whose characters are of one byte each
abbrev bytes : Text.String → List ℕ
bytes Text.[] = []
bytes (Text.◌∷◌ c s) = code c ∷ bytes s

pub touching_pair : printed (bytes "[0 1 2 -1 0 3 4 -1]") ≡ bytes "0 0 2 6 6 0 1\n[0, 1, 2, -1, 3, 4, 5, -1]\n[0, 1, 2, 0, 3, 4]\n"
unfolding printed printed_cut cut_answer read_of width cut_of check_of check_faces face_fault group_labels fan_labels links labels_of new_list_of new_numbers map_of classes_of class_of fans_at singular_vertex_count
touching_pair = refl

pub index_twice : printed (bytes "[0 1 2 -1 0 3 0 -1]") ≡ bytes "5 6 0 0 0 0 0\n"
unfolding printed printed_cut cut_answer read_of width cut_of check_of check_faces face_fault
index_twice = refl

pub empty_input : printed [] ≡ bytes "11 0 0 0 0 0 0\n"
unfolding printed read_of width
empty_input = refl

pub greatest_entry : printed (bytes "[2147483647]") ≡ bytes "2 0 0 0 0 0 0\n"
unfolding printed printed_cut cut_answer read_of width cut_of check_of
greatest_entry = refl
