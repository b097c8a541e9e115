-- What an item is to its list, in the words of the printed text.
use Rattle.c_tree.specs.TextItems as Text
use Rattle.c_tree.specs.TextItems.{AnIf, ALocal, ANote, Unprinted, Other}
use Rattle.c_printer.specs.declared.shape.Shape.{Shape}
use Rattle.c_printer.specs.declared.shape.Shape.TheVariants as S

abbrev pub as_printed : Shape → Text.Shape
as_printed S.If = AnIf
as_printed S.Local = ALocal
as_printed S.Note = ANote
as_printed S.Unprinted = Unprinted
as_printed S.Other = Other
