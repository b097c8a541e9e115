-- The printed text of a program: its directives, comments and declarations in the order of the file (ISO/IEC 9899:2011, 6.9).
use Rattle.std.specs.Prelude.{ℕ, Bool, List, [], ◌∷◌, map, take, codes, Option, Some, None}
use Rattle.c_tree.specs.declared.tree.Slot.{Slot}
use Rattle.c_tree.specs.declared.tree.Function.{Function}
use Rattle.c_tree.specs.declared.tree.EnumItem.{EnumItem}
use Rattle.c_tree.specs.declared.tree.GlobalVariable.{GlobalVariable}
use Rattle.c_tree.specs.declared.tree.Expression.{Expression}
use Rattle.c_tree.specs.declared.tree.Item.{Item}
use Rattle.c_tree.specs.declared.tree.Top.{Top}
use Rattle.c_tree.specs.declared.tree.Top.TheVariants as T
use Rattle.c_tree.specs.declared.tree.Program.{Program}
use Rattle.c_tree.specs.TextPieces.{Piece, Text, ◌⨾◌, nothing, space, newline, word, punctuator, verbatim, only_if, spaced, listed, joined, bytes_of}
use Rattle.c_tree.specs.TextExpressions.{result_text, expression_text}
use Rattle.c_tree.specs.TextItems.{kind_words, declaration_text, braced, printed}

-- the value that an enumerator is given (6.7.2.2)
abbrev pub given_text : Option Expression → Text
given_text None = nothing
given_text (Some e) = spaced (codes "=") ⨾ expression_text [] e 3

abbrev pub enumerator_text : EnumItem → Text
enumerator_text x = word x.name ⨾ given_text x.given

abbrev pub enum_start : Text
enum_start = word (codes "enum") ⨾ space ⨾ punctuator (codes "{") ⨾ space

abbrev pub enum_end : Text
enum_end = space ⨾ punctuator (codes "}") ⨾ punctuator (codes ";") ⨾ newline

abbrev pub enum_text : List EnumItem → Text
enum_text xs = enum_start ⨾ listed (map enumerator_text xs) ⨾ enum_end

abbrev pub static_text : Bool → Text
static_text file_only = only_if file_only (word (codes "static") ⨾ space)

abbrev pub global_text : GlobalVariable → Text
global_text g = static_text g.file_only ⨾ declaration_text [] g.slot g.init ⨾ punctuator (codes ";") ⨾ newline

-- ---- functions (6.9.1)

-- the name of a parameter after a space, or nothing for the empty name
abbrev pub parameter_name : List ℕ → Text
parameter_name [] = nothing
parameter_name (b ∷ bs) = space ⨾ word (b ∷ bs)

-- the brackets of an array parameter
abbrev pub array_brackets : Option ℕ → Text
array_brackets None = nothing
array_brackets (Some n) = punctuator (codes "[") ⨾ punctuator (codes "]")

abbrev pub parameter_text : Slot → Text
parameter_text s = kind_words s ⨾ parameter_name s.name ⨾ array_brackets s.cells

abbrev pub parameters_text : List Slot → Text
parameters_text [] = word (codes "void")
parameters_text (s ∷ ss) = listed (map parameter_text (s ∷ ss))

-- the lines from the end of the brackets on: a body, or the end of a prototype
abbrev pub body_text : Function → Option (List Item) → Text
body_text f None = punctuator (codes ";")
body_text f (Some body) = space ⨾ braced (map (printed f) body) 0

-- the words before the parameters
abbrev pub head_text : Function → Text
head_text f = static_text f.file_only ⨾ result_text f.result ⨾ space ⨾ word f.name

abbrev pub function_text : Function → Text
function_text f =
    head_text f ⨾ punctuator (codes "(") ⨾ parameters_text (take f.params f.slots) ⨾ punctuator (codes ")") ⨾
    body_text f f.body ⨾ newline

abbrev pub top_text : Top → Text
top_text (T.Include bytes) = verbatim bytes ⨾ newline
top_text (T.Enum xs) = enum_text xs
top_text (T.Global g) = global_text g
top_text (T.Function f) = function_text f
top_text (T.Note bytes) = verbatim bytes ⨾ newline

abbrev pub program_text : Program → Text
program_text p = joined (map top_text p.tops)

-- the pieces of the printed text
abbrev pub pieces_of : Program → List Piece
pieces_of p = program_text p []

-- the printed text
abbrev pub text_of : Program → List ℕ
text_of p = bytes_of (program_text p)
