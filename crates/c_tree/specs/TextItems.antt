-- The printed text of declarations and statements: one line for each statement (ISO/IEC 9899:2011, 6.7, 6.8).
use Rattle.std.specs.Prelude.{ℕ, ◌+◌, ◌-◌, Bool, true, false, cond, ◌||◌, ◌&&◌, min, pos, List, [], ◌∷◌, map, length, codes, Option, Some, None, slice_get, unwrap_or}
use Rattle.std.specs.Option.{option_map_or}
use Rattle.c_types.specs.declared.kinds.IntKind.TheVariants as K
use Rattle.c_tree.specs.declared.tree.Slot.{Slot}
use Rattle.c_tree.specs.declared.tree.Function.{Function}
use Rattle.c_tree.specs.declared.tree.Expression.{Expression}
use Rattle.c_tree.specs.declared.tree.Test.{Test, Test-F, out-Test}
use Rattle.c_tree.specs.declared.tree.Test.TheOpen as T
use Rattle.c_tree.specs.declared.tree.Selector.{Selector, Selector-F, out-Selector}
use Rattle.c_tree.specs.declared.tree.Selector.TheOpen as S
use Rattle.c_tree.specs.declared.tree.Item.{Item, Item-F, fold-Item}
use Rattle.c_tree.specs.declared.tree.Item.TheOpen as I
use Rattle.c_tree.specs.declared.tree.Section.{Section, fold-Section}
use Rattle.c_tree.specs.TextPieces.{Text, ◌⨾◌, nothing, space, newline, indentation, word, punctuator, number, verbatim, only_if, spaced, comma, joined}
use Rattle.c_tree.specs.TextExpressions.{kind_text, expression_text, expressions_text}

-- ---- declarations (6.7)

-- the length of an array, in its brackets
abbrev pub length_text : Option ℕ → Text
length_text None = nothing
length_text (Some n) = punctuator (codes "[") ⨾ number (Some K.Int) (pos n) ⨾ punctuator (codes "]")

-- values with commas between them, in braces where they are those of an array
abbrev pub values_text : List Slot → Option ℕ → List Expression → Text
values_text slots None es = expressions_text slots es
values_text slots (Some n) es = punctuator (codes "{") ⨾ expressions_text slots es ⨾ punctuator (codes "}")

abbrev pub initialisers_text : List Slot → Option ℕ → Option (List Expression) → Text
initialisers_text slots cells None = nothing
initialisers_text slots cells (Some es) = spaced (codes "=") ⨾ values_text slots cells es

-- a declared name, its length and its initialisers, over the slots that the initialisers name
abbrev pub declarator_text : List Slot → Slot → Option (List Expression) → Text
declarator_text slots s given = word s.name ⨾ length_text s.cells ⨾ initialisers_text slots s.cells given

-- the words before a declared name
abbrev pub kind_words : Slot → Text
kind_words s = only_if s.constant (word (codes "const") ⨾ space) ⨾ kind_text s.kind

abbrev pub declaration_text : List Slot → Slot → Option (List Expression) → Text
declaration_text slots s given = kind_words s ⨾ space ⨾ declarator_text slots s given

-- ---- the parts of items

-- The depth of a list in one of this depth. From 20 on lines go no further to the right.
abbrev pub deeper : ℕ → ℕ
deeper depth = min (depth + 1) 20

abbrev pub line : ℕ → Text → Text
line depth t = indentation depth ⨾ t ⨾ newline

-- Tests and selectors that the rewriting made have no text.
abbrev pub test_step : List Slot → {X : Type 0} → Test-F X → Text
test_step slots (T.Source e) = expression_text slots e 1
test_step slots _ = nothing

abbrev pub test_text : List Slot → Test → Text
test_text slots t = punctuator (codes "(") ⨾ test_step slots (out-Test t) ⨾ punctuator (codes ")")

abbrev pub selector_step : List Slot → {X : Type 0} → Selector-F X → Text
selector_step slots (S.Source e) = expression_text slots e 1
selector_step slots _ = nothing

abbrev pub selector_text : List Slot → Selector → Text
selector_text slots s = punctuator (codes "(") ⨾ selector_step slots (out-Selector s) ⨾ punctuator (codes ")")

-- the second or third part of a `for`, or the value of a `return`, after a space
abbrev pub part_text : List Slot → Option Expression → Text
part_text slots None = nothing
part_text slots (Some e) = space ⨾ expression_text slots e 1

-- the name of a label, empty where there is no such label
abbrev pub label_name : Function → ℕ → List ℕ
label_name f l = unwrap_or (slice_get f.labels l) []

-- ---- items, in a function

-- What an item is to the list or the section that it stands in.
pub data Shape : Type 0 where
  AnIf : Shape
  ALocal : Shape
  ANote : Shape
  -- Arm, Leap, Land and Arrival, which have no text
  Unprinted : Shape
  Other : Shape

abbrev pub is_if : Shape → Bool
is_if AnIf = true
is_if _ = false

abbrev pub is_local : Shape → Bool
is_local ALocal = true
is_local _ = false

abbrev pub is_note : Shape → Bool
is_note ANote = true
is_note _ = false

abbrev pub is_printed : Shape → Bool
is_printed Unprinted = false
is_printed _ = true

abbrev pub shape_of : {X Y : Type 0} → Item-F X Y → Shape
shape_of (I.If t a b) = AnIf
shape_of (I.Local k given) = ALocal
shape_of (I.Note bytes) = ANote
shape_of (I.Arm l c) = Unprinted
shape_of (I.Leap l) = Unprinted
shape_of (I.Land l) = Unprinted
shape_of (I.Arrival c) = Unprinted
shape_of _ = Other

pub record Printed : Type 0 where
  pub shape : Shape
  -- as the first part of a `for`
  pub head : Text
  -- as one more declarator of the first part of a `for`
  pub further : Text
  -- at a depth, without the spaces before the first line
  pub lines : ℕ → Text

-- a section, given whether it is the last of its switch, at the depth of the switch
abbrev pub PrintedSection : Type 0
PrintedSection = Bool → ℕ → Text

-- the declaration of a slot, empty where there is no such slot
abbrev pub local_text : Function → ℕ → Option (List Expression) → Text
local_text f k given = option_map_or (λ (s : Slot). declaration_text f.slots s given) (slice_get f.slots k) nothing

-- one more declarator of a declaration, empty where there is no such slot
abbrev pub further_text : Function → ℕ → Option (List Expression) → Text
further_text f k given =
    option_map_or (λ (s : Slot). comma ⨾ declarator_text f.slots s given) (slice_get f.slots k) nothing

abbrev pub head_of : {X Y : Type 0} → Function → Item-F X Y → Text
head_of f (I.Local k given) = local_text f k given
head_of f (I.Evaluate e) = expression_text f.slots e 1
head_of f _ = nothing

abbrev pub further_of : {X Y : Type 0} → Function → Item-F X Y → Text
further_of f (I.Local k given) = further_text f k given
further_of f _ = nothing

-- the first part of a `for`: an expression, or the declarators of one declaration
abbrev pub first_text : List Printed → Text
first_text [] = nothing
first_text (x ∷ xs) = x.head ⨾ joined (map (λ (y : Printed). y.further) xs)

abbrev pub item_text : Printed → ℕ → Text
item_text x depth = only_if (is_printed x.shape) (indentation depth) ⨾ x.lines depth

-- the lines of a list at a depth
abbrev pub list_text : List Printed → ℕ → Text
list_text xs depth = joined (map (λ x. item_text x depth) xs)

-- a list in braces, in a construct at a depth
abbrev pub braced : List Printed → ℕ → Text
braced xs depth =
    punctuator (codes "{") ⨾ newline ⨾ list_text xs (deeper depth) ⨾ indentation depth ⨾ punctuator (codes "}")

abbrev pub is_empty : {A : Type 0} → List A → Bool
is_empty [] = true
is_empty _ = false

-- whether a list is one `if`
abbrev pub is_lone_if : List Printed → Bool
is_lone_if (x ∷ xs) = is_empty xs && is_if x.shape
is_lone_if [] = false

-- an else-list, which goes on as `else if` where it is one `if`
abbrev pub else_text : List Printed → ℕ → Text
else_text [] depth = newline
else_text (x ∷ xs) depth =
    space ⨾ word (codes "else") ⨾ space ⨾
    cond (is_lone_if (x ∷ xs)) (x.lines depth) (braced (x ∷ xs) depth ⨾ newline)

abbrev pub sections_text : List PrintedSection → ℕ → Text
sections_text [] depth = nothing
sections_text (s ∷ ss) depth = s (is_empty ss) depth ⨾ sections_text ss depth

abbrev pub lines_of : Function → Item-F Printed PrintedSection → ℕ → Text
lines_of f (I.Evaluate e) depth = expression_text f.slots e 1 ⨾ punctuator (codes ";") ⨾ newline
lines_of f (I.Return value) depth = word (codes "return") ⨾ part_text f.slots value ⨾ punctuator (codes ";") ⨾ newline
lines_of f (I.If t a b) depth =
    word (codes "if") ⨾ space ⨾ test_text f.slots t ⨾ space ⨾ braced a depth ⨾ else_text b depth
lines_of f (I.While t a) depth =
    word (codes "while") ⨾ space ⨾ test_text f.slots t ⨾ space ⨾ braced a depth ⨾ newline
lines_of f (I.Do a t) depth =
    word (codes "do") ⨾ space ⨾ braced a depth ⨾ space ⨾ word (codes "while") ⨾ space ⨾ test_text f.slots t ⨾
    punctuator (codes ";") ⨾ newline
lines_of f (I.For first t u a) depth =
    word (codes "for") ⨾ space ⨾ punctuator (codes "(") ⨾ first_text first ⨾ punctuator (codes ";") ⨾
    part_text f.slots t ⨾ punctuator (codes ";") ⨾ part_text f.slots u ⨾ punctuator (codes ")") ⨾ space ⨾
    braced a depth ⨾ newline
lines_of f (I.Switch s sections) depth =
    word (codes "switch") ⨾ space ⨾ selector_text f.slots s ⨾ space ⨾ punctuator (codes "{") ⨾ newline ⨾
    sections_text sections depth ⨾ indentation depth ⨾ punctuator (codes "}") ⨾ newline
lines_of f (I.Block a) depth = braced a depth ⨾ newline
lines_of f (I.Local k given) depth = local_text f k given ⨾ punctuator (codes ";") ⨾ newline
lines_of f I.Break depth = word (codes "break") ⨾ punctuator (codes ";") ⨾ newline
lines_of f I.Continue depth = word (codes "continue") ⨾ punctuator (codes ";") ⨾ newline
lines_of f (I.Goto l) depth = word (codes "goto") ⨾ space ⨾ word (label_name f l) ⨾ punctuator (codes ";") ⨾ newline
lines_of f (I.Mark l) depth = word (label_name f l) ⨾ punctuator (codes ":") ⨾ space ⨾ punctuator (codes ";") ⨾ newline
lines_of f (I.Note bytes) depth = verbatim bytes ⨾ newline
lines_of f _ depth = nothing

abbrev pub item_step : Function → Item-F Printed PrintedSection → Printed
item_step f x = record { shape = shape_of x; head = head_of f x; further = further_of f x; lines = lines_of f x }

-- ---- sections (6.8.1)

abbrev pub case_line : List Slot → ℕ → Expression → Text
case_line slots depth c = line depth (word (codes "case") ⨾ space ⨾ expression_text slots c 3 ⨾ punctuator (codes ":"))

abbrev pub default_line : ℕ → Text
default_line depth = line depth (word (codes "default") ⨾ punctuator (codes ":"))

-- a null statement
abbrev pub null_line : ℕ → Text
null_line depth = line depth (punctuator (codes ";"))

-- whether the first item that is no Note is a Local, before which no case label can stand
abbrev pub begins_with_local : List Printed → Bool
begins_with_local [] = false
begins_with_local (x ∷ xs) = cond (is_note x.shape) (begins_with_local xs) (is_local x.shape)

abbrev pub ends_in_note : List Printed → Bool
ends_in_note xs = option_map_or (λ (x : Printed). is_note x.shape) (slice_get xs (length xs - 1)) false

-- What stands after the list of a section. A case label can't stand before `}`.
abbrev pub section_end : Bool → List Printed → Bool → ℕ → Text
section_end true xs last depth = line depth (word (codes "break") ⨾ punctuator (codes ";"))
section_end false xs last depth = only_if ((last && is_empty xs) || ends_in_note xs) (null_line depth)

abbrev pub section_step : Function → I.Section-F Printed PrintedSection → PrintedSection
section_step f s last depth =
    joined (map (case_line f.slots depth) s.cases) ⨾ only_if s.default (default_line depth) ⨾
    only_if (begins_with_local s.list) (null_line (deeper depth)) ⨾ list_text s.list (deeper depth) ⨾
    section_end s.ends s.list last (deeper depth)

abbrev pub printed : Function → Item → Printed
printed f x = fold-Item Printed PrintedSection (item_step f) (section_step f) x

abbrev pub printed_section : Function → Section → PrintedSection
printed_section f s = fold-Section Printed PrintedSection (item_step f) (section_step f) s
