-- The derivations that the printed text of declarations and statements has (ISO/IEC 9899:2011, 6.7, 6.8).
use Rattle.std.specs.Prelude.{ℕ, Bool, true, false, cond, ◌||◌, ◌&&◌, List, [], ◌∷◌, map, Option, Some, None, option_map, slice_get}
use Rattle.std.specs.Option.{option_map_or}
use Rattle.c_tree.specs.declared.tree.Slot.{Slot}
use Rattle.c_tree.specs.ExpressionTrees.{ExpressionTree}
use Rattle.c_tree.specs.TestTrees.{TestTree, Source, SelectorTree, Selects}
use Rattle.c_tree.specs.Trees.{Tree, Forest, Nil, Then, Sections, NoSection, Section}
use Rattle.c_tree.specs.Trees as t
use Rattle.c_grammar.specs.Expressions.{Expression, Assignment, Conditional, Only, Single, Number, Signed}
use Rattle.c_grammar.specs.Statements.{Size, NoSize, Sized, Initialiser, OneValue, ValueList, Declarator, Declared, Local, Locals, Label, NameLabel, CaseLabel, DefaultLabel, ForStart, StartLocal, StartValue, Braces, Items, NoItems, LocalItem, StatementItem, Statement, Labelled, Unlabelled, Compound, Simple, If, IfElse, While, DoWhile, For, Switch, Goto, Break, Continue, Return}
use Rattle.print_laws.specs.ExpressionDerivations.{type_of, of_unary, as_assignment, as_conditional, derivation_of}

-- ---- declarations

-- an expression where the grammar needs an assignment, and where it needs a conditional
abbrev pub assignment_of : ExpressionTree → Assignment
assignment_of x = as_assignment (derivation_of x)

abbrev pub conditional_of : ExpressionTree → Conditional
conditional_of x = as_conditional (derivation_of x)

abbrev pub size_of : Option ℕ → Size
size_of None = NoSize
size_of (Some n) = Sized (Only (Single Number))

-- the value of a number, or those of an array
abbrev pub value_of : Option ℕ → Option (List ExpressionTree) → Option Initialiser
value_of None (Some (x ∷ xs)) = Some (OneValue (assignment_of x))
value_of (Some n) (Some (x ∷ xs)) = Some (ValueList (assignment_of x) (map assignment_of xs) false)
value_of cells _ = None

abbrev pub declarator_of : Slot → Option (List ExpressionTree) → Declarator
declarator_of s given = Declared (size_of s.cells) (value_of s.cells given)

-- no declarator and no declaration, where a slot is missing
abbrev pub no_declarator : Declarator
no_declarator = Declared NoSize None

abbrev pub no_local : Local
no_local = Locals false Signed no_declarator []

abbrev pub slot_declarator : List Slot → ℕ → Option (List ExpressionTree) → Declarator
slot_declarator slots k given = option_map_or (λ (s : Slot). declarator_of s given) (slice_get slots k) no_declarator

-- the declaration of a variable, with further declarators
abbrev pub declaration_of : Slot → Option (List ExpressionTree) → List Declarator → Local
declaration_of s given others = Locals s.constant (type_of s.kind) (declarator_of s given) others

abbrev pub slot_declaration : List Slot → ℕ → Option (List ExpressionTree) → List Declarator → Local
slot_declaration slots k given others = option_map_or (λ (s : Slot). declaration_of s given others) (slice_get slots k) no_local

-- ---- the parts of statements

abbrev pub no_expression : Expression
no_expression = of_unary Number

abbrev pub test_of : TestTree → Expression
test_of (Source e) = derivation_of e
test_of _ = no_expression

abbrev pub selector_of : SelectorTree → Expression
selector_of (Selects e) = derivation_of e
selector_of _ = no_expression

-- further declarators of the first part of a `for`
abbrev pub declarators_of : List Slot → Forest → List Declarator
declarators_of slots Nil = []
declarators_of slots (Then (t.Local k given) xs) = slot_declarator slots k given ∷ declarators_of slots xs
declarators_of slots (Then _ xs) = declarators_of slots xs

abbrev pub start_of : List Slot → Forest → ForStart
start_of slots (Then (t.Evaluate e) xs) = StartValue (Some (derivation_of e))
start_of slots (Then (t.Local k given) xs) = StartLocal (slot_declaration slots k given (declarators_of slots xs))
start_of slots _ = StartValue None

-- ---- the labels of sections (6.8.1)

abbrev pub case_labels : List ExpressionTree → List Label → List Label
case_labels [] ls = ls
case_labels (x ∷ xs) ls = CaseLabel (conditional_of x) ∷ case_labels xs ls

abbrev pub default_label : Bool → List Label
default_label false = []
default_label true = DefaultLabel ∷ []

-- the labels of a section
abbrev pub labels_of : List ExpressionTree → Bool → List Label
labels_of cases default = case_labels cases (default_label default)

abbrev pub behind_labels : List Label → Statement → Statement
behind_labels [] s = s
behind_labels (l ∷ ls) s = Labelled l (behind_labels ls s)

-- the labels stand before the first statement
abbrev pub labelled : List Label → Items → Items
labelled ls (StatementItem s xs) = StatementItem (behind_labels ls s) xs
labelled ls xs = xs

-- `;` in front, where a declaration would stand behind a case label
abbrev pub null_statement : Statement
null_statement = Unlabelled (Simple None)

-- the first item that is no comment is a declaration
abbrev pub starts_with_local : Forest → Bool
starts_with_local Nil = false
starts_with_local (Then (t.Note bytes) xs) = starts_with_local xs
starts_with_local (Then (t.Local k given) xs) = true
starts_with_local (Then _ xs) = false

abbrev pub is_nil : Forest → Bool
is_nil Nil = true
is_nil _ = false

-- the last item is a comment
abbrev pub ends_with_note : Forest → Bool
ends_with_note Nil = false
ends_with_note (Then (t.Note bytes) Nil) = true
ends_with_note (Then x xs) = ends_with_note xs

abbrev pub is_last : Sections → Bool
is_last NoSection = true
is_last _ = false

abbrev pub optional_item : Bool → Statement → Items → Items
optional_item true s xs = StatementItem s xs
optional_item false s xs = xs

-- what stands behind the list of a section: `break;`, or `;` where a label or a comment would stand before the end
abbrev pub section_end : Bool → Forest → Bool → Items → Items
section_end true a last xs = StatementItem (Unlabelled Break) xs
section_end false a last xs = optional_item ((last && is_nil a) || ends_with_note a) null_statement xs

-- ---- statements

-- a list is one `if`
abbrev pub is_lone_if : Tree → Forest → Bool
is_lone_if (t.If c a b) Nil = true
is_lone_if _ _ = false

-- an item in front of others: a declaration, a statement, or a comment, which has no tokens
abbrev pub placed : List Slot → Tree → Statement → Items → Items
placed slots (t.Local k given) s xs = LocalItem (slot_declaration slots k given []) xs
placed slots (t.Note bytes) s xs = xs
placed slots _ s xs = StatementItem s xs

abbrev pub block : Items → Statement
block xs = Unlabelled (Compound (Braces xs))

abbrev mutual
  -- a statement, over the slots that its declarations declare
  pub statement_of : List Slot → Tree → Statement
  statement_of slots (t.Evaluate e) = Unlabelled (Simple (Some (derivation_of e)))
  statement_of slots (t.Return e) = Unlabelled (Return (option_map derivation_of e))
  statement_of slots (t.If c a Nil) = Unlabelled (If (test_of c) (block (items_of slots a NoItems)))
  statement_of slots (t.If c a (Then x xs)) = Unlabelled (IfElse (test_of c) (block (items_of slots a NoItems))
      (cond (is_lone_if x xs) (statement_of slots x) (block (placed slots x (statement_of slots x) (items_of slots xs NoItems)))))
  statement_of slots (t.While c a) = Unlabelled (While (test_of c) (block (items_of slots a NoItems)))
  statement_of slots (t.Do a c) = Unlabelled (DoWhile (block (items_of slots a NoItems)) (test_of c))
  statement_of slots (t.For first c u a) = Unlabelled (For (start_of slots first) (option_map derivation_of c) (option_map derivation_of u)
      (block (items_of slots a NoItems)))
  statement_of slots (t.Switch s cs) = Unlabelled (Switch (selector_of s) (block (sections_of slots cs)))
  statement_of slots (t.Block a) = block (items_of slots a NoItems)
  statement_of slots t.Break = Unlabelled Break
  statement_of slots t.Continue = Unlabelled Continue
  statement_of slots (t.Goto l) = Unlabelled Goto
  statement_of slots (t.Mark l) = Labelled NameLabel null_statement
  -- what has no tokens
  statement_of slots _ = null_statement

  -- a list in front of other items
  pub items_of : List Slot → Forest → Items → Items
  items_of slots Nil others = others
  items_of slots (Then x xs) others = placed slots x (statement_of slots x) (items_of slots xs others)

  -- the sections of a switch: the labels of each stand before the first statement behind them
  pub sections_of : List Slot → Sections → Items
  sections_of slots NoSection = NoItems
  sections_of slots (Section cases default a ends cs) =
      labelled (labels_of cases default) (optional_item (starts_with_local a) null_statement
      (items_of slots a (section_end ends a (is_last cs) (sections_of slots cs))))
