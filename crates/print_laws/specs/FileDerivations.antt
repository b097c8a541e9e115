-- The derivation and the syntax that the printed text of a program has (ISO/IEC 9899:2011, 6.9).
use Rattle.std.specs.Prelude.{ℕ, Bool, true, false, List, [], ◌∷◌, map, take, Option, Some, None, option_map}
use Rattle.c_tree.specs.declared.tree.Slot.{Slot}
use Rattle.c_tree.specs.declared.tree.Expression.{Expression}
use Rattle.c_tree.specs.declared.tree.EnumItem.{EnumItem}
use Rattle.c_tree.specs.declared.tree.GlobalVariable.{GlobalVariable}
use Rattle.c_tree.specs.declared.tree.Function.{Function}
use Rattle.c_tree.specs.declared.tree.Item.{Item}
use Rattle.c_tree.specs.declared.tree.Top.{Top}
use Rattle.c_tree.specs.declared.tree.Top.TheVariants as T
use Rattle.c_tree.specs.declared.tree.Program.{Program}
use Rattle.c_tree.specs.ExpressionTrees.{expression_tree}
use Rattle.c_tree.specs.Trees.{expression_trees, trees_of}
use Rattle.c_grammar.specs.declared.syntax.Syntax.{Syntax}
use Rattle.c_grammar.specs.Expressions.{Conditional}
use Rattle.c_grammar.specs.Statements.{Size, NoSize, Unsized, Block, Braces, NoItems}
use Rattle.c_grammar.specs.Files.{Parameter, Typed, Parameters, VoidParameters, SomeParameters, Enumeration, Enumerated, Declaration, Declares, Defined, Line, OfEnum, OfDeclaration, OfFunction}
use Rattle.c_grammar.specs.Files as g
use Rattle.c_grammar.specs.FileSyntax.{file_node}
use Rattle.print_laws.specs.ExpressionDerivations.{type_of}
use Rattle.print_laws.specs.StatementDerivations.{conditional_of, declaration_of, items_of}

-- the value that an enumerator is given
abbrev pub given_of : EnumItem → Option Conditional
given_of x = option_map (λ (e : Expression). conditional_of (expression_tree e)) x.given

abbrev pub enumeration_of : EnumItem → List EnumItem → Enumeration
enumeration_of x xs = Enumerated (given_of x) (map given_of xs) false

abbrev pub global_of : GlobalVariable → Declaration
global_of v = Declares v.file_only (declaration_of v.slot (option_map expression_trees v.init) [])

-- ---- functions

abbrev pub is_named : List ℕ → Bool
is_named [] = false
is_named _ = true

abbrev pub parameter_size : Option ℕ → Size
parameter_size None = NoSize
parameter_size (Some n) = Unsized

abbrev pub parameter_of : Slot → Parameter
parameter_of s = Typed s.constant (type_of s.kind) (is_named s.name) (parameter_size s.cells)

abbrev pub parameters_of : List Slot → Parameters
parameters_of [] = VoidParameters
parameters_of (s ∷ ss) = SomeParameters (parameter_of s) (map parameter_of ss)

abbrev pub body_of : List Slot → Option (List Item) → Option Block
body_of slots body = option_map (λ (xs : List Item). Braces (items_of slots (trees_of xs) NoItems)) body

abbrev pub function_of : Function → g.Function
function_of f = Defined f.file_only (option_map type_of f.result) (parameters_of (take f.params f.slots)) (body_of f.slots f.body)

-- ---- files

-- comments have no tokens
abbrev pub tops_of : List Top → List g.Top
tops_of [] = []
tops_of (T.Include bytes ∷ ts) = Line ∷ tops_of ts
tops_of (T.Enum [] ∷ ts) = tops_of ts
tops_of (T.Enum (x ∷ xs) ∷ ts) = OfEnum (enumeration_of x xs) ∷ tops_of ts
tops_of (T.Global v ∷ ts) = OfDeclaration (global_of v) ∷ tops_of ts
tops_of (T.Function f ∷ ts) = OfFunction (function_of f) ∷ tops_of ts
tops_of (T.Note bytes ∷ ts) = tops_of ts

-- what the printed text of a program derives
abbrev pub file_of : Program → List g.Top
file_of p = tops_of p.tops

-- the syntax of the printed text of a program, with the numbers of its tokens
abbrev pub syntax_of : Program → Syntax
syntax_of p = file_node (file_of p)
