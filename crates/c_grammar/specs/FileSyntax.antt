-- The syntax of the derivations of files.
use Rattle.std.specs.Prelude.{◌+◌, ℕ, List, [], ◌∷◌, ◌++◌, Option, Some, None}
use Rattle.c_grammar.specs.declared.syntax.Syntax.{Syntax}
use Rattle.c_grammar.specs.declared.syntax.Production.TheVariants as p
use Rattle.c_grammar.specs.Nodes.{node, leaf}
use Rattle.c_grammar.specs.Expressions.{NumberType, Conditional}
use Rattle.c_grammar.specs.ExpressionSyntax.{type_end, conditional_end, type_node, conditional_node}
use Rattle.c_grammar.specs.Statements.{Block}
use Rattle.c_grammar.specs.StatementSyntax.{word_end, more_end, rest_end, size_end, local_end, block_end, word_parts, more_parts, rest_parts, size_parts, local_node, block_node}
use Rattle.c_grammar.specs.Files.{Parameter, Typed, Parameters, NoParameters, VoidParameters, SomeParameters, Enumeration, Enumerated, Declaration, Declares, Function, Defined, Top, Line, OfEnum, OfDeclaration, OfFunction}

-- ---- the number of the token behind a derivation that begins with this one

abbrev pub parameter_end : ℕ → Parameter → ℕ
parameter_end at (Typed constant n named size) = size_end (word_end (type_end (word_end at constant) n) named) size

abbrev pub parameters_end : ℕ → Parameters → ℕ
parameters_end at NoParameters = at
parameters_end at VoidParameters = at + 1
parameters_end at (SomeParameters x xs) = more_end parameter_end (parameter_end at x) xs

abbrev pub constant_end : ℕ → Option Conditional → ℕ
constant_end at None = at
constant_end at (Some d) = conditional_end (at + 1) d

abbrev pub enumerator_end : ℕ → Option Conditional → ℕ
enumerator_end at value = constant_end (at + 1) value

abbrev pub enumeration_end : ℕ → Enumeration → ℕ
enumeration_end at (Enumerated x xs trailing) = rest_end enumerator_end (enumerator_end (at + 1 + 1) x) xs trailing + 1

abbrev pub declaration_end : ℕ → Declaration → ℕ
declaration_end at (Declares static x) = local_end (word_end at static) x

abbrev pub result_end : ℕ → Option NumberType → ℕ
result_end at None = at + 1
result_end at (Some n) = type_end at n

abbrev pub body_end : ℕ → Option Block → ℕ
body_end at None = at + 1
body_end at (Some b) = block_end at b

abbrev pub function_end : ℕ → Function → ℕ
function_end at (Defined static n xs b) = body_end (parameters_end (result_end (word_end at static) n + 1 + 1) xs + 1) b

abbrev pub top_end : ℕ → Top → ℕ
top_end at Line = at + 1
top_end at (OfEnum x) = enumeration_end at x
top_end at (OfDeclaration x) = declaration_end at x
top_end at (OfFunction x) = function_end at x

abbrev pub file_end : ℕ → List Top → ℕ
file_end at [] = at
file_end at (x ∷ xs) = file_end (top_end at x) xs

-- ---- the nodes

abbrev pub parameter_node : ℕ → Parameter → Syntax
parameter_node at (Typed constant n named size) =
    let x = word_end at constant in
    let y = type_end x n in
    let z = word_end y named in
    node p.Param at (size_end z size) (word_parts at constant ++ type_node x n ∷ word_parts y named ++ size_parts z size)

abbrev pub parameters_parts : ℕ → Parameters → List Syntax
parameters_parts at NoParameters = []
parameters_parts at VoidParameters = leaf at ∷ []
parameters_parts at (SomeParameters x xs) = parameter_node at x ∷ more_parts parameter_end parameter_node (parameter_end at x) xs

abbrev pub parameters_node : ℕ → Parameters → Syntax
parameters_node at xs = node p.Params at (parameters_end at xs) (parameters_parts at xs)

abbrev pub constant_parts : ℕ → Option Conditional → List Syntax
constant_parts at None = []
constant_parts at (Some d) = leaf at ∷ conditional_node (at + 1) d ∷ []

abbrev pub enumerator_node : ℕ → Option Conditional → Syntax
enumerator_node at value = node p.Enumerator at (enumerator_end at value) (leaf at ∷ constant_parts (at + 1) value)

abbrev pub enumeration_node : ℕ → Enumeration → Syntax
enumeration_node at (Enumerated x xs trailing) =
    let y = enumerator_end (at + 1 + 1) x in
    let z = rest_end enumerator_end y xs trailing in
    node p.Enum at (z + 1) (leaf at ∷ leaf (at + 1) ∷ enumerator_node (at + 1 + 1) x ∷ rest_parts enumerator_end enumerator_node y xs trailing ++ leaf z ∷ [])

abbrev pub declaration_node : ℕ → Declaration → Syntax
declaration_node at (Declares static x) = let y = word_end at static in node p.Declaration at (local_end y x) (word_parts at static ++ local_node y x ∷ [])

-- `void` stands as its token
abbrev pub result_node : ℕ → Option NumberType → Syntax
result_node at None = leaf at
result_node at (Some n) = type_node at n

-- `;` stands as its token
abbrev pub body_node : ℕ → Option Block → Syntax
body_node at None = leaf at
body_node at (Some b) = block_node at b

abbrev pub function_node : ℕ → Function → Syntax
function_node at (Defined static n xs b) =
    let w = word_end at static in
    let x = result_end w n in
    let y = parameters_end (x + 1 + 1) xs in
    node p.Function at (body_end (y + 1) b) (word_parts at static ++ result_node w n ∷ leaf x ∷ leaf (x + 1) ∷ parameters_node (x + 1 + 1) xs ∷ leaf
    y ∷ body_node (y + 1) b ∷ [])

abbrev pub top_node : ℕ → Top → Syntax
top_node at Line = leaf at
top_node at (OfEnum x) = enumeration_node at x
top_node at (OfDeclaration x) = declaration_node at x
top_node at (OfFunction x) = function_node at x

abbrev pub file_parts : ℕ → List Top → List Syntax
file_parts at [] = []
file_parts at (x ∷ xs) = top_node at x ∷ file_parts (top_end at x) xs

-- the syntax of a file
abbrev pub file_node : List Top → Syntax
file_node xs = node p.File 0 (file_end 0 xs) (file_parts 0 xs)
