-- What the derivations of functions write (ISO/IEC 9899:2011, 6.9.1), from the number of the first token on.
use Rattle.std.specs.Prelude.{ℕ, ◌+◌, Bool, true, false, List, [], ◌∷◌, map, Option, Some, None}
use Rattle.c_grammar.specs.declared.syntax.Syntax.{Syntax}
use Rattle.c_grammar.specs.Nodes.{leaf}
use Rattle.c_grammar.specs.Expressions.{NumberType}
use Rattle.c_grammar.specs.ExpressionSyntax.{type_end}
use Rattle.c_grammar.specs.Statements.{Block, Braces}
use Rattle.c_grammar.specs.StatementSyntax.{word_end}
use Rattle.c_grammar.specs.Files.{Parameter, Typed, Parameters, SomeParameters, Function, Defined}
use Rattle.c_grammar.specs.FileSyntax.{parameter_end, parameters_end, result_end, result_node, parameters_node, body_node}
use Rattle.c_grammar.specs.Parts.{part_of, greatest}
use Rattle.c_grammar.specs.Items.{Body}
use Rattle.c_grammar.specs.Tops as tops
use Rattle.reread_parts_laws.specs.WrittenExpressions.{type_words}
use Rattle.reread_parts_laws.specs.WrittenStatements.{written_size, written_block}

abbrev pub named_at : ℕ → Bool → Option ℕ
named_at at true = Some at
named_at at false = None

abbrev pub written_parameter : ℕ → Parameter → tops.Parameter
written_parameter at (Typed constant n named size) =
    let x = word_end at constant in
    let y = type_end x n in
    record { first = at; constant = constant; words = type_words x n; name = named_at y named; size = written_size (word_end y named) size }

-- from the comma on
abbrev pub further_parameters : ℕ → List Parameter → List tops.Parameter
further_parameters at [] = []
further_parameters at (x ∷ xs) = written_parameter (at + 1) x ∷ further_parameters (parameter_end (at + 1) x) xs

abbrev pub written_parameters : ℕ → Parameters → List tops.Parameter
written_parameters at (SomeParameters x xs) = written_parameter at x ∷ further_parameters (parameter_end at x) xs
written_parameters at _ = []

abbrev pub result_words : ℕ → Option NumberType → Option (List ℕ)
result_words at None = None
result_words at (Some n) = Some (type_words at n)

abbrev pub written_function_body : ℕ → Option Block → Option Body
written_function_body at None = None
written_function_body at (Some (Braces xs)) = Some (written_block at xs)

-- the parts of a function behind `static`
abbrev pub function_parts : ℕ → Option NumberType → Parameters → Option Block → List Syntax
function_parts at n xs b =
    let x = result_end at n in
    let y = parameters_end (x + 1 + 1) xs in
    result_node at n ∷ leaf x ∷ leaf (x + 1) ∷ parameters_node (x + 1 + 1) xs ∷ leaf y ∷ body_node (y + 1) b ∷ []

-- with the most tokens that count in an expression of its syntax
abbrev pub written_function : (ℕ → List ℕ) → ℕ → Function → tops.Function
written_function word at (Defined static n xs b) =
    let w = word_end at static in
    let x = result_end w n in
    let y = parameters_end (x + 1 + 1) xs in
    record {
      static = static;
      words = result_words w n;
      name = x;
      parameters = written_parameters (x + 1 + 1) xs;
      body = written_function_body (y + 1) b;
      counted = greatest (map (part_of word) (function_parts w n xs b));
    }
