-- What the derivations of files write (ISO/IEC 9899:2011, 6.9), from the number of the first token on.
use Rattle.std.specs.Prelude.{ℕ, ◌+◌, cond, List, [], ◌∷◌, Option, Some, None, option_map}
use Rattle.c_grammar.specs.declared.class.Class.TheVariants as c
use Rattle.c_grammar.specs.Expressions.{NumberType, Conditional}
use Rattle.c_grammar.specs.Files.{Parameter, Typed, Parameters, SomeParameters, Enumeration, Enumerated, Declares, Function, Defined, Top, Line, OfEnum, OfDeclaration, OfFunction}
use Rattle.c_grammar.specs.Tops as s
use Rattle.c_reading_defs.specs.Symbols.{token_behind, numbers_of, most_counted}
use Rattle.c_source_laws.proofs.ExpressionSymbols.{type_symbols}
use Rattle.c_source_laws.proofs.StatementSymbols.{word_symbols}
use Rattle.c_source_laws.proofs.FileSymbols.{enumerator_symbols, parameter_symbols, parameters_symbols, result_symbols, function_symbols, top_symbols}
use Rattle.c_source_laws.proofs.SourceTerms.{conditional_term}
use Rattle.c_source_laws.proofs.SourceItems.{each, size_of, declaration_of, block_of}

abbrev pub enumerator_of : ℕ → Option Conditional → s.Enumerator
enumerator_of at value = record { name = at; value = option_map (conditional_term (at + 1 + 1)) value }

abbrev pub enumerators_of : ℕ → Enumeration → List s.Enumerator
enumerators_of at (Enumerated x xs trailing) = each enumerator_symbols enumerator_of (at + 1 + 1) x xs

abbrev pub parameter_of : ℕ → Parameter → s.Parameter
parameter_of at (Typed constant n named size) =
    let x = token_behind at (word_symbols c.Const constant) in
    let y = token_behind x (type_symbols n) in
    record {
      first = at;
      constant = constant;
      words = numbers_of x (type_symbols n);
      name = cond named (Some y) None;
      size = size_of (token_behind y (word_symbols c.Name named)) size;
    }

abbrev pub parameters_of : ℕ → Parameters → List s.Parameter
parameters_of at (SomeParameters x xs) = each parameter_symbols parameter_of at x xs
parameters_of at _ = []

abbrev pub function_of : ℕ → Function → s.Function
function_of at (Defined static n xs b) =
    let w = token_behind at (word_symbols c.Static static) in
    let x = token_behind w (result_symbols n) in
    let y = token_behind (x + 1 + 1) (parameters_symbols xs) in
    record {
      static = static;
      words = option_map (λ (t : NumberType). numbers_of w (type_symbols t)) n;
      name = x;
      parameters = parameters_of (x + 1 + 1) xs;
      body = option_map (block_of (y + 1)) b;
      counted = most_counted (function_symbols (Defined static n xs b));
    }

abbrev pub top_of : ℕ → Top → s.Form
top_of at Line = s.Line
top_of at (OfEnum x) = s.Enum (enumerators_of at x)
top_of at (OfDeclaration (Declares static x)) = s.Globals static (declaration_of (token_behind at (word_symbols c.Static static)) x)
top_of at (OfFunction x) = s.Defines (function_of at x)

-- of what stands at file scope from this token on
abbrev pub tops_of : ℕ → List Top → List s.Top
tops_of at [] = []
tops_of at (x ∷ xs) = let y = token_behind at (top_symbols x) in s.From at y (top_of at x) ∷ tops_of y xs
