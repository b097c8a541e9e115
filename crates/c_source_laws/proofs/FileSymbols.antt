-- What the derivations of files spell (ISO/IEC 9899:2011, 6.9).
use Rattle.std.specs.Prelude.{List, [], ◌∷◌, ◌++◌, Option, Some, None}
use Rattle.c_grammar.specs.declared.class.Class.TheVariants as c
use Rattle.c_grammar.specs.Expressions.{NumberType, Conditional}
use Rattle.c_grammar.specs.Statements.{Block}
use Rattle.c_grammar.specs.Files.{Parameter, Typed, Parameters, NoParameters, VoidParameters, SomeParameters, Enumeration, Enumerated, Declaration, Declares, Function, Defined, Top, Line, OfEnum, OfDeclaration, OfFunction}
use Rattle.c_reading_defs.specs.Symbols.{Symbol, Outside}
use Rattle.c_source_laws.proofs.ExpressionSymbols.{type_symbols, conditional_symbols}
use Rattle.c_source_laws.proofs.StatementSymbols.{word_symbols, each_symbols, size_symbols, local_symbols, block_symbols}

abbrev pub parameter_symbols : Parameter → List Symbol
parameter_symbols (Typed constant n named size) = word_symbols c.Const constant ++ type_symbols n ++ word_symbols c.Name named ++ size_symbols size

abbrev pub parameters_symbols : Parameters → List Symbol
parameters_symbols NoParameters = []
parameters_symbols VoidParameters = Outside c.Void ∷ []
parameters_symbols (SomeParameters x xs) = each_symbols parameter_symbols x xs

abbrev pub enumerator_symbols : Option Conditional → List Symbol
enumerator_symbols None = Outside c.Name ∷ []
enumerator_symbols (Some d) = Outside c.Name ∷ Outside c.Equals ∷ conditional_symbols d

abbrev pub enumeration_symbols : Enumeration → List Symbol
enumeration_symbols (Enumerated x xs trailing) = Outside c.Enum ∷ Outside c.OpenBlock ∷ each_symbols enumerator_symbols x xs ++ word_symbols c.Comma
    trailing ++ Outside c.CloseBlock ∷ Outside c.Semicolon ∷ []

abbrev pub declaration_symbols : Declaration → List Symbol
declaration_symbols (Declares static x) = word_symbols c.Static static ++ local_symbols x

abbrev pub result_symbols : Option NumberType → List Symbol
result_symbols None = Outside c.Void ∷ []
result_symbols (Some n) = type_symbols n

abbrev pub body_symbols : Option Block → List Symbol
body_symbols None = Outside c.Semicolon ∷ []
body_symbols (Some b) = block_symbols b

abbrev pub function_symbols : Function → List Symbol
function_symbols (Defined static n xs b) =
    word_symbols c.Static static ++ result_symbols n ++ Outside c.Name ∷ Outside c.Open ∷ parameters_symbols xs ++ Outside c.Close ∷ body_symbols b

abbrev pub top_symbols : Top → List Symbol
top_symbols Line = Outside c.Directive ∷ []
top_symbols (OfEnum x) = enumeration_symbols x
top_symbols (OfDeclaration x) = declaration_symbols x
top_symbols (OfFunction x) = function_symbols x

abbrev pub file_symbols : List Top → List Symbol
file_symbols [] = []
file_symbols (x ∷ xs) = top_symbols x ++ file_symbols xs
