-- What a file of the grammar spells derives what it writes.
use Rattle.std.proofs.Common.{◌+◌, ℕ, Bool, true, false, cond, List, [], ◌∷◌, Option, Some, None, option_map}
use Rattle.c_grammar.specs.declared.class.Class.TheVariants as c
use Rattle.c_grammar.specs.Expressions.{NumberType, Conditional}
use Rattle.c_grammar.specs.Statements.{Block}
use Rattle.c_grammar.specs.Files.{Parameter, Typed, Parameters, NoParameters, VoidParameters, SomeParameters, Enumerated, Declares, Function, Defined, Top, Line, OfEnum, OfDeclaration, OfFunction, FitsParameter, FitsParameters, FitsConstant, FitsBody, FitsFunction, FitsTop, FitsFile}
use Rattle.c_reading_defs.specs.Symbols.{token_behind, numbers_of}
use Rattle.c_reading_defs.specs.DerivedTops.{IsEnumerator, IsNamed, IsParameter, AreParameters, IsResult, IsDefined, IsFunction, IsTop, IsFile}
use Rattle.c_reading_defs.specs.DerivedTops as r
use Rattle.c_source_laws.proofs.ExpressionSymbols.{type_symbols}
use Rattle.c_source_laws.proofs.StatementSymbols.{word_symbols}
use Rattle.c_source_laws.proofs.FileSymbols.{parameter_symbols, parameters_symbols, enumerator_symbols, result_symbols, function_symbols, top_symbols, file_symbols}
use Rattle.c_source_laws.proofs.FileSymbols as files
use Rattle.c_source_laws.proofs.SourceItems.{block_of}
use Rattle.c_source_laws.proofs.SourceTops.{enumerator_of, parameter_of, parameters_of, function_of, top_of, tops_of}
use Rattle.c_source_laws.proofs.TermsDerive.{type_derives, conditional_derives}
use Rattle.c_source_laws.proofs.ItemsDerive.{word_derives, each_derive, size_derives, local_derives, block_derives}

enumerator_derives : (o : Option Conditional) (at : ℕ) → FitsConstant o → IsEnumerator at (enumerator_symbols o) (enumerator_of at o)
enumerator_derives None at f = r.alone
enumerator_derives (Some d) at f = r.given (conditional_derives d (at + 1 + 1) f)

name_derives : (named : Bool) (at : ℕ) → IsNamed at (word_symbols c.Name named) (cond named (Some at) None)
name_derives false at = r.no
name_derives true at = r.yes

parameter_derives : (x : Parameter) (at : ℕ) → FitsParameter x → IsParameter at (parameter_symbols x) (parameter_of at x)
parameter_derives (Typed constant n named size) at f =
    let x = token_behind (token_behind at (word_symbols c.Const constant)) (type_symbols n) in
    r.parameter (word_derives c.Const constant) (type_derives n) (name_derives named x) (size_derives size (token_behind x (word_symbols c.Name named)) f)

parameters_derive : (xs : Parameters) (at : ℕ) → FitsParameters xs → AreParameters at (parameters_symbols xs) (parameters_of at xs)
parameters_derive NoParameters at f = r.none
parameters_derive VoidParameters at f = r.void
parameters_derive (SomeParameters x xs) at f = r.some (each_derive FitsParameter parameter_symbols parameter_of IsParameter parameter_derives x xs at
    (f.0) (f.1))

result_derives : (o : Option NumberType) (at : ℕ) → IsResult at (result_symbols o) (option_map (λ (t : NumberType). numbers_of at (type_symbols t)) o)
result_derives None at = r.no_number
result_derives (Some n) at = r.number (type_derives n)

body_derives : (b : Option Block) (at : ℕ) → FitsBody b → IsDefined at (files.body_symbols b) (option_map (block_of at) b)
body_derives None at f = r.declared
body_derives (Some b) at f = r.defined (block_derives b at f)

function_derives : (x : Function) (at : ℕ) → FitsFunction x → IsFunction at (function_symbols x) (function_of at x)
function_derives (Defined static n xs b) at f =
    let w = token_behind at (word_symbols c.Static static) in
    let x = token_behind w (result_symbols n) in
    let y = token_behind (x + 1 + 1) (parameters_symbols xs) in
    r.function (word_derives c.Static static) (result_derives n w) (parameters_derive xs (x + 1 + 1) (f.0)) (body_derives b (y + 1) (f.1))

top_derives : (x : Top) (at : ℕ) → FitsTop x → IsTop at (top_symbols x) (top_of at x)
top_derives Line at f = r.line
top_derives (OfEnum (Enumerated x xs trailing)) at f =
    r.enum (each_derive FitsConstant enumerator_symbols enumerator_of IsEnumerator enumerator_derives x xs (at + 1 + 1) (f.0) (f.1))
    (word_derives c.Comma trailing)
top_derives (OfDeclaration (Declares static x)) at f = r.globals (word_derives c.Static static)
    (local_derives x (token_behind at (word_symbols c.Static static)) f)
top_derives (OfFunction x) at f = r.defines (function_derives x at f)

pub file_derives : (xs : List Top) (at : ℕ) → FitsFile xs → IsFile at (file_symbols xs) (tops_of at xs)
file_derives [] at f = r.no_top
file_derives (x ∷ xs) at f = r.top (top_derives x at (f.0)) (file_derives xs (token_behind at (top_symbols x)) (f.1))
