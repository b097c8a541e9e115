-- The number behind a derivation is that of its first token and as many as it spells.
use Rattle.std.proofs.Common.{◌≡◌, ◌+◌, ℕ, Bool, List, [], ◌∷◌, ◌++◌, length, Option, refl, ap, ◌∙◌, arith}
use Rattle.c_grammar.specs.declared.class.Class.{Class}
use Rattle.c_grammar.specs.declared.class.Class.TheVariants as c
use Rattle.c_grammar.specs.Events.{Event}
use Rattle.c_grammar.specs.Expressions.{NumberType, Expression, Assignment, Conditional, Binary, Target, Argument, type_tokens, expression_tokens, assignment_tokens, conditional_tokens, binary_tokens, target_tokens, argument_tokens}
use Rattle.c_grammar.specs.ExpressionSyntax.{type_end, expression_end, assignment_end, conditional_end, binary_end, target_end, argument_end}
use Rattle.c_grammar.specs.Statements.{Size, Declarator, Local, Label, ForStart, Items, Statement, Plain, word_tokens, optional_tokens, size_tokens, declarator_tokens, local_tokens, label_tokens, for_start_tokens, items_tokens, statement_tokens, plain_tokens}
use Rattle.c_grammar.specs.StatementSyntax.{word_end, optional_end, size_end, declarator_end, local_end, label_end, for_start_end, items_end, statement_end, plain_end}
use Rattle.c_grammar.specs.Files.{Parameter, Parameters, Top, parameter_tokens, parameters_tokens, enumerator_tokens, result_tokens, top_tokens}
use Rattle.c_grammar.specs.FileSyntax.{parameter_end, parameters_end, enumerator_end, result_end, top_end}
use Rattle.c_reading_defs.specs.Symbols.{Symbol, classes_in, token_behind}
use Rattle.c_source_laws.proofs.ExpressionSymbols.{type_symbols, expression_symbols, assignment_symbols, conditional_symbols, binary_symbols, target_symbols, argument_symbols}
use Rattle.c_source_laws.proofs.StatementSymbols.{word_symbols, optional_symbols, size_symbols, declarator_symbols, local_symbols, label_symbols, start_symbols, tested_symbols, items_symbols, statement_symbols, body_symbols, plain_symbols}
use Rattle.c_source_laws.proofs.FileSymbols.{parameter_symbols, parameters_symbols, enumerator_symbols, result_symbols, top_symbols}
use Rattle.c_source_laws.proofs.SourceEnds.{Ends, type_ends, expression_ends, assignment_ends, conditional_ends, binary_ends, target_ends, argument_ends, word_ends, optional_ends, size_ends, declarator_ends, local_ends, label_ends, start_ends, items_ends, tested_ends, statement_ends, plain_ends, enumerator_ends, parameter_ends, parameters_ends, result_ends, top_ends}
use Rattle.c_source_laws.proofs.Spelt.{Spelt, type_spelt, expression_spelt, assignment_spelt, conditional_spelt, binary_spelt, target_spelt, argument_spelt}
use Rattle.c_source_laws.proofs.StatementsSpelt.{tested_spelt, items_spelt, word_spelt, optional_spelt, size_spelt, declarator_spelt, local_spelt, label_spelt, start_spelt, statement_spelt, body_spelt, plain_spelt, enumerator_spelt, parameter_spelt, parameters_spelt, result_spelt, top_spelt}

-- here it ends
abbrev pub Placed : {X : Type 0} → (ℕ → X → ℕ) → X → List Symbol → Type 0
Placed z x xs = (at : ℕ) → z at x ≡ token_behind at xs

none_more : (ks : List Class) → length (ks ++ []) ≡ length ks
none_more [] = refl
none_more (k ∷ ks) = let h = none_more ks in omega (arith, h)

placed : {X : Type 0} {k : List Event → List Event} (f : X → List Class → List Class) (z : ℕ → X → ℕ) (x : X) (xs : List Symbol) → Ends f z x →
    Spelt 0 (f x) k xs → Placed z x xs
placed {X} {k} f z x xs e s at = let h = e at [] in let n = ap length (s.tokens []) ∙ none_more (classes_in xs) in omega (arith, h, n)

pub type_placed : (n : NumberType) → Placed type_end n (type_symbols n)
type_placed n = placed type_tokens type_end n (type_symbols n) (type_ends n) (type_spelt n)

pub expression_placed : (e : Expression) → Placed expression_end e (expression_symbols e)
expression_placed e = placed expression_tokens expression_end e (expression_symbols e) (expression_ends e) (expression_spelt e)

pub assignment_placed : (a : Assignment) → Placed assignment_end a (assignment_symbols a)
assignment_placed a = placed assignment_tokens assignment_end a (assignment_symbols a) (assignment_ends a) (assignment_spelt a)

pub conditional_placed : (d : Conditional) → Placed conditional_end d (conditional_symbols d)
conditional_placed d = placed conditional_tokens conditional_end d (conditional_symbols d) (conditional_ends d) (conditional_spelt d)

pub binary_placed : (b : Binary) → Placed binary_end b (binary_symbols b)
binary_placed b = placed binary_tokens binary_end b (binary_symbols b) (binary_ends b) (binary_spelt b)

pub target_placed : (t : Target) → Placed target_end t (target_symbols t)
target_placed t = placed target_tokens target_end t (target_symbols t) (target_ends t) (target_spelt t)

pub argument_placed : (x : Argument) → Placed argument_end x (argument_symbols x)
argument_placed x = placed argument_tokens argument_end x (argument_symbols x) (argument_ends x) (argument_spelt x)

pub optional_placed : (o : Option Expression) → Placed optional_end o (optional_symbols o)
optional_placed o = placed optional_tokens optional_end o (optional_symbols o) (optional_ends o) (optional_spelt o)

pub size_placed : (x : Size) → Placed size_end x (size_symbols x)
size_placed x = placed size_tokens size_end x (size_symbols x) (size_ends x) (size_spelt x)

pub declarator_placed : (d : Declarator) → Placed declarator_end d (declarator_symbols d)
declarator_placed d = placed declarator_tokens declarator_end d (declarator_symbols d) (declarator_ends d) (declarator_spelt d)

pub local_placed : (x : Local) → Placed local_end x (local_symbols x)
local_placed x = placed local_tokens local_end x (local_symbols x) (local_ends x) (local_spelt x)

pub label_placed : (x : Label) → Placed label_end x (label_symbols x)
label_placed x = placed label_tokens label_end x (label_symbols x) (label_ends x) (label_spelt x)

pub enumerator_placed : (o : Option Conditional) → Placed enumerator_end o (enumerator_symbols o)
enumerator_placed o = placed enumerator_tokens enumerator_end o (enumerator_symbols o) (enumerator_ends o) (enumerator_spelt o)

pub parameter_placed : (x : Parameter) → Placed parameter_end x (parameter_symbols x)
parameter_placed x = placed parameter_tokens parameter_end x (parameter_symbols x) (parameter_ends x) (parameter_spelt x)

pub parameters_placed : (xs : Parameters) → Placed parameters_end xs (parameters_symbols xs)
parameters_placed xs = placed parameters_tokens parameters_end xs (parameters_symbols xs) (parameters_ends xs) (parameters_spelt xs)

pub result_placed : (o : Option NumberType) → Placed result_end o (result_symbols o)
result_placed o = placed result_tokens result_end o (result_symbols o) (result_ends o) (result_spelt o)

pub top_placed : (x : Top) → Placed top_end x (top_symbols x)
top_placed x = placed top_tokens top_end x (top_symbols x) (top_ends x) (top_spelt x)

pub word_placed : (k : Class) (given : Bool) → Placed word_end given (word_symbols k given)
word_placed k given = placed (word_tokens k) word_end given (word_symbols k given) (word_ends k given) (word_spelt k given)

pub start_placed : (x : ForStart) → Placed for_start_end x (start_symbols x)
start_placed x = placed for_start_tokens for_start_end x (start_symbols x) (start_ends x) (start_spelt x)

pub items_placed : (xs : Items) → Placed items_end xs (items_symbols xs)
items_placed xs = placed items_tokens items_end xs (items_symbols xs) (items_ends xs) (items_spelt 0 xs)

-- an expression in brackets, behind a word
abbrev pub tested_end : ℕ → Expression → ℕ
tested_end at e = expression_end (at + 1 + 1) e + 1

pub tested_placed : (k : Class) (e : Expression) → Placed tested_end e (tested_symbols k e)
tested_placed k e = placed (λ e r. k ∷ c.Open ∷ expression_tokens e (c.Close ∷ r)) tested_end e (tested_symbols k e) (tested_ends k e) (tested_spelt k e)

pub statement_placed : (t : Statement) → Placed statement_end t (statement_symbols t)
statement_placed t = placed statement_tokens statement_end t (statement_symbols t) (statement_ends t) (statement_spelt 0 t)

pub plain_placed : (x : Plain) → Placed plain_end x (plain_symbols x)
plain_placed x = placed plain_tokens plain_end x (plain_symbols x) (plain_ends x) (plain_spelt 0 x)

-- as the list of a construct
pub body_placed : (t : Statement) → Placed statement_end t (body_symbols t)
body_placed t = placed statement_tokens statement_end t (body_symbols t) (statement_ends t) (body_spelt 0 t)
