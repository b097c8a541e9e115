-- What a declaration or a statement of the grammar spells derives what it writes.
use Rattle.std.proofs.Common.{◌+◌, ℕ, Bool, true, false, List, [], ◌∷◌, Option, Some, None, subst}
use Rattle.c_grammar.specs.declared.class.Class.{Class}
use Rattle.c_grammar.specs.declared.class.Class.TheVariants as c
use Rattle.c_grammar.specs.Expressions.{Expression, Assignment, FitsExpression, FitsAssignment}
use Rattle.c_grammar.specs.Statements.{Size, NoSize, Unsized, Sized, Initialiser, OneValue, ValueList, Declarator, Declared, Local, Locals, Label, NameLabel, CaseLabel, DefaultLabel, ForStart, StartLocal, StartValue, Block, Braces, Items, NoItems, LocalItem, StatementItem, Statement, Labelled, Unlabelled, Plain, Compound, Simple, If, IfElse, While, DoWhile, For, Switch, Goto, Break, Continue, Return, is_statement_open, is_plain_open, FitsMore, FitsOptional, FitsSize, FitsInitialiser, FitsValue, FitsDeclarator, FitsLocal, FitsLabel, FitsForStart, FitsBlock, FitsItems, FitsStatement, FitsPlain}
use Rattle.c_grammar.specs.Items as s
use Rattle.c_reading_defs.specs.Symbols.{Symbol, token_behind}
use Rattle.c_reading_defs.specs.DerivedItems.{MayBe, AreMore, AreEach, IsSize, IsValue, IsInitialiser, IsGiven, IsDeclarator, IsDeclaration, IsOptional, IsLabel, IsStart, IsTested, IsBlock, AreItems, IsStatement, IsBody, IsPlain}
use Rattle.c_reading_defs.specs.DerivedItems as r
use Rattle.c_source_laws.proofs.ExpressionSymbols.{type_symbols, assignment_symbols}
use Rattle.c_source_laws.proofs.StatementSymbols.{word_symbols, more_symbols, each_symbols, optional_symbols, size_symbols, initialiser_symbols, value_symbols, declarator_symbols, local_symbols, label_symbols, start_symbols, tested_symbols, block_symbols, items_symbols, statement_symbols, body_symbols, plain_symbols}
use Rattle.c_source_laws.proofs.SourceTerms.{expression_term, assignment_term}
use Rattle.c_source_laws.proofs.SourceItems.{further, each, size_of, initialiser_of, value_of, declarator_of, declaration_of, optional_term, label_of, start_of, labels_of, block_of, items_of, statement_of, body_of, plain_of}
use Rattle.c_source_laws.proofs.TermsDerive.{type_derives, expression_derives, assignment_derives, conditional_derives}

pub word_derives : (k : Class) (given : Bool) → MayBe k (word_symbols k given) given
word_derives k false = r.no
word_derives k true = r.yes

module _ {X W : Type 0} (Fits : X → Type 0) (spells : X → List Symbol) (writes : ℕ → X → W) (Is : ℕ → List Symbol → W → Type 0)
    (derives : (x : X) (at : ℕ) → Fits x → Is at (spells x) (writes at x)) where
  more_derive : (xs : List X) (at : ℕ) → FitsMore Fits xs → AreMore Is at (more_symbols spells xs) (further spells writes at xs)
  more_derive [] at f = r.none
  more_derive (x ∷ xs) at f = r.more (derives x (at + 1) (f.0)) (more_derive xs (token_behind (at + 1) (spells x)) (f.1))

  pub each_derive : (x : X) (xs : List X) (at : ℕ) → Fits x → FitsMore Fits xs → AreEach Is at (each_symbols spells x xs) (each spells writes at x xs)
  each_derive x xs at f g = r.each (derives x at f) (more_derive xs (token_behind at (spells x)) g)

-- ---- declarations

pub size_derives : (x : Size) (at : ℕ) → FitsSize x → IsSize at (size_symbols x) (size_of at x)
size_derives NoSize at f = r.no_size
size_derives Unsized at f = r.unsized
size_derives (Sized d) at f = r.sized (conditional_derives d (at + 1) f)

value_derives : (a : Assignment) (at : ℕ) → FitsAssignment a → IsValue at (assignment_symbols a) (assignment_term at a)
value_derives a at f = r.value (assignment_derives a at f)

initialiser_derives : (x : Initialiser) (at : ℕ) → FitsInitialiser x → IsInitialiser at (initialiser_symbols x) (initialiser_of at x)
initialiser_derives (OneValue a) at f = r.one (value_derives a at f)
initialiser_derives (ValueList a xs trailing) at f = r.list (each_derive FitsAssignment assignment_symbols assignment_term IsValue value_derives a xs
    (at + 1) (f.0) (f.1)) (word_derives c.Comma trailing)

given_derives : (o : Option Initialiser) (at : ℕ) → FitsValue o → IsGiven at (value_symbols o) (value_of at o)
given_derives None at f = r.not_given
given_derives (Some x) at f = r.given (initialiser_derives x (at + 1) f)

declarator_derives : (d : Declarator) (at : ℕ) → FitsDeclarator d → IsDeclarator at (declarator_symbols d) (declarator_of at d)
declarator_derives (Declared size value) at f = r.declared (size_derives size (at + 1) (f.0))
    (given_derives value (token_behind (at + 1) (size_symbols size)) (f.1))

pub local_derives : (x : Local) (at : ℕ) → FitsLocal x → IsDeclaration at (local_symbols x) (declaration_of at x)
local_derives (Locals constant n d ds) at f =
    let x = token_behind at (word_symbols c.Const constant) in
    r.declares (word_derives c.Const constant) (type_derives n)
    (each_derive FitsDeclarator declarator_symbols declarator_of IsDeclarator declarator_derives d ds (token_behind x (type_symbols n)) (f.0) (f.1))

-- ---- statements

optional_derives : (o : Option Expression) (at : ℕ) → FitsOptional o → IsOptional at (optional_symbols o) (optional_term at o)
optional_derives None at f = r.nothing
optional_derives (Some e) at f = r.some (expression_derives e at f)

label_derives : (x : Label) (at : ℕ) → FitsLabel x → IsLabel at (label_symbols x) (label_of at x)
label_derives NameLabel at f = r.named
label_derives (CaseLabel d) at f = r.case (conditional_derives d (at + 1) f)
label_derives DefaultLabel at f = r.default

start_derives : (x : ForStart) (at : ℕ) → FitsForStart x → IsStart at (start_symbols x) (start_of at x)
start_derives (StartLocal x) at f = r.names (local_derives x at f)
start_derives (StartValue None) at f = r.no_start
start_derives (StartValue (Some e)) at f = r.started (expression_derives e at f)

tested_derives : (k : Class) (e : Expression) (at : ℕ) → FitsExpression e → IsTested k at (tested_symbols k e) (expression_term (at + 1 + 1) e)
tested_derives k e at f = r.tested (expression_derives e (at + 1 + 1) f)

-- a block, or another statement without labels
abbrev Derives : Plain → ℕ → Type 0
Derives (Compound b) at = IsBlock at (block_symbols b) (block_of at b)
Derives x at = IsPlain (is_plain_open x) at (plain_symbols x) (plain_of at x)

as_statement : (x : Plain) (at : ℕ) → Derives x at → IsStatement (is_plain_open x) at (plain_symbols x)
    (s.States [] (s.From at (token_behind at (plain_symbols x)) (plain_of at x)))
as_statement (Compound b) at h = r.block_alone h
as_statement x at h = r.unlabelled h

as_body : (x : Plain) (at : ℕ) → Derives x at → IsBody (is_plain_open x) at (body_symbols (Unlabelled x)) (body_of at (Unlabelled x))
as_body (Compound b) at h = r.block_list h
as_body x at h = r.unlabelled_list h

mutual
  pub block_derives : (b : Block) (at : ℕ) → FitsBlock b → IsBlock at (block_symbols b) (block_of at b)
  block_derives (Braces xs) at f = r.braces (items_derive xs (at + 1) f)

  items_derive : (xs : Items) (at : ℕ) → FitsItems xs → AreItems at (items_symbols xs) (items_of at xs)
  items_derive NoItems at f = r.no_item
  items_derive (LocalItem x xs) at f = r.local (local_derives x at (f.0)) (items_derive xs (token_behind at (local_symbols x)) (f.1))
  items_derive (StatementItem t xs) at f = r.statement (statement_derives t at (f.0)) (items_derive xs (token_behind at (statement_symbols t)) (f.1))

  statement_derives : (t : Statement) (at : ℕ) → FitsStatement t → IsStatement (is_statement_open t) at (statement_symbols t)
      (s.States (labels_of at t) (statement_of at t))
  statement_derives (Labelled x t) at f = r.labelled (label_derives x at (f.0)) (statement_derives t (token_behind at (label_symbols x)) (f.1))
  statement_derives (Unlabelled x) at f = as_statement x at (plain_derives x at f)

  body_derives : (t : Statement) (at : ℕ) → FitsStatement t → IsBody (is_statement_open t) at (body_symbols t) (body_of at t)
  body_derives (Labelled x t) at f = r.labelled_list (label_derives x at (f.0)) (statement_derives t (token_behind at (label_symbols x)) (f.1))
  body_derives (Unlabelled x) at f = as_body x at (plain_derives x at f)

  plain_derives : (x : Plain) (at : ℕ) → FitsPlain x → Derives x at
  plain_derives (Compound b) at f = block_derives b at f
  plain_derives (Simple None) at f = r.null
  plain_derives (Simple (Some e)) at f = r.evaluate (expression_derives e at f)
  plain_derives (If e t) at f = r.if_alone (tested_derives c.If e at (f.0)) (body_derives t (token_behind at (tested_symbols c.If e)) (f.1))
  plain_derives (IfElse e t u) at f =
      let x = token_behind at (tested_symbols c.If e) in
      r.if_else (tested_derives c.If e at (f.0)) (subst (λ o. IsBody o x (body_symbols t) (body_of x t)) (f.2) (body_derives t x (f.1)))
      (body_derives u (token_behind x (body_symbols t) + 1) (f.3))
  plain_derives (While e t) at f = r.while (tested_derives c.While e at (f.0)) (body_derives t (token_behind at (tested_symbols c.While e)) (f.1))
  plain_derives (DoWhile t e) at f = r.do_while (body_derives t (at + 1) (f.0)) (tested_derives c.While e (token_behind (at + 1) (body_symbols t)) (f.1))
  plain_derives (For x t u b) at f =
      let y = token_behind (at + 1 + 1) (start_symbols x) in
      let z = token_behind y (optional_symbols t) + 1 in
      r.for (start_derives x (at + 1 + 1) (f.0)) (optional_derives t y (f.1)) (optional_derives u z (f.2))
      (body_derives b (token_behind z (optional_symbols u) + 1) (f.3))
  plain_derives (Switch e t) at f = r.switch (tested_derives c.Switch e at (f.0)) (body_derives t (token_behind at (tested_symbols c.Switch e)) (f.1))
  plain_derives Goto at f = r.goto
  plain_derives Break at f = r.break
  plain_derives Continue at f = r.continue
  plain_derives (Return o) at f = r.return (optional_derives o (at + 1) f)
