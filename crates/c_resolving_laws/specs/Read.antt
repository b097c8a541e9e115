-- Source trees as derivations write them: each expression and each statement is one, targets stand where they are
-- assigned or counted, and lists that the grammar asks for have an element.
use Rattle.std.specs.Prelude.{ℕ, ◌≤◌, ◌<◌, ◌+◌, Bool, List, [], ◌∷◌, Option, Some, None, IfSome, length}
use Rattle.c_lexer.specs.Marks.{mark_of}
use Rattle.c_grammar.specs.Terms.{Term, Form, Terms, At, Constant, Variable, Cell, Prefix, Suffix, CastTo, CastVoid, Binary, Choice, Assign, Commas, Call, Texts, Unknown, NoTerm}
use Rattle.c_grammar.specs.Terms as terms
use Rattle.c_grammar.specs.Items.{Size, NoSize, Unsized, Sized, Initialiser, NoValue, OneValue, ValueList, Declarator, Declaration, Label, Named, Case, Default, Start, NoStart, StartValue, StartNames, Item, Declares, States, Plain, From, Statement, Null, Evaluate, If, IfElse, While, DoWhile, For, Switch, Block, Goto, Break, Continue, Return, Unread, Body, Braces, Lone, Items, NoItem}
use Rattle.c_grammar.specs.Items as items
use Rattle.c_grammar.specs.Tops.{Enumerator, Parameter, Function, Top, Line, Enum, Globals, Defines}
use Rattle.c_grammar.specs.Tops as tops
use Rattle.c_grammar.specs.Words.{character}
use Rattle.c_kinds.specs.Marks.{step_of}
use Rattle.c_kinds.specs.Typing.{joined_texts}
use Rattle.c_statements.specs.declared.anchors.Anchor.{Anchor}
use Rattle.c_statements.specs.Measures.{body_depth}
use Rattle.c_resolved_defs.specs.PrintableExpressions.{IsName, AreBytes}
use Rattle.c_resolved_defs.specs.Verbatims.{IsComment, IsDirective}
use Rattle.c_resolved_defs.specs.Within.{Each}
use Rattle.c_resolving_laws.specs.Counts.{IsFew, IsFewDeclaration, IsFewBody}

-- a variable or a cell
abbrev pub IsTargetForm : Form → Type 0
IsTargetForm (Variable at) = Unit {0}
IsTargetForm (Cell at i) = Unit {0}
IsTargetForm _ = ⊥

abbrev pub IsTarget : Term → Type 0
IsTarget (At first form) = IsTargetForm form

-- what a mark in front of an operand asks of it
abbrev pub FitsStep : Option Bool → Term → Type 0
FitsStep (Some up) a = IsTarget a
FitsStep None a = Unit {0}

-- ---- how many cases a statement has at most

abbrev pub label_cases : List Label → ℕ
label_cases [] = 0
label_cases (Case first after t ∷ ls) = 1 + label_cases ls
label_cases (_ ∷ ls) = label_cases ls

abbrev mutual
  pub item_cases : Item → ℕ
  item_cases (Declares first after d) = 0
  item_cases (States ls p) = label_cases ls + plain_cases p

  pub plain_cases : Plain → ℕ
  plain_cases (From first after s) = statement_cases s

  pub statement_cases : Statement → ℕ
  statement_cases (If t b) = body_cases b
  statement_cases (IfElse t b c) = body_cases b + body_cases c
  statement_cases (While t b) = body_cases b
  statement_cases (DoWhile b t) = body_cases b
  statement_cases (For start t u b) = body_cases b
  statement_cases (Switch t b) = body_cases b
  statement_cases (Block b) = body_cases b
  statement_cases _ = 0

  pub body_cases : Body → ℕ
  body_cases (Braces first after xs) = list_cases xs
  body_cases (Lone first after x) = item_cases x

  pub list_cases : Items → ℕ
  list_cases NoItem = 0
  list_cases (items.Then x xs) = item_cases x + list_cases xs

module _ (word : ℕ → List ℕ) where
  -- the token is a name
  abbrev pub IsNameAt : ℕ → Type 0
  IsNameAt at = IsName (word at)

  abbrev mutual
    pub IsReadTerm : Term → Type 0
    IsReadTerm (At first form) = IsReadForm form

    pub IsReadForm : Form → Type 0
    IsReadForm (Constant at) = character (word at) ≤ 255
    IsReadForm (Variable at) = IsNameAt at
    IsReadForm (Cell at i) = IsNameAt at × IsReadTerm i
    IsReadForm (Prefix m a) = FitsStep (step_of (mark_of (word m))) a × IsReadTerm a
    IsReadForm (Suffix m a) = IsTarget a × IsReadTerm a
    IsReadForm (CastTo words a) = IsReadTerm a
    IsReadForm (CastVoid a) = IsReadTerm a
    IsReadForm (Binary m a b) = IsReadTerm a × IsReadTerm b
    IsReadForm (Choice a b c) = IsReadTerm a × IsReadTerm b × IsReadTerm c
    IsReadForm (Assign m t a) = IsTarget t × IsReadTerm t × IsReadTerm a
    IsReadForm (Commas a bs) = IsReadTerm a × AreReadTerms bs
    IsReadForm (Call at xs) = IsNameAt at × AreReadTerms xs
    IsReadForm (Texts ats) = AreBytes (joined_texts word ats)
    IsReadForm Unknown = ⊥

    pub AreReadTerms : Terms → Type 0
    AreReadTerms NoTerm = Unit {0}
    AreReadTerms (terms.Then x xs) = IsReadTerm x × AreReadTerms xs

  -- ---- declarations

  abbrev pub IsReadSize : Size → Type 0
  IsReadSize (Sized t) = IsReadTerm t
  IsReadSize _ = Unit {0}

  abbrev pub IsReadInitialiser : Initialiser → Type 0
  IsReadInitialiser NoValue = Unit {0}
  IsReadInitialiser (OneValue t) = IsReadTerm t
  IsReadInitialiser (ValueList ts) = (0 < length ts) × Each IsReadTerm ts

  pub record IsReadDeclarator (d : Declarator) : Type 0 where
    pub named : IsNameAt d.name
    pub size : IsReadSize d.size
    pub value : IsReadInitialiser d.value

  abbrev pub IsReadDeclaration : Declaration → Type 0
  IsReadDeclaration d = Each IsReadDeclarator d.names

  -- ---- statements

  abbrev pub IsReadLabel : Label → Type 0
  IsReadLabel (Named at after) = IsNameAt at
  IsReadLabel (Case first after t) = IsReadTerm t
  IsReadLabel (Default first after) = Unit {0}

  abbrev pub IsReadStart : Start → Type 0
  IsReadStart NoStart = Unit {0}
  IsReadStart (StartValue t) = IsReadTerm t
  IsReadStart (StartNames d) = IsReadDeclaration d

  pub record IsReadEnumerator (e : Enumerator) : Type 0 where
    pub named : IsNameAt e.name
    pub value : IfSome e.value IsReadTerm
    pub few : IfSome e.value (IsFew word 400 3)

  pub record IsReadParameter (x : Parameter) : Type 0 where
    pub named : IfSome x.name IsNameAt
    pub size : IsReadSize x.size

  abbrev mutual
    pub IsReadItem : Item → Type 0
    IsReadItem (Declares first after d) = IsReadDeclaration d
    IsReadItem (States ls p) = Each IsReadLabel ls × IsReadPlain p

    pub IsReadPlain : Plain → Type 0
    IsReadPlain (From first after s) = IsReadStatement s

    pub IsReadStatement : Statement → Type 0
    IsReadStatement Null = Unit {0}
    IsReadStatement (Evaluate t) = IsReadTerm t
    IsReadStatement (If t b) = IsReadTerm t × IsReadBody b
    IsReadStatement (IfElse t b c) = IsReadTerm t × IsReadBody b × IsReadBody c
    IsReadStatement (While t b) = IsReadTerm t × IsReadBody b
    IsReadStatement (DoWhile b t) = IsReadBody b × IsReadTerm t
    IsReadStatement (For start t u b) = IsReadStart start × IfSome t IsReadTerm × IfSome u IsReadTerm × IsReadBody b
    IsReadStatement (Switch t b) = IsReadTerm t × IsReadBody b × (body_cases b < 2147483648)
    IsReadStatement (Block b) = IsReadBody b
    IsReadStatement (Goto at) = IsNameAt at
    IsReadStatement Break = Unit {0}
    IsReadStatement Continue = Unit {0}
    IsReadStatement (Return t) = IfSome t IsReadTerm
    IsReadStatement Unread = ⊥

    pub IsReadBody : Body → Type 0
    IsReadBody (Braces first after xs) = AreReadItems xs
    IsReadBody (Lone first after x) = IsReadItem x

    pub AreReadItems : Items → Type 0
    AreReadItems NoItem = Unit {0}
    AreReadItems (items.Then x xs) = IsReadItem x × AreReadItems xs

  -- ---- file scope

  pub record IsReadFunction (f : Function) : Type 0 where
    pub named : IsNameAt f.name
    pub parameters : Each IsReadParameter f.parameters
    pub body : IfSome f.body IsReadBody
    -- the count of the function is that of its longest full expression
    pub few : IfSome f.body (IsFewBody word f.counted)
    pub most : f.counted ≤ 400
    pub shallow : IfSome f.body (λ b. body_depth b ≤ 400)

  abbrev pub IsReadTopForm : tops.Form → Type 0
  IsReadTopForm Line = Unit {0}
  IsReadTopForm (Enum es) = (0 < length es) × Each IsReadEnumerator es
  IsReadTopForm (Globals static d) = IsReadDeclaration d × IsFewDeclaration word 400 d
  IsReadTopForm (Defines f) = IsReadFunction f
  IsReadTopForm tops.Unread = ⊥

  -- a line is an `#include`
  abbrev pub IsReadLine : ℕ → tops.Form → Type 0
  IsReadLine first Line = IsDirective (word first)
  IsReadLine first _ = Unit {0}

  abbrev pub IsReadTop : Top → Type 0
  IsReadTop (tops.From first after form) = IsReadTopForm form × IsReadLine first form

  -- the whole file
  abbrev pub IsReadFile : List Top → Type 0
  IsReadFile xs = Each IsReadTop xs

-- a file, and its comments
pub record IsRead (word : ℕ → List ℕ) (notes : Anchor → List (List ℕ)) (xs : List Top) : Type 0 where
  pub file : IsReadFile word xs
  pub comments : (a : Anchor) → Each IsComment (notes a)
