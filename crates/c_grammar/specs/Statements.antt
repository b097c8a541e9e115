-- The derivations of local declarations and statements (ISO/IEC 9899:2011, 6.7 and 6.8), and their tokens.
use Rattle.std.specs.Prelude.{◌≡◌, Bool, true, false, List, [], ◌∷◌, Option, Some, None}
use Rattle.c_grammar.specs.declared.class.Class.{Class}
use Rattle.c_grammar.specs.declared.class.Class.TheVariants as c
use Rattle.c_grammar.specs.Expressions.{NumberType, Expression, Assignment, Conditional, type_tokens, expression_tokens, assignment_tokens, conditional_tokens, FitsExpression, FitsAssignment, FitsConditional}

-- [ "[" [ conditional ] "]" ]
pub data Size : Type 0 where
  NoSize : Size
  Unsized : Size
  Sized : Conditional → Size

-- initialiser = assignment | "{" assignment { "," assignment } [ "," ] "}"
pub data Initialiser : Type 0 where
  OneValue : Assignment → Initialiser
  -- the flag says that a comma stands before the `}`
  ValueList : Assignment → List Assignment → Bool → Initialiser

-- declarator = name [ "[" [ conditional ] "]" ] [ "=" initialiser ]
pub data Declarator : Type 0 where
  Declared : Size → Option Initialiser → Declarator

-- local = [ "const" ] number-type declarator { "," declarator } ";"
pub data Local : Type 0 where
  Locals : Bool → NumberType → Declarator → List Declarator → Local

-- label = name ":" | "case" conditional ":" | "default" ":"
pub data Label : Type 0 where
  NameLabel : Label
  CaseLabel : Conditional → Label
  DefaultLabel : Label

-- the first part of a `for`: local | [ expression ] ";"
pub data ForStart : Type 0 where
  StartLocal : Local → ForStart
  StartValue : Option Expression → ForStart

mutual
  -- block = "{" { local | statement } "}"
  pub data Block : Type 0 where
    Braces : Items → Block

  pub data Items : Type 0 where
    NoItems : Items
    LocalItem : Local → Items → Items
    StatementItem : Statement → Items → Items

  -- statement = { label } plain
  pub data Statement : Type 0 where
    Labelled : Label → Statement → Statement
    Unlabelled : Plain → Statement

  -- plain = block | [ expression ] ";" | "if" "(" expression ")" statement [ "else" statement ] | "while" "(" expression ")" statement
  --       | "do" statement "while" "(" expression ")" ";" | "for" "(" ( local | [ expression ] ";" ) [ expression ] ";" [ expression ] ")" statement
  --       | "switch" "(" expression ")" statement | "goto" name ";" | "break" ";" | "continue" ";" | "return" [ expression ] ";"
  pub data Plain : Type 0 where
    Compound : Block → Plain
    Simple : Option Expression → Plain
    If : Expression → Statement → Plain
    IfElse : Expression → Statement → Statement → Plain
    While : Expression → Statement → Plain
    DoWhile : Statement → Expression → Plain
    For : ForStart → Option Expression → Option Expression → Statement → Plain
    Switch : Expression → Statement → Plain
    Goto : Plain
    Break : Plain
    Continue : Plain
    Return : Option Expression → Plain

-- ---- the tokens of a derivation, and then these

-- a token that may be left out
abbrev pub word_tokens : Class → Bool → List Class → List Class
word_tokens t false r = r
word_tokens t true r = t ∷ r

-- each behind a comma
abbrev pub more_tokens : {X : Type 0} → (X → List Class → List Class) → List X → List Class → List Class
more_tokens y [] r = r
more_tokens y (x ∷ xs) r = c.Comma ∷ y x (more_tokens y xs r)

-- each behind a comma, up to a `}` that may have a comma before it
abbrev pub rest_tokens : {X : Type 0} → (X → List Class → List Class) → List X → Bool → List Class → List Class
rest_tokens y [] trailing r = word_tokens c.Comma trailing (c.CloseBlock ∷ r)
rest_tokens y (x ∷ xs) trailing r = c.Comma ∷ y x (rest_tokens y xs trailing r)

abbrev pub optional_tokens : Option Expression → List Class → List Class
optional_tokens None r = r
optional_tokens (Some e) r = expression_tokens e r

abbrev pub size_tokens : Size → List Class → List Class
size_tokens NoSize r = r
size_tokens Unsized r = c.OpenIndex ∷ c.CloseIndex ∷ r
size_tokens (Sized d) r = c.OpenIndex ∷ conditional_tokens d (c.CloseIndex ∷ r)

abbrev pub initialiser_tokens : Initialiser → List Class → List Class
initialiser_tokens (OneValue a) r = assignment_tokens a r
initialiser_tokens (ValueList a xs trailing) r = c.OpenBlock ∷ assignment_tokens a (rest_tokens assignment_tokens xs trailing r)

abbrev pub value_tokens : Option Initialiser → List Class → List Class
value_tokens None r = r
value_tokens (Some i) r = c.Equals ∷ initialiser_tokens i r

abbrev pub declarator_tokens : Declarator → List Class → List Class
declarator_tokens (Declared size value) r = c.Name ∷ size_tokens size (value_tokens value r)

abbrev pub local_tokens : Local → List Class → List Class
local_tokens (Locals constant n d ds) r = word_tokens c.Const constant
    (type_tokens n (declarator_tokens d (more_tokens declarator_tokens ds (c.Semicolon ∷ r))))

abbrev pub label_tokens : Label → List Class → List Class
label_tokens NameLabel r = c.Name ∷ c.Colon ∷ r
label_tokens (CaseLabel d) r = c.Case ∷ conditional_tokens d (c.Colon ∷ r)
label_tokens DefaultLabel r = c.Default ∷ c.Colon ∷ r

abbrev pub for_start_tokens : ForStart → List Class → List Class
for_start_tokens (StartLocal x) r = local_tokens x r
for_start_tokens (StartValue o) r = optional_tokens o (c.Semicolon ∷ r)

abbrev mutual
  pub block_tokens : Block → List Class → List Class
  block_tokens (Braces xs) r = c.OpenBlock ∷ items_tokens xs (c.CloseBlock ∷ r)

  pub items_tokens : Items → List Class → List Class
  items_tokens NoItems r = r
  items_tokens (LocalItem x xs) r = local_tokens x (items_tokens xs r)
  items_tokens (StatementItem s xs) r = statement_tokens s (items_tokens xs r)

  pub statement_tokens : Statement → List Class → List Class
  statement_tokens (Labelled x s) r = label_tokens x (statement_tokens s r)
  statement_tokens (Unlabelled x) r = plain_tokens x r

  pub plain_tokens : Plain → List Class → List Class
  plain_tokens (Compound b) r = block_tokens b r
  plain_tokens (Simple o) r = optional_tokens o (c.Semicolon ∷ r)
  plain_tokens (If e s) r = c.If ∷ c.Open ∷ expression_tokens e (c.Close ∷ statement_tokens s r)
  plain_tokens (IfElse e s t) r = c.If ∷ c.Open ∷ expression_tokens e (c.Close ∷ statement_tokens s (c.Else ∷ statement_tokens t r))
  plain_tokens (While e s) r = c.While ∷ c.Open ∷ expression_tokens e (c.Close ∷ statement_tokens s r)
  plain_tokens (DoWhile s e) r = c.Do ∷ statement_tokens s (c.While ∷ c.Open ∷ expression_tokens e (c.Close ∷ c.Semicolon ∷ r))
  plain_tokens (For x t u s) r = c.For ∷ c.Open ∷ for_start_tokens x (optional_tokens t (c.Semicolon ∷ optional_tokens u (c.Close ∷ statement_tokens s r)))
  plain_tokens (Switch e s) r = c.Switch ∷ c.Open ∷ expression_tokens e (c.Close ∷ statement_tokens s r)
  plain_tokens Goto r = c.Goto ∷ c.Name ∷ c.Semicolon ∷ r
  plain_tokens Break r = c.Break ∷ c.Semicolon ∷ r
  plain_tokens Continue r = c.Continue ∷ c.Semicolon ∷ r
  plain_tokens (Return o) r = c.Return ∷ optional_tokens o (c.Semicolon ∷ r)

-- ---- what the productions ask beyond their form

-- a block alone
abbrev pub is_block : Statement → Bool
is_block (Unlabelled (Compound b)) = true
is_block _ = false

-- an `else` behind it would belong to it
abbrev mutual
  pub is_statement_open : Statement → Bool
  is_statement_open (Labelled x s) = is_statement_open s
  is_statement_open (Unlabelled x) = is_plain_open x

  pub is_plain_open : Plain → Bool
  is_plain_open (If e s) = true
  is_plain_open (IfElse e s t) = is_statement_open t
  is_plain_open (While e s) = is_statement_open s
  is_plain_open (For x t u s) = is_statement_open s
  is_plain_open (Switch e s) = is_statement_open s
  is_plain_open _ = false

-- each of them fits
abbrev pub FitsMore : {X : Type 0} → (X → Type 0) → List X → Type 0
FitsMore F [] = Unit {0}
FitsMore F (x ∷ xs) = F x × FitsMore F xs

abbrev pub FitsOptional : Option Expression → Type 0
FitsOptional None = Unit {0}
FitsOptional (Some e) = FitsExpression e

abbrev pub FitsSize : Size → Type 0
FitsSize (Sized d) = FitsConditional d
FitsSize _ = Unit {0}

abbrev pub FitsInitialiser : Initialiser → Type 0
FitsInitialiser (OneValue a) = FitsAssignment a
FitsInitialiser (ValueList a xs trailing) = FitsAssignment a × FitsMore FitsAssignment xs

abbrev pub FitsValue : Option Initialiser → Type 0
FitsValue None = Unit {0}
FitsValue (Some i) = FitsInitialiser i

abbrev pub FitsDeclarator : Declarator → Type 0
FitsDeclarator (Declared size value) = FitsSize size × FitsValue value

abbrev pub FitsLocal : Local → Type 0
FitsLocal (Locals constant n d ds) = FitsDeclarator d × FitsMore FitsDeclarator ds

abbrev pub FitsLabel : Label → Type 0
FitsLabel (CaseLabel d) = FitsConditional d
FitsLabel _ = Unit {0}

abbrev pub FitsForStart : ForStart → Type 0
FitsForStart (StartLocal x) = FitsLocal x
FitsForStart (StartValue o) = FitsOptional o

abbrev mutual
  pub FitsBlock : Block → Type 0
  FitsBlock (Braces xs) = FitsItems xs

  pub FitsItems : Items → Type 0
  FitsItems NoItems = Unit {0}
  FitsItems (LocalItem x xs) = FitsLocal x × FitsItems xs
  FitsItems (StatementItem s xs) = FitsStatement s × FitsItems xs

  pub FitsStatement : Statement → Type 0
  FitsStatement (Labelled x s) = FitsLabel x × FitsStatement s
  FitsStatement (Unlabelled x) = FitsPlain x

  pub FitsPlain : Plain → Type 0
  FitsPlain (Compound b) = FitsBlock b
  FitsPlain (Simple o) = FitsOptional o
  FitsPlain (If e s) = FitsExpression e × FitsStatement s
  -- the `else` belongs to the nearest `if`
  FitsPlain (IfElse e s t) = FitsExpression e × FitsStatement s × (is_statement_open s ≡ false) × FitsStatement t
  FitsPlain (While e s) = FitsExpression e × FitsStatement s
  FitsPlain (DoWhile s e) = FitsStatement s × FitsExpression e
  FitsPlain (For x t u s) = FitsForStart x × FitsOptional t × FitsOptional u × FitsStatement s
  FitsPlain (Switch e s) = FitsExpression e × FitsStatement s
  FitsPlain Goto = Unit {0}
  FitsPlain Break = Unit {0}
  FitsPlain Continue = Unit {0}
  FitsPlain (Return o) = FitsOptional o
