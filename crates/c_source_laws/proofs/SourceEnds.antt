-- The number behind a derivation is that of its first token and as many as it has tokens.
use Rattle.std.proofs.Common.{◌≡◌, ◌+◌, ℕ, Bool, true, false, List, [], ◌∷◌, length, Option, Some, None, arith}
use Rattle.c_grammar.specs.declared.class.Class.{Class}
use Rattle.c_grammar.specs.declared.class.Class.TheVariants as c
use Rattle.c_grammar.specs.Expressions.{Base, CharBase, IntBase, LongBase, LongIntBase, NumberType, OfBase, Signed, SignedOf, Unsigned, UnsignedOf, Expression, One, More, Assignment, To, Value, Conditional, Choose, Only, Binary, Single, Both, Unary, Prefixed, StepTo, CastTo, CastVoid, Place, StepAfter, CallNone, CallWith, Number, Character, Within, Target, Variable, Cell, Round, Arguments, Last, Then, Argument, Given, Written, Texts, OneText, MoreTexts, base_tokens, type_tokens, expression_tokens, assignment_tokens, conditional_tokens, binary_tokens, unary_tokens, target_tokens, arguments_tokens, argument_tokens, texts_tokens}
use Rattle.c_grammar.specs.ExpressionSyntax.{base_end, type_end, expression_end, assignment_end, conditional_end, binary_end, unary_end, target_end, arguments_end, argument_end, texts_end}
use Rattle.c_grammar.specs.Statements.{Size, NoSize, Unsized, Sized, Initialiser, OneValue, ValueList, Declarator, Declared, Local, Locals, Label, NameLabel, CaseLabel, DefaultLabel, ForStart, StartLocal, StartValue, Block, Braces, Items, NoItems, LocalItem, StatementItem, Statement, Labelled, Unlabelled, Plain, Compound, Simple, If, IfElse, While, DoWhile, For, Switch, Goto, Break, Continue, Return, word_tokens, more_tokens, rest_tokens, optional_tokens, size_tokens, initialiser_tokens, value_tokens, declarator_tokens, local_tokens, label_tokens, for_start_tokens, block_tokens, items_tokens, statement_tokens, plain_tokens}
use Rattle.c_grammar.specs.StatementSyntax.{word_end, more_end, rest_end, optional_end, size_end, initialiser_end, value_end, declarator_end, local_end, label_end, for_start_end, block_end, items_end, statement_end, plain_end}
use Rattle.c_grammar.specs.Files.{Parameter, Typed, Parameters, NoParameters, VoidParameters, SomeParameters, Enumeration, Enumerated, Declares, Defined, Top, Line, OfEnum, OfDeclaration, OfFunction, parameter_tokens, parameters_tokens, constant_tokens, enumerator_tokens, enumeration_tokens, result_tokens, body_tokens, top_tokens}
use Rattle.c_grammar.specs.FileSyntax.{parameter_end, parameters_end, constant_end, enumerator_end, enumeration_end, result_end, body_end, top_end}

-- with these tokens behind it, its tokens end here
abbrev pub Ends : {X : Type 0} → (X → List Class → List Class) → (ℕ → X → ℕ) → X → Type 0
Ends f z x = (at : ℕ) (r : List Class) → at + length (f x r) ≡ z at x + length r

-- ---- expressions

base_ends : (b : Base) → Ends base_tokens base_end b
base_ends CharBase at r = omega arith
base_ends IntBase at r = omega arith
base_ends LongBase at r = omega arith
base_ends LongIntBase at r = omega arith

pub type_ends : (n : NumberType) → Ends type_tokens type_end n
type_ends (OfBase b) at r = base_ends b at r
type_ends Signed at r = omega arith
type_ends (SignedOf b) at r = let h = base_ends b (at + 1) r in omega (arith, h)
type_ends Unsigned at r = omega arith
type_ends (UnsignedOf b) at r = let h = base_ends b (at + 1) r in omega (arith, h)

pub texts_ends : (n : Texts) → Ends texts_tokens texts_end n
texts_ends OneText at r = omega arith
texts_ends (MoreTexts n) at r = let h = texts_ends n (at + 1) r in omega (arith, h)

mutual
  pub expression_ends : (e : Expression) → Ends expression_tokens expression_end e
  expression_ends (One a) at r = assignment_ends a at r
  expression_ends (More a e) at r = let g = assignment_ends a at (c.Comma ∷ expression_tokens e r) in let h =
      expression_ends e
      (assignment_end at a + 1) r in omega (arith, g, h)

  pub assignment_ends : (a : Assignment) → Ends assignment_tokens assignment_end a
  assignment_ends (To t m a) at r = let g = target_ends t at (m ∷ assignment_tokens a r) in let h = assignment_ends a (target_end at t + 1) r in
      omega (arith, g, h)
  assignment_ends (Value d) at r = conditional_ends d at r

  pub conditional_ends : (d : Conditional) → Ends conditional_tokens conditional_end d
  conditional_ends (Choose b e d) at r =
      let x = binary_end at b + 1 in
      let rest = c.Colon ∷ conditional_tokens d r in
      let f = binary_ends b at (c.Question ∷ expression_tokens e rest) in
      let g = expression_ends e x rest in
      let h = conditional_ends d (expression_end x e + 1) r in
      omega (arith, f, g, h)
  conditional_ends (Only b) at r = binary_ends b at r

  pub binary_ends : (b : Binary) → Ends binary_tokens binary_end b
  binary_ends (Single u) at r = unary_ends u at r
  binary_ends (Both a m b) at r = let g = binary_ends a at (m ∷ binary_tokens b r) in let h = binary_ends b (binary_end at a + 1) r in omega (arith, g, h)

  pub unary_ends : (u : Unary) → Ends unary_tokens unary_end u
  unary_ends (Prefixed m u) at r = let h = unary_ends u (at + 1) r in omega (arith, h)
  unary_ends (StepTo t) at r = let h = target_ends t (at + 1) r in omega (arith, h)
  unary_ends (CastTo n u) at r = let g = type_ends n (at + 1) (c.Close ∷ unary_tokens u r) in let h = unary_ends u (type_end (at + 1) n + 1) r in
      omega (arith, g, h)
  unary_ends (CastVoid u) at r = let h = unary_ends u (at + 1 + 1 + 1) r in omega (arith, h)
  unary_ends (Place t) at r = target_ends t at r
  unary_ends (StepAfter t) at r = let h = target_ends t at (c.Step ∷ r) in omega (arith, h)
  unary_ends CallNone at r = omega arith
  unary_ends (CallWith xs) at r = let h = arguments_ends xs (at + 1 + 1) (c.Close ∷ r) in omega (arith, h)
  unary_ends Number at r = omega arith
  unary_ends Character at r = omega arith
  unary_ends (Within e) at r = let h = expression_ends e (at + 1) (c.Close ∷ r) in omega (arith, h)

  pub target_ends : (t : Target) → Ends target_tokens target_end t
  target_ends Variable at r = omega arith
  target_ends (Cell e) at r = let h = expression_ends e (at + 1 + 1) (c.CloseIndex ∷ r) in omega (arith, h)
  target_ends (Round t) at r = let h = target_ends t (at + 1) (c.Close ∷ r) in omega (arith, h)

  pub arguments_ends : (xs : Arguments) → Ends arguments_tokens arguments_end xs
  arguments_ends (Last x) at r = argument_ends x at r
  arguments_ends (Then x xs) at r = let g = argument_ends x at (c.Comma ∷ arguments_tokens xs r) in let h =
      arguments_ends xs (argument_end at x + 1)
      r in omega (arith, g, h)

  pub argument_ends : (x : Argument) → Ends argument_tokens argument_end x
  argument_ends (Given a) at r = assignment_ends a at r
  argument_ends (Written n) at r = texts_ends n at r

-- ---- declarations

pub word_ends : (k : Class) (given : Bool) → Ends (word_tokens k) word_end given
word_ends k false at r = omega arith
word_ends k true at r = omega arith

pub optional_ends : (o : Option Expression) → Ends optional_tokens optional_end o
optional_ends None at r = omega arith
optional_ends (Some e) at r = expression_ends e at r

pub size_ends : (x : Size) → Ends size_tokens size_end x
size_ends NoSize at r = omega arith
size_ends Unsized at r = omega arith
size_ends (Sized d) at r = let h = conditional_ends d (at + 1) (c.CloseIndex ∷ r) in omega (arith, h)

more_ends : {X : Type 0} (f : X → List Class → List Class) (z : ℕ → X → ℕ) → ((x : X) → Ends f z x) → (xs : List X) → Ends (more_tokens f) (more_end z) xs
more_ends {X} f z e [] at r = omega arith
more_ends {X} f z e (x ∷ xs) at r = let g = e x (at + 1) (more_tokens f xs r) in let h = more_ends f z e xs (z (at + 1) x) r in omega (arith, g, h)

rest_ends : {X : Type 0} (f : X → List Class → List Class) (z : ℕ → X → ℕ) → ((x : X) → Ends f z x) → (xs : List X) (trailing : Bool) (at : ℕ) (r : List Class)
    → at + length (rest_tokens f xs trailing r) ≡ rest_end z at xs trailing + length r
rest_ends {X} f z e [] trailing at r = let h = word_ends c.Comma trailing at (c.CloseBlock ∷ r) in omega (arith, h)
rest_ends {X} f z e (x ∷ xs) trailing at r = let g = e x (at + 1) (rest_tokens f xs trailing r) in let h =
    rest_ends f z e xs trailing (z (at + 1) x)
    r in omega (arith, g, h)

initialiser_ends : (i : Initialiser) → Ends initialiser_tokens initialiser_end i
initialiser_ends (OneValue a) at r = assignment_ends a at r
initialiser_ends (ValueList a xs trailing) at r =
    let g = assignment_ends a (at + 1) (rest_tokens assignment_tokens xs trailing r) in
    let h = rest_ends assignment_tokens assignment_end assignment_ends xs trailing (assignment_end (at + 1) a) r in
    omega (arith, g, h)

value_ends : (o : Option Initialiser) → Ends value_tokens value_end o
value_ends None at r = omega arith
value_ends (Some i) at r = let h = initialiser_ends i (at + 1) r in omega (arith, h)

pub declarator_ends : (d : Declarator) → Ends declarator_tokens declarator_end d
declarator_ends (Declared size value) at r = let g = size_ends size (at + 1) (value_tokens value r) in let h =
    value_ends value (size_end (at + 1) size)
    r in omega (arith, g, h)

pub local_ends : (x : Local) → Ends local_tokens local_end x
local_ends (Locals constant n d ds) at r =
    let x = word_end at constant in
    let y = type_end x n in
    let more = more_tokens declarator_tokens ds (c.Semicolon ∷ r) in
    let e = word_ends c.Const constant at (type_tokens n (declarator_tokens d more)) in
    let f = type_ends n x (declarator_tokens d more) in
    let g = declarator_ends d y more in
    let h = more_ends declarator_tokens declarator_end declarator_ends ds (declarator_end y d) (c.Semicolon ∷ r) in
    omega (arith, e, f, g, h)

-- ---- statements

pub label_ends : (x : Label) → Ends label_tokens label_end x
label_ends NameLabel at r = omega arith
label_ends (CaseLabel d) at r = let h = conditional_ends d (at + 1) (c.Colon ∷ r) in omega (arith, h)
label_ends DefaultLabel at r = omega arith

pub start_ends : (x : ForStart) → Ends for_start_tokens for_start_end x
start_ends (StartLocal x) at r = local_ends x at r
start_ends (StartValue o) at r = let h = optional_ends o at (c.Semicolon ∷ r) in omega (arith, h)

-- an expression in brackets, behind a word
pub tested_ends : (k : Class) (e : Expression) → Ends (λ e r. k ∷ c.Open ∷ expression_tokens e (c.Close ∷ r)) (λ at e. expression_end (at + 1 + 1) e + 1) e
tested_ends k e at r = let h = expression_ends e (at + 1 + 1) (c.Close ∷ r) in omega (arith, h)

mutual
  pub block_ends : (b : Block) → Ends block_tokens block_end b
  block_ends (Braces xs) at r = let h = items_ends xs (at + 1) (c.CloseBlock ∷ r) in omega (arith, h)

  pub items_ends : (xs : Items) → Ends items_tokens items_end xs
  items_ends NoItems at r = omega arith
  items_ends (LocalItem x xs) at r = let g = local_ends x at (items_tokens xs r) in let h = items_ends xs (local_end at x) r in omega (arith, g, h)
  items_ends (StatementItem t xs) at r = let g = statement_ends t at (items_tokens xs r) in let h = items_ends xs (statement_end at t) r in omega (arith, g, h)

  pub statement_ends : (t : Statement) → Ends statement_tokens statement_end t
  statement_ends (Labelled x t) at r = let g = label_ends x at (statement_tokens t r) in let h = statement_ends t (label_end at x) r in omega (arith, g, h)
  statement_ends (Unlabelled x) at r = plain_ends x at r

  pub plain_ends : (x : Plain) → Ends plain_tokens plain_end x
  plain_ends (Compound b) at r = block_ends b at r
  plain_ends (Simple o) at r = let h = optional_ends o at (c.Semicolon ∷ r) in omega (arith, h)
  plain_ends (If e t) at r = let g = expression_ends e (at + 1 + 1) (c.Close ∷ statement_tokens t r) in let h =
      statement_ends t
      (expression_end (at + 1 + 1) e + 1) r in omega (arith, g, h)
  plain_ends (IfElse e t u) at r =
      let x = expression_end (at + 1 + 1) e + 1 in
      let rest = c.Else ∷ statement_tokens u r in
      let f = expression_ends e (at + 1 + 1) (c.Close ∷ statement_tokens t rest) in
      let g = statement_ends t x rest in
      let h = statement_ends u (statement_end x t + 1) r in
      omega (arith, f, g, h)
  plain_ends (While e t) at r = let g = expression_ends e (at + 1 + 1) (c.Close ∷ statement_tokens t r) in let h =
      statement_ends t
      (expression_end (at + 1 + 1) e + 1) r in omega (arith, g, h)
  plain_ends (DoWhile t e) at r =
      let rest = c.Close ∷ c.Semicolon ∷ r in
      let g = statement_ends t (at + 1) (c.While ∷ c.Open ∷ expression_tokens e rest) in
      let h = expression_ends e (statement_end (at + 1) t + 1 + 1) rest in
      omega (arith, g, h)
  plain_ends (For f t u b) at r =
      let x = for_start_end (at + 1 + 1) f in
      let y = optional_end x t + 1 in
      let last = c.Close ∷ statement_tokens b r in
      let third = c.Semicolon ∷ optional_tokens u last in
      let d = start_ends f (at + 1 + 1) (optional_tokens t third) in
      let e = optional_ends t x third in
      let g = optional_ends u y last in
      let h = statement_ends b (optional_end y u + 1) r in
      omega (arith, d, e, g, h)
  plain_ends (Switch e t) at r = let g = expression_ends e (at + 1 + 1) (c.Close ∷ statement_tokens t r) in let h =
      statement_ends t
      (expression_end (at + 1 + 1) e + 1) r in omega (arith, g, h)
  plain_ends Goto at r = omega arith
  plain_ends Break at r = omega arith
  plain_ends Continue at r = omega arith
  plain_ends (Return o) at r = let h = optional_ends o (at + 1) (c.Semicolon ∷ r) in omega (arith, h)

-- ---- files

constant_ends : (o : Option Conditional) → Ends constant_tokens constant_end o
constant_ends None at r = omega arith
constant_ends (Some d) at r = let h = conditional_ends d (at + 1) r in omega (arith, h)

pub enumerator_ends : (o : Option Conditional) → Ends enumerator_tokens enumerator_end o
enumerator_ends o at r = let h = constant_ends o (at + 1) r in omega (arith, h)

enumeration_ends : (x : Enumeration) → Ends enumeration_tokens enumeration_end x
enumeration_ends (Enumerated x xs trailing) at r =
    let y = enumerator_end (at + 1 + 1) x in
    let g = enumerator_ends x (at + 1 + 1) (rest_tokens enumerator_tokens xs trailing (c.Semicolon ∷ r)) in
    let h = rest_ends enumerator_tokens enumerator_end enumerator_ends xs trailing y (c.Semicolon ∷ r) in
    omega (arith, g, h)

pub parameter_ends : (x : Parameter) → Ends parameter_tokens parameter_end x
parameter_ends (Typed constant n named size) at r =
    let x = word_end at constant in
    let y = type_end x n in
    let rest = word_tokens c.Name named (size_tokens size r) in
    let e = word_ends c.Const constant at (type_tokens n rest) in
    let f = type_ends n x rest in
    let g = word_ends c.Name named y (size_tokens size r) in
    let h = size_ends size (word_end y named) r in
    omega (arith, e, f, g, h)

pub parameters_ends : (xs : Parameters) → Ends parameters_tokens parameters_end xs
parameters_ends NoParameters at r = omega arith
parameters_ends VoidParameters at r = omega arith
parameters_ends (SomeParameters x xs) at r =
    let g = parameter_ends x at (more_tokens parameter_tokens xs r) in
    let h = more_ends parameter_tokens parameter_end parameter_ends xs (parameter_end at x) r in
    omega (arith, g, h)

pub result_ends : (o : Option NumberType) → Ends result_tokens result_end o
result_ends None at r = omega arith
result_ends (Some n) at r = type_ends n at r

body_ends : (b : Option Block) → Ends body_tokens body_end b
body_ends None at r = omega arith
body_ends (Some b) at r = block_ends b at r

pub top_ends : (x : Top) → Ends top_tokens top_end x
top_ends Line at r = omega arith
top_ends (OfEnum x) at r = enumeration_ends x at r
top_ends (OfDeclaration (Declares static x)) at r = let g = word_ends c.Static static at (local_tokens x r) in let h =
    local_ends x (word_end at static)
    r in omega (arith, g, h)
top_ends (OfFunction (Defined static n xs b)) at r =
    let w = word_end at static in
    let x = result_end w n in
    let y = parameters_end (x + 1 + 1) xs in
    let last = c.Close ∷ body_tokens b r in
    let rest = c.Name ∷ c.Open ∷ parameters_tokens xs last in
    let d = word_ends c.Static static at (result_tokens n rest) in
    let e = result_ends n w rest in
    let f = parameters_ends xs (x + 1 + 1) last in
    let h = body_ends b (y + 1) r in
    omega (arith, d, e, f, h)
