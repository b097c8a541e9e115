-- How many tokens a derivation has: the numbers from its first token to the one behind it.
use Rattle.std.proofs.Common.{◌≡◌, ◌+◌, ◌<◌, ℕ, Bool, true, false, List, [], ◌∷◌, length, Option, Some, None, refl, arith}
use Rattle.c_grammar.specs.declared.class.Class.{Class}
use Rattle.c_grammar.specs.declared.class.Class.TheVariants as c
use Rattle.c_grammar.specs.Expressions.{Base, CharBase, NumberType, OfBase, Signed, SignedOf, Unsigned, UnsignedOf, Expression, One, More, Assignment, To, Value, Conditional, Choose, Only, Binary, Single, Both, Unary, Prefixed, StepTo, CastTo, CastVoid, Place, StepAfter, CallNone, CallWith, Number, Character, Within, Target, Variable, Cell, Round, Arguments, Last, Then, Argument, Given, Written, Texts, OneText, MoreTexts, base_tokens, type_tokens, expression_tokens, assignment_tokens, conditional_tokens, binary_tokens, unary_tokens, target_tokens, arguments_tokens, argument_tokens, texts_tokens}
use Rattle.c_grammar.specs.ExpressionSyntax.{base_end, type_end, expression_end, assignment_end, conditional_end, binary_end, unary_end, target_end, arguments_end, argument_end, texts_end}
use Rattle.c_grammar.specs.Statements as s
use Rattle.c_grammar.specs.Statements.{word_tokens, more_tokens, rest_tokens, optional_tokens, size_tokens, initialiser_tokens, value_tokens, declarator_tokens, local_tokens, label_tokens, for_start_tokens, block_tokens, items_tokens, statement_tokens, plain_tokens}
use Rattle.c_grammar.specs.StatementSyntax.{word_end, more_end, rest_end, optional_end, size_end, initialiser_end, value_end, declarator_end, local_end, label_end, for_start_end, block_end, items_end, statement_end, plain_end}
use Rattle.c_grammar.specs.Files as f
use Rattle.c_grammar.specs.Files.{parameter_tokens, parameters_tokens, enumerator_tokens, enumeration_tokens, declaration_tokens, result_tokens, body_tokens, function_tokens, top_tokens}
use Rattle.c_grammar.specs.FileSyntax.{parameter_end, parameters_end, enumerator_end, enumeration_end, declaration_end, result_end, body_end, function_end, top_end}

-- the tokens of a derivation that begins with this number, in front of these
abbrev pub Reaches : ℕ → ℕ → (List Class → List Class) → Type 0
Reaches at end tokens = (r : List Class) → at + length (tokens r) ≡ end + length r

-- ---- expressions

base_reaches : (at : ℕ) (b : Base) → Reaches at (base_end at b) (base_tokens b)
base_reaches at CharBase r = omega arith
base_reaches at _ r = omega arith

type_reaches : (at : ℕ) (n : NumberType) → Reaches at (type_end at n) (type_tokens n)
type_reaches at (OfBase b) r = base_reaches at b r
type_reaches at Signed r = omega arith
type_reaches at (SignedOf b) r = let x = base_reaches (at + 1) b r in omega (arith, x)
type_reaches at Unsigned r = omega arith
type_reaches at (UnsignedOf b) r = let x = base_reaches (at + 1) b r in omega (arith, x)

texts_reach : (at : ℕ) (n : Texts) → Reaches at (texts_end at n) (texts_tokens n)
texts_reach at OneText r = omega arith
texts_reach at (MoreTexts n) r = let x = texts_reach (at + 1) n r in omega (arith, x)

mutual
  pub expression_reaches : (at : ℕ) (e : Expression) → Reaches at (expression_end at e) (expression_tokens e)
  expression_reaches at (One a) r = assignment_reaches at a r
  expression_reaches at (More a e) r =
      let x = assignment_reaches at a (c.Comma ∷ expression_tokens e r) in
      let y = expression_reaches (assignment_end at a + 1) e r in
      omega (arith, x, y)

  pub assignment_reaches : (at : ℕ) (a : Assignment) → Reaches at (assignment_end at a) (assignment_tokens a)
  assignment_reaches at (To t m a) r =
      let x = target_reaches at t (m ∷ assignment_tokens a r) in
      let y = assignment_reaches (target_end at t + 1) a r in
      omega (arith, x, y)
  assignment_reaches at (Value d) r = conditional_reaches at d r

  pub conditional_reaches : (at : ℕ) (d : Conditional) → Reaches at (conditional_end at d) (conditional_tokens d)
  conditional_reaches at (Choose b e d) r =
      let x = binary_reaches at b (c.Question ∷ expression_tokens e (c.Colon ∷ conditional_tokens d r)) in
      let y = expression_reaches (binary_end at b + 1) e (c.Colon ∷ conditional_tokens d r) in
      let z = conditional_reaches (expression_end (binary_end at b + 1) e + 1) d r in
      omega (arith, x, y, z)
  conditional_reaches at (Only b) r = binary_reaches at b r

  binary_reaches : (at : ℕ) (b : Binary) → Reaches at (binary_end at b) (binary_tokens b)
  binary_reaches at (Single u) r = unary_reaches at u r
  binary_reaches at (Both a m b) r =
      let x = binary_reaches at a (m ∷ binary_tokens b r) in
      let y = binary_reaches (binary_end at a + 1) b r in
      omega (arith, x, y)

  unary_reaches : (at : ℕ) (u : Unary) → Reaches at (unary_end at u) (unary_tokens u)
  unary_reaches at (Prefixed m u) r = let x = unary_reaches (at + 1) u r in omega (arith, x)
  unary_reaches at (StepTo t) r = let x = target_reaches (at + 1) t r in omega (arith, x)
  unary_reaches at (CastTo n u) r =
      let x = type_reaches (at + 1) n (c.Close ∷ unary_tokens u r) in
      let y = unary_reaches (type_end (at + 1) n + 1) u r in
      omega (arith, x, y)
  unary_reaches at (CastVoid u) r = let x = unary_reaches (at + 1 + 1 + 1) u r in omega (arith, x)
  unary_reaches at (Place t) r = target_reaches at t r
  unary_reaches at (StepAfter t) r = let x = target_reaches at t (c.Step ∷ r) in omega (arith, x)
  unary_reaches at CallNone r = omega arith
  unary_reaches at (CallWith xs) r = let x = arguments_reach (at + 1 + 1) xs (c.Close ∷ r) in omega (arith, x)
  unary_reaches at Number r = omega arith
  unary_reaches at Character r = omega arith
  unary_reaches at (Within e) r = let x = expression_reaches (at + 1) e (c.Close ∷ r) in omega (arith, x)

  target_reaches : (at : ℕ) (t : Target) → Reaches at (target_end at t) (target_tokens t)
  target_reaches at Variable r = omega arith
  target_reaches at (Cell e) r = let x = expression_reaches (at + 1 + 1) e (c.CloseIndex ∷ r) in omega (arith, x)
  target_reaches at (Round t) r = let x = target_reaches (at + 1) t (c.Close ∷ r) in omega (arith, x)

  arguments_reach : (at : ℕ) (xs : Arguments) → Reaches at (arguments_end at xs) (arguments_tokens xs)
  arguments_reach at (Last x) r = argument_reaches at x r
  arguments_reach at (Then x xs) r =
      let y = argument_reaches at x (c.Comma ∷ arguments_tokens xs r) in
      let z = arguments_reach (argument_end at x + 1) xs r in
      omega (arith, y, z)

  argument_reaches : (at : ℕ) (x : Argument) → Reaches at (argument_end at x) (argument_tokens x)
  argument_reaches at (Given a) r = assignment_reaches at a r
  argument_reaches at (Written n) r = texts_reach at n r

-- ---- declarations and statements

word_reaches : (at : ℕ) (t : Class) (b : Bool) → Reaches at (word_end at b) (word_tokens t b)
word_reaches at t false r = refl
word_reaches at t true r = omega arith

more_reach : {X : Type 0} (end : ℕ → X → ℕ) (tokens : X → List Class → List Class) → ((at : ℕ) (x : X) → Reaches at (end at x) (tokens x)) →
    (at : ℕ) (xs : List X) → Reaches at (more_end end at xs) (more_tokens tokens xs)
more_reach end tokens h at [] r = refl
more_reach end tokens h at (x ∷ xs) r =
    let y = h (at + 1) x (more_tokens tokens xs r) in
    let z = more_reach end tokens h (end (at + 1) x) xs r in
    omega (arith, y, z)

rest_reaches : {X : Type 0} (end : ℕ → X → ℕ) (tokens : X → List Class → List Class) → ((at : ℕ) (x : X) → Reaches at (end at x) (tokens x)) →
    (at : ℕ) (xs : List X) (trailing : Bool) → Reaches at (rest_end end at xs trailing) (rest_tokens tokens xs trailing)
rest_reaches end tokens h at [] trailing r = let x = word_reaches at c.Comma trailing (c.CloseBlock ∷ r) in omega (arith, x)
rest_reaches end tokens h at (x ∷ xs) trailing r =
    let y = h (at + 1) x (rest_tokens tokens xs trailing r) in
    let z = rest_reaches end tokens h (end (at + 1) x) xs trailing r in
    omega (arith, y, z)

pub optional_reaches : (at : ℕ) (o : Option Expression) → Reaches at (optional_end at o) (optional_tokens o)
optional_reaches at None r = refl
optional_reaches at (Some e) r = expression_reaches at e r

size_reaches : (at : ℕ) (x : s.Size) → Reaches at (size_end at x) (size_tokens x)
size_reaches at s.NoSize r = refl
size_reaches at s.Unsized r = omega arith
size_reaches at (s.Sized d) r = let x = conditional_reaches (at + 1) d (c.CloseIndex ∷ r) in omega (arith, x)

initialiser_reaches : (at : ℕ) (x : s.Initialiser) → Reaches at (initialiser_end at x) (initialiser_tokens x)
initialiser_reaches at (s.OneValue a) r = assignment_reaches at a r
initialiser_reaches at (s.ValueList a xs trailing) r =
    let x = assignment_reaches (at + 1) a (rest_tokens assignment_tokens xs trailing r) in
    let y = rest_reaches assignment_end assignment_tokens assignment_reaches (assignment_end (at + 1) a) xs trailing r in
    omega (arith, x, y)

value_reaches : (at : ℕ) (x : Option s.Initialiser) → Reaches at (value_end at x) (value_tokens x)
value_reaches at None r = refl
value_reaches at (Some i) r = let x = initialiser_reaches (at + 1) i r in omega (arith, x)

declarator_reaches : (at : ℕ) (d : s.Declarator) → Reaches at (declarator_end at d) (declarator_tokens d)
declarator_reaches at (s.Declared size value) r =
    let x = size_reaches (at + 1) size (value_tokens value r) in
    let y = value_reaches (size_end (at + 1) size) value r in
    omega (arith, x, y)

pub local_reaches : (at : ℕ) (x : s.Local) → Reaches at (local_end at x) (local_tokens x)
local_reaches at (s.Locals constant n d ds) r =
    let w = word_end at constant in
    let q = more_tokens declarator_tokens ds (c.Semicolon ∷ r) in
    let x = word_reaches at c.Const constant (type_tokens n (declarator_tokens d q)) in
    let y = type_reaches w n (declarator_tokens d q) in
    let z = declarator_reaches (type_end w n) d q in
    let u = more_reach declarator_end declarator_tokens declarator_reaches (declarator_end (type_end w n) d) ds (c.Semicolon ∷ r) in
    omega (arith, x, y, z, u)

pub label_reaches : (at : ℕ) (l : s.Label) → Reaches at (label_end at l) (label_tokens l)
label_reaches at s.NameLabel r = omega arith
label_reaches at (s.CaseLabel d) r = let x = conditional_reaches (at + 1) d (c.Colon ∷ r) in omega (arith, x)
label_reaches at s.DefaultLabel r = omega arith

pub start_reaches : (at : ℕ) (x : s.ForStart) → Reaches at (for_start_end at x) (for_start_tokens x)
start_reaches at (s.StartLocal x) r = local_reaches at x r
start_reaches at (s.StartValue o) r = let x = optional_reaches at o (c.Semicolon ∷ r) in omega (arith, x)

mutual
  pub block_reaches : (at : ℕ) (b : s.Block) → Reaches at (block_end at b) (block_tokens b)
  block_reaches at (s.Braces xs) r = let x = items_reach (at + 1) xs (c.CloseBlock ∷ r) in omega (arith, x)

  pub items_reach : (at : ℕ) (xs : s.Items) → Reaches at (items_end at xs) (items_tokens xs)
  items_reach at s.NoItems r = refl
  items_reach at (s.LocalItem x xs) r =
      let y = local_reaches at x (items_tokens xs r) in
      let z = items_reach (local_end at x) xs r in
      omega (arith, y, z)
  items_reach at (s.StatementItem x xs) r =
      let y = statement_reaches at x (items_tokens xs r) in
      let z = items_reach (statement_end at x) xs r in
      omega (arith, y, z)

  pub statement_reaches : (at : ℕ) (x : s.Statement) → Reaches at (statement_end at x) (statement_tokens x)
  statement_reaches at (s.Labelled l x) r =
      let y = label_reaches at l (statement_tokens x r) in
      let z = statement_reaches (label_end at l) x r in
      omega (arith, y, z)
  statement_reaches at (s.Unlabelled x) r = plain_reaches at x r

  plain_reaches : (at : ℕ) (x : s.Plain) → Reaches at (plain_end at x) (plain_tokens x)
  plain_reaches at (s.Compound b) r = block_reaches at b r
  plain_reaches at (s.Simple o) r = let x = optional_reaches at o (c.Semicolon ∷ r) in omega (arith, x)
  plain_reaches at (s.If e x) r =
      let u = expression_reaches (at + 1 + 1) e (c.Close ∷ statement_tokens x r) in
      let v = statement_reaches (expression_end (at + 1 + 1) e + 1) x r in
      omega (arith, u, v)
  plain_reaches at (s.IfElse e x y) r =
      let b = expression_end (at + 1 + 1) e + 1 in
      let u = expression_reaches (at + 1 + 1) e (c.Close ∷ statement_tokens x (c.Else ∷ statement_tokens y r)) in
      let v = statement_reaches b x (c.Else ∷ statement_tokens y r) in
      let w = statement_reaches (statement_end b x + 1) y r in
      omega (arith, u, v, w)
  plain_reaches at (s.While e x) r =
      let u = expression_reaches (at + 1 + 1) e (c.Close ∷ statement_tokens x r) in
      let v = statement_reaches (expression_end (at + 1 + 1) e + 1) x r in
      omega (arith, u, v)
  plain_reaches at (s.DoWhile x e) r =
      let u = statement_reaches (at + 1) x (c.While ∷ c.Open ∷ expression_tokens e (c.Close ∷ c.Semicolon ∷ r)) in
      let v = expression_reaches (statement_end (at + 1) x + 1 + 1) e (c.Close ∷ c.Semicolon ∷ r) in
      omega (arith, u, v)
  plain_reaches at (s.For x t v y) r =
      let a = for_start_end (at + 1 + 1) x in
      let b = optional_end a t + 1 in
      let d = optional_end b v + 1 in
      let h = start_reaches (at + 1 + 1) x (optional_tokens t (c.Semicolon ∷ optional_tokens v (c.Close ∷ statement_tokens y r))) in
      let i = optional_reaches a t (c.Semicolon ∷ optional_tokens v (c.Close ∷ statement_tokens y r)) in
      let j = optional_reaches b v (c.Close ∷ statement_tokens y r) in
      let k = statement_reaches d y r in
      omega (arith, h, i, j, k)
  plain_reaches at (s.Switch e x) r =
      let u = expression_reaches (at + 1 + 1) e (c.Close ∷ statement_tokens x r) in
      let v = statement_reaches (expression_end (at + 1 + 1) e + 1) x r in
      omega (arith, u, v)
  plain_reaches at s.Goto r = omega arith
  plain_reaches at s.Break r = omega arith
  plain_reaches at s.Continue r = omega arith
  plain_reaches at (s.Return o) r = let x = optional_reaches (at + 1) o (c.Semicolon ∷ r) in omega (arith, x)

-- ---- files

parameter_reaches : (at : ℕ) (x : f.Parameter) → Reaches at (parameter_end at x) (parameter_tokens x)
parameter_reaches at (f.Typed constant n named size) r =
    let w = word_end at constant in
    let e = word_tokens c.Name named (size_tokens size r) in
    let x = word_reaches at c.Const constant (type_tokens n e) in
    let y = type_reaches w n e in
    let z = word_reaches (type_end w n) c.Name named (size_tokens size r) in
    let u = size_reaches (word_end (type_end w n) named) size r in
    omega (arith, x, y, z, u)

pub parameters_reach : (at : ℕ) (xs : f.Parameters) → Reaches at (parameters_end at xs) (parameters_tokens xs)
parameters_reach at f.NoParameters r = refl
parameters_reach at f.VoidParameters r = omega arith
parameters_reach at (f.SomeParameters x xs) r =
    let y = parameter_reaches at x (more_tokens parameter_tokens xs r) in
    let z = more_reach parameter_end parameter_tokens parameter_reaches (parameter_end at x) xs r in
    omega (arith, y, z)

enumerator_reaches : (at : ℕ) (x : Option Conditional) → Reaches at (enumerator_end at x) (enumerator_tokens x)
enumerator_reaches at None r = omega arith
enumerator_reaches at (Some d) r = let x = conditional_reaches (at + 1 + 1) d r in omega (arith, x)

pub enumeration_reaches : (at : ℕ) (x : f.Enumeration) → Reaches at (enumeration_end at x) (enumeration_tokens x)
enumeration_reaches at (f.Enumerated x xs trailing) r =
    let y = enumerator_reaches (at + 1 + 1) x (rest_tokens enumerator_tokens xs trailing (c.Semicolon ∷ r)) in
    let z = rest_reaches enumerator_end enumerator_tokens enumerator_reaches (enumerator_end (at + 1 + 1) x) xs trailing (c.Semicolon ∷ r) in
    omega (arith, y, z)

pub declaration_reaches : (at : ℕ) (x : f.Declaration) → Reaches at (declaration_end at x) (declaration_tokens x)
declaration_reaches at (f.Declares static x) r =
    let y = word_reaches at c.Static static (local_tokens x r) in
    let z = local_reaches (word_end at static) x r in
    omega (arith, y, z)

result_reaches : (at : ℕ) (n : Option NumberType) → Reaches at (result_end at n) (result_tokens n)
result_reaches at None r = omega arith
result_reaches at (Some n) r = type_reaches at n r

body_reaches : (at : ℕ) (b : Option s.Block) → Reaches at (body_end at b) (body_tokens b)
body_reaches at None r = omega arith
body_reaches at (Some b) r = block_reaches at b r

pub function_reaches : (at : ℕ) (x : f.Function) → Reaches at (function_end at x) (function_tokens x)
function_reaches at (f.Defined static n xs b) r =
    let w = word_end at static in
    let x = result_end w n in
    let y = parameters_end (x + 1 + 1) xs in
    let h = word_reaches at c.Static static (result_tokens n (c.Name ∷ c.Open ∷ parameters_tokens xs (c.Close ∷ body_tokens b r))) in
    let i = result_reaches w n (c.Name ∷ c.Open ∷ parameters_tokens xs (c.Close ∷ body_tokens b r)) in
    let j = parameters_reach (x + 1 + 1) xs (c.Close ∷ body_tokens b r) in
    let k = body_reaches (y + 1) b r in
    omega (arith, h, i, j, k)

pub top_reaches : (at : ℕ) (x : f.Top) → Reaches at (top_end at x) (top_tokens x)
top_reaches at f.Line r = omega arith
top_reaches at (f.OfEnum x) r = enumeration_reaches at x r
top_reaches at (f.OfDeclaration x) r = declaration_reaches at x r
top_reaches at (f.OfFunction x) r = function_reaches at x r

-- ---- a declaration and a statement have a token

pub local_later : (at : ℕ) (x : s.Local) → at < local_end at x
local_later at (s.Locals constant n d ds) =
    let w = word_end at constant in
    let x = word_reaches at c.Const constant [] in
    let y = type_reaches w n [] in
    let z = declarator_reaches (type_end w n) d [] in
    let u = more_reach declarator_end declarator_tokens declarator_reaches (declarator_end (type_end w n) d) ds [] in
    omega (arith, x, y, z, u)

mutual
  pub statement_later : (at : ℕ) (x : s.Statement) → at < statement_end at x
  statement_later at (s.Labelled l x) = let u = label_reaches at l [] in let v = statement_later (label_end at l) x in omega (arith, u, v)
  statement_later at (s.Unlabelled x) = plain_later at x

  pub plain_later : (at : ℕ) (x : s.Plain) → at < plain_end at x
  plain_later at (s.Compound (s.Braces xs)) = let u = items_reach (at + 1) xs [] in omega (arith, u)
  plain_later at (s.Simple o) = let u = optional_reaches at o [] in omega (arith, u)
  plain_later at (s.If e x) = let u = expression_reaches (at + 1 + 1) e [] in let v = statement_later (expression_end (at + 1 + 1) e + 1) x in
      omega (arith, u, v)
  plain_later at (s.IfElse e x y) =
      let b = expression_end (at + 1 + 1) e + 1 in
      let u = expression_reaches (at + 1 + 1) e [] in
      let v = statement_later b x in
      let w = statement_later (statement_end b x + 1) y in
      omega (arith, u, v, w)
  plain_later at (s.While e x) = let u = expression_reaches (at + 1 + 1) e [] in let v = statement_later (expression_end (at + 1 + 1) e + 1) x in
      omega (arith, u, v)
  plain_later at (s.DoWhile x e) =
      let u = statement_later (at + 1) x in
      let v = expression_reaches (statement_end (at + 1) x + 1 + 1) e [] in
      omega (arith, u, v)
  plain_later at (s.For x t v y) =
      let a = for_start_end (at + 1 + 1) x in
      let b = optional_end a t + 1 in
      let h = start_reaches (at + 1 + 1) x [] in
      let i = optional_reaches a t [] in
      let j = optional_reaches b v [] in
      let k = statement_later (optional_end b v + 1) y in
      omega (arith, h, i, j, k)
  plain_later at (s.Switch e x) = let u = expression_reaches (at + 1 + 1) e [] in let v = statement_later (expression_end (at + 1 + 1) e + 1) x in
      omega (arith, u, v)
  plain_later at s.Goto = omega arith
  plain_later at s.Break = omega arith
  plain_later at s.Continue = omega arith
  plain_later at (s.Return o) = let u = optional_reaches (at + 1) o [] in omega (arith, u)

-- the body of a function stands behind its first token
pub body_later : (at : ℕ) (static : Bool) (n : Option NumberType) (xs : f.Parameters) → at < parameters_end (result_end (word_end at static) n + 1 + 1) xs + 1
body_later at static n xs =
    let u = word_reaches at c.Static static [] in
    let v = result_reaches (word_end at static) n [] in
    let w = parameters_reach (result_end (word_end at static) n + 1 + 1) xs [] in
    omega (arith, u, v, w)

pub top_later : (at : ℕ) (x : f.Top) → at < top_end at x
top_later at f.Line = omega arith
top_later at (f.OfEnum (f.Enumerated x xs trailing)) =
    let y = enumerator_reaches (at + 1 + 1) x [] in
    let z = rest_reaches enumerator_end enumerator_tokens enumerator_reaches (enumerator_end (at + 1 + 1) x) xs trailing [] in
    omega (arith, y, z)
top_later at (f.OfDeclaration (f.Declares static x)) = let y = word_reaches at c.Static static [] in let z = local_later (word_end at static) x in
    omega (arith, y, z)
top_later at (f.OfFunction (f.Defined static n xs b)) =
    let u = body_later at static n xs in
    let v = body_reaches (parameters_end (result_end (word_end at static) n + 1 + 1) xs + 1) b [] in
    omega (arith, u, v)
