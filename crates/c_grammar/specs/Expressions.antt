-- The derivations of expressions (ISO/IEC 9899:2011, 6.5), and their tokens.
use Rattle.std.specs.Prelude.{◌≡◌, ◌<◌, ◌≤◌, ℕ, Bool, true, false, List, ◌∷◌}
use Rattle.c_grammar.specs.declared.class.Class.{Class}
use Rattle.c_grammar.specs.declared.class.Class.TheVariants as c
use Rattle.c_grammar.specs.Classes.{level, is_assign, is_prefix}

pub data Base : Type 0 where
  CharBase : Base
  IntBase : Base
  LongBase : Base
  LongIntBase : Base

-- number-type
pub data NumberType : Type 0 where
  OfBase : Base → NumberType
  Signed : NumberType
  SignedOf : Base → NumberType
  Unsigned : NumberType
  UnsignedOf : Base → NumberType

mutual
  -- expression = assignment { "," assignment }
  pub data Expression : Type 0 where
    One : Assignment → Expression
    More : Assignment → Expression → Expression

  -- assignment = target assign-mark assignment | conditional
  pub data Assignment : Type 0 where
    To : Target → Class → Assignment → Assignment
    Value : Conditional → Assignment

  -- conditional = binary [ "?" expression ":" conditional ]
  pub data Conditional : Type 0 where
    Choose : Binary → Expression → Conditional → Conditional
    Only : Binary → Conditional

  pub data Binary : Type 0 where
    Single : Unary → Binary
    Both : Binary → Class → Binary → Binary

  -- unary = ( "+" | "-" | "!" | "~" ) unary | ( "++" | "--" ) target | "(" ( number-type | "void" ) ")" unary | postfix
  -- postfix = target [ "++" | "--" ] | name "(" [ argument { "," argument } ] ")" | number | character | "(" expression ")"
  pub data Unary : Type 0 where
    Prefixed : Class → Unary → Unary
    StepTo : Target → Unary
    CastTo : NumberType → Unary → Unary
    CastVoid : Unary → Unary
    Place : Target → Unary
    StepAfter : Target → Unary
    CallNone : Unary
    CallWith : Arguments → Unary
    Number : Unary
    Character : Unary
    Within : Expression → Unary

  -- target = name | name "[" expression "]" | "(" target ")"
  pub data Target : Type 0 where
    Variable : Target
    Cell : Expression → Target
    Round : Target → Target

  pub data Arguments : Type 0 where
    Last : Argument → Arguments
    Then : Argument → Arguments → Arguments

  -- argument = assignment | text { text }
  pub data Argument : Type 0 where
    Given : Assignment → Argument
    Written : Texts → Argument

  pub data Texts : Type 0 where
    OneText : Texts
    MoreTexts : Texts → Texts

-- ---- the tokens of a derivation, and then these

abbrev pub base_tokens : Base → List Class → List Class
base_tokens CharBase r = c.Char ∷ r
base_tokens IntBase r = c.Int ∷ r
base_tokens LongBase r = c.Long ∷ r
base_tokens LongIntBase r = c.Long ∷ c.Int ∷ r

abbrev pub type_tokens : NumberType → List Class → List Class
type_tokens (OfBase b) r = base_tokens b r
type_tokens Signed r = c.Signed ∷ r
type_tokens (SignedOf b) r = c.Signed ∷ base_tokens b r
type_tokens Unsigned r = c.Unsigned ∷ r
type_tokens (UnsignedOf b) r = c.Unsigned ∷ base_tokens b r

abbrev mutual
  pub expression_tokens : Expression → List Class → List Class
  expression_tokens (One a) r = assignment_tokens a r
  expression_tokens (More a e) r = assignment_tokens a (c.Comma ∷ expression_tokens e r)

  pub assignment_tokens : Assignment → List Class → List Class
  assignment_tokens (To t m a) r = target_tokens t (m ∷ assignment_tokens a r)
  assignment_tokens (Value d) r = conditional_tokens d r

  pub conditional_tokens : Conditional → List Class → List Class
  conditional_tokens (Choose b e d) r = binary_tokens b (c.Question ∷ expression_tokens e (c.Colon ∷ conditional_tokens d r))
  conditional_tokens (Only b) r = binary_tokens b r

  pub binary_tokens : Binary → List Class → List Class
  binary_tokens (Single u) r = unary_tokens u r
  binary_tokens (Both a m b) r = binary_tokens a (m ∷ binary_tokens b r)

  pub unary_tokens : Unary → List Class → List Class
  unary_tokens (Prefixed m u) r = m ∷ unary_tokens u r
  unary_tokens (StepTo t) r = c.Step ∷ target_tokens t r
  unary_tokens (CastTo n u) r = c.Open ∷ type_tokens n (c.Close ∷ unary_tokens u r)
  unary_tokens (CastVoid u) r = c.Open ∷ c.Void ∷ c.Close ∷ unary_tokens u r
  unary_tokens (Place t) r = target_tokens t r
  unary_tokens (StepAfter t) r = target_tokens t (c.Step ∷ r)
  unary_tokens CallNone r = c.Name ∷ c.Open ∷ c.Close ∷ r
  unary_tokens (CallWith xs) r = c.Name ∷ c.Open ∷ arguments_tokens xs (c.Close ∷ r)
  unary_tokens Number r = c.Number ∷ r
  unary_tokens Character r = c.Character ∷ r
  unary_tokens (Within e) r = c.Open ∷ expression_tokens e (c.Close ∷ r)

  pub target_tokens : Target → List Class → List Class
  target_tokens Variable r = c.Name ∷ r
  target_tokens (Cell e) r = c.Name ∷ c.OpenIndex ∷ expression_tokens e (c.CloseIndex ∷ r)
  target_tokens (Round t) r = c.Open ∷ target_tokens t (c.Close ∷ r)

  pub arguments_tokens : Arguments → List Class → List Class
  arguments_tokens (Last x) r = argument_tokens x r
  arguments_tokens (Then x xs) r = argument_tokens x (c.Comma ∷ arguments_tokens xs r)

  pub argument_tokens : Argument → List Class → List Class
  argument_tokens (Given a) r = assignment_tokens a r
  argument_tokens (Written n) r = texts_tokens n r

  pub texts_tokens : Texts → List Class → List Class
  texts_tokens OneText r = c.Text ∷ r
  texts_tokens (MoreTexts n) r = c.Text ∷ texts_tokens n r

-- ---- a target alone

abbrev pub is_lone_unary : Unary → Bool
is_lone_unary (Place t) = true
is_lone_unary _ = false

abbrev pub is_lone_binary : Binary → Bool
is_lone_binary (Single u) = is_lone_unary u
is_lone_binary (Both a m b) = false

abbrev pub is_lone_conditional : Conditional → Bool
is_lone_conditional (Choose b e d) = false
is_lone_conditional (Only b) = is_lone_binary b

abbrev pub is_lone_assignment : Assignment → Bool
is_lone_assignment (To t m a) = false
is_lone_assignment (Value d) = is_lone_conditional d

abbrev pub is_lone : Expression → Bool
is_lone (One a) = is_lone_assignment a
is_lone (More a e) = false

-- ---- what the productions ask beyond their form: marks of the kind, the levels, and brackets round a target make a target

-- the level of the loosest mark
abbrev pub root : Binary → ℕ
root (Single u) = 14
root (Both a m b) = level m

abbrev mutual
  pub FitsExpression : Expression → Type 0
  FitsExpression (One a) = FitsAssignment a
  FitsExpression (More a e) = FitsAssignment a × FitsExpression e

  pub FitsAssignment : Assignment → Type 0
  FitsAssignment (To t m a) = FitsTarget t × (is_assign m ≡ true) × FitsAssignment a
  FitsAssignment (Value d) = FitsConditional d

  pub FitsConditional : Conditional → Type 0
  FitsConditional (Choose b e d) = FitsBinary b × FitsExpression e × FitsConditional d
  FitsConditional (Only b) = FitsBinary b

  -- to the left a mark that binds as tightly, to the right one that binds more tightly
  pub FitsBinary : Binary → Type 0
  FitsBinary (Single u) = FitsUnary u
  FitsBinary (Both a m b) = FitsBinary a × FitsBinary b × (0 < level m) × (level m ≤ root a) × (level m < root b)

  pub FitsUnary : Unary → Type 0
  FitsUnary (Prefixed m u) = (is_prefix m ≡ true) × FitsUnary u
  FitsUnary (StepTo t) = FitsTarget t
  FitsUnary (CastTo n u) = FitsUnary u
  FitsUnary (CastVoid u) = FitsUnary u
  FitsUnary (Place t) = FitsTarget t
  FitsUnary (StepAfter t) = FitsTarget t
  FitsUnary CallNone = Unit {0}
  FitsUnary (CallWith xs) = FitsArguments xs
  FitsUnary Number = Unit {0}
  FitsUnary Character = Unit {0}
  FitsUnary (Within e) = (is_lone e ≡ false) × FitsExpression e

  pub FitsTarget : Target → Type 0
  FitsTarget Variable = Unit {0}
  FitsTarget (Cell e) = FitsExpression e
  FitsTarget (Round t) = FitsTarget t

  pub FitsArguments : Arguments → Type 0
  FitsArguments (Last x) = FitsArgument x
  FitsArguments (Then x xs) = FitsArgument x × FitsArguments xs

  pub FitsArgument : Argument → Type 0
  FitsArgument (Given a) = FitsAssignment a
  FitsArgument (Written n) = Unit {0}
