-- What the derivation of an expression writes (ISO/IEC 9899:2011, 6.5): its source form, from the number of its first token on.
use Rattle.std.specs.Prelude.{ℕ, ◌+◌, List, [], ◌∷◌}
use Rattle.c_grammar.specs.Expressions.{Base, LongIntBase, NumberType, OfBase, SignedOf, UnsignedOf, Expression, One, More, Assignment, To, Value, Conditional, Choose, Only, Binary, Single, Both, Unary, Prefixed, StepTo, CastTo, CastVoid, Place, StepAfter, CallNone, CallWith, Number, Character, Within, Target, Variable, Cell, Round, Arguments, Last, Then, Argument, Given, Written, Texts, OneText, MoreTexts}
use Rattle.c_grammar.specs.ExpressionSyntax.{type_end, expression_end, assignment_end, binary_end, target_end, argument_end}
use Rattle.c_grammar.specs.Terms.{Term, Form, Terms, At, NoTerm}
use Rattle.c_grammar.specs.Terms as s

-- the words of a type
abbrev pub base_words : ℕ → Base → List ℕ
base_words at LongIntBase = at ∷ (at + 1) ∷ []
base_words at _ = at ∷ []

abbrev pub type_words : ℕ → NumberType → List ℕ
type_words at (OfBase b) = base_words at b
type_words at (SignedOf b) = at ∷ base_words (at + 1) b
type_words at (UnsignedOf b) = at ∷ base_words (at + 1) b
type_words at _ = at ∷ []

abbrev pub text_tokens : ℕ → Texts → List ℕ
text_tokens at OneText = at ∷ []
text_tokens at (MoreTexts n) = at ∷ text_tokens (at + 1) n

abbrev mutual
  pub expression_form : ℕ → Expression → Form
  expression_form at (One a) = assignment_form at a
  expression_form at (More a e) = s.Commas (At at (assignment_form at a)) (expression_terms (assignment_end at a + 1) e)

  -- its assignments, between which commas stand
  pub expression_terms : ℕ → Expression → Terms
  expression_terms at (One a) = s.Then (At at (assignment_form at a)) NoTerm
  expression_terms at (More a e) = s.Then (At at (assignment_form at a)) (expression_terms (assignment_end at a + 1) e)

  pub assignment_form : ℕ → Assignment → Form
  assignment_form at (To t m a) = let x = target_end at t in s.Assign x (At at (target_form at t)) (At (x + 1) (assignment_form (x + 1) a))
  assignment_form at (Value d) = conditional_form at d

  pub conditional_form : ℕ → Conditional → Form
  conditional_form at (Choose b e d) =
      let x = binary_end at b in
      let y = expression_end (x + 1) e in
      s.Choice (At at (binary_form at b)) (At (x + 1) (expression_form (x + 1) e)) (At (y + 1) (conditional_form (y + 1) d))
  conditional_form at (Only b) = binary_form at b

  pub binary_form : ℕ → Binary → Form
  binary_form at (Single u) = unary_form at u
  binary_form at (Both a m b) = let x = binary_end at a in s.Binary x (At at (binary_form at a)) (At (x + 1) (binary_form (x + 1) b))

  pub unary_form : ℕ → Unary → Form
  unary_form at (Prefixed m u) = s.Prefix at (At (at + 1) (unary_form (at + 1) u))
  unary_form at (StepTo t) = s.Prefix at (At (at + 1) (target_form (at + 1) t))
  unary_form at (CastTo n u) = let x = type_end (at + 1) n in s.CastTo (type_words (at + 1) n) (At (x + 1) (unary_form (x + 1) u))
  unary_form at (CastVoid u) = s.CastVoid (At (at + 1 + 1 + 1) (unary_form (at + 1 + 1 + 1) u))
  unary_form at (Place t) = target_form at t
  unary_form at (StepAfter t) = s.Suffix (target_end at t) (At at (target_form at t))
  unary_form at CallNone = s.Call at NoTerm
  unary_form at (CallWith xs) = s.Call at (arguments_terms (at + 1 + 1) xs)
  unary_form at Number = s.Constant at
  unary_form at Character = s.Constant at
  -- brackets are not written
  unary_form at (Within e) = expression_form (at + 1) e

  pub target_form : ℕ → Target → Form
  target_form at Variable = s.Variable at
  target_form at (Cell e) = s.Cell at (At (at + 1 + 1) (expression_form (at + 1 + 1) e))
  target_form at (Round t) = target_form (at + 1) t

  pub arguments_terms : ℕ → Arguments → Terms
  arguments_terms at (Last x) = s.Then (At at (argument_form at x)) NoTerm
  arguments_terms at (Then x xs) = s.Then (At at (argument_form at x)) (arguments_terms (argument_end at x + 1) xs)

  pub argument_form : ℕ → Argument → Form
  argument_form at (Given a) = assignment_form at a
  argument_form at (Written n) = s.Texts (text_tokens at n)
