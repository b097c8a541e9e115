-- What the derivation of an expression writes (ISO/IEC 9899:2011, 6.5): its term, from the number of its first token on.
use Rattle.std.specs.Prelude.{ℕ, ◌+◌}
use Rattle.c_grammar.specs.Expressions.{Expression, One, More, Assignment, To, Value, Conditional, Choose, Only, Binary, Single, Both, Unary, Prefixed, StepTo, CastTo, CastVoid, Place, StepAfter, CallNone, CallWith, Number, Character, Within, Target, Variable, Cell, Round, Arguments, Last, Then, Argument, Given, Written}
use Rattle.c_grammar.specs.Terms.{Term, Form, Terms, At, NoTerm}
use Rattle.c_grammar.specs.Terms as s
use Rattle.c_reading_defs.specs.Symbols.{token_behind, numbers_of}
use Rattle.c_source_laws.proofs.ExpressionSymbols.{type_symbols, expression_symbols, assignment_symbols, binary_symbols, target_symbols, argument_symbols, texts_symbols}

abbrev mutual
  pub expression_form : ℕ → Expression → Form
  expression_form at (One a) = assignment_form at a
  expression_form at (More a e) = s.Commas (At at (assignment_form at a)) (expression_terms (token_behind at (assignment_symbols a) + 1) e)

  -- its assignments, between which commas stand
  pub expression_terms : ℕ → Expression → Terms
  expression_terms at (One a) = s.Then (At at (assignment_form at a)) NoTerm
  expression_terms at (More a e) = s.Then (At at (assignment_form at a)) (expression_terms (token_behind at (assignment_symbols a) + 1) e)

  pub assignment_form : ℕ → Assignment → Form
  assignment_form at (To t m a) = let x = token_behind at (target_symbols t) in s.Assign x (At at (target_form at t)) (At (x + 1) (assignment_form (x + 1) a))
  assignment_form at (Value d) = conditional_form at d

  pub conditional_form : ℕ → Conditional → Form
  conditional_form at (Choose b e d) =
      let x = token_behind at (binary_symbols b) + 1 in
      let y = token_behind x (expression_symbols e) + 1 in
      s.Choice (At at (binary_form at b)) (At x (expression_form x e)) (At y (conditional_form y d))
  conditional_form at (Only b) = binary_form at b

  pub binary_form : ℕ → Binary → Form
  binary_form at (Single u) = unary_form at u
  binary_form at (Both a m b) = let x = token_behind at (binary_symbols a) in s.Binary x (At at (binary_form at a)) (At (x + 1) (binary_form (x + 1) b))

  pub unary_form : ℕ → Unary → Form
  unary_form at (Prefixed m u) = s.Prefix at (At (at + 1) (unary_form (at + 1) u))
  unary_form at (StepTo t) = s.Prefix at (At (at + 1) (target_form (at + 1) t))
  unary_form at (CastTo n u) = let x = token_behind (at + 1) (type_symbols n) + 1 in s.CastTo (numbers_of (at + 1) (type_symbols n)) (At x (unary_form x u))
  unary_form at (CastVoid u) = s.CastVoid (At (at + 1 + 1 + 1) (unary_form (at + 1 + 1 + 1) u))
  unary_form at (Place t) = target_form at t
  unary_form at (StepAfter t) = s.Suffix (token_behind at (target_symbols t)) (At at (target_form at t))
  unary_form at CallNone = s.Call at NoTerm
  unary_form at (CallWith xs) = s.Call at (arguments_terms (at + 1 + 1) xs)
  unary_form at Number = s.Constant at
  unary_form at Character = s.Constant at
  -- brackets are not written
  unary_form at (Within e) = expression_form (at + 1) e

  pub target_form : ℕ → Target → Form
  target_form at Variable = s.Variable at
  target_form at (Cell e) = s.Cell at (At (at + 1 + 1) (expression_form (at + 1 + 1) e))
  target_form at (Round t) = target_form (at + 1) t

  pub arguments_terms : ℕ → Arguments → Terms
  arguments_terms at (Last x) = s.Then (At at (argument_form at x)) NoTerm
  arguments_terms at (Then x xs) = s.Then (At at (argument_form at x)) (arguments_terms (token_behind at (argument_symbols x) + 1) xs)

  pub argument_form : ℕ → Argument → Form
  argument_form at (Given a) = assignment_form at a
  argument_form at (Written n) = s.Texts (numbers_of at (texts_symbols n))

abbrev pub expression_term : ℕ → Expression → Term
expression_term at e = At at (expression_form at e)

abbrev pub assignment_term : ℕ → Assignment → Term
assignment_term at a = At at (assignment_form at a)

abbrev pub conditional_term : ℕ → Conditional → Term
conditional_term at d = At at (conditional_form at d)
