-- The syntax of the derivations of expressions: the node of each production, with the numbers of its tokens.
use Rattle.std.specs.Prelude.{◌+◌, ℕ, List, [], ◌∷◌, ◌++◌}
use Rattle.c_grammar.specs.declared.syntax.Syntax.{Syntax}
use Rattle.c_grammar.specs.declared.syntax.Production.TheVariants as p
use Rattle.c_grammar.specs.Nodes.{node, leaf}
use Rattle.c_grammar.specs.Expressions.{Base, LongIntBase, NumberType, OfBase, SignedOf, UnsignedOf, Expression, One, More, Assignment, To, Value, Conditional, Choose, Only, Binary, Single, Both, Unary, Prefixed, StepTo, CastTo, CastVoid, Place, StepAfter, CallNone, CallWith, Number, Character, Within, Target, Variable, Cell, Round, Arguments, Last, Then, Argument, Given, Written, Texts, OneText, MoreTexts}

-- ---- the number of the token behind a derivation that begins with this one

abbrev pub base_end : ℕ → Base → ℕ
base_end at LongIntBase = at + 1 + 1
base_end at _ = at + 1

abbrev pub type_end : ℕ → NumberType → ℕ
type_end at (OfBase b) = base_end at b
type_end at (SignedOf b) = base_end (at + 1) b
type_end at (UnsignedOf b) = base_end (at + 1) b
type_end at _ = at + 1

abbrev mutual
  pub expression_end : ℕ → Expression → ℕ
  expression_end at (One a) = assignment_end at a
  expression_end at (More a e) = expression_end (assignment_end at a + 1) e

  pub assignment_end : ℕ → Assignment → ℕ
  assignment_end at (To t m a) = assignment_end (target_end at t + 1) a
  assignment_end at (Value d) = conditional_end at d

  pub conditional_end : ℕ → Conditional → ℕ
  conditional_end at (Choose b e d) = conditional_end (expression_end (binary_end at b + 1) e + 1) d
  conditional_end at (Only b) = binary_end at b

  pub binary_end : ℕ → Binary → ℕ
  binary_end at (Single u) = unary_end at u
  binary_end at (Both a m b) = binary_end (binary_end at a + 1) b

  pub unary_end : ℕ → Unary → ℕ
  unary_end at (Prefixed m u) = unary_end (at + 1) u
  unary_end at (StepTo t) = target_end (at + 1) t
  unary_end at (CastTo n u) = unary_end (type_end (at + 1) n + 1) u
  unary_end at (CastVoid u) = unary_end (at + 1 + 1 + 1) u
  unary_end at (Place t) = target_end at t
  unary_end at (StepAfter t) = target_end at t + 1
  unary_end at CallNone = at + 1 + 1 + 1
  unary_end at (CallWith xs) = arguments_end (at + 1 + 1) xs + 1
  unary_end at Number = at + 1
  unary_end at Character = at + 1
  unary_end at (Within e) = expression_end (at + 1) e + 1

  pub target_end : ℕ → Target → ℕ
  target_end at Variable = at + 1
  target_end at (Cell e) = expression_end (at + 1 + 1) e + 1
  target_end at (Round t) = target_end (at + 1) t + 1

  pub arguments_end : ℕ → Arguments → ℕ
  arguments_end at (Last x) = argument_end at x
  arguments_end at (Then x xs) = arguments_end (argument_end at x + 1) xs

  pub argument_end : ℕ → Argument → ℕ
  argument_end at (Given a) = assignment_end at a
  argument_end at (Written n) = texts_end at n

  pub texts_end : ℕ → Texts → ℕ
  texts_end at OneText = at + 1
  texts_end at (MoreTexts n) = texts_end (at + 1) n

-- ---- the nodes

abbrev pub base_parts : ℕ → Base → List Syntax
base_parts at LongIntBase = leaf at ∷ leaf (at + 1) ∷ []
base_parts at _ = leaf at ∷ []

abbrev pub type_parts : ℕ → NumberType → List Syntax
type_parts at (OfBase b) = base_parts at b
type_parts at (SignedOf b) = leaf at ∷ base_parts (at + 1) b
type_parts at (UnsignedOf b) = leaf at ∷ base_parts (at + 1) b
type_parts at _ = leaf at ∷ []

abbrev pub type_node : ℕ → NumberType → Syntax
type_node at n = node p.NumberType at (type_end at n) (type_parts at n)

abbrev mutual
  pub expression_parts : ℕ → Expression → List Syntax
  expression_parts at (One a) = assignment_node at a ∷ []
  expression_parts at (More a e) = assignment_node at a ∷ leaf (assignment_end at a) ∷ expression_parts (assignment_end at a + 1) e

  pub assignment_node : ℕ → Assignment → Syntax
  assignment_node at (To t m a) = let x = target_end at t in node p.Assignment at (assignment_end (x + 1) a)
      (target_node at t ∷ leaf x ∷ assignment_node (x + 1) a ∷ [])
  assignment_node at (Value d) = node p.Assignment at (conditional_end at d) (conditional_node at d ∷ [])

  pub conditional_node : ℕ → Conditional → Syntax
  conditional_node at (Choose b e d) =
      let x = binary_end at b in
      let y = expression_end (x + 1) e in
      node p.Conditional at (conditional_end (y + 1) d) (binary_node at b ∷ leaf x ∷ node p.Expression (x + 1) (expression_end (x + 1) e)
      (expression_parts (x + 1) e) ∷ leaf y ∷ conditional_node (y + 1) d ∷ [])
  conditional_node at (Only b) = node p.Conditional at (binary_end at b) (binary_node at b ∷ [])

  pub binary_node : ℕ → Binary → Syntax
  binary_node at (Single u) = node p.Binary at (unary_end at u) (node p.Unary at (unary_end at u) (unary_parts at u) ∷ [])
  binary_node at (Both a m b) = let x = binary_end at a in node p.Binary at (binary_end (x + 1) b) (binary_node at a ∷ leaf x ∷ binary_node (x + 1) b ∷ [])

  pub unary_parts : ℕ → Unary → List Syntax
  unary_parts at (Prefixed m u) = leaf at ∷ node p.Unary (at + 1) (unary_end (at + 1) u) (unary_parts (at + 1) u) ∷ []
  unary_parts at (StepTo t) = leaf at ∷ target_node (at + 1) t ∷ []
  unary_parts at (CastTo n u) = let x = type_end (at + 1) n in leaf at ∷ type_node (at + 1) n ∷ leaf x ∷ node p.Unary (x + 1) (unary_end (x + 1) u)
      (unary_parts (x + 1) u) ∷ []
  unary_parts at (CastVoid u) = leaf at ∷ leaf (at + 1) ∷ leaf (at + 1 + 1) ∷ node p.Unary (at + 1 + 1 + 1) (unary_end (at + 1 + 1 + 1) u)
      (unary_parts (at + 1 + 1 + 1) u) ∷ []
  unary_parts at (Place t) = node p.Postfix at (target_end at t) (target_node at t ∷ []) ∷ []
  unary_parts at (StepAfter t) = node p.Postfix at (target_end at t + 1) (target_node at t ∷ leaf (target_end at t) ∷ []) ∷ []
  unary_parts at CallNone = node p.Postfix at (at + 1 + 1 + 1) (leaf at ∷ leaf (at + 1) ∷ leaf (at + 1 + 1) ∷ []) ∷ []
  unary_parts at (CallWith xs) =
      let x = arguments_end (at + 1 + 1) xs in
      node p.Postfix at (x + 1) (leaf at ∷ leaf (at + 1) ∷ arguments_parts (at + 1 + 1) xs ++ leaf x ∷ []) ∷ []
  unary_parts at Number = node p.Postfix at (at + 1) (leaf at ∷ []) ∷ []
  unary_parts at Character = node p.Postfix at (at + 1) (leaf at ∷ []) ∷ []
  unary_parts at (Within e) = let x = expression_end (at + 1) e in node p.Postfix at (x + 1)
      (leaf at ∷ node p.Expression (at + 1) (expression_end (at + 1) e) (expression_parts (at + 1) e) ∷ leaf x ∷ []) ∷ []

  pub target_node : ℕ → Target → Syntax
  target_node at Variable = node p.Target at (at + 1) (leaf at ∷ [])
  target_node at (Cell e) = let x = expression_end (at + 1 + 1) e in node p.Target at (x + 1)
      (leaf at ∷ leaf (at + 1) ∷ node p.Expression (at + 1 + 1) (expression_end (at + 1 + 1) e) (expression_parts (at + 1 + 1) e) ∷ leaf x ∷ [])
  target_node at (Round t) = let x = target_end (at + 1) t in node p.Target at (x + 1) (leaf at ∷ target_node (at + 1) t ∷ leaf x ∷ [])

  pub arguments_parts : ℕ → Arguments → List Syntax
  arguments_parts at (Last x) = argument_node at x ∷ []
  arguments_parts at (Then x xs) = argument_node at x ∷ leaf (argument_end at x) ∷ arguments_parts (argument_end at x + 1) xs

  pub argument_node : ℕ → Argument → Syntax
  argument_node at (Given a) = node p.Argument at (assignment_end at a) (assignment_node at a ∷ [])
  argument_node at (Written n) = node p.Argument at (texts_end at n) (texts_parts at n)

  pub texts_parts : ℕ → Texts → List Syntax
  texts_parts at OneText = leaf at ∷ []
  texts_parts at (MoreTexts n) = leaf at ∷ texts_parts (at + 1) n

abbrev pub expression_node : ℕ → Expression → Syntax
expression_node at e = node p.Expression at (expression_end at e) (expression_parts at e)

abbrev pub unary_node : ℕ → Unary → Syntax
unary_node at u = node p.Unary at (unary_end at u) (unary_parts at u)
