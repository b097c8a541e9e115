-- What the derivations of expressions spell (ISO/IEC 9899:2011, 6.5).
use Rattle.std.specs.Prelude.{List, [], ◌∷◌, ◌++◌, map}
use Rattle.c_grammar.specs.declared.class.Class.TheVariants as c
use Rattle.c_grammar.specs.Expressions.{NumberType, Expression, One, More, Assignment, To, Value, Conditional, Choose, Only, Binary, Single, Both, Unary, Prefixed, StepTo, CastTo, CastVoid, Place, StepAfter, CallNone, CallWith, Number, Character, Within, Target, Variable, Cell, Round, Arguments, Last, Then, Argument, Given, Written, Texts, OneText, MoreTexts, type_tokens}
use Rattle.c_reading_defs.specs.Symbols.{Symbol, Counted, Uncounted}

abbrev pub type_symbols : NumberType → List Symbol
type_symbols n = map Uncounted (type_tokens n [])

abbrev pub texts_symbols : Texts → List Symbol
texts_symbols OneText = Uncounted c.Text ∷ []
texts_symbols (MoreTexts n) = Uncounted c.Text ∷ texts_symbols n

abbrev mutual
  pub expression_symbols : Expression → List Symbol
  expression_symbols (One a) = assignment_symbols a
  expression_symbols (More a e) = assignment_symbols a ++ Counted c.Comma ∷ expression_symbols e

  pub assignment_symbols : Assignment → List Symbol
  assignment_symbols (To t m a) = target_symbols t ++ Counted m ∷ assignment_symbols a
  assignment_symbols (Value d) = conditional_symbols d

  pub conditional_symbols : Conditional → List Symbol
  conditional_symbols (Choose b e d) = binary_symbols b ++ Counted c.Question ∷ expression_symbols e ++ Uncounted c.Colon ∷ conditional_symbols d
  conditional_symbols (Only b) = binary_symbols b

  pub binary_symbols : Binary → List Symbol
  binary_symbols (Single u) = unary_symbols u
  binary_symbols (Both a m b) = binary_symbols a ++ Counted m ∷ binary_symbols b

  pub unary_symbols : Unary → List Symbol
  unary_symbols (Prefixed m u) = Counted m ∷ unary_symbols u
  unary_symbols (StepTo t) = Counted c.Step ∷ target_symbols t
  unary_symbols (CastTo n u) = Counted c.Open ∷ type_symbols n ++ Uncounted c.Close ∷ unary_symbols u
  unary_symbols (CastVoid u) = Counted c.Open ∷ Uncounted c.Void ∷ Uncounted c.Close ∷ unary_symbols u
  unary_symbols (Place t) = target_symbols t
  unary_symbols (StepAfter t) = target_symbols t ++ Counted c.Step ∷ []
  unary_symbols CallNone = Uncounted c.Name ∷ Counted c.Open ∷ Uncounted c.Close ∷ []
  unary_symbols (CallWith xs) = Uncounted c.Name ∷ Counted c.Open ∷ arguments_symbols xs ++ Uncounted c.Close ∷ []
  unary_symbols Number = Uncounted c.Number ∷ []
  unary_symbols Character = Uncounted c.Character ∷ []
  unary_symbols (Within e) = Counted c.Open ∷ expression_symbols e ++ Uncounted c.Close ∷ []

  pub target_symbols : Target → List Symbol
  target_symbols Variable = Uncounted c.Name ∷ []
  target_symbols (Cell e) = Uncounted c.Name ∷ Counted c.OpenIndex ∷ expression_symbols e ++ Uncounted c.CloseIndex ∷ []
  target_symbols (Round t) = Counted c.Open ∷ target_symbols t ++ Uncounted c.Close ∷ []

  pub arguments_symbols : Arguments → List Symbol
  arguments_symbols (Last x) = argument_symbols x
  arguments_symbols (Then x xs) = argument_symbols x ++ Uncounted c.Comma ∷ arguments_symbols xs

  pub argument_symbols : Argument → List Symbol
  argument_symbols (Given a) = assignment_symbols a
  argument_symbols (Written n) = texts_symbols n
