-- What an expression of the grammar spells derives what it writes.
use Rattle.std.proofs.Common.{◌≡◌, ◌+◌, ℕ, true, refl, sym, ◌∙◌}
use Rattle.c_grammar.specs.Expressions.{Base, CharBase, IntBase, LongBase, LongIntBase, NumberType, OfBase, Signed, SignedOf, Unsigned, UnsignedOf, Expression, One, More, Assignment, To, Value, Conditional, Choose, Only, Binary, Single, Both, Unary, Prefixed, StepTo, CastTo, CastVoid, Place, StepAfter, CallNone, CallWith, Number, Character, Within, Target, Variable, Cell, Round, Arguments, Last, Then, Argument, Given, Written, Texts, OneText, MoreTexts, is_lone, is_lone_assignment, is_lone_conditional, is_lone_binary, is_lone_unary, root, FitsExpression, FitsAssignment, FitsConditional, FitsBinary, FitsUnary, FitsTarget, FitsArguments, FitsArgument}
use Rattle.c_reading_defs.specs.Symbols.{token_behind}
use Rattle.c_reading_defs.specs.DerivedTerms.{IsType, AreTexts, is_target, IsExpression, AreAssignments, IsAssignment, IsConditional, IsBinary, IsUnary, IsTarget, AreArguments, IsArgument}
use Rattle.c_reading_defs.specs.DerivedTerms as r
use Rattle.c_source_laws.proofs.ExpressionSymbols.{type_symbols, texts_symbols, expression_symbols, assignment_symbols, conditional_symbols, binary_symbols, unary_symbols, target_symbols, arguments_symbols, argument_symbols}
use Rattle.c_source_laws.proofs.SourceTerms.{expression_form, expression_terms, assignment_form, conditional_form, binary_form, unary_form, target_form, arguments_terms, argument_form}

-- ---- an expression is a target alone where it writes one

target_writes : (t : Target) (at : ℕ) → true ≡ is_target (target_form at t)
target_writes Variable at = refl
target_writes (Cell e) at = refl
target_writes (Round t) at = target_writes t (at + 1)

mutual
  pub lone_expression : (e : Expression) (at : ℕ) → FitsExpression e → is_lone e ≡ is_target (expression_form at e)
  lone_expression (One a) at f = lone_assignment a at f
  lone_expression (More a e) at f = refl

  lone_assignment : (a : Assignment) (at : ℕ) → FitsAssignment a → is_lone_assignment a ≡ is_target (assignment_form at a)
  lone_assignment (To t m a) at f = refl
  lone_assignment (Value d) at f = lone_conditional d at f

  lone_conditional : (d : Conditional) (at : ℕ) → FitsConditional d → is_lone_conditional d ≡ is_target (conditional_form at d)
  lone_conditional (Choose b e d) at f = refl
  lone_conditional (Only b) at f = lone_binary b at f

  lone_binary : (b : Binary) (at : ℕ) → FitsBinary b → is_lone_binary b ≡ is_target (binary_form at b)
  lone_binary (Single u) at f = lone_unary u at f
  lone_binary (Both a m b) at f = refl

  lone_unary : (u : Unary) (at : ℕ) → FitsUnary u → is_lone_unary u ≡ is_target (unary_form at u)
  lone_unary (Place t) at f = target_writes t at
  lone_unary (Within e) at f = sym (f.0) ∙ lone_expression e (at + 1) (f.1)
  lone_unary _ at f = refl

-- ---- derivations

base_derives : (b : Base) → r.IsBase (type_symbols (OfBase b))
base_derives CharBase = r.char
base_derives IntBase = r.int
base_derives LongBase = r.long
base_derives LongIntBase = r.long_int

pub type_derives : (n : NumberType) → IsType (type_symbols n)
type_derives (OfBase b) = r.base (base_derives b)
type_derives Signed = r.signed
type_derives (SignedOf b) = r.signed_base (base_derives b)
type_derives Unsigned = r.unsigned
type_derives (UnsignedOf b) = r.unsigned_base (base_derives b)

texts_derive : (n : Texts) → AreTexts (texts_symbols n)
texts_derive OneText = r.one_text
texts_derive (MoreTexts n) = r.more_texts (texts_derive n)

mutual
  pub expression_derives : (e : Expression) (at : ℕ) → FitsExpression e → IsExpression at (expression_symbols e) (expression_form at e)
  expression_derives (One a) at f = r.one (assignment_derives a at f)
  expression_derives (More a e) at f = r.more (assignment_derives a at (f.0)) (assignments_derive e (token_behind at (assignment_symbols a) + 1) (f.1))

  assignments_derive : (e : Expression) (at : ℕ) → FitsExpression e → AreAssignments at (expression_symbols e) (expression_terms at e)
  assignments_derive (One a) at f = r.last (assignment_derives a at f)
  assignments_derive (More a e) at f = r.then (assignment_derives a at (f.0)) (assignments_derive e (token_behind at (assignment_symbols a) + 1) (f.1))

  pub assignment_derives : (a : Assignment) (at : ℕ) → FitsAssignment a → IsAssignment at (assignment_symbols a) (assignment_form at a)
  assignment_derives (To t m a) at f = r.to (target_derives t at (f.0)) m (f.1) (assignment_derives a (token_behind at (target_symbols t) + 1) (f.2))
  assignment_derives (Value d) at f = r.value (conditional_derives d at f)

  pub conditional_derives : (d : Conditional) (at : ℕ) → FitsConditional d → IsConditional at (conditional_symbols d) (conditional_form at d)
  conditional_derives (Choose b e d) at f =
      let x = token_behind at (binary_symbols b) + 1 in
      r.choose (binary_derives b at (f.0)) (expression_derives e x (f.1)) (conditional_derives d (token_behind x (expression_symbols e) + 1) (f.2))
  conditional_derives (Only b) at f = r.only (binary_derives b at f)

  binary_derives : (b : Binary) (at : ℕ) → FitsBinary b → IsBinary (root b) at (binary_symbols b) (binary_form at b)
  binary_derives (Single u) at f = r.single (unary_derives u at f)
  binary_derives (Both a m b) at f = r.both (binary_derives a at (f.0)) m (binary_derives b (token_behind at (binary_symbols a) + 1) (f.1)) (f.2) (f.3) (f.4)

  unary_derives : (u : Unary) (at : ℕ) → FitsUnary u → IsUnary at (unary_symbols u) (unary_form at u)
  unary_derives (Prefixed m u) at f = r.prefixed (f.0) (unary_derives u (at + 1) (f.1))
  unary_derives (StepTo t) at f = r.step_to (target_derives t (at + 1) f)
  unary_derives (CastTo n u) at f = r.cast_to (type_derives n) (unary_derives u (token_behind (at + 1) (type_symbols n) + 1) f)
  unary_derives (CastVoid u) at f = r.cast_void (unary_derives u (at + 1 + 1 + 1) f)
  unary_derives (Place t) at f = r.place (target_derives t at f)
  unary_derives (StepAfter t) at f = r.step_after (target_derives t at f)
  unary_derives CallNone at f = r.call_none
  unary_derives (CallWith xs) at f = r.call (arguments_derive xs (at + 1 + 1) f)
  unary_derives Number at f = r.number
  unary_derives Character at f = r.character
  unary_derives (Within e) at f = r.within (sym (lone_expression e (at + 1) (f.1)) ∙ f.0) (expression_derives e (at + 1) (f.1))

  target_derives : (t : Target) (at : ℕ) → FitsTarget t → IsTarget at (target_symbols t) (target_form at t)
  target_derives Variable at f = r.variable
  target_derives (Cell e) at f = r.cell (expression_derives e (at + 1 + 1) f)
  target_derives (Round t) at f = r.round (target_derives t (at + 1) f)

  arguments_derive : (xs : Arguments) (at : ℕ) → FitsArguments xs → AreArguments at (arguments_symbols xs) (arguments_terms at xs)
  arguments_derive (Last x) at f = r.last_argument (argument_derives x at f)
  arguments_derive (Then x xs) at f = r.then_argument (argument_derives x at (f.0)) (arguments_derive xs (token_behind at (argument_symbols x) + 1) (f.1))

  argument_derives : (x : Argument) (at : ℕ) → FitsArgument x → IsArgument at (argument_symbols x) (argument_form at x)
  argument_derives (Given a) at f = r.given (assignment_derives a at f)
  argument_derives (Written n) at f = r.texts (texts_derive n)
