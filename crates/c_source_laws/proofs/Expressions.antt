-- The derivations of expressions write expressions that are read (ISO/IEC 9899:2011, 6.5).
use Rattle.std.proofs.Common.{◌≡◌, ◌+◌, ℕ, Bool, List, ◌∷◌, Option, Some, None, sym, subst}
use Rattle.c_lexer.specs.Marks.{mark_of}
use Rattle.c_grammar.specs.declared.class.Class.{Class}
use Rattle.c_grammar.specs.declared.class.Class.TheVariants as c
use Rattle.c_grammar.specs.Expressions.{Base, CharBase, IntBase, LongBase, LongIntBase, NumberType, OfBase, Signed, SignedOf, Unsigned, UnsignedOf, Expression, One, More, Assignment, To, Value, Conditional, Choose, Only, Binary, Single, Both, Unary, Prefixed, StepTo, CastTo, CastVoid, Place, StepAfter, CallNone, CallWith, Number, Character, Within, Target, Variable, Cell, Round, Arguments, Last, Then, Argument, Given, Written, Texts, OneText, MoreTexts, base_tokens, type_tokens, expression_tokens, assignment_tokens, conditional_tokens, binary_tokens, unary_tokens, target_tokens, arguments_tokens, argument_tokens, texts_tokens, FitsExpression, FitsAssignment, FitsConditional, FitsBinary, FitsUnary, FitsTarget, FitsArguments, FitsArgument}
use Rattle.c_grammar.specs.ExpressionSyntax.{base_end, type_end, expression_end, assignment_end, conditional_end, binary_end, unary_end, target_end, arguments_end, argument_end, texts_end}
use Rattle.c_grammar.specs.Terms.{Term, At}
use Rattle.c_kinds.specs.Marks.{step_of}
use Rattle.c_resolved_defs.specs.PrintableExpressions.{AreBytes}
use Rattle.reread_parts_laws.specs.WrittenExpressions.{text_tokens, expression_form, expression_terms, assignment_form, conditional_form, binary_form, unary_form, target_form, arguments_terms, argument_form}
use Rattle.c_resolving_laws.specs.Read.{IsTargetForm, IsTarget, FitsStep, IsReadForm, AreReadTerms}
use Rattle.c_source_laws.specs.Classed.{Stand}
use Rattle.c_source_laws.proofs.Bytes.{character_byte, texts_bytes}
use Rattle.c_source_laws.proofs.Classes.{name_there, prefix_there}

target_written : (at : ℕ) (t : Target) → IsTargetForm (target_form at t)
target_written at Variable = tt
target_written at (Cell e) = tt
target_written at (Round t) = target_written (at + 1) t

step_fits : (o : Option Bool) (x : Term) → IsTarget x → FitsStep o x
step_fits (Some up) x h = h
step_fits None x h = tt

prefix_fits : (o : Option Bool) (x : Term) → o ≡ None → FitsStep o x
prefix_fits o x e = subst (λ p. FitsStep p x) (sym e) tt

module _ (word : ℕ → List ℕ) (bytes : (at : ℕ) → AreBytes (word at)) where
  pub base_read : (at : ℕ) (b : Base) (r : List Class) → Stand word at (base_tokens b r) → Stand word (base_end at b) r
  base_read at CharBase r s = s.1
  base_read at IntBase r s = s.1
  base_read at LongBase r s = s.1
  base_read at LongIntBase r s = (s.1).1

  pub type_read : (at : ℕ) (n : NumberType) (r : List Class) → Stand word at (type_tokens n r) → Stand word (type_end at n) r
  type_read at (OfBase b) r s = base_read at b r s
  type_read at Signed r s = s.1
  type_read at (SignedOf b) r s = base_read (at + 1) b r (s.1)
  type_read at Unsigned r s = s.1
  type_read at (UnsignedOf b) r s = base_read (at + 1) b r (s.1)

  texts_read : (at : ℕ) (n : Texts) (r : List Class) → Stand word at (texts_tokens n r) → Stand word (texts_end at n) r
  texts_read at OneText r s = s.1
  texts_read at (MoreTexts n) r s = texts_read (at + 1) n r (s.1)

  mutual
    pub expression_read : (at : ℕ) (e : Expression) (r : List Class) → FitsExpression e → Stand word at (expression_tokens e r) →
        IsReadForm word (expression_form at e) × Stand word (expression_end at e) r
    expression_read at (One a) r f s = assignment_read at a r f s
    expression_read at (More a e) r f s =
        let m = assignment_read at a (c.Comma ∷ expression_tokens e r) (f.0) s in
        let n = terms_read (assignment_end at a + 1) e r (f.1) ((m.1).1) in
        ((m.0, n.0), n.1)

    terms_read : (at : ℕ) (e : Expression) (r : List Class) → FitsExpression e → Stand word at (expression_tokens e r) →
        AreReadTerms word (expression_terms at e) × Stand word (expression_end at e) r
    terms_read at (One a) r f s = let m = assignment_read at a r f s in ((m.0, tt), m.1)
    terms_read at (More a e) r f s =
        let m = assignment_read at a (c.Comma ∷ expression_tokens e r) (f.0) s in
        let n = terms_read (assignment_end at a + 1) e r (f.1) ((m.1).1) in
        ((m.0, n.0), n.1)

    pub assignment_read : (at : ℕ) (a : Assignment) (r : List Class) → FitsAssignment a → Stand word at (assignment_tokens a r) →
        IsReadForm word (assignment_form at a) × Stand word (assignment_end at a) r
    assignment_read at (To t m a) r f s =
        let x = target_read at t (m ∷ assignment_tokens a r) (f.0) s in
        let y = assignment_read (target_end at t + 1) a r (f.2) ((x.1).1) in
        ((target_written at t, x.0, y.0), y.1)
    assignment_read at (Value d) r f s = conditional_read at d r f s

    pub conditional_read : (at : ℕ) (d : Conditional) (r : List Class) → FitsConditional d → Stand word at (conditional_tokens d r) →
        IsReadForm word (conditional_form at d) × Stand word (conditional_end at d) r
    conditional_read at (Choose b e d) r f s =
        let x = binary_read at b (c.Question ∷ expression_tokens e (c.Colon ∷ conditional_tokens d r)) (f.0) s in
        let y = expression_read (binary_end at b + 1) e (c.Colon ∷ conditional_tokens d r) (f.1) ((x.1).1) in
        let z = conditional_read (expression_end (binary_end at b + 1) e + 1) d r (f.2) ((y.1).1) in
        ((x.0, y.0, z.0), z.1)
    conditional_read at (Only b) r f s = binary_read at b r f s

    binary_read : (at : ℕ) (b : Binary) (r : List Class) → FitsBinary b → Stand word at (binary_tokens b r) →
        IsReadForm word (binary_form at b) × Stand word (binary_end at b) r
    binary_read at (Single u) r f s = unary_read at u r f s
    binary_read at (Both a m b) r f s =
        let x = binary_read at a (m ∷ binary_tokens b r) (f.0) s in
        let y = binary_read (binary_end at a + 1) b r (f.1) ((x.1).1) in
        ((x.0, y.0), y.1)

    unary_read : (at : ℕ) (u : Unary) (r : List Class) → FitsUnary u → Stand word at (unary_tokens u r) →
        IsReadForm word (unary_form at u) × Stand word (unary_end at u) r
    unary_read at (Prefixed m u) r f s =
        let x = unary_read (at + 1) u r (f.1) (s.1) in
        ((prefix_fits (step_of (mark_of (word at))) (At (at + 1) (unary_form (at + 1) u)) (prefix_there m (word at) (f.0) (s.0)), x.0), x.1)
    unary_read at (StepTo t) r f s =
        let x = target_read (at + 1) t r f (s.1) in
        ((step_fits (step_of (mark_of (word at))) (At (at + 1) (target_form (at + 1) t)) (target_written (at + 1) t), x.0), x.1)
    unary_read at (CastTo n u) r f s = unary_read (type_end (at + 1) n + 1) u r f (type_read (at + 1) n (c.Close ∷ unary_tokens u r) (s.1)).1
    unary_read at (CastVoid u) r f s = unary_read (at + 1 + 1 + 1) u r f (((s.1).1).1)
    unary_read at (Place t) r f s = target_read at t r f s
    unary_read at (StepAfter t) r f s =
        let x = target_read at t (c.Step ∷ r) f s in
        ((target_written at t, x.0), (x.1).1)
    unary_read at CallNone r f s = ((name_there (word at) (s.0), tt), ((s.1).1).1)
    unary_read at (CallWith xs) r f s =
        let x = arguments_read (at + 1 + 1) xs (c.Close ∷ r) f ((s.1).1) in
        ((name_there (word at) (s.0), x.0), (x.1).1)
    unary_read at Number r f s = (character_byte (word at) (bytes at), s.1)
    unary_read at Character r f s = (character_byte (word at) (bytes at), s.1)
    unary_read at (Within e) r f s =
        let x = expression_read (at + 1) e (c.Close ∷ r) (f.1) (s.1) in
        (x.0, (x.1).1)

    target_read : (at : ℕ) (t : Target) (r : List Class) → FitsTarget t → Stand word at (target_tokens t r) →
        IsReadForm word (target_form at t) × Stand word (target_end at t) r
    target_read at Variable r f s = (name_there (word at) (s.0), s.1)
    target_read at (Cell e) r f s =
        let x = expression_read (at + 1 + 1) e (c.CloseIndex ∷ r) f ((s.1).1) in
        ((name_there (word at) (s.0), x.0), (x.1).1)
    target_read at (Round t) r f s =
        let x = target_read (at + 1) t (c.Close ∷ r) f (s.1) in
        (x.0, (x.1).1)

    arguments_read : (at : ℕ) (xs : Arguments) (r : List Class) → FitsArguments xs → Stand word at (arguments_tokens xs r) →
        AreReadTerms word (arguments_terms at xs) × Stand word (arguments_end at xs) r
    arguments_read at (Last x) r f s = let m = argument_read at x r f s in ((m.0, tt), m.1)
    arguments_read at (Then x xs) r f s =
        let m = argument_read at x (c.Comma ∷ arguments_tokens xs r) (f.0) s in
        let n = arguments_read (argument_end at x + 1) xs r (f.1) ((m.1).1) in
        ((m.0, n.0), n.1)

    argument_read : (at : ℕ) (x : Argument) (r : List Class) → FitsArgument x → Stand word at (argument_tokens x r) →
        IsReadForm word (argument_form at x) × Stand word (argument_end at x) r
    argument_read at (Given a) r f s = assignment_read at a r f s
    argument_read at (Written n) r f s = (texts_bytes word bytes (text_tokens at n), texts_read at n r s)
