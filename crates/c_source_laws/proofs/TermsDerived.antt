-- What derives an expression is what one of the grammar spells, and it writes the same.
use Rattle.std.proofs.Common.{◌≡◌, ◌<◌, ◌≤◌, ◌+◌, ℕ, List, [], ◌∷◌, ◌++◌, refl, sym, ap, subst, ◌∙◌}
use Rattle.c_grammar.specs.declared.class.Class.TheVariants as c
use Rattle.c_grammar.specs.Classes.{level}
use Rattle.c_grammar.specs.Expressions.{Base, CharBase, IntBase, LongBase, LongIntBase, NumberType, OfBase, Signed, SignedOf, Unsigned, UnsignedOf, Expression, One, More, Assignment, To, Value, Conditional, Choose, Only, Binary, Single, Both, Unary, Prefixed, StepTo, CastTo, CastVoid, Place, StepAfter, CallNone, CallWith, Number, Character, Within, Target, Variable, Cell, Round, Arguments, Last, Then, Argument, Texts, OneText, MoreTexts, root, FitsExpression, FitsAssignment, FitsConditional, FitsBinary, FitsUnary, FitsTarget, FitsArguments, FitsArgument}
use Rattle.c_grammar.specs.Expressions as g
use Rattle.c_grammar.specs.Terms.{Form, Terms, At, NoTerm}
use Rattle.c_grammar.specs.Terms as s
use Rattle.c_reading_defs.specs.Symbols.{Symbol, Counted, Uncounted, token_behind, numbers_of}
use Rattle.c_reading_defs.specs.DerivedTerms.{IsBase, IsType, AreTexts, is_target, IsExpression, AreAssignments, IsAssignment, IsConditional, IsBinary, IsUnary, IsTarget, AreArguments, IsArgument}
use Rattle.c_reading_defs.specs.DerivedTerms as r
use Rattle.c_source_laws.proofs.ExpressionSymbols.{type_symbols, texts_symbols, expression_symbols, assignment_symbols, conditional_symbols, binary_symbols, unary_symbols, target_symbols, arguments_symbols, argument_symbols}
use Rattle.c_source_laws.proofs.SourceTerms.{expression_form, expression_terms, assignment_form, conditional_form, binary_form, unary_form, target_form, arguments_terms, argument_form}
use Rattle.c_source_laws.proofs.TermsDerive.{lone_expression}

-- a derivation of the grammar that spells these and writes this
pub record Given {D W : Type 0} (Fits : D → Type 0) (spells : D → List Symbol) (writes : ℕ → D → W) (at : ℕ) (xs : List Symbol) (w : W) : Type 0 where
  pub d : D
  pub fits : Fits d
  pub symbols : spells d ≡ xs
  pub written : writes at d ≡ w

pub record TypeGiven (xs : List Symbol) : Type 0 where
  pub d : NumberType
  pub symbols : type_symbols d ≡ xs

record BaseGiven (xs : List Symbol) : Type 0 where
  d : Base
  symbols : type_symbols (OfBase d) ≡ xs

base_given : (xs : List Symbol) → IsBase xs → BaseGiven xs
base_given xs r.char = record { d = CharBase; symbols = refl }
base_given xs r.int = record { d = IntBase; symbols = refl }
base_given xs r.long = record { d = LongBase; symbols = refl }
base_given xs r.long_int = record { d = LongIntBase; symbols = refl }

pub type_given : (xs : List Symbol) → IsType xs → TypeGiven xs
type_given xs (r.base b) = let h = base_given _ b in record { d = OfBase (h.d); symbols = h.symbols }
type_given xs r.signed = record { d = Signed; symbols = refl }
type_given xs (r.signed_base b) = let h = base_given _ b in record { d = SignedOf (h.d); symbols = ap (λ l. Uncounted c.Signed ∷ l) (h.symbols) }
type_given xs r.unsigned = record { d = Unsigned; symbols = refl }
type_given xs (r.unsigned_base b) = let h = base_given _ b in record { d = UnsignedOf (h.d); symbols = ap (λ l. Uncounted c.Unsigned ∷ l) (h.symbols) }

record TextsGiven (xs : List Symbol) : Type 0 where
  d : Texts
  symbols : texts_symbols d ≡ xs

texts_given : (xs : List Symbol) → AreTexts xs → TextsGiven xs
texts_given xs r.one_text = record { d = OneText; symbols = refl }
texts_given xs (r.more_texts b) = let h = texts_given _ b in record { d = MoreTexts (h.d); symbols = ap (λ l. Uncounted c.Text ∷ l) (h.symbols) }

abbrev pub ExpressionGiven : ℕ → List Symbol → Form → Type 0
ExpressionGiven at xs f = Given FitsExpression expression_symbols expression_form at xs f

abbrev TermsGiven : ℕ → List Symbol → Terms → Type 0
TermsGiven at xs ts = Given FitsExpression expression_symbols expression_terms at xs ts

abbrev pub AssignmentGiven : ℕ → List Symbol → Form → Type 0
AssignmentGiven at xs f = Given FitsAssignment assignment_symbols assignment_form at xs f

abbrev pub ConditionalGiven : ℕ → List Symbol → Form → Type 0
ConditionalGiven at xs f = Given FitsConditional conditional_symbols conditional_form at xs f

record BinaryGiven (k at : ℕ) (xs : List Symbol) (f : Form) : Type 0 where
  is : Given FitsBinary binary_symbols binary_form at xs f
  roots : root (is.d) ≡ k

abbrev UnaryGiven : ℕ → List Symbol → Form → Type 0
UnaryGiven at xs f = Given FitsUnary unary_symbols unary_form at xs f

abbrev TargetGiven : ℕ → List Symbol → Form → Type 0
TargetGiven at xs f = Given FitsTarget target_symbols target_form at xs f

abbrev ArgumentsGiven : ℕ → List Symbol → Terms → Type 0
ArgumentsGiven at xs ts = Given FitsArguments arguments_symbols arguments_terms at xs ts

abbrev ArgumentGiven : ℕ → List Symbol → Form → Type 0
ArgumentGiven at xs f = Given FitsArgument argument_symbols argument_form at xs f

mutual
  pub expression_given : (at : ℕ) (xs : List Symbol) (f : Form) → IsExpression at xs f → ExpressionGiven at xs f
  expression_given at xs f (r.one a) = let h = assignment_given at xs f a in record { d = One (h.d); fits = h.fits; symbols = h.symbols; written = h.written }
  expression_given at zs w (r.more {xs = xs} {ys = ys} {f = f} {ts = ts} a b) =
      let g = assignment_given at xs f a in
      let h = assignments_given (token_behind at xs + 1) ys ts b in
      record {
        d = More (g.d) (h.d);
        fits = (g.fits, h.fits);
        symbols = λ i. g.symbols i ++ Counted c.Comma ∷ h.symbols i;
        written = λ i. s.Commas (At at (g.written i)) ((ap (λ l. expression_terms (token_behind at l + 1) (h.d)) (g.symbols) ∙ h.written) i);
      }

  assignments_given : (at : ℕ) (xs : List Symbol) (ts : Terms) → AreAssignments at xs ts → TermsGiven at xs ts
  assignments_given at xs ts (r.last {f = f} a) = let h = assignment_given at xs f a in
      record { d = One (h.d); fits = h.fits; symbols = h.symbols; written = λ i. s.Then (At at (h.written i)) NoTerm }
  assignments_given at zs w (r.then {xs = xs} {ys = ys} {f = f} {ts = ts} a b) =
      let g = assignment_given at xs f a in
      let h = assignments_given (token_behind at xs + 1) ys ts b in
      record {
        d = More (g.d) (h.d);
        fits = (g.fits, h.fits);
        symbols = λ i. g.symbols i ++ Counted c.Comma ∷ h.symbols i;
        written = λ i. s.Then (At at (g.written i)) ((ap (λ l. expression_terms (token_behind at l + 1) (h.d)) (g.symbols) ∙ h.written) i);
      }

  pub assignment_given : (at : ℕ) (xs : List Symbol) (f : Form) → IsAssignment at xs f → AssignmentGiven at xs f
  assignment_given at zs w (r.to {xs = xs} {ys = ys} {f = f} {g = v} t m e a) =
      let g = target_given at xs f t in
      let h = assignment_given (token_behind at xs + 1) ys v a in
      record {
        d = To (g.d) m (h.d);
        fits = (g.fits, e, h.fits);
        symbols = λ i. g.symbols i ++ Counted m ∷ h.symbols i;
        written = λ i. s.Assign (token_behind at (g.symbols i)) (At at (g.written i))
            (At (token_behind at (g.symbols i) + 1) ((ap (λ l. assignment_form (token_behind at l + 1) (h.d)) (g.symbols) ∙ h.written) i));
      }
  assignment_given at xs f (r.value a) = let h = conditional_given at xs f a in
      record { d = Value (h.d); fits = h.fits; symbols = h.symbols; written = h.written }

  pub conditional_given : (at : ℕ) (xs : List Symbol) (f : Form) → IsConditional at xs f → ConditionalGiven at xs f
  conditional_given at us w (r.choose {k = k} {xs = xs} {ys = ys} {zs = zs} {f = f} {g = u} {h = v} b e a) =
      let q = (binary_given k at xs f b).is in
      let g = expression_given (token_behind at xs + 1) ys u e in
      let h = conditional_given (token_behind (token_behind at xs + 1) ys + 1) zs v a in
      record {
        d = Choose (q.d) (g.d) (h.d);
        fits = (q.fits, g.fits, h.fits);
        symbols = λ i. q.symbols i ++ Counted c.Question ∷ g.symbols i ++ Uncounted c.Colon ∷ h.symbols i;
        written = λ i. s.Choice (At at (q.written i)) (At (token_behind at (q.symbols i) + 1)
            ((ap (λ l. expression_form (token_behind at l + 1) (g.d)) (q.symbols) ∙ g.written) i))
            (At (token_behind (token_behind at (q.symbols i) + 1) (g.symbols i) + 1)
            (((λ j. conditional_form (token_behind (token_behind at (q.symbols j) + 1) (g.symbols j) + 1) (h.d)) ∙ h.written) i));
      }
  conditional_given at xs f (r.only {k = k} a) = let h = (binary_given k at xs f a).is in
      record { d = Only (h.d); fits = h.fits; symbols = h.symbols; written = h.written }

  binary_given : (k at : ℕ) (xs : List Symbol) (f : Form) → IsBinary k at xs f → BinaryGiven k at xs f
  binary_given k at xs f (r.single a) = let h = unary_given at xs f a in
      record { is = record { d = Single (h.d); fits = h.fits; symbols = h.symbols; written = h.written }; roots = refl }
  binary_given n at zs w (r.both {k = k} {l = l} {xs = xs} {ys = ys} {f = f} {g = v} a m b p q u) =
      let x = binary_given k at xs f a in
      let y = binary_given l (token_behind at xs + 1) ys v b in
      let g = x.is in
      let h = y.is in
      record {
        is = record {
          d = Both (g.d) m (h.d);
          fits = (g.fits, h.fits, p, subst (λ z. level m ≤ z) (sym (x.roots)) q, subst (λ z. level m < z) (sym (y.roots)) u);
          symbols = λ i. g.symbols i ++ Counted m ∷ h.symbols i;
          written = λ i. s.Binary (token_behind at (g.symbols i)) (At at (g.written i))
              (At (token_behind at (g.symbols i) + 1) ((ap (λ z. binary_form (token_behind at z + 1) (h.d)) (g.symbols) ∙ h.written) i));
        };
        roots = refl;
      }

  unary_given : (at : ℕ) (xs : List Symbol) (f : Form) → IsUnary at xs f → UnaryGiven at xs f
  unary_given at zs w (r.prefixed {xs = xs} {f = f} {m = m} e a) =
      let h = unary_given (at + 1) xs f a in
      record { d = Prefixed m (h.d); fits = (e, h.fits); symbols = λ i. Counted m ∷ h.symbols i; written = λ i. s.Prefix at (At (at + 1) (h.written i)) }
  unary_given at zs w (r.step_to {xs = xs} {f = f} a) =
      let h = target_given (at + 1) xs f a in
      record { d = StepTo (h.d); fits = h.fits; symbols = λ i. Counted c.Step ∷ h.symbols i; written = λ i. s.Prefix at (At (at + 1) (h.written i)) }
  unary_given at zs w (r.cast_to {xs = xs} {ys = ys} {f = f} n a) =
      let g = type_given xs n in
      let h = unary_given (token_behind (at + 1) xs + 1) ys f a in
      record {
        d = CastTo (g.d) (h.d);
        fits = h.fits;
        symbols = λ i. Counted c.Open ∷ g.symbols i ++ Uncounted c.Close ∷ h.symbols i;
        written = λ i. s.CastTo (numbers_of (at + 1) (g.symbols i))
            (At (token_behind (at + 1) (g.symbols i) + 1) ((ap (λ l. unary_form (token_behind (at + 1) l + 1) (h.d)) (g.symbols) ∙ h.written) i));
      }
  unary_given at zs w (r.cast_void {xs = xs} {f = f} a) =
      let h = unary_given (at + 1 + 1 + 1) xs f a in
      record {
        d = CastVoid (h.d);
        fits = h.fits;
        symbols = λ i. Counted c.Open ∷ Uncounted c.Void ∷ Uncounted c.Close ∷ h.symbols i;
        written = λ i. s.CastVoid (At (at + 1 + 1 + 1) (h.written i));
      }
  unary_given at xs f (r.place a) = let h = target_given at xs f a in record { d = Place (h.d); fits = h.fits; symbols = h.symbols; written = h.written }
  unary_given at zs w (r.step_after {xs = xs} {f = f} a) =
      let h = target_given at xs f a in
      record {
        d = StepAfter (h.d);
        fits = h.fits;
        symbols = λ i. h.symbols i ++ Counted c.Step ∷ [];
        written = λ i. s.Suffix (token_behind at (h.symbols i)) (At at (h.written i));
      }
  unary_given at zs w r.call_none = record { d = CallNone; fits = tt; symbols = refl; written = refl }
  unary_given at zs w (r.call {xs = xs} {ts = ts} a) =
      let h = arguments_given (at + 1 + 1) xs ts a in
      record {
        d = CallWith (h.d);
        fits = h.fits;
        symbols = λ i. Uncounted c.Name ∷ Counted c.Open ∷ h.symbols i ++ Uncounted c.Close ∷ [];
        written = λ i. s.Call at (h.written i);
      }
  unary_given at zs w r.number = record { d = Number; fits = tt; symbols = refl; written = refl }
  unary_given at zs w r.character = record { d = Character; fits = tt; symbols = refl; written = refl }
  unary_given at zs f (r.within {xs = xs} e a) =
      let h = expression_given (at + 1) xs f a in
      record {
        d = Within (h.d);
        fits = (lone_expression (h.d) (at + 1) (h.fits) ∙ ap is_target (h.written) ∙ e, h.fits);
        symbols = λ i. Counted c.Open ∷ h.symbols i ++ Uncounted c.Close ∷ [];
        written = h.written;
      }

  target_given : (at : ℕ) (xs : List Symbol) (f : Form) → IsTarget at xs f → TargetGiven at xs f
  target_given at xs f r.variable = record { d = Variable; fits = tt; symbols = refl; written = refl }
  target_given at zs w (r.cell {xs = xs} {f = f} a) =
      let h = expression_given (at + 1 + 1) xs f a in
      record {
        d = Cell (h.d);
        fits = h.fits;
        symbols = λ i. Uncounted c.Name ∷ Counted c.OpenIndex ∷ h.symbols i ++ Uncounted c.CloseIndex ∷ [];
        written = λ i. s.Cell at (At (at + 1 + 1) (h.written i));
      }
  target_given at zs f (r.round {xs = xs} a) =
      let h = target_given (at + 1) xs f a in
      record { d = Round (h.d); fits = h.fits; symbols = λ i. Counted c.Open ∷ h.symbols i ++ Uncounted c.Close ∷ []; written = h.written }

  arguments_given : (at : ℕ) (xs : List Symbol) (ts : Terms) → AreArguments at xs ts → ArgumentsGiven at xs ts
  arguments_given at xs ts (r.last_argument {f = f} a) = let h = argument_given at xs f a in
      record { d = Last (h.d); fits = h.fits; symbols = h.symbols; written = λ i. s.Then (At at (h.written i)) NoTerm }
  arguments_given at zs w (r.then_argument {xs = xs} {ys = ys} {f = f} {ts = ts} a b) =
      let g = argument_given at xs f a in
      let h = arguments_given (token_behind at xs + 1) ys ts b in
      record {
        d = Then (g.d) (h.d);
        fits = (g.fits, h.fits);
        symbols = λ i. g.symbols i ++ Uncounted c.Comma ∷ h.symbols i;
        written = λ i. s.Then (At at (g.written i)) ((ap (λ l. arguments_terms (token_behind at l + 1) (h.d)) (g.symbols) ∙ h.written) i);
      }

  argument_given : (at : ℕ) (xs : List Symbol) (f : Form) → IsArgument at xs f → ArgumentGiven at xs f
  argument_given at xs f (r.given a) = let h = assignment_given at xs f a in
      record { d = g.Given (h.d); fits = h.fits; symbols = h.symbols; written = h.written }
  argument_given at xs f (r.texts a) = let h = texts_given xs a in
      record { d = g.Written (h.d); fits = tt; symbols = h.symbols; written = λ i. s.Texts (numbers_of at (h.symbols i)) }
