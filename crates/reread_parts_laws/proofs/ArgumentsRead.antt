-- Calls: the arguments that fit in a resolved program fit where its text is read (ISO/IEC 9899:2011, 6.5.2.2 and 7.21.6.1).
use Rattle.std.proofs.Common.{◌≡◌, ◌+◌, ◌&&◌, ◌||◌, inl, inr, ℕ, suc, Bool, true, false, not, cond, List, [], ◌∷◌, ◌++◌, map, length, Option, Some, None, refl, ap, sym, subst, ◌∙◌, eq-eqb}
use Rattle.std.specs.Prelude.{is_some, option_map, IsSomeAnd}
use Rattle.c_types.specs.declared.kinds.IntKind.{IntKind}
use Rattle.c_types.specs.declared.kinds.IntKind.TheVariants as K
use Rattle.c_tree.specs.declared.tree.Slot.{Slot}
use Rattle.c_tree.specs.declared.tree.Home.{Home}
use Rattle.c_tree.specs.declared.tree.Expression.{Expression}
use Rattle.c_tree.specs.declared.tree.Node as node
use Rattle.c_tree.specs.ExpressionTrees.{ExpressionTree, Arguments, NoArgument, Argument}
use Rattle.c_tree.specs.ExpressionTrees as t
use Rattle.c_tree.specs.Constants.{kind_of}
use Rattle.c_grammar.specs.ExpressionSyntax.{argument_end}
use Rattle.c_grammar.specs.Terms.{Form, Terms, NoTerm, Call}
use Rattle.c_kinds.specs.declared.binding.Want.{Want}
use Rattle.c_kinds.specs.declared.binding.Want.TheVariants as want
use Rattle.c_kinds.specs.declared.binding.Binding.{Binding}
use Rattle.c_kinds.specs.declared.binding.Binding.TheVariants as binding
use Rattle.c_kinds.specs.declared.typed.Typed.{Typed}
use Rattle.c_kinds.specs.declared.typed.Typed.TheVariants.{Text, Array, Wrong}
use Rattle.c_kinds.specs.declared.typed.ArrayName.{ArrayName}
use Rattle.c_kinds.specs.declared.typed.Given.{Given}
use Rattle.c_kinds.specs.Scopes.{Env, Faults, meaning, fault, fault_if}
use Rattle.c_kinds.specs.Marks.{is_wide}
use Rattle.c_kinds.specs.Values.{of_result}
use Rattle.c_kinds.specs.Formats as read
use Rattle.c_kinds.specs.Calls.{same_kind, same_truth, fits, each_fits, handed, all_handed, call, text_of, printing, formatted, called, argument_fault, argument_faults, wanted_faults, text_faults, printing_faults, format_faults, call_faults}
use Rattle.c_kinds.specs.Typing.{form_typed, form_faults, given, given_faults}
use Rattle.c_resolved_defs.specs.Names.{Names, Callee, Plain, Printf, Unknown, callee}
use Rattle.c_resolved_defs.specs.Names as names
use Rattle.c_resolved_defs.specs.Kinds.{HasValue, KeepsConst, IsArrayFor, FitsCells, ArgumentFits, ArgumentsFit, wanted, ValuesFit, FormatFits, CallFits}
use Rattle.c_resolved_defs.specs.Kinds as resolved
use Rattle.print_laws.specs.ExpressionDerivations.{listed, call_of, argument_of, derivation_of, arguments_of}
use Rattle.reread_parts_laws.specs.WrittenExpressions.{unary_form, arguments_terms, argument_form}
use Rattle.reread_parts_laws.specs.Bindings.{want_of, function_of}
use Rattle.reread_parts_laws.proofs.Mirrors.{expression_of, expression_in, arguments_in}
use Rattle.reread_parts_laws.proofs.Formats.{format_is}
use Rattle.reread_parts_laws.proofs.Readings.{typed_of, has_valued, there, holds_of}

-- ---- tests

pub same_kind_is : (k : IntKind) → same_kind k k ≡ true
same_kind_is K.Char = refl
same_kind_is K.UChar = refl
same_kind_is K.Int = refl
same_kind_is K.UInt = refl
same_kind_is K.Long = refl
same_kind_is K.ULong = refl

pub same_truth_is : (b : Bool) → same_truth b b ≡ true
same_truth_is true = refl
same_truth_is false = refl

wide_same : (k : IntKind) → is_wide k ≡ resolved.is_wide (Some k)
wide_same K.Char = refl
wide_same K.UChar = refl
wide_same K.Int = refl
wide_same K.UInt = refl
wide_same K.Long = refl
wide_same K.ULong = refl

-- the cells of an array may be const, if they are for the function
const_fits : (s v : Slot) → KeepsConst s v → (s.constant || not v.constant) ≡ true
const_fits s v (inl e) = ap (λ b. b || not v.constant) e
const_fits s v (inr e) = ap (λ b. s.constant || not b) e ∙ or_true s.constant
  where
    or_true : (b : Bool) → (b || true) ≡ true
    or_true true = refl
    or_true false = refl

const_clear : (s v : Slot) (at reason : ℕ) (vs : Faults) → KeepsConst s v → fault_if (v.constant && not s.constant) at reason vs ≡ vs
const_clear s v at reason vs (inl e) = ap (λ b. fault_if (v.constant && not b) at reason vs) e ∙ and_false v.constant
  where
    and_false : (b : Bool) → fault_if (b && false) at reason vs ≡ vs
    and_false true = refl
    and_false false = refl
const_clear s v at reason vs (inr e) = ap (λ b. fault_if (b && not s.constant) at reason vs) e

module _ (n : Names) (env : Env) where
  -- ---- what an argument is read as

  abbrev array_name : ℕ → Home → Slot → ArrayName
  array_name at h s = record { token = at; home = h; kind = s.kind; constant = s.constant }

  -- the text of a format, the name of an array, or an expression
  abbrev pub PassedAs : ℕ → ExpressionTree → Typed → Type 0
  PassedAs at (t.Typed kind (t.Text bytes)) y = (y ≡ Text bytes) × (kind ≡ None)
  PassedAs at (t.Typed kind (t.Array h)) y = IsSomeAnd (names.variable n h) (λ s. (y ≡ Array (array_name at h s)) × (kind ≡ Some s.kind))
  PassedAs at x y = y ≡ typed_of x

  abbrev passed_form : ℕ → ExpressionTree → Form
  passed_form at x = argument_form at (argument_of x (derivation_of x))

  abbrev behind : ℕ → ExpressionTree → ℕ
  behind at x = argument_end at (argument_of x (derivation_of x))

  pub record Passes (at : ℕ) (x : ExpressionTree) : Type 0 where
    pub typed : PassedAs at x (form_typed env (passed_form at x))
    pub clear : (vs : Faults) → form_faults env (passed_form at x) vs ≡ vs

  abbrev pub AllPass : ℕ → Arguments → Type 0
  AllPass at NoArgument = Unit {0}
  AllPass at (Argument x xs) = Passes at x × AllPass (behind at x + 1) xs

  -- ---- the arguments of a call

  abbrev given_of : ℕ → ExpressionTree → Given
  given_of at x = record { first = at; typed = form_typed env (passed_form at x) }

  abbrev givens : ℕ → Arguments → List Given
  givens at NoArgument = []
  givens at (Argument x xs) = given_of at x ∷ givens (behind at x + 1) xs

  abbrev terms_of : ℕ → Arguments → Terms
  terms_of at NoArgument = NoTerm
  terms_of at (Argument x xs) = arguments_terms at (listed (argument_of x (derivation_of x)) (arguments_of xs))

  call_form : (at : ℕ) (xs : Arguments) → unary_form at (call_of (arguments_of xs)) ≡ Call at (terms_of (at + 1 + 1) xs)
  call_form at NoArgument = refl
  call_form at (Argument x xs) = refl

  given_is : (xs : Arguments) (at : ℕ) (x : ExpressionTree) → given env (terms_of at (Argument x xs)) ≡ givens at (Argument x xs)
  given_is NoArgument at x = refl
  given_is (Argument y ys) at x = ap (λ l. given_of at x ∷ l) (given_is ys (behind at x + 1) y)

  all_given : (at : ℕ) (xs : Arguments) → given env (terms_of at xs) ≡ givens at xs
  all_given at NoArgument = refl
  all_given at (Argument x xs) = given_is xs at x

  given_clear : (xs : Arguments) (at : ℕ) (x : ExpressionTree) → AllPass at (Argument x xs) → (vs : Faults) →
      given_faults env (terms_of at (Argument x xs)) vs ≡ vs
  given_clear NoArgument at x h vs = (h.0).clear vs
  given_clear (Argument y ys) at x h vs = ap (λ l. given_faults env (terms_of (behind at x + 1) (Argument y ys)) l) ((h.0).clear vs) ∙ given_clear ys
      (behind at x + 1) y (h.1) vs

  all_clear : (at : ℕ) (xs : Arguments) → AllPass at xs → (vs : Faults) → given_faults env (terms_of at xs) vs ≡ vs
  all_clear at NoArgument h vs = refl
  all_clear at (Argument x xs) h vs = given_clear xs at x h vs

  -- ---- arguments that fit

  pub record Fitting (ws : List Want) (gs : List Given) (es : List Expression) : Type 0 where
    pub count : length ws ≡ length gs
    pub each : each_fits ws gs ≡ true
    pub handed_is : all_handed gs ≡ es
    pub clear : (vs : Faults) → argument_faults ws gs vs ≡ vs

  none_fits : Fitting [] [] []
  none_fits = record { count = refl; each = refl; handed_is = refl; clear = λ vs. refl }

  -- one argument that fits
  record FitsOne (w : Want) (g : Given) (e : Expression) : Type 0 where
    fits_is : fits w g.typed ≡ true
    handed_is : handed g.typed ≡ e ∷ []
    clear : (vs : Faults) → argument_fault w g.first g.typed vs ≡ vs

  one_more : (w : Want) (g : Given) (e : Expression) (ws : List Want) (gs : List Given) (es : List Expression) → FitsOne w g e → Fitting ws gs es →
      Fitting (w ∷ ws) (g ∷ gs) (e ∷ es)
  one_more w g e ws gs es f r = record {
    count = ap suc (r.count);
    each = λ i. f.fits_is i && r.each i;
    handed_is = λ i. f.handed_is i ++ r.handed_is i;
    clear = λ vs. ap (argument_faults ws gs) (f.clear vs) ∙ r.clear vs;
  }

  -- a value is read as an expression
  value_typed : (at : ℕ) (x : ExpressionTree) → HasValue x → (y : Typed) → PassedAs at x y → y ≡ typed_of x
  value_typed at (t.Typed kind (t.Text bytes)) h y p = absurd h.operand
  value_typed at (t.Typed kind (t.Array a)) h y p = absurd h.operand
  value_typed at (t.Typed kind _) h y p = p

  number_fits : (kind : IntKind) (constant : Bool) (at : ℕ) (x : ExpressionTree) → HasValue x → Passes at x →
      FitsOne (want.Number kind constant) (given_of at x) (expression_in x)
  number_fits kind constant at x h p =
      let v = has_valued x (h.kind) in
      let e = value_typed at x h (form_typed env (passed_form at x)) (p.typed) ∙ v.typed in
      record {
        fits_is = ap (fits (want.Number kind constant)) e;
        handed_is = ap handed e ∙ ap (λ u. u ∷ []) (v.whole);
        clear = λ vs. ap (λ y. argument_fault (want.Number kind constant) at y vs) e;
      }

  sized_fits : (wide : Bool) (at : ℕ) (x : ExpressionTree) → HasValue x → resolved.is_wide (kind_of x) ≡ wide → Passes at x →
      FitsOne (want.Sized wide) (given_of at x) (expression_in x)
  sized_fits wide at x h s p =
      let v = has_valued x (h.kind) in
      let e = value_typed at x h (form_typed env (passed_form at x)) (p.typed) ∙ v.typed in
      let k : is_wide v.valued.kind ≡ wide = wide_same v.valued.kind ∙ ap resolved.is_wide (sym (v.kind)) ∙ s in
      let same : same_truth wide (is_wide v.valued.kind) ≡ true = ap (same_truth wide) k ∙ same_truth_is wide in
      record {
        fits_is = ap (fits (want.Sized wide)) e ∙ same;
        handed_is = ap handed e ∙ ap (λ u. u ∷ []) (v.whole);
        clear = λ vs. ap (λ y. argument_fault (want.Sized wide) at y vs) e ∙ ap (λ b. fault_if (not b) at 40 vs) same;
      }

  array_fits : (defined : Bool) (s : Slot) (at : ℕ) (x : ExpressionTree) → IsArrayFor n defined s x → Passes at x →
      FitsOne (want.Array s.kind s.constant (not defined)) (given_of at x) (expression_in x)
  array_fits defined s at (t.Typed kind (t.Array h)) f p =
      let y = there (names.variable n h) (λ v. (form_typed env (passed_form at (t.Typed kind (t.Array h))) ≡ Array (array_name at h v)) ×
      (kind ≡ Some v.kind)) (p.typed) in
      let v = y.slot in
      let e = (y.holds).0 in
      let k = (y.holds).1 in
      let u = holds_of (names.variable n h) v (λ r. (r.kind ≡ s.kind) × KeepsConst s r) (y.is) (f.1) in
      let same : same_kind s.kind v.kind ≡ true = ap (same_kind s.kind) (u.0) ∙ same_kind_is s.kind in
      let here : not (not defined) ≡ true = ap (λ b. not (not b)) (f.0) in
      let away : not defined ≡ false = ap not (f.0) in
      record {
        fits_is = ap (fits (want.Array s.kind s.constant (not defined))) e ∙ (λ i. same i && const_fits s v (u.1) i && here i);
        handed_is = ap handed e ∙ (λ i. expression_of (sym k i) (node.Array h) ∷ []);
        clear = λ vs. ap (λ y. argument_fault (want.Array s.kind s.constant (not defined)) at y vs) e
            ∙ ap (λ b. fault_if b at 38 (fault_if (v.constant && not s.constant) at 26 (fault_if (not (same_kind s.kind v.kind)) at 22 vs))) away
            ∙ ap (λ b. fault_if (v.constant && not s.constant) at 26 (fault_if (not b) at 22 vs)) same
            ∙ const_clear s v at 26 vs (u.1);
      }
  array_fits defined s at _ f p = absurd f

  -- an argument for a parameter
  parameter_fits : (defined : Bool) (s : Slot) (at : ℕ) (x : ExpressionTree) → ArgumentFits n defined s x → Passes at x →
      FitsOne (want_of defined s) (given_of at x) (expression_in x)
  parameter_fits defined s at x f p = by_cells s.cells f
    where
      by_cells : (cells : Option ℕ) → FitsCells cells (HasValue x) (IsArrayFor n defined s x)
          → FitsOne (cond (is_some cells) (want.Array s.kind s.constant (not defined)) (want.Number s.kind s.constant)) (given_of at x) (expression_in x)
      by_cells None h = number_fits s.kind s.constant at x h p
      by_cells (Some k) h = array_fits defined s at x h p

  parameters_fit : (defined : Bool) (ss : List Slot) (xs : Arguments) (at : ℕ) → ArgumentsFit n defined ss xs → AllPass at xs →
      Fitting (map (want_of defined) ss) (givens at xs) (arguments_in xs)
  parameters_fit defined [] NoArgument at f p = none_fits
  parameters_fit defined (s ∷ ss) (Argument x xs) at f p =
      one_more (want_of defined s) (given_of at x) (expression_in x) (map (want_of defined) ss) (givens (behind at x + 1) xs) (arguments_in xs)
      (parameter_fits defined s at x (f.0) (p.0)) (parameters_fit defined ss xs (behind at x + 1) (f.1) (p.1))
  parameters_fit defined [] (Argument x xs) at f p = absurd f
  parameters_fit defined (s ∷ ss) NoArgument at f p = absurd f

  values_fit : (ws : List Bool) (xs : Arguments) (at : ℕ) → ValuesFit ws xs → AllPass at xs → Fitting (map want.Sized ws) (givens at xs) (arguments_in xs)
  values_fit [] NoArgument at f p = none_fits
  values_fit (w ∷ ws) (Argument x xs) at f p =
      one_more (want.Sized w) (given_of at x) (expression_in x) (map want.Sized ws) (givens (behind at x + 1) xs) (arguments_in xs)
      (sized_fits w at x (f.0) (f.1) (p.0)) (values_fit ws xs (behind at x + 1) (f.2) (p.1))
  values_fit [] (Argument x xs) at f p = absurd f
  values_fit (w ∷ ws) NoArgument at f p = absurd f

  -- ---- calls

  call_is : (result : Option IntKind) (m : List ℕ) (front es : List Expression) (ws : List Want) (gs : List Given) → Fitting ws gs es
      → call result m front ws gs ≡ of_result result (node.Call m (front ++ es))
  call_is result m front es ws gs f =
      (λ i. cond (eq-eqb (length ws) (length gs) (f.count) i && f.each i) (of_result result (node.Call m (front ++ f.handed_is i))) Wrong)

  wanted_clear : (at reason : ℕ) (es : List Expression) (ws : List Want) (gs : List Given) → Fitting ws gs es → (vs : Faults) →
      wanted_faults at reason ws gs vs ≡ vs
  wanted_clear at reason es ws gs f vs = ap (λ b. cond b (argument_faults ws gs vs) (fault at reason (text_faults gs vs)))
      (eq-eqb (length ws) (length gs) (f.count)) ∙ f.clear vs

  -- what a call is, by what its name is bound to
  record Called (at : ℕ) (m : List ℕ) (kind : Option IntKind) (o : Option Binding) (gs : List Given) (es : List Expression) : Type 0 where
    typed : called m o gs ≡ of_result kind (node.Call m es)
    clear : (vs : Faults) → call_faults at o gs vs ≡ vs

  plain_called : (at : ℕ) (m : List ℕ) (kind : Option IntKind) (s : names.Signature) (gs : List Given) (es : List Expression) → kind ≡ s.result →
      Fitting (map (want_of s.defined) s.parameters) gs es
      → Called at m kind (function_of (Plain s)) gs es
  plain_called at m kind s gs es k f =
      let ws = map (want_of s.defined) s.parameters in
      record {
        typed = call_is s.result m [] es ws gs f ∙ (λ i. of_result (sym k i) (node.Call m es));
        clear = wanted_clear at 23 es ws gs f;
      }

  -- `printf` with its format
  format_called : (at : ℕ) (m : List ℕ) (kind : Option IntKind) (bytes : List ℕ) (ws : List Bool) (y : Given) (gs : List Given) (es : List Expression)
      → kind ≡ Some K.Int → wanted bytes ≡ Some ws → y.typed ≡ Text bytes → Fitting (map want.Sized ws) gs es
      → Called at m kind (Some binding.Printf) (y ∷ gs) (expression_of None (node.Text bytes) ∷ es)
  format_called at m kind bytes ws y gs es k w e f =
      let text : text_of y.typed ≡ Some bytes = ap text_of e in
      let wants : read.wanted bytes ≡ Some (map want.Sized ws) = format_is bytes ∙ ap (option_map (map want.Sized)) w in
      record {
        typed = ap (λ o. formatted m o gs) text ∙ ap (λ o. printing m bytes o gs) wants
            ∙ call_is (Some K.Int) m (expression_of None (node.Text bytes) ∷ []) es (map want.Sized ws) gs f ∙
            (λ i. of_result (sym k i) (node.Call m (expression_of None (node.Text bytes) ∷ es)));
        clear = λ vs. ap (λ o. format_faults at o gs vs) text ∙ ap (λ o. printing_faults at o gs vs) wants ∙ wanted_clear at 40 es (map want.Sized ws) gs f vs;
      }

  format_fits : (at first : ℕ) (m : List ℕ) (kind : Option IntKind) (xs : Arguments) → kind ≡ Some K.Int → FormatFits xs → AllPass first xs →
      Called at m kind (Some binding.Printf) (givens first xs) (arguments_in xs)
  format_fits at first m kind NoArgument k f p = absurd f
  format_fits at first m kind (Argument (t.Typed none (t.Text bytes)) xs) k f p = by_wanted (wanted bytes) refl f
    where
      by_wanted : (o : Option (List Bool)) → wanted bytes ≡ o → IsSomeAnd o (λ ws. ValuesFit ws xs) →
          Called at m kind (Some binding.Printf) (givens first (Argument (t.Typed none (t.Text bytes)) xs))
          (arguments_in (Argument (t.Typed none (t.Text bytes)) xs))
      by_wanted None w h = absurd h
      by_wanted (Some ws) w h =
          let e = (p.0).typed in
          subst (λ o. Called at m kind (Some binding.Printf) (givens first (Argument (t.Typed none (t.Text bytes)) xs))
          (expression_of o (node.Text bytes) ∷ arguments_in xs)) (sym (e.1))
          (format_called at m kind bytes ws (given_of first (t.Typed none (t.Text bytes)))
          (givens (behind first (t.Typed none (t.Text bytes)) + 1) xs) (arguments_in xs) k w (e.0)
          (values_fit ws xs (behind first (t.Typed none (t.Text bytes)) + 1) h (p.1)))
  format_fits at first m kind (Argument _ xs) k f p = absurd f

  call_fits : (at first : ℕ) (m : List ℕ) (kind : Option IntKind) (c : Callee) (xs : Arguments) → CallFits n kind c xs → AllPass first xs →
      Called at m kind (function_of c) (givens first xs) (arguments_in xs)
  call_fits at first m kind (Plain s) xs f p = plain_called at m kind s (givens first xs) (arguments_in xs) (f.0)
      (parameters_fit s.defined s.parameters xs first (f.1) p)
  call_fits at first m kind Printf xs f p = format_fits at first m kind xs (f.0) (f.1) p
  call_fits at first m kind Unknown xs f p = absurd f

  -- a call of a function with arguments that fit
  pub record CallReads (form : Form) (m : List ℕ) (kind : Option IntKind) (xs : Arguments) : Type 0 where
    pub typed : form_typed env form ≡ of_result kind (node.Call m (arguments_in xs))
    pub clear : (vs : Faults) → form_faults env form vs ≡ vs

  pub call_reads : (at : ℕ) (m : List ℕ) (kind : Option IntKind) (xs : Arguments) → env.word at ≡ m → meaning env at ≡ function_of (callee n m) →
      CallFits n kind (callee n m) xs → AllPass (at + 1 + 1) xs
      → CallReads (unary_form at (call_of (arguments_of xs))) m kind xs
  call_reads at m kind xs w b f p =
      let first = at + 1 + 1 in
      let gs = givens first xs in
      let r = call_fits at first m kind (callee n m) xs f p in
      let e = call_form at xs in
      record {
        typed = ap (form_typed env) e ∙ (λ i. called (w i) (b i) (all_given first xs i)) ∙ r.typed;
        clear = λ vs. ap (λ y. form_faults env y vs) e ∙ (λ i. call_faults at (b i) (all_given first xs i) (all_clear first xs p vs i)) ∙ r.clear vs;
      }
