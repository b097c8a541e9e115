-- What a walk finds at a call.
use Rattle.std.proofs.Common.{◌≡◌, ◌≢◌, ◌⊎◌, inl, inr, ℕ, suc, Bool, true, false, cond, not, ◌&&◌, ◌==◌, List, [], ◌∷◌, length, Option, Some, None, refl, sym, ap, subst, ◌∙◌, true≢false}
use Rattle.std.proofs.lemmas.Bool.{eqb-true, eqb-false}
use Rattle.c_types.specs.declared.kinds.IntKind.{IntKind}
use Rattle.c_types.specs.declared.kinds.IntKind.TheVariants.{Int}
use Rattle.c_tree.specs.declared.tree.Node.{Node}
use Rattle.c_grammar.specs.Terms.{Term, Terms, NoTerm, Then, first_of, count}
use Rattle.c_kinds.specs.declared.binding.Want.{Want}
use Rattle.c_kinds.specs.declared.binding.Want.TheVariants as want
use Rattle.c_kinds.specs.declared.binding.Signature.{Signature}
use Rattle.c_kinds.specs.declared.binding.Binding.{Binding}
use Rattle.c_kinds.specs.declared.binding.Binding.TheVariants.{Constant, Global, Local, Function, Printf}
use Rattle.c_kinds.specs.declared.typed.Fault.{Fault}
use Rattle.c_kinds.specs.declared.typed.ArrayName.{ArrayName}
use Rattle.c_kinds.specs.declared.typed.Valued.{Valued}
use Rattle.c_kinds.specs.declared.typed.Typed.{Typed}
use Rattle.c_kinds.specs.declared.typed.Typed.TheVariants.{Value, Void, Text, Array, Wrong}
use Rattle.c_kinds.specs.Formats.{wanted}
use Rattle.c_kinds.specs.Marks.{is_wide}
use Rattle.c_kinds.specs.Calls.{same_kind, same_truth, argument_fault, argument_faults, text_faults, wanted_faults, printing_faults, format_faults, printf_faults, call_faults, text_of}
use Rattle.c_kinds.specs.Scopes.{Env, meaning, fault}
use Rattle.c_kinds.specs.Typing.{typed, given}
use Rattle.c_kinds.specs.Values.{text_fault}
use Rattle.c_reading_defs.specs.Violations.{broken}
use Rattle.c_reading_defs.specs.Bindings.{IsBoundTo, IsUnbound}
use Rattle.c_reading_defs.specs.Formats.{IsFormat}
use Rattle.c_reading_defs.specs.Meanings.{Means}
use Rattle.c_reading_defs.specs.Calls.{WantsNumber, ArgumentBreaks, SomeArgumentBreaks, HasText, IsNoFunction, CalledBreaks, CallBreaks}
use Rattle.c_violation_laws.proofs.Formats.{format_is, is_format}
use Rattle.c_violation_laws.proofs.Meanings.{is_typed, typed_is}
use Rattle.c_violation_laws.specs.Finds.{Finds}
use Rattle.c_violation_laws.proofs.Finding.{Rule, finds_none, finds_both, finds_same, finds_nothing, finds_fault, finds_if}
use Rattle.c_violation_laws.proofs.Bound.{bound_of, unbound_of}
use Rattle.c_violation_laws.proofs.Uses.{not_both, not_bound, same_bound}
use Rattle.c_violation_laws.proofs.CallMeanings.{is_same_kind, same_kind_is}

-- ---- tests

pub not_true : (b : Bool) → (b ≡ true → ⊥) → not b ≡ true
not_true true f = absurd (f refl)
not_true false f = refl

true_not : (b : Bool) → not b ≡ true → b ≡ true → ⊥
true_not true e g = true≢false (sym e)
true_not false e g = true≢false (sym g)

differ : (j k : IntKind) → not (same_kind j k) ≡ true → k ≢ j
differ j k e g = true_not (same_kind j k) e (ap (same_kind j) g ∙ is_same_kind j)

differ_back : (j k : IntKind) → k ≢ j → not (same_kind j k) ≡ true
differ_back j k f = not_true (same_kind j k) (λ e. f (sym (same_kind_is j k e)))

truths : (a b : Bool) → not (same_truth a b) ≡ true → b ≢ a
truths true true e g = true≢false (sym e)
truths true false e g = true≢false (sym g)
truths false true e g = true≢false g
truths false false e g = true≢false (sym e)

truths_back : (a b : Bool) → b ≢ a → not (same_truth a b) ≡ true
truths_back true true f = absurd (f refl)
truths_back true false f = refl
truths_back false true f = refl
truths_back false false f = absurd (f refl)

and_left : (a b : Bool) → (a && b) ≡ true → a ≡ true
and_left true b e = refl
and_left false b e = absurd (true≢false (sym e))

and_right : (a b : Bool) → (a && b) ≡ true → b ≡ true
and_right true b e = e
and_right false b e = absurd (true≢false (sym e))

-- ---- one argument

-- what is found at one that is for a number
abbrev number_rule : ℕ → Typed → Rule
number_rule first (Array a) v = v ≡ broken first 22
number_rule first (Void n) v = v ≡ broken first 24
number_rule first (Text bytes) v = v ≡ broken first 40
number_rule first _ v = ⊥

abbrev array_rule : IntKind → Bool → Bool → ℕ → Typed → Rule
array_rule kind constant external first (Array a) v =
    (((not (same_kind kind a.kind) ≡ true) × (v ≡ broken first 22)) ⊎ (((a.constant && not constant) ≡ true) × (v ≡ broken a.token 26))) ⊎
    ((external ≡ true) × (v ≡ broken first 38))
array_rule kind constant external first (Value x) v = v ≡ broken first 22
array_rule kind constant external first (Void n) v = v ≡ broken first 24
array_rule kind constant external first (Text bytes) v = v ≡ broken first 40
array_rule kind constant external first Wrong v = ⊥

abbrev sized_rule : Bool → ℕ → Typed → Rule
sized_rule wide first (Value x) v = (not (same_truth wide (is_wide x.kind)) ≡ true) × (v ≡ broken first 40)
sized_rule wide first x v = number_rule first x v

abbrev argument_rule : Want → ℕ → Typed → Rule
argument_rule (want.Number kind constant) first x v = number_rule first x v
argument_rule (want.Array kind constant external) first x v = array_rule kind constant external first x v
argument_rule (want.Sized wide) first x v = sized_rule wide first x v

number_finds : (first : ℕ) (x : Typed) → Finds (argument_fault (want.Number Int false) first x) (number_rule first x)
number_finds first (Value x) = finds_none
number_finds first (Void n) = finds_fault first 24
number_finds first (Text bytes) = finds_fault first 40
number_finds first (Array a) = finds_fault first 22
number_finds first Wrong = finds_none

argument_finds : (w : Want) (first : ℕ) (x : Typed) → Finds (argument_fault w first x) (argument_rule w first x)
argument_finds (want.Number kind constant) first x = number_finds first x
argument_finds (want.Array kind constant external) first (Array a) =
    finds_both _ _ _ _ (finds_both _ _ _ _ (finds_if (not (same_kind kind a.kind)) first 22) (finds_if (a.constant && not constant) a.token 26))
    (finds_if external first 38)
argument_finds (want.Array kind constant external) first (Value x) = finds_fault first 22
argument_finds (want.Array kind constant external) first (Void n) = finds_fault first 24
argument_finds (want.Array kind constant external) first (Text bytes) = finds_fault first 40
argument_finds (want.Array kind constant external) first Wrong = finds_none
argument_finds (want.Sized wide) first (Value x) = finds_if (not (same_truth wide (is_wide x.kind))) first 40
argument_finds (want.Sized wide) first (Void n) = finds_fault first 24
argument_finds (want.Sized wide) first (Text bytes) = finds_fault first 40
argument_finds (want.Sized wide) first (Array a) = finds_fault first 22
argument_finds (want.Sized wide) first Wrong = finds_none

module _ (env : Env) (x : Term) where
  abbrev IsText : Rule
  IsText v = (bytes : List ℕ) × Means env x (Text bytes) × (v ≡ broken (first_of x) 40)

  -- what is found to be y means y, and nothing else
  meant : (y : Typed) → typed env x ≡ y → y ≢ Wrong → Means env x y
  meant y e r = typed_is env x y e r

  same : (y z : Typed) → typed env x ≡ y → Means env x z → y ≡ z
  same y z e h = sym e ∙ is_typed env x z h

  of_value : (y : Valued) → typed env x ≡ Value y → Means env x (Value y)
  of_value y e = meant (Value y) e (λ w. cc)

  of_array : (a : ArrayName) → typed env x ≡ Array a → Means env x (Array a)
  of_array a e = meant (Array a) e (λ w. cc)

  of_text : (bytes : List ℕ) → typed env x ≡ Text bytes → Means env x (Text bytes)
  of_text bytes e = meant (Text bytes) e (λ w. cc)

  abbrev Breaks : Want → Rule
  Breaks w v = ArgumentBreaks env x w v ⊎ IsText v

  is_void : (w : Want) (n : Node) (v : Fault) → typed env x ≡ Void n → v ≡ broken (first_of x) 24 → Breaks w v
  is_void w n v e g = inl (subst (ArgumentBreaks env x w) (sym g) (ArgumentBreaks.void_handed n (meant (Void n) e (λ w. cc))))

  is_text : (w : Want) (bytes : List ℕ) (v : Fault) → typed env x ≡ Text bytes → v ≡ broken (first_of x) 40 → Breaks w v
  is_text w bytes v e g = inr (bytes, of_text bytes e, g)

  is_array : (w : Want) (a : ArrayName) (v : Fault) → WantsNumber w → typed env x ≡ Array a → v ≡ broken (first_of x) 22 → Breaks w v
  is_array w a v i e g = inl (subst (ArgumentBreaks env x w) (sym g) (ArgumentBreaks.array_for_number a i (of_array a e)))

  is_const : (kind : IntKind) (constant external : Bool) (a : ArrayName) → typed env x ≡ Array a → (a.constant && not constant) ≡ true →
      ArgumentBreaks env x (want.Array kind constant external) (broken a.token 26)
  is_const kind true external a e g = absurd (true≢false (sym (and_right a.constant false g)))
  is_const kind false external a e g = ArgumentBreaks.const_handed a (of_array a e) (and_left a.constant true g)

  is_given : (kind : IntKind) (constant external : Bool) (a : ArrayName) → typed env x ≡ Array a → external ≡ true →
      ArgumentBreaks env x (want.Array kind constant external) (broken (first_of x) 38)
  is_given kind constant true a e g = ArgumentBreaks.array_given_away a (of_array a e)
  is_given kind constant false a e g = absurd (true≢false (sym g))

  to : (w : Want) (y : Typed) → typed env x ≡ y → (v : Fault) → argument_rule w (first_of x) y v → Breaks w v
  to (want.Number kind constant) (Void n) e v g = is_void (want.Number kind constant) n v e g
  to (want.Number kind constant) (Text bytes) e v g = is_text (want.Number kind constant) bytes v e g
  to (want.Number kind constant) (Array a) e v g = is_array (want.Number kind constant) a v tt e g
  to (want.Number kind constant) _ e v g = absurd g
  to (want.Array kind constant external) (Value y) e v g = inl
      (subst (ArgumentBreaks env x (want.Array kind constant external)) (sym g) (ArgumentBreaks.number_for_array y (of_value y e)))
  to (want.Array kind constant external) (Void n) e v g = is_void (want.Array kind constant external) n v e g
  to (want.Array kind constant external) (Text bytes) e v g = is_text (want.Array kind constant external) bytes v e g
  to (want.Array kind constant external) (Array a) e v (inl (inl p)) =
      inl (subst (ArgumentBreaks env x (want.Array kind constant external)) (sym p.1) (ArgumentBreaks.other_kind a (of_array a e) (differ kind a.kind p.0)))
  to (want.Array kind constant external) (Array a) e v (inl (inr p)) =
      inl (subst (ArgumentBreaks env x (want.Array kind constant external)) (sym p.1) (is_const kind constant external a e p.0))
  to (want.Array kind constant external) (Array a) e v (inr p) = inl
      (subst (ArgumentBreaks env x (want.Array kind constant external)) (sym p.1) (is_given kind constant external a e p.0))
  to (want.Array kind constant external) Wrong e v g = absurd g
  to (want.Sized wide) (Value y) e v g = inl (subst (ArgumentBreaks env x (want.Sized wide)) (sym g.1)
      (ArgumentBreaks.other_size y (of_value y e) (truths wide (is_wide y.kind) g.0)))
  to (want.Sized wide) (Void n) e v g = is_void (want.Sized wide) n v e g
  to (want.Sized wide) (Text bytes) e v g = is_text (want.Sized wide) bytes v e g
  to (want.Sized wide) (Array a) e v g = is_array (want.Sized wide) a v tt e g
  to (want.Sized wide) Wrong e v g = absurd g

  -- a rule of what x is
  known : (w : Want) (y : Typed) (v : Fault) → Means env x y → argument_rule w (first_of x) y v → argument_rule w (first_of x) (typed env x) v
  known w y v h g = subst (λ z. argument_rule w (first_of x) z v) (sym (is_typed env x y h)) g

  text_rule : (w : Want) (bytes : List ℕ) → argument_rule w (first_of x) (Text bytes) (broken (first_of x) 40)
  text_rule (want.Number kind constant) bytes = refl
  text_rule (want.Array kind constant external) bytes = refl
  text_rule (want.Sized wide) bytes = refl

  void_rule : (w : Want) (n : Node) → argument_rule w (first_of x) (Void n) (broken (first_of x) 24)
  void_rule (want.Number kind constant) n = refl
  void_rule (want.Array kind constant external) n = refl
  void_rule (want.Sized wide) n = refl

  number_only : (w : Want) (a : ArrayName) → WantsNumber w → argument_rule w (first_of x) (Array a) (broken (first_of x) 22)
  number_only (want.Number kind constant) a i = refl
  number_only (want.Array kind constant external) a i = absurd i
  number_only (want.Sized wide) a i = refl

  const_left : (b : Bool) → b ≡ true → (b && true) ≡ true
  const_left true e = refl
  const_left false e = absurd (true≢false (sym e))

  broken_by : (w : Want) (v : Fault) → ArgumentBreaks env x w v → argument_rule w (first_of x) (typed env x) v
  broken_by w v (ArgumentBreaks.void_handed n e) = known w (Void n) _ e (void_rule w n)
  broken_by w v (ArgumentBreaks.array_for_number a i e) = known w (Array a) _ e (number_only w a i)
  broken_by w v (ArgumentBreaks.number_for_array y e) = known w (Value y) _ e refl
  broken_by w v (ArgumentBreaks.other_kind {kind = kind} a e f) = known w (Array a) _ e (inl (inl (differ_back kind a.kind f, refl)))
  broken_by w v (ArgumentBreaks.const_handed a e c) = known w (Array a) _ e (inl (inr (const_left a.constant c, refl)))
  broken_by w v (ArgumentBreaks.array_given_away a e) = known w (Array a) _ e (inr (refl, refl))
  broken_by w v (ArgumentBreaks.other_size {wide = wide} y e f) = known w (Value y) _ e (truths_back wide (is_wide y.kind) f, refl)

  fro : (w : Want) (v : Fault) → Breaks w v → argument_rule w (first_of x) (typed env x) v
  fro w v (inl h) = broken_by w v h
  fro w v (inr t) = known w (Text t.0) v t.1 (subst (argument_rule w (first_of x) (Text t.0)) (sym t.2) (text_rule w t.0))

  one_argument : (w : Want) → Finds (argument_fault w (first_of x) (typed env x)) (Breaks w)
  one_argument w = finds_same _ (argument_rule w (first_of x) (typed env x)) (Breaks w) (argument_finds w (first_of x) (typed env x))
      (to w (typed env x) refl) (fro w)

  text_finds : (y : Typed) → typed env x ≡ y → Finds (text_fault (first_of x) y) IsText
  text_finds (Text bytes) e = finds_same (fault (first_of x) 40) (λ v. v ≡ broken (first_of x) 40) IsText (finds_fault (first_of x) 40)
      (λ v g. (bytes, of_text bytes e, g)) (λ v t. t.2)
  text_finds (Value y) e = finds_nothing IsText (λ v t. let q : ◌≡◌ {A = Typed} (Value y) (Text t.0) = same (Value y) (Text t.0) e t.1 in cc)
  text_finds (Void n) e = finds_nothing IsText (λ v t. let q : ◌≡◌ {A = Typed} (Void n) (Text t.0) = same (Void n) (Text t.0) e t.1 in cc)
  text_finds (Array a) e = finds_nothing IsText (λ v t. let q : ◌≡◌ {A = Typed} (Array a) (Text t.0) = same (Array a) (Text t.0) e t.1 in cc)
  text_finds Wrong e = finds_nothing IsText (λ v t. let q : ◌≡◌ {A = Typed} Wrong (Text t.0) = same Wrong (Text t.0) e t.1 in cc)

-- ---- all arguments

module _ (env : Env) where
  texts : (xs : Terms) → Finds (text_faults (given env xs)) (λ v. HasText env xs v)
  texts NoTerm = finds_none
  texts (Then x xs) = finds_both (text_fault (first_of x) (typed env x)) (text_faults (given env xs)) (λ v. IsText env x v) (λ v. HasText env xs v)
      (text_finds env x (typed env x) refl) (texts xs)

  crossed : (P Q R S : Rule) (v : Fault) → (P v ⊎ Q v) ⊎ (R v ⊎ S v) → (P v ⊎ R v) ⊎ (Q v ⊎ S v)
  crossed P Q R S v (inl (inl p)) = inl (inl p)
  crossed P Q R S v (inl (inr q)) = inr (inl q)
  crossed P Q R S v (inr (inl r)) = inl (inr r)
  crossed P Q R S v (inr (inr s)) = inr (inr s)

  less : (n m : ℕ) → suc n ≡ suc m → n ≡ m
  less n m e = cc

  arguments : (ws : List Want) (xs : Terms) → length ws ≡ count xs → Finds (argument_faults ws (given env xs))
      (λ v. SomeArgumentBreaks env ws xs v ⊎ HasText env xs v)
  arguments [] NoTerm e = finds_nothing _ (λ v h. elim h [ inl p ↦ p | inr q ↦ q ])
  arguments [] (Then x xs) e = absurd (zero_suc (count xs) e)
    where
      zero_suc : (n : ℕ) → 0 ≡ suc n → ⊥
      zero_suc n e = cc
  arguments (w ∷ ws) NoTerm e = absurd (suc_zero (length ws) e)
    where
      suc_zero : (n : ℕ) → suc n ≡ 0 → ⊥
      suc_zero n e = cc
  arguments (w ∷ ws) (Then x xs) e =
      finds_same (argument_faults (w ∷ ws) (given env (Then x xs))) _ (λ v. SomeArgumentBreaks env (w ∷ ws) (Then x xs) v ⊎ HasText env (Then x xs) v)
      (finds_both (argument_fault w (first_of x) (typed env x)) (argument_faults ws (given env xs)) (λ v. Breaks env x w v)
      (λ v. SomeArgumentBreaks env ws xs v ⊎ HasText env xs v)
      (one_argument env x w) (arguments ws xs (less (length ws) (count xs) e)))
      (crossed (λ v. ArgumentBreaks env x w v) (λ v. IsText env x v) (λ v. SomeArgumentBreaks env ws xs v) (λ v. HasText env xs v))
      (crossed (λ v. ArgumentBreaks env x w v) (λ v. SomeArgumentBreaks env ws xs v) (λ v. IsText env x v) (λ v. HasText env xs v))

  counted : (xs : Terms) → length (given env xs) ≡ count xs
  counted NoTerm = refl
  counted (Then x xs) = ap suc (counted xs)

  -- as many arguments as are wanted, or not
  abbrev WantedRule : ℕ → ℕ → List Want → Terms → Rule
  WantedRule at reason ws xs v = (HasText env xs v ⊎ ((length ws ≢ count xs) × (v ≡ broken at reason))) ⊎
      ((length ws ≡ count xs) × SomeArgumentBreaks env ws xs v)

  wanted_finds : (at reason : ℕ) (ws : List Want) (xs : Terms) → Finds (wanted_faults at reason ws (given env xs)) (WantedRule at reason ws xs)
  wanted_finds at reason ws xs = by (length ws == length (given env xs)) refl
    where
      by : (b : Bool) → (length ws == length (given env xs)) ≡ b → Finds
          (λ vs. cond b (argument_faults ws (given env xs) vs) (fault at reason (text_faults (given env xs) vs))) (WantedRule at reason ws xs)
      by true e =
          let same : length ws ≡ count xs = eqb-true (length ws) (length (given env xs)) e ∙ counted xs in
          finds_same (argument_faults ws (given env xs)) (λ v. SomeArgumentBreaks env ws xs v ⊎ HasText env xs v) (WantedRule at reason ws xs)
          (arguments ws xs same)
          (λ v h. elim h [ inl p ↦ inr (same, p) | inr q ↦ inl (inl q) ])
          (λ v h. elim h [ inl p ↦ elim p [ inl q ↦ inr q | inr r ↦ absurd (r.0 same) ] | inr r ↦ inl r.1 ])
      by false e =
          let other : length ws ≢ count xs = λ g. eqb-false (length ws) (length (given env xs)) e (g ∙ sym (counted xs)) in
          finds_same (λ vs. fault at reason (text_faults (given env xs) vs)) (λ v. HasText env xs v ⊎ (v ≡ broken at reason)) (WantedRule at reason ws xs)
          (finds_both (text_faults (given env xs)) (fault at reason) (λ v. HasText env xs v) (λ v. v ≡ broken at reason) (texts xs) (finds_fault at reason))
          (λ v h. elim h [ inl p ↦ inl (inl p) | inr q ↦ inl (inr (other, q)) ])
          (λ v h. elim h [ inl p ↦ elim p [ inl q ↦ inl q | inr r ↦ inr r.1 ] | inr r ↦ absurd (other r.0) ])

  -- ---- what a name is bound to

  module _ (at : ℕ) where
    -- what a call of it breaks, and a text that it is handed, unless it is `printf`
    abbrev Handed : Binding → Terms → Rule
    Handed b xs v = CalledBreaks env at b xs v ⊎ ((b ≢ Printf) × HasText env xs v)

    no_function : (b : Binding) → IsNoFunction b → b ≢ Printf → (xs : Terms) → Finds (λ vs. fault at 22 (text_faults (given env xs) vs)) (λ v. Handed b xs v)
    no_function b i p xs =
        finds_same (λ vs. fault at 22 (text_faults (given env xs) vs)) _ (λ v. Handed b xs v)
        (finds_both (text_faults (given env xs)) (fault at 22) _ _ (texts xs) (finds_fault at 22))
        (λ v h. elim h [ inl q ↦ inr (p, q) | inr e ↦ inl (subst (CalledBreaks env at b xs) (sym e) (CalledBreaks.no_function i)) ])
        (λ v h. elim h [ inl c ↦ only b i xs v c | inr q ↦ inl q.1 ])
      where
        only : (b : Binding) → IsNoFunction b → (xs : Terms) (v : Fault) → CalledBreaks env at b xs v → HasText env xs v ⊎ (v ≡ broken at 22)
        only b i xs v (CalledBreaks.no_function j) = inr refl
        only b i xs v (CalledBreaks.other_number e) = absurd i
        only b i xs v (CalledBreaks.argument e h) = absurd i
        only b i xs v (CalledBreaks.no_format e) = absurd i
        only b i xs v (CalledBreaks.other_conversion bytes e g) = absurd i
        only b i xs v (CalledBreaks.other_count bytes ws e g k) = absurd i
        only b i xs v (CalledBreaks.printed bytes ws e g k h) = absurd i
        only b i xs v (CalledBreaks.text_printed h) = absurd i

    function_called : (s : Signature) (xs : Terms) → Finds (wanted_faults at 23 s.wants (given env xs)) (λ v. Handed (Function s) xs v)
    function_called s xs = finds_same (wanted_faults at 23 s.wants (given env xs)) _ (λ v. Handed (Function s) xs v) (wanted_finds at 23 s.wants xs)
        to_call from_call
      where
        no_printf : ◌≡◌ {A = Binding} (Function s) Printf → ⊥
        no_printf e = cc

        to_call : (v : Fault) → WantedRule at 23 s.wants xs v → Handed (Function s) xs v
        to_call v (inl (inl h)) = inr (no_printf, h)
        to_call v (inl (inr p)) = inl (subst (CalledBreaks env at (Function s) xs) (sym p.1) (CalledBreaks.other_number p.0))
        to_call v (inr p) = inl (CalledBreaks.argument p.0 p.1)

        of_call : (v : Fault) → CalledBreaks env at (Function s) xs v → WantedRule at 23 s.wants xs v
        of_call v (CalledBreaks.no_function i) = absurd i
        of_call v (CalledBreaks.other_number e) = inl (inr (e, refl))
        of_call v (CalledBreaks.argument e h) = inr (e, h)

        from_call : (v : Fault) → Handed (Function s) xs v → WantedRule at 23 s.wants xs v
        from_call v (inl c) = of_call v c
        from_call v (inr q) = inl (inl q.1)

    -- `printf` with a first argument
    module _ (f : Term) (xs : Terms) where
      abbrev Printed : Rule
      Printed v = CalledBreaks env at Printf (Then f xs) v

      text_of_none : (y : Typed) → ((bytes : List ℕ) → y ≢ Text bytes) → text_of y ≡ None
      text_of_none (Value x) i = refl
      text_of_none (Void n) i = refl
      text_of_none (Text bytes) i = absurd (i bytes refl)
      text_of_none _ i = refl

      -- at the format, and texts behind it
      one_place : (Printed (broken at 40)) → ((v : Fault) → Printed v → HasText env xs v ⊎ (v ≡ broken at 40)) →
          Finds (λ vs. fault at 40 (text_faults (given env xs) vs)) Printed
      one_place there only =
          finds_same (λ vs. fault at 40 (text_faults (given env xs) vs)) _ Printed
          (finds_both (text_faults (given env xs)) (fault at 40) _ _ (texts xs) (finds_fault at 40))
          (λ v h. elim h [ inl q ↦ CalledBreaks.text_printed q | inr e ↦ subst Printed (sym e) there ]) only

      no_text : ((bytes : List ℕ) → Means env f (Text bytes) → ⊥) → Finds (λ vs. fault at 40 (text_faults (given env xs) vs)) Printed
      no_text i = one_place (CalledBreaks.no_format i) only
        where
          only : (v : Fault) → CalledBreaks env at Printf (Then f xs) v → HasText env xs v ⊎ (v ≡ broken at 40)
          only v (CalledBreaks.no_function j) = absurd j
          only v (CalledBreaks.no_format e) = inr refl
          only v (CalledBreaks.other_conversion bytes e g) = inr refl
          only v (CalledBreaks.other_count bytes ws e g k) = inr refl
          only v (CalledBreaks.printed bytes ws e g k h) = absurd (i bytes e)
          only v (CalledBreaks.text_printed h) = inl h

      same_text : (a b : List ℕ) → Means env f (Text a) → Means env f (Text b) → a ≡ b
      same_text a b h k = let q : ◌≡◌ {A = Typed} (Text a) (Text b) = same env f (Text a) (Text b) (is_typed env f (Text a) h) k in cc

      -- a text and what it wants, as found
      wants_of : (a : List ℕ) (us : List Want) (bytes : List ℕ) → Means env f (Text a) → Means env f (Text bytes) → IsFormat a us → wanted bytes ≡ Some us
      wants_of a us bytes k e h = ap wanted (same_text bytes a e k) ∙ is_format a us h

      no_wants : (bytes : List ℕ) → Means env f (Text bytes) → wanted bytes ≡ None → Finds (λ vs. fault at 40 (text_faults (given env xs) vs)) Printed
      no_wants bytes e g = one_place (CalledBreaks.other_conversion bytes e (λ ws h. some bytes ws e h)) only
        where
          some : (a : List ℕ) (ws : List Want) → Means env f (Text a) → IsFormat a ws → ⊥
          some a ws k h = let q : ◌≡◌ {A = Option (List Want)} None (Some ws) = sym g ∙ wants_of a ws bytes k e h in cc

          only : (v : Fault) → CalledBreaks env at Printf (Then f xs) v → HasText env xs v ⊎ (v ≡ broken at 40)
          only v (CalledBreaks.no_function j) = absurd j
          only v (CalledBreaks.no_format e) = inr refl
          only v (CalledBreaks.other_conversion bytes e g) = inr refl
          only v (CalledBreaks.other_count bytes ws e g k) = inr refl
          only v (CalledBreaks.printed a ws k h i j) = absurd (some a ws k h)
          only v (CalledBreaks.text_printed h) = inl h

      some_wants : (bytes : List ℕ) (ws : List Want) → Means env f (Text bytes) → wanted bytes ≡ Some ws → Finds (wanted_faults at 40 ws (given env xs)) Printed
      some_wants bytes ws e g = finds_same (wanted_faults at 40 ws (given env xs)) _ Printed (wanted_finds at 40 ws xs) to_call from_call
        where
          same_wants : (a : List ℕ) (us : List Want) → Means env f (Text a) → IsFormat a us → us ≡ ws
          same_wants a us k h = let q : ◌≡◌ {A = Option (List Want)} (Some us) (Some ws) = sym (wants_of a us bytes k e h) ∙ g in cc

          wants : (a : List ℕ) → Means env f (Text a) → IsFormat a ws
          wants a k = format_is a ws (ap wanted (same_text a bytes k e) ∙ g)

          to_call : (v : Fault) → WantedRule at 40 ws xs v → CalledBreaks env at Printf (Then f xs) v
          to_call v (inl (inl h)) = CalledBreaks.text_printed h
          to_call v (inl (inr p)) = subst (CalledBreaks env at Printf (Then f xs)) (sym p.1) (CalledBreaks.other_count bytes ws e (wants bytes e) p.0)
          to_call v (inr p) = CalledBreaks.printed bytes ws e (wants bytes e) p.0 p.1

          from_call : (v : Fault) → CalledBreaks env at Printf (Then f xs) v → WantedRule at 40 ws xs v
          from_call v (CalledBreaks.no_function j) = absurd j
          from_call v (CalledBreaks.no_format i) = absurd (i bytes e)
          from_call v (CalledBreaks.other_conversion a k h) = absurd (h ws (wants a k))
          from_call v (CalledBreaks.other_count a us k h n) = inl (inr (subst (λ z. length z ≢ count xs) (same_wants a us k h) n, refl))
          from_call v (CalledBreaks.printed a us k h n j) = inr
              (subst (λ z. (length z ≡ count xs) × SomeArgumentBreaks env z xs v) (same_wants a us k h) (n, j))
          from_call v (CalledBreaks.text_printed h) = inl (inl h)

      by_wants : (bytes : List ℕ) (o : Option (List Want)) → Means env f (Text bytes) → wanted bytes ≡ o → Finds (printing_faults at o (given env xs)) Printed
      by_wants bytes None e g = no_wants bytes e g
      by_wants bytes (Some ws) e g = some_wants bytes ws e g

      by_format : (y : Typed) → typed env f ≡ y → Finds (format_faults at (text_of y) (given env xs)) Printed
      by_format (Text bytes) e = by_wants bytes (wanted bytes) (of_text env f bytes e) refl
      by_format (Value y) e = no_text (λ bytes h. let q : ◌≡◌ {A = Typed} (Value y) (Text bytes) = same env f (Value y) (Text bytes) e h in cc)
      by_format (Void n) e = no_text (λ bytes h. let q : ◌≡◌ {A = Typed} (Void n) (Text bytes) = same env f (Void n) (Text bytes) e h in cc)
      by_format (Array a) e = no_text (λ bytes h. let q : ◌≡◌ {A = Typed} (Array a) (Text bytes) = same env f (Array a) (Text bytes) e h in cc)
      by_format Wrong e = no_text (λ bytes h. let q : ◌≡◌ {A = Typed} Wrong (Text bytes) = same env f Wrong (Text bytes) e h in cc)

    printf_called : (xs : Terms) → Finds (printf_faults at (given env xs)) (λ v. CalledBreaks env at Printf xs v)
    printf_called NoTerm = finds_same (fault at 40) (λ v. v ≡ broken at 40) _ (finds_fault at 40)
        (λ v e. subst (CalledBreaks env at Printf NoTerm) (sym e) (CalledBreaks.no_format tt)) only
      where
        only : (v : Fault) → CalledBreaks env at Printf NoTerm v → v ≡ broken at 40
        only v (CalledBreaks.no_function j) = absurd j
        only v (CalledBreaks.no_format e) = refl
    printf_called (Then f xs) = by_format f xs (typed env f) refl

    of_binding : (b : Binding) (xs : Terms) → Finds (call_faults at (Some b) (given env xs)) (λ v. Handed b xs v)
    of_binding (Function s) xs = function_called s xs
    of_binding Printf xs =
        finds_same (printf_faults at (given env xs)) (λ v. CalledBreaks env at Printf xs v) (λ v. Handed Printf xs v) (printf_called xs)
        (λ v c. inl c) (λ v h. elim h [ inl c ↦ c | inr q ↦ absurd (q.0 refl) ])
    of_binding (Constant n) xs = no_function (Constant n) tt (λ e. let q : ◌≡◌ {A = Binding} (Constant n) Printf = e in cc) xs
    of_binding (Global shape) xs = no_function (Global shape) tt (λ e. let q : ◌≡◌ {A = Binding} (Global shape) Printf = e in cc) xs
    of_binding (Local slot shape) xs = no_function (Local slot shape) tt (λ e. let q : ◌≡◌ {A = Binding} (Local slot shape) Printf = e in cc) xs

    by_meaning : (m : Option Binding) → meaning env at ≡ m → (xs : Terms) → Finds (call_faults at m (given env xs)) (λ v. CallBreaks env at xs v)
    by_meaning None e xs =
        finds_same (λ vs. fault at 20 (text_faults (given env xs) vs)) _ (λ v. CallBreaks env at xs v)
        (finds_both (text_faults (given env xs)) (fault at 20) _ _ (texts xs) (finds_fault at 20))
        (λ v h. elim h [
          | inl q ↦ CallBreaks.text_handed (λ h. not_bound env at Printf h e) q
          | inr g ↦ subst (CallBreaks env at xs) (sym g)
              (CallBreaks.undeclared u)
        ]) only
      where
        u : IsUnbound (env.word at) env.scopes
        u = unbound_of (env.word at) env.scopes e

        only : (v : Fault) → CallBreaks env at xs v → HasText env xs v ⊎ (v ≡ broken at 20)
        only v (CallBreaks.undeclared u) = inr refl
        only v (CallBreaks.called b h c) = absurd (not_bound env at b h e)
        only v (CallBreaks.text_handed n h) = inl h
    by_meaning (Some c) e xs = finds_same (call_faults at (Some c) (given env xs)) _ (λ v. CallBreaks env at xs v) (of_binding c xs) there only
      where
        bound : IsBoundTo (env.word at) c env.scopes
        bound = bound_of (env.word at) c env.scopes e

        there : (v : Fault) → Handed c xs v → CallBreaks env at xs v
        there v (inl k) = CallBreaks.called c bound k
        there v (inr q) = CallBreaks.text_handed (λ h. q.0 (sym (same_bound env at Printf c h e))) q.1

        only : (v : Fault) → CallBreaks env at xs v → Handed c xs v
        only v (CallBreaks.undeclared u) = absurd (not_both env at c u e)
        only v (CallBreaks.called b h k) = inl (subst (λ z. CalledBreaks env at z xs v) (same_bound env at b c h e) k)
        only v (CallBreaks.text_handed n h) = inr (λ g. n (subst (λ z. IsBoundTo (env.word at) z env.scopes) g bound), h)

    pub call : (xs : Terms) → Finds (call_faults at (meaning env at) (given env xs)) (λ v. CallBreaks env at xs v)
    call xs = by_meaning (meaning env at) refl xs
