-- Calls: arguments without a violation are those that the function takes.
use Rattle.std.proofs.Common.{inl, inr, ℕ, Bool, true, false, not, cond, ◌&&◌, ◌||◌, ◌==◌, List, [], ◌∷◌, ◌++◌, map, length, Option, Some, None, is_some, option_map, ◌≡◌, refl, sym, ap, subst, ◌∙◌, true≢false, arith}
use Rattle.std.specs.Prelude.{◌⊎◌, IsSome}
use Rattle.std.proofs.lemmas.Bool.{eqb-true, and_from}
use Rattle.c_types.specs.declared.kinds.IntKind.{IntKind}
use Rattle.c_types.specs.declared.kinds.IntKind.TheVariants.{Char, UChar, Int, UInt, Long, ULong}
use Rattle.c_tree.specs.declared.tree.Slot.{Slot}
use Rattle.c_tree.specs.declared.tree.Expression.{Expression}
use Rattle.c_tree.specs.declared.tree.Node as node
use Rattle.c_tree.specs.ExpressionTrees.{ExpressionTree, Arguments, Typed, Text, Array, Call, NoArgument, Argument, arguments, expression_tree}
use Rattle.c_tree.specs.Constants.{kind_of}
use Rattle.c_tree.proofs.ExpressionLaws.{node-Text, node-Array, node-Call}
use Rattle.c_kinds.specs.declared.binding.Want.{Want}
use Rattle.c_kinds.specs.declared.binding.Want.TheVariants as want
use Rattle.c_kinds.specs.declared.binding.Signature.{Signature}
use Rattle.c_kinds.specs.declared.binding.Binding.{Binding}
use Rattle.c_kinds.specs.declared.binding.Binding.TheVariants as B
use Rattle.c_kinds.specs.declared.typed.Typed as typed
use Rattle.c_kinds.specs.declared.typed.Typed.TheVariants as T
use Rattle.c_kinds.specs.declared.typed.Given.{Given}
use Rattle.c_kinds.specs.declared.typed.Valued.{Valued}
use Rattle.c_kinds.specs.declared.typed.ArrayName.{ArrayName}
use Rattle.c_kinds.specs.Marks as Marks
use Rattle.c_kinds.specs.Scopes.{Faults, fault}
use Rattle.c_kinds.specs.Values.{expression_of, expression, of_result}
use Rattle.c_kinds.specs.Calls.{same_kind, same_truth, array_expression, fits, each_fits, all_fit, handed, all_handed, call, text_of, printing, formatted, printf, called, array_fault, argument_fault, argument_faults, wanted_faults, printing_faults, format_faults, printf_faults, call_faults, text_faults}
use Rattle.c_resolved_defs.specs.Within.{Each, ArgumentsWithin}
use Rattle.c_resolved_defs.specs.Names as Tree
use Rattle.c_resolved_defs.specs.Names.{Names, Callee, callee}
use Rattle.c_resolved_defs.specs.Kinds.{HasValue, KeepsConst, IsArrayFor, FitsCells, ArgumentFits, ArgumentsFit, is_wide, wanted, ValuesFit, FormatFits, CallFits}
use Rattle.c_resolved_defs.specs.Scopes as Scopes
use Rattle.c_resolved_defs.specs.Scopes.{Scope, AFunction}
use Rattle.c_resolving_laws.proofs.Lists.{none_left, clean_if, not_true, the_some, is_some_and}
use Rattle.c_resolving_laws.proofs.Known.{WantAgrees, WantsAgree, CalleeAgrees}
use Rattle.c_resolving_laws.proofs.Values.{expression_rolls, value_rolls, void_rolls, IsSound, Sound, Operand, SoundTyped, SoundArray, SoundValue, KnownIf}
use Rattle.c_resolving_laws.proofs.Formats.{sizes, wanted_same}

pub same_kind_is : (j k : IntKind) → same_kind j k ≡ true → j ≡ k
same_kind_is Char Char e = refl
same_kind_is UChar UChar e = refl
same_kind_is Int Int e = refl
same_kind_is UInt UInt e = refl
same_kind_is Long Long e = refl
same_kind_is ULong ULong e = refl
same_kind_is _ _ e = absurd (true≢false (sym e))

pub same_truth_is : (a b : Bool) → same_truth a b ≡ true → a ≡ b
same_truth_is true true e = refl
same_truth_is true false e = absurd (true≢false (sym e))
same_truth_is false true e = absurd (true≢false (sym e))
same_truth_is false false e = refl

wide_same : (k : IntKind) → Marks.is_wide k ≡ is_wide (Some k)
wide_same Char = refl
wide_same UChar = refl
wide_same Int = refl
wide_same UInt = refl
wide_same Long = refl
wide_same ULong = refl

fits_number : (c : Option ℕ) (P Q : Type 0) → c ≡ None → P → FitsCells c P Q
fits_number None P Q e h = h
fits_number (Some k) P Q e h = absurd (true≢false (ap is_some e))

fits_array : (c : Option ℕ) (P Q : Type 0) → IsSome c → Q → FitsCells c P Q
fits_array None P Q e h = absurd (true≢false (sym e))
fits_array (Some k) P Q e h = h

-- const or not: an array keeps its const
keeps : (given wanted : Bool) → (given && not wanted) ≡ false → ((wanted ≡ true) ⊎ (given ≡ false)) × ((wanted || not given) ≡ true)
keeps given true e = (inl refl, refl)
keeps true false e = absurd (true≢false e)
keeps false false e = (inr refl, refl)

module _ (n : Names) (ss : List Scope) where
  -- a value for a conversion
  abbrev Suits : Want → ExpressionTree → Type 0
  Suits (want.Sized wide) x = HasValue x × (is_wide (kind_of x) ≡ wide)
  Suits _ x = Unit {0}

  -- an argument that is what is wanted
  record GoodArgument (w : Want) (x : typed.Typed) : Type 0 where
    e : Expression
    passed : handed x ≡ e ∷ []
    fitting : fits w x ≡ true
    sound : Sound n ss (expression_tree e)
    agrees : (defined : Bool) (s : Slot) → WantAgrees defined w s → ArgumentFits n defined s (expression_tree e)
    suits : Suits w (expression_tree e)

  value_of_tree : (v : Valued) → SoundValue n ss v → HasValue (expression_tree (expression v))
  value_of_tree v h = subst HasValue (sym (value_rolls v)) (record { operand = h.1; kind = tt })

  array_rolls : (a : ArrayName) → expression_tree (array_expression a) ≡ Typed (Some a.kind) (Array a.home)
  array_rolls a = expression_rolls (record { kind = Some a.kind; node = node.Array a.home }) ∙ ap (Typed (Some a.kind)) (node-Array a.home)

  -- an array that is some variable's
  array_is : (a : ArrayName) → SoundArray n ss a → Sound n ss (expression_tree (array_expression a))
  array_is a h =
      let s = the_some _ (Tree.variable n a.home) h.shaped in
      subst (Sound n ss) (sym (array_rolls a)) ((is_some_and _ (Tree.variable n a.home) s.0 s.1 (s.2.array, ap Some (sym s.2.kind)), tt, h.bound), tt)

  array_for : (a : ArrayName) (defined : Bool) (s : Slot) → SoundArray n ss a → defined ≡ true → s.kind ≡ a.kind →
      ((s.constant ≡ true) ⊎ (a.constant ≡ false)) → IsArrayFor n defined s (Typed (Some a.kind) (Array a.home))
  array_for a defined s h d k c =
      let v = the_some _ (Tree.variable n a.home) h.shaped in
      (d, is_some_and _ (Tree.variable n a.home) v.0 v.1 (v.2.kind ∙ sym k, keeps_const v.0 v.2.constant c))
    where
      keeps_const : (v : Slot) → v.constant ≡ a.constant → ((s.constant ≡ true) ⊎ (a.constant ≡ false)) → KeepsConst s v
      keeps_const v e (inl f) = inl f
      keeps_const v e (inr f) = inr (e ∙ f)

  -- ---- one argument

  array_argument : (kind : IntKind) (constant external : Bool) (first : ℕ) (a : ArrayName) (vs : Faults) →
      array_fault kind constant external first a vs ≡ [] → SoundArray n ss a
      → (vs ≡ []) × GoodArgument (want.Array kind constant external) (T.Array a)
  array_argument kind constant external first a vs e h =
      let x = clean_if external first 38 _ e in
      let c = clean_if (a.constant && not constant) a.token 26 _ x.0 in
      let k = clean_if (not (same_kind kind a.kind)) first 22 vs c.0 in
      let same = not_true (same_kind kind a.kind) k.1 in
      let keep = keeps a.constant constant c.1 in (
        k.0,
        record {
          e = array_expression a;
          passed = refl;
          fitting = and_from (same_kind kind a.kind && (constant || not a.constant)) (not external)
              (and_from (same_kind kind a.kind) (constant || not a.constant) same keep.1) (ap not x.1);
          sound = array_is a h;
          agrees = λ defined s w.
              fits_array s.cells _ _ w.2
              (subst (IsArrayFor n defined s) (sym (array_rolls a))
              (array_for a defined s h (inside external defined w.3 x.1) (w.0 ∙ same_kind_is kind a.kind same) (at_parameter s w.1 keep.0)));
          suits = tt;
        },
      )
    where
      inside : (external defined : Bool) → external ≡ not defined → external ≡ false → defined ≡ true
      inside external true e f = refl
      inside external false e f = absurd (true≢false (sym e ∙ f))

      at_parameter : (s : Slot) → s.constant ≡ constant → ((constant ≡ true) ⊎ (a.constant ≡ false)) → ((s.constant ≡ true) ⊎ (a.constant ≡ false))
      at_parameter s e (inl f) = inl (e ∙ f)
      at_parameter s e (inr f) = inr f

  value_sound : (v : Valued) → SoundValue n ss v → Sound n ss (expression_tree (expression v))
  value_sound v h = subst (Sound n ss) (sym (value_rolls v)) h.0

  argument_clean : (w : Want) (first : ℕ) (x : typed.Typed) (vs : Faults) → argument_fault w first x vs ≡ [] → SoundTyped n ss x → (vs ≡ []) × GoodArgument w x
  argument_clean (want.Number kind constant) first (T.Value v) vs e h = (
    e,
    record {
      e = expression v;
      passed = refl;
      fitting = refl;
      sound = value_sound v h;
      agrees = λ defined s w. fits_number s.cells _ _ w.2 (value_of_tree v h);
      suits = tt;
    },
  )
  argument_clean (want.Number kind constant) first (T.Void a) vs e h = absurd (none_left _ vs e)
  argument_clean (want.Number kind constant) first (T.Text bytes) vs e h = absurd (none_left _ vs e)
  argument_clean (want.Number kind constant) first (T.Array a) vs e h = absurd (none_left _ vs e)
  argument_clean (want.Array kind constant external) first (T.Value v) vs e h = absurd (none_left _ vs e)
  argument_clean (want.Array kind constant external) first (T.Void a) vs e h = absurd (none_left _ vs e)
  argument_clean (want.Array kind constant external) first (T.Text bytes) vs e h = absurd (none_left _ vs e)
  argument_clean (want.Array kind constant external) first (T.Array a) vs e h = array_argument kind constant external first a vs e h
  argument_clean (want.Sized wide) first (T.Value v) vs e h =
      let c = clean_if (not (same_truth wide (Marks.is_wide v.kind))) first 40 vs e in
      let same = not_true (same_truth wide (Marks.is_wide v.kind)) c.1 in (
        c.0,
        record {
          e = expression v;
          passed = refl;
          fitting = same;
          sound = value_sound v h;
          agrees = λ defined s w. absurd w;
          suits = subst (Suits (want.Sized wide)) (sym (value_rolls v))
              (record { operand = h.1; kind = tt }, sym (same_truth_is wide (Marks.is_wide v.kind) same ∙ wide_same v.kind));
        },
      )
  argument_clean (want.Sized wide) first (T.Void a) vs e h = absurd (none_left _ vs e)
  argument_clean (want.Sized wide) first (T.Text bytes) vs e h = absurd (none_left _ vs e)
  argument_clean (want.Sized wide) first (T.Array a) vs e h = absurd (none_left _ vs e)
  argument_clean w first T.Wrong vs e h = absurd h

  -- ---- all arguments

  abbrev tree_list : List Expression → Arguments
  tree_list es = arguments (map expression_tree es)

  record GoodArguments (ws : List Want) (gs : List Given) : Type 0 where
    fitting : each_fits ws gs ≡ true
    within : ArgumentsWithin (IsSound n ss) (tree_list (all_handed gs))
    agrees : (defined : Bool) (ps : List Slot) → WantsAgree defined ws ps → ArgumentsFit n defined ps (tree_list (all_handed gs))
    suits : (bs : List Bool) → ws ≡ sizes bs → ValuesFit bs (tree_list (all_handed gs))

  abbrev first_want : List Want → Want
  first_want [] = want.Sized false
  first_want (w ∷ ws) = w

  abbrev later_wants : List Want → List Want
  later_wants [] = []
  later_wants (w ∷ ws) = ws

  abbrev has_want : List Want → Bool
  has_want [] = false
  has_want (w ∷ ws) = true

  more_arguments : (w : Want) (ws : List Want) (g : Given) (gs : List Given) → GoodArgument w g.typed → GoodArguments ws gs → GoodArguments (w ∷ ws) (g ∷ gs)
  more_arguments w ws g gs a r =
      let p = sym (ap (λ es. tree_list (es ++ all_handed gs)) a.passed) in
      record {
        fitting = and_from (fits w g.typed) (each_fits ws gs) a.fitting r.fitting;
        within = subst (ArgumentsWithin (IsSound n ss)) p (a.sound, r.within);
        agrees = λ defined ps h. parameters defined ps h p;
        suits = λ bs e. conversions bs e p;
      }
    where
      parameters : (defined : Bool) (ps : List Slot) → WantsAgree defined (w ∷ ws) ps →
          Argument (expression_tree a.e) (tree_list (all_handed gs)) ≡ tree_list (all_handed (g ∷ gs)) →
          ArgumentsFit n defined ps (tree_list (all_handed (g ∷ gs)))
      parameters defined [] h p = absurd h
      parameters defined (s ∷ ps) h p = subst (ArgumentsFit n defined (s ∷ ps)) p (a.agrees defined s h.0, r.agrees defined ps h.1)

      conversions : (bs : List Bool) → w ∷ ws ≡ sizes bs → Argument (expression_tree a.e) (tree_list (all_handed gs)) ≡ tree_list
          (all_handed (g ∷ gs)) → ValuesFit bs (tree_list (all_handed (g ∷ gs)))
      conversions [] e p = absurd (true≢false (ap has_want e))
      conversions (b ∷ bs) e p =
          let k = subst (λ v. Suits v (expression_tree a.e)) (ap first_want e) a.suits in
          subst (ValuesFit (b ∷ bs)) p (k.0, k.1, r.suits bs (ap later_wants e))

  arguments_clean : (ws : List Want) (gs : List Given) (vs : Faults) → length ws ≡ length gs → argument_faults ws gs vs ≡ [] →
      Each (λ (g : Given). SoundTyped n ss g.typed) gs
      → (vs ≡ []) × GoodArguments ws gs
  arguments_clean [] [] vs l e h = (e, record { fitting = refl; within = tt; agrees = λ defined ps a. none_agree defined ps a; suits = λ bs a. none_suit bs a })
    where
      none_agree : (defined : Bool) (ps : List Slot) → WantsAgree defined [] ps → ArgumentsFit n defined ps NoArgument
      none_agree defined [] a = tt
      none_agree defined (p ∷ ps) a = absurd a

      none_suit : (bs : List Bool) → [] ≡ sizes bs → ValuesFit bs NoArgument
      none_suit [] a = tt
      none_suit (b ∷ bs) a = absurd (true≢false (sym (ap has_want a)))
  arguments_clean [] (g ∷ gs) vs l e h = absurd (omega arith)
  arguments_clean (w ∷ ws) [] vs l e h = absurd (omega arith)
  arguments_clean (w ∷ ws) (g ∷ gs) vs l e h =
      let r = arguments_clean ws gs (argument_fault w g.first g.typed vs) (omega arith) e h.1 in
      let a = argument_clean w g.first g.typed vs r.0 h.0 in
      (a.0, more_arguments w ws g gs a.1 r.1)

  -- as many as are wanted
  wanted_clean : (at reason : ℕ) (ws : List Want) (gs : List Given) (vs : Faults) → wanted_faults at reason ws gs vs ≡ [] →
      Each (λ (g : Given). SoundTyped n ss g.typed) gs
      → (vs ≡ []) × (all_fit ws gs ≡ true) × GoodArguments ws gs
  wanted_clean at reason ws gs vs e h = by (length ws == length gs) refl e
    where
      by : (b : Bool) → (length ws == length gs) ≡ b → cond b (argument_faults ws gs vs) (fault at reason (text_faults gs vs)) ≡ [] →
          (vs ≡ []) × (all_fit ws gs ≡ true) × GoodArguments ws gs
      by true l e = let r = arguments_clean ws gs vs (eqb-true (length ws) (length gs) l) e h in
          (r.0, and_from (length ws == length gs) (each_fits ws gs) l r.1.fitting, r.1)
      by false l e = absurd (none_left _ _ e)

  -- ---- calls

  of_result_sound : (result : Option IntKind) (m : List ℕ) (es : List Expression) → Sound n ss (Typed result (Call m (tree_list es))) →
      SoundTyped n ss (of_result result (node.Call m es))
  of_result_sound (Some k) m es h = subst (λ x. Operand n ss (Typed (Some k) x)) (sym (node-Call m es)) (h, tt)
  of_result_sound None m es h = subst (λ x. Operand n ss (Typed None x)) (sym (node-Call m es)) (h, tt)

  -- a function with a signature
  plain_fits : (s : Signature) (xs : Arguments) (c : Callee) → CalleeAgrees s c →
      ((defined : Bool) (ps : List Slot) → WantsAgree defined s.wants ps → ArgumentsFit n defined ps xs) → CallFits n s.result c xs
  plain_fits s xs (Tree.Plain c) a f = (sym a.0, f c.defined c.parameters a.1)
  plain_fits s xs Tree.Printf a f = absurd a
  plain_fits s xs Tree.Unknown a f = absurd a

  call_sound : (result : Option IntKind) (m : List ℕ) (front : List Expression) (ws : List Want) (gs : List Given) → all_fit ws gs ≡ true
      → Sound n ss (Typed result (Call m (tree_list (front ++ all_handed gs)))) → SoundTyped n ss (call result m front ws gs)
  call_sound result m front ws gs e h = subst (λ b. SoundTyped n ss (cond b (of_result result (node.Call m (front ++ all_handed gs))) T.Wrong))
      (sym e) (of_result_sound result m (front ++ all_handed gs) h)

  text_rolls : (bytes : List ℕ) → expression_tree (expression_of None (node.Text bytes)) ≡ Typed None (Text bytes)
  text_rolls bytes = void_rolls (node.Text bytes) ∙ ap (Typed None) (node-Text bytes)

  printing_clean : (at : ℕ) (m bytes : List ℕ) (gs : List Given) (vs : Faults) (o : Option (List Bool)) → wanted bytes ≡ o →
      printing_faults at (option_map sizes o) gs vs ≡ [] → Each (λ (g : Given). SoundTyped n ss g.typed) gs
      → (callee n m ≡ Tree.Printf) × (Scopes.look_up ss m ≡ Some AFunction) → (vs ≡ []) × SoundTyped n ss (printing m bytes (option_map sizes o) gs)
  printing_clean at m bytes gs vs None w e h k = absurd (none_left _ _ e)
  printing_clean at m bytes gs vs (Some bs) w e h k =
      let r = wanted_clean at 40 (sizes bs) gs vs e h in
      let es = all_handed gs in
      let text = expression_of None (node.Text bytes) in
      let fit = subst (λ x. FormatFits (Argument x (tree_list es))) (sym (text_rolls bytes))
      (is_some_and (λ ws. ValuesFit ws (tree_list es)) (wanted bytes) bs w (r.2.suits bs refl)) in
      let sound = subst (Sound n ss) (sym (text_rolls bytes)) ((refl, tt, tt), tt) in (
        r.0,
        call_sound (Some Int) m (text ∷ []) (sizes bs) gs r.1
            ((subst (λ c. CallFits n (Some Int) c (Argument (expression_tree text) (tree_list es))) (sym k.0) (refl, fit), tt, k.1), (sound, r.2.within)),
      )

  printf_clean : (at : ℕ) (m : List ℕ) (gs : List Given) (vs : Faults) → printf_faults at gs vs ≡ [] → Each (λ (g : Given). SoundTyped n ss g.typed) gs
      → (callee n m ≡ Tree.Printf) × (Scopes.look_up ss m ≡ Some AFunction) → (vs ≡ []) × SoundTyped n ss (printf m gs)
  printf_clean at m [] vs e h k = absurd (none_left _ vs e)
  printf_clean at m (g ∷ gs) vs e h k = by (text_of g.typed) e
    where
      by : (o : Option (List ℕ)) → format_faults at o gs vs ≡ [] → (vs ≡ []) × SoundTyped n ss (formatted m o gs)
      by None e = absurd (none_left _ _ e)
      by (Some bytes) e =
          let w = wanted_same bytes in
          subst (λ o. (vs ≡ []) × SoundTyped n ss (printing m bytes o gs)) (sym w)
          (printing_clean at m bytes gs vs (wanted bytes) refl (subst (λ o. printing_faults at o gs vs ≡ []) w e) h.1 k)

  pub called_sound : (at : ℕ) (m : List ℕ) (o : Option Binding) (gs : List Given) (vs : Faults) → call_faults at o gs vs ≡ [] →
      Each (λ (g : Given). SoundTyped n ss g.typed) gs → KnownIf n ss m o
      → (vs ≡ []) × SoundTyped n ss (called m o gs)
  called_sound at m None gs vs e h k = absurd (none_left _ _ e)
  called_sound at m (Some (B.Function s)) gs vs e h k =
      let r = wanted_clean at 23 s.wants gs vs e h in
      (r.0, call_sound s.result m [] s.wants gs r.1 ((plain_fits s (tree_list (all_handed gs)) (callee n m) k.0 r.2.agrees, tt, k.1), r.2.within))
  called_sound at m (Some B.Printf) gs vs e h k = printf_clean at m gs vs e h k
  called_sound at m (Some (B.Constant v)) gs vs e h k = absurd (none_left _ _ e)
  called_sound at m (Some (B.Global shape)) gs vs e h k = absurd (none_left _ _ e)
  called_sound at m (Some (B.Local k2 shape)) gs vs e h k = absurd (none_left _ _ e)
