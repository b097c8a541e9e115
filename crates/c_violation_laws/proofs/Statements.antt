-- What a walk finds in statements.
use Rattle.std.proofs.Common.{◌≡◌, ◌⊎◌, inl, inr, ℕ, Bool, true, false, not, ◌||◌, List, [], ◌∷◌, ◌++◌, Option, Some, None, option_map, refl, sym, ap, subst, ◌∙◌, true≢false}
use Rattle.std.proofs.lemmas.Bool.{not-true}
use Rattle.c_types.specs.declared.kinds.IntKind.{IntKind}
use Rattle.c_grammar.specs.Terms.{Term, first_of}
use Rattle.c_grammar.specs.Items.{Label, Named, Case, Default, Declaration, Start, NoStart, StartValue, StartNames, Item, Declares, States, Plain, From, Statement, Null, Evaluate, If, IfElse, While, DoWhile, For, Switch, Block, Goto, Break, Continue, Return, Unread, Body, Braces, Lone, Items, NoItem, Then, items_in, item_first, stated_first}
use Rattle.c_kinds.specs.declared.typed.Fault.{Fault}
use Rattle.c_kinds.specs.Scopes.{Faults, fault, fault_if}
use Rattle.c_kinds.specs.Typing.{typed, faults, constant_faults}
use Rattle.c_kinds.specs.Values.{value_of}
use Rattle.c_statements.specs.declared.anchors.Anchor.{Anchor}
use Rattle.c_statements.specs.Context.{Context, Walk, env_at, enter, Around, in_loop, in_switch, has_label}
use Rattle.c_statements.specs.Declarations.{kinded, value_faults}
use Rattle.c_statements.specs.Labels.{has_case, numbers, label_faults, labels_faults}
use Rattle.c_statements.specs.Cases.{switch_faults}
use Rattle.c_statements.specs.Cases as walked
use Rattle.c_statements.specs.Statements.{behind_start, behind_item, behind_plain, behind_body, declared_by, is_null, begins, is_element}
use Rattle.c_statements.specs.Violations.{dropped_faults, optional_faults, declaration_faults, start_faults, return_faults, item_faults, plain_faults, statement_faults, body_faults, list_faults, switch_body_faults, outside_faults, outside_fault}
use Rattle.c_reading_defs.specs.Declared.{DeclarationBreaks}
use Rattle.c_reading_defs.specs.Expressions.{Role, NeedsValue, NeedsConstant, MayBeVoid, IsJudgedElsewhere, ExpressionBreaks}
use Rattle.c_reading_defs.specs.Variables.{name_tokens, start_variables, item_variables, plain_variables, statement_variables, body_variables, list_variables}
use Rattle.c_reading_defs.specs.Scopes.{scopes_at}
use Rattle.c_reading_defs.specs.Places.{Place, declared as declares, item_identifiers, list_identifiers, start_identifiers, within, within_for, within_loop, within_switch}
use Rattle.c_reading_defs.specs.Places as places
use Rattle.c_reading_defs.specs.Labels.{InFunction, each_once}
use Rattle.c_reading_defs.specs.Statements.{LabelBreaks, LabelsBreak, StatementBreaks, returned, OptionBreaks, StartBreaks, ItemBreaks, PlainBreaks, InStatement, BodyBreaks, ListBreaks}
use Rattle.c_reading_defs.specs.Switches.{body_entries, EntriesBreak, IsLost}
use Rattle.c_reading_defs.specs.Violations.{broken}
use Rattle.c_violation_laws.specs.Finds.{Finds}
use Rattle.c_violation_laws.proofs.Finding.{Rule, finds_none, finds_both, finds_same, finds_as, finds_nothing, finds_fault, finds_if, finds_one}
use Rattle.c_violation_laws.proofs.Rising.{Apart}
use Rattle.c_violation_laws.proofs.Marks.{each_marks, term_marks, option_marks, declaration_marks, label_marks, start_marks, item_marks, plain_marks, statement_marks, body_marks, list_marks}
use Rattle.c_violation_laws.proofs.Standing.{AreMaps, Stands, StandsIn, numbered_grouped, stands_at, stands_first, stands_behind, stands_before, stands_in_loop, stands_in_switch, stands_stated, LabelSees, LabelsSee, labels_see, OptionSees, option_sees, stands_braces, stands_lone, stands_for, stands_body, stands_start, stands_item, stands_rest}
use Rattle.c_violation_laws.proofs.AlikeTerms.{typed_alike}
use Rattle.c_violation_laws.proofs.Declared.{value_at, dropped_at, constant_at, any_at, declarators}
use Rattle.c_violation_laws.proofs.Entries.{body as entries_alike, switch_entries}
use Rattle.c_violation_laws.proofs.WrittenLabels.{label_known, known_label}
use Rattle.c_violation_laws.proofs.CallFaults.{not_true}

neither : (a b : Bool) → not (a || b) ≡ true → (a ≡ false) × (b ≡ false)
neither true b e = absurd (true≢false (sym e))
neither false b e = (refl, not-true b e)

neither_back : (a b : Bool) → a ≡ false → b ≡ false → not (a || b) ≡ true
neither_back a b e g = ap (λ x. not (x || b)) e ∙ ap not g

-- walks, and the rule of the statement that has them
in_front : (g : Faults → Faults) (P Q : Rule) → ((v : Fault) → P v → ⊥) → Finds g Q → Finds g (λ v. P v ⊎ Q v)
in_front g P Q never h = finds_same g Q (λ v. P v ⊎ Q v) h (λ v q. inr q) (λ v k. elim k [ inl p ↦ absurd (never v p) | inr q ↦ q ])

alone : (g : Faults → Faults) (P : Rule) → Finds g P → Finds g (λ v. P v ⊎ ⊥)
alone g P h = finds_same g P (λ v. P v ⊎ ⊥) h (λ v p. inl p) (λ v k. elim k [ inl p ↦ p | inr q ↦ absurd q ])

module _ (word : ℕ → List ℕ) (notes : Anchor → List (List ℕ)) (names : List (List ℕ)) (result : Option IntKind) (vs : List ℕ) (apart : Apart vs) where
  abbrev ctx : Context
  ctx = record { word = word; notes = notes; labels = numbers names; result = result }

  abbrev f : InFunction
  f = record { word = word; notes = notes; labels = each_once names; variables = vs; result = result }

  -- ---- parts

  module _ (w : Walk) (p : Place) where
    -- the maps find what is known at the first token
    abbrev Maps : Term → Type 0
    Maps t = AreMaps w.scopes (scopes_at p.scopes (first_of t))

    values : (t : Term) → Maps t → Finds (value_faults (env_at ctx w) t) (λ v. ExpressionBreaks (places.names f p t) NeedsValue t v)
    values t s = value_at word w.scopes (scopes_at p.scopes (first_of t)) s t

    effects : (t : Term) → Maps t → Finds (dropped_faults (env_at ctx w) t) (λ v. ExpressionBreaks (places.names f p t) MayBeVoid t v)
    effects t s = dropped_at word w.scopes (scopes_at p.scopes (first_of t)) s t

    optional : (k : Term → Faults → Faults) (role : Role) → ((t : Term) → Maps t →
        Finds (k t) (λ v. ExpressionBreaks (places.names f p t) role t v)) → (o : Option Term) → OptionSees w p o
        → Finds (optional_faults k o) (λ v. OptionBreaks (places.names f p) role o v)
    optional k role h None s = finds_none
    optional k role h (Some t) s = h t s

  declaration : (d : Declaration) (w : Walk) (p : Place) (rest : List ℕ) →
      StandsIn vs w p (declares f d) (declaration_marks d) (name_tokens d.names ++ rest) →
      Finds (declaration_faults ctx d w) (λ v. DeclarationBreaks typed f p d v)
  declaration d w p rest s = declarators f apart (kinded word d) d.names w p rest s

  starts : (start : Start) (w : Walk) (p : Place) (rest : List ℕ) → StandsIn vs w p (start_identifiers f start) (start_marks start)
      (start_variables start ++ rest) → Finds (start_faults ctx start w) (λ v. StartBreaks typed f p start v)
  starts NoStart w p rest s = finds_none
  starts (StartValue t) w p rest s = effects w p t (stands_at vs w p t [] rest (stands_stated vs w p (term_marks t) rest s))
  starts (StartNames d) w p rest s = declaration d w p rest s

  label : (around : Around) (w : Walk) (p : Place) (l : Label) → p.around ≡ around → LabelSees w p l →
      Finds (label_faults (env_at ctx w) around.switch l) (λ v. LabelBreaks (places.names f p) p.around l v)
  label around w p (Named at after) e s = finds_nothing (λ v. LabelBreaks (places.names f p) p.around (Named at after) v) (λ v h. elim h [ ])
  label around w p (Default at after) e s =
      finds_same (fault_if (not around.switch) at 29) _ (λ v. LabelBreaks (places.names f p) p.around (Default at after) v) (finds_if (not around.switch) at 29)
      (λ v q. subst (LabelBreaks (places.names f p) p.around (Default at after)) (sym q.1)
      (LabelBreaks.default_outside (ap (λ a. a.switch) e ∙ not-true around.switch q.0))) fro
    where
      fro : (v : Fault) → LabelBreaks (places.names f p) p.around (Default at after) v → (not around.switch ≡ true) × (v ≡ broken at 29)
      fro v (LabelBreaks.default_outside g) = (ap not (ap (λ a. a.switch) (sym e) ∙ g), refl)
  label around w p (Case at after t) e s =
      finds_same (λ vs'. constant_faults (env_at ctx w) t (fault_if (not around.switch) at 29 vs'))
      _ (λ v. LabelBreaks (places.names f p) p.around (Case at after t) v)
      (finds_both (fault_if (not around.switch) at 29) (constant_faults (env_at ctx w) t) _ _ (finds_if (not around.switch) at 29)
      (constant_at word w.scopes (scopes_at p.scopes (first_of t)) s t)) to fro
    where
      to : (v : Fault) → ((not around.switch ≡ true) × (v ≡ broken at 29)) ⊎ ExpressionBreaks (places.names f p t) NeedsConstant t v →
          LabelBreaks (places.names f p) p.around (Case at after t) v
      to v (inl q) = subst (LabelBreaks (places.names f p) p.around (Case at after t)) (sym q.1)
          (LabelBreaks.case_outside (ap (λ a. a.switch) e ∙ not-true around.switch q.0))
      to v (inr q) = LabelBreaks.bad_case q

      fro : (v : Fault) → LabelBreaks (places.names f p) p.around (Case at after t) v →
          ((not around.switch ≡ true) × (v ≡ broken at 29)) ⊎ ExpressionBreaks (places.names f p t) NeedsConstant t v
      fro v (LabelBreaks.case_outside g) = inl (ap not (ap (λ a. a.switch) (sym e) ∙ g), refl)
      fro v (LabelBreaks.bad_case h) = inr h

  labels : (around : Around) (w : Walk) (p : Place) (ls : List Label) → p.around ≡ around → LabelsSee w p ls →
      Finds (labels_faults (env_at ctx w) around.switch ls) (λ v. LabelsBreak (places.names f p) p.around ls v)
  labels around w p [] e s = finds_none
  labels around w p (l ∷ ls) e s = finds_both (label_faults (env_at ctx w) around.switch l) (labels_faults (env_at ctx w) around.switch ls)
      _ _ (label around w p l e s.0) (labels around w p ls e s.1)

  -- ---- what is found at one statement

  abbrev Own : Place → ℕ → Statement → Rule
  Own p first x v = StatementBreaks f p.around first x v

  breaks : (around : Around) (first : ℕ) (p : Place) → p.around ≡ around →
      Finds (fault_if (not (around.loop || around.switch)) first 27) (λ v. Own p first Break v)
  breaks around first p s = finds_same (fault_if (not (around.loop || around.switch)) first 27) _ (λ v. Own p first Break v)
      (finds_if (not (around.loop || around.switch)) first 27) to fro
    where
      to : (v : Fault) → (not (around.loop || around.switch) ≡ true) × (v ≡ broken first 27) → StatementBreaks f p.around first Break v
      to v q =
          let n = neither around.loop around.switch q.0 in
          subst (StatementBreaks f p.around first Break) (sym q.1) (StatementBreaks.break_outside (ap (λ a. a.loop) s ∙ n.0) (ap (λ a. a.switch) s ∙ n.1))

      fro : (v : Fault) → StatementBreaks f p.around first Break v → (not (around.loop || around.switch) ≡ true) × (v ≡ broken first 27)
      fro v (StatementBreaks.break_outside e g) = (neither_back around.loop around.switch (ap (λ a. a.loop) (sym s) ∙ e) (ap (λ a. a.switch) (sym s) ∙ g), refl)

  continues : (around : Around) (first : ℕ) (p : Place) → p.around ≡ around → Finds (fault_if (not around.loop) first 28) (λ v. Own p first Continue v)
  continues around first p s = finds_same (fault_if (not around.loop) first 28) _ (λ v. Own p first Continue v) (finds_if (not around.loop) first 28) to fro
    where
      to : (v : Fault) → (not around.loop ≡ true) × (v ≡ broken first 28) → StatementBreaks f p.around first Continue v
      to v q = subst (StatementBreaks f p.around first Continue) (sym q.1) (StatementBreaks.continue_outside (ap (λ a. a.loop) s ∙ not-true around.loop q.0))

      fro : (v : Fault) → StatementBreaks f p.around first Continue v → (not around.loop ≡ true) × (v ≡ broken first 28)
      fro v (StatementBreaks.continue_outside e) = (ap not (ap (λ a. a.loop) (sym s) ∙ e), refl)

  gotos : (first at : ℕ) (p : Place) → Finds (fault_if (not (has_label ctx.labels (word at))) at 33) (λ v. Own p first (Goto at) v)
  gotos first at p = finds_same (fault_if (not (has_label ctx.labels (word at))) at 33) _ (λ v. Own p first (Goto at) v)
      (finds_if (not (has_label ctx.labels (word at))) at 33) to fro
    where
      to : (v : Fault) → (not (has_label (numbers names) (word at)) ≡ true) × (v ≡ broken at 33) → StatementBreaks f p.around first (Goto at) v
      to v q = subst (StatementBreaks f p.around first (Goto at)) (sym q.1)
          (StatementBreaks.unknown_label (λ h. true≢false (sym (known_label names (word at) h) ∙ not-true (has_label (numbers names) (word at)) q.0)))

      fro : (v : Fault) → StatementBreaks f p.around first (Goto at) v → (not (has_label (numbers names) (word at)) ≡ true) × (v ≡ broken at 33)
      fro v (StatementBreaks.unknown_label g) = (not_true (has_label (numbers names) (word at)) (λ e. g (label_known names (word at) e)), refl)

  swapped : (g : Faults → Faults) (P Q : Rule) → Finds g (λ v. P v ⊎ Q v) → Finds g (λ v. Q v ⊎ P v)
  swapped g P Q h = finds_same g (λ v. P v ⊎ Q v) (λ v. Q v ⊎ P v) h (λ v k. elim k [ inl a ↦ inr a | inr b ↦ inl b ])
      (λ v k. elim k [ inl a ↦ inr a | inr b ↦ inl b ])

  module _ (first : ℕ) (w : Walk) (p : Place) where
    some_kind : (k : IntKind) → result ≡ Some k → result ≡ None → ⊥
    some_kind k e g = cc

    no_void : (k : IntKind) (t : Term) → result ≡ Some k → (v : Fault) → StatementBreaks f p.around first (Return (Some t)) v → ⊥
    no_void k t e v (StatementBreaks.value_in_void g) = some_kind k e g

    no_other : result ≡ None → (v : Fault) → StatementBreaks f p.around first (Return None) v → ⊥
    no_other e v (StatementBreaks.no_value k g) = some_kind k g e

    only_none : (v : Fault) → StatementBreaks f p.around first (Return None) v → v ≡ broken first 25
    only_none v (StatementBreaks.no_value k g) = refl

    only_some : (t : Term) (v : Fault) → StatementBreaks f p.around first (Return (Some t)) v → v ≡ broken first 25
    only_some t v (StatementBreaks.value_in_void g) = refl

    by_result : (r : Option IntKind) → result ≡ r → (o : Option Term) → OptionSees w p o →
        Finds (return_faults r (env_at ctx w) first o) (λ v. Own p first (Return o) v ⊎ OptionBreaks (places.names f p) (returned r) o v)
    by_result (Some k) e (Some t) s = in_front (value_faults (env_at ctx w) t) (λ v. Own p first (Return (Some t)) v)
        (λ v. ExpressionBreaks (places.names f p t) NeedsValue t v) (no_void k t e) (values w p t s)
    by_result (Some k) e None s = alone (fault first 25) (λ v. Own p first (Return None) v)
        (finds_one first 25 (λ v. Own p first (Return None) v) (StatementBreaks.no_value k e) only_none)
    by_result None e (Some t) s =
        swapped (λ vs. fault first 25 (faults (env_at ctx w) t vs)) (λ v. ExpressionBreaks (places.names f p t) IsJudgedElsewhere t v)
        (λ v. Own p first (Return (Some t)) v)
        (finds_both (faults (env_at ctx w) t) (fault first 25) _ _ (any_at word w.scopes (scopes_at p.scopes (first_of t)) s t)
        (finds_one first 25 (λ v. Own p first (Return (Some t)) v) (StatementBreaks.value_in_void e) (only_some t)))
    by_result None e None s = in_front (λ vs. vs) (λ v. Own p first (Return None) v) (λ v. ⊥) (no_other e) finds_none

    returns : (o : Option Term) → OptionSees w p o → Finds (return_faults result (env_at ctx w) first o)
        (λ v. Own p first (Return o) v ⊎ OptionBreaks (places.names f p) (returned result) o v)
    returns o s = by_result result refl o s

  -- ---- what stands in a switch before its first section

  abbrev Lost : Item → Items → Rule
  Lost x xs v = ((is_element x ≡ true) × (v ≡ broken (item_first x) 29)) ⊎ IsLost xs v

  lost : (x : Item) (xs : Items) → begins x ≡ false → (v : Fault) → Lost x xs v → IsLost (Then x xs) v
  lost x xs e v (inl q) = subst (IsLost (Then x xs)) (sym q.1) (IsLost.lost e q.0)
  lost x xs e v (inr k) = IsLost.lost_behind e k

  lost_back : (x : Item) (xs : Items) (v : Fault) → IsLost (Then x xs) v → (begins x ≡ false) × Lost x xs v
  lost_back x xs v (IsLost.lost e g) = (e, inl (g, refl))
  lost_back x xs v (IsLost.lost_behind e k) = (e, inr k)

  none_lost : (v : Fault) → IsLost NoItem v → ⊥
  none_lost v h = elim h [ ]

  lost_declaration : (g h : Faults → Faults) (first after : ℕ) (d : Declaration) (xs : Items) (D L : Rule) → Finds g D → Finds h (λ v. L v ⊎ IsLost xs v)
      → Finds (λ vs. h (fault first 29 (g vs))) (λ v. (D v ⊎ L v) ⊎ IsLost (Then (Declares first after d) xs) v)
  lost_declaration g h first after d xs D L a b =
      finds_same (λ vs. h (fault first 29 (g vs))) _ _
      (finds_both g (λ vs. h (fault first 29 vs)) D _ a (finds_both (fault first 29) h _ _ (finds_fault first 29) b))
      to fro
    where
      to : (v : Fault) → D v ⊎ ((v ≡ broken first 29) ⊎ (L v ⊎ IsLost xs v)) → (D v ⊎ L v) ⊎ IsLost (Then (Declares first after d) xs) v
      to v (inl x) = inl (inl x)
      to v (inr (inl e)) = inr (lost (Declares first after d) xs refl v (inl (refl, e)))
      to v (inr (inr (inl l))) = inl (inr l)
      to v (inr (inr (inr k))) = inr (lost (Declares first after d) xs refl v (inr k))

      fro : (v : Fault) → (D v ⊎ L v) ⊎ IsLost (Then (Declares first after d) xs) v → D v ⊎ ((v ≡ broken first 29) ⊎ (L v ⊎ IsLost xs v))
      fro v (inl (inl x)) = inl x
      fro v (inl (inr l)) = inr (inr (inl l))
      fro v (inr h) = elim (lost_back (Declares first after d) xs v h).1 [ inl q ↦ inr (inl q.1) | inr k ↦ inr (inr (inr k)) ]

  lost_statement : (b : Bool) (g h l : Faults → Faults) (ls : List Label) (x : Plain) (xs : Items) (I L : Rule) → has_case ls ≡ b → Finds g I →
      Finds h (λ v. L v ⊎ IsLost xs v) → Finds l L
      → Finds (λ vs. elim b [ true ↦ l (g vs) | false ↦ h (fault_if (not (is_null ls x)) (stated_first ls x) 29 (g vs)) ])
      (λ v. (I v ⊎ L v) ⊎ IsLost (Then (States ls x) xs) v)
  lost_statement true g h l ls x xs I L e a b c =
      finds_same (λ vs. l (g vs)) _ _ (finds_both g l I L a c) (λ v k. inl k)
      (λ v k. elim k [ inl q ↦ q | inr q ↦ absurd (true≢false (sym e ∙ (lost_back (States ls x) xs v q).0)) ])
  lost_statement false g h l ls x xs I L e a b c =
      finds_same (λ vs. h (fault_if (not (is_null ls x)) (stated_first ls x) 29 (g vs))) _ _
      (finds_both g (λ vs. h (fault_if (not (is_null ls x)) (stated_first ls x) 29 vs)) I _ a
      (finds_both (fault_if (not (is_null ls x)) (stated_first ls x) 29) h _ _ (finds_if (not (is_null ls x)) (stated_first ls x) 29) b))
      to fro
    where
      to : (v : Fault) → I v ⊎ (((not (is_null ls x) ≡ true) × (v ≡ broken (stated_first ls x) 29)) ⊎ (L v ⊎ IsLost xs v)) →
          (I v ⊎ L v) ⊎ IsLost (Then (States ls x) xs) v
      to v (inl y) = inl (inl y)
      to v (inr (inl q)) = inr (lost (States ls x) xs e v (inl q))
      to v (inr (inr (inl k))) = inl (inr k)
      to v (inr (inr (inr k))) = inr (lost (States ls x) xs e v (inr k))

      fro : (v : Fault) → (I v ⊎ L v) ⊎ IsLost (Then (States ls x) xs) v →
          I v ⊎ (((not (is_null ls x) ≡ true) × (v ≡ broken (stated_first ls x) 29)) ⊎ (L v ⊎ IsLost xs v))
      fro v (inl (inl y)) = inl y
      fro v (inl (inr k)) = inr (inr (inl k))
      fro v (inr h) = elim (lost_back (States ls x) xs v h).1 [ inl q ↦ inr (inl q) | inr k ↦ inr (inr (inr k)) ]

  -- the one statement of a switch
  lost_alone : (b : Bool) (g : Faults → Faults) (ls : List Label) (x : Plain) (I : Rule) → has_case ls ≡ b → Finds g I
      → Finds (λ vs. fault_if (not (b || is_null ls x)) (stated_first ls x) 29 (g vs)) (λ v. I v ⊎ IsLost (Then (States ls x) NoItem) v)
  lost_alone true g ls x I e a = finds_same g I _ a (λ v i. inl i)
      (λ v k. elim k [ inl i ↦ i | inr q ↦ absurd (true≢false (sym e ∙ (lost_back (States ls x) NoItem v q).0)) ])
  lost_alone false g ls x I e a =
      finds_same (λ vs. fault_if (not (is_null ls x)) (stated_first ls x) 29 (g vs)) _ _
      (finds_both g (fault_if (not (is_null ls x)) (stated_first ls x) 29) I _ a (finds_if (not (is_null ls x)) (stated_first ls x) 29))
      (λ v k. elim k [ inl i ↦ inl i | inr q ↦ inr (lost (States ls x) NoItem e v (inl q)) ]) fro
    where
      fro : (v : Fault) → I v ⊎ IsLost (Then (States ls x) NoItem) v → I v ⊎ ((not (is_null ls x) ≡ true) × (v ≡ broken (stated_first ls x) 29))
      fro v (inl i) = inl i
      fro v (inr h) = elim (lost_back (States ls x) NoItem v h).1 [ inl q ↦ inr q | inr k ↦ absurd (none_lost v k) ]

  lost_one_declaration : (g : Faults → Faults) (first after : ℕ) (d : Declaration) (D : Rule) → Finds g D →
      Finds (λ vs. fault first 29 (g vs)) (λ v. D v ⊎ IsLost (Then (Declares first after d) NoItem) v)
  lost_one_declaration g first after d D a =
      finds_same (λ vs. fault first 29 (g vs)) _ _ (finds_both g (fault first 29) D _ a (finds_fault first 29))
      (λ v k. elim k [ inl x ↦ inl x | inr e ↦ inr (lost (Declares first after d) NoItem refl v (inl (refl, e))) ]) fro
    where
      fro : (v : Fault) → D v ⊎ IsLost (Then (Declares first after d) NoItem) v → D v ⊎ (v ≡ broken first 29)
      fro v (inl x) = inl x
      fro v (inr h) = elim (lost_back (Declares first after d) NoItem v h).1 [ inl q ↦ inr q.1 | inr k ↦ absurd (none_lost v k) ]

  -- the parts of a switch
  parted : (A B C D : Rule) (g : Faults → Faults) → Finds g (λ v. A v ⊎ ((B v ⊎ C v) ⊎ D v)) → Finds g (λ v. A v ⊎ (B v ⊎ (C v ⊎ D v)))
  parted A B C D g h = finds_same g _ _ h to fro
    where
      to : (v : Fault) → A v ⊎ ((B v ⊎ C v) ⊎ D v) → A v ⊎ (B v ⊎ (C v ⊎ D v))
      to v (inl a) = inl a
      to v (inr (inl (inl b))) = inr (inl b)
      to v (inr (inl (inr c))) = inr (inr (inl c))
      to v (inr (inr d)) = inr (inr (inr d))

      fro : (v : Fault) → A v ⊎ (B v ⊎ (C v ⊎ D v)) → A v ⊎ ((B v ⊎ C v) ⊎ D v)
      fro v (inl a) = inl a
      fro v (inr (inl b)) = inr (inl (inl b))
      fro v (inr (inr (inl c))) = inr (inl (inr c))
      fro v (inr (inr (inr d))) = inr (inr d)

  switch_labels : (t : Term) (b : Body) (w : Walk) (p : Place) (rest : List ℕ) → Maps w p t → Stands vs w p (body_marks b) (body_variables b ++ rest)
      → Finds (switch_faults (option_map (λ x. x.kind) (value_of (typed (env_at ctx w) t))) (walked.body_entries ctx b w []))
      (λ v. EntriesBreak (option_map (λ x. x.kind) (value_of (typed (places.names f p t) t))) (body_entries typed f p b) v)
  switch_labels t b w p rest m s =
      finds_as (switch_faults (option_map (λ x. x.kind) (value_of (typed (env_at ctx w) t))) (walked.body_entries ctx b w [])) _ _
      (λ vs' i. switch_faults (option_map (λ x. x.kind) (value_of (typed_alike word w.scopes (scopes_at p.scopes (first_of t)) m t i)))
      (entries_alike ctx (each_once names) vs apart b w p rest s [] i) vs')
      (switch_entries (option_map (λ x. x.kind) (value_of (typed (places.names f p t) t))) (body_entries typed f p b))

  -- ---- statements

  mutual
    pub item : (around : Around) (x : Item) (w : Walk) (p : Place) (rest : List ℕ) → p.around ≡ around →
        StandsIn vs w p (item_identifiers f x) (item_marks x) (item_variables x ++ rest) → Finds (item_faults ctx around x w) (λ v. ItemBreaks typed f p x v)
    item around (Declares first after d) w p rest e s = declaration d w p rest s
    item around (States ls x) w p rest e s =
        let more = plain_variables x ++ rest in
        let g = stands_stated vs w p (each_marks label_marks ls ++ plain_marks x) more s in
        finds_both (labels_faults (env_at ctx w) around.switch ls) (plain_faults ctx around x w)
        _ _ (labels around w p ls e (labels_see vs w p ls (plain_marks x) more g))
        (plain around x w p rest e (stands_behind vs w p (each_marks label_marks ls) (plain_marks x) more g))

    plain : (around : Around) (x : Plain) (w : Walk) (p : Place) (rest : List ℕ) → p.around ≡ around →
        Stands vs w p (plain_marks x) (plain_variables x ++ rest) → Finds (plain_faults ctx around x w) (λ v. PlainBreaks typed f p x v)
    plain around (From first after x) w p rest e s = statement around first x w p rest e s

    statement : (around : Around) (first : ℕ) (x : Statement) (w : Walk) (p : Place) (rest : List ℕ) → p.around ≡ around →
        Stands vs w p (statement_marks x) (statement_variables x ++ rest)
        → Finds (statement_faults ctx around first x w) (λ v. StatementBreaks f p.around first x v ⊎ InStatement typed f p x v)
    statement around first Null w p rest e s = in_front (λ vs'. vs') (λ v. Own p first Null v) (λ v. ⊥) (λ v h. elim h [ ]) finds_none
    statement around first (Evaluate t) w p rest e s = in_front (dropped_faults (env_at ctx w) t) (λ v. Own p first (Evaluate t) v)
        _ (λ v h. elim h [ ]) (effects w p t (stands_at vs w p t [] rest s))
    statement around first (If t b) w p rest e s =
        let more = body_variables b ++ rest in
        in_front (λ vs'. body_faults ctx around b w (value_faults (env_at ctx w) t vs')) (λ v. Own p first (If t b) v) _ (λ v h. elim h [ ])
        (finds_both (value_faults (env_at ctx w) t) (body_faults ctx around b w) _ _ (values w p t (stands_at vs w p t (body_marks b) more s))
        (body around b w p rest e (stands_behind vs w p (term_marks t) (body_marks b) more s)))
    statement around first (IfElse t b c) w p rest e s =
        let all = (body_variables b ++ body_variables c) ++ rest in
        let more = body_variables c ++ rest in
        let g = stands_behind vs w p (term_marks t) (body_marks b ++ body_marks c) all s in
        let one = stands_first vs w p (body_marks b) (body_marks c) (body_variables b ++ more) all g
        (numbered_grouped vs w (body_variables b) (body_variables c) rest g.numbered) in
        let two = stands_body ctx (each_once names) vs apart b w p (body_marks c) (body_variables c) rest g in
        in_front (λ vs'. body_faults ctx around c (behind_body ctx b w) (body_faults ctx around b w (value_faults (env_at ctx w) t vs')))
        (λ v. Own p first (IfElse t b c) v) _ (λ v h. elim h [ ])
        (finds_both (value_faults (env_at ctx w) t) (λ vs'. body_faults ctx around c (behind_body ctx b w) (body_faults ctx around b w vs'))
        _ _ (values w p t (stands_at vs w p t (body_marks b ++ body_marks c) all s))
        (finds_both (body_faults ctx around b w) (body_faults ctx around c (behind_body ctx b w)) _ _ (body around b w p more e one)
        (body around c (behind_body ctx b w) p rest e two)))
    statement around first (While t b) w p rest e s =
        let more = body_variables b ++ rest in
        let g = stands_behind vs w p (term_marks t) (body_marks b) more s in
        in_front (λ vs'. body_faults ctx (in_loop around) b w (value_faults (env_at ctx w) t vs')) (λ v. Own p first (While t b) v) _ (λ v h. elim h [ ])
        (finds_both (value_faults (env_at ctx w) t) (body_faults ctx (in_loop around) b w) _ _ (values w p t (stands_at vs w p t (body_marks b) more s))
        (body (in_loop around) b w (within_loop p) rest (ap in_loop e) (stands_in_loop vs w p (body_marks b) more g)))
    statement around first (DoWhile b t) w p rest e s =
        let more = body_variables b ++ rest in
        let g = stands_before vs w p (body_marks b) (term_marks t) more s in
        in_front (λ vs'. value_faults (env_at ctx w) t (body_faults ctx (in_loop around) b w vs')) (λ v. Own p first (DoWhile b t) v) _ (λ v h. elim h [ ])
        (finds_both (body_faults ctx (in_loop around) b w) (value_faults (env_at ctx w) t) _ _
        (body (in_loop around) b w (within_loop p) rest (ap in_loop e) (stands_in_loop vs w p (body_marks b) more g))
        (values w p t (stands_at vs w p t [] more (stands_behind vs w p (body_marks b) (term_marks t) more s))))
    statement around first (For start t u b) w p rest e s =
        let inner = behind_start ctx start (enter w) in
        let q = within_for f start p in
        let more = body_variables b ++ rest in
        let ms = option_marks t ++ (option_marks u ++ body_marks b) in
        let k = stands_for f vs w p start ms (body_variables b) rest s in
        let g = stands_start ctx (each_once names) vs apart start w p ms (body_variables b) rest s in
        let test = option_sees vs inner q t more (stands_before vs inner q (option_marks t) (option_marks u ++ body_marks b) more g) in
        let g1 = stands_behind vs inner q (option_marks t) (option_marks u ++ body_marks b) more g in
        let step = option_sees vs inner q u more (stands_before vs inner q (option_marks u) (body_marks b) more g1) in
        let g2 = stands_behind vs inner q (option_marks u) (body_marks b) more g1 in
        in_front (statement_faults ctx around first (For start t u b) w) (λ v. Own p first (For start t u b) v) _ (λ v h. elim h [ ])
        (finds_both (start_faults ctx start (enter w))
        (λ vs'. body_faults ctx (in_loop around) b inner (optional_faults (dropped_faults (env_at ctx inner)) u
        (optional_faults (value_faults (env_at ctx inner)) t vs'))) _ _ (starts start (enter w) q more k)
        (finds_both (optional_faults (value_faults (env_at ctx inner)) t)
        (λ vs'. body_faults ctx (in_loop around) b inner (optional_faults (dropped_faults (env_at ctx inner)) u vs')) _ _
        (optional inner q (value_faults (env_at ctx inner)) NeedsValue (values inner q) t test)
        (finds_both (optional_faults (dropped_faults (env_at ctx inner)) u) (body_faults ctx (in_loop around) b inner) _ _
        (optional inner q (dropped_faults (env_at ctx inner)) MayBeVoid (effects inner q) u step)
        (body (in_loop around) b inner (within_loop q) rest (ap in_loop e) (stands_in_loop vs inner q (body_marks b) more g2)))))
    statement around first (Switch t b) w p rest e s =
        let more = body_variables b ++ rest in
        let m = stands_at vs w p t (body_marks b) more s in
        let g = stands_behind vs w p (term_marks t) (body_marks b) more s in
        in_front (statement_faults ctx around first (Switch t b) w) (λ v. Own p first (Switch t b) v) _ (λ v h. elim h [ ])
        (parted (λ v. ExpressionBreaks (places.names f p t) NeedsValue t v) (λ v. BodyBreaks typed f (within_switch p) b v) (λ v. IsLost (items_in b) v)
        (λ v. EntriesBreak (option_map (λ x. x.kind) (value_of (typed (places.names f p t) t))) (body_entries typed f p b) v)
        (statement_faults ctx around first (Switch t b) w)
        (finds_both (value_faults (env_at ctx w) t)
        (λ vs'. switch_faults (option_map (λ x. x.kind) (value_of (typed (env_at ctx w) t))) (walked.body_entries ctx b w [])
        (switch_body_faults ctx (in_switch around) b w vs')) _ _ (values w p t m)
        (finds_both (switch_body_faults ctx (in_switch around) b w)
        (switch_faults (option_map (λ x. x.kind) (value_of (typed (env_at ctx w) t))) (walked.body_entries ctx b w [])) _ _
        (switch_body (in_switch around) b w (within_switch p) rest (ap in_switch e) (stands_in_switch vs w p (body_marks b) more g))
        (switch_labels t b w p rest m g))))
    statement around first (Block b) w p rest e s = in_front (body_faults ctx around b w) (λ v. Own p first (Block b) v) _ (λ v h. elim h [ ])
        (body around b w p rest e s)
    statement around first (Goto at) w p rest e s = alone (fault_if (not (has_label ctx.labels (word at))) at 33) (λ v. Own p first (Goto at) v)
        (gotos first at p)
    statement around first Break w p rest e s = alone (fault_if (not (around.loop || around.switch)) first 27) (λ v. Own p first Break v)
        (breaks around first p e)
    statement around first Continue w p rest e s = alone (fault_if (not around.loop) first 28) (λ v. Own p first Continue v) (continues around first p e)
    statement around first (Return o) w p rest e s = returns first w p o (option_sees vs w p o rest s)
    statement around first Unread w p rest e s = in_front (λ vs'. vs') (λ v. Own p first Unread v) (λ v. ⊥) (λ v h. elim h [ ]) finds_none

    body : (around : Around) (b : Body) (w : Walk) (p : Place) (rest : List ℕ) → p.around ≡ around →
        Stands vs w p (body_marks b) (body_variables b ++ rest) → Finds (body_faults ctx around b w) (λ v. BodyBreaks typed f p b v)
    body around (Braces first after xs) w p rest e s = list around xs (enter w) (within f (Braces first after xs) p) rest e
        (stands_braces f vs w p first after xs (list_variables xs ++ rest) s)
    body around (Lone first after x) w p rest e s = item around x (enter w) (within f (Lone first after x) p) rest e
        (stands_lone f vs w p first after x (item_variables x ++ rest) s)

    pub list : (around : Around) (xs : Items) (w : Walk) (p : Place) (rest : List ℕ) → p.around ≡ around →
        StandsIn vs w p (list_identifiers f xs) (list_marks xs) (list_variables xs ++ rest) →
        Finds (list_faults ctx around xs w) (λ v. ListBreaks typed f p xs v)
    list around NoItem w p rest e s = finds_none
    list around (Then x xs) w p rest e s =
        finds_both (item_faults ctx around x w) (list_faults ctx around xs (behind_item ctx x w))
        _ _ (item around x w p (list_variables xs ++ rest) e (stands_item ctx (each_once names) vs apart x xs w p rest s))
        (list around xs (behind_item ctx x w) p rest e (stands_rest ctx (each_once names) vs apart x xs w p rest s))

    switch_body : (around : Around) (b : Body) (w : Walk) (p : Place) (rest : List ℕ) → p.around ≡ around →
        Stands vs w p (body_marks b) (body_variables b ++ rest)
        → Finds (switch_body_faults ctx around b w) (λ v. BodyBreaks typed f p b v ⊎ IsLost (items_in b) v)
    switch_body around (Braces first after xs) w p rest e s = outside around xs (enter w) (within f (Braces first after xs) p) rest e
        (stands_braces f vs w p first after xs (list_variables xs ++ rest) s)
    switch_body around (Lone first after x) w p rest e s = outside_one around x (enter w) (within f (Lone first after x) p) rest e
        (stands_lone f vs w p first after x (item_variables x ++ rest) s)

    outside : (around : Around) (xs : Items) (w : Walk) (p : Place) (rest : List ℕ) → p.around ≡ around →
        StandsIn vs w p (list_identifiers f xs) (list_marks xs) (list_variables xs ++ rest)
        → Finds (outside_faults ctx around xs w) (λ v. ListBreaks typed f p xs v ⊎ IsLost xs v)
    outside around NoItem w p rest e s = finds_nothing _ (λ v h. elim h [ inl a ↦ a | inr b ↦ none_lost v b ])
    outside around (Then (Declares first after d) xs) w p rest e s =
        let x = Declares first after d in
        lost_declaration (declaration_faults ctx d w) (outside_faults ctx around xs (declared_by ctx d w)) first after d xs
        (λ v. DeclarationBreaks typed f p d v) (λ v. ListBreaks typed f p xs v)
        (declaration d w p (list_variables xs ++ rest) (stands_item ctx (each_once names) vs apart x xs w p rest s))
        (outside around xs (declared_by ctx d w) p rest e (stands_rest ctx (each_once names) vs apart x xs w p rest s))
    outside around (Then (States ls x) xs) w p rest e s =
        let own = stands_item ctx (each_once names) vs apart (States ls x) xs w p rest s in
        let k = stands_rest ctx (each_once names) vs apart (States ls x) xs w p rest s in
        let more = plain_variables x ++ (list_variables xs ++ rest) in
        let g = stands_stated vs w p (each_marks label_marks ls ++ plain_marks x) more own in
        lost_statement (has_case ls) (λ vs'. plain_faults ctx around x w (labels_faults (env_at ctx w) around.switch ls vs'))
        (outside_faults ctx around xs (behind_plain ctx x w)) (list_faults ctx around xs (behind_plain ctx x w))
        ls x xs (λ v. ItemBreaks typed f p (States ls x) v) (λ v. ListBreaks typed f p xs v) refl
        (finds_both (labels_faults (env_at ctx w) around.switch ls) (plain_faults ctx around x w)
        _ _ (labels around w p ls e (labels_see vs w p ls (plain_marks x) more g))
        (plain around x w p (list_variables xs ++ rest) e (stands_behind vs w p (each_marks label_marks ls) (plain_marks x) more g)))
        (outside around xs (behind_plain ctx x w) p rest e k)
        (list around xs (behind_plain ctx x w) p rest e k)

    outside_one : (around : Around) (x : Item) (w : Walk) (p : Place) (rest : List ℕ) → p.around ≡ around →
        StandsIn vs w p (item_identifiers f x) (item_marks x) (item_variables x ++ rest)
        → Finds (outside_fault ctx around x w) (λ v. ItemBreaks typed f p x v ⊎ IsLost (Then x NoItem) v)
    outside_one around (Declares first after d) w p rest e s = lost_one_declaration (declaration_faults ctx d w) first after d
        (λ v. DeclarationBreaks typed f p d v) (declaration d w p rest s)
    outside_one around (States ls x) w p rest e s =
        let more = plain_variables x ++ rest in
        let g = stands_stated vs w p (each_marks label_marks ls ++ plain_marks x) more s in
        lost_alone (has_case ls) (λ vs'. plain_faults ctx around x w (labels_faults (env_at ctx w) around.switch ls vs')) ls x
        (λ v. ItemBreaks typed f p (States ls x) v) refl
        (finds_both (labels_faults (env_at ctx w) around.switch ls) (plain_faults ctx around x w)
        _ _ (labels around w p ls e (labels_see vs w p ls (plain_marks x) more g))
        (plain around x w p rest e (stands_behind vs w p (each_marks label_marks ls) (plain_marks x) more g)))
