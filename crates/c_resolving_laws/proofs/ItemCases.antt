-- The cases of each switch, by the promoted kind of its selector.
use Rattle.std.proofs.Common.{false, [], ◌∷◌, Option, Some, None, option_map, ◌≡◌, refl, sym, ap, subst, ◌∙◌}
use Rattle.std.specs.Prelude.{IsSomeAnd}
use Rattle.c_types.specs.Numbers.{promoted}
use Rattle.c_tree.specs.Constants.{kind_of}
use Rattle.c_tree.specs.Cases.{selector_kind}
use Rattle.c_tree.specs.ExpressionTrees.{expression_tree}
use Rattle.c_tree.specs.TestTrees.{Selects}
use Rattle.c_tree.specs.Trees.{Switch, sections_of}
use Rattle.c_tree.specs.SectionLabels.{labels_passed}
use Rattle.c_grammar.specs.Terms.{Term}
use Rattle.c_grammar.specs.Items.{Body}
use Rattle.c_kinds.specs.declared.typed.Valued.{Valued}
use Rattle.c_kinds.specs.Typing.{typed}
use Rattle.c_kinds.specs.Values.{value_of}
use Rattle.c_statements.specs.Cases.{switch_faults, body_entries}
use Rattle.c_statements.specs.Context.{Context, Walk, Around, env_at, in_switch}
use Rattle.c_statements.specs.Declarations.{or_placeholder, value_at, value_faults}
use Rattle.c_statements.specs.Statements.{switch_sections}
use Rattle.c_statements.specs.Violations.{switch_body_faults}
use Rattle.c_resolved_defs.specs.Names.{Names}
use Rattle.c_resolved_defs.specs.Switches.{AreLabels, HasCases, switch_labels}
use Rattle.c_resolving_laws.specs.Read.{IsReadTerm, body_cases}
use Rattle.c_resolving_laws.proofs.Bindings.{knows_inside}
use Rattle.c_resolving_laws.proofs.Compared.{switch_labels_are}
use Rattle.c_resolving_laws.proofs.Declared.{behind_local, knows_declared}
use Rattle.c_resolving_laws.proofs.Expressions.{sound, used_clean}
use Rattle.c_resolving_laws.proofs.ItemKinds.{KnownAt}
use Rattle.c_resolving_laws.proofs.ItemReturns.{AnyConstant}
use Rattle.c_resolving_laws.proofs.Values.{value_rolls, SoundValue}
use Rattle.c_resolving_laws.proofs.Walk.{each_note, Closed}
use Rattle.std.specs.Prelude.{◌<◌}

module _ (ctx : Context) (n : Names) where
  switch_has : (around : Around) (w : Walk) (t : Term) (b : Body) → KnownAt ctx n w.scopes → IsReadTerm ctx.word t → body_cases b < 2147483648 →
      value_faults (env_at ctx w) t [] ≡ [] → switch_body_faults ctx (in_switch around) b w [] ≡ []
      → switch_faults (option_map (λ v. v.kind) (value_of (typed (env_at ctx w) t))) (body_entries ctx b w []) [] ≡ []
      → HasCases (Switch (Selects (expression_tree (value_at (env_at ctx w) t))) (sections_of (labels_passed (switch_sections ctx b w))))
  switch_has around w t b i r few ev eb es =
      let env = env_at ctx w in
      by (value_of (typed env t)) refl (used_clean n i.0 env i.1 t [] ev (sound n i.0 env i.1 t [] r)).1 es
    where
      by : (o : Option Valued) → value_of (typed (env_at ctx w) t) ≡ o → IsSomeAnd o (SoundValue n i.0) →
          switch_faults (option_map (λ v. v.kind) o) (body_entries ctx b w []) [] ≡ []
          → HasCases (Switch (Selects (expression_tree (value_at (env_at ctx w) t))) (sections_of (labels_passed (switch_sections ctx b w))))
      by None e h f = absurd h
      by (Some v) e h f =
          let labels = switch_labels (sections_of (labels_passed (switch_sections ctx b w))) in
          let kind : selector_kind (Selects (expression_tree (value_at (env_at ctx w) t))) ≡ Some (promoted v.kind) =
          ap (λ x. option_map promoted (kind_of x)) (ap (λ o. expression_tree (or_placeholder o)) e ∙ value_rolls v) in
          subst (λ o. IsSomeAnd o (λ k. AreLabels k labels)) (sym kind) (switch_labels_are ctx (in_switch around) b w (promoted v.kind) eb f few)

  pub cases_closed : Closed ctx n.slots (KnownAt ctx n) HasCases AnyConstant
  cases_closed = record {
    into = λ s i. ([] ∷ i.0, knows_inside n ctx.word s i.0 i.1);
    binds = λ k d w r e b i. (behind_local ctx.word d w i.0, knows_declared ctx.word n k d w i.0 e b i.1);
    note = λ a. each_note HasCases (λ bs. tt) (ctx.notes a);
    evaluates = λ w t i r e. tt;
    ifs = λ w t a b i r e. tt;
    whiles = λ w t a i r e. tt;
    dos = λ w t a i r e. tt;
    fors = λ w start t u a i j b rs rt ru es et eu. tt;
    switches = λ around w t b i r rb nb ev eb es cs. switch_has around w t b i r nb ev eb es;
    block = λ a. tt;
    locals = λ k d w r e b i j. tt;
    breaks = tt;
    continues = tt;
    gotos = λ at h. tt;
    returns = λ w first t i r e. tt;
    marks = λ at. tt;
    arrives = λ w t i r e. tt;
    defaults = tt;
    cases = λ w t i r e. tt;
  }
