-- The form of each item: first parts of `for`, sections, and gotos that name labels.
use Rattle.std.proofs.Common.{ℕ, ◌<◌, true, List, [], ◌∷◌, length, Option, Some, None, is_some, ◌≡◌, refl, sym, ap, subst, ◌∙◌, true≢false, slice_get}
use Rattle.c_tree.specs.declared.tree.Slot.{Slot}
use Rattle.c_tree.specs.declared.tree.Function.{Function}
use Rattle.c_tree.specs.declared.tree.Item as item
use Rattle.c_tree.specs.Trees.{Then, trees_of}
use Rattle.c_tree.proofs.TreeLaws.{tree-Evaluate, tree-Local, trees-none, trees-more}
use Rattle.c_grammar.specs.Items.{Declarator, Start, NoStart, StartValue, StartNames}
use Rattle.c_kinds.specs.Scopes.{found}
use Rattle.c_statements.specs.declared.extents.Kinded.{Kinded}
use Rattle.c_statements.specs.Context.{Context, Walk, env_at, env_in, enter, in_switch, has_label, number_in}
use Rattle.c_statements.specs.Declarations.{kinded, declared, all_declared, slot_of, local, locals, locals_faults, initial, value_at}
use Rattle.c_statements.specs.Statements.{behind_start, dropped_at, start_items}
use Rattle.c_statements.specs.Violations.{start_faults}
use Rattle.c_resolved_defs.specs.Form.{AreAlike, IsFirstPart, HasSourceForm}
use Rattle.c_resolved_defs.specs.Within.{Each}
use Rattle.c_resolving_laws.specs.Read.{IsReadDeclarator, IsReadStart}
use Rattle.c_resolving_laws.proofs.Declared.{slot_there}
use Rattle.c_resolving_laws.proofs.Grown.{locals_grow}
use Rattle.c_resolving_laws.proofs.ItemReturns.{Anywhere, AnyConstant}
use Rattle.c_resolving_laws.proofs.LabelNumbers.{some_number}
use Rattle.c_resolving_laws.proofs.Lists.{is_some_and}
use Rattle.c_resolving_laws.proofs.Parts.{locals_parts}
use Rattle.c_resolving_laws.proofs.Sectioned.{are_sections}
use Rattle.c_resolving_laws.proofs.Walk.{each_note, Begins, Any, begins_before, Closed}

module _ (ctx : Context) (f : Function) where
  slot_is : (k : Kinded) (d : Declarator) (w : Walk) → Begins (declared ctx.word k d w).slots f.slots →
      slice_get f.slots (length w.slots) ≡ Some (slot_of (env_in ctx.word w) k d)
  slot_is k d w b = ap (λ l. slice_get l (length w.slots)) b.1 ∙ slot_there w.slots b.0 (slot_of (env_in ctx.word w) k d)

  -- the names of one declaration
  alike : (k : Kinded) (ds : List Declarator) (w : Walk) (s : Slot) → s.kind ≡ k.kind → s.constant ≡ k.constant →
      Each (IsReadDeclarator ctx.word) ds → locals_faults ctx.word k ds w [] ≡ [] → Begins (all_declared ctx.word k ds w).slots f.slots
      → AreAlike f.slots s (trees_of (locals ctx.word k ds w))
  alike k [] w s i j r e z = subst (AreAlike f.slots s) (sym trees-none) tt
  alike k (d ∷ ds) w s i j r e z =
      let p = locals_parts ctx.word k d ds w e in
      let v = declared ctx.word k d w in
      let b = begins_before v.slots (all_declared ctx.word k ds v).slots f.slots (locals_grow ctx Any (λ k d w r e. tt) k ds v r.1 p.1) z in
      let x = local ctx.word k d w in
      subst (AreAlike f.slots s) (sym (trees-more x (locals ctx.word k ds v) ∙
      ap (λ t. Then t (trees_of (locals ctx.word k ds v))) (tree-Local (length w.slots) (initial (value_at (env_in ctx.word v)) d.value))))
      (is_some_and _ (slice_get f.slots (length w.slots)) (slot_of (env_in ctx.word w) k d) (slot_is k d w b) (sym i, sym j), alike k ds v s i j r.1 p.1 z)

  declared_first : (k : Kinded) (ds : List Declarator) (w : Walk) → Each (IsReadDeclarator ctx.word) ds → locals_faults ctx.word k ds w [] ≡ [] →
      Begins (all_declared ctx.word k ds w).slots f.slots → IsFirstPart f.slots (trees_of (locals ctx.word k ds w))
  declared_first k [] w r e z = subst (IsFirstPart f.slots) (sym trees-none) tt
  declared_first k (d ∷ ds) w r e z =
      let p = locals_parts ctx.word k d ds w e in
      let v = declared ctx.word k d w in
      let b = begins_before v.slots (all_declared ctx.word k ds v).slots f.slots (locals_grow ctx Any (λ k d w r e. tt) k ds v r.1 p.1) z in
      let x = local ctx.word k d w in
      subst (IsFirstPart f.slots) (sym (trees-more x (locals ctx.word k ds v) ∙
      ap (λ t. Then t (trees_of (locals ctx.word k ds v))) (tree-Local (length w.slots) (initial (value_at (env_in ctx.word v)) d.value))))
      (is_some_and _ (slice_get f.slots (length w.slots)) (slot_of (env_in ctx.word w) k d) (slot_is k d w b)
      (alike k ds v (slot_of (env_in ctx.word w) k d) refl refl r.1 p.1 z))

  first_part : (start : Start) (w : Walk) → IsReadStart ctx.word start → start_faults ctx start w [] ≡ [] →
      Begins (behind_start ctx start w).slots f.slots → IsFirstPart f.slots (trees_of (start_items ctx start w))
  first_part NoStart w r e z = subst (IsFirstPart f.slots) (sym trees-none) tt
  first_part (StartValue t) w r e z =
      let x = dropped_at (env_at ctx w) t in
      subst (IsFirstPart f.slots) (sym (trees-more (item.Evaluate x) [] ∙ (λ i. Then (tree-Evaluate x i) (trees-none i)))) tt
  first_part (StartNames d) w r e z = declared_first (kinded ctx.word d) d.names w r e z

  -- the numbers of the function's labels
  module _ (below : (m : List ℕ) (n : ℕ) → found m ctx.labels ≡ Some n → n < length f.labels) where
    names_label : (m : List ℕ) → has_label ctx.labels m ≡ true → number_in ctx.labels m < length f.labels
    names_label m e = by (found m ctx.labels) refl e
      where
        by : (o : Option ℕ) → found m ctx.labels ≡ o → is_some o ≡ true → number_in ctx.labels m < length f.labels
        by None i h = absurd (true≢false (sym h))
        by (Some n) i h = subst (λ k. k < length f.labels) (sym (some_number (found m ctx.labels) n (length ctx.labels) i)) (below m n i)

    pub forms_closed : Closed ctx f.slots Anywhere (HasSourceForm f) AnyConstant
    forms_closed = record {
      into = λ s i. tt;
      binds = λ k d w r e b i. tt;
      note = λ a. each_note (HasSourceForm f) (λ bs. tt) (ctx.notes a);
      evaluates = λ w t i r e. tt;
      ifs = λ w t a b i r e. tt;
      whiles = λ w t a i r e. tt;
      dos = λ w t a i r e. tt;
      fors = λ w start t u a i j b rs rt ru es et eu. first_part start (enter w) rs es b;
      switches = λ around w t b i r rb nb ev eb es cs. (are_sections ctx (in_switch around) b w eb, tt);
      block = λ a. tt;
      locals = λ k d w r e b i j. tt;
      breaks = tt;
      continues = tt;
      gotos = λ at h. names_label (ctx.word at) h;
      returns = λ w first t i r e. tt;
      marks = λ at. tt;
      arrives = λ w t i r e. tt;
      defaults = tt;
      cases = λ w t i r e. tt;
    }
