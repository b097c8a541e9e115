-- The expressions of items print, declared names are names, and comments are comments.
use Rattle.std.proofs.Common.{ℕ, pos, ◌<◌, Bool, true, false, cond, List, [], ◌∷◌, map, length, Option, Some, None, option_map, ◌≡◌, sym, ap, subst, ◌∙◌, slice_get, arith, ℤ}
use Rattle.std.specs.Prelude.{IfSome, IsSomeAnd}
use Rattle.std.proofs.lemmas.List.{length-map}
use Rattle.c_types.specs.declared.kinds.IntKind.TheVariants.{Int}
use Rattle.c_tree.specs.declared.tree.Slot.{Slot}
use Rattle.c_tree.specs.declared.tree.Expression.{Expression}
use Rattle.c_tree.specs.declared.tree.Node as node
use Rattle.c_tree.specs.Constants.{constant_value}
use Rattle.c_tree.specs.ExpressionTrees.{ExpressionTree, Typed, expression_tree}
use Rattle.c_tree.specs.Trees.{Tree, Local, Note, expression_trees}
use Rattle.c_tree.proofs.ExpressionLaws.{node-Number}
use Rattle.c_grammar.specs.Terms.{Term}
use Rattle.c_grammar.specs.Items.{Initialiser, NoValue, OneValue, ValueList, Declarator}
use Rattle.c_kinds.specs.declared.typed.Typed as kinds
use Rattle.c_kinds.specs.declared.typed.Typed.TheVariants as T
use Rattle.c_kinds.specs.Constants.{is_constant, constant_of}
use Rattle.c_kinds.specs.Scopes.{Env}
use Rattle.c_kinds.specs.Typing.{typed}
use Rattle.c_kinds.specs.Values.{expression, value_of, dropped}
use Rattle.c_statements.specs.declared.extents.Kinded.{Kinded}
use Rattle.c_statements.specs.declared.anchors.Anchor.{Anchor}
use Rattle.c_statements.specs.Context.{Context, Walk, env_at, env_in}
use Rattle.c_statements.specs.Declarations.{placeholder, or_placeholder, value_at, constant_or_placeholder, constant_at, declared, slot_of, initial, local_faults}
use Rattle.c_statements.specs.Statements.{dropped_at, behind_start}
use Rattle.c_statements.specs.Context.{enter}
use Rattle.c_resolved_defs.specs.Files.{IsLength}
use Rattle.c_resolved_defs.specs.Names.{Names}
use Rattle.c_resolved_defs.specs.PrintableExpressions.{IsName, Prints}
use Rattle.c_resolved_defs.specs.Scopes as Scopes
use Rattle.c_resolved_defs.specs.Verbatims.{IsComment}
use Rattle.c_resolved_defs.specs.Within.{Each, ItemExpressions}
use Rattle.c_resolving_laws.specs.Read.{IsReadTerm, IsReadInitialiser, IsReadDeclarator}
use Rattle.c_resolving_laws.proofs.Arrays.{array_fine}
use Rattle.c_resolving_laws.proofs.Bindings.{knows_inside}
use Rattle.c_resolving_laws.proofs.Declared.{behind_local, knows_declared, slot_there}
use Rattle.c_resolving_laws.proofs.ItemKinds.{KnownAt}
use Rattle.c_resolving_laws.proofs.Known.{Knows}
use Rattle.c_resolving_laws.proofs.Lists.{is_some_and}
use Rattle.c_resolving_laws.proofs.Parts.{local_parts}
use Rattle.c_resolving_laws.proofs.Printed.{Printed, printed, zero_prints}
use Rattle.c_resolving_laws.proofs.Values.{expression_rolls, value_rolls, void_rolls}
use Rattle.c_resolving_laws.proofs.Walk.{Begins, Closed}

-- ---- the expressions of statements

module _ (slots : List Slot) where
  placeholder_prints : Prints slots (expression_tree placeholder)
  placeholder_prints = subst (Prints slots)
      (sym (expression_rolls (record { kind = Some Int; node = node.Number (pos 0) }) ∙ ap (Typed (Some Int)) (node-Number (pos 0)))) (zero_prints slots)

  value_by : (x : kinds.Typed) → Printed slots x → Prints slots (expression_tree (or_placeholder (value_of x)))
  value_by (T.Value v) h = subst (Prints slots) (sym (value_rolls v)) h
  value_by _ h = placeholder_prints

  dropped_by : (x : kinds.Typed) → Printed slots x → Prints slots (expression_tree (elim (dropped x) [ Some e ↦ e | None ↦ placeholder ]))
  dropped_by (T.Value v) h = subst (Prints slots) (sym (value_rolls v)) h
  dropped_by (T.Void a) h = subst (Prints slots) (sym (void_rolls a)) h
  dropped_by _ h = placeholder_prints

  chosen_by : (e : Expression) (b : Bool) (o : Option ℤ) → Prints slots (expression_tree e) →
      Prints slots (expression_tree (constant_or_placeholder (cond b (option_map (λ n. (e, n)) o) None)))
  chosen_by e true (Some z) h = h
  chosen_by e true None h = placeholder_prints
  chosen_by e false o h = placeholder_prints

  constant_by : (x : kinds.Typed) → Printed slots x → Prints slots (expression_tree (constant_or_placeholder (constant_of x)))
  constant_by (T.Value v) h = chosen_by (expression v) (is_constant (expression_tree (expression v)))
      (constant_value (expression_tree (expression v))) (subst (Prints slots) (sym (value_rolls v)) h)
  constant_by _ h = placeholder_prints

  -- ---- items

  abbrev pub IsGivenList : List ExpressionTree → Type 0
  IsGivenList es = 0 < length es

  pub record IsNamedSlot (s : Slot) : Type 0 where
    pub named : IsName s.name
    pub length : IsLength s.cells

  -- beside its expressions
  abbrev pub PrintsBeside : Tree → Type 0
  PrintsBeside (Local k given) = IsSomeAnd (slice_get slots k) IsNamedSlot × IfSome given IsGivenList
  PrintsBeside (Note bs) = IsComment bs
  PrintsBeside _ = Unit {0}

  abbrev pub PrintsItem : Tree → Type 0
  PrintsItem x = ItemExpressions (Prints slots) x × PrintsBeside x

module _ (n : Names) (ss : List Scopes.Scope) (env : Env) (knows : Knows n ss env) where
  pub value_prints : (t : Term) → IsReadTerm env.word t → Prints n.slots (expression_tree (value_at env t))
  value_prints t r = value_by n.slots (typed env t) (printed n ss env knows t r)

  pub dropped_prints : (t : Term) → IsReadTerm env.word t → Prints n.slots (expression_tree (dropped_at env t))
  dropped_prints t r = dropped_by n.slots (typed env t) (printed n ss env knows t r)

  pub constant_prints : (t : Term) → IsReadTerm env.word t → Prints n.slots (expression_tree (constant_at env t))
  constant_prints t r = constant_by n.slots (typed env t) (printed n ss env knows t r)

  pub values_print : (o : Option Term) → IfSome o (IsReadTerm env.word) → IfSome (option_map expression_tree (option_map (value_at env) o)) (Prints n.slots)
  values_print None r = tt
  values_print (Some t) r = value_prints t r

  drops_print : (o : Option Term) → IfSome o (IsReadTerm env.word) → IfSome (option_map expression_tree (option_map (dropped_at env) o)) (Prints n.slots)
  drops_print None r = tt
  drops_print (Some t) r = dropped_prints t r

  list_prints : (v : Term → Expression) → ((t : Term) → IsReadTerm env.word t → Prints n.slots (expression_tree (v t))) → (ts : List Term) →
      Each (IsReadTerm env.word) ts → Each (Prints n.slots) (expression_trees (map v ts))
  list_prints v f [] r = tt
  list_prints v f (t ∷ ts) r = (f t r.0, list_prints v f ts r.1)

  pub given_prints : (v : Term → Expression) → ((t : Term) → IsReadTerm env.word t → Prints n.slots (expression_tree (v t))) → (i : Initialiser) →
      IsReadInitialiser env.word i
      → IfSome (option_map expression_trees (initial v i)) (Each (Prints n.slots))
  given_prints v f NoValue r = tt
  given_prints v f (OneValue t) r = (f t r, tt)
  given_prints v f (ValueList ts) r = list_prints v f ts r.1

pub given_there : (word : ℕ → List ℕ) (slots : List Slot) (v : Term → Expression) (i : Initialiser) → IsReadInitialiser word i →
    IfSome (option_map expression_trees (initial v i)) (IsGivenList slots)
given_there word slots v NoValue r = tt
given_there word slots v (OneValue t) r = omega arith
given_there word slots v (ValueList ts) r = subst (λ k. 0 < k) (sym (length-map (map v ts) expression_tree ∙ length-map ts v)) r.0

module _ (ctx : Context) (n : Names) (comments : (a : Anchor) → Each IsComment (ctx.notes a)) where
  slot_fine : (k : Kinded) (d : Declarator) (w : Walk) → IsReadDeclarator ctx.word d → local_faults ctx.word k d w [] ≡ [] →
      Begins (declared ctx.word k d w).slots n.slots → IsSomeAnd (slice_get n.slots (length w.slots)) (IsNamedSlot n.slots)
  slot_fine k d w r e b =
      let p = local_parts ctx.word k d w e in
      let s = slot_of (env_in ctx.word w) k d in
      is_some_and (IsNamedSlot n.slots) (slice_get n.slots (length w.slots)) s (ap (λ l. slice_get l (length w.slots)) b.1 ∙ slot_there w.slots b.0 s)
      (record { named = r.named; length = (array_fine ctx.word (λ t. placeholder) true (env_in ctx.word w) d p.size r.value p.array).0 })

  comments_are : (bs : List (List ℕ)) → Each IsComment bs → Each (λ b. PrintsItem n.slots (Note b)) bs
  comments_are [] h = tt
  comments_are (b ∷ bs) h = ((tt, h.0), comments_are bs h.1)

  pub prints_closed : Closed ctx n.slots (KnownAt ctx n) (PrintsItem n.slots) (Prints n.slots)
  prints_closed = record {
    into = λ s i. ([] ∷ i.0, knows_inside n ctx.word s i.0 i.1);
    binds = λ k d w r e b i. (behind_local ctx.word d w i.0, knows_declared ctx.word n k d w i.0 e b i.1);
    note = λ a. comments_are (ctx.notes a) (comments a);
    evaluates = λ w t i r e. (dropped_prints n i.0 (env_at ctx w) i.1 t r, tt);
    ifs = λ w t a b i r e. (value_prints n i.0 (env_at ctx w) i.1 t r, tt);
    whiles = λ w t a i r e. (value_prints n i.0 (env_at ctx w) i.1 t r, tt);
    dos = λ w t a i r e. (value_prints n i.0 (env_at ctx w) i.1 t r, tt);
    fors = λ w start t u a i j b rs rt ru es et eu. let inner = behind_start ctx start (enter w) in
        ((values_print n j.0 (env_at ctx inner) j.1 t rt, drops_print n j.0 (env_at ctx inner) j.1 u ru), tt);
    switches = λ around w t b i r rb nb ev eb es cs. ((value_prints n i.0 (env_at ctx w) i.1 t r, cs), tt);
    block = λ a. (tt, tt);
    locals = λ k d w r e b i j.
        let env = env_in ctx.word (declared ctx.word k d w) in (
          given_prints n j.0 env j.1 (value_at env) (λ t r. value_prints n j.0 env j.1 t r) d.value r.value,
          (slot_fine k d w r e b, given_there ctx.word n.slots (value_at env) d.value r.value),
        );
    breaks = (tt, tt);
    continues = (tt, tt);
    gotos = λ at h. (tt, tt);
    returns = λ w first t i r e. (values_print n i.0 (env_at ctx w) i.1 t r, tt);
    marks = λ at. (tt, tt);
    arrives = λ w t i r e. (constant_prints n i.0 (env_at ctx w) i.1 t r, tt);
    defaults = (tt, tt);
    cases = λ w t i r e. constant_prints n i.0 (env_at ctx w) i.1 t r;
  }
