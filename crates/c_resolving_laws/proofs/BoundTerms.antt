-- A place by the scopes of the tree, and the names of its expressions.
use Rattle.std.proofs.Common.{ℕ, true, false, List, [], ◌∷◌, ◌++◌, Option, Some, None, option_map, is_some, true≢false, ◌≡◌, refl, sym, ap, subst, ◌∙◌}
use Rattle.std.specs.Prelude.{IfSome}
use Rattle.c_tree.specs.declared.tree.Item as item
use Rattle.c_tree.specs.ExpressionTrees.{ExpressionTree, expression_tree}
use Rattle.c_tree.specs.Trees.{Tree, Forest, SectionTree, Nil, join, expression_trees, tree_of, trees_of, section_tree, sections, sections_of}
use Rattle.c_tree.specs.Trees as tree
use Rattle.c_tree.proofs.TreeLaws.{trees-none, trees-more, trees-append}
use Rattle.c_types.specs.declared.kinds.IntKind.{IntKind}
use Rattle.c_grammar.specs.Terms.{Term}
use Rattle.c_kinds.specs.Scopes.{Scope}
use Rattle.c_kinds.specs.Typing.{constant_faults}
use Rattle.c_statements.specs.Context.{Context, Walk, env_at, enter}
use Rattle.c_statements.specs.Declarations.{value_at, constant_at, value_faults}
use Rattle.c_statements.specs.Statements.{dropped_at}
use Rattle.c_statements.specs.Violations.{dropped_faults, optional_faults, return_faults}
use Rattle.c_resolving_laws.proofs.Lists.{none_left}
use Rattle.c_resolving_laws.specs.Read.{IsReadTerm}
use Rattle.c_kinds.specs.declared.binding.Binding.{Binding}
use Rattle.c_kinds.specs.Scopes.{found, is_bound, bind}
use Rattle.c_resolved_defs.specs.Names.{Names}
use Rattle.c_resolved_defs.specs.Scopes as Scopes
use Rattle.c_resolved_defs.specs.Scopes.{AVariable, NameIsBound, IsBound, IsNew, ItemIsBound, AreBound, SectionsAreBound, behind, behind_all, inside}
use Rattle.c_resolving_laws.proofs.Bindings.{knows_inside}
use Rattle.c_resolving_laws.proofs.FileNames.{Same, meaning_of}
use Rattle.c_resolving_laws.proofs.FileScope.{same_new}
use Rattle.c_resolving_laws.proofs.ItemKinds.{within_map}
use Rattle.c_resolving_laws.proofs.Known.{Knows}
use Rattle.c_resolving_laws.proofs.Uses.{value_is, dropped_is, constant_is_value}
use Rattle.c_resolving_laws.proofs.Values.{IsSound, Sound}

-- the nearest scopes have the same names
abbrev pub Nearest : List Scope → List Scopes.Scope → Type 0
Nearest (s ∷ scopes) (r ∷ ss) = Same s r
Nearest _ _ = ⊥

pub nearest_new : (scopes : List Scope) (ss : List Scopes.Scope) (m : List ℕ) → Nearest scopes ss → is_bound m scopes ≡ false → IsNew m ss
nearest_new [] ss m h e = absurd h
nearest_new (s ∷ scopes) [] m h e = absurd h
nearest_new (s ∷ scopes) (r ∷ ss) m h e = h m ∙ by (found m s) e
  where
    by : (o : Option Binding) → is_some o ≡ false → option_map (meaning_of m) o ≡ None
    by None e = refl
    by (Some b) e = absurd (true≢false e)

pub nearest_bound : (scopes : List Scope) (ss : List Scopes.Scope) (m : List ℕ) (b : Binding) → Nearest scopes ss → is_bound m scopes ≡ false →
    Nearest (bind m b scopes) (Scopes.bind m (meaning_of m b) ss)
nearest_bound [] ss m b h e = absurd h
nearest_bound (s ∷ scopes) [] m b h e = absurd h
nearest_bound (s ∷ scopes) (r ∷ ss) m b h e = same_new (λ m. true) s r m b h e

module _ (ctx : Context) (n : Names) where
  -- a place, by the scopes of the tree
  pub record At (w : Walk) (ss : List Scopes.Scope) : Type 0 where
    pub knows : Knows n ss (env_at ctx w)
    pub nearest : Nearest w.scopes ss

  pub at_inside : (w : Walk) (ss : List Scopes.Scope) → At w ss → At (enter w) (inside ss)
  at_inside w ss a = record { knows = knows_inside n ctx.word w.scopes ss a.knows; nearest = λ m. refl }

  pub at_scopes : (v w : Walk) (ss : List Scopes.Scope) → v.scopes ≡ w.scopes → At w ss → At v ss
  at_scopes v w ss e a = record {
    knows = subst (λ sc. Knows n ss (record { word = ctx.word; scopes = sc })) (sym e) a.knows;
    nearest = subst (λ sc. Nearest sc ss) (sym e) a.nearest;
  }

  -- ---- lists of items

  pub record Binds (ss ss' : List Scopes.Scope) (xs : List item.Item) : Type 0 where
    pub bound : AreBound n.slots ss (trees_of xs)
    pub behind_it : behind_all n.slots ss (trees_of xs) ≡ ss'

  pub binds_none : (ss : List Scopes.Scope) → Binds ss ss []
  binds_none ss = record { bound = subst (AreBound n.slots ss) (sym trees-none) tt; behind_it = ap (behind_all n.slots ss) trees-none }

  pub bound-join : (ss : List Scopes.Scope) (a b : Forest) → AreBound n.slots ss a → AreBound n.slots (behind_all n.slots ss a) b →
      AreBound n.slots ss (join a b)
  bound-join ss Nil b h k = k
  bound-join ss (tree.Then x a) b h k = (h.0, bound-join (behind n.slots ss x) a b h.1 k)

  pub behind-join : (ss : List Scopes.Scope) (a b : Forest) → behind_all n.slots ss (join a b) ≡ behind_all n.slots (behind_all n.slots ss a) b
  behind-join ss Nil b = refl
  behind-join ss (tree.Then x a) b = behind-join (behind n.slots ss x) a b

  pub binds_both : (s t u : List Scopes.Scope) (xs ys : List item.Item) → Binds s t xs → Binds t u ys → Binds s u (xs ++ ys)
  binds_both s t u xs ys h k = record {
    bound = subst (AreBound n.slots s) (sym (trees-append xs ys))
        (bound-join s (trees_of xs) (trees_of ys) h.bound (subst (λ z. AreBound n.slots z (trees_of ys)) (sym h.behind_it) k.bound));
    behind_it = ap (behind_all n.slots s) (trees-append xs ys) ∙
        (behind-join s (trees_of xs) (trees_of ys) ∙ (ap (λ z. behind_all n.slots z (trees_of ys)) h.behind_it ∙ k.behind_it));
  }

  pub binds_one : (s t : List Scopes.Scope) (x : item.Item) (z : Tree) → tree_of x ≡ z → ItemIsBound n.slots s z → behind n.slots s z ≡ t → Binds s t (x ∷ [])
  binds_one s t x z e h b =
      let f = trees-more x [] ∙ (λ i. tree.Then (e i) (trees-none i)) in
      record { bound = subst (AreBound n.slots s) (sym f) (h, tt); behind_it = ap (behind_all n.slots s) f ∙ b }

  -- ---- expressions

  pub names_bound : (ss : List Scopes.Scope) (x : ExpressionTree) → Sound n ss x → IsBound n.slots ss x
  names_bound ss x h = within_map (IsSound n ss) (NameIsBound n.slots ss) (λ x h. h.2) x h

  pub value_bound : (w : Walk) (ss : List Scopes.Scope) (t : Term) → At w ss → IsReadTerm ctx.word t → value_faults (env_at ctx w) t [] ≡ [] →
      IsBound n.slots ss (expression_tree (value_at (env_at ctx w) t))
  value_bound w ss t a r e = names_bound ss _ (value_is n ss (env_at ctx w) a.knows t r e).0.0

  pub dropped_bound : (w : Walk) (ss : List Scopes.Scope) (t : Term) → At w ss → IsReadTerm ctx.word t → dropped_faults (env_at ctx w) t [] ≡ [] →
      IsBound n.slots ss (expression_tree (dropped_at (env_at ctx w) t))
  dropped_bound w ss t a r e = names_bound ss _ (dropped_is n ss (env_at ctx w) a.knows t r e).0

  pub constant_bound : (w : Walk) (ss : List Scopes.Scope) (t : Term) → At w ss → IsReadTerm ctx.word t → constant_faults (env_at ctx w) t [] ≡ [] →
      IsBound n.slots ss (expression_tree (constant_at (env_at ctx w) t))
  constant_bound w ss t a r e = names_bound ss _ (constant_is_value n ss (env_at ctx w) a.knows t r e).operand.0

  pub values_bound : (w : Walk) (ss : List Scopes.Scope) (o : Option Term) → At w ss → IfSome o (IsReadTerm ctx.word) →
      optional_faults (value_faults (env_at ctx w)) o [] ≡ []
      → IfSome (option_map expression_tree (option_map (value_at (env_at ctx w)) o)) (IsBound n.slots ss)
  values_bound w ss None a r e = tt
  values_bound w ss (Some t) a r e = value_bound w ss t a r e

  pub drops_bound : (w : Walk) (ss : List Scopes.Scope) (o : Option Term) → At w ss → IfSome o (IsReadTerm ctx.word) →
      optional_faults (dropped_faults (env_at ctx w)) o [] ≡ []
      → IfSome (option_map expression_tree (option_map (dropped_at (env_at ctx w)) o)) (IsBound n.slots ss)
  drops_bound w ss None a r e = tt
  drops_bound w ss (Some t) a r e = dropped_bound w ss t a r e

  pub returned_bound : (k : Option IntKind) (w : Walk) (ss : List Scopes.Scope) (first : ℕ) (o : Option Term) → At w ss →
      IfSome o (IsReadTerm ctx.word) → return_faults k (env_at ctx w) first o [] ≡ []
      → IfSome (option_map expression_tree (option_map (value_at (env_at ctx w)) o)) (IsBound n.slots ss)
  returned_bound k w ss first None a r e = tt
  returned_bound (Some k) w ss first (Some t) a r e = value_bound w ss t a r e
  returned_bound None w ss first (Some t) a r e = absurd (none_left _ _ e)
