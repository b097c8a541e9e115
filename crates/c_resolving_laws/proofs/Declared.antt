-- A declared variable of a block: its slot, what its name is bound to, and its initialisers.
use Rattle.std.proofs.Common.{ℕ, true, cond, ℤ, List, [], ◌∷◌, ◌++◌, map, length, Option, Some, None, is_some, option_map, ◌≡◌, refl, ap, ◌∙◌, slice_get}
use Rattle.std.specs.Prelude.{IfSome}
use Rattle.c_tree.specs.declared.tree.Slot.{Slot}
use Rattle.c_tree.specs.declared.tree.Home.TheVariants as H
use Rattle.c_tree.specs.declared.tree.Expression.{Expression}
use Rattle.c_tree.specs.ExpressionTrees.{ExpressionTree, expression_tree}
use Rattle.c_tree.specs.Trees.{expression_trees}
use Rattle.c_grammar.specs.Terms.{Term}
use Rattle.c_grammar.specs.Items.{Size, NoSize, Unsized, Sized, Initialiser, NoValue, OneValue, ValueList, Declarator}
use Rattle.c_kinds.specs.declared.binding.Binding.TheVariants.{Local}
use Rattle.c_kinds.specs.Constants.{constant_of}
use Rattle.c_kinds.specs.Typing.{typed}
use Rattle.c_kinds.specs.Scopes.{Env, Faults}
use Rattle.c_statements.specs.declared.extents.Kinded.{Kinded}
use Rattle.c_statements.specs.Context.{Walk, env_in}
use Rattle.c_statements.specs.Declarations.{of_length, constant_extent, extent, cells_of, is_array, shape_of, slot_of, declared, in_bounds, initial, initial_faults, each_faults, local_faults}
use Rattle.c_resolved_defs.specs.Names.{Names}
use Rattle.c_resolved_defs.specs.Scopes as Scopes
use Rattle.c_resolved_defs.specs.Scopes.{AVariable}
use Rattle.c_resolved_defs.specs.Within.{Each}
use Rattle.c_resolving_laws.proofs.Lists.{is_some_and}
use Rattle.c_resolving_laws.proofs.Known.{HasShape, IsKnown, Knows}
use Rattle.c_resolving_laws.specs.Read.{IsReadTerm, IsReadInitialiser}
use Rattle.c_kinds.proofs.Entries.{names_same}
use Rattle.c_resolving_laws.proofs.Bindings.{knows_bound, look_up_tree}
use Rattle.c_resolving_laws.proofs.Parts.{parted, local_parts}
use Rattle.c_resolving_laws.proofs.Empty.{Empties, each_empty}
use Rattle.c_resolving_laws.proofs.Walk.{Begins}

-- ---- slots

pub slot_there : (xs rest : List Slot) (s : Slot) → slice_get (xs ++ s ∷ [] ++ rest) (length xs) ≡ Some s
slot_there [] rest s = refl
slot_there (x ∷ xs) rest s = slot_there xs rest s

some_of_length : (o : Option ℕ) → is_some (cells_of (of_length o)) ≡ true
some_of_length None = refl
some_of_length (Some n) = refl

cells_there : (env : Env) (size : Size) (value : Initialiser) → is_some (cells_of (extent env size value)) ≡ is_array size
cells_there env NoSize value = refl
cells_there env Unsized NoValue = refl
cells_there env Unsized (OneValue t) = refl
cells_there env Unsized (ValueList ts) = refl
cells_there env (Sized t) value = by (option_map (λ c. c.1) (constant_of (typed env t)))
  where
    by : (o : Option ℤ) → is_some (cells_of (constant_extent o)) ≡ true
    by None = refl
    by (Some n) = some_of_length (in_bounds n)

pub slot_shape : (env : Env) (k : Kinded) (d : Declarator) → HasShape (shape_of k d) (slot_of env k d)
slot_shape env k d = record { kind = refl; array = cells_there env d.size d.value; constant = refl }

-- ---- its name

pub local_known : (word : ℕ → List ℕ) (n : Names) (k : Kinded) (d : Declarator) (w : Walk) (ss : List Scopes.Scope) → Begins (declared word k d w).slots n.slots
    → IsKnown n (Scopes.bind (word d.name) (AVariable (H.Slot (length w.slots))) ss) (word d.name) (Local (length w.slots) (shape_of k d))
local_known word n k d w ss b =
    let m = word d.name in
    let s = slot_of (env_in word w) k d in (
      is_some_and _ (slice_get n.slots (length w.slots)) s (ap (λ l. slice_get l (length w.slots)) b.1 ∙ slot_there w.slots b.0 s)
          (refl, slot_shape (env_in word w) k d),
      look_up_tree m m (AVariable (H.Slot (length w.slots))) ss ∙ ap (λ t. cond t (Some (AVariable (H.Slot (length w.slots)))) (Scopes.look_up ss m))
          (names_same m m refl),
    )

-- the scopes of the tree behind it
abbrev pub behind_local : (ℕ → List ℕ) → Declarator → Walk → List Scopes.Scope → List Scopes.Scope
behind_local word d w ss = Scopes.bind (word d.name) (AVariable (H.Slot (length w.slots))) ss

pub knows_declared : (word : ℕ → List ℕ) (n : Names) (k : Kinded) (d : Declarator) (w : Walk) (ss : List Scopes.Scope) →
    local_faults word k d w [] ≡ [] → Begins (declared word k d w).slots n.slots
    → Knows n ss (env_in word w) → Knows n (behind_local word d w ss) (env_in word (declared word k d w))
knows_declared word n k d w ss e b old =
    knows_bound n word (word d.name) (Local (length w.slots) (shape_of k d)) (AVariable (H.Slot (length w.slots))) w.scopes ss
    (local_parts word k d w e).new (local_known word n k d w ss b) old

-- ---- its initialisers

module _ (word : ℕ → List ℕ) (k : Term → Faults → Faults) (empty : (t : Term) → Empties (k t)) (v : Term → Expression) (Q : ExpressionTree → Type 0)
    (f : (t : Term) → IsReadTerm word t → k t [] ≡ [] → Q (expression_tree (v t))) where
  each_value : (ts : List Term) → Each (IsReadTerm word) ts → each_faults k ts [] ≡ [] → Each Q (expression_trees (map v ts))
  each_value [] r e = tt
  each_value (t ∷ ts) r e = let p = parted (each_faults k ts) (k t) (each_empty k empty ts) e in (f t r.0 p.0, each_value ts r.1 p.1)

  pub values_are : (i : Initialiser) → IsReadInitialiser word i → initial_faults k i [] ≡ [] → IfSome (option_map expression_trees (initial v i)) (Each Q)
  values_are NoValue r e = tt
  values_are (OneValue t) r e = (f t r e, tt)
  values_are (ValueList ts) r e = each_value ts r.1 e
