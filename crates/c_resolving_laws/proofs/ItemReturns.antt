-- A value is returned exactly where the function gives one, and initialisers fit their variables.
use Rattle.std.proofs.Common.{ℕ, true, List, [], length, Option, Some, None, option_map, ◌≡◌, ap, ◌∙◌, slice_get}
use Rattle.c_types.specs.declared.kinds.IntKind.{IntKind}
use Rattle.c_tree.specs.declared.tree.Slot.{Slot}
use Rattle.c_tree.specs.ExpressionTrees.{ExpressionTree, expression_tree}
use Rattle.c_tree.specs.Trees.{Tree, expression_trees}
use Rattle.c_tree.specs.Trees as tree
use Rattle.c_grammar.specs.Terms.{Term}
use Rattle.c_grammar.specs.Items.{Declarator}
use Rattle.c_kinds.specs.Scopes.{Scope, Env}
use Rattle.c_statements.specs.declared.extents.Kinded.{Kinded}
use Rattle.c_statements.specs.Context.{Context, Walk, env_at, env_in}
use Rattle.c_statements.specs.Declarations.{declared, slot_of, initial, value_at, local_faults}
use Rattle.c_statements.specs.Violations.{return_faults}
use Rattle.c_resolved_defs.specs.Files.{SlotIsInitialised}
use Rattle.c_resolved_defs.specs.Kinds.{ReturnFits}
use Rattle.c_resolved_defs.specs.Resolved.{IsInitialised}
use Rattle.c_resolving_laws.proofs.Arrays.{array_fine}
use Rattle.c_resolving_laws.proofs.Declared.{slot_there}
use Rattle.c_resolving_laws.proofs.Lists.{none_left, is_some_and}
use Rattle.c_resolving_laws.proofs.Parts.{local_parts}
use Rattle.c_resolving_laws.specs.Read.{IsReadDeclarator}
use Rattle.c_resolving_laws.proofs.Walk.{each_note, Begins, Closed}

-- nothing is known of a place
abbrev pub Anywhere : List Scope → Type 0
Anywhere s = Unit {0}

abbrev pub AnyConstant : ExpressionTree → Type 0
AnyConstant e = Unit {0}

abbrev IsNoReturn : Tree → Type 0
IsNoReturn (tree.Return e) = ⊥
IsNoReturn _ = Unit {0}

other_fits : (k : Option IntKind) (x : Tree) → IsNoReturn x → ReturnFits k x
other_fits None (tree.Return e) h = absurd h
other_fits None _ h = tt
other_fits (Some k) (tree.Return e) h = absurd h
other_fits (Some k) _ h = tt

return_fits : (k : Option IntKind) (env : Env) (first : ℕ) (t : Option Term) → return_faults k env first t [] ≡ [] →
    ReturnFits k (tree.Return (option_map expression_tree (option_map (value_at env) t)))
return_fits (Some k) env first (Some t) e = tt
return_fits (Some k) env first None e = absurd (none_left _ _ e)
return_fits None env first (Some t) e = absurd (none_left _ _ e)
return_fits None env first None e = tt

pub returns_closed : (ctx : Context) (final : List Slot) → Closed ctx final Anywhere (ReturnFits ctx.result) AnyConstant
returns_closed ctx final =
    let other : (x : Tree) → IsNoReturn x → ReturnFits ctx.result x = other_fits ctx.result in
    record {
      into = λ s i. tt;
      binds = λ k d w r e b i. tt;
      note = λ a. each_note (ReturnFits ctx.result) (λ bs. other (tree.Note bs) tt) (ctx.notes a);
      evaluates = λ w t i r e. other (tree.Evaluate _) tt;
      ifs = λ w t a b i r e. other (tree.If _ a b) tt;
      whiles = λ w t a i r e. other (tree.While _ a) tt;
      dos = λ w t a i r e. other (tree.Do a _) tt;
      fors = λ w start t u a i j b rs rt ru es et eu. other (tree.For _ _ _ a) tt;
      switches = λ around w t b i r rb nb ev eb es cs. other (tree.Switch _ _) tt;
      block = λ a. other (tree.Block a) tt;
      locals = λ k d w r e b i j. other (tree.Local _ _) tt;
      breaks = other tree.Break tt;
      continues = other tree.Continue tt;
      gotos = λ at h. other (tree.Goto _) tt;
      returns = λ w first t i r e. return_fits ctx.result (env_at ctx w) first t e;
      marks = λ at. other (tree.Mark _) tt;
      arrives = λ w t i r e. other (tree.Arrival _) tt;
      defaults = other (tree.Arrival None) tt;
      cases = λ w t i r e. tt;
    }

local_initialised : (ctx : Context) (final : List Slot) (k : Kinded) (d : Declarator) (w : Walk) → IsReadDeclarator ctx.word d →
    local_faults ctx.word k d w [] ≡ [] → Begins (declared ctx.word k d w).slots final
    → SlotIsInitialised (slice_get final (length w.slots))
    (option_map expression_trees (initial (value_at (env_in ctx.word (declared ctx.word k d w))) d.value))
local_initialised ctx final k d w r e b =
    let p = local_parts ctx.word k d w e in
    let s = slot_of (env_in ctx.word w) k d in
    is_some_and _ (slice_get final (length w.slots)) s (ap (λ l. slice_get l (length w.slots)) b.1 ∙ slot_there w.slots b.0 s)
    (array_fine ctx.word (value_at (env_in ctx.word (declared ctx.word k d w))) true (env_in ctx.word w) d p.size r.value p.array).1

pub initialised_closed : (ctx : Context) (final : List Slot) → Closed ctx final Anywhere (IsInitialised final) AnyConstant
initialised_closed ctx final =
    record {
      into = λ s i. tt;
      binds = λ k d w r e b i. tt;
      note = λ a. each_note (IsInitialised final) (λ bs. tt) (ctx.notes a);
      evaluates = λ w t i r e. tt;
      ifs = λ w t a b i r e. tt;
      whiles = λ w t a i r e. tt;
      dos = λ w t a i r e. tt;
      fors = λ w start t u a i j b rs rt ru es et eu. tt;
      switches = λ around w t b i r rb nb ev eb es cs. tt;
      block = λ a. tt;
      locals = λ k d w r e b i j. local_initialised ctx final k d w r e b;
      breaks = tt;
      continues = tt;
      gotos = λ at h. tt;
      returns = λ w first t i r e. tt;
      marks = λ at. tt;
      arrives = λ w t i r e. tt;
      defaults = tt;
      cases = λ w t i r e. tt;
    }
