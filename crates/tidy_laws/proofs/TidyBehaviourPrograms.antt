-- The kinds of a program as the meaning reads it agree, where those of its functions do.
use Rattle.std.proofs.Common.{ℕ, zero, suc, ◌≤◌, pos, Bool, true, false, cond, ◌&&◌, List, [], ◌∷◌, map, length, Option, Some, None, option_map, bytes_eq, arith}
use Rattle.std.specs.Prelude.{All, is_some}
use Rattle.std.specs.List.{AllByRecursion}
use Rattle.std.specs.Option.{option_map_or}
use Rattle.std.proofs.lemmas.List.Elements.{recursion_from_All}
use Rattle.c_types.specs.declared.kinds.IntKind.{IntKind}
use Rattle.c_types.specs.declared.kinds.IntKind.TheVariants.{Int}
use Rattle.c_types.specs.Numbers.{converted, IsInRange}
use Rattle.c_types.proofs.Residues.{converted-in_range}
use Rattle.c_tree.specs.declared.tree.Function.{Function}
use Rattle.c_tree.specs.declared.tree.Item.{Item}
use Rattle.c_tree.specs.declared.tree.Top.{Top}
use Rattle.c_tree.specs.declared.tree.Top.TheVariants as T
use Rattle.c_tree.specs.declared.tree.Program.{Program}
use Rattle.c_tree.specs.declared.tree.Expression.{Expression}
use Rattle.c_tree.specs.ExpressionTrees.{ExpressionTree}
use Rattle.c_tree.specs.Trees.{Nil, trees_of, expression_trees}
use Rattle.c_tree.specs.Everywhere.{Everywhere}
use Rattle.jump_meaning.specs.Values.{Variable}
use Rattle.jump_meaning.specs.Code.{FunctionTree, Code, entry_or, items_of, function_tree, undeclared, function_in, first_of, function_named, constant_or_zero, initial_variable, global_named, code_of}
use Rattle.plain_laws.specs.Kinded.{KindedItem}
use Rattle.plain_laws.specs.Slotted.{HoldsInKind}
use Rattle.plain_laws.proofs.Memories.{zero_in_range}
use Rattle.tidy_laws.specs.TidyBehaviourLaws.{HasKinds, FunctionHasKinds, TopHasKinds}

-- ---- variables of file scope

entries_in : (k : IntKind) (es : List ExpressionTree) (i : ℕ) → IsInRange k (entry_or (pos 0) (map (λ e. converted k (constant_or_zero e)) es) i)
entries_in k [] i = zero_in_range k
entries_in k (e ∷ es) zero = converted-in_range k (constant_or_zero e)
entries_in k (e ∷ es) (suc i) = entries_in k es i

initial_in : (k : IntKind) (o : Option (List Expression)) (i : ℕ) → IsInRange k
    (entry_or (pos 0) (option_map_or (λ es. map (λ e. converted k (constant_or_zero e)) (expression_trees es)) o []) i)
initial_in k None i = zero_in_range k
initial_in k (Some es) i = entries_in k (expression_trees es) i

chosen_variable : (b : Bool) (x y : Variable) → HoldsInKind x → HoldsInKind y → HoldsInKind (cond b x y)
chosen_variable true x y h g = h
chosen_variable false x y h g = g

globals_in : (m : List ℕ) (ts : List Top) → HoldsInKind (global_named m ts)
globals_in m [] = λ i. zero_in_range Int
globals_in m (T.Global g ∷ ts) = chosen_variable (bytes_eq g.slot.name m) (initial_variable g) (global_named m ts) (initial_in g.slot.kind g.init)
    (globals_in m ts)
globals_in m (T.Function f ∷ ts) = globals_in m ts
globals_in m (T.Include b ∷ ts) = globals_in m ts
globals_in m (T.Enum es ∷ ts) = globals_in m ts
globals_in m (T.Note b ∷ ts) = globals_in m ts

-- ---- functions

module _ (p : Code) where
  record Kinds (f : FunctionTree) : Type 0 where
    items : Everywhere (KindedItem p f.slots) (items_of f)
    parameters : f.params ≤ length f.slots

  abbrev MaybeKinds : Option FunctionTree → Type 0
  MaybeKinds None = Unit {0}
  MaybeKinds (Some f) = Kinds f

  of_function : (f : Function) → FunctionHasKinds p f → Kinds (function_tree f)
  of_function f h = record { items = at f.body h.items; parameters = h.parameters }
    where
      at : (o : Option (List Item)) → Everywhere (KindedItem p f.slots) (option_map_or trees_of o Nil) →
          Everywhere (KindedItem p f.slots) (option_map_or (λ a. a) (option_map trees_of o) Nil)
      at None h = h
      at (Some a) h = h

  chosen : (b : Bool) (o q : Option FunctionTree) → MaybeKinds o → MaybeKinds q → MaybeKinds (cond b o q)
  chosen true o q h k = h
  chosen false o q h k = k

  found : (r : Function → Bool) (m : List ℕ) (ts : List Top) → AllByRecursion (TopHasKinds p) ts → MaybeKinds (function_in r m ts)
  found r m [] h = tt
  found r m (T.Function f ∷ ts) h = chosen (bytes_eq f.name m && r f) (Some (function_tree f)) (function_in r m ts) (of_function f h.0) (found r m ts h.1)
  found r m (T.Include b ∷ ts) h = found r m ts h.1
  found r m (T.Enum es ∷ ts) h = found r m ts h.1
  found r m (T.Global g ∷ ts) h = found r m ts h.1
  found r m (T.Note b ∷ ts) h = found r m ts h.1

  first_found : (o q : Option FunctionTree) → MaybeKinds o → MaybeKinds q → Kinds (first_of o q undeclared)
  first_found (Some f) q h k = h
  first_found None (Some f) h k = k
  first_found None None h k = record { items = tt; parameters = omega arith }

  named : (m : List ℕ) (ts : List Top) → AllByRecursion (TopHasKinds p) ts → Kinds (function_named m ts)
  named m ts h = first_found (function_in (λ f. is_some f.body) m ts) (function_in (λ f. true) m ts) (found (λ f. is_some f.body) m ts h)
      (found (λ f. true) m ts h)

pub program_kinds : (p : Program) → All (TopHasKinds (code_of p)) p.tops → HasKinds (code_of p)
program_kinds p h =
    let k = recursion_from_All (TopHasKinds (code_of p)) p.tops h in
    record {
      items = λ m. (named (code_of p) m p.tops k).items;
      parameters = λ m. (named (code_of p) m p.tops k).parameters;
      numbers = λ m. globals_in m p.tops;
    }
