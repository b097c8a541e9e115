-- The kinds of such a file agree as its meaning reads it.
use Rattle.std.proofs.Common.{ℕ, List, [], ◌∷◌, slice_get, false, ◌≡◌}
use Rattle.std.specs.Prelude.{IfSome}
use Rattle.std.proofs.lemmas.List.Elements.{All-from_recursion}
use Rattle.std.proofs.lemmas.Option.{slice_get_within}
use Rattle.c_tree.specs.declared.tree.Slot.{Slot}
use Rattle.c_tree.specs.declared.tree.Function.{Function}
use Rattle.c_tree.specs.declared.tree.Top.{Top}
use Rattle.c_tree.specs.declared.tree.Top.TheVariants as T
use Rattle.c_tree.specs.declared.tree.Program.{Program}
use Rattle.c_tree.specs.Trees.{Tree, Evaluate, Return, If, While, Do, For, Switch, Local, Arm}
use Rattle.c_tree.specs.InRange.{body_of}
use Rattle.c_tree.proofs.WellMoved.{everywhere_map, everywhere_both}
use Rattle.jump_meaning.specs.Code.{code_of}
use Rattle.plain_laws.specs.Kinded.{gives_int, KindedItem}
use Rattle.struct_meaning.specs.Structured.{IsStructured}
use Rattle.c_resolved_defs.specs.Within.{Each}
use Rattle.c_resolved_defs.specs.Names.{the_function}
use Rattle.c_resolved_defs.specs.Kinds.{ItemAgrees}
use Rattle.c_resolved_defs.specs.Resolved.{IsInitialised, names_in}
use Rattle.c_resolved_laws.proofs.Ranged.{the_some}
use Rattle.c_resolved_laws.proofs.ItemsGiven.{test_kinded, selector_kinded, value_kinded, operand_kinded, given_kinded}
use Rattle.c_resolved_laws.proofs.KindsGiven.{names, kinded, unknown_named}
use Rattle.tidy_laws.specs.TidyBehaviourLaws.{HasKinds, FunctionHasKinds, TopHasKinds}
use Rattle.tidy_laws.proofs.TheLaws.{tidy_law}
use Rattle.tidy_result_laws.proofs.Loose.{IsLoose, TopIsLoose, IsLooseFile}

module _ (p : Program) (ss : List Slot) (unknown : (m : List ℕ) → IfSome (the_function m p.tops) (λ f. gives_int m ≡ false)) where
  abbrev Known : Tree → Type 0
  Known x = ItemAgrees (names p ss unknown) x × (IsInitialised ss x × IsStructured x)

  item_kinded : (x : Tree) → Known x → KindedItem (code_of p) ss x
  item_kinded (Evaluate e) h = kinded p ss unknown e h.0.values h.0.kinds
  item_kinded (Return e) h = value_kinded p ss unknown e h.0.kinds h.0.values
  item_kinded (If t a b) h = test_kinded p ss unknown t h.0.kinds h.0.values
  item_kinded (While t a) h = test_kinded p ss unknown t h.0.kinds h.0.values
  item_kinded (Do a t) h = test_kinded p ss unknown t h.0.kinds h.0.values
  item_kinded (For first t u a) h = let k = h.0.kinds in let v = h.0.values in (value_kinded p ss unknown t k.0 v.0, operand_kinded p ss unknown u k.1 v.1)
  item_kinded (Switch s c) h = let k = h.0.kinds in selector_kinded p ss unknown s k.0 h.0.values
  item_kinded (Local x given) h = let s = the_some _ (slice_get ss x) h.1.0 in
      (slice_get_within ss x s.0 s.1, given_kinded p ss unknown given h.0.kinds h.0.values)
  item_kinded (Arm l e) h = absurd h.1.1
  item_kinded x h = tt

module _ (p : Program) (l : IsLooseFile p.tops) where
  function_kinds : (f : Function) → IsLoose p.tops f → FunctionHasKinds (code_of p) f
  function_kinds f k =
      let u = unknown_named p.tops l.bound in
      let a = body_of f in
      record {
        items =
            everywhere_map (Known p f.slots u) (KindedItem (code_of p) f.slots) (item_kinded p f.slots u) a
            (everywhere_both (ItemAgrees (names_in p.tops f)) (λ x. IsInitialised f.slots x × IsStructured x) a k.kinds
            (everywhere_both (IsInitialised f.slots) IsStructured a k.initialised k.structured));
        parameters = k.parameters;
      }

  tops_kinds : (ts : List Top) → Each (TopIsLoose p.tops) ts → Each (TopHasKinds (code_of p)) ts
  tops_kinds [] k = tt
  tops_kinds (T.Function f ∷ ts) k = (function_kinds f k.0, tops_kinds ts k.1)
  tops_kinds (T.Include b ∷ ts) k = (tt, tops_kinds ts k.1)
  tops_kinds (T.Enum xs ∷ ts) k = (tt, tops_kinds ts k.1)
  tops_kinds (T.Global g ∷ ts) k = (tt, tops_kinds ts k.1)
  tops_kinds (T.Note b ∷ ts) k = (tt, tops_kinds ts k.1)

  pub loose_kinds : HasKinds (code_of p)
  loose_kinds = tidy_law.kinds p (All-from_recursion (TopHasKinds (code_of p)) p.tops (tops_kinds p.tops l.tops))
