-- The names of the variables of a function of the plain form.
use Rattle.std.specs.Prelude.{ℕ, ◌≡◌, ◌≢◌, false, List, map, take, drop}
use Rattle.c_types.specs.Words.{is_known}
use Rattle.c_tree.specs.declared.tree.Slot.{Slot}
use Rattle.c_tree.specs.declared.tree.EnumItem.{EnumItem}
use Rattle.c_tree.specs.declared.tree.Function.{Function}
use Rattle.c_tree.specs.declared.tree.Top.{Top}
use Rattle.c_tree.specs.declared.tree.Top.TheVariants as T
use Rattle.c_resolved_defs.specs.Within.{Each, AllDiffer}
use Rattle.c_resolved_defs.specs.PrintableExpressions.{IsName}

-- no name of file scope is this one
abbrev pub TopIsOther : List ℕ → Top → Type 0
TopIsOther m (T.Enum xs) = Each (λ (x : EnumItem). x.name ≢ m) xs
TopIsOther m (T.Global g) = g.slot.name ≢ m
TopIsOther m (T.Function f) = f.name ≢ m
TopIsOther m _ = Unit {0}

abbrev pub IsFreeIn : List Top → List ℕ → Type 0
IsFreeIn ts m = Each (TopIsOther m) ts

-- the variables of a function that are no parameters, in a file: each has a name of its own, which is no name of the
-- file, of a known function or of a parameter
pub record HasOwnNames (ts : List Top) (h : Function) : Type 0 where
  pub words : Each (λ (s : Slot). IsName s.name) (drop h.params h.slots)
  pub unknown : Each (λ (s : Slot). is_known s.name ≡ false) (drop h.params h.slots)
  pub free : Each (λ (s : Slot). IsFreeIn ts s.name) (drop h.params h.slots)
  pub apart : AllDiffer (map (λ (s : Slot). s.name) (drop h.params h.slots))
  pub beside : Each (λ (s : Slot). Each (λ (t : Slot). t.name ≢ s.name) (take h.params h.slots)) (drop h.params h.slots)
