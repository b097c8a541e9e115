-- Facts of the expressions of a source body come to what its function is lowered to.
use Rattle.std.proofs.Common.{◌≡◌, ℕ, zero, suc, ◌+◌, ◌-◌, ◌≤◌, arith, List, length, Option, ap, length-append}
use Rattle.c_tree.specs.declared.tree.Function.{Function}
use Rattle.c_tree.specs.declared.tree.Slot.{Slot}
use Rattle.c_tree.specs.ExpressionTrees.{ExpressionTree}
use Rattle.c_tree.specs.Everywhere.{total, Everywhere}
use Rattle.c_tree.specs.Trees.{Tree, Forest, join}
use Rattle.c_tree.proofs.KeptLemmas.{everywhere_join}
use Rattle.c_tree.proofs.WellMoved.{everywhere_map}
use Rattle.flat_laws.specs.Pieces.{Stays}
use Rattle.flat_laws.specs.Loose.{NoArrival}
use Rattle.flat_laws.specs.FlatForm.{first_here}
use Rattle.lower_laws.specs.Lowered.{lowered, declarations, variables_of}
use Rattle.lower_laws.specs.Lowering.{constructs, lowered_names}
use Rattle.flat_function.proofs.Forms.{named_length}
use Rattle.lower_result_laws.proofs.Variables.{more_length, counted}
use Rattle.lower_result_laws.proofs.Lowered.{blocks, switches, slots_are, layout_of, setting, have_variables}
use Rattle.whole_laws.proofs.Facts.{ItemHas}
use Rattle.lower_result_laws.proofs.FactsLowered.{H, AreH, F, lowered_has}

-- a function with this body, what it is lowered to where these names are used and taken, and the body of that
module _ (f : Function) (params : f.params ≤ length f.slots) (used taken : List (List ℕ)) (a : Forest) where
  abbrev pub new_slots : List Slot
  new_slots = (lowered_names used taken f a).slots

  pub slots_length : length new_slots ≡ length f.slots + total variables_of a
  slots_length =
      let e = ap length (slots_are used taken f a) in
      let l = length-append (blocks used taken f a).slots (switches used taken f a) in
      let m = named_length f.params taken used f.slots in
      let n = more_length 1 (constructs a) (blocks used taken f a).used in
      let c = counted a in
      omega (arith, e, l, m, n, c)

  abbrev pub list : Forest
  list = lowered (layout_of f a) (first_here (length f.slots)) Stays Stays NoArrival a

  abbrev pub front : Forest
  front = declarations f.params (length f.slots - f.params + total variables_of a)

  module _ (V O C : ExpressionTree → Type 0) (R : Option ExpressionTree → Type 0) (N : List ℕ → Type 0) where
    -- what is asked of an item of the source
    abbrev pub Source : Tree → Type 0
    Source x = F V O C R N (setting f a new_slots) (layout_of f a) x

    -- the list has the facts, and declares nothing
    pub list_has : Everywhere Source a → AreH V O C R N list
    list_has k =
        let e = slots_length in
        lowered_has V O C R N (setting f a new_slots) (layout_of f a) (first_here (length f.slots)) Stays Stays NoArrival a k
        (have_variables used taken f a params) (omega (arith, e))

    declarations_have : (x n : ℕ) → Everywhere (ItemHas V O C R N) (declarations x n)
    declarations_have x zero = tt
    declarations_have x (suc n) = (tt, declarations_have (suc x) n)

    pub facts_lowered : Everywhere Source a → Everywhere (ItemHas V O C R N) (join front list)
    facts_lowered k =
        everywhere_join (ItemHas V O C R N) front list (declarations_have f.params (length f.slots - f.params + total variables_of a))
        (everywhere_map (H V O C R N) (ItemHas V O C R N) (λ x h. h.0) list (list_has k))
