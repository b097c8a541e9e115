-- Items that hold no list: what stands in their place, arm by arm.
use Rattle.std.proofs.Common.{◌≡◌, ℕ, List, Option, Some, None, option_map, refl, sym, ◌∙◌}
use Rattle.c_tree.specs.Changed.{one}
use Rattle.c_tree.specs.declared.tree.Item.{Item, Item-F, Block, out-Item, roll-Item, roll-out-Item}
use Rattle.c_tree.specs.declared.tree.Item.TheVariants.{rolls-If, rolls-While, rolls-Do, rolls-For, rolls-Switch, rolls-Block, rolls-Local, rolls-Break, rolls-Continue, rolls-Goto, rolls-Mark, rolls-Arrival}
use Rattle.c_tree.specs.declared.tree.Item.TheOpen as O
use Rattle.c_tree.specs.declared.tree.Item as I
use Rattle.c_tree.specs.declared.tree.Selector.{Selector}
use Rattle.c_tree.specs.declared.tree.Test.{Test}
use Rattle.c_tree.specs.declared.tree.Section as Real
use Rattle.c_tree.specs.declared.tree.Expression.{Expression}
use Rattle.c_tree.specs.ExpressionTrees.{ExpressionTree}
use Rattle.c_tree.specs.Trees as P
use Rattle.c_tree.specs.Trees.{Tree, expression_trees}
use Rattle.c_tree.specs.Views.{layer_at, tree_at}
use Rattle.flat_laws.specs.Pieces.{Aim}
use Rattle.flat_laws.specs.Loose.{Arrivals}
use Rattle.flat_laws.specs.Parts.{Here}
use Rattle.lower_laws.specs.Lowered.{Layout, past_item, lowered_item}
use Rattle.lower_items.specs.Forms.{simple_form, local_form}
use Rattle.lower_items.proofs.Steps.{still}

local_is : (p : Layout) (h : Here) (b c : Aim) (r : Arrivals) (x : ℕ) (es : Option (List ExpressionTree)) →
    local_form p x es ≡ lowered_item p h b c r (P.Local x es)
local_is p h b c r x None = refl
local_is p h b c r x (Some es) = refl

-- an item that has no number of its own
pub record IsSimple (p : Layout) (h : Here) (b c : Aim) (r : Arrivals) (x : Tree) : Type 0 where
  pub stays : simple_form p b c r x ≡ lowered_item p h b c r x
  pub still : h ≡ past_item x h

pub simple_item : (p : Layout) (h : Here) (b c : Aim) (r : Arrivals) (x : Item) → ((t : Test) (a d : List Item) → x ≡ I.If t a d → ⊥)
    → ((t : Test) (a : List Item) → x ≡ I.While t a → ⊥)
    → ((a : List Item) (t : Test) → x ≡ I.Do a t → ⊥) → ((f : List Item) (t u : Option Expression) (a : List Item) → x ≡ I.For f t u a → ⊥)
    → ((s : Selector) (d : List Real.Section) → x ≡ I.Switch s d → ⊥) → ((a : List Item) → x ≡ Block a → ⊥) → IsSimple p h b c r (tree_at x)
simple_item p h b c r x i w d f s k = put (out-Item x) (sym (roll-out-Item x)) where
  put : (y : Item-F Item Real.Section) → x ≡ roll-Item y → IsSimple p h b c r (layer_at y)
  put (O.If t a z) e = absurd (i t a z (e ∙ rolls-If t a z))
  put (O.While t a) e = absurd (w t a (e ∙ rolls-While t a))
  put (O.Do a t) e = absurd (d a t (e ∙ rolls-Do a t))
  put (O.For z t u a) e = absurd (f z t u a (e ∙ rolls-For z t u a))
  put (O.Switch t z) e = absurd (s t z (e ∙ rolls-Switch t z))
  put (O.Block a) e = absurd (k a (e ∙ rolls-Block a))
  put (O.Local l z) e = record { stays = local_is p h b c r l (option_map expression_trees z); still = sym (still h) }
  put y e = record { stays = refl; still = sym (still h) }

-- an item that stays as it is
pub same_item : (p : Layout) (b c : Aim) (r : Arrivals) (x : Item) → ((l : ℕ) (es : Option (List Expression)) → x ≡ I.Local l es → ⊥)
    → (x ≡ I.Break → ⊥) → (x ≡ I.Continue → ⊥) → ((l : ℕ) → x ≡ I.Goto l → ⊥) → ((l : ℕ) → x ≡ I.Mark l → ⊥)
    → ((e : Option Expression) → x ≡ I.Arrival e → ⊥) → simple_form p b c r (tree_at x) ≡ one (tree_at x)
same_item p b c r x v br co g m ar = put (out-Item x) (sym (roll-out-Item x)) where
  put : (y : Item-F Item Real.Section) → x ≡ roll-Item y → simple_form p b c r (layer_at y) ≡ one (layer_at y)
  put (O.Local l z) e = absurd (v l z (e ∙ rolls-Local l z))
  put O.Break e = absurd (br (e ∙ rolls-Break))
  put O.Continue e = absurd (co (e ∙ rolls-Continue))
  put (O.Goto l) e = absurd (g l (e ∙ rolls-Goto l))
  put (O.Mark l) e = absurd (m l (e ∙ rolls-Mark l))
  put (O.Arrival z) e = absurd (ar z (e ∙ rolls-Arrival z))
  put y e = refl
