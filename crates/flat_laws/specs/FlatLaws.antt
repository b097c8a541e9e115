-- The laws of the flat form, which `flat_laws` states.
use Rattle.std.specs.Prelude.{ℕ, ℤ, List, true, cond, Some, None, IsSome, ◌≡◌}
use Rattle.c_types.specs.declared.kinds.IntKind.{IntKind}
use Rattle.c_tree.specs.declared.tree.Slot.{Slot}
use Rattle.c_tree.specs.ExpressionTrees.{ExpressionTree}
use Rattle.c_tree.specs.Trees.{Forest}
use Rattle.c_tree.specs.Everywhere.{Everywhere}
use Rattle.jump_meaning.specs.Code.{FunctionTree, items_of, entry_or}
use Rattle.jump_meaning.specs.World.{no_slot}
use Rattle.flat_laws.specs.Pieces.{Stays}
use Rattle.flat_laws.specs.Placed.{Has, IsOnce}
use Rattle.flat_laws.specs.Loose.{Setting, slot_of, IsLocal, Open, NoArrival, Looser, ExtendSlots, IsLooser}
use Rattle.c_tree.specs.TextItems.{is_empty}
use Rattle.flat_laws.specs.Parts.{arrivals, Here}
use Rattle.flat_laws.specs.FlatForm.{Plan, flat, flat_body}
use Rattle.flat_laws.specs.Source.{IsSourceItem, HaveVariables, HasOwnLabels}
use Rattle.flat_laws.specs.Unlabelled.{IsUnlabelledFrom}

-- the body of a resolved function, with what the plan of its flat form takes of it
pub record IsSourceBody (p : Plan) (s : Setting) (h : Here) (body : Forest) : Type 0 where
  -- the labels that are named stay, under their new numbers
  pub labels : (l : ℕ) → s.labels l ≡ cond (p.live l) (Some (p.source l)) None
  pub slots : (x : ℕ) → IsLocal s x → (slot_of s x).cells ≡ (entry_or no_slot p.slots x).cells
  pub number : s.number ≡ p.number
  pub items : Everywhere (IsSourceItem s p.live) body
  -- each scattered switch has its variable, and no case label is outside a switch
  pub variables : HaveVariables s h body
  pub bound : is_empty (arrivals body) ≡ true

-- g is f with the flat form of its body, and further variables
pub record IsFlattened (p : Plan) (s : Setting) (h : Here) (f g : FunctionTree) : Type 0 where
  pub defined : IsSome f.body
  pub new_defined : IsSome g.body
  pub source : IsSourceBody p s h (items_of f)
  pub body : items_of g ≡ flat p h Stays Stays NoArrival (items_of f)
  pub named : (l : ℕ) → p.live l ≡ true → Has l (items_of f)
  pub result : f.result ≡ g.result
  pub params : f.params ≡ g.params
  pub slots : ExtendSlots f.slots g.slots
  pub same_params : s.params ≡ f.params
  pub same_old : s.old ≡ f.slots
  pub same_new : s.new ≡ g.slots

-- a flat form is a looser body, and its labels stand once
pub record FlatLaws : Type 0 where
  -- the flat form of a body is looser
  pub of_bodies : (p : Plan) (s : Setting) (h : Here) (body : Forest) → IsSourceBody p s h body →
      Looser s Open Stays Stays NoArrival body (flat p h Stays Stays NoArrival body)
  -- each label of it stands at most once, where that is so in the source, and the cases of each scattered switch differ
  pub once : (number : IntKind → ℤ → ExpressionTree) (slots : List Slot) (n : ℕ) (body : Forest) → HasOwnLabels n body → IsOnce (flat_body number slots n body)
  -- so is a function whose labels each stand once
  pub of_functions : (p : Plan) (s : Setting) (h : Here) (f g : FunctionTree) → IsFlattened p s h f g → IsOnce (items_of f) → IsOnce (items_of g) → IsLooser f g
  -- and one without jumps that loses its labels
  pub unlabelled : (s : Setting) (f g : FunctionTree) → IsUnlabelledFrom s f g → IsOnce (items_of f) → IsLooser f g
