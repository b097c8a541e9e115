-- What `made_laws` states: the flat form of a source body is made well, before and after its conversion.
use Rattle.std.specs.Prelude.{ℕ, ℤ, List, length, true, false, ◌+◌, ◌<◌, ◌≤◌, ◌≡◌}
use Rattle.c_types.specs.declared.kinds.IntKind.{IntKind}
use Rattle.c_tree.specs.declared.tree.Function.{Function}
use Rattle.c_tree.specs.declared.tree.Slot.{Slot}
use Rattle.c_tree.specs.ExpressionTrees.{ExpressionTree}
use Rattle.c_tree.specs.Cases.{all_cases, defaults}
use Rattle.c_tree.specs.Everywhere.{total, Everywhere}
use Rattle.c_tree.specs.Exits.{breaks, continues}
use Rattle.c_tree.specs.InRange.{body_of, IsInRange}
use Rattle.c_tree.specs.Labels.{ItemLabels}
use Rattle.c_tree.specs.Slots.{ItemSlots}
use Rattle.c_tree.specs.Trees.{Forest, Sections}
use Rattle.c_tree.specs.WellMade.{IsWellMade}
use Rattle.c_tree.specs.Conversions.{convert}
use Rattle.jump_meaning.specs.Steady.{IsMadeWell}
use Rattle.c_tree.specs.Numerals.{constant}
use Rattle.flat_laws.specs.Loose.{NoArrival}
use Rattle.flat_laws.specs.Pieces.{Stays}
use Rattle.flat_laws.specs.Placed.{Has, IsOnce}
use Rattle.c_tree.specs.TextItems.{is_empty}
use Rattle.flat_laws.specs.Parts.{arrivals, is_scattered, switch_labels, cases_among, is_named, variables_of}
use Rattle.flat_laws.specs.FlatForm.{flat, marks, coded, first_here, flat_body}
use Rattle.flat_laws.specs.Unlabelled.{unlabelled}
use Rattle.flat_laws.specs.Source.{mark_bit, nones, HasOwnLabels}
use Rattle.flat_laws.specs.FlatMade.{IsFlatMade, IsPlainItem, IsUnjumped}

-- a source body with n labels, as it may be flattened
pub record IsGoodSource (n : ℕ) (body : Forest) : Type 0 where
  -- no guards; first parts of `for`s are expressions and declarations; a switch that isn't scattered has good cases
  pub items : Everywhere IsPlainItem body
  -- each label stands at most once, and the cases of each scattered switch differ
  pub own : HasOwnLabels n body
  -- the label of each goto stands in it
  pub stand : (l : ℕ) → is_named body l ≡ true → 0 < total (mark_bit l) body
  -- each case label is bound to a switch, and each exit to a construct
  pub cases : is_empty (arrivals body) ≡ true
  pub bound : breaks body + continues body ≡ 0

-- a flat body names slots below m and labels below n
pub record IsFlatInRange (m n : ℕ) (body : Forest) : Type 0 where
  pub slots : Everywhere (ItemSlots (λ x. x < m)) body
  pub labels : Everywhere (ItemLabels (λ l. l < n)) body

-- how many labels the flat form of a body has that has these slots and n labels
abbrev pub label_count : List Slot → ℕ → Forest → ℕ
label_count slots n body = length (marks (flat (coded constant slots n body) (first_here (length slots)) Stays Stays NoArrival body))

-- the flat form of a source body is made well, before and after its conversion
pub record MadeLaws : Type 0 where
  -- in a source body each label stands at most once, and each that a goto names stands
  pub once : (n : ℕ) (body : Forest) → IsGoodSource n body → IsOnce body
  pub named : (n : ℕ) (body : Forest) → IsGoodSource n body → (l : ℕ) → is_named body l ≡ true → Has l body
  -- a switch that isn't scattered has the labels of its sections alone
  pub unscattered : (d : Sections) → is_scattered d ≡ false → (cases_among (switch_labels d) ≡ all_cases d) × (nones (switch_labels d) ≡ defaults d)
  -- the flat form of a source body is a flat body that is made well
  pub of_bodies : (number : IntKind → ℤ → ExpressionTree) (slots : List Slot) (n : ℕ) (body : Forest) → IsGoodSource n body →
      IsFlatMade (flat_body number slots n body)
  -- and well made after its conversion
  pub of_conversions : (number : IntKind → ℤ → ExpressionTree) (slots : List Slot) (n : ℕ) (body : Forest) → IsGoodSource n body →
      IsWellMade (convert (flat_body number slots n body))
  -- its slots are those of the source and one for each scattered switch, and its labels those that stand in it
  pub ranges : (slots : List Slot) (n : ℕ) (body : Forest) → IsGoodSource n body → Everywhere (ItemSlots (λ x. x < length slots)) body
      → IsFlatInRange (length slots + total variables_of body) (label_count slots n body) (flat_body constant slots n body)
  -- the conversion of a flat body that is made well is well made
  pub converted : (body : Forest) → IsFlatMade body → IsWellMade (convert body)
  -- a function with a flat body that is made well is itself made well before its conversion
  pub of_functions : (f : Function) → IsFlatMade (body_of f) → IsMadeWell f
  -- a flat function is in range where its body is
  pub in_range : (f : Function) → f.flat ≡ true → f.params ≤ length f.slots → IsFlatInRange (length f.slots) (length f.labels) (body_of f) → IsInRange f
  -- a function without jumps whose labels are gone is in range and made well
  pub unlabelled : (f : Function) (body : Forest) → f.flat ≡ false → f.params ≤ length f.slots → body_of f ≡ unlabelled body →
      Everywhere IsUnjumped body → Everywhere (ItemSlots (λ x. x < length f.slots)) body
      → IsInRange f × IsMadeWell f
