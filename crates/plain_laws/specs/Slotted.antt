-- A program in which each function has variables in place of its guards.
use Rattle.std.specs.Prelude.{ℕ, ◌≡◌, ◌<◌, ◌≤◌, ◌+◌, pos, Bool, true, false, List, [], ◌∷◌, ◌++◌, length, Some, None, option_map}
use Rattle.c_types.specs.declared.kinds.IntKind.TheVariants.{Int}
use Rattle.c_types.specs.Numbers.{IsInRange}
use Rattle.c_tree.specs.declared.tree.Slot.{Slot}
use Rattle.c_tree.specs.Trees.{Tree, Forest, Nil, Then, If, While, Do, Switch, Local, Goto, Arm, Leap, Land, join}
use Rattle.c_tree.specs.Everywhere.{Everywhere}
use Rattle.c_tree.specs.Labels.{TestLabels, SelectorLabels}
use Rattle.c_tree.specs.Cases.{ArePicks}
use Rattle.jump_meaning.specs.Values.{Variable, Holds, Lent}
use Rattle.jump_meaning.specs.Code.{FunctionTree, Code, items_of}
use Rattle.jump_meaning.specs.Step.{switch_kind}
use Rattle.plain_laws.specs.Kinded.{KindedItem}
use Rattle.c_tree.specs.Numerals.{number}
use Rattle.plain_laws.specs.GuardSlots.{plain_list}

-- what stands for the guards of a function: their slots behind the others, the number of the slot of each
-- label, which labels have one, and the declarations at the top
pub record Guarding : Type 0 where
  pub more : List Slot
  pub slot : ℕ → ℕ
  pub left : ℕ → Bool
  pub declarations : Forest

-- a function with variables for its guards, declared at the top
abbrev pub slotted : Guarding → FunctionTree → FunctionTree
slotted g f = record {
  result = f.result;
  params = f.params;
  slots = f.slots ++ g.more;
  body = option_map (λ a. join g.declarations (plain_list g.slot a)) f.body;
}

-- each function of a program with its own
abbrev pub slotted_code : (List ℕ → Guarding) → Code → Code
slotted_code g p = record { functions = λ m. slotted (g m) (p.functions m); globals = p.globals; cells = p.cells }

-- ---- where that is right

-- ints
abbrev pub AreInts : List Slot → Type 0
AreInts [] = Unit {0}
AreInts (s ∷ ss) = (s.kind ≡ Int) × (s.cells ≡ None) × AreInts ss

-- the declaration of a variable without a value, or of one of the slots from `base` on with the value 0
pub data IsDeclaration (base end : ℕ) : Tree → Type 0 where
  variable : (x : ℕ) → IsDeclaration base end (Local x None)
  guarding : (x : ℕ) → base ≤ x → x < end → IsDeclaration base end (Local x (Some (number Int (pos 0) ∷ [])))

-- a list of such declarations
pub data AreDeclarations (base end : ℕ) : Forest → Type 0 where
  none : AreDeclarations base end Nil
  one_more : {x : Tree} {xs : Forest} → IsDeclaration base end x → AreDeclarations base end xs → AreDeclarations base end (Then x xs)

-- of each label whose guard an item sets, resets or tests
abbrev pub ArmLabels : (ℕ → Type 0) → Tree → Type 0
ArmLabels P (Arm l e) = P l
ArmLabels P (Land l) = P l
ArmLabels P (If t a b) = TestLabels P t
ArmLabels P (While t a) = TestLabels P t
ArmLabels P (Do a t) = TestLabels P t
ArmLabels P (Switch s c) = SelectorLabels P s
ArmLabels P _ = Unit {0}

-- no Leap; and a Goto only where no label has a guard
abbrev pub IsUnleaping : Bool → Tree → Type 0
IsUnleaping jumping (Leap l) = ⊥
IsUnleaping jumping (Goto l) = jumping ≡ true
IsUnleaping jumping (Land l) = jumping ≡ false
IsUnleaping jumping _ = Unit {0}

-- each number that a guard selects by is one of the kind of the selector
abbrev pub PicksFit : Tree → Type 0
PicksFit (Switch s c) = ArePicks (switch_kind s) s
PicksFit _ = Unit {0}

-- an item whose expressions have kinds that agree, whose labels have variables, and that doesn't jump by a guard
pub record Fits (p : Code) (ss : List Slot) (left : ℕ → Bool) (jumping : Bool) (x : Tree) : Type 0 where
  pub kinded : KindedItem p ss x
  pub labels : ArmLabels (λ l. left l ≡ true) x
  pub form : IsUnleaping jumping x
  pub picks : PicksFit x

-- these variables may stand for the guards of the function
pub record IsSlotted (p : Code) (f : FunctionTree) (g : Guarding) : Type 0 where
  pub parameters : f.params ≤ length f.slots
  pub ints : AreInts g.more
  -- a function without a body has no more slots
  pub bodiless : f.body ≡ None → g.more ≡ []
  -- the slots of guards are new, and each its own
  pub beyond : (l : ℕ) → g.left l ≡ true → length f.slots ≤ g.slot l
  pub within : (l : ℕ) → g.left l ≡ true → g.slot l < length f.slots + length g.more
  pub apart : (l m : ℕ) → g.left l ≡ true → g.left m ≡ true → g.slot l ≡ g.slot m → l ≡ m
  pub declared : AreDeclarations (length f.slots) (length f.slots + length g.more) g.declarations
  -- it has gotos and no guards, or guards and no gotos
  pub jumping : Bool
  pub fits : Everywhere (Fits p f.slots g.left jumping) (items_of f)

-- a variable of file scope holds numbers of its kind
abbrev pub HoldsInKind : Variable → Type 0
HoldsInKind (Holds k n cells) = (i : ℕ) → IsInRange k (cells i)
HoldsInKind (Lent o) = ⊥

-- all of it, of a program
pub record IsSlottedCode (p : Code) (g : List ℕ → Guarding) : Type 0 where
  pub functions : (m : List ℕ) → IsSlotted p (p.functions m) (g m)
  pub globals : (m : List ℕ) → HoldsInKind (p.globals m)
