-- A function with a flat list of gotos for its body.
use Rattle.std.specs.Prelude.{ℕ, true, None, ◌≡◌, IsSome}
use Rattle.c_tree.specs.Exits.{breaks, continues}
use Rattle.c_tree.specs.TestTrees.{Source}
use Rattle.c_tree.specs.Trees.{Tree, Forest, Nil, Then, Evaluate, Return, If, Local, Goto, Mark, Note, join}
use Rattle.jump_meaning.specs.Code.{FunctionTree, items_of}
use Rattle.flat_laws.specs.Pieces.{Stays}
use Rattle.flat_laws.specs.Placed.{Has, IsOnce}
use Rattle.flat_laws.specs.Loose.{Setting, NoArrival, ExtendSlots}
use Rattle.flat_laws.specs.Parts.{Here}
use Rattle.lower_laws.specs.Lowered.{Layout, lowered, declarations}
use Rattle.lower_laws.specs.Source.{IsSourceBody}

-- an item without lists, or an `if` whose first list is one goto
abbrev pub IsFlatItem : Tree → Type 0
IsFlatItem (Evaluate e) = Unit {0}
IsFlatItem (Return e) = Unit {0}
IsFlatItem (Note bs) = Unit {0}
IsFlatItem (Local x None) = Unit {0}
IsFlatItem (Goto l) = Unit {0}
IsFlatItem (Mark l) = Unit {0}
IsFlatItem (If (Source t) (Then (Goto l) Nil) Nil) = Unit {0}
IsFlatItem _ = ⊥

-- one flat list of such items
abbrev pub AreFlat : Forest → Type 0
AreFlat Nil = Unit {0}
AreFlat (Then x xs) = IsFlatItem x × AreFlat xs

-- h is f with the flat list of its body, behind declarations, and with further variables
pub record IsLowered (f h : FunctionTree) : Type 0 where
  pub layout : Layout
  pub setting : Setting
  pub here : Here
  -- the first slot that is declared, and how many are
  pub first : ℕ
  pub count : ℕ
  pub defined : IsSome f.body
  pub new_defined : IsSome h.body
  pub source : IsSourceBody layout setting here (items_of f)
  -- no exit is outside a loop or switch
  pub unbroken : breaks (items_of f) ≡ 0
  pub uncontinued : continues (items_of f) ≡ 0
  pub body : items_of h ≡ join (declarations first count) (lowered layout here Stays Stays NoArrival (items_of f))
  pub named : (l : ℕ) → layout.plan.live l ≡ true → Has l (items_of f)
  -- each label stands at most once
  pub once : IsOnce (items_of f)
  pub new_once : IsOnce (items_of h)
  pub result : f.result ≡ h.result
  pub params : f.params ≡ h.params
  pub slots : ExtendSlots f.slots h.slots
  pub same_params : setting.params ≡ f.params
  pub same_old : setting.old ≡ f.slots
  pub same_new : setting.new ≡ h.slots
