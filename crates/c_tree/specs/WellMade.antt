-- Well made bodies: what every body is from the conversion of a flat function on, through all moves.
use Rattle.std.specs.Prelude.{◌≡◌, ◌+◌, ◌<◌, ◌≤◌, IsSome, IfSome}
use Rattle.c_tree.specs.TestTrees.{TestTree, Source, On, Off, AndOff, OrOn}
use Rattle.c_tree.specs.Trees.{Tree, Forest, Nil, If, While, Do, For, Switch, Block, Local, Goto, Mark, Arrival}
use Rattle.c_tree.specs.Everywhere.{total_in, Everywhere}
use Rattle.c_tree.specs.Labels.{lands, jump_of, jumps, GuardLabels}
use Rattle.c_tree.specs.Exits.{breaks, breaks_in, continues}
use Rattle.c_tree.specs.Constants.{kind_of}
use Rattle.c_tree.specs.Cases.{selector_source, selector_kind, defaults, AllEntered, AreCases, ArePicks}

-- an item of a flat function after its conversion
abbrev pub IsConverted : Tree → Type 0
IsConverted (Goto l) = ⊥
IsConverted (Mark l) = ⊥
IsConverted (Local x es) = ⊥
IsConverted (Block a) = ⊥
IsConverted (Arrival e) = ⊥
IsConverted _ = Unit {0}

-- the source expression of the selector has a kind
abbrev pub HasSelectorKind : Tree → Type 0
HasSelectorKind (Switch s c) = IsSome (kind_of (selector_source s))
HasSelectorKind _ = Unit {0}

-- each section of a switch can be entered, and at most one has the default
abbrev pub HasEntries : Tree → Type 0
HasEntries (Switch s c) = AllEntered c × (defaults c ≤ 1)
HasEntries _ = Unit {0}

abbrev pub HasCases : Tree → Type 0
HasCases (Switch s c) = IfSome (selector_kind s) (λ k. AreCases k c)
HasCases _ = Unit {0}

abbrev pub HasPicks : Tree → Type 0
HasPicks (Switch s c) = IfSome (selector_kind s) (λ k. ArePicks k s)
HasPicks _ = Unit {0}

-- a `for` has an empty first part, and holds no Leap and no Land
abbrev pub IsPlainFor : Tree → Type 0
IsPlainFor (For first t u a) = (first ≡ Nil) × (jumps a ≡ 0)
IsPlainFor _ = Unit {0}

-- where a construct holds a Leap or a Land, no `break` or `continue` is bound to it
abbrev pub BindsNoExit : Tree → Type 0
BindsNoExit (While t a) = 0 < jumps a → breaks a + continues a ≡ 0
BindsNoExit (Do a t) = 0 < jumps a → breaks a + continues a ≡ 0
BindsNoExit (For first t u a) = 0 < jumps first + jumps a → breaks a + continues a ≡ 0
BindsNoExit (Switch s c) = 0 < total_in jump_of c → breaks_in c ≡ 0
BindsNoExit _ = Unit {0}

-- no part of the test is a source expression
abbrev pub IsMade : TestTree → Type 0
IsMade (Source e) = ⊥
IsMade (On l) = Unit {0}
IsMade (Off l) = Unit {0}
IsMade (AndOff l t) = IsMade t
IsMade (OrOn l t) = IsMade t

-- a made `if` has no else-list
abbrev pub HasNoMadeElse : Tree → Type 0
HasNoMadeElse (If t a b) = IsMade t → b ≡ Nil
HasNoMadeElse _ = Unit {0}

pub record IsWellMade (body : Forest) : Type 0 where
  -- it has no Goto, Mark, Local, Block and Arrival
  pub converted : Everywhere IsConverted body
  -- each label that an Arm, a Leap or a test names has one Land; nothing is asked of one that a selector alone names
  pub landed : Everywhere (GuardLabels (λ l. lands l body ≡ 1)) body
  -- the source expression of each selector has a kind
  pub selectors : Everywhere HasSelectorKind body
  -- each section has a case or the default, and at most one of a switch has the default
  pub entries : Everywhere HasEntries body
  -- cases are constant expressions without trap, fewer than 2,147,483,648 of a switch, and distinct in the promoted kind of its selector
  pub cases : Everywhere HasCases body
  -- the number of each Pick is one of that kind
  pub picks : Everywhere HasPicks body
  -- no `for` holds a Leap or a Land, and its first part is empty
  pub loops : Everywhere IsPlainFor body
  -- each `break` is bound to a loop or switch of the body, and each `continue` to a loop of it
  pub bound : breaks body + continues body ≡ 0
  -- no construct that holds a Leap or a Land has a `break` or `continue` bound to it
  pub exits : Everywhere BindsNoExit body
  -- made `if`s have no else-list
  pub tests : Everywhere HasNoMadeElse body
