-- Flat bodies that are made well, before their conversion, and the items of a source.
use Rattle.std.specs.Prelude.{ℕ, ◌+◌, ◌≡◌, ◌<◌, ◌≤◌, not, IsSome, IfSome}
use Rattle.c_tree.specs.Cases.{selector_source, selector_kind, defaults, AllEntered, AreCases}
use Rattle.c_tree.specs.Constants.{kind_of}
use Rattle.c_tree.specs.Everywhere.{total, total_in, Everywhere}
use Rattle.c_tree.specs.Exits.{breaks, breaks_in, continues}
use Rattle.c_tree.specs.InRange.{IsSourceTest, IsSourceSelector, IsUnguarded}
use Rattle.c_tree.specs.Trees.{Tree, Forest, Nil, Then, Sections, Evaluate, If, While, Do, For, Switch, Block, Local, Goto, Mark, Arm, Leap, Land, Arrival}
use Rattle.c_tree.specs.TestTrees.{SelectorTree}
use Rattle.flat_laws.specs.Placed.{places}
use Rattle.flat_laws.specs.Parts.{is_scattered}
use Rattle.flat_laws.specs.Source.{IfTrue}

-- 1 for an item that is a jump or a label, before conversion or after it
abbrev pub hop_of : Tree → ℕ
hop_of (Goto l) = 1
hop_of (Mark l) = 1
hop_of (Leap l) = 1
hop_of (Land l) = 1
hop_of _ = 0

-- how many jumps and labels stand in a list, at any depth
abbrev pub hops : Forest → ℕ
hops xs = total hop_of xs

-- where the body of a loop holds a jump or a label, no exit is bound to the loop
abbrev pub IsSettled : Forest → Type 0
IsSettled a = 0 < hops a → breaks a + continues a ≡ 0

-- where the sections of a switch hold a jump or a label, no exit is bound to the switch
abbrev pub AreSettled : Sections → Type 0
AreSettled d = 0 < total_in hop_of d → breaks_in d ≡ 0

-- the selector has a kind, each section a case or the default, at most one is the default, and the cases are constants
-- that differ
pub record HasGoodCases (s : SelectorTree) (d : Sections) : Type 0 where
  pub kind : IsSome (kind_of (selector_source s))
  pub entered : AllEntered d
  pub default : defaults d ≤ 1
  pub cases : IfSome (selector_kind s) (λ k. AreCases k d)

-- an item of a flat body: tests and selectors of the source, no block, no declaration, no guard and no nested case label;
-- a `for` has an empty first part, and no jump or label in it; the fact holds of each label that a goto names
abbrev pub IsFlatItem : (ℕ → Type 0) → Tree → Type 0
IsFlatItem P (If t a b) = IsSourceTest t
IsFlatItem P (While t a) = IsSourceTest t × IsSettled a
IsFlatItem P (Do a t) = IsSourceTest t × IsSettled a
IsFlatItem P (For first t u a) = (first ≡ Nil) × (hops a ≡ 0)
IsFlatItem P (Switch s d) = IsSourceSelector s × HasGoodCases s d × AreSettled d
IsFlatItem P (Goto l) = P l
IsFlatItem P (Block a) = ⊥
IsFlatItem P (Local x es) = ⊥
IsFlatItem P (Arm l e) = ⊥
IsFlatItem P (Leap l) = ⊥
IsFlatItem P (Land l) = ⊥
IsFlatItem P (Arrival e) = ⊥
IsFlatItem P _ = Unit {0}

-- a flat body: each label that a goto names stands once, and each exit is bound
pub record IsFlatMade (body : Forest) : Type 0 where
  pub items : Everywhere (IsFlatItem (λ l. places l body ≡ 1)) body
  pub bound : breaks body + continues body ≡ 0

-- ---- the source

-- an item of the first part of a `for`: an expression or a declaration
abbrev pub IsFirstItem : Tree → Type 0
IsFirstItem (Evaluate e) = Unit {0}
IsFirstItem (Local x es) = Unit {0}
IsFirstItem _ = ⊥

-- the first part of a `for`
abbrev pub AreFirst : Forest → Type 0
AreFirst Nil = Unit {0}
AreFirst (Then x xs) = IsFirstItem x × AreFirst xs

-- an item of a source: it has no guards, the first part of a `for` is one of C, and a switch that isn't scattered has
-- good cases
abbrev pub IsPlainItem : Tree → Type 0
IsPlainItem (If t a b) = IsSourceTest t
IsPlainItem (While t a) = IsSourceTest t
IsPlainItem (Do a t) = IsSourceTest t
IsPlainItem (For first t u a) = AreFirst first
IsPlainItem (Switch s d) = IsSourceSelector s × IfTrue (not (is_scattered d)) (HasGoodCases s d)
IsPlainItem (Arm l e) = ⊥
IsPlainItem (Leap l) = ⊥
IsPlainItem (Land l) = ⊥
IsPlainItem _ = Unit {0}

-- an item of a source without jumps
abbrev pub IsUnjumped : Tree → Type 0
IsUnjumped (Goto l) = ⊥
IsUnjumped x = IsUnguarded x
