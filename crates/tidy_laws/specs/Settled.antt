-- A program, and the same without a slot in each function.
use Rattle.std.specs.Prelude.{ℕ, ◌≤◌, ◌≡◌, false, List, Option, Some, None}
use Rattle.c_types.specs.declared.kinds.IntKind.TheVariants.{Int}
use Rattle.c_tree.specs.Trees.{Forest}
use Rattle.jump_meaning.specs.Code.{FunctionTree, Code, entry_or}
use Rattle.jump_meaning.specs.World.{no_slot}
use Rattle.plain_laws.specs.Kinded.{call_kind}
use Rattle.plain_laws.specs.Slotted.{HoldsInKind}
use Rattle.tidy_laws.specs.Renumbered.{without}
use Rattle.tidy_laws.specs.Settles.{Items}

-- a slot that may go: an int, no parameter
pub record MayGo (g : ℕ) (f : FunctionTree) : Type 0 where
  pub local : f.params ≤ g
  pub int : (entry_or no_slot f.slots g).kind ≡ Int
  pub single : (entry_or no_slot f.slots g).cells ≡ None

-- a body without the slot
abbrev pub SettledBody : Code → FunctionTree → ℕ → Option Forest → Option Forest → Type 0
SettledBody p f g None None = without g f.slots ≡ f.slots
SettledBody p f g (Some a) (Some c) = Items p f.slots g false a c
SettledBody p f g _ _ = ⊥

pub record SettledFunction (p : Code) (g : ℕ) (f h : FunctionTree) : Type 0 where
  pub may : MayGo g f
  pub body : Option Forest
  pub same : h ≡ record f { slots = without g f.slots; body = body }
  pub settled : SettledBody p f g f.body body

-- a program without a slot in each function, where kinds are those of k
pub record SettledCode (k p q : Code) : Type 0 where
  pub hole : List ℕ → ℕ
  pub functions : (m : List ℕ) → SettledFunction k (hole m) (p.functions m) (q.functions m)
  pub globals : q.globals ≡ p.globals
  pub cells : q.cells ≡ p.cells
  pub slots : (m : List ℕ) → (p.functions m).slots ≡ (k.functions m).slots
  pub calls : (m : List ℕ) → call_kind p m ≡ call_kind k m
  pub same_globals : p.globals ≡ k.globals
  -- its variables of file scope hold numbers of their kinds
  pub numbers : (m : List ℕ) → HoldsInKind (k.globals m)
