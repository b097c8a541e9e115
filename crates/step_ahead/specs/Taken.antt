-- What the run of a program comes to when it has taken all steps of an expression.
use Rattle.std.specs.Prelude.{ℕ, ◌≡◌, ℤ, List, ◌∷◌, slice_get, Some, Result, Ok}
use Rattle.c_types.specs.declared.trap.Trap.{Trap}
use Rattle.c_tree.specs.ExpressionTrees.{ExpressionTree, PlaceTree}
use Rattle.jump_meaning.specs.Values as Meant
use Rattle.jump_meaning.specs.Code.{Code}
use Rattle.jump_meaning.specs.World.{World}
use Rattle.jump_meaning.specs.Effects.{Op, Computes, Finds, Drops}
use Rattle.jump_meaning.specs.Tasks.{Task, Works}
use Rattle.jump_meaning.specs.Step.{Guards, Frame, At}
use Rattle.jump_meaning.specs.Runs.{run}
use Rattle.step_memory.specs.declared.room.Room.{Room}
use Rattle.step_memory.specs.declared.room.Cells.TheVariants.{Number}
use Rattle.step_memory.specs.declared.store.Store.{Store}
use Rattle.step_memory.specs.Stores.{names_of, HoldsWorld}
use Rattle.step_memory.specs.Values.{owner_of}
use Rattle.step_ahead.specs.declared.finding.Found.{Found}
use Rattle.step_ahead.specs.declared.marks.Computed.{Computed}

-- after n steps a task of an expression has left this value, and all else is as before
pub record Leaves (s : Store) (o : Op) (x : Meant.Value) (n : ℕ) : Type 0 where
  pub comes : (P : Code) (f : List ℕ) (g : Guards) (k : List Task) (v : List Meant.Value) (cs : List Frame) (w : World)
      → HoldsWorld s w → run P n (At f g (Works o ∷ k) v cs w) ≡ At f g k (x ∷ v) cs w

-- an expression is the number, and a place the cell
abbrev pub IsComputed : Store → ExpressionTree → Computed → Type 0
IsComputed s e r = Leaves s (Computes e) (Meant.Integer r.number) r.steps

abbrev pub IsFound : Store → PlaceTree → Found → Type 0
IsFound s p r = Leaves s (Finds p) (Meant.Designates (owner_of (names_of s) r.owner) r.at) r.steps

-- after n steps an expression is evaluated and its value dropped, and variables may be others
pub record IsEvaluated (s t : Store) (e : ExpressionTree) (n : ℕ) : Type 0 where
  pub comes : (P : Code) (f : List ℕ) (g : Guards) (k : List Task) (v : List Meant.Value) (cs : List Frame) (w : World)
      → HoldsWorld s w
      → (vs : Meant.Owner → Meant.Variable) × (run P n (At f g (Works (Computes e) ∷ Works Drops ∷ k) v cs w) ≡ At f g k v cs
      (record w { variables = vs })) × HoldsWorld t (record w { variables = vs })

-- a number after so many steps
abbrev pub IsAfter : Result ℤ Trap → ℕ → Computed → Type 0
IsAfter number n r = (number ≡ Ok r.number) × (r.steps ≡ n)

-- the number that the room of a slot is, which takes three steps to read
abbrev pub IsSlotNumber : List Room → ℕ → Computed → Type 0
IsSlotNumber rooms x r = (it : Room) × (z : ℤ) × (slice_get rooms x ≡ Some it) × (it.cells ≡ Number z) × IsAfter (Ok z) 3 r
