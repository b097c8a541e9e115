-- The machine at the start of a call.
use Rattle.std.proofs.Common.{ℕ, zero, suc, ◌<◌, List, [], ◌∷◌, length, get_or, All, ◌≡◌, sym, ap, ◌∙◌, arith}
use Rattle.c_tree.specs.Trees.{Forest}
use Rattle.jump_meaning.specs.Step.{Frame, At, no_guards}
use Rattle.jump_meaning.specs.Tasks.{items}
use Rattle.jump_meaning.specs.World.{World}
use Rattle.step_memory.specs.Stores.{names_of}
use Rattle.step_memory.specs.Values.{values_of}
use Rattle.step_tasks.specs.declared.call.Call.{Call}
use Rattle.step_tasks.specs.Controls.{guards_of}
use Rattle.step_tasks.specs.Tasks.{tasks_of}
use Rattle.step_interp.specs.declared.machine.Machine.{Machine}
use Rattle.step_interp.specs.Machines.{frames_of, state_of}

pub state_at : (n : Machine) (w : World) (name : List ℕ) (body : Forest) (fs : List Frame)
    → n.call.function.now.name ≡ name → n.call.guards ≡ [] → tasks_of n.call.tasks ≡ items body [] → n.call.values ≡ [] →
    frames_of (names_of n.store) n.waiting ≡ fs
    → At name no_guards (items body []) [] fs w ≡ state_of n w
state_at n w name body fs a b c d e =
    ap (λ x. At x no_guards (items body []) [] fs w) (sym a)
    ∙ ap (λ x. At n.call.function.now.name (guards_of x) (items body []) [] fs w) (sym b)
    ∙ ap (λ x. At n.call.function.now.name (guards_of n.call.guards) x [] fs w) (sym c)
    ∙ ap (λ x. At n.call.function.now.name (guards_of n.call.guards) (tasks_of n.call.tasks) (values_of (names_of n.store) x) fs w) (sym d)
    ∙ ap (λ x. At n.call.function.now.name (guards_of n.call.guards) (tasks_of n.call.tasks) (values_of (names_of n.store) n.call.values) x w) (sym e)

pub all_more : (P : Call → Type 0) (x : Call) (xs : List Call) → P x → All P xs → All P (x ∷ xs)
all_more P x xs p a = at where
  at : (k : ℕ) (d : Call) → k < suc (length xs) → P (get_or (x ∷ xs) k d)
  at zero d l = p
  at (suc k) d l = a k d (omega arith)
