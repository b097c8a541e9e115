-- What the machine comes to at a task of an item.
use Rattle.std.specs.Prelude.{◌≡◌, ℕ, ◌+◌, ◌*◌, ◌≤◌, length, Bool, true, false, ◌||◌, eqb, List, [], ◌∷◌, Option, Some, None}
use Rattle.std.specs.List.{list_any}
use Rattle.c_tree.specs.declared.tree.Function.{Function}
use Rattle.c_tree.specs.declared.tree.Section.{Section}
use Rattle.c_tree.specs.Trees.{Tree, Forest, sections_of}
use Rattle.jump_meaning.specs.Code.{Code, function_tree, items_of}
use Rattle.jump_meaning.specs.World.{World}
use Rattle.jump_meaning.specs.Tasks as T
use Rattle.jump_meaning.specs.Tasks.{tail_tasks}
use Rattle.jump_meaning.specs.Values as Meant
use Rattle.jump_meaning.specs.Operations.{holds}
use Rattle.jump_meaning.specs.Effects.{Computes, Ends}
use Rattle.c_tree.specs.ExpressionTrees.{ExpressionTree}
use Rattle.jump_meaning.specs.Search as Search
use Rattle.jump_meaning.specs.Step.{Guards, Frame, At, Goes, Takes, view, move}
use Rattle.step_memory.specs.declared.store.Store.{Store}
use Rattle.step_memory.specs.Stores.{names_of, HoldsWorld}
use Rattle.step_memory.specs.Values.{values_of}
use Rattle.step_tasks.specs.declared.call.Call.{Call}
use Rattle.step_tasks.specs.declared.search.Goal.{Goal}
use Rattle.step_tasks.specs.declared.search.Goal.TheVariants.{Case, Default}
use Rattle.step_tasks.specs.declared.work.Stage.TheVariants as Stages
use Rattle.step_tasks.specs.declared.work.Task.{Task}
use Rattle.step_tasks.specs.declared.work.Task.TheVariants as My
use Rattle.step_tasks.specs.declared.work.Work.{Work}
use Rattle.step_tasks.specs.declared.work.Work.TheVariants as Several
use Rattle.step_tasks.specs.Labels.{AreLabelsOf}
use Rattle.step_tasks.specs.Tasks.{task_of, tasks_of}

-- the guards of these labels are set, and no others
abbrev pub guards_of : List ℕ → Guards
guards_of ls l = list_any (eqb l) ls

-- the items of a call's function
abbrev pub body_of : Function → Forest
body_of f = items_of (function_tree f)

-- the call has the labels of its function
abbrev pub HasLabels : Call → Type 0
HasLabels c = AreLabelsOf c.function.now c.labels.now

-- the task is replaced by others, whatever the guards are
abbrev pub GoesTo : T.Task → List Work → List Work → Type 0
GoesTo t old new = (b : Forest) (g : Guards) → view b g (t ∷ tasks_of old) ≡ Goes (tasks_of new)

-- the step of the meaning from the call with this task before its others comes to the call as it is now, and the world stays
abbrev pub Moves : T.Task → Store → Call → Call → Type 0
Moves t s old new =
    (P : Code) (f : List ℕ) (cs : List Frame) (w : World) → HoldsWorld s w → HasLabels old
    → move P (view (body_of old.function.now) (guards_of old.guards) (t ∷ tasks_of old.tasks)) f (guards_of old.guards) (values_of (names_of s) old.values) cs w
    ≡ At f (guards_of new.guards) (tasks_of new.tasks) (values_of (names_of s) new.values) cs w

-- the step of the meaning from the call with this task comes to the call as it is now, whatever the variables are
abbrev pub MovesAlways : T.Task → Call → Call → Type 0
MovesAlways t old new = (s : Store) → Moves t s old new

-- the last value is taken, and holds or not: the tasks are those that follow then
abbrev pub Turned : T.Task → Bool → List Work → List Work → Type 0
Turned t taken old new =
    (b : Forest) (g : Guards) → (next : Meant.Value → List T.Task) × (view b g (t ∷ tasks_of old) ≡ Takes next) ×
    ((v : Meant.Value) → holds v ≡ taken → tasks_of new ≡ next v)

-- `return`, with its value, if it has one
abbrev pub returns : Option ExpressionTree → List T.Task → List T.Task
returns None k = T.Works (Ends false) ∷ k
returns (Some e) k = T.Works (Computes e) ∷ T.Works (Ends true) ∷ k

-- ---- searches

abbrev pub goal_of : Goal → Search.Goal
goal_of (Case k n) = Search.ToCase k n
goal_of Default = Search.ToDefault

-- a search comes to the tasks as they are now, or to none, and then they are as before
abbrev pub Sought : Bool → Option (List T.Task) → List Work → List Work → Type 0
Sought true found old new = found ≡ Some (tasks_of new)
Sought false found old new = (found ≡ None) × (new ≡ old)

-- no label stands in an item
abbrev pub HasNoLabel : Tree → Type 0
HasNoLabel x = (l : Search.Goal) (k : List T.Task) → Search.seek_in l x k ≡ None

-- ---- the next task

-- what is left to open of work: it falls where a section is opened
abbrev pub weight : Work → ℕ
weight (Several.Tail cs) = 3 * length cs.now + 1
weight _ = 1

abbrev pub weights : List Work → ℕ
weights [] = 0
weights (w ∷ ws) = weight w + weights ws

abbrev pub IsNext : Option Task → List Work → List Work → Type 0
IsNext None old new = tasks_of old ≡ []
IsNext (Some t) old new = tasks_of old ≡ task_of t ∷ tasks_of new

-- ---- which tasks `break` and `continue` come to

abbrev pub is_loop : Task → Bool
is_loop (My.Of Stages.Loop x) = true
is_loop _ = false

abbrev pub is_out : Task → Bool
is_out My.Out = true
is_out _ = false

abbrev pub ends_break : Work → Bool
ends_break (Several.One t) = is_loop t || is_out t
ends_break (Several.Tail cs) = true
ends_break _ = false

abbrev pub ends_continue : Work → Bool
ends_continue (Several.One t) = is_loop t
ends_continue _ = false

-- ---- whether the next task drops a value

abbrev pub is_none : {A : Type 0} → List A → Bool
is_none [] = true
is_none (x ∷ xs) = false

abbrev pub is_nothing : Work → Bool
is_nothing (Several.Items xs) = is_none xs.now
is_nothing (Several.Arguments es) = is_none es.now
is_nothing _ = false

abbrev pub drops : Work → Bool
drops (Several.One My.DropValue) = true
drops _ = false

-- the list of a section, its end and the later sections come before the others
pub record IsOpened (c : Section) (cs : List Section) (old new : List Work) : Type 0 where
  pub tasks : tasks_of new ≡ tail_tasks (sections_of (c ∷ cs)) (tasks_of old)
  pub weight : weights new ≤ 3 * length cs + 3 + weights old

-- ---- tasks of items, tests and selectors

abbrev pub is_control : Task → Bool
is_control (My.Of stage x) = true
is_control (My.Ask t) = true
is_control (My.Arm l) = true
is_control (My.AskSelector s) = true
is_control My.EndSection = true
is_control My.Out = true
is_control _ = false
