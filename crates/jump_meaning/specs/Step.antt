-- States and steps: the meaning of a program with jumps, a step at a time (6.8).
use Rattle.std.specs.Prelude.{ℕ, ℤ, pos, Bool, true, false, not, cond, eqb, List, [], ◌∷◌, Option, Some, None, Result, Ok, Err}
use Rattle.c_types.specs.declared.kinds.IntKind.{IntKind}
use Rattle.c_types.specs.declared.trap.Trap.{Trap}
use Rattle.c_types.specs.Numbers.{promoted}
use Rattle.c_tree.specs.ExpressionTrees.{ExpressionTree}
use Rattle.c_tree.specs.Constants.{kind_of}
use Rattle.c_tree.specs.Operators.{truth}
use Rattle.c_tree.specs.Cases.{selector_source}
use Rattle.c_tree.specs.TestTrees.{SelectorTree, Source, On, Off, AndOff, OrOn, Selects, Pick}
use Rattle.c_tree.specs.Trees.{Forest, Evaluate, Return, If, While, Do, For, Switch, Block, Local, Break, Continue, Goto, Mark, Arm, Leap, Land, Arrival, Note}
use Rattle.jump_meaning.specs.Values.{Value, Integer, Event, integer}
use Rattle.jump_meaning.specs.Code.{Code, FunctionTree, items_of}
use Rattle.jump_meaning.specs.World.{World, Outcome, Gives, Traps, Exits, push}
use Rattle.jump_meaning.specs.Operations.{operand_kind, holds}
use Rattle.jump_meaning.specs.Known.{call_without_body}
use Rattle.jump_meaning.specs.Calls.{returned, fallen, leave_call, leave_entry}
use Rattle.jump_meaning.specs.Effects.{Op, Computes, Drops, Converts, Ends, Begins, Effect, Does, Fails, Stops, Invokes, Leaves, effect, top, rest}
use Rattle.jump_meaning.specs.Tasks.{WhileLoop, DoLoop, ForLoop, Task, Runs, Works, Asks, Branches, Turns, Loops, Heads, Arms, AsksSelector, Enters, EndsSection, Out, items, works, turn, cut, cut_to}
use Rattle.jump_meaning.specs.Search.{find, entry}

-- which labels have their guard set
abbrev pub Guards : Type 0
Guards = ℕ → Bool

-- no guard is set, as at the start of a call
abbrev pub no_guards : Guards
no_guards l = false

-- the guard of one label is set or reset
abbrev pub with_guard : ℕ → Bool → Guards → Guards
with_guard l b g m = cond (eqb l m) b (g m)

-- a call that waits for another: its function, guards, tasks and values
pub data Frame : Type 0 where
  Waits : List ℕ → Guards → List Task → List Value → Frame

-- the newest call: its function, guards, tasks and values, the last first; the calls that wait, the newest first; and the world. Or the end of the run
pub data State : Type 0 where
  At : List ℕ → Guards → List Task → List Value → List Frame → World → State
  HasEnded : ℤ → List Event → State
  HasTrapped : Trap → List Event → State

-- what the first task asks for
pub data View : Type 0 where
  -- there is none
  Finishes : View
  -- the tasks become these
  Goes : List Task → View
  -- a guard is set or reset, then the tasks become these
  Guarding : ℕ → Bool → List Task → View
  -- a number is left
  Yields : ℤ → List Task → View
  -- the last value is taken, and decides
  Takes : (Value → List Task) → View
  -- the last value is taken, and decides the guard of the label
  Arming : ℕ → List Task → View
  -- a task of an expression
  Acts : Op → List Task → View

-- the kind in which the cases of a switch are compared (6.8.4.2)
abbrev pub switch_kind : SelectorTree → IntKind
switch_kind s = promoted (operand_kind (kind_of (selector_source s)))

-- an expression whose value is dropped, where there is one
abbrev pub dropped : Option ExpressionTree → List Task → List Task
dropped None k = k
dropped (Some e) k = Works (Computes e) ∷ Works Drops ∷ k

-- the first task of a call with this body and these guards
abbrev pub view : Forest → Guards → List Task → View
view b g [] = Finishes
-- expression statements, `return` (6.8.3, 6.8.6.4)
view b g (Runs (Evaluate e) ∷ k) = Goes (Works (Computes e) ∷ Works Drops ∷ k)
view b g (Runs (Return None) ∷ k) = Goes (Works (Ends false) ∷ k)
view b g (Runs (Return (Some e)) ∷ k) = Goes (Works (Computes e) ∷ Works (Ends true) ∷ k)
-- `if` (6.8.4.1)
view b g (Runs (If t a c) ∷ k) = Goes (Asks t ∷ Branches a c ∷ k)
view b g (Branches a c ∷ k) = Takes (λ v. cond (holds v) (items a k) (items c k))
-- loops (6.8.5)
view b g (Runs (While t a) ∷ k) = Goes (Asks t ∷ Turns (WhileLoop t a) ∷ k)
view b g (Runs (Do a t) ∷ k) = Goes (items a (Loops (DoLoop a t) ∷ k))
view b g (Runs (For first t u a) ∷ k) = Goes (items first (Heads t u a ∷ k))
view b g (Heads None u a ∷ k) = Goes (items a (Loops (ForLoop None u a) ∷ k))
view b g (Heads (Some e) u a ∷ k) = Goes (Works (Computes e) ∷ Turns (ForLoop (Some e) u a) ∷ k)
view b g (Turns x ∷ k) = Takes (λ v. cond (holds v) (turn x k) k)
view b g (Loops (WhileLoop t a) ∷ k) = Goes (Runs (While t a) ∷ k)
view b g (Loops (DoLoop a t) ∷ k) = Goes (Asks t ∷ Turns (DoLoop a t) ∷ k)
view b g (Loops (ForLoop t u a) ∷ k) = Goes (dropped u (Heads t u a ∷ k))
-- `switch` (6.8.4.2)
view b g (Runs (Switch s c) ∷ k) = Goes (AsksSelector s ∷ Enters (switch_kind s) c ∷ k)
view b g (Enters kind c ∷ k) = Takes (λ v. entry kind (integer v) c k)
view b g (EndsSection ∷ k) = Goes (cut k)
view b g (Out ∷ k) = Goes k
-- compound statements and declarations (6.8.2, 6.7.9)
view b g (Runs (Block a) ∷ k) = Goes (items a k)
view b g (Runs (Local x None) ∷ k) = Goes k
view b g (Runs (Local x (Some es)) ∷ k) = Acts (Begins x es) k
-- jumps and labels (6.8.6, 6.8.1)
view b g (Runs Break ∷ k) = Goes (cut k)
view b g (Runs Continue ∷ k) = Goes (cut_to k)
view b g (Runs (Goto l) ∷ k) = Goes (find l b)
view b g (Runs (Mark l) ∷ k) = Goes k
view b g (Runs (Arrival e) ∷ k) = Goes k
view b g (Runs (Note bs) ∷ k) = Goes k
-- guards of labels (this project)
view b g (Runs (Arm l None) ∷ k) = Guarding l true k
view b g (Runs (Arm l (Some e)) ∷ k) = Goes (Works (Computes e) ∷ Arms l ∷ k)
view b g (Arms l ∷ k) = Arming l k
view b g (Runs (Leap l) ∷ k) = cond (g l) (Goes (find l b)) (Goes k)
view b g (Runs (Land l) ∷ k) = Guarding l false k
-- tests and selectors
view b g (Asks (Source e) ∷ k) = Goes (Works (Computes e) ∷ k)
view b g (Asks (On l) ∷ k) = Yields (truth (g l)) k
view b g (Asks (Off l) ∷ k) = Yields (truth (not (g l))) k
view b g (Asks (AndOff l t) ∷ k) = cond (g l) (Yields (pos 0) k) (Goes (Asks t ∷ k))
view b g (Asks (OrOn l t) ∷ k) = cond (g l) (Yields (pos 1) k) (Goes (Asks t ∷ k))
view b g (AsksSelector (Selects e) ∷ k) = Goes (Works (Computes e) ∷ Works (Converts (promoted (operand_kind (kind_of e)))) ∷ k)
view b g (AsksSelector (Pick l n s) ∷ k) = cond (g l) (Yields n k) (Goes (AsksSelector s ∷ k))
-- expressions (6.5)
view b g (Works o ∷ k) = Acts o k

-- whether the value that comes before these tasks is dropped
abbrev pub is_dropped : List Task → Bool
is_dropped (Works Drops ∷ k) = true
is_dropped _ = false

-- a call after an outcome
abbrev pub settle : Outcome → List ℕ → Guards → List Task → List Value → List Frame → State
settle (Gives x w) f g k v cs = At f g k (x ∷ v) cs w
settle (Traps t w) f g k v cs = HasTrapped t w.events
settle (Exits n w) f g k v cs = HasEnded n w.events

-- the newest call, one of function h, is over with this value (6.8.6.4)
abbrev pub leave : FunctionTree → Value → List Frame → World → State
leave h x [] w = settle (leave_entry h x w) [] no_guards [] [] []
leave h x (Waits f g k v ∷ cs) w = settle (leave_call (is_dropped k) h x w) f g k v cs

-- a new call of function m with this body, or its trap (6.5.2.2)
abbrev pub begin_call : List ℕ → Forest → Result World Trap → List Frame → World → State
begin_call m a (Ok w) cs w' = At m no_guards (items a []) [] cs w
begin_call m a (Err t) cs w' = HasTrapped t w'.events

-- a call of function m, by whether it has a body
abbrev pub invoke : Option Forest → FunctionTree → List ℕ → List Value → List ℕ → Guards → List Task → List Value → List Frame → World → State
invoke (Some a) h m vs f g k v cs w = begin_call m a (push h vs w) (Waits f g k v ∷ cs) w
invoke None h m vs f g k v cs w = settle (call_without_body m h vs w) f g k v cs

-- the state after what a task of an expression comes to
abbrev pub perform : Code → Effect → List ℕ → Guards → List Task → List Frame → State
perform P (Does os v w) f g k cs = At f g (works os k) v cs w
perform P (Fails t w) f g k cs = HasTrapped t w.events
perform P (Stops n w) f g k cs = HasEnded n w.events
perform P (Invokes m vs v w) f g k cs = invoke (P.functions m).body (P.functions m) m vs f g k v cs w
perform P (Leaves (Some x) w) f g k cs = leave (P.functions f) (returned (P.functions f) x) cs w
perform P (Leaves None w) f g k cs = leave (P.functions f) (fallen f) cs w

-- the state after what the first task asks for
abbrev pub move : Code → View → List ℕ → Guards → List Value → List Frame → World → State
move P Finishes f g v cs w = leave (P.functions f) (fallen f) cs w
move P (Goes k) f g v cs w = At f g k v cs w
move P (Guarding l b k) f g v cs w = At f (with_guard l b g) k v cs w
move P (Yields n k) f g v cs w = At f g k (Integer n ∷ v) cs w
move P (Takes h) f g v cs w = At f g (h (top v)) (rest v) cs w
move P (Arming l k) f g v cs w = At f (with_guard l (holds (top v)) g) k (rest v) cs w
move P (Acts o k) f g v cs w = perform P (effect o v w) f g k cs

-- one step: the first task of the newest call; a run that is over stays as it is
abbrev pub step : Code → State → State
step P (At f g k v cs w) = move P (view (items_of (P.functions f)) g k) f g v cs w
step P (HasEnded n es) = HasEnded n es
step P (HasTrapped t es) = HasTrapped t es
