-- A step adds events behind those that there are, and changes none of them.
use Rattle.std.proofs.Common.{ℕ, suc, ◌+◌, ℤ, pos, negsuc, Bool, true, false, cond, not, ◌&&◌, nat_lt, List, [], ◌∷◌, ◌++◌, map, codes, Option, Some, None, Result, Ok, Err, ◌≡◌, refl, sym, ◌∙◌, ap, subst, append_assoc, append-nil, bytes_eq}
use Rattle.c_types.specs.declared.kinds.IntKind.{IntKind}
use Rattle.c_types.specs.declared.kinds.IntKind.TheVariants.{UChar, Int}
use Rattle.c_types.specs.declared.trap.Trap.{Trap}
use Rattle.c_types.specs.Numbers.{converted, residue, promoted, arith_result}
use Rattle.c_tree.specs.Operators.{unary_result, binary_result}
use Rattle.c_tree.specs.ExpressionTrees.{ExpressionTree, NodeTree, Typed, Var, Cell, Number, Character, EnumName, Text, Array, Read, Unary, Cast, Binary, Conditional, Assign, Update, Count, Comma, Call}
use Rattle.c_tree.specs.Trees.{Forest}
use Rattle.jump_meaning.specs.Values.{Owner, Value, Integer, Designates, Lends, Format, Missing, Event, Byte, Called, integer}
use Rattle.jump_meaning.specs.Code.{FunctionTree, Code, cells_of, items_of}
use Rattle.jump_meaning.specs.World.{World, Outcome, Gives, Traps, Exits, owner, cells_held, store, cell_of, cell, emit, push, enter_call, most_calls, most_cells, pop, kind_at, load}
use Rattle.jump_meaning.specs.Operations.{holds, operand_kind, outcome, unary, binary, assign, counted, count_mark, count}
use Rattle.jump_meaning.specs.Known.{next, printed_bytes, read_byte, write_byte, write_bytes, converted_arguments, answered, call_declared, call_without_body}
use Rattle.jump_meaning.specs.Calls.{lacks, returned, fallen, leave_call, leave_entry}
use Rattle.jump_meaning.specs.Behaviour.{More, Covers}
use Rattle.jump_meaning.specs.Effects.{Op, Computes, Finds, Drops, Indexes, Loads, Fetches, AppliesUnary, AppliesBinary, Converts, LeavesNothing, Ands, Ors, Judges, Decides, Stores, Counts, Calls, Ends, Begins, Sets, Clears, Effect, Does, Fails, Stops, Invokes, Leaves, left, top, rest, node_effect, initialise, effect}
use Rattle.jump_meaning.specs.Tasks.{Task}
use Rattle.jump_meaning.specs.Step.{Guards, Frame, Waits, State, At, View, Finishes, Goes, Guarding, Yields, Takes, Arming, Acts, view, is_dropped, settle, leave, begin_call, invoke, perform, move, step}
use Rattle.jump_meaning.specs.Runs.{shows}

-- the second events are the first and maybe more
abbrev pub Grows : List Event → List Event → Type 0
Grows es fs = (more : List Event) × (fs ≡ es ++ more)

pub grows_refl : (es : List Event) → Grows es es
grows_refl es = ([], sym (append-nil es))

pub grows_trans : (es fs gs : List Event) → Grows es fs → Grows fs gs → Grows es gs
grows_trans es fs gs h k = (h.0 ++ k.0, k.1 ∙ ap (λ z. z ++ k.0) h.1 ∙ append_assoc es h.0 k.0)

abbrev pub OutcomeGrows : List Event → Outcome → Type 0
OutcomeGrows es (Gives x w) = Grows es w.events
OutcomeGrows es (Traps t w) = Grows es w.events
OutcomeGrows es (Exits n w) = Grows es w.events

abbrev pub EffectGrows : List Event → Effect → Type 0
EffectGrows es (Does os v w) = Grows es w.events
EffectGrows es (Fails t w) = Grows es w.events
EffectGrows es (Stops n w) = Grows es w.events
EffectGrows es (Invokes m vs v w) = Grows es w.events
EffectGrows es (Leaves x w) = Grows es w.events

abbrev ResultGrows : List Event → Result World Trap → Type 0
ResultGrows es (Ok w) = Grows es w.events
ResultGrows es (Err t) = Unit {0}

-- what holds of both holds of the one that is chosen
pub either {ℓ} : {A : Type ℓ} (P : A → Type 0) (b : Bool) (x y : A) → P x → P y → P (cond b x y)
either P true x y p q = p
either P false x y p q = q

-- ---- primitives

pub store_events : (p : Value) (z : ℤ) (w : World) → (store p z w).events ≡ w.events
store_events (Integer n) z w = refl
store_events (Designates o i) z w = refl
store_events (Lends o) z w = refl
store_events (Format bs) z w = refl
store_events Missing z w = refl

store_grows : (p : Value) (z : ℤ) (w : World) → Grows w.events (store p z w).events
store_grows p z w = subst (λ es. Grows w.events es) (sym (store_events p z w)) (grows_refl w.events)

cell_grows : (o : Owner) (i : ℤ) (w : World) → OutcomeGrows w.events (cell_of o i w)
cell_grows o (pos i) w = either (OutcomeGrows w.events) (nat_lt i (cells_held (w.variables o))) (Gives (Designates o i) w) (Traps Trap.Index w)
    (grows_refl w.events) (grows_refl w.events)
cell_grows o (negsuc i) w = grows_refl w.events

outcome_grows : (r : Result ℤ Trap) (w : World) → OutcomeGrows w.events (outcome r w)
outcome_grows (Ok n) w = grows_refl w.events
outcome_grows (Err t) w = grows_refl w.events

counted_grows : (after : Bool) (p : Value) (r : Result ℤ Trap) (w : World) → OutcomeGrows w.events (counted after p r w)
counted_grows after p (Ok n) w = store_grows p n w
counted_grows after p (Err t) w = grows_refl w.events

-- ---- calls

emitted : (es : List Event) (w : World) → Grows w.events (emit es w).events
emitted es w = (es, refl)

read_grows : (bs : List ℕ) (w : World) → OutcomeGrows w.events (read_byte bs w)
read_grows [] w = grows_refl w.events
read_grows (b ∷ bs) w = grows_refl w.events

answered_grows : (k : Option IntKind) (ns : List ℤ) (w : World) → OutcomeGrows w.events (answered k ns w)
answered_grows None ns w = grows_refl w.events
answered_grows (Some k) [] w = grows_refl w.events
answered_grows (Some k) (n ∷ ns) w = grows_refl w.events

outcome_trans : (es fs : List Event) (o : Outcome) → Grows es fs → OutcomeGrows fs o → OutcomeGrows es o
outcome_trans es fs (Gives x w) h k = grows_trans es fs w.events h k
outcome_trans es fs (Traps t w) h k = grows_trans es fs w.events h k
outcome_trans es fs (Exits n w) h k = grows_trans es fs w.events h k

declared_grows : (m : List ℕ) (f : FunctionTree) (vs : List Value) (w : World) → OutcomeGrows w.events (call_declared m f vs w)
declared_grows m f vs w =
    let called = emit (Called m (converted_arguments f.slots vs) ∷ []) w in
    outcome_trans w.events called.events (answered f.result w.answers called) (emitted (Called m (converted_arguments f.slots vs) ∷ []) w)
    (answered_grows f.result w.answers called)

pub without_body_grows : (m : List ℕ) (f : FunctionTree) (vs : List Value) (w : World) → OutcomeGrows w.events (call_without_body m f vs w)
without_body_grows m f vs w =
    let P = OutcomeGrows w.events in
    let e = call_declared m f vs w in
    let d = cond (bytes_eq m (codes "abort")) (Traps Trap.Abort w) e in
    let c = cond (bytes_eq m (codes "exit")) (Exits (converted Int (next vs)) w) d in
    let b = cond (bytes_eq m (codes "printf")) (write_bytes (printed_bytes vs) w) c in
    let a = cond (bytes_eq m (codes "putchar")) (write_byte (residue UChar (next vs)) w) b in
    either P (bytes_eq m (codes "getchar")) (read_byte w.input w) a (read_grows w.input w)
    (either P (bytes_eq m (codes "putchar")) (write_byte (residue UChar (next vs)) w) b (emitted (Byte (residue UChar (next vs)) ∷ []) w)
    (either P (bytes_eq m (codes "printf")) (write_bytes (printed_bytes vs) w) c (emitted (map Byte (printed_bytes vs)) w)
    (either P (bytes_eq m (codes "exit")) (Exits (converted Int (next vs)) w) d (grows_refl w.events)
    (either P (bytes_eq m (codes "abort")) (Traps Trap.Abort w) e (grows_refl w.events)
    (declared_grows m f vs w)))))

pub push_grows : (f : FunctionTree) (vs : List Value) (w : World) → ResultGrows w.events (push f vs w)
push_grows f vs w =
    let P = ResultGrows w.events in
    let fits = cond (nat_lt most_cells (w.cells + cells_of f.slots)) (Err Trap.Cells) (Ok (enter_call f vs w)) in
    either P (nat_lt most_calls (suc w.calls)) (Err Trap.Calls) fits tt
    (either P (nat_lt most_cells (w.cells + cells_of f.slots)) (Err Trap.Cells) (Ok (enter_call f vs w)) tt (grows_refl w.events))

leave_call_grows : (d : Bool) (f : FunctionTree) (x : Value) (w : World) → OutcomeGrows w.events (leave_call d f x w)
leave_call_grows d f x w = either (OutcomeGrows w.events) (lacks f x && not d) (Traps Trap.NoValue w) (Gives x (pop f w)) (grows_refl w.events)
    (grows_refl w.events)

leave_entry_grows : (f : FunctionTree) (x : Value) (w : World) → OutcomeGrows w.events (leave_entry f x w)
leave_entry_grows f x w = either (OutcomeGrows w.events) (lacks f x) (Traps Trap.NoValue w) (Exits (integer x) w) (grows_refl w.events) (grows_refl w.events)

-- ---- tasks of expressions

left_grows : (es : List Event) (o : Outcome) (v : List Value) → OutcomeGrows es o → EffectGrows es (left o v)
left_grows es (Gives x w) v h = h
left_grows es (Traps t w) v h = h
left_grows es (Exits n w) v h = h

node_grows : (kind : Option IntKind) (n : NodeTree) (v : List Value) (w : World) → EffectGrows w.events (node_effect kind n v w)
node_grows kind (Number n) v w = grows_refl w.events
node_grows kind (Character b) v w = grows_refl w.events
node_grows kind (EnumName m n) v w = grows_refl w.events
node_grows kind (Text bs) v w = grows_refl w.events
node_grows kind (Array h) v w = grows_refl w.events
node_grows kind (Read p) v w = grows_refl w.events
node_grows kind (Unary op a) v w = grows_refl w.events
node_grows kind (Cast a) v w = grows_refl w.events
node_grows kind (Binary op a b) v w = grows_refl w.events
node_grows kind (Conditional a b c) v w = grows_refl w.events
node_grows kind (Assign p a) v w = grows_refl w.events
node_grows kind (Update op p a) v w = grows_refl w.events
node_grows kind (Count p up after) v w = grows_refl w.events
node_grows kind (Comma a b) v w = grows_refl w.events
node_grows kind (Call m xs) v w = grows_refl w.events

initialise_grows : (es : List Event) (x i : ℕ) (e : List ExpressionTree) (v : List Value) (w : World) → Grows es w.events →
    EffectGrows es (initialise x i e v w)
initialise_grows es x i [] v w h = h
initialise_grows es x i (e ∷ e') v w h = h

pub effect_grows : (o : Op) (v : List Value) (w : World) → EffectGrows w.events (effect o v w)
effect_grows (Computes (Typed kind node)) v w = node_grows kind node v w
effect_grows (Finds (Var h)) v w = grows_refl w.events
effect_grows (Finds (Cell h a)) v w = grows_refl w.events
effect_grows Drops v w = grows_refl w.events
effect_grows (Indexes h) v w = left_grows w.events (cell h (integer (top v)) w) (rest v) (cell_grows (owner h w) (integer (top v)) w)
effect_grows Loads v w = grows_refl w.events
effect_grows Fetches v w = grows_refl w.events
effect_grows (AppliesUnary op k) v w = left_grows w.events (unary op k (top v) w) (rest v)
    (outcome_grows (unary_result op (operand_kind k) (integer (top v))) w)
effect_grows (AppliesBinary op j k) v w =
    left_grows w.events (binary op j k (top (rest v)) (top v) w) (rest (rest v))
    (outcome_grows (binary_result op (operand_kind j) (operand_kind k) (integer (top (rest v))) (integer (top v))) w)
effect_grows (Converts k) v w = grows_refl w.events
effect_grows LeavesNothing v w = grows_refl w.events
effect_grows (Ands b) v w = either (EffectGrows w.events) (holds (top v)) (Does (Computes b ∷ Judges ∷ []) (rest v) w)
    (Does [] (Integer (pos 0) ∷ rest v) w) (grows_refl w.events) (grows_refl w.events)
effect_grows (Ors b) v w = either (EffectGrows w.events) (holds (top v)) (Does [] (Integer (pos 1) ∷ rest v) w)
    (Does (Computes b ∷ Judges ∷ []) (rest v) w) (grows_refl w.events) (grows_refl w.events)
effect_grows Judges v w = grows_refl w.events
effect_grows (Decides b c kind) v w = grows_refl w.events
effect_grows Stores v w = left_grows w.events (assign (top (rest v)) (top v) w) (rest (rest v)) (store_grows (top (rest v)) (integer (top v)) w)
effect_grows (Counts up after) v w =
    left_grows w.events (count up after (top v) w) (rest v)
    (counted_grows after (top v) (arith_result (count_mark up) (promoted (kind_at (top v) w)) (load (top v) w) (pos 1)) w)
effect_grows (Calls m n) v w = grows_refl w.events
effect_grows (Ends true) v w = grows_refl w.events
effect_grows (Ends false) v w = grows_refl w.events
effect_grows (Begins x es) v w = initialise_grows w.events x 0 es v w (grows_refl w.events)
effect_grows (Sets x i es) v w = initialise_grows w.events x (suc i) es (rest (rest v)) (store (top (rest v)) (integer (top v)) w)
    (store_grows (top (rest v)) (integer (top v)) w)
effect_grows (Clears x n) v w = grows_refl w.events

-- ---- states

settle_grows : (es : List Event) (o : Outcome) (f : List ℕ) (g : Guards) (k : List Task) (v : List Value) (cs : List Frame) → OutcomeGrows es o →
    Covers (More es) (shows (settle o f g k v cs))
settle_grows es (Gives x w) f g k v cs h = h
settle_grows es (Traps t w) f g k v cs h = h
settle_grows es (Exits n w) f g k v cs h = h

leave_grows : (es : List Event) (h : FunctionTree) (x : Value) (cs : List Frame) (w : World) → Grows es w.events → Covers (More es) (shows (leave h x cs w))
leave_grows es h x [] w e = settle_grows es (leave_entry h x w) [] (λ l. false) [] [] []
    (outcome_trans es w.events (leave_entry h x w) e (leave_entry_grows h x w))
leave_grows es h x (Waits f g k v ∷ cs) w e = settle_grows es (leave_call (is_dropped k) h x w) f g k v cs
    (outcome_trans es w.events (leave_call (is_dropped k) h x w) e (leave_call_grows (is_dropped k) h x w))

pub begin_grows : (es : List Event) (m : List ℕ) (a : Forest) (r : Result World Trap) (cs : List Frame) (w : World) → Grows es w.events →
    ResultGrows w.events r → Covers (More es) (shows (begin_call m a r cs w))
begin_grows es m a (Ok w') cs w h k = grows_trans es w.events w'.events h k
begin_grows es m a (Err t) cs w h k = h

invoke_grows : (es : List Event) (b : Option Forest) (h : FunctionTree) (m : List ℕ) (vs : List Value) (f : List ℕ) (g : Guards) (k : List Task)
    (v : List Value) (cs : List Frame) (w : World) → Grows es w.events → Covers (More es) (shows (invoke b h m vs f g k v cs w))
invoke_grows es (Some a) h m vs f g k v cs w e = begin_grows es m a (push h vs w) (Waits f g k v ∷ cs) w e (push_grows h vs w)
invoke_grows es None h m vs f g k v cs w e = settle_grows es (call_without_body m h vs w) f g k v cs
    (outcome_trans es w.events (call_without_body m h vs w) e (without_body_grows m h vs w))

perform_grows : (es : List Event) (p : Code) (e : Effect) (f : List ℕ) (g : Guards) (k : List Task) (cs : List Frame) → EffectGrows es e →
    Covers (More es) (shows (perform p e f g k cs))
perform_grows es p (Does os v w) f g k cs h = h
perform_grows es p (Fails t w) f g k cs h = h
perform_grows es p (Stops n w) f g k cs h = h
perform_grows es p (Invokes m vs v w) f g k cs h = invoke_grows es (p.functions m).body (p.functions m) m vs f g k v cs w h
perform_grows es p (Leaves (Some x) w) f g k cs h = leave_grows es (p.functions f) (returned (p.functions f) x) cs w h
perform_grows es p (Leaves None w) f g k cs h = leave_grows es (p.functions f) (fallen f) cs w h

move_grows : (p : Code) (x : View) (f : List ℕ) (g : Guards) (v : List Value) (cs : List Frame) (w : World) →
    Covers (More w.events) (shows (move p x f g v cs w))
move_grows p Finishes f g v cs w = leave_grows w.events (p.functions f) (fallen f) cs w (grows_refl w.events)
move_grows p (Goes k) f g v cs w = grows_refl w.events
move_grows p (Guarding l b k) f g v cs w = grows_refl w.events
move_grows p (Yields n k) f g v cs w = grows_refl w.events
move_grows p (Takes h) f g v cs w = grows_refl w.events
move_grows p (Arming l k) f g v cs w = grows_refl w.events
move_grows p (Acts o k) f g v cs w = perform_grows w.events p (effect o v w) f g k cs (effect_grows o v w)

-- a step shows what was shown before it, and maybe more
pub step_covers : (p : Code) (c : State) → Covers (shows c) (shows (step p c))
step_covers p (At f g k v cs w) = move_grows p (view (items_of (p.functions f)) g k) f g v cs w
step_covers p _ = refl
