-- How the calls, values and tasks of a program and of the one with variables for guards go together.
use Rattle.std.proofs.Common.{ℕ, zero, suc, ◌<◌, ℤ, pos, Bool, true, false, List, [], ◌∷◌, ◌++◌, length, Option, Some, None, ◌≡◌}
use Rattle.c_types.specs.declared.kinds.IntKind.{IntKind}
use Rattle.c_types.specs.declared.kinds.IntKind.TheVariants.{Int}
use Rattle.c_types.specs.declared.trap.Trap.{Trap}
use Rattle.c_tree.specs.declared.tree.Home.{Home}
use Rattle.c_tree.specs.declared.tree.Slot.{Slot}
use Rattle.c_tree.specs.declared.tree.UnaryOp.{UnaryOp}
use Rattle.c_tree.specs.declared.tree.BinaryOp.{BinaryOp}
use Rattle.c_tree.specs.declared.tree.BinaryOp.TheVariants.{Unequal}
use Rattle.c_tree.specs.Operators.{truth}
use Rattle.c_tree.specs.ExpressionTrees.{ExpressionTree, PlaceTree, Typed, Array}
use Rattle.c_tree.specs.TestTrees.{TestTree, Source, SelectorTree}
use Rattle.c_tree.specs.Labels.{TestLabels, SelectorLabels}
use Rattle.c_tree.specs.Cases.{ArePicks}
use Rattle.c_tree.specs.Trees.{Tree, Forest, Nil, Sections, While, Do, For}
use Rattle.c_tree.specs.Everywhere.{Everywhere, EverywhereOf, EverywhereIn}
use Rattle.jump_meaning.specs.Values.{OfCall, Variable, Holds, Lent, Value, Designates, Event}
use Rattle.jump_meaning.specs.Code.{Code}
use Rattle.jump_meaning.specs.World.{World}
use Rattle.jump_meaning.specs.Operations.{operand_kind}
use Rattle.jump_meaning.specs.Effects.{Op, Computes, Finds, Drops, Indexes, Loads, Fetches, AppliesUnary, AppliesBinary, Converts, LeavesNothing, Ands, Ors, Judges, Decides, Stores, Counts, Calls, Ends, Sets, Clears}
use Rattle.jump_meaning.specs.Tasks.{Loop, WhileLoop, DoLoop, ForLoop, Task, Runs, Works, Asks, Branches, Turns, Loops, Heads, Arms, AsksSelector, Enters, EndsSection, Out, works}
use Rattle.jump_meaning.specs.Step.{Guards, no_guards, switch_kind, Frame, Waits, State, At, HasEnded, HasTrapped}
use Rattle.plain_laws.specs.Kinded.{Kinded, KindedPlace, KindedTest, KindedSelector, AreKinded, IsHome, home_kind, place_kind, unary_kind, binary_kind, call_kind, first_slot, later_slots}
use Rattle.c_tree.specs.Numerals.{number}
use Rattle.plain_laws.specs.GuardSlots.{plain_test, picked, plain_list, plain_item, plain_sections}
use Rattle.plain_laws.specs.Slotted.{Guarding, Fits, IsSlotted}
use Rattle.plain_laws.proofs.Memories.{Shapes, Variables, Memories}
use Rattle.plain_laws.proofs.Sorts.{Sort, Bit, Num, Spot, ForSlot, unary_sort, mark_sort, sort_of, Under, HaveSorts}

-- the same conversion n times
abbrev pub converts : ℕ → IntKind → List Op
converts zero k = []
converts (suc n) k = Converts k ∷ converts n k

-- the sorts of n arguments for these parameters, the last first, above others
abbrev pub argument_sorts : ℕ → List Slot → List Sort → List Sort
argument_sorts zero ts ss = ss
argument_sorts (suc n) ts ss = argument_sorts n (later_slots ts) (ForSlot (first_slot ts).kind ∷ ss)

-- a variable that is 1 or 0 as the guard is set or not
abbrev pub IsBit : Variable → Bool → Type 0
IsBit (Holds k n cells) b = (k ≡ Int) × (n ≡ None) × (cells 0 ≡ truth b)
IsBit (Lent o) b = ⊥

abbrev pub plain_loop : (ℕ → ℕ) → Loop → Loop
plain_loop slot (WhileLoop t a) = WhileLoop (Source (plain_test slot t)) (plain_list slot a)
plain_loop slot (DoLoop a t) = DoLoop (plain_list slot a) (Source (plain_test slot t))
plain_loop slot (ForLoop t u a) = ForLoop t u (plain_list slot a)

-- a world by its parts
abbrev pub world : Variables → ℕ → ℕ → List ℕ → List ℤ → List Event → World
world s n cells input answers events = record { variables = s; calls = n; cells = cells; input = input; answers = answers; events = events }

module _ (p : Code) (gs : List ℕ → Guarding) (is : (m : List ℕ) → IsSlotted p (p.functions m) (gs m)) where
  -- ---- of a function

  abbrev pub slots : List ℕ → List Slot
  slots f = (p.functions f).slots

  abbrev pub slot : List ℕ → ℕ → ℕ
  slot f = (gs f).slot

  abbrev pub IsLeft : List ℕ → ℕ → Type 0
  IsLeft f l = (gs f).left l ≡ true

  abbrev pub Fit : List ℕ → Tree → Type 0
  Fit f x = Fits p (slots f) (gs f).left (is f).jumping x

  abbrev pub FitLoop : List ℕ → Loop → Type 0
  FitLoop f (WhileLoop t a) = EverywhereOf (Fit f) (While t a)
  FitLoop f (DoLoop a t) = EverywhereOf (Fit f) (Do a t)
  FitLoop f (ForLoop t u a) = EverywhereOf (Fit f) (For Nil t u a)

  -- ---- tasks

  -- tasks of statements
  pub data Rest (f : List ℕ) : List Task → List Task → Type 0 where
    r_none : Rest f [] []
    r_runs : (x : Tree) {k k' : List Task} → EverywhereOf (Fit f) x → Rest f k k' → Rest f (Runs x ∷ k) (Runs (plain_item (slot f) x) ∷ k')
    r_loops : (x : Loop) {k k' : List Task} → FitLoop f x → Rest f k k' → Rest f (Loops x ∷ k) (Loops (plain_loop (slot f) x) ∷ k')
    r_heads : (t u : Option ExpressionTree) (a : Forest) {k k' : List Task} → FitLoop f (ForLoop t u a) → Rest f k k' →
        Rest f (Heads t u a ∷ k) (Heads t u (plain_list (slot f) a) ∷ k')
    r_ends : {k k' : List Task} → Rest f k k' → Rest f (EndsSection ∷ k) (EndsSection ∷ k')
    r_out : {k k' : List Task} → Rest f k k' → Rest f (Out ∷ k) (Out ∷ k')

  -- tasks that ask whether a value is 0, which may be made 0 or 1 before
  pub data Truthy (f : List ℕ) : List Task → List Task → Type 0 where
    t_branches : (a b : Forest) {k k' : List Task} → Everywhere (Fit f) a → Everywhere (Fit f) b → Rest f k k' →
        Truthy f (Branches a b ∷ k) (Branches (plain_list (slot f) a) (plain_list (slot f) b) ∷ k')
    t_turns : (x : Loop) {k k' : List Task} → FitLoop f x → Rest f k k' → Truthy f (Turns x ∷ k) (Turns (plain_loop (slot f) x) ∷ k')
    t_judges : {k k' : List Task} → Truthy f k k' → Truthy f k (Works Judges ∷ k')

  -- tasks of call c, behind values of these sorts above others
  pub data Stack (f : List ℕ) (c : ℕ) : List Sort → List Value → List Value → List Task → List Task → Type 0 where
    s_rest : (v : List Value) {k k' : List Task} → Rest f k k' → Stack f c [] v v k k'
    s_truthy : (s : Sort) (v : List Value) {k k' : List Task} → Truthy f k k' → Stack f c (s ∷ []) v v k k'
    s_asks : (t : TestTree) (v : List Value) {k k' : List Task} → KindedTest p (slots f) t → TestLabels (IsLeft f) t → Truthy f k k' →
        Stack f c [] v v (Asks t ∷ k) (Works (Computes (plain_test (slot f) t)) ∷ k')
    s_selector : (s : SelectorTree) (n : ℕ) (d : Sections) (kind : IntKind) (v : List Value) {k k' : List Task} → switch_kind s ≡ kind →
        KindedSelector p (slots f) s → SelectorLabels (IsLeft f) s → ArePicks kind s → EverywhereIn (Fit f) d → Rest f k k'
        → Stack f c [] v v (AsksSelector s ∷ Enters kind d ∷ k)
        (Works (Computes (picked (slot f) kind s)) ∷ works (converts (suc n) kind) (Enters kind (plain_sections (slot f) d) ∷ k'))
    s_enters : (n : ℕ) (d : Sections) (kind : IntKind) (v : List Value) {k k' : List Task} → EverywhereIn (Fit f) d → Rest f k k'
        → Stack f c (Num (Some kind) ∷ []) v v (Enters kind d ∷ k) (works (converts n kind) (Enters kind (plain_sections (slot f) d) ∷ k'))
    -- a guard that is set by a value: one that is 0 or 1, or any
    s_arms_bit : (l : ℕ) (v : List Value) {k k' : List Task} → IsLeft f l → Rest f k k' →
        Stack f c (Bit ∷ []) v (Designates (OfCall c (slot f l)) 0 ∷ v) (Arms l ∷ k) (Works Stores ∷ Works Drops ∷ k')
    s_arms : (l : ℕ) (kind : IntKind) (v : List Value) {k k' : List Task} → IsLeft f l → Rest f k k'
        → Stack f c (Num (Some kind) ∷ []) v (Designates (OfCall c (slot f l)) 0 ∷ v) (Arms l ∷ k)
        (Works (Computes (number Int (pos 0))) ∷ Works (AppliesBinary Unequal (Some kind) (Some Int)) ∷ Works Stores ∷ Works Drops ∷ k')
    s_computes : (e : ExpressionTree) (t : Sort) {ss : List Sort} {v v' : List Value} {k k' : List Task} → Kinded p (slots f) e →
        Under (sort_of e) t → Stack f c (t ∷ ss) v v' k k' → Stack f c ss v v' (Works (Computes e) ∷ k) (Works (Computes e) ∷ k')
    s_array : (kind : Option IntKind) (h : Home) (t : Sort) {ss : List Sort} {v v' : List Value} {k k' : List Task} → IsHome (slots f) h →
        Under (ForSlot (home_kind p (slots f) h)) t → Stack f c (t ∷ ss) v v' k k' →
        Stack f c ss v v' (Works (Computes (Typed kind (Array h))) ∷ k) (Works (Computes (Typed kind (Array h))) ∷ k')
    s_finds : (at : PlaceTree) {ss : List Sort} {v v' : List Value} {k k' : List Task} → KindedPlace p (slots f) at →
        Stack f c (Spot (place_kind p (slots f) at) ∷ ss) v v' k k' → Stack f c ss v v' (Works (Finds at) ∷ k) (Works (Finds at) ∷ k')
    s_drops : (s : Sort) {ss : List Sort} {v v' : List Value} {k k' : List Task} → Stack f c ss v v' k k' →
        Stack f c (s ∷ ss) v v' (Works Drops ∷ k) (Works Drops ∷ k')
    s_indexes : (h : Home) (s : Sort) {ss : List Sort} {v v' : List Value} {k k' : List Task} → IsHome (slots f) h →
        Stack f c (Spot (home_kind p (slots f) h) ∷ ss) v v' k k' → Stack f c (s ∷ ss) v v' (Works (Indexes h) ∷ k) (Works (Indexes h) ∷ k')
    s_loads : (i : IntKind) (t : Sort) {ss : List Sort} {v v' : List Value} {k k' : List Task} → Under (Num (Some i)) t →
        Stack f c (t ∷ ss) v v' k k' → Stack f c (Spot i ∷ ss) v v' (Works Loads ∷ k) (Works Loads ∷ k')
    s_fetches : (i : IntKind) {ss : List Sort} {v v' : List Value} {k k' : List Task} → Stack f c (Num (Some i) ∷ Spot i ∷ ss) v v' k k' →
        Stack f c (Spot i ∷ ss) v v' (Works Fetches ∷ k) (Works Fetches ∷ k')
    s_unary : (op : UnaryOp) (j : Option IntKind) (s t : Sort) {ss : List Sort} {v v' : List Value} {k k' : List Task} →
        Under (unary_sort op (Some (unary_kind op (operand_kind j)))) t → Stack f c (t ∷ ss) v v' k k' →
        Stack f c (s ∷ ss) v v' (Works (AppliesUnary op j) ∷ k) (Works (AppliesUnary op j) ∷ k')
    s_binary : (op : BinaryOp) (i j : Option IntKind) (s r t : Sort) {ss : List Sort} {v v' : List Value} {k k' : List Task} →
        Under (mark_sort op (Some (binary_kind op (operand_kind i) (operand_kind j)))) t → Stack f c (t ∷ ss) v v' k k' →
        Stack f c (s ∷ r ∷ ss) v v' (Works (AppliesBinary op i j) ∷ k) (Works (AppliesBinary op i j) ∷ k')
    s_converts : (i : IntKind) (s t : Sort) {ss : List Sort} {v v' : List Value} {k k' : List Task} → Under (Num (Some i)) t →
        Stack f c (t ∷ ss) v v' k k' → Stack f c (s ∷ ss) v v' (Works (Converts i) ∷ k) (Works (Converts i) ∷ k')
    s_nothing : (t : Sort) {ss : List Sort} {v v' : List Value} {k k' : List Task} → Under (Num None) t → Stack f c (t ∷ ss) v v' k k' →
        Stack f c ss v v' (Works LeavesNothing ∷ k) (Works LeavesNothing ∷ k')
    s_ands : (e : ExpressionTree) (s t : Sort) {ss : List Sort} {v v' : List Value} {k k' : List Task} → Kinded p (slots f) e → Under Bit t →
        Stack f c (t ∷ ss) v v' k k' → Stack f c (s ∷ ss) v v' (Works (Ands e) ∷ k) (Works (Ands e) ∷ k')
    s_ors : (e : ExpressionTree) (s t : Sort) {ss : List Sort} {v v' : List Value} {k k' : List Task} → Kinded p (slots f) e → Under Bit t →
        Stack f c (t ∷ ss) v v' k k' → Stack f c (s ∷ ss) v v' (Works (Ors e) ∷ k) (Works (Ors e) ∷ k')
    s_judges : (s t : Sort) {ss : List Sort} {v v' : List Value} {k k' : List Task} → Under Bit t → Stack f c (t ∷ ss) v v' k k' →
        Stack f c (s ∷ ss) v v' (Works Judges ∷ k) (Works Judges ∷ k')
    s_decides : (a b : ExpressionTree) (kind : Option IntKind) (s t : Sort) {ss : List Sort} {v v' : List Value} {k k' : List Task} →
        Kinded p (slots f) a → Kinded p (slots f) b → Under (Num kind) t → Stack f c (t ∷ ss) v v' k k' →
        Stack f c (s ∷ ss) v v' (Works (Decides a b kind) ∷ k) (Works (Decides a b kind) ∷ k')
    s_stores : (i : IntKind) (s t : Sort) {ss : List Sort} {v v' : List Value} {k k' : List Task} → Under (Num (Some i)) t →
        Stack f c (t ∷ ss) v v' k k' → Stack f c (s ∷ Spot i ∷ ss) v v' (Works Stores ∷ k) (Works Stores ∷ k')
    s_counts : (up after : Bool) (i : IntKind) (t : Sort) {ss : List Sort} {v v' : List Value} {k k' : List Task} → Under (Num (Some i)) t →
        Stack f c (t ∷ ss) v v' k k' → Stack f c (Spot i ∷ ss) v v' (Works (Counts up after) ∷ k) (Works (Counts up after) ∷ k')
    s_calls : (m : List ℕ) (n : ℕ) (t : Sort) {ss : List Sort} {v v' : List Value} {k k' : List Task} → Under (Num (call_kind p m)) t →
        Stack f c (t ∷ ss) v v' k k' → Stack f c (argument_sorts n (slots m) ss) v v' (Works (Calls m n) ∷ k) (Works (Calls m n) ∷ k')
    s_ends_with : (s : Sort) (v v' : List Value) (k k' : List Task) → Stack f c (s ∷ []) v v' (Works (Ends true) ∷ k) (Works (Ends true) ∷ k')
    s_ends : (v v' : List Value) (k k' : List Task) → Stack f c [] v v' (Works (Ends false) ∷ k) (Works (Ends false) ∷ k')
    s_sets : (x i : ℕ) (es : List ExpressionTree) (s : Sort) (j : IntKind) (v : List Value) {k k' : List Task} → x < length (slots f) →
        AreKinded p (slots f) es → Rest f k k' → Stack f c (s ∷ Spot j ∷ []) v v (Works (Sets x i es) ∷ k) (Works (Sets x i es) ∷ k')
    s_clears : (x i : ℕ) (v : List Value) {k k' : List Task} → x < length (slots f) → Rest f k k' →
        Stack f c [] v v (Works (Clears x i) ∷ k) (Works (Clears x i) ∷ k')

  -- ---- calls and states

  -- call c is one of f with these guards, and the variables of the guards that are left are as they are
  pub record Sits (sh : Shapes) (v : Variables) (c : ℕ) (f : List ℕ) (g : Guards) : Type 0 where
    pub shape : (sh c).slots ≡ slots f
    pub guards : (l : ℕ) → IsLeft f l → IsBit (v (OfCall c (slot f l))) (g l)

  -- the calls that wait, of which the newest waits for one of m
  pub data Frames (sh : Shapes) (vs : Variables) : ℕ → List ℕ → List Frame → List Frame → Type 0 where
    f_none : (m : List ℕ) → Frames sh vs 0 m [] []
    f_more : (n : ℕ) (m f : List ℕ) (g : Guards) (t : Sort) (ss : List Sort) (u v v' : List Value) {k k' : List Task} {cs cs' : List Frame} →
        Sits sh vs (suc n) f g → HaveSorts p sh (suc n) ss u
        → Under (Num (p.functions m).result) t → Stack f (suc n) (t ∷ ss) v v' k k' → Frames sh vs n f cs cs' →
        Frames sh vs (suc n) m (Waits f g k (u ++ v) ∷ cs) (Waits f no_guards k' (u ++ v') ∷ cs')

  pub data Related : State → State → Type 0 where
    x_at : (sh : Shapes) (s vs : Variables) (n cells : ℕ) (input : List ℕ) (answers : List ℤ) (events : List Event) (f : List ℕ) (g : Guards)
        (ss : List Sort) (u v v' : List Value) {k k' : List Task} {cs cs' : List Frame}
        → Memories p sh (suc n) s vs → Sits sh vs (suc n) f g → HaveSorts p sh (suc n) ss u → Stack f (suc n) ss v v' k k' → Frames sh vs n f cs cs'
        → Related (At f g k (u ++ v) cs (world s (suc n) cells input answers events))
        (At f no_guards k' (u ++ v') cs' (world vs (suc n) cells input answers events))
    x_ended : (n : ℤ) (es : List Event) → Related (HasEnded n es) (HasEnded n es)
    x_trapped : (t : Trap) (es : List Event) → Related (HasTrapped t es) (HasTrapped t es)
