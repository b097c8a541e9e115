-- A body and a looser one, a constructor a rule; and programs of which each function is the same or looser.
use Rattle.std.specs.Prelude.{ℕ, ℤ, Bool, true, false, List, [], ◌∷◌, length, Option, Some, None, ◌≡◌, ◌≤◌, ◌<◌, ◌+◌, IfSome, IsSome}
use Rattle.c_types.specs.declared.kinds.IntKind.{IntKind}
use Rattle.c_types.specs.Numbers.{converted}
use Rattle.c_tree.specs.declared.tree.Slot.{Slot}
use Rattle.c_tree.specs.declared.tree.Function.{Function}
use Rattle.c_tree.specs.declared.tree.Top.{Top}
use Rattle.c_tree.specs.declared.tree.Top.TheVariants as T
use Rattle.c_tree.specs.ExpressionTrees.{ExpressionTree}
use Rattle.c_tree.specs.TestTrees.{Source, Selects}
use Rattle.c_tree.specs.Slots.{ExpressionSlots}
use Rattle.c_tree.specs.Trees.{Tree, Forest, Nil, Then, Sections, NoSection, Section, Evaluate, Return, If, While, Do, For, Switch, Block, Local, Break, Continue, Goto, Mark, Arrival, Note, join}
use Rattle.c_tree.specs.Changed.{one}
use Rattle.jump_meaning.specs.Code.{FunctionTree, Code, items_of, entry_or, function_tree}
use Rattle.jump_meaning.specs.World.{no_slot}
use Rattle.jump_meaning.specs.Search.{ToDefault}
use Rattle.jump_meaning.specs.Step.{switch_kind}
use Rattle.flat_laws.specs.Pieces.{Aim, Stays, Becomes, Absent, mark_of, IsMoved, test_or_one, with_third, assign_number, assigned_cells, Names, wanted_among, tests_among, IsNumber, case_marks}
use Rattle.flat_laws.specs.Placed.{ArePlaced, IsUnlabelled, Has}

-- what the two bodies of a function have in common
pub record Setting : Type 0 where
  -- what becomes of each label of the first: its number in the second, none where it goes
  pub labels : ℕ → Option ℕ
  -- how many slots are parameters
  pub params : ℕ
  -- the slots of the first; those of the second, which has further ones behind them
  pub old : List Slot
  pub new : List Slot
  -- a number of a kind as a constant of it
  pub number : IntKind → ℤ → ExpressionTree
  pub numbers : (k : IntKind) (z : ℤ) → IsNumber (number k (converted k z)) k (converted k z)

-- an expression of the first names slots of the first
abbrev pub In : Setting → ExpressionTree → Type 0
In s e = ExpressionSlots (λ x. x < length s.old) e

-- each of these expressions of the first names slots of the first
abbrev pub AreIn : Setting → List ExpressionTree → Type 0
AreIn s [] = Unit {0}
AreIn s (e ∷ es) = In s e × AreIn s es

-- slot x of the second
abbrev pub slot_of : Setting → ℕ → Slot
slot_of s x = entry_or no_slot s.new x

-- a slot of the first that is no parameter
abbrev pub IsLocal : Setting → ℕ → Type 0
IsLocal s x = (s.params ≤ x) × (x < length s.old)

-- a slot that the second alone has
abbrev pub IsNew : Setting → ℕ → Type 0
IsNew s x = (s.params ≤ x) × (length s.old ≤ x)

-- how a list ends: as it stands; or by a `break` that goes, or a goto, behind which its section gets an end; or by a goto
pub data Mode : Type 0 where
  Open : Mode
  Ended : Mode
  Jumped : Mode

-- the last item of a list may be one after which nothing of the list is reached
abbrev pub IsLast : Mode → Type 0
IsLast Open = ⊥
IsLast Ended = Unit {0}
IsLast Jumped = Unit {0}

-- how the lists of a switch that is dissolved end, where the switch is an item that ends so
pub data Inner : Mode → Mode → Type 0 where
  in_open : Inner Open Open
  in_last : {m : Mode} → IsLast m → Inner m Jumped

-- which Arrivals a list may have: none, or those of a switch that is dissolved, with these labels
pub data Arrivals : Type 0 where
  NoArrival : Arrivals
  Arrives : Names → Arrivals

-- where a switch goes of which no case is selected: to the label of the default, or behind the switch
abbrev pub IsOtherwise : Option ℕ → Aim → ℕ → Type 0
IsOtherwise (Some l) b m = m ≡ l
IsOtherwise None b m = b ≡ Becomes m

abbrev mutual
  -- items that go
  pub AreGone : Setting → Forest → Type 0
  AreGone s Nil = Unit {0}
  AreGone s (Then x xs) = IsGone s x × AreGone s xs

  -- an item that goes: a declaration without initialisers, a label that goes, a block of such items
  pub IsGone : Setting → Tree → Type 0
  IsGone s (Local x None) = Unit {0}
  IsGone s (Mark l) = s.labels l ≡ None
  IsGone s (Block a) = AreGone s a
  IsGone s _ = ⊥

mutual
  -- what stands in the place of an item; b and c are what `break` and `continue` become there
  pub data LooserItem (s : Setting) : Mode → Aim → Aim → Arrivals → Tree → Forest → Type 0 where
    lo_evaluate : {b c : Aim} {r : Arrivals} (e : ExpressionTree) → In s e → LooserItem s Open b c r (Evaluate e) (one (Evaluate e))
    lo_return : {b c : Aim} {r : Arrivals} (e : ExpressionTree) → In s e → LooserItem s Open b c r (Return (Some e)) (one (Return (Some e)))
    lo_return_none : {b c : Aim} {r : Arrivals} → LooserItem s Open b c r (Return None) (one (Return None))
    lo_note : {b c : Aim} {r : Arrivals} (bs : List ℕ) → LooserItem s Open b c r (Note bs) (one (Note bs))
    lo_if : {b c : Aim} {r : Arrivals} (t : ExpressionTree) {x x' y y' : Forest} → In s t → Looser s Open b c r x x' → Looser s Open b c r y y' →
        LooserItem s Open b c r (If (Source t) x y) (one (If (Source t) x' y'))
    -- loops: the label of their `continue` stands last in the body, that of their `break` behind them
    lo_while : {b c : Aim} {r : Arrivals} (t : ExpressionTree) (b' c' : Aim) {a a' : Forest} → In s t → Looser s Open b' c' r a a'
        → LooserItem s Open b c r (While (Source t) a) (Then (While (Source t) (join a' (mark_of c'))) (mark_of b'))
    lo_do : {b c : Aim} {r : Arrivals} (t : ExpressionTree) (b' c' : Aim) {a a' : Forest} → In s t → Looser s Open b' c' r a a'
        → LooserItem s Open b c r (Do a (Source t)) (Then (Do (join a' (mark_of c')) (Source t)) (mark_of b'))
    lo_for : {b c : Aim} {r : Arrivals} (t u : Option ExpressionTree) (b' c' : Aim) {i i' a a' : Forest} → IfSome t (In s) → IfSome u (In s) →
        Looser s Open b c NoArrival i i' → Looser s Open b' c' r a a'
        → LooserItem s Open b c r (For i t u a) (join i' (Then (For Nil t u (join a' (mark_of c'))) (mark_of b')))
    -- a `for` as a `while`
    lo_for_while : {b c : Aim} {r : Arrivals} (t u : Option ExpressionTree) (b' c' : Aim) {i i' a a' : Forest} → IsMoved c' → IfSome t (In s) →
        IfSome u (In s) → Looser s Open b c NoArrival i i' → Looser s Open b' c' r a a'
        → LooserItem s Open b c r (For i t u a) (join i' (Then (While (Source (test_or_one t)) (with_third a' c' u)) (mark_of b')))
    -- blocks and declarations
    lo_block : {m : Mode} {b c : Aim} {r : Arrivals} {a a' : Forest} → Looser s m b c r a a' → LooserItem s m b c r (Block a) a'
    lo_declares : {b c : Aim} {r : Arrivals} (x : ℕ) → LooserItem s Open b c r (Local x None) Nil
    lo_number : {b c : Aim} {r : Arrivals} (k : IntKind) (x : ℕ) (e : ExpressionTree) → IsLocal s x → (slot_of s x).cells ≡ None → In s e →
        LooserItem s Open b c r (Local x (Some (e ∷ []))) (one (Evaluate (assign_number k x e)))
    lo_array : {b c : Aim} {r : Arrivals} (k : IntKind) (x : ℕ) (es : List ExpressionTree) (m : ℕ) → IsLocal s x →
        (slot_of s x).cells ≡ Some (length es + m) → AreIn s es → LooserItem s Open b c r (Local x (Some es)) (assigned_cells k x 0 es m)
    -- blocks, first parts and declarations that stay
    lo_keep_block : {b c : Aim} {r : Arrivals} {a a' : Forest} → Looser s Open b c r a a' → LooserItem s Open b c r (Block a) (one (Block a'))
    lo_keep_for : {b c : Aim} {r : Arrivals} (t u : Option ExpressionTree) (b' c' : Aim) {i i' a a' : Forest} → IsUnlabelled i' → IfSome t (In s) →
        IfSome u (In s) → Looser s Open b c NoArrival i i' → Looser s Open b' c' r a a'
        → LooserItem s Open b c r (For i t u a) (Then (For i' t u (join a' (mark_of c'))) (mark_of b'))
    lo_keep_declares : {b c : Aim} {r : Arrivals} (x : ℕ) → LooserItem s Open b c r (Local x None) (one (Local x None))
    lo_keep_local : {b c : Aim} {r : Arrivals} (x : ℕ) (es : List ExpressionTree) → x < length s.old → AreIn s es →
        LooserItem s Open b c r (Local x (Some es)) (one (Local x (Some es)))
    -- exits
    lo_break : {c : Aim} {r : Arrivals} → LooserItem s Open Stays c r Break (one Break)
    lo_break_to : {c : Aim} {r : Arrivals} (l : ℕ) → LooserItem s Open (Becomes l) c r Break (one (Goto l))
    lo_break_end : {b c : Aim} {r : Arrivals} → LooserItem s Ended b c r Break Nil
    lo_continue : {b : Aim} {r : Arrivals} → LooserItem s Open b Stays r Continue (one Continue)
    lo_continue_to : {b : Aim} {r : Arrivals} (l : ℕ) → LooserItem s Open b (Becomes l) r Continue (one (Goto l))
    -- jumps and labels
    lo_goto : {m : Mode} {b c : Aim} {r : Arrivals} (l n : ℕ) → s.labels l ≡ Some n → LooserItem s m b c r (Goto l) (one (Goto n))
    lo_mark : {b c : Aim} {r : Arrivals} (l n : ℕ) → s.labels l ≡ Some n → LooserItem s Open b c r (Mark l) (one (Mark n))
    lo_drop : {b c : Aim} {r : Arrivals} (l : ℕ) → s.labels l ≡ None → LooserItem s Open b c r (Mark l) Nil
    lo_arrival : {b c : Aim} (names : Names) (e : Option ExpressionTree) → LooserItem s Open b c (Arrives names) (Arrival e) (one (Mark (names e)))
    -- a switch that stays, and one that is dissolved: into `v = e`, the tests of its cases, a goto, and its lists
    lo_switch : {b c : Aim} {r : Arrivals} (e : ExpressionTree) (b' : Aim) {d d' : Sections} → In s e → LooserSections s b' c d d' →
        LooserItem s Open b c r (Switch (Selects e) d) (Then (Switch (Selects e) d') (mark_of b'))
    lo_scatter : {m n : Mode} {b c : Aim} {r : Arrivals} (e : ExpressionTree) (b' : Aim) (names : Names) (v l : ℕ) {d : Sections} {ys : Forest} →
        In s e → IsMoved b' → Inner m n
        → IsNew s v → (slot_of s v).cells ≡ None → (slot_of s v).kind ≡ switch_kind (Selects e) → IsOtherwise (wanted_among ToDefault names d) b' l →
        Spread s n b' c names d ys
        → LooserItem s m b c r (Switch (Selects e) d)
        (Then (Evaluate (assign_number (switch_kind (Selects e)) v e)) (join (tests_among s.number (switch_kind (Selects e)) v names d) (Then (Goto l) ys)))

  -- of a list
  pub data Looser (s : Setting) : Mode → Aim → Aim → Arrivals → Forest → Forest → Type 0 where
    la_nil : {b c : Aim} {r : Arrivals} → Looser s Open b c r Nil Nil
    la_then : {m : Mode} {b c : Aim} {r : Arrivals} {x : Tree} {ys xs xs' : Forest} → LooserItem s Open b c r x ys → Looser s m b c r xs xs' →
        Looser s m b c r (Then x xs) (join ys xs')
    la_last : {m : Mode} {b c : Aim} {r : Arrivals} {x : Tree} {ys xs : Forest} → IsLast m → LooserItem s m b c r x ys → AreGone s xs →
        Looser s m b c r (Then x xs) ys

  -- of the sections of a switch that stays
  pub data LooserSections (s : Setting) : Aim → Aim → Sections → Sections → Type 0 where
    lc_none : {b c : Aim} → LooserSections s b c NoSection NoSection
    lc_section : {b c : Aim} (cases : List ExpressionTree) (default ends : Bool) {xs xs' : Forest} {d d' : Sections} →
        Looser s Open b c NoArrival xs xs' → LooserSections s b c d d'
        → LooserSections s b c (Section cases default xs ends d) (Section cases default xs' ends d')
    lc_ended : {b c : Aim} (cases : List ExpressionTree) (default ends : Bool) {xs xs' : Forest} {d d' : Sections} →
        Looser s Ended b c NoArrival xs xs' → LooserSections s b c d d'
        → LooserSections s b c (Section cases default xs ends d) (Section cases default xs' true d')

  -- the lists of a switch that is dissolved, each behind its labels
  pub data Spread (s : Setting) : Mode → Aim → Aim → Names → Sections → Forest → Type 0 where
    ls_none : {b c : Aim} {names : Names} → Spread s Open b c names NoSection (mark_of b)
    ls_last : {c : Aim} {names : Names} (cases : List ExpressionTree) (default : Bool) {xs xs' : Forest} → Looser s Jumped Absent c (Arrives names) xs xs'
        → Spread s Jumped Absent c names (Section cases default xs false NoSection) (join (case_marks names cases default) xs')
    ls_falls : {m : Mode} {b c : Aim} {names : Names} (cases : List ExpressionTree) (default : Bool) {xs xs' ys : Forest} {d : Sections} →
        Looser s Open b c (Arrives names) xs xs' → Spread s m b c names d ys
        → Spread s m b c names (Section cases default xs false d) (join (case_marks names cases default) (join xs' ys))
    ls_ends : {c : Aim} {names : Names} (l : ℕ) (cases : List ExpressionTree) (default : Bool) {xs xs' ys : Forest} {d : Sections} →
        Looser s Open (Becomes l) c (Arrives names) xs xs' → Spread s Open (Becomes l) c names d ys
        → Spread s Open (Becomes l) c names (Section cases default xs true d) (join (case_marks names cases default) (join xs' (Then (Goto l) ys)))

-- ---- functions and programs

-- the second slots are as the first, but for their names, and further numbers
abbrev pub ExtendSlots : List Slot → List Slot → Type 0
ExtendSlots [] [] = Unit {0}
ExtendSlots [] (t ∷ ts) = (t.cells ≡ None) × ExtendSlots [] ts
ExtendSlots (s ∷ ss) [] = ⊥
ExtendSlots (s ∷ ss) (t ∷ ts) = (s.kind ≡ t.kind) × (s.cells ≡ t.cells) × ExtendSlots ss ts

-- h is f with a looser body: the same result and parameters, its slots and further numbers, and labels that each stand where a jump to them comes
pub record IsLooser (f h : FunctionTree) : Type 0 where
  pub setting : Setting
  pub defined : IsSome f.body
  pub new_defined : IsSome h.body
  pub related : Looser setting Open Stays Stays NoArrival (items_of f) (items_of h)
  -- a jump to a label of either comes to where that stands
  pub placed : ArePlaced (items_of f) (items_of f) []
  pub new_placed : ArePlaced (items_of h) (items_of h) []
  -- each label that stays stands in the first
  pub named : (l n : ℕ) → setting.labels l ≡ Some n → Has l (items_of f)
  pub result : f.result ≡ h.result
  pub params : f.params ≡ h.params
  pub slots : ExtendSlots f.slots h.slots
  pub same_params : setting.params ≡ f.params
  pub same_old : setting.old ≡ f.slots
  pub same_new : setting.new ≡ h.slots

-- a function and the same one, or a looser one
pub data LooserFunction : FunctionTree → FunctionTree → Type 0 where
  lf_same : {f h : FunctionTree} → f ≡ h → LooserFunction f h
  lf_looser : {f h : FunctionTree} → IsLooser f h → LooserFunction f h

-- each function of the second is that of the first, or looser
pub record LooserCode (p q : Code) : Type 0 where
  pub functions : (m : List ℕ) → LooserFunction (p.functions m) (q.functions m)
  pub globals : (m : List ℕ) → p.globals m ≡ q.globals m
  pub cells : p.cells ≡ q.cells

-- two file-scope items are the same, or the second is a looser function of the same name
pub data LooserTop : Top → Top → Type 0 where
  lt_same : {t u : Top} → t ≡ u → LooserTop t u
  lt_function : {f h : Function} → f.name ≡ h.name → IsLooser (function_tree f) (function_tree h) → LooserTop (T.Function f) (T.Function h)

-- two lists of file-scope items are, place by place, the same, or looser functions in the second
pub data LooserTops : List Top → List Top → Type 0 where
  lt_none : LooserTops [] []
  lt_more : {t u : Top} {ts us : List Top} → LooserTop t u → LooserTops ts us → LooserTops (t ∷ ts) (u ∷ us)
