-- Tasks of a body and of a looser one that come to the same.
use Rattle.std.proofs.Common.{ℕ, suc, ◌<◌, ◌+◌, true, false, List, [], ◌∷◌, length, Option, Some, None, IfSome, ◌≡◌}
use Rattle.c_types.specs.declared.kinds.IntKind.{IntKind}
use Rattle.c_types.specs.Numbers.{promoted}
use Rattle.c_tree.specs.ExpressionTrees.{ExpressionTree}
use Rattle.c_tree.specs.TestTrees.{Source}
use Rattle.c_tree.specs.Trees.{Tree, Forest, Nil, Then, Sections, While, For, Goto, Mark, join}
use Rattle.jump_meaning.specs.Values.{OfCall, Value, Designates}
use Rattle.jump_meaning.specs.Effects.{Drops, Converts, Stores, Ends, Sets, Clears}
use Rattle.jump_meaning.specs.Tasks.{Task, Runs, Works, Heads, Loops, WhileLoop, DoLoop, ForLoop, Enters, EndsSection, Out, items, cut, cut_to}
use Rattle.jump_meaning.specs.Search.{ToDefault, find}
use Rattle.jump_meaning.specs.Step.{Guards, Takes, view, is_dropped}
use Rattle.flat_laws.specs.Pieces.{Aim, Stays, Becomes, Absent, mark_of, IsMoved, test_or_one, third_items, with_third, assigned_cells, Names, wanted_among, tests_among}
use Rattle.flat_laws.specs.Placed.{ArePlaced}
use Rattle.flat_laws.specs.Loose.{Setting, In, AreIn, slot_of, IsLocal, IsNew, Mode, Open, Ended, Jumped, IsLast, Inner, Arrivals, IsOtherwise, LooserItem, Looser, Spread}

-- tasks with the label of a construct before them
abbrev pub behind_mark : Aim → List Task → List Task
behind_mark b k = items (mark_of b) k

-- tasks that no value waits for. b and c are what `break` and `continue` become in the innermost loop or switch; B is the looser body
pub data Control (s : Setting) (B : Forest) : Mode → Aim → Aim → List Task → List Task → Type 0 where
  ct_nil : Control s B Open Stays Stays [] []
  ct_item : {m : Mode} {b c : Aim} {r : Arrivals} {x : Tree} {ys : Forest} {k k' : List Task} → LooserItem s m b c r x ys → ArePlaced B ys k' →
      Control s B m b c k k' → Control s B Open b c (Runs x ∷ k) (items ys k')
  ct_skip : {b c : Aim} (l : ℕ) {k k' : List Task} → Control s B Open b c k k' → Control s B Open b c k (Runs (Mark l) ∷ k')
  -- behind the bodies of loops
  ct_while : {b c : Aim} (t : ExpressionTree) (b' c' : Aim) {r : Arrivals} {a a' : Forest} {k k' : List Task} → In s t → Looser s Open b' c' r a a'
      → ArePlaced B (join a' (mark_of c')) (Loops (WhileLoop (Source t) (join a' (mark_of c'))) ∷ behind_mark b' k') → ArePlaced B (mark_of b') k' →
      Control s B Open b c k k'
      → Control s B Open b' c' (Loops (WhileLoop (Source t) a) ∷ k) (Loops (WhileLoop (Source t) (join a' (mark_of c'))) ∷ behind_mark b' k')
  ct_do : {b c : Aim} (t : ExpressionTree) (b' c' : Aim) {r : Arrivals} {a a' : Forest} {k k' : List Task} → In s t → Looser s Open b' c' r a a'
      → ArePlaced B (join a' (mark_of c')) (Loops (DoLoop (join a' (mark_of c')) (Source t)) ∷ behind_mark b' k') → ArePlaced B (mark_of b') k' →
      Control s B Open b c k k'
      → Control s B Open b' c' (Loops (DoLoop a (Source t)) ∷ k) (Loops (DoLoop (join a' (mark_of c')) (Source t)) ∷ behind_mark b' k')
  ct_for : {b c : Aim} (t u : Option ExpressionTree) (b' c' : Aim) {r : Arrivals} {a a' : Forest} {k k' : List Task} → IfSome t (In s) →
      IfSome u (In s) → Looser s Open b' c' r a a'
      → ArePlaced B (join a' (mark_of c')) (Loops (ForLoop t u (join a' (mark_of c'))) ∷ behind_mark b' k') → ArePlaced B (mark_of b') k' →
      Control s B Open b c k k'
      → Control s B Open b' c' (Loops (ForLoop t u a) ∷ k) (Loops (ForLoop t u (join a' (mark_of c'))) ∷ behind_mark b' k')
  -- at the head of a `for`, behind its first part
  ct_heads : {b c : Aim} (t u : Option ExpressionTree) (b' c' : Aim) {r : Arrivals} {a a' : Forest} {k k' : List Task} → IfSome t (In s) →
      IfSome u (In s) → Looser s Open b' c' r a a'
      → ArePlaced B (join a' (mark_of c')) (Loops (ForLoop t u (join a' (mark_of c'))) ∷ behind_mark b' k') → ArePlaced B (mark_of b') k' →
      Control s B Open b c k k'
      → Control s B Open b c (Heads t u a ∷ k) (Heads t u (join a' (mark_of c')) ∷ behind_mark b' k')
  ct_starts : {b c : Aim} (t u : Option ExpressionTree) (b' c' : Aim) {r : Arrivals} {a a' : Forest} {k k' : List Task} → IfSome t (In s) →
      IfSome u (In s) → Looser s Open b' c' r a a'
      → ArePlaced B (join a' (mark_of c')) (Loops (ForLoop t u (join a' (mark_of c'))) ∷ behind_mark b' k') → ArePlaced B (mark_of b') k' →
      Control s B Open b c k k'
      → Control s B Open b c (Heads t u a ∷ k) (Runs (For Nil t u (join a' (mark_of c'))) ∷ behind_mark b' k')
  -- a `for` that is a `while`: at its head, and behind its body
  ct_while_starts : {b c : Aim} (t u : Option ExpressionTree) (b' c' : Aim) {r : Arrivals} {a a' : Forest} {k k' : List Task} → IsMoved c' →
      IfSome t (In s) → IfSome u (In s) → Looser s Open b' c' r a a'
      → ArePlaced B (with_third a' c' u) (Loops (WhileLoop (Source (test_or_one t)) (with_third a' c' u)) ∷ behind_mark b' k') →
      ArePlaced B (mark_of b') k' → Control s B Open b c k k'
      → Control s B Open b c (Heads t u a ∷ k) (Runs (While (Source (test_or_one t)) (with_third a' c' u)) ∷ behind_mark b' k')
  ct_third : {b c : Aim} (t u : Option ExpressionTree) (b' c' : Aim) {r : Arrivals} {a a' : Forest} {k k' : List Task} → IsMoved c' →
      IfSome t (In s) → IfSome u (In s) → Looser s Open b' c' r a a'
      → ArePlaced B (with_third a' c' u) (Loops (WhileLoop (Source (test_or_one t)) (with_third a' c' u)) ∷ behind_mark b' k') →
      ArePlaced B (mark_of b') k' → Control s B Open b c k k'
      → Control s B Open b' c' (Loops (ForLoop t u a) ∷ k)
      (items (third_items u) (Loops (WhileLoop (Source (test_or_one t)) (with_third a' c' u)) ∷ behind_mark b' k'))
  -- behind a switch that stays, and at an end of a section of it; what stands past the switch is related too
  ct_out : {b c : Aim} (b' : Aim) {k k' : List Task} → ArePlaced B (mark_of b') k' → Control s B Open b c k k' →
      Control s B Open b' c (Out ∷ k) (Out ∷ behind_mark b' k')
  ct_ends : {b c b' c' : Aim} {k k' j j' : List Task} → cut k ≡ j → cut k' ≡ j' → Control s B Open b' c' j j' → Control s B Open b c k k' →
      Control s B Open b c (EndsSection ∷ k) (EndsSection ∷ k')
  -- behind the last item of a section that gets an end
  ct_ended : {b c b' c' : Aim} {k i k' j j' : List Task} → cut k ≡ j → cut i ≡ j → cut_to k ≡ cut_to i → cut k' ≡ j' → Control s B Open b' c' j j' →
      Control s B Open b c i k' → Control s B Ended b c k (EndsSection ∷ k')
  -- behind the last item of a switch that is dissolved, where that is a goto
  ct_jumped : {m : Mode} {b c : Aim} {k i k' : List Task} → IsLast m → cut_to k ≡ cut_to i → Control s B m b c i k' → Control s B Jumped Absent c k k'
  -- behind a switch that is dissolved, and at an end of a section of it
  ct_behind : {b c : Aim} (b' : Aim) {k k' : List Task} → IsMoved b' → ArePlaced B (mark_of b') k' → Control s B Open b c k k' →
      Control s B Open b' c (Out ∷ k) (behind_mark b' k')
  ct_leaves : {b c c' : Aim} (l : ℕ) {k k' j j' : List Task} → find l B ≡ Runs (Mark l) ∷ j' → cut k ≡ j → Control s B Open b c j j' →
      Control s B Open (Becomes l) c' k k' → Control s B Open (Becomes l) c' (EndsSection ∷ k) (Runs (Goto l) ∷ k')

-- the tasks of a call that evaluates nothing
pub data Still (s : Setting) (B : Forest) : List Task → List Task → Type 0 where
  st_control : {b c : Aim} {k k' : List Task} → Control s B Open b c k k' → Still s B k k'
  -- a `for` that is a `while`, behind its third part
  st_turns : {b c : Aim} (t u : Option ExpressionTree) (b' c' : Aim) {r : Arrivals} {a a' : Forest} {k k' : List Task} → IsMoved c' →
      IfSome t (In s) → IfSome u (In s) → Looser s Open b' c' r a a'
      → ArePlaced B (with_third a' c' u) (Loops (WhileLoop (Source (test_or_one t)) (with_third a' c' u)) ∷ behind_mark b' k') →
      ArePlaced B (mark_of b') k' → Control s B Open b c k k'
      → Still s B (Heads t u a ∷ k) (Loops (WhileLoop (Source (test_or_one t)) (with_third a' c' u)) ∷ behind_mark b' k')
  -- the cells that are left out, one by one
  st_clears : {b c : Aim} (k' : IntKind) (x i m : ℕ) {k j : List Task} → IsLocal s x → (slot_of s x).cells ≡ Some (i + m) → Control s B Open b c k j →
      Still s B (Works (Clears x i) ∷ k) (items (assigned_cells k' x i [] m) j)
  st_keep_clears : {b c : Aim} (x i : ℕ) {k k' : List Task} → x < length s.old → Control s B Open b c k k' →
      Still s B (Works (Clears x i) ∷ k) (Works (Clears x i) ∷ k')

-- the tasks and the values of call d that wait for one value
pub data Waiting (s : Setting) (B : Forest) (d : ℕ) : List Task → List Task → List Value → List Value → Type 0 where
  wt_drops : {k k' : List Task} → Still s B k k' → Waiting s B d (Works Drops ∷ k) (Works Drops ∷ k') [] []
  wt_ends : {k k' : List Task} → Waiting s B d (Works (Ends true) ∷ k) (Works (Ends true) ∷ k') [] []
  wt_takes : {k k' : List Task} (h h' : Value → List Task) → ((b : Forest) (g : Guards) → view b g k ≡ Takes h) →
      ((b : Forest) (g : Guards) → view b g k' ≡ Takes h') → is_dropped k ≡ false → is_dropped k' ≡ false
      → ((x : Value) → Still s B (h x) (h' x)) → Waiting s B d k k' [] []
  -- an initialiser of a number, and of cell i of an array
  wt_number : {b c : Aim} (p : Value) (x : ℕ) {k k' : List Task} → IsLocal s x → (slot_of s x).cells ≡ None → Control s B Open b c k k' →
      Waiting s B d (Works (Sets x 0 []) ∷ k) (Works Stores ∷ Works Drops ∷ k') (p ∷ []) (p ∷ [])
  wt_cell : {b c : Aim} (p : Value) (k' : IntKind) (x i : ℕ) (es : List ExpressionTree) (m : ℕ) {k j : List Task} → IsLocal s x →
      (slot_of s x).cells ≡ Some (suc i + (length es + m)) → AreIn s es → Control s B Open b c k j
      → Waiting s B d (Works (Sets x i es) ∷ k) (Works Stores ∷ Works Drops ∷ items (assigned_cells k' x (suc i) es m) j) (p ∷ []) (p ∷ [])
  -- an initialiser of a declaration that stays
  wt_sets : {b c : Aim} (p : Value) (x i : ℕ) (es : List ExpressionTree) {k k' : List Task} → x < length s.old → AreIn s es →
      Control s B Open b c k k' → Waiting s B d (Works (Sets x i es) ∷ k) (Works (Sets x i es) ∷ k') (p ∷ []) (p ∷ [])
  -- the selector of a switch that is dissolved: the second keeps it in slot v
  wt_selects : {m0 n0 : Mode} {b c : Aim} (j : IntKind) (b' : Aim) (names : Names) (v l : ℕ) {e : Sections} {ys : Forest} {k k' : List Task} →
      IsMoved b' → Inner m0 n0 → IsNew s v → (slot_of s v).cells ≡ None → (slot_of s v).kind ≡ promoted j
      → IsOtherwise (wanted_among ToDefault names e) b' l → Spread s n0 b' c names e ys → ArePlaced B ys k' → Control s B m0 b c k k'
      → Waiting s B d (Works (Converts (promoted j)) ∷ Enters (promoted j) e ∷ k)
      (Works Stores ∷ Works Drops ∷ items (join (tests_among s.number (promoted j) v names e) (Then (Goto l) ys)) k') [] (Designates (OfCall d v) 0 ∷ [])
