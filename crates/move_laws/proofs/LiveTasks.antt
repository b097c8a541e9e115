-- Along a run nothing reads a guard that goes, and the value that decides such a guard is that of no call.
use Rattle.std.proofs.Common.{ℕ, suc, ℤ, Bool, true, false, cond, List, [], ◌∷◌, Option, Some, None, ◌≡◌}
use Rattle.c_types.specs.declared.kinds.IntKind.{IntKind}
use Rattle.c_tree.specs.declared.tree.BinaryOp.{BinaryOp}
use Rattle.c_tree.specs.declared.tree.BinaryOp.TheVariants.{AndThen, OrElse}
use Rattle.c_tree.specs.ExpressionTrees.{ExpressionTree, NodeTree, Typed, Var, Cell, Number, Character, EnumName, Text, Array, Read, Unary, Cast, Binary, Conditional, Assign, Update, Count, Comma, Call}
use Rattle.c_tree.specs.Trees.{Tree, Forest, Nil, Then, Sections, NoSection, Section, If, While, Do, For, Switch, Block}
use Rattle.c_tree.specs.Everywhere.{Everywhere, EverywhereOf, EverywhereIn}
use Rattle.c_tree.specs.Labels.{TestLabels, SelectorLabels}
use Rattle.jump_meaning.specs.Values.{Value, integer}
use Rattle.jump_meaning.specs.World.{World, Outcome, Gives, Traps, Exits, cell, store}
use Rattle.jump_meaning.specs.Operations.{holds, unary, binary, assign, count}
use Rattle.jump_meaning.specs.Calls.{is_array_slot}
use Rattle.jump_meaning.specs.Effects.{Op, Computes, Finds, Drops, Indexes, Loads, Fetches, AppliesUnary, AppliesBinary, Converts, LeavesNothing, Ands, Ors, Judges, Decides, Stores, Counts, Calls, Ends, Begins, Sets, Clears, Effect, Does, Fails, Stops, Invokes, Leaves, left, top, rest, cast_tasks, binary_tasks, node_effect, initialise, effect}
use Rattle.jump_meaning.specs.Tasks.{Loop, WhileLoop, DoLoop, ForLoop, Task, Runs, Works, Asks, Branches, Turns, Loops, Heads, Arms, AsksSelector, Enters, EndsSection, Out, items, works, end_of, tail_tasks, turn, cut, cut_to}
use Rattle.jump_meaning.specs.Search.{Goal, ToLabel, ToCase, ToDefault, is_goal, is_section_goal, enters_switches, or_else, seek, seek_in, seek_sections, first_of_three, find, entry}
use Rattle.jump_meaning.specs.Step.{dropped}
use Rattle.jump_meaning.proofs.Growth.{either}
use Rattle.move_laws.specs.Drops.{EndsInCall, Stays, IsUnread}

-- ---- tasks of expressions that leave the value of no call

abbrev pub IsNoCall : Op → Type 0
IsNoCall (Computes e) = ¬ (EndsInCall e)
IsNoCall (Calls m n) = ⊥
IsNoCall (Decides b c None) = ⊥
IsNoCall _ = Unit {0}

-- nor does the last of a list
abbrev pub LastIsNoCall : List Op → Type 0
LastIsNoCall [] = Unit {0}
LastIsNoCall (o ∷ []) = IsNoCall o
LastIsNoCall (o ∷ p ∷ os) = LastIsNoCall (p ∷ os)

abbrev pub EffectNoCall : Effect → Type 0
EffectNoCall (Does os v w) = LastIsNoCall os
EffectNoCall (Fails t w) = Unit {0}
EffectNoCall (Stops n w) = Unit {0}
EffectNoCall (Invokes m vs v w) = ⊥
EffectNoCall (Leaves x w) = Unit {0}

left_no_call : (o : Outcome) (v : List Value) → EffectNoCall (left o v)
left_no_call (Gives x w) v = tt
left_no_call (Traps t w) v = tt
left_no_call (Exits n w) v = tt

cast_no_call : (a : ExpressionTree) (k : Option IntKind) → LastIsNoCall (Computes a ∷ cast_tasks k)
cast_no_call a None = tt
cast_no_call a (Some k) = tt

binary_no_call : (op : BinaryOp) (a b : ExpressionTree) → LastIsNoCall (binary_tasks op a b)
binary_no_call AndThen a b = tt
binary_no_call OrElse a b = tt
binary_no_call _ a b = tt

-- the condition of a conditional expression, then its choice
choice_no_call : (a b c : ExpressionTree) (k : Option IntKind) → ¬ (EndsInCall (Typed k (Conditional a b c))) → LastIsNoCall (Computes a ∷ Decides b c k ∷ [])
choice_no_call a b c None h = h tt
choice_no_call a b c (Some k) h = tt

node_no_call : (k : Option IntKind) (n : NodeTree) → ¬ (EndsInCall (Typed k n)) → (v : List Value) (w : World) → EffectNoCall (node_effect k n v w)
node_no_call k (Number n) h v w = tt
node_no_call k (Character b) h v w = tt
node_no_call k (EnumName m n) h v w = tt
node_no_call k (Text bs) h v w = tt
node_no_call k (Array x) h v w = tt
node_no_call k (Read p) h v w = tt
node_no_call k (Unary op a) h v w = tt
node_no_call k (Cast a) h v w = cast_no_call a k
node_no_call k (Binary op a b) h v w = binary_no_call op a b
node_no_call k (Conditional a b c) h v w = choice_no_call a b c k h
node_no_call k (Assign p a) h v w = tt
node_no_call k (Update op p a) h v w = tt
node_no_call k (Count p up after) h v w = tt
node_no_call k (Comma a b) h v w = h
node_no_call k (Call m xs) h v w = absurd (h tt)

start_no_call : (x i : ℕ) (es : List ExpressionTree) (v : List Value) (w : World) → EffectNoCall (initialise x i es v w)
start_no_call x i [] v w = either LastIsNoCall (is_array_slot x w) (Clears x i ∷ []) [] tt tt
start_no_call x i (e ∷ es) v w = tt

chosen_no_call : (b : Bool) (x y : ExpressionTree) (k : IntKind) → LastIsNoCall (cond b (Computes x ∷ Converts k ∷ []) (Computes y ∷ Converts k ∷ []))
chosen_no_call true x y k = tt
chosen_no_call false x y k = tt

pub effect_no_call : (o : Op) → IsNoCall o → (v : List Value) (w : World) → EffectNoCall (effect o v w)
effect_no_call (Computes (Typed k n)) h v w = node_no_call k n h v w
effect_no_call (Finds (Var x)) h v w = tt
effect_no_call (Finds (Cell x a)) h v w = tt
effect_no_call Drops h v w = tt
effect_no_call (Indexes x) h v w = left_no_call (cell x (integer (top v)) w) (rest v)
effect_no_call Loads h v w = tt
effect_no_call Fetches h v w = tt
effect_no_call (AppliesUnary op k) h v w = left_no_call (unary op k (top v) w) (rest v)
effect_no_call (AppliesBinary op j k) h v w = left_no_call (binary op j k (top (rest v)) (top v) w) (rest (rest v))
effect_no_call (Converts k) h v w = tt
effect_no_call LeavesNothing h v w = tt
effect_no_call (Ands b) h v w = either EffectNoCall (holds (top v)) _ _ tt tt
effect_no_call (Ors b) h v w = either EffectNoCall (holds (top v)) _ _ tt tt
effect_no_call Judges h v w = tt
effect_no_call (Decides b c None) h v w = absurd h
effect_no_call (Decides b c (Some k)) h v w = chosen_no_call (holds (top v)) b c k
effect_no_call Stores h v w = left_no_call (assign (top (rest v)) (top v) w) (rest (rest v))
effect_no_call (Counts up after) h v w = left_no_call (count up after (top v) w) (rest v)
effect_no_call (Calls m n) h v w = absurd h
effect_no_call (Ends true) h v w = tt
effect_no_call (Ends false) h v w = tt
effect_no_call (Begins x es) h v w = start_no_call x 0 es v w
effect_no_call (Sets x i es) h v w = start_no_call x (suc i) es (rest (rest v)) (store (top (rest v)) (integer (top v)) w)
effect_no_call (Clears x n) h v w = tt

-- ---- what holds along a run

module _ (d : ℕ → Bool) where
  abbrev pub IsLiveLoop : Loop → Type 0
  IsLiveLoop (WhileLoop t a) = TestLabels (Stays d) t × Everywhere (IsUnread d) a
  IsLiveLoop (DoLoop a t) = TestLabels (Stays d) t × Everywhere (IsUnread d) a
  IsLiveLoop (ForLoop t u a) = Everywhere (IsUnread d) a

  -- a task of an expression before these tasks
  abbrev pub Fits : Op → List Task → Type 0
  Fits o (Arms l ∷ k) = d l ≡ true → IsNoCall o
  Fits o _ = Unit {0}

  -- the value of a condition isn't next
  abbrev pub IsNotArms : List Task → Type 0
  IsNotArms (Arms l ∷ k) = ⊥
  IsNotArms _ = Unit {0}

  abbrev pub IsLiveTask : Task → List Task → Type 0
  IsLiveTask (Runs x) k = EverywhereOf (IsUnread d) x
  IsLiveTask (Works o) k = Fits o k
  IsLiveTask (Asks t) k = TestLabels (Stays d) t × IsNotArms k
  IsLiveTask (Branches a b) k = Everywhere (IsUnread d) a × Everywhere (IsUnread d) b
  IsLiveTask (Turns x) k = IsLiveLoop x
  IsLiveTask (Loops x) k = IsLiveLoop x
  IsLiveTask (Heads t u a) k = Everywhere (IsUnread d) a
  IsLiveTask (Arms l) k = Unit {0}
  IsLiveTask (AsksSelector s) k = SelectorLabels (Stays d) s
  IsLiveTask (Enters kind c) k = EverywhereIn (IsUnread d) c
  IsLiveTask _ k = Unit {0}

  abbrev pub AreLive : List Task → Type 0
  AreLive [] = Unit {0}
  AreLive (t ∷ k) = IsLiveTask t k × AreLive k

  -- the last of a list of tasks of expressions, before these tasks
  abbrev LastFits : List Op → List Task → Type 0
  LastFits [] k = Unit {0}
  LastFits (o ∷ []) k = Fits o k
  LastFits (o ∷ p ∷ os) k = LastFits (p ∷ os) k

  pub live_works : (os : List Op) (k : List Task) → LastFits os k → AreLive k → AreLive (works os k)
  live_works [] k h i = i
  live_works (o ∷ []) k h i = (h, i)
  live_works (o ∷ p ∷ os) k h i = (tt, live_works (p ∷ os) k h i)

  last_armed : (os : List Op) (l : ℕ) (k : List Task) → (d l ≡ true → LastIsNoCall os) → LastFits os (Arms l ∷ k)
  last_armed [] l k h = tt
  last_armed (o ∷ []) l k h = h
  last_armed (o ∷ p ∷ os) l k h = last_armed (p ∷ os) l k h

  last_other : (os : List Op) (k : List Task) → ((o : Op) → Fits o k) → LastFits os k
  last_other [] k h = tt
  last_other (o ∷ []) k h = h o
  last_other (o ∷ p ∷ os) k h = last_other (p ∷ os) k h

  pub fits_other : (o : Op) (k : List Task) → IsNotArms k → Fits o k
  fits_other o (Arms l ∷ k) h = absurd h
  fits_other o _ h = tt

  pub fits_quiet : (o : Op) → IsNoCall o → (k : List Task) → Fits o k
  fits_quiet o h (Arms l ∷ k) = λ e. h
  fits_quiet o h _ = tt

  -- what an operation comes to fits where it did
  pub last_fits : (o : Op) (k : List Task) (os : List Op) → Fits o k → (IsNoCall o → LastIsNoCall os) → LastFits os k
  last_fits o (Arms l ∷ k) os f h = last_armed os l k (λ e. h (f e))
  last_fits o [] os f h = last_other os [] (λ o. tt)
  last_fits o (Runs x ∷ k) os f h = last_other os (Runs x ∷ k) (λ o. tt)
  last_fits o (Works p ∷ k) os f h = last_other os (Works p ∷ k) (λ o. tt)
  last_fits o (Asks t ∷ k) os f h = last_other os (Asks t ∷ k) (λ o. tt)
  last_fits o (Branches a b ∷ k) os f h = last_other os (Branches a b ∷ k) (λ o. tt)
  last_fits o (Turns x ∷ k) os f h = last_other os (Turns x ∷ k) (λ o. tt)
  last_fits o (Loops x ∷ k) os f h = last_other os (Loops x ∷ k) (λ o. tt)
  last_fits o (Heads t u a ∷ k) os f h = last_other os (Heads t u a ∷ k) (λ o. tt)
  last_fits o (AsksSelector s ∷ k) os f h = last_other os (AsksSelector s ∷ k) (λ o. tt)
  last_fits o (Enters kind c ∷ k) os f h = last_other os (Enters kind c ∷ k) (λ o. tt)
  last_fits o (EndsSection ∷ k) os f h = last_other os (EndsSection ∷ k) (λ o. tt)
  last_fits o (Out ∷ k) os f h = last_other os (Out ∷ k) (λ o. tt)

  pub live_items : (a : Forest) (k : List Task) → Everywhere (IsUnread d) a → AreLive k → AreLive (items a k)
  live_items Nil k h i = i
  live_items (Then x a) k h i = (h.0, live_items a k h.1 i)

  live_end : (ends : Bool) (k : List Task) → AreLive k → AreLive (end_of ends k)
  live_end true k i = (tt, i)
  live_end false k i = i

  live_tail : (c : Sections) (k : List Task) → EverywhereIn (IsUnread d) c → AreLive k → AreLive (tail_tasks c k)
  live_tail NoSection k h i = (tt, i)
  live_tail (Section cases default a ends c) k h i = live_items a (end_of ends (tail_tasks c k)) h.0 (live_end ends (tail_tasks c k) (live_tail c k h.1 i))

  pub live_turn : (x : Loop) (k : List Task) → IsLiveLoop x → AreLive k → AreLive (turn x k)
  live_turn (WhileLoop t a) k h i = live_items a (Loops (WhileLoop t a) ∷ k) h.1 (h, i)
  live_turn (DoLoop a t) k h i = (h, i)
  live_turn (ForLoop t u a) k h i = live_items a (Loops (ForLoop t u a) ∷ k) h (h, i)

  pub live_cut : (k : List Task) → AreLive k → AreLive (cut k)
  live_cut [] i = tt
  live_cut (Loops x ∷ k) i = i.1
  live_cut (Out ∷ k) i = i.1
  live_cut (_ ∷ k) i = live_cut k i.1

  pub live_cut_to : (k : List Task) → AreLive k → AreLive (cut_to k)
  live_cut_to [] i = tt
  live_cut_to (Loops x ∷ k) i = i
  live_cut_to (_ ∷ k) i = live_cut_to k i.1

  pub live_dropped : (u : Option ExpressionTree) (k : List Task) → AreLive k → AreLive (dropped u k)
  live_dropped None k i = i
  live_dropped (Some e) k i = (tt, (fits_quiet Drops tt k, i))

  -- ---- searches

  abbrev AreFound : Option (List Task) → Type 0
  AreFound None = Unit {0}
  AreFound (Some k) = AreLive k

  found_else : (o p : Option (List Task)) → AreFound o → AreFound p → AreFound (or_else o p)
  found_else (Some k) p h i = h
  found_else None p h i = i

  found_first : (o p : Option (List Task)) (k : List Task) → AreFound o → AreFound p → AreLive k → AreLive (first_of_three o p k)
  found_first (Some j) p k h i e = h
  found_first None (Some j) k h i e = i
  found_first None None k h i e = e

  mutual
    live_seek : (l : Goal) (a : Forest) (k : List Task) → Everywhere (IsUnread d) a → AreLive k → AreFound (seek l a k)
    live_seek l Nil k h i = tt
    live_seek l (Then x a) k h i =
        let after = live_items a k h.1 i in
        found_else (cond (is_goal l x) (Some (Runs x ∷ items a k)) (seek_in l x (items a k))) (seek l a k)
        (either AreFound (is_goal l x) (Some (Runs x ∷ items a k)) (seek_in l x (items a k)) (h.0, after) (live_seek_in l x (items a k) h.0 after))
        (live_seek l a k h.1 i)

    live_seek_in : (l : Goal) (x : Tree) (k : List Task) → EverywhereOf (IsUnread d) x → AreLive k → AreFound (seek_in l x k)
    live_seek_in l (If t a b) k h i = found_else (seek l a k) (seek l b k) (live_seek l a k h.1 i) (live_seek l b k h.2 i)
    live_seek_in l (While t a) k h i = live_seek l a (Loops (WhileLoop t a) ∷ k) h.1 (h, i)
    live_seek_in l (Do a t) k h i = live_seek l a (Loops (DoLoop a t) ∷ k) h.1 (h, i)
    live_seek_in l (For first t u a) k h i = live_seek l a (Loops (ForLoop t u a) ∷ k) h.2 (h.2, i)
    live_seek_in l (Switch s c) k h i = either AreFound (enters_switches l) (seek_sections l c k) None (live_sections l c k h.1 i) tt
    live_seek_in l (Block a) k h i = live_seek l a k h.1 i
    live_seek_in l _ k h i = tt

    live_sections : (l : Goal) (c : Sections) (k : List Task) → EverywhereIn (IsUnread d) c → AreLive k → AreFound (seek_sections l c k)
    live_sections l NoSection k h i = tt
    live_sections l (Section cases default a ends c) k h i =
        let behind = end_of ends (tail_tasks c k) in
        let after = live_end ends (tail_tasks c k) (live_tail c k h.1 i) in
        found_else (cond (is_section_goal l cases default) (Some (items a behind)) (seek l a behind)) (seek_sections l c k)
        (either AreFound (is_section_goal l cases default) (Some (items a behind)) (seek l a behind) (live_items a behind h.0 after)
        (live_seek l a behind h.0 after)) (live_sections l c k h.1 i)

  pub live_find : (l : ℕ) (a : Forest) → Everywhere (IsUnread d) a → AreLive (find l a)
  live_find l a h = found_first (seek (ToLabel l) a []) None [] (live_seek (ToLabel l) a [] h tt) tt tt

  pub live_entry : (kind : IntKind) (n : ℤ) (c : Sections) (k : List Task) → EverywhereIn (IsUnread d) c → AreLive k → AreLive (entry kind n c k)
  live_entry kind n c k h i = found_first (seek_sections (ToCase kind n) c k) (seek_sections ToDefault c k) k (live_sections (ToCase kind n) c k h i)
      (live_sections ToDefault c k h i) i
