-- One task of a statement on both sides.
use Rattle.std.proofs.Common.{ℕ, suc, ◌+◌, ℤ, pos, Bool, true, false, cond, List, [], ◌∷◌, ◌++◌, Option, Some, None, option_map, ◌≡◌, refl, sym, ap, ◌∙◌, subst, true≢false}
use Rattle.std.specs.Option.{option_map_or}
use Rattle.c_types.specs.declared.kinds.IntKind.{IntKind}
use Rattle.c_types.specs.declared.kinds.IntKind.TheVariants.{Char, UChar, Int, UInt, Long, ULong}
use Rattle.c_types.specs.Numbers.{promoted}
use Rattle.c_tree.specs.declared.tree.UnaryOp.TheVariants.{Not}
use Rattle.c_tree.specs.declared.tree.BinaryOp.TheVariants.{Arith, Unequal}
use Rattle.c_tree.specs.ExpressionTrees.{ExpressionTree, NodeTree, Typed, Unary, Binary}
use Rattle.c_tree.specs.TestTrees.{SelectorTree, Selects, Pick}
use Rattle.c_tree.specs.Cases.{selector_source}
use Rattle.c_tree.specs.Constants.{kind_of, HasKind}
use Rattle.c_tree.specs.Operators.{truth}
use Rattle.c_tree.specs.Trees.{Tree, Forest, Nil, Then, Sections, Evaluate, Return, If, While, Do, For, Switch, Block, Local, Break, Continue, Goto, Mark, Arm, Leap, Land, join}
use Rattle.c_tree.specs.Everywhere.{EverywhereOf}
use Rattle.jump_meaning.specs.Values.{OfCall, Value, Integer, Designates, Event}
use Rattle.jump_meaning.specs.Code.{Code, items_of}
use Rattle.jump_meaning.specs.Operations.{operand_kind, holds, truth_value}
use Rattle.jump_meaning.specs.Effects.{Computes, AppliesBinary, Converts, Drops, Stores}
use Rattle.jump_meaning.specs.Tasks.{Loop, WhileLoop, DoLoop, ForLoop, Task, Runs, Works, Loops, Heads, Arms, AsksSelector, Enters, items, turn}
use Rattle.jump_meaning.specs.Search.{find, seek, ToLabel, first_of_three}
use Rattle.jump_meaning.specs.Step.{Guards, no_guards, with_guard, switch_kind, Frame, State, At, step}
use Rattle.jump_meaning.specs.Runs.{run}
use Rattle.jump_meaning.proofs.RunFacts.{run_add}
use Rattle.plain_laws.specs.Kinded.{Kinded}
use Rattle.c_tree.specs.Numerals.{number}
use Rattle.plain_laws.specs.GuardSlots.{is_truth, unequal_zero, truth as made_truth, guard_set, plain_selector, plain_list, plain_item, plain_sections}
use Rattle.plain_laws.specs.Slotted.{Guarding, AreDeclarations, none, one_more, variable, guarding, IsSlotted}
use Rattle.plain_laws.proofs.Memories.{Shapes, Variables, Memories}
use Rattle.plain_laws.proofs.Sorts.{Sort, Bit, Num, HaveSorts, Under, under_self, sort_of, node_sort}
use Rattle.plain_laws.proofs.Relation.{slots, slot, IsLeft, Fit, FitLoop, plain_loop, Rest, r_none, r_runs, r_loops, r_heads, r_ends, r_out, Truthy, t_branches, t_turns, t_judges, Stack, s_rest, s_truthy, s_asks, s_selector, s_arms_bit, s_arms, s_computes, s_drops, s_ends_with, s_ends, Sits, Frames, Related, x_at, world}
use Rattle.plain_laws.proofs.Rests.{rest_items, rest_turn, rest_cut, rest_cut_to, rest_find}
use Rattle.plain_laws.proofs.Carried.{set_variable, set_sits, set_frames, set_memories}
use Rattle.plain_laws.proofs.GuardRuns.{sets, sets_by}
use Rattle.plain_laws.proofs.Beginning.{Q, Later, now, left_behind, fall_sort}
use Rattle.plain_laws.proofs.Steps.{on, initialise_on, under_expression}

-- a promoted kind stays when it is promoted
pub promoted_twice : (k : IntKind) → promoted (promoted k) ≡ promoted k
promoted_twice Char = refl
promoted_twice UChar = refl
promoted_twice Int = refl
promoted_twice UInt = refl
promoted_twice Long = refl
promoted_twice ULong = refl

-- the kind of a selector whose guards are variables
pub picked_kind : (slot : ℕ → ℕ) (s : SelectorTree) → promoted (operand_kind (kind_of (plain_selector slot s))) ≡ switch_kind s
picked_kind slot (Selects e) = refl
picked_kind slot (Pick l n s) = promoted_twice (operand_kind (kind_of (selector_source s)))

-- an expression whose outermost mark gives a truth value gives 0 or 1
truth_under : (kind : Option IntKind) (node : NodeTree) → is_truth (Typed kind node) ≡ true → Under (node_sort kind node) Bit
truth_under kind (Unary Not a) e = tt
truth_under kind (Unary op a) e = absurd (true≢false (sym e))
truth_under kind (Binary (Arith op) a b) e = absurd (true≢false (sym e))
truth_under kind (Binary op a b) e = tt
truth_under kind _ e = absurd (true≢false (sym e))

truth_sort : (e : ExpressionTree) → is_truth e ≡ true → Under (sort_of e) Bit
truth_sort (Typed kind node) e = truth_under kind node e

-- declarations hold no label
find_behind : (l base end : ℕ) (ds b : Forest) → AreDeclarations base end ds → seek (ToLabel l) (join ds b) [] ≡ seek (ToLabel l) b []
find_behind l base end Nil b none = refl
find_behind l base end (Then x ds) b (one_more (variable y) r) = find_behind l base end ds b r
find_behind l base end (Then x ds) b (one_more (guarding y h i) r) = find_behind l base end ds b r

module _ (p : Code) (gs : List ℕ → Guarding) (is : (m : List ℕ) → IsSlotted p (p.functions m) (gs m))
    (sh : Shapes) (s vs : Variables) (n cells : ℕ) (input : List ℕ) (answers : List ℤ) (events : List Event) (f : List ℕ) (g : Guards) {cs cs' : List Frame}
    (me : Memories p sh (suc n) s vs) (st : Sits p gs is sh vs (suc n) f g) (fr : Frames p gs is sh vs n f cs cs') where
  abbrev R : Code
  R = Q p gs is

  abbrev pub lefts : List Task → List Value → State
  lefts k v = At f g k v cs (world s (suc n) cells input answers events)

  abbrev pub rights : List Task → List Value → State
  rights k v = At f no_guards k v cs' (world vs (suc n) cells input answers events)

  -- the right side is there after its first step and some more
  abbrev pub Next : State → State → Type 0
  Next c d = Later p gs is (step p c) (step R d)

  here : (ss : List Sort) (u v v' : List Value) {k k' : List Task} → HaveSorts p sh (suc n) ss u → Stack p gs is f (suc n) ss v v' k k' →
      Later p gs is (lefts k (u ++ v)) (rights k' (u ++ v'))
  here ss u v v' hs sk = now p gs is _ _ (on p gs is sh s vs n cells input answers events f g me st fr ss u v v' hs sk)

  -- one step of the right side comes first
  one_later : (c d : State) → Later p gs is c (step R d) → Later p gs is c d
  one_later c d h = record { steps = suc h.steps; related = h.related }

  rest_here : (v : List Value) {k k' : List Task} → Rest p gs is f k k' → Later p gs is (lefts k v) (rights k' v)
  rest_here v h = here [] [] v v tt (s_rest v h)

  -- ---- guards

  guard_here : (l : ℕ) (b : Bool) (v : List Value) {k k' : List Task} → IsLeft p gs is f l → Rest p gs is f k k'
      → Related p gs is (At f (with_guard l b g) k v cs (world s (suc n) cells input answers events))
      (At f no_guards k' v cs' (world (set_variable (suc n) (slot p gs is f l) b vs) (suc n) cells input answers events))
  guard_here l b v i h =
      x_at sh s (set_variable (suc n) (slot p gs is f l) b vs) n cells input answers events f (with_guard l b g) [] [] v v
      (set_memories p gs is sh s vs n (slot p gs is f l) b f st.shape ((is f).beyond l i) me)
      (set_sits p gs is sh vs (suc n) f g l b i st) tt (s_rest v h) (set_frames p gs is sh vs n (slot p gs is f l) b f fr)

  set_here : (l : ℕ) (b : Bool) (v : List Value) {k k' : List Task} → IsLeft p gs is f l → Rest p gs is f k k'
      → Later p gs is (At f (with_guard l b g) k v cs (world s (suc n) cells input answers events))
      (step R (rights (Runs (guard_set (slot p gs is f l) (number Int (truth b))) ∷ k') v))
  set_here l b v {k = k} {k' = k'} i h = record {
    steps = 5;
    related = subst (λ z. Related p gs is (At f (with_guard l b g) k v cs (world s (suc n) cells input answers events)) z)
        (sym (sets R f no_guards cs' vs (suc n) cells input answers events (slot p gs is f l) b (g l) k' v (st.guards l i))) (guard_here l b v i h);
  }

  armed_by : (y : Bool) (l : ℕ) (e : ExpressionTree) (v : List Value) {k k' : List Task} → is_truth e ≡ y → IsLeft p gs is f l →
      Kinded p (slots p gs is f) e → (kind : Option IntKind) → kind_of e ≡ kind → HasKind kind → Rest p gs is f k k'
      → Later p gs is (lefts (Works (Computes e) ∷ Arms l ∷ k) v)
      (rights (Works (Computes (cond y e (unequal_zero e))) ∷ Works Stores ∷ Works Drops ∷ k') (Designates (OfCall (suc n) (slot p gs is f l)) 0 ∷ v))
  armed_by true l e v q i ke kind qk hk h = here [] [] v (Designates (OfCall (suc n) (slot p gs is f l)) 0 ∷ v) tt
      (s_computes e Bit ke (truth_sort e q) (s_arms_bit l v i h))
  armed_by false l e v {k = k} {k' = k'} q i ke (Some kind) qk hk h =
      let at = Designates (OfCall (suc n) (slot p gs is f l)) 0 in
      one_later _ _
      (subst (λ z. Later p gs is (lefts (Works (Computes e) ∷ Arms l ∷ k) v)
      (rights (Works (Computes e) ∷ Works (Computes (number Int (pos 0))) ∷ Works (AppliesBinary Unequal z (Some Int)) ∷ Works Stores ∷ Works
      Drops ∷ k') (at ∷ v))) (sym qk)
      (here [] [] v (at ∷ v) tt (s_computes e (Num (Some kind)) ke (under_expression e (Num (Some kind)) qk) (s_arms l kind v i h))))
  armed_by false l e v q i ke None qk hk h = absurd hk

  after_run : (m : ℕ) (c d : State) → Later p gs is c (run R m d) → Later p gs is c d
  after_run m c d h = record { steps = m + h.steps; related = subst (λ z. Related p gs is c z) (sym (run_add R m h.steps d)) h.related }

  arm_next : (l : ℕ) (e : ExpressionTree) (v : List Value) {k k' : List Task} → IsLeft p gs is f l → Kinded p (slots p gs is f) e →
      HasKind (kind_of e) → Rest p gs is f k k'
      → Next (lefts (Runs (Arm l (Some e)) ∷ k) v) (rights (Runs (guard_set (slot p gs is f l) (made_truth e)) ∷ k') v)
  arm_next l e v {k = k} {k' = k'} i ke hk h =
      after_run 2 _ _
      (subst (λ z. Later p gs is (lefts (Works (Computes e) ∷ Arms l ∷ k) v) z)
      (sym (sets_by R f no_guards cs' vs (suc n) cells input answers events (slot p gs is f l) (g l) (made_truth e) k' v (st.guards l i)))
      (armed_by (is_truth e) l e v refl i ke (kind_of e) refl hk h))

  -- ---- items

  switch_next : (t : SelectorTree) (c : Sections) (v : List Value) {k k' : List Task} → EverywhereOf (Fit p gs is f) (Switch t c) → Rest p gs is f k k'
      → Next (lefts (Runs (Switch t c) ∷ k) v) (rights (Runs (plain_item (slot p gs is f) (Switch t c)) ∷ k') v)
  switch_next t c v {k = k} {k' = k'} i h =
      one_later _ _
      (subst (λ z. Later p gs is (lefts (AsksSelector t ∷ Enters (switch_kind t) c ∷ k) v)
      (rights (Works (Computes (plain_selector (slot p gs is f) t)) ∷ Works (Converts z) ∷ Enters z (plain_sections (slot p gs is f) c) ∷ k') v))
      (sym (picked_kind (slot p gs is f) t))
      (here [] [] v v tt (s_selector t 0 c (switch_kind t) v refl i.0.kinded i.0.labels i.0.picks i.1 h)))

  find_slotted : (l : ℕ) (b : Option Forest)
      → find l (option_map_or (λ a. a) (option_map (λ a. join (gs f).declarations (plain_list (gs f).slot a)) b) Nil) ≡ find l
      (plain_list (gs f).slot (option_map_or (λ a. a) b Nil))
  find_slotted l (Some a) = ap (λ o. first_of_three o None []) (find_behind l _ _ (gs f).declarations (plain_list (gs f).slot a) (is f).declared)
  find_slotted l None = refl

  item_next : (x : Tree) (v : List Value) {k k' : List Task} → EverywhereOf (Fit p gs is f) x → Rest p gs is f k k' →
      Next (lefts (Runs x ∷ k) v) (rights (Runs (plain_item (slot p gs is f) x) ∷ k') v)
  item_next (Evaluate e) v i h = here [] [] v v tt (s_computes e (sort_of e) i.kinded (under_self _) (s_drops (sort_of e) (s_rest v h)))
  item_next (Return None) v i h = here [] [] v v tt (s_ends v v _ _)
  item_next (Return (Some e)) v i h = here [] [] v v tt (s_computes e (sort_of e) i.kinded (under_self _) (s_ends_with (sort_of e) v v _ _))
  item_next (If t a b) v i h = one_later _ _ (here [] [] v v tt (s_asks t v i.0.kinded i.0.labels (t_branches a b i.1 i.2 h)))
  item_next (While t a) v i h = one_later _ _ (here [] [] v v tt (s_asks t v i.0.kinded i.0.labels (t_turns (WhileLoop t a) i h)))
  item_next (Do a t) v i h = rest_here v (rest_items p gs is f a i.1 (r_loops (DoLoop a t) i h))
  item_next (For first t u a) v i h = rest_here v
      (rest_items p gs is f first i.1 (r_heads t u a (record { kinded = i.0.kinded; labels = tt; form = tt; picks = tt }, tt, i.2) h))
  item_next (Switch t c) v i h = switch_next t c v i h
  item_next (Block a) v i h = rest_here v (rest_items p gs is f a i.1 h)
  item_next (Local x None) v i h = rest_here v h
  item_next (Local x (Some es)) v i h = now p gs is _ _ (initialise_on p gs is sh s vs n cells input answers events f g me st fr x 0 es v i.kinded.0
      i.kinded.1 h)
  item_next Break v i h = rest_here v (rest_cut p gs is f h)
  item_next Continue v i h = rest_here v (rest_cut_to p gs is f h)
  item_next (Goto l) v i h =
      rest_here v (subst (λ z. Rest p gs is f (find l (items_of (p.functions f))) z) (sym (find_slotted l (p.functions f).body))
      (rest_find p gs is f l i.form (items_of (p.functions f)) (is f).fits))
  item_next (Mark l) v i h = rest_here v h
  item_next (Arm l None) v i h = set_here l true v i.labels h
  item_next (Arm l (Some e)) v i h = arm_next l e v i.labels i.kinded.0 i.kinded.1 h
  item_next (Leap l) v i h = absurd i.form
  item_next (Land l) v i h = set_here l false v i.labels h
  item_next _ v i h = rest_here v h

  -- ---- the other tasks of statements

  loop_next : (x : Loop) (v : List Value) {k k' : List Task} → FitLoop p gs is f x → Rest p gs is f k k' →
      Next (lefts (Loops x ∷ k) v) (rights (Loops (plain_loop (slot p gs is f) x) ∷ k') v)
  loop_next (WhileLoop t a) v i h = rest_here v (r_runs (While t a) i h)
  loop_next (DoLoop a t) v i h = one_later _ _ (here [] [] v v tt (s_asks t v i.0.kinded i.0.labels (t_turns (DoLoop a t) i h)))
  loop_next (ForLoop t None a) v i h = rest_here v (r_heads t None a i h)
  loop_next (ForLoop t (Some e) a) v i h = here [] [] v v tt
      (s_computes e (sort_of e) i.0.kinded.1 (under_self _) (s_drops (sort_of e) (s_rest v (r_heads t (Some e) a i h))))

  head_next : (t u : Option ExpressionTree) (a : Forest) (v : List Value) {k k' : List Task} → FitLoop p gs is f (ForLoop t u a) →
      Rest p gs is f k k' → Next (lefts (Heads t u a ∷ k) v) (rights (Heads t u (plain_list (slot p gs is f) a) ∷ k') v)
  head_next None u a v i h = rest_here v (rest_items p gs is f a i.2 (r_loops (ForLoop None u a) i h))
  head_next (Some e) u a v i h = here [] [] v v tt (s_computes e (sort_of e) i.0.kinded.0 (under_self _)
      (s_truthy (sort_of e) v (t_turns (ForLoop (Some e) u a) i h)))

  pub rest_next : (v : List Value) {k k' : List Task} → Rest p gs is f k k' → Next (lefts k v) (rights k' v)
  rest_next v r_none = let e = fall_sort p gs is f (p.functions f) in now p gs is
      _ _ (left_behind p gs is sh cells s vs input answers events n f _ e.0 e.1 me fr)
  rest_next v (r_runs x i h) = item_next x v i h
  rest_next v (r_loops x i h) = loop_next x v i h
  rest_next v (r_heads t u a i h) = head_next t u a v i h
  rest_next v (r_ends h) = rest_here v (rest_cut p gs is f h)
  rest_next v (r_out h) = rest_here v h

  -- ---- tasks that ask whether a value is 0

  holds_truth : (b : Bool) → holds (Integer (truth b)) ≡ b
  holds_truth true = refl
  holds_truth false = refl

  either_rest : (y : Bool) (v : List Value) {j j' k k' : List Task} → Rest p gs is f j j' → Rest p gs is f k k' →
      Later p gs is (lefts (cond y j k) v) (rights (cond y j' k') v)
  either_rest true v h i = rest_here v h
  either_rest false v h i = rest_here v i

  pub truthy_next : (v : List Value) (x y : Value) {k k' : List Task} → holds y ≡ holds x → Truthy p gs is f k k' → Next (lefts k (x ∷ v)) (rights k' (y ∷ v))
  truthy_next v x y e (t_judges h) = one_later _ _ (truthy_next v x (truth_value y) (holds_truth (holds y) ∙ e) h)
  truthy_next v x y e (t_branches a b {k = k} {k' = k'} i j h) =
      subst (λ z. Later p gs is (lefts (cond (holds x) (items a k) (items b k)) v)
      (rights (cond z (items (plain_list (slot p gs is f) a) k') (items (plain_list (slot p gs is f) b) k')) v)) (sym e)
      (either_rest (holds x) v (rest_items p gs is f a i h) (rest_items p gs is f b j h))
  truthy_next v x y e (t_turns l {k = k} {k' = k'} i h) =
      subst (λ z. Later p gs is (lefts (cond (holds x) (turn l k) k) v) (rights (cond z (turn (plain_loop (slot p gs is f) l) k') k') v)) (sym e)
      (either_rest (holds x) v (rest_turn p gs is f l i h) h)
