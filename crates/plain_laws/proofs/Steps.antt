-- One task of an expression on both sides.
use Rattle.std.proofs.Common.{ℕ, suc, ◌<◌, ℤ, Bool, true, false, cond, List, [], ◌∷◌, ◌++◌, length, Option, Some, None, ◌≡◌, refl, sym, ap, ◌∙◌, subst, arith}
use Rattle.c_types.specs.declared.kinds.IntKind.{IntKind}
use Rattle.c_types.specs.Numbers.{converted}
use Rattle.c_types.proofs.Residues.{converted-in_range}
use Rattle.c_tree.specs.declared.tree.Home.{Home}
use Rattle.c_tree.specs.declared.tree.Home.TheVariants as H
use Rattle.c_tree.specs.declared.tree.Slot.{Slot}
use Rattle.c_tree.specs.declared.tree.UnaryOp.{UnaryOp}
use Rattle.c_tree.specs.declared.tree.UnaryOp.TheVariants.{Not}
use Rattle.c_tree.specs.declared.tree.BinaryOp.{BinaryOp}
use Rattle.c_tree.specs.declared.tree.BinaryOp.TheVariants.{Arith, Less, Greater, AtMost, AtLeast, Equal, Unequal, AndThen, OrElse}
use Rattle.c_tree.specs.ExpressionTrees.{ExpressionTree, PlaceTree, NodeTree, Arguments, Typed, Var, Array, Unary, Binary, NoArgument, Argument}
use Rattle.c_tree.specs.Constants.{kind_of}
use Rattle.c_tree.specs.Operators.{truth}
use Rattle.jump_meaning.specs.Values.{OfCall, Value, Integer, Designates, Lends, Format, Missing, Event, integer}
use Rattle.jump_meaning.specs.Code.{Code}
use Rattle.jump_meaning.specs.World.{World, Outcome, owner, cell, put, with_zeros, clear}
use Rattle.jump_meaning.specs.Calls.{is_array}
use Rattle.jump_meaning.specs.Operations.{operand_kind, holds, truth_value, loaded}
use Rattle.jump_meaning.specs.Effects.{Op, Computes, Finds, Drops, Indexes, Loads, Fetches, AppliesUnary, AppliesBinary, Converts, LeavesNothing, Ands, Ors, Judges, Decides, Stores, Counts, Calls, Sets, Clears, Does, left, conversion, binary_tasks, cast_tasks, argument_count, argument_tasks, effect, initialise}
use Rattle.jump_meaning.specs.Tasks.{Task, works}
use Rattle.jump_meaning.specs.Step.{Guards, no_guards, Frame, At, HasEnded, HasTrapped, perform, settle}
use Rattle.plain_laws.specs.Kinded.{Kinded, k_number, k_character, k_enum, k_text, k_read, k_unary, k_cast, k_binary, k_conditional, k_assign, k_update, k_count, k_comma, k_call, KindedPlace, k_var, k_cell, KindedArguments, k_none, k_argument, k_array, IsHome, home_kind, place_kind, unary_kind, binary_kind, AreKinded, IsNumberOf, first_slot, later_slots}
use Rattle.plain_laws.specs.Slotted.{Guarding, IsSlotted}
use Rattle.plain_laws.proofs.Memories.{Shapes, Variables, Memories, zero_in_range, cleared, put_kept}
use Rattle.plain_laws.proofs.Sorts.{Sort, Bit, Num, Spot, ForSlot, HasSort, HaveSorts, InKind, Under, under, under_self, sort_of, node_sort, unary_sort, mark_sort, unary_has, binary_has}
use Rattle.plain_laws.proofs.Relation.{slots, Stack, s_computes, s_array, s_finds, s_drops, s_indexes, s_loads, s_fetches, s_unary, s_binary, s_converts, s_nothing, s_ands, s_ors, s_judges, s_decides, s_stores, s_counts, s_calls, s_sets, s_clears, s_rest, Rest, argument_sorts, Sits, Frames, Related, x_at, x_ended, x_trapped, world}
use Rattle.plain_laws.proofs.Carried.{sits_kept, frames_kept}
use Rattle.plain_laws.proofs.Outcomes.{SameOutcome, o_gives, o_traps, o_exits, result_outcome, place_same, place_sort, cell_outcome, load_same, load_sort, assign_outcome, count_outcome}
use Rattle.plain_laws.proofs.Beginning.{Q}

-- what is one for no kind, or for the kind of an expression, is one for its sort
pub under_node : (kind : Option IntKind) (node : NodeTree) (t : Sort) → Under (Num kind) t → Under (node_sort kind node) t
under_node kind (Unary Not a) (Num j) u = tt
under_node kind (Unary Not a) (ForSlot k) u = tt
under_node kind (Unary Not a) _ u = absurd u
under_node kind (Unary op a) t u = u
under_node kind (Binary (Arith op) a b) t u = u
under_node kind (Binary op a b) (Num j) u = tt
under_node kind (Binary op a b) (ForSlot k) u = tt
under_node kind (Binary op a b) Bit u = absurd u
under_node kind (Binary op a b) (Spot k) u = absurd u
under_node kind node t u = u

pub under_expression : (e : ExpressionTree) (t : Sort) → Under (Num (kind_of e)) t → Under (sort_of e) t
under_expression (Typed kind node) t u = under_node kind node t u

none_under : (kind : Option IntKind) (t : Sort) → Under (Num None) t → Under (Num kind) t
none_under kind (Num None) u = tt
none_under kind (Num (Some k)) u = cc
none_under kind (ForSlot k) u = tt
none_under kind _ u = absurd u

number_in : (kind : Option IntKind) (n : ℤ) → IsNumberOf kind n → InKind kind (Integer n)
number_in None n h = tt
number_in (Some k) n h = h

format_in : (kind : Option IntKind) (bs : List ℕ) → InKind kind (Format bs)
format_in None bs = tt
format_in (Some k) bs = zero_in_range k

module _ (p : Code) (gs : List ℕ → Guarding) (is : (m : List ℕ) → IsSlotted p (p.functions m) (gs m))
    (sh : Shapes) (s vs : Variables) (n cells : ℕ) (input : List ℕ) (answers : List ℤ) (events : List Event) (f : List ℕ) (g : Guards) {cs cs' : List Frame}
    (me : Memories p sh (suc n) s vs) (st : Sits p gs is sh vs (suc n) f g) (fr : Frames p gs is sh vs n f cs cs') where
  abbrev pub l : World
  l = world s (suc n) cells input answers events

  abbrev pub r : World
  r = world vs (suc n) cells input answers events

  abbrev Sorts : List Sort → List Value → Type 0
  Sorts = HaveSorts p sh (suc n)

  abbrev Tasks : List Sort → List Value → List Value → List Task → List Task → Type 0
  Tasks = Stack p gs is f (suc n)

  abbrev K : ExpressionTree → Type 0
  K = Kinded p (slots p gs is f)

  abbrev right : Code
  right = Q p gs is

  pub on : (ss : List Sort) (u v v' : List Value) {k k' : List Task} → Sorts ss u → Tasks ss v v' k k' →
      Related p gs is (At f g k (u ++ v) cs l) (At f no_guards k' (u ++ v') cs' r)
  on ss u v v' hs sk = x_at sh s vs n cells input answers events f g ss u v v' me st hs sk fr

  -- the value that an outcome gives, or the end of the run
  pub outcome_on : (t : Sort) (ss : List Sort) (u v v' : List Value) {k k' : List Task} {o o' : Outcome} →
      SameOutcome p sh (suc n) s vs cells me t o o' → Sorts ss u → Tasks (t ∷ ss) v v' k k'
      → Related p gs is (perform p (left o (u ++ v)) f g k cs) (perform right (left o' (u ++ v')) f no_guards k' cs')
  outcome_on t ss u v v' (o_gives x s2 v2 i a e h m2 k2) hs sk = x_at sh s2 v2 n cells i a e f g (t ∷ ss) (x ∷ u) v v' m2
      (sits_kept p gs is sh vs v2 (suc n) f g k2 st) (h, hs) sk (frames_kept p gs is sh vs v2 n f k2 fr)
  outcome_on t ss u v v' (o_traps z w w' e) hs sk = subst (λ es. Related p gs is (HasTrapped z w.events) (HasTrapped z es)) e (x_trapped z w.events)
  outcome_on t ss u v v' (o_exits z w w' e) hs sk = subst (λ es. Related p gs is (HasEnded z w.events) (HasEnded z es)) e (x_ended z w.events)

  pub settle_on : (t : Sort) (ss : List Sort) (u v v' : List Value) {k k' : List Task} {o o' : Outcome} →
      SameOutcome p sh (suc n) s vs cells me t o o' → Sorts ss u → Tasks (t ∷ ss) v v' k k'
      → Related p gs is (settle o f g k (u ++ v) cs) (settle o' f no_guards k' (u ++ v') cs')
  settle_on t ss u v v' (o_gives x s2 v2 i a e h m2 k2) hs sk = x_at sh s2 v2 n cells i a e f g (t ∷ ss) (x ∷ u) v v' m2
      (sits_kept p gs is sh vs v2 (suc n) f g k2 st) (h, hs) sk (frames_kept p gs is sh vs v2 n f k2 fr)
  settle_on t ss u v v' (o_traps z w w' e) hs sk = subst (λ es. Related p gs is (HasTrapped z w.events) (HasTrapped z es)) e (x_trapped z w.events)
  settle_on t ss u v v' (o_exits z w w' e) hs sk = subst (λ es. Related p gs is (HasEnded z w.events) (HasEnded z es)) e (x_ended z w.events)

  -- what a task of an expression does on both sides
  abbrev pub Act : Op → List Value → List Value → List Value → List Task → List Task → Type 0
  Act o u v v' k k' = Related p gs is (perform p (effect o (u ++ v) l) f g k cs) (perform right (effect o (u ++ v') r) f no_guards k' cs')

  value : (t : Sort) (x : Value) (ss : List Sort) (u v v' : List Value) {k k' : List Task} (b : Sort) → Under b t → HasSort p sh (suc n) b x →
      Sorts ss u → Tasks (t ∷ ss) v v' k k' → Related p gs is (At f g k (x ∷ (u ++ v)) cs l) (At f no_guards k' (x ∷ (u ++ v')) cs' r)
  value t x ss u v v' b un h hs sk = on (t ∷ ss) (x ∷ u) v v' (under p sh (suc n) b t x un h, hs) sk

  home_here : (h : Home) → IsHome (slots p gs is f) h → IsHome (sh (suc n)).slots h
  home_here h i = subst (λ z. IsHome z h) (sym st.shape) i

  -- ---- expressions

  binary_on : (op : BinaryOp) (a b : ExpressionTree) (t : Sort) (ss : List Sort) (u v v' : List Value) {k k' : List Task} → K a → K b →
      Under (mark_sort op (Some (binary_kind op (operand_kind (kind_of a)) (operand_kind (kind_of b))))) t
      → Sorts ss u → Tasks (t ∷ ss) v v' k k' → Related p gs is (At f g (works (binary_tasks op a b) k) (u ++ v) cs l)
      (At f no_guards (works (binary_tasks op a b) k') (u ++ v') cs' r)
  binary_on AndThen a b t ss u v v' i j un hs sk = on ss u v v' hs (s_computes a (sort_of a) i (under_self _) (s_ands b (sort_of a) t j un sk))
  binary_on OrElse a b t ss u v v' i j un hs sk = on ss u v v' hs (s_computes a (sort_of a) i (under_self _) (s_ors b (sort_of a) t j un sk))
  binary_on (Arith op) a b t ss u v v' i j un hs sk = on ss u v v' hs
      (s_computes a (sort_of a) i (under_self _) (s_computes b (sort_of b) j (under_self _)
      (s_binary (Arith op) (kind_of a) (kind_of b) (sort_of b) (sort_of a) t un sk)))
  binary_on Less a b t ss u v v' i j un hs sk = on ss u v v' hs
      (s_computes a (sort_of a) i (under_self _) (s_computes b (sort_of b) j (under_self _)
      (s_binary Less (kind_of a) (kind_of b) (sort_of b) (sort_of a) t un sk)))
  binary_on Greater a b t ss u v v' i j un hs sk = on ss u v v' hs
      (s_computes a (sort_of a) i (under_self _) (s_computes b (sort_of b) j (under_self _)
      (s_binary Greater (kind_of a) (kind_of b) (sort_of b) (sort_of a) t un sk)))
  binary_on AtMost a b t ss u v v' i j un hs sk = on ss u v v' hs
      (s_computes a (sort_of a) i (under_self _) (s_computes b (sort_of b) j (under_self _)
      (s_binary AtMost (kind_of a) (kind_of b) (sort_of b) (sort_of a) t un sk)))
  binary_on AtLeast a b t ss u v v' i j un hs sk = on ss u v v' hs
      (s_computes a (sort_of a) i (under_self _) (s_computes b (sort_of b) j (under_self _)
      (s_binary AtLeast (kind_of a) (kind_of b) (sort_of b) (sort_of a) t un sk)))
  binary_on Equal a b t ss u v v' i j un hs sk = on ss u v v' hs
      (s_computes a (sort_of a) i (under_self _) (s_computes b (sort_of b) j (under_self _)
      (s_binary Equal (kind_of a) (kind_of b) (sort_of b) (sort_of a) t un sk)))
  binary_on Unequal a b t ss u v v' i j un hs sk = on ss u v v' hs
      (s_computes a (sort_of a) i (under_self _) (s_computes b (sort_of b) j (under_self _)
      (s_binary Unequal (kind_of a) (kind_of b) (sort_of b) (sort_of a) t un sk)))

  cast_on : (kind : Option IntKind) (a : ExpressionTree) (t : Sort) (ss : List Sort) (u v v' : List Value) {k k' : List Task} → K a → Under (Num kind) t
      → Sorts ss u → Tasks (t ∷ ss) v v' k k' → Related p gs is (At f g (works (Computes a ∷ cast_tasks kind) k) (u ++ v) cs l)
      (At f no_guards (works (Computes a ∷ cast_tasks kind) k') (u ++ v') cs' r)
  cast_on None a t ss u v v' i un hs sk = on ss u v v' hs (s_computes a (sort_of a) i (under_self _) (s_drops (sort_of a) (s_nothing t un sk)))
  cast_on (Some j) a t ss u v v' i un hs sk = on ss u v v' hs (s_computes a (sort_of a) i (under_self _) (s_converts j (sort_of a) t un sk))

  arguments_on : (ts : List Slot) (xs : Arguments) (os : List Op) (ss : List Sort) (v v' : List Value) (k k' : List Task) →
      KindedArguments p (slots p gs is f) ts xs → Tasks (argument_sorts (argument_count xs) ts ss) v v' (works os k) (works os k')
      → Tasks ss v v' (works (argument_tasks xs os) k) (works (argument_tasks xs os) k')
  arguments_on ts NoArgument os ss v v' k k' (k_none q) sk = sk
  arguments_on ts (Argument x xs) os ss v v' k k' (k_argument q y ys i j) sk =
      s_computes x (ForSlot (first_slot ts).kind) i (under_expression x (ForSlot (first_slot ts).kind) tt)
      (arguments_on (later_slots ts) xs os (ForSlot (first_slot ts).kind ∷ ss) v v' k k' j sk)
  arguments_on ts (Argument x xs) os ss v v' k k' (k_array q kind h ys i z e j) sk =
      s_array kind h (ForSlot (first_slot ts).kind) i e (arguments_on (later_slots ts) xs os (ForSlot (first_slot ts).kind ∷ ss) v v' k k' j sk)

  pub computes_on : (e : ExpressionTree) (t : Sort) (ss : List Sort) (u v v' : List Value) {k k' : List Task} → K e → Under (sort_of e) t →
      Sorts ss u → Tasks (t ∷ ss) v v' k k' → Act (Computes e) u v v' k k'
  computes_on e t ss u v v' (k_number kind z i) un hs sk = value t (Integer z) ss u v v' (Num kind) un (tt, number_in kind z i) hs sk
  computes_on e t ss u v v' (k_character kind b i) un hs sk = value t (Integer _) ss u v v' (Num kind) un (tt, number_in kind _ i) hs sk
  computes_on e t ss u v v' (k_enum kind m z i) un hs sk = value t (Integer z) ss u v v' (Num kind) un (tt, number_in kind z i) hs sk
  computes_on e t ss u v v' (k_text kind bs) un hs sk = value t (Format bs) ss u v v' (Num kind) un (tt, format_in kind bs) hs sk
  computes_on e t ss u v v' (k_read at i) un hs sk = on ss u v v' hs (s_finds at i (s_loads (place_kind p (slots p gs is f) at) t un sk))
  computes_on e t ss u v v' (k_unary op a i) un hs sk = on ss u v v' hs (s_computes a (sort_of a) i (under_self _) (s_unary op (kind_of a) (sort_of a) t un sk))
  computes_on e t ss u v v' (k_cast kind a i) un hs sk = cast_on kind a t ss u v v' i un hs sk
  computes_on e t ss u v v' (k_binary op a b i j) un hs sk = binary_on op a b t ss u v v' i j un hs sk
  computes_on e t ss u v v' (k_conditional kind a b c i j h) un hs sk =
      on ss u v v' hs (s_computes a (sort_of a) i (under_self _) (s_decides b c kind (sort_of a) t j h un sk))
  computes_on e t ss u v v' (k_assign at a i j) un hs sk = on ss u v v' hs
      (s_finds at i (s_computes a (sort_of a) j (under_self _) (s_stores (place_kind p (slots p gs is f) at) (sort_of a) t un sk)))
  computes_on e t ss u v v' (k_update op at a i j) un hs sk =
      let i_k = place_kind p (slots p gs is f) at in
      let res = Num (Some (binary_kind (Arith op) i_k (operand_kind (kind_of a)))) in
      on ss u v v' hs (s_finds at i (s_fetches i_k (s_computes a (sort_of a) j (under_self _)
      (s_binary (Arith op) (Some i_k) (kind_of a) (sort_of a) (Num (Some i_k)) res (under_self res) (s_stores i_k res t un sk)))))
  computes_on e t ss u v v' (k_count at up after i) un hs sk = on ss u v v' hs (s_finds at i (s_counts up after (place_kind p (slots p gs is f) at) t un sk))
  computes_on e t ss u v v' (k_comma a b i j) un hs sk = on ss u v v' hs
      (s_computes a (sort_of a) i (under_self _) (s_drops (sort_of a) (s_computes b t j (under_expression b t un) sk)))
  computes_on e t ss u v v' (k_call m xs i) un hs sk = on ss u v v' hs
      (arguments_on (slots p gs is m) xs (Calls m (argument_count xs) ∷ []) ss v v' _ _ i (s_calls m (argument_count xs) t un sk))

  -- ---- the other tasks

  pub array_on : (kind : Option IntKind) (h : Home) (t : Sort) (ss : List Sort) (u v v' : List Value) {k k' : List Task} →
      IsHome (slots p gs is f) h → Under (ForSlot (home_kind p (slots p gs is f) h)) t → Sorts ss u → Tasks (t ∷ ss) v v' k k' →
      Act (Computes (Typed kind (Array h))) u v v' k k'
  array_on kind h t ss u v v' {k = k} {k' = k'} i un hs sk =
      let j = home_here h i in
      let a = place_sort p sh (suc n) s vs cells me input answers events h 0 j in
      subst (λ o. Related p gs is (At f g k (Lends (owner h l) ∷ (u ++ v)) cs l) (At f no_guards k' (Lends o ∷ (u ++ v')) cs' r))
      (sym (place_same p sh (suc n) s vs cells me input answers events h j))
      (value t (Lends (owner h l)) ss u v v' (ForSlot (home_kind p (slots p gs is f) h)) un (a.0, a.1 ∙ ap (λ z. home_kind p z h) st.shape) hs sk)

  var_on : (h : Home) (ss : List Sort) (u v v' : List Value) {k k' : List Task} → IsHome (slots p gs is f) h → Sorts ss u →
      Tasks (Spot (home_kind p (slots p gs is f) h) ∷ ss) v v' k k' → Act (Finds (Var h)) u v v' k k'
  var_on h ss u v v' {k = k} {k' = k'} i hs sk =
      let j = home_here h i in
      let a = place_sort p sh (suc n) s vs cells me input answers events h 0 j in
      subst (λ o. Related p gs is (At f g k (Designates (owner h l) 0 ∷ (u ++ v)) cs l) (At f no_guards k' (Designates o 0 ∷ (u ++ v')) cs' r))
      (sym (place_same p sh (suc n) s vs cells me input answers events h j))
      (value (Spot (home_kind p (slots p gs is f) h)) (Designates (owner h l) 0) ss u v v' (Spot (home_kind p (slots p gs is f) h))
      (under_self (Spot (home_kind p (slots p gs is f) h))) (a.0, a.1 ∙ ap (λ z. home_kind p z h) st.shape) hs sk)

  pub finds_on : (at : PlaceTree) (ss : List Sort) (u v v' : List Value) {k k' : List Task} → KindedPlace p (slots p gs is f) at → Sorts ss u →
      Tasks (Spot (place_kind p (slots p gs is f) at) ∷ ss) v v' k k' → Act (Finds at) u v v' k k'
  finds_on at ss u v v' (k_var h i) hs sk = var_on h ss u v v' i hs sk
  finds_on at ss u v v' (k_cell h a i j) hs sk = on ss u v v' hs (s_computes a (sort_of a) j (under_self _) (s_indexes h (sort_of a) i sk))

  pub drops_on : (t : Sort) (ss : List Sort) (u v v' : List Value) {k k' : List Task} → Sorts (t ∷ ss) u → Tasks ss v v' k k' → Act Drops u v v' k k'
  drops_on t ss [] v v' hs sk = absurd hs
  drops_on t ss (x ∷ u) v v' hs sk = on ss u v v' hs.1 sk

  pub indexes_on : (h : Home) (t : Sort) (ss : List Sort) (u v v' : List Value) {k k' : List Task} → IsHome (slots p gs is f) h → Sorts (t ∷ ss) u →
      Tasks (Spot (home_kind p (slots p gs is f) h) ∷ ss) v v' k k' → Act (Indexes h) u v v' k k'
  indexes_on h t ss [] v v' i hs sk = absurd hs
  indexes_on h t ss (x ∷ u) v v' i hs sk =
      outcome_on (Spot (home_kind p (slots p gs is f) h)) ss u v v'
      (subst (λ z. SameOutcome p sh (suc n) s vs cells me (Spot (home_kind p z h)) (cell h (integer x) l) (cell h (integer x) r)) st.shape
      (cell_outcome p sh (suc n) s vs cells me input answers events h (integer x) (home_here h i))) hs.1 sk

  pub loads_on : (i : IntKind) (t : Sort) (ss : List Sort) (u v v' : List Value) {k k' : List Task} → Under (Num (Some i)) t → Sorts (Spot i ∷ ss) u →
      Tasks (t ∷ ss) v v' k k' → Act Loads u v v' k k'
  loads_on i t ss [] v v' un hs sk = absurd hs
  loads_on i t ss (x ∷ u) v v' {k = k} {k' = k'} un hs sk =
      subst (λ y. Related p gs is (At f g k (loaded x l ∷ (u ++ v)) cs l) (At f no_guards k' (y ∷ (u ++ v')) cs' r))
      (sym (load_same p sh (suc n) s vs cells me input answers events i x hs.0))
      (value t (loaded x l) ss u v v' (Num (Some i)) un (load_sort p sh (suc n) s vs cells me input answers events i x hs.0) hs.1 sk)

  pub fetches_on : (i : IntKind) (ss : List Sort) (u v v' : List Value) {k k' : List Task} → Sorts (Spot i ∷ ss) u →
      Tasks (Num (Some i) ∷ Spot i ∷ ss) v v' k k' → Act Fetches u v v' k k'
  fetches_on i ss [] v v' hs sk = absurd hs
  fetches_on i ss (x ∷ u) v v' {k = k} {k' = k'} hs sk =
      subst (λ y. Related p gs is (At f g k (loaded x l ∷ x ∷ (u ++ v)) cs l) (At f no_guards k' (y ∷ x ∷ (u ++ v')) cs' r))
      (sym (load_same p sh (suc n) s vs cells me input answers events i x hs.0))
      (value (Num (Some i)) (loaded x l) (Spot i ∷ ss) (x ∷ u) v v' (Num (Some i)) (under_self (Num (Some i)))
      (load_sort p sh (suc n) s vs cells me input answers events i x hs.0) hs sk)

  pub unary_on : (op : UnaryOp) (j : Option IntKind) (b t : Sort) (ss : List Sort) (u v v' : List Value) {k k' : List Task} →
      Under (unary_sort op (Some (unary_kind op (operand_kind j)))) t → Sorts (b ∷ ss) u → Tasks (t ∷ ss) v v' k k' → Act (AppliesUnary op j) u v v' k k'
  unary_on op j b t ss [] v v' un hs sk = absurd hs
  unary_on op j b t ss (x ∷ u) v v' un hs sk = outcome_on t ss u v v'
      (result_outcome p sh (suc n) s vs cells me input answers events _ t _ un (unary_has p sh (suc n) op (operand_kind j) (integer x))) hs.1 sk

  pub binary_act : (op : BinaryOp) (i j : Option IntKind) (b c t : Sort) (ss : List Sort) (u v v' : List Value) {k k' : List Task} →
      Under (mark_sort op (Some (binary_kind op (operand_kind i) (operand_kind j)))) t → Sorts (b ∷ c ∷ ss) u → Tasks (t ∷ ss) v v' k k' →
      Act (AppliesBinary op i j) u v v' k k'
  binary_act op i j b c t ss [] v v' un hs sk = absurd hs
  binary_act op i j b c t ss (y ∷ []) v v' un hs sk = absurd hs.1
  binary_act op i j b c t ss (y ∷ x ∷ u) v v' un hs sk = outcome_on t ss u v v'
      (result_outcome p sh (suc n) s vs cells me input answers events _ t _ un
      (binary_has p sh (suc n) op (operand_kind i) (operand_kind j) (integer x) (integer y))) hs.1.1 sk

  pub converts_on : (i : IntKind) (b t : Sort) (ss : List Sort) (u v v' : List Value) {k k' : List Task} → Under (Num (Some i)) t → Sorts (b ∷ ss) u →
      Tasks (t ∷ ss) v v' k k' → Act (Converts i) u v v' k k'
  converts_on i b t ss [] v v' un hs sk = absurd hs
  converts_on i b t ss (x ∷ u) v v' un hs sk = value t (Integer (converted i (integer x))) ss u v v' (Num (Some i)) un
      (tt, converted-in_range i (integer x)) hs.1 sk

  pub nothing_on : (t : Sort) (ss : List Sort) (u v v' : List Value) {k k' : List Task} → Under (Num None) t → Sorts ss u → Tasks (t ∷ ss) v v' k k' →
      Act LeavesNothing u v v' k k'
  nothing_on t ss u v v' un hs sk = value t Missing ss u v v' (Num None) un (tt, tt) hs sk

  second : (y : Bool) (z : Bool) (e : ExpressionTree) (t : Sort) (ss : List Sort) (u v v' : List Value) {k k' : List Task} → K e → Under Bit t →
      Sorts ss u → Tasks (t ∷ ss) v v' k k'
      → Related p gs is (perform p (cond y (Does (Computes e ∷ Judges ∷ []) (u ++ v) l) (Does [] (Integer (truth z) ∷ (u ++ v)) l)) f g k cs)
      (perform right (cond y (Does (Computes e ∷ Judges ∷ []) (u ++ v') r) (Does [] (Integer (truth z) ∷ (u ++ v')) r)) f no_guards k' cs')
  second true z e t ss u v v' i un hs sk = on ss u v v' hs (s_computes e (sort_of e) i (under_self _) (s_judges (sort_of e) t un sk))
  second false z e t ss u v v' i un hs sk = value t (Integer (truth z)) ss u v v' Bit un (z, refl) hs sk

  pub ands_on : (e : ExpressionTree) (b t : Sort) (ss : List Sort) (u v v' : List Value) {k k' : List Task} → K e → Under Bit t → Sorts (b ∷ ss) u →
      Tasks (t ∷ ss) v v' k k' → Act (Ands e) u v v' k k'
  ands_on e b t ss [] v v' i un hs sk = absurd hs
  ands_on e b t ss (x ∷ u) v v' i un hs sk = second (holds x) false e t ss u v v' i un hs.1 sk

  other : (y : Bool) (e : ExpressionTree) (t : Sort) (ss : List Sort) (u v v' : List Value) {k k' : List Task} → K e → Under Bit t → Sorts ss u →
      Tasks (t ∷ ss) v v' k k'
      → Related p gs is (perform p (cond y (Does [] (Integer (truth true) ∷ (u ++ v)) l) (Does (Computes e ∷ Judges ∷ []) (u ++ v) l)) f g k cs)
      (perform right (cond y (Does [] (Integer (truth true) ∷ (u ++ v')) r) (Does (Computes e ∷ Judges ∷ []) (u ++ v') r)) f no_guards k' cs')
  other true e t ss u v v' i un hs sk = value t (Integer (truth true)) ss u v v' Bit un (true, refl) hs sk
  other false e t ss u v v' i un hs sk = on ss u v v' hs (s_computes e (sort_of e) i (under_self _) (s_judges (sort_of e) t un sk))

  pub ors_on : (e : ExpressionTree) (b t : Sort) (ss : List Sort) (u v v' : List Value) {k k' : List Task} → K e → Under Bit t → Sorts (b ∷ ss) u →
      Tasks (t ∷ ss) v v' k k' → Act (Ors e) u v v' k k'
  ors_on e b t ss [] v v' i un hs sk = absurd hs
  ors_on e b t ss (x ∷ u) v v' i un hs sk = other (holds x) e t ss u v v' i un hs.1 sk

  pub judges_on : (b t : Sort) (ss : List Sort) (u v v' : List Value) {k k' : List Task} → Under Bit t → Sorts (b ∷ ss) u → Tasks (t ∷ ss) v v' k k' →
      Act Judges u v v' k k'
  judges_on b t ss [] v v' un hs sk = absurd hs
  judges_on b t ss (x ∷ u) v v' un hs sk = value t (truth_value x) ss u v v' Bit un (holds x, refl) hs.1 sk

  decided : (kind : Option IntKind) (e : ExpressionTree) (t : Sort) (ss : List Sort) (u v v' : List Value) {k k' : List Task} → K e →
      Under (Num kind) t → Sorts ss u → Tasks (t ∷ ss) v v' k k'
      → Related p gs is (At f g (works (Computes e ∷ conversion kind) k) (u ++ v) cs l)
      (At f no_guards (works (Computes e ∷ conversion kind) k') (u ++ v') cs' r)
  decided None e t ss u v v' i un hs sk = on ss u v v' hs (s_computes e t i (under_expression e t (none_under (kind_of e) t un)) sk)
  decided (Some j) e t ss u v v' i un hs sk = on ss u v v' hs (s_computes e (sort_of e) i (under_self _) (s_converts j (sort_of e) t un sk))

  either : (y : Bool) (a b : ExpressionTree) (kind : Option IntKind) (t : Sort) (ss : List Sort) (u v v' : List Value) {k k' : List Task} → K a →
      K b → Under (Num kind) t → Sorts ss u → Tasks (t ∷ ss) v v' k k'
      → Related p gs is (At f g (works (cond y (Computes a ∷ conversion kind) (Computes b ∷ conversion kind)) k) (u ++ v) cs l)
      (At f no_guards (works (cond y (Computes a ∷ conversion kind) (Computes b ∷ conversion kind)) k') (u ++ v') cs' r)
  either true a b kind t ss u v v' i j un hs sk = decided kind a t ss u v v' i un hs sk
  either false a b kind t ss u v v' i j un hs sk = decided kind b t ss u v v' j un hs sk

  pub decides_on : (a b : ExpressionTree) (kind : Option IntKind) (c t : Sort) (ss : List Sort) (u v v' : List Value) {k k' : List Task} → K a → K b →
      Under (Num kind) t → Sorts (c ∷ ss) u → Tasks (t ∷ ss) v v' k k' → Act (Decides a b kind) u v v' k k'
  decides_on a b kind c t ss [] v v' i j un hs sk = absurd hs
  decides_on a b kind c t ss (x ∷ u) v v' i j un hs sk = either (holds x) a b kind t ss u v v' i j un hs.1 sk

  pub stores_on : (i : IntKind) (b t : Sort) (ss : List Sort) (u v v' : List Value) {k k' : List Task} → Under (Num (Some i)) t →
      Sorts (b ∷ Spot i ∷ ss) u → Tasks (t ∷ ss) v v' k k' → Act Stores u v v' k k'
  stores_on i b t ss [] v v' un hs sk = absurd hs
  stores_on i b t ss (y ∷ []) v v' un hs sk = absurd hs.1
  stores_on i b t ss (y ∷ x ∷ u) v v' un hs sk = outcome_on t ss u v v'
      (assign_outcome p sh (suc n) s vs cells me input answers events i t x y un hs.1.0) hs.1.1 sk

  pub counts_on : (up after : Bool) (i : IntKind) (t : Sort) (ss : List Sort) (u v v' : List Value) {k k' : List Task} → Under (Num (Some i)) t →
      Sorts (Spot i ∷ ss) u → Tasks (t ∷ ss) v v' k k' → Act (Counts up after) u v v' k k'
  counts_on up after i t ss [] v v' un hs sk = absurd hs
  counts_on up after i t ss (x ∷ u) v v' un hs sk = outcome_on t ss u v v'
      (count_outcome p sh (suc n) s vs cells me input answers events up after i t x un hs.0) hs.1 sk

  -- ---- initialisers

  array_slot : (y : Bool) (x i : ℕ) (v : List Value) {k k' : List Task} → x < length (slots p gs is f) → Rest p gs is f k k'
      → Related p gs is (At f g (works (cond y (Clears x i ∷ []) []) k) v cs l) (At f no_guards (works (cond y (Clears x i ∷ []) []) k') v cs' r)
  array_slot true x i v h rk = on [] [] v v tt (s_clears x i v h rk)
  array_slot false x i v h rk = on [] [] v v tt (s_rest v rk)

  slot_here : (x : ℕ) → x < length (slots p gs is f) → vs (OfCall (suc n) x) ≡ s (OfCall (suc n) x)
  slot_here x h = me.call_same (suc n) x (omega arith) (home_here (H.Slot x) h)

  pub initialise_on : (x i : ℕ) (es : List ExpressionTree) (v : List Value) {k k' : List Task} → x < length (slots p gs is f) →
      AreKinded p (slots p gs is f) es → Rest p gs is f k k'
      → Related p gs is (perform p (initialise x i es v l) f g k cs) (perform right (initialise x i es v r) f no_guards k' cs')
  initialise_on x i [] v {k = k} {k' = k'} h ks rk =
      subst (λ z. Related p gs is (At f g (works (cond (is_array (s (OfCall (suc n) x))) (Clears x i ∷ []) []) k) v cs l)
      (At f no_guards (works (cond (is_array z) (Clears x i ∷ []) []) k') v cs' r)) (sym (slot_here x h))
      (array_slot (is_array (s (OfCall (suc n) x))) x i v h rk)
  initialise_on x i (e ∷ es) v {k = k} {k' = k'} h ks rk =
      let j = home_here (H.Slot x) h in
      let a = place_sort p sh (suc n) s vs cells me input answers events (H.Slot x) i j in
      let kind = home_kind p (slots p gs is f) (H.Slot x) in
      subst (λ o. Related p gs is (At f g (works (Computes e ∷ Sets x i es ∷ []) k) (Designates (owner (H.Slot x) l) i ∷ v) cs l)
      (At f no_guards (works (Computes e ∷ Sets x i es ∷ []) k') (Designates o i ∷ v) cs' r))
      (sym (place_same p sh (suc n) s vs cells me input answers events (H.Slot x) j))
      (on (Spot kind ∷ []) (Designates (owner (H.Slot x) l) i ∷ []) v v ((a.0, a.1 ∙ ap (λ z. home_kind p z (H.Slot x)) st.shape), tt)
      (s_computes e (sort_of e) ks.0 (under_self _) (s_sets x i es (sort_of e) kind v h ks.1 rk)))

  pub clears_on : (x i : ℕ) (v : List Value) {k k' : List Task} → x < length (slots p gs is f) → Rest p gs is f k k' → Act (Clears x i) [] v v k k'
  clears_on x i v {k = k} {k' = k'} h rk =
      let j = home_here (H.Slot x) h in
      let o = owner (H.Slot x) l in
      let t = (place_sort p sh (suc n) s vs cells me input answers events (H.Slot x) 0 j).0 in
      subst (λ q. Related p gs is (At f g k v cs (clear (H.Slot x) i l))
      (At f no_guards k' v cs' (world (put q (with_zeros i (vs q)) vs) (suc n) cells input answers events)))
      (sym (place_same p sh (suc n) s vs cells me input answers events (H.Slot x) j))
      (x_at sh (put o (with_zeros i (s o)) s) (put o (with_zeros i (vs o)) vs) n cells input answers events f g [] [] v v (cleared p sh me o i t)
      (sits_kept p gs is sh vs (put o (with_zeros i (vs o)) vs) (suc n) f g (put_kept p sh me (with_zeros i) o t) st) tt (s_rest v rk)
      (frames_kept p gs is sh vs (put o (with_zeros i (vs o)) vs) n f (put_kept p sh me (with_zeros i) o t) fr))
