-- A task of an expression does the same in two worlds that agree on what is seen.
use mathlib.Core.Path.{ap₂}
use Rattle.std.proofs.Common.{ℕ, zero, suc, ℤ, pos, negsuc, Bool, true, false, cond, nat_lt, List, [], ◌∷◌, Option, Some, None, Result, Ok, Err, ◌≡◌, refl, subst}
use Rattle.c_types.specs.declared.kinds.IntKind.{IntKind}
use Rattle.c_types.specs.declared.trap.Trap.{Trap}
use Rattle.c_types.specs.Numbers.{converted, promoted, arith_result}
use Rattle.c_tree.specs.declared.tree.Home.TheVariants as H
use Rattle.c_tree.specs.declared.tree.BinaryOp.{BinaryOp}
use Rattle.c_tree.specs.declared.tree.BinaryOp.TheVariants.{Arith, AndThen, OrElse}
use Rattle.c_tree.specs.Operators.{unary_result, binary_result}
use Rattle.c_tree.specs.ExpressionTrees.{ExpressionTree, NodeTree, Arguments, Typed, Var, Cell, Number, Character, EnumName, Text, Array, Read, Unary, Cast, Binary, Conditional, Assign, Update, Count, Comma, Call, NoArgument, Argument}
use Rattle.c_tree.specs.Slots.{HomeSlots, ExpressionSlots, PlaceSlots, NodeSlots, ArgumentSlots}
use Rattle.jump_meaning.specs.Values.{Owner, Variable, Holds, Lent, Value, Integer, Designates, Lends, Format, Missing, integer}
use Rattle.jump_meaning.specs.World.{World, Outcome, Gives, Traps, Exits, put, owner, cells_held, kind_at, with_number, with_zeros, load, store, clear, cell, cell_of}
use Rattle.jump_meaning.specs.Operations.{operand_kind, holds, truth_value, converted_value, outcome, loaded, stored_value, assign, counted, count_mark, count}
use Rattle.jump_meaning.specs.Calls.{last_values, without_last, slot_cell, is_array_slot}
use Rattle.jump_meaning.specs.Effects.{Op, Computes, Finds, Drops, Indexes, Loads, Fetches, AppliesUnary, AppliesBinary, Converts, LeavesNothing, Ands, Ors, Judges, Decides, Stores, Counts, Calls, Ends, Begins, Sets, Clears, Effect, Does, Fails, Stops, Invokes, Leaves, top, rest, left, conversion, binary_tasks, cast_tasks, argument_count, argument_tasks, node_effect, initialise, effect}
use Rattle.flat_laws.proofs.Worlds.{over, Seen, RefersTo, Refers, RefersAll, Alike, owner_seen, owner_alike, array_alike, kind_alike, load_alike, Changes, changed_alike}

abbrev pub EachSlots : (ℕ → Type 0) → List ExpressionTree → Type 0
EachSlots P [] = Unit {0}
EachSlots P (e ∷ es) = ExpressionSlots P e × EachSlots P es

-- a fact holds of each slot that a task names
abbrev pub OpSlots : (ℕ → Type 0) → Op → Type 0
OpSlots P (Computes e) = ExpressionSlots P e
OpSlots P (Finds p) = PlaceSlots P p
OpSlots P (Indexes h) = HomeSlots P h
OpSlots P (Ands b) = ExpressionSlots P b
OpSlots P (Ors b) = ExpressionSlots P b
OpSlots P (Decides b c k) = ExpressionSlots P b × ExpressionSlots P c
OpSlots P (Begins x es) = P x × EachSlots P es
OpSlots P (Sets x i es) = P x × EachSlots P es
OpSlots P (Clears x n) = P x
OpSlots P _ = Unit {0}

abbrev pub OpsSlots : (ℕ → Type 0) → List Op → Type 0
OpsSlots P [] = Unit {0}
OpsSlots P (o ∷ os) = OpSlots P o × OpsSlots P os

module _ (opens : ℕ → ℕ → Bool) (Shaped : ℕ → ℕ → Variable → Type 0)
    (number_shaped : (c x i : ℕ) (z : ℤ) (v : Variable) → Shaped c x v → Shaped c x (with_number i z v))
    (zeros_shaped : (c x i : ℕ) (v : Variable) → Shaped c x v → Shaped c x (with_zeros i v)) where
  abbrev pub A : World → (Owner → Variable) → Type 0
  A w s = Alike opens Shaped w s

  abbrev pub R : ℕ → Value → Type 0
  R d x = Refers opens Shaped d x

  abbrev pub Rs : ℕ → List Value → Type 0
  Rs d v = RefersAll opens Shaped d v

  pub data OutcomeAlike (d : ℕ) : Outcome → Outcome → Type 0 where
    oa_gives : (x : Value) (w : World) (s : Owner → Variable) → R d x → w.calls ≡ d → A w s → OutcomeAlike d (Gives x w) (Gives x (over s w))
    oa_traps : (t : Trap) (w : World) (s : Owner → Variable) → OutcomeAlike d (Traps t w) (Traps t (over s w))
    oa_exits : (n : ℤ) (w : World) (s : Owner → Variable) → OutcomeAlike d (Exits n w) (Exits n (over s w))

  pub data EffectAlike (d : ℕ) : Effect → Effect → Type 0 where
    ea_does : (os : List Op) (v : List Value) (w : World) (s : Owner → Variable) → OpsSlots (λ x. opens d x ≡ true) os → Rs d v → w.calls ≡ d →
        A w s → EffectAlike d (Does os v w) (Does os v (over s w))
    ea_fails : (t : Trap) (w : World) (s : Owner → Variable) → EffectAlike d (Fails t w) (Fails t (over s w))
    ea_stops : (n : ℤ) (w : World) (s : Owner → Variable) → EffectAlike d (Stops n w) (Stops n (over s w))
    ea_invokes : (m : List ℕ) (vs v : List Value) (w : World) (s : Owner → Variable) → Rs d vs → Rs d v → w.calls ≡ d → A w s →
        EffectAlike d (Invokes m vs v w) (Invokes m vs v (over s w))
    ea_leaves : (x : Option Value) (w : World) (s : Owner → Variable) → w.calls ≡ d → A w s → EffectAlike d (Leaves x w) (Leaves x (over s w))

  abbrev pub OpIn : ℕ → Op → Type 0
  OpIn d o = OpSlots (λ x. opens d x ≡ true) o

  pub number_lends : (i : ℕ) (z : ℤ) (d : ℕ) (v : Variable) → RefersTo opens Shaped d v → RefersTo opens Shaped d (with_number i z v)
  number_lends i z d (Holds k n cells) r = r
  number_lends i z d (Lent o) r = r

  pub zeros_lend : (i d : ℕ) (v : Variable) → RefersTo opens Shaped d v → RefersTo opens Shaped d (with_zeros i v)
  zeros_lend i d (Holds k n cells) r = r
  zeros_lend i d (Lent o) r = r

  abbrev pub numbers : ℕ → ℤ → Changes opens Shaped
  numbers i z = record { change = with_number i z; lends = number_lends i z; shapes = λ c x v h. number_shaped c x i z v h }

  abbrev pub zeros : ℕ → Changes opens Shaped
  zeros i = record { change = with_zeros i; lends = zeros_lend i; shapes = λ c x v h. zeros_shaped c x i v h }

  -- ---- values

  top_refers : (d : ℕ) (v : List Value) → Rs d v → R d (top v)
  top_refers d [] r = tt
  top_refers d (x ∷ v) r = r.0

  rest_refers : (d : ℕ) (v : List Value) → Rs d v → Rs d (rest v)
  rest_refers d [] r = tt
  rest_refers d (x ∷ v) r = r.1

  last_refers : (d n : ℕ) (vs v : List Value) → Rs d vs → Rs d v → Rs d (last_values n vs v)
  last_refers d zero vs v p r = p
  last_refers d (suc n) vs [] p r = p
  last_refers d (suc n) vs (x ∷ v) p r = last_refers d n (x ∷ vs) v (r.0, p) r.1

  without_refers : (d n : ℕ) (v : List Value) → Rs d v → Rs d (without_last n v)
  without_refers d zero v r = r
  without_refers d (suc n) [] r = tt
  without_refers d (suc n) (x ∷ v) r = without_refers d n v r.1

  -- ---- outcomes

  left_alike : {d : ℕ} {o o' : Outcome} (v : List Value) → Rs d v → OutcomeAlike d o o' → EffectAlike d (left o v) (left o' v)
  left_alike v r (oa_gives x w s q e a) = ea_does [] (x ∷ v) w s tt (q, r) e a
  left_alike v r (oa_traps t w s) = ea_fails t w s
  left_alike v r (oa_exits n w s) = ea_stops n w s

  -- the world and what is pending
  module _ (w : World) (s : Owner → Variable) (a : A w s) where
    abbrev d : ℕ
    d = w.calls

    does : (os : List Op) (v : List Value) → OpsSlots (λ x. opens d x ≡ true) os → Rs d v → EffectAlike d (Does os v w) (Does os v (over s w))
    does os v i r = ea_does os v w s i r refl a

    result_alike : (x : Result ℤ Trap) → OutcomeAlike d (outcome x w) (outcome x (over s w))
    result_alike (Ok n) = oa_gives (Integer n) w s tt refl a
    result_alike (Err t) = oa_traps t w s

    cell_alike : (o : Owner) (i : ℤ) → Seen opens Shaped d o → OutcomeAlike d (cell_of o i w) (cell_of o i (over s w))
    cell_alike o (negsuc i) q = oa_traps Trap.Index w s
    cell_alike o (pos i) q =
        subst (λ v. OutcomeAlike d (cell_of o (pos i) w) (cond (nat_lt i (cells_held v)) (Gives (Designates o i) (over s w))
        (Traps Trap.Index (over s w)))) (a.agree o q)
        (at (nat_lt i (cells_held (w.variables o))))
      where
        at : (b : Bool) → OutcomeAlike d (cond b (Gives (Designates o i) w) (Traps Trap.Index w))
            (cond b (Gives (Designates o i) (over s w)) (Traps Trap.Index (over s w)))
        at true = oa_gives (Designates o i) w s q refl a
        at false = oa_traps Trap.Index w s

    gives_stored : (p x : Value) (z : ℤ) → R d p → R d x → OutcomeAlike d (Gives x (store p z w)) (Gives x (store p z (over s w)))
    gives_stored (Designates o i) x z r q =
        oa_gives x (store (Designates o i) z w) (put o (with_number i z (s o)) s) q refl (changed_alike opens Shaped (numbers i z) o w s r a)
    gives_stored _ x z r q = oa_gives x w s q refl a

    assign_alike : (p v : Value) → R d p → OutcomeAlike d (assign p v w) (assign p v (over s w))
    assign_alike p v r =
        subst (λ k. OutcomeAlike d (assign p v w) (Gives (converted_value k v) (store p (integer v) (over s w)))) (kind_alike opens Shaped w s a p r)
        (gives_stored p (stored_value p v w) (integer v) r tt)

    chosen_refers : (after : Bool) (x y : ℤ) → R d (cond after (Integer x) (Integer y))
    chosen_refers true x y = tt
    chosen_refers false x y = tt

    counted_alike : (after : Bool) (p : Value) (x : Result ℤ Trap) → R d p → OutcomeAlike d (counted after p x w) (counted after p x (over s w))
    counted_alike after p (Err t) r = oa_traps t w s
    counted_alike after p (Ok n) r =
        subst (λ x. OutcomeAlike d (counted after p (Ok n) w) (Gives x (store p n (over s w))))
        (ap₂ (λ z k. cond after (Integer z) (converted_value k (Integer n))) (load_alike opens Shaped w s a p r) (kind_alike opens Shaped w s a p r))
        (gives_stored p (cond after (loaded p w) (stored_value p (Integer n) w)) n r (chosen_refers after (load p w) (converted (kind_at p w) n)))

    count_alike : (up after : Bool) (p : Value) → R d p → OutcomeAlike d (count up after p w) (count up after p (over s w))
    count_alike up after p r =
        subst (λ x. OutcomeAlike d (count up after p w) (counted after p x (over s w)))
        (ap₂ (λ k z. arith_result (count_mark up) (promoted k) z (pos 1)) (kind_alike opens Shaped w s a p r) (load_alike opens Shaped w s a p r))
        (counted_alike after p (arith_result (count_mark up) (promoted (kind_at p w)) (load p w) (pos 1)) r)

    -- ---- expressions

    binary_in : (op : BinaryOp) (x y : ExpressionTree) → ExpressionSlots (λ x. opens d x ≡ true) x → ExpressionSlots (λ x. opens d x ≡ true) y →
        OpsSlots (λ x. opens d x ≡ true) (binary_tasks op x y)
    binary_in AndThen x y p q = (p, (q, tt))
    binary_in OrElse x y p q = (p, (q, tt))
    binary_in _ x y p q = (p, (q, (tt, tt)))

    cast_in : (k : Option IntKind) → OpsSlots (λ x. opens d x ≡ true) (cast_tasks k)
    cast_in None = (tt, (tt, tt))
    cast_in (Some k) = (tt, tt)

    conversion_in : (k : Option IntKind) → OpsSlots (λ x. opens d x ≡ true) (conversion k)
    conversion_in None = tt
    conversion_in (Some k) = (tt, tt)

    arguments_in : (xs : Arguments) (os : List Op) → ArgumentSlots (λ x. opens d x ≡ true) xs → OpsSlots (λ x. opens d x ≡ true) os →
        OpsSlots (λ x. opens d x ≡ true) (argument_tasks xs os)
    arguments_in NoArgument os p q = q
    arguments_in (Argument x xs) os p q = (p.0, arguments_in xs os p.1 q)

    node_alike : (kind : Option IntKind) (n : NodeTree) (v : List Value) → NodeSlots (λ x. opens d x ≡ true) n → Rs d v →
        EffectAlike d (node_effect kind n v w) (node_effect kind n v (over s w))
    node_alike kind (Number n) v i r = does [] (Integer n ∷ v) tt (tt, r)
    node_alike kind (Character b) v i r = does [] (Integer (converted IntKind.Char (pos b)) ∷ v) tt (tt, r)
    node_alike kind (EnumName m n) v i r = does [] (Integer n ∷ v) tt (tt, r)
    node_alike kind (Text bs) v i r = does [] (Format bs ∷ v) tt (tt, r)
    node_alike kind (Array h) v i r =
        subst (λ o. EffectAlike d (Does [] (Lends (owner h w) ∷ v) w) (Does [] (Lends o ∷ v) (over s w))) (owner_alike opens Shaped w s a h i)
        (does [] (Lends (owner h w) ∷ v) tt (owner_seen opens Shaped w s a h i, r))
    node_alike kind (Read p) v i r = does (Finds p ∷ Loads ∷ []) v (i, (tt, tt)) r
    node_alike kind (Unary op x) v i r = does (Computes x ∷ AppliesUnary op _ ∷ []) v (i, (tt, tt)) r
    node_alike kind (Cast x) v i r = does (Computes x ∷ cast_tasks kind) v (i, cast_in kind) r
    node_alike kind (Binary op x y) v i r = does (binary_tasks op x y) v (binary_in op x y i.0 i.1) r
    node_alike kind (Conditional x y z) v i r = does (Computes x ∷ Decides y z kind ∷ []) v (i.0, ((i.1, i.2), tt)) r
    node_alike kind (Assign p x) v i r = does (Finds p ∷ Computes x ∷ Stores ∷ []) v (i.0, (i.1, (tt, tt))) r
    node_alike kind (Update op p x) v i r = does (Finds p ∷ Fetches ∷ Computes x ∷ AppliesBinary (Arith op) kind _ ∷ Stores ∷ []) v
        (i.0, (tt, (i.1, (tt, (tt, tt))))) r
    node_alike kind (Count p up after) v i r = does (Finds p ∷ Counts up after ∷ []) v (i, (tt, tt)) r
    node_alike kind (Comma x y) v i r = does (Computes x ∷ Drops ∷ Computes y ∷ []) v (i.0, (tt, (i.1, tt))) r
    node_alike kind (Call m xs) v i r = does (argument_tasks xs (Calls m (argument_count xs) ∷ [])) v
        (arguments_in xs (Calls m (argument_count xs) ∷ []) i (tt, tt)) r

    cell_seen : (x i : ℕ) → opens d x ≡ true → R d (slot_cell x i w)
    cell_seen x i p = owner_seen opens Shaped w s a (H.Slot x) p

    clears_in : (b : Bool) (x i : ℕ) → opens d x ≡ true → OpsSlots (λ x. opens d x ≡ true) (cond b (Clears x i ∷ []) [])
    clears_in true x i p = (p, tt)
    clears_in false x i p = tt

    initialise_alike : (x i : ℕ) (es : List ExpressionTree) (v : List Value) → opens d x ≡ true → EachSlots (λ x. opens d x ≡ true) es → Rs d v →
        EffectAlike d (initialise x i es v w) (initialise x i es v (over s w))
    initialise_alike x i [] v p q r =
        subst (λ b. EffectAlike d (initialise x i [] v w) (Does (cond b (Clears x i ∷ []) []) v (over s w))) (array_alike opens Shaped w s a x p)
        (does (cond (is_array_slot x w) (Clears x i ∷ []) []) v (clears_in (is_array_slot x w) x i p) r)
    initialise_alike x i (e ∷ es) v p q r =
        subst (λ o. EffectAlike d (initialise x i (e ∷ es) v w) (Does (Computes e ∷ Sets x i es ∷ []) (Designates o i ∷ v) (over s w)))
        (owner_alike opens Shaped w s a (H.Slot x) p)
        (does (Computes e ∷ Sets x i es ∷ []) (slot_cell x i w ∷ v) (q.0, ((p, q.1), tt)) (cell_seen x i p, r))

    truth_case : (b : Bool) (os os' : List Op) (v v' : List Value) → OpsSlots (λ x. opens d x ≡ true) os → OpsSlots (λ x. opens d x ≡ true) os' →
        Rs d v → Rs d v'
        → EffectAlike d (cond b (Does os v w) (Does os' v' w)) (cond b (Does os v (over s w)) (Does os' v' (over s w)))
    truth_case true os os' v v' p q r t = does os v p r
    truth_case false os os' v v' p q r t = does os' v' q t

    decided_in : (b : Bool) (os os' : List Op) → OpsSlots (λ x. opens d x ≡ true) os → OpsSlots (λ x. opens d x ≡ true) os' →
        OpsSlots (λ x. opens d x ≡ true) (cond b os os')
    decided_in true os os' p q = p
    decided_in false os os' p q = q

  -- after a store of no value left
  stored_then : (p : Value) (z : ℤ) (x i : ℕ) (es : List ExpressionTree) (v : List Value) (w : World) (s : Owner → Variable) → A w s → R w.calls p →
      opens w.calls x ≡ true
      → EachSlots (λ x. opens w.calls x ≡ true) es → Rs w.calls v → EffectAlike w.calls (initialise x i es v (store p z w))
      (initialise x i es v (store p z (over s w)))
  stored_then (Designates o j) z x i es v w s a r p q t =
      initialise_alike (store (Designates o j) z w) (put o (with_number j z (s o)) s) (changed_alike opens Shaped (numbers j z) o w s r a) x i es v p q t
  stored_then _ z x i es v w s a r p q t = initialise_alike w s a x i es v p q t

  -- all tasks of expressions
  pub effect_alike : (o : Op) (v : List Value) (w : World) (s : Owner → Variable) → A w s → OpIn w.calls o → Rs w.calls v →
      EffectAlike w.calls (effect o v w) (effect o v (over s w))
  effect_alike (Computes (Typed kind node)) v w s a i r = node_alike w s a kind node v i r
  effect_alike (Finds (Var h)) v w s a i r =
      subst (λ o. EffectAlike w.calls (Does [] (Designates (owner h w) 0 ∷ v) w) (Does [] (Designates o 0 ∷ v) (over s w))) (owner_alike opens Shaped w s a h i)
      (does w s a [] (Designates (owner h w) 0 ∷ v) tt (owner_seen opens Shaped w s a h i, r))
  effect_alike (Finds (Cell h e)) v w s a i r = does w s a (Computes e ∷ Indexes h ∷ []) v (i.1, (i.0, tt)) r
  effect_alike Drops v w s a i r = does w s a [] (rest v) tt (rest_refers w.calls v r)
  effect_alike (Indexes h) v w s a i r =
      left_alike (rest v) (rest_refers w.calls v r)
      (subst (λ o. OutcomeAlike w.calls (cell h (integer (top v)) w) (cell_of o (integer (top v)) (over s w))) (owner_alike opens Shaped w s a h i)
      (cell_alike w s a (owner h w) (integer (top v)) (owner_seen opens Shaped w s a h i)))
  effect_alike Loads v w s a i r =
      subst (λ z. EffectAlike w.calls (Does [] (loaded (top v) w ∷ rest v) w) (Does [] (Integer z ∷ rest v) (over s w)))
      (load_alike opens Shaped w s a (top v) (top_refers w.calls v r))
      (does w s a [] (loaded (top v) w ∷ rest v) tt (tt, rest_refers w.calls v r))
  effect_alike Fetches v w s a i r =
      subst (λ z. EffectAlike w.calls (Does [] (loaded (top v) w ∷ v) w) (Does [] (Integer z ∷ v) (over s w)))
      (load_alike opens Shaped w s a (top v) (top_refers w.calls v r))
      (does w s a [] (loaded (top v) w ∷ v) tt (tt, r))
  effect_alike (AppliesUnary op k) v w s a i r = left_alike (rest v) (rest_refers w.calls v r)
      (result_alike w s a (unary_result op (operand_kind k) (integer (top v))))
  effect_alike (AppliesBinary op j k) v w s a i r =
      left_alike (rest (rest v)) (rest_refers w.calls (rest v) (rest_refers w.calls v r))
      (result_alike w s a (binary_result op (operand_kind j) (operand_kind k) (integer (top (rest v))) (integer (top v))))
  effect_alike (Converts k) v w s a i r = does w s a [] (converted_value k (top v) ∷ rest v) tt (tt, rest_refers w.calls v r)
  effect_alike LeavesNothing v w s a i r = does w s a [] (Missing ∷ v) tt (tt, r)
  effect_alike (Ands b) v w s a i r =
      truth_case w s a (holds (top v)) (Computes b ∷ Judges ∷ []) [] (rest v) (Integer (pos 0) ∷ rest v) (i, (tt, tt)) tt (rest_refers w.calls v r)
      (tt, rest_refers w.calls v r)
  effect_alike (Ors b) v w s a i r =
      truth_case w s a (holds (top v)) [] (Computes b ∷ Judges ∷ []) (Integer (pos 1) ∷ rest v) (rest v) tt (i, (tt, tt))
      (tt, rest_refers w.calls v r) (rest_refers w.calls v r)
  effect_alike Judges v w s a i r = does w s a [] (truth_value (top v) ∷ rest v) tt (tt, rest_refers w.calls v r)
  effect_alike (Decides b c k) v w s a i r =
      does w s a (cond (holds (top v)) (Computes b ∷ conversion k) (Computes c ∷ conversion k)) (rest v)
      (decided_in w s a (holds (top v)) (Computes b ∷ conversion k) (Computes c ∷ conversion k) (i.0, conversion_in w s a k)
      (i.1, conversion_in w s a k)) (rest_refers w.calls v r)
  effect_alike Stores v w s a i r =
      left_alike (rest (rest v)) (rest_refers w.calls (rest v) (rest_refers w.calls v r))
      (assign_alike w s a (top (rest v)) (top v) (top_refers w.calls (rest v) (rest_refers w.calls v r)))
  effect_alike (Counts up after) v w s a i r = left_alike (rest v) (rest_refers w.calls v r) (count_alike w s a up after (top v) (top_refers w.calls v r))
  effect_alike (Calls m n) v w s a i r = ea_invokes m (last_values n [] v) (without_last n v) w s (last_refers w.calls n [] v tt r)
      (without_refers w.calls n v r) refl a
  effect_alike (Ends true) v w s a i r = ea_leaves (Some (top v)) w s refl a
  effect_alike (Ends false) v w s a i r = ea_leaves None w s refl a
  effect_alike (Begins x es) v w s a i r = initialise_alike w s a x 0 es v i.0 i.1 r
  effect_alike (Sets x j es) v w s a i r =
      stored_then (top (rest v)) (integer (top v)) x (suc j) es (rest (rest v)) w s a (top_refers w.calls (rest v) (rest_refers w.calls v r)) i.0 i.1
      (rest_refers w.calls (rest v) (rest_refers w.calls v r))
  effect_alike (Clears x n) v w s a i r =
      subst (λ o. EffectAlike w.calls (Does [] v (clear (H.Slot x) n w)) (Does [] v (over (put o (with_zeros n (s o)) s) w)))
      (owner_alike opens Shaped w s a (H.Slot x) i)
      (ea_does [] v (clear (H.Slot x) n w) (put (owner (H.Slot x) w) (with_zeros n (s (owner (H.Slot x) w))) s) tt r refl
      (changed_alike opens Shaped (zeros n) (owner (H.Slot x) w) w s (owner_seen opens Shaped w s a (H.Slot x) i) a))
