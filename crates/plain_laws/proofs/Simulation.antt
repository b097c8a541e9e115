-- Both sides go on together from related states.
use Rattle.std.proofs.Common.{ℕ, zero, suc, ◌+◌, ◌<◌, inl, ℤ, pos, Bool, true, false, not, cond, List, [], ◌∷◌, ◌++◌, length, Option, Some, None, option_map, ◌≡◌, refl, sym, ap, ◌∙◌, subst, append-nil, arith}
use Rattle.std.specs.Option.{option_map_or}
use Rattle.std.specs.Ordering.{int_eq}
use Rattle.std.proofs.lemmas.Int.{ints}
use Rattle.c_types.specs.declared.kinds.IntKind.{IntKind}
use Rattle.c_types.specs.declared.kinds.IntKind.TheVariants.{Char, UChar, Int, UInt, Long, ULong}
use Rattle.c_types.specs.Numbers.{converted, usual_kind, IsInRange}
use Rattle.c_types.proofs.Residues.{converted-in_kind}
use Rattle.c_tree.specs.declared.tree.BinaryOp.TheVariants.{Unequal}
use Rattle.c_tree.specs.ExpressionTrees.{ExpressionTree}
use Rattle.c_tree.specs.declared.tree.Slot.{Slot}
use Rattle.c_tree.specs.TestTrees.{TestTree, Source, On, Off, AndOff, OrOn, SelectorTree, Selects, Pick}
use Rattle.c_tree.specs.Constants.{kind_of}
use Rattle.c_tree.specs.Cases.{ArePicks, selector_source}
use Rattle.c_tree.specs.Labels.{TestLabels, SelectorLabels}
use Rattle.c_tree.specs.Operators.{truth, is_zero}
use Rattle.c_tree.specs.Trees.{Forest, Nil, Sections, join}
use Rattle.c_tree.specs.Everywhere.{Everywhere, EverywhereIn}
use Rattle.jump_meaning.specs.Values.{OfCall, Value, Integer, Designates, Event, integer}
use Rattle.jump_meaning.specs.Code.{FunctionTree, Code}
use Rattle.jump_meaning.specs.World.{Outcome, put, with_number}
use Rattle.jump_meaning.specs.Operations.{operand_kind, holds}
use Rattle.jump_meaning.specs.Known.{call_without_body}
use Rattle.jump_meaning.specs.Calls.{last_values, without_last, returned}
use Rattle.jump_meaning.specs.Effects.{Computes, AppliesBinary, Converts, Calls, Drops, Stores, Ands, Ors, Decides, Ends, Sets, effect}
use Rattle.jump_meaning.specs.Tasks.{Task, Works, Asks, Arms, AsksSelector, Enters, works}
use Rattle.jump_meaning.specs.Search.{entry}
use Rattle.jump_meaning.specs.Step.{Guards, no_guards, with_guard, switch_kind, Frame, State, At, invoke, perform, move, Yields, Goes, step}
use Rattle.jump_meaning.specs.Runs.{run, shows}
use Rattle.jump_meaning.proofs.Scheme.{Joint}
use Rattle.jump_meaning.proofs.RunFacts.{run_add}
use Rattle.plain_laws.specs.Kinded.{KindedTest, KindedSelector, AreKinded, kind_called, call_kind}
use Rattle.c_tree.specs.Numerals.{number, constant}
use Rattle.plain_laws.specs.GuardSlots.{plain_test, picked, plain_list, plain_sections}
use Rattle.plain_laws.specs.Slotted.{Guarding, slotted, IsSlotted}
use Rattle.plain_laws.proofs.Memories.{Shapes, Variables, Memories, stored, put_kept}
use Rattle.plain_laws.proofs.Sorts.{Sort, Bit, Num, Spot, HasSort, HaveSorts, Under, under, under_self, sort_of}
use Rattle.plain_laws.proofs.Relation.{slots, slot, IsLeft, Fit, Rest, Truthy, t_judges, Stack, s_rest, s_truthy, s_asks, s_selector, s_enters, s_arms_bit, s_arms, s_computes, s_array, s_finds, s_drops, s_indexes, s_loads, s_fetches, s_unary, s_binary, s_converts, s_nothing, s_ands, s_ors, s_judges, s_decides, s_stores, s_counts, s_calls, s_ends_with, s_ends, s_sets, s_clears, argument_sorts, converts, Sits, Frames, f_more, Related, x_at, x_ended, x_trapped, world}
use Rattle.plain_laws.proofs.Rests.{rest_entry}
use Rattle.plain_laws.proofs.Carried.{set_variable, set_sits, set_frames, set_memories, sits_kept, frames_kept}
use Rattle.plain_laws.proofs.GuardRuns.{reads, reads_off}
use Rattle.plain_laws.proofs.Constants.{IsPromoted, promoted_is, constant_comes}
use Rattle.plain_laws.proofs.Entering.{AreArguments}
use Rattle.plain_laws.proofs.Outcomes.{SameOutcome, o_gives, o_traps, o_exits, known_outcome}
use Rattle.plain_laws.proofs.Arguments.{parted, arguments_fit}
use Rattle.plain_laws.proofs.Beginning.{Q, Later, now, begun, left_behind, return_sort, fall_sort}
use Rattle.plain_laws.proofs.Steps.{on, settle_on, computes_on, array_on, finds_on, drops_on, indexes_on, loads_on, fetches_on, unary_on, binary_act, converts_on, nothing_on, ands_on, ors_on, judges_on, decides_on, stores_on, counts_on, initialise_on, clears_on}
use Rattle.plain_laws.proofs.Statements.{rest_next, truthy_next}

-- a conversion to the usual kind with int changes no number of a kind
wider : (k : IntKind) (z : ℤ) → IsInRange k z → IsInRange (usual_kind k Int) z
wider Char z h = let a = h.from_least in let b = h.to_greatest in record { from_least = grind (arith, ints); to_greatest = grind (arith, ints) }
wider UChar z h = let a = h.from_least in let b = h.to_greatest in record { from_least = grind (arith, ints); to_greatest = grind (arith, ints) }
wider _ z h = h

usual_zero : (k : IntKind) → converted (usual_kind k Int) (pos 0) ≡ pos 0
unfolding converted
usual_zero Char = refl
usual_zero UChar = refl
usual_zero Int = refl
usual_zero UInt = refl
usual_zero Long = refl
usual_zero ULong = refl

-- so `c != 0` is whether c isn't 0
compared : (k : IntKind) (z : ℤ) → IsInRange k z → not (int_eq (converted (usual_kind k Int) z) (converted (usual_kind k Int) (pos 0))) ≡ not (is_zero z)
compared k z h = ap (λ x. not (int_eq x (converted (usual_kind k Int) (pos 0)))) (converted-in_kind (usual_kind k Int) z (wider k z h)) ∙
    ap (λ x. not (int_eq z x)) (usual_zero k)

-- a function with other slots, and no body
abbrev with_slots : FunctionTree → List Slot → FunctionTree
with_slots h z = record { result = h.result; params = h.params; slots = z; body = None }

module _ (p : Code) (gs : List ℕ → Guarding) (is : (m : List ℕ) → IsSlotted p (p.functions m) (gs m)) where
  abbrev R : Code
  R = Q p gs is

  -- some steps of each, at least one
  pub record Joins (c d : State) : Type 0 where
    pub more : ℕ
    pub later : Later p gs is (run p more (step p c)) (step R d)

  simply : (c d : State) → Later p gs is (step p c) (step R d) → Joins c d
  simply c d h = record { more = 0; later = h }

  at_once : (c d : State) → Related p gs is (step p c) (step R d) → Joins c d
  at_once c d h = record { more = 0; later = now p gs is _ _ h }

  one_later : (c d : State) → Later p gs is c (step R d) → Later p gs is c d
  one_later c d h = record { steps = suc h.steps; related = h.related }

  after_run : (m : ℕ) (c d : State) → Later p gs is c (run R m d) → Later p gs is c d
  after_run m c d h = record { steps = m + h.steps; related = subst (λ z. Related p gs is c z) (sym (run_add R m h.steps d)) h.related }

  module _ (sh : Shapes) (s vs : Variables) (n cells : ℕ) (input : List ℕ) (answers : List ℤ) (events : List Event) (f : List ℕ) (g : Guards)
      {cs cs' : List Frame}
      (me : Memories p sh (suc n) s vs) (st : Sits p gs is sh vs (suc n) f g) (fr : Frames p gs is sh vs n f cs cs') where
    abbrev lefts : List Task → List Value → State
    lefts k v = At f g k v cs (world s (suc n) cells input answers events)

    abbrev rights : List Task → List Value → State
    rights k v = At f no_guards k v cs' (world vs (suc n) cells input answers events)

    here : (ss : List Sort) (u v v' : List Value) {k k' : List Task} → HaveSorts p sh (suc n) ss u → Stack p gs is f (suc n) ss v v' k k' →
        Later p gs is (lefts k (u ++ v)) (rights k' (u ++ v'))
    here ss u v v' hs sk = now p gs is _ _ (on p gs is sh s vs n cells input answers events f g me st fr ss u v v' hs sk)

    bit_here : (b : Bool) (v : List Value) {k k' : List Task} → Truthy p gs is f k k' →
        Later p gs is (lefts k (Integer (truth b) ∷ v)) (rights k' (Integer (truth b) ∷ v))
    bit_here b v h = here (Bit ∷ []) (Integer (truth b) ∷ []) v v ((b, refl), tt) (s_truthy Bit v h)

    -- ---- tests

    and_next : (b : Bool) (l : ℕ) (t : TestTree) (v : List Value) {k k' : List Task} → KindedTest p (slots p gs is f) t →
        TestLabels (IsLeft p gs is f) t → Truthy p gs is f k k'
        → Later p gs is (move p (cond b (Yields (pos 0) k) (Goes (Asks t ∷ k))) f g v cs (world s (suc n) cells input answers events))
        (step R (rights (Works (Ands (plain_test (slot p gs is f) t)) ∷ k') (Integer (truth (not b)) ∷ v)))
    and_next true l t v i j h = bit_here false v h
    and_next false l t v i j h = here [] [] v v tt (s_asks t v i j (t_judges h))

    or_next : (b : Bool) (l : ℕ) (t : TestTree) (v : List Value) {k k' : List Task} → KindedTest p (slots p gs is f) t →
        TestLabels (IsLeft p gs is f) t → Truthy p gs is f k k'
        → Later p gs is (move p (cond b (Yields (pos 1) k) (Goes (Asks t ∷ k))) f g v cs (world s (suc n) cells input answers events))
        (step R (rights (Works (Ors (plain_test (slot p gs is f) t)) ∷ k') (Integer (truth b) ∷ v)))
    or_next true l t v i j h = bit_here true v h
    or_next false l t v i j h = here [] [] v v tt (s_asks t v i j (t_judges h))

    asks_joins : (t : TestTree) (v : List Value) {k k' : List Task} → KindedTest p (slots p gs is f) t → TestLabels (IsLeft p gs is f) t →
        Truthy p gs is f k k' → Joins (lefts (Asks t ∷ k) v) (rights (Works (Computes (plain_test (slot p gs is f) t)) ∷ k') v)
    asks_joins (Source e) v i j h = record {
      more = 1;
      later = now p gs is
          _ _ (computes_on p gs is sh s vs n cells input answers events f g me st fr e (sort_of e) [] [] v v i.0 (under_self _) tt (s_truthy (sort_of e) v h));
    }
    asks_joins (On l) v {k = k} {k' = k'} i j h =
        simply _ _ (after_run 2 _ _ (subst (λ z. Later p gs is (lefts k (Integer (truth (g l)) ∷ v)) z)
        (sym (reads R f no_guards cs' vs (suc n) cells input answers events (slot p gs is f l) (g l) k' v (st.guards l j))) (bit_here (g l) v h)))
    asks_joins (Off l) v {k = k} {k' = k'} i j h =
        simply _ _ (after_run 4 _ _ (subst (λ z. Later p gs is (lefts k (Integer (truth (not (g l))) ∷ v)) z)
        (sym (reads_off R f no_guards cs' vs (suc n) cells input answers events (slot p gs is f l) (g l) k' v (st.guards l j))) (bit_here (not (g l)) v h)))
    asks_joins (AndOff l t) v {k = k} {k' = k'} i j h =
        simply _ _ (after_run 5 _ _ (subst (λ z. Later p gs is (step p (lefts (Asks (AndOff l t) ∷ k) v)) z)
        (sym (reads_off R f no_guards cs' vs (suc n) cells input answers events (slot p gs is f l) (g l)
        (Works (Ands (plain_test (slot p gs is f) t)) ∷ k') v (st.guards l j.0)))
        (one_later _ _ (and_next (g l) l t v i j.1 h))))
    asks_joins (OrOn l t) v {k = k} {k' = k'} i j h =
        simply _ _ (after_run 3 _ _ (subst (λ z. Later p gs is (step p (lefts (Asks (OrOn l t) ∷ k) v)) z)
        (sym (reads R f no_guards cs' vs (suc n) cells input answers events (slot p gs is f l) (g l)
        (Works (Ors (plain_test (slot p gs is f) t)) ∷ k') v (st.guards l j.0)))
        (one_later _ _ (or_next (g l) l t v i j.1 h))))

    -- ---- selectors

    pick_next : (b : Bool) (l : ℕ) (z : ℤ) (t : SelectorTree) (m : ℕ) (d : Sections) (kind : IntKind) (v : List Value) {k k' : List Task} →
        switch_kind t ≡ kind → IsPromoted kind → IsInRange kind z → KindedSelector p (slots p gs is f) t → SelectorLabels (IsLeft p gs is f) t → ArePicks kind t
        → EverywhereIn (Fit p gs is f) d → Rest p gs is f k k'
        → Later p gs is (move p (cond b (Yields z (Enters kind d ∷ k)) (Goes (AsksSelector t ∷ Enters kind d ∷ k))) f g v cs
        (world s (suc n) cells input answers events))
        (rights (works (cond (holds (Integer (truth b))) (Computes (constant kind z) ∷ Converts kind ∷ [])
        (Computes (picked (slot p gs is f) kind t) ∷ Converts kind ∷ []))
        (works (converts (suc m) kind) (Enters kind (plain_sections (slot p gs is f) d) ∷ k'))) v)
    pick_next true l z t m d kind v {k = k} {k' = k'} e i q ks ls ps ds h =
        let ks' = works (converts (suc (suc m)) kind) (Enters kind (plain_sections (slot p gs is f) d) ∷ k') in
        let c = constant_comes R f no_guards cs' (world vs (suc n) cells input answers events) ks' v kind z i q in
        after_run (suc c.steps) _ _ (subst (λ y. Later p gs is (lefts (Enters kind d ∷ k) (Integer z ∷ v)) y) (sym c.is)
        (here (Num (Some kind) ∷ []) (Integer z ∷ []) v v ((tt, q), tt) (s_enters (suc (suc m)) d kind v ds h)))
    pick_next false l z t m d kind v e i q ks ls ps ds h = here [] [] v v tt (s_selector t (suc m) d kind v e ks ls ps ds h)

    selector_joins : (t : SelectorTree) (m : ℕ) (d : Sections) (kind : IntKind) (v : List Value) {k k' : List Task} → switch_kind t ≡ kind →
        KindedSelector p (slots p gs is f) t → SelectorLabels (IsLeft p gs is f) t → ArePicks kind t → EverywhereIn (Fit p gs is f) d → Rest p gs is f k k'
        → Joins (lefts (AsksSelector t ∷ Enters kind d ∷ k) v)
        (rights (Works (Computes (picked (slot p gs is f) kind t)) ∷ works (converts (suc m) kind)
        (Enters kind (plain_sections (slot p gs is f) d) ∷ k')) v)
    selector_joins (Selects e) m d kind v {k = k} {k' = k'} q ks ls ps ds h = record {
      more = 1;
      later = now p gs is _ _ (subst (λ z. Related p gs is (perform p (effect (Computes e) v (world s (suc n) cells input answers events)) f g
          (Works (Converts z) ∷ Enters kind d ∷ k) cs)
          (perform R (effect (Computes e) v (world vs (suc n) cells input answers events)) f no_guards
          (works (converts (suc m) kind) (Enters kind (plain_sections (slot p gs is f) d) ∷ k')) cs')) (sym q)
          (computes_on p gs is sh s vs n cells input answers events f g me st fr e (sort_of e) [] [] v v ks (under_self _) tt
          (s_converts kind (sort_of e) (Num (Some kind)) (under_self (Num (Some kind))) (s_enters m d kind v ds h))));
    }
    selector_joins (Pick l z t) m d kind v {k = k} {k' = k'} q ks ls ps ds h =
        let i : IsPromoted kind = subst IsPromoted q (promoted_is (operand_kind (kind_of (selector_source t)))) in
        simply _ _ (after_run 3 _ _ (subst (λ y. Later p gs is (step p (lefts (AsksSelector (Pick l z t) ∷ Enters kind d ∷ k) v)) y)
        (sym (reads R f no_guards cs' vs (suc n) cells input answers events (slot p gs is f l) (g l)
        (Works (Decides (constant kind z) (picked (slot p gs is f) kind t) (Some kind)) ∷ works (converts (suc m) kind)
        (Enters kind (plain_sections (slot p gs is f) d) ∷ k')) v (st.guards l ls.0)))
        (one_later _ _ (pick_next (g l) l z t m d kind v q i ps.0 ks ls.1 ps.1 ds h))))

    enters_next : (m : ℕ) (d : Sections) (kind : IntKind) (x y : Value) (v : List Value) {k k' : List Task} → IsInRange kind (integer x) →
        integer y ≡ integer x → EverywhereIn (Fit p gs is f) d → Rest p gs is f k k'
        → Later p gs is (step p (lefts (Enters kind d ∷ k) (x ∷ v)))
        (step R (rights (works (converts m kind) (Enters kind (plain_sections (slot p gs is f) d) ∷ k')) (y ∷ v)))
    enters_next zero d kind x y v {k = k} {k' = k'} i e ds h =
        subst (λ z. Later p gs is (lefts (entry kind (integer x) d k) v) (rights (entry kind z (plain_sections (slot p gs is f) d) k') v)) (sym e)
        (here [] [] v v tt (s_rest v (rest_entry p gs is f kind (integer x) d ds h)))
    enters_next (suc m) d kind x y v i e ds h = one_later _ _ (enters_next m d kind x (Integer (converted kind (integer y))) v i
        (ap (converted kind) e ∙ converted-in_kind kind (integer x) i) ds h)

    enters_joins : (m : ℕ) (d : Sections) (kind : IntKind) (u v : List Value) {k k' : List Task} → HaveSorts p sh (suc n) (Num (Some kind) ∷ []) u →
        EverywhereIn (Fit p gs is f) d → Rest p gs is f k k'
        → Joins (lefts (Enters kind d ∷ k) (u ++ v)) (rights (works (converts m kind) (Enters kind (plain_sections (slot p gs is f) d) ∷ k')) (u ++ v))
    enters_joins m d kind [] v hs ds h = absurd hs
    enters_joins m d kind (x ∷ []) v hs ds h = simply _ _ (enters_next m d kind x x v hs.0.1 refl ds h)
    enters_joins m d kind (x ∷ y ∷ u) v hs ds h = absurd hs.1

    truthy_joins : (t : Sort) (u v : List Value) {k k' : List Task} → HaveSorts p sh (suc n) (t ∷ []) u → Truthy p gs is f k k' →
        Joins (lefts k (u ++ v)) (rights k' (u ++ v))
    truthy_joins t [] v hs h = absurd hs
    truthy_joins t (x ∷ []) v hs h = simply _ _ (truthy_next p gs is sh s vs n cells input answers events f g me st fr v x x refl h)
    truthy_joins t (x ∷ y ∷ u) v hs h = absurd hs.1

    -- ---- guards that are set by a value

    guard_here : (l : ℕ) (b : Bool) (v : List Value) {k k' : List Task} → IsLeft p gs is f l → Rest p gs is f k k'
        → Related p gs is (At f (with_guard l b g) k v cs (world s (suc n) cells input answers events))
        (At f no_guards k' v cs' (world (set_variable (suc n) (slot p gs is f l) b vs) (suc n) cells input answers events))
    guard_here l b v i h =
        x_at sh s (set_variable (suc n) (slot p gs is f l) b vs) n cells input answers events f (with_guard l b g) [] [] v v
        (set_memories p gs is sh s vs n (slot p gs is f l) b f st.shape ((is f).beyond l i) me)
        (set_sits p gs is sh vs (suc n) f g l b i st) tt (s_rest v h) (set_frames p gs is sh vs n (slot p gs is f l) b f fr)

    bit_next : (l : ℕ) (b : Bool) (v : List Value) {k k' : List Task} → IsLeft p gs is f l → Rest p gs is f k k'
        → Related p gs is (step p (lefts (Arms l ∷ k) (Integer (truth b) ∷ v)))
        (run R 2 (rights (Works Stores ∷ Works Drops ∷ k') (Integer (truth b) ∷ Designates (OfCall (suc n) (slot p gs is f l)) 0 ∷ v)))
    bit_next l true v i h = guard_here l true v i h
    bit_next l false v i h = guard_here l false v i h

    arms_bit_joins : (l : ℕ) (u v : List Value) {k k' : List Task} → HaveSorts p sh (suc n) (Bit ∷ []) u → IsLeft p gs is f l → Rest p gs is f k k'
        → Joins (lefts (Arms l ∷ k) (u ++ v)) (rights (Works Stores ∷ Works Drops ∷ k') (u ++ Designates (OfCall (suc n) (slot p gs is f l)) 0 ∷ v))
    arms_bit_joins l [] v hs i h = absurd hs
    arms_bit_joins l (x ∷ []) v {k = k} {k' = k'} hs i h =
        subst (λ z. Joins (lefts (Arms l ∷ k) (z ∷ v)) (rights (Works Stores ∷ Works Drops ∷ k')
        (z ∷ Designates (OfCall (suc n) (slot p gs is f l)) 0 ∷ v))) (sym hs.0.1)
        (simply _ _ (record { steps = 1; related = bit_next l hs.0.0 v i h }))
    arms_bit_joins l (x ∷ y ∷ u) v hs i h = absurd hs.1

    arms_joins : (l : ℕ) (kind : IntKind) (u v : List Value) {k k' : List Task} → HaveSorts p sh (suc n) (Num (Some kind) ∷ []) u →
        IsLeft p gs is f l → Rest p gs is f k k'
        → Joins (lefts (Arms l ∷ k) (u ++ v))
        (rights (Works (Computes (number Int (pos 0))) ∷ Works (AppliesBinary Unequal (Some kind) (Some Int)) ∷ Works Stores ∷ Works Drops ∷ k')
        (u ++ Designates (OfCall (suc n) (slot p gs is f l)) 0 ∷ v))
    arms_joins l kind [] v hs i h = absurd hs
    arms_joins l kind (x ∷ []) v {k = k} {k' = k'} hs i h =
        simply _ _ (record {
          steps = 3;
          related = subst (λ b. Related p gs is (At f (with_guard l (holds x) g) k v cs (world s (suc n) cells input answers events))
              (At f no_guards k' v cs' (world (set_variable (suc n) (slot p gs is f l) b vs) (suc n) cells input answers events)))
              (sym (compared kind (integer x) hs.0.1))
              (guard_here l (holds x) v i h);
        })
    arms_joins l kind (x ∷ y ∷ u) v hs i h = absurd hs.1

    -- ---- initialisers, and the end of a call

    sets_next : (x i : ℕ) (es : List ExpressionTree) (j : IntKind) (y z : Value) (v : List Value) {k k' : List Task} →
        HasSort p sh (suc n) (Spot j) z → x < length (slots p gs is f) → AreKinded p (slots p gs is f) es → Rest p gs is f k k'
        → Related p gs is (step p (lefts (Works (Sets x i es) ∷ k) (y ∷ z ∷ v))) (step R (rights (Works (Sets x i es) ∷ k') (y ∷ z ∷ v)))
    sets_next x i es j y (Designates o a) v t h ks rk =
        let k2 = put_kept p sh me (with_number a (integer y)) o t.0 in
        initialise_on p gs is sh (put o (with_number a (integer y) (s o)) s) (put o (with_number a (integer y) (vs o)) vs) n cells input answers
        events f g (stored p sh me o a (integer y) t.0)
        (sits_kept p gs is sh vs (put o (with_number a (integer y) (vs o)) vs) (suc n) f g k2 st)
        (frames_kept p gs is sh vs (put o (with_number a (integer y) (vs o)) vs) n f k2 fr) x (suc i) es v h ks rk
    sets_next x i es j y _ v t h ks rk = absurd t

    sets_joins : (x i : ℕ) (es : List ExpressionTree) (t : Sort) (j : IntKind) (u v : List Value) {k k' : List Task} →
        HaveSorts p sh (suc n) (t ∷ Spot j ∷ []) u → x < length (slots p gs is f) → AreKinded p (slots p gs is f) es → Rest p gs is f k k'
        → Joins (lefts (Works (Sets x i es) ∷ k) (u ++ v)) (rights (Works (Sets x i es) ∷ k') (u ++ v))
    sets_joins x i es t j [] v hs h ks rk = absurd hs
    sets_joins x i es t j (y ∷ []) v hs h ks rk = absurd hs.1
    sets_joins x i es t j (y ∷ z ∷ []) v hs h ks rk = at_once _ _ (sets_next x i es j y z v hs.1.0 h ks rk)
    sets_joins x i es t j (y ∷ z ∷ w ∷ u) v hs h ks rk = absurd hs.1.1

    ends_joins : (t : Sort) (u v v' : List Value) (k k' : List Task) → HaveSorts p sh (suc n) (t ∷ []) u →
        Joins (lefts (Works (Ends true) ∷ k) (u ++ v)) (rights (Works (Ends true) ∷ k') (u ++ v'))
    ends_joins t [] v v' k k' hs = absurd hs
    ends_joins t (x ∷ u) v v' k k' hs = let e = return_sort p gs is (p.functions f) x in
        at_once _ _ (left_behind p gs is sh cells s vs input answers events n f (returned (p.functions f) x) e.0 e.1 me fr)

    -- ---- calls

    outcome_under : (b t : Sort) {o o' : Outcome} → Under b t → SameOutcome p sh (suc n) s vs cells me b o o' → SameOutcome p sh (suc n) s vs cells me t o o'
    outcome_under b t un (o_gives x s2 v2 i a e h m2 k2) = o_gives x s2 v2 i a e (under p sh (suc n) b t x un h) m2 k2
    outcome_under b t un (o_traps z w w' e) = o_traps z w w' e
    outcome_under b t un (o_exits z w w' e) = o_exits z w w' e

    no_more_slots : (m : List ℕ) → (p.functions m).body ≡ None → (p.functions m).slots ≡ (p.functions m).slots ++ (gs m).more
    no_more_slots m e = sym (append-nil (p.functions m).slots) ∙ ap (λ z. (p.functions m).slots ++ z) (sym ((is m).bodiless e))

    abbrev whole : List ℕ → Forest → Forest
    whole m a = join (gs m).declarations (plain_list (gs m).slot a)

    invoke_next : (b : Option Forest) (m : List ℕ) → (p.functions m).body ≡ b → (t : Sort) → Under (Num (call_kind p m)) t →
        (ss : List Sort) (u v v' : List Value) {k k' : List Task} → HaveSorts p sh (suc n) ss u → Stack p gs is f (suc n) (t ∷ ss) v v' k k'
        → (xs : List Value) → AreArguments p sh (suc n) (p.functions m) xs
        → Later p gs is (invoke b (p.functions m) m xs f g k (u ++ v) cs (world s (suc n) cells input answers events))
        (invoke (option_map (whole m) b) (slotted (gs m) (p.functions m)) m xs f no_guards k' (u ++ v') cs' (world vs (suc n) cells input answers events))
    invoke_next (Some a) m e t un ss u v v' hs sk xs fit =
        begun p gs is sh (suc n) cells s vs input answers events me m
        (f_more n m f g t ss u v v' st hs (subst (λ b. Under (Num (kind_called m b (p.functions m).result)) t) e un) sk fr) xs fit a
        (subst (λ b. Everywhere (Fit p gs is m) (option_map_or (λ z. z) b Nil)) e (is m).fits)
    invoke_next None m e t un ss u v v' {k = k} {k' = k'} hs sk xs fit =
        let h = p.functions m in
        let o = known_outcome p sh (suc n) s vs cells me input answers events m h xs in
        now p gs is _ _ (settle_on p gs is sh s vs n cells input answers events f g me st fr t ss u v v'
        (outcome_under (Num (kind_called m None h.result)) t (subst (λ b. Under (Num (kind_called m b h.result)) t) e un)
        (subst (λ z. SameOutcome p sh (suc n) s vs cells me (Num (kind_called m None h.result))
        (call_without_body m h xs (world s (suc n) cells input answers events))
        (call_without_body m (with_slots h z) xs (world vs (suc n) cells input answers events))) (no_more_slots m e) o)) hs sk)

    calls_joins : (m : List ℕ) (j : ℕ) (t : Sort) (ss : List Sort) (u v v' : List Value) {k k' : List Task} → Under (Num (call_kind p m)) t →
        HaveSorts p sh (suc n) (argument_sorts j (slots p gs is m) ss) u → Stack p gs is f (suc n) (t ∷ ss) v v' k k'
        → Joins (lefts (Works (Calls m j) ∷ k) (u ++ v)) (rights (Works (Calls m j) ∷ k') (u ++ v'))
    calls_joins m j t ss u v v' {k = k} {k' = k'} un hs sk =
        let q = parted p sh (suc n) j (slots p gs is m) ss u hs in
        let h = p.functions m in
        let F = λ (xs ys bs ds : List Value). Later p gs is (invoke h.body h m xs f g k bs cs (world s (suc n) cells input answers events))
        (invoke (option_map (whole m) h.body) (slotted (gs m) h) m ys f no_guards k' ds cs' (world vs (suc n) cells input answers events)) in
        let base = invoke_next h.body m refl t un ss q.below v v' q.sorts sk q.arguments (arguments_fit p sh (suc n) h j ss u q) in
        simply _ _
        (subst (λ xs. F xs (last_values j [] (u ++ v')) (without_last j (u ++ v)) (without_last j (u ++ v'))) (sym (q.last v))
        (subst (λ ys. F q.arguments ys (without_last j (u ++ v)) (without_last j (u ++ v'))) (sym (q.last v'))
        (subst (λ bs. F q.arguments q.arguments bs (without_last j (u ++ v'))) (sym (q.without v))
        (subst (λ ds. F q.arguments q.arguments (q.below ++ v) ds) (sym (q.without v')) base))))

    -- ---- all tasks

    stack_joins : (ss : List Sort) (u v v' : List Value) {k k' : List Task} → HaveSorts p sh (suc n) ss u → Stack p gs is f (suc n) ss v v' k k' →
        Joins (lefts k (u ++ v)) (rights k' (u ++ v'))
    stack_joins ss [] v v' hs (s_rest w h) = simply _ _ (rest_next p gs is sh s vs n cells input answers events f g me st fr w h)
    stack_joins ss (x ∷ u) v v' hs (s_rest w h) = absurd hs
    stack_joins ss u v v' hs (s_truthy t w h) = truthy_joins t u w hs h
    stack_joins ss [] v v' hs (s_asks t w i j h) = asks_joins t w i j h
    stack_joins ss (x ∷ u) v v' hs (s_asks t w i j h) = absurd hs
    stack_joins ss [] v v' hs (s_selector t m d kind w e ks ls ps ds h) = selector_joins t m d kind w e ks ls ps ds h
    stack_joins ss (x ∷ u) v v' hs (s_selector t m d kind w e ks ls ps ds h) = absurd hs
    stack_joins ss u v v' hs (s_enters m d kind w ds h) = enters_joins m d kind u w hs ds h
    stack_joins ss u v v' hs (s_arms_bit l w i h) = arms_bit_joins l u w hs i h
    stack_joins ss u v v' hs (s_arms l kind w i h) = arms_joins l kind u w hs i h
    stack_joins ss u v v' hs (s_computes e t i un sk) = at_once
        _ _ (computes_on p gs is sh s vs n cells input answers events f g me st fr e t ss u v v' i un hs sk)
    stack_joins ss u v v' hs (s_array kind h t i un sk) = at_once
        _ _ (array_on p gs is sh s vs n cells input answers events f g me st fr kind h t ss u v v' i un hs sk)
    stack_joins ss u v v' hs (s_finds at i sk) = at_once _ _ (finds_on p gs is sh s vs n cells input answers events f g me st fr at ss u v v' i hs sk)
    stack_joins _ u v v' hs (s_drops t {ss = ss} sk) = at_once _ _ (drops_on p gs is sh s vs n cells input answers events f g me st fr t ss u v v' hs sk)
    stack_joins _ u v v' hs (s_indexes h t {ss = ss} i sk) = at_once
        _ _ (indexes_on p gs is sh s vs n cells input answers events f g me st fr h t ss u v v' i hs sk)
    stack_joins _ u v v' hs (s_loads i t {ss = ss} un sk) = at_once
        _ _ (loads_on p gs is sh s vs n cells input answers events f g me st fr i t ss u v v' un hs sk)
    stack_joins _ u v v' hs (s_fetches i {ss = ss} sk) = at_once _ _ (fetches_on p gs is sh s vs n cells input answers events f g me st fr i ss u v v' hs sk)
    stack_joins _ u v v' hs (s_unary op j b t {ss = ss} un sk) = at_once
        _ _ (unary_on p gs is sh s vs n cells input answers events f g me st fr op j b t ss u v v' un hs sk)
    stack_joins _ u v v' hs (s_binary op i j b c t {ss = ss} un sk) = at_once
        _ _ (binary_act p gs is sh s vs n cells input answers events f g me st fr op i j b c t ss u v v' un hs sk)
    stack_joins _ u v v' hs (s_converts i b t {ss = ss} un sk) = at_once
        _ _ (converts_on p gs is sh s vs n cells input answers events f g me st fr i b t ss u v v' un hs sk)
    stack_joins ss u v v' hs (s_nothing t un sk) = at_once _ _ (nothing_on p gs is sh s vs n cells input answers events f g me st fr t ss u v v' un hs sk)
    stack_joins _ u v v' hs (s_ands e b t {ss = ss} i un sk) = at_once
        _ _ (ands_on p gs is sh s vs n cells input answers events f g me st fr e b t ss u v v' i un hs sk)
    stack_joins _ u v v' hs (s_ors e b t {ss = ss} i un sk) = at_once
        _ _ (ors_on p gs is sh s vs n cells input answers events f g me st fr e b t ss u v v' i un hs sk)
    stack_joins _ u v v' hs (s_judges b t {ss = ss} un sk) = at_once
        _ _ (judges_on p gs is sh s vs n cells input answers events f g me st fr b t ss u v v' un hs sk)
    stack_joins _ u v v' hs (s_decides a b kind c t {ss = ss} i j un sk) =
        at_once _ _ (decides_on p gs is sh s vs n cells input answers events f g me st fr a b kind c t ss u v v' i j un hs sk)
    stack_joins _ u v v' hs (s_stores i b t {ss = ss} un sk) = at_once
        _ _ (stores_on p gs is sh s vs n cells input answers events f g me st fr i b t ss u v v' un hs sk)
    stack_joins _ u v v' hs (s_counts up after i t {ss = ss} un sk) = at_once
        _ _ (counts_on p gs is sh s vs n cells input answers events f g me st fr up after i t ss u v v' un hs sk)
    stack_joins _ u v v' hs (s_calls m j t {ss = ss} un sk) = calls_joins m j t ss u v v' un hs sk
    stack_joins ss u v v' hs (s_ends_with t w w' k k') = ends_joins t u w w' k k' hs
    stack_joins ss [] v v' hs (s_ends w w' k k') = let e = fall_sort p gs is f (p.functions f) in
        at_once _ _ (left_behind p gs is sh cells s vs input answers events n f _ e.0 e.1 me fr)
    stack_joins ss (x ∷ u) v v' hs (s_ends w w' k k') = absurd hs
    stack_joins ss u v v' hs (s_sets x i es t j w h ks rk) = sets_joins x i es t j u w hs h ks rk
    stack_joins ss [] v v' hs (s_clears x i w h rk) = at_once _ _ (clears_on p gs is sh s vs n cells input answers events f g me st fr x i w h rk)
    stack_joins ss (y ∷ u) v v' hs (s_clears x i w h rk) = absurd hs

  joins : (c d : State) → Related p gs is c d → Joins c d
  joins c d (x_at sh s vs n cells input answers events f g ss u v v' me st hs sk fr) =
      stack_joins sh s vs n cells input answers events f g me st fr ss u v v' hs sk
  joins c d (x_ended z es) = at_once _ _ (x_ended z es)
  joins c d (x_trapped t es) = at_once _ _ (x_trapped t es)

  pub joint : (c d : State) → Related p gs is c d → Joint (step p) (step R) (Related p gs is) (λ x. Unit {0}) (λ x. 0) c d
  joint c d h =
      let j = joins c d h in
      record { more = j.more; steps = suc j.later.steps; related = j.later.related; pays = inl (omega arith); safe = λ i q. tt }

  pub alike : (c d : State) → Related p gs is c d → shows c ≡ shows d
  alike c d (x_at sh s vs n cells input answers events f g ss u v v' me st hs sk fr) = refl
  alike c d (x_ended z es) = refl
  alike c d (x_trapped t es) = refl
