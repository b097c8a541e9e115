-- A call begins, or there are too many calls or cells for it; a call ends.
use Rattle.std.proofs.Common.{ℕ, zero, suc, ◌+◌, ◌-◌, ◌≤◌, ◌<◌, ℤ, pos, Bool, true, false, not, ◌&&◌, cond, nat_lt, List, [], ◌∷◌, ◌++◌, length, Option, Some, None, Result, Ok, Err, ◌≡◌, refl, sym, ap, ◌∙◌, subst, eq-eqb, bytes_eq, codes, arith}
use Rattle.std.specs.Option.{option_map_or}
use Rattle.c_types.specs.declared.kinds.IntKind.{IntKind}
use Rattle.c_types.specs.declared.trap.Trap.{Trap}
use Rattle.c_types.specs.Numbers.{converted, IsInRange}
use Rattle.c_types.proofs.Residues.{converted-in_range}
use Rattle.c_tree.specs.Trees.{Forest, join}
use Rattle.c_tree.specs.Everywhere.{Everywhere}
use Rattle.jump_meaning.specs.Values.{Value, Integer, Missing, Event, integer}
use Rattle.jump_meaning.specs.Code.{FunctionTree, Code, cells_of}
use Rattle.jump_meaning.specs.World.{World, Gives, Traps, Exits, most_calls, most_cells, put_call, slot_at_start, push}
use Rattle.jump_meaning.specs.Calls.{returned, fallen, lacks}
use Rattle.jump_meaning.specs.Tasks.{Task, items, works}
use Rattle.jump_meaning.specs.Step.{Guards, no_guards, Frame, Waits, State, At, is_dropped, settle, leave, begin_call}
use Rattle.jump_meaning.specs.Runs.{run}
use Rattle.plain_laws.specs.GuardSlots.{plain_list}
use Rattle.plain_laws.specs.Slotted.{Guarding, slotted, slotted_code, IsSlotted}
use Rattle.plain_laws.proofs.Memories.{Shapes, Variables, Memories, zero_in_range}
use Rattle.plain_laws.proofs.Sorts.{Sort, Num, HasSort, HaveSorts, IsNumber, InKind, under}
use Rattle.plain_laws.proofs.Relation.{IsBit, Fit, Rest, r_none, r_runs, r_loops, r_heads, r_ends, r_out, Truthy, t_branches, t_turns, t_judges, Stack, s_rest, s_truthy, s_asks, s_selector, s_enters, s_arms_bit, s_arms, s_computes, s_array, s_finds, s_drops, s_indexes, s_loads, s_fetches, s_unary, s_binary, s_converts, s_nothing, s_ands, s_ors, s_judges, s_decides, s_stores, s_counts, s_calls, s_ends_with, s_ends, s_sets, s_clears, converts, Sits, Frames, f_none, f_more, Related, x_at, x_ended, x_trapped, world}
use Rattle.plain_laws.proofs.Rests.{rest_items}
use Rattle.plain_laws.proofs.Carried.{frames_on}
use Rattle.plain_laws.proofs.Entering.{more_cells, start_shape, shapes_agree, AreArguments, grown, entered, entered_kept, entered_here, start_bit}
use Rattle.plain_laws.proofs.Declaring.{Zeros, declares}

-- memory is there for fewer calls too
pub fewer : (p : Code) (sh : Shapes) (m n : ℕ) (s v : Variables) → m ≤ n → Memories p sh n s v → Memories p sh m s v
fewer p sh m n s v h r = record {
  file_same = r.file_same;
  file_good = r.file_good;
  call_same = λ d x g i. r.call_same d x (omega (arith, g, h)) i;
  call_good = λ d x g i. r.call_good d x (omega (arith, g, h)) i;
}

module _ (p : Code) (gs : List ℕ → Guarding) (is : (m : List ℕ) → IsSlotted p (p.functions m) (gs m)) where
  abbrev pub Q : Code
  Q = slotted_code gs p

  -- the right side is there after some steps
  pub record Later (c d : State) : Type 0 where
    pub steps : ℕ
    pub related : Related p gs is c (run Q steps d)

  pub now : (c d : State) → Related p gs is c d → Later c d
  now c d h = record { steps = 0; related = h }

  -- ---- the next task drops a value on both sides, or on none

  truthy_keeps : (f : List ℕ) {k k' : List Task} → Truthy p gs is f k k' → (is_dropped k ≡ false) × (is_dropped k' ≡ false)
  truthy_keeps f (t_branches a b i j h) = (refl, refl)
  truthy_keeps f (t_turns x i h) = (refl, refl)
  truthy_keeps f (t_judges h) = ((truthy_keeps f h).0, refl)

  rest_keeps : (f : List ℕ) {k k' : List Task} → Rest p gs is f k k' → is_dropped k' ≡ is_dropped k
  rest_keeps f r_none = refl
  rest_keeps f (r_runs x i h) = refl
  rest_keeps f (r_loops x i h) = refl
  rest_keeps f (r_heads t u a i h) = refl
  rest_keeps f (r_ends h) = refl
  rest_keeps f (r_out h) = refl

  enters_keeps : (n : ℕ) (kind : IntKind) (k : List Task) → is_dropped k ≡ false → is_dropped (works (converts n kind) k) ≡ false
  enters_keeps zero kind k h = h
  enters_keeps (suc n) kind k h = refl

  drops_alike : (f : List ℕ) (c : ℕ) {ss : List Sort} {v v' : List Value} {k k' : List Task} → Stack p gs is f c ss v v' k k' → is_dropped k' ≡ is_dropped k
  drops_alike f c (s_rest v h) = rest_keeps f h
  drops_alike f c (s_truthy s v h) = let i = truthy_keeps f h in i.1 ∙ sym i.0
  drops_alike f c (s_asks t v i j h) = refl
  drops_alike f c (s_selector s n d kind v e i j a b h) = refl
  drops_alike f c (s_enters n d kind v i h) = enters_keeps n kind _ refl
  drops_alike f c (s_arms_bit l v i h) = refl
  drops_alike f c (s_arms l kind v i h) = refl
  drops_alike f c (s_computes e t i u h) = refl
  drops_alike f c (s_array kind a t i u h) = refl
  drops_alike f c (s_finds at i h) = refl
  drops_alike f c (s_drops s h) = refl
  drops_alike f c (s_indexes a s i h) = refl
  drops_alike f c (s_loads i t u h) = refl
  drops_alike f c (s_fetches i h) = refl
  drops_alike f c (s_unary op j s t u h) = refl
  drops_alike f c (s_binary op i j s r t u h) = refl
  drops_alike f c (s_converts i s t u h) = refl
  drops_alike f c (s_nothing t u h) = refl
  drops_alike f c (s_ands e s t i u h) = refl
  drops_alike f c (s_ors e s t i u h) = refl
  drops_alike f c (s_judges s t u h) = refl
  drops_alike f c (s_decides a b kind s t i j u h) = refl
  drops_alike f c (s_stores i s t u h) = refl
  drops_alike f c (s_counts up after i t u h) = refl
  drops_alike f c (s_calls m n t u h) = refl
  drops_alike f c (s_ends_with s v v' k k') = refl
  drops_alike f c (s_ends v v' k k') = refl
  drops_alike f c (s_sets x i es s j v h a r) = refl
  drops_alike f c (s_clears x i v h r) = refl

  -- ---- a call begins

  module _ (sh : Shapes) (n cells : ℕ) (s v : Variables) (input : List ℕ) (answers : List ℤ) (events : List Event) (mem : Memories p sh n s v)
      (m : List ℕ) {cs cs' : List Frame} (fr : Frames p gs is sh v n m cs cs')
      (vs : List Value) (are : AreArguments p sh n (p.functions m) vs) where
    abbrev fun : FunctionTree
    fun = p.functions m

    abbrev new : Variables
    new = put_call (suc n) (slot_at_start (slotted (gs m) fun) vs) v

    abbrev shapes : Shapes
    shapes = grown p sh n fun vs are

    zeros : Zeros (suc n) (length fun.slots) (length fun.slots + length (gs m).more) new
    zeros x h i =
        subst (λ u. IsBit u false) (sym (entered_here p sh n fun vs are (gs m) s v mem (slot_at_start (slotted (gs m) fun) vs) x))
        (start_bit fun (gs m) vs x (is m).parameters (is m).ints h i)

    shape_here : (shapes (suc n)).slots ≡ fun.slots
    shape_here = ap (λ b. (cond b (start_shape fun vs) (sh (suc n))).slots) (eq-eqb (suc n) (suc n) refl)

    started : (a : Forest) → Everywhere (Fit p gs is m) a → Later
        (At m no_guards (items a []) [] cs (world (put_call (suc n) (slot_at_start fun vs) s) (suc n) (cells + cells_of fun.slots) input answers events))
        (At m no_guards (items (join (gs m).declarations (plain_list (gs m).slot a)) []) [] cs'
        (world new (suc n) (cells + cells_of fun.slots) input answers events))
    started a i =
        let d = declares Q m cs' (suc n) (length fun.slots) (length fun.slots + length (gs m).more) (cells + cells_of fun.slots) input answers events
        (gs m).declarations (is m).declared (plain_list (gs m).slot a) new zeros in
        let e = entered p sh n fun vs are (gs m) s v mem in
        let st : Sits p gs is shapes d.after (suc n) m no_guards =
        record { shape = shape_here; guards = λ l j. d.zeros ((gs m).slot l) ((is m).beyond l j) ((is m).within l j) } in
        let me : Memories p shapes (suc n) (put_call (suc n) (slot_at_start fun vs) s) d.after = record {
          file_same = λ r. d.outside.files r ∙ e.file_same r;
          file_good = e.file_good;
          call_same = λ c x h j. d.outside.calls c x (λ q g. past c x q g j) ∙ e.call_same c x h j;
          call_good = e.call_good;
        } in
        record {
          steps = d.steps;
          related = subst (λ z. Related p gs is
              (At m no_guards (items a []) [] cs (world (put_call (suc n) (slot_at_start fun vs) s) (suc n) (cells + cells_of fun.slots) input answers
              events)) z) (sym d.comes)
              (x_at shapes (put_call (suc n) (slot_at_start fun vs) s) d.after n (cells + cells_of fun.slots) input answers events m no_guards [] []
              [] [] me st tt (s_rest [] (rest_items p gs is m a i r_none))
              (frames_on p gs is sh shapes v d.after n m (shapes_agree p n (start_shape fun vs) sh)
              (λ c y h j. d.outside.calls c y (λ q g. absurd (omega (arith, q, h))) ∙
              entered_kept p sh n fun vs are (gs m) s v mem (slot_at_start (slotted (gs m) fun) vs) c y h) fr));
        }
      where
        past : (c x : ℕ) → suc n ≡ c → length fun.slots ≤ x → x < length (shapes c).slots → ⊥
        past c x q g j = let h : x < length fun.slots = subst (λ z. x < length z) shape_here (subst (λ z. x < length (shapes z).slots) (sym q) j) in
            omega (arith, h, g)

    abbrev w : World
    w = world s n cells input answers events

    abbrev w' : World
    w' = world v n cells input answers events

    abbrev pushed : Bool → Bool → ℕ → Variables → Result World Trap
    pushed a b k u = cond a (Err Trap.Calls) (cond b (Err Trap.Cells) (Ok (world u (suc n) (cells + k) input answers events)))

    abbrev whole : Forest → Forest
    whole a = join (gs m).declarations (plain_list (gs m).slot a)

    chosen_begin : (b c : Bool) (a : Forest) → Everywhere (Fit p gs is m) a
        → Later (begin_call m a (pushed b c (cells_of fun.slots) (put_call (suc n) (slot_at_start fun vs) s)) cs w)
        (begin_call m (whole a) (pushed b c (cells_of fun.slots) new) cs' w')
    chosen_begin true c a i = now _ _ (x_trapped Trap.Calls events)
    chosen_begin false true a i = now _ _ (x_trapped Trap.Cells events)
    chosen_begin false false a i = started a i

    pub begun : (a : Forest) → Everywhere (Fit p gs is m) a → Later (begin_call m a (push fun vs w) cs w)
        (begin_call m (whole a) (push (slotted (gs m) fun) vs w') cs' w')
    begun a i =
        subst (λ k. Later (begin_call m a (push fun vs w) cs w)
        (begin_call m (whole a) (pushed (nat_lt most_calls (suc n)) (nat_lt most_cells (cells + k)) k new) cs' w'))
        (sym (more_cells fun.slots (gs m).more (is m).ints))
        (chosen_begin (nat_lt most_calls (suc n)) (nat_lt most_cells (cells + cells_of fun.slots)) a i)

  -- ---- a call ends

  module _ (sh : Shapes) (cells : ℕ) (s v : Variables) (input : List ℕ) (answers : List ℤ) (events : List Event) where
    entry_left : (b : Bool) (n : ℕ) (x : Value)
        → Related p gs is (settle (cond b (Traps Trap.NoValue (world s n cells input answers events))
        (Exits (integer x) (world s n cells input answers events))) [] no_guards [] [] [])
        (settle (cond b (Traps Trap.NoValue (world v n cells input answers events)) (Exits (integer x) (world v n cells input answers events))) []
        no_guards [] [] [])
    entry_left true n x = x_trapped Trap.NoValue events
    entry_left false n x = x_ended (integer x) events

    call_left : (b : Bool) (i k : ℕ) (x : Value) (f : List ℕ) (g : Guards) (ss : List Sort) (u r r' : List Value) {ks ks' : List Task}
        {cs cs' : List Frame} (t : Sort) → HasSort p sh (suc i) t x
        → Memories p sh (suc i) s v → Sits p gs is sh v (suc i) f g → HaveSorts p sh (suc i) ss u → Stack p gs is f (suc i) (t ∷ ss) r r' ks ks' →
        Frames p gs is sh v i f cs cs'
        → Related p gs is (settle (cond b (Traps Trap.NoValue (world s (suc (suc i)) cells input answers events))
        (Gives x (world s (suc i) k input answers events))) f g ks (u ++ r) cs)
        (settle (cond b (Traps Trap.NoValue (world v (suc (suc i)) cells input answers events)) (Gives x (world v (suc i) k input answers events))) f
        no_guards ks' (u ++ r') cs')
    call_left true i k x f g ss u r r' t h me st hs sk fr = x_trapped Trap.NoValue events
    call_left false i k x f g ss u r r' t h me st hs sk fr = x_at sh s v i k input answers events f g (t ∷ ss) (x ∷ u) r r' me st (h, hs) sk fr

    pub left_behind : (n : ℕ) (m : List ℕ) (x : Value) {cs cs' : List Frame} → IsNumber x → InKind (p.functions m).result x →
        Memories p sh (suc n) s v → Frames p gs is sh v n m cs cs'
        → Related p gs is (leave (p.functions m) x cs (world s (suc n) cells input answers events))
        (leave (slotted (gs m) (p.functions m)) x cs' (world v (suc n) cells input answers events))
    left_behind n m x a b me (f_none r) = entry_left (lacks (p.functions m) x) 1 x
    left_behind n m x a b me (f_more i r f g t ss u y y' {k = k} {k' = k'} {cs = cs} {cs' = cs'} st hs un sk fr) =
        let h = p.functions m in
        let left = leave h x (Waits f g k (u ++ y) ∷ cs) (world s (suc (suc i)) cells input answers events) in
        subst (λ z. Related p gs is left
        (settle (cond (lacks h x && not z) (Traps Trap.NoValue (world v (suc (suc i)) cells input answers events))
        (Gives x (world v (suc i) (cells - cells_of (h.slots ++ (gs m).more)) input answers events))) f no_guards k' (u ++ y') cs'))
        (sym (drops_alike f (suc i) sk))
        (subst (λ z. Related p gs is left
        (settle (cond (lacks h x && not (is_dropped k)) (Traps Trap.NoValue (world v (suc (suc i)) cells input answers events))
        (Gives x (world v (suc i) (cells - z) input answers events))) f no_guards k' (u ++ y') cs')) (sym (more_cells h.slots (gs m).more (is m).ints))
        (call_left (lacks h x && not (is_dropped k)) i (cells - cells_of h.slots) x f g ss u y y' t (under p sh (suc i) (Num h.result) t x un (a, b))
        (fewer p sh (suc i) (suc (suc i)) s v (omega arith) me) st hs sk fr))

  -- the value that a call gives is one for its kind
  returned_in : (o : Option IntKind) (x : Value) → IsNumber (option_map_or (λ k. Integer (converted k (integer x))) o Missing) × InKind o
      (option_map_or (λ k. Integer (converted k (integer x))) o Missing)
  returned_in None x = (tt, tt)
  returned_in (Some k) x = (tt, converted-in_range k (integer x))

  zero_in : (o : Option IntKind) (x : Value) → integer x ≡ pos 0 → InKind o x
  zero_in None x e = tt
  zero_in (Some k) x e = subst (IsInRange k) (sym e) (zero_in_range k)

  fallen_in : (b : Bool) (o : Option IntKind) → IsNumber (cond b (Integer (pos 0)) Missing) × InKind o (cond b (Integer (pos 0)) Missing)
  fallen_in true o = (tt, zero_in o (Integer (pos 0)) refl)
  fallen_in false o = (tt, zero_in o Missing refl)

  pub return_sort : (h : FunctionTree) (x : Value) → IsNumber (returned h x) × InKind h.result (returned h x)
  return_sort h x = returned_in h.result x

  pub fall_sort : (m : List ℕ) (h : FunctionTree) → IsNumber (fallen m) × InKind h.result (fallen m)
  fall_sort m h = fallen_in (bytes_eq m (codes "main")) h.result
