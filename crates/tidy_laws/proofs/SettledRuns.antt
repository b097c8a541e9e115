-- A program and the same with a slot gone from each function have the same runs.
use Rattle.std.proofs.Common.{ℕ, zero, suc, ℤ, Bool, true, false, cond, List, [], ◌∷◌, map, append-nil, Option, Some, None, ◌≡◌, refl, sym, ap, ◌∙◌, subst, arith}
use Rattle.c_tree.specs.Trees.{Forest}
use Rattle.jump_meaning.specs.Values.{Value, Integer, Missing, Variable, Holds, Lent, integer}
use Rattle.jump_meaning.specs.Code.{FunctionTree, Code, entry_or, items_of}
use Rattle.jump_meaning.specs.World.{World, Traps, Exits, no_slot, kind_held, push, world_at_start}
use Rattle.jump_meaning.specs.Calls.{lacks, leave_entry}
use Rattle.jump_meaning.specs.Behaviour.{Ended, Trapped, Covers, AreSameRuns}
use Rattle.c_types.specs.declared.trap.Trap.{Trap}
use Rattle.struct_meaning.specs.Structural.{Evaluation, Yields, Faults, Quits, Spent, LessFuel, given, execs, value_left, call_body, called, call, with_fuel}
use Rattle.struct_meaning.specs.Runs.{entry_call, stands, structural_run}
use Rattle.tidy_laws.specs.TidyExitLaws.{RunTheSame}
use Rattle.tidy_laws.specs.TidyZeroLaws.{SettledLaws}
use Rattle.plain_laws.specs.Slotted.{HoldsInKind}
use Rattle.plain_laws.proofs.Memories.{Shapes, Good}
use Rattle.plain_laws.proofs.Sorts.{Num, ForSlot, HasSort}
use Rattle.plain_laws.specs.Kinded.{call_kind}
use Rattle.plain_laws.proofs.Entering.{AreArguments}
use Rattle.plain_laws.proofs.Arguments.{numbers_fit}
use Rattle.tidy_laws.specs.Renumbered.{without}
use Rattle.tidy_laws.proofs.Evaluations.{Alike}
use Rattle.tidy_laws.proofs.Apart.{Apart, new_lending}
use Rattle.tidy_laws.proofs.Operations.{Post}
use Rattle.tidy_laws.specs.Settles.{Items, i_nil}
use Rattle.tidy_laws.proofs.TidyZeroStatements.{Less}
use Rattle.tidy_laws.proofs.Running.{item_ends, stops_end}
use Rattle.tidy_laws.proofs.Calls.{narrowed}
use Rattle.tidy_laws.specs.Settled.{SettledBody, SettledCode}
use Rattle.tidy_laws.proofs.Called.{Entered, shapes, gone, body_alike, push_same, inside, called_alike}

-- how an entry ends
abbrev Ending : Value → World → Value → World → Type 0
Ending a w b u = (integer b ≡ integer a) × (u.events ≡ w.events)

-- each shows what the other shows
covers : (x y : Evaluation Value) → Alike Ending x y → Covers (stands x) (stands y)
covers (Yields v w) (Yields b u) h = ap (λ n. Ended n u.events) h.0 ∙ ap (λ es. Ended (integer v) es) h.1
covers (Faults t w) (Faults s u) h = ap (λ r. Trapped r u.events) h.0 ∙ ap (λ es. Trapped t es) h.1
covers (Quits n w) (Quits m u) h = ap (λ n. Ended n u.events) h.0 ∙ ap (λ es. Ended n es) h.1
covers (Spent w) (Spent u) h = ([], h ∙ sym (append-nil w.events))
covers (Yields v w) _ h = absurd h
covers (Faults t w) _ h = absurd h
covers (Quits n w) _ h = absurd h
covers (Spent w) _ h = absurd h

turned_round : (x y : Evaluation Value) → Alike Ending x y → Alike Ending y x
turned_round (Yields v w) (Yields b u) h = (sym h.0, sym h.1)
turned_round (Faults t w) (Faults s u) h = (sym h.0, sym h.1)
turned_round (Quits n w) (Quits m u) h = (sym h.0, sym h.1)
turned_round (Spent w) (Spent u) h = sym h
turned_round (Yields v w) _ h = absurd h
turned_round (Faults t w) _ h = absurd h
turned_round (Quits n w) _ h = absurd h
turned_round (Spent w) _ h = absurd h

numbers_stay : (holes : ℕ → ℕ) (ns : List ℤ) → map (new_lending holes) (map Integer ns) ≡ map Integer ns
numbers_stay holes [] = refl
numbers_stay holes (n ∷ ns) = ap (λ z. Integer n ∷ z) (numbers_stay holes ns)

items_settled : (p : Code) (f : FunctionTree) (g : ℕ) (o b : Option Forest) → SettledBody p f g o b →
    Items p f.slots g false (items_of (record f { body = o })) (items_of (record f { body = b }))
items_settled p f g None None h = i_nil false
items_settled p f g (Some a) (Some c) h = h
items_settled p f g None (Some c) h = absurd h
items_settled p f g (Some a) None h = absurd h

-- before any call
abbrev no_shapes : Shapes
no_shapes d = record { slots = []; own = λ x. false }

abbrev no_holes : ℕ → ℕ
no_holes d = 0

module _ (k p q : Code) (s : SettledCode k p q) where
  call_alike : (L M : LessFuel) → Less k L M → (sh : Shapes) (holes : ℕ → ℕ) (c : ℕ) (d : Bool) (m : List ℕ) (vs : List Value) (w u : World) →
      AreArguments k sh c (k.functions m) vs → Apart k sh holes false c w u
      → Alike (Post k sh holes c (Num (call_kind k m))) (call p L d m vs w) (call q M d m (map (new_lending holes) vs) u)
  call_alike L M less sh holes c d m vs w u are a =
      let f = s.functions m in
      let are' : AreArguments k sh c (p.functions m) vs =
      record {
        each = subst (λ ss. (x : ℕ) → HasSort k sh c (ForSlot (entry_or no_slot ss x).kind) (entry_or Missing vs x)) (sym (s.slots m))
            are.each;
      } in
      subst (λ h. Alike (Post k sh holes c (Num (call_kind k m))) (called L d m (p.functions m) (p.functions m).body vs w)
      (called M d m h h.body (map (new_lending holes) vs) u)) (sym f.same)
      (subst (λ j. Alike (Post k sh holes c (Num j)) (called L d m (p.functions m) (p.functions m).body vs w)
      (called M d m (record (p.functions m) { slots = without (s.hole m) (p.functions m).slots; body = f.body }) f.body
      (map (new_lending holes) vs) u)) (s.calls m)
      (called_alike k L M less sh holes c m (p.functions m) (s.hole m) f.may d (p.functions m).body f.body f.settled vs w u are' a))

  -- with the same fuel
  less_of : (n : ℕ) → Less k (with_fuel p n) (with_fuel q n)
  less_of zero = record {
    again = λ sh holes c x y h w u a. a.events;
    again_stops = λ sh holes c x y h w u a. a.events;
    again_for = λ sh holes c t v t' v' d b h w u a. a.events;
    calls = λ sh holes c d m vs w u are a. a.events;
  }
  less_of (suc n) =
      let L = with_fuel p n in
      let M = with_fuel q n in
      record {
        again = λ sh holes c x y h. item_ends k sh holes c L M (less_of n) h;
        again_stops = λ sh holes c x y h. stops_end k sh holes c L M (less_of n) h;
        again_for = λ sh holes c t v t' v' a b h. item_ends k sh holes c L M (less_of n) h;
        calls = call_alike L M (less_of n);
      }

  module _ (m : List ℕ) (arguments : List ℤ) (input : List ℕ) (answers : List ℤ) where
    good_global : (v : Variable) → HoldsInKind v → Good k no_shapes 0 (kind_held v) true v
    good_global (Holds k n cells) h = (refl, h, refl)
    good_global (Lent o) h = absurd h

    start_apart : Apart k no_shapes no_holes false 0 (world_at_start p input answers) (world_at_start q input answers)
    start_apart = record {
      calls = refl;
      same_calls = refl;
      cells = s.cells;
      input = refl;
      answers = refl;
      events = refl;
      sealed = λ d h. refl;
      file_same = λ m. ap (λ (gs : List ℕ → Variable). gs m) s.globals;
      file_good = λ m. subst (λ (gs : List ℕ → Variable). Good k no_shapes 0 (kind_held (k.globals m)) true (gs m)) (sym s.same_globals)
          (good_global (k.globals m) (s.numbers m));
      call_same = λ d x h i k. absurd (omega (arith, i));
      call_good = λ d x h i k. absurd (omega (arith, i));
      older = λ d h. absurd (omega (arith, h));
      newest = λ e. refl;
    }

    abbrev entered : Code → LessFuel → List Value → FunctionTree → World → Evaluation Value
    entered r K vs f w = call_body (execs K (items_of f)) (λ c w. leave_entry f (value_left m f c) w) w (push f vs w)

    end_alike : (f h : FunctionTree) → h.result ≡ f.result → (x : Value) (w u : World) → u.events ≡ w.events →
        Alike Ending (given (leave_entry f x w)) (given (leave_entry h x u))
    end_alike f h r x w u e = subst (λ k. Alike Ending (given (leave_entry f x w)) (given (leave_entry (record f { result = k }) x u))) (sym r)
        (cases (lacks f x))
      where
        cases : (b : Bool) → Alike Ending (given (cond b (Traps Trap.NoValue w) (Exits (integer x) w)))
            (given (cond b (Traps Trap.NoValue u) (Exits (integer x) u)))
        cases true = (refl, e)
        cases false = (refl, e)

    entry_alike : (n : ℕ) → Alike Ending (entry_call p (with_fuel p n) m arguments (world_at_start p input answers))
        (entry_call q (with_fuel q n) m arguments (world_at_start q input answers))
    entry_alike n =
        let L = with_fuel p n in
        let M = with_fuel q n in
        let f = p.functions m in
        let g = s.hole m in
        let h = s.functions m in
        let vs = map Integer arguments in
        let are = numbers_fit k no_shapes 0 f arguments in
        let sh = shapes k L M (less_of n) no_shapes no_holes 0 m f g h.may vs are in
        let gone' = gone k L M (less_of n) no_shapes no_holes 0 m f g h.may vs are in
        subst (λ k. Alike Ending (entered p L vs f (world_at_start p input answers)) (entered q M vs k (world_at_start q input answers))) (sym h.same)
        (body_alike k sh gone' 1 Ending (execs L (items_of f)) (execs M (items_of (record f { body = h.body })))
        (λ c w. leave_entry f (value_left m f c) w) (λ c w. leave_entry f (value_left m f c) w)
        (inside k L M (less_of n) no_shapes no_holes 0 m f g h.may vs are (items_of f) (items_of (record f { body = h.body }))
        (items_settled k f g f.body h.body h.settled))
        (λ e w u a. end_alike f f refl (value_left m f e) w u a.events)
        (world_at_start p input answers) (world_at_start q input answers) refl (push f vs (world_at_start p input answers))
        (push (narrowed g f) vs (world_at_start q input answers))
        (subst (λ ys. Entered k sh gone' 1 (push f vs (world_at_start p input answers)) (push (narrowed g f) ys (world_at_start q input answers)))
        (numbers_stay no_holes arguments)
        (push_same k L M (less_of n) no_shapes no_holes 0 m f g h.may vs are (world_at_start p input answers) (world_at_start q input answers) start_apart)))

    pub settled_run : AreSameRuns (structural_run p m arguments input answers) (structural_run q m arguments input answers)
    settled_run = record {
      forth = λ n. (n, covers _ _ (entry_alike n));
      back = λ n. (n, covers _ _ (turned_round _ _ (entry_alike n)));
    }

pub settled_runs : (k p q : Code) → SettledCode k p q → RunTheSame p q
settled_runs k p q s m arguments input answers = settled_run k p q s m arguments input answers

pub settled_law : SettledLaws
settled_law = record { settled = settled_runs }
