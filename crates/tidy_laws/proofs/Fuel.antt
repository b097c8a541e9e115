-- Programs with like bodies run alike with every amount of fuel, where exchanged items do.
use Rattle.std.proofs.Common.{ℕ, zero, suc, ℤ, Bool, true, false, not, ◌&&◌, List, map, Option, Some, None, Result, Ok, Err, ◌≡◌, ap, sym, ◌∙◌, subst}
use Rattle.c_types.specs.declared.trap.Trap.{Trap}
use Rattle.c_tree.specs.Trees.{Tree, Forest, Nil}
use Rattle.jump_meaning.specs.Values.{Value, Integer, Variable, integer}
use Rattle.jump_meaning.specs.World.{World, Outcome, Gives, Traps, Exits, push, pop, world_at_start}
use Rattle.jump_meaning.specs.Code.{FunctionTree, Code, items_of}
use Rattle.jump_meaning.specs.Known.{call_without_body}
use Rattle.jump_meaning.specs.Calls.{lacks, leave_call, leave_entry}
use Rattle.jump_meaning.specs.Behaviour.{Covers, AreSameRuns}
use Rattle.jump_meaning.proofs.Growth.{Grows, grows_refl, OutcomeGrows, either, without_body_grows, push_grows}
use Rattle.struct_meaning.specs.Structural.{Evaluation, Yields, Faults, Quits, Spent, Completion, Meaning, LessFuel, execs, value_left, call_body, called, call, with_fuel}
use Rattle.struct_meaning.specs.Runs.{entry_call, stands, structural_run}
use Rattle.tidy_laws.specs.Likeness.{LikeBody, LikeCode}
use Rattle.tidy_laws.proofs.Nearness.{Below, Near, bind, near_refl, near_given, near_from, events_in}
use Rattle.tidy_laws.proofs.TidyExitExpressions.{Nearly}
use Rattle.tidy_laws.proofs.TidyExitStatements.{LessNear, ExchangedNear, exec_near, execs_near, likes_itself}

abbrev ResultGrows : World → Result World Trap → Type 0
ResultGrows w (Ok u) = Grows w.events u.events
ResultGrows w (Err t) = Unit {0}

leave_grows : (d : Bool) (f : FunctionTree) (v : Value) (w : World) → OutcomeGrows w.events (leave_call d f v w)
leave_grows d f v w = either (OutcomeGrows w.events) (lacks f v && not d) (Traps Trap.NoValue w) (Gives v (pop f w)) (grows_refl w.events) (grows_refl w.events)

entry_grows : (f : FunctionTree) (v : Value) (w : World) → OutcomeGrows w.events (leave_entry f v w)
entry_grows f v w = either (OutcomeGrows w.events) (lacks f v) (Traps Trap.NoValue w) (Exits (integer v) w) (grows_refl w.events) (grows_refl w.events)

-- a body in the World of its call, then what its end leaves
body_near : (s : Bool) (m n : Meaning) (leave : Completion → World → Outcome) → ((w : World) → Near s w (m w) (n w)) →
    ((c : Completion) (w : World) → OutcomeGrows w.events (leave c w))
    → (w : World) (r : Result World Trap) → ResultGrows w r → Near s w (call_body m leave w r) (call_body n leave w r)
body_near s m n leave h k w (Ok u) g = near_from s w u _ _ g (bind s u _ _ _ _ (h u) (λ c v. near_given s v (leave c v) (k c v)))
body_near s m n leave h k w (Err t) g = near_refl s w _ (grows_refl w.events)

module _ (R : Tree → Tree → Type 0) (s : Bool) (L M : LessFuel) (less : LessNear R s L M) (swapped : ExchangedNear R s L M) where
  called_near : (d : Bool) (m : List ℕ) (f : FunctionTree) (o b : Option Forest) → LikeBody R o b → (vs : List Value) (w : World)
      → Near s w (called L d m f o vs w) (called M d m (record f { body = b }) b vs w)
  called_near d m f None None h vs w = near_given s w (call_without_body m f vs w) (without_body_grows m f vs w)
  called_near d m f (Some a) (Some b) h vs w =
      body_near s (execs L a) (execs M b) (λ c w. leave_call d f (value_left m f c) w) (execs_near R s L M less swapped h)
      (λ c w. leave_grows d f (value_left m f c) w) w (push f vs w) (push_grows f vs w)
  called_near d m f None (Some b) h vs w = absurd h
  called_near d m f (Some a) None h vs w = absurd h

  pub call_near : (p q : Code) → LikeCode R p q → (d : Bool) (m : List ℕ) (vs : List Value) (w : World) → Near s w (call p L d m vs w) (call q M d m vs w)
  call_near p q like d m vs w =
      let f = like.functions m in
      subst (λ g. Near s w (called L d m (p.functions m) (p.functions m).body vs w) (called M d m g g.body vs w)) (sym f.same)
      (called_near d m (p.functions m) (p.functions m).body f.body f.like vs w)

  items_near : (f : FunctionTree) (o b : Option Forest) → LikeBody R o b →
      Nearly s L M (execs L (items_of (record f { body = o }))) (execs M (items_of (record f { body = b })))
  items_near f None None h w = execs_near R s L M less swapped (likes_itself R Nil) w
  items_near f (Some a) (Some b) h w = execs_near R s L M less swapped h w
  items_near f None (Some b) h w = absurd h
  items_near f (Some a) None h w = absurd h

  -- the call of the entry
  abbrev entry_of : LessFuel → List ℕ → FunctionTree → List ℤ → World → Evaluation Value
  entry_of K m f arguments w = call_body (execs K (items_of f)) (λ c w. leave_entry f (value_left m f c) w) w (push f (map Integer arguments) w)

  pub entry_near : (p q : Code) → LikeCode R p q → (m : List ℕ) (arguments : List ℤ) (w : World) →
      Near s w (entry_call p L m arguments w) (entry_call q M m arguments w)
  entry_near p q like m arguments w =
      let h = like.functions m in
      let f = p.functions m in
      subst (λ g. Near s w (entry_of L m f arguments w) (entry_of M m g arguments w)) (sym h.same)
      (body_near s (execs L (items_of f)) (execs M (items_of (record f { body = h.body }))) (λ c w. leave_entry f (value_left m f c) w)
      (items_near f f.body h.body h.like)
      (λ c w. entry_grows f (value_left m f c) w) w (push f (map Integer arguments) w) (push_grows f (map Integer arguments) w))

-- ---- every amount of fuel

-- the amounts of fuel that are compared: the same, or one more of the old one
abbrev pub fuel_of : Bool → ℕ → ℕ
fuel_of true n = n
fuel_of false n = suc n

module _ (R : Tree → Tree → Type 0) (p q : Code) (like : LikeCode R p q)
    (swapped : (s : Bool) (n : ℕ) → LessNear R s (with_fuel p (fuel_of s n)) (with_fuel q n) →
    ExchangedNear R s (with_fuel p (fuel_of s n)) (with_fuel q n)) where
  both : (n : ℕ) → LessNear R true (with_fuel p n) (with_fuel q n)
  both zero = record {
    again = λ x y h w. near_refl true w _ (grows_refl w.events);
    again_for = λ t u a b h w. near_refl true w _ (grows_refl w.events);
    calls = λ d m vs w. near_refl true w _ (grows_refl w.events);
  }
  both (suc n) =
      let L = with_fuel p n in
      let M = with_fuel q n in
      record {
        again = λ x y h w. exec_near R true L M (both n) (swapped true n (both n)) h w;
        again_for = λ t u a b h w. exec_near R true L M (both n) (swapped true n (both n)) h w;
        calls = λ d m vs w. call_near R true L M (both n) (swapped true n (both n)) p q like d m vs w;
      }

  -- the new one is spent at once
  spent_near : {A : Type 0} (w : World) (x : Evaluation A) → Grows w.events (events_in x) → Near false w x (Spent w)
  spent_near w x h = record { old = h; new = grows_refl w.events; met = h }

  -- the old one has one more of fuel
  more : (n : ℕ) → LessNear R false (with_fuel p (suc n)) (with_fuel q n)
  more zero =
      let L = with_fuel p 0 in
      let M = with_fuel q 0 in
      record {
        again = λ x y h w. spent_near w _ (exec_near R true L M (both 0) (swapped true 0 (both 0)) h w).old;
        again_for = λ t u a b h w. spent_near w _ (exec_near R true L M (both 0) (swapped true 0 (both 0)) h w).old;
        calls = λ d m vs w. spent_near w _ (call_near R true L M (both 0) (swapped true 0 (both 0)) p q like d m vs w).old;
      }
  more (suc n) =
      let L = with_fuel p (suc n) in
      let M = with_fuel q n in
      record {
        again = λ x y h w. exec_near R false L M (more n) (swapped false n (more n)) h w;
        again_for = λ t u a b h w. exec_near R false L M (more n) (swapped false n (more n)) h w;
        calls = λ d m vs w. call_near R false L M (more n) (swapped false n (more n)) p q like d m vs w;
      }

  -- ---- runs

  covers : (x y : Evaluation Value) → Below x y → Covers (stands x) (stands y)
  covers (Yields v w) y h = ap stands h
  covers (Faults t w) y h = ap stands h
  covers (Quits n w) y h = ap stands h
  covers (Spent w) (Yields v u) h = h
  covers (Spent w) (Faults t u) h = h
  covers (Spent w) (Quits n u) h = h
  covers (Spent w) (Spent u) h = h

  module _ (m : List ℕ) (arguments : List ℤ) (input : List ℕ) (answers : List ℤ) where
    -- the World at the start, by what the variables of file scope hold and how many cells they have
    abbrev begun : (List ℕ → Variable) → ℕ → World
    begun gs n = world_at_start (record p { globals = gs; cells = n }) input answers

    same_start : begun q.globals q.cells ≡ begun p.globals p.cells
    same_start = ap (λ gs. begun gs q.cells) like.globals ∙ ap (λ n. begun p.globals n) like.cells

    abbrev old_run : ℕ → Evaluation Value
    old_run n = entry_call p (with_fuel p n) m arguments (begun p.globals p.cells)

    abbrev new_run : ℕ → Evaluation Value
    new_run n = entry_call q (with_fuel q n) m arguments (begun p.globals p.cells)

    new_same : (n : ℕ) → structural_run q m arguments input answers n ≡ stands (new_run n)
    new_same n = ap (λ w. stands (entry_call q (with_fuel q n) m arguments w)) same_start

    pub run_the_same : AreSameRuns (structural_run p m arguments input answers) (structural_run q m arguments input answers)
    run_the_same = record {
      forth = λ n. (
        n,
        subst (λ x. Covers (stands (old_run n)) x) (sym (new_same n))
            (covers (old_run n) (new_run n) (entry_near R true (with_fuel p n) (with_fuel q n) (both n) (swapped true n (both n)) p q like m arguments
            (begun p.globals p.cells)).met),
      );
      back = λ n. (
        suc n,
        subst (λ x. Covers x (stands (old_run (suc n)))) (sym (new_same n))
            (covers (new_run n) (old_run (suc n)) (entry_near R false (with_fuel p (suc n)) (with_fuel q n) (more n) (swapped false n (more n)) p q
            like m arguments (begun p.globals p.cells)).met),
      );
    }
