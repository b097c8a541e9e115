-- The start of a run: nothing was written, and no input was read.
use Rattle.std.proofs.Common.{ℕ, suc, ◌+◌, ◌-◌, nat_lt, ◌≡◌, ◌<◌, ℤ, Bool, true, false, cond, List, [], ◌∷◌, map, drop, length, get_or, Option, Some, Result, Ok, Err, All, refl, sym, ap, ◌∙◌, subst, append-nil, drop-cons, arith}
use Rattle.c_types.specs.declared.trap.Trap.{Trap}
use Rattle.c_tree.specs.Trees.{Forest}
use Rattle.c_tree.specs.declared.tree.Function.{Function}
use Rattle.c_tree.specs.declared.tree.Program.{Program}
use Rattle.rg_ports.specs.Written.{Written, Told, Counted, Untold, IsCount, more}
use Rattle.jump_meaning.specs.Values.{Value, Integer}
use Rattle.jump_meaning.specs.Code.{Code, FunctionTree, code_of, function_tree, items_of, cells_of, global_cells}
use Rattle.jump_meaning.specs.World.{World, push, enter_call, most_calls, most_cells, world_at_start}
use Rattle.jump_meaning.specs.Behaviour as B
use Rattle.jump_meaning.specs.Step.{State, HasTrapped, begin_call}
use Rattle.jump_meaning.specs.Runs.{shows, start, IsOver}
use Rattle.step_tasks.specs.declared.call.Call.{Call}
use Rattle.step_tasks.specs.declared.labels.Labels.{Labels}
use Rattle.step_tasks.specs.Labels.{AreLabelsOf}
use Rattle.step_interp.specs.declared.functions.Functions.{Functions}
use Rattle.step_interp.specs.Functions.{AreFunctionsOf}
use Rattle.step_interp.specs.declared.machine.Machine.{Machine}
use Rattle.step_interp.specs.Machines.{IsFunctionOf, IsCallOf, frames_of}
use Rattle.step_interp.specs.Moves.{StandsFor}
use Rattle.step_memory.specs.Stores.{names_of}
use Rattle.step_interp.proofs.EnterLemmas.{state_at}
use Rattle.step_interp.specs.Answers.{Beginning, left_in, output_of, events_in, IsOverAt, IsStoppedAt}
use Rattle.step_interp.specs.Started.{BeginsIn}

pub told_nil : (t : Written) → IsCount t → t ≡ more t []
told_nil (Told bytes) h = ap Told (sym (append-nil bytes))
told_nil (Counted n) h = ap Counted (omega (arith, h))
told_nil Untold h = refl

both : (P : Result World Trap → Type 0) (b : Bool) (x y : Result World Trap) → P x → P y → P (cond b x y)
both P true x y h k = h
both P false x y h k = k

-- in what a call begins with no bytes are shown, and this input is left
pub record IsQuiet (c : State) (given : List ℕ) : Type 0 where
  pub output : output_of c ≡ []
  pub input : left_in c given ≡ given

begun_quiet : (m : List ℕ) (a : Forest) (f : FunctionTree) (vs : List Value) (p : Code) (given : List ℕ)
    → IsQuiet (begin_call m a (push f vs (world_at_start p given [])) [] (world_at_start p given [])) given
begun_quiet m a f vs p given =
    both (λ r. IsQuiet (begin_call m a r [] (world_at_start p given [])) given) (nat_lt most_calls 1) (Err Trap.Calls)
    (cond (nat_lt most_cells (p.cells + cells_of f.slots)) (Err Trap.Cells) (Ok (enter_call f vs (world_at_start p given []))))
    (record { output = refl; input = refl })
    (both (λ r. IsQuiet (begin_call m a r [] (world_at_start p given [])) given) (nat_lt most_cells (p.cells + cells_of f.slots)) (Err Trap.Cells)
    (Ok (enter_call f vs (world_at_start p given [])))
    (record { output = refl; input = refl }) (record { output = refl; input = refl }))

pub start_quiet : (p : Code) (m : List ℕ) (xs : List ℤ) (given : List ℕ) → IsQuiet (start p m xs given []) given
start_quiet p m xs given = begun_quiet m (items_of (p.functions m)) (p.functions m) (map Integer xs) p given

pub stopped_at_start : (r : Beginning) (budget : ℕ) (l : Option (List ℕ)) → IsCount r.told → l ≡ Some r.input → IsQuiet r.first r.input →
    IsStoppedAt r budget 0 r.told l
stopped_at_start r budget l c e q = record {
  within = omega arith;
  stands = record { output = told_nil r.told c ∙ ap (more r.told) (sym q.output); input = e ∙ ap Some (sym q.input) };
}

pub trapped_at_start : (r : Beginning) (budget : ℕ) (t : Trap) (l : Option (List ℕ)) → IsCount r.told → l ≡ Some r.input → r.first ≡ HasTrapped t [] →
    IsOverAt r (B.Trapped t) budget 0 r.told l
trapped_at_start r budget t l c e s = record {
  within = omega arith;
  steps = record { over = subst (λ d. IsOver (shows d)) (sym s) tt; before = λ m h. absurd (omega (arith, h)) };
  ends = subst (λ d. shows d ≡ B.Trapped t (events_in d)) (sym s) refl;
  stands = record { output = told_nil r.told c ∙ ap (more r.told) (sym (ap output_of s)); input = e ∙ ap Some (sym (ap (λ d. left_in d r.input) s)) };
}

-- ---- the first call

-- the arguments, from the last one on
pub one_argument : (xs : List ℤ) (n i : ℕ) (d : ℤ) (v : List Value) → n ≡ length xs → i < n → v ≡ map Integer (drop (n - i) xs)
    → Integer (get_or xs (n - 1 - i) d) ∷ v ≡ map Integer (drop (n - (i + 1)) xs)
one_argument xs n i d v e l h =
    ap (λ u. Integer (get_or xs (n - 1 - i) d) ∷ u) (h ∙ ap (λ k. map Integer (drop k xs)) (behind n i l))
    ∙ sym (ap (map Integer) (ap (λ k. drop k xs) (before n i l) ∙ drop-cons xs (n - 1 - i) d (omega (arith, e, l)))) where
      behind : (n i : ℕ) → i < n → n - i ≡ suc (n - 1 - i)
      behind n i l = omega (arith, l)

      before : (n i : ℕ) → i < n → n - (i + 1) ≡ n - 1 - i
      before n i l = omega (arith, l)

pub all_arguments : (xs : List ℤ) (n : ℕ) → map Integer (drop (n - n) xs) ≡ map Integer xs
all_arguments xs n = ap (λ k. map Integer (drop k xs)) (nothing n) where
  nothing : (n : ℕ) → n - n ≡ 0
  nothing n = omega arith

pub no_argument : (xs : List ℤ) (n : ℕ) → n ≡ length xs → map Integer (drop (n - 0) xs) ≡ []
no_argument xs n e = ap (λ k. map Integer (drop k xs)) (whole n (length xs) e) ∙ all_dropped xs where
  whole : (n m : ℕ) → n ≡ m → n - 0 ≡ m
  whole n m e = omega (arith, e)

  all_dropped : (xs : List ℤ) → map Integer (drop (length xs) xs) ≡ []
  all_dropped [] = refl
  all_dropped (x ∷ xs) = all_dropped xs

-- the state from which a run begins, by what its entry is
start_as : (p : Program) (m : List ℕ) (f : FunctionTree) (xs : List ℤ) (given : List ℕ) → (code_of p).functions m ≡ f
    → start (code_of p) m xs given [] ≡ begin_call m (items_of f) (push f (map Integer xs) (world_at_start (code_of p) given [])) []
    (world_at_start (code_of p) given [])
start_as p m f xs given e = ap (λ h. begin_call m (items_of h) (push h (map Integer xs) (world_at_start (code_of p) given [])) []
    (world_at_start (code_of p) given [])) e

pub begins : (p : Program) (t : Functions) (m : List ℕ) (f : Function) (ls : Labels) (xs : List ℤ) (cells : ℕ) (machine : Machine) (given : List ℕ) →
    (code_of p).functions m ≡ function_tree f → f.name ≡ m
    → cells ≡ global_cells p.tops + cells_of f.slots → nat_lt most_cells cells ≡ false → AreFunctionsOf p t → AreLabelsOf f ls →
    BeginsIn p t f ls xs cells machine → StandsFor (start (code_of p) m xs given []) machine given []
begins p t m f ls xs cells machine given e k c h fs a b =
    let w = enter_call (function_tree f) (map Integer xs) (world_at_start (code_of p) given []) in record {
      world = w;
      same = start_as p m (function_tree f) xs given e
          ∙ ap (λ b. begin_call m (items_of (function_tree f)) (cond b (Err Trap.Cells) (Ok w)) [] (world_at_start (code_of p) given []))
          (ap (nat_lt most_cells) (sym c) ∙ h)
          ∙ state_at machine w m (items_of (function_tree f)) [] (ap (λ g. g.name) b.function ∙ k) b.guards b.tasks b.values
          (ap (frames_of (names_of machine.store)) b.waiting);
      has = record {
        holds = b.holds given;
        cells = sym (b.cells ∙ c);
        answers = refl;
        linked = subst (λ q. AreFunctionsOf q machine.functions.now) (sym b.program) (subst (AreFunctionsOf p) (sym b.functions) fs);
        called = (
          subst (λ q. IsFunctionOf q machine.call.function.now) (sym b.program) (subst (IsFunctionOf p) (sym b.function) (ap (code_of p).functions k ∙ e)),
          subst (λ g. AreLabelsOf g machine.call.labels.now) (sym b.function) (subst (AreLabelsOf f) (sym b.labels) a),
        );
        waiting = subst (λ cs. All (λ (x : Call). IsCallOf machine.program.now x) cs) (sym b.waiting) (λ i d l. absurd (omega (arith, l)));
      };
      input = refl;
      events = refl;
    }
