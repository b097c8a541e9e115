-- On programs without jumps the run by steps and the structural run are the same.
use Rattle.std.proofs.Common.{ℕ, suc, ◌+◌, ◌≤◌, ℤ, Bool, true, false, cond, List, [], map, ◌⊎◌, inl, inr, Result, Ok, Err, ◌≡◌, refl, ap, sym, ◌∙◌, subst, arith}
use Rattle.c_types.specs.declared.trap.Trap.{Trap}
use Rattle.jump_meaning.specs.Values.{Value, Integer}
use Rattle.jump_meaning.specs.World.{World, Traps, Exits, push, world_at_start}
use Rattle.jump_meaning.specs.Code.{Code, items_of}
use Rattle.jump_meaning.specs.Calls.{lacks, leave_entry}
use Rattle.jump_meaning.specs.Step.{State, HasEnded, HasTrapped, begin_call}
use Rattle.jump_meaning.specs.Behaviour.{Shown, Covers, AreSameRuns}
use Rattle.jump_meaning.specs.Runs.{run, shows, start, jump_run, IsOver}
use Rattle.jump_meaning.proofs.Covering.{covers_refl}
use Rattle.jump_meaning.proofs.RunFacts.{run_add, run_stays, run_grows}
use Rattle.struct_meaning.specs.Structural.{Evaluation, Yields, Faults, Quits, Spent, given, execs, value_left, call_body, with_fuel}
use Rattle.struct_meaning.specs.Runs.{entry_call, stands, structural_run, IsCodeStructured}
use Rattle.struct_meaning.proofs.Ran.{Ran, target, valued, there, bind, settled}
use Rattle.struct_meaning.proofs.Expressions.{AllYield, yields_bind}
use Rattle.struct_meaning.proofs.Statements.{execs_ran}
use Rattle.struct_meaning.proofs.Fuel.{over_ran, sound}

-- the entry yields no value: it ends the run
leaves_none : (y : Bool) (t : Trap) (n : ℤ) (w : World) → AllYield (λ (x : Value). ⊥) (given (cond y (Traps t w) (Exits n w)))
leaves_none true t n w = tt
leaves_none false t n w = tt

module _ (P : Code) (structured : IsCodeStructured P) where
  entry_ran : (n : ℕ) (m : List ℕ) (r : Result World Trap) (w : World)
      → Ran P (suc n) (target (valued [] [] [] []) (call_body (execs (with_fuel P n) (items_of (P.functions m)))
      (λ c w. leave_entry (P.functions m) (value_left m (P.functions m) c) w) w r))
      (begin_call m (items_of (P.functions m)) r [] w)
  entry_ran n m (Ok u) w = bind P (valued [] [] [] []) _ _ (execs_ran P (with_fuel P n) n (sound P structured n) (items_of (P.functions m))
      (structured m) m [] [] [] u)
      (λ c w. over_ran P c m [] w (settled P (leave_entry (P.functions m) (value_left m (P.functions m) c) w) [] [] [] []))
  entry_ran n m (Err t) w = there P 0 _ refl

  entry_over : (n : ℕ) (m : List ℕ) (r : Result World Trap) (w : World)
      → AllYield (λ (x : Value). ⊥) (call_body (execs (with_fuel P n) (items_of (P.functions m)))
      (λ c w. leave_entry (P.functions m) (value_left m (P.functions m) c) w) w r)
  entry_over n m (Ok u) w = yields_bind (λ (x : Value). ⊥) (execs (with_fuel P n) (items_of (P.functions m)) u)
      _ (λ c w. leaves_none (lacks (P.functions m) (value_left m (P.functions m) c)) _ _ w)
  entry_over n m (Err t) w = tt

  -- the run by steps stands where the evaluation does, for good unless its fuel is gone
  pub record Stood (b : ℕ) (c : State) (x : Shown) : Type 0 where
    pub steps : ℕ
    pub same : shows (run P steps c) ≡ x
    pub enough : (b ≤ steps) ⊎ ((n : ℕ) → run P n (run P steps c) ≡ run P steps c)

  over : (d c : State) → c ≡ d → IsOver (shows d) → (n : ℕ) → run P n c ≡ c
  over d c e h n = run_stays P n c (subst (λ z. IsOver (shows z)) (sym e) h)

  stood : (b : ℕ) (c : State) (e : Evaluation Value) → AllYield (λ (x : Value). ⊥) e → Ran P b (target (valued [] [] [] []) e) c → Stood b c (stands e)
  stood b c (Yields v w) y r = absurd y
  stood b c (Faults t w) y r = record { steps = r.steps; same = ap shows r.fits; enough = inr (over (HasTrapped t w.events) (run P r.steps c) r.fits tt) }
  stood b c (Quits n w) y r = record { steps = r.steps; same = ap shows r.fits; enough = inr (over (HasEnded n w.events) (run P r.steps c) r.fits tt) }
  stood b c (Spent w) y r = record { steps = r.steps; same = r.fits.1; enough = inl r.fits.0 }

  module _ (m : List ℕ) (arguments : List ℤ) (input : List ℕ) (answers : List ℤ) where
    abbrev begins : State
    begins = start P m arguments input answers

    abbrev jumps : ℕ → Shown
    jumps n = jump_run P m arguments input answers n

    abbrev structures : ℕ → Shown
    structures n = structural_run P m arguments input answers n

    whole : (n : ℕ) → Stood (suc n) begins (structures n)
    whole n =
        let w = world_at_start P input answers in
        let r = push (P.functions m) (map Integer arguments) w in
        stood (suc n) begins (entry_call P (with_fuel P n) m arguments w) (entry_over n m r w) (entry_ran n m r w)

    reached : (n : ℕ) (q : Stood (suc n) begins (structures n)) → Covers (jumps n) (shows (run P q.steps begins))
    reached n q = elim q.enough as (λ _. Covers (jumps n) (shows (run P q.steps begins))) [
      | inl h ↦ run_grows P n q.steps begins (omega (arith, h))
      | inr h ↦ subst (λ d. Covers (jumps n) (shows d)) (run_add P q.steps n begins ∙ h n) (run_grows P n (q.steps + n) begins (omega arith))
    ]

    pub agrees : AreSameRuns jumps structures
    agrees = record {
      forth = λ n. let q = whole n in (n, subst (λ x. Covers (jumps n) x) q.same (reached n q));
      back = λ n. let q = whole n in (q.steps, subst (λ x. Covers (structures n) x) (sym q.same) (covers_refl (structures n)));
    }
