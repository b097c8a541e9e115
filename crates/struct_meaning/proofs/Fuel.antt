-- Calls, and what every amount of fuel comes to.
use Rattle.std.proofs.Common.{ℕ, zero, suc, ◌+◌, Bool, List, [], ◌∷◌, length, Option, Some, None, Result, Ok, Err, ◌≡◌, refl, sym, ◌∙◌, subst, arith, append-nil}
use Rattle.std.specs.Option.{option_map_or}
use Rattle.c_types.specs.declared.trap.Trap.{Trap}
use Rattle.c_tree.specs.Trees.{Forest, Nil}
use Rattle.c_tree.specs.Everywhere.{Everywhere}
use Rattle.jump_meaning.specs.Values.{Value}
use Rattle.jump_meaning.specs.World.{World, push}
use Rattle.jump_meaning.specs.Code.{Code}
use Rattle.jump_meaning.specs.Known.{call_without_body}
use Rattle.jump_meaning.specs.Calls.{leave_call, without_last}
use Rattle.jump_meaning.specs.Effects.{Calls}
use Rattle.jump_meaning.specs.Tasks.{Task, Works}
use Rattle.jump_meaning.specs.Step.{no_guards, Frame, Waits, At, is_dropped, settle, leave, begin_call, invoke}
use Rattle.struct_meaning.specs.Structured.{IsStructured}
use Rattle.struct_meaning.specs.Structural.{Completion, Normal, Broken, Continued, Returned, LessFuel, given, execs, value_left, call_body, called, call, with_fuel}
use Rattle.struct_meaning.specs.Runs.{IsCodeStructured}
use Rattle.struct_meaning.proofs.Ran.{Ran, Target, target, valued, landed, sooner, next, there, bind, settled}
use Rattle.struct_meaning.proofs.Expressions.{pushed, last_pushed, below_pushed}
use Rattle.struct_meaning.proofs.Statements.{Sound, for_ran, exec_ran, execs_ran}

module _ (P : Code) where
  -- the end of a call leaves its value with the caller, which may drop it
  left_ran : {b : ℕ} (x : Value) (d : Bool) (m f : List ℕ) (k : List Task) (v : List Value) (cs : List Frame) (w : World) → is_dropped k ≡ d
      → Ran P b (target (valued f k v cs) (given (leave_call d (P.functions m) x w)))
      (settle (leave_call (is_dropped k) (P.functions m) x w) f no_guards k v cs)
  left_ran {b} x d m f k v cs w e =
      subst (λ y. Ran P b (target (valued f k v cs) (given (leave_call y (P.functions m) x w)))
      (settle (leave_call (is_dropped k) (P.functions m) x w) f no_guards k v cs)) e
      (settled P (leave_call (is_dropped k) (P.functions m) x w) f k v cs)

  -- however a body completes, its call is over after one more step at the most
  pub over_ran : {b : ℕ} {t : Target} (c : Completion) (m : List ℕ) (cs : List Frame) (w : World)
      → Ran P b t (leave (P.functions m) (value_left m (P.functions m) c) cs w) → Ran P b t (landed P m [] [] cs c w)
  over_ran Normal m cs w r = sooner P 1 _ refl r
  over_ran Broken m cs w r = sooner P 1 _ refl r
  over_ran Continued m cs w r = sooner P 1 _ refl r
  over_ran (Returned None) m cs w r = r
  over_ran (Returned (Some x)) m cs w r = r

  module _ (L : LessFuel) (b : ℕ) (sound : Sound P L b) where
    body_ran : (a : Forest) → Everywhere IsStructured a → (r : Result World Trap) (d : Bool) (m f : List ℕ) (k : List Task) (v : List Value)
        (cs : List Frame) (w : World) → is_dropped k ≡ d
        → Ran P (suc b) (target (valued f k v cs) (call_body (execs L a) (λ c w. leave_call d (P.functions m) (value_left m (P.functions m) c) w) w
        r)) (begin_call m a r (Waits f no_guards k v ∷ cs) w)
    body_ran a s (Ok u) d m f k v cs w e = bind P (valued f k v cs) _ _ (execs_ran P L b sound a s m [] [] (Waits f no_guards k v ∷ cs) u)
        (λ c w. over_ran c m (Waits f no_guards k v ∷ cs) w (left_ran (value_left m (P.functions m) c) d m f k v cs w e))
    body_ran a s (Err t) d m f k v cs w e = there P 0 _ refl

    called_ran : (o : Option Forest) → Everywhere IsStructured (option_map_or (λ a. a) o Nil) →
        (d : Bool) (m : List ℕ) (vs : List Value) (f : List ℕ) (k : List Task) (v : List Value) (cs : List Frame) (w : World) → is_dropped k ≡ d
        → Ran P (suc b) (target (valued f k v cs) (called L d m (P.functions m) o vs w)) (invoke o (P.functions m) m vs f no_guards k v cs w)
    called_ran None s d m vs f k v cs w e = settled P (call_without_body m (P.functions m) vs w) f k v cs
    called_ran (Some a) s d m vs f k v cs w e = body_ran a s (push (P.functions m) vs w) d m f k v cs w e

  -- the step of a call takes its arguments
  invoked_ran : (L : LessFuel) (b : ℕ) (d : Bool) (m : List ℕ) (n : ℕ) (vs : List Value) (f : List ℕ) (k : List Task) (v : List Value)
      (cs : List Frame) (w : World) → n ≡ length vs + 0
      → Ran P (suc b) (target (valued f k v cs) (call P L d m vs w)) (invoke (P.functions m).body (P.functions m) m vs f no_guards k v cs w)
      → Ran P (suc b) (target (valued f k v cs) (call P L d m vs w)) (At f no_guards (Works (Calls m n) ∷ k) (pushed vs v) cs w)
  invoked_ran L b d m n vs f k v cs w e r =
      next P _ (subst (λ us. Ran P (suc b) (target (valued f k v cs) (call P L d m vs w))
      (invoke (P.functions m).body (P.functions m) m us f no_guards k (without_last n (pushed vs v)) cs w))
      (sym (last_pushed vs v [] 0 n e ∙ append-nil vs))
      (subst (λ u. Ran P (suc b) (target (valued f k v cs) (call P L d m vs w))
      (invoke (P.functions m).body (P.functions m) m vs f no_guards k u cs w)) (sym (below_pushed vs v 0 n e)) r))

  module _ (structured : IsCodeStructured P) where
    pub sound : (n : ℕ) → Sound P (with_fuel P n) n
    sound zero = record {
      again = λ x s f k v cs w. record { steps = 0; fits = (omega arith, refl) };
      again_for = λ t u a s f k v cs w. record { steps = 0; fits = (omega arith, refl) };
      calls = λ d m n vs f k v cs w h e. record { steps = 0; fits = (omega arith, refl) };
    }
    sound (suc n) = record {
      again = λ x s f k v cs w. exec_ran P (with_fuel P n) n (sound n) x s f k v cs w;
      again_for = λ t u a s f k v cs w. for_ran P (with_fuel P n) n (sound n) t u a s (execs (with_fuel P n) a) f k v cs
          (execs_ran P (with_fuel P n) n (sound n) a s f (_ ∷ k) v cs) w;
      calls = λ d m i vs f k v cs w h e. invoked_ran (with_fuel P n) n d m i vs f k v cs w h
          (called_ran (with_fuel P n) n (sound n) (P.functions m).body (structured m) d m vs f k v cs w e);
    }
