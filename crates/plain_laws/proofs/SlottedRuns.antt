-- A program and the one with variables for guards behave the same.
use Rattle.std.proofs.Common.{ℕ, ◌+◌, ℤ, true, List, [], ◌++◌, take, map, All, Option, Some, None, option_map, IsSome, IsNone, ◌↔◌, ◌≡◌, refl, sym, subst, arith}
use Rattle.std.specs.Option.{option_map_or}
use Rattle.std.proofs.lemmas.List.{take-append-le}
use Rattle.c_tree.specs.declared.tree.Slot.{Slot}
use Rattle.c_tree.specs.Trees.{Forest, Nil, join}
use Rattle.c_tree.specs.Everywhere.{Everywhere}
use Rattle.jump_meaning.specs.Values.{Variable, Holds, Lent, Integer}
use Rattle.jump_meaning.specs.Code.{Code}
use Rattle.jump_meaning.specs.World.{kind_held, push, variables_at_start, world_at_start}
use Rattle.jump_meaning.specs.Behaviour.{Shown, Covers, AreSameRuns}
use Rattle.jump_meaning.specs.Step.{State, begin_call, step}
use Rattle.jump_meaning.specs.Runs.{run, shows, IsEntry, start, jump_run, SameBehaviour}
use Rattle.jump_meaning.proofs.RunFacts.{run_add, run_grows}
use Rattle.jump_meaning.proofs.Growth.{step_covers}
use Rattle.jump_meaning.proofs.Covering.{covers_trans}
use Rattle.jump_meaning.proofs.Scheme.{same}
use Rattle.plain_laws.specs.GuardSlots.{plain_list}
use Rattle.plain_laws.specs.Slotted.{Guarding, slotted, slotted_code, HoldsInKind, IsSlottedCode}
use Rattle.plain_laws.proofs.Memories.{Shapes, Good, Memories}
use Rattle.plain_laws.proofs.Relation.{Fit, Related, f_none}
use Rattle.plain_laws.proofs.Arguments.{numbers_fit}
use Rattle.plain_laws.proofs.Beginning.{Later, begun}
use Rattle.plain_laws.proofs.Simulation.{joint, alike}

-- some steps at the beginning of the second run are of no account
after_steps : (q : Code) (R : ℕ → Shown) (k : ℕ) (d : State) → AreSameRuns R (λ n. shows (run q n (run q k d))) → AreSameRuns R (λ n. shows (run q n d))
after_steps q R k d h = record {
  forth = λ n. (k + (h.forth n).0, subst (λ z. Covers (R n) (shows z)) (sym (run_add q k (h.forth n).0 d)) (h.forth n).1);
  back = λ n. (
    (h.back n).0,
    covers_trans (shows (run q n d)) (shows (run q n (run q k d))) (R (h.back n).0)
        (subst (λ z. Covers (shows (run q n d)) (shows z)) (run_add q k n d) (run_grows q n (k + n) d (omega arith))) (h.back n).1,
  );
}

no_shapes : Shapes
no_shapes d = record { slots = []; own = λ x. true }

module _ (p : Code) (gs : List ℕ → Guarding) (is : IsSlottedCode p gs) where
  abbrev q : Code
  q = slotted_code gs p

  good_global : (v : Variable) → HoldsInKind v → Good p no_shapes 0 (kind_held v) true v
  good_global (Holds k n cells) h = (refl, h, refl)
  good_global (Lent o) h = absurd h

  at_start : Memories p no_shapes 0 (variables_at_start p) (variables_at_start p)
  unfolding no_shapes
  at_start = record {
    file_same = λ m. refl;
    file_good = λ m. good_global (p.globals m) (is.globals m);
    call_same = λ d x h i. refl;
    call_good = λ d x h i. absurd (omega (arith, i));
  }

  -- ---- entries

  some_slotted : (b : Option Forest) (m : List ℕ) → IsSome b ↔ IsSome (option_map (λ a. join (gs m).declarations (plain_list (gs m).slot a)) b)
  some_slotted (Some a) m = ((λ h. refl), (λ h. refl))
  some_slotted None m = ((λ h. h), (λ h. h))

  same_parameters : (m : List ℕ) → take (p.functions m).params ((p.functions m).slots ++ (gs m).more) ≡ take (p.functions m).params (p.functions m).slots
  same_parameters m = let h = (is.functions m).parameters in take-append-le _ _ _ h

  entries : (m : List ℕ) (arguments : List ℤ) → IsEntry p m arguments ↔ IsEntry q m arguments
  entries m arguments = (
    (λ e. record {
      defined = (some_slotted (p.functions m).body m).0 e.defined;
      numbers = subst (λ (s : List Slot). All (λ s. IsNone s.cells) s) (sym (same_parameters m)) e.numbers;
      given = e.given;
    }),
    (λ e. record {
      defined = (some_slotted (p.functions m).body m).1 e.defined;
      numbers = subst (λ (s : List Slot). All (λ s. IsNone s.cells) s) (same_parameters m) e.numbers;
      given = e.given;
    }),
  )

  -- ---- runs

  started : (m : List ℕ) (arguments : List ℤ) (input : List ℕ) (answers : List ℤ) (b : Option Forest) → (p.functions m).body ≡ b → IsSome b
      → Later p gs is.functions (begin_call m (option_map_or (λ a. a) b Nil)
      (push (p.functions m) (map Integer arguments) (world_at_start p input answers)) [] (world_at_start p input answers))
      (begin_call m (option_map_or (λ a. a) (option_map (λ a. join (gs m).declarations (plain_list (gs m).slot a)) b) Nil)
      (push (slotted (gs m) (p.functions m)) (map Integer arguments) (world_at_start q input answers)) [] (world_at_start q input answers))
  started m arguments input answers (Some a) e h =
      begun p gs is.functions no_shapes 0 p.cells (variables_at_start p) (variables_at_start p) input answers [] at_start m (f_none m)
      (map Integer arguments) (numbers_fit p no_shapes 0 (p.functions m) arguments) a
      (subst (λ b. Everywhere (Fit p gs is.functions m) (option_map_or (λ z. z) b Nil)) e (is.functions m).fits)
  started m arguments input answers None e h = cc

  same_runs : (m : List ℕ) (arguments : List ℤ) → IsEntry p m arguments → (input : List ℕ) (answers : List ℤ) →
      AreSameRuns (jump_run p m arguments input answers) (jump_run q m arguments input answers)
  same_runs m arguments e input answers =
      let l = started m arguments input answers (p.functions m).body refl e.defined in
      after_steps q (jump_run p m arguments input answers) l.steps (start q m arguments input answers)
      (same (step p) (step q) shows shows (Related p gs is.functions) (λ x. Unit {0}) (λ x. Unit {0}) (λ x. 0)
      (λ c d h ok. joint p gs is.functions c d h) (alike p gs is.functions) (step_covers p) (step_covers q)
      (start p m arguments input answers) (run q l.steps (start q m arguments input answers)) l.related (λ n. tt))

  pub slotted_same : SameBehaviour p (slotted_code gs p)
  slotted_same = record { entries = entries; runs = same_runs }
