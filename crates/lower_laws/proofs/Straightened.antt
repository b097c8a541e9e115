-- A program and one whose functions are flat lists of gotos behave the same.
use Rattle.std.proofs.Common.{ℕ, ℤ, List, [], map, take, ◌≡◌, refl, sym, ◌∙◌, subst, All, IsSome, IsNone, ◌↔◌}
use Rattle.c_tree.specs.declared.tree.Program.{Program}
use Rattle.jump_meaning.specs.Values.{Integer}
use Rattle.jump_meaning.specs.Code.{FunctionTree, Code, items_of, code_of}
use Rattle.jump_meaning.specs.World.{push, world_at_start}
use Rattle.jump_meaning.specs.Step.{State, step, begin_call}
use Rattle.jump_meaning.specs.Runs.{shows, IsEntry, start, SameBehaviour, BehaveTheSame}
use Rattle.jump_meaning.proofs.Growth.{step_covers}
use Rattle.jump_meaning.proofs.Scheme.{same}
use Rattle.core_laws.proofs.Same.{same_world}
use Rattle.lower_laws.specs.Straight.{IsStraight}
use Rattle.lower_laws.specs.Rewritten.{Rewritten, rw_same, rw_by, RewrittenCode, RewrittenTops}
use Rattle.lower_laws.proofs.Kept.{code_kept}
use Rattle.lower_laws.proofs.Runs.{weight, same_params, same_slots, same_push, fr_none, Related, rl_at, rl_ended, rl_trapped, begins, joint}

module _ (p q : Code) (lo : RewrittenCode IsStraight p q) where
  alike : (c d : State) → Related p q lo c d → shows c ≡ shows d
  alike c d (rl_at f g v w h t) = refl
  alike c d (rl_ended n es) = refl
  alike c d (rl_trapped u es) = refl

  start_related : (m : List ℕ) (arguments : List ℤ) (input : List ℕ) (answers : List ℤ) →
      Related p q lo (start p m arguments input answers) (start q m arguments input answers)
  start_related m arguments input answers =
      let w = world_at_start p input answers in
      let vs = map Integer arguments in
      subst (λ u. Related p q lo (start p m arguments input answers) (begin_call m (items_of (q.functions m)) (push (q.functions m) vs u) [] u))
      (same_world p q lo.globals lo.cells input answers)
      (subst (λ r. Related p q lo (start p m arguments input answers) (begin_call m (items_of (q.functions m)) r [] w))
      (same_push (lo.functions m) vs w) (begins p q lo m (push (p.functions m) vs w) w fr_none))

  -- ---- entries

  some_body : {f h : FunctionTree} → Rewritten IsStraight f h → IsSome f.body → IsSome h.body
  some_body (rw_same e) i = subst (λ f. IsSome f.body) e i
  some_body (rw_by l) i = l.new_defined

  body_some : {f h : FunctionTree} → Rewritten IsStraight f h → IsSome h.body → IsSome f.body
  body_some (rw_same e) i = subst (λ f. IsSome f.body) (sym e) i
  body_some (rw_by l) i = l.defined

  entries : (m : List ℕ) (arguments : List ℤ) → IsEntry p m arguments ↔ IsEntry q m arguments
  entries m arguments =
      let l = lo.functions m in
      let f = p.functions m in
      let h = q.functions m in (
        (λ e. record {
          defined = some_body l e.defined;
          numbers = subst (λ n. All (λ s. IsNone s.cells) (take n h.slots)) (same_params l)
              (subst (λ ss. All (λ s. IsNone s.cells) (take f.params ss)) (same_slots l) e.numbers);
          given = e.given ∙ same_params l;
        }),
        (λ e. record {
          defined = body_some l e.defined;
          numbers = subst (λ n. All (λ s. IsNone s.cells) (take n f.slots)) (sym (same_params l))
              (subst (λ ss. All (λ s. IsNone s.cells) (take h.params ss)) (sym (same_slots l)) e.numbers);
          given = e.given ∙ sym (same_params l);
        }),
      )

pub of_codes : (p q : Code) → RewrittenCode IsStraight p q → SameBehaviour p q
of_codes p q lo = record {
  entries = entries p q lo;
  runs = λ m arguments e input answers.
      same (step p) (step q) shows shows (Related p q lo) (λ c. Unit {0}) (λ c. Unit {0}) weight (λ c d r ok. joint p q lo c d r) (alike p q lo)
      (step_covers p) (step_covers q) (start p m arguments input answers) (start q m arguments input answers)
      (start_related p q lo m arguments input answers) (λ n. tt);
}

pub of_programs : (p q : Program) → RewrittenTops IsStraight p.tops q.tops → BehaveTheSame p q
of_programs p q lo = record { codes = of_codes (code_of p) (code_of q) (code_kept IsStraight (λ f h l. l.defined) (λ f h l. l.new_defined) p q lo) }
