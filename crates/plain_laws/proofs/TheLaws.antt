-- The laws of the plain form.
use Rattle.std.proofs.Common.{◌≡◌, ℕ, true, List, [], ◌∷◌}
use Rattle.std.specs.List.{AllByRecursion}
use Rattle.std.proofs.lemmas.List.Elements.{All-from_recursion, recursion_from_All}
use Rattle.c_tree.specs.declared.tree.Function.{Function}
use Rattle.c_tree.specs.declared.tree.Top.{Top}
use Rattle.c_tree.specs.declared.tree.Top.TheVariants as T
use Rattle.c_tree.specs.declared.tree.Program.{Program}
use Rattle.c_tree.specs.InRange.{IsTopInRange}
use Rattle.c_tree.specs.Jumps.{is_jump_free_program}
use Rattle.jump_meaning.specs.Code.{Code, code_of}
use Rattle.jump_meaning.specs.Runs.{jump_run}
use Rattle.jump_meaning.specs.Steady.{IsSteady}
use Rattle.jump_meaning.proofs.Covering.{same_runs_trans}
use Rattle.struct_meaning.specs.Runs.{structural_run}
use Rattle.struct_meaning.proofs.Programs.{meanings_agree_law}
use Rattle.plain_laws.specs.Plain.{plain_with}
use Rattle.plain_laws.specs.Laws.{IsTopReady, IsProgramReady, IsTopFinished, IsFinished, BehavesAsStructured, PlainLaws}
use Rattle.plain_laws.proofs.SlottedRuns.{slotted_same}
use Rattle.plain_laws.proofs.TidyRuns.{tidy_same}
use Rattle.plain_laws.proofs.PlainLookup.{plain_same}
use Rattle.plain_laws.proofs.RangeKept.{plain_ranged}
use Rattle.plain_laws.proofs.LeftLabels.{few_names}
use Rattle.plain_laws.proofs.PlainShown.{program_shown}
use Rattle.plain_laws.proofs.KindsKept.{item_kept}
use Rattle.plain_laws.proofs.KindsMoved.{kinds_moved}
use Rattle.plain_laws.proofs.SignaturesSame.{signatures_same}

meanings : (names : Function → List (List ℕ)) (p : Program) → IsProgramReady names p → is_jump_free_program p ≡ true →
    BehavesAsStructured p (plain_with names p)
meanings names p ready free =
    let q = plain_with names p in
    let same = plain_same names p ready in
    let agree = meanings_agree_law.of_plain_programs q (program_shown names p free) in
    record {
      entries = same.codes.entries;
      runs = λ m arguments e input answers.
          same_runs_trans (jump_run (code_of p) m arguments input answers) (jump_run (code_of q) m arguments input answers)
          (structural_run (code_of q) m arguments input answers)
          (same.codes.runs m arguments e input answers) (agree.runs m arguments input answers);
    }

ready_tops : (p : Code) (names : Function → List (List ℕ)) (ts : List Top) → AllByRecursion IsTopInRange ts →
    AllByRecursion (IsTopFinished p names) ts → AllByRecursion (IsTopReady p names) ts
ready_tops p names [] h g = tt
ready_tops p names (T.Function f ∷ ts) h g = (record { ranged = h.0; finished = g.0 }, ready_tops p names ts h.1 g.1)
ready_tops p names (T.Include b ∷ ts) h g = (tt, ready_tops p names ts h.1 g.1)
ready_tops p names (T.Enum es ∷ ts) h g = (tt, ready_tops p names ts h.1 g.1)
ready_tops p names (T.Global v ∷ ts) h g = (tt, ready_tops p names ts h.1 g.1)
ready_tops p names (T.Note b ∷ ts) h g = (tt, ready_tops p names ts h.1 g.1)

of_steady : (names : Function → List (List ℕ)) (p : Program) → IsSteady p → IsFinished names p → IsProgramReady names p
of_steady names p s h =
    All-from_recursion (IsTopReady (code_of p) names) p.tops
    (ready_tops (code_of p) names p.tops (recursion_from_All IsTopInRange p.tops s.ranged) (recursion_from_All (IsTopFinished (code_of p) names) p.tops h))

pub plain_laws : PlainLaws
plain_laws = record {
  of_guards = slotted_same;
  of_sections = tidy_same;
  of_programs = plain_same;
  ranged = plain_ranged;
  few = few_names;
  plain = program_shown;
  meanings = meanings;
  of_steady = of_steady;
  of_kinds = item_kept;
  of_moves = kinds_moved;
  of_signatures = signatures_same;
}
