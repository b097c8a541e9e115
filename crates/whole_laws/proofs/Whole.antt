-- The laws of whole programs.
use Rattle.std.proofs.Common.{◌≡◌, ℕ, true, List, [], ◌∷◌, map, All, refl}
use Rattle.std.specs.List.{AllByRecursion}
use Rattle.std.proofs.lemmas.List.Elements.{All-from_recursion, recursion_from_All}
use Rattle.c_tree.specs.declared.tree.Function.{Function}
use Rattle.c_tree.specs.declared.tree.Top.{Top}
use Rattle.c_tree.specs.declared.tree.Top.TheVariants as T
use Rattle.c_tree.specs.declared.tree.Program.{Program}
use Rattle.c_tree.specs.Jumps.{all_true, is_jump_free_function, top_holds, is_jump_free_program}
use Rattle.jump_meaning.specs.Code.{Code, code_of}
use Rattle.jump_meaning.specs.Runs.{jump_run, BehaveTheSame}
use Rattle.jump_meaning.specs.Steady.{IsSteady}
use Rattle.jump_meaning.proofs.Covering.{same_runs_trans}
use Rattle.jump_meaning.proofs.RunFacts.{same_trans}
use Rattle.struct_meaning.specs.Runs.{structural_run}
use Rattle.plain_laws.specs.Plain.{plain_with}
use Rattle.plain_laws.specs.Laws.{BehavesAsStructured, IsTopFinished, IsFinished, IsProgramReady}
use Rattle.plain_laws.proofs.TheLaws.{plain_laws}
use Rattle.whole_laws.specs.WholeKindsLaws.{IsKindedTop, IsKindedProgram}
use Rattle.c_resolved_defs.specs.Limits.{FlatCounts}
use Rattle.c_resolved_defs.specs.Resolved.{IsResolvedWith}
use Rattle.report_moves.specs.declared.moves.Move.{Move}
use Rattle.move_order_laws.specs.Moved.{MovedTops, mt_none, mt_more}
use Rattle.whole_laws.specs.Rewritten.{FlatTops, ft_none, ft_more, IsRewritten}
use Rattle.whole_laws.proofs.Source.{IsSourceTop, IsSource, resolved_source}
use Rattle.whole_laws.specs.WholeLaws.{IsTopNamed, IsRight, WholeLaws}
use Rattle.whole_laws.proofs.Chains.{AreConvertible, moved_tops, chain_steady, chain_kinds}
use Rattle.whole_laws.proofs.FlatPrograms.{flat_program}
use Rattle.whole_laws.proofs.Free.{both}
use Rattle.whole_laws.proofs.Ended.{IsEnded, IsPlainTop, ended_top, plain_top}

-- ---- steady

record IsKept (p q : Program) : Type 0 where
  steady : IsSteady q
  same : BehaveTheSame p q
  kinded : IsKindedProgram q

kept : (p q : Program) (ms : List Move) → IsSource p → IsRewritten p q ms → IsKept p q
kept p q ms s w =
    let f = flat_program p w.flat s w.flattened in
    let c = moved_tops f.convertible w.moved in
    let r = chain_steady c f.steady in
    record {
      steady = r.0;
      same = record { codes = same_trans (code_of p) (code_of w.flat) (code_of q) f.same.codes r.1.codes };
      kinded = chain_kinds c f.kinded;
    }

-- ---- no jumps

plain_tops : {ts us : List Top} → AllByRecursion IsSourceTop ts → FlatTops ts us → AllByRecursion IsPlainTop us
plain_tops s ft_none = tt
plain_tops s (ft_more w r) = (plain_top s.0 w, plain_tops s.1 r)

ended_tops : {ts us : List Top} {ms : List Move} → AreConvertible ts → AllByRecursion IsPlainTop ts → MovedTops ts us ms → AllByRecursion IsEnded us
ended_tops c p mt_none = tt
ended_tops c p (mt_more m r) = (ended_top c.0 p.0 m, ended_tops c.1 p.1 r)

ended : (p q : Program) (ms : List Move) → IsSource p → IsRewritten p q ms → AllByRecursion IsEnded q.tops
ended p q ms s w =
    let f = flat_program p w.flat s w.flattened in
    ended_tops f.convertible (plain_tops (recursion_from_All IsSourceTop p.tops s.tops) w.flattened) w.moved

pub free_tops : (ts : List Top) → AllByRecursion IsEnded ts → all_true (map (top_holds is_jump_free_function) ts) ≡ true
free_tops [] h = refl
free_tops (T.Function f ∷ ts) h = both (is_jump_free_function f) (all_true (map (top_holds is_jump_free_function) ts)) h.0.free (free_tops ts h.1)
free_tops (T.Include b ∷ ts) h = free_tops ts h.1
free_tops (T.Enum es ∷ ts) h = free_tops ts h.1
free_tops (T.Global g ∷ ts) h = free_tops ts h.1
free_tops (T.Note b ∷ ts) h = free_tops ts h.1

jump_free : (p q : Program) (ms : List Move) → IsSource p → IsRewritten p q ms → is_jump_free_program q ≡ true
jump_free p q ms s w = free_tops q.tops (ended p q ms s w)

-- ---- the plain form

pub finished_tops : (c : Code) (names : Function → List (List ℕ)) (ts : List Top) → AllByRecursion IsEnded ts → AllByRecursion (IsKindedTop c) ts →
    AllByRecursion (IsTopNamed names) ts → AllByRecursion (IsTopFinished c names) ts
finished_tops c names [] e k n = tt
finished_tops c names (T.Function f ∷ ts) e k n = (
  record { kinded = k.0; made = e.0.made; leapless = e.0.leapless; named = n.0 },
  finished_tops c
      names ts e.1 k.1 n.1,
)
finished_tops c names (T.Include b ∷ ts) e k n = (tt, finished_tops c names ts e.1 k.1 n.1)
finished_tops c names (T.Enum es ∷ ts) e k n = (tt, finished_tops c names ts e.1 k.1 n.1)
finished_tops c names (T.Global g ∷ ts) e k n = (tt, finished_tops c names ts e.1 k.1 n.1)
finished_tops c names (T.Note b ∷ ts) e k n = (tt, finished_tops c names ts e.1 k.1 n.1)

pub both_runs : (p q r : Program) → BehaveTheSame p q → BehavesAsStructured q r → BehavesAsStructured p r
both_runs p q r h k = record {
  entries = λ m arguments. (
    λ e. (k.entries m arguments).0 ((h.codes.entries m arguments).0 e),
    λ e. (h.codes.entries m arguments).1 ((k.entries m arguments).1 e),
  );
  runs = λ m arguments e input answers.
      same_runs_trans (jump_run (code_of p) m arguments input answers) (jump_run (code_of q) m arguments input answers)
      (structural_run (code_of r) m arguments input answers)
      (h.codes.runs m arguments e input answers) (k.runs m arguments ((h.codes.entries m arguments).0 e) input answers);
}

-- what is reached is ready for its plain form
ready : (names : Function → List (List ℕ)) (p q : Program) (ms : List Move) → IsSource p → IsRewritten p q ms → All (IsTopNamed names) q.tops →
    IsProgramReady names q
ready names p q ms s w n =
    let k = kept p q ms s w in
    let c = code_of q in
    let finished : IsFinished names q = All-from_recursion (IsTopFinished c names) q.tops
    (finished_tops c names q.tops (ended p q ms s w) (recursion_from_All (IsKindedTop c) q.tops k.kinded) (recursion_from_All (IsTopNamed names) q.tops n)) in
    plain_laws.of_steady names q k.steady finished

pub resolved_ready : (counts : FlatCounts) (names : Function → List (List ℕ)) (p q : Program) (ms : List Move) → IsResolvedWith counts p →
    IsRewritten p q ms → All (IsTopNamed names) q.tops → IsProgramReady names q
resolved_ready counts names p q ms r w n = ready names p q ms (resolved_source counts p r) w n

whole : (names : Function → List (List ℕ)) (p q : Program) (ms : List Move) → IsSource p → IsRewritten p q ms → All (IsTopNamed names) q.tops →
    IsRight names p q
whole names p q ms s w n =
    let k = kept p q ms s w in
    let is_ready = ready names p q ms s w n in
    let free = jump_free p q ms s w in
    record {
      steady = k.steady;
      same = k.same;
      ranged = plain_laws.ranged names q is_ready;
      plain = plain_laws.plain names q free;
      runs = both_runs p q (plain_with names q) k.same (plain_laws.meanings names q is_ready free);
    }

pub whole_laws : WholeLaws
whole_laws = record {
  steady = λ counts p q ms r w. let k = kept p q ms (resolved_source counts p r) w in (k.steady, k.same);
  jump_free = λ counts p q ms r w. jump_free p q ms (resolved_source counts p r) w;
  whole = λ counts names p q ms r w n. whole names p q ms (resolved_source counts p r) w n;
}
