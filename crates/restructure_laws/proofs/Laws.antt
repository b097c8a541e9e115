-- The laws of programs after lawful moves.
use Rattle.std.proofs.Common.{◌≡◌, Bool, true, false, List, [], ◌∷◌, All, refl, sym, subst}
use Rattle.std.specs.List.{AllByRecursion}
use Rattle.std.proofs.lemmas.List.Elements.{All-from_recursion, recursion_from_All}
use Rattle.c_copies.specs.Names.{names, file_names}
use Rattle.c_tree.specs.declared.tree.Function.{Function}
use Rattle.c_tree.specs.declared.tree.Top.{Top}
use Rattle.c_tree.specs.declared.tree.Top.TheVariants as T
use Rattle.c_tree.specs.declared.tree.Program.{Program}
use Rattle.c_tree.specs.InRange.{IsTopInRange}
use Rattle.guard_vars.specs.GuardNames.{guard_names}
use Rattle.jump_meaning.specs.Code.{code_of}
use Rattle.jump_meaning.specs.Steady.{IsSteady}
use Rattle.plain_laws.specs.Laws.{IsTopReady}
use Rattle.plain_laws.specs.Plain.{plain_with}
use Rattle.c_resolved_laws.specs.Counts.{flat_counts, IsResolved}
use Rattle.c_resolved_laws.proofs.TheLaws.{resolved_laws}
use Rattle.report_moves.specs.declared.moves.Move.{Move}
use Rattle.c_resolved_defs.specs.PrintableExpressions.{IsName}
use Rattle.c_resolved_defs.specs.Spelling.{TopIsSpelled}
use Rattle.c_resolved_defs.specs.Within.{Each}
use Rattle.whole_laws.specs.WholeLaws.{IsTopNamed}
use Rattle.whole_laws.specs.Rewritten.{IsNoFunction, FlatTop, ft_flat, ft_unlabelled, ft_declared, ft_other, FlatTops, ft_none, ft_more}
use Rattle.whole_laws.proofs.Source.{resolved_source}
use Rattle.print_limits.specs.Limits.{IsWithinLimits}
use Rattle.restructure_laws.specs.Lawful.{Moves, none, more}
use Rattle.restructure_laws.specs.Replayed.{converted_top, converted_tops, IsTopWellMade, IsTopLeapless, IsReplayed}
use Rattle.restructure_laws.proofs.Replays.{ready}
use Rattle.restructure_laws.proofs.Whole.{lawful_laws, replayed_laws}
use Rattle.whole_laws.specs.Guards.{TopHasNames}
use Rattle.whole_laws.specs.PlainResolvedLaws.{IsTopOwn}
use Rattle.whole_laws.proofs.NamedForm.{tops_named, tops_own}
use Rattle.print_laws.proofs.Parsing.{printed_text_parses}
use Rattle.reread_program_laws.proofs.ReadingBack.{reading_back_laws}
use Rattle.restructure_laws.specs.RereadPlainLaws.{ReadsBack}
use Rattle.restructure_laws.proofs.NamedTops.{named_program_laws}
use Rattle.restructure_laws.specs.ReplayedProgramLaws.{IsReplayedWithNames, IsNamed, ReplayedProgramLaws}
use Rattle.restructure_laws.proofs.PlainForms.{flat_converted, unflat_converted, other_converted, plain_resolved}
use Rattle.restructure_laws.proofs.ReplayedTops.{start_names, have_names}
use Rattle.restructure_laws.proofs.MoveNames.{IsTopNamedInText, one_named, all_named}

abbrev replayed : (p q : Program) (ms : List Move) → IsResolved p → IsReplayedWithNames p q ms → IsReplayed p q ms
replayed p q ms r w = record {
  flat = w.flat;
  flattened = named_program_laws.flat (names p) (file_names p) flat_counts p w.flat.tops r w.flattened;
  moved = w.moved;
}

-- ---- the plain form

reads_back : (p q : Program) (ms : List Move) → IsResolved p → IsReplayedWithNames p q ms → All IsTopLeapless q.tops →
    IsWithinLimits (plain_with (guard_names (names p)) q) → ReadsBack p (plain_with (guard_names (names p)) q)
reads_back p q ms r w n within =
    let given = guard_names (names p) in
    let form = plain_with given q in
    let made = replayed p q ms r w in
    let named = All-from_recursion (IsTopNamed given) q.tops (tops_named p q.tops) in
    let is_ready = recursion_from_All (IsTopReady (code_of q) given) q.tops (ready given p q ms (resolved_source flat_counts p r) made n named) in
    let own = All-from_recursion (IsTopOwn p.tops given) q.tops
    (tops_own p (code_of q) q.tops is_ready (recursion_from_All (TopHasNames p) q.tops (have_names p q ms r w))) in
    let right = replayed_laws.whole flat_counts given p q ms r made n named in
    let resolved = plain_resolved given p q ms r made n named own within in
    let printed = resolved_laws.text form right.plain in
    record {
      resolved = resolved;
      plain = right.plain;
      parses = printed_text_parses form (resolved_laws.printable flat_counts form resolved printed);
      reads = reading_back_laws.resolved form resolved printed;
      runs = right.runs;
    }

-- ---- the moves

abbrev IsFunctionNamed : Top → Type 0
IsFunctionNamed (T.Function f) = f.flat ≡ true → IsName f.name
IsFunctionNamed _ = Unit {0}

named_function : (g : Function) → IsName g.name → IsFunctionNamed (converted_top (T.Function g))
named_function g h = by g.flat refl where
  by : (b : Bool) → g.flat ≡ b → IsFunctionNamed (converted_top (T.Function g))
  by true e = subst IsFunctionNamed (sym (flat_converted g e)) (λ flat. h)
  by false e = subst IsFunctionNamed (sym (unflat_converted g e)) (λ flat. h)

named_other : (t : Top) → IsNoFunction t → IsFunctionNamed t
named_other (T.Function f) n = absurd n
named_other _ n = tt

named_top : {t u : Top} → FlatTop t u → TopIsSpelled t → IsFunctionNamed (converted_top u)
named_top (ft_flat {f = f} {g = g} jumps w) s = named_function g (subst IsName w.name s.named)
named_top (ft_unlabelled {f = f} {g = g} free w) s = named_function g (subst IsName w.name s.named)
named_top (ft_declared f e) s = named_function f s.named
named_top (ft_other t n) s = subst IsFunctionNamed (sym (other_converted t n)) (named_other t n)

named_functions : {ts us : List Top} → FlatTops ts us → Each TopIsSpelled ts → AllByRecursion IsFunctionNamed (converted_tops us)
named_functions ft_none s = tt
named_functions (ft_more w r) s = (named_top w s.0, named_functions r s.1)

named_both : (p : Program) (t : Top) → IsFunctionNamed t → TopHasNames p t → IsTopNamedInText t
named_both p (T.Function f) n h = λ flat. (n flat, (h flat).labels)
named_both p _ n h = tt

all_both : (p : Program) (ts : List Top) → AllByRecursion IsFunctionNamed ts → Each (TopHasNames p) ts → AllByRecursion IsTopNamedInText ts
all_both p [] n h = tt
all_both p (t ∷ ts) n h = (named_both p t n.0 h.0, all_both p ts n.1 h.1)

abbrev program : List Top → Program
program ts = record { tops = ts }

named_moves : {ts us : List Top} {ms : List Move} → IsSteady (program ts) → All IsTopWellMade ts → AllByRecursion IsTopNamedInText ts →
    Moves ts ms us → AllByRecursion IsNamed ms
named_moves s w n none = tt
named_moves {ts = ts} s w n (more {m = m} {us = us} h r) =
    let next = lawful_laws.steady (program ts) (program us) (m ∷ []) w (more h none) s in
    (one_named (recursion_from_All IsTopInRange ts s.ranged) n h, named_moves next.0 (lawful_laws.well_made ts us (m ∷ []) w (more h none)) (all_named n h) r)

moves_named : (p q : Program) (ms : List Move) → IsResolved p → IsReplayedWithNames p q ms → AllByRecursion IsNamed ms
moves_named p q ms r w =
    let made = replayed p q ms r w in
    let tops = converted_tops w.flat.tops in
    let start = replayed_laws.steady flat_counts p (program tops) [] r (record { flat = w.flat; flattened = made.flattened; moved = none }) in
    named_moves start.0 (replayed_laws.well_made flat_counts p w.flat.tops r made.flattened)
    (all_both p tops (named_functions made.flattened r.spelled) (start_names p q ms r w)) w.moved

pub replayed_program_laws : ReplayedProgramLaws
replayed_program_laws = record { named = have_names; reads_back = reads_back; moves = moves_named }
