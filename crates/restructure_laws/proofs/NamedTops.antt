-- The flat functions of a program that is rewritten with the names of the program have names of their own.
use Rattle.std.proofs.Common.{◌≤◌, true≢false, List, length, sym, subst, ◌∙◌, All}
use Rattle.std.proofs.lemmas.List.Elements.{All-from_recursion}
use Rattle.c_copies.specs.Names.{top_names, tops_names, names, file_names}
use Rattle.c_copies.proofs.Rising.{rising-members}
use Rattle.c_tree.specs.declared.tree.Function.{Function}
use Rattle.c_tree.specs.declared.tree.Item.{Item}
use Rattle.c_tree.specs.declared.tree.Program.{Program}
use Rattle.c_tree.specs.declared.tree.Top.{Top}
use Rattle.c_tree.specs.declared.tree.Top.TheVariants as T
use Rattle.guard_vars.specs.Conversion.{converted}
use Rattle.move_laws.specs.Bodies.{with_body}
use Rattle.report_moves.specs.declared.moves.Move.{Move}
use Rattle.move_order_laws.specs.Moved.{MovedTop, mt_moved, mt_other, MovedTops, mt_none, mt_more}
use Rattle.c_resolved_defs.specs.Limits.{FlatCounts}
use Rattle.c_resolved_defs.specs.Resolved.{IsResolvedTop, IsResolvedWith}
use Rattle.c_resolved_defs.specs.Spelling.{TopIsSpelled}
use Rattle.c_resolved_defs.specs.Within.{Each}
use Rattle.c_resolved_laws.specs.Counts.{IsResolved, flat_counts}
use Rattle.whole_laws.specs.Rewritten.{IsNoFunction, IsRewritten}
use Rattle.whole_laws.specs.Guards.{HasNames, TopHasNames}
use Rattle.restructure_laws.proofs.ReadBack.{plain_form_reads_back}
use Rattle.restructure_laws.specs.Flattened.{most_held, FlattenedTop, fd_function, fd_other, FlattenedTops, fd_none, fd_more}
use Rattle.restructure_laws.specs.WholeNamesLaws.{IsRewrittenWithNames, NamedProgramLaws}
use Rattle.restructure_laws.proofs.FlatTops.{flat_tops}
use Rattle.restructure_laws.proofs.NamedFlat.{AreAmong, among_left, among_right, flattened_has_names}

module _ (p : Program) where
  -- a move changes the body alone
  moved_names : (g : Function) (new : List Item) → HasNames p g → HasNames p (with_body (converted g) new)
  moved_names g new h =
      let v = h.variables in
      record {
        variables = record { words = v.words; unknown = v.unknown; free = v.free; apart = v.apart; beside = v.beside };
        labels = h.labels;
        guards = h.guards;
      }

  pub other_has : (t : Top) → IsNoFunction t → TopHasNames p t
  other_has (T.Function f) n = absurd n
  other_has _ n = tt

  module _ (few : length (names p) ≤ most_held) where
    top_has : {t u v : Top} {ms : List Move} → FlattenedTop (names p) (file_names p) t u → MovedTop u v ms → IsResolvedTop flat_counts p.tops t →
        TopIsSpelled t → AreAmong (top_names t) (names p) → TopHasNames p v
    top_has (fd_function {f = f} {g = g} w held) (mt_moved flat m) r s a =
        λ e. subst (HasNames p) (sym m.result) (moved_names g m.new (flattened_has_names p f r s a few g w held flat))
    top_has (fd_function w held) (mt_other t unflat) r s a = λ e. absurd (true≢false (sym e ∙ unflat))
    top_has (fd_other t n) (mt_moved flat m) r s a = absurd n
    top_has (fd_other t n) (mt_other u unflat) r s a = other_has t n

    tops_have : {ts us vs : List Top} {ms : List Move} → FlattenedTops (names p) (file_names p) ts us → MovedTops us vs ms →
        Each (IsResolvedTop flat_counts p.tops) ts → Each TopIsSpelled ts → AreAmong (tops_names ts) (names p)
        → Each (TopHasNames p) vs
    tops_have fd_none mt_none r s a = tt
    tops_have (fd_more {t = t} {ts = ts} w ws) (mt_more m rest) r s a = (
      top_has w m r.0 s.0 (among_left (top_names t) (tops_names ts) (names p) a),
      tops_have ws rest r.1 s.1 (among_right (top_names t) (tops_names ts) (names p) a),
    )

rewritten : (counts : FlatCounts) (p q : Program) (ms : List Move) → IsResolvedWith counts p → IsRewrittenWithNames p q ms → IsRewritten p q ms
rewritten counts p q ms r w = record { flat = w.flat; flattened = flat_tops (names p) (file_names p) counts p w.flat.tops r w.flattened; moved = w.moved }

have_names : (p q : Program) (ms : List Move) → IsResolved p → IsRewrittenWithNames p q ms → All (TopHasNames p) q.tops
have_names p q ms r w = All-from_recursion (TopHasNames p) q.tops
    (tops_have p w.held w.flattened w.moved r.tops r.spelled (λ n h. rising-members (tops_names p.tops) n ∙ h))

pub named_program_laws : NamedProgramLaws
named_program_laws = record {
  flat = flat_tops;
  rewritten = rewritten;
  named = have_names;
  reads_back = λ p q ms r w. plain_form_reads_back p q ms r (rewritten flat_counts p q ms r w) (have_names p q ms r w);
}
