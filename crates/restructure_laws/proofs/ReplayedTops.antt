-- The flat functions of a program after lawful moves have names of their own.
use Rattle.std.proofs.Common.{◌≡◌, ◌≤◌, Bool, true, false, List, length, Option, Some, option_map, All, refl, sym, subst, ◌∙◌}
use Rattle.std.proofs.lemmas.List.Elements.{All-from_recursion}
use Rattle.c_copies.specs.Names.{top_names, tops_names, names, file_names}
use Rattle.c_copies.proofs.Rising.{rising-members}
use Rattle.c_tree.specs.declared.tree.Item.{Item}
use Rattle.c_tree.specs.declared.tree.Function.{Function}
use Rattle.c_tree.specs.declared.tree.Program.{Program}
use Rattle.c_tree.specs.declared.tree.Top.{Top}
use Rattle.c_tree.specs.declared.tree.Top.TheVariants as T
use Rattle.guard_vars.specs.Conversion.{converted_list}
use Rattle.report_moves.specs.declared.moves.Move.{Move}
use Rattle.c_resolved_defs.specs.Resolved.{IsResolvedTop}
use Rattle.c_resolved_defs.specs.Spelling.{TopIsSpelled}
use Rattle.c_resolved_defs.specs.Within.{Each}
use Rattle.c_resolved_laws.specs.Counts.{IsResolved, flat_counts}
use Rattle.restructure_laws.specs.Replayed.{converted_top, converted_tops}
use Rattle.whole_laws.specs.Guards.{HasNames, TopHasNames}
use Rattle.restructure_laws.specs.Flattened.{most_held, FlattenedTop, fd_function, fd_other, FlattenedTops, fd_none, fd_more}
use Rattle.restructure_laws.proofs.NamedFlat.{AreAmong, among_left, among_right, flattened_has_names}
use Rattle.restructure_laws.proofs.NamedTops.{other_has}
use Rattle.restructure_laws.specs.ReplayedProgramLaws.{IsReplayedWithNames}
use Rattle.restructure_laws.proofs.Later.{LaterTop, same_top, rewritten_top, LaterTops, no_more, one_more, moves_later}
use Rattle.restructure_laws.proofs.PlainForms.{flat_converted, unflat_converted, other_converted}

module _ (p : Program) where
  -- conversion and moves change the body alone
  body_changed : (g : Function) (body : Option (List Item)) → HasNames p g → HasNames p (record g { body = body })
  body_changed g body h =
      let v = h.variables in
      record {
        variables = record { words = v.words; unknown = v.unknown; free = v.free; apart = v.apart; beside = v.beside };
        labels = h.labels;
        guards = h.guards;
      }

  later_has : {t u : Top} → LaterTop t u → TopHasNames p t → TopHasNames p u
  later_has (same_top t) h = h
  later_has (rewritten_top {f = f} r) h = subst (λ (z : Function). TopHasNames p (T.Function z)) (sym r.result) (λ flat. body_changed f (Some r.new) (h r.flat))

  converted_has : (g : Function) → TopHasNames p (T.Function g) → TopHasNames p (converted_top (T.Function g))
  converted_has g h = by g.flat refl where
    by : (b : Bool) → g.flat ≡ b → TopHasNames p (converted_top (T.Function g))
    by true e = subst (TopHasNames p) (sym (flat_converted g e)) (λ flat. body_changed g (option_map converted_list g.body) (h e))
    by false e = subst (TopHasNames p) (sym (unflat_converted g e)) h

  module _ (few : length (names p) ≤ most_held) where
    start_has : {t u : Top} → FlattenedTop (names p) (file_names p) t u → IsResolvedTop flat_counts p.tops t → TopIsSpelled t →
        AreAmong (top_names t) (names p) → TopHasNames p (converted_top u)
    start_has (fd_function {f = f} {g = g} w held) r s a = converted_has g (λ flat. flattened_has_names p f r s a few g w held flat)
    start_has (fd_other t n) r s a = subst (TopHasNames p) (sym (other_converted t n)) (other_has p t n)

    pub starts_have : {ts us : List Top} → FlattenedTops (names p) (file_names p) ts us → Each (IsResolvedTop flat_counts p.tops) ts →
        Each TopIsSpelled ts → AreAmong (tops_names ts) (names p) → Each (TopHasNames p) (converted_tops us)
    starts_have fd_none r s a = tt
    starts_have (fd_more {t = t} {ts = ts} w ws) r s a = (
      start_has w r.0 s.0 (among_left (top_names t) (tops_names ts) (names p) a),
      starts_have ws r.1 s.1 (among_right (top_names t) (tops_names ts) (names p) a),
    )

  pub all_have : {ts us : List Top} → LaterTops ts us → Each (TopHasNames p) ts → Each (TopHasNames p) us
  all_have no_more h = tt
  all_have (one_more l r) h = (later_has l h.0, all_have r h.1)

pub start_names : (p q : Program) (ms : List Move) → IsResolved p → (w : IsReplayedWithNames p q ms) → Each (TopHasNames p) (converted_tops w.flat.tops)
start_names p q ms r w = starts_have p w.held w.flattened r.tops r.spelled (λ n h. rising-members (tops_names p.tops) n ∙ h)

pub have_names : (p q : Program) (ms : List Move) → IsResolved p → IsReplayedWithNames p q ms → All (TopHasNames p) q.tops
have_names p q ms r w = All-from_recursion (TopHasNames p) q.tops (all_have p (moves_later w.moved) (start_names p q ms r w))
