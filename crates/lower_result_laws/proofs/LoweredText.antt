-- What a resolved program is lowered to has a text.
use Rattle.std.proofs.Common.{ℕ, List, [], ◌∷◌, sym, ap, subst, ◌∙◌}
use Rattle.std.specs.Option.{option_map_or}
use Rattle.std.proofs.lemmas.List.Elements.{All-from_recursion}
use Rattle.c_copies.specs.Names.{names, file_names}
use Rattle.c_tree.specs.declared.tree.Function.{Function}
use Rattle.c_tree.specs.declared.tree.Program.{Program}
use Rattle.c_tree.specs.declared.tree.Top.{Top}
use Rattle.c_tree.specs.declared.tree.Top.TheVariants as T
use Rattle.c_tree.specs.Everywhere.{Everywhere, EverywhereOf}
use Rattle.c_tree.specs.InRange.{body_of}
use Rattle.c_tree.specs.Trees.{Tree, Forest, Nil, Then, trees_of}
use Rattle.flat_names.specs.FlatNames.{with_known}
use Rattle.jump_meaning.specs.Code.{function_tree}
use Rattle.lower_laws.specs.Functions.{AreFlat}
use Rattle.lower_laws.proofs.LoweredPrograms.{lowered_laws}
use Rattle.c_resolved_defs.specs.Limits.{FlatCounts, no_counts}
use Rattle.c_resolved_defs.specs.Resolved.{IsResolvedFunction, IsResolvedTop, IsResolvedWith}
use Rattle.c_resolved_defs.specs.Within.{Each}
use Rattle.c_resolved_laws.specs.Laws.{IsNoArrival, TopHasText, HasText}
use Rattle.lower_laws.specs.Lowering.{IsTopLowered, LoweredTops, lt_none, lt_more, IsLoweredProgram}
use Rattle.lower_result_laws.proofs.Lowered.{is_lowered}
use Rattle.lower_result_laws.proofs.Numbered.{FlatView, fv_evaluate, fv_return, fv_note, fv_local, fv_goto, fv_mark, fv_jump, view}
use Rattle.lower_result_laws.proofs.Tops.{either}
use Rattle.lower_result_laws.specs.LoweredResolvedLaws.{IsTopUntangled, LoweredResolvedLaws}
use Rattle.lower_result_laws.specs.Modest.{IsModest}
use Rattle.lower_result_laws.proofs.LoweredFile.{lowered_is_resolved}

no_arrivals : (xs : Forest) → AreFlat xs → Everywhere IsNoArrival xs
no_arrivals Nil w = tt
no_arrivals (Then x xs) w = (at (view x w.0), no_arrivals xs w.1)
  where
    at : {y : Tree} → FlatView y → EverywhereOf IsNoArrival y
    at (fv_evaluate e) = tt
    at (fv_return e) = tt
    at (fv_note bs) = tt
    at (fv_local x) = tt
    at (fv_goto l) = tt
    at (fv_mark l) = tt
    at (fv_jump t l) = (tt, (tt, tt), tt)

module _ (counts : FlatCounts) (ts : List Top) (names file : List (List ℕ)) where
  function_text : (f h : Function) → IsResolvedFunction counts ts f → IsTopLowered names file (T.Function f) (T.Function h) → Everywhere IsNoArrival (body_of h)
  function_text f h r w =
      either (with_known names) (with_known file) f h (Everywhere IsNoArrival (body_of h))
      (λ e i. subst (Everywhere IsNoArrival) (sym (ap body_of i ∙ ap (λ o. option_map_or trees_of o Nil) e)) tt)
      (λ old there b. subst (λ (j : Function). Everywhere IsNoArrival (body_of j)) (sym b.whole)
      (no_arrivals (trees_of b.new) (lowered_laws.flat (function_tree f)
      _ (is_lowered counts ts f r (with_known names) (with_known file) old there b.new b.trees)))) w.0

  top_text : (t u : Top) → IsResolvedTop counts ts t → IsTopLowered names file t u → TopHasText u
  top_text (T.Function f) (T.Function h) r w = function_text f h r w
  top_text (T.Function f) _ r w = tt
  top_text (T.Include bytes) u r w = subst TopHasText (sym w) tt
  top_text _ u r w = subst TopHasText (sym w) tt

  tops_text : {us vs : List Top} → Each (IsResolvedTop counts ts) us → LoweredTops names file us vs → Each TopHasText vs
  tops_text r lt_none = tt
  tops_text r (lt_more {t = t} {u = u} w ws) = (top_text t u r.0 w, tops_text r.1 ws)

has_text : (counts : FlatCounts) (p q : Program) → IsResolvedWith counts p → IsLoweredProgram p q → HasText q
has_text counts p q r w = All-from_recursion TopHasText q.tops (tops_text counts p.tops (names p) (file_names p) r.tops w.tops)

all_untangled : (ts : List Top) → Each (IsTopUntangled no_counts) ts
all_untangled [] = tt
all_untangled (T.Function f ∷ ts) = (tt, all_untangled ts)
all_untangled (T.Include bytes ∷ ts) = (tt, all_untangled ts)
all_untangled (T.Enum xs ∷ ts) = (tt, all_untangled ts)
all_untangled (T.Global g ∷ ts) = (tt, all_untangled ts)
all_untangled (T.Note bytes ∷ ts) = (tt, all_untangled ts)

uncounted : (counts : FlatCounts) (p q : Program) → IsResolvedWith counts p → IsLoweredProgram p q → IsModest p → IsResolvedWith no_counts q
uncounted counts p q r w m = lowered_is_resolved counts no_counts p q r w m (all_untangled q.tops)

pub lowered_resolved_laws : LoweredResolvedLaws
lowered_resolved_laws = record { uncounted = uncounted; resolved = lowered_is_resolved; text = has_text }
