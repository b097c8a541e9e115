-- The laws of resolved programs.
use Rattle.std.proofs.Common.{true, ◌&&◌, List, [], ◌∷◌, map, ◌≡◌, refl, sym, ap, ◌∙◌}
use Rattle.std.specs.Prelude.{if◌then◌else◌}
use Rattle.c_tree.specs.declared.tree.Top.{Top}
use Rattle.c_tree.specs.declared.tree.Top.TheVariants as T
use Rattle.c_tree.specs.declared.tree.Program.{Program}
use Rattle.c_tree.specs.Jumps.{all_true, top_holds, body_holds, is_plain, is_jump_free, is_plain_function, is_jump_free_function, is_jump_free_program, is_plain_program}
use Rattle.struct_meaning.proofs.Programs.{meanings_agree_law}
use Rattle.c_resolved_defs.specs.Within.{Each}
use Rattle.c_resolved_defs.specs.Limits.{FlatCounts}
use Rattle.c_resolved_defs.specs.Resolved.{IsResolvedTop, IsResolvedWith}
use Rattle.c_resolved_laws.specs.Laws.{ResolvedLaws}
use Rattle.c_resolved_laws.proofs.Ranged.{resolved_ranged, resolved_unflat, resolved_steady}
use Rattle.c_resolved_laws.proofs.ItemsGiven.{resolved_kinded, resolved_ready}
use Rattle.c_resolved_laws.proofs.OneScope.{one_scope}
use Rattle.c_resolved_laws.proofs.Scoped.{bound_is_found, others_stay, resolved_uncounted}
use Rattle.c_resolved_laws.proofs.Printed.{resolved_printable, plain_text}
use Rattle.c_resolved_laws.proofs.LabelsGiven.{function_labels}
use Rattle.c_resolved_laws.proofs.GoodSource.{good_source}
use Rattle.c_resolved_laws.proofs.SourceGiven.{function_source, function_calm}

-- a function that isn't flat is plain where it has no jumps
top_plain : (counts : FlatCounts) (ts : List Top) (t : Top) → IsResolvedTop counts ts t → top_holds is_jump_free_function t ≡ top_holds is_plain_function t
top_plain counts ts (T.Function f) r = ap (λ b. body_holds (if b then is_jump_free else is_plain) f.body) r.form.unflat
top_plain counts ts _ r = refl

tops_plain : (counts : FlatCounts) (all ts : List Top) → Each (IsResolvedTop counts all) ts →
    all_true (map (top_holds is_jump_free_function) ts) ≡ all_true (map (top_holds is_plain_function) ts)
tops_plain counts all [] r = refl
tops_plain counts all (t ∷ ts) r =
    ap (λ b. b && all_true (map (top_holds is_jump_free_function) ts)) (top_plain counts all t r.0)
    ∙ ap (λ b. top_holds is_plain_function t && b) (tops_plain counts all ts r.1)

pub resolved_plain : (counts : FlatCounts) (p : Program) → IsResolvedWith counts p → is_jump_free_program p ≡ true → is_plain_program p ≡ true
resolved_plain counts p r e = sym (tops_plain counts p.tops p.tops r.tops) ∙ e

pub resolved_laws : ResolvedLaws
resolved_laws = record {
  ranged = resolved_ranged;
  unflat = resolved_unflat;
  steady = resolved_steady;
  printable = resolved_printable;
  text = plain_text;
  kinded = λ counts p r. resolved_kinded counts p r;
  ready = λ counts p r. resolved_ready counts p r;
  plain = resolved_plain;
  meanings = λ counts p r e. meanings_agree_law.of_plain_programs p (resolved_plain counts p r e);
  labels = function_labels;
  good = good_source;
  source = function_source;
  calm = function_calm;
  one_scope = one_scope;
  bound = bound_is_found;
  others = others_stay;
  uncounted = resolved_uncounted;
}
