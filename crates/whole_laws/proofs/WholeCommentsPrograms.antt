-- A program that is rewritten has its Notes.
use Rattle.std.proofs.Common.{◌≡◌, ℕ, List, [], ◌∷◌, map, refl, sym, ap, ◌∙◌}
use Rattle.c_tree.specs.declared.tree.Function.{Function}
use Rattle.c_tree.specs.declared.tree.Top.{Top}
use Rattle.c_tree.specs.declared.tree.Top.TheVariants as T
use Rattle.c_tree.specs.declared.tree.Program.{Program}
use Rattle.c_tree.specs.InRange.{body_of}
use Rattle.c_tree.specs.Trees.{trees_of}
use Rattle.report_moves.specs.declared.moves.Move.{Move}
use Rattle.move_order_laws.specs.Moved.{MovedTop, mt_moved, mt_other, MovedTops, mt_none, mt_more}
use Rattle.plain_laws.specs.Plain.{plain_top, plain_with}
use Rattle.c_resolved_defs.specs.Limits.{FlatCounts}
use Rattle.c_resolved_defs.specs.Resolved.{IsResolvedWith}
use Rattle.whole_laws.specs.Rewritten.{FlatTop, ft_flat, ft_unlabelled, ft_declared, ft_other, FlatTops, ft_none, ft_more, IsRewritten}
use Rattle.whole_laws.proofs.Chains.{IsConvertible, AreConvertible}
use Rattle.whole_laws.proofs.Flattened.{body_is}
use Rattle.whole_laws.proofs.FlatPrograms.{flat_program}
use Rattle.whole_laws.proofs.Source.{resolved_source}
use Rattle.whole_laws.specs.Notes.{notes, top_notes, tops_notes, notes_of}
use Rattle.whole_laws.specs.WholeCommentsLaws.{NotesLaws}
use Rattle.whole_laws.proofs.Lists.{both}
use Rattle.whole_laws.proofs.Flat.{flat_body_notes, unlabelled_notes}
use Rattle.whole_laws.proofs.Skeletons.{skeleton_notes, moved_notes}
use Rattle.whole_laws.proofs.Plain.{plain_function_notes}

-- ---- flat forms

top_flat : {t u : Top} → FlatTop t u → top_notes u ≡ top_notes t
top_flat (ft_flat {f = f} {g = g} e w) = ap notes (body_is g w.new w.new_body ∙ w.trees) ∙ flat_body_notes _ _ _ (trees_of w.old) ∙ ap notes
    (sym (body_is f w.old w.old_body))
top_flat (ft_unlabelled {f = f} {g = g} e w) = ap notes (body_is g w.new w.new_body ∙ w.trees) ∙ unlabelled_notes (trees_of w.old) ∙ ap notes
    (sym (body_is f w.old w.old_body))
top_flat (ft_declared f e) = refl
top_flat (ft_other t n) = refl

tops_flat : {ts us : List Top} → FlatTops ts us → tops_notes us ≡ tops_notes ts
tops_flat ft_none = refl
tops_flat (ft_more {t = t} {u = u} {ts = ts} {us = us} w r) = both (top_notes u) (top_notes t) (tops_notes us) (tops_notes ts) (top_flat w) (tops_flat r)

-- ---- conversions, moves and simplifications

top_moved : {t u : Top} {ms : List Move} → MovedTop t u ms → IsConvertible t → top_notes u ≡ top_notes t
top_moved (mt_moved {f = f} {g = g} flat m) c =
    ap (λ (h : Function). notes (body_of h)) m.result
    ∙ moved_notes m.body m.middle m.new m.moves m.choices (c flat m.body m.body_is) m.derives m.reaches
    ∙ ap notes (sym (body_is f m.body m.body_is))
top_moved (mt_other t unflat) c = refl

tops_moved : {ts us : List Top} {ms : List Move} → MovedTops ts us ms → AreConvertible ts → tops_notes us ≡ tops_notes ts
tops_moved mt_none c = refl
tops_moved (mt_more {t = t} {u = u} {ts = ts} {us = us} m r) c = both (top_notes u) (top_notes t) (tops_notes us) (tops_notes ts) (top_moved m c.0)
    (tops_moved r c.1)

-- ---- the plain form

module _ (names : Function → List (List ℕ)) where
  top_plain : (t : Top) → top_notes (plain_top names t) ≡ top_notes t
  top_plain (T.Function f) = plain_function_notes (names f) f
  top_plain _ = refl

  tops_plain : (ts : List Top) → tops_notes (map (plain_top names) ts) ≡ tops_notes ts
  tops_plain [] = refl
  tops_plain (t ∷ ts) = both (top_notes (plain_top names t)) (top_notes t) (tops_notes (map (plain_top names) ts)) (tops_notes ts) (top_plain t) (tops_plain ts)

program_notes : (counts : FlatCounts) (names : Function → List (List ℕ)) (p q : Program) (ms : List Move) → IsResolvedWith counts p →
    IsRewritten p q ms → notes_of (plain_with names q) ≡ notes_of p
program_notes counts names p q ms r w =
    let f = flat_program p w.flat (resolved_source counts p r) w.flattened in
    tops_plain names q.tops ∙ tops_moved w.moved f.convertible ∙ tops_flat w.flattened

pub notes_laws : NotesLaws
notes_laws = record { flat = flat_body_notes; unlabelled = unlabelled_notes; skeleton = skeleton_notes; plain = plain_function_notes; program = program_notes }
