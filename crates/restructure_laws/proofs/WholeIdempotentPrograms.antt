-- A resolved program without jumps is rewritten to itself.
use Rattle.std.proofs.Common.{◌≡◌, ℕ, true, true≢false, List, [], ◌∷◌, ◌++◌, map, refl, sym, ap, subst, ◌∙◌}
use Rattle.std.specs.List.{AllByRecursion}
use Rattle.std.proofs.lemmas.List.Elements.{recursion_from_All}
use Rattle.c_copies.specs.Names.{names, file_names}
use Rattle.c_tree.specs.declared.tree.Function.{Function}
use Rattle.c_tree.specs.declared.tree.Top.{Top}
use Rattle.c_tree.specs.declared.tree.Top.TheVariants as T
use Rattle.c_tree.specs.declared.tree.Program.{Program}
use Rattle.c_tree.specs.Jumps.{is_plain_program}
use Rattle.struct_meaning.specs.Structured.{IsTopStructured}
use Rattle.struct_meaning.proofs.PlainBodies.{plain_structured}
use Rattle.c_resolved_defs.specs.Resolved.{IsResolvedTop}
use Rattle.c_resolved_defs.specs.Within.{Each}
use Rattle.c_resolved_laws.specs.Counts.{flat_counts, IsResolved}
use Rattle.plain_laws.specs.Plain.{plain_top, plain_with}
use Rattle.report_moves.specs.declared.moves.Move.{Move}
use Rattle.move_order_laws.specs.Moved.{MovedTop, mt_moved, mt_other, MovedTops, mt_none, mt_more}
use Rattle.flat_names.specs.FlatNames.{with_known}
use Rattle.restructure_laws.specs.Flattened.{FlattenedTop, fd_function, fd_other, FlattenedTops, fd_none, fd_more}
use Rattle.restructure_laws.specs.WholeNamesLaws.{IsRewrittenWithNames}
use Rattle.restructure_laws.specs.WholeIdempotentLaws.{SettledLaws}
use Rattle.restructure_laws.proofs.Functions.{plain_same, flat_same}

-- ---- the plain form

module _ (names : Function → List (List ℕ)) (all : List Top) where
  top_plain : (t : Top) → IsResolvedTop flat_counts all t → plain_top names t ≡ t
  top_plain (T.Function f) r = ap T.Function (plain_same (names f) f r.form)
  top_plain _ r = refl

  tops_plain : (ts : List Top) → Each (IsResolvedTop flat_counts all) ts → map (plain_top names) ts ≡ ts
  tops_plain [] r = refl
  tops_plain (t ∷ ts) r = λ i. top_plain t r.0 i ∷ tops_plain ts r.1 i

plain_program : (names : Function → List (List ℕ)) (p : Program) → IsResolved p → plain_with names p ≡ p
plain_program names p r = ap (λ ts. record p { tops = ts }) (tops_plain names p.tops p.tops r.tops)

-- ---- the moves

-- what stands at file scope stays
abbrev Stays : Top → Top → List Move → Type 0
Stays t v ms = (v ≡ t) × (ms ≡ [])

module _ (names file : List (List ℕ)) (all : List Top) where
  top_flat : {t u : Top} → FlattenedTop names file t u → IsResolvedTop flat_counts all t → IsTopStructured t → u ≡ t
  top_flat (fd_function {f = f} {g = g} w held) r s = ap T.Function (flat_same (with_known names) (with_known file) f g r.form s w)
  top_flat (fd_other t n) r s = refl

  top_moved : {t u : Top} {ms : List Move} → MovedTop t u ms → IsResolvedTop flat_counts all t → Stays t u ms
  top_moved (mt_moved flat m) r = absurd (true≢false (sym flat ∙ r.form.unflat))
  top_moved (mt_other t unflat) r = (refl, refl)

  top_stays : {t u v : Top} {ms : List Move} → FlattenedTop names file t u → MovedTop u v ms → IsResolvedTop flat_counts all t → IsTopStructured t →
      Stays t v ms
  top_stays {t} {u} {v} {ms} w m r s =
      let e = top_flat w r s in
      let k = top_moved m (subst (IsResolvedTop flat_counts all) (sym e) r) in
      (k.0 ∙ e, k.1)

  tops_stay : {ts us vs : List Top} {ms : List Move} → FlattenedTops names file ts us → MovedTops us vs ms → Each (IsResolvedTop flat_counts all) ts →
      AllByRecursion IsTopStructured ts → (vs ≡ ts) × (ms ≡ [])
  tops_stay fd_none mt_none r s = (refl, refl)
  tops_stay (fd_more w ws) (mt_more m rest) r s =
      let h = top_stays w m r.0 s.0 in
      let k = tops_stay ws rest r.1 s.1 in
      ((λ i. h.0 i ∷ k.0 i), (λ i. h.1 i ++ k.1 i))

rewritten : (p q : Program) (ms : List Move) → IsResolved p → is_plain_program p ≡ true → IsRewrittenWithNames p q ms → (q ≡ p) × (ms ≡ [])
rewritten p q ms r e w =
    let k = tops_stay (names p) (file_names p) p.tops w.flattened w.moved r.tops (recursion_from_All IsTopStructured p.tops (plain_structured p e)) in
    (ap (λ ts. record p { tops = ts }) k.0, k.1)

pub settled_laws : SettledLaws
settled_laws = record { plain = plain_program; rewritten = rewritten }
