-- The plain form of a resolved program is spelled.
use Rattle.std.proofs.Common.{◌≡◌, ℕ, ◌+◌, ◌≤◌, List, [], Option, Some, None, refl, sym, ap, subst, ◌∙◌, arith}
use Rattle.std.specs.Prelude.{IfSome}
use Rattle.std.specs.Option.{option_map_or}
use Rattle.c_tree.specs.declared.tree.Item.{Item}
use Rattle.c_tree.specs.declared.tree.Function.{Function}
use Rattle.c_tree.specs.declared.tree.Top.{Top}
use Rattle.c_tree.specs.declared.tree.Program.{Program}
use Rattle.c_tree.specs.Trees.{Nil, trees_of}
use Rattle.c_tree.specs.InRange.{body_of}
use Rattle.flat_laws.specs.Unlabelled.{unlabelled}
use Rattle.whole_laws.proofs.Source.{source_function}
use Rattle.c_resolved_defs.specs.Within.{Each, AllDiffer}
use Rattle.c_resolved_defs.specs.Limits.{most_counted}
use Rattle.c_resolved_defs.specs.PrintableExpressions.{IsName}
use Rattle.c_resolved_defs.specs.PrintableStatements.{most, depth}
use Rattle.c_resolved_defs.specs.PrintablePrograms.{ParametersPrint}
use Rattle.c_resolved_defs.specs.Resolved.{IsResolvedFunction, IsResolvedTop}
use Rattle.c_resolved_defs.specs.Spelling.{AreSpelled, BodyIsSpelled, HasName, FunctionIsSpelled, TopIsSpelled}
use Rattle.c_resolved_laws.specs.Counts.{flat_counts, IsResolved}
use Rattle.whole_laws.specs.Names.{HasOwnNames}
use Rattle.whole_laws.proofs.FactsMoved.{left_trees}
use Rattle.whole_laws.proofs.MovedSpelled.{moved_items}
use Rattle.whole_laws.proofs.PlainForms.{left_plain}
use Rattle.whole_laws.proofs.PlainTops.{IsMovedForm, IsUnmovedForm, PlainTop, pt_moved, pt_unmoved, pt_declared, pt_other, PlainTops, pt_none, pt_more}
use Rattle.whole_laws.proofs.SameFile.{SameDeclaration}
use Rattle.whole_laws.proofs.SameTops.{moved_declared, unmoved_declared, unmoved_slots}
use Rattle.whole_laws.proofs.TidyForm.{tidy_plain}
use Rattle.whole_laws.proofs.UnmovedSpelled.{spelled_unmoved, depth_unmoved}

-- ---- bodies

pub spelled_body : (f : Function) (o : Option (List Item)) → f.body ≡ o → IfSome o (BodyIsSpelled f) → AreSpelled f (body_of f) × (1 + depth (body_of f) ≤ most)
spelled_body f None e h = subst (λ a. AreSpelled f a × (1 + depth a ≤ most)) (sym (ap (λ b. option_map_or trees_of b Nil) e)) (tt, omega arith)
spelled_body f (Some a) e h = subst (λ b. AreSpelled f b × (1 + depth b ≤ most)) (sym (ap (λ b. option_map_or trees_of b Nil) e)) (h.items, h.shallow)

body_spelled : (f : Function) (o : Option (List Item)) → f.body ≡ o → AreSpelled f (body_of f) → 1 + depth (body_of f) ≤ most → IfSome o (BodyIsSpelled f)
body_spelled f None e h d = tt
body_spelled f (Some a) e h d =
    let there = ap (λ b. option_map_or trees_of b Nil) e in record { items = subst (AreSpelled f) there h; shallow = subst (λ b. 1 + depth b ≤ most) there d }

-- ---- functions

no_labels : (ls : List (List ℕ)) → ls ≡ [] → AllDiffer ls
no_labels ls e = subst AllDiffer (sym e) tt

function_spelled : (f h : Function) → SameDeclaration f h → h.labels ≡ [] → FunctionIsSpelled f → AreSpelled h (body_of h) →
    1 + depth (body_of h) ≤ most → FunctionIsSpelled h
function_spelled f h d ls s items shallow = record {
  named = subst IsName (sym d.name) s.named;
  parameters = subst ParametersPrint (sym d.parameters) s.parameters;
  all_named = λ some. subst (Each HasName) (sym d.parameters) (s.all_named (sym d.body ∙ some));
  labels = no_labels h.labels ls;
  body = body_spelled h h.body refl items shallow;
}

-- no full expression of the function has too many counted tokens, and no list of it is nested too deeply
pub record IsShort (h : Function) : Type 0 where
  pub counted : most_counted (body_of h) ≤ most
  pub depth : 1 + depth (body_of h) ≤ most

module _ (p : Program) (r : IsResolved p) (Own : Function → Function → Type 0) (own : (f h : Function) → Own f h → HasOwnNames p.tops h)
    (short : (f h : Function) → Own f h → IsResolvedFunction flat_counts p.tops f → IsShort h) (us : List Top) where
  moved_spelled : (f h : Function) (m : IsMovedForm f h) → Own f h → IsResolvedFunction flat_counts p.tops f → IsResolvedFunction flat_counts us h →
      FunctionIsSpelled f → FunctionIsSpelled h
  moved_spelled f h m o g k s =
      let params = g.form.parameters in
      let n = own f h o in
      let few = short f h o g in
      let items = moved_items f h m params p.tops n flat_counts us k flat_counts p.tops g (spelled_body f f.body refl s.body).0 few.counted in
      function_spelled f h (moved_declared f h m params) (ap (λ (j : Function). j.labels) m.plain) s items few.depth

  unmoved_spelled : (f h : Function) (m : IsUnmovedForm f h) → IsResolvedFunction flat_counts p.tops f → FunctionIsSpelled f → FunctionIsSpelled h
  unmoved_spelled f h m g s =
      let b = spelled_body f f.body refl s.body in
      let e = left_trees f h m in
      let plain = tidy_plain (unlabelled (body_of f)) (left_plain f h m (source_function flat_counts p r f g) g.form) in
      let d = depth_unmoved (body_of f) in
      let shallow = b.1 in
      function_spelled f h (unmoved_declared f h m) (ap (λ (j : Function). j.labels) m.plain ∙ m.is_left.labels) s
      (subst (AreSpelled h) (sym e) (spelled_unmoved f h (unmoved_slots f h m) (body_of f) plain b.0))
      (subst (λ a. 1 + depth a ≤ most) (sym e) (omega (arith, d, shallow)))

  top_spelled : {t u : Top} → PlainTop Own t u → IsResolvedTop flat_counts p.tops t → IsResolvedTop flat_counts us u → TopIsSpelled t → TopIsSpelled u
  top_spelled (pt_moved {f = f} {h = h} m o) g k s = moved_spelled f h m o g k s
  top_spelled (pt_unmoved {f = f} {h = h} m) g k s = unmoved_spelled f h m g s
  top_spelled (pt_declared f e) g k s = s
  top_spelled (pt_other t n) g k s = s

  pub tops_spelled : {ts vs : List Top} → PlainTops Own ts vs → Each (IsResolvedTop flat_counts p.tops) ts → Each (IsResolvedTop flat_counts us) vs →
      Each TopIsSpelled ts → Each TopIsSpelled vs
  tops_spelled pt_none g k s = tt
  tops_spelled (pt_more t w) g k s = (top_spelled t g.0 k.0 s.0, tops_spelled w g.1 k.1 s.1)
