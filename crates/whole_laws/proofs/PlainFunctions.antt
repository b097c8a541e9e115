-- Each function of the plain form of a resolved program, and each top besides, is resolved by itself.
use Rattle.std.proofs.Common.{◌≡◌, ℕ, Bool, true, false, cond, List, [], ◌∷◌, Option, Some, None, refl, sym, ap, subst, ◌∙◌}
use Rattle.std.specs.Prelude.{ℤ, IfSome}
use Rattle.std.specs.Option.{option_map_or}
use Rattle.c_types.specs.declared.kinds.IntKind.{IntKind}
use Rattle.c_tree.specs.declared.tree.EnumItem.{EnumItem}
use Rattle.c_tree.specs.declared.tree.Expression.{Expression}
use Rattle.c_tree.specs.declared.tree.GlobalVariable.{GlobalVariable}
use Rattle.c_tree.specs.declared.tree.Function.{Function}
use Rattle.c_tree.specs.declared.tree.Top.{Top}
use Rattle.c_tree.specs.declared.tree.Top.TheVariants as T
use Rattle.c_tree.specs.declared.tree.Program.{Program}
use Rattle.c_tree.specs.ExpressionTrees.{ExpressionTree, expression_tree}
use Rattle.c_tree.specs.Trees.{Forest, Nil, trees_of}
use Rattle.c_tree.specs.Everywhere.{Everywhere}
use Rattle.c_tree.specs.InRange.{body_of, IsTopInRange}
use Rattle.c_tree.proofs.WellMoved.{everywhere_map, everywhere_both}
use Rattle.flat_laws.specs.Parts.{has_jumps}
use Rattle.flat_laws.specs.Unlabelled.{unlabelled}
use Rattle.whole_laws.specs.Rewritten.{IsNoFunction}
use Rattle.whole_laws.proofs.Source.{source_function}
use Rattle.whole_laws.proofs.Unlabelled.{IsPlainItem}
use Rattle.c_resolved_defs.specs.Within.{Each}
use Rattle.c_resolved_defs.specs.Names.{Names}
use Rattle.c_resolved_defs.specs.Kinds.{ItemAgrees, KeepsConsts, ReturnFits}
use Rattle.c_resolved_defs.specs.Files.{IsConstantOf, HasNextValue, HaveValues, IsGlobal}
use Rattle.c_resolved_defs.specs.Limits.{FlatCounts}
use Rattle.c_resolved_defs.specs.Resolved.{IsResolvedFunction, IsResolvedTop, IsResolvedWith, names_in}
use Rattle.c_resolved_laws.specs.Counts.{flat_counts, without_strays}
use Rattle.c_resolved_laws.proofs.Counted.{jumps_stay}
use Rattle.whole_laws.proofs.FactsMoved.{plain_trees, left_trees}
use Rattle.whole_laws.proofs.ItemKinds.{HasKinds, Agrees, from_kinds}
use Rattle.whole_laws.proofs.NamesKept.{KeepsSlots, KeepsNames, names_kept, keeps_self, kinds_over}
use Rattle.whole_laws.proofs.PlainCases.{moved_cases, unmoved_cases}
use Rattle.whole_laws.proofs.PlainForms.{body_before, moved_ready, moved_form, left_plain, unmoved_form}
use Rattle.whole_laws.proofs.PlainKinds.{moved_kinds, unmoved_kinds}
use Rattle.whole_laws.proofs.PlainLengths.{moved_lengths, unmoved_lengths, moved_initialised, unmoved_initialised, no_jumps}
use Rattle.whole_laws.proofs.PlainTops.{IsMovedForm, IsUnmovedForm, PlainTop, pt_moved, pt_unmoved, pt_declared, pt_other, PlainTops, pt_none, pt_more}
use Rattle.whole_laws.proofs.SameFile.{SameFile, global_over, callee_over}
use Rattle.whole_laws.proofs.SameTops.{moved_declared, moved_keeps, unmoved_declared, unmoved_keeps}
use Rattle.whole_laws.proofs.TidyForm.{plain_of, tidy_plain}

-- ---- without jumps there is nothing to measure

counted_none : (b : Bool) (n : ℕ × ℕ) (P : ℕ × ℕ → Type 0) → b ≡ false → IfSome (cond b (Some n) None) P
counted_none true n P e = cc
counted_none false n P e = tt

-- ---- kinds that agree in the items of a function

module _ (k : Names) (result : Option IntKind) (a : Forest) (h : Everywhere (HasKinds k result) a) (p : Everywhere IsPlainItem a) where
  agreeing : Everywhere (Agrees k result) a
  agreeing = everywhere_map (λ x. HasKinds k result x × IsPlainItem x) (Agrees k result) (λ x g. from_kinds k result x g.0 g.1) a
      (everywhere_both (HasKinds k result) IsPlainItem a h p)

  kinds_agree : Everywhere (ItemAgrees k) a
  kinds_agree = everywhere_map (Agrees k result) (ItemAgrees k) (λ x g. g.0) a agreeing

  keep_consts : Everywhere (KeepsConsts k) a
  keep_consts = everywhere_map (Agrees k result) (KeepsConsts k) (λ x g. g.1.0) a agreeing

  return_fit : Everywhere (ReturnFits result) a
  return_fit = everywhere_map (Agrees k result) (ReturnFits result) (λ x g. g.1.1) a agreeing

-- ---- functions

module _ (counts : FlatCounts) (p : Program) (r : IsResolvedWith counts p) (us : List Top) (same : SameFile p.tops us) where
  abbrev New : Function → Names
  New h = names_in us h

  names_over : (f h : Function) → KeepsSlots f.slots h.slots → KeepsNames (names_in p.tops f) (New h)
  names_over f h k = names_kept (names_in p.tops f) (New h) k (λ m. global_over m same) (λ m. callee_over m f.slots h.slots same)

  module _ (f h : Function) (g : IsResolvedFunction counts p.tops f) where
    moved_function : (m : IsMovedForm f h) → IsTopInRange (T.Function h) → IsResolvedFunction flat_counts us h
    moved_function m range =
        let params = g.form.parameters in
        let before = plain_of h (body_before f h m params) (moved_ready f h m params) in
        let plain = subst (Everywhere IsPlainItem) (sym (plain_trees f h m)) (tidy_plain (body_before f h m params) before) in
        let kinds = moved_kinds counts p.tops f g h m (New h) refl (names_over f h (moved_keeps f h m params)) in
        let result = (moved_declared f h m params).result in
        record {
          form = moved_form f h m params;
          kinds = kinds_agree (New h) f.result (body_of h) kinds plain;
          returns = subst (λ k. Everywhere (ReturnFits k) (body_of h)) (sym result) (return_fit (New h) f.result (body_of h) kinds plain);
          cases = moved_cases f h m params before g.cases;
          consts = keep_consts (New h) f.result (body_of h) kinds plain;
          lengths = moved_lengths f h m params g.lengths;
          initialised = moved_initialised f h m params range;
          untangled = counted_none (has_jumps (without_strays (body_of h))) _ _ (jumps_stay (body_of h) ∙ no_jumps (body_of h) plain);
        }

    unmoved_function : (m : IsUnmovedForm f h) → IsResolvedFunction flat_counts us h
    unmoved_function m =
        let s = source_function counts p r f g in
        let before = left_plain f h m s g.form in
        let plain = subst (Everywhere IsPlainItem) (sym (left_trees f h m)) (tidy_plain (unlabelled (body_of f)) before) in
        let kinds = unmoved_kinds counts p.tops f g h m (New h) (names_over f h (unmoved_keeps f h m)) in
        let result = (unmoved_declared f h m).result in
        record {
          form = unmoved_form f h m s g.form;
          kinds = kinds_agree (New h) f.result (body_of h) kinds plain;
          returns = subst (λ k. Everywhere (ReturnFits k) (body_of h)) (sym result) (return_fit (New h) f.result (body_of h) kinds plain);
          cases = unmoved_cases f h m before g.cases;
          consts = keep_consts (New h) f.result (body_of h) kinds plain;
          lengths = unmoved_lengths f h m g.lengths;
          initialised = unmoved_initialised f h m g.initialised;
          untangled = counted_none (has_jumps (without_strays (body_of h))) _ _ (jumps_stay (body_of h) ∙ no_jumps (body_of h) plain);
        }

  declared_function : (f : Function) → f.body ≡ None → IsResolvedFunction counts p.tops f → IsResolvedFunction flat_counts us f
  declared_function f e g =
      let nothing : body_of f ≡ Nil = ap (λ o. option_map_or trees_of o Nil) e in
      let plain = subst (Everywhere IsPlainItem) (sym nothing) tt in
      record {
        form = g.form;
        kinds = subst (Everywhere (ItemAgrees (New f))) (sym nothing) tt;
        returns = g.returns;
        cases = g.cases;
        consts = subst (Everywhere (KeepsConsts (New f))) (sym nothing) tt;
        lengths = g.lengths;
        initialised = g.initialised;
        untangled = counted_none (has_jumps (without_strays (body_of f))) _ _ (jumps_stay (body_of f) ∙ no_jumps (body_of f) plain);
      }

  -- ---- constants and variables of the file

  constant_over : (e : ExpressionTree) → IsConstantOf p.tops e → IsConstantOf us e
  constant_over e h =
      let n : Names = record { tops = p.tops; slots = [] } in
      let k : Names = record { tops = us; slots = [] } in
      (h.0, kinds_over n k (names_kept n k (keeps_self []) (λ m. global_over m same) (λ m. callee_over m [] [] same)) e h.1)

  next_over : (before : ℤ) (x : EnumItem) (o : Option Expression) → HasNextValue p.tops before x o → HasNextValue us before x o
  next_over before x None h = h
  next_over before x (Some e) h = (constant_over (expression_tree e) h.0, h.1)

  values_over : (before : ℤ) (xs : List EnumItem) → HaveValues p.tops before xs → HaveValues us before xs
  values_over before [] h = tt
  values_over before (x ∷ xs) h = (next_over before x x.given h.0, h.1, values_over x.value xs h.2)

  each_constant : (es : List ExpressionTree) → Each (IsConstantOf p.tops) es → Each (IsConstantOf us) es
  each_constant [] h = tt
  each_constant (e ∷ es) h = (constant_over e h.0, each_constant es h.1)

  given_over : (o : Option (List ExpressionTree)) → IfSome o (Each (IsConstantOf p.tops)) → IfSome o (Each (IsConstantOf us))
  given_over None h = tt
  given_over (Some es) h = each_constant es h

  global_top : (g : GlobalVariable) (o : Option (List ExpressionTree)) → IsGlobal p.tops g o → IsGlobal us g o
  global_top g o h = record { length = h.length; values = h.values; constant = given_over o h.constant }

  other_top : (t : Top) → IsNoFunction t → IsResolvedTop counts p.tops t → IsResolvedTop flat_counts us t
  other_top (T.Function f) n h = absurd n
  other_top (T.Include bytes) n h = tt
  other_top (T.Enum xs) n h = values_over _ xs h
  other_top (T.Global g) n h = global_top g _ h
  other_top (T.Note bytes) n h = tt

  top_resolved : {Own : Function → Function → Type 0} {t u : Top} → PlainTop Own t u → IsTopInRange u → IsResolvedTop counts p.tops t →
      IsResolvedTop flat_counts us u
  top_resolved (pt_moved {f = f} {h = h} m o) range g = moved_function f h g m range
  top_resolved (pt_unmoved {f = f} {h = h} m) range g = unmoved_function f h g m
  top_resolved (pt_declared f e) range g = declared_function f e g
  top_resolved (pt_other t n) range g = other_top t n g

  pub tops_resolved : {Own : Function → Function → Type 0} {ts vs : List Top} → PlainTops Own ts vs → Each IsTopInRange vs →
      Each (IsResolvedTop counts p.tops) ts → Each (IsResolvedTop flat_counts us) vs
  tops_resolved pt_none range g = tt
  tops_resolved (pt_more t s) range g = (top_resolved t range.0 g.0, tops_resolved s range.1 g.1)
