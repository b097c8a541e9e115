-- A program is rewritten in one way.
use Rattle.std.proofs.Common.{◌≡◌, true, true≢false, List, ◌∷◌, ◌++◌, Some, refl, sym, ap, subst, ◌∙◌}
use Rattle.c_copies.specs.Names.{names, file_names}
use Rattle.c_tree.specs.declared.tree.Function.{Function}
use Rattle.c_tree.specs.declared.tree.Top.{Top}
use Rattle.c_tree.specs.declared.tree.Top.TheVariants as T
use Rattle.c_tree.specs.declared.tree.Program.{Program}
use Rattle.move_order_laws.specs.Derivations.{Derives}
use Rattle.move_order_laws.specs.Naming.{all_named}
use Rattle.move_order_laws.proofs.OneDerivation.{unique}
use Rattle.guard_simplify.specs.Application.{Reaches}
use Rattle.guard_simplify.specs.Naming.{choices_named}
use Rattle.guard_vars.specs.Conversion.{converted, converted_list}
use Rattle.move_laws.specs.Bodies.{with_body}
use Rattle.report_moves.specs.declared.moves.Move.{Move}
use Rattle.move_order_laws.specs.Moved.{IsMoved, MovedTop, mt_moved, mt_other, MovedTops, mt_none, mt_more}
use Rattle.c_resolved_laws.specs.Counts.{flat_counts, IsResolved}
use Rattle.whole_laws.proofs.Chains.{IsConvertible, AreConvertible}
use Rattle.whole_laws.proofs.FlatPrograms.{flat_program}
use Rattle.whole_laws.proofs.Source.{resolved_source}
use Rattle.restructure_laws.specs.WholeNamesLaws.{IsRewrittenWithNames}
use Rattle.restructure_laws.proofs.NamedTops.{named_program_laws}
use Rattle.restructure_laws.specs.WholeUniqueLaws.{OneRewritingLaws}
use Rattle.restructure_laws.proofs.Items.{same_items}
use Rattle.restructure_laws.proofs.Flat.{one_flat}
use Rattle.restructure_laws.proofs.Simple.{one_simple}

-- ---- moves

one_function : (f g h : Function) (ms ns : List Move) → IsConvertible (T.Function f) → f.flat ≡ true → IsMoved f g ms → IsMoved f h ns → (g ≡ h) × (ms ≡ ns)
one_function f g h ms ns c flat v w =
    let there : Some v.body ≡ Some w.body = sym v.body_is ∙ w.body_is in
    let body : v.body ≡ w.body = cc in
    let d = unique (converted_list v.body) v.moves w.moves v.middle w.middle (c flat v.body v.body_is) v.derives
    (subst (λ b. Derives (converted_list b) w.moves w.middle) (sym body) w.derives) in
    let s = one_simple v.middle v.new w.new v.choices w.choices v.reaches (subst (λ b. Reaches b w.choices w.new) (sym d.1) w.reaches) v.simple w.simple in (
      v.result ∙ ap (with_body (converted f)) s.1 ∙ sym w.result,
      v.made ∙
          (λ i. all_named f.name f.labels (d.0 i) ++ choices_named f.name f.labels (s.0 i)) ∙ sym w.made,
    )

one_top : {t u v : Top} {ms ns : List Move} → IsConvertible t → MovedTop t u ms → MovedTop t v ns → (u ≡ v) × (ms ≡ ns)
one_top c (mt_moved {f = f} {g = g} {ms = ms} flat m) (mt_moved {g = h} {ms = ns} also n) = let k = one_function f g h ms ns c flat m n in
    (ap T.Function k.0, k.1)
one_top c (mt_moved flat m) (mt_other t unflat) = absurd (true≢false (sym flat ∙ unflat))
one_top c (mt_other t unflat) (mt_moved flat m) = absurd (true≢false (sym flat ∙ unflat))
one_top c (mt_other t unflat) (mt_other u also) = (refl, refl)

one_moved : {ts us vs : List Top} {ms ns : List Move} → AreConvertible ts → MovedTops ts us ms → MovedTops ts vs ns → (us ≡ vs) × (ms ≡ ns)
one_moved c mt_none mt_none = (refl, refl)
one_moved c (mt_more v vs) (mt_more w ws) =
    let h = one_top c.0 v w in
    let k = one_moved c.1 vs ws in
    ((λ i. h.0 i ∷ k.0 i), (λ i. h.1 i ++ k.1 i))

-- ---- the whole

one_program : (p q r : Program) (ms ns : List Move) → IsResolved p → IsRewrittenWithNames p q ms → IsRewrittenWithNames p r ns → (q ≡ r) × (ms ≡ ns)
one_program p q r ms ns s v w =
    let flat = one_flat (names p) (file_names p) v.flattened w.flattened in
    let f = flat_program p v.flat (resolved_source flat_counts p s)
    (named_program_laws.flat (names p) (file_names p) flat_counts p v.flat.tops s v.flattened) in
    let k = one_moved f.convertible v.moved (subst (λ ts. MovedTops ts r.tops ns) (sym flat) w.moved) in
    ((λ i. record { tops = k.0 i }), k.1)

pub one_rewriting_laws : OneRewritingLaws
one_rewriting_laws = record {
  items = same_items;
  flat = λ names file ts us vs v w. one_flat names file v w;
  simple = one_simple;
  rewritten = one_program;
}
