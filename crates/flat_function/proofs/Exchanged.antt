-- A program in which a function of a resolved program is flattened.
use Rattle.std.proofs.Common.{◌≡◌, true≢false, ℕ, List, [], ◌∷◌, Some, refl, sym, ap, subst, ◌∙◌}
use Rattle.std.specs.List.{AllByRecursion}
use Rattle.std.specs.Option.{option_map_or}
use Rattle.std.specs.Prelude.{option_map}
use Rattle.std.proofs.lemmas.List.Elements.{All-from_recursion, recursion_from_All, All-contains}
use Rattle.c_tree.specs.declared.tree.Function.{Function}
use Rattle.c_tree.specs.declared.tree.Item.{Item}
use Rattle.c_tree.specs.declared.tree.Top.{Top}
use Rattle.c_tree.specs.declared.tree.Top.TheVariants as T
use Rattle.c_tree.specs.declared.tree.Program.{Program}
use Rattle.c_tree.specs.InRange.{body_of, IsTopInRange}
use Rattle.c_tree.specs.Trees.{Nil, trees_of}
use Rattle.c_tree.specs.WellMade.{IsWellMade}
use Rattle.c_tree.specs.Conversions.{convert}
use Rattle.guard_vars.specs.Conversion.{converted, converted_list}
use Rattle.move_order_laws.proofs.ConvertedTrees.{converted_trees}
use Rattle.jump_meaning.specs.Runs.{BehaveTheSame}
use Rattle.jump_meaning.specs.Steady.{IsTopMadeWell, IsSteady}
use Rattle.flat_laws.specs.Loose.{LooserTop, lt_same, lt_function, LooserTops, lt_none, lt_more}
use Rattle.flat_laws.proofs.Lifted.{loose_laws}
use Rattle.c_resolved_laws.specs.Counts.{flat_counts}
use Rattle.c_resolved_defs.specs.Resolved.{IsResolvedFunction, IsResolvedTop}
use Rattle.whole_laws.specs.Rewritten.{FlatTop, ft_flat, ft_unlabelled, ft_declared, ft_other, IsNoFunction}
use Rattle.whole_laws.proofs.Source.{IsSourceTop, source_function}
use Rattle.whole_laws.proofs.Flattened.{body_is, flat_looser, flat_ranged, flat_made, flat_converted, unlabelled_looser, left_ranged, left_made}
use Rattle.flat_form.specs.Flattened.{IsFlattenedBeside}
use Rattle.flat_function.proofs.Forms.{flattened}
use Rattle.move_order_laws.specs.Exchanged.{OneFunctionExchanged, this_function, later_function, KeepsBehaviour, IsConvertible}
use Rattle.flat_function.specs.Behaviour.{IsOfResolved}

-- ---- one function

abbrev IsConversionMade : Top → Type 0
IsConversionMade (T.Function g) = IsConvertible g
IsConversionMade _ = Unit {0}

-- u can stand in the place of t in every program
record IsGoodExchange (t u : Top) : Type 0 where
  pub looser : LooserTop t u
  pub ranged : IsTopInRange t → IsTopInRange u
  pub made : IsTopMadeWell t → IsTopMadeWell u
  pub convertible : IsConversionMade u

conversion_made : (g : Function) (new : List Item) → g.body ≡ Some new → IsWellMade (convert (body_of g)) → IsWellMade (body_of (converted g))
conversion_made g new e h = subst IsWellMade (ap convert (body_is g new e) ∙ sym (converted_trees new) ∙
    sym (ap (λ o. option_map_or trees_of (option_map converted_list o) Nil) e)) h

no_conversion : (t : Top) → IsNoFunction t → IsConversionMade t
no_conversion (T.Function f) n = absurd n
no_conversion _ n = tt

good_exchange : {t u : Top} → IsSourceTop t → FlatTop t u → IsGoodExchange t u
good_exchange s (ft_flat {f = f} {g = g} jumps w) = record {
  looser = lt_function w.name (flat_looser f g s w);
  ranged = λ r. flat_ranged f g s w;
  made = λ m. flat_made f g s w;
  convertible = λ e. conversion_made g w.new w.new_body (flat_converted f g s w);
}
good_exchange s (ft_unlabelled {f = f} {g = g} free w) = record {
  looser = lt_function w.name (unlabelled_looser f g s free w);
  ranged = λ r. left_ranged f g s free w;
  made = λ m. left_made f g s free w;
  convertible = λ e. absurd (true≢false (sym e ∙ w.flat));
}
good_exchange s (ft_declared f e) = record {
  looser = lt_same refl;
  ranged = λ r. r;
  made = λ m. m;
  convertible = λ flat. absurd (true≢false (sym flat ∙ s.unflat));
}
good_exchange s (ft_other t n) = record { looser = lt_same refl; ranged = λ r. r; made = λ m. m; convertible = no_conversion t n }

-- ---- all that stands at file scope

module _ (f g : Function) where
  exchanged : (P : Top → Type 0) → (P (T.Function f) → P (T.Function g)) → {ts us : List Top} → OneFunctionExchanged f g ts us → AllByRecursion P ts →
      AllByRecursion P us
  exchanged P k (this_function ts) h = (k h.0, h.1)
  exchanged P k (later_function t r) h = (h.0, exchanged P k r h.1)

  same_tops : (ts : List Top) → LooserTops ts ts
  same_tops [] = lt_none
  same_tops (t ∷ ts) = lt_more (lt_same refl) (same_tops ts)

  looser_tops : LooserTop (T.Function f) (T.Function g) → {ts us : List Top} → OneFunctionExchanged f g ts us → LooserTops ts us
  looser_tops w (this_function ts) = lt_more w (same_tops ts)
  looser_tops w (later_function t r) = lt_more (lt_same refl) (looser_tops w r)

  programs_kept : IsGoodExchange (T.Function f) (T.Function g) → (p q : Program) → OneFunctionExchanged f g p.tops q.tops → IsSteady p →
      IsSteady q × BehaveTheSame p q
  programs_kept h p q x s =
      loose_laws.of_programs p q
      (All-from_recursion IsTopInRange q.tops (exchanged IsTopInRange h.ranged x (recursion_from_All IsTopInRange p.tops s.ranged)))
      (All-from_recursion IsTopMadeWell q.tops (exchanged IsTopMadeWell h.made x (recursion_from_All IsTopMadeWell p.tops s.made)))
      (looser_tops h.looser x) s

-- ---- a function of a resolved program

resolved_function : (f : Function) (r : IsOfResolved f) → IsResolvedFunction flat_counts r.program.tops f
resolved_function f r =
    let P = IsResolvedTop flat_counts r.program.tops in
    All-contains P r.program.tops (T.Function f) (All-from_recursion P r.program.tops r.resolved.tops) r.there

flattened_good : (used taken : List (List ℕ)) (f g : Function) → IsFlattenedBeside used taken f g → IsOfResolved f →
    IsGoodExchange (T.Function f) (T.Function g)
flattened_good used taken f g w r =
    let h = resolved_function f r in
    let s : IsSourceTop (T.Function f) = source_function flat_counts r.program r.resolved f h in
    good_exchange s (flattened used taken f g s.unflat h.form.parameters w)

pub flattened_keeps : (used taken : List (List ℕ)) (f g : Function) → IsFlattenedBeside used taken f g → IsOfResolved f → KeepsBehaviour f g
flattened_keeps used taken f g w r = record { programs = programs_kept f g (flattened_good used taken f g w r) }

pub flattened_convertible : (used taken : List (List ℕ)) (f g : Function) → IsFlattenedBeside used taken f g → IsOfResolved f → IsConvertible g
flattened_convertible used taken f g w r = (flattened_good used taken f g w r).convertible
