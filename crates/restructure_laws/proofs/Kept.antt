-- The skeleton of each function is kept, and a function without jumps loses its labels.
use Rattle.std.proofs.Common.{◌≡◌, ℕ, inl, inr, eqb, false, List, [], map, Some, refl, sym, ap, subst, ◌∙◌}
use Rattle.c_tree.specs.declared.tree.Item.{Item}
use Rattle.c_tree.specs.declared.tree.Function.{Function}
use Rattle.c_tree.specs.declared.tree.Top.{Top}
use Rattle.c_tree.specs.declared.tree.Top.TheVariants as T
use Rattle.c_tree.specs.Conversions.{convert}
use Rattle.c_tree.specs.Everywhere.{Everywhere}
use Rattle.c_tree.specs.InRange.{body_of}
use Rattle.c_tree.specs.Trees.{trees_of}
use Rattle.c_tree.specs.WellMade.{IsConverted, IsWellMade}
use Rattle.move_order_laws.proofs.ConvertedTrees.{converted_trees}
use Rattle.c_resolved_defs.specs.Limits.{FlatCounts}
use Rattle.move_order_laws.proofs.OneDerivation.{well_made_derived}
use Rattle.flat_laws.specs.Unlabelled.{unlabelled}
use Rattle.guard_simplify.specs.declared.choice.Choice.{Choice}
use Rattle.guard_simplify.specs.Choice.{choices}
use Rattle.guard_simplify.specs.Application.{Reaches, none, then}
use Rattle.guard_simplify.proofs.Members.{in_first}
use Rattle.guard_simplify.proofs.Next.{choice_laws}
use Rattle.guard_vars.specs.Conversion.{converted_list}
use Rattle.report_moves.specs.declared.moves.Move.{Move}
use Rattle.move_order_laws.specs.Moved.{IsMoved}
use Rattle.plain_laws.specs.Plain.{tidied, plain_function, plain_top}
use Rattle.plain_laws.specs.Tidied.{tidy}
use Rattle.plain_laws.proofs.TidyTrees.{tidied_trees}
use Rattle.whole_laws.proofs.PlainTops.{no_body, other_plain}
use Rattle.move_order_laws.specs.Skeletons.{skeleton}
use Rattle.move_order_laws.proofs.Laws.{skeleton_laws}
use Rattle.whole_laws.specs.Rewritten.{IsFlatForm, IsUnlabelledForm}
use Rattle.guard_simplify.proofs.Applied.{IsSimplified, chosen_simplified}
use Rattle.whole_laws.proofs.Flattened.{body_is, flat_trees, flat_converted}
use Rattle.whole_laws.proofs.Source.{IsSourceFunction}
use Rattle.restructure_laws.specs.EachPlace.{AtEachPlace}
use Rattle.restructure_laws.specs.Skeletons.{flat_form, IsWithoutLabels, IsKept, keeps_skeleton, loses_labels, stays_declared, stays}
use Rattle.restructure_laws.specs.WholeBoundsLaws.{SkeletonsAreKept}
use Rattle.restructure_laws.proofs.Placed.{Placed, is_moved, is_left, is_declared, is_other, AllPlaced, none_placed, more_placed, placed, plain_left}

-- ---- simplifications

next_skeleton : (old new : List Item) → IsSimplified old new → Everywhere IsConverted (trees_of old) → Everywhere IsConverted (trees_of new) →
    skeleton (trees_of new) ≡ skeleton (trees_of old)
next_skeleton old new s h k = elim s.either [
  | inl r ↦ skeleton_laws.simplified (trees_of old) (trees_of new) h k r
  | inr g ↦ ap skeleton g.1 ∙ skeleton_laws.dropped (eqb g.0) (trees_of old) h
]

reached_skeleton : {old : List Item} {cs : List Choice} {new : List Item} → Reaches old cs new → IsWellMade (trees_of old) →
    skeleton (trees_of new) ≡ skeleton (trees_of old)
reached_skeleton none w = refl
reached_skeleton {old = old} (then {cs = cs} {body = body} {new = new} c r n) w =
    let among = in_first (choices (trees_of body)) c n.next in
    let made = choice_laws.reached_made old body cs r w in
    let after = choice_laws.made c body new among n.applied made in
    next_skeleton body new (chosen_simplified c body new among n.applied) made.converted after.converted ∙ reached_skeleton r w

-- ---- functions

-- where all moves start
pub start_trees : (g k : Function) (ms : List Move) (m : IsMoved g k ms) → trees_of (converted_list m.body) ≡ convert (body_of g)
start_trees g k ms m = converted_trees m.body ∙ ap convert (sym (body_is g m.body m.body_is))

pub start_made : (f g k : Function) (ms : List Move) → IsSourceFunction f → IsFlatForm f g → (m : IsMoved g k ms) →
    IsWellMade (trees_of (converted_list m.body))
start_made f g k ms s w m = subst IsWellMade (sym (start_trees g k ms m)) (flat_converted f g s w)

moved_skeleton : (f g k : Function) (ms : List Move) → IsSourceFunction f → IsFlatForm f g → IsMoved g k ms → skeleton (body_of k) ≡ skeleton (flat_form f)
moved_skeleton f g k ms s w m =
    let made = start_made f g k ms s w m in
    ap (λ (j : Function). skeleton (body_of j)) m.result
    ∙ reached_skeleton m.reaches (well_made_derived m.derives made)
    ∙ skeleton_laws.derived (converted_list m.body) m.moves m.middle made m.derives
    ∙ ap skeleton (start_trees g k ms m)
    ∙ skeleton_laws.converted (body_of g)
    ∙ ap skeleton (flat_trees f g s w)

without_labels : (ns : List (List ℕ)) (f g : Function) → f.flat ≡ false → IsUnlabelledForm f g → IsWithoutLabels f (plain_function ns g)
without_labels ns f g u w =
    let name = w.name in
    let result = w.result in
    let params = w.params in
    let file_only = w.file_only in
    let slots = w.slots in
    let labels = w.labels in
    let flat : f.flat ≡ g.flat = u ∙ sym w.flat in
    let same : record g { body = Some (tidied w.new) } ≡ record f { labels = []; body = Some (tidied w.new) } = cc in
    record {
      body = tidied w.new;
      trees = tidied_trees w.new ∙ ap tidy (w.trees ∙ ap unlabelled (sym (body_is f w.old w.old_body)));
      whole = plain_left ns f g w ∙ same;
    }

-- ---- each place

module _ (counts : FlatCounts) (tops : List Top) (names : Function → List (List ℕ)) where
  kept : {t u v : Top} {ms : List Move} → Placed counts tops t u v ms → IsKept t v (plain_top names v)
  kept (is_moved {f = f} {g = g} {k = k} {ms = ms} n jumps w m) = keeps_skeleton jumps (moved_skeleton f g k ms n.source w m)
  kept (is_left {f = f} {g = g} n free w) = loses_labels free (without_labels (names g) f g n.source.unflat w)
  kept (is_declared f n e) = subst (λ k. IsKept (T.Function f) (T.Function f) (T.Function k)) (sym (no_body (names f) f e)) (stays_declared f e)
  kept (is_other t n) = subst (IsKept t t) (sym (other_plain names t n)) (stays t n)

  all_kept : {ts us vs : List Top} {ms : List Move} → AllPlaced counts tops ts us vs ms → AtEachPlace IsKept ts vs (map (plain_top names) vs)
  all_kept none_placed = tt
  all_kept (more_placed s r) = (kept s, all_kept r)

pub skeletons_are_kept : SkeletonsAreKept
skeletons_are_kept counts names p q ms r w = all_kept counts p.tops names (placed counts p r q ms w)
