-- The plain form of a function has few guards.
use Rattle.std.proofs.Common.{◌≡◌, ℕ, ◌+◌, ◌*◌, ◌≤◌, true, cond, List, [], ◌++◌, map, length, sym, ap, ◌∙◌, arith, append-nil}
use Rattle.std.specs.List.{AllByRecursion}
use Rattle.std.proofs.lemmas.List.Elements.{recursion_from_All}
use Rattle.c_tree.specs.declared.tree.Function.{Function}
use Rattle.c_tree.specs.declared.tree.Top.{Top}
use Rattle.c_tree.specs.declared.tree.Top.TheVariants as T
use Rattle.c_tree.specs.Everywhere.{total}
use Rattle.c_tree.specs.InRange.{body_of}
use Rattle.c_resolved_defs.specs.Form.{HasForm}
use Rattle.c_resolved_defs.specs.Limits.{FlatCounts}
use Rattle.flat_laws.specs.Parts.{has_jumps}
use Rattle.flat_laws.specs.FlatWellMadeLaws.{label_count}
use Rattle.guard_vars.specs.Conversion.{converted}
use Rattle.move_laws.specs.Bodies.{with_body}
use Rattle.report_moves.specs.declared.moves.Move.{Move}
use Rattle.move_order_laws.specs.Moved.{IsMoved}
use Rattle.plain_laws.specs.Plain.{guard_slot, names_left, plain_function, plain_top}
use Rattle.plain_laws.proofs.TheLaws.{plain_laws}
use Rattle.whole_laws.proofs.PlainTops.{plain_flat, no_body}
use Rattle.whole_laws.specs.WholeLaws.{IsTopNamed}
use Rattle.whole_laws.specs.Rewritten.{IsFlatForm, IsUnlabelledForm, IsNoFunction}
use Rattle.whole_laws.proofs.Flattened.{body_is}
use Rattle.restructure_laws.specs.EachPlace.{AtEachPlace}
use Rattle.restructure_laws.specs.Guards.{loop_of, switch_of, scattered_of, most_guards, HasGuards, HasFewGuards}
use Rattle.restructure_laws.specs.WholeBoundsLaws.{GuardsAreFew}
use Rattle.restructure_laws.proofs.LabelCounts.{few_labels}
use Rattle.restructure_laws.proofs.Placed.{Placed, is_moved, is_left, is_declared, is_other, AllPlaced, none_placed, more_placed, placed, plain_left}

-- with jumps, there is at most one for each label of the flat form

abbrev all_labels : Function → ℕ
all_labels f = length f.labels + total switch_of (body_of f) + 2 * total loop_of (body_of f) + total scattered_of (body_of f)

most_with : (f : Function) → has_jumps (body_of f) ≡ true → most_guards f ≡ all_labels f
most_with f e = ap (λ b. cond b (all_labels f) 0) e

flat_labels : (f g : Function) → HasForm f → IsFlatForm f g → length g.labels ≤ all_labels f
flat_labels f g form w =
    let same = ap (label_count f.slots (length f.labels)) (sym (body_is f w.old w.old_body)) in
    let labels = w.labels in
    let few = few_labels f.slots (length f.labels) (body_of f) form.labels in
    omega (arith, same, labels, few)

moved_guards : (ns : List (List ℕ)) (f g k : Function) (ms : List Move) → HasForm f → has_jumps (body_of f) ≡ true → IsFlatForm f g → IsMoved g k ms →
    length ns ≡ length k.labels → HasGuards (most_guards f) k (plain_function ns k)
moved_guards ns f g k ms form jumps w m named =
    let plain = ap (plain_function ns) m.result ∙ plain_flat ns (with_body (converted g) m.new) m.new w.flat in
    let few = plain_laws.few m.new ns in
    let labels = ap (λ (j : Function). length j.labels) m.result in
    let flat = flat_labels f g form w in
    let most = most_with f jumps in
    record {
      guards = names_left m.new 0 ns;
      slots = ap (λ (j : Function). j.slots) plain ∙ ap (λ ss. ss ++ map guard_slot (names_left m.new 0 ns)) (sym (ap (λ (j : Function). j.slots) m.result));
      few = omega (arith, few, named, labels, flat, most);
    }

-- else there is none
no_guards : (n : ℕ) (g h : Function) → h.slots ≡ g.slots → HasGuards n g h
no_guards n g h e = record { guards = []; slots = e ∙ sym (append-nil g.slots); few = omega arith }

left_guards : (n : ℕ) (ns : List (List ℕ)) (f g : Function) → IsUnlabelledForm f g → HasGuards n g (plain_function ns g)
left_guards n ns f g w = no_guards n g (plain_function ns g) (ap (λ (j : Function). j.slots) (plain_left ns f g w))

-- ---- each place

module _ (counts : FlatCounts) (tops : List Top) (names : Function → List (List ℕ)) where
  other_guards : (t u : Top) → IsNoFunction t → HasFewGuards t t u
  other_guards (T.Function f) u n = absurd n
  other_guards _ u n = tt

  few_in_top : {t u v : Top} {ms : List Move} → Placed counts tops t u v ms → IsTopNamed names v → HasFewGuards t v (plain_top names v)
  few_in_top (is_moved {f = f} {g = g} {k = k} {ms = ms} n jumps w m) named = moved_guards (names k) f g k ms n.resolved.form jumps w m named
  few_in_top (is_left {f = f} {g = g} n free w) named = left_guards (most_guards f) (names g) f g w
  few_in_top (is_declared f n e) named = no_guards (most_guards f) f (plain_function (names f) f) (ap (λ (j : Function). j.slots) (no_body (names f) f e))
  few_in_top (is_other t n) named = other_guards t (plain_top names t) n

  few_in_tops : {ts us vs : List Top} {ms : List Move} → AllPlaced counts tops ts us vs ms → AllByRecursion (IsTopNamed names) vs →
      AtEachPlace HasFewGuards ts vs (map (plain_top names) vs)
  few_in_tops none_placed named = tt
  few_in_tops (more_placed s r) named = (few_in_top s named.0, few_in_tops r named.1)

pub guards_are_few : GuardsAreFew
guards_are_few counts names p q ms r w named = few_in_tops counts p.tops names (placed counts p r q ms w) (recursion_from_All (IsTopNamed names) q.tops named)
