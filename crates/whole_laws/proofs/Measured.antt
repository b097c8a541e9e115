-- The plain form of a function with jumps of a resolved program has few counted tokens, since the function isn't too tangled.
use Rattle.std.proofs.Common.{◌≡◌, ℕ, ◌+◌, ◌*◌, ◌≤◌, ◌<◌, Bool, true, false, cond, List, length, Some, None, sym, ap, ◌∙◌, arith, subst}
use Rattle.std.specs.Prelude.{IfSome}
use Rattle.c_tree.specs.declared.tree.Slot.{Slot}
use Rattle.c_tree.specs.declared.tree.Function.{Function}
use Rattle.c_tree.specs.declared.tree.Top.{Top}
use Rattle.c_tree.specs.Everywhere.{total, Everywhere}
use Rattle.c_tree.specs.InRange.{body_of}
use Rattle.c_tree.specs.Numerals.{constant}
use Rattle.c_tree.specs.Slots.{ItemSlots}
use Rattle.c_tree.specs.Trees.{Forest}
use Rattle.flat_laws.specs.Pieces.{Stays}
use Rattle.flat_laws.specs.Loose.{NoArrival}
use Rattle.flat_laws.specs.Parts.{has_jumps, jumps_of}
use Rattle.flat_laws.specs.FlatForm.{coded, numbered, first_here, flat, flat_body, marks}
use Rattle.flat_laws.specs.FlatWellMadeLaws.{IsGoodSource, label_count}
use Rattle.flat_laws.proofs.WellMade.{made_laws}
use Rattle.whole_laws.proofs.Flattened.{body_is}
use Rattle.c_resolved_defs.specs.Limits.{most_counted, IsWithinLimits}
use Rattle.c_resolved_defs.specs.PrintableStatements.{most}
use Rattle.c_resolved_defs.specs.Resolved.{IsResolvedFunction}
use Rattle.c_resolved_laws.specs.Counts.{counts_of, measured_form, flat_counts}
use Rattle.c_resolved_laws.proofs.Counted.{counted_plainly}
use Rattle.c_resolved_laws.proofs.GoodSource.{good_source, some_there}
use Rattle.c_resolved_laws.proofs.Measures.{same_labels}
use Rattle.c_resolved_laws.proofs.Ranged.{function_ranged}
use Rattle.whole_laws.proofs.FewCounted.{moved_few}
use Rattle.whole_laws.proofs.JumpsKept.{jumps_kept, some_label}
use Rattle.whole_laws.proofs.PlainTops.{IsMovedForm, IsDerivedForm}

pub has_label : (slots : List Slot) (n : ℕ) (body : Forest) → IsGoodSource n body → Everywhere (ItemSlots (λ x. x < length slots)) body →
    has_jumps body ≡ true → 0 < label_count slots n body
has_label slots n body good ranged jumps =
    let p = coded constant slots n body in
    let q = numbered (marks (flat p (first_here (length slots)) Stays Stays NoArrival body)) p in
    let kept = jumps_kept q (first_here (length slots)) Stays Stays NoArrival body in
    let there = some_there (total jumps_of body) jumps in
    some_label (label_count slots n body) (flat_body constant slots n body) (made_laws.ranges slots n body good ranged).labels (omega (arith, kept, there))

with_jumps : (b : Bool) (n : ℕ × ℕ) (P : ℕ × ℕ → Type 0) → b ≡ true → IfSome (cond b (Some n) None) P → P n
with_jumps true n P e h = h
with_jumps false n P e h = cc

module _ (ts : List Top) (f h : Function) (g : IsResolvedFunction flat_counts ts f) (d : IsDerivedForm f h) where
  abbrev m : IsMovedForm f h
  m = d.form

  pub limits : IsWithinLimits f (counts_of (measured_form (body_of f)))
  limits = with_jumps (has_jumps (body_of f)) (counts_of (measured_form (body_of f))) (IsWithinLimits f) m.jumps
      (subst (λ o. IfSome o (IsWithinLimits f)) (counted_plainly flat_counts ts f g) g.untangled)

  labels_are : length m.flat_form.labels ≡ label_count f.slots (length f.labels) (body_of f)
  labels_are = m.is_flat.labels ∙ ap (label_count f.slots (length f.labels)) (sym (body_is f m.is_flat.old m.is_flat.old_body))

  -- six counted tokens more for each label of the flat form
  pub moved_counts : most_counted (body_of h) ≤ most_counted (body_of f) + 6 * (counts_of (measured_form (body_of f))).1
  moved_counts =
      let some = has_label f.slots (length f.labels) (body_of f) (good_source flat_counts ts f g) (function_ranged flat_counts ts f g).slots m.jumps in
      let same = same_labels f.slots (length f.labels) (body_of f) in
      let few = moved_few f h m g.form.parameters g.form.items (omega (arith, some, labels_are)) d.simple in
      omega (arith, few, same, labels_are)

  pub within_counts : most_counted (body_of h) ≤ most
  within_counts = let counted = limits.counted in let few = moved_counts in omega (arith, counted, few)
