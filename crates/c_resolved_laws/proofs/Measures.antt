-- The flat form of a body has as many gotos and labels as the one by which it is measured, whatever its slots and labels are.
use Rattle.std.proofs.Common.{◌≡◌, ℕ, List, [], length, refl, sym, ap, ◌∙◌}
use Rattle.c_tree.specs.declared.tree.Slot.{Slot}
use Rattle.c_tree.specs.Everywhere.{total}
use Rattle.c_tree.specs.Numerals.{constant}
use Rattle.c_tree.specs.Trees.{Tree, Forest, Goto}
use Rattle.flat_laws.specs.Pieces.{Stays}
use Rattle.flat_laws.specs.Loose.{NoArrival}
use Rattle.flat_laws.specs.FlatForm.{Plan, coded, numbered, first_here, flat, flat_body, marks}
use Rattle.flat_laws.specs.FlatWellMadeLaws.{label_count}
use Rattle.flat_laws.proofs.SameCounts.{stays, no_arrival, weight, flat_same, marks_counted}
use Rattle.c_resolved_laws.specs.Counts.{goto_of, measured_form}

goto_weighs : (x : Tree) → goto_of x ≡ weight 1 0 x
goto_weighs (Goto l) = refl
goto_weighs _ = refl

pub goto_weights : (a : Forest) → total goto_of a ≡ total (weight 1 0) a
goto_weights a = ap (λ (f : Tree → ℕ). total f a) (λ i x. goto_weighs x i)

module _ (slots : List Slot) (n : ℕ) (body : Forest) where
  abbrev own : Plan
  own = coded constant slots n body

  -- the labels have the numbers of their codes
  abbrev by_codes : Forest
  by_codes = flat own (first_here (length slots)) Stays Stays NoArrival body

  abbrev measuring : Plan
  measuring =
      let c = coded constant [] (length (marks body)) body in
      numbered (marks (flat c (first_here 0) Stays Stays NoArrival body)) c

  codes_weigh : (gotos labels : ℕ) → total (weight gotos labels) by_codes ≡ total (weight gotos labels) (measured_form body)
  codes_weigh gotos labels =
      let p = own in
      let q = measuring in
      flat_same gotos labels p.live p.source q.source p.break_label q.break_label p.continue_label q.continue_label p.default_label q.default_label
      p.case_label q.case_label slots [] constant constant (first_here (length slots))
      (first_here 0) body stays stays no_arrival

  form_weighs : (gotos labels : ℕ) → total (weight gotos labels) (flat_body constant slots n body) ≡ total (weight gotos labels) (measured_form body)
  form_weighs gotos labels =
      let p = numbered (marks by_codes) own in
      let q = measuring in
      flat_same gotos labels p.live p.source q.source p.break_label q.break_label p.continue_label q.continue_label p.default_label q.default_label
      p.case_label q.case_label slots [] constant constant (first_here (length slots))
      (first_here 0) body stays stays no_arrival

  pub same_labels : label_count slots n body ≡ length (marks (measured_form body))
  same_labels = marks_counted by_codes ∙ codes_weigh 0 1 ∙ sym (marks_counted (measured_form body))

  pub same_gotos : total goto_of (flat_body constant slots n body) ≡ total goto_of (measured_form body)
  same_gotos = goto_weights (flat_body constant slots n body) ∙ form_weighs 1 0 ∙ sym (goto_weights (measured_form body))
