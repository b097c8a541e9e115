-- Functions, with their slots, labels and items.
use Rattle.std.proofs.Common.{◌≡◌, ℕ, List, [], ◌++◌, map, Option, Some, None, refl, ap, sym, ◌∙◌, append-nil}
use Rattle.std.specs.Prelude.{option_map}
use Rattle.c_grammar.specs.Items.{Body, Braces, Lone}
use Rattle.c_grammar.specs.Tops.{Function}
use Rattle.c_kinds.specs.Scopes.{Scope}
use Rattle.c_statements.specs.declared.anchors.Anchor.{Anchor}
use Rattle.c_statements.specs.declared.anchors.Anchor.TheVariants.{AtEnd}
use Rattle.c_statements.specs.Context.{Walk}
use Rattle.c_statements.specs.Context.{number_in}
use Rattle.c_statements.specs.Labels.{body_labels}
use Rattle.c_statements.specs.Functions.{parameter_slot, function, context, items_within, behind_within}
use Rattle.c_statements.specs.Functions as walked
use Rattle.c_kinds.specs.Typing.{typed}
use Rattle.c_reading_defs.specs.Scopes.{Identifier}
use Rattle.c_reading_defs.specs.Places.{Place}
use Rattle.c_reading_defs.specs.Labels.{InFunction, notes_at, each_once, label_number}
use Rattle.c_reading_defs.specs.Variables.{variables_of}
use Rattle.c_reading_defs.specs.Bodies.{known, inside, outermost_items, body_slots, slots_within, labels_within, function_of}
use Rattle.c_violation_laws.proofs.Rising.{Rising, Apart}
use Rattle.c_violation_laws.proofs.Marks.{inner_marks}
use Rattle.c_violation_laws.proofs.Known.{Sees}
use Rattle.c_violation_laws.proofs.Inside.{OutermostIn, GivenIn, stands_inside}
use Rattle.c_violation_laws.proofs.Items.{item_same, list_same}
use Rattle.c_violation_laws.proofs.Slots.{item_slots, list_slots, parameters_slots}
use Rattle.c_violation_laws.proofs.WrittenLabels.{names_once, number_same}
use Rattle.c_violation_laws.proofs.WalkedLabels.{labels_same}

module _ (word : ℕ → List ℕ) (notes : Anchor → List (List ℕ)) (f : Function) (apart : Apart (variables_of f)) where
  abbrev vs : List ℕ
  vs = variables_of f

  abbrev here : InFunction
  here = known word notes f

  numbers_same : (b : Body) → f.body ≡ Some b → (name : List ℕ) → number_in (context word notes f b).labels name ≡ label_number here.labels name
  numbers_same b e name =
      number_same (map word (body_labels b [])) name ∙ ap (λ ats. label_number (each_once (map word ats)) name) (labels_same b) ∙
      ap (λ o. label_number (labels_within word o) name) (sym e)

  pub body_same : (b : Body) → f.body ≡ Some b → (w : Walk) (p : Place) → OutermostIn here apart w p b →
      walked.body_items (context word notes f b) b w ≡ outermost_items typed here b p
  body_same (Braces first after xs) e w p h =
      let b = Braces first after xs in
      λ i. list_same (context word notes f b) (labels_within word f.body) (numbers_same b e) vs apart xs w p [] h i ++ notes_at here (AtEnd first)
  body_same (Lone first after x) e w p h =
      let b = Lone first after x in
      λ i. item_same (context word notes f b) (labels_within word f.body) (numbers_same b e) vs apart x w p [] h i ++ notes_at here (AtEnd first)

  body_slotted : (b : Body) (w : Walk) (p : Place) → OutermostIn here apart w p b →
      (walked.behind_body (context word notes f b) b w).slots ≡ w.slots ++ body_slots typed here b p
  body_slotted (Braces first after xs) w p h = list_slots (context word notes f (Braces first after xs)) (labels_within word f.body) vs apart xs w p [] h
  body_slotted (Lone first after x) w p h = item_slots (context word notes f (Lone first after x)) (labels_within word f.body) vs apart x w p [] h

  within_slotted : (o : Option Body) (w : Walk) (p : Place) → GivenIn here apart w p o →
      (behind_within word notes f o w).slots ≡ w.slots ++ slots_within typed here o p
  within_slotted None w p h = sym (append-nil w.slots)
  within_slotted (Some b) w p h = body_slotted b w p h

  within_labelled : (o : Option Body) → walked.labels_within word o ≡ labels_within word o
  within_labelled None = refl
  within_labelled (Some b) = names_once (map word (body_labels b [])) ∙ ap (λ ats. each_once (map word ats)) (labels_same b)

  within_same : (o : Option Body) → f.body ≡ o → (w : Walk) (p : Place) → GivenIn here apart w p o →
      items_within word notes f o w ≡ option_map (λ b. outermost_items typed here b p) o
  within_same None e w p h = refl
  within_same (Some b) e w p h = ap Some (body_same b e w p h)

  pub function_same : (ms : List Scope) (ss : List (List Identifier)) (lo hi : ℕ) → Sees ms ss lo hi → Rising lo (inner_marks f) hi →
      walked.function_of word notes f ms ≡ function_of typed word notes f ss
  function_same ms ss lo hi sees order =
      let w = walked.inside word f ms in
      let p = inside word notes f ss in
      let g = stands_inside here apart f refl ms ss lo hi sees order in
      let slots : (behind_within word notes f f.body w).slots ≡ map (parameter_slot word) f.parameters ++ slots_within typed here f.body p =
      within_slotted f.body w p g ∙ ap (λ l. l ++ slots_within typed here f.body p) (parameters_slots word f.parameters (walked.entered ms)) in
      λ i. function word f (slots i) (within_labelled f.body i) (within_same f.body refl w p g i)
