-- The sections of a switch from back to front: the items that stand in front of the first section, and the sections.
use Rattle.std.proofs.Common.{◌≡◌, Bool, true, false, cond, List, [], ◌∷◌, ◌++◌, refl, ap, ◌∙◌, append_assoc, append-nil}
use Rattle.c_tree.specs.declared.tree.Item as item
use Rattle.c_grammar.specs.Items.{Label, Declares, States, Items, NoItem, Then, first_label}
use Rattle.c_grammar.specs.Items as items
use Rattle.c_statements.specs.declared.anchors.Anchor.TheVariants.{AtSection}
use Rattle.c_statements.specs.Labels.{has_case, has_default}
use Rattle.c_statements.specs.Sections.{Reading}
use Rattle.c_statements.specs.Statements.{begins}
use Rattle.c_reading_defs.specs.Typings.{Typing}
use Rattle.c_reading_defs.specs.Labels.{InFunction, notes_at}
use Rattle.c_reading_defs.specs.Written.{labels_items, section_cases, section_marks}
use Rattle.c_reading_defs.specs.Places.{Place, names}
use Rattle.c_reading_defs.specs.Items.{declares_items, section_with, item_items, plain_items, list_sections, item_sections, run_items}

pub record Parted : Type 0 where
  pub outside : List item.Item
  pub sections : List Reading

-- with these items in front
abbrev pub preceded : List item.Item → Parted → Parted
preceded xs rest = record { outside = xs ++ rest.outside; sections = rest.sections }

-- a section with these labels, which begins with these items
abbrev pub headed : Typing → InFunction → Place → List Label → List item.Item → Parted → Parted
headed typing f p ls xs rest = record {
  outside = [];
  sections = record {
    cases = section_cases typing (names f p) ls;
    default = has_default ls;
    list = (notes_at f (AtSection (first_label ls)) ++ section_marks f ls ++ xs) ++ rest.outside;
  } ∷ rest.sections;
}

-- an item in front of these
abbrev pub part : Typing → InFunction → items.Item → Parted → Place → Parted
part typing f (Declares first after d) rest p = preceded (declares_items typing f first d p) rest
part typing f (States ls s) rest p = cond (has_case ls) (headed typing f p ls (plain_items typing f s p) rest)
    (preceded (labels_items typing f (names f p) ls ++ plain_items typing f s p) rest)

-- a list that ends with these Notes
abbrev pub parts : Typing → InFunction → Items → List item.Item → Place → Parted
parts typing f NoItem notes p = record { outside = notes; sections = [] }
parts typing f (Then x xs) notes p = part typing f x (parts typing f xs notes p) p

-- ---- these are the sections and the runs of items

module _ (typing : Typing) (f : InFunction) (p : Place) where
  section_is : (ls : List Label) (xs : List item.Item) (rest : Parted) →
      (headed typing f p ls xs rest).sections ≡ section_with typing f p ls (xs ++ rest.outside) ∷ rest.sections
  section_is ls xs rest =
      let e = append_assoc (notes_at f (AtSection (first_label ls)) ++ section_marks f ls) xs rest.outside in
      λ i. record { cases = section_cases typing (names f p) ls; default = has_default ls; list = e i } ∷ rest.sections

  either_sections : (b : Bool) (ls : List Label) (xs ys : List item.Item) (rest : Parted)
      → (cond b (headed typing f p ls xs rest) (preceded ys rest)).sections ≡ cond b (section_with typing f p ls (xs ++ rest.outside) ∷ []) [] ++ rest.sections
  either_sections true ls xs ys rest = section_is ls xs rest
  either_sections false ls xs ys rest = refl

  either_run : (b : Bool) (ls : List Label) (xs ys : List item.Item) (rest : Parted) →
      (cond b (headed typing f p ls xs rest) (preceded ys rest)).outside ≡ cond b [] (ys ++ rest.outside)
  either_run true ls xs ys rest = refl
  either_run false ls xs ys rest = refl

  pub part_sections : (x : items.Item) (rest : Parted) → (part typing f x rest p).sections ≡ item_sections typing f x rest.outside p ++ rest.sections
  part_sections (Declares first after d) rest = refl
  part_sections (States ls s) rest = either_sections (has_case ls) ls (plain_items typing f s p)
      (labels_items typing f (names f p) ls ++ plain_items typing f s p) rest

  part_run : (x : items.Item) (rest : Parted) → (part typing f x rest p).outside ≡ cond (begins x) [] (item_items typing f x p ++ rest.outside)
  part_run (Declares first after d) rest = refl
  part_run (States ls s) rest = either_run (has_case ls) ls (plain_items typing f s p) (labels_items typing f (names f p) ls ++ plain_items typing f s p) rest

  parts_run : (xs : Items) (notes : List item.Item) → (parts typing f xs notes p).outside ≡ run_items typing f xs notes p
  parts_run NoItem notes = refl
  parts_run (Then x xs) notes = part_run x (parts typing f xs notes p) ∙ ap (λ l. cond (begins x) [] (item_items typing f x p ++ l)) (parts_run xs notes)

  pub parts_sections : (xs : Items) (notes : List item.Item) → (parts typing f xs notes p).sections ≡ list_sections typing f xs notes p
  parts_sections NoItem notes = refl
  parts_sections (Then x xs) notes =
      part_sections x (parts typing f xs notes p) ∙ (λ i. item_sections typing f x (parts_run xs notes i) p ++ parts_sections xs notes i)

  pub part_alone : (x : items.Item) (notes : List item.Item) →
      (part typing f x (record { outside = notes; sections = [] }) p).sections ≡ item_sections typing f x notes p
  part_alone x notes = part_sections x (record { outside = notes; sections = [] }) ∙ append-nil (item_sections typing f x notes p)
