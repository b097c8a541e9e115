-- What `flat_names_make_forms` and `flattened_are_forms` state.
use Rattle.std.specs.Prelude.{ℕ, ◌≡◌, ◌≤◌, true, false, List, length, Some}
use Rattle.c_tree.specs.declared.tree.Function.{Function}
use Rattle.c_tree.specs.declared.tree.Item.{Item}
use Rattle.c_tree.specs.declared.tree.Top.TheVariants as T
use Rattle.c_tree.specs.Numerals.{constant}
use Rattle.c_tree.specs.Trees.{trees_of}
use Rattle.flat_laws.specs.FlatForm.{flat_body}
use Rattle.flat_form.specs.Codes.{label_codes}
use Rattle.flat_names.specs.FlatNames.{flat_names_beside, with_known}
use Rattle.flat_form.specs.Flattened.{IsFlattenedBeside}
use Rattle.whole_laws.specs.Rewritten.{IsFlatForm, FlatTop}

-- a function with the names of its flat form where these names are used and taken, and this body instead of its own
abbrev pub named_beside : List (List ℕ) → List (List ℕ) → Function → List Item → List Item → Function
named_beside used taken f old new =
    let n = flat_names_beside used taken f (trees_of old) (label_codes f (trees_of old)) in
    record f { slots = n.slots; labels = n.labels; body = Some new; flat = true }

-- a function with the names of its flat form, of a program with these names and those at file scope, and this body
abbrev pub named_flat : List (List ℕ) → List (List ℕ) → Function → List Item → List Item → Function
named_flat names file f old new = named_beside (with_known names) (with_known file) f old new

abbrev pub FlatNamesMakeForms : Type 0
FlatNamesMakeForms =
    (used taken : List (List ℕ)) (f : Function) (old new : List Item) → f.body ≡ Some old → f.params ≤ length f.slots →
    trees_of new ≡ flat_body constant f.slots (length f.labels) (trees_of old)
    → IsFlatForm f (named_beside used taken f old new)

-- what a function of a source is flattened to
abbrev pub FlattenedAreForms : Type 0
FlattenedAreForms = (used taken : List (List ℕ)) (f g : Function) → f.flat ≡ false → f.params ≤ length f.slots → IsFlattenedBeside used taken f g →
    FlatTop (T.Function f) (T.Function g)
