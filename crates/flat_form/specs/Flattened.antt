-- What `flatten` makes of a function.
use Rattle.std.specs.Prelude.{ℕ, true, false, List, [], Some, None, length, ◌≡◌}
use Rattle.c_tree.specs.declared.tree.Function.{Function}
use Rattle.c_tree.specs.declared.tree.Item.{Item}
use Rattle.c_tree.specs.Numerals.{constant}
use Rattle.c_tree.specs.Trees.{trees_of}
use Rattle.flat_laws.specs.Parts.{has_jumps}
use Rattle.flat_laws.specs.FlatForm.{flat_body}
use Rattle.flat_laws.specs.Unlabelled.{unlabelled}
use Rattle.flat_form.specs.Codes.{label_codes}
use Rattle.flat_names.specs.FlatNames.{flat_names_beside, with_known}
use Rattle.flat_form.specs.declared.forms.Form.{Form}
use Rattle.flat_form.specs.declared.forms.Form.TheVariants.{Same, Calm, Flat}

-- what becomes of a function with this body, where no new name may be one of the first names and no block variable may
-- keep one of the second: where it has jumps, its flat form with its names; else it loses its labels
abbrev pub IsBodyForm : List (List ℕ) → List (List ℕ) → Function → List Item → Form → Type 0
IsBodyForm used taken f body Same = ⊥
IsBodyForm used taken f body (Calm new) = (has_jumps (trees_of body) ≡ false) × (trees_of new ≡ unlabelled (trees_of body))
IsBodyForm used taken f body (Flat m) =
    (has_jumps (trees_of body) ≡ true) × (trees_of m.body ≡ flat_body constant f.slots (length f.labels) (trees_of body)) ×
    (m.names ≡ flat_names_beside used taken f (trees_of body) (label_codes f (trees_of body)))

-- what becomes of a function, which may be a prototype, where these names are used and taken
abbrev pub IsFormBeside : List (List ℕ) → List (List ℕ) → Function → Form → Type 0
IsFormBeside used taken f form = elim f.body [ None ↦ form ≡ Same | Some body ↦ IsBodyForm used taken f body form ]

-- with the names of a program and those of its file scope
abbrev pub IsFormOf : List (List ℕ) → List (List ℕ) → Function → Form → Type 0
IsFormOf names file f form = IsFormBeside (with_known names) (with_known file) f form

-- the function in that form
abbrev pub applied : Form → Function → Function
applied Same f = f
applied (Calm new) f = record f { labels = []; body = Some new }
applied (Flat m) f = record f { slots = m.names.slots; labels = m.names.labels; body = Some m.body; flat = true }

-- g is f flattened, where these names are used and taken
pub record IsFlattenedBeside (used taken : List (List ℕ)) (f g : Function) : Type 0 where
  pub form : Form
  pub is : IsFormBeside used taken f form
  pub whole : g ≡ applied form f

-- g is f flattened, with the names of a program and those of its file scope
abbrev pub IsFlattened : List (List ℕ) → List (List ℕ) → Function → Function → Type 0
IsFlattened names file f g = IsFlattenedBeside (with_known names) (with_known file) f g
