-- Sections that are being read.
use Rattle.std.proofs.Common.{List, ◌++◌, None, ◌≡◌, refl}
use Rattle.c_tree.specs.declared.tree.Item as item
use Rattle.c_grammar.specs.Items.{Label, Item, Declares, States, NoItem}
use Rattle.c_grammar.specs.Items as items
use Rattle.c_statements.specs.declared.anchors.Anchor.TheVariants.{AtSection}
use Rattle.c_statements.specs.Context.{Context, Walk, env_at, notes_at}
use Rattle.c_statements.specs.Labels.{section_marks, section_cases, has_default}
use Rattle.c_statements.specs.Sections.{Reading}
use Rattle.c_statements.specs.Statements.{sections_from, sections_at}

-- a section, and items at its end
abbrev pub longer : Reading → List item.Item → Reading
longer s xs = record { cases = s.cases; default = s.default; list = s.list ++ xs }

module _ (ctx : Context) (w : Walk) where
  -- the section that a statement with these labels begins
  abbrev pub beginning : List Label → List item.Item → Reading
  beginning ls xs = record {
    cases = section_cases (env_at ctx w) ls;
    default = has_default ls;
    list = notes_at ctx (AtSection (items.first_label ls)) ++ section_marks ctx ls ++ xs;
  }

  -- a statement alone is a list of one
  pub sections_alone : (x : Item) (notes : List item.Item) → sections_at ctx None x notes w ≡ sections_from ctx None (items.Then x NoItem) notes w
  sections_alone (Declares first after d) notes = refl
  sections_alone (States ls p) notes = refl
