-- A function with this body, or without one.
use Rattle.std.specs.Prelude.{ℕ, List, [], Option}
use Rattle.c_tree.specs.declared.tree.Function as tree
use Rattle.c_grammar.specs.Items.{Body}
use Rattle.c_grammar.specs.Tops.{Function}
use Rattle.c_kinds.specs.Scopes.{Scope}
use Rattle.c_statements.specs.declared.anchors.Anchor.{Anchor}
use Rattle.c_statements.specs.Context.{Context}
use Rattle.c_statements.specs.Functions.{function, inside, behind_within, labels_within, items_within, result_kind}

abbrev pub defined : (ℕ → List ℕ) → (Anchor → List (List ℕ)) → Function → Option Body → List Scope → tree.Function
defined word notes f o scopes =
    function word f (behind_within word notes f o (inside word f scopes)).slots (labels_within word o) (items_within word notes f o (inside word f scopes))

-- a context of which only the words count
abbrev pub prototype_context : (ℕ → List ℕ) → Function → Context
prototype_context word f = record { word = word; notes = λ anchor. []; labels = []; result = result_kind word f }
