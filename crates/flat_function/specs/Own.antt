-- Each variable of a flat form has a name of its own.
use Rattle.std.specs.Prelude.{ℕ, ◌≡◌, ◌⊎◌, ◌≤◌, ◌<◌, ◌+◌, ◌^◌, true, List, [], length, take, drop}
use Rattle.c_types.specs.Words.{known_functions}
use Rattle.c_copies.specs.Names.{has_name, with_names, all_names, all_file_names}
use Rattle.c_tree.specs.declared.tree.Function.{Function}
use Rattle.c_tree.specs.declared.tree.Item.{Item}
use Rattle.c_tree.specs.declared.tree.Program.{Program}
use Rattle.c_tree.specs.declared.tree.Slot.{Slot}
use Rattle.c_tree.specs.Trees.{Forest, trees_of}
use Rattle.flat_names.specs.FlatNames.{constructs, name_constructs, none_given, named_slots}
use Rattle.c_resolved_defs.specs.Within.{Each}
use Rattle.c_resolved_defs.specs.PrintableExpressions.{IsName}
use Rattle.whole_laws.specs.Names.{HasOwnNames}
use Rattle.flat_function.specs.Laws.{named_flat}

-- the names that are used once the variables of the flat form have theirs
abbrev pub used_at_end : List (List ℕ) → List (List ℕ) → Function → Forest → List (List ℕ)
used_at_end names file f body =
    let g = name_constructs 1 (constructs body) (none_given (with_names (with_names [] names) known_functions)) in
    (named_slots f.params (with_names (with_names [] file) known_functions) g.used f.slots).used

-- a function of a program whose names are these, with those of its file scope
pub record IsNamedIn (p : Program) (names file : List (List ℕ)) (f : Function) (body : Forest) : Type 0 where
  pub all : (q : List ℕ) → has_name names q ≡ has_name (all_names p) q
  pub scope : (q : List ℕ) → has_name file q ≡ has_name (all_file_names p) q
  -- a parameter may have no name
  pub parameters : Each (λ (s : Slot). (s.name ≡ []) ⊎ (has_name names s.name ≡ true)) (take f.params f.slots)
  pub variables : Each (λ (s : Slot). IsName s.name × (has_name names s.name ≡ true)) (drop f.params f.slots)
  pub few : 2 + length (used_at_end names file f body) < 2 ^ 64

abbrev pub FlatNamesAreOwn : Type 0
FlatNamesAreOwn = (p : Program) (names file : List (List ℕ)) (f : Function) (old new : List Item) → f.params ≤ length f.slots →
    IsNamedIn p names file f (trees_of old) → HasOwnNames p.tops (named_flat names file f old new)
