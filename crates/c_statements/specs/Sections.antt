-- The sections of a switch (ISO/IEC 9899:2011, 6.8.4.2).
use Rattle.std.specs.Prelude.{Bool, true, false, cond, ◌&&◌, List, [], ◌∷◌, ◌++◌, Option, Some, None}
use Rattle.c_tree.specs.declared.tree.Expression.{Expression}
use Rattle.c_tree.specs.declared.tree.Item.{Item, Evaluate, out-Item}
use Rattle.c_tree.specs.declared.tree.Item.TheOpen as Open
use Rattle.c_tree.specs.declared.tree.Section.{Section, roll-Section}
use Rattle.c_statements.specs.Declarations.{placeholder}

-- a section as it is written, before it has its end
pub record Reading : Type 0 where
  pub cases : List Expression
  pub default : Bool
  pub list : List Item

abbrev pub section : List Expression → Bool → List Item → Bool → Section
section cases default list ends = roll-Section (record { cases = cases; default = default; list = list; ends = ends })

-- these items at the end of the section; items in front of the first section are in none
abbrev pub extended : Option Reading → List Item → Option Reading
extended (Some s) xs = Some (record { cases = s.cases; default = s.default; list = s.list ++ xs })
extended None xs = None

abbrev pub has_label : Reading → Bool
has_label s = elim s.cases [ [] ↦ s.default | c ∷ cs ↦ true ]

abbrev pub is_break : Item → Bool
is_break x = elim (out-Item x) [ Open.Break ↦ true | _ ↦ false ]

-- a `break` that is the last item
abbrev pub ends_in_break : List Item → Bool
ends_in_break [] = false
ends_in_break (x ∷ []) = is_break x
ends_in_break (x ∷ y ∷ ys) = ends_in_break (y ∷ ys)

abbrev pub without_last : List Item → List Item
without_last [] = []
without_last (x ∷ []) = []
without_last (x ∷ y ∷ ys) = x ∷ without_last (y ∷ ys)

-- its last `break` becomes its end
abbrev pub ended : Reading → Section
ended s = cond (has_label s && ends_in_break s.list) (section s.cases s.default (without_last s.list) true) (section s.cases s.default s.list false)

abbrev pub closed : Option Reading → List Section
closed (Some s) = ended s ∷ []
closed None = []

-- items in front of the first section stay in the switch, in a list without labels; behind the expression, no `break` ends it
abbrev pub front : List Item → List Section
front [] = []
front (x ∷ xs) = section [] false ((x ∷ xs) ++ Evaluate placeholder ∷ []) false ∷ []
