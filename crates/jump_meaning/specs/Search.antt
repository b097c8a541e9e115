-- Where a jump comes to: the tasks from a label on, by one search for labels of jumps and of a switch.
use Rattle.std.specs.Prelude.{ℕ, ℤ, Bool, true, false, cond, eqb, List, [], ◌∷◌, Option, Some, None}
use Rattle.std.specs.List.{list_any}
use Rattle.std.specs.Option.{option_map_or}
use Rattle.std.specs.Ordering.{int_eq}
use Rattle.c_types.specs.declared.kinds.IntKind.{IntKind}
use Rattle.c_tree.specs.ExpressionTrees.{ExpressionTree}
use Rattle.c_tree.specs.Cases.{case_number}
use Rattle.c_tree.specs.Trees.{Tree, Forest, Nil, Then, Sections, NoSection, Section, If, While, Do, For, Switch, Block, Mark, Land, Arrival}
use Rattle.jump_meaning.specs.Tasks.{Task, Runs, Loops, WhileLoop, DoLoop, ForLoop, items, end_of, tail_tasks}

-- what is sought: a label of the function (6.8.6.1), or in a switch the case of a number of the kind, or the default (6.8.4.2)
pub data Goal : Type 0 where
  ToLabel : ℕ → Goal
  ToCase : IntKind → ℤ → Goal
  ToDefault : Goal

-- whether the case has the number
abbrev pub is_case : IntKind → ℤ → ExpressionTree → Bool
is_case k n e = option_map_or (int_eq n) (case_number k e) false

-- whether an item is the label that is sought: one of the function, or a nested label of the switch
abbrev pub is_goal : Goal → Tree → Bool
is_goal (ToLabel l) (Mark m) = eqb l m
is_goal (ToLabel l) (Land m) = eqb l m
is_goal (ToCase k n) (Arrival (Some e)) = is_case k n e
is_goal ToDefault (Arrival None) = true
is_goal _ _ = false

-- whether a section has the label that is sought; a label of the function is never a label of a section
abbrev pub is_section_goal : Goal → List ExpressionTree → Bool → Bool
is_section_goal (ToLabel l) cases default = false
is_section_goal (ToCase k n) cases default = list_any (is_case k n) cases
is_section_goal ToDefault cases default = default

-- whether it may stand in a switch inside: case labels there belong to that one
abbrev pub enters_switches : Goal → Bool
enters_switches (ToLabel l) = true
enters_switches (ToCase k n) = false
enters_switches ToDefault = false

-- the first of two that is there
abbrev pub or_else : {A : Type 0} → Option A → Option A → Option A
or_else (Some a) o = Some a
or_else None o = o

abbrev mutual
  -- the tasks from the label on, where k are those behind the list
  pub seek : Goal → Forest → List Task → Option (List Task)
  seek l Nil k = None
  seek l (Then x xs) k = or_else (cond (is_goal l x) (Some (Runs x ∷ items xs k)) (seek_in l x (items xs k))) (seek l xs k)

  -- where it stands in an item, and k are the tasks behind that
  pub seek_in : Goal → Tree → List Task → Option (List Task)
  seek_in l (If t a b) k = or_else (seek l a k) (seek l b k)
  seek_in l (While t a) k = seek l a (Loops (WhileLoop t a) ∷ k)
  seek_in l (Do a t) k = seek l a (Loops (DoLoop a t) ∷ k)
  seek_in l (For first t u a) k = seek l a (Loops (ForLoop t u a) ∷ k)
  seek_in l (Switch s c) k = cond (enters_switches l) (seek_sections l c k) None
  seek_in l (Block a) k = seek l a k
  seek_in l _ k = None

  -- where it stands in the sections of a switch, or is a label of one of them
  pub seek_sections : Goal → Sections → List Task → Option (List Task)
  seek_sections l NoSection k = None
  seek_sections l (Section cases default a ends c) k =
      or_else (cond (is_section_goal l cases default) (Some (items a (end_of ends (tail_tasks c k)))) (seek l a (end_of ends (tail_tasks c k))))
      (seek_sections l c k)

-- the first that is there, or else the last
abbrev pub first_of_three : {A : Type 0} → Option A → Option A → A → A
first_of_three (Some a) o b = a
first_of_three None (Some a) b = a
first_of_three None None b = b

-- `goto`: the tasks from a label of the body on, none where it has no such label
abbrev pub find : ℕ → Forest → List Task
find l body = first_of_three (seek (ToLabel l) body []) None []

-- a switch: the tasks from the case of the number on, else from the default, else those behind the switch
abbrev pub entry : IntKind → ℤ → Sections → List Task → List Task
entry k n c rest = first_of_three (seek_sections (ToCase k n) c rest) (seek_sections ToDefault c rest) rest
