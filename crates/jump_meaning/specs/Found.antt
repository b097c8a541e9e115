-- What a search comes to, as a relation: where a label stands, and the tasks from there on (6.8.1, 6.8.4.2).
use Rattle.std.specs.Prelude.{Bool, true, List, [], ◌∷◌, ◌++◌, Option, ◌≡◌}
use Rattle.c_tree.specs.ExpressionTrees.{ExpressionTree}
use Rattle.c_tree.specs.TestTrees.{TestTree, SelectorTree}
use Rattle.c_tree.specs.Trees.{Tree, Forest, Then, Sections, Section, If, While, Do, For, Switch, Block}
use Rattle.jump_meaning.specs.Tasks.{Task, Runs, Loops, WhileLoop, DoLoop, ForLoop, items, end_of, tail_tasks}
use Rattle.jump_meaning.specs.Search.{Goal, is_goal, is_section_goal, enters_switches}

mutual
  -- the label stands in a list: it and the items after it; or the part of an item that it stands in, and the items after that
  pub data IsFound (l : Goal) : Forest → List Task → Type 0 where
    here : (x : Tree) (xs : Forest) → is_goal l x ≡ true → IsFound l (Then x xs) (Runs x ∷ items xs [])
    inside : (x : Tree) (xs : Forest) {i : List Task} → IsFoundIn l x i → IsFound l (Then x xs) (i ++ items xs [])
    later : (x : Tree) (xs : Forest) {i : List Task} → IsFound l xs i → IsFound l (Then x xs) i

  -- the part of an item: of an `if` or a block no more than of the list, of a loop then its end, of a switch then the rest of it
  pub data IsFoundIn (l : Goal) : Tree → List Task → Type 0 where
    in_then : (t : TestTree) (a b : Forest) {i : List Task} → IsFound l a i → IsFoundIn l (If t a b) i
    in_else : (t : TestTree) (a b : Forest) {i : List Task} → IsFound l b i → IsFoundIn l (If t a b) i
    in_while : (t : TestTree) (a : Forest) {i : List Task} → IsFound l a i → IsFoundIn l (While t a) (i ++ Loops (WhileLoop t a) ∷ [])
    in_do : (a : Forest) (t : TestTree) {i : List Task} → IsFound l a i → IsFoundIn l (Do a t) (i ++ Loops (DoLoop a t) ∷ [])
    in_for : (first : Forest) (t u : Option ExpressionTree) (a : Forest) {i : List Task} → IsFound l a i →
        IsFoundIn l (For first t u a) (i ++ Loops (ForLoop t u a) ∷ [])
    in_switch : (s : SelectorTree) (c : Sections) {i : List Task} → enters_switches l ≡ true → IsFoundAmong l c i → IsFoundIn l (Switch s c) i
    in_block : (a : Forest) {i : List Task} → IsFound l a i → IsFoundIn l (Block a) i

  -- in a switch it is a label of a section, or stands in the list of one
  pub data IsFoundAmong (l : Goal) : Sections → List Task → Type 0 where
    at_section : (cases : List ExpressionTree) (default : Bool) (a : Forest) (ends : Bool) (c : Sections) → is_section_goal l cases default ≡ true
        → IsFoundAmong l (Section cases default a ends c) (items a (end_of ends (tail_tasks c [])))
    in_section : (cases : List ExpressionTree) (default : Bool) (a : Forest) (ends : Bool) (c : Sections) {i : List Task} → IsFound l a i
        → IsFoundAmong l (Section cases default a ends c) (i ++ end_of ends (tail_tasks c []))
    in_later : (cases : List ExpressionTree) (default : Bool) (a : Forest) (ends : Bool) (c : Sections) {i : List Task} → IsFoundAmong l c i
        → IsFoundAmong l (Section cases default a ends c) i
