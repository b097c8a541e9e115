-- Searches for a label, item by item.
use Rattle.std.proofs.Common.{ℕ, suc, ◌+◌, ◌<◌, ℤ, Bool, true, false, cond, List, [], ◌∷◌, length, get_or, drop, Option, Some, None, ◌≡◌, refl, sym, ap, ◌∙◌, add-one, drop-cons}
use Rattle.c_types.specs.declared.kinds.IntKind.{IntKind}
use Rattle.c_tree.specs.declared.tree.Expression.{Expression}
use Rattle.c_tree.specs.declared.tree.Item.{Item, Item-F, Mark, Land, Arrival, If, While, Do, For, Switch, Block, out-Item, roll-Item, roll-out-Item}
use Rattle.c_tree.specs.declared.tree.Item.TheOpen as Open
use Rattle.c_tree.specs.declared.tree.Item.TheVariants.{rolls-Mark, rolls-Land, rolls-Arrival, rolls-If, rolls-While, rolls-Do, rolls-For, rolls-Switch, rolls-Block}
use Rattle.c_tree.specs.declared.tree.Section as Real
use Rattle.c_tree.specs.declared.tree.Selector.{Selector}
use Rattle.c_tree.specs.declared.tree.Test.{Test}
use Rattle.c_tree.specs.TestTrees.{SelectorTree}
use Rattle.c_tree.specs.Trees as Tree
use Rattle.c_tree.specs.Trees.{Sections, tree_of, trees_of, section_tree, sections_of}
use Rattle.c_tree.proofs.ChangeLemmas.{layer_tree, tree-roll}
use Rattle.c_tree.proofs.TreeLaws.{trees-none, trees-more, sections-none, sections-more}
use Rattle.jump_meaning.specs.Search.{Goal, ToLabel, ToCase, ToDefault, is_goal, is_section_goal, or_else, seek, seek_in, seek_sections, first_of_three}
use Rattle.jump_meaning.specs.Tasks.{Task, items, end_of, tail_tasks}
use Rattle.step_tasks.specs.declared.work.Work.{Work}
use Rattle.step_tasks.specs.declared.search.Goal as Mine
use Rattle.step_tasks.specs.declared.search.Goal.TheVariants as Kinds
use Rattle.step_tasks.specs.Controls.{HasNoLabel, Sought, goal_of}
use Rattle.step_tasks.specs.Tasks.{tasks_of}

-- ---- items that are no label, and items without lists

as_layer : (x : Item) (y : Item-F Item Real.Section) → x ≡ roll-Item y → tree_of x ≡ layer_tree y
as_layer x y e = ap tree_of e ∙ tree-roll y

pub no_mark : (l : ℕ) (x : Item) → ((m : ℕ) → x ≡ Mark m → ⊥) → ((m : ℕ) → x ≡ Land m → ⊥) → is_goal (ToLabel l) (tree_of x) ≡ false
no_mark l x a b = at (out-Item x) (sym (roll-out-Item x)) where
  at : (y : Item-F Item Real.Section) → x ≡ roll-Item y → is_goal (ToLabel l) (tree_of x) ≡ false
  at (Open.Mark m) e = absurd (a m (e ∙ rolls-Mark m))
  at (Open.Land m) e = absurd (b m (e ∙ rolls-Land m))
  at y e = ap (is_goal (ToLabel l)) (as_layer x y e)

pub no_arrival : (k : IntKind) (n : ℤ) (x : Item) → ((c : Option Expression) → x ≡ Arrival c → ⊥) → is_goal (ToCase k n) (tree_of x) ≡ false
no_arrival k n x a = at (out-Item x) (sym (roll-out-Item x)) where
  at : (y : Item-F Item Real.Section) → x ≡ roll-Item y → is_goal (ToCase k n) (tree_of x) ≡ false
  at (Open.Arrival c) e = absurd (a c (e ∙ rolls-Arrival c))
  at y e = ap (is_goal (ToCase k n)) (as_layer x y e)

pub no_default : (x : Item) → ((c : Option Expression) → x ≡ Arrival c → ⊥) → is_goal ToDefault (tree_of x) ≡ false
no_default x a = at (out-Item x) (sym (roll-out-Item x)) where
  at : (y : Item-F Item Real.Section) → x ≡ roll-Item y → is_goal ToDefault (tree_of x) ≡ false
  at (Open.Arrival c) e = absurd (a c (e ∙ rolls-Arrival c))
  at y e = ap (is_goal ToDefault) (as_layer x y e)

pub no_lists : (x : Item) → ((t : Test) (a b : List Item) → x ≡ If t a b → ⊥) → ((t : Test) (a : List Item) → x ≡ While t a → ⊥) →
    ((a : List Item) (t : Test) → x ≡ Do a t → ⊥)
    → ((f : List Item) (t u : Option Expression) (a : List Item) → x ≡ For f t u a → ⊥) →
    ((s : Selector) (cs : List Real.Section) → x ≡ Switch s cs → ⊥) → ((a : List Item) → x ≡ Block a → ⊥)
    → HasNoLabel (tree_of x)
no_lists x i w d f s b l k = at (out-Item x) (sym (roll-out-Item x)) where
  at : (y : Item-F Item Real.Section) → x ≡ roll-Item y → seek_in l (tree_of x) k ≡ None
  at (Open.If t a c) e = absurd (i t a c (e ∙ rolls-If t a c))
  at (Open.While t a) e = absurd (w t a (e ∙ rolls-While t a))
  at (Open.Do a t) e = absurd (d a t (e ∙ rolls-Do a t))
  at (Open.For g t u a) e = absurd (f g t u a (e ∙ rolls-For g t u a))
  at (Open.Switch t cs) e = absurd (s t cs (e ∙ rolls-Switch t cs))
  at (Open.Block a) e = absurd (b a (e ∙ rolls-Block a))
  at y e = ap (λ t. seek_in l t k) (as_layer x y e)

-- ---- a list, from an item on

from_here : (g : Goal) (x : Item) (xs : List Item) (k : List Task)
    → seek g (trees_of (x ∷ xs)) k ≡ or_else (cond (is_goal g (tree_of x)) (Some (items (trees_of (x ∷ xs)) k))
    (seek_in g (tree_of x) (items (trees_of xs) k))) (seek g (trees_of xs) k)
from_here g x xs k =
    ap (λ f. seek g f k) (trees-more x xs)
    ∙ ap (λ f. or_else (cond (is_goal g (tree_of x)) (Some (items f k)) (seek_in g (tree_of x) (items (trees_of xs) k))) (seek g (trees_of xs) k))
    (sym (trees-more x xs))

-- what is found from a place on: in the item there, or else behind it
pub from_place : (g : Goal) (xs : List Item) (i : ℕ) (x : Item) (k : List Task) → i < length xs → x ≡ get_or xs i x
    → seek g (trees_of (drop i xs)) k
    ≡ or_else (cond (is_goal g (tree_of x)) (Some (items (trees_of (drop i xs)) k)) (seek_in g (tree_of x) (items (trees_of (drop (i + 1) xs)) k)))
    (seek g (trees_of (drop (i + 1) xs)) k)
from_place g xs i x k h e =
    let split : drop i xs ≡ x ∷ drop (i + 1) xs = rw (add-one, drop-cons xs i x) (ap (λ y. y ∷ drop (suc i) xs) (sym e)) in
    ap (λ ys. seek g (trees_of ys) k) split ∙ from_here g x (drop (i + 1) xs) k
    ∙ ap (λ ys. or_else (cond (is_goal g (tree_of x)) (Some (items (trees_of ys) k)) (seek_in g (tree_of x) (items (trees_of (drop (i + 1) xs)) k)))
    (seek g (trees_of (drop (i + 1) xs)) k)) (sym split)

-- the item is the label
pub is_here : (g : Goal) (xs : List Item) (i : ℕ) (x : Item) (k : List Task) → i < length xs → x ≡ get_or xs i x → is_goal g (tree_of x) ≡ true
    → seek g (trees_of (drop i xs)) k ≡ Some (items (trees_of (drop i xs)) k)
is_here g xs i x k h e b =
    from_place g xs i x k h e
    ∙ ap (λ c. or_else (cond c (Some (items (trees_of (drop i xs)) k)) (seek_in g (tree_of x) (items (trees_of (drop (i + 1) xs)) k)))
    (seek g (trees_of (drop (i + 1) xs)) k)) b

-- the label stands in the item
pub is_inside : (g : Goal) (xs : List Item) (i : ℕ) (x : Item) (k found : List Task) → i < length xs → x ≡ get_or xs i x → is_goal g (tree_of x) ≡ false
    → seek_in g (tree_of x) (items (trees_of (drop (i + 1) xs)) k) ≡ Some found → seek g (trees_of (drop i xs)) k ≡ Some found
is_inside g xs i x k found h e b s =
    from_place g xs i x k h e
    ∙ ap (λ c. or_else (cond c (Some (items (trees_of (drop i xs)) k)) (seek_in g (tree_of x) (items (trees_of (drop (i + 1) xs)) k)))
    (seek g (trees_of (drop (i + 1) xs)) k)) b
    ∙ ap (λ o. or_else o (seek g (trees_of (drop (i + 1) xs)) k)) s

-- it stands neither there nor in it
pub is_later : (g : Goal) (xs : List Item) (i : ℕ) (x : Item) (k : List Task) → i < length xs → x ≡ get_or xs i x → is_goal g (tree_of x) ≡ false
    → seek_in g (tree_of x) (items (trees_of (drop (i + 1) xs)) k) ≡ None → seek g (trees_of (drop i xs)) k ≡ seek g (trees_of (drop (i + 1) xs)) k
is_later g xs i x k h e b s =
    from_place g xs i x k h e
    ∙ ap (λ c. or_else (cond c (Some (items (trees_of (drop i xs)) k)) (seek_in g (tree_of x) (items (trees_of (drop (i + 1) xs)) k)))
    (seek g (trees_of (drop (i + 1) xs)) k)) b
    ∙ ap (λ o. or_else o (seek g (trees_of (drop (i + 1) xs)) k)) s

pub past_last : (g : Goal) (xs : List Item) (k : List Task) → xs ≡ [] → seek g (trees_of xs) k ≡ None
past_last g xs k e = ap (λ ys. seek g (trees_of ys) k) e ∙ ap (λ f. seek g f k) trees-none

-- ---- the sections of a switch, from one on

-- the same in the sections of a switch
pub among : (g : Goal) (cs : List Real.Section) (i : ℕ) (c : Real.Section) (k : List Task) → i < length cs → c ≡ get_or cs i c
    → let s = section_tree c in
    seek_sections g (sections_of (drop i cs)) k
    ≡ or_else (cond (is_section_goal g s.cases s.default) (Some (tail_tasks (sections_of (drop i cs)) k))
    (seek g s.list (end_of s.ends (tail_tasks (sections_of (drop (i + 1) cs)) k)))) (seek_sections g (sections_of (drop (i + 1) cs)) k)
among g cs i c k h e =
    let s = section_tree c in
    let split : drop i cs ≡ c ∷ drop (i + 1) cs = rw (add-one, drop-cons cs i c) (ap (λ y. y ∷ drop (suc i) cs) (sym e)) in
    ap (λ ys. seek_sections g (sections_of ys) k) split
    ∙ ap (λ ys. seek_sections g ys k) (sections-more c (drop (i + 1) cs))
    ∙ ap (λ ys. or_else (cond (is_section_goal g s.cases s.default) (Some (tail_tasks ys k))
    (seek g s.list (end_of s.ends (tail_tasks (sections_of (drop (i + 1) cs)) k)))) (seek_sections g (sections_of (drop (i + 1) cs)) k))
    (sym (sections-more c (drop (i + 1) cs)))
    ∙ ap (λ ys. or_else (cond (is_section_goal g s.cases s.default) (Some (tail_tasks (sections_of ys) k))
    (seek g s.list (end_of s.ends (tail_tasks (sections_of (drop (i + 1) cs)) k)))) (seek_sections g (sections_of (drop (i + 1) cs)) k)) (sym split)

module _ (g : Goal) (cs : List Real.Section) (i : ℕ) (c : Real.Section) (k : List Task) (h : i < length cs) (e : c ≡ get_or cs i c) where
  by_test : (b : Bool) → (let s = section_tree c in is_section_goal g s.cases s.default) ≡ b
      → let s = section_tree c in
      seek_sections g (sections_of (drop i cs)) k
      ≡ or_else (cond b (Some (tail_tasks (sections_of (drop i cs)) k))
      (seek g s.list (end_of s.ends (tail_tasks (sections_of (drop (i + 1) cs)) k)))) (seek_sections g (sections_of (drop (i + 1) cs)) k)
  by_test b t =
      among g cs i c k h e
      ∙ (let s = section_tree c in ap (λ x. or_else (cond x (Some (tail_tasks (sections_of (drop i cs)) k))
      (seek g s.list (end_of s.ends (tail_tasks (sections_of (drop (i + 1) cs)) k)))) (seek_sections g (sections_of (drop (i + 1) cs)) k)) t)

  -- the section has the label
  pub section_here : (let s = section_tree c in is_section_goal g s.cases s.default) ≡ true →
      seek_sections g (sections_of (drop i cs)) k ≡ Some (tail_tasks (sections_of (drop i cs)) k)
  section_here b = by_test true b

  -- the label stands in its list
  pub section_inside : (found : List Task) → (let s = section_tree c in is_section_goal g s.cases s.default) ≡ false
      → (let s = section_tree c in seek g s.list (end_of s.ends (tail_tasks (sections_of (drop (i + 1) cs)) k))) ≡ Some found →
      seek_sections g (sections_of (drop i cs)) k ≡ Some found
  section_inside found b s = by_test false b ∙ ap (λ o. or_else o (seek_sections g (sections_of (drop (i + 1) cs)) k)) s

  -- neither
  pub section_later : (let s = section_tree c in is_section_goal g s.cases s.default) ≡ false
      → (let s = section_tree c in seek g s.list (end_of s.ends (tail_tasks (sections_of (drop (i + 1) cs)) k))) ≡ None
      → seek_sections g (sections_of (drop i cs)) k ≡ seek_sections g (sections_of (drop (i + 1) cs)) k
  section_later b s = by_test false b ∙ ap (λ o. or_else o (seek_sections g (sections_of (drop (i + 1) cs)) k)) s

pub past_sections : (g : Goal) (cs : List Real.Section) (k : List Task) → cs ≡ [] → seek_sections g (sections_of cs) k ≡ None
past_sections g cs k e = ap (λ ys. seek_sections g (sections_of ys) k) e ∙ ap (λ s. seek_sections g s k) sections-none

-- ---- what a search comes to

-- a case of a switch isn't sought in the switches inside
pub no_switch : (g : Mine.Goal) (s : SelectorTree) (c : Sections) (k : List Task) → seek_in (goal_of g) (Tree.Switch s c) k ≡ None
no_switch (Kinds.Case j n) s c k = refl
no_switch Kinds.Default s c k = refl

pub sought_as : (b : Bool) (o p : Option (List Task)) (old new : List Work) → o ≡ p → Sought b p old new → Sought b o old new
sought_as true o p old new e h = e ∙ h
sought_as false o p old new e h = (e ∙ h.0, h.1)

pub sought_true : (b : Bool) (o : Option (List Task)) (old new : List Work) → b ≡ true → Sought b o old new → o ≡ Some (tasks_of new)
sought_true true o old new e h = h
sought_true false o old new e h = cc

pub sought_false : (b : Bool) (o : Option (List Task)) (old new : List Work) → b ≡ false → Sought b o old new → (o ≡ None) × (new ≡ old)
sought_false true o old new e h = cc
sought_false false o old new e h = h

-- the case is found, or the default is sought where it isn't
pub by_case : (o p : Option (List Task)) (rest found : List Task) → o ≡ Some found → first_of_three o p rest ≡ found
by_case o p rest found e = ap (λ x. first_of_three x p rest) e

pub by_default : (b : Bool) (o p : Option (List Task)) (old new : List Work) → o ≡ None → Sought b p old new → first_of_three o p (tasks_of old) ≡ tasks_of new
by_default true o p old new e h = ap (λ x. first_of_three x p (tasks_of old)) e ∙ ap (λ x. first_of_three None x (tasks_of old)) h
by_default false o p old new e h = ap (λ x. first_of_three x p (tasks_of old)) e ∙ ap (λ x. first_of_three None x (tasks_of old)) h.0 ∙ sym (ap tasks_of h.1)
