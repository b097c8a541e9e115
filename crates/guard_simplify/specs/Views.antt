-- The tests and searches of Choice as the code has them: of an item, and by its one layer (the names that end in _F).
use Rattle.std.specs.Prelude.{ℕ, ◌==◌, Bool, false, cond, not, ◌&&◌, ◌||◌, List, [], ◌∷◌, ◌++◌, Option, Some, None}
use Rattle.c_tree.specs.declared.tree.Item.{Item, Item-F, out-Item}
use Rattle.c_tree.specs.declared.tree.Item.TheOpen.{If, While, Do, For, Switch, Block, Goto, Arm, Leap, Land}
use Rattle.c_tree.specs.declared.tree.Section.{Section}
use Rattle.c_tree.specs.declared.tree.Test.{Test, Test-F, out-Test}
use Rattle.c_tree.specs.declared.tree.Test.TheOpen as T
use Rattle.c_tree.specs.declared.tree.Expression.{Expression}
use Rattle.c_tree.specs.declared.tree.Branch.TheVariants as B
use Rattle.c_tree.specs.ExpressionTrees.{expression_tree}
use Rattle.c_tree.specs.TestTrees.{test_tree, selector_tree}
use Rattle.c_tree.specs.Trees.{trees_of, sections_of}
use Rattle.guard_simplify.specs.declared.choice.Choice.{Choice}
use Rattle.guard_simplify.specs.declared.choice.Repeat.{Repeat}
use Rattle.guard_simplify.specs.Choice.{repeat, repeat_pick, is_nil, is_made, is_off, arms, arms_in, test_names, selector_names, ends_in_call, barred, barred_in, under, choices_from, choices_of_sections}

-- a made `if` with empty lists
abbrev pub empty_if_F : Item-F Item Section → Bool
empty_if_F (If t a b) = is_made (test_tree t) && (is_nil (trees_of a) && is_nil (trees_of b))
empty_if_F _ = false

abbrev pub empty_if : Item → Bool
empty_if x = empty_if_F (out-Item x)

-- the first wrapper that repeats another
abbrev pub repeat_F : Item-F Item Section → Option Repeat
repeat_F (If t a b) = repeat [] [] (test_tree t)
repeat_F (While t a) = repeat [] [] (test_tree t)
repeat_F (Do a t) = repeat [] [] (test_tree t)
repeat_F (Switch s cs) = repeat_pick [] (selector_tree s)
repeat_F _ = None

abbrev pub repeat_in : Item → Option Repeat
repeat_in x = repeat_F (out-Item x)

-- the label of a test that is `Off`
abbrev pub off_label_F : Test-F Test → Option ℕ
off_label_F (T.Off l) = Some l
off_label_F _ = None

abbrev pub off_label : Test → Option ℕ
off_label t = off_label_F (out-Test t)

-- that of an `if` without else-list
abbrev pub guard_F : Item-F Item Section → Option ℕ
guard_F (If t a b) = cond (is_nil (trees_of b)) (off_label t) None
guard_F _ = None

abbrev pub guard : Item → Option ℕ
guard x = guard_F (out-Item x)

-- a made `if` without else-list
abbrev pub made_if_F : Item-F Item Section → Bool
made_if_F (If t a b) = is_nil (trees_of b) && is_made (test_tree t)
made_if_F _ = false

abbrev pub made_if : Item → Bool
made_if x = made_if_F (out-Item x)

-- a list of one of them
abbrev pub one_if : List Item → Bool
one_if (x ∷ []) = made_if x
one_if _ = false

-- a made `if` of `Off` and `AndOff` alone round one of them
abbrev pub nested_F : Item-F Item Section → Bool
nested_F (If t a b) = is_nil (trees_of b) && (is_off (test_tree t) && one_if a)
nested_F _ = false

abbrev pub nested : Item → Bool
nested x = nested_F (out-Item x)

-- an Arm of the label, or an item that has one in it
abbrev pub arms_F : ℕ → Item-F Item Section → Bool
arms_F l (If t a b) = arms l (trees_of a) || arms l (trees_of b)
arms_F l (While t a) = arms l (trees_of a)
arms_F l (Do a t) = arms l (trees_of a)
arms_F l (For f t u a) = arms l (trees_of f) || arms l (trees_of a)
arms_F l (Switch s cs) = arms_in l (sections_of cs)
arms_F l (Block a) = arms l (trees_of a)
arms_F l (Arm m e) = m == l
arms_F l _ = false

abbrev pub arms_item : ℕ → Item → Bool
arms_item l x = arms_F l (out-Item x)

-- an Arm of m, with this condition, bars the guard l
abbrev pub arm_bars : ℕ → ℕ → Option Expression → Bool
arm_bars l m None = false
arm_bars l m (Some e) = l == m && ends_in_call (expression_tree e)

-- an item bars it, or one in it does
abbrev pub bars_F : ℕ → Item-F Item Section → Bool
bars_F l (If t a b) = test_names l (test_tree t) || (barred l (trees_of a) || barred l (trees_of b))
bars_F l (While t a) = test_names l (test_tree t) || barred l (trees_of a)
bars_F l (Do a t) = test_names l (test_tree t) || barred l (trees_of a)
bars_F l (For f t u a) = barred l (trees_of f) || barred l (trees_of a)
bars_F l (Switch s cs) = selector_names l (selector_tree s) || barred_in l (sections_of cs)
bars_F l (Block a) = barred l (trees_of a)
bars_F l (Goto m) = l == m
bars_F l (Leap m) = l == m
bars_F l (Arm m e) = arm_bars l m e
bars_F l _ = false

abbrev pub bars_item : ℕ → Item → Bool
bars_item l x = bars_F l (out-Item x)

-- the label of an Arm or a Land whose guard may go
abbrev pub unread_F : (ℕ → Bool) → Item-F Item Section → Option ℕ
unread_F bar (Arm l e) = cond (bar l) None (Some l)
unread_F bar (Land l) = cond (bar l) None (Some l)
unread_F bar _ = None

abbrev pub unread : (ℕ → Bool) → Item → Option ℕ
unread bar x = unread_F bar (out-Item x)

-- the simplifications in the lists of the item i
abbrev pub inside_F : (ℕ → Bool) → ℕ → Item-F Item Section → List Choice
inside_F bar i (If t a b) = under i B.Then (choices_from bar 0 (trees_of a)) ++ under i B.Else (choices_from bar 0 (trees_of b))
inside_F bar i (While t a) = under i B.Body (choices_from bar 0 (trees_of a))
inside_F bar i (Do a t) = under i B.Body (choices_from bar 0 (trees_of a))
inside_F bar i (For f t u a) = under i B.Body (choices_from bar 0 (trees_of a))
inside_F bar i (Switch s cs) = choices_of_sections bar i 0 (sections_of cs)
inside_F bar i (Block a) = under i B.Body (choices_from bar 0 (trees_of a))
inside_F bar i _ = []

abbrev pub inside_item : (ℕ → Bool) → ℕ → Item → List Choice
inside_item bar i x = inside_F bar i (out-Item x)

-- the guard of an `if` and of its neighbour, where they are one and f says that the first has no Arm of it
abbrev pub beside : Option ℕ → Option ℕ → (ℕ → Bool) → Option ℕ
beside None o f = None
beside (Some l) None f = None
beside (Some l) (Some m) f = cond (m == l && not (f l)) (Some l) None

-- the guard of the neighbour, if there is one
abbrev pub next_guard : Option Item → Option ℕ
next_guard None = None
next_guard (Some y) = guard y
