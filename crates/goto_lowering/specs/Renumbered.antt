-- A flat list with other numbers of labels.
use Rattle.std.specs.Prelude.{ℕ, List, [], ◌∷◌, Option, Some, None}
use Rattle.c_tree.specs.Trees.{Tree, Forest, Nil, Then, If, Goto, Mark}

-- the list of an `if`
abbrev pub renumbered_goto : (ℕ → ℕ) → Forest → Forest
renumbered_goto f (Then (Goto l) Nil) = Then (Goto (f l)) Nil
renumbered_goto f a = a

abbrev pub renumbered_item : (ℕ → ℕ) → Tree → Tree
renumbered_item f (Goto l) = Goto (f l)
renumbered_item f (Mark l) = Mark (f l)
renumbered_item f (If t a b) = If t (renumbered_goto f a) b
renumbered_item f x = x

abbrev pub renumbered : (ℕ → ℕ) → Forest → Forest
renumbered f Nil = Nil
renumbered f (Then x xs) = Then (renumbered_item f x) (renumbered f xs)

-- the goto that is all of a list
abbrev pub lone_goto : Forest → Option ℕ
lone_goto (Then (Goto l) Nil) = Some l
lone_goto a = None
