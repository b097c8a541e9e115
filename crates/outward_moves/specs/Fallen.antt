-- The sections of a switch that are fallen into.
use Rattle.std.specs.Prelude.{ℕ, ◌+◌, List, [], ◌∷◌, drop, cond}
use Rattle.c_tree.specs.declared.tree.Item.{Item, Item-F, out-Item}
use Rattle.c_tree.specs.declared.tree.Item.TheOpen.{Switch}
use Rattle.c_tree.specs.declared.tree.Section.{Section, out-Section}
use Rattle.c_tree.specs.declared.tree.Branch.{Branch}
use Rattle.c_tree.specs.declared.tree.Branch.TheVariants as B

-- how many sections are fallen into from the first on: up to and including the first that has an end
abbrev pub fallen : List Section → ℕ
fallen [] = 0
fallen (c ∷ cs) = 1 + cond (out-Section c).ends 0 (fallen cs)

-- how many are fallen into after the first
abbrev pub fallen_later : List Section → ℕ
fallen_later [] = 0
fallen_later (c ∷ cs) = cond (out-Section c).ends 0 (fallen cs)

-- how many of an item are fallen into after the branch
abbrev pub fallen_after_F : Branch → Item-F Item Section → ℕ
fallen_after_F (B.Section k) (Switch s cs) = fallen_later (drop k cs)
fallen_after_F b x = 0

abbrev pub fallen_after : Branch → Item → ℕ
fallen_after b x = fallen_after_F b (out-Item x)
