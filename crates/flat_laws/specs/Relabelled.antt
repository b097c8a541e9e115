-- A body with other numbers for its labels.
use Rattle.std.specs.Prelude.{ℕ}
use Rattle.c_tree.specs.Trees.{Tree, Forest, Nil, Then, Sections, NoSection, Section, If, While, Do, For, Switch, Block, Goto, Mark}

module _ (f : ℕ → ℕ) where
  abbrev mutual
    -- with f l in the place of each label l
    pub relabelled : Forest → Forest
    relabelled Nil = Nil
    relabelled (Then x xs) = Then (relabelled_item x) (relabelled xs)

    pub relabelled_item : Tree → Tree
    relabelled_item (If t a b) = If t (relabelled a) (relabelled b)
    relabelled_item (While t a) = While t (relabelled a)
    relabelled_item (Do a t) = Do (relabelled a) t
    relabelled_item (For first t u a) = For (relabelled first) t u (relabelled a)
    relabelled_item (Switch s d) = Switch s (relabelled_among d)
    relabelled_item (Block a) = Block (relabelled a)
    relabelled_item (Goto l) = Goto (f l)
    relabelled_item (Mark l) = Mark (f l)
    relabelled_item x = x

    pub relabelled_among : Sections → Sections
    relabelled_among NoSection = NoSection
    relabelled_among (Section cases default a ends d) = Section cases default (relabelled a) ends (relabelled_among d)
