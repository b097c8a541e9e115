-- The Notes of a program, in text order.
use Rattle.std.specs.Prelude.{ℕ, List, [], ◌∷◌, ◌++◌}
use Rattle.c_tree.specs.declared.tree.Top.{Top}
use Rattle.c_tree.specs.declared.tree.Top.TheVariants as T
use Rattle.c_tree.specs.declared.tree.Program.{Program}
use Rattle.c_tree.specs.Trees.{Tree, Forest, Nil, Then, Sections, NoSection, Section, If, While, Do, For, Switch, Block, Note}
use Rattle.c_tree.specs.InRange.{body_of}

abbrev mutual
  -- those of a list, each by its bytes
  pub notes : Forest → List (List ℕ)
  notes Nil = []
  notes (Then x xs) = notes_in x ++ notes xs

  -- of an item
  pub notes_in : Tree → List (List ℕ)
  notes_in (If t a b) = notes a ++ notes b
  notes_in (While t a) = notes a
  notes_in (Do a t) = notes a
  notes_in (For first t u a) = notes first ++ notes a
  notes_in (Switch s c) = notes_among c
  notes_in (Block a) = notes a
  notes_in (Note bytes) = bytes ∷ []
  notes_in _ = []

  -- of the sections of a switch
  pub notes_among : Sections → List (List ℕ)
  notes_among NoSection = []
  notes_among (Section cases default a ends c) = notes a ++ notes_among c

-- of what stands at file scope
abbrev pub top_notes : Top → List (List ℕ)
top_notes (T.Note bytes) = bytes ∷ []
top_notes (T.Function f) = notes (body_of f)
top_notes _ = []

abbrev pub tops_notes : List Top → List (List ℕ)
tops_notes [] = []
tops_notes (t ∷ ts) = top_notes t ++ tops_notes ts

-- of the whole file
abbrev pub notes_of : Program → List (List ℕ)
notes_of p = tops_notes p.tops
