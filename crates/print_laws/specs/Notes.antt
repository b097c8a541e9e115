-- The comments that the printed text of a program has, each with the classes of the tokens behind it.
use Rattle.std.specs.Prelude.{List, [], ◌∷◌, cond, Option, Some, None}
use Rattle.c_tree.specs.declared.tree.Slot.{Slot}
use Rattle.c_tree.specs.declared.tree.Function.{Function}
use Rattle.c_tree.specs.declared.tree.Item.{Item}
use Rattle.c_tree.specs.declared.tree.Top.{Top}
use Rattle.c_tree.specs.declared.tree.Top.TheVariants as T
use Rattle.c_tree.specs.declared.tree.Program.{Program}
use Rattle.c_tree.specs.Trees.{Tree, Forest, Nil, Then, Sections, NoSection, Section, trees_of}
use Rattle.c_tree.specs.Trees as t
use Rattle.c_grammar.specs.declared.class.Class.{Class}
use Rattle.c_grammar.specs.declared.class.Class.TheVariants as c
use Rattle.c_grammar.specs.Expressions.{expression_tokens}
use Rattle.c_grammar.specs.Statements.{NoItems, items_tokens, statement_tokens}
use Rattle.c_grammar.specs.Files.{file_tokens}
use Rattle.print_laws.specs.Reread.{Comments}
use Rattle.print_laws.specs.StatementDerivations.{test_of, is_last, section_end, is_lone_if, placed, block, statement_of, items_of, sections_of}
use Rattle.print_laws.specs.FileDerivations.{tops_of}

-- what stands behind `else`, by its first item
abbrev pub else_tokens : List Slot → Tree → Forest → List Class → List Class
else_tokens slots x xs r = statement_tokens
    (cond (is_lone_if x xs) (statement_of slots x) (block (placed slots x (statement_of slots x) (items_of slots xs NoItems)))) r

abbrev mutual
  -- those of an item, in front of these tokens and comments
  pub item_notes : List Slot → Tree → List Class → Comments → Comments
  item_notes slots (t.Note bytes) r n = (r, bytes) ∷ n
  item_notes slots (t.If test a Nil) r n = items_notes slots a (c.CloseBlock ∷ r) n
  item_notes slots (t.If test a (Then x xs)) r n =
      items_notes slots a (c.CloseBlock ∷ c.Else ∷ else_tokens slots x xs r)
      (cond (is_lone_if x xs) (item_notes slots x r n) (item_notes slots x (items_tokens (items_of slots xs NoItems) (c.CloseBlock ∷ r))
      (items_notes slots xs (c.CloseBlock ∷ r) n)))
  item_notes slots (t.While test a) r n = items_notes slots a (c.CloseBlock ∷ r) n
  item_notes slots (t.Do a test) r n = items_notes slots a (c.CloseBlock ∷ c.While ∷ c.Open ∷ expression_tokens (test_of test) (c.Close ∷ c.Semicolon ∷ r)) n
  item_notes slots (t.For first test u a) r n = items_notes slots a (c.CloseBlock ∷ r) n
  item_notes slots (t.Switch s cs) r n = sections_notes slots cs (c.CloseBlock ∷ r) n
  item_notes slots (t.Block a) r n = items_notes slots a (c.CloseBlock ∷ r) n
  item_notes slots _ r n = n

  pub items_notes : List Slot → Forest → List Class → Comments → Comments
  items_notes slots Nil r n = n
  items_notes slots (Then x xs) r n = item_notes slots x (items_tokens (items_of slots xs NoItems) r) (items_notes slots xs r n)

  pub sections_notes : List Slot → Sections → List Class → Comments → Comments
  sections_notes slots NoSection r n = n
  sections_notes slots (Section cases default a ends cs) r n =
      items_notes slots a (items_tokens (section_end ends a (is_last cs) NoItems) (items_tokens (sections_of slots cs) r)) (sections_notes slots cs r n)

abbrev pub body_notes : Function → Option (List Item) → List Class → Comments → Comments
body_notes f None r n = n
body_notes f (Some body) r n = items_notes f.slots (trees_of body) (c.CloseBlock ∷ r) n

abbrev pub tops_notes : List Top → List Class → Comments → Comments
tops_notes [] r n = n
tops_notes (T.Note bytes ∷ ts) r n = (file_tokens (tops_of ts) r, bytes) ∷ tops_notes ts r n
tops_notes (T.Function f ∷ ts) r n = body_notes f f.body (file_tokens (tops_of ts) r) (tops_notes ts r n)
tops_notes (_ ∷ ts) r n = tops_notes ts r n

-- the comments of a program
abbrev pub notes_of : Program → Comments
notes_of p = tops_notes p.tops (c.End ∷ []) []
