-- The lists of the printed text of a body stand no deeper in each other than those of the body.
use Rattle.std.proofs.Common.{◌≤◌, ◌+◌, ℕ, Bool, true, false, cond, List, [], ◌∷◌, max, arith}
use Rattle.c_tree.specs.declared.tree.Slot.{Slot}
use Rattle.c_tree.specs.TestTrees.{TestTree}
use Rattle.c_tree.specs.Trees.{Tree, Forest, Nil, Then, Sections, NoSection, Section}
use Rattle.c_tree.specs.Trees as t
use Rattle.c_grammar.specs.Statements.{Label, Statement, Items, NoItems, LocalItem, StatementItem}
use Rattle.c_grammar.specs.ExpressionSyntax.{expression_end}
use Rattle.c_grammar.specs.StatementSyntax.{label_end, local_end, statement_end}
use Rattle.c_grammar.specs.Items as s
use Rattle.c_grammar.specs.Parts.{list_of_item}
use Rattle.c_statements.specs.Measures.{plain_depth, body_depth, list_depth}
use Rattle.c_resolved_defs.specs.PrintableStatements.{depth_of, depth, depth_in}
use Rattle.print_laws.specs.StatementDerivations.{selector_of, labels_of, behind_labels as put_labels, labelled, null_statement, starts_with_local, is_last, optional_item, section_end, is_lone_if, placed, block, statement_of, items_of, sections_of}
use Rattle.reread_parts_laws.specs.WrittenStatements.{written_items, written_labels, behind_labels}
use Rattle.reread_parts_laws.specs.PlacedNotes.{has_last}

-- wherever it stands
abbrev Shallow : ℕ → Items → Type 0
Shallow n xs = (at : ℕ) → list_depth (written_items at xs) ≤ n

abbrev StatementShallow : ℕ → Statement → Type 0
StatementShallow n x = (at : ℕ) → plain_depth (behind_labels at x) ≤ n

local_shallow : (n : ℕ) (x : _) (xs : Items) → Shallow n xs → Shallow n (LocalItem x xs)
local_shallow n x xs h at = let k = h (local_end at x) in omega (arith, k)

stated_shallow : (n : ℕ) (x : Statement) (xs : Items) → StatementShallow n x → Shallow n xs → Shallow n (StatementItem x xs)
stated_shallow n x xs g h at = let i = g at in let k = h (statement_end at x) in omega (arith, i, k)

null_shallow : (n : ℕ) → StatementShallow n null_statement
null_shallow n at = omega arith

optional_shallow : (n : ℕ) (b : Bool) (xs : Items) → Shallow n xs → Shallow n (optional_item b null_statement xs)
optional_shallow n true xs h = stated_shallow n null_statement xs (null_shallow n) h
optional_shallow n false xs h = h

end_shallow : (n : ℕ) (ends : Bool) (a : Forest) (last : Bool) (xs : Items) → Shallow n xs → Shallow n (section_end ends a last xs)
end_shallow n true a last xs h at = let k = h (at + 1 + 1) in omega (arith, k)
end_shallow n false a last xs h at = optional_shallow n (has_last a last) xs h at

-- behind labels, from the number behind them
put_shallow : (n : ℕ) (ls : List Label) (x : Statement) (xs : Items) → Shallow n (StatementItem x xs) → Shallow n (StatementItem (put_labels ls x) xs)
put_shallow n [] x xs h at = h at
put_shallow n (l ∷ ls) x xs h at = let k = put_shallow n ls x xs h (label_end at l) in omega (arith, k)

labelled_shallow : (n : ℕ) (ls : List Label) (xs : Items) → Shallow n xs → Shallow n (labelled ls xs)
labelled_shallow n ls NoItems h = h
labelled_shallow n ls (LocalItem x xs) h = h
labelled_shallow n ls (StatementItem x xs) h = put_shallow n ls x xs h

module _ (slots : List Slot) where
  abbrev ListS : Forest → Type 0
  ListS xs = (n : ℕ) (others : Items) → depth xs ≤ n → Shallow n others → Shallow n (items_of slots xs others)

  abbrev TreeS : Tree → Type 0
  TreeS x = (n : ℕ) → depth_of x ≤ n → StatementShallow n (statement_of slots x)

  placed_shallow : (x : Tree) (n : ℕ) (others : Items) → StatementShallow n (statement_of slots x) → Shallow n others →
      Shallow n (placed slots x (statement_of slots x) others)
  placed_shallow (t.Local k given) n others g h = local_shallow n _ others h
  placed_shallow (t.Note bytes) n others g h = h
  placed_shallow x n others g h = stated_shallow n (statement_of slots x) others g h

  -- the depth of a list in braces
  in_block : (a : Forest) → ListS a → (n at : ℕ) → depth a + 1 ≤ n → list_depth (written_items (at + 1) (items_of slots a NoItems)) + 1 ≤ n
  in_block a l n at h = let k = l (depth a) NoItems (omega arith) (λ z. omega arith) (at + 1) in omega (arith, h, k)

  abbrev ElseS : Forest → Type 0
  ElseS Nil = Unit {0}
  ElseS (Then y ys) =
      (n e : ℕ) → max (depth_of y) (depth ys) + 1 ≤ n
      → let x = cond (is_lone_if y ys) (statement_of slots y) (block (placed slots y (statement_of slots y) (items_of slots ys NoItems))) in
      body_depth (list_of_item e (statement_end e x) (s.States (written_labels e x) (behind_labels e x))) ≤ n

  abbrev LoneS : Forest → Type 0
  LoneS (Then (t.If d a b) Nil) = TreeS (t.If d a b)
  LoneS _ = Unit {0}

  else_shallow : (b : Forest) → ListS b → LoneS b → ElseS b
  else_shallow Nil l o = tt
  else_shallow (Then (t.If d a Nil) Nil) l o = λ n e h. let k = o (depth_of (t.If d a Nil)) (omega arith) e in omega (arith, h, k)
  else_shallow (Then (t.If d a (Then b bs)) Nil) l o = λ n e h. let k = o (depth_of (t.If d a (Then b bs))) (omega arith) e in omega (arith, h, k)
  else_shallow (Then y ys) l o = λ n e h. in_block (Then y ys) l n e h

  if_shallow : (d : TestTree) (a b : Forest) → ListS a → ElseS b → TreeS (t.If d a b)
  if_shallow d a Nil l e n h at = in_block a l n _ h
  if_shallow d a (Then y ys) l e n h at = both_most _ _ n (in_block a l n _ (omega (arith, h))) (e n _ (omega (arith, h)))
    where
      both_most : (x y z : ℕ) → x ≤ z → y ≤ z → max x y ≤ z
      both_most x y z p q = omega (arith, p, q)

  mutual
    list_shallow : (xs : Forest) → ListS xs
    list_shallow Nil = λ n others h k. k
    list_shallow (Then x xs) = λ n others h k. placed_shallow x n (items_of slots xs others) (tree_shallow x n (omega (arith, h)))
        (list_shallow xs n others (omega (arith, h)) k)

    lone_shallow : (b : Forest) → LoneS b
    lone_shallow (Then (t.If d a b) Nil) = if_shallow d a b (list_shallow a) (else_shallow b (list_shallow b) (lone_shallow b))
    lone_shallow _ = tt

    tree_shallow : (x : Tree) → TreeS x
    tree_shallow (t.If d a b) = if_shallow d a b (list_shallow a) (else_shallow b (list_shallow b) (lone_shallow b))
    tree_shallow (t.While d a) = λ n h at. in_block a (list_shallow a) n _ h
    tree_shallow (t.Do a d) = λ n h at. in_block a (list_shallow a) n _ h
    tree_shallow (t.For first d u a) = λ n h at. in_block a (list_shallow a) n _ h
    tree_shallow (t.Switch e cs) = λ n h at. let k = sections_shallow cs (depth_in cs) (omega arith)
        (expression_end (at + 1 + 1) (selector_of e) + 1 + 1) in omega (arith, h, k)
    tree_shallow (t.Block a) = λ n h at. in_block a (list_shallow a) n _ h
    tree_shallow x = λ n h at. omega arith

    sections_shallow : (cs : Sections) (n : ℕ) → depth_in cs ≤ n → Shallow n (sections_of slots cs)
    sections_shallow NoSection n h at = omega arith
    sections_shallow (Section cases default a ends cs) n h at =
        let end = section_end ends a (is_last cs) (sections_of slots cs) in
        let list = list_shallow a n end (omega (arith, h)) (end_shallow n ends a (is_last cs) (sections_of slots cs)
        (sections_shallow cs n (omega (arith, h)))) in
        labelled_shallow n (labels_of cases default) (optional_item (starts_with_local a) null_statement (items_of slots a end))
        (optional_shallow n (starts_with_local a) (items_of slots a end) list) at

  -- the lists of a body
  pub body_shallow : (a : Forest) (at : ℕ) → list_depth (written_items (at + 1) (items_of slots a NoItems)) + 1 ≤ 1 + depth a
  body_shallow a at = in_block a (list_shallow a) (1 + depth a) at (omega arith)
