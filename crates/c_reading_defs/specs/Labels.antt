-- What is known everywhere in a function, and its labels (ISO/IEC 9899:2011, 6.8.1).
use Rattle.std.specs.Prelude.{ℕ, suc, cond, not, List, [], ◌∷◌, ◌++◌, map, Option}
use Rattle.std.specs.List.{filter}
use Rattle.std.specs.Str.{bytes_eq}
use Rattle.c_types.specs.declared.kinds.IntKind.{IntKind}
use Rattle.c_tree.specs.declared.tree.Item as item
use Rattle.c_grammar.specs.Items.{Label, Named, Item, Declares, States, Plain, From, Statement, If, IfElse, While, DoWhile, For, Switch, Block, Body, Braces, Lone, Items, NoItem, Then}
use Rattle.c_statements.specs.declared.anchors.Anchor.{Anchor}
use Rattle.c_statements.specs.declared.anchors.Anchor.TheVariants.{Before}

pub record InFunction : Type 0 where
  -- the words of the tokens
  pub word : ℕ → List ℕ
  -- the comments of a place, in order
  pub notes : Anchor → List (List ℕ)
  -- the names of its labels, each once, in text order
  pub labels : List (List ℕ)
  -- its parameters and the variables of its body, by their tokens, in text order
  pub variables : List ℕ
  -- the kind of its result, None for `void`
  pub result : Option IntKind

abbrev pub notes_at : InFunction → Anchor → List item.Item
notes_at f anchor = map item.Note (f.notes anchor)

-- ---- labels, by the tokens of their names, in text order

abbrev pub labels_among : List Label → List ℕ
labels_among [] = []
labels_among (Named at after ∷ ls) = at ∷ labels_among ls
labels_among (l ∷ ls) = labels_among ls

abbrev mutual
  pub item_labels : Item → List ℕ
  item_labels (Declares first after d) = []
  item_labels (States ls s) = labels_among ls ++ plain_labels s

  pub plain_labels : Plain → List ℕ
  plain_labels (From first after s) = statement_labels s

  pub statement_labels : Statement → List ℕ
  statement_labels (If t b) = body_labels b
  statement_labels (IfElse t b c) = body_labels b ++ body_labels c
  statement_labels (While t b) = body_labels b
  statement_labels (DoWhile b t) = body_labels b
  statement_labels (For start t u b) = body_labels b
  statement_labels (Switch t b) = body_labels b
  statement_labels (Block b) = body_labels b
  statement_labels _ = []

  pub body_labels : Body → List ℕ
  body_labels (Braces first after xs) = list_labels xs
  body_labels (Lone first after x) = item_labels x

  pub list_labels : Items → List ℕ
  list_labels NoItem = []
  list_labels (Then x xs) = item_labels x ++ list_labels xs

-- ---- their names and numbers

-- each name once, where it comes first
abbrev pub each_once : List (List ℕ) → List (List ℕ)
each_once [] = []
each_once (n ∷ ns) = n ∷ filter (λ m. not (bytes_eq m n)) (each_once ns)

-- the names of the labels of a body, in text order
abbrev pub distinct_labels : (ℕ → List ℕ) → Body → List (List ℕ)
distinct_labels word b = each_once (map word (body_labels b))

-- how many of these labels come before the one of this name
abbrev pub label_number : List (List ℕ) → List ℕ → ℕ
label_number [] name = 0
label_number (n ∷ ns) name = cond (bytes_eq name n) 0 (suc (label_number ns name))

-- the label that stands at a token
abbrev pub mark : InFunction → ℕ → List item.Item
mark f at = notes_at f (Before at) ++ item.Mark (label_number f.labels (f.word at)) ∷ []
