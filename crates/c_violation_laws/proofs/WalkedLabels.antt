-- The labels that a walk puts in front of others are those of the statement.
use Rattle.std.proofs.Common.{◌≡◌, ℕ, List, [], ◌∷◌, ◌++◌, refl, ap, sym, ◌∙◌, append_assoc, append-nil}
use Rattle.c_grammar.specs.Items.{Label, Named, Case, Default, Item, Declares, States, Plain, From, Statement, If, IfElse, While, DoWhile, For, Switch, Block, Body, Braces, Lone, Items, NoItem, Then}
use Rattle.c_statements.specs.Labels.{named_in}
use Rattle.c_statements.specs.Labels as walked
use Rattle.c_reading_defs.specs.Labels.{labels_among, item_labels, plain_labels, statement_labels, body_labels, list_labels}

among : (ls : List Label) (rest : List ℕ) → named_in ls rest ≡ labels_among ls ++ rest
among [] rest = refl
among (Named at after ∷ ls) rest = ap (λ l. at ∷ l) (among ls rest)
among (Case at after t ∷ ls) rest = among ls rest
among (Default at after ∷ ls) rest = among ls rest

mutual
  in_item : (x : Item) (rest : List ℕ) → walked.item_labels x rest ≡ item_labels x ++ rest
  in_item (Declares first after d) rest = refl
  in_item (States ls s) rest = among ls (walked.plain_labels s rest) ∙ ap (λ l. labels_among ls ++ l) (in_plain s rest) ∙
      sym (append_assoc (labels_among ls) (plain_labels s) rest)

  in_plain : (s : Plain) (rest : List ℕ) → walked.plain_labels s rest ≡ plain_labels s ++ rest
  in_plain (From first after s) rest = in_statement s rest

  in_statement : (s : Statement) (rest : List ℕ) → walked.statement_labels s rest ≡ statement_labels s ++ rest
  in_statement (If t b) rest = in_body b rest
  in_statement (IfElse t b c) rest = in_body b (walked.body_labels c rest) ∙ ap (λ l. body_labels b ++ l) (in_body c rest) ∙
      sym (append_assoc (body_labels b) (body_labels c) rest)
  in_statement (While t b) rest = in_body b rest
  in_statement (DoWhile b t) rest = in_body b rest
  in_statement (For start t u b) rest = in_body b rest
  in_statement (Switch t b) rest = in_body b rest
  in_statement (Block b) rest = in_body b rest
  in_statement _ rest = refl

  in_body : (b : Body) (rest : List ℕ) → walked.body_labels b rest ≡ body_labels b ++ rest
  in_body (Braces first after xs) rest = in_list xs rest
  in_body (Lone first after x) rest = in_item x rest

  in_list : (xs : Items) (rest : List ℕ) → walked.list_labels xs rest ≡ list_labels xs ++ rest
  in_list NoItem rest = refl
  in_list (Then x xs) rest = in_item x (walked.list_labels xs rest) ∙ ap (λ l. item_labels x ++ l) (in_list xs rest) ∙
      sym (append_assoc (item_labels x) (list_labels xs) rest)

pub labels_same : (b : Body) → walked.body_labels b [] ≡ body_labels b
labels_same b = in_body b [] ∙ append-nil (body_labels b)
