-- The places of comments. That of a comment is decided by the token that follows it.
use Rattle.std.specs.Prelude.{ℕ, Bool, true, false, cond, not, ◌&&◌, ◌||◌, nat_le, nat_lt, List, [], ◌∷◌, map, filter, Option, Some, None, option_and_then}
use Rattle.std.specs.Option.{option_or}
use Rattle.c_lexer.specs.declared.token.Token.{Token}
use Rattle.c_lexer.specs.declared.token.Span.{Span}
use Rattle.c_grammar.specs.Items.{Label, Item, Declares, States, Plain, From, Statement, If, IfElse, While, DoWhile, For, Switch, Block, Body, Braces, Lone, Items, NoItem, Then, label_first, first_label}
use Rattle.c_grammar.specs.Tops.{Form, Defines, Top}
use Rattle.c_grammar.specs.Tops as tops
use Rattle.c_statements.specs.declared.anchors.Anchor.{Anchor}
use Rattle.c_statements.specs.declared.anchors.Anchor.TheVariants.{Before, AtEnd, Last}
use Rattle.c_statements.specs.Context.{same_place}
use Rattle.c_statements.specs.Labels.{is_case}
use Rattle.c_statements.specs.Statements.{begins, is_element}
use Rattle.c_comments.specs.Notes.{label_after, item_after, case_place, or_behind, top_after, next_token, comment_bytes}

-- ---- labels

-- before the label; in a case or default label of a section, in front of the section's first item
abbrev pub label_place : Bool → List Label → Label → Anchor
label_place sectioned ls l = cond (sectioned && is_case l) (case_place (first_label ls) ls) (Before (label_first l))

-- the place of token t, if it stands in these labels
abbrev pub in_labels : (Label → Anchor) → List Label → ℕ → Option Anchor
in_labels place [] t = None
in_labels place (l ∷ ls) t = cond (nat_lt t (label_after l)) (Some (place l)) (in_labels place ls t)

-- ---- items

-- the items of a switch in front of its first section
abbrev pub outside : Items → Items
outside NoItem = NoItem
outside (Then x xs) = cond (begins x) NoItem (Then x (outside xs))

-- token t stands in a null statement without labels
abbrev pub stands_in_null : Items → ℕ → Bool
stands_in_null NoItem t = false
stands_in_null (Then x xs) t = cond (nat_lt t (item_after x)) (not (is_element x)) (stands_in_null xs t)

abbrev pub has_sections : Items → Bool
has_sections NoItem = false
has_sections (Then x xs) = begins x || has_sections xs

-- the end of a switch is the end of its last section, if it has one
abbrev pub section_end : ℕ → Items → Option Anchor
section_end first xs = cond (has_sections xs) (Some (AtEnd first)) None

abbrev mutual
  -- the place of token t, which stands in an item of a list; one of a switch can begin a section
  pub item_place : Bool → Item → ℕ → Anchor
  item_place switched (Declares first after d) t = Before first
  item_place switched (States ls p) t = or_behind (in_labels (label_place switched ls) ls t) (plain_place p t)

  -- behind the first token: in a list of the statement, or before the statement
  pub plain_place : Plain → ℕ → Anchor
  plain_place (From first after s) t = cond (nat_le t first) (Before first) (or_behind (in_statement s t) (Before first))

  -- in the last of its lists that begins before token t, if one does
  pub in_statement : Statement → ℕ → Option Anchor
  in_statement (If e b) t = in_body b t
  in_statement (IfElse e b c) t = option_or (in_body c t) (in_body b t)
  in_statement (While e b) t = in_body b t
  in_statement (DoWhile b e) t = in_body b t
  in_statement (For start e u b) t = in_body b t
  in_statement (Switch e b) t = in_switch_body b t
  in_statement (Block b) t = in_body b t
  in_statement _ t = None

  -- behind a list the place is its end
  pub in_body : Body → ℕ → Option Anchor
  in_body (Braces first after xs) t = cond (nat_le t first) None (Some (cond (nat_lt t after) (or_behind (in_items false xs t) (AtEnd first)) (AtEnd first)))
  in_body (Lone first after x) t = cond (nat_lt t first) None (Some (cond (nat_lt t after) (item_place false x t) (AtEnd first)))

  pub in_items : Bool → Items → ℕ → Option Anchor
  in_items switched NoItem t = None
  in_items switched (Then x xs) t = cond (nat_lt t (item_after x)) (Some (item_place switched x t)) (in_items switched xs t)

  -- a null statement in front of the first section is no item
  pub in_switch_body : Body → ℕ → Option Anchor
  in_switch_body (Braces first after xs) t = cond (nat_le t first || stands_in_null (outside xs) t) None (option_or (in_items true xs t) (section_end first xs))
  in_switch_body (Lone first after x) t = cond (nat_lt t first || not (is_element x)) None (Some (item_place true x t))

-- ---- files

abbrev pub in_form : Form → ℕ → Option Anchor
in_form (Defines f) t = option_and_then (λ b. in_body b t) f.body
in_form _ t = None

abbrev pub top_place : Top → ℕ → Anchor
top_place (tops.From first after form) t = cond (nat_le t first) (Before first) (or_behind (in_form form t) (Before first))

-- the place of the Note of a comment in front of token t
abbrev pub place_in : List Top → ℕ → Anchor
place_in [] t = Last
place_in (x ∷ xs) t = cond (nat_lt t (top_after x)) (top_place x t) (place_in xs t)

-- the comments of a place, in order
abbrev pub notes_of : List ℕ → List Token → List Span → List Top → Anchor → List (List ℕ)
notes_of text tokens comments xs anchor = map (comment_bytes text) (filter (λ c. same_place (place_in xs (next_token tokens c.start)) anchor) comments)
