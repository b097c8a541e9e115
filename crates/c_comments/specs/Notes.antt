-- The places of comments. That of a comment is decided by the token that follows it.
use Rattle.std.specs.Prelude.{ℕ, suc, Bool, true, false, cond, not, ◌&&◌, ◌||◌, nat_le, nat_lt, List, [], ◌∷◌, map, filter, slice_range, Option, Some, None}
use Rattle.c_lexer.specs.declared.token.Token.{Token}
use Rattle.c_lexer.specs.declared.token.Span.{Span}
use Rattle.c_grammar.specs.Items.{Label, Named, Case, Default, Item, Declares, States, Plain, From, Statement, If, IfElse, While, DoWhile, For, Switch, Block, Body, Braces, Lone, Items, NoItem, Then, label_first, first_label}
use Rattle.c_grammar.specs.Tops.{Function, Top, Form, Defines}
use Rattle.c_grammar.specs.Tops as tops
use Rattle.c_statements.specs.declared.anchors.Anchor.{Anchor}
use Rattle.c_statements.specs.declared.anchors.Anchor.TheVariants.{Before, AtEnd, AtSection, Last}
use Rattle.c_statements.specs.Context.{same_place}
use Rattle.c_statements.specs.Labels.{has_case}
use Rattle.c_statements.specs.Violations.{is_null}

-- ---- elements: tops, declarations, statements, and labels but for the case and default labels of sections

abbrev pub label_after : Label → ℕ
label_after (Named first after) = after
label_after (Case first after t) = after
label_after (Default first after) = after

abbrev pub plain_after : Plain → ℕ
plain_after (From first after s) = after

abbrev pub item_after : Item → ℕ
item_after (Declares first after d) = after
item_after (States ls p) = plain_after p

-- A token in a case or default label of a section belongs in front of the section's first item: the first
-- label with a name, where the statement has one, else the beginning of the section's list.
abbrev pub case_place : ℕ → List Label → Anchor
case_place first [] = AtSection first
case_place first (Named at after ∷ ls) = Before at
case_place first (_ ∷ ls) = case_place first ls

abbrev pub section_label_place : List Label → Label → Anchor
section_label_place all (Named at after) = Before at
section_label_place all _ = case_place (first_label all) all

-- the place of token t, if it stands in the labels of a statement, each of which is an element
abbrev pub labels_place : List Label → ℕ → Option Anchor
labels_place [] t = None
labels_place (l ∷ ls) t = elim (nat_lt t (label_after l)) [ true ↦ Some (Before (label_first l)) | false ↦ labels_place ls t ]

-- the place of token t, if it stands in the labels of a statement that begins a section: all its labels, and those that are left
abbrev pub section_place : List Label → List Label → ℕ → Option Anchor
section_place all [] t = None
section_place all (l ∷ ls) t = elim (nat_lt t (label_after l)) [ true ↦ Some (section_label_place all l) | false ↦ section_place all ls t ]

abbrev pub or_behind : Option Anchor → Anchor → Anchor
or_behind (Some place) behind = place
or_behind None behind = behind

-- an item that begins a section where it stands in a switch body
abbrev pub begins_section : Item → Bool
begins_section (Declares first after d) = false
begins_section (States ls p) = has_case ls

abbrev mutual
  -- the place of token t, which stands in the element
  pub item_place : Item → ℕ → Anchor
  item_place (Declares first after d) t = Before first
  item_place (States ls p) t = or_behind (labels_place ls t) (plain_place p t)

  pub plain_place : Plain → ℕ → Anchor
  plain_place (From first after s) t = elim (nat_le t first) [ true ↦ Before first | false ↦ statement_place first s t ]

  -- behind the first token of a statement: in one of its lists, at the end of the last list before t, or before the statement
  pub statement_place : ℕ → Statement → ℕ → Anchor
  statement_place first (If e b) t = body_place (Before first) b t
  statement_place first (IfElse e b c) t = body_place (body_place (Before first) b t) c t
  statement_place first (While e b) t = body_place (Before first) b t
  statement_place first (DoWhile b e) t = body_place (Before first) b t
  statement_place first (For start e u b) t = body_place (Before first) b t
  statement_place first (Switch e b) t = switch_place first b t
  statement_place first (Block b) t = body_place (Before first) b t
  statement_place first _ t = Before first

  -- in front of the list the place is the one that is given, and behind it the end of the list
  pub body_place : Anchor → Body → ℕ → Anchor
  body_place before (Braces first after xs) t =
      elim (nat_le t first) [ true ↦ before | false ↦ elim (nat_lt t after) [ true ↦ list_place (AtEnd first) xs t | false ↦ AtEnd first ] ]
  body_place before (Lone first after x) t =
      elim (nat_lt t first) [ true ↦ before | false ↦ elim (nat_lt t after) [ true ↦ item_place x t | false ↦ AtEnd first ] ]

  pub list_place : Anchor → Items → ℕ → Anchor
  list_place end NoItem t = end
  list_place end (Then x xs) t = elim (nat_lt t (item_after x)) [ true ↦ item_place x t | false ↦ list_place end xs t ]

  -- The `}` of a switch is the end of its last section; without sections the place is before the switch.
  pub switch_place : ℕ → Body → ℕ → Anchor
  switch_place switch (Braces first after xs) t = elim (nat_le t first) [ true ↦ Before switch | false ↦ members_place false switch first xs t ]
  switch_place switch (Lone first after x) t = elim (nat_lt t first) [ true ↦ Before switch | false ↦ member_place false switch x t ]

  -- the items of a switch body, and whether one before them begins a section
  pub members_place : Bool → ℕ → ℕ → Items → ℕ → Anchor
  members_place begun switch first NoItem t = cond begun (AtEnd first) (Before switch)
  members_place begun switch first (Then x xs) t =
      elim (nat_lt t (item_after x)) [ true ↦ member_place begun switch x t | false ↦ members_place (begun || begins_section x) switch first xs t ]

  -- in front of the first section a null statement is no element
  pub member_place : Bool → ℕ → Item → ℕ → Anchor
  member_place begun switch (Declares first after d) t = Before first
  member_place begun switch (States ls p) t =
      elim (has_case ls) [
        | true ↦ or_behind (section_place ls ls t) (plain_place p t)
        | false ↦ elim (not begun && is_null ls p) [ true ↦ Before switch | false ↦ or_behind (labels_place ls t) (plain_place p t) ]
      ]

-- ---- files

abbrev pub function_place : ℕ → Option Body → ℕ → Anchor
function_place first None t = Before first
function_place first (Some b) t = body_place (Before first) b t

abbrev pub form_place : ℕ → Form → ℕ → Anchor
form_place first (Defines f) t = function_place first f.body t
form_place first _ t = Before first

abbrev pub top_place : Top → ℕ → Anchor
top_place (tops.From first after form) t = elim (nat_le t first) [ true ↦ Before first | false ↦ form_place first form t ]

abbrev pub top_after : Top → ℕ
top_after (tops.From first after form) = after

-- the place of the Note of a comment in front of token t
abbrev pub place_in : List Top → ℕ → Anchor
place_in [] t = Last
place_in (x ∷ xs) t = elim (nat_lt t (top_after x)) [ true ↦ top_place x t | false ↦ place_in xs t ]

-- ---- comments

-- the number of the token that follows a comment at this offset: the first that begins behind it
abbrev pub next_token : List Token → ℕ → ℕ
next_token [] start = 0
next_token (t ∷ ts) start = cond (nat_lt t.start start) (suc (next_token ts start)) 0

abbrev pub comment_bytes : List ℕ → Span → List ℕ
comment_bytes text c = slice_range text c.start c.end

abbrev pub comment_place : List Token → List Top → Span → Anchor
comment_place tokens file c = place_in file (next_token tokens c.start)

-- the comments of a place, in order
abbrev pub notes_of : List ℕ → List Token → List Span → List Top → Anchor → List (List ℕ)
notes_of text tokens comments file anchor = map (comment_bytes text) (filter (λ c. same_place (comment_place tokens file c) anchor) comments)
