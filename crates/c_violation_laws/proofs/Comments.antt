-- The places of comments are those that the walk gives.
use Rattle.std.proofs.Common.{◌≡◌, ℕ, Bool, true, false, cond, not, nat_le, nat_lt, ◌||◌, List, [], ◌∷◌, map, Option, Some, None, refl, ap, sym, ◌∙◌, true≢false}
use Rattle.std.specs.Prelude.{filter, option_and_then}
use Rattle.std.specs.Option.{option_or}
use Rattle.c_lexer.specs.declared.token.Token.{Token}
use Rattle.c_lexer.specs.declared.token.Span.{Span}
use Rattle.c_grammar.specs.Items.{Label, Named, Case, Default, Item, Declares, States, Plain, From, Statement, Null, Evaluate, If, IfElse, While, DoWhile, For, Switch, Block, Unread, Body, Braces, Lone, Items, NoItem, Then, label_first}
use Rattle.c_grammar.specs.Tops.{Form, Defines, Top}
use Rattle.c_grammar.specs.Tops as tops
use Rattle.c_statements.specs.declared.anchors.Anchor.{Anchor}
use Rattle.c_statements.specs.declared.anchors.Anchor.TheVariants.{Before, AtEnd}
use Rattle.c_statements.specs.Context.{same_place}
use Rattle.c_statements.specs.Labels.{has_case}
use Rattle.c_statements.specs.Statements.{is_null, is_element, begins}
use Rattle.c_comments.specs.Notes.{label_after, item_after, labels_place, section_place, or_behind, top_after, next_token, comment_bytes}
use Rattle.c_comments.specs.Notes as walked
use Rattle.c_reading_defs.specs.Comments.{label_place, in_labels, item_place, plain_place, in_statement, in_body, in_items, in_switch_body, outside, stands_in_null, has_sections, section_end, in_form, top_place, place_in, notes_of}

-- ---- the items of a switch, up to the first section or behind its beginning

abbrev if_element : Item → Anchor → Option Anchor
if_element x place = cond (is_element x) (Some place) None

abbrev in_outside : ℕ → Items → ℕ → Option Anchor
in_outside first NoItem t = None
in_outside first (Then x xs) t =
    cond (nat_lt t (item_after x)) (if_element x (item_place true x t))
    (cond (begins x) (Some (or_behind (in_items true xs t) (AtEnd first))) (in_outside first xs t))

labelled_element : (ls : List Label) (p : Plain) → has_case ls ≡ true → is_null ls p ≡ false
labelled_element [] p e = absurd (true≢false (sym e))
labelled_element (l ∷ ls) p e = refl

begun_element : (x : Item) → begins x ≡ true → is_element x ≡ true
begun_element (Declares first after d) e = refl
begun_element (States ls p) e = ap not (labelled_element ls p e)

or_end : (o : Option Anchor) (a : Anchor) → option_or o (Some a) ≡ Some (or_behind o a)
or_end (Some x) a = refl
or_end None a = refl

element_or : (element : Bool) (place : Anchor) → cond (not element) None (Some place) ≡ cond element (Some place) None
element_or true place = refl
element_or false place = refl

-- whether t stands in the first item, and whether that begins a section
outside_by : (here begun element null sections : Bool) (place end : Anchor) (inside later : Option Anchor) → (begun ≡ true → element ≡ true)
    → cond null None (option_or inside (cond sections (Some end) None)) ≡ later
    → cond (cond begun false (cond here (not element) null)) None (option_or (cond here (Some place) inside) (cond (begun || sections) (Some end) None))
    ≡ cond here (cond element (Some place) None) (cond begun (Some (or_behind inside end)) later)
outside_by true true element null sections place end inside later h e = sym (ap (λ b. cond b (Some place) None) (h refl))
outside_by false true element null sections place end inside later h e = or_end inside end
outside_by true false element null sections place end inside later h e = element_or element place
outside_by false false element null sections place end inside later h e = e

null_by : (x : Item) (xs : Items) (t : ℕ) (begun : Bool)
    → stands_in_null (cond begun NoItem (Then x xs)) t ≡ cond begun false (cond (nat_lt t (item_after x)) (not (is_element x)) (stands_in_null xs t))
null_by x xs t true = refl
null_by x xs t false = refl

outside_is : (first t : ℕ) (xs : Items) → cond (stands_in_null (outside xs) t) None
    (option_or (in_items true xs t) (section_end first xs)) ≡ in_outside first xs t
outside_is first t NoItem = refl
outside_is first t (Then x xs) =
    ap (λ b. cond b None (option_or (in_items true (Then x xs) t) (section_end first (Then x xs)))) (null_by x (outside xs) t (begins x))
    ∙ outside_by (nat_lt t (item_after x)) (begins x) (is_element x) (stands_in_null (outside xs) t) (has_sections xs) (item_place true x t)
    (AtEnd first) (in_items true xs t) (in_outside first xs t)
    (begun_element x) (outside_is first t xs)

-- ---- tests

none_or : (b c : Bool) (o : Option Anchor) → cond b None (cond c None o) ≡ cond (b || c) None o
none_or true c o = refl
none_or false c o = refl

-- in front of a token, or behind it
either : (b : Bool) (x y d : Anchor) (o p : Option Anchor) → x ≡ or_behind o d → y ≡ or_behind p d → elim b [ true ↦ x | false ↦ y ] ≡ or_behind (cond b o p) d
either true x y d o p e g = e
either false x y d o p e g = g

-- in front of a list, in it or behind it
in_list : (b c : Bool) (before end x y : Anchor) → x ≡ y → elim b [ true ↦ before | false ↦ elim c [ true ↦ x | false ↦ end ] ] ≡ or_behind
    (cond b None (Some (cond c y end))) before
in_list true c before end x y e = refl
in_list false true before end x y e = e
in_list false false before end x y e = refl

or_twice : (o p : Option Anchor) (d : Anchor) → or_behind o (or_behind p d) ≡ or_behind (option_or o p) d
or_twice (Some x) p d = refl
or_twice None p d = refl

chosen : (b : Bool) (x y u v : Anchor) → x ≡ u → y ≡ v → elim b [ true ↦ x | false ↦ y ] ≡ cond b u v
chosen true x y u v e g = e
chosen false x y u v e g = g

-- ---- labels

first_or : (b : Bool) (x y : Anchor) (o p : Option Anchor) → x ≡ y → o ≡ p → elim b [ true ↦ Some x | false ↦ o ] ≡ cond b (Some y) p
first_or true x y o p e g = ap Some e
first_or false x y o p e g = g

module _ (t : ℕ) where
  labels_same : (all ls : List Label) → labels_place ls t ≡ in_labels (label_place false all) ls t
  labels_same all [] = refl
  labels_same all (l ∷ ls) = first_or (nat_lt t (label_after l)) (Before (label_first l)) (Before (label_first l)) (labels_place ls t)
      (in_labels (label_place false all) ls t) refl (labels_same all ls)

  section_label : (all : List Label) (l : Label) → walked.section_label_place all l ≡ label_place true all l
  section_label all (Named at after) = refl
  section_label all (Case at after e) = refl
  section_label all (Default at after) = refl

  section_same : (all ls : List Label) → section_place all ls t ≡ in_labels (label_place true all) ls t
  section_same all [] = refl
  section_same all (l ∷ ls) =
      first_or (nat_lt t (label_after l)) (walked.section_label_place all l) (label_place true all l) (section_place all ls t)
      (in_labels (label_place true all) ls t) (section_label all l) (section_same all ls)

  named_same : (all ls : List Label) → has_case ls ≡ false → labels_place ls t ≡ in_labels (label_place true all) ls t
  named_same all [] e = refl
  named_same all (Named at after ∷ ls) e = first_or (nat_lt t after) (Before at) (Before at) (labels_place ls t)
      (in_labels (label_place true all) ls t) refl (named_same all ls e)
  named_same all (Case at after x ∷ ls) e = absurd (true≢false e)
  named_same all (Default at after ∷ ls) e = absurd (true≢false e)

  null_alone : (ls : List Label) (p : Plain) → is_null ls p ≡ true → has_case ls ≡ false
  null_alone [] p e = refl
  null_alone (l ∷ ls) p e = absurd (true≢false (sym e))

  -- the labels of an item of a switch, and what stands behind them
  by_labels : (ls : List Label) (b : Bool) (x y : Anchor) → has_case ls ≡ b → x ≡ y
      → elim b [ true ↦ or_behind (section_place ls ls t) x | false ↦ or_behind (labels_place ls t) x ] ≡ or_behind (in_labels (label_place true ls) ls t) y
  by_labels ls true x y e g = λ i. or_behind (section_same ls ls i) (g i)
  by_labels ls false x y e g = λ i. or_behind (named_same ls ls e i) (g i)

  -- and in front of the first section
  by_element : (ls : List Label) (p : Plain) (b c : Bool) (x y d : Anchor) → has_case ls ≡ b → is_null ls p ≡ c → x ≡ y
      → elim b [ true ↦ or_behind (section_place ls ls t) x | false ↦ elim c [ true ↦ d | false ↦ or_behind (labels_place ls t) x ] ]
      ≡ or_behind (cond (not c) (Some (or_behind (in_labels (label_place true ls) ls t) y)) None) d
  by_element ls p true true x y d e f g = absurd (true≢false (sym e ∙ null_alone ls p f))
  by_element ls p true false x y d e f g = by_labels ls true x y e g
  by_element ls p false true x y d e f g = refl
  by_element ls p false false x y d e f g = by_labels ls false x y e g

  -- ---- items

  begins_same : (x : Item) → walked.begins_section x ≡ begins x
  begins_same (Declares first after d) = refl
  begins_same (States ls p) = refl

  behind_same : (switch first : ℕ) (xs : Items) (b : Bool) → walked.members_place false switch first xs t ≡ or_behind (in_outside first xs t) (Before switch)
      → walked.members_place true switch first xs t ≡ or_behind (in_items true xs t) (AtEnd first)
      → walked.members_place b switch first xs t ≡ or_behind (cond b (Some (or_behind (in_items true xs t) (AtEnd first))) (in_outside first xs t))
      (Before switch)
  behind_same switch first xs true e g = g
  behind_same switch first xs false e g = e

  mutual
    item_same : (x : Item) → walked.item_place x t ≡ item_place false x t
    item_same (Declares first after d) = refl
    item_same (States ls p) = λ i. or_behind (labels_same ls ls i) (plain_same p i)

    plain_same : (p : Plain) → walked.plain_place p t ≡ plain_place p t
    plain_same (From first after s) =
        chosen (nat_le t first) (Before first) (walked.statement_place first s t) (Before first) (or_behind (in_statement s t) (Before first)) refl
        (statement_same first s)

    statement_same : (first : ℕ) (s : Statement) → walked.statement_place first s t ≡ or_behind (in_statement s t) (Before first)
    statement_same first Null = refl
    statement_same first (Evaluate e) = refl
    statement_same first (If e b) = body_same (Before first) b
    statement_same first (IfElse e b c) =
        body_same (walked.body_place (Before first) b t) c ∙ ap (or_behind (in_body c t)) (body_same (Before first) b) ∙
        or_twice (in_body c t) (in_body b t) (Before first)
    statement_same first (While e b) = body_same (Before first) b
    statement_same first (DoWhile b e) = body_same (Before first) b
    statement_same first (For start e u b) = body_same (Before first) b
    statement_same first (Switch e b) = switch_same first b
    statement_same first (Block b) = body_same (Before first) b
    statement_same first _ = refl

    body_same : (before : Anchor) (b : Body) → walked.body_place before b t ≡ or_behind (in_body b t) before
    body_same before (Braces first after xs) =
        in_list (nat_le t first) (nat_lt t after) before (AtEnd first) (walked.list_place (AtEnd first) xs t)
        (or_behind (in_items false xs t) (AtEnd first)) (list_same (AtEnd first) xs)
    body_same before (Lone first after x) = in_list (nat_lt t first) (nat_lt t after) before (AtEnd first) (walked.item_place x t)
        (item_place false x t) (item_same x)

    list_same : (end : Anchor) (xs : Items) → walked.list_place end xs t ≡ or_behind (in_items false xs t) end
    list_same end NoItem = refl
    list_same end (Then x xs) =
        either (nat_lt t (item_after x)) (walked.item_place x t) (walked.list_place end xs t) end (Some (item_place false x t)) (in_items false xs t)
        (item_same x) (list_same end xs)

    switch_same : (switch : ℕ) (b : Body) → walked.switch_place switch b t ≡ or_behind (in_switch_body b t) (Before switch)
    switch_same switch (Braces first after xs) =
        either (nat_le t first) (Before switch) (walked.members_place false switch first xs t) (Before switch) None (in_outside first xs t) refl
        (outside_same switch first xs)
        ∙ ap (λ o. or_behind o (Before switch)) (ap (cond (nat_le t first) None) (sym (outside_is first t xs)) ∙
        none_or (nat_le t first) (stands_in_null (outside xs) t) (option_or (in_items true xs t) (section_end first xs)))
    switch_same switch (Lone first after x) =
        either (nat_lt t first) (Before switch) (walked.member_place false switch x t) (Before switch) None (if_element x (item_place true x t)) refl
        (element_same switch x)
        ∙ ap (λ o. or_behind o (Before switch)) (ap (cond (nat_lt t first) None) (sym (element_or (is_element x) (item_place true x t))) ∙
        none_or (nat_lt t first) (not (is_element x)) (Some (item_place true x t)))

    outside_same : (switch first : ℕ) (xs : Items) → walked.members_place false switch first xs t ≡ or_behind (in_outside first xs t) (Before switch)
    outside_same switch first NoItem = refl
    outside_same switch first (Then x xs) =
        either (nat_lt t (item_after x)) (walked.member_place false switch x t) (walked.members_place (walked.begins_section x) switch first xs t)
        (Before switch) (if_element x (item_place true x t))
        (cond (begins x) (Some (or_behind (in_items true xs t) (AtEnd first))) (in_outside first xs t)) (element_same switch x)
        (ap (λ b. walked.members_place b switch first xs t) (begins_same x) ∙
        behind_same switch first xs (begins x) (outside_same switch first xs) (sections_same switch first xs))

    sections_same : (switch first : ℕ) (xs : Items) → walked.members_place true switch first xs t ≡ or_behind (in_items true xs t) (AtEnd first)
    sections_same switch first NoItem = refl
    sections_same switch first (Then x xs) =
        either (nat_lt t (item_after x)) (walked.member_place true switch x t) (walked.members_place true switch first xs t) (AtEnd first)
        (Some (item_place true x t)) (in_items true xs t) (member_same switch x)
        (sections_same switch first xs)

    element_same : (switch : ℕ) (x : Item) → walked.member_place false switch x t ≡ or_behind (if_element x (item_place true x t)) (Before switch)
    element_same switch (Declares first after d) = refl
    element_same switch (States ls p) = by_element ls p (has_case ls) (is_null ls p) (walked.plain_place p t) (plain_place p t) (Before switch) refl
        refl (plain_same p)

    member_same : (switch : ℕ) (x : Item) → walked.member_place true switch x t ≡ item_place true x t
    member_same switch (Declares first after d) = refl
    member_same switch (States ls p) = by_labels ls (has_case ls) (walked.plain_place p t) (plain_place p t) refl (plain_same p)

  -- ---- files

  function_same : (first : ℕ) (o : Option Body) → walked.function_place first o t ≡ or_behind (option_and_then (λ b. in_body b t) o) (Before first)
  function_same first None = refl
  function_same first (Some b) = body_same (Before first) b

  form_same : (first : ℕ) (form : Form) → walked.form_place first form t ≡ or_behind (in_form form t) (Before first)
  form_same first tops.Line = refl
  form_same first (tops.Enum es) = refl
  form_same first (tops.Globals static d) = refl
  form_same first (Defines f) = function_same first f.body
  form_same first tops.Unread = refl

  top_same : (x : Top) → walked.top_place x t ≡ top_place x t
  top_same (tops.From first after form) =
      chosen (nat_le t first) (Before first) (walked.form_place first form t) (Before first) (or_behind (in_form form t) (Before first)) refl
      (form_same first form)

  place_same : (xs : List Top) → walked.place_in xs t ≡ place_in xs t
  place_same [] = refl
  place_same (x ∷ xs) = chosen (nat_lt t (top_after x)) (walked.top_place x t) (walked.place_in xs t) (top_place x t) (place_in xs t) (top_same x)
      (place_same xs)

pub notes_same : (text : List ℕ) (tokens : List Token) (comments : List Span) (xs : List Top) →
    walked.notes_of text tokens comments xs ≡ notes_of text tokens comments xs
notes_same text tokens comments xs = λ i anchor. map (comment_bytes text)
    (filter (λ c. same_place (place_same (next_token tokens c.start) xs i) anchor) comments)
