-- What derives as a statement is parsed.
use Rattle.std.proofs.Common.{◌≡◌, ◌+◌, ℕ, Bool, true, false, List, [], ◌∷◌, ◌++◌, append_assoc, Option, Some, None, refl, ap, sym, ◌∙◌}
use Rattle.c_grammar.specs.declared.class.Class.{Class}
use Rattle.c_grammar.specs.declared.class.Class.TheVariants as c
use Rattle.c_grammar.specs.declared.syntax.Syntax.{Syntax}
use Rattle.c_grammar.specs.declared.syntax.Production.{Production}
use Rattle.c_grammar.specs.declared.syntax.Production.TheVariants as p
use Rattle.c_grammar.specs.Nodes.{node, leaf}
use Rattle.c_grammar.specs.Events.{Event, Uncounted, Outside, Opened}
use Rattle.c_grammar.specs.Expressions.{Expression, expression_tokens, conditional_tokens, FitsExpression}
use Rattle.c_grammar.specs.ExpressionSyntax.{expression_end, conditional_end, expression_node, conditional_node}
use Rattle.c_grammar.specs.Statements.{Label, NameLabel, CaseLabel, DefaultLabel, ForStart, StartLocal, StartValue, Block, Braces, Items, NoItems, LocalItem, StatementItem, Statement, Labelled, Unlabelled, Plain, Compound, Simple, If, IfElse, While, DoWhile, For, Switch, Goto, Break, Continue, Return, optional_tokens, local_tokens, label_tokens, for_start_tokens, block_tokens, items_tokens, statement_tokens, plain_tokens, is_block, is_statement_open, is_plain_open, FitsOptional, FitsLabel, FitsForStart, FitsBlock, FitsItems, FitsStatement, FitsPlain}
use Rattle.c_grammar.specs.StatementSyntax.{optional_end, local_end, label_end, for_start_end, block_end, items_end, statement_end, plain_end, optional_parts, for_start_parts, items_parts, statement_parts, local_node, label_node, block_node, statement_node, plain_node}
use Rattle.c_grammar.specs.Counts.{expression_events, conditional_events, optional_events, local_events, label_events, for_start_events, block_events, items_events, statement_events, plain_events, level_within, opened_by}
use Rattle.c_parse_step.specs.declared.form.Form.{Form}
use Rattle.c_parse_step.specs.declared.form.Want.{Want}
use Rattle.c_parse_step.specs.declared.form.Want.TheVariants as w
use Rattle.c_parse_step.specs.declared.form.Lead.TheVariants as o
use Rattle.c_parse_step.specs.declared.frame.Found.TheVariants.{Whole}
use Rattle.c_parse_step.specs.declared.frame.Full.TheVariants as full
use Rattle.c_parse_step.specs.declared.frame.Frame.TheVariants as s
use Rattle.c_parse_step.specs.Tests.{starts_local, same}
use Rattle.c_parse_step.specs.Starts.{Frames, opening, rest, at_full, at_local, at_block, at_plain, at_labelled, at_statement, at_body}
use Rattle.c_parse_step.specs.Machine.{step}
use Rattle.c_parser.proofs.Traces.{logged}
use Rattle.c_parser.proofs.CompleteExpressions.{starts, head_of_expression, head_of_conditional}
use Rattle.c_parser.proofs.Begun.{any, some_first, other_first, HeadIs, HeadIsNot, via, via_step, switch, IsPlain, via_opening, headed_is, full_expression, full_conditional, full_run, via_full, NoLabel, no_label}
use Rattle.c_parser.proofs.CompleteDeclarations.{next_part, last_part, semicolon_stop, close_stop, complete_optional, handed_on, complete_local, local_head}

-- ---- first tokens

-- may begin a statement other than a block
abbrev pub starts_body : Class → Bool
starts_body c.If = true
starts_body c.While = true
starts_body c.Do = true
starts_body c.For = true
starts_body c.Switch = true
starts_body c.Goto = true
starts_body c.Break = true
starts_body c.Continue = true
starts_body c.Return = true
starts_body c.Semicolon = true
starts_body c.Case = true
starts_body c.Default = true
starts_body t = starts t

-- may begin a statement
abbrev pub starts_statement : Class → Bool
starts_statement c.OpenBlock = true
starts_statement t = starts_body t

headed_body : (l : List Class) → HeadIs starts l → HeadIs starts_body l
headed_body [] h = h
headed_body (c.If ∷ l) h = cc
headed_body (c.While ∷ l) h = cc
headed_body (c.Do ∷ l) h = cc
headed_body (c.For ∷ l) h = cc
headed_body (c.Switch ∷ l) h = cc
headed_body (c.Goto ∷ l) h = cc
headed_body (c.Break ∷ l) h = cc
headed_body (c.Continue ∷ l) h = cc
headed_body (c.Return ∷ l) h = cc
headed_body (c.Semicolon ∷ l) h = cc
headed_body (c.Case ∷ l) h = cc
headed_body (c.Default ∷ l) h = cc
headed_body (_ ∷ l) h = h

body_statement : (l : List Class) → HeadIs starts_body l → HeadIs starts_statement l
body_statement [] h = h
body_statement (c.OpenBlock ∷ l) h = refl
body_statement (_ ∷ l) h = h

body_head : (x : Statement) → FitsStatement x → is_block x ≡ false → (r : List Class) → HeadIs starts_body (statement_tokens x r)
body_head (Labelled NameLabel x) u h r = refl
body_head (Labelled (CaseLabel d) x) u h r = refl
body_head (Labelled DefaultLabel x) u h r = refl
body_head (Unlabelled (Compound b)) u h r = absurd cc
body_head (Unlabelled (Simple None)) u h r = refl
body_head (Unlabelled (Simple (Some e))) u h r = headed_body _ (headed_is _ (head_of_expression e u _))
body_head (Unlabelled (If e x)) u h r = refl
body_head (Unlabelled (IfElse e x y)) u h r = refl
body_head (Unlabelled (While e x)) u h r = refl
body_head (Unlabelled (DoWhile x e)) u h r = refl
body_head (Unlabelled (For f a b x)) u h r = refl
body_head (Unlabelled (Switch e x)) u h r = refl
body_head (Unlabelled Goto) u h r = refl
body_head (Unlabelled Break) u h r = refl
body_head (Unlabelled Continue) u h r = refl
body_head (Unlabelled (Return e)) u h r = refl

-- a block alone begins with `{`
block_head : (x : Statement) (r : List Class) → is_block x ≡ true → HeadIs starts_statement (statement_tokens x r)
block_head (Unlabelled (Compound (Braces xs))) r h = refl
block_head _ r h = absurd cc

-- the tokens of a statement begin as a statement does
pub statement_head : (x : Statement) → FitsStatement x → (r : List Class) → HeadIs starts_statement (statement_tokens x r)
statement_head x u r = go (is_block x) refl
  where
    go : (b : Bool) → is_block x ≡ b → HeadIs starts_statement (statement_tokens x r)
    go true h = block_head x r h
    go false h = body_statement _ (body_head x u h r)

-- ---- what follows a statement: no `else` that would be its own

-- there is a next token, and it is no `else` if that would belong to the statement before it
abbrev pub Follows : Bool → List Class → Type 0
Follows d [] = ⊥
Follows d (t ∷ l) = d ≡ true → same c.Else t ≡ false

-- so there is a next token
pub follows_any : (d : Bool) (l : List Class) → Follows d l → HeadIs any l
follows_any d [] h = h
follows_any d (t ∷ l) h = refl

abbrev no_else : Class → Bool
no_else t = same c.Else t

-- a token other than `else` may stand behind each statement
pub follows_none : (d : Bool) (l : List Class) → HeadIsNot no_else l → Follows d l
follows_none d [] h = h
follows_none d (t ∷ l) h = λ e. h

local_no_else : (l : List Class) → HeadIs starts_local l → HeadIsNot no_else l
local_no_else [] h = h
local_no_else (c.Else ∷ l) h = cc
local_no_else (_ ∷ l) h = refl

statement_no_else : (l : List Class) → HeadIs starts_statement l → HeadIsNot no_else l
statement_no_else [] h = h
statement_no_else (c.Else ∷ l) h = cc
statement_no_else (_ ∷ l) h = refl

items_no_else : (xs : Items) → FitsItems xs → (r : List Class) → HeadIsNot no_else (items_tokens xs (c.CloseBlock ∷ r))
items_no_else NoItems u r = refl
items_no_else (LocalItem x xs) u r = local_no_else _ (local_head x _)
items_no_else (StatementItem x xs) u r = statement_no_else _ (statement_head x u.0 _)

-- ---- one token

else_skipped : (level : ℕ) (first : ℕ) (parts : List Syntax) (v : Syntax) (zs : Frames) (at : ℕ) (ts : List Class) (q : List Event) → Follows true ts
    → logged (s.Done (Whole v) ∷ rest p.Plain first level parts (w.Optional o.Else ∷ []) ∷ zs) at ts q ≡ logged
    (s.Done (Whole (node p.Plain first at (parts ++ v ∷ []))) ∷ zs) at ts q
else_skipped level first parts v zs at [] q h = absurd h
else_skipped level first parts v zs at (t ∷ ts) q h = rw (h refl)

simple_plain : (level : ℕ) (zs : Frames) (at : ℕ) (t : Class) → starts t ≡ true →
    at_plain level zs t at ≡ at_full full.Expression (rest p.Plain at level [] (w.Token c.Semicolon ∷ []) ∷ zs) t at
simple_plain level zs at c.Sign h = refl
simple_plain level zs at c.Flip h = refl
simple_plain level zs at c.Step h = refl
simple_plain level zs at c.Open h = refl
simple_plain level zs at c.Name h = refl
simple_plain level zs at c.Number h = refl
simple_plain level zs at c.Character h = refl
simple_plain level zs at _ h = cc

-- a statement that begins with an expression
simple_statement : (form : Form) (zs : Frames) (at : ℕ) (ts : List Class) (q : List Event) → HeadIs starts ts → NoLabel ts →
    via (at_labelled form zs) at ts q ≡ via (at_plain form.level (s.Rest form ∷ zs)) at ts q
simple_statement form zs at [] q h k = absurd h
simple_statement form zs at (c.Name ∷ []) q h k = absurd k
simple_statement form zs at (c.Name ∷ c.Colon ∷ ts) q h k = absurd k
simple_statement form zs at (c.Name ∷ _ ∷ ts) q h k = refl
simple_statement form zs at (c.Sign ∷ ts) q h k = refl
simple_statement form zs at (c.Flip ∷ ts) q h k = refl
simple_statement form zs at (c.Step ∷ ts) q h k = refl
simple_statement form zs at (c.Open ∷ ts) q h k = refl
simple_statement form zs at (c.Number ∷ ts) q h k = refl
simple_statement form zs at (c.Character ∷ ts) q h k = refl
simple_statement form zs at (_ ∷ ts) q h k = cc

plain_statement : (x : Plain) → FitsPlain x → (form : Form) (zs : Frames) (at : ℕ) (r : List Class) (q : List Event) →
    via (at_labelled form zs) at (plain_tokens x r) q ≡ via (at_plain form.level (s.Rest form ∷ zs)) at (plain_tokens x r) q
plain_statement (Simple None) u form zs at r q = refl
plain_statement (Simple (Some e)) u form zs at r q = simple_statement form zs at (expression_tokens e (c.Semicolon ∷ r)) q
    (headed_is _ (head_of_expression e u _)) (no_label e u (c.Semicolon ∷ r) tt)
plain_statement (Compound (Braces xs)) u form zs at r q = refl
plain_statement (If e x) u form zs at r q = refl
plain_statement (IfElse e x y) u form zs at r q = refl
plain_statement (While e x) u form zs at r q = refl
plain_statement (DoWhile x e) u form zs at r q = refl
plain_statement (For f a b x) u form zs at r q = refl
plain_statement (Switch e x) u form zs at r q = refl
plain_statement Goto u form zs at r q = refl
plain_statement Break u form zs at r q = refl
plain_statement Continue u form zs at r q = refl
plain_statement (Return e) u form zs at r q = refl

-- a body other than a block opens its level with its first token
body_opens : (level : ℕ) (zs : Frames) (at : ℕ) (t : Class) → starts_body t ≡ true →
    at_body level zs t at ≡ opening (level + 1) (at_statement (level + 1) zs t at)
body_opens level zs at c.OpenBlock h = cc
body_opens level zs at _ h = refl

opens_none : (level : ℕ) (zs : Frames) (at : ℕ) (t : Class) → starts_body t ≡ true → IsPlain (at_statement level zs t at)
opens_none level zs at c.OpenBlock h = cc
opens_none level zs at c.If h = refl
opens_none level zs at c.While h = refl
opens_none level zs at c.Do h = refl
opens_none level zs at c.For h = refl
opens_none level zs at c.Switch h = refl
opens_none level zs at c.Goto h = refl
opens_none level zs at c.Break h = refl
opens_none level zs at c.Continue h = refl
opens_none level zs at c.Return h = refl
opens_none level zs at c.Semicolon h = refl
opens_none level zs at c.Case h = refl
opens_none level zs at c.Default h = refl
opens_none level zs at c.Sign h = refl
opens_none level zs at c.Flip h = refl
opens_none level zs at c.Step h = refl
opens_none level zs at c.Open h = refl
opens_none level zs at c.Name h = refl
opens_none level zs at c.Number h = refl
opens_none level zs at c.Character h = refl
opens_none level zs at _ h = cc

body_run : (rule : Production) (first level : ℕ) (parts : List Syntax) (l : List Want) (zs : Frames) (at : ℕ) (f : Class → Bool) (ts : List Class)
    (q : List Event) → HeadIs f ts
    → logged (rest rule first level parts (w.Body ∷ l) ∷ zs) at ts q ≡ via (at_body level (rest rule first level parts l ∷ zs)) at ts q
body_run rule first level parts l zs at f [] q h = absurd h
body_run rule first level parts l zs at f (t ∷ ts) q h = refl

body_other : (level : ℕ) (zs : Frames) (at : ℕ) (ts : List Class) (q : List Event) → HeadIs starts_body ts
    → via (at_body level zs) at ts q ≡ via (at_statement (level + 1) zs) at ts (Opened (level + 1) ∷ q)
body_other level zs at ts q h =
    switch (at_body level zs) (λ t a. opening (level + 1) (at_statement (level + 1) zs t a)) starts_body at (body_opens level zs at) ts q h
    ∙ via_opening (level + 1) (at_statement (level + 1) zs) starts_body at (opens_none (level + 1) zs at) ts q h

-- the first part of a `for`
start_optional : (rule : Production) (first n : ℕ) (parts : List Syntax) (l : List Want) (zs : Frames) (at : ℕ) (ts : List Class) (q : List Event) →
    HeadIs starts ts
    → logged (rest rule first n parts (w.ForStart ∷ l) ∷ zs) at ts q ≡ logged (rest rule first n parts (w.OptionalExpression c.Semicolon ∷ l) ∷ zs) at ts q
start_optional rule first n parts l zs at [] q h = absurd h
start_optional rule first n parts l zs at (c.Sign ∷ ts) q h = refl
start_optional rule first n parts l zs at (c.Flip ∷ ts) q h = refl
start_optional rule first n parts l zs at (c.Step ∷ ts) q h = refl
start_optional rule first n parts l zs at (c.Open ∷ ts) q h = refl
start_optional rule first n parts l zs at (c.Name ∷ ts) q h = refl
start_optional rule first n parts l zs at (c.Number ∷ ts) q h = refl
start_optional rule first n parts l zs at (c.Character ∷ ts) q h = refl
start_optional rule first n parts l zs at (_ ∷ ts) q h = cc

start_local : (rule : Production) (first n : ℕ) (parts : List Syntax) (l : List Want) (zs : Frames) (at : ℕ) (t : Class) → starts_local t ≡ true
    → step (rest rule first n parts (w.ForStart ∷ l) ∷ zs) t at ≡ at_local (rest rule first n parts l ∷ zs) t at
start_local rule first n parts l zs at t h = rw h

complete_for_start : (x : ForStart) → FitsForStart x → (rule : Production) (first n : ℕ) (parts : List Syntax) (l : List Want) (zs : Frames) (at : ℕ)
    (f : Class → Bool) (r : List Class) (q : List Event) → HeadIs f r
    → logged (rest rule first n parts (w.ForStart ∷ l) ∷ zs) at (for_start_tokens x r) q ≡ logged
    (rest rule first n (parts ++ for_start_parts at x) l ∷ zs) (for_start_end at x) r (for_start_events x q)
complete_for_start (StartLocal x) u rule first n parts l zs at f r q h =
    via_step (rest rule first n parts (w.ForStart ∷ l) ∷ zs) starts_local at (local_tokens x r) q (local_head x r)
    ∙ switch (step (rest rule first n parts (w.ForStart ∷ l) ∷ zs)) (at_local (rest rule first n parts l ∷ zs)) starts_local at
    (start_local rule first n parts l zs at) (local_tokens x r) q (local_head x r)
    ∙ complete_local x u (rest rule first n parts l ∷ zs) at f r q h
    ∙ next_part rule first n parts l (local_node at x) zs (local_end at x) f r (local_events x q) h
complete_for_start (StartValue None) u rule first n parts l zs at f r q h = refl
complete_for_start (StartValue (Some e)) u rule first n parts l zs at f r q h =
    start_optional rule first n parts l zs at (expression_tokens e (c.Semicolon ∷ r)) q (headed_is _ (head_of_expression e u _))
    ∙ complete_optional (Some e) u c.Semicolon semicolon_stop rule first n parts l zs at r q

optional_any : (e : Option Expression) → FitsOptional e → (t : Class) (r : List Class) → HeadIs any (optional_tokens e (t ∷ r))
optional_any None u t r = refl
optional_any (Some e) u t r = some_first starts _ (headed_is _ (head_of_expression e u _))

-- items
item_local : (first level : ℕ) (parts : List Syntax) (zs : Frames) (at : ℕ) (t : Class) → starts_local t ≡ true
    → step (rest p.Block first level parts (w.Items ∷ []) ∷ zs) t at ≡ at_local (rest p.Block first level parts (w.Items ∷ []) ∷ zs) t at
item_local first level parts zs at c.CloseBlock h = cc
item_local first level parts zs at c.Const h = refl
item_local first level parts zs at c.Char h = refl
item_local first level parts zs at c.Int h = refl
item_local first level parts zs at c.Long h = refl
item_local first level parts zs at c.Signed h = refl
item_local first level parts zs at c.Unsigned h = refl
item_local first level parts zs at _ h = cc

item_statement : (first level : ℕ) (parts : List Syntax) (zs : Frames) (at : ℕ) (t : Class) → starts_statement t ≡ true
    → step (rest p.Block first level parts (w.Items ∷ []) ∷ zs) t at ≡ at_statement level (rest p.Block first level parts (w.Items ∷ []) ∷ zs) t at
item_statement first level parts zs at c.CloseBlock h = cc
item_statement first level parts zs at c.Const h = cc
item_statement first level parts zs at c.Char h = cc
item_statement first level parts zs at c.Int h = cc
item_statement first level parts zs at c.Long h = cc
item_statement first level parts zs at c.Signed h = cc
item_statement first level parts zs at c.Unsigned h = cc
item_statement first level parts zs at _ h = refl

-- ---- a label in front of a statement

abbrev statement_form : ℕ → ℕ → List Syntax → Form
statement_form first level parts = record { rule = p.Statement; first = first; level = level; parts = parts; todo = [] }

labelled_more : (first level : ℕ) (parts : List Syntax) (v : Syntax) (zs : Frames) (at : ℕ) (ts : List Class) (q : List Event) → HeadIs starts_statement ts
    → logged (s.Done (Whole v) ∷ rest p.Statement first level parts (w.Labelled ∷ []) ∷ zs) at ts q ≡ via
    (at_labelled (statement_form first level (parts ++ v ∷ [])) zs) at ts q
labelled_more first level parts v zs at [] q h = absurd h
labelled_more first level parts v zs at (t ∷ ts) q h = refl

complete_label_node : (x : Label) → FitsLabel x → (first level : ℕ) (parts : List Syntax) (zs : Frames) (at : ℕ) (ts : List Class) (q : List Event) →
    HeadIs starts_statement ts
    → via (at_labelled (statement_form first level parts) zs) at (label_tokens x ts) q ≡ logged
    (s.Done (Whole (label_node at x)) ∷ rest p.Statement first level parts (w.Labelled ∷ []) ∷ zs) (label_end at x) ts (label_events x q)
complete_label_node NameLabel u first level parts zs at ts q h =
    handed_on p.Label at 0 (leaf at ∷ leaf (at + 1) ∷ []) (rest p.Statement first level parts (w.Labelled ∷ []) ∷ zs) (at + 1 + 1) starts_statement ts
    (Outside ∷ Uncounted ∷ q) h
complete_label_node (CaseLabel d) u first level parts zs at ts q h =
    full_run p.Label at 0 (leaf at ∷ []) (w.Token c.Colon ∷ []) full.Conditional (rest p.Statement first level parts (w.Labelled ∷ []) ∷ zs) (at + 1)
    (conditional_tokens d (c.Colon ∷ ts)) (Outside ∷ q) (head_of_conditional d u _)
    ∙ full_conditional d u (rest p.Label at 0 (leaf at ∷ []) (w.Token c.Colon ∷ []) ∷ rest p.Statement first level parts (w.Labelled ∷ []) ∷ zs)
    (at + 1) (c.Colon ∷ ts) (Outside ∷ q) refl
    ∙ handed_on p.Label at 0 (leaf at ∷ conditional_node (at + 1) d ∷ leaf (conditional_end (at + 1) d) ∷ [])
    (rest p.Statement first level parts (w.Labelled ∷ []) ∷ zs) (conditional_end (at + 1) d + 1) starts_statement ts
    (Outside ∷ conditional_events d (Outside ∷ q)) h
complete_label_node DefaultLabel u first level parts zs at ts q h =
    handed_on p.Label at 0 (leaf at ∷ leaf (at + 1) ∷ []) (rest p.Statement first level parts (w.Labelled ∷ []) ∷ zs) (at + 1 + 1) starts_statement ts
    (Outside ∷ Outside ∷ q) h

-- ---- the expression in brackets that a construct begins with

tested : (e : Expression) → FitsExpression e → (level : ℕ) (l : List Want) (zs : Frames) (at : ℕ) (r : List Class) (q : List Event)
    → logged (rest p.Plain at level (leaf at ∷ leaf (at + 1) ∷ []) (w.Full full.Expression ∷ w.Token c.Close ∷ l) ∷ zs) (at + 1 + 1)
    (expression_tokens e (c.Close ∷ r)) q
    ≡ logged (rest p.Plain at level (leaf at ∷ leaf (at + 1) ∷ expression_node (at + 1 + 1) e ∷ leaf (expression_end (at + 1 + 1) e) ∷ []) l ∷ zs)
    (expression_end (at + 1 + 1) e + 1) r (Outside ∷ expression_events e q)
tested e u level l zs at r q =
    full_run p.Plain at level (leaf at ∷ leaf (at + 1) ∷ []) (w.Token c.Close ∷ l) full.Expression zs (at + 1 + 1) (expression_tokens e (c.Close ∷ r))
    q (head_of_expression e u _)
    ∙ full_expression e u (rest p.Plain at level (leaf at ∷ leaf (at + 1) ∷ []) (w.Token c.Close ∷ l) ∷ zs) (at + 1 + 1) (c.Close ∷ r) q refl refl

-- ---- statements

-- the list of a construct, by whether it is a block alone
other_body_events : (level : ℕ) (x : Statement) (q : List Event) → is_block x ≡ false →
    statement_events (level + 1) x (Opened (level + 1) ∷ q) ≡ statement_events (level_within level x) x (opened_by level x q)
other_body_events level x q h = rw h

block_body_events : (level : ℕ) (x : Statement) (q : List Event) → is_block x ≡ true →
    statement_events level x q ≡ statement_events (level_within level x) x (opened_by level x q)
block_body_events level x q h = rw h

block_body : (x : Statement) → is_block x ≡ true → (level : ℕ) (zs : Frames) (at : ℕ) (r : List Class) (q : List Event) →
    via (at_body level zs) at (statement_tokens x r) q ≡ via (at_statement level zs) at (statement_tokens x r) q
block_body (Unlabelled (Compound (Braces xs))) h level zs at r q = refl
block_body _ h level zs at r q = absurd cc

-- its form, from the place of its first token on
statement_run : (level : ℕ) (zs : Frames) (at : ℕ) (ts : List Class) (q : List Event) →
    via (at_statement level zs) at ts q ≡ via (at_labelled (statement_form at level []) zs) at ts q
statement_run level zs at [] q = refl
statement_run level zs at (t ∷ ts) q = refl

-- the list of a construct, once it is parsed as a statement of either level
body_parsed : (b : Bool) (x : Statement) → is_block x ≡ b → FitsStatement x → (level : ℕ) (zs : Frames) (at : ℕ) (ts : List Class) (q : List Event)
    → ((n : ℕ) (p : List Event) → via (at_labelled (statement_form at n []) zs) at (statement_tokens x ts) p ≡ logged
    (s.Done (Whole (statement_node at x)) ∷ zs) (statement_end at x) ts (statement_events n x p))
    → via (at_body level zs) at (statement_tokens x ts) q ≡ logged (s.Done (Whole (statement_node at x)) ∷ zs) (statement_end at x) ts
    (statement_events (level_within level x) x (opened_by level x q))
body_parsed true x e u level zs at ts q k =
    block_body x e level zs at ts q
    ∙ statement_run level zs at (statement_tokens x ts) q
    ∙ k level q
    ∙ ap (λ (a : List Event). logged (s.Done (Whole (statement_node at x)) ∷ zs) (statement_end at x) ts a) (block_body_events level x q e)
body_parsed false x e u level zs at ts q k =
    body_other level zs at (statement_tokens x ts) q (body_head x u e ts)
    ∙ statement_run (level + 1) zs at (statement_tokens x ts) (Opened (level + 1) ∷ q)
    ∙ k (level + 1) (Opened (level + 1) ∷ q)
    ∙ ap (λ (a : List Event). logged (s.Done (Whole (statement_node at x)) ∷ zs) (statement_end at x) ts a) (other_body_events level x q e)

complete_body : (x : Statement) → FitsStatement x → (rule : Production) (first level : ℕ) (parts : List Syntax) (l : List Want) (zs : Frames) (at : ℕ)
    (ts : List Class) (q : List Event)
    → ((n : ℕ) (p : List Event) → via (at_labelled (statement_form at n []) (rest rule first level parts l ∷ zs)) at (statement_tokens x ts)
    p ≡ logged (s.Done (Whole (statement_node at x)) ∷ rest rule first level parts l ∷ zs) (statement_end at x) ts (statement_events n x p))
    → logged (rest rule first level parts (w.Body ∷ l) ∷ zs) at (statement_tokens x ts) q ≡ logged
    (s.Done (Whole (statement_node at x)) ∷ rest rule first level parts l ∷ zs) (statement_end at x) ts
    (statement_events (level_within level x) x (opened_by level x q))
complete_body x u rule first level parts l zs at ts q k =
    body_run rule first level parts l zs at starts_statement (statement_tokens x ts) q (statement_head x u ts)
    ∙ body_parsed (is_block x) x refl u level (rest rule first level parts l ∷ zs) at ts q k

-- how the parts of a `for` come together
for_parts : (a b : List Syntax) (x : Syntax) (d : List Syntax) (y v : Syntax) →
    ((a ++ (b ++ x ∷ [])) ++ (d ++ y ∷ [])) ++ v ∷ [] ≡ a ++ b ++ x ∷ d ++ y ∷ v ∷ []
for_parts a b x d y v =
    ap (λ (l : List Syntax). (l ++ (d ++ y ∷ [])) ++ v ∷ []) (sym (append_assoc a b (x ∷ [])))
    ∙ append_assoc ((a ++ b) ++ x ∷ []) (d ++ y ∷ []) (v ∷ [])
    ∙ ap (λ (l : List Syntax). ((a ++ b) ++ x ∷ []) ++ l) (append_assoc d (y ∷ []) (v ∷ []))
    ∙ append_assoc (a ++ b) (x ∷ []) (d ++ y ∷ v ∷ [])
    ∙ sym (append_assoc (a ++ b) (x ∷ d) (y ∷ v ∷ []))

mutual
  -- a block of this level
  pub complete_block : (x : Block) → FitsBlock x → (level : ℕ) (zs : Frames) (at : ℕ) (f : Class → Bool) (ts : List Class) (q : List Event) → HeadIs f ts
      → via (at_block level zs) at (block_tokens x ts) q ≡ logged (s.Done (Whole (block_node at x)) ∷ zs) (block_end at x) ts (block_events level x q)
  complete_block (Braces xs) u level zs at f ts q h =
      complete_items xs u at level (leaf at ∷ []) zs (at + 1) ts (Outside ∷ Opened level ∷ q)
      ∙ handed_on p.Block at level (leaf at ∷ items_parts (at + 1) xs ++ leaf (items_end (at + 1) xs) ∷ []) zs (items_end (at + 1) xs + 1) f ts
      (Outside ∷ items_events level xs (Outside ∷ Opened level ∷ q)) h

  complete_items : (xs : Items) → FitsItems xs → (first level : ℕ) (parts : List Syntax) (zs : Frames) (at : ℕ) (r : List Class) (q : List Event)
      → logged (rest p.Block first level parts (w.Items ∷ []) ∷ zs) at (items_tokens xs (c.CloseBlock ∷ r)) q
      ≡ logged (rest p.Block first level (parts ++ (items_parts at xs ++ leaf (items_end at xs) ∷ [])) [] ∷ zs) (items_end at xs + 1) r
      (Outside ∷ items_events level xs q)
  complete_items NoItems u first level parts zs at r q = refl
  complete_items (LocalItem x xs) u first level parts zs at r q =
      let l = items_tokens xs (c.CloseBlock ∷ r) in
      via_step (rest p.Block first level parts (w.Items ∷ []) ∷ zs) starts_local at (local_tokens x l) q (local_head x l)
      ∙ switch (step (rest p.Block first level parts (w.Items ∷ []) ∷ zs)) (at_local (rest p.Block first level parts (w.Items ∷ []) ∷ zs))
      starts_local at (item_local first level parts zs at) (local_tokens x l) q (local_head x l)
      ∙ complete_local x u.0 (rest p.Block first level parts (w.Items ∷ []) ∷ zs) at any l q (other_first no_else l (items_no_else xs u.1 r))
      ∙ next_part p.Block first level parts (w.Items ∷ []) (local_node at x) zs (local_end at x) any l (local_events x q)
      (other_first no_else l (items_no_else xs u.1 r))
      ∙ complete_items xs u.1 first level (parts ++ local_node at x ∷ []) zs (local_end at x) r (local_events x q)
      ∙ ap (λ (a : List Syntax). logged (rest p.Block first level a [] ∷ zs) (items_end (local_end at x) xs + 1) r
      (Outside ∷ items_events level xs (local_events x q)))
      (append_assoc parts (local_node at x ∷ []) (items_parts (local_end at x) xs ++ leaf (items_end (local_end at x) xs) ∷ []))
  complete_items (StatementItem x xs) u first level parts zs at r q =
      let l = items_tokens xs (c.CloseBlock ∷ r) in
      via_step (rest p.Block first level parts (w.Items ∷ []) ∷ zs) starts_statement at (statement_tokens x l) q (statement_head x u.0 l)
      ∙ switch (step (rest p.Block first level parts (w.Items ∷ []) ∷ zs)) (at_statement level (rest p.Block first level parts (w.Items ∷ []) ∷ zs))
      starts_statement at (item_statement first level parts zs at) (statement_tokens x l) q (statement_head x u.0 l)
      ∙ statement_run level (rest p.Block first level parts (w.Items ∷ []) ∷ zs) at (statement_tokens x l) q
      ∙ complete_statement x u.0 at level [] (rest p.Block first level parts (w.Items ∷ []) ∷ zs) at l q
      (follows_none (is_statement_open x) l (items_no_else xs u.1 r))
      ∙ next_part p.Block first level parts (w.Items ∷ []) (statement_node at x) zs (statement_end at x) any l (statement_events level x q)
      (other_first no_else l (items_no_else xs u.1 r))
      ∙ complete_items xs u.1 first level (parts ++ statement_node at x ∷ []) zs (statement_end at x) r (statement_events level x q)
      ∙ ap (λ (a : List Syntax). logged (rest p.Block first level a [] ∷ zs) (items_end (statement_end at x) xs + 1) r
      (Outside ∷ items_events level xs (statement_events level x q)))
      (append_assoc parts (statement_node at x ∷ []) (items_parts (statement_end at x) xs ++ leaf (items_end (statement_end at x) xs) ∷ []))

  -- behind these labels
  complete_statement : (x : Statement) → FitsStatement x → (first level : ℕ) (parts : List Syntax) (zs : Frames) (at : ℕ) (ts : List Class)
      (q : List Event) → Follows (is_statement_open x) ts
      → via (at_labelled (statement_form first level parts) zs) at (statement_tokens x ts) q ≡ logged
      (s.Done (Whole (node p.Statement first (statement_end at x) (parts ++ statement_parts at x))) ∷ zs) (statement_end at x) ts
      (statement_events level x q)
  complete_statement (Labelled a x) u first level parts zs at ts q h =
      complete_label_node a u.0 first level parts zs at (statement_tokens x ts) q (statement_head x u.1 ts)
      ∙ labelled_more first level parts (label_node at a) zs (label_end at a) (statement_tokens x ts) (label_events a q) (statement_head x u.1 ts)
      ∙ complete_statement x u.1 first level (parts ++ label_node at a ∷ []) zs (label_end at a) ts (label_events a q) h
      ∙ ap (λ (l : List Syntax). logged (s.Done (Whole (node p.Statement first (statement_end (label_end at a) x) l)) ∷ zs)
      (statement_end (label_end at a) x) ts (statement_events level x (label_events a q)))
      (append_assoc parts (label_node at a ∷ []) (statement_parts (label_end at a) x))
  complete_statement (Unlabelled x) u first level parts zs at ts q h =
      plain_statement x u (statement_form first level parts) zs at ts q
      ∙ complete_plain x u level (rest p.Statement first level parts [] ∷ zs) at ts q h
      ∙ last_part p.Statement first level parts (plain_node at x) zs (plain_end at x) any ts (plain_events level x q) (follows_any (is_plain_open x) ts h)

  complete_plain : (x : Plain) → FitsPlain x → (level : ℕ) (zs : Frames) (at : ℕ) (ts : List Class) (q : List Event) → Follows (is_plain_open x) ts
      → via (at_plain level zs) at (plain_tokens x ts) q ≡ logged (s.Done (Whole (plain_node at x)) ∷ zs) (plain_end at x) ts (plain_events level x q)
  complete_plain (Compound (Braces xs)) u level zs at ts q h =
      complete_block (Braces xs) u (level + 1) (rest p.Plain at level [] [] ∷ zs) at any ts q (follows_any false ts h)
      ∙ last_part p.Plain at level [] (block_node at (Braces xs)) zs (block_end at (Braces xs)) any ts (block_events (level + 1) (Braces xs) q)
      (follows_any false ts h)
  complete_plain (Simple None) u level zs at ts q h = handed_on p.Plain at level (leaf at ∷ []) zs (at + 1) any ts (Outside ∷ q) (follows_any false ts h)
  complete_plain (Simple (Some e)) u level zs at ts q h =
      switch (at_plain level zs) (at_full full.Expression (rest p.Plain at level [] (w.Token c.Semicolon ∷ []) ∷ zs)) starts at
      (simple_plain level zs at) (expression_tokens e (c.Semicolon ∷ ts)) q (headed_is _ (head_of_expression e u _))
      ∙ via_full full.Expression (rest p.Plain at level [] (w.Token c.Semicolon ∷ []) ∷ zs) at (expression_tokens e (c.Semicolon ∷ ts)) q
      (head_of_expression e u _)
      ∙ full_expression e u (rest p.Plain at level [] (w.Token c.Semicolon ∷ []) ∷ zs) at (c.Semicolon ∷ ts) q refl refl
      ∙ handed_on p.Plain at level (expression_node at e ∷ leaf (expression_end at e) ∷ []) zs (expression_end at e + 1) any ts
      (Outside ∷ expression_events e q) (follows_any false ts h)
  complete_plain (If e x) u level zs at ts q h =
      let y = expression_end (at + 1 + 1) e in
      let a = leaf at ∷ leaf (at + 1) ∷ expression_node (at + 1 + 1) e ∷ leaf y ∷ [] in
      let b = Outside ∷ expression_events e (Outside ∷ Outside ∷ q) in
      tested e u.0 level (w.Body ∷ w.Optional o.Else ∷ []) zs at (statement_tokens x ts) (Outside ∷ Outside ∷ q)
      ∙ complete_body x u.1 p.Plain at level a (w.Optional o.Else ∷ []) zs (y + 1) ts b
      (λ v g. complete_statement x u.1 (y + 1) v [] (rest p.Plain at level a (w.Optional o.Else ∷ []) ∷ zs) (y + 1) ts g
      (weaker (is_statement_open x) ts h))
      ∙ else_skipped level at a (statement_node (y + 1) x) zs (statement_end (y + 1) x) ts (statement_events (level_within level x) x (opened_by level x b)) h
    where
      weaker : (d : Bool) (l : List Class) → Follows true l → Follows d l
      weaker d [] h = h
      weaker d (t ∷ l) h = λ e. h refl
  complete_plain (IfElse e x y) u level zs at ts q h =
      let m = expression_end (at + 1 + 1) e in
      let a = leaf at ∷ leaf (at + 1) ∷ expression_node (at + 1 + 1) e ∷ leaf m ∷ [] in
      let b = Outside ∷ expression_events e (Outside ∷ Outside ∷ q) in
      let n = statement_end (m + 1) x in
      let d = statement_events (level_within level x) x (opened_by level x b) in
      let a' = leaf at ∷ leaf (at + 1) ∷ expression_node (at + 1 + 1) e ∷ leaf m ∷ statement_node (m + 1) x ∷ leaf n ∷ [] in
      tested e u.0 level (w.Body ∷ w.Optional o.Else ∷ []) zs at (statement_tokens x (c.Else ∷ statement_tokens y ts)) (Outside ∷ Outside ∷ q)
      ∙ complete_body x u.1 p.Plain at level a (w.Optional o.Else ∷ []) zs (m + 1) (c.Else ∷ statement_tokens y ts) b
      (λ v g. complete_statement x u.1 (m + 1) v [] (rest p.Plain at level a (w.Optional o.Else ∷ []) ∷ zs) (m + 1)
      (c.Else ∷ statement_tokens y ts) g (closed (is_statement_open x) u.2))
      ∙ complete_body y u.3 p.Plain at level a' [] zs (n + 1) ts (Outside ∷ d)
      (λ v g. complete_statement y u.3 (n + 1) v [] (rest p.Plain at level a' [] ∷ zs) (n + 1) ts g h)
      ∙ last_part p.Plain at level a' (statement_node (n + 1) y) zs (statement_end (n + 1) y) any ts
      (statement_events (level_within level y) y (opened_by level y (Outside ∷ d))) (follows_any (is_statement_open y) ts h)
    where
      closed : (d : Bool) → d ≡ false → d ≡ true → same c.Else c.Else ≡ false
      closed d e k = sym k ∙ e
  complete_plain (While e x) u level zs at ts q h =
      let y = expression_end (at + 1 + 1) e in
      let a = leaf at ∷ leaf (at + 1) ∷ expression_node (at + 1 + 1) e ∷ leaf y ∷ [] in
      let b = Outside ∷ expression_events e (Outside ∷ Outside ∷ q) in
      tested e u.0 level (w.Body ∷ []) zs at (statement_tokens x ts) (Outside ∷ Outside ∷ q)
      ∙ complete_body x u.1 p.Plain at level a [] zs (y + 1) ts b
      (λ v g. complete_statement x u.1 (y + 1) v [] (rest p.Plain at level a [] ∷ zs) (y + 1) ts g h)
      ∙ last_part p.Plain at level a (statement_node (y + 1) x) zs (statement_end (y + 1) x) any ts
      (statement_events (level_within level x) x (opened_by level x b)) (follows_any (is_statement_open x) ts h)
  complete_plain (Switch e x) u level zs at ts q h =
      let y = expression_end (at + 1 + 1) e in
      let a = leaf at ∷ leaf (at + 1) ∷ expression_node (at + 1 + 1) e ∷ leaf y ∷ [] in
      let b = Outside ∷ expression_events e (Outside ∷ Outside ∷ q) in
      tested e u.0 level (w.Body ∷ []) zs at (statement_tokens x ts) (Outside ∷ Outside ∷ q)
      ∙ complete_body x u.1 p.Plain at level a [] zs (y + 1) ts b
      (λ v g. complete_statement x u.1 (y + 1) v [] (rest p.Plain at level a [] ∷ zs) (y + 1) ts g h)
      ∙ last_part p.Plain at level a (statement_node (y + 1) x) zs (statement_end (y + 1) x) any ts
      (statement_events (level_within level x) x (opened_by level x b)) (follows_any (is_statement_open x) ts h)
  complete_plain (DoWhile x e) u level zs at ts q h =
      let y = statement_end (at + 1) x in
      let b = statement_events (level_within level x) x (opened_by level x (Outside ∷ q)) in
      let m = expression_end (y + 1 + 1) e in
      let l = w.Token c.While ∷ w.Token c.Open ∷ w.Full full.Expression ∷ w.Token c.Close ∷ w.Token c.Semicolon ∷ [] in
      let a = leaf at ∷ statement_node (at + 1) x ∷ leaf y ∷ leaf (y + 1) ∷ [] in
      complete_body x u.0 p.Plain at level (leaf at ∷ []) l zs (at + 1) (c.While ∷ c.Open ∷ expression_tokens e (c.Close ∷ c.Semicolon ∷ ts))
      (Outside ∷ q) (λ v g. complete_statement x u.0 (at + 1) v [] (rest p.Plain at level (leaf at ∷ []) l ∷ zs) (at + 1)
      (c.While ∷ c.Open ∷ expression_tokens e (c.Close ∷ c.Semicolon ∷ ts)) g (λ k. refl))
      ∙ full_run p.Plain at level a (w.Token c.Close ∷ w.Token c.Semicolon ∷ []) full.Expression zs (y + 1 + 1)
      (expression_tokens e (c.Close ∷ c.Semicolon ∷ ts)) (Outside ∷ Outside ∷ b) (head_of_expression e u.1 _)
      ∙ full_expression e u.1 (rest p.Plain at level a (w.Token c.Close ∷ w.Token c.Semicolon ∷ []) ∷ zs) (y + 1 + 1) (c.Close ∷ c.Semicolon ∷ ts)
      (Outside ∷ Outside ∷ b) refl refl
      ∙ handed_on p.Plain at level (leaf at ∷ statement_node (at + 1) x ∷ leaf y ∷ leaf (y + 1) ∷ expression_node (y + 1 + 1) e ∷ leaf m ∷ leaf
      (m + 1) ∷ []) zs (m + 1 + 1) any ts (Outside ∷ Outside ∷ expression_events e (Outside ∷ Outside ∷ b)) (follows_any false ts h)
  complete_plain (For f d e x) u level zs at ts q h =
      let i = for_start_end (at + 1 + 1) f in
      let j = optional_end i d in
      let k = optional_end (j + 1) e in
      let a = leaf at ∷ leaf (at + 1) ∷ for_start_parts (at + 1 + 1) f in
      let a1 = a ++ (optional_parts i d ++ leaf j ∷ []) in
      let a2 = a1 ++ (optional_parts (j + 1) e ++ leaf k ∷ []) in
      let b = for_start_events f (Outside ∷ Outside ∷ q) in
      let b1 = Outside ∷ optional_events d b in
      let b2 = Outside ∷ optional_events e b1 in
      complete_for_start f u.0 p.Plain at level (leaf at ∷ leaf (at + 1) ∷ [])
      (w.OptionalExpression c.Semicolon ∷ w.OptionalExpression c.Close ∷ w.Body ∷ []) zs (at + 1 + 1) any
      (optional_tokens d (c.Semicolon ∷ optional_tokens e (c.Close ∷ statement_tokens x ts))) (Outside ∷ Outside ∷ q) (optional_any d u.1 c.Semicolon _)
      ∙ complete_optional d u.1 c.Semicolon semicolon_stop p.Plain at level a (w.OptionalExpression c.Close ∷ w.Body ∷ []) zs i
      (optional_tokens e (c.Close ∷ statement_tokens x ts)) b
      ∙ complete_optional e u.2 c.Close close_stop p.Plain at level a1 (w.Body ∷ []) zs (j + 1) (statement_tokens x ts) b1
      ∙ complete_body x u.3 p.Plain at level a2 [] zs (k + 1) ts b2
      (λ v g. complete_statement x u.3 (k + 1) v [] (rest p.Plain at level a2 [] ∷ zs) (k + 1) ts g h)
      ∙ last_part p.Plain at level a2 (statement_node (k + 1) x) zs (statement_end (k + 1) x) any ts
      (statement_events (level_within level x) x (opened_by level x b2)) (follows_any (is_statement_open x) ts h)
      ∙ ap (λ (l : List Syntax). logged (s.Done (Whole (node p.Plain at (statement_end (k + 1) x) l)) ∷ zs) (statement_end (k + 1) x) ts
      (statement_events (level_within level x) x (opened_by level x b2)))
      (for_parts a (optional_parts i d) (leaf j) (optional_parts (j + 1) e) (leaf k) (statement_node (k + 1) x))
  complete_plain Goto u level zs at ts q h = handed_on p.Plain at level (leaf at ∷ leaf (at + 1) ∷ leaf (at + 1 + 1) ∷ []) zs (at + 1 + 1 + 1) any ts
      (Outside ∷ Outside ∷ Outside ∷ q) (follows_any false ts h)
  complete_plain Break u level zs at ts q h = handed_on p.Plain at level (leaf at ∷ leaf (at + 1) ∷ []) zs (at + 1 + 1) any ts (Outside ∷ Outside ∷ q)
      (follows_any false ts h)
  complete_plain Continue u level zs at ts q h = handed_on p.Plain at level (leaf at ∷ leaf (at + 1) ∷ []) zs (at + 1 + 1) any ts
      (Outside ∷ Outside ∷ q) (follows_any false ts h)
  complete_plain (Return e) u level zs at ts q h =
      complete_optional e u c.Semicolon semicolon_stop p.Plain at level (leaf at ∷ []) [] zs (at + 1) ts (Outside ∷ q)
      ∙ handed_on p.Plain at level (leaf at ∷ optional_parts (at + 1) e ++ leaf (optional_end (at + 1) e) ∷ []) zs (optional_end (at + 1) e + 1) any
      ts (Outside ∷ optional_events e (Outside ∷ q)) (follows_any false ts h)
