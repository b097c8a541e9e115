-- The parser: what each token does to the frames, and the run over all tokens.
use Rattle.std.specs.Prelude.{◌+◌, ℕ, Bool, false, cond, not, ◌||◌, nat_lt, List, [], ◌∷◌, ◌++◌, Option, Some, None}
use Rattle.c_grammar.specs.declared.class.Class.{Class}
use Rattle.c_grammar.specs.declared.class.Class.TheVariants as c
use Rattle.c_grammar.specs.declared.syntax.Syntax.{Syntax}
use Rattle.c_grammar.specs.declared.syntax.Production.{Production}
use Rattle.c_grammar.specs.declared.syntax.Production.TheVariants as p
use Rattle.c_grammar.specs.Nodes.{node, leaf}
use Rattle.c_grammar.specs.Classes.{level, is_assign}
use Rattle.c_grammar.specs.Events.{most}
use Rattle.c_parse_step.specs.declared.load.Load.{Load}
use Rattle.c_parse_step.specs.declared.load.Role.{Role}
use Rattle.c_parse_step.specs.declared.load.Role.TheVariants as r
use Rattle.c_parse_step.specs.declared.form.Form.{Form}
use Rattle.c_parse_step.specs.declared.form.Want.{Want}
use Rattle.c_parse_step.specs.declared.form.Want.TheVariants as w
use Rattle.c_parse_step.specs.declared.form.Lead.{Lead}
use Rattle.c_parse_step.specs.declared.form.Lead.TheVariants as o
use Rattle.c_parse_step.specs.declared.frame.Full.{Full}
use Rattle.c_parse_step.specs.declared.frame.Full.TheVariants as f
use Rattle.c_parse_step.specs.declared.frame.Found.{Found}
use Rattle.c_parse_step.specs.declared.frame.Found.TheVariants.{Lone, Whole}
use Rattle.c_parse_step.specs.declared.frame.Frame.TheVariants as s
use Rattle.c_parse_step.specs.Nodes.{lift, solid_unary, solid_binary, solid_conditional, solid_assignment, solid_expression, solid, postfix, target, commas}
use Rattle.c_parse_step.specs.Tests.{is_step, is_question, is_colon, is_comma, is_open, is_close, is_open_index, is_close_index, is_text, starts_local, is_base, same}
use Rattle.c_parse_step.specs.Starts.{Frames, Next, Fails, Takes, load, taken, counted, passed, rest, conditional, assignment, expression, at_unary, at_target, at_argument, at_full, at_type, at_opened, at_type_end, at_local, at_declarator, at_enumerator, at_initialiser, at_member, at_parameter, at_parameters, at_block, at_labelled, at_statement, at_body, at_external, at_top}

-- the token that leads in what may be left out
abbrev pub leader : Lead → Class
leader o.Const = c.Const
leader o.Name = c.Name
leader o.Int = c.Int
leader o.Size = c.OpenIndex
leader o.Value = c.Equals
leader o.Constant = c.Equals
leader o.Else = c.Else
leader o.Declarators = c.Comma
leader o.Parameters = c.Comma

-- what stands behind that token
abbrev pub follow : Lead → List Want → List Want
follow o.Const l = l
follow o.Name l = l
follow o.Int l = l
follow o.Size l = w.Length ∷ l
follow o.Value l = w.Initialiser ∷ l
follow o.Constant l = w.Full f.Conditional ∷ l
follow o.Else l = w.Body ∷ l
follow o.Declarators l = w.Declarator ∷ w.Optional o.Declarators ∷ l
follow o.Parameters l = w.Parameter ∷ w.Optional o.Parameters ∷ l

-- where that token stands
abbrev pub role_of : Lead → Role
role_of o.Int = r.Uncounted
role_of _ = r.Outside

-- what may follow a sign in a type; `long` goes on
abbrev pub at_base : Production → ℕ → ℕ → List Syntax → List Want → Frames → Class → ℕ → Next
at_base rule first level parts l z c.Char at = taken (rest rule first level (parts ++ leaf at ∷ []) l ∷ z)
at_base rule first level parts l z c.Int at = taken (rest rule first level (parts ++ leaf at ∷ []) l ∷ z)
at_base rule first level parts l z c.Long at = taken (rest rule first level (parts ++ leaf at ∷ []) (w.Optional o.Int ∷ l) ∷ z)
at_base rule first level parts l z t at = Fails

-- the token stands behind what may be left out
abbrev pub skips : Want → Class → Bool
skips (w.Optional x) t = not (same (leader x) t)
skips w.Base t = not (is_base t)
skips w.Parameters t = same c.Close t
skips _ t = false

-- no parameters are a node without tokens
abbrev pub skipped : Want → List Syntax → ℕ → List Syntax
skipped w.Parameters parts at = parts ++ node p.Params at at [] ∷ []
skipped _ parts at = parts

-- an expression that may be left out, and this token
abbrev pub at_optional : Production → ℕ → ℕ → List Syntax → List Want → Full → Class → Frames → Class → ℕ → Next
at_optional rule first level parts l kind x z t at =
    cond (same x t) (passed (rest rule first level (parts ++ leaf at ∷ []) l ∷ z)) (at_full kind (rest rule first level parts (w.Token x ∷ l) ∷ z) t at)

-- a node of its own, in front of the rest of this one
abbrev pub begin_node : Production → ℕ → ℕ → List Syntax → List Want → Want → Frames → Class → ℕ → Next
begin_node rule first level parts l w.Type z t at = at_type (rest rule first level parts l ∷ z) t at
begin_node rule first level parts l (w.Full kind) z t at = at_full kind (rest rule first level parts l ∷ z) t at
begin_node rule first level parts l w.Declarator z t at = at_declarator (rest rule first level parts l ∷ z) t at
begin_node rule first level parts l w.Enumerator z t at = at_enumerator (rest rule first level parts l ∷ z) t at
begin_node rule first level parts l w.Initialiser z t at = at_initialiser (rest rule first level parts l ∷ z) t at
begin_node rule first level parts l w.Parameters z t at = at_parameters (rest rule first level parts l ∷ z) t at
begin_node rule first level parts l w.Parameter z t at = at_parameter (rest rule first level parts l ∷ z) t at
begin_node rule first level parts l w.Body z t at = at_body level (rest rule first level parts l ∷ z) t at
begin_node rule first level parts l _ z t at = Fails

-- a token begins what is wanted, in front of the rest of a node
abbrev pub begin : Production → ℕ → ℕ → List Syntax → List Want → Want → Frames → Class → ℕ → Next
begin rule first level parts l (w.Token x) z t at = cond (same x t) (passed (rest rule first level (parts ++ leaf at ∷ []) l ∷ z)) Fails
begin rule first level parts l w.Base z t at = at_base rule first level parts l z t at
begin rule first level parts l (w.OptionalExpression x) z t at = at_optional rule first level parts l f.Expression x z t at
begin rule first level parts l w.Length z t at = at_optional rule first level parts l f.Conditional c.CloseIndex z t at
begin rule first level parts l (w.Optional x) z t at = Takes (load (role_of x)) (rest rule first level (parts ++ leaf at ∷ []) (follow x l) ∷ z)
begin rule first level parts l (w.Tail x) z t at =
    cond (same c.Comma t) (passed (rest rule first level (parts ++ leaf at ∷ []) (w.Next x ∷ l) ∷ z))
    (cond (same c.CloseBlock t) (passed (rest rule first level (parts ++ leaf at ∷ []) l ∷ z)) Fails)
begin rule first level parts l (w.Next x) z t at =
    cond (same c.CloseBlock t) (passed (rest rule first level (parts ++ leaf at ∷ []) l ∷ z))
    (at_member x (rest rule first level parts (w.Tail x ∷ l) ∷ z) t at)
begin rule first level parts l w.ForStart z t at =
    cond (starts_local t) (at_local (rest rule first level parts l ∷ z) t at) (at_optional rule first level parts l f.Expression c.Semicolon z t at)
begin rule first level parts l w.FunctionEnd z t at =
    cond (same c.Semicolon t) (passed (rest rule first level (parts ++ leaf at ∷ []) l ∷ z)) (at_block 1 (rest rule first level parts l ∷ z) t at)
begin rule first level parts l w.Items z t at =
    cond (same c.CloseBlock t) (passed (rest rule first level (parts ++ leaf at ∷ []) l ∷ z))
    (cond (starts_local t) (at_local (rest rule first level parts (w.Items ∷ l) ∷ z) t at)
    (at_statement level (rest rule first level parts (w.Items ∷ l) ∷ z) t at))
begin rule first level parts l w.Labelled z t at = at_labelled (record { rule = rule; first = first; level = level; parts = parts; todo = l }) z t at
begin rule first level parts l x z t at = begin_node rule first level parts l x z t at

-- A token goes on with what is left of a node; a node of which nothing is left goes to `k`.
abbrev pub feed : Production → ℕ → ℕ → List Syntax → List Want → Frames → Class → ℕ → (Syntax → Next) → Next
feed rule first level parts [] z t at k = k (node rule first at parts)
feed rule first level parts (x ∷ l) z t at k = cond (skips x t) (feed rule first level (skipped x parts at) l z t at k)
    (begin rule first level parts l x z t at)

-- A value is there for the first frame, and this token stands behind it.
abbrev pub give : Frames → Found → Class → ℕ → Next
give (s.Post first ∷ z) (Lone v) t at = cond (is_step t) (counted (s.Done (postfix first (at + 1) (v ∷ leaf at ∷ [])) ∷ z)) (give z (Lone v) t at)
give (s.Post first ∷ z) (Whole v) t at = give z (Whole v) t at
give (s.Prefix first mark next ∷ z) v t at = give z (Whole (node p.Unary first at (mark ∷ solid_unary next at v ∷ []))) t at
give (s.Stepped first mark ∷ z) (Lone v) t at = give z (Whole (node p.Unary first at (mark ∷ v ∷ []))) t at
give (s.Enclosed first bracket ∷ z) (Lone v) t at = cond (is_close t) (taken (s.Done (target first (at + 1) (bracket ∷ v ∷ leaf at ∷ [])) ∷ z)) Fails
give (s.CastType first bracket ∷ z) (Whole type) t at = at_type_end first bracket type z t at
give (s.Cast first parts next ∷ z) v t at = give z (Whole (node p.Unary first at (parts ++ solid_unary next at v ∷ []))) t at
give (s.Operand first ∷ z) v t at = give z (lift p.Binary first at v) t at
give (s.Join first left mark next l ∷ z) v t at =
    cond (nat_lt l (level t)) (counted (s.WantUnary ∷ s.Operand (at + 1) ∷ s.Join next (solid_binary next at v) (leaf at) (at + 1) (level t) ∷ s.Join
    first left mark next l ∷ z))
    (give z (Whole (node p.Binary first at (left ∷ mark ∷ solid_binary next at v ∷ []))) t at)
give (s.Choice first ∷ z) v t at =
    cond (nat_lt 0 (level t)) (counted (s.WantUnary ∷ s.Operand (at + 1) ∷ s.Join first (solid_binary first at v) (leaf at) (at + 1)
    (level t) ∷ s.Choice first ∷ z))
    (cond (is_question t) (counted (expression (at + 1) (s.ChoiceThen first (solid_binary first at v) (leaf at) (at + 1) ∷ z)))
    (give z (lift p.Conditional first at v) t at))
give (s.ChoiceThen first test question next ∷ z) v t at =
    cond (is_colon t) (taken (conditional (at + 1) (s.ChoiceElse first (test ∷ question ∷ solid_expression next at v ∷ leaf at ∷ []) (at + 1) ∷ z))) Fails
give (s.ChoiceElse first parts next ∷ z) v t at = give z (Whole (node p.Conditional first at (parts ++ solid_conditional next at v ∷ []))) t at
give (s.Assigns first ∷ z) (Lone v) t at = cond (is_assign t) (counted (assignment (at + 1) (s.AssignsTo first (v ∷ leaf at ∷ []) (at + 1) ∷ z)))
    (give z (Lone v) t at)
give (s.Assigns first ∷ z) (Whole v) t at = give z (lift p.Assignment first at (Whole v)) t at
give (s.AssignsTo first parts next ∷ z) v t at = give z (Whole (node p.Assignment first at (parts ++ solid_assignment next at v ∷ []))) t at
give (s.Commas first start parts ∷ z) v t at =
    cond (is_comma t) (counted (assignment (at + 1) (s.Commas first (at + 1) (parts ++ solid_assignment start at v ∷ leaf at ∷ []) ∷ z)))
    (give z (commas first start at parts v) t at)
give (s.Indexed first parts next ∷ z) v t at = cond (is_close_index t)
    (taken (s.Done (target first (at + 1) (parts ++ solid_expression next at v ∷ leaf at ∷ [])) ∷ z)) Fails
give (s.Bracketed first bracket next ∷ z) (Lone v) t at = cond (is_close t) (taken (s.Done (target first (at + 1) (bracket ∷ v ∷ leaf at ∷ [])) ∷ z)) Fails
give (s.Bracketed first bracket next ∷ z) (Whole v) t at = cond (is_close t) (taken (s.Done (postfix first (at + 1) (bracket ∷ v ∷ leaf at ∷ [])) ∷ z)) Fails
give (s.ArgumentSeen first ∷ z) v t at = give z (Whole (node p.Argument first at (solid_assignment first at v ∷ []))) t at
give (s.Arguments first parts ∷ z) (Whole v) t at =
    cond (is_comma t) (taken (s.WantArgument ∷ s.Arguments first (parts ++ v ∷ leaf at ∷ []) ∷ z))
    (cond (is_close t) (taken (s.Done (postfix first (at + 1) (parts ++ v ∷ leaf at ∷ [])) ∷ z)) Fails)
give (s.Whole kind start ∷ z) v t at = give z (Whole (solid kind start at v)) t at
give (s.Rest form ∷ z) (Whole v) t at = feed form.rule form.first form.level (form.parts ++ v ∷ []) form.todo z t at (λ x. give z (Whole x) t at)
give (s.TopType first parts start ∷ z) (Whole v) t at = cond (same c.Name t) (passed (s.TopName first parts start v at (leaf at) ∷ z)) Fails
give (s.Tops parts ∷ z) (Whole v) t at = at_top (parts ++ v ∷ []) z t at
give _ _ _ _ = Fails

abbrev pub resume : Form → Frames → Class → ℕ → Next
resume form z t at = feed form.rule form.first form.level form.parts form.todo z t at (λ x. give z (Whole x) t at)

-- behind a name that begins a target, of which the node begins at `first`
abbrev pub at_index : ℕ → Syntax → Frames → Class → ℕ → Next
at_index first name z t at =
    cond (is_open_index t) (counted (expression (at + 1) (s.Indexed first (name ∷ leaf at ∷ []) (at + 1) ∷ z))) (give z (target first at (name ∷ [])) t at)

-- behind a name that begins a target or a call
abbrev pub at_named : ℕ → Syntax → Frames → Class → ℕ → Next
at_named first name z t at = cond (is_open t) (counted (s.Called first name (leaf at) ∷ z)) (at_index first name z t at)

abbrev pub at_label_or_name : ℕ → Syntax → Form → Frames → Class → ℕ → Next
at_label_or_name name mark form z t at =
    cond (same c.Colon t) (passed (rest p.Label name 0 (mark ∷ leaf at ∷ []) [] ∷ s.Rest (record form { todo = w.Labelled ∷ form.todo }) ∷ z))
    (at_named name mark
    (s.Post name ∷ s.Operand name ∷ s.Choice name ∷ s.Assigns name ∷ s.Commas name name [] ∷ s.Whole f.Expression name ∷ rest p.Plain name form.level
    [] (w.Token c.Semicolon ∷ []) ∷ s.Rest form ∷ z) t at)

-- behind the name of a declaration or a function
abbrev pub declared : ℕ → List Syntax → ℕ → Syntax → Frames → Frames
declared first parts start type z = rest p.Local start 0 (type ∷ []) (w.Optional o.Declarators ∷ w.Token c.Semicolon ∷ []) ∷ rest p.Declaration first
    0 parts [] ∷ z

abbrev pub at_top_name : ℕ → List Syntax → ℕ → Syntax → ℕ → Syntax → Frames → Class → ℕ → Next
at_top_name first parts start type name mark z t at =
    cond (same c.Open t) (passed (rest p.Function first 0 (parts ++ type ∷ mark ∷ leaf at ∷ []) (w.Parameters ∷ w.Token c.Close ∷ w.FunctionEnd ∷ []) ∷ z))
    (resume (record { rule = p.Declarator; first = name; level = 0; parts = mark ∷ []; todo = w.Optional o.Size ∷ w.Optional o.Value ∷ [] })
    (declared first parts start type z) t at)

abbrev pub step : Frames → Class → ℕ → Next
step (s.WantUnary ∷ z) t at = at_unary z t at
step (s.WantTarget ∷ z) t at = at_target z t at
step (s.WantArgument ∷ z) t at = at_argument z t at
step (s.Opened first bracket next ∷ z) t at = at_opened first bracket next z t at
step (s.VoidSeen first bracket word ∷ z) t at = at_type_end first bracket word z t at
step (s.Named first name ∷ z) t at = at_named first name z t at
step (s.TargetNamed first name ∷ z) t at = at_index first name z t at
step (s.Called first name bracket ∷ z) t at =
    cond (is_close t) (taken (s.Done (postfix first (at + 1) (name ∷ bracket ∷ leaf at ∷ [])) ∷ z))
    (at_argument (s.Arguments first (name ∷ bracket ∷ []) ∷ z) t at)
step (s.Texts first parts ∷ z) t at =
    cond (is_text t) (taken (s.Texts first (parts ++ leaf at ∷ []) ∷ z)) (give z (Whole (node p.Argument first at parts)) t at)
step (s.Done v ∷ z) t at = give z v t at
step (s.Rest form ∷ z) t at = resume form z t at
step (s.LabelOrName name mark form ∷ z) t at = at_label_or_name name mark form z t at
step (s.External first parts ∷ z) t at = at_external first parts z t at
step (s.TopName first parts start type name mark ∷ z) t at = at_top_name first parts start type name mark z t at
step (s.Tops parts ∷ z) t at = at_top parts z t at
step _ t at = Fails

abbrev pub start : Frames
start = s.Tops [] ∷ []

-- ---- the run

-- how many tokens count so far in the full expression that is open
abbrev pub count_behind : Role → ℕ → ℕ
count_behind r.Counted n = n + 1
count_behind r.Uncounted n = n
count_behind r.Outside n = 0

abbrev pub is_deep : Option ℕ → Bool
is_deep None = false
is_deep (Some n) = nat_lt most n

abbrev pub is_long : Role → ℕ → Bool
is_long r.Counted n = nat_lt most (n + 1)
is_long _ n = false

-- the token opens a level or counts past the limit
abbrev pub is_over : Load → ℕ → Bool
is_over l n = is_deep l.opens || is_long l.role n

-- the frames that all tokens leave, or the number of a token that fits nowhere, or that is over a limit
pub data Ran : Type 0 where
  Left : Frames → Ran
  Unexpected : ℕ → Ran
  TooMany : ℕ → Ran

abbrev pub go_on : Next → ℕ → ℕ → (Frames → ℕ → Ran) → Ran
go_on Fails at n k = Unexpected at
go_on (Takes l z) at n k = cond (is_over l n) (TooMany at) (k z (count_behind l.role n))

abbrev pub run : Frames → ℕ → ℕ → List Class → Ran
run z n at [] = Left z
run z n at (t ∷ ts) = go_on (step z t at) at n (λ x m. run x m (at + 1) ts)
