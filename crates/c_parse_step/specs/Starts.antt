-- What a token does that begins a node of this or that rule.
use Rattle.std.specs.Prelude.{◌+◌, ℕ, cond, List, [], ◌∷◌, ◌++◌, Option, Some, None}
use Rattle.c_grammar.specs.declared.class.Class.{Class}
use Rattle.c_grammar.specs.declared.class.Class.TheVariants as c
use Rattle.c_grammar.specs.declared.syntax.Syntax.{Syntax}
use Rattle.c_grammar.specs.declared.syntax.Production.{Production}
use Rattle.c_grammar.specs.declared.syntax.Production.TheVariants as p
use Rattle.c_grammar.specs.Nodes.{node, leaf}
use Rattle.c_parse_step.specs.declared.load.Load.{Load}
use Rattle.c_parse_step.specs.declared.load.Role.{Role}
use Rattle.c_parse_step.specs.declared.load.Role.TheVariants as r
use Rattle.c_parse_step.specs.declared.form.Form.{Form}
use Rattle.c_parse_step.specs.declared.form.Want.{Want}
use Rattle.c_parse_step.specs.declared.form.Want.TheVariants as w
use Rattle.c_parse_step.specs.declared.form.Lead.TheVariants as o
use Rattle.c_parse_step.specs.declared.form.Member.{Member}
use Rattle.c_parse_step.specs.declared.form.Member.TheVariants as m
use Rattle.c_parse_step.specs.declared.frame.Full.{Full}
use Rattle.c_parse_step.specs.declared.frame.Full.TheVariants as f
use Rattle.c_parse_step.specs.declared.frame.Frame.{Frame}
use Rattle.c_parse_step.specs.declared.frame.Frame.TheVariants as s
use Rattle.c_parse_step.specs.Nodes.{postfix}
use Rattle.c_parse_step.specs.Tests.{is_close, is_text, same}

abbrev pub Frames : Type 0
Frames = List Frame

-- what a token does: it fits nowhere, or leaves these frames
pub data Next : Type 0 where
  Fails : Next
  Takes : Load → Frames → Next

abbrev pub load : Role → Load
load role = record { role = role; opens = None }

-- the token stands in an expression or in a type, and doesn't count
abbrev pub taken : Frames → Next
taken z = Takes (load r.Uncounted) z

-- the token counts
abbrev pub counted : Frames → Next
counted z = Takes (load r.Counted) z

-- no full expression goes over the token
abbrev pub passed : Frames → Next
passed z = Takes (load r.Outside) z

-- the token opens this level of nesting
abbrev pub opening : ℕ → Next → Next
opening level Fails = Fails
opening level (Takes l z) = Takes (record l { opens = Some level }) z

-- a node that has begun, and what is left of it
abbrev pub rest : Production → ℕ → ℕ → List Syntax → List Want → Frame
rest rule first level parts todo = s.Rest (record { rule = rule; first = first; level = level; parts = parts; todo = todo })

-- ---- expressions: what is awaited for one that begins at this place

abbrev pub conditional : ℕ → Frames → Frames
conditional at z = s.WantUnary ∷ s.Operand at ∷ s.Choice at ∷ z

abbrev pub assignment : ℕ → Frames → Frames
assignment at z = conditional at (s.Assigns at ∷ z)

abbrev pub expression : ℕ → Frames → Frames
expression at z = assignment at (s.Commas at at [] ∷ z)

-- the frames of a full expression behind the one that awaits its first token
abbrev pub behind_full : Full → ℕ → Frames → Frames
behind_full f.Conditional at z = s.Operand at ∷ s.Choice at ∷ s.Whole f.Conditional at ∷ z
behind_full f.Assignment at z = s.Operand at ∷ s.Choice at ∷ s.Assigns at ∷ s.Whole f.Assignment at ∷ z
behind_full f.Expression at z = s.Operand at ∷ s.Choice at ∷ s.Assigns at ∷ s.Commas at at [] ∷ s.Whole f.Expression at ∷ z

abbrev pub at_unary : Frames → Class → ℕ → Next
at_unary z c.Sign at = counted (s.WantUnary ∷ s.Prefix at (leaf at) (at + 1) ∷ z)
at_unary z c.Flip at = counted (s.WantUnary ∷ s.Prefix at (leaf at) (at + 1) ∷ z)
at_unary z c.Step at = counted (s.WantTarget ∷ s.Stepped at (leaf at) ∷ z)
at_unary z c.Open at = counted (s.Opened at (leaf at) (at + 1) ∷ s.Post at ∷ z)
at_unary z c.Name at = taken (s.Named at (leaf at) ∷ s.Post at ∷ z)
at_unary z c.Number at = taken (s.Done (postfix at (at + 1) (leaf at ∷ [])) ∷ z)
at_unary z c.Character at = taken (s.Done (postfix at (at + 1) (leaf at ∷ [])) ∷ z)
at_unary z _ at = Fails

abbrev pub at_target : Frames → Class → ℕ → Next
at_target z c.Open at = counted (s.WantTarget ∷ s.Enclosed at (leaf at) ∷ z)
at_target z c.Name at = taken (s.TargetNamed at (leaf at) ∷ z)
at_target z _ at = Fails

abbrev pub at_argument : Frames → Class → ℕ → Next
at_argument z t at = cond (is_text t) (taken (s.Texts at (leaf at ∷ []) ∷ z))
    (at_unary (s.Operand at ∷ s.Choice at ∷ s.Assigns at ∷ s.ArgumentSeen at ∷ z) t at)

abbrev pub at_full : Full → Frames → Class → ℕ → Next
at_full kind z t at = at_unary (behind_full kind at z) t at

-- ---- types

abbrev pub at_type : Frames → Class → ℕ → Next
at_type z c.Char at = taken (rest p.NumberType at 0 (leaf at ∷ []) [] ∷ z)
at_type z c.Int at = taken (rest p.NumberType at 0 (leaf at ∷ []) [] ∷ z)
at_type z c.Long at = taken (rest p.NumberType at 0 (leaf at ∷ []) (w.Optional o.Int ∷ []) ∷ z)
at_type z c.Signed at = taken (rest p.NumberType at 0 (leaf at ∷ []) (w.Base ∷ []) ∷ z)
at_type z c.Unsigned at = taken (rest p.NumberType at 0 (leaf at ∷ []) (w.Base ∷ []) ∷ z)
at_type z _ at = Fails

-- behind an opening bracket: a type of a cast, or an expression
abbrev pub at_opened : ℕ → Syntax → ℕ → Frames → Class → ℕ → Next
at_opened first bracket next z c.Char at = at_type (s.CastType first bracket ∷ z) c.Char at
at_opened first bracket next z c.Int at = at_type (s.CastType first bracket ∷ z) c.Int at
at_opened first bracket next z c.Long at = at_type (s.CastType first bracket ∷ z) c.Long at
at_opened first bracket next z c.Signed at = at_type (s.CastType first bracket ∷ z) c.Signed at
at_opened first bracket next z c.Unsigned at = at_type (s.CastType first bracket ∷ z) c.Unsigned at
at_opened first bracket next z c.Void at = taken (s.VoidSeen first bracket (leaf at) ∷ z)
at_opened first bracket next z t at = at_unary (s.Operand at ∷ s.Choice at ∷ s.Assigns at ∷ s.Commas at at [] ∷ s.Bracketed first bracket next ∷ z) t at

-- the end of a cast's type
abbrev pub at_type_end : ℕ → Syntax → Syntax → Frames → Class → ℕ → Next
at_type_end first bracket type z t at = cond (is_close t) (taken (s.WantUnary ∷ s.Cast first (bracket ∷ type ∷ leaf at ∷ []) (at + 1) ∷ z)) Fails

-- ---- declarations

-- behind the type of a declaration
abbrev pub declarators : List Want
declarators = w.Declarator ∷ w.Optional o.Declarators ∷ w.Token c.Semicolon ∷ []

abbrev pub at_local : Frames → Class → ℕ → Next
at_local z c.Const at = passed (rest p.Local at 0 (leaf at ∷ []) (w.Type ∷ declarators) ∷ z)
at_local z t at = at_type (rest p.Local at 0 [] declarators ∷ z) t at

abbrev pub at_declarator : Frames → Class → ℕ → Next
at_declarator z t at = cond (same c.Name t) (passed (rest p.Declarator at 0 (leaf at ∷ []) (w.Optional o.Size ∷ w.Optional o.Value ∷ []) ∷ z)) Fails

abbrev pub at_enumerator : Frames → Class → ℕ → Next
at_enumerator z t at = cond (same c.Name t) (passed (rest p.Enumerator at 0 (leaf at ∷ []) (w.Optional o.Constant ∷ []) ∷ z)) Fails

abbrev pub at_initialiser : Frames → Class → ℕ → Next
at_initialiser z t at =
    cond (same c.OpenBlock t) (passed (rest p.Initialiser at 0 (leaf at ∷ []) (w.Full f.Assignment ∷ w.Tail m.Value ∷ []) ∷ z))
    (at_full f.Assignment (rest p.Initialiser at 0 [] [] ∷ z) t at)

abbrev pub at_member : Member → Frames → Class → ℕ → Next
at_member m.Value z t at = at_full f.Assignment z t at
at_member m.Enumerator z t at = at_enumerator z t at

-- behind the type of a parameter
abbrev pub parameter_rest : List Want
parameter_rest = w.Optional o.Name ∷ w.Optional o.Size ∷ []

abbrev pub at_parameter : Frames → Class → ℕ → Next
at_parameter z c.Const at = passed (rest p.Param at 0 (leaf at ∷ []) (w.Type ∷ parameter_rest) ∷ z)
at_parameter z t at = at_type (rest p.Param at 0 [] parameter_rest ∷ z) t at

abbrev pub at_parameters : Frames → Class → ℕ → Next
at_parameters z c.Void at = passed (rest p.Params at 0 (leaf at ∷ []) [] ∷ z)
at_parameters z t at = at_parameter (rest p.Params at 0 [] (w.Optional o.Parameters ∷ []) ∷ z) t at

-- ---- statements, in a list of this level

abbrev pub at_block : ℕ → Frames → Class → ℕ → Next
at_block level z t at = cond (same c.OpenBlock t) (opening level (passed (rest p.Block at level (leaf at ∷ []) (w.Items ∷ []) ∷ z))) Fails

-- what stands behind the first word of a statement
abbrev pub construct_wants : Class → Option (List Want)
construct_wants c.If = Some (w.Token c.Open ∷ w.Full f.Expression ∷ w.Token c.Close ∷ w.Body ∷ w.Optional o.Else ∷ [])
construct_wants c.While = Some (w.Token c.Open ∷ w.Full f.Expression ∷ w.Token c.Close ∷ w.Body ∷ [])
construct_wants c.Switch = Some (w.Token c.Open ∷ w.Full f.Expression ∷ w.Token c.Close ∷ w.Body ∷ [])
construct_wants c.Do = Some (w.Body ∷ w.Token c.While ∷ w.Token c.Open ∷ w.Full f.Expression ∷ w.Token c.Close ∷ w.Token c.Semicolon ∷ [])
construct_wants _ = None

abbrev pub plain_wants : Class → Option (List Want)
plain_wants c.For = Some (w.Token c.Open ∷ w.ForStart ∷ w.OptionalExpression c.Semicolon ∷ w.OptionalExpression c.Close ∷ w.Body ∷ [])
plain_wants c.Goto = Some (w.Token c.Name ∷ w.Token c.Semicolon ∷ [])
plain_wants c.Break = Some (w.Token c.Semicolon ∷ [])
plain_wants c.Continue = Some (w.Token c.Semicolon ∷ [])
plain_wants c.Return = Some (w.OptionalExpression c.Semicolon ∷ [])
plain_wants c.Semicolon = Some []
plain_wants t = construct_wants t

abbrev pub at_plain_with : Option (List Want) → ℕ → Frames → Class → ℕ → Next
at_plain_with (Some l) level z t at = passed (rest p.Plain at level (leaf at ∷ []) l ∷ z)
at_plain_with None level z t at =
    cond (same c.OpenBlock t) (at_block (level + 1) (rest p.Plain at level [] [] ∷ z) t at)
    (at_full f.Expression (rest p.Plain at level [] (w.Token c.Semicolon ∷ []) ∷ z) t at)

abbrev pub at_plain : ℕ → Frames → Class → ℕ → Next
at_plain level z t at = at_plain_with (plain_wants t) level z t at

abbrev pub at_labelled : Form → Frames → Class → ℕ → Next
at_labelled form z c.Case at = passed (rest p.Label at 0 (leaf at ∷ []) (w.Full f.Conditional ∷ w.Token c.Colon ∷ []) ∷ s.Rest
    (record form { todo = w.Labelled ∷ form.todo }) ∷ z)
at_labelled form z c.Default at = passed (rest p.Label at 0 (leaf at ∷ []) (w.Token c.Colon ∷ []) ∷ s.Rest (record form { todo = w.Labelled ∷ form.todo }) ∷ z)
at_labelled form z c.Name at = taken (s.LabelOrName at (leaf at) form ∷ z)
at_labelled form z t at = at_plain form.level (s.Rest form ∷ z) t at

abbrev pub at_statement : ℕ → Frames → Class → ℕ → Next
at_statement level z t at = at_labelled (record { rule = p.Statement; first = at; level = level; parts = []; todo = [] }) z t at

-- a block as the list of a construct opens the level itself, any other statement with its first token
abbrev pub at_body : ℕ → Frames → Class → ℕ → Next
at_body level z t at = cond (same c.OpenBlock t) (at_statement level z t at) (opening (level + 1) (at_statement (level + 1) z t at))

-- ---- files

-- behind the result of a function
abbrev pub function_rest : List Want
function_rest = w.Token c.Name ∷ w.Token c.Open ∷ w.Parameters ∷ w.Token c.Close ∷ w.FunctionEnd ∷ []

-- a declaration or a function, which has these parts so far
abbrev pub at_external : ℕ → List Syntax → Frames → Class → ℕ → Next
at_external first parts z c.Const at = passed (rest p.Local at 0 (leaf at ∷ []) (w.Type ∷ declarators) ∷ rest p.Declaration first 0 parts [] ∷ z)
at_external first parts z c.Void at = passed (rest p.Function first 0 (parts ++ leaf at ∷ []) function_rest ∷ z)
at_external first parts z t at = at_type (s.TopType first parts at ∷ z) t at

abbrev pub at_top : List Syntax → Frames → Class → ℕ → Next
at_top parts z c.End at = passed (s.Accepted (node p.File 0 at parts) ∷ z)
at_top parts z c.Directive at = passed (s.Tops (parts ++ leaf at ∷ []) ∷ z)
at_top parts z c.Enum at = passed (rest p.Enum at 0 (leaf at ∷ [])
    (w.Token c.OpenBlock ∷ w.Enumerator ∷ w.Tail m.Enumerator ∷ w.Token c.Semicolon ∷ []) ∷ s.Tops parts ∷ z)
at_top parts z c.Static at = passed (s.External at (leaf at ∷ []) ∷ s.Tops parts ∷ z)
at_top parts z t at = at_external at [] (s.Tops parts ∷ z) t at
