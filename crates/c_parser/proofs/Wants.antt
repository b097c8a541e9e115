-- What a node and a want are as derivations: their tokens, what they ask beyond their form, and whether an `else` behind them would be theirs.
use Rattle.std.specs.Prelude.{◌≡◌, Bool, true, false, List, [], ◌∷◌, Option, Some, None}
use Rattle.c_grammar.specs.declared.class.Class.{Class}
use Rattle.c_grammar.specs.declared.class.Class.TheVariants as c
use Rattle.c_grammar.specs.declared.syntax.Production.{Production}
use Rattle.c_grammar.specs.declared.syntax.Production.TheVariants as p
use Rattle.c_grammar.specs.Expressions.{Base, IntBase, NumberType, OfBase, Expression, One, Assignment, Value, Conditional, Only, Single, Number, base_tokens, type_tokens, expression_tokens, assignment_tokens, conditional_tokens, FitsExpression, FitsAssignment, FitsConditional}
use Rattle.c_grammar.specs.Statements.{Size, NoSize, Initialiser, OneValue, Declarator, Declared, Local, Label, ForStart, StartValue, Block, Items, NoItems, Statement, Unlabelled, Plain, Simple, word_tokens, more_tokens, rest_tokens, optional_tokens, size_tokens, initialiser_tokens, value_tokens, declarator_tokens, local_tokens, label_tokens, for_start_tokens, block_tokens, items_tokens, statement_tokens, plain_tokens, is_statement_open, is_plain_open, FitsMore, FitsOptional, FitsSize, FitsInitialiser, FitsValue, FitsDeclarator, FitsLocal, FitsLabel, FitsForStart, FitsBlock, FitsItems, FitsStatement, FitsPlain}
use Rattle.c_grammar.specs.Files.{Parameter, Typed, Parameters, NoParameters, Enumeration, Declaration, Function, parameter_tokens, parameters_tokens, constant_tokens, enumerator_tokens, enumeration_tokens, declaration_tokens, body_tokens, function_tokens, FitsParameter, FitsParameters, FitsConstant, FitsEnumeration, FitsDeclaration, FitsBody, FitsFunction}
use Rattle.c_parse_step.specs.declared.form.Want.{Want}
use Rattle.c_parse_step.specs.declared.form.Want.TheVariants as w
use Rattle.c_parse_step.specs.declared.form.Lead.{Lead}
use Rattle.c_parse_step.specs.declared.form.Lead.TheVariants as o
use Rattle.c_parse_step.specs.declared.form.Member.{Member}
use Rattle.c_parse_step.specs.declared.form.Member.TheVariants as m
use Rattle.c_parse_step.specs.declared.frame.Full.{Full}
use Rattle.c_parse_step.specs.declared.frame.Full.TheVariants as f

-- ---- nodes of the rules that are built part by part

-- the derivations of a rule that is built part by part
abbrev pub NodeOf : Production → Type 0
NodeOf p.Enum = Enumeration
NodeOf p.Enumerator = Option Conditional
NodeOf p.NumberType = NumberType
NodeOf p.Declaration = Declaration
NodeOf p.Local = Local
NodeOf p.Declarator = Declarator
NodeOf p.Initialiser = Initialiser
NodeOf p.Function = Function
NodeOf p.Params = Parameters
NodeOf p.Param = Parameter
NodeOf p.Block = Block
NodeOf p.Statement = Statement
NodeOf p.Label = Label
NodeOf p.Plain = Plain
NodeOf _ = ⊥

-- their tokens, and then these
abbrev pub node_tokens : (rule : Production) → NodeOf rule → List Class → List Class
node_tokens p.Enum x r = enumeration_tokens x r
node_tokens p.Enumerator x r = enumerator_tokens x r
node_tokens p.NumberType x r = type_tokens x r
node_tokens p.Declaration x r = declaration_tokens x r
node_tokens p.Local x r = local_tokens x r
node_tokens p.Declarator x r = declarator_tokens x r
node_tokens p.Initialiser x r = initialiser_tokens x r
node_tokens p.Function x r = function_tokens x r
node_tokens p.Params x r = parameters_tokens x r
node_tokens p.Param x r = parameter_tokens x r
node_tokens p.Block x r = block_tokens x r
node_tokens p.Statement x r = statement_tokens x r
node_tokens p.Label x r = label_tokens x r
node_tokens p.Plain x r = plain_tokens x r
node_tokens _ x r = absurd x

-- what such a derivation asks beyond its form
abbrev pub FitsNode : (rule : Production) → NodeOf rule → Type 0
FitsNode p.Enum x = FitsEnumeration x
FitsNode p.Enumerator x = FitsConstant x
FitsNode p.NumberType x = Unit {0}
FitsNode p.Declaration x = FitsDeclaration x
FitsNode p.Local x = FitsLocal x
FitsNode p.Declarator x = FitsDeclarator x
FitsNode p.Initialiser x = FitsInitialiser x
FitsNode p.Function x = FitsFunction x
FitsNode p.Params x = FitsParameters x
FitsNode p.Param x = FitsParameter x
FitsNode p.Block x = FitsBlock x
FitsNode p.Statement x = FitsStatement x
FitsNode p.Label x = FitsLabel x
FitsNode p.Plain x = FitsPlain x
FitsNode _ x = ⊥

-- an `else` behind it would be its own
abbrev pub is_node_open : (rule : Production) → NodeOf rule → Bool
is_node_open p.Statement x = is_statement_open x
is_node_open p.Plain x = is_plain_open x
is_node_open _ x = false

-- ---- full expressions

-- the derivations of a full expression
abbrev pub FullValue : Full → Type 0
FullValue f.Expression = Expression
FullValue f.Assignment = Assignment
FullValue f.Conditional = Conditional

-- their tokens, and then these
abbrev pub full_tokens : (kind : Full) → FullValue kind → List Class → List Class
full_tokens f.Expression x r = expression_tokens x r
full_tokens f.Assignment x r = assignment_tokens x r
full_tokens f.Conditional x r = conditional_tokens x r

-- what a full expression asks beyond its form
abbrev pub FitsFull : (kind : Full) → FullValue kind → Type 0
FitsFull f.Expression x = FitsExpression x
FitsFull f.Assignment x = FitsAssignment x
FitsFull f.Conditional x = FitsConditional x

-- ---- what is handed to a frame

-- a node of this rule, or a full expression of this kind
pub data Got : Type 0 where
  Node : Production → Got
  Of : Full → Got

-- the derivations of what is handed on
abbrev pub GotValue : Got → Type 0
GotValue (Node rule) = NodeOf rule
GotValue (Of kind) = FullValue kind

-- their tokens, and then these
abbrev pub got_tokens : (x : Got) → GotValue x → List Class → List Class
got_tokens (Node rule) a r = node_tokens rule a r
got_tokens (Of kind) a r = full_tokens kind a r

-- what they ask beyond their form
abbrev pub FitsGot : (x : Got) → GotValue x → Type 0
FitsGot (Node rule) a = FitsNode rule a
FitsGot (Of kind) a = FitsFull kind a

-- an `else` behind it would be its own
abbrev pub is_got_open : (x : Got) → GotValue x → Bool
is_got_open (Node rule) a = is_node_open rule a
is_got_open (Of kind) a = false

-- ---- wants

-- the derivations of what may be left out
abbrev pub LeadValue : Lead → Type 0
LeadValue o.Const = Bool
LeadValue o.Name = Bool
LeadValue o.Int = Bool
LeadValue o.Size = Size
LeadValue o.Value = Option Initialiser
LeadValue o.Constant = Option Conditional
LeadValue o.Else = Option Statement
LeadValue o.Declarators = List Declarator
LeadValue o.Parameters = List Parameter

-- the derivations of the members of a list
abbrev pub MemberValue : Member → Type 0
MemberValue m.Value = Assignment
MemberValue m.Enumerator = Option Conditional

-- the derivations of what stands next
abbrev pub WantValue : Want → Type 0
WantValue (w.Token x) = Unit {0}
WantValue w.Type = NumberType
WantValue w.Base = Option Base
WantValue (w.Full kind) = FullValue kind
WantValue (w.OptionalExpression x) = Option Expression
WantValue w.Length = Option Conditional
WantValue (w.Optional x) = LeadValue x
WantValue (w.Tail x) = List (MemberValue x) × Bool
WantValue (w.Next x) = Option (MemberValue x × (List (MemberValue x) × Bool))
WantValue w.Declarator = Declarator
WantValue w.Enumerator = Option Conditional
WantValue w.Initialiser = Initialiser
WantValue w.Parameters = Parameters
WantValue w.Parameter = Parameter
WantValue w.ForStart = ForStart
WantValue w.FunctionEnd = Option Block
WantValue w.Body = Statement
WantValue w.Items = Items
WantValue w.Labelled = Statement

-- the tokens of a member, and then these
abbrev pub member_tokens : (x : Member) → MemberValue x → List Class → List Class
member_tokens m.Value a r = assignment_tokens a r
member_tokens m.Enumerator a r = enumerator_tokens a r

-- what a member asks beyond its form
abbrev pub FitsMember : (x : Member) → MemberValue x → Type 0
FitsMember m.Value a = FitsAssignment a
FitsMember m.Enumerator a = FitsConstant a

-- the tokens of `else` and its statement, and then these
abbrev pub else_tokens : Option Statement → List Class → List Class
else_tokens None r = r
else_tokens (Some s) r = c.Else ∷ statement_tokens s r

-- the tokens of what may stand behind a sign in a type, and then these
abbrev pub base_of_sign : Option Base → List Class → List Class
base_of_sign None r = r
base_of_sign (Some b) r = base_tokens b r

-- the tokens of a length up to its bracket, and then these
abbrev pub close_tokens : Option Conditional → List Class → List Class
close_tokens None r = c.CloseIndex ∷ r
close_tokens (Some d) r = conditional_tokens d (c.CloseIndex ∷ r)

-- the tokens of what may be left out, and then these
abbrev pub lead_tokens : (x : Lead) → LeadValue x → List Class → List Class
lead_tokens o.Const v r = word_tokens c.Const v r
lead_tokens o.Name v r = word_tokens c.Name v r
lead_tokens o.Int v r = word_tokens c.Int v r
lead_tokens o.Size v r = size_tokens v r
lead_tokens o.Value v r = value_tokens v r
lead_tokens o.Constant v r = constant_tokens v r
lead_tokens o.Else v r = else_tokens v r
lead_tokens o.Declarators v r = more_tokens declarator_tokens v r
lead_tokens o.Parameters v r = more_tokens parameter_tokens v r

-- the tokens of a list behind one of its commas, and then these
abbrev pub next_tokens : (x : Member) → Option (MemberValue x × (List (MemberValue x) × Bool)) → List Class → List Class
next_tokens x None r = c.CloseBlock ∷ r
next_tokens x (Some v) r = member_tokens x v.0 (rest_tokens (member_tokens x) v.1.0 v.1.1 r)

-- the tokens of what stands next, and then these
abbrev pub want_tokens : (x : Want) → WantValue x → List Class → List Class
want_tokens (w.Token x) v r = x ∷ r
want_tokens w.Type v r = type_tokens v r
want_tokens w.Base v r = base_of_sign v r
want_tokens (w.Full kind) v r = full_tokens kind v r
want_tokens (w.OptionalExpression x) v r = optional_tokens v (x ∷ r)
want_tokens w.Length v r = close_tokens v r
want_tokens (w.Optional x) v r = lead_tokens x v r
want_tokens (w.Tail x) v r = rest_tokens (member_tokens x) v.0 v.1 r
want_tokens (w.Next x) v r = next_tokens x v r
want_tokens w.Declarator v r = declarator_tokens v r
want_tokens w.Enumerator v r = enumerator_tokens v r
want_tokens w.Initialiser v r = initialiser_tokens v r
want_tokens w.Parameters v r = parameters_tokens v r
want_tokens w.Parameter v r = parameter_tokens v r
want_tokens w.ForStart v r = for_start_tokens v r
want_tokens w.FunctionEnd v r = body_tokens v r
want_tokens w.Body v r = statement_tokens v r
want_tokens w.Items v r = items_tokens v (c.CloseBlock ∷ r)
want_tokens w.Labelled v r = statement_tokens v r

-- behind a statement that an `else` would belong to, there is none
abbrev pub FitsElse : Bool → Option Statement → Type 0
FitsElse d None = Unit {0}
FitsElse d (Some s) = (d ≡ false) × FitsStatement s

-- what may be left out asks this beyond its form, behind what is open by `d`
abbrev pub FitsLead : Bool → (x : Lead) → LeadValue x → Type 0
FitsLead d o.Size v = FitsSize v
FitsLead d o.Value v = FitsValue v
FitsLead d o.Constant v = FitsConstant v
FitsLead d o.Else v = FitsElse d v
FitsLead d o.Declarators v = FitsMore FitsDeclarator v
FitsLead d o.Parameters v = FitsMore FitsParameter v
FitsLead d _ v = Unit {0}

-- what the rest of a list asks beyond its form
abbrev pub FitsNext : (x : Member) → Option (MemberValue x × (List (MemberValue x) × Bool)) → Type 0
FitsNext x None = Unit {0}
FitsNext x (Some v) = FitsMember x v.0 × FitsMore (FitsMember x) v.1.0

-- what stands next asks this beyond its form, behind what is open by `d`
abbrev pub FitsWant : Bool → (x : Want) → WantValue x → Type 0
FitsWant d (w.Full kind) v = FitsFull kind v
FitsWant d (w.OptionalExpression x) v = FitsOptional v
FitsWant d w.Length v = FitsConstant v
FitsWant d (w.Optional x) v = FitsLead d x v
FitsWant d (w.Tail x) v = FitsMore (FitsMember x) v.0
FitsWant d (w.Next x) v = FitsNext x v
FitsWant d w.Declarator v = FitsDeclarator v
FitsWant d w.Enumerator v = FitsConstant v
FitsWant d w.Initialiser v = FitsInitialiser v
FitsWant d w.Parameters v = FitsParameters v
FitsWant d w.Parameter v = FitsParameter v
FitsWant d w.ForStart v = FitsForStart v
FitsWant d w.FunctionEnd v = FitsBody v
FitsWant d w.Body v = FitsStatement v
FitsWant d w.Items v = FitsItems v
FitsWant d w.Labelled v = FitsStatement v
FitsWant d _ v = Unit {0}

-- an `else` behind an `if` with this `else` would be its own
abbrev pub is_else_open : Option Statement → Bool
is_else_open None = true
is_else_open (Some s) = is_statement_open s

-- an `else` behind it would be its own
abbrev pub is_lead_open : (x : Lead) → LeadValue x → Bool
is_lead_open o.Else v = is_else_open v
is_lead_open _ v = false

-- an `else` behind it would be its own
abbrev pub is_want_open : (x : Want) → WantValue x → Bool
is_want_open (w.Optional x) v = is_lead_open x v
is_want_open w.Body v = is_statement_open v
is_want_open w.Labelled v = is_statement_open v
is_want_open _ v = false

-- the derivations of all that is left of a node
abbrev pub WantValues : List Want → Type 0
WantValues [] = Unit {0}
WantValues (x ∷ l) = WantValue x × WantValues l

-- their tokens, and then these
abbrev pub wants_tokens : (l : List Want) → WantValues l → List Class → List Class
wants_tokens [] v r = r
wants_tokens (x ∷ l) v r = want_tokens x v.0 (wants_tokens l v.1 r)

-- what was last, in front of these, is open by `d`
abbrev pub FitsWants : Bool → (l : List Want) → WantValues l → Type 0
FitsWants d [] v = Unit {0}
FitsWants d (x ∷ l) v = FitsWant d x v.0 × FitsWants (is_want_open x v.0) l v.1

-- an `else` behind all of them would be theirs, where what was last in front of them is open by `d`
abbrev pub ends : Bool → (l : List Want) → WantValues l → Bool
ends d [] v = d
ends d (x ∷ l) v = ends (is_want_open x v.0) l v.1

-- ---- the least of each

-- a number
abbrev pub least_conditional : Conditional
least_conditional = Only (Single Number)

-- a number as a full expression
abbrev pub least_full : (kind : Full) → FullValue kind
least_full f.Expression = One (Value least_conditional)
least_full f.Assignment = Value least_conditional
least_full f.Conditional = least_conditional

-- nothing
abbrev pub least_lead : (x : Lead) → LeadValue x
least_lead o.Const = false
least_lead o.Name = false
least_lead o.Int = false
least_lead o.Size = NoSize
least_lead o.Value = None
least_lead o.Constant = None
least_lead o.Else = None
least_lead _ = []

-- the least that can stand for what is wanted
abbrev pub least : (x : Want) → WantValue x
least (w.Token x) = tt
least w.Type = OfBase IntBase
least w.Base = None
least (w.Full kind) = least_full kind
least (w.OptionalExpression x) = None
least w.Length = None
least (w.Optional x) = least_lead x
least (w.Tail x) = ([], false)
least (w.Next x) = None
least w.Declarator = Declared NoSize None
least w.Enumerator = None
least w.Initialiser = OneValue (Value least_conditional)
least w.Parameters = NoParameters
least w.Parameter = Typed false (OfBase IntBase) false NoSize
least w.ForStart = StartValue None
least w.FunctionEnd = None
least w.Body = Unlabelled (Simple None)
least w.Items = NoItems
least w.Labelled = Unlabelled (Simple None)

-- the least of each
abbrev pub leasts : (l : List Want) → WantValues l
leasts [] = tt
leasts (x ∷ l) = (least x, leasts l)

-- a number fits
least_full_fits : (kind : Full) → FitsFull kind (least_full kind)
least_full_fits f.Expression = tt
least_full_fits _ = tt

-- nothing fits
least_lead_fits : (d : Bool) (x : Lead) → FitsLead d x (least_lead x)
least_lead_fits d o.Const = tt
least_lead_fits d _ = tt

-- the least that can stand for what is wanted fits
least_fits : (d : Bool) (x : Want) → FitsWant d x (least x)
least_fits d (w.Full kind) = least_full_fits kind
least_fits d (w.Optional x) = least_lead_fits d x
least_fits d w.Declarator = (tt, tt)
least_fits d w.Initialiser = tt
least_fits d _ = tt

-- the least of each fits, whatever stands in front
pub leasts_fit : (d : Bool) (l : List Want) → FitsWants d l (leasts l)
leasts_fit d [] = tt
leasts_fit d (x ∷ l) = (least_fits d x, leasts_fit (is_want_open x (least x)) l)
