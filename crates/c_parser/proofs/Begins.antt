-- Each token that begins a node keeps what the frames say.
use Rattle.std.proofs.Common.{◌≡◌, ◌+◌, ℕ, Bool, true, false, cond, not, List, [], ◌∷◌, ◌++◌, Option, Some, None, refl, ap, sym, ◌∙◌}
use Rattle.c_grammar.specs.declared.class.Class.{Class}
use Rattle.c_grammar.specs.declared.class.Class.TheVariants as c
use Rattle.c_grammar.specs.declared.syntax.Syntax.{Syntax}
use Rattle.c_grammar.specs.declared.syntax.Production.{Production}
use Rattle.c_grammar.specs.declared.syntax.Production.TheVariants as p
use Rattle.c_grammar.specs.Nodes.{node, leaf}
use Rattle.c_grammar.specs.Expressions.{Base, CharBase, IntBase, LongBase, LongIntBase, NumberType, OfBase, Signed, SignedOf, Unsigned, UnsignedOf, Expression, Conditional, Number, Character, OneText, base_tokens, type_tokens, expression_tokens, FitsExpression}
use Rattle.c_grammar.specs.Statements.{Size, NoSize, Unsized, Sized, OneValue, ValueList, Declared, Locals, NameLabel, CaseLabel, DefaultLabel, StartLocal, StartValue, Braces, NoItems, LocalItem, StatementItem, Statement, Labelled, Unlabelled, Plain, Compound, Simple, If, IfElse, While, DoWhile, For, Switch, Goto, Break, Continue, Return, word_tokens, rest_tokens, size_tokens, statement_tokens, plain_tokens, is_statement_open, is_plain_open, FitsMore, FitsSize, FitsStatement, FitsPlain}
use Rattle.c_grammar.specs.Files.{Typed, NoParameters, VoidParameters, SomeParameters, Declares, Defined, FitsConstant}
use Rattle.c_parse_step.specs.declared.form.Form.{Form}
use Rattle.c_parse_step.specs.declared.form.Want.{Want}
use Rattle.c_parse_step.specs.declared.form.Want.TheVariants as w
use Rattle.c_parse_step.specs.declared.form.Lead.{Lead}
use Rattle.c_parse_step.specs.declared.form.Lead.TheVariants as o
use Rattle.c_parse_step.specs.declared.form.Member.{Member}
use Rattle.c_parse_step.specs.declared.form.Member.TheVariants as m
use Rattle.c_parse_step.specs.declared.frame.Full.{Full}
use Rattle.c_parse_step.specs.declared.frame.Full.TheVariants as f
use Rattle.c_parse_step.specs.declared.frame.Frame.TheVariants as s
use Rattle.c_parse_step.specs.Tests.{is_text, starts_local, same}
use Rattle.c_parse_step.specs.Starts.{Frames, Next, Fails, Takes, opening, rest, declarators, parameter_rest, at_unary, at_target, at_argument, at_full, at_type, at_local, at_declarator, at_enumerator, at_initialiser, at_parameter, at_parameters, at_block, at_plain, at_labelled, at_statement, at_body, at_external}
use Rattle.c_parse_step.specs.Machine.{leader, follow, skips, skipped, begin, feed}
use Rattle.c_parser.proofs.Tokens.{text_is, same_is}
use Rattle.c_parser.proofs.Wants.{NodeOf, node_tokens, FitsNode, is_node_open, Node, Of, MemberValue, member_tokens, next_tokens, FitsMember, FitsNext, FitsElse, is_else_open, close_tokens, base_of_sign, else_tokens, least_lead, is_lead_open}
use Rattle.c_parser.proofs.Fronts.{Front, Awaits, UnaryNext, TargetNext, ArgumentNext, ValueNext, Ready, Goes}

-- what both sides of a test keep is kept
pub branch : (b : Bool) (x y : Next) (Q : Front) → (b ≡ true → Goes x Q) → (b ≡ false → Goes y Q) → Goes (cond b x y) Q
branch true x y Q h k = h refl
branch false x y Q h k = k refl

-- the token is this one
pub put : (Q : Front) (t x : Class) → t ≡ x → (r : List Class) → Q (t ∷ r) ≡ Q (x ∷ r)
put Q t x e r = ap (λ (y : Class). Q (y ∷ r)) e

-- an `else` finds nothing in front of it that it would belong to
abbrev pub Calm : Bool → Class → Type 0
Calm d t = same c.Else t ≡ true → d ≡ false

-- ---- expressions

-- A token that begins a unary expression keeps what the frames say.
pub unary_kept : (z : Frames) (P : Front) → UnaryNext z P → (t : Class) (at : ℕ) → Goes (at_unary z t at) (λ r. P (t ∷ r))
unary_kept z P i c.Sign at = (c.Sign, P, refl, (λ r. refl), i)
unary_kept z P i c.Flip at = (c.Flip, P, refl, (λ r. refl), i)
unary_kept z P i c.Step at = (P, (λ r. refl), i)
unary_kept z P i c.Open at = (P, (λ r. refl), i, i)
unary_kept z P i c.Name at = (P, (λ r. refl), i, i)
unary_kept z P i c.Number at = (Number, P, tt, refl, (λ r. refl), i)
unary_kept z P i c.Character at = (Character, P, tt, refl, (λ r. refl), i)
unary_kept z P i _ at = tt

-- A token that begins a target does.
pub target_kept : (z : Frames) (P : Front) → TargetNext z P → (t : Class) (at : ℕ) → Goes (at_target z t at) (λ r. P (t ∷ r))
target_kept z P i c.Open at = (P, (λ r. refl), i)
target_kept z P i c.Name at = (P, (λ r. refl), i)
target_kept z P i _ at = tt

-- A token that begins an argument does.
pub argument_kept : (z : Frames) (P : Front) → ArgumentNext z P → (t : Class) (at : ℕ) → Goes (at_argument z t at) (λ r. P (t ∷ r))
argument_kept z P i t at =
    branch (is_text t) _ _ _ (λ h. (OneText, P, put P t c.Text (text_is t h), i))
    (λ h. unary_kept (s.Operand at ∷ s.Choice at ∷ s.Assigns at ∷ s.ArgumentSeen at ∷ z) P i t at)

-- A token that begins a full expression does.
pub full_kept : (kind : Full) (z : Frames) (P : Front) → ValueNext z (Of kind) P → (t : Class) (at : ℕ) → Goes (at_full kind z t at) (λ r. P (t ∷ r))
full_kept f.Conditional z P i t at = unary_kept (s.Operand at ∷ s.Choice at ∷ s.Whole f.Conditional at ∷ z) P i t at
full_kept f.Assignment z P i t at = unary_kept (s.Operand at ∷ s.Choice at ∷ s.Assigns at ∷ s.Whole f.Assignment at ∷ z) P i t at
full_kept f.Expression z P i t at = unary_kept (s.Operand at ∷ s.Choice at ∷ s.Assigns at ∷ s.Commas at at [] ∷ s.Whole f.Expression at ∷ z) P i t at

-- ---- types

abbrev long_base : Bool → Base
long_base true = LongIntBase
long_base false = LongBase

long_tokens : (b : Bool) (r : List Class) → c.Long ∷ word_tokens c.Int b r ≡ base_tokens (long_base b) r
long_tokens true r = refl
long_tokens false r = refl

abbrev signed_of : Option Base → NumberType
signed_of None = Signed
signed_of (Some b) = SignedOf b

signed_tokens : (b : Option Base) (r : List Class) → c.Signed ∷ base_of_sign b r ≡ type_tokens (signed_of b) r
signed_tokens None r = refl
signed_tokens (Some b) r = refl

abbrev unsigned_of : Option Base → NumberType
unsigned_of None = Unsigned
unsigned_of (Some b) = UnsignedOf b

unsigned_tokens : (b : Option Base) (r : List Class) → c.Unsigned ∷ base_of_sign b r ≡ type_tokens (unsigned_of b) r
unsigned_tokens None r = refl
unsigned_tokens (Some b) r = refl

-- A token that begins a type does.
pub type_kept : (z : Frames) (P : Front) → ValueNext z (Node p.NumberType) P → (t : Class) (at : ℕ) → Goes (at_type z t at) (λ r. P (t ∷ r))
type_kept z P i c.Char at = ((λ v. OfBase CharBase), P, (λ v u. tt), (λ v r. refl), (λ v. refl), i)
type_kept z P i c.Int at = ((λ v. OfBase IntBase), P, (λ v u. tt), (λ v r. refl), (λ v. refl), i)
type_kept z P i c.Long at = ((λ v. OfBase (long_base v.0)), P, (λ v u. tt), (λ v r. ap P (long_tokens v.0 r)), (λ v. refl), i)
type_kept z P i c.Signed at = ((λ v. signed_of v.0), P, (λ v u. tt), (λ v r. ap P (signed_tokens v.0 r)), (λ v. refl), i)
type_kept z P i c.Unsigned at = ((λ v. unsigned_of v.0), P, (λ v u. tt), (λ v r. ap P (unsigned_tokens v.0 r)), (λ v. refl), i)
type_kept z P i _ at = tt

-- ---- declarations

-- A token that begins a local declaration does.
pub local_kept : (z : Frames) (P : Front) → ValueNext z (Node p.Local) P → (t : Class) (at : ℕ) → Goes (at_local z t at) (λ r. P (t ∷ r))
local_kept z P i c.Const at = ((λ v. Locals true v.0 v.1.0 v.1.1.0), P, (λ v u. (u.1.0, u.1.1.0)), (λ v r. refl), (λ v. refl), i)
local_kept z P i t at =
    type_kept (rest p.Local at 0 [] declarators ∷ z) P ((λ a v. Locals false a v.0 v.1.0), P, (λ a v u x. (x.0, x.1.0)), (λ a v r. refl), (λ a v. refl), i) t at

-- A token that begins a declarator does.
pub declarator_kept : (z : Frames) (P : Front) → ValueNext z (Node p.Declarator) P → (t : Class) (at : ℕ) → Goes (at_declarator z t at) (λ r. P (t ∷ r))
declarator_kept z P i t at =
    branch (same c.Name t) _ _ _
    (λ h. ((λ v. Declared v.0 v.1.0), P, (λ v u. (u.0, u.1.0)), (λ v r. put P t c.Name (same_is c.Name t h) _), (λ v. refl), i)) (λ h. tt)

-- A token that begins an enumerator does.
pub enumerator_kept : (z : Frames) (P : Front) → ValueNext z (Node p.Enumerator) P → (t : Class) (at : ℕ) → Goes (at_enumerator z t at) (λ r. P (t ∷ r))
enumerator_kept z P i t at =
    branch (same c.Name t) _ _ _
    (λ h. ((λ v. v.0), P, (λ v u. u.0), (λ v r. put P t c.Name (same_is c.Name t h) _), (λ v. refl), i)) (λ h. tt)

-- A token that begins an initialiser does.
pub initialiser_kept : (z : Frames) (P : Front) → ValueNext z (Node p.Initialiser) P → (t : Class) (at : ℕ) → Goes (at_initialiser z t at) (λ r. P (t ∷ r))
initialiser_kept z P i t at =
    branch (same c.OpenBlock t) _ _ _
    (λ h. ((λ v. ValueList v.0 v.1.0.0 v.1.0.1), P, (λ v u. (u.0, u.1.0)), (λ v r. put P t c.OpenBlock (same_is c.OpenBlock t h) _), (λ v. refl), i))
    (λ h. full_kept f.Assignment (rest p.Initialiser at 0 [] [] ∷ z) P ((λ a v. OneValue a), P, (λ a v u x. u), (λ a v r. refl), (λ a v. refl), i) t at)

-- A token that begins a parameter does.
pub parameter_kept : (z : Frames) (P : Front) → ValueNext z (Node p.Param) P → (t : Class) (at : ℕ) → Goes (at_parameter z t at) (λ r. P (t ∷ r))
parameter_kept z P i c.Const at = ((λ v. Typed true v.0 v.1.0 v.1.1.0), P, (λ v u. u.1.1.0), (λ v r. refl), (λ v. refl), i)
parameter_kept z P i t at =
    type_kept (rest p.Param at 0 [] parameter_rest ∷ z) P ((λ a v. Typed false a v.0 v.1.0), P, (λ a v u x. x.1.0), (λ a v r. refl), (λ a v. refl), i) t at

-- A token that begins the first parameter does.
parameters_begun : (z : Frames) (P : Front) → ValueNext z (Node p.Params) P → (t : Class) (at : ℕ) →
    Goes (at_parameter (rest p.Params at 0 [] (w.Optional o.Parameters ∷ []) ∷ z) t at) (λ r. P (t ∷ r))
parameters_begun z P i t at =
    parameter_kept (rest p.Params at 0 [] (w.Optional o.Parameters ∷ []) ∷ z) P
    ((λ a v. SomeParameters a v.0), P, (λ a v u x. (u, x.0)), (λ a v r. refl), (λ a v. refl), i) t at

-- A token that begins parameters does.
pub parameters_kept : (z : Frames) (P : Front) → ValueNext z (Node p.Params) P → (t : Class) (at : ℕ) → Goes (at_parameters z t at) (λ r. P (t ∷ r))
parameters_kept z P i c.Void at = ((λ v. VoidParameters), P, (λ v u. tt), (λ v r. refl), (λ v. refl), i)
parameters_kept z P i t at = parameters_begun z P i t at

-- ---- statements

-- A token that begins a block does.
pub block_kept : (level : ℕ) (z : Frames) (P : Front) → ValueNext z (Node p.Block) P → (t : Class) (at : ℕ) → Goes (at_block level z t at) (λ r. P (t ∷ r))
block_kept level z P i t at =
    branch (same c.OpenBlock t) _ _ _ (λ h. (
      (λ v. Braces v.0),
      P,
      (λ v u. u.0),
      (λ v r. put P t c.OpenBlock (same_is c.OpenBlock t h) _),
      (λ v. refl),
      i,
    )) (λ h. tt)

abbrev if_of : Expression → Statement → Option Statement → Plain
if_of e x None = If e x
if_of e x (Some y) = IfElse e x y

if_fits : (e : Expression) (x : Statement) (y : Option Statement) → FitsExpression e → FitsStatement x → FitsElse (is_statement_open x) y →
    FitsPlain (if_of e x y)
if_fits e x None u v k = (u, v)
if_fits e x (Some y) u v k = (u, v, k.0, k.1)

if_tokens : (e : Expression) (x : Statement) (y : Option Statement) (r : List Class) →
    c.If ∷ c.Open ∷ expression_tokens e (c.Close ∷ statement_tokens x (else_tokens y r)) ≡ plain_tokens (if_of e x y) r
if_tokens e x None r = refl
if_tokens e x (Some y) r = refl

if_open : (e : Expression) (x : Statement) (y : Option Statement) → is_plain_open (if_of e x y) ≡ is_else_open y
if_open e x None = refl
if_open e x (Some y) = refl

-- A token that begins an expression statement does.
simple_begun : (level : ℕ) (z : Frames) (P : Front) → ValueNext z (Node p.Plain) P → (t : Class) (at : ℕ) →
    Goes (at_full f.Expression (rest p.Plain at level [] (w.Token c.Semicolon ∷ []) ∷ z) t at) (λ r. P (t ∷ r))
simple_begun level z P i t at =
    full_kept f.Expression (rest p.Plain at level [] (w.Token c.Semicolon ∷ []) ∷ z) P
    ((λ a v. Simple (Some a)), P, (λ a v u x. u), (λ a v r. refl), (λ a v. refl), i) t at

-- A token that begins a statement without labels does.
pub plain_kept : (level : ℕ) (z : Frames) (P : Front) → ValueNext z (Node p.Plain) P → (t : Class) (at : ℕ) → Goes (at_plain level z t at) (λ r. P (t ∷ r))
plain_kept level z P i c.If at = (
  (λ v. if_of v.1.0 v.1.1.1.0 v.1.1.1.1.0),
  P,
  (λ v u. if_fits v.1.0 v.1.1.1.0 v.1.1.1.1.0 u.1.0 u.1.1.1.0 u.1.1.1.1.0),
  (λ v r. ap P (if_tokens v.1.0 v.1.1.1.0 v.1.1.1.1.0 r)),
  (λ v. if_open v.1.0 v.1.1.1.0 v.1.1.1.1.0),
  i,
)
plain_kept level z P i c.While at = ((λ v. While v.1.0 v.1.1.1.0), P, (λ v u. (u.1.0, u.1.1.1.0)), (λ v r. refl), (λ v. refl), i)
plain_kept level z P i c.Switch at = ((λ v. Switch v.1.0 v.1.1.1.0), P, (λ v u. (u.1.0, u.1.1.1.0)), (λ v r. refl), (λ v. refl), i)
plain_kept level z P i c.Do at = ((λ v. DoWhile v.0 v.1.1.1.0), P, (λ v u. (u.0, u.1.1.1.0)), (λ v r. refl), (λ v. refl), i)
plain_kept level z P i c.For at =
    ((λ v. For v.1.0 v.1.1.0 v.1.1.1.0 v.1.1.1.1.0), P, (λ v u. (u.1.0, u.1.1.0, u.1.1.1.0, u.1.1.1.1.0)), (λ v r. refl), (λ v. refl), i)
plain_kept level z P i c.Goto at = ((λ v. Goto), P, (λ v u. tt), (λ v r. refl), (λ v. refl), i)
plain_kept level z P i c.Break at = ((λ v. Break), P, (λ v u. tt), (λ v r. refl), (λ v. refl), i)
plain_kept level z P i c.Continue at = ((λ v. Continue), P, (λ v u. tt), (λ v r. refl), (λ v. refl), i)
plain_kept level z P i c.Return at = ((λ v. Return v.0), P, (λ v u. u.0), (λ v r. refl), (λ v. refl), i)
plain_kept level z P i c.Semicolon at = ((λ v. Simple None), P, (λ v u. tt), (λ v r. refl), (λ v. refl), i)
plain_kept level z P i c.OpenBlock at =
    block_kept (level + 1) (rest p.Plain at level [] [] ∷ z) P ((λ a v. Compound a), P, (λ a v u x. u), (λ a v r. refl), (λ a v. refl), i) c.OpenBlock at
plain_kept level z P i t at = simple_begun level z P i t at

-- what a statement frame says of labels
label_kept : (form : Form) (z : Frames) (P : Front) → ValueNext (s.Rest form ∷ z) (Node p.Statement) P →
    ValueNext (s.Rest (record form { todo = w.Labelled ∷ form.todo }) ∷ z) (Node p.Label) P
label_kept form z P i = (
  (λ a v. i.0 (Labelled a v.0) v.1),
  i.1,
  (λ a v u x. i.2 (Labelled a v.0) v.1 (u, x.0) x.1),
  (λ a v r. i.3 (Labelled a v.0) v.1 r),
  (λ a v. i.4 (Labelled a v.0) v.1),
  i.5,
)

-- a statement frame awaits what stands behind the labels
pub unlabelled : (form : Form) (z : Frames) (P : Front) → ValueNext (s.Rest form ∷ z) (Node p.Statement) P → ValueNext (s.Rest form ∷ z) (Node p.Plain) P
unlabelled form z P i =
    ((λ a v. i.0 (Unlabelled a) v), i.1, (λ a v u x. i.2 (Unlabelled a) v u x), (λ a v r. i.3 (Unlabelled a) v r), (λ a v. i.4 (Unlabelled a) v), i.5)

-- a name and a colon are a label of the statement
pub named_label : (form : Form) (z : Frames) (P Q : Front) → ValueNext (s.Rest form ∷ z) (Node p.Statement) P →
    ((r : List Class) → Q r ≡ P (c.Name ∷ c.Colon ∷ r))
    → Awaits (ValueNext (s.Rest (record form { todo = w.Labelled ∷ form.todo }) ∷ z) (Node p.Label)) false [] p.Label Q
named_label form z P Q i e = ((λ v. NameLabel), P, (λ v u. tt), (λ v r. e r), (λ v. refl), label_kept form z P i)

-- A token that begins a statement without labels does, behind its labels.
plain_begun : (form : Form) (z : Frames) (P : Front) → ValueNext (s.Rest form ∷ z) (Node p.Statement) P → (t : Class) (at : ℕ) →
    Goes (at_plain form.level (s.Rest form ∷ z) t at) (λ r. P (t ∷ r))
plain_begun form z P i t at = plain_kept form.level (s.Rest form ∷ z) P (unlabelled form z P i) t at

-- A token that begins a statement behind labels keeps what the frames say.
pub labelled_kept : (form : Form) (z : Frames) (P : Front) → ValueNext (s.Rest form ∷ z) (Node p.Statement) P → (t : Class) (at : ℕ) →
    Goes (at_labelled form z t at) (λ r. P (t ∷ r))
labelled_kept form z P i c.Case at = ((λ v. CaseLabel v.0), P, (λ v u. u.0), (λ v r. refl), (λ v. refl), label_kept form z P i)
labelled_kept form z P i c.Default at = ((λ v. DefaultLabel), P, (λ v u. tt), (λ v r. refl), (λ v. refl), label_kept form z P i)
labelled_kept form z P i c.Name at = (P, (λ r. refl), i)
labelled_kept form z P i t at = plain_begun form z P i t at

-- A token that begins a statement does.
pub statement_kept : (level : ℕ) (z : Frames) (P : Front) → ValueNext z (Node p.Statement) P → (t : Class) (at : ℕ) →
    Goes (at_statement level z t at) (λ r. P (t ∷ r))
statement_kept level z P i t at =
    labelled_kept (record { rule = p.Statement; first = at; level = level; parts = []; todo = [] }) z P
    ((λ a v. a), P, (λ a v u x. u), (λ a v r. refl), (λ a v. refl), i) t at

-- what opens a level leaves the same frames
opening_goes : (level : ℕ) (n : Next) (Q : Front) → Goes n Q → Goes (opening level n) Q
opening_goes level Fails Q g = tt
opening_goes level (Takes l z) Q g = g

-- A token that begins a body does.
pub body_kept : (level : ℕ) (z : Frames) (P : Front) → ValueNext z (Node p.Statement) P → (t : Class) (at : ℕ) → Goes (at_body level z t at) (λ r. P (t ∷ r))
body_kept level z P i t at =
    branch (same c.OpenBlock t) _ _ _ (λ h. statement_kept level z P i t at)
    (λ h. opening_goes (level + 1) (at_statement (level + 1) z t at) (λ r. P (t ∷ r)) (statement_kept (level + 1) z P i t at))

-- ---- what is left of a node

abbrev size_of : Option Conditional → Size
size_of None = Unsized
size_of (Some d) = Sized d

size_tokens_of : (d : Option Conditional) (r : List Class) → c.OpenIndex ∷ close_tokens d r ≡ size_tokens (size_of d) r
size_tokens_of None r = refl
size_tokens_of (Some d) r = refl

size_fits : (d : Option Conditional) → FitsConstant d → FitsSize (size_of d)
size_fits None u = tt
size_fits (Some d) u = u

abbrev members : (x : Member) → Option (MemberValue x × (List (MemberValue x) × Bool)) → List (MemberValue x) × Bool
members x None = ([], true)
members x (Some v) = (v.0 ∷ v.1.0, v.1.1)

members_tokens : (x : Member) (v : Option (MemberValue x × (List (MemberValue x) × Bool))) (r : List Class) →
    c.Comma ∷ next_tokens x v r ≡ rest_tokens (member_tokens x) (members x v).0 (members x v).1 r
members_tokens x None r = refl
members_tokens x (Some v) r = refl

members_fit : (x : Member) (v : Option (MemberValue x × (List (MemberValue x) × Bool))) → FitsNext x v → FitsMore (FitsMember x) (members x v).0
members_fit x None u = tt
members_fit x (Some v) u = u

-- a token that leads in what may be left out
lead_kept : (rule : Production) (first level : ℕ) (parts : List Syntax) (l : List Want) (x : Lead) (z : Frames) (t : Class) (d : Bool) (Q : Front)
    → Awaits (ValueNext z (Node rule)) d (w.Optional x ∷ l) rule Q → Calm d t → t ≡ leader x →
    Ready (rest rule first level parts (follow x l) ∷ z) (λ r. Q (t ∷ r))
lead_kept rule first level parts l o.Const z t d Q A k e = (
  (λ v. A.0 (true, v)),
  A.1,
  (λ v u. A.2 (true, v) (tt, u)),
  (λ v r. put Q t c.Const e _ ∙ A.3 (true, v) r),
  (λ v. A.4 (true, v)),
  A.5,
)
lead_kept rule first level parts l o.Name z t d Q A k e = (
  (λ v. A.0 (true, v)),
  A.1,
  (λ v u. A.2 (true, v) (tt, u)),
  (λ v r. put Q t c.Name e _ ∙ A.3 (true, v) r),
  (λ v. A.4 (true, v)),
  A.5,
)
lead_kept rule first level parts l o.Int z t d Q A k e = (
  (λ v. A.0 (true, v)),
  A.1,
  (λ v u. A.2 (true, v) (tt, u)),
  (λ v r. put Q t c.Int e _ ∙ A.3 (true, v) r),
  (λ v. A.4 (true, v)),
  A.5,
)
lead_kept rule first level parts l o.Size z t d Q A k e = (
  (λ v. A.0 (size_of v.0, v.1)),
  A.1,
  (λ v u. A.2 (size_of v.0, v.1) (size_fits v.0 u.0, u.1)),
  (λ v r. put Q t c.OpenIndex e _ ∙ ap Q (size_tokens_of v.0 _) ∙ A.3 (size_of v.0, v.1) r),
  (λ v. A.4 (size_of v.0, v.1)),
  A.5,
)
lead_kept rule first level parts l o.Value z t d Q A k e =
    ((λ v. A.0 (Some v.0, v.1)), A.1, (λ v u. A.2 (Some v.0, v.1) u), (λ v r. put Q t c.Equals e _ ∙ A.3 (Some v.0, v.1) r), (λ v. A.4 (Some v.0, v.1)), A.5)
lead_kept rule first level parts l o.Constant z t d Q A k e =
    ((λ v. A.0 (Some v.0, v.1)), A.1, (λ v u. A.2 (Some v.0, v.1) u), (λ v r. put Q t c.Equals e _ ∙ A.3 (Some v.0, v.1) r), (λ v. A.4 (Some v.0, v.1)), A.5)
lead_kept rule first level parts l o.Else z t d Q A k e = (
  (λ v. A.0 (Some v.0, v.1)),
  A.1,
  (λ v u. A.2 (Some v.0, v.1) ((k (ap (same c.Else) e), u.0), u.1)),
  (λ v r. put Q t c.Else e _ ∙ A.3 (Some v.0, v.1) r),
  (λ v. A.4 (Some v.0, v.1)),
  A.5,
)
lead_kept rule first level parts l _ z t d Q A k e = (
  (λ v. A.0 (v.0 ∷ v.1.0, v.1.1)),
  A.1,
  (λ v u. A.2 (v.0 ∷ v.1.0, v.1.1) ((u.0, u.1.0), u.1.1)),
  (λ v r. put Q t c.Comma e _ ∙ A.3 (v.0 ∷ v.1.0, v.1.1) r),
  (λ v. A.4 (v.0 ∷ v.1.0, v.1.1)),
  A.5,
)

-- A token behind a sign in a type keeps what the frames say.
base_kept : (rule : Production) (first level : ℕ) (parts : List Syntax) (l : List Want) (z : Frames) (t : Class) (at : ℕ) (d : Bool) (Q : Front)
    → Awaits (ValueNext z (Node rule)) d (w.Base ∷ l) rule Q → Goes (begin rule first level parts l w.Base z t at) (λ r. Q (t ∷ r))
base_kept rule first level parts l z c.Char at d Q A =
    ((λ v. A.0 (Some CharBase, v)), A.1, (λ v u. A.2 (Some CharBase, v) (tt, u)), (λ v r. A.3 (Some CharBase, v) r), (λ v. A.4 (Some CharBase, v)), A.5)
base_kept rule first level parts l z c.Int at d Q A =
    ((λ v. A.0 (Some IntBase, v)), A.1, (λ v u. A.2 (Some IntBase, v) (tt, u)), (λ v r. A.3 (Some IntBase, v) r), (λ v. A.4 (Some IntBase, v)), A.5)
base_kept rule first level parts l z c.Long at d Q A = (
  (λ v. A.0 (Some (long_base v.0), v.1)),
  A.1,
  (λ v u. A.2 (Some (long_base v.0), v.1) (tt, u.1)),
  (λ v r. ap Q (long_tokens v.0 _) ∙ A.3 (Some (long_base v.0), v.1) r),
  (λ v. A.4 (Some (long_base v.0), v.1)),
  A.5,
)
base_kept rule first level parts l z _ at d Q A = tt

-- A token that begins what is wanted does.
pub begins : (rule : Production) (first level : ℕ) (parts : List Syntax) (l : List Want) (x : Want) (z : Frames) (t : Class) (at : ℕ) (d : Bool) (Q : Front)
    → Awaits (ValueNext z (Node rule)) d (x ∷ l) rule Q → Calm d t → skips x t ≡ false → Goes (begin rule first level parts l x z t at) (λ r. Q (t ∷ r))
begins rule first level parts l (w.Token x) z t at d Q A k h =
    branch (same x t) _ _ _ (λ e. (
      (λ v. A.0 (tt, v)),
      A.1,
      (λ v u. A.2 (tt, v) (tt, u)),
      (λ v r. put Q t x (same_is x t e) _ ∙ A.3 (tt, v) r),
      (λ v. A.4 (tt, v)),
      A.5,
    )) (λ e. tt)
begins rule first level parts l w.Type z t at d Q A k h =
    type_kept (rest rule first level parts l ∷ z) Q (
      (λ a v. A.0 (a, v)),
      A.1,
      (λ a v u x. A.2 (a, v) (tt, x)),
      (λ a v r. A.3 (a, v) r),
      (λ a v. A.4 (a, v)),
      A.5,
    ) t at
begins rule first level parts l w.Base z t at d Q A k h = base_kept rule first level parts l z t at d Q A
begins rule first level parts l (w.Full f.Expression) z t at d Q A k h =
    full_kept f.Expression (rest rule first level parts l ∷ z) Q
    ((λ a v. A.0 (a, v)), A.1, (λ a v u x. A.2 (a, v) (u, x)), (λ a v r. A.3 (a, v) r), (λ a v. A.4 (a, v)), A.5) t at
begins rule first level parts l (w.Full f.Assignment) z t at d Q A k h =
    full_kept f.Assignment (rest rule first level parts l ∷ z) Q
    ((λ a v. A.0 (a, v)), A.1, (λ a v u x. A.2 (a, v) (u, x)), (λ a v r. A.3 (a, v) r), (λ a v. A.4 (a, v)), A.5) t at
begins rule first level parts l (w.Full f.Conditional) z t at d Q A k h =
    full_kept f.Conditional (rest rule first level parts l ∷ z) Q
    ((λ a v. A.0 (a, v)), A.1, (λ a v u x. A.2 (a, v) (u, x)), (λ a v r. A.3 (a, v) r), (λ a v. A.4 (a, v)), A.5) t at
begins rule first level parts l (w.OptionalExpression y) z t at d Q A k h =
    branch (same y t) _ _ _
    (λ e. ((λ v. A.0 (None, v)), A.1, (λ v u. A.2 (None, v) (tt, u)), (λ v r. put Q t y (same_is y t e) _ ∙ A.3 (None, v) r), (λ v. A.4 (None, v)), A.5))
    (λ e. full_kept f.Expression (rest rule first level parts (w.Token y ∷ l) ∷ z) Q
    ((λ a v. A.0 (Some a, v.1)), A.1, (λ a v u x. A.2 (Some a, v.1) (u, x.1)), (λ a v r. A.3 (Some a, v.1) r), (λ a v. A.4 (Some a, v.1)), A.5) t at)
begins rule first level parts l w.Length z t at d Q A k h =
    branch (same c.CloseIndex t) _ _ _
    (λ e. (
      (λ v. A.0 (None, v)),
      A.1,
      (λ v u. A.2 (None, v) (tt, u)),
      (λ v r. put Q t c.CloseIndex (same_is c.CloseIndex t e) _ ∙ A.3 (None, v) r),
      (λ v. A.4 (None, v)),
      A.5,
    ))
    (λ e. full_kept f.Conditional (rest rule first level parts (w.Token c.CloseIndex ∷ l) ∷ z) Q
    ((λ a v. A.0 (Some a, v.1)), A.1, (λ a v u x. A.2 (Some a, v.1) (u, x.1)), (λ a v r. A.3 (Some a, v.1) r), (λ a v. A.4 (Some a, v.1)), A.5) t at)
begins rule first level parts l (w.Optional x) z t at d Q A k h = lead_kept rule first level (parts ++ leaf at ∷ []) l x z t d Q A k
    (same_is (leader x) t (not_false (same (leader x) t) h))
  where
    not_false : (b : Bool) → not b ≡ false → b ≡ true
    not_false true e = refl
    not_false false e = absurd cc
begins rule first level parts l (w.Tail x) z t at d Q A k h =
    branch (same c.Comma t) _ _ _
    (λ e. (
      (λ v. A.0 (members x v.0, v.1)),
      A.1,
      (λ v u. A.2 (members x v.0, v.1) (members_fit x v.0 u.0, u.1)),
      (λ v r. put Q t c.Comma (same_is c.Comma t e) _ ∙ ap Q (members_tokens x v.0 _) ∙ A.3 (members x v.0, v.1) r),
      (λ v. A.4 (members x v.0, v.1)),
      A.5,
    ))
    (λ q. branch (same c.CloseBlock t) _ _ _
    (λ e. (
      (λ v. A.0 (([], false), v)),
      A.1,
      (λ v u. A.2 (([], false), v) (tt, u)),
      (λ v r. put Q t c.CloseBlock (same_is c.CloseBlock t e) _ ∙ A.3 (([], false), v) r),
      (λ v. A.4 (([], false), v)),
      A.5,
    )) (λ e. tt))
begins rule first level parts l (w.Next m.Value) z t at d Q A k h =
    branch (same c.CloseBlock t) _ _ _
    (λ e. (
      (λ v. A.0 (None, v)),
      A.1,
      (λ v u. A.2 (None, v) (tt, u)),
      (λ v r. put Q t c.CloseBlock (same_is c.CloseBlock t e) _ ∙ A.3 (None, v) r),
      (λ v. A.4 (None, v)),
      A.5,
    ))
    (λ e. full_kept f.Assignment (rest rule first level parts (w.Tail m.Value ∷ l) ∷ z) Q (
      (λ a v. A.0 (Some (a, v.0), v.1)),
      A.1,
      (λ a v u x. A.2 (Some (a, v.0), v.1) ((u, x.0), x.1)),
      (λ a v r. A.3 (Some (a, v.0), v.1) r),
      (λ a v. A.4 (Some (a, v.0), v.1)),
      A.5,
    ) t at)
begins rule first level parts l (w.Next m.Enumerator) z t at d Q A k h =
    branch (same c.CloseBlock t) _ _ _
    (λ e. (
      (λ v. A.0 (None, v)),
      A.1,
      (λ v u. A.2 (None, v) (tt, u)),
      (λ v r. put Q t c.CloseBlock (same_is c.CloseBlock t e) _ ∙ A.3 (None, v) r),
      (λ v. A.4 (None, v)),
      A.5,
    ))
    (λ e. enumerator_kept (rest rule first level parts (w.Tail m.Enumerator ∷ l) ∷ z) Q (
      (λ a v. A.0 (Some (a, v.0), v.1)),
      A.1,
      (λ a v u x. A.2 (Some (a, v.0), v.1) ((u, x.0), x.1)),
      (λ a v r. A.3 (Some (a, v.0), v.1) r),
      (λ a v. A.4 (Some (a, v.0), v.1)),
      A.5,
    ) t at)
begins rule first level parts l w.Declarator z t at d Q A k h =
    declarator_kept (rest rule first level parts l ∷ z) Q (
      (λ a v. A.0 (a, v)),
      A.1,
      (λ a v u x. A.2 (a, v) (u, x)),
      (λ a v r. A.3 (a, v) r),
      (λ a v. A.4 (a, v)),
      A.5,
    ) t at
begins rule first level parts l w.Enumerator z t at d Q A k h =
    enumerator_kept (rest rule first level parts l ∷ z) Q (
      (λ a v. A.0 (a, v)),
      A.1,
      (λ a v u x. A.2 (a, v) (u, x)),
      (λ a v r. A.3 (a, v) r),
      (λ a v. A.4 (a, v)),
      A.5,
    ) t at
begins rule first level parts l w.Initialiser z t at d Q A k h =
    initialiser_kept (rest rule first level parts l ∷ z) Q (
      (λ a v. A.0 (a, v)),
      A.1,
      (λ a v u x. A.2 (a, v) (u, x)),
      (λ a v r. A.3 (a, v) r),
      (λ a v. A.4 (a, v)),
      A.5,
    ) t at
begins rule first level parts l w.Parameters z t at d Q A k h =
    parameters_kept (rest rule first level parts l ∷ z) Q (
      (λ a v. A.0 (a, v)),
      A.1,
      (λ a v u x. A.2 (a, v) (u, x)),
      (λ a v r. A.3 (a, v) r),
      (λ a v. A.4 (a, v)),
      A.5,
    ) t at
begins rule first level parts l w.Parameter z t at d Q A k h =
    parameter_kept (rest rule first level parts l ∷ z) Q (
      (λ a v. A.0 (a, v)),
      A.1,
      (λ a v u x. A.2 (a, v) (u, x)),
      (λ a v r. A.3 (a, v) r),
      (λ a v. A.4 (a, v)),
      A.5,
    ) t at
begins rule first level parts l w.ForStart z t at d Q A k h =
    branch (starts_local t) _ _ _
    (λ e. local_kept (rest rule first level parts l ∷ z) Q (
      (λ a v. A.0 (StartLocal a, v)),
      A.1,
      (λ a v u x. A.2 (StartLocal a, v) (u, x)),
      (λ a v r. A.3 (StartLocal a, v) r),
      (λ a v. A.4 (StartLocal a, v)),
      A.5,
    ) t at)
    (λ q. branch (same c.Semicolon t) _ _ _
    (λ e. (
      (λ v. A.0 (StartValue None, v)),
      A.1,
      (λ v u. A.2 (StartValue None, v) (tt, u)),
      (λ v r. put Q t c.Semicolon (same_is c.Semicolon t e) _ ∙ A.3 (StartValue None, v) r),
      (λ v. A.4 (StartValue None, v)),
      A.5,
    ))
    (λ e. full_kept f.Expression (rest rule first level parts (w.Token c.Semicolon ∷ l) ∷ z) Q (
      (λ a v. A.0 (StartValue (Some a), v.1)),
      A.1,
      (λ a v u x. A.2 (StartValue (Some a), v.1) (u, x.1)),
      (λ a v r. A.3 (StartValue (Some a), v.1) r),
      (λ a v. A.4 (StartValue (Some a), v.1)),
      A.5,
    ) t at))
begins rule first level parts l w.FunctionEnd z t at d Q A k h =
    branch (same c.Semicolon t) _ _ _
    (λ e. (
      (λ v. A.0 (None, v)),
      A.1,
      (λ v u. A.2 (None, v) (tt, u)),
      (λ v r. put Q t c.Semicolon (same_is c.Semicolon t e) _ ∙ A.3 (None, v) r),
      (λ v. A.4 (None, v)),
      A.5,
    ))
    (λ e. block_kept 1 (rest rule first level parts l ∷ z) Q
    ((λ a v. A.0 (Some a, v)), A.1, (λ a v u x. A.2 (Some a, v) (u, x)), (λ a v r. A.3 (Some a, v) r), (λ a v. A.4 (Some a, v)), A.5) t at)
begins rule first level parts l w.Body z t at d Q A k h =
    body_kept level (rest rule first level parts l ∷ z) Q (
      (λ a v. A.0 (a, v)),
      A.1,
      (λ a v u x. A.2 (a, v) (u, x)),
      (λ a v r. A.3 (a, v) r),
      (λ a v. A.4 (a, v)),
      A.5,
    ) t at
begins rule first level parts l w.Items z t at d Q A k h =
    branch (same c.CloseBlock t) _ _ _
    (λ e. (
      (λ v. A.0 (NoItems, v)),
      A.1,
      (λ v u. A.2 (NoItems, v) (tt, u)),
      (λ v r. put Q t c.CloseBlock (same_is c.CloseBlock t e) _ ∙ A.3 (NoItems, v) r),
      (λ v. A.4 (NoItems, v)),
      A.5,
    ))
    (λ q. branch (starts_local t) _ _ _
    (λ e. local_kept (rest rule first level parts (w.Items ∷ l) ∷ z) Q (
      (λ a v. A.0 (LocalItem a v.0, v.1)),
      A.1,
      (λ a v u x. A.2 (LocalItem a v.0, v.1) ((u, x.0), x.1)),
      (λ a v r. A.3 (LocalItem a v.0, v.1) r),
      (λ a v. A.4 (LocalItem a v.0, v.1)),
      A.5,
    ) t at)
    (λ e. statement_kept level (rest rule first level parts (w.Items ∷ l) ∷ z) Q (
      (λ a v. A.0 (StatementItem a v.0, v.1)),
      A.1,
      (λ a v u x. A.2 (StatementItem a v.0, v.1) ((u, x.0), x.1)),
      (λ a v r. A.3 (StatementItem a v.0, v.1) r),
      (λ a v. A.4 (StatementItem a v.0, v.1)),
      A.5,
    ) t at))
begins rule first level parts l w.Labelled z t at d Q A k h =
    labelled_kept (record { rule = rule; first = first; level = level; parts = parts; todo = l }) z Q
    ((λ a v. A.0 (a, v)), A.1, (λ a v u x. A.2 (a, v) (u, x)), (λ a v r. A.3 (a, v) r), (λ a v. A.4 (a, v)), A.5) t at

-- what may be left out is
lead_skipped : (rule : Production) (l : List Want) (x : Lead) (below : Front → Type 0) (d : Bool) (Q : Front) →
    Awaits below d (w.Optional x ∷ l) rule Q → Awaits below (is_lead_open x (least_lead x)) l rule Q
lead_skipped rule l o.Const below d Q A = ((λ v. A.0 (false, v)), A.1, (λ v u. A.2 (false, v) (tt, u)), (λ v r. A.3 (false, v) r), (λ v. A.4 (false, v)), A.5)
lead_skipped rule l o.Name below d Q A = ((λ v. A.0 (false, v)), A.1, (λ v u. A.2 (false, v) (tt, u)), (λ v r. A.3 (false, v) r), (λ v. A.4 (false, v)), A.5)
lead_skipped rule l o.Int below d Q A = ((λ v. A.0 (false, v)), A.1, (λ v u. A.2 (false, v) (tt, u)), (λ v r. A.3 (false, v) r), (λ v. A.4 (false, v)), A.5)
lead_skipped rule l o.Size below d Q A = (
  (λ v. A.0 (NoSize, v)),
  A.1,
  (λ v u. A.2 (NoSize, v) (tt, u)),
  (λ v r. A.3 (NoSize, v) r),
  (λ v. A.4 (NoSize, v)),
  A.5,
)
lead_skipped rule l o.Value below d Q A = ((λ v. A.0 (None, v)), A.1, (λ v u. A.2 (None, v) (tt, u)), (λ v r. A.3 (None, v) r), (λ v. A.4 (None, v)), A.5)
lead_skipped rule l o.Constant below d Q A = ((λ v. A.0 (None, v)), A.1, (λ v u. A.2 (None, v) (tt, u)), (λ v r. A.3 (None, v) r), (λ v. A.4 (None, v)), A.5)
lead_skipped rule l o.Else below d Q A = ((λ v. A.0 (None, v)), A.1, (λ v u. A.2 (None, v) (tt, u)), (λ v r. A.3 (None, v) r), (λ v. A.4 (None, v)), A.5)
lead_skipped rule l _ below d Q A = ((λ v. A.0 ([], v)), A.1, (λ v u. A.2 ([], v) (tt, u)), (λ v r. A.3 ([], v) r), (λ v. A.4 ([], v)), A.5)

-- no token is both
not_true : (b : Bool) → not b ≡ true → b ≡ true → true ≡ false
not_true true e q = sym e
not_true false e q = sym q

-- behind what is left out, an `else` finds nothing that it would belong to
lead_calm : (x : Lead) (t : Class) → skips (w.Optional x) t ≡ true → Calm (is_lead_open x (least_lead x)) t
lead_calm o.Else t h = not_true (same c.Else t) h
lead_calm _ t h = λ e. refl

-- how a node goes on that is whole in front of this token
abbrev pub Handed : (Syntax → Next) → Production → Frames → Class → Front → Type 0
Handed k rule z t Q = (x : Syntax) (P0 : Front) (a : NodeOf rule) → FitsNode rule a → Calm (is_node_open rule a) t →
    ((r : List Class) → Q r ≡ P0 (node_tokens rule a r)) → ValueNext z (Node rule) P0 → Goes (k x) (λ r. Q (t ∷ r))

-- A token that goes on with what is left of a node does.
pub feeds : (rule : Production) (first level : ℕ) (parts : List Syntax) (l : List Want) (z : Frames) (t : Class) (at : ℕ) (k : Syntax → Next)
    (d : Bool) (Q : Front)
    → Awaits (ValueNext z (Node rule)) d l rule Q → Calm d t → Handed k rule z t Q → Goes (feed rule first level parts l z t at k) (λ r. Q (t ∷ r))
feeds rule first level parts [] z t at k d Q A c h = h (node rule first at parts) A.1 (A.0 tt) (A.2 tt tt) (λ e. A.4 tt ∙ c e) (λ r. A.3 tt r) A.5
feeds rule first level parts (w.Optional x ∷ l) z t at k d Q A c h =
    branch (skips (w.Optional x) t) _ _ _
    (λ e. feeds rule first level parts l z t at k (is_lead_open x (least_lead x)) Q (lead_skipped rule l x (ValueNext z (Node rule)) d Q A) (lead_calm x t e) h)
    (λ e. begins rule first level parts l (w.Optional x) z t at d Q A c e)
feeds rule first level parts (w.Base ∷ l) z t at k d Q A c h =
    branch (skips w.Base t) _ _ _
    (λ e. feeds rule first level parts l z t at k false Q (
      (λ v. A.0 (None, v)),
      A.1,
      (λ v u. A.2 (None, v) (tt, u)),
      (λ v r. A.3 (None, v) r),
      (λ v. A.4 (None, v)),
      A.5,
    ) (λ q. refl) h)
    (λ e. begins rule first level parts l w.Base z t at d Q A c e)
feeds rule first level parts (w.Parameters ∷ l) z t at k d Q A c h =
    branch (skips w.Parameters t) _ _ _
    (λ e. feeds rule first level (skipped w.Parameters parts at) l z t at k false Q
    ((λ v. A.0 (NoParameters, v)), A.1, (λ v u. A.2 (NoParameters, v) (tt, u)), (λ v r. A.3 (NoParameters, v) r), (λ v. A.4 (NoParameters, v)), A.5)
    (λ q. refl) h)
    (λ e. begins rule first level parts l w.Parameters z t at d Q A c e)
feeds rule first level parts (x ∷ l) z t at k d Q A c h = begins rule first level parts l x z t at d Q A c refl

-- ---- files

-- A token that begins a declaration or a function does.
pub external_kept : (first : ℕ) (parts : List Syntax) (static : Bool) (z : Frames) (P0 P : Front) →
    ((r : List Class) → P r ≡ P0 (word_tokens c.Static static r)) → ValueNext z (Node p.Declaration) P0 → ValueNext z (Node p.Function) P0
    → (t : Class) (at : ℕ) → Goes (at_external first parts z t at) (λ r. P (t ∷ r))
external_kept first parts static z P0 P e i j c.Const at = (
  (λ v. Locals true v.0 v.1.0 v.1.1.0),
  P,
  (λ v u. (u.1.0, u.1.1.0)),
  (λ v r. refl),
  (λ v. refl),
  ((λ a v. Declares static a), P0, (λ a v u x. u), (λ a v r. e _), (λ a v. refl), i),
)
external_kept first parts static z P0 P e i j c.Void at =
    ((λ v. Defined static None v.1.1.0 v.1.1.1.1.0), P0, (λ v u. (u.1.1.0, u.1.1.1.1.0)), (λ v r. e _), (λ v. refl), j)
external_kept first parts static z P0 P e i j t at = type_kept (s.TopType first parts at ∷ z) P (static, P0, e, i, j) t at
