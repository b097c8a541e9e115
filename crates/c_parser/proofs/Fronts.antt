-- What the frames say of the tokens read so far: they are the front of a derivable list, cut where the frames stand.
use Rattle.std.specs.Prelude.{◌≡◌, ◌<◌, ◌≤◌, ℕ, Bool, true, false, List, [], ◌∷◌, Option, Some, None}
use Rattle.c_grammar.specs.declared.class.Class.{Class}
use Rattle.c_grammar.specs.declared.class.Class.TheVariants as c
use Rattle.c_grammar.specs.declared.syntax.Production.{Production}
use Rattle.c_grammar.specs.declared.syntax.Production.TheVariants as p
use Rattle.c_grammar.specs.Classes.{level, is_assign, is_prefix}
use Rattle.c_grammar.specs.Expressions.{NumberType, Expression, Binary, Unary, Target, Arguments, Texts, type_tokens, expression_tokens, binary_tokens, unary_tokens, target_tokens, arguments_tokens, texts_tokens, is_lone_unary, is_lone, root, FitsExpression, FitsBinary, FitsUnary, FitsTarget, FitsArguments}
use Rattle.c_grammar.specs.Statements.{word_tokens}
use Rattle.c_grammar.specs.Files.{Top, file_tokens, FitsFile}
use Rattle.c_parse_step.specs.declared.form.Want.{Want}
use Rattle.c_parse_step.specs.declared.frame.Full.TheVariants as f
use Rattle.c_parse_step.specs.declared.frame.Found.TheVariants.{Lone, Whole}
use Rattle.c_parse_step.specs.declared.frame.Frame.TheVariants as s
use Rattle.c_parse_step.specs.Starts.{Frames, Next, Fails, Takes}
use Rattle.c_parser.proofs.Wants.{NodeOf, node_tokens, FitsNode, is_node_open, Got, Node, Of, GotValue, got_tokens, FitsGot, is_got_open, WantValues, wants_tokens, FitsWants, ends}

-- the tokens so far, and then these
abbrev pub Front : Type 0
Front = List Class → List Class

-- the tokens of a type of a cast, and then these; without one, those of `void`
abbrev pub cast_tokens : Option NumberType → List Class → List Class
cast_tokens (Some n) r = type_tokens n r
cast_tokens None r = c.Void ∷ r

-- a pending mark below binds less tightly
abbrev pub Under : Frames → ℕ → Type 0
Under (s.Join first left mark next k ∷ z) l = k < l
Under _ l = Unit {0}

-- the front of a file is whole
abbrev pub IsFile : Front → Type 0
IsFile P = (done : List Top) × FitsFile done × ((r : List Class) → P r ≡ file_tokens done r)

-- Values of what is left make a node of this rule, in front of which stands what the frames below say.
abbrev pub Awaits : (Front → Type 0) → Bool → List Want → Production → Front → Type 0
Awaits below d l rule Q =
    (g : WantValues l → NodeOf rule) × (P0 : Front) × ((v : WantValues l) → FitsWants d l v → FitsNode rule (g v)) ×
    ((v : WantValues l) (r : List Class) → Q (wants_tokens l v r) ≡ P0 (node_tokens rule (g v) r))
    × ((v : WantValues l) → is_node_open rule (g v) ≡ ends d l v) × below P0

abbrev mutual
  -- a unary expression comes next
  pub UnaryNext : Frames → Front → Type 0
  UnaryNext (s.Post first ∷ z) P = UnaryNext z P
  UnaryNext (s.Prefix first mark next ∷ z) P = (m : Class) × (P0 : Front) × (is_prefix m ≡ true) × ((r : List Class) → P r ≡ P0 (m ∷ r)) × UnaryNext z P0
  UnaryNext (s.Cast first parts next ∷ z) P = (k : Option NumberType) × (P0 : Front) ×
      ((r : List Class) → P r ≡ P0 (c.Open ∷ cast_tokens k (c.Close ∷ r))) × UnaryNext z P0
  UnaryNext (s.Operand first ∷ z) P = BinaryNext z P
  UnaryNext _ P = ⊥

  -- a target comes next
  pub TargetNext : Frames → Front → Type 0
  TargetNext (s.Post first ∷ z) P = UnaryNext z P
  TargetNext (s.Stepped first mark ∷ z) P = (P0 : Front) × ((r : List Class) → P r ≡ P0 (c.Step ∷ r)) × UnaryNext z P0
  TargetNext (s.Enclosed first bracket ∷ z) P = (P0 : Front) × ((r : List Class) → P r ≡ P0 (c.Open ∷ r)) × TargetNext z P0
  TargetNext _ P = ⊥

  -- a binary expression comes next, of which a unary one may be the first operand
  pub BinaryNext : Frames → Front → Type 0
  BinaryNext (s.Join first left mark next l ∷ z) P =
      (a : Binary) × (m : Class) × (P0 : Front) × FitsBinary a × (level m ≡ l) × (0 < l) × (l ≤ root a) ×
      ((r : List Class) → P r ≡ P0 (binary_tokens a (m ∷ r))) × BinaryNext z P0 × Under z l
  BinaryNext (s.Choice first ∷ z) P = ConditionalNext z P
  BinaryNext _ P = ⊥

  -- a conditional comes next
  pub ConditionalNext : Frames → Front → Type 0
  ConditionalNext (s.Assigns first ∷ z) P = AssignmentNext z P
  ConditionalNext (s.ChoiceElse first parts next ∷ z) P =
      (b : Binary) × (e : Expression) × (P0 : Front) × FitsBinary b × FitsExpression e ×
      ((r : List Class) → P r ≡ P0 (binary_tokens b (c.Question ∷ expression_tokens e (c.Colon ∷ r)))) × ConditionalNext z P0
  ConditionalNext (s.Whole f.Conditional start ∷ z) P = ValueNext z (Of f.Conditional) P
  ConditionalNext _ P = ⊥

  -- an assignment comes next
  pub AssignmentNext : Frames → Front → Type 0
  AssignmentNext (s.AssignsTo first parts next ∷ z) P = (x : Target) × (m : Class) × (P0 : Front) × FitsTarget x × (is_assign m ≡ true) ×
      ((r : List Class) → P r ≡ P0 (target_tokens x (m ∷ r))) × AssignmentNext z P0
  AssignmentNext (s.Commas first at [] ∷ z) P = ExpressionNext z P
  AssignmentNext (s.Commas first at (x ∷ parts) ∷ z) P =
      (g : Expression → Expression) × (P0 : Front) × ((e : Expression) → FitsExpression e → FitsExpression (g e) × (is_lone (g e) ≡ false)) ×
      ((e : Expression) (r : List Class) → P (expression_tokens e r) ≡ P0 (expression_tokens (g e) r)) × ExpressionNext z P0
  AssignmentNext (s.ArgumentSeen first ∷ z) P = ArgumentNext z P
  AssignmentNext (s.Whole f.Assignment start ∷ z) P = ValueNext z (Of f.Assignment) P
  AssignmentNext _ P = ⊥

  -- an expression comes next
  pub ExpressionNext : Frames → Front → Type 0
  ExpressionNext (s.Indexed first parts next ∷ z) P = (P0 : Front) × ((r : List Class) → P r ≡ P0 (c.Name ∷ c.OpenIndex ∷ r)) × TargetNext z P0
  ExpressionNext (s.Bracketed first bracket next ∷ z) P = (P0 : Front) × ((r : List Class) → P r ≡ P0 (c.Open ∷ r)) × UnaryNext z P0 × TargetNext z P0
  ExpressionNext (s.ChoiceThen first test question next ∷ z) P = (b : Binary) × (P0 : Front) × FitsBinary b ×
      ((r : List Class) → P r ≡ P0 (binary_tokens b (c.Question ∷ r))) × ConditionalNext z P0
  ExpressionNext (s.Whole f.Expression start ∷ z) P = ValueNext z (Of f.Expression) P
  ExpressionNext _ P = ⊥

  -- an argument comes next
  pub ArgumentNext : Frames → Front → Type 0
  ArgumentNext (s.Arguments first parts ∷ z) P =
      (g : Arguments → Arguments) × (P0 : Front) × ((xs : Arguments) → FitsArguments xs → FitsArguments (g xs)) ×
      ((xs : Arguments) (r : List Class) → P (arguments_tokens xs r) ≡ P0 (c.Name ∷ c.Open ∷ arguments_tokens (g xs) r)) × UnaryNext z P0
  ArgumentNext _ P = ⊥

  -- a value of this kind comes next
  pub ValueNext : Frames → Got → Front → Type 0
  ValueNext (s.Rest form ∷ z) x P =
      (g : GotValue x → WantValues form.todo → NodeOf form.rule) × (P0 : Front) ×
      ((a : GotValue x) (v : WantValues form.todo) → FitsGot x a → FitsWants (is_got_open x a) form.todo v → FitsNode form.rule (g a v))
      × ((a : GotValue x) (v : WantValues form.todo) (r : List Class) → P (got_tokens x a (wants_tokens form.todo v r)) ≡ P0 (node_tokens form.rule (g a v) r))
      × ((a : GotValue x) (v : WantValues form.todo) → is_node_open form.rule (g a v) ≡ ends (is_got_open x a) form.todo v) × ValueNext z (Node form.rule) P0
  ValueNext (s.CastType first bracket ∷ z) (Node p.NumberType) P = (P0 : Front) × ((r : List Class) → P r ≡ P0 (c.Open ∷ r)) × UnaryNext z P0
  ValueNext (s.TopType first parts start ∷ z) (Node p.NumberType) P =
      (static : Bool) × (P0 : Front) × ((r : List Class) → P r ≡ P0 (word_tokens c.Static static r)) × ValueNext z (Node p.Declaration) P0 ×
      ValueNext z (Node p.Function) P0
  ValueNext (s.Tops parts ∷ []) (Node p.Enum) P = IsFile P
  ValueNext (s.Tops parts ∷ []) (Node p.Declaration) P = IsFile P
  ValueNext (s.Tops parts ∷ []) (Node p.Function) P = IsFile P
  ValueNext _ _ P = ⊥

-- what the frames say in front of the next token
abbrev pub Ready : Frames → Front → Type 0
Ready (s.WantUnary ∷ z) P = UnaryNext z P
Ready (s.WantTarget ∷ z) P = TargetNext z P
Ready (s.WantArgument ∷ z) P = ArgumentNext z P
Ready (s.Opened first bracket next ∷ z) P = (P0 : Front) × ((r : List Class) → P r ≡ P0 (c.Open ∷ r)) × UnaryNext z P0 × TargetNext z P0
Ready (s.VoidSeen first bracket word ∷ z) P = (P0 : Front) × ((r : List Class) → P r ≡ P0 (c.Open ∷ c.Void ∷ r)) × UnaryNext z P0
Ready (s.Named first name ∷ z) P = (P0 : Front) × ((r : List Class) → P r ≡ P0 (c.Name ∷ r)) × UnaryNext z P0 × TargetNext z P0
Ready (s.TargetNamed first name ∷ z) P = (P0 : Front) × ((r : List Class) → P r ≡ P0 (c.Name ∷ r)) × TargetNext z P0
Ready (s.Called first name bracket ∷ z) P = (P0 : Front) × ((r : List Class) → P r ≡ P0 (c.Name ∷ c.Open ∷ r)) × UnaryNext z P0
Ready (s.Texts first parts ∷ z) P = (n : Texts) × (P0 : Front) × ((r : List Class) → P r ≡ P0 (texts_tokens n r)) × ArgumentNext z P0
Ready (s.Done (Lone v) ∷ z) P = (x : Target) × (P0 : Front) × FitsTarget x × ((r : List Class) → P r ≡ P0 (target_tokens x r)) × TargetNext z P0
Ready (s.Done (Whole v) ∷ z) P = (u : Unary) × (P0 : Front) × FitsUnary u × (is_lone_unary u ≡ false) ×
    ((r : List Class) → P r ≡ P0 (unary_tokens u r)) × UnaryNext z P0
Ready (s.Rest form ∷ z) P = Awaits (ValueNext z (Node form.rule)) false form.todo form.rule P
Ready (s.LabelOrName name mark form ∷ z) P = (P0 : Front) × ((r : List Class) → P r ≡ P0 (c.Name ∷ r)) × ValueNext (s.Rest form ∷ z) (Node p.Statement) P0
Ready (s.External first parts ∷ z) P =
    (static : Bool) × (P0 : Front) × ((r : List Class) → P r ≡ P0 (word_tokens c.Static static r)) × ValueNext z (Node p.Declaration) P0 ×
    ValueNext z (Node p.Function) P0
Ready (s.TopName first parts start type name mark ∷ z) P =
    (static : Bool) × (n : NumberType) × (P0 : Front) × ((r : List Class) → P r ≡ P0 (word_tokens c.Static static (type_tokens n (c.Name ∷ r)))) ×
    ValueNext z (Node p.Declaration) P0 × ValueNext z (Node p.Function) P0
Ready (s.Tops parts ∷ []) P = IsFile P
Ready (s.Accepted v ∷ []) P = (file : List Top) × FitsFile file × ((r : List Class) → P r ≡ file_tokens file (c.End ∷ r))
Ready _ P = ⊥

-- what a token leaves says this of the tokens with it
abbrev pub Goes : Next → Front → Type 0
Goes Fails P = Unit {0}
Goes (Takes l z) P = Ready z P
