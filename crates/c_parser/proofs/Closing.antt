-- What the frames say can be closed to something that derives.
use Rattle.std.proofs.Common.{◌≡◌, Bool, true, false, List, [], ◌∷◌, Option, Some, None, refl, ap, sym, ◌∙◌}
use Rattle.c_grammar.specs.declared.class.Class.{Class}
use Rattle.c_grammar.specs.declared.class.Class.TheVariants as c
use Rattle.c_grammar.specs.declared.syntax.Production.TheVariants as p
use Rattle.c_grammar.specs.Expressions.{IntBase, NumberType, OfBase, Expression, One, Assignment, To, Value, Conditional, Choose, Only, Binary, Single, Both, Unary, Prefixed, StepTo, CastTo, CastVoid, Place, CallNone, CallWith, Number, Within, Target, Variable, Cell, Round, Last, Argument, Given, Written, OneText, type_tokens, expression_tokens, assignment_tokens, conditional_tokens, binary_tokens, unary_tokens, target_tokens, argument_tokens, is_lone, FitsExpression, FitsAssignment, FitsConditional, FitsBinary, FitsUnary, FitsTarget, FitsArgument}
use Rattle.c_grammar.specs.Statements.{NoSize, Declared, Locals, NameLabel, Labelled, Unlabelled, Simple}
use Rattle.c_grammar.specs.Files.{Declares, Top, OfEnum, OfDeclaration, OfFunction, enumeration_tokens, declaration_tokens, function_tokens, file_tokens, FitsFile}
use Rattle.c_parse_step.specs.declared.frame.Full.TheVariants as full
use Rattle.c_parse_step.specs.declared.frame.Found.TheVariants.{Lone, Whole}
use Rattle.c_parse_step.specs.declared.frame.Frame.TheVariants as s
use Rattle.c_parse_step.specs.Starts.{Frames}
use Rattle.c_parser.proofs.Wants.{Got, Node, Of, GotValue, got_tokens, FitsGot, is_got_open, wants_tokens, leasts, leasts_fit}
use Rattle.c_parser.proofs.Fronts.{Front, cast_tokens, IsFile, UnaryNext, TargetNext, BinaryNext, ConditionalNext, AssignmentNext, ExpressionNext, ArgumentNext, ValueNext, Ready}
use Rattle.c_parser.proofs.Keeps.{Loose, loose_both, loose_single, both_fits, lone_expression, one_more}

-- the front can be closed to something that derives
abbrev pub Closed : Front → Type 0
Closed P = (file : List Top) × (more : List Class) × FitsFile file × (file_tokens file (c.End ∷ []) ≡ P more)

along : (P Q : Front) → ((r : List Class) → Q r ≡ P r) → Closed P → Closed Q
along P Q e k = (k.0, k.1, k.2, k.3 ∙ sym (e k.1))

file_closed : (P : Front) → IsFile P → Closed P
file_closed P i = (i.0, c.End ∷ [], i.1, sym (i.2 (c.End ∷ [])))

-- a bracket closes round a target, or round what is none
bracket_closed : (x : Expression) (b : Bool) → is_lone x ≡ b → (P P0 : Front) → FitsExpression x → ((r : List Class) → P r ≡ P0 (c.Open ∷ r))
    → (is_lone x ≡ false → Closed (λ r. P0 (unary_tokens (Within x) r))) →
    ((z : Target) → FitsTarget z → Closed (λ r. P0 (target_tokens (Round z) r))) → Closed (λ r. P (expression_tokens x r))
bracket_closed x false h P P0 w e f g = let k = f h in (k.0, c.Close ∷ k.1, k.2, k.3 ∙ sym (e (expression_tokens x (c.Close ∷ k.1))))
bracket_closed x true h P P0 w e f g =
    let z = lone_expression x w h in
    let k = g z.0 z.1 in (
      k.0,
      c.Close ∷ k.1,
      k.2,
      k.3 ∙ ap (λ (n : Expression). P0 (c.Open ∷ expression_tokens n (c.Close ∷ k.1))) (sym z.2) ∙
          sym (e (expression_tokens x (c.Close ∷ k.1))),
    )

mutual
  unary_closed : (zs : Frames) (P : Front) → UnaryNext zs P → (u : Unary) → FitsUnary u → Closed (λ r. P (unary_tokens u r))
  unary_closed (s.Post f ∷ zs) P i u w = unary_closed zs P i u w
  unary_closed (s.Prefix f mark next ∷ zs) P i u w = along _ _ (λ r. i.3 (unary_tokens u r)) (unary_closed zs i.1 i.4 (Prefixed i.0 u) (i.2, w))
  unary_closed (s.Cast f parts next ∷ zs) P (Some n, P0, q, i) u w = along _ _ (λ r. q (unary_tokens u r)) (unary_closed zs P0 i (CastTo n u) w)
  unary_closed (s.Cast f parts next ∷ zs) P (None, P0, q, i) u w = along _ _ (λ r. q (unary_tokens u r)) (unary_closed zs P0 i (CastVoid u) w)
  unary_closed (s.Operand f ∷ zs) P i u w = binary_closed zs P i (Single u) w (loose_single zs P i u)
  unary_closed _ P i u w = absurd i

  target_closed : (zs : Frames) (P : Front) → TargetNext zs P → (x : Target) → FitsTarget x → Closed (λ r. P (target_tokens x r))
  target_closed (s.Post f ∷ zs) P i x w = unary_closed zs P i (Place x) w
  target_closed (s.Stepped f mark ∷ zs) P i x w = along _ _ (λ r. i.1 (target_tokens x r)) (unary_closed zs i.0 i.2 (StepTo x) w)
  target_closed (s.Enclosed f bracket ∷ zs) P i x w = let k = target_closed zs i.0 i.2 (Round x) w in
      (k.0, c.Close ∷ k.1, k.2, k.3 ∙ sym (i.1 (target_tokens x (c.Close ∷ k.1))))
  target_closed _ P i x w = absurd i

  binary_closed : (zs : Frames) (P : Front) → BinaryNext zs P → (b : Binary) → FitsBinary b → Loose zs b → Closed (λ r. P (binary_tokens b r))
  binary_closed (s.Join f left mark next l ∷ zs) P i b w k =
      along _ _ (λ r. i.7 (binary_tokens b r)) (binary_closed zs i.2 i.8 (Both i.0 i.1 b) (both_fits i.0 b i.1 l i.3 w i.4 i.5 i.6 k)
      (loose_both zs i.0 b i.1 l i.4 i.9))
  binary_closed (s.Choice f ∷ zs) P i b w k = conditional_closed zs P i (Only b) w
  binary_closed _ P i b w k = absurd i

  conditional_closed : (zs : Frames) (P : Front) → ConditionalNext zs P → (d : Conditional) → FitsConditional d → Closed (λ r. P (conditional_tokens d r))
  conditional_closed (s.Assigns f ∷ zs) P i d w = assignment_closed zs P i (Value d) w
  conditional_closed (s.ChoiceElse f parts next ∷ zs) P i d w = along _ _ (λ r. i.5 (conditional_tokens d r))
      (conditional_closed zs i.2 i.6 (Choose i.0 i.1 d) (i.3, i.4, w))
  conditional_closed (s.Whole full.Conditional start ∷ zs) P i d w = value_closed zs (Of full.Conditional) P i d w
  conditional_closed _ P i d w = absurd i

  assignment_closed : (zs : Frames) (P : Front) → AssignmentNext zs P → (a : Assignment) → FitsAssignment a → Closed (λ r. P (assignment_tokens a r))
  assignment_closed (s.AssignsTo f parts next ∷ zs) P i a w = along _ _ (λ r. i.5 (assignment_tokens a r))
      (assignment_closed zs i.2 i.6 (To i.0 i.1 a) (i.3, i.4, w))
  assignment_closed (s.Commas f z [] ∷ zs) P i a w = expression_closed zs P i (One a) w
  assignment_closed (s.Commas f z (y ∷ parts) ∷ zs) P i a w = along _ _ (λ r. i.3 (One a) r) (expression_closed zs i.1 i.4 (i.0 (One a)) (i.2 (One a) w).0)
  assignment_closed (s.ArgumentSeen f ∷ zs) P i a w = argument_closed zs P i (Given a) w
  assignment_closed (s.Whole full.Assignment start ∷ zs) P i a w = value_closed zs (Of full.Assignment) P i a w
  assignment_closed _ P i a w = absurd i

  expression_closed : (zs : Frames) (P : Front) → ExpressionNext zs P → (x : Expression) → FitsExpression x → Closed (λ r. P (expression_tokens x r))
  expression_closed (s.Indexed f parts next ∷ zs) P i x w = let k = target_closed zs i.0 i.2 (Cell x) w in
      (k.0, c.CloseIndex ∷ k.1, k.2, k.3 ∙ sym (i.1 (expression_tokens x (c.CloseIndex ∷ k.1))))
  expression_closed (s.Bracketed f bracket next ∷ zs) P i x w = bracket_closed x (is_lone x) refl P i.0 w i.1
      (λ h. unary_closed zs i.0 i.2 (Within x) (h, w)) (λ z v. target_closed zs i.0 i.3 (Round z) v)
  expression_closed (s.ChoiceThen f test question next ∷ zs) P i x w = let k =
      conditional_closed zs i.1 i.4 (Choose i.0 x (Only (Single Number)))
      (i.2, w, tt) in (k.0, c.Colon ∷ c.Number ∷ k.1, k.2, k.3 ∙ sym (i.3 (expression_tokens x (c.Colon ∷ c.Number ∷ k.1))))
  expression_closed (s.Whole full.Expression start ∷ zs) P i x w = value_closed zs (Of full.Expression) P i x w
  expression_closed _ P i x w = absurd i

  argument_closed : (zs : Frames) (P : Front) → ArgumentNext zs P → (x : Argument) → FitsArgument x → Closed (λ r. P (argument_tokens x r))
  argument_closed (s.Arguments f parts ∷ zs) P i x w = let k = unary_closed zs i.1 i.4 (CallWith (i.0 (Last x))) (i.2 (Last x) w) in
      (k.0, c.Close ∷ k.1, k.2, k.3 ∙ sym (i.3 (Last x) (c.Close ∷ k.1)))
  argument_closed _ P i x w = absurd i

  value_closed : (zs : Frames) (x : Got) (P : Front) → ValueNext zs x P → (a : GotValue x) → FitsGot x a → Closed (λ r. P (got_tokens x a r))
  value_closed (s.Rest form ∷ zs) x P i a w =
      let k = value_closed zs (Node form.rule) i.1 i.5 (i.0 a (leasts form.todo)) (i.2 a (leasts form.todo) w (leasts_fit (is_got_open x a) form.todo)) in
      (k.0, wants_tokens form.todo (leasts form.todo) k.1, k.2, k.3 ∙ sym (i.3 a (leasts form.todo) k.1))
  value_closed (s.CastType f bracket ∷ zs) (Node p.NumberType) P i a w =
      let k = unary_closed zs i.0 i.2 (CastTo a Number) tt in (k.0, c.Close ∷ c.Number ∷ k.1, k.2, k.3 ∙ sym (i.1 (type_tokens a (c.Close ∷ c.Number ∷ k.1))))
  value_closed (s.TopType first parts start ∷ zs) (Node p.NumberType) P i a w =
      let k = value_closed zs (Node p.Declaration) i.1 i.3 (Declares i.0 (Locals false a (Declared NoSize None) [])) ((tt, tt), tt) in
      (k.0, c.Name ∷ c.Semicolon ∷ k.1, k.2, k.3 ∙ sym (i.2 (type_tokens a (c.Name ∷ c.Semicolon ∷ k.1))))
  value_closed (s.Tops parts ∷ []) (Node p.Enum) P i a w = file_closed _ (one_more P (λ r. P (enumeration_tokens a r)) i (OfEnum a) w (λ r. refl))
  value_closed (s.Tops parts ∷ []) (Node p.Declaration) P i a w = file_closed _ (one_more P (λ r. P (declaration_tokens a r)) i (OfDeclaration a) w (λ r. refl))
  value_closed (s.Tops parts ∷ []) (Node p.Function) P i a w = file_closed _ (one_more P (λ r. P (function_tokens a r)) i (OfFunction a) w (λ r. refl))
  value_closed _ x P i a w = absurd i

type_closed : (zs : Frames) (P P0 : Front) (k : Option NumberType) → ((r : List Class) → P r ≡ P0 (c.Open ∷ cast_tokens k r)) → UnaryNext zs P0 → Closed P
type_closed zs P P0 (Some n) e i = let k = unary_closed zs P0 i (CastTo n Number) tt in
    (k.0, c.Close ∷ c.Number ∷ k.1, k.2, k.3 ∙ sym (e (c.Close ∷ c.Number ∷ k.1)))
type_closed zs P P0 None e i = let k = unary_closed zs P0 i (CastVoid Number) tt in
    (k.0, c.Close ∷ c.Number ∷ k.1, k.2, k.3 ∙ sym (e (c.Close ∷ c.Number ∷ k.1)))

-- What the frames say can be closed to a file that derives.
pub closes : (zs : Frames) (P : Front) → Ready zs P → Closed P
closes (s.WantUnary ∷ zs) P i = let k = unary_closed zs P i Number tt in (k.0, c.Number ∷ k.1, k.2, k.3)
closes (s.WantTarget ∷ zs) P i = let k = target_closed zs P i Variable tt in (k.0, c.Name ∷ k.1, k.2, k.3)
closes (s.WantArgument ∷ zs) P i = let k = argument_closed zs P i (Written OneText) tt in (k.0, c.Text ∷ k.1, k.2, k.3)
closes (s.Opened f bracket next ∷ zs) P i = let k = target_closed zs i.0 i.3 (Round Variable) tt in
    (k.0, c.Name ∷ c.Close ∷ k.1, k.2, k.3 ∙ sym (i.1 (c.Name ∷ c.Close ∷ k.1)))
closes (s.VoidSeen f bracket word ∷ zs) P i = type_closed zs P i.0 None i.1 i.2
closes (s.Named f name ∷ zs) P i = along _ _ i.1 (target_closed zs i.0 i.3 Variable tt)
closes (s.TargetNamed f name ∷ zs) P i = along _ _ i.1 (target_closed zs i.0 i.2 Variable tt)
closes (s.Called f name bracket ∷ zs) P i = let k = unary_closed zs i.0 i.2 CallNone tt in (k.0, c.Close ∷ k.1, k.2, k.3 ∙ sym (i.1 (c.Close ∷ k.1)))
closes (s.Texts f parts ∷ zs) P i = along _ _ i.2 (argument_closed zs i.1 i.3 (Written i.0) tt)
closes (s.Done (Lone v) ∷ zs) P i = along _ _ i.3 (target_closed zs i.1 i.4 i.0 i.2)
closes (s.Done (Whole v) ∷ zs) P i = along _ _ i.4 (unary_closed zs i.1 i.5 i.0 i.2)
closes (s.Rest form ∷ zs) P i =
    let k = value_closed zs (Node form.rule) i.1 i.5 (i.0 (leasts form.todo)) (i.2 (leasts form.todo) (leasts_fit false form.todo)) in
    (k.0, wants_tokens form.todo (leasts form.todo) k.1, k.2, k.3 ∙ sym (i.3 (leasts form.todo) k.1))
closes (s.LabelOrName name mark form ∷ zs) P i =
    let k = value_closed (s.Rest form ∷ zs) (Node p.Statement) i.0 i.2 (Labelled NameLabel (Unlabelled (Simple None))) (tt, tt) in
    (k.0, c.Colon ∷ c.Semicolon ∷ k.1, k.2, k.3 ∙ sym (i.1 (c.Colon ∷ c.Semicolon ∷ k.1)))
closes (s.External first parts ∷ zs) P i =
    let k = value_closed zs (Node p.Declaration) i.1 i.3 (Declares i.0 (Locals false (OfBase IntBase) (Declared NoSize None) [])) ((tt, tt), tt) in
    (k.0, c.Int ∷ c.Name ∷ c.Semicolon ∷ k.1, k.2, k.3 ∙ sym (i.2 (c.Int ∷ c.Name ∷ c.Semicolon ∷ k.1)))
closes (s.TopName first parts start type name mark ∷ zs) P i =
    let k = value_closed zs (Node p.Declaration) i.2 i.4 (Declares i.0 (Locals false i.1 (Declared NoSize None) [])) ((tt, tt), tt) in
    (k.0, c.Semicolon ∷ k.1, k.2, k.3 ∙ sym (i.3 (c.Semicolon ∷ k.1)))
closes (s.Tops parts ∷ []) P i = file_closed P i
closes (s.Accepted v ∷ []) P i = (i.0, [], i.1, sym (i.2 []))
closes _ P i = absurd i
