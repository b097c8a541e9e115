-- Each token that is taken keeps what the frames say.
use Rattle.std.proofs.Common.{◌≡◌, ◌<◌, ◌≤◌, ℕ, Bool, true, false, nat_lt, List, [], ◌∷◌, ◌++◌, Option, Some, None, refl, arith, ap, ◌∙◌}
use Rattle.std.proofs.lemmas.Bool.{ltb-true, ltb-false}
use Rattle.c_grammar.specs.declared.class.Class.{Class}
use Rattle.c_grammar.specs.declared.class.Class.TheVariants as c
use Rattle.c_grammar.specs.declared.syntax.Syntax.{Syntax}
use Rattle.c_grammar.specs.declared.syntax.Production.TheVariants as p
use Rattle.c_grammar.specs.Classes.{level, is_assign}
use Rattle.c_grammar.specs.Expressions.{NumberType, Expression, One, More, Assignment, To, Value, Conditional, Choose, Only, Binary, Single, Both, Unary, Prefixed, StepTo, CastTo, CastVoid, Place, StepAfter, CallNone, CallWith, Within, Target, Variable, Cell, Round, Last, Then, Argument, Given, Written, Texts, OneText, MoreTexts, type_tokens, expression_tokens, assignment_tokens, conditional_tokens, binary_tokens, unary_tokens, target_tokens, arguments_tokens, argument_tokens, texts_tokens, is_lone_unary, is_lone_binary, is_lone_conditional, is_lone_assignment, is_lone, root, FitsExpression, FitsAssignment, FitsConditional, FitsBinary, FitsUnary, FitsTarget, FitsArgument}
use Rattle.c_grammar.specs.Statements.{Declared, Locals, Simple, word_tokens}
use Rattle.c_grammar.specs.Files.{Enumerated, Declares, Defined, Top, Line, OfEnum, OfDeclaration, OfFunction, top_tokens, file_tokens, FitsTop, FitsFile}
use Rattle.c_parse_step.specs.declared.form.Form.{Form}
use Rattle.c_parse_step.specs.declared.form.Want.TheVariants as want
use Rattle.c_parse_step.specs.declared.form.Lead.TheVariants as lead
use Rattle.c_parse_step.specs.declared.frame.Full.TheVariants as full
use Rattle.c_parse_step.specs.declared.frame.Found.{Found}
use Rattle.c_parse_step.specs.declared.frame.Found.TheVariants.{Lone, Whole}
use Rattle.c_parse_step.specs.declared.frame.Frame.TheVariants as s
use Rattle.c_parse_step.specs.Nodes.{lift, commas}
use Rattle.c_parse_step.specs.Tests.{is_step, is_question, is_colon, is_comma, is_open, is_close, is_open_index, is_close_index, is_text, same}
use Rattle.c_parse_step.specs.Starts.{Frames, rest, at_opened, at_type_end, at_external, at_top}
use Rattle.c_parse_step.specs.Machine.{give, at_index, at_named, declared, step}
use Rattle.c_parser.proofs.Tokens.{step_is, question_is, colon_is, comma_is, open_is, close_is, open_index_is, close_index_is, text_is, same_is, level_below}
use Rattle.c_parser.proofs.Wants.{Got, Node, Of, GotValue, got_tokens, FitsGot, is_got_open, wants_tokens}
use Rattle.c_parser.proofs.Fronts.{Front, cast_tokens, Under, IsFile, UnaryNext, TargetNext, BinaryNext, ConditionalNext, AssignmentNext, ExpressionNext, ArgumentNext, ValueNext, Ready, Goes}
use Rattle.c_parser.proofs.Begins.{branch, put, Calm, unary_kept, target_kept, argument_kept, type_kept, unlabelled, named_label, feeds, external_kept}

-- the token behind is this one
seen : (Q F : Front) → ((r : List Class) → Q r ≡ F r) → (t d : Class) → t ≡ d → (r : List Class) → Q (t ∷ r) ≡ F (d ∷ r)
seen Q F e t d h r = e (t ∷ r) ∙ ap (λ (x : Class). F (x ∷ r)) h

abbrev Looks : Found → Bool → Type 0
Looks (Lone v) b = b ≡ true
Looks (Whole v) b = b ≡ false

looks_lift : (v : Found) (rule : _) (first at : ℕ) (b : Bool) → Looks v b → Looks (lift rule first at v) b
looks_lift (Lone v) rule first at b h = h
looks_lift (Whole v) rule first at b h = h

looks_commas : (v : Found) (first start at : ℕ) (b : Bool) → Looks v b → Looks (commas first start at [] v) b
looks_commas (Lone v) first start at b h = h
looks_commas (Whole v) first start at b h = h

lone_unary : (u : Unary) → FitsUnary u → is_lone_unary u ≡ true → (x : Target) × FitsTarget x × (u ≡ Place x)
lone_unary (Place x) w h = (x, w, refl)
lone_unary _ w h = absurd cc

lone_conditional : (d : Conditional) → FitsConditional d → is_lone_conditional d ≡ true → (x : Target) × FitsTarget x × (d ≡ Only (Single (Place x)))
lone_conditional (Only (Single u)) w h = let y = lone_unary u w h in (y.0, y.1, ap (λ z. Only (Single z)) y.2)
lone_conditional (Only (Both a m b)) w h = absurd cc
lone_conditional (Choose b e d) w h = absurd cc

-- an expression that is a target alone
pub lone_expression : (e : Expression) → FitsExpression e → is_lone e ≡ true → (x : Target) × FitsTarget x × (e ≡ One (Value (Only (Single (Place x)))))
lone_expression (One (Value d)) w h = let y = lone_conditional d w h in (y.0, y.1, ap (λ z. One (Value z)) y.2)
lone_expression (One (To t m a)) w h = absurd cc
lone_expression (More a e) w h = absurd cc

-- pending marks bind less tightly than the operand's loosest
abbrev pub Loose : Frames → Binary → Type 0
Loose (s.Join f left mark next l ∷ zs) b = l < root b
Loose _ b = Unit {0}

-- two operands and a mark that binds more tightly than the marks below
pub loose_both : (zs : Frames) (a b : Binary) (m : Class) (l : ℕ) → level m ≡ l → Under zs l → Loose zs (Both a m b)
loose_both (s.Join f left mark next k ∷ zs) a b m l e h = omega arith
loose_both _ a b m l e h = tt

-- a unary expression binds more tightly than each mark
pub loose_single : (zs : Frames) (P : Front) → BinaryNext zs P → (u : Unary) → Loose zs (Single u)
loose_single (s.Join f left mark next l ∷ zs) P i u = let h = level_below i.1 in let e : level i.1 ≡ l = i.4 in omega arith
loose_single [] P i u = absurd i
loose_single (s.Choice f ∷ zs) P i u = tt
loose_single (_ ∷ zs) P i u = absurd i

single_cap : (t : Class) (u : Unary) → level t ≤ root (Single u)
single_cap t u = let h = level_below t in omega arith

stepped : (zs : Frames) (P Q : Front) → UnaryNext zs P → (u : Unary) → FitsUnary u → ((r : List Class) → Q r ≡ P (unary_tokens u r)) →
    is_lone_unary u ≡ true → (w : Syntax) (t : Class) → is_step t ≡ true → Ready (s.Done (Whole w) ∷ zs) (λ r. Q (t ∷ r))
stepped zs P Q i u f e k w t h =
    let y = lone_unary u f k in (
      StepAfter y.0,
      P,
      y.1,
      refl,
      (λ r. seen Q (λ q. P (unary_tokens u q)) e t c.Step (step_is t h) r ∙
          ap (λ (z : Unary). P (unary_tokens z (c.Step ∷ r))) y.2),
      i,
    )

texts_more : (n : Texts) (r : List Class) → texts_tokens n (c.Text ∷ r) ≡ texts_tokens (MoreTexts n) r
texts_more OneText r = refl
texts_more (MoreTexts n) r = ap (λ (l : List Class). c.Text ∷ l) (texts_more n r)

positive : (l m : ℕ) → l < m → 0 < m
positive l m h = omega arith

-- two operands that fit make a binary expression that fits
pub both_fits : (a b : Binary) (m : Class) (l : ℕ) → FitsBinary a → FitsBinary b → level m ≡ l → 0 < l → l ≤ root a → l < root b → FitsBinary (Both a m b)
both_fits a b m l w x e h i k = (w, x, omega arith, omega arith, omega arith)

cap_of : (t l m : ℕ) → t ≤ l → m ≡ l → t ≤ m
cap_of t l m h e = omega arith

opened_kept : (f : ℕ) (bracket : Syntax) (next : ℕ) (zs : Frames) (P P0 : Front) → ((r : List Class) → P r ≡ P0 (c.Open ∷ r)) → UnaryNext zs P0 →
    TargetNext zs P0 → (t : Class) (at : ℕ) → Goes (at_opened f bracket next zs t at) (λ r. P (t ∷ r))
opened_kept f bracket next zs P P0 e i j c.Char at = type_kept (s.CastType f bracket ∷ zs) P (P0, e, i) c.Char at
opened_kept f bracket next zs P P0 e i j c.Int at = type_kept (s.CastType f bracket ∷ zs) P (P0, e, i) c.Int at
opened_kept f bracket next zs P P0 e i j c.Long at = type_kept (s.CastType f bracket ∷ zs) P (P0, e, i) c.Long at
opened_kept f bracket next zs P P0 e i j c.Signed at = type_kept (s.CastType f bracket ∷ zs) P (P0, e, i) c.Signed at
opened_kept f bracket next zs P P0 e i j c.Unsigned at = type_kept (s.CastType f bracket ∷ zs) P (P0, e, i) c.Unsigned at
opened_kept f bracket next zs P P0 e i j c.Void at = (P0, (λ r. e (c.Void ∷ r)), i)
opened_kept f bracket next zs P P0 e i j t at = unary_kept (s.Operand at ∷ s.Choice at ∷ s.Assigns at ∷ s.Commas at at [] ∷ s.Bracketed f bracket
    next ∷ zs) P (P0, e, i, j) t at

type_end_kept : (f : ℕ) (bracket type : Syntax) (zs : Frames) (P P0 : Front) (k : Option NumberType) →
    ((r : List Class) → P r ≡ P0 (c.Open ∷ cast_tokens k r)) → UnaryNext zs P0 → (t : Class) (at : ℕ) →
    Goes (at_type_end f bracket type zs t at) (λ r. P (t ∷ r))
type_end_kept f bracket type zs P P0 k e i t at = branch (is_close t)
    _ _ _ (λ h. (k, P0, seen P (λ r. P0 (c.Open ∷ cast_tokens k r)) e t c.Close (close_is t h), i)) (λ h. tt)

-- ---- files

file_more : (done : List Top) (x : Top) (r : List Class) → file_tokens done (top_tokens x r) ≡ file_tokens (done ++ x ∷ []) r
file_more [] x r = refl
file_more (y ∷ done) x r = ap (top_tokens y) (file_more done x r)

fits_more : (done : List Top) (x : Top) → FitsFile done → FitsTop x → FitsFile (done ++ x ∷ [])
fits_more [] x w u = (u, tt)
fits_more (y ∷ done) x w u = (w.0, fits_more done x w.1 u)

-- a file with one more item is a file
pub one_more : (P Q : Front) → IsFile P → (x : Top) → FitsTop x → ((r : List Class) → Q r ≡ P (top_tokens x r)) → IsFile Q
one_more P Q i x w e = (i.0 ++ x ∷ [], fits_more i.0 x i.1 w, (λ r. e r ∙ i.2 (top_tokens x r) ∙ file_more i.0 x r))

top_external : (parts : List Syntax) (P : Front) → IsFile P → (t : Class) (at : ℕ) → Goes (at_external at [] (s.Tops parts ∷ []) t at) (λ r. P (t ∷ r))
top_external parts P i t at = external_kept at [] false (s.Tops parts ∷ []) P P (λ r. refl) i i t at

top_kept : (parts : List Syntax) (P : Front) → IsFile P → (t : Class) (at : ℕ) → Goes (at_top parts [] t at) (λ r. P (t ∷ r))
top_kept parts P i c.End at = (i.0, i.1, (λ r. i.2 (c.End ∷ r)))
top_kept parts P i c.Directive at = one_more P (λ r. P (c.Directive ∷ r)) i Line tt (λ r. refl)
top_kept parts P i c.Enum at = ((λ v. Enumerated v.1.0 v.1.1.0.0 v.1.1.0.1), P, (λ v u. (u.1.0, u.1.1.0)), (λ v r. refl), (λ v. refl), i)
top_kept parts P i c.Static at = (true, P, (λ r. refl), i, i)
top_kept parts P i t at = top_external parts P i t at

-- a statement that begins with a name is an expression
named_statement : (form : Form) (zs : Frames) (P : Front) → ValueNext (s.Rest form ∷ zs) (Node p.Statement) P →
    ValueNext (rest p.Plain 0 form.level [] (want.Token c.Semicolon ∷ []) ∷ s.Rest form ∷ zs) (Of full.Expression) P
named_statement form zs P i = ((λ a v. Simple (Some a)), P, (λ a v u x. u), (λ a v r. refl), (λ a v. refl), unlabelled form zs P i)

mutual
  unary_given : (zs : Frames) (P Q : Front) → UnaryNext zs P → (u : Unary) → FitsUnary u → ((r : List Class) → Q r ≡ P (unary_tokens u r)) →
      (v : Found) → Looks v (is_lone_unary u) → (t : Class) (at : ℕ) → Goes (give zs v t at) (λ r. Q (t ∷ r))
  unary_given (s.Post f ∷ zs) P Q i u w e (Lone x) k t at = branch (is_step t) _ _ _ (λ h. stepped zs P Q i u w e k x t h)
      (λ h. unary_given zs P Q i u w e (Lone x) k t at)
  unary_given (s.Post f ∷ zs) P Q i u w e (Whole x) k t at = unary_given zs P Q i u w e (Whole x) k t at
  unary_given (s.Prefix f mark next ∷ zs) P Q i u w e v k t at = unary_given zs i.1 Q i.4 (Prefixed i.0 u) (i.2, w)
      (λ r. e r ∙ i.3 (unary_tokens u r)) (Whole _) refl t at
  unary_given (s.Cast f parts next ∷ zs) P Q (Some n, P0, q, i) u w e v k t at =
      unary_given zs P0 Q i (CastTo n u) w (λ r. e r ∙ q (unary_tokens u r)) (Whole _) refl t at
  unary_given (s.Cast f parts next ∷ zs) P Q (None, P0, q, i) u w e v k t at =
      unary_given zs P0 Q i (CastVoid u) w (λ r. e r ∙ q (unary_tokens u r)) (Whole _) refl t at
  unary_given (s.Operand f ∷ zs) P Q i u w e v k t at = binary_given zs P Q i (Single u) w e (lift p.Binary f at v)
      (looks_lift v p.Binary f at (is_lone_unary u) k) t at (single_cap t u) (loose_single zs P i u)
  unary_given _ P Q i u w e v k t at = absurd i

  target_given : (zs : Frames) (P Q : Front) → TargetNext zs P → (x : Target) → FitsTarget x → ((r : List Class) → Q r ≡ P (target_tokens x r)) →
      (y : Syntax) (t : Class) (at : ℕ) → Goes (give zs (Lone y) t at) (λ r. Q (t ∷ r))
  target_given (s.Post f ∷ zs) P Q i x w e y t at = branch (is_step t) _ _ _ (λ h. stepped zs P Q i (Place x) w e refl y t h)
      (λ h. unary_given zs P Q i (Place x) w e (Lone y) refl t at)
  target_given (s.Stepped f mark ∷ zs) P Q i x w e y t at = unary_given zs i.0 Q i.2 (StepTo x) w (λ r. e r ∙ i.1 (target_tokens x r)) (Whole _) refl t at
  target_given (s.Enclosed f bracket ∷ zs) P Q i x w e y t at =
      branch (is_close t) _ _ _ (λ h. (
        Round x,
        i.0,
        w,
        (λ r. seen Q (λ q. P (target_tokens x q)) e t c.Close (close_is t h) r ∙
            i.1 (target_tokens x (c.Close ∷ r))),
        i.2,
      )) (λ h. tt)
  target_given _ P Q i x w e y t at = absurd i

  binary_given : (zs : Frames) (P Q : Front) → BinaryNext zs P → (b : Binary) → FitsBinary b → ((r : List Class) → Q r ≡ P (binary_tokens b r)) →
      (v : Found) → Looks v (is_lone_binary b) → (t : Class) (at : ℕ) → level t ≤ root b → Loose zs b → Goes (give zs v t at) (λ r. Q (t ∷ r))
  binary_given (s.Join f left mark next l ∷ zs) P Q i b w e v k t at cap loose =
      branch (nat_lt l (level t)) _ _ _
      (λ h. let lt = ltb-true l (level t) h in (b, t, P, w, refl, positive l (level t) lt, cap, (λ r. e (t ∷ r)), i, lt))
      (λ h. let le = ltb-false l (level t) h in
      binary_given zs i.2 Q i.8 (Both i.0 i.1 b) (both_fits i.0 b i.1 l i.3 w i.4 i.5 i.6 loose) (λ r. e r ∙ i.7 (binary_tokens b r)) (Whole _) refl t
      at (cap_of (level t) l (level i.1) le i.4) (loose_both zs i.0 b i.1 l i.4 i.9))
  binary_given (s.Choice f ∷ zs) P Q i b w e v k t at cap loose =
      branch (nat_lt 0 (level t)) _ _ _
      (λ h. let lt = ltb-true 0 (level t) h in (b, t, P, w, refl, lt, cap, (λ r. e (t ∷ r)), i, tt))
      (λ h. branch (is_question t) _ _ _
      (λ q. (b, P, w, seen Q (λ r. P (binary_tokens b r)) e t c.Question (question_is t q), i))
      (λ q. conditional_given zs P Q i (Only b) w e (lift p.Conditional f at v) (looks_lift v p.Conditional f at (is_lone_binary b) k) t at))
  binary_given _ P Q i b w e v k t at cap loose = absurd i

  conditional_given : (zs : Frames) (P Q : Front) → ConditionalNext zs P → (d : Conditional) → FitsConditional d →
      ((r : List Class) → Q r ≡ P (conditional_tokens d r)) → (v : Found) → Looks v (is_lone_conditional d) → (t : Class) (at : ℕ) →
      Goes (give zs v t at) (λ r. Q (t ∷ r))
  conditional_given (s.Assigns f ∷ zs) P Q i d w e (Lone x) k t at =
      branch (is_assign t) _ _ _
      (λ h. let y = lone_conditional d w k in (y.0, t, P, y.1, h, (λ r. e (t ∷ r) ∙ ap (λ (z : Conditional). P (conditional_tokens z (t ∷ r))) y.2), i))
      (λ h. assignment_given zs P Q i (Value d) w e (Lone x) k t at)
  conditional_given (s.Assigns f ∷ zs) P Q i d w e (Whole x) k t at = assignment_given zs P Q i (Value d) w e (Whole _) k t at
  conditional_given (s.ChoiceElse f parts next ∷ zs) P Q i d w e v k t at =
      conditional_given zs i.2 Q i.6 (Choose i.0 i.1 d) (i.3, i.4, w) (λ r. e r ∙ i.5 (conditional_tokens d r)) (Whole _) refl t at
  conditional_given (s.Whole full.Conditional start ∷ zs) P Q i d w e v k t at = value_given zs (Of full.Conditional) P Q i d w e _ t at (λ q. refl)
  conditional_given _ P Q i d w e v k t at = absurd i

  assignment_given : (zs : Frames) (P Q : Front) → AssignmentNext zs P → (a : Assignment) → FitsAssignment a →
      ((r : List Class) → Q r ≡ P (assignment_tokens a r)) → (v : Found) → Looks v (is_lone_assignment a) → (t : Class) (at : ℕ) →
      Goes (give zs v t at) (λ r. Q (t ∷ r))
  assignment_given (s.AssignsTo f parts next ∷ zs) P Q i a w e v k t at =
      assignment_given zs i.2 Q i.6 (To i.0 i.1 a) (i.3, i.4, w) (λ r. e r ∙ i.5 (assignment_tokens a r)) (Whole _) refl t at
  assignment_given (s.Commas f z [] ∷ zs) P Q i a w e v k t at =
      branch (is_comma t) _ _ _
      (λ h. (
        (λ x. More a x),
        P,
        (λ x y. ((w, y), refl)),
        (λ x r. seen Q (λ q. P (assignment_tokens a q)) e t c.Comma (comma_is t h)
            (expression_tokens x r)),
        i,
      ))
      (λ h. expression_given zs P Q i (One a) w e (commas f z at [] v) (looks_commas v f z at (is_lone_assignment a) k) t at)
  assignment_given (s.Commas f z (y ∷ parts) ∷ zs) P Q i a w e v k t at =
      branch (is_comma t) _ _ _
      (λ h. (
        (λ x. i.0 (More a x)),
        i.1,
        (λ x y. i.2 (More a x) (w, y)),
        (λ x r. seen Q (λ q. P (assignment_tokens a q)) e t c.Comma (comma_is t h) (expression_tokens x r) ∙ i.3 (More a x) r),
        i.4,
      ))
      (λ h. expression_given zs i.1 Q i.4 (i.0 (One a)) (i.2 (One a) w).0 (λ r. e r ∙ i.3 (One a) r) (Whole _) (i.2 (One a) w).1 t at)
  assignment_given (s.ArgumentSeen f ∷ zs) P Q i a w e v k t at = argument_given zs P Q i (Given a) w e _ t at
  assignment_given (s.Whole full.Assignment start ∷ zs) P Q i a w e v k t at = value_given zs (Of full.Assignment) P Q i a w e _ t at (λ q. refl)
  assignment_given _ P Q i a w e v k t at = absurd i

  expression_given : (zs : Frames) (P Q : Front) → ExpressionNext zs P → (x : Expression) → FitsExpression x →
      ((r : List Class) → Q r ≡ P (expression_tokens x r)) → (v : Found) → Looks v (is_lone x) → (t : Class) (at : ℕ) → Goes (give zs v t at) (λ r. Q (t ∷ r))
  expression_given (s.Indexed f parts next ∷ zs) P Q i x w e v k t at =
      branch (is_close_index t) _ _ _ (λ h. (
        Cell x,
        i.0,
        w,
        (λ r. seen Q (λ q. P (expression_tokens x q)) e t c.CloseIndex (close_index_is t h) r ∙
            i.1 (expression_tokens x (c.CloseIndex ∷ r))),
        i.2,
      )) (λ h. tt)
  expression_given (s.Bracketed f bracket next ∷ zs) P Q i x w e (Lone y) k t at =
      branch (is_close t) _ _ _
      (λ h. let z = lone_expression x w k in (
        Round z.0,
        i.0,
        z.1,
        (λ r. seen Q (λ q. P (expression_tokens x q)) e t c.Close (close_is t h) r ∙ i.1 (expression_tokens x (c.Close ∷ r)) ∙
            ap (λ (n : Expression). i.0 (c.Open ∷ expression_tokens n (c.Close ∷ r))) z.2),
        i.3,
      ))
      (λ h. tt)
  expression_given (s.Bracketed f bracket next ∷ zs) P Q i x w e (Whole y) k t at =
      branch (is_close t) _ _ _ (λ h. (
        Within x,
        i.0,
        (k, w),
        refl,
        (λ r. seen Q (λ q. P (expression_tokens x q)) e t c.Close (close_is t h) r ∙ i.1 (expression_tokens x (c.Close ∷ r))),
        i.2,
      )) (λ h. tt)
  expression_given (s.ChoiceThen f test question next ∷ zs) P Q i x w e v k t at =
      branch (is_colon t) _ _ _ (λ h. (
        i.0,
        x,
        i.1,
        i.2,
        w,
        (λ r. seen Q (λ q. P (expression_tokens x q)) e t c.Colon (colon_is t h) r ∙
            i.3 (expression_tokens x (c.Colon ∷ r))),
        i.4,
      )) (λ h. tt)
  expression_given (s.Whole full.Expression start ∷ zs) P Q i x w e v k t at = value_given zs (Of full.Expression) P Q i x w e _ t at (λ q. refl)
  expression_given _ P Q i x w e v k t at = absurd i

  argument_given : (zs : Frames) (P Q : Front) → ArgumentNext zs P → (x : Argument) → FitsArgument x →
      ((r : List Class) → Q r ≡ P (argument_tokens x r)) → (y : Syntax) (t : Class) (at : ℕ) → Goes (give zs (Whole y) t at) (λ r. Q (t ∷ r))
  argument_given (s.Arguments f parts ∷ zs) P Q i x w e y t at =
      branch (is_comma t) _ _ _
      (λ h. (
        (λ z. i.0 (Then x z)),
        i.1,
        (λ z n. i.2 (Then x z) (w, n)),
        (λ z r. seen Q (λ q. P (argument_tokens x q)) e t c.Comma (comma_is t h) (arguments_tokens z r) ∙ i.3 (Then x z) r),
        i.4,
      ))
      (λ h. branch (is_close t) _ _ _
      (λ q. (
        CallWith (i.0 (Last x)),
        i.1,
        i.2 (Last x) w,
        refl,
        (λ r. seen Q (λ z. P (argument_tokens x z)) e t c.Close (close_is t q) r ∙ i.3 (Last x) (c.Close ∷ r)),
        i.4,
      ))
      (λ q. tt))
  argument_given _ P Q i x w e y t at = absurd i

  value_given : (zs : Frames) (x : Got) (P Q : Front) → ValueNext zs x P → (a : GotValue x) → FitsGot x a →
      ((r : List Class) → Q r ≡ P (got_tokens x a r)) → (y : Syntax) (t : Class) (at : ℕ) → Calm (is_got_open x a) t →
      Goes (give zs (Whole y) t at) (λ r. Q (t ∷ r))
  value_given (s.Rest form ∷ zs) x P Q i a w e y t at k =
      feeds form.rule form.first form.level (form.parts ++ y ∷ []) form.todo zs t at (λ v. give zs (Whole v) t at) (is_got_open x a) Q
      ((λ v. i.0 a v), i.1, (λ v u. i.2 a v w u), (λ v r. e (wants_tokens form.todo v r) ∙ i.3 a v r), (λ v. i.4 a v), i.5) k
      (λ v P0 b fits calm eq j. value_given zs (Node form.rule) P0 Q j b fits eq v t at calm)
  value_given (s.CastType f bracket ∷ zs) (Node p.NumberType) P Q i a w e y t at k =
      type_end_kept f bracket y zs Q i.0 (Some a) (λ r. e r ∙ i.1 (type_tokens a r)) i.2 t at
  value_given (s.TopType first parts start ∷ zs) (Node p.NumberType) P Q i a w e y t at k =
      branch (same c.Name t) _ _ _ (λ h.
      (i.0, a, i.1, (λ r. put Q t c.Name (same_is c.Name t h) r ∙ e (c.Name ∷ r) ∙ i.2 (type_tokens a (c.Name ∷ r))), i.3, i.4)) (λ h. tt)
  value_given (s.Tops parts ∷ []) (Node p.Enum) P Q i a w e y t at k = top_kept (parts ++ y ∷ []) Q (one_more P Q i (OfEnum a) w e) t at
  value_given (s.Tops parts ∷ []) (Node p.Declaration) P Q i a w e y t at k = top_kept (parts ++ y ∷ []) Q (one_more P Q i (OfDeclaration a) w e) t at
  value_given (s.Tops parts ∷ []) (Node p.Function) P Q i a w e y t at k = top_kept (parts ++ y ∷ []) Q (one_more P Q i (OfFunction a) w e) t at
  value_given _ x P Q i a w e y t at k = absurd i

index_kept : (f : ℕ) (name : Syntax) (zs : Frames) (P P0 : Front) → ((r : List Class) → P r ≡ P0 (c.Name ∷ r)) → TargetNext zs P0 →
    (t : Class) (at : ℕ) → Goes (at_index f name zs t at) (λ r. P (t ∷ r))
index_kept f name zs P P0 e j t at =
    branch (is_open_index t) _ _ _ (λ q. (P0, seen P (λ r. P0 (c.Name ∷ r)) e t c.OpenIndex (open_index_is t q), j))
    (λ q. target_given zs P0 P j Variable tt e _ t at)

named_kept : (f : ℕ) (name : Syntax) (zs : Frames) (P P0 : Front) → ((r : List Class) → P r ≡ P0 (c.Name ∷ r)) → UnaryNext zs P0 → TargetNext zs P0 →
    (t : Class) (at : ℕ) → Goes (at_named f name zs t at) (λ r. P (t ∷ r))
named_kept f name zs P P0 e i j t at =
    branch (is_open t) _ _ _ (λ h. (P0, seen P (λ r. P0 (c.Name ∷ r)) e t c.Open (open_is t h), i)) (λ h. index_kept f name zs P P0 e j t at)

-- Each token that is taken keeps what the frames say.
pub keeps : (zs : Frames) (P : Front) → Ready zs P → (t : Class) (at : ℕ) → Goes (step zs t at) (λ r. P (t ∷ r))
keeps (s.WantUnary ∷ zs) P i t at = unary_kept zs P i t at
keeps (s.WantTarget ∷ zs) P i t at = target_kept zs P i t at
keeps (s.WantArgument ∷ zs) P i t at = argument_kept zs P i t at
keeps (s.Opened f bracket next ∷ zs) P i t at = opened_kept f bracket next zs P i.0 i.1 i.2 i.3 t at
keeps (s.VoidSeen f bracket word ∷ zs) P i t at = type_end_kept f bracket _ zs P i.0 None i.1 i.2 t at
keeps (s.Named f name ∷ zs) P i t at = named_kept f name zs P i.0 i.1 i.2 i.3 t at
keeps (s.TargetNamed f name ∷ zs) P i t at = index_kept f name zs P i.0 i.1 i.2 t at
keeps (s.Called f name bracket ∷ zs) P i t at =
    branch (is_close t) _ _ _ (λ h. (CallNone, i.0, tt, refl, seen P (λ r. i.0 (c.Name ∷ c.Open ∷ r)) i.1 t c.Close (close_is t h), i.2))
    (λ h. argument_kept (s.Arguments f _ ∷ zs) P ((λ x. x), i.0, (λ x w. w), (λ x r. i.1 (arguments_tokens x r)), i.2) t at)
keeps (s.Texts f parts ∷ zs) P i t at =
    branch (is_text t) _ _ _ (λ h. (
      MoreTexts i.0,
      i.1,
      (λ r. seen P (λ q. i.1 (texts_tokens i.0 q)) i.2 t c.Text (text_is t h) r ∙
          ap i.1 (texts_more i.0 r)),
      i.3,
    ))
    (λ h. argument_given zs i.1 P i.3 (Written i.0) tt i.2 _ t at)
keeps (s.Done (Lone v) ∷ zs) P i t at = target_given zs i.1 P i.4 i.0 i.2 i.3 v t at
keeps (s.Done (Whole v) ∷ zs) P i t at = unary_given zs i.1 P i.5 i.0 i.2 i.4 (Whole v) i.3 t at
keeps (s.Rest form ∷ zs) P i t at =
    feeds form.rule form.first form.level form.parts form.todo zs t at (λ v. give zs (Whole v) t at) false P i (λ e. refl)
    (λ v P0 b fits calm eq j. value_given zs (Node form.rule) P0 P j b fits eq v t at calm)
keeps (s.LabelOrName name mark form ∷ zs) P i t at =
    branch (same c.Colon t) _ _ _ (λ h. named_label form zs i.0 _ i.2 (λ r. put P t c.Colon (same_is c.Colon t h) r ∙ i.1 (c.Colon ∷ r)))
    (λ h. named_kept name mark (s.Post name ∷ s.Operand name ∷ s.Choice name ∷ s.Assigns name ∷ s.Commas name name [] ∷ s.Whole full.Expression
    name ∷ rest p.Plain name form.level [] (want.Token c.Semicolon ∷ []) ∷ s.Rest form ∷ zs) P i.0 i.1
    (named_statement form zs i.0 i.2) (named_statement form zs i.0 i.2) t at)
keeps (s.External first parts ∷ zs) P i t at = external_kept first parts i.0 zs i.1 P i.2 i.3 i.4 t at
keeps (s.TopName first parts start type name mark ∷ zs) P i t at =
    branch (same c.Open t) _ _ _
    (λ h. ((λ v. Defined i.0 (Some i.1) v.0 v.1.1.0), i.2, (λ v u. (u.0, u.1.1.0)), (λ v r. put P t c.Open (same_is c.Open t h) _ ∙ i.3 _), (λ v. refl), i.5))
    (λ h. feeds p.Declarator name 0 (mark ∷ []) (want.Optional lead.Size ∷ want.Optional lead.Value ∷ []) (declared first parts start type zs) t at
    (λ v. give (declared first parts start type zs) (Whole v) t at) false P (
      (λ v. Declared v.0 v.1.0),
      (λ r. i.2 (word_tokens c.Static i.0 (type_tokens i.1 r))),
      (λ v u. (u.0, u.1.0)),
      (λ v r. i.3 _),
      (λ v. refl),
      (
        (λ a v. Locals false i.1 a v.0),
        (λ r. i.2 (word_tokens c.Static i.0 r)),
        (λ a v u x. (u, x.0)),
        (λ a v r. refl),
        (λ a v. refl),
        ((λ a v. Declares i.0 a), i.2, (λ a v u x. u), (λ a v r. refl), (λ a v. refl), i.4),
      ),
    )
    (λ e. refl)
    (λ v P0 b fits calm eq j. value_given (declared first parts start type zs) (Node p.Declarator) P0 P j b fits eq v t at calm))
keeps (s.Tops parts ∷ []) P i t at = top_kept parts P i t at
keeps [] P i t at = absurd i
keeps (s.Accepted v ∷ zs) P i t at = tt
keeps (_ ∷ zs) P i t at = absurd i
