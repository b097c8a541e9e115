-- What derives as an expression is parsed, and its syntax and its events are what the run makes of it.
use Rattle.std.proofs.Common.{◌≡◌, ◌<◌, ◌≤◌, ◌+◌, ℕ, Bool, true, false, List, [], ◌∷◌, ◌++◌, append_assoc, refl, arith, ap, ◌∙◌}
use Rattle.std.proofs.lemmas.Bool.{lt-ltb, le-ltb}
use Rattle.c_grammar.specs.declared.class.Class.{Class}
use Rattle.c_grammar.specs.declared.class.Class.TheVariants as c
use Rattle.c_grammar.specs.declared.syntax.Syntax.{Syntax}
use Rattle.c_grammar.specs.declared.syntax.Production.TheVariants as p
use Rattle.c_grammar.specs.Classes.{level, is_assign, is_prefix}
use Rattle.c_grammar.specs.Nodes.{node, leaf}
use Rattle.c_grammar.specs.Events.{Event, Uncounted, Counted}
use Rattle.c_grammar.specs.Expressions.{CharBase, IntBase, LongBase, LongIntBase, NumberType, OfBase, Signed, SignedOf, Unsigned, UnsignedOf, Expression, One, More, Assignment, To, Value, Conditional, Choose, Only, Binary, Single, Both, Unary, Prefixed, StepTo, CastTo, CastVoid, Place, StepAfter, CallNone, CallWith, Number, Character, Within, Target, Variable, Cell, Round, Arguments, Last, Then, Argument, Given, Written, Texts, OneText, MoreTexts, type_tokens, expression_tokens, assignment_tokens, conditional_tokens, binary_tokens, unary_tokens, target_tokens, arguments_tokens, argument_tokens, texts_tokens, root, FitsExpression, FitsAssignment, FitsConditional, FitsBinary, FitsUnary, FitsTarget, FitsArguments, FitsArgument}
use Rattle.c_grammar.specs.ExpressionSyntax.{type_end, expression_end, assignment_end, conditional_end, binary_end, unary_end, target_end, arguments_end, argument_end, texts_end, arguments_parts, texts_parts, type_node, expression_node, assignment_node, conditional_node, binary_node, target_node, argument_node}
use Rattle.c_grammar.specs.Counts.{type_events, expression_events, assignment_events, conditional_events, binary_events, unary_events, target_events, arguments_events, argument_events, texts_events}
use Rattle.c_parse_step.specs.declared.frame.Found.{Found}
use Rattle.c_parse_step.specs.declared.frame.Found.TheVariants.{Lone, Whole}
use Rattle.c_parse_step.specs.declared.frame.Full.TheVariants as full
use Rattle.c_parse_step.specs.declared.frame.Frame.TheVariants as s
use Rattle.c_parse_step.specs.Nodes.{lift, postfix, commas, solid_binary}
use Rattle.c_parse_step.specs.Tests.{is_comma, is_text}
use Rattle.c_parse_step.specs.Starts.{Frames, conditional, assignment, expression, behind_full}
use Rattle.c_parser.proofs.Tokens.{is_closer, closer_level, closer_quiet, closer_question, closer_assign, closer_text, is_quiet, is_bare, bare_open, bare_index, quiet_bare, quiet_step, assign_bare, mark_quiet}
use Rattle.c_parser.proofs.Traces.{logged}
use Rattle.c_parser.proofs.Founds.{found_unary, found_binary, found_conditional, found_assignment, found_expression, unary_solid, binary_solid, conditional_solid, assignment_solid, expression_solid, expression_whole}

-- ---- what a derivation begins with

-- may begin an expression
abbrev pub starts : Class → Bool
starts c.Sign = true
starts c.Flip = true
starts c.Step = true
starts c.Open = true
starts c.Name = true
starts c.Number = true
starts c.Character = true
starts _ = false

-- the first of these tokens may begin an expression
abbrev pub Headed : List Class → Type 0
Headed [] = ⊥
Headed (t ∷ l) = starts t ≡ true

prefix_starts : (m : Class) → is_prefix m ≡ true → starts m ≡ true
prefix_starts c.Sign h = refl
prefix_starts _ h = cc

mutual
  -- the tokens of an expression, an assignment or a conditional begin as an expression does
  pub head_of_expression : (e : Expression) → FitsExpression e → (r : List Class) → Headed (expression_tokens e r)
  head_of_expression (One a) w r = head_of_assignment a w r
  head_of_expression (More a e) w r = head_of_assignment a w.0 _

  pub head_of_assignment : (a : Assignment) → FitsAssignment a → (r : List Class) → Headed (assignment_tokens a r)
  head_of_assignment (To t m a) w r = head_of_target t _
  head_of_assignment (Value d) w r = head_of_conditional d w r

  pub head_of_conditional : (d : Conditional) → FitsConditional d → (r : List Class) → Headed (conditional_tokens d r)
  head_of_conditional (Choose b e d) w r = head_of_binary b w.0 _
  head_of_conditional (Only b) w r = head_of_binary b w r

  head_of_binary : (b : Binary) → FitsBinary b → (r : List Class) → Headed (binary_tokens b r)
  head_of_binary (Single u) w r = head_of_unary u w r
  head_of_binary (Both a m b) w r = head_of_binary a w.0 _

  head_of_unary : (u : Unary) → FitsUnary u → (r : List Class) → Headed (unary_tokens u r)
  head_of_unary (Prefixed m u) w r = prefix_starts m w.0
  head_of_unary (Place t) w r = head_of_target t r
  head_of_unary (StepAfter t) w r = head_of_target t _
  head_of_unary _ w r = refl

  head_of_target : (t : Target) → (r : List Class) → Headed (target_tokens t r)
  head_of_target Variable r = refl
  head_of_target (Cell e) r = refl
  head_of_target (Round t) r = refl

abbrev ArgumentHead : List Class → Type 0
ArgumentHead [] = ⊥
ArgumentHead (c.Close ∷ l) = ⊥
ArgumentHead (c.Comma ∷ l) = ⊥
ArgumentHead (_ ∷ l) = Unit {0}

headed_argument : (l : List Class) → Headed l → ArgumentHead l
headed_argument [] h = absurd h
headed_argument (c.Close ∷ l) h = cc
headed_argument (c.Comma ∷ l) h = cc
headed_argument (_ ∷ l) h = tt

head_of_argument : (x : Argument) → FitsArgument x → (r : List Class) → ArgumentHead (argument_tokens x r)
head_of_argument (Given a) w r = headed_argument _ (head_of_assignment a w r)
head_of_argument (Written OneText) w r = tt
head_of_argument (Written (MoreTexts n)) w r = tt

head_of_arguments : (xs : Arguments) → FitsArguments xs → (r : List Class) → ArgumentHead (arguments_tokens xs r)
head_of_arguments (Last x) w r = head_of_argument x w r
head_of_arguments (Then x xs) w r = head_of_argument x w.0 _

-- ---- one token

prefix_run : (m : Class) → is_prefix m ≡ true → (zs : Frames) (at : ℕ) (l : List Class) (q : List Event) →
    logged (s.WantUnary ∷ zs) at (m ∷ l) q ≡ logged (s.WantUnary ∷ s.Prefix at (leaf at) (at + 1) ∷ zs) (at + 1) l (Counted ∷ q)
prefix_run c.Sign h zs at l q = refl
prefix_run c.Flip h zs at l q = refl
prefix_run _ h zs at l q = cc

assign_run : (m : Class) → is_assign m ≡ true → (zs : Frames) (first at : ℕ) (v : Syntax) (l : List Class) (q : List Event)
    → logged (s.Done (Lone v) ∷ s.Post first ∷ s.Operand first ∷ s.Choice first ∷ s.Assigns first ∷ zs) at (m ∷ l) q ≡ logged
    (assignment (at + 1) (s.AssignsTo first (v ∷ leaf at ∷ []) (at + 1) ∷ zs)) (at + 1) l (Counted ∷ q)
assign_run c.Equals h zs first at v l q = refl
assign_run c.Update h zs first at v l q = refl
assign_run _ h zs first at v l q = cc

opened_run : (zs : Frames) (first at : ℕ) (l : List Class) (q : List Event) → Headed l →
    logged (s.Opened first (leaf first) (first + 1) ∷ zs) at l q ≡ logged (expression at (s.Bracketed first (leaf first) (first + 1) ∷ zs)) at l q
opened_run zs first at [] q h = absurd h
opened_run zs first at (c.Sign ∷ l) q h = refl
opened_run zs first at (c.Flip ∷ l) q h = refl
opened_run zs first at (c.Step ∷ l) q h = refl
opened_run zs first at (c.Open ∷ l) q h = refl
opened_run zs first at (c.Name ∷ l) q h = refl
opened_run zs first at (c.Number ∷ l) q h = refl
opened_run zs first at (c.Character ∷ l) q h = refl
opened_run zs first at (_ ∷ l) q h = cc

argument_run : (zs : Frames) (at : ℕ) (l : List Class) (q : List Event) → Headed l →
    logged (s.WantArgument ∷ zs) at l q ≡ logged (assignment at (s.ArgumentSeen at ∷ zs)) at l q
argument_run zs at [] q h = absurd h
argument_run zs at (c.Text ∷ l) q h = cc
argument_run zs at (_ ∷ l) q h = refl

called_run : (zs : Frames) (first at : ℕ) (l : List Class) (q : List Event) → ArgumentHead l
    → logged (s.Called first (leaf first) (leaf (first + 1)) ∷ zs) at l q ≡ logged
    (s.WantArgument ∷ s.Arguments first (leaf first ∷ leaf (first + 1) ∷ []) ∷ zs) at l q
called_run zs first at [] q h = absurd h
called_run zs first at (c.Close ∷ l) q h = absurd h
called_run zs first at (c.Comma ∷ l) q h = absurd h
called_run zs first at (_ ∷ l) q h = refl

bracketed_whole : (v : Found) (x : Syntax) → v ≡ Whole x → (zs : Frames) (first z : ℕ) (l : List Class) (q : List Event)
    → logged (s.Done v ∷ s.Bracketed first (leaf first) (first + 1) ∷ zs) z (c.Close ∷ l) q ≡ logged
    (s.Done (postfix first (z + 1) (leaf first ∷ x ∷ leaf z ∷ [])) ∷ zs) (z + 1) l (Uncounted ∷ q)
bracketed_whole v x h zs first z l q = ap (λ (y : Found). logged (s.Done y ∷ s.Bracketed first (leaf first) (first + 1) ∷ zs) z (c.Close ∷ l) q) h

not_assigned : (v : Found) (zs : Frames) (first z : ℕ) (t : Class) (r : List Class) (q : List Event) → is_assign t ≡ false
    → logged (s.Done v ∷ s.Assigns first ∷ zs) z (t ∷ r) q ≡ logged (s.Done (lift p.Assignment first z v) ∷ zs) z (t ∷ r) q
not_assigned (Lone y) zs first z t r q h = rw h
not_assigned (Whole y) zs first z t r q h = refl

not_chosen : (v : Found) (zs : Frames) (first z : ℕ) (t : Class) (r : List Class) (q : List Event) → is_closer t ≡ true
    → logged (s.Done v ∷ s.Choice first ∷ zs) z (t ∷ r) q ≡ logged (s.Done (lift p.Conditional first z v) ∷ zs) z (t ∷ r) q
not_chosen v zs first z t r q h = rw (closer_level t h, closer_question t h)

not_comma : (v : Found) (zs : Frames) (first at z : ℕ) (parts : List Syntax) (t : Class) (r : List Class) (q : List Event) → is_comma t ≡ false
    → logged (s.Done v ∷ s.Commas first at parts ∷ zs) z (t ∷ r) q ≡ logged (s.Done (commas first at z parts v) ∷ zs) z (t ∷ r) q
not_comma v zs first at z parts t r q h = rw h

not_step : (x : Syntax) (zs : Frames) (first z : ℕ) (t : Class) (r : List Class) (q : List Event) → is_quiet t ≡ true
    → logged (s.Done (Lone x) ∷ s.Post first ∷ zs) z (t ∷ r) q ≡ logged (s.Done (Lone x) ∷ zs) z (t ∷ r) q
not_step x zs first z t r q h = rw (quiet_step t h)

-- The frames take up a mark that binds more tightly than l, behind an operand that begins here.
abbrev Takes : Frames → ℕ → ℕ → Type 0
Takes zs at l = (m : Class) (v : Found) (z : ℕ) (r : List Class) (q : List Event) → l < level m
    → logged (s.Done v ∷ zs) z (m ∷ r) q ≡ logged (s.WantUnary ∷ s.Operand (z + 1) ∷ s.Join at (solid_binary at z v) (leaf z) (z + 1) (level m) ∷ zs)
    (z + 1) r (Counted ∷ q)

takes_choice : (zs : Frames) (at : ℕ) → (m : Class) (v : Found) (z : ℕ) (r : List Class) (q : List Event) → 0 < level m
    → logged (s.Done v ∷ s.Choice at ∷ zs) z (m ∷ r) q ≡ logged
    (s.WantUnary ∷ s.Operand (z + 1) ∷ s.Join at (solid_binary at z v) (leaf z) (z + 1) (level m) ∷ s.Choice at ∷ zs) (z + 1) r (Counted ∷ q)
takes_choice zs at m v z r q h = rw (lt-ltb 0 (level m) h)

takes_join : (zs : Frames) (first next l : ℕ) (left mark : Syntax) → (m : Class) (v : Found) (z : ℕ) (r : List Class) (q : List Event) → l < level m
    → logged (s.Done v ∷ s.Join first left mark next l ∷ zs) z (m ∷ r) q
    ≡ logged (s.WantUnary ∷ s.Operand (z + 1) ∷ s.Join next (solid_binary next z v) (leaf z) (z + 1) (level m) ∷ s.Join first left mark next l ∷ zs)
    (z + 1) r (Counted ∷ q)
takes_join zs first next l left mark m v z r q h = rw (lt-ltb l (level m) h)

not_taken : (v : Found) (zs : Frames) (first next l z : ℕ) (left mark : Syntax) (t : Class) (r : List Class) (q : List Event) → level t ≤ l
    → logged (s.Done v ∷ s.Join first left mark next l ∷ zs) z (t ∷ r) q ≡ logged
    (s.Done (Whole (node p.Binary first z (left ∷ mark ∷ solid_binary next z v ∷ []))) ∷ zs) z (t ∷ r) q
not_taken v zs first next l z left mark t r q h = rw (le-ltb l (level t) h)

var_run : (zs : Frames) (at : ℕ) (t : Class) (r : List Class) (q : List Event) → is_bare t ≡ true
    → logged (s.WantUnary ∷ zs) at (c.Name ∷ t ∷ r) q ≡ logged (s.Done (Lone (target_node at Variable)) ∷ s.Post at ∷ zs) (at + 1) (t ∷ r) (Uncounted ∷ q)
var_run zs at t r q h = rw (bare_open t h, bare_index t h)

target_var_run : (zs : Frames) (at : ℕ) (t : Class) (r : List Class) (q : List Event) → is_bare t ≡ true
    → logged (s.WantTarget ∷ zs) at (c.Name ∷ t ∷ r) q ≡ logged (s.Done (Lone (target_node at Variable)) ∷ zs) (at + 1) (t ∷ r) (Uncounted ∷ q)
target_var_run zs at t r q h = rw (bare_index t h)

cast_run : (n : NumberType) (zs : Frames) (first : ℕ) (l : List Class) (q : List Event)
    → logged (s.Opened first (leaf first) (first + 1) ∷ zs) (first + 1) (type_tokens n (c.Close ∷ l)) q
    ≡ logged (s.WantUnary ∷ s.Cast first (leaf first ∷ type_node (first + 1) n ∷ leaf (type_end (first + 1) n) ∷ [])
    (type_end (first + 1) n + 1) ∷ zs) (type_end (first + 1) n + 1) l (Uncounted ∷ type_events n q)
cast_run (OfBase CharBase) zs first l q = refl
cast_run (OfBase IntBase) zs first l q = refl
cast_run (OfBase LongBase) zs first l q = refl
cast_run (OfBase LongIntBase) zs first l q = refl
cast_run Signed zs first l q = refl
cast_run (SignedOf CharBase) zs first l q = refl
cast_run (SignedOf IntBase) zs first l q = refl
cast_run (SignedOf LongBase) zs first l q = refl
cast_run (SignedOf LongIntBase) zs first l q = refl
cast_run Unsigned zs first l q = refl
cast_run (UnsignedOf CharBase) zs first l q = refl
cast_run (UnsignedOf IntBase) zs first l q = refl
cast_run (UnsignedOf LongBase) zs first l q = refl
cast_run (UnsignedOf LongIntBase) zs first l q = refl

target_head : (x : Target) (zs : Frames) (first at : ℕ) (l : List Class) (q : List Event) →
    logged (s.Opened first (leaf first) (first + 1) ∷ zs) at (target_tokens x l) q ≡ logged
    (expression at (s.Bracketed first (leaf first) (first + 1) ∷ zs)) at (target_tokens x l) q
target_head Variable zs first at l q = refl
target_head (Cell e) zs first at l q = refl
target_head (Round t) zs first at l q = refl

texts_run : (n : Texts) (zs : Frames) (first at : ℕ) (parts : List Syntax) (t : Class) (r : List Class) (q : List Event) → is_text t ≡ false
    → logged (s.Texts first parts ∷ zs) at (texts_tokens n (t ∷ r)) q ≡ logged
    (s.Done (Whole (node p.Argument first (texts_end at n) (parts ++ texts_parts at n))) ∷ zs) (texts_end at n) (t ∷ r) (texts_events n q)
texts_run OneText zs first at parts t r q h = rw h
texts_run (MoreTexts n) zs first at parts t r q h =
    texts_run n zs first (at + 1) (parts ++ leaf at ∷ []) t r (Uncounted ∷ q) h
    ∙ ap (λ (l : List Syntax). logged (s.Done (Whole (node p.Argument first (texts_end (at + 1) n) l)) ∷ zs) (texts_end (at + 1) n) (t ∷ r)
    (texts_events n (Uncounted ∷ q))) (append_assoc parts (leaf at ∷ []) (texts_parts (at + 1) n))

written_run : (n : Texts) (zs : Frames) (at : ℕ) (t : Class) (r : List Class) (q : List Event) → is_text t ≡ false
    → logged (s.WantArgument ∷ zs) at (texts_tokens n (t ∷ r)) q ≡ logged (s.Done (Whole (argument_node at (Written n))) ∷ zs) (texts_end at n)
    (t ∷ r) (texts_events n q)
written_run OneText zs at t r q h = rw h
written_run (MoreTexts n) zs at t r q h = texts_run n zs at (at + 1) (leaf at ∷ []) t r (Uncounted ∷ q) h

below : (l m n : ℕ) → l < m → m ≤ n → l < n
below l m n h k = omega arith

between : (t m n : ℕ) → t ≤ m → m < n → t ≤ n
between t m n h k = omega arith

root_above : (b : Binary) → FitsBinary b → 0 < root b
root_above (Single u) w = omega arith
root_above (Both a m b) w = w.2

closer_root : (b : Binary) (t : Class) → is_closer t ≡ true → level t ≤ root b
closer_root b t h = let e : level t ≡ 0 = closer_level t h in omega arith

-- ---- the derivations

mutual
  -- an expression in front of what may stand behind it, and no comma: behind the parts that the frame of its commas holds
  pub complete_expression : (e : Expression) → FitsExpression e → (zs : Frames) (first : ℕ) (parts : List Syntax) (at : ℕ) (t : Class)
      (r : List Class) (q : List Event) → is_closer t ≡ true → is_comma t ≡ false
      → logged (assignment at (s.Commas first at parts ∷ zs)) at (expression_tokens e (t ∷ r)) q ≡ logged
      (s.Done (found_expression first parts at e) ∷ zs) (expression_end at e) (t ∷ r) (expression_events e q)
  complete_expression (One a) w zs first parts at t r q h k = complete_assignment a w (s.Commas first at parts ∷ zs) at t r q h ∙ not_comma
      (found_assignment at a) zs first at (assignment_end at a) parts t r (assignment_events a q) k
  complete_expression (More a e) w zs first parts at t r q h k =
      complete_assignment a w.0 (s.Commas first at parts ∷ zs) at c.Comma (expression_tokens e (t ∷ r)) q refl
      ∙ ap (λ (x : Syntax). logged (assignment (assignment_end at a + 1)
      (s.Commas first (assignment_end at a + 1) (parts ++ x ∷ leaf (assignment_end at a) ∷ []) ∷ zs)) (assignment_end at a + 1)
      (expression_tokens e (t ∷ r)) (Counted ∷ assignment_events a q)) (assignment_solid a at)
      ∙ complete_expression e w.1 zs first (parts ++ assignment_node at a ∷ leaf (assignment_end at a) ∷ []) (assignment_end at a + 1) t r
      (Counted ∷ assignment_events a q) h k

  -- an assignment in front of what may stand behind an expression
  pub complete_assignment : (a : Assignment) → FitsAssignment a → (zs : Frames) (at : ℕ) (t : Class) (r : List Class) (q : List Event) → is_closer t ≡ true
      → logged (assignment at zs) at (assignment_tokens a (t ∷ r)) q ≡ logged (s.Done (found_assignment at a) ∷ zs) (assignment_end at a) (t ∷ r)
      (assignment_events a q)
  complete_assignment (To u m a) w zs at t r q h =
      complete_place u w.0 (s.Operand at ∷ s.Choice at ∷ s.Assigns at ∷ zs) at m (assignment_tokens a (t ∷ r)) q (assign_bare m w.1)
      ∙ assign_run m w.1 zs at (target_end at u) (target_node at u) (assignment_tokens a (t ∷ r)) (target_events u q)
      ∙ complete_assignment a w.2 (s.AssignsTo at (target_node at u ∷ leaf (target_end at u) ∷ []) (target_end at u + 1) ∷ zs) (target_end at u + 1) t
      r (Counted ∷ target_events u q) h
      ∙ ap (λ (x : Syntax). logged (s.Done
      (Whole (node p.Assignment at (assignment_end (target_end at u + 1) a) (target_node at u ∷ leaf (target_end at u) ∷ x ∷ []))) ∷ zs)
      (assignment_end (target_end at u + 1) a) (t ∷ r) (assignment_events a (Counted ∷ target_events u q))) (assignment_solid a (target_end at u + 1))
  complete_assignment (Value e) w zs at t r q h = complete_conditional e w (s.Assigns at ∷ zs) at t r q h ∙ not_assigned (found_conditional at e) zs
      at (conditional_end at e) t r (conditional_events e q) (closer_assign t h)

  -- a conditional in front of what may stand behind an expression
  pub complete_conditional : (e : Conditional) → FitsConditional e → (zs : Frames) (at : ℕ) (t : Class) (r : List Class) (q : List Event) → is_closer t ≡ true
      → logged (conditional at zs) at (conditional_tokens e (t ∷ r)) q ≡ logged (s.Done (found_conditional at e) ∷ zs) (conditional_end at e) (t ∷ r)
      (conditional_events e q)
  complete_conditional (Choose b e f) w zs at t r q h =
      let x = binary_end at b in
      let y = expression_end (x + 1) e in
      complete_binary b w.0 (s.Choice at ∷ zs) at 0 (takes_choice zs at) (root_above b w.0) c.Question
      (expression_tokens e (c.Colon ∷ conditional_tokens f (t ∷ r))) q refl (omega arith)
      ∙ ap (λ (v : Syntax). logged (expression (x + 1) (s.ChoiceThen at v (leaf x) (x + 1) ∷ zs)) (x + 1)
      (expression_tokens e (c.Colon ∷ conditional_tokens f (t ∷ r))) (Counted ∷ binary_events b q)) (binary_solid b at)
      ∙ complete_expression e w.1 (s.ChoiceThen at (binary_node at b) (leaf x) (x + 1) ∷ zs) (x + 1) [] (x + 1) c.Colon (conditional_tokens f (t ∷ r))
      (Counted ∷ binary_events b q) refl refl
      ∙ ap (λ (v : Syntax). logged (conditional (y + 1) (s.ChoiceElse at (binary_node at b ∷ leaf x ∷ v ∷ leaf y ∷ []) (y + 1) ∷ zs)) (y + 1)
      (conditional_tokens f (t ∷ r)) (Uncounted ∷ expression_events e (Counted ∷ binary_events b q))) (expression_solid e (x + 1))
      ∙ complete_conditional f w.2 (s.ChoiceElse at (binary_node at b ∷ leaf x ∷ expression_node (x + 1) e ∷ leaf y ∷ []) (y + 1) ∷ zs) (y + 1) t r
      (Uncounted ∷ expression_events e (Counted ∷ binary_events b q)) h
      ∙ ap (λ (v : Syntax). logged (s.Done
      (Whole (node p.Conditional at (conditional_end (y + 1) f) (binary_node at b ∷ leaf x ∷ expression_node (x + 1) e ∷ leaf y ∷ v ∷ []))) ∷ zs)
      (conditional_end (y + 1) f) (t ∷ r) (conditional_events f (Uncounted ∷ expression_events e (Counted ∷ binary_events b q))))
      (conditional_solid f (y + 1))
  complete_conditional (Only b) w zs at t r q h =
      complete_binary b w (s.Choice at ∷ zs) at 0 (takes_choice zs at) (root_above b w) t r q (closer_quiet t h) (closer_root b t h)
      ∙ not_chosen (found_binary at b) zs at (binary_end at b) t r (binary_events b q) h

  -- a binary expression that binds more tightly than the frames await, in front of no mark that binds more tightly than its own loosest
  pub complete_binary : (b : Binary) → FitsBinary b → (zs : Frames) (at l : ℕ) → Takes zs at l → l < root b →
      (t : Class) (r : List Class) (q : List Event) → is_quiet t ≡ true → level t ≤ root b
      → logged (s.WantUnary ∷ s.Operand at ∷ zs) at (binary_tokens b (t ∷ r)) q ≡ logged (s.Done (found_binary at b) ∷ zs) (binary_end at b) (t ∷ r)
      (binary_events b q)
  complete_binary (Single u) w zs at l k lt t r q h le = complete_unary u w (s.Operand at ∷ zs) at t r q h
  complete_binary (Both a m b) w zs at l k lt t r q h le =
      let x = binary_end at a in
      complete_binary a w.0 zs at l k (below l (level m) (root a) lt w.3) m (binary_tokens b (t ∷ r)) q (mark_quiet m w.2) w.3
      ∙ k m (found_binary at a) x (binary_tokens b (t ∷ r)) (binary_events a q) lt
      ∙ ap (λ (v : Syntax). logged (s.WantUnary ∷ s.Operand (x + 1) ∷ s.Join at v (leaf x) (x + 1) (level m) ∷ zs) (x + 1) (binary_tokens b (t ∷ r))
      (Counted ∷ binary_events a q)) (binary_solid a at)
      ∙ complete_binary b w.1 (s.Join at (binary_node at a) (leaf x) (x + 1) (level m) ∷ zs) (x + 1) (level m)
      (takes_join zs at (x + 1) (level m) (binary_node at a) (leaf x)) w.4 t r (Counted ∷ binary_events a q) h (between (level t) (level m) (root b) le w.4)
      ∙ not_taken (found_binary (x + 1) b) zs at (x + 1) (level m) (binary_end (x + 1) b) (binary_node at a) (leaf x) t r
      (binary_events b (Counted ∷ binary_events a q)) le
      ∙ ap (λ (v : Syntax). logged (s.Done (Whole (node p.Binary at (binary_end (x + 1) b) (binary_node at a ∷ leaf x ∷ v ∷ []))) ∷ zs)
      (binary_end (x + 1) b) (t ∷ r) (binary_events b (Counted ∷ binary_events a q))) (binary_solid b (x + 1))

  -- a unary expression in front of no `(`, `[`, `++` or `--`
  pub complete_unary : (u : Unary) → FitsUnary u → (zs : Frames) (at : ℕ) (t : Class) (r : List Class) (q : List Event) → is_quiet t ≡ true
      → logged (s.WantUnary ∷ zs) at (unary_tokens u (t ∷ r)) q ≡ logged (s.Done (found_unary at u) ∷ zs) (unary_end at u) (t ∷ r) (unary_events u q)
  complete_unary (Prefixed m u) w zs at t r q h =
      prefix_run m w.0 zs at (unary_tokens u (t ∷ r)) q ∙ complete_unary u w.1 (s.Prefix at (leaf at) (at + 1) ∷ zs) (at + 1) t r (Counted ∷ q) h
      ∙ ap (λ (v : Syntax). logged (s.Done (Whole (node p.Unary at (unary_end (at + 1) u) (leaf at ∷ v ∷ []))) ∷ zs) (unary_end (at + 1) u) (t ∷ r)
      (unary_events u (Counted ∷ q))) (unary_solid u (at + 1))
  complete_unary (StepTo x) w zs at t r q h = complete_target x w (s.Stepped at (leaf at) ∷ zs) (at + 1) t r (Counted ∷ q) (quiet_bare t h)
  complete_unary (CastTo n u) w zs at t r q h =
      let x = type_end (at + 1) n in
      cast_run n (s.Post at ∷ zs) at (unary_tokens u (t ∷ r)) (Counted ∷ q)
      ∙ complete_unary u w (s.Cast at (leaf at ∷ type_node (at + 1) n ∷ leaf x ∷ []) (x + 1) ∷ s.Post at ∷ zs) (x + 1) t r
      (Uncounted ∷ type_events n (Counted ∷ q)) h
      ∙ ap (λ (v : Syntax). logged (s.Done (Whole (node p.Unary at (unary_end (x + 1) u) (leaf at ∷ type_node (at + 1) n ∷ leaf x ∷ v ∷ []))) ∷ zs)
      (unary_end (x + 1) u) (t ∷ r) (unary_events u (Uncounted ∷ type_events n (Counted ∷ q)))) (unary_solid u (x + 1))
  complete_unary (CastVoid u) w zs at t r q h =
      let x = at + 1 + 1 in
      complete_unary u w (s.Cast at (leaf at ∷ leaf (at + 1) ∷ leaf x ∷ []) (x + 1) ∷ s.Post at ∷ zs) (x + 1) t r (Uncounted ∷ Uncounted ∷ Counted ∷ q) h
      ∙ ap (λ (v : Syntax). logged (s.Done (Whole (node p.Unary at (unary_end (x + 1) u) (leaf at ∷ leaf (at + 1) ∷ leaf x ∷ v ∷ []))) ∷ zs)
      (unary_end (x + 1) u) (t ∷ r) (unary_events u (Uncounted ∷ Uncounted ∷ Counted ∷ q))) (unary_solid u (x + 1))
  complete_unary (Place x) w zs at t r q h = complete_place x w zs at t r q (quiet_bare t h) ∙ not_step (target_node at x) zs at (target_end at x) t r
      (target_events x q) h
  complete_unary (StepAfter x) w zs at t r q h = complete_place x w zs at c.Step (t ∷ r) q refl
  complete_unary CallNone w zs at t r q h = refl
  complete_unary (CallWith xs) w zs at t r q h =
      called_run (s.Post at ∷ zs) at (at + 1 + 1) (arguments_tokens xs (c.Close ∷ t ∷ r)) (Counted ∷ Uncounted ∷ q) (head_of_arguments xs w _)
      ∙ complete_arguments xs w (s.Post at ∷ zs) at (leaf at ∷ leaf (at + 1) ∷ []) (at + 1 + 1) (t ∷ r) (Counted ∷ Uncounted ∷ q)
  complete_unary Number w zs at t r q h = refl
  complete_unary Character w zs at t r q h = refl
  complete_unary (Within e) w zs at t r q h =
      opened_run (s.Post at ∷ zs) at (at + 1) (expression_tokens e (c.Close ∷ t ∷ r)) (Counted ∷ q) (head_of_expression e w.1 _)
      ∙ complete_expression e w.1 (s.Bracketed at (leaf at) (at + 1) ∷ s.Post at ∷ zs) (at + 1) [] (at + 1) c.Close (t ∷ r) (Counted ∷ q) refl refl
      ∙ bracketed_whole (found_expression (at + 1) [] (at + 1) e) (expression_node (at + 1) e) (expression_whole e (at + 1) w.0) (s.Post at ∷ zs) at
      (expression_end (at + 1) e) (t ∷ r) (expression_events e (Counted ∷ q))

  -- a target that a `++` or `--` stands before, or a bracket round a target
  pub complete_target : (x : Target) → FitsTarget x → (zs : Frames) (at : ℕ) (t : Class) (r : List Class) (q : List Event) → is_bare t ≡ true
      → logged (s.WantTarget ∷ zs) at (target_tokens x (t ∷ r)) q ≡ logged (s.Done (Lone (target_node at x)) ∷ zs) (target_end at x) (t ∷ r) (target_events x q)
  complete_target Variable w zs at t r q h = target_var_run zs at t r q h
  complete_target (Cell e) w zs at t r q h =
      complete_expression e w (s.Indexed at (leaf at ∷ leaf (at + 1) ∷ []) (at + 1 + 1) ∷ zs) (at + 1 + 1) [] (at + 1 + 1) c.CloseIndex (t ∷ r)
      (Counted ∷ Uncounted ∷ q) refl refl
      ∙ ap (λ (v : Syntax). logged (s.Done
      (Lone (node p.Target at (expression_end (at + 1 + 1) e + 1)
      (leaf at ∷ leaf (at + 1) ∷ v ∷ leaf (expression_end (at + 1 + 1) e) ∷ []))) ∷ zs) (expression_end (at + 1 + 1) e + 1) (t ∷ r)
      (Uncounted ∷ expression_events e (Counted ∷ Uncounted ∷ q))) (expression_solid e (at + 1 + 1))
  complete_target (Round x) w zs at t r q h = complete_target x w (s.Enclosed at (leaf at) ∷ zs) (at + 1) c.Close (t ∷ r) (Counted ∷ q) refl

  -- a target where a unary expression is awaited
  pub complete_place : (x : Target) → FitsTarget x → (zs : Frames) (at : ℕ) (t : Class) (r : List Class) (q : List Event) → is_bare t ≡ true
      → logged (s.WantUnary ∷ zs) at (target_tokens x (t ∷ r)) q ≡ logged (s.Done (Lone (target_node at x)) ∷ s.Post at ∷ zs) (target_end at x)
      (t ∷ r) (target_events x q)
  complete_place Variable w zs at t r q h = var_run zs at t r q h
  complete_place (Cell e) w zs at t r q h =
      complete_expression e w (s.Indexed at (leaf at ∷ leaf (at + 1) ∷ []) (at + 1 + 1) ∷ s.Post at ∷ zs) (at + 1 + 1) [] (at + 1 + 1) c.CloseIndex
      (t ∷ r) (Counted ∷ Uncounted ∷ q) refl refl
      ∙ ap (λ (v : Syntax). logged (s.Done
      (Lone (node p.Target at (expression_end (at + 1 + 1) e + 1)
      (leaf at ∷ leaf (at + 1) ∷ v ∷ leaf (expression_end (at + 1 + 1) e) ∷ []))) ∷ s.Post at ∷ zs) (expression_end (at + 1 + 1) e + 1) (t ∷ r)
      (Uncounted ∷ expression_events e (Counted ∷ Uncounted ∷ q))) (expression_solid e (at + 1 + 1))
  complete_place (Round x) w zs at t r q h =
      target_head x (s.Post at ∷ zs) at (at + 1) (c.Close ∷ t ∷ r) (Counted ∷ q)
      ∙ complete_place x w (s.Operand (at + 1) ∷ s.Choice (at + 1) ∷ s.Assigns (at + 1) ∷ s.Commas (at + 1) (at + 1) [] ∷ s.Bracketed at (leaf at)
      (at + 1) ∷ s.Post at ∷ zs) (at + 1) c.Close (t ∷ r) (Counted ∷ q) refl

  -- the arguments of a call, and the bracket behind them
  pub complete_arguments : (xs : Arguments) → FitsArguments xs → (zs : Frames) (first : ℕ) (parts : List Syntax) (at : ℕ) (r : List Class) (q : List Event)
      → logged (s.WantArgument ∷ s.Arguments first parts ∷ zs) at (arguments_tokens xs (c.Close ∷ r)) q
      ≡ logged (s.Done (postfix first (arguments_end at xs + 1) (parts ++ (arguments_parts at xs ++ leaf (arguments_end at xs) ∷ []))) ∷ zs)
      (arguments_end at xs + 1) r (Uncounted ∷ arguments_events xs q)
  complete_arguments (Last x) w zs first parts at r q = complete_argument x w (s.Arguments first parts ∷ zs) at c.Close r q refl
  complete_arguments (Then x xs) w zs first parts at r q =
      complete_argument x w.0 (s.Arguments first parts ∷ zs) at c.Comma (arguments_tokens xs (c.Close ∷ r)) q refl
      ∙ complete_arguments xs w.1 zs first (parts ++ argument_node at x ∷ leaf (argument_end at x) ∷ []) (argument_end at x + 1) r
      (Uncounted ∷ argument_events x q)
      ∙ ap (λ (l : List Syntax). logged (s.Done (postfix first (arguments_end (argument_end at x + 1) xs + 1) l) ∷ zs)
      (arguments_end (argument_end at x + 1) xs + 1) r (Uncounted ∷ arguments_events xs (Uncounted ∷ argument_events x q)))
      (append_assoc parts (argument_node at x ∷ leaf (argument_end at x) ∷ [])
      (arguments_parts (argument_end at x + 1) xs ++ leaf (arguments_end (argument_end at x + 1) xs) ∷ []))

  -- an argument in front of what may stand behind an expression
  pub complete_argument : (x : Argument) → FitsArgument x → (zs : Frames) (at : ℕ) (t : Class) (r : List Class) (q : List Event) → is_closer t ≡ true
      → logged (s.WantArgument ∷ zs) at (argument_tokens x (t ∷ r)) q ≡ logged (s.Done (Whole (argument_node at x)) ∷ zs) (argument_end at x) (t ∷ r)
      (argument_events x q)
  complete_argument (Given a) w zs at t r q h =
      argument_run zs at (assignment_tokens a (t ∷ r)) q (head_of_assignment a w _) ∙ complete_assignment a w (s.ArgumentSeen at ∷ zs) at t r q h
      ∙ ap (λ (v : Syntax). logged (s.Done (Whole (node p.Argument at (assignment_end at a) (v ∷ []))) ∷ zs) (assignment_end at a) (t ∷ r)
      (assignment_events a q)) (assignment_solid a at)
  complete_argument (Written n) w zs at t r q h = written_run n zs at t r q (closer_text t h)

-- ---- full expressions

-- a full expression hands its node to the frames below
pub whole_expression : (e : Expression) → FitsExpression e → (zs : Frames) (at : ℕ) (t : Class) (r : List Class) (q : List Event) →
    is_closer t ≡ true → is_comma t ≡ false
    → logged (s.WantUnary ∷ behind_full full.Expression at zs) at (expression_tokens e (t ∷ r)) q ≡ logged
    (s.Done (Whole (expression_node at e)) ∷ zs) (expression_end at e) (t ∷ r) (expression_events e q)
whole_expression e w zs at t r q h k =
    complete_expression e w (s.Whole full.Expression at ∷ zs) at [] at t r q h k ∙
    ap (λ (x : Syntax). logged (s.Done (Whole x) ∷ zs) (expression_end at e) (t ∷ r) (expression_events e q)) (expression_solid e at)

-- and so does a full assignment
pub whole_assignment : (a : Assignment) → FitsAssignment a → (zs : Frames) (at : ℕ) (t : Class) (r : List Class) (q : List Event) → is_closer t ≡ true
    → logged (s.WantUnary ∷ behind_full full.Assignment at zs) at (assignment_tokens a (t ∷ r)) q ≡ logged
    (s.Done (Whole (assignment_node at a)) ∷ zs) (assignment_end at a) (t ∷ r) (assignment_events a q)
whole_assignment a w zs at t r q h =
    complete_assignment a w (s.Whole full.Assignment at ∷ zs) at t r q h ∙
    ap (λ (x : Syntax). logged (s.Done (Whole x) ∷ zs) (assignment_end at a) (t ∷ r) (assignment_events a q)) (assignment_solid a at)

-- and a full conditional
pub whole_conditional : (d : Conditional) → FitsConditional d → (zs : Frames) (at : ℕ) (t : Class) (r : List Class) (q : List Event) → is_closer t ≡ true
    → logged (s.WantUnary ∷ behind_full full.Conditional at zs) at (conditional_tokens d (t ∷ r)) q ≡ logged
    (s.Done (Whole (conditional_node at d)) ∷ zs) (conditional_end at d) (t ∷ r) (conditional_events d q)
whole_conditional d w zs at t r q h =
    complete_conditional d w (s.Whole full.Conditional at ∷ zs) at t r q h ∙
    ap (λ (x : Syntax). logged (s.Done (Whole x) ∷ zs) (conditional_end at d) (t ∷ r) (conditional_events d q)) (conditional_solid d at)
