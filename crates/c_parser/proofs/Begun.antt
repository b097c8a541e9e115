-- Runs over lists of which the first token begins a node.
use Rattle.std.proofs.Common.{◌≡◌, ◌<◌, ◌+◌, ℕ, Bool, true, false, List, [], ◌∷◌, Option, Some, None, refl, arith, ap, sym}
use Rattle.c_grammar.specs.declared.class.Class.{Class}
use Rattle.c_grammar.specs.declared.class.Class.TheVariants as c
use Rattle.c_grammar.specs.declared.syntax.Syntax.{Syntax}
use Rattle.c_grammar.specs.declared.syntax.Production.{Production}
use Rattle.c_grammar.specs.declared.syntax.Production.TheVariants as p
use Rattle.c_grammar.specs.Nodes.{node, leaf}
use Rattle.c_grammar.specs.Classes.{level, is_assign, is_prefix}
use Rattle.c_grammar.specs.Events.{Event, Uncounted, Opened}
use Rattle.c_grammar.specs.Expressions.{CharBase, IntBase, LongBase, LongIntBase, NumberType, OfBase, Signed, SignedOf, Unsigned, UnsignedOf, Expression, One, More, Assignment, To, Value, Conditional, Choose, Only, Binary, Single, Both, Unary, Prefixed, Place, StepAfter, Target, Variable, type_tokens, expression_tokens, assignment_tokens, conditional_tokens, binary_tokens, unary_tokens, target_tokens, FitsExpression, FitsAssignment, FitsConditional, FitsBinary, FitsUnary}
use Rattle.c_grammar.specs.ExpressionSyntax.{type_end, expression_end, assignment_end, conditional_end, type_node, expression_node, assignment_node, conditional_node}
use Rattle.c_grammar.specs.Counts.{type_events, expression_events, assignment_events, conditional_events}
use Rattle.c_parse_step.specs.declared.form.Want.{Want}
use Rattle.c_parse_step.specs.declared.form.Want.TheVariants as w
use Rattle.c_parse_step.specs.declared.form.Lead.TheVariants as o
use Rattle.c_parse_step.specs.declared.frame.Found.TheVariants.{Whole}
use Rattle.c_parse_step.specs.declared.frame.Full.{Full}
use Rattle.c_parse_step.specs.declared.frame.Full.TheVariants as full
use Rattle.c_parse_step.specs.declared.frame.Frame.TheVariants as s
use Rattle.c_parse_step.specs.Tests.{is_comma, is_base, same}
use Rattle.c_parse_step.specs.Starts.{Frames, Next, Fails, Takes, opening, rest, behind_full, at_type, at_full}
use Rattle.c_parse_step.specs.Machine.{step}
use Rattle.c_parser.proofs.Tokens.{is_closer}
use Rattle.c_parser.proofs.Traces.{Trace, Stuck, log_on, logged}
use Rattle.c_parser.proofs.CompleteExpressions.{starts, Headed, whole_expression, whole_assignment, whole_conditional}

-- ---- the first token of a list

-- there is a first token, of this kind
abbrev pub HeadIs : (Class → Bool) → List Class → Type 0
HeadIs f [] = ⊥
HeadIs f (t ∷ l) = f t ≡ true

-- there is a first token, not of this kind
abbrev pub HeadIsNot : (Class → Bool) → List Class → Type 0
HeadIsNot f [] = ⊥
HeadIsNot f (t ∷ l) = f t ≡ false

-- any token at all
abbrev pub any : Class → Bool
any t = true

-- a list of which the first token is of a kind has a first token
pub some_first : (f : Class → Bool) (l : List Class) → HeadIs f l → HeadIs any l
some_first f [] h = h
some_first f (t ∷ l) h = refl

-- and so has one of which it isn't
pub other_first : (f : Class → Bool) (l : List Class) → HeadIsNot f l → HeadIs any l
other_first f [] h = h
other_first f (t ∷ l) h = refl

-- the run of which the first token does this
abbrev pub via : (Class → ℕ → Next) → ℕ → List Class → List Event → Trace
via f at [] q = Stuck at
via f at (t ∷ ts) q = log_on (f t at) at q (λ x e. logged x (at + 1) ts e)

-- a run over a list with a first token begins with its step
pub via_step : (z : Frames) (f : Class → Bool) (at : ℕ) (ts : List Class) (q : List Event) → HeadIs f ts → logged z at ts q ≡ via (step z) at ts q
via_step z f at [] q h = absurd h
via_step z f at (t ∷ ts) q h = refl

-- two ways to take the first token that agree on such a token run alike
pub switch : (f g : Class → ℕ → Next) (h : Class → Bool) (at : ℕ) → ((t : Class) → h t ≡ true → f t at ≡ g t at) →
    (ts : List Class) (q : List Event) → HeadIs h ts → via f at ts q ≡ via g at ts q
switch f g h at e [] q i = absurd i
switch f g h at e (t ∷ ts) q i = ap (λ (n : Next). log_on n at q (λ x a. logged x (at + 1) ts a)) (e t i)

-- no level is opened
abbrev pub IsPlain : Next → Type 0
IsPlain Fails = Unit {0}
IsPlain (Takes l z) = l.opens ≡ None

opened_next : (n : ℕ) (x : Next) (at : ℕ) (q : List Event) (k : Frames → List Event → Trace) → IsPlain x →
    log_on (opening n x) at q k ≡ log_on x at (Opened n ∷ q) k
opened_next n Fails at q k i = refl
opened_next n (Takes l z) at q k i = by_opens l.opens i
  where
    by_opens : (m : Option ℕ) → m ≡ None → log_on (Takes (record { role = l.role; opens = Some n }) z) at q k ≡ log_on
        (Takes (record { role = l.role; opens = m }) z) at (Opened n ∷ q) k
    by_opens m e = ap (λ (x : Option ℕ). log_on (Takes (record { role = l.role; opens = x }) z) at (Opened n ∷ q) k) (sym e)

-- a first token that opens a level notes it before itself
pub via_opening : (n : ℕ) (f : Class → ℕ → Next) (h : Class → Bool) (at : ℕ) → ((t : Class) → h t ≡ true → IsPlain (f t at)) →
    (ts : List Class) (q : List Event) → HeadIs h ts
    → via (λ t a. opening n (f t a)) at ts q ≡ via f at ts (Opened n ∷ q)
via_opening n f h at e [] q i = absurd i
via_opening n f h at e (t ∷ ts) q i = opened_next n (f t at) at q (λ x a. logged x (at + 1) ts a) (e t i)

-- what may begin an expression, as a first token
pub headed_is : (l : List Class) → Headed l → HeadIs starts l
headed_is [] h = h
headed_is (t ∷ l) h = h

-- ---- full expressions, in front of any list that such a token begins

-- a full expression in front of a list that such a token begins
pub full_expression : (e : Expression) → FitsExpression e → (zs : Frames) (at : ℕ) (ts : List Class) (q : List Event) → HeadIs is_closer ts →
    HeadIsNot is_comma ts
    → logged (s.WantUnary ∷ behind_full full.Expression at zs) at (expression_tokens e ts) q ≡ logged (s.Done (Whole (expression_node at e)) ∷ zs)
    (expression_end at e) ts (expression_events e q)
full_expression e w zs at [] q h k = absurd h
full_expression e w zs at (t ∷ ts) q h k = whole_expression e w zs at t ts q h k

-- a full assignment
pub full_assignment : (a : Assignment) → FitsAssignment a → (zs : Frames) (at : ℕ) (ts : List Class) (q : List Event) → HeadIs is_closer ts
    → logged (s.WantUnary ∷ behind_full full.Assignment at zs) at (assignment_tokens a ts) q ≡ logged (s.Done (Whole (assignment_node at a)) ∷ zs)
    (assignment_end at a) ts (assignment_events a q)
full_assignment a w zs at [] q h = absurd h
full_assignment a w zs at (t ∷ ts) q h = whole_assignment a w zs at t ts q h

-- a full conditional
pub full_conditional : (d : Conditional) → FitsConditional d → (zs : Frames) (at : ℕ) (ts : List Class) (q : List Event) → HeadIs is_closer ts
    → logged (s.WantUnary ∷ behind_full full.Conditional at zs) at (conditional_tokens d ts) q ≡ logged (s.Done (Whole (conditional_node at d)) ∷ zs)
    (conditional_end at d) ts (conditional_events d q)
full_conditional d w zs at [] q h = absurd h
full_conditional d w zs at (t ∷ ts) q h = whole_conditional d w zs at t ts q h

-- a node that awaits a full expression begins it
pub full_run : (rule : Production) (first n : ℕ) (parts : List Syntax) (l : List Want) (kind : Full) (zs : Frames) (at : ℕ) (ts : List Class)
    (q : List Event) → Headed ts
    → logged (rest rule first n parts (w.Full kind ∷ l) ∷ zs) at ts q ≡ logged (s.WantUnary ∷ behind_full kind at (rest rule first n parts l ∷ zs)) at ts q
full_run rule first n parts l kind zs at [] q h = absurd h
full_run rule first n parts l kind zs at (t ∷ ts) q h = refl

-- the first token of a full expression awaits what is behind it
pub via_full : (kind : Full) (zs : Frames) (at : ℕ) (ts : List Class) (q : List Event) → Headed ts →
    via (at_full kind zs) at ts q ≡ logged (s.WantUnary ∷ behind_full kind at zs) at ts q
via_full kind zs at [] q h = absurd h
via_full kind zs at (t ∷ ts) q h = refl

-- ---- types

-- may begin a number type
abbrev pub starts_type : Class → Bool
starts_type c.Char = true
starts_type c.Int = true
starts_type c.Long = true
starts_type c.Signed = true
starts_type c.Unsigned = true
starts_type _ = false

base_int : (t : Class) → is_base t ≡ false → same c.Int t ≡ false
base_int c.Int h = cc
base_int _ h = refl

-- `int` doesn't follow
not_int : (first : ℕ) (parts : List Syntax) (zs : Frames) (z : ℕ) (t : Class) (r : List Class) (q : List Event) → is_base t ≡ false
    → logged (rest p.NumberType first 0 parts (w.Optional o.Int ∷ []) ∷ zs) z (t ∷ r) q ≡ logged
    (s.Done (Whole (node p.NumberType first z parts)) ∷ zs) z (t ∷ r) q
not_int first parts zs z t r q h = rw (base_int t h)

not_base : (first : ℕ) (parts : List Syntax) (zs : Frames) (z : ℕ) (t : Class) (r : List Class) (q : List Event) → is_base t ≡ false
    → logged (rest p.NumberType first 0 parts (w.Base ∷ []) ∷ zs) z (t ∷ r) q ≡ logged (s.Done (Whole (node p.NumberType first z parts)) ∷ zs) z (t ∷ r) q
not_base first parts zs z t r q h = rw h

type_run : (n : NumberType) (zs : Frames) (at : ℕ) (t : Class) (r : List Class) (q : List Event) → is_base t ≡ false
    → via (at_type zs) at (type_tokens n (t ∷ r)) q ≡ logged (s.Done (Whole (type_node at n)) ∷ zs) (type_end at n) (t ∷ r) (type_events n q)
type_run (OfBase CharBase) zs at t r q h = refl
type_run (OfBase IntBase) zs at t r q h = refl
type_run (OfBase LongBase) zs at t r q h = not_int at (leaf at ∷ []) zs (at + 1) t r (Uncounted ∷ q) h
type_run (OfBase LongIntBase) zs at t r q h = refl
type_run Signed zs at t r q h = not_base at (leaf at ∷ []) zs (at + 1) t r (Uncounted ∷ q) h
type_run (SignedOf CharBase) zs at t r q h = refl
type_run (SignedOf IntBase) zs at t r q h = refl
type_run (SignedOf LongBase) zs at t r q h = not_int at (leaf at ∷ leaf (at + 1) ∷ []) zs (at + 1 + 1) t r (Uncounted ∷ Uncounted ∷ q) h
type_run (SignedOf LongIntBase) zs at t r q h = refl
type_run Unsigned zs at t r q h = not_base at (leaf at ∷ []) zs (at + 1) t r (Uncounted ∷ q) h
type_run (UnsignedOf CharBase) zs at t r q h = refl
type_run (UnsignedOf IntBase) zs at t r q h = refl
type_run (UnsignedOf LongBase) zs at t r q h = not_int at (leaf at ∷ leaf (at + 1) ∷ []) zs (at + 1 + 1) t r (Uncounted ∷ Uncounted ∷ q) h
type_run (UnsignedOf LongIntBase) zs at t r q h = refl

-- a number type in front of no word that would belong to it
pub complete_number_type : (n : NumberType) (zs : Frames) (at : ℕ) (ts : List Class) (q : List Event) → HeadIsNot is_base ts
    → via (at_type zs) at (type_tokens n ts) q ≡ logged (s.Done (Whole (type_node at n)) ∷ zs) (type_end at n) ts (type_events n q)
complete_number_type n zs at [] q h = absurd h
complete_number_type n zs at (t ∷ ts) q h = type_run n zs at t ts q h

-- the tokens of a number type begin so
pub type_head : (n : NumberType) (r : List Class) → HeadIs starts_type (type_tokens n r)
type_head (OfBase CharBase) r = refl
type_head (OfBase IntBase) r = refl
type_head (OfBase LongBase) r = refl
type_head (OfBase LongIntBase) r = refl
type_head Signed r = refl
type_head (SignedOf b) r = refl
type_head Unsigned r = refl
type_head (UnsignedOf b) r = refl

-- ---- a statement that begins with an expression doesn't begin with a label

-- more than one token stands there, and these aren't those of a label
abbrev pub NoLabel : List Class → Type 0
NoLabel (c.Name ∷ []) = ⊥
NoLabel (c.Name ∷ c.Colon ∷ l) = ⊥
NoLabel _ = Unit {0}

-- a first token that isn't a colon
abbrev pub NoColon : List Class → Type 0
NoColon [] = ⊥
NoColon (c.Colon ∷ l) = ⊥
NoColon _ = Unit {0}

name_first : (r : List Class) → NoColon r → NoLabel (c.Name ∷ r)
name_first [] h = h
name_first (c.Colon ∷ l) h = h
name_first (_ ∷ l) h = tt

assign_no_colon : (m : Class) (l : List Class) → is_assign m ≡ true → NoColon (m ∷ l)
assign_no_colon c.Colon l h = cc
assign_no_colon _ l h = tt

mark_no_colon : (m : Class) (l : List Class) → 0 < level m → NoColon (m ∷ l)
mark_no_colon c.Colon l h = absurd (omega (arith, h))
mark_no_colon _ l h = tt

prefix_no_label : (m : Class) (l : List Class) → is_prefix m ≡ true → NoLabel (m ∷ l)
prefix_no_label c.Name l h = cc
prefix_no_label _ l h = tt

mutual
  -- an expression that no colon stands behind doesn't begin as a label does
  pub no_label : (e : Expression) → FitsExpression e → (r : List Class) → NoColon r → NoLabel (expression_tokens e r)
  no_label (One a) u r h = assignment_no_label a u r h
  no_label (More a e) u r h = assignment_no_label a u.0 _ tt

  assignment_no_label : (a : Assignment) → FitsAssignment a → (r : List Class) → NoColon r → NoLabel (assignment_tokens a r)
  assignment_no_label (To t m a) u r h = target_no_label t _ (assign_no_colon m _ u.1)
  assignment_no_label (Value d) u r h = conditional_no_label d u r h

  conditional_no_label : (d : Conditional) → FitsConditional d → (r : List Class) → NoColon r → NoLabel (conditional_tokens d r)
  conditional_no_label (Choose b e d) u r h = binary_no_label b u.0 _ tt
  conditional_no_label (Only b) u r h = binary_no_label b u r h

  binary_no_label : (b : Binary) → FitsBinary b → (r : List Class) → NoColon r → NoLabel (binary_tokens b r)
  binary_no_label (Single x) u r h = unary_no_label x u r h
  binary_no_label (Both a m b) u r h = binary_no_label a u.0 _ (mark_no_colon m _ u.2)

  unary_no_label : (x : Unary) → FitsUnary x → (r : List Class) → NoColon r → NoLabel (unary_tokens x r)
  unary_no_label (Prefixed m x) u r h = prefix_no_label m _ u.0
  unary_no_label (Place t) u r h = target_no_label t r h
  unary_no_label (StepAfter t) u r h = target_no_label t _ tt
  unary_no_label _ u r h = tt

  target_no_label : (t : Target) → (r : List Class) → NoColon r → NoLabel (target_tokens t r)
  target_no_label Variable r h = name_first r h
  target_no_label _ r h = tt
