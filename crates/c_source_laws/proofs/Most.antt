-- The most tokens that count in one full expression of a function: by the events of its derivation, and by its syntax.
use Rattle.std.proofs.Common.{◌≡◌, ◌≤◌, ◌+◌, ℕ, Bool, true, false, cond, max, List, [], ◌∷◌, ◌++◌, map, refl, ◌∙◌, arith}
use Rattle.c_grammar.specs.declared.class.Class.{Class}
use Rattle.c_grammar.specs.declared.syntax.Syntax.{Syntax}
use Rattle.c_grammar.specs.declared.syntax.Production.{Production}
use Rattle.c_grammar.specs.declared.syntax.Production.TheVariants as p
use Rattle.c_grammar.specs.Nodes.{node, leaf}
use Rattle.c_grammar.specs.Events.{Event, Uncounted, Counted, count_of}
use Rattle.c_grammar.specs.Counts.{base_events, type_events, expression_events, assignment_events, conditional_events, binary_events, unary_events, target_events, arguments_events, argument_events, texts_events}
use Rattle.c_grammar.specs.Expressions.{Base, CharBase, IntBase, LongBase, LongIntBase, NumberType, OfBase, Signed, SignedOf, Unsigned, UnsignedOf, Expression, One, More, Assignment, To, Value, Conditional, Choose, Only, Binary, Single, Both, Unary, Prefixed, StepTo, CastTo, CastVoid, Place, StepAfter, CallNone, CallWith, Number, Character, Within, Target, Variable, Cell, Round, Arguments, Last, Then, Argument, Given, Written, Texts, OneText, MoreTexts, expression_tokens, assignment_tokens, conditional_tokens, FitsExpression, FitsAssignment, FitsConditional}
use Rattle.c_grammar.specs.ExpressionSyntax.{base_parts, type_end, type_parts, type_node, expression_node, assignment_node, conditional_node}
use Rattle.c_grammar.specs.Counted.{is_full}
use Rattle.c_grammar.specs.Parts.{part_of, greatest}
use Rattle.c_source_laws.proofs.Limits.{peak}
use Rattle.c_source_laws.proofs.Numbered.{Along}
use Rattle.c_source_laws.proofs.Weights.{IsWeighed}
use Rattle.c_source_laws.proofs.Counted.{expression_held, assignment_held, conditional_held, type_held}
use Rattle.c_source_laws.proofs.CountedNodes.{node_most, expression_most, assignment_most, conditional_most}

-- ---- within a full expression the count only grows

-- behind the first of these lists of events the second counts as many, and the most is the count, or what it was
record Up (q r : List Event) : Type 0 where
  more : count_of q ≤ count_of r
  most : peak r ≡ max (count_of r) (peak q)

counted : (q : List Event) → Up q (Counted ∷ q)
counted q = record { more = omega arith; most = omega arith }

uncounted : (q : List Event) → Up q (Uncounted ∷ q)
uncounted q = record { more = omega arith; most = omega arith }

then : {q r s : List Event} → Up q r → Up r s → Up q s
then {q} {r} {s} g h =
    let a = g.more in
    let b = g.most in
    let c = h.more in
    let d = h.most in
    record { more = omega (arith, a, c); most = omega (arith, a, b, c, d) }

base_up : (b : Base) (q : List Event) → Up q (base_events b q)
base_up CharBase q = uncounted q
base_up IntBase q = uncounted q
base_up LongBase q = uncounted q
base_up LongIntBase q = then (uncounted q) (uncounted (Uncounted ∷ q))

type_up : (n : NumberType) (q : List Event) → Up q (type_events n q)
type_up (OfBase b) q = base_up b q
type_up Signed q = uncounted q
type_up (SignedOf b) q = then (uncounted q) (base_up b (Uncounted ∷ q))
type_up Unsigned q = uncounted q
type_up (UnsignedOf b) q = then (uncounted q) (base_up b (Uncounted ∷ q))

texts_up : (n : Texts) (q : List Event) → Up q (texts_events n q)
texts_up OneText q = uncounted q
texts_up (MoreTexts n) q = then (uncounted q) (texts_up n (Uncounted ∷ q))

mutual
  expression_up : (e : Expression) (q : List Event) → Up q (expression_events e q)
  expression_up (One a) q = assignment_up a q
  expression_up (More a e) q = then (assignment_up a q) (then (counted _) (expression_up e _))

  assignment_up : (a : Assignment) (q : List Event) → Up q (assignment_events a q)
  assignment_up (To t m a) q = then (target_up t q) (then (counted _) (assignment_up a _))
  assignment_up (Value d) q = conditional_up d q

  conditional_up : (d : Conditional) (q : List Event) → Up q (conditional_events d q)
  conditional_up (Choose b e d) q = then (binary_up b q) (then (counted _) (then (expression_up e _) (then (uncounted _) (conditional_up d _))))
  conditional_up (Only b) q = binary_up b q

  binary_up : (b : Binary) (q : List Event) → Up q (binary_events b q)
  binary_up (Single u) q = unary_up u q
  binary_up (Both a m b) q = then (binary_up a q) (then (counted _) (binary_up b _))

  unary_up : (u : Unary) (q : List Event) → Up q (unary_events u q)
  unary_up (Prefixed m u) q = then (counted q) (unary_up u _)
  unary_up (StepTo t) q = then (counted q) (target_up t _)
  unary_up (CastTo n u) q = then (counted q) (then (type_up n _) (then (uncounted _) (unary_up u _)))
  unary_up (CastVoid u) q = then (counted q) (then (uncounted _) (then (uncounted _) (unary_up u _)))
  unary_up (Place t) q = target_up t q
  unary_up (StepAfter t) q = then (target_up t q) (counted _)
  unary_up CallNone q = then (uncounted q) (then (counted _) (uncounted _))
  unary_up (CallWith xs) q = then (uncounted q) (then (counted _) (then (arguments_up xs _) (uncounted _)))
  unary_up Number q = uncounted q
  unary_up Character q = uncounted q
  unary_up (Within e) q = then (counted q) (then (expression_up e _) (uncounted _))

  target_up : (t : Target) (q : List Event) → Up q (target_events t q)
  target_up Variable q = uncounted q
  target_up (Cell e) q = then (uncounted q) (then (counted _) (then (expression_up e _) (uncounted _)))
  target_up (Round t) q = then (counted q) (then (target_up t _) (uncounted _))

  arguments_up : (xs : Arguments) (q : List Event) → Up q (arguments_events xs q)
  arguments_up (Last x) q = argument_up x q
  arguments_up (Then x xs) q = then (argument_up x q) (then (uncounted _) (arguments_up xs _))

  argument_up : (x : Argument) (q : List Event) → Up q (argument_events x q)
  argument_up (Given a) q = assignment_up a q
  argument_up (Written n) q = texts_up n q

-- the words of a type change nothing where no full expression is open
pub type_quiet : (n : NumberType) (q : List Event) → count_of q ≡ 0 → peak (type_events n q) ≡ peak q
type_quiet n q z = let u = (type_up n q).most in let h = type_held n q in omega (arith, u, h, z)

-- ---- the most in a syntax

module _ (word : ℕ → List ℕ) where
  abbrev Stands : ℕ → List Class → Type 0
  Stands at r = Along IsWeighed word at r

  abbrev pub most_in : Syntax → ℕ
  most_in x = (part_of word x).most

  abbrev pub most_of : List Syntax → ℕ
  most_of xs = greatest (map (part_of word) xs)

  pub joined : (xs ys : List Syntax) → most_of (xs ++ ys) ≡ max (most_of xs) (most_of ys)
  joined [] ys = omega arith
  joined (x ∷ xs) ys = let h = joined xs ys in omega (arith, h)

  -- a node that is no full expression, by its parts
  pub node_is : (rule : Production) (first after : ℕ) (xs : List Syntax) → is_full rule ≡ false → most_in (node rule first after xs) ≡ most_of xs
  node_is rule first after xs e = node_most word rule first after xs ∙ other (is_full rule) _ (most_of xs) e
    where
      other : (b : Bool) (n k : ℕ) → b ≡ false → cond b n k ≡ k
      other true n k e = cc
      other false n k e = refl

  pub leaf_is : (at : ℕ) → most_in (leaf at) ≡ 0
  leaf_is at = node_is p.Token at (at + 1) [] refl

  base_is : (b : Base) (at : ℕ) → most_of (base_parts at b) ≡ 0
  base_is LongIntBase at = let g = leaf_is at in let h = leaf_is (at + 1) in omega (arith, g, h)
  base_is _ at = let g = leaf_is at in omega (arith, g)

  type_parts_are : (n : NumberType) (at : ℕ) → most_of (type_parts at n) ≡ 0
  type_parts_are (OfBase b) at = base_is b at
  type_parts_are Signed at = let g = leaf_is at in omega (arith, g)
  type_parts_are (SignedOf b) at = let g = leaf_is at in let h = base_is b (at + 1) in omega (arith, g, h)
  type_parts_are Unsigned at = let g = leaf_is at in omega (arith, g)
  type_parts_are (UnsignedOf b) at = let g = leaf_is at in let h = base_is b (at + 1) in omega (arith, g, h)

  pub type_is : (n : NumberType) (at : ℕ) → most_in (type_node at n) ≡ 0
  type_is n at = node_is p.NumberType at (type_end at n) (type_parts at n) refl ∙ type_parts_are n at

  -- ---- full expressions

  pub expression_peak : (e : Expression) (at : ℕ) (r : List Class) (q : List Event) → FitsExpression e → Stands at (expression_tokens e r) → count_of q ≡ 0
      → peak (expression_events e q) ≡ max (most_in (expression_node at e)) (peak q)
  expression_peak e at r q f s z = let u = (expression_up e q).most in let h = expression_held e q in let k = expression_most word e at r f s in
      omega (arith, u, h, k, z)

  pub assignment_peak : (a : Assignment) (at : ℕ) (r : List Class) (q : List Event) → FitsAssignment a → Stands at (assignment_tokens a r) → count_of q ≡ 0
      → peak (assignment_events a q) ≡ max (most_in (assignment_node at a)) (peak q)
  assignment_peak a at r q f s z = let u = (assignment_up a q).most in let h = assignment_held a q in let k = assignment_most word a at r f s in
      omega (arith, u, h, k, z)

  pub conditional_peak : (d : Conditional) (at : ℕ) (r : List Class) (q : List Event) → FitsConditional d → Stands at (conditional_tokens d r) → count_of q ≡ 0
      → peak (conditional_events d q) ≡ max (most_in (conditional_node at d)) (peak q)
  conditional_peak d at r q f s z = let u = (conditional_up d q).most in let h = conditional_held d q in let k = conditional_most word d at r f s in
      omega (arith, u, h, k, z)
