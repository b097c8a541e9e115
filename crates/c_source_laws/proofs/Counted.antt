-- How many tokens of a derived expression count, and the events that it stands for.
use Rattle.std.proofs.Common.{◌≡◌, ◌≤◌, ◌+◌, ℕ, nat_lt, List, [], ◌∷◌, None, refl, arith}
use Rattle.std.proofs.lemmas.Bool.{ltb-false}
use Rattle.c_grammar.specs.Events.{Event, Uncounted, Counted, Outside, Opened, count_of, number_of, first_over}
use Rattle.c_grammar.specs.Counts.{base_events, type_events, expression_events, assignment_events, conditional_events, binary_events, unary_events, target_events, arguments_events, argument_events, texts_events}
use Rattle.c_grammar.specs.Expressions.{Base, CharBase, IntBase, LongBase, LongIntBase, NumberType, OfBase, Signed, SignedOf, Unsigned, UnsignedOf, Expression, One, More, Assignment, To, Value, Conditional, Choose, Only, Binary, Single, Both, Unary, Prefixed, StepTo, CastTo, CastVoid, Place, StepAfter, CallNone, CallWith, Number, Character, Within, Target, Variable, Cell, Round, Arguments, Last, Then, Argument, Given, Written, Texts, OneText, MoreTexts}
use Rattle.c_source_laws.proofs.Depths.{back, before, none_given}

abbrev mutual
  pub expression_count : Expression → ℕ
  expression_count (One a) = assignment_count a
  expression_count (More a e) = assignment_count a + 1 + expression_count e

  pub assignment_count : Assignment → ℕ
  assignment_count (To t m a) = target_count t + 1 + assignment_count a
  assignment_count (Value d) = conditional_count d

  pub conditional_count : Conditional → ℕ
  conditional_count (Choose b e d) = binary_count b + 1 + expression_count e + conditional_count d
  conditional_count (Only b) = binary_count b

  pub binary_count : Binary → ℕ
  binary_count (Single u) = unary_count u
  binary_count (Both a m b) = binary_count a + 1 + binary_count b

  pub unary_count : Unary → ℕ
  unary_count (Prefixed m u) = 1 + unary_count u
  unary_count (StepTo t) = 1 + target_count t
  unary_count (CastTo n u) = 1 + unary_count u
  unary_count (CastVoid u) = 1 + unary_count u
  unary_count (Place t) = target_count t
  unary_count (StepAfter t) = target_count t + 1
  unary_count CallNone = 1
  unary_count (CallWith xs) = 1 + arguments_count xs
  unary_count Number = 0
  unary_count Character = 0
  unary_count (Within e) = 1 + expression_count e

  pub target_count : Target → ℕ
  target_count Variable = 0
  target_count (Cell e) = 1 + expression_count e
  target_count (Round t) = 1 + target_count t

  pub arguments_count : Arguments → ℕ
  arguments_count (Last x) = argument_count x
  arguments_count (Then x xs) = argument_count x + arguments_count xs

  pub argument_count : Argument → ℕ
  argument_count (Given a) = assignment_count a
  argument_count (Written n) = 0

-- ---- so many of its events count

pub base_held : (b : Base) (q : List Event) → count_of (base_events b q) ≡ count_of q
base_held CharBase q = refl
base_held IntBase q = refl
base_held LongBase q = refl
base_held LongIntBase q = refl

pub type_held : (n : NumberType) (q : List Event) → count_of (type_events n q) ≡ count_of q
type_held (OfBase b) q = base_held b q
type_held Signed q = refl
type_held (SignedOf b) q = base_held b (Uncounted ∷ q)
type_held Unsigned q = refl
type_held (UnsignedOf b) q = base_held b (Uncounted ∷ q)

texts_held : (n : Texts) (q : List Event) → count_of (texts_events n q) ≡ count_of q
texts_held OneText q = refl
texts_held (MoreTexts n) q = texts_held n (Uncounted ∷ q)

mutual
  pub expression_held : (e : Expression) (q : List Event) → count_of (expression_events e q) ≡ expression_count e + count_of q
  expression_held (One a) q = assignment_held a q
  expression_held (More a e) q = let g = assignment_held a q in let h = expression_held e (Counted ∷ assignment_events a q) in omega (arith, g, h)

  pub assignment_held : (a : Assignment) (q : List Event) → count_of (assignment_events a q) ≡ assignment_count a + count_of q
  assignment_held (To t m a) q = let g = target_held t q in let h = assignment_held a (Counted ∷ target_events t q) in omega (arith, g, h)
  assignment_held (Value d) q = conditional_held d q

  pub conditional_held : (d : Conditional) (q : List Event) → count_of (conditional_events d q) ≡ conditional_count d + count_of q
  conditional_held (Choose b e d) q =
      let r = Counted ∷ binary_events b q in
      let f = binary_held b q in let g = expression_held e r in let h = conditional_held d (Uncounted ∷ expression_events e r) in omega (arith, f, g, h)
  conditional_held (Only b) q = binary_held b q

  binary_held : (b : Binary) (q : List Event) → count_of (binary_events b q) ≡ binary_count b + count_of q
  binary_held (Single u) q = unary_held u q
  binary_held (Both a m b) q = let g = binary_held a q in let h = binary_held b (Counted ∷ binary_events a q) in omega (arith, g, h)

  unary_held : (u : Unary) (q : List Event) → count_of (unary_events u q) ≡ unary_count u + count_of q
  unary_held (Prefixed m u) q = let h = unary_held u (Counted ∷ q) in omega (arith, h)
  unary_held (StepTo t) q = let h = target_held t (Counted ∷ q) in omega (arith, h)
  unary_held (CastTo n u) q = let g = type_held n (Counted ∷ q) in let h = unary_held u (Uncounted ∷ type_events n (Counted ∷ q)) in omega (arith, g, h)
  unary_held (CastVoid u) q = let h = unary_held u (Uncounted ∷ Uncounted ∷ Counted ∷ q) in omega (arith, h)
  unary_held (Place t) q = target_held t q
  unary_held (StepAfter t) q = let h = target_held t q in omega (arith, h)
  unary_held CallNone q = omega arith
  unary_held (CallWith xs) q = let h = arguments_held xs (Counted ∷ Uncounted ∷ q) in omega (arith, h)
  unary_held Number q = omega arith
  unary_held Character q = omega arith
  unary_held (Within e) q = let h = expression_held e (Counted ∷ q) in omega (arith, h)

  target_held : (t : Target) (q : List Event) → count_of (target_events t q) ≡ target_count t + count_of q
  target_held Variable q = omega arith
  target_held (Cell e) q = let h = expression_held e (Counted ∷ Uncounted ∷ q) in omega (arith, h)
  target_held (Round t) q = let h = target_held t (Counted ∷ q) in omega (arith, h)

  arguments_held : (xs : Arguments) (q : List Event) → count_of (arguments_events xs q) ≡ arguments_count xs + count_of q
  arguments_held (Last x) q = argument_held x q
  arguments_held (Then x xs) q = let g = argument_held x q in let h = arguments_held xs (Uncounted ∷ argument_events x q) in omega (arith, g, h)

  argument_held : (x : Argument) (q : List Event) → count_of (argument_events x q) ≡ argument_count x + count_of q
  argument_held (Given a) q = assignment_held a q
  argument_held (Written n) q = let h = texts_held n q in omega (arith, h)

-- ---- no more than the limit

count_low : (q : List Event) → first_over q ≡ None → count_of q ≤ 400
count_low [] h = omega arith
count_low (Counted ∷ q) h = ltb-false 400 (count_of q + 1) (none_given (nat_lt 400 (count_of q + 1)) (number_of q) (back Counted q h).1)
count_low (Uncounted ∷ q) h = count_low q (before Uncounted q h)
count_low (Outside ∷ q) h = omega arith
count_low (Opened level ∷ q) h = count_low q (before (Opened level) q h)

pub expression_low : (e : Expression) (q : List Event) → first_over (expression_events e q) ≡ None → expression_count e ≤ 400
expression_low e q h = let g = expression_held e q in let l = count_low (expression_events e q) h in omega (arith, g, l)

pub assignment_low : (a : Assignment) (q : List Event) → first_over (assignment_events a q) ≡ None → assignment_count a ≤ 400
assignment_low a q h = let g = assignment_held a q in let l = count_low (assignment_events a q) h in omega (arith, g, l)

pub conditional_low : (d : Conditional) (q : List Event) → first_over (conditional_events d q) ≡ None → conditional_count d ≤ 400
conditional_low d q h = let g = conditional_held d q in let l = count_low (conditional_events d q) h in omega (arith, g, l)
