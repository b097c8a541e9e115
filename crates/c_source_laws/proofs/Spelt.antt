-- What a derivation spells are its tokens and their events.
use Rattle.std.proofs.Common.{◌≡◌, ◌<◌, ◌+◌, ◌-◌, ℕ, List, [], ◌∷◌, ◌++◌, map, refl, ap, sym, subst, ◌∙◌, arith, append_assoc}
use Rattle.c_grammar.specs.declared.class.Class.{Class}
use Rattle.c_grammar.specs.declared.class.Class.TheVariants as c
use Rattle.c_grammar.specs.Events.{Event}
use Rattle.c_grammar.specs.Events as e
use Rattle.c_grammar.specs.Counts.{base_events, type_events, expression_events, assignment_events, conditional_events, binary_events, unary_events, target_events, arguments_events, argument_events, texts_events}
use Rattle.c_grammar.specs.Expressions.{Base, CharBase, IntBase, LongBase, LongIntBase, NumberType, OfBase, Signed, SignedOf, Unsigned, UnsignedOf, Expression, One, More, Assignment, To, Value, Conditional, Choose, Only, Binary, Single, Both, Unary, Prefixed, StepTo, CastTo, CastVoid, Place, StepAfter, CallNone, CallWith, Number, Character, Within, Target, Variable, Cell, Round, Arguments, Last, Then, Argument, Given, Written, Texts, OneText, MoreTexts, base_tokens, type_tokens, expression_tokens, assignment_tokens, conditional_tokens, binary_tokens, unary_tokens, target_tokens, arguments_tokens, argument_tokens, texts_tokens}
use Rattle.c_reading_defs.specs.Symbols.{Symbol, Counted, Uncounted, Outside, OpensLevel, EndsLevel, classes_in}
use Rattle.c_source_laws.proofs.ExpressionSymbols.{type_symbols, expression_symbols, assignment_symbols, conditional_symbols, binary_symbols, unary_symbols, target_symbols, arguments_symbols, argument_symbols, texts_symbols}
use Rattle.c_reading_defs.specs.DerivedItems.{nested}

-- the events of symbols behind these, where so many levels are open
abbrev pub events : ℕ → List Symbol → List Event → List Event
events level [] q = q
events level (Counted k ∷ xs) q = events level xs (e.Counted ∷ q)
events level (Uncounted k ∷ xs) q = events level xs (e.Uncounted ∷ q)
events level (Outside k ∷ xs) q = events level xs (e.Outside ∷ q)
events level (OpensLevel ∷ xs) q = events (level + 1) xs (e.Opened (level + 1) ∷ q)
events level (EndsLevel ∷ xs) q = events (level - 1) xs q

-- no level ends in these but one that is open, where so many are open in front
abbrev pub AreNested : ℕ → List Symbol → Type 0
AreNested level [] = Unit {0}
AreNested level (OpensLevel ∷ xs) = AreNested (level + 1) xs
AreNested level (EndsLevel ∷ xs) = (0 < level) × AreNested (level - 1) xs
AreNested level (Counted k ∷ xs) = AreNested level xs
AreNested level (Uncounted k ∷ xs) = AreNested level xs
AreNested level (Outside k ∷ xs) = AreNested level xs

pub classes_joined : (xs ys : List Symbol) → classes_in (xs ++ ys) ≡ classes_in xs ++ classes_in ys
classes_joined [] ys = refl
classes_joined (Counted k ∷ xs) ys = ap (λ l. k ∷ l) (classes_joined xs ys)
classes_joined (Uncounted k ∷ xs) ys = ap (λ l. k ∷ l) (classes_joined xs ys)
classes_joined (Outside k ∷ xs) ys = ap (λ l. k ∷ l) (classes_joined xs ys)
classes_joined (OpensLevel ∷ xs) ys = classes_joined xs ys
classes_joined (EndsLevel ∷ xs) ys = classes_joined xs ys

-- symbols spell these tokens, and stand for these events
pub record Spelt (level : ℕ) (f : List Class → List Class) (k : List Event → List Event) (xs : List Symbol) : Type 0 where
  pub tokens : (r : List Class) → f r ≡ classes_in xs ++ r
  pub counts : (rest : List Symbol) (q : List Event) → events level (xs ++ rest) q ≡ events level rest (k q)
  pub nests : (rest : List Symbol) → AreNested level rest → AreNested level (xs ++ rest)

pub nothing : {level : ℕ} → Spelt level (λ r. r) (λ q. q) []
nothing = record { tokens = λ r. refl; counts = λ rest q. refl; nests = λ rest h. h }

pub counted : {level : ℕ} (k : Class) → Spelt level (λ r. k ∷ r) (λ q. e.Counted ∷ q) (Counted k ∷ [])
counted k = record { tokens = λ r. refl; counts = λ rest q. refl; nests = λ rest h. h }

pub uncounted : {level : ℕ} (k : Class) → Spelt level (λ r. k ∷ r) (λ q. e.Uncounted ∷ q) (Uncounted k ∷ [])
uncounted k = record { tokens = λ r. refl; counts = λ rest q. refl; nests = λ rest h. h }

pub outside : {level : ℕ} (k : Class) → Spelt level (λ r. k ∷ r) (λ q. e.Outside ∷ q) (Outside k ∷ [])
outside k = record { tokens = λ r. refl; counts = λ rest q. refl; nests = λ rest h. h }

pub join : {level : ℕ} {f g : List Class → List Class} {k l : List Event → List Event} {xs ys : List Symbol} → Spelt level f k xs →
    Spelt level g l ys → Spelt level (λ r. f (g r)) (λ q. l (k q)) (xs ++ ys)
join {level} {f} {g} {k} {l} {xs} {ys} a b = record {
  tokens = λ r. ap f (b.tokens r) ∙ a.tokens (classes_in ys ++ r) ∙ sym (append_assoc (classes_in xs) (classes_in ys) r) ∙
      ap (λ z. z ++ r) (sym (classes_joined xs ys));
  counts = λ rest q. ap (λ z. events level z q) (append_assoc xs ys rest) ∙ a.counts (ys ++ rest) q ∙ b.counts rest (k q);
  nests = λ rest h. subst (AreNested level) (sym (append_assoc xs ys rest)) (a.nests (ys ++ rest) (b.nests rest h));
}

pub in_level : {level : ℕ} {f : List Class → List Class} {k : List Event → List Event} {xs : List Symbol} → Spelt (level + 1) f k xs →
    Spelt level f (λ q. k (e.Opened (level + 1) ∷ q)) (nested xs)
in_level {level} {f} {k} {xs} a = record {
  tokens = λ r. a.tokens r ∙ ap (λ z. z ++ r) (sym (classes_joined xs (EndsLevel ∷ []) ∙ none (classes_in xs)));
  counts = λ rest q. let h = e.Opened (level + 1) ∷ q in let same : level + 1 - 1 ≡ level = omega arith in
      ap (λ z. events (level + 1) z h) (append_assoc xs (EndsLevel ∷ []) rest) ∙ a.counts (EndsLevel ∷ rest) h ∙ ap (λ n. events n rest (k h)) same;
  nests = λ rest h. let same : level ≡ level + 1 - 1 = omega arith in let above : 0 < level + 1 = omega arith in
      subst (AreNested (level + 1)) (sym (append_assoc xs (EndsLevel ∷ []) rest)) (a.nests (EndsLevel ∷ rest) (above, subst (λ n. AreNested n rest) same h));
}
  where
    none : (ks : List Class) → ks ++ [] ≡ ks
    none [] = refl
    none (x ∷ ks) = ap (λ l. x ∷ l) (none ks)

-- ---- expressions

base_spelt : {level : ℕ} (b : Base) → Spelt level (base_tokens b) (base_events b) (map Uncounted (base_tokens b []))
base_spelt CharBase = uncounted c.Char
base_spelt IntBase = uncounted c.Int
base_spelt LongBase = uncounted c.Long
base_spelt LongIntBase = join (uncounted c.Long) (uncounted c.Int)

pub type_spelt : {level : ℕ} (n : NumberType) → Spelt level (type_tokens n) (type_events n) (type_symbols n)
type_spelt (OfBase b) = base_spelt b
type_spelt Signed = uncounted c.Signed
type_spelt (SignedOf b) = join (uncounted c.Signed) (base_spelt b)
type_spelt Unsigned = uncounted c.Unsigned
type_spelt (UnsignedOf b) = join (uncounted c.Unsigned) (base_spelt b)

pub texts_spelt : {level : ℕ} (n : Texts) → Spelt level (texts_tokens n) (texts_events n) (texts_symbols n)
texts_spelt OneText = uncounted c.Text
texts_spelt (MoreTexts n) = join (uncounted c.Text) (texts_spelt n)

mutual
  pub expression_spelt : {level : ℕ} (e : Expression) → Spelt level (expression_tokens e) (expression_events e) (expression_symbols e)
  expression_spelt (One a) = assignment_spelt a
  expression_spelt (More a e) = join (assignment_spelt a) (join (counted c.Comma) (expression_spelt e))

  pub assignment_spelt : {level : ℕ} (a : Assignment) → Spelt level (assignment_tokens a) (assignment_events a) (assignment_symbols a)
  assignment_spelt (To t m a) = join (target_spelt t) (join (counted m) (assignment_spelt a))
  assignment_spelt (Value d) = conditional_spelt d

  pub conditional_spelt : {level : ℕ} (d : Conditional) → Spelt level (conditional_tokens d) (conditional_events d) (conditional_symbols d)
  conditional_spelt (Choose b e d) = join (join (binary_spelt b) (join (counted c.Question) (expression_spelt e)))
      (join (uncounted c.Colon) (conditional_spelt d))
  conditional_spelt (Only b) = binary_spelt b

  pub binary_spelt : {level : ℕ} (b : Binary) → Spelt level (binary_tokens b) (binary_events b) (binary_symbols b)
  binary_spelt (Single u) = unary_spelt u
  binary_spelt (Both a m b) = join (binary_spelt a) (join (counted m) (binary_spelt b))

  pub unary_spelt : {level : ℕ} (u : Unary) → Spelt level (unary_tokens u) (unary_events u) (unary_symbols u)
  unary_spelt (Prefixed m u) = join (counted m) (unary_spelt u)
  unary_spelt (StepTo t) = join (counted c.Step) (target_spelt t)
  unary_spelt (CastTo n u) = join (join (counted c.Open) (type_spelt n)) (join (uncounted c.Close) (unary_spelt u))
  unary_spelt (CastVoid u) = join (counted c.Open) (join (uncounted c.Void) (join (uncounted c.Close) (unary_spelt u)))
  unary_spelt (Place t) = target_spelt t
  unary_spelt (StepAfter t) = join (target_spelt t) (counted c.Step)
  unary_spelt CallNone = join (uncounted c.Name) (join (counted c.Open) (uncounted c.Close))
  unary_spelt (CallWith xs) = join (join (uncounted c.Name) (join (counted c.Open) (arguments_spelt xs))) (uncounted c.Close)
  unary_spelt Number = uncounted c.Number
  unary_spelt Character = uncounted c.Character
  unary_spelt (Within e) = join (join (counted c.Open) (expression_spelt e)) (uncounted c.Close)

  pub target_spelt : {level : ℕ} (t : Target) → Spelt level (target_tokens t) (target_events t) (target_symbols t)
  target_spelt Variable = uncounted c.Name
  target_spelt (Cell e) = join (join (uncounted c.Name) (join (counted c.OpenIndex) (expression_spelt e))) (uncounted c.CloseIndex)
  target_spelt (Round t) = join (join (counted c.Open) (target_spelt t)) (uncounted c.Close)

  pub arguments_spelt : {level : ℕ} (xs : Arguments) → Spelt level (arguments_tokens xs) (arguments_events xs) (arguments_symbols xs)
  arguments_spelt (Last x) = argument_spelt x
  arguments_spelt (Then x xs) = join (argument_spelt x) (join (uncounted c.Comma) (arguments_spelt xs))

  pub argument_spelt : {level : ℕ} (x : Argument) → Spelt level (argument_tokens x) (argument_events x) (argument_symbols x)
  argument_spelt (Given a) = assignment_spelt a
  argument_spelt (Written n) = texts_spelt n
