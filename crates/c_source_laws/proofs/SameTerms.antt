-- An expression writes the same, whichever way the numbers of its tokens are told.
use Rattle.std.proofs.Common.{◌≡◌, ◌+◌, ℕ, List, ◌∷◌, refl, ap, ◌∙◌, arith}
use Rattle.c_grammar.specs.Expressions.{Base, CharBase, IntBase, LongBase, LongIntBase, NumberType, OfBase, Signed, SignedOf, Unsigned, UnsignedOf, Expression, One, More, Assignment, To, Value, Conditional, Choose, Only, Binary, Single, Both, Unary, Prefixed, StepTo, CastTo, CastVoid, Place, StepAfter, CallNone, CallWith, Number, Character, Within, Target, Variable, Cell, Round, Arguments, Last, Then, Argument, Given, Written, Texts, OneText, MoreTexts}
use Rattle.c_grammar.specs.ExpressionSyntax.{type_end, expression_end, assignment_end, binary_end, target_end, argument_end}
use Rattle.c_grammar.specs.Terms.{At, NoTerm}
use Rattle.c_grammar.specs.Terms as s
use Rattle.reread_parts_laws.specs.WrittenExpressions as old
use Rattle.c_reading_defs.specs.Symbols.{Symbol, token_behind, numbers_of}
use Rattle.c_source_laws.proofs.ExpressionSymbols.{type_symbols, expression_symbols, assignment_symbols, binary_symbols, target_symbols, argument_symbols, texts_symbols}
use Rattle.c_source_laws.proofs.SourceTerms as new
use Rattle.c_source_laws.proofs.Placed.{Placed, type_placed, expression_placed, assignment_placed, binary_placed, target_placed, argument_placed}

-- from the same token on it ends at the same one
pub next : {X : Type 0} (z : ℕ → X → ℕ) (x : X) (xs : List Symbol) → Placed z x xs → (at at' : ℕ) → at ≡ at' → z at x ≡ token_behind at' xs
next {X} z x xs e at at' p = let h = e at in omega (arith, h, p)

pub up : (at at' : ℕ) → at ≡ at' → at + 1 ≡ at' + 1
up at at' p = ap (λ k. k + 1) p

-- and the token behind that one
pub past : {X : Type 0} (z : ℕ → X → ℕ) (x : X) (xs : List Symbol) → Placed z x xs → (at at' : ℕ) → at ≡ at' → z at x + 1 ≡ token_behind at' xs + 1
past {X} z x xs e at at' p = let h = e at in omega (arith, h, p)

base_same : (b : Base) (at : ℕ) → old.base_words at b ≡ numbers_of at (type_symbols (OfBase b))
base_same CharBase at = refl
base_same IntBase at = refl
base_same LongBase at = refl
base_same LongIntBase at = refl

words_same : (n : NumberType) (at : ℕ) → old.type_words at n ≡ numbers_of at (type_symbols n)
words_same (OfBase b) at = base_same b at
words_same Signed at = refl
words_same (SignedOf b) at = ap (λ l. at ∷ l) (base_same b (at + 1))
words_same Unsigned at = refl
words_same (UnsignedOf b) at = ap (λ l. at ∷ l) (base_same b (at + 1))

pub type_same : (n : NumberType) (at at' : ℕ) → at ≡ at' → old.type_words at n ≡ numbers_of at' (type_symbols n)
type_same n at at' p = words_same n at ∙ ap (λ k. numbers_of k (type_symbols n)) p

texts_same : (n : Texts) (at : ℕ) → old.text_tokens at n ≡ numbers_of at (texts_symbols n)
texts_same OneText at = refl
texts_same (MoreTexts n) at = ap (λ l. at ∷ l) (texts_same n (at + 1))

mutual
  pub expression_same : (e : Expression) (at at' : ℕ) → at ≡ at' → old.expression_form at e ≡ new.expression_form at' e
  expression_same (One a) at at' p = assignment_same a at at' p
  expression_same (More a e) at at' p =
      let g = assignment_same a at at' p in
      let h = terms_same e (assignment_end at a + 1) (token_behind at' (assignment_symbols a) + 1)
      (past assignment_end a (assignment_symbols a) (assignment_placed a) at at' p) in
      λ i. s.Commas (At (p i) (g i)) (h i)

  terms_same : (e : Expression) (at at' : ℕ) → at ≡ at' → old.expression_terms at e ≡ new.expression_terms at' e
  terms_same (One a) at at' p = let g = assignment_same a at at' p in λ i. s.Then (At (p i) (g i)) NoTerm
  terms_same (More a e) at at' p =
      let g = assignment_same a at at' p in
      let h = terms_same e (assignment_end at a + 1) (token_behind at' (assignment_symbols a) + 1)
      (past assignment_end a (assignment_symbols a) (assignment_placed a) at at' p) in
      λ i. s.Then (At (p i) (g i)) (h i)

  pub assignment_same : (a : Assignment) (at at' : ℕ) → at ≡ at' → old.assignment_form at a ≡ new.assignment_form at' a
  assignment_same (To t m a) at at' p =
      let x = next target_end t (target_symbols t) (target_placed t) at at' p in
      let y = past target_end t (target_symbols t) (target_placed t) at at' p in
      let g = target_same t at at' p in
      let h = assignment_same a (target_end at t + 1) (token_behind at' (target_symbols t) + 1) y in
      λ i. s.Assign (x i) (At (p i) (g i)) (At (y i) (h i))
  assignment_same (Value d) at at' p = conditional_same d at at' p

  pub conditional_same : (d : Conditional) (at at' : ℕ) → at ≡ at' → old.conditional_form at d ≡ new.conditional_form at' d
  conditional_same (Choose b e d) at at' p =
      let x = past binary_end b (binary_symbols b) (binary_placed b) at at' p in
      let y = past expression_end e (expression_symbols e) (expression_placed e) (binary_end at b + 1) (token_behind at' (binary_symbols b) + 1) x in
      let f = binary_same b at at' p in
      let g = expression_same e (binary_end at b + 1) (token_behind at' (binary_symbols b) + 1) x in
      let h = conditional_same d (expression_end (binary_end at b + 1) e + 1)
      (token_behind (token_behind at' (binary_symbols b) + 1) (expression_symbols e) + 1) y in
      λ i. s.Choice (At (p i) (f i)) (At (x i) (g i)) (At (y i) (h i))
  conditional_same (Only b) at at' p = binary_same b at at' p

  binary_same : (b : Binary) (at at' : ℕ) → at ≡ at' → old.binary_form at b ≡ new.binary_form at' b
  binary_same (Single u) at at' p = unary_same u at at' p
  binary_same (Both a m b) at at' p =
      let x = next binary_end a (binary_symbols a) (binary_placed a) at at' p in
      let y = past binary_end a (binary_symbols a) (binary_placed a) at at' p in
      let g = binary_same a at at' p in
      let h = binary_same b (binary_end at a + 1) (token_behind at' (binary_symbols a) + 1) y in
      λ i. s.Binary (x i) (At (p i) (g i)) (At (y i) (h i))

  unary_same : (u : Unary) (at at' : ℕ) → at ≡ at' → old.unary_form at u ≡ new.unary_form at' u
  unary_same (Prefixed m u) at at' p =
      let q = up at at' p in
      let h = unary_same u (at + 1) (at' + 1) q in
      λ i. s.Prefix (p i) (At (q i) (h i))
  unary_same (StepTo t) at at' p =
      let q = up at at' p in
      let h = target_same t (at + 1) (at' + 1) q in
      λ i. s.Prefix (p i) (At (q i) (h i))
  unary_same (CastTo n u) at at' p =
      let q = up at at' p in
      let x = past type_end n (type_symbols n) (type_placed n) (at + 1) (at' + 1) q in
      let g = type_same n (at + 1) (at' + 1) q in
      let h = unary_same u (type_end (at + 1) n + 1) (token_behind (at' + 1) (type_symbols n) + 1) x in
      λ i. s.CastTo (g i) (At (x i) (h i))
  unary_same (CastVoid u) at at' p =
      let q = up (at + 1 + 1) (at' + 1 + 1) (up (at + 1) (at' + 1) (up at at' p)) in
      let h = unary_same u (at + 1 + 1 + 1) (at' + 1 + 1 + 1) q in
      λ i. s.CastVoid (At (q i) (h i))
  unary_same (Place t) at at' p = target_same t at at' p
  unary_same (StepAfter t) at at' p =
      let x = next target_end t (target_symbols t) (target_placed t) at at' p in
      let g = target_same t at at' p in
      λ i. s.Suffix (x i) (At (p i) (g i))
  unary_same CallNone at at' p = λ i. s.Call (p i) NoTerm
  unary_same (CallWith xs) at at' p = let h = arguments_same xs (at + 1 + 1) (at' + 1 + 1) (up (at + 1) (at' + 1) (up at at' p)) in λ i. s.Call (p i) (h i)
  unary_same Number at at' p = λ i. s.Constant (p i)
  unary_same Character at at' p = λ i. s.Constant (p i)
  unary_same (Within e) at at' p = expression_same e (at + 1) (at' + 1) (up at at' p)

  target_same : (t : Target) (at at' : ℕ) → at ≡ at' → old.target_form at t ≡ new.target_form at' t
  target_same Variable at at' p = λ i. s.Variable (p i)
  target_same (Cell e) at at' p =
      let q = up (at + 1) (at' + 1) (up at at' p) in
      let h = expression_same e (at + 1 + 1) (at' + 1 + 1) q in
      λ i. s.Cell (p i) (At (q i) (h i))
  target_same (Round t) at at' p = target_same t (at + 1) (at' + 1) (up at at' p)

  arguments_same : (xs : Arguments) (at at' : ℕ) → at ≡ at' → old.arguments_terms at xs ≡ new.arguments_terms at' xs
  arguments_same (Last x) at at' p = let g = argument_same x at at' p in λ i. s.Then (At (p i) (g i)) NoTerm
  arguments_same (Then x xs) at at' p =
      let g = argument_same x at at' p in
      let h = arguments_same xs (argument_end at x + 1) (token_behind at' (argument_symbols x) + 1)
      (past argument_end x (argument_symbols x) (argument_placed x) at at' p) in
      λ i. s.Then (At (p i) (g i)) (h i)

  argument_same : (x : Argument) (at at' : ℕ) → at ≡ at' → old.argument_form at x ≡ new.argument_form at' x
  argument_same (Given a) at at' p = assignment_same a at at' p
  argument_same (Written n) at at' p = ap s.Texts (texts_same n at ∙ ap (λ k. numbers_of k (texts_symbols n)) p)
