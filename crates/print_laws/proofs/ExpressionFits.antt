-- The derivations of expressions fit, have the level of the tree, and count as many tokens.
use Rattle.std.proofs.Common.{◌≡◌, ◌≤◌, ◌+◌, ℕ, Bool, true, false, cond, nat_lt, List, [], ◌∷◌, Option, Some, None, refl, ap, ◌∙◌, arith}
use Rattle.c_types.specs.declared.kinds.IntKind.{IntKind}
use Rattle.c_types.specs.declared.kinds.IntKind.TheVariants as K
use Rattle.c_types.specs.declared.kinds.ArithOp.TheVariants.{Add, Sub, Mul, Div, Rem, Shl, Shr, And, Or, Xor}
use Rattle.c_tree.specs.declared.tree.UnaryOp.{UnaryOp}
use Rattle.c_tree.specs.declared.tree.UnaryOp.TheVariants.{Plus, Minus, Not, Flip}
use Rattle.c_tree.specs.declared.tree.BinaryOp.{BinaryOp}
use Rattle.c_tree.specs.declared.tree.BinaryOp.TheVariants.{Arith, Less, Greater, AtMost, AtLeast, Equal, Unequal, AndThen, OrElse}
use Rattle.c_tree.specs.ExpressionTrees.{ExpressionTree, PlaceTree, NodeTree, Typed, Arguments, NoArgument, Argument}
use Rattle.c_tree.specs.ExpressionTrees as t
use Rattle.c_tree.specs.TextExpressions.{binary_level}
use Rattle.c_grammar.specs.Classes.{level, is_prefix}
use Rattle.c_grammar.specs.Events.{Event, Counted, Uncounted}
use Rattle.c_grammar.specs.Expressions.{Expression, One, More, Assignment, To, Value, Conditional, Choose, Only, Unary, Target, FitsExpression, FitsAssignment, FitsUnary, FitsTarget, FitsArguments, FitsArgument}
use Rattle.c_grammar.specs.Expressions as g
use Rattle.c_grammar.specs.Counts.{type_events, expression_events, assignment_events, conditional_events, binary_events, unary_events, target_events, arguments_events, argument_events}
use Rattle.print_laws.specs.ExpressionDerivations.{type_of, unary_class, binary_class, as_assignment, as_conditional, as_binary, as_unary, followed_by, cast_of, count_of, listed, call_of, argument_of, derivation_of, node_derivation, target_of, arguments_of}
use Rattle.c_resolved_defs.specs.PrintableExpressions.{level_of}
use Rattle.c_resolved_defs.specs.PrintableExpressions.{bracket_count, counted, node_counted, place_counted, all_counted}
use Rattle.print_laws.proofs.Levels.{loose, Laid, bracketed_events, lies_assigned, lies_chosen, lies_bound, lies_tight, fits_assigned, fits_chosen, fits_bound, fits_tight, binds}
use Rattle.print_laws.proofs.Costs.{Adds, adds_none, adds_uncounted, adds_counted, adds_both, adds_as, adds_along}

-- ---- marks

pub prefix_class : (op : UnaryOp) → is_prefix (unary_class op) ≡ true
prefix_class Plus = refl
prefix_class Minus = refl
prefix_class Not = refl
prefix_class Flip = refl

pub mark_level : (op : BinaryOp) → level (binary_class op) ≡ binary_level op
mark_level (Arith Add) = refl
mark_level (Arith Sub) = refl
mark_level (Arith Mul) = refl
mark_level (Arith Div) = refl
mark_level (Arith Rem) = refl
mark_level (Arith Shl) = refl
mark_level (Arith Shr) = refl
mark_level (Arith And) = refl
mark_level (Arith Or) = refl
mark_level (Arith Xor) = refl
mark_level Less = refl
mark_level Greater = refl
mark_level AtMost = refl
mark_level AtLeast = refl
mark_level Equal = refl
mark_level Unequal = refl
mark_level AndThen = refl
mark_level OrElse = refl

pub mark_high : (op : BinaryOp) → 4 ≤ binary_level op
mark_high (Arith Add) = omega arith
mark_high (Arith Sub) = omega arith
mark_high (Arith Mul) = omega arith
mark_high (Arith Div) = omega arith
mark_high (Arith Rem) = omega arith
mark_high (Arith Shl) = omega arith
mark_high (Arith Shr) = omega arith
mark_high (Arith And) = omega arith
mark_high (Arith Or) = omega arith
mark_high (Arith Xor) = omega arith
mark_high Less = omega arith
mark_high Greater = omega arith
mark_high AtMost = omega arith
mark_high AtLeast = omega arith
mark_high Equal = omega arith
mark_high Unequal = omega arith
mark_high AndThen = omega arith
mark_high OrElse = omega arith

pub mark_low : (op : BinaryOp) → binary_level op ≤ 13
mark_low (Arith Add) = omega arith
mark_low (Arith Sub) = omega arith
mark_low (Arith Mul) = omega arith
mark_low (Arith Div) = omega arith
mark_low (Arith Rem) = omega arith
mark_low (Arith Shl) = omega arith
mark_low (Arith Shr) = omega arith
mark_low (Arith And) = omega arith
mark_low (Arith Or) = omega arith
mark_low (Arith Xor) = omega arith
mark_low Less = omega arith
mark_low Greater = omega arith
mark_low AtMost = omega arith
mark_low AtLeast = omega arith
mark_low Equal = omega arith
mark_low Unequal = omega arith
mark_low AndThen = omega arith
mark_low OrElse = omega arith

-- ---- fits

fits_followed : (e : Expression) (b : Assignment) → FitsExpression e → FitsAssignment b → FitsExpression (followed_by e b)
fits_followed (One a) b f h = (f, h)
fits_followed (More a e) b f h = (f.0, fits_followed e b f.1 h)

fits_cast : (kind : Option IntKind) (u : Unary) → FitsUnary u → FitsUnary (cast_of kind u)
fits_cast None u f = f
fits_cast (Some kind) u f = f

fits_count : (after : Bool) (p : Target) → FitsTarget p → FitsUnary (count_of after p)
fits_count true p f = f
fits_count false p f = f

-- each of them fits
abbrev AllFit : List g.Argument → Type 0
AllFit [] = Unit {0}
AllFit (x ∷ xs) = FitsArgument x × AllFit xs

fits_all : (x : g.Argument) (xs : List g.Argument) → FitsArgument x → AllFit xs → FitsArguments (listed x xs)
fits_all x [] f h = f
fits_all x (y ∷ xs) f h = (f, fits_all y xs h.0 h.1)

fits_call : (xs : List g.Argument) → AllFit xs → FitsUnary (call_of xs)
fits_call [] h = tt
fits_call (x ∷ xs) h = fits_all x xs h.0 h.1

fits_argument : (x : ExpressionTree) (e : Expression) → FitsExpression e → FitsArgument (argument_of x e)
fits_argument (Typed kind (t.Text bytes)) e f = tt
fits_argument (Typed kind _) e f = fits_assigned e f

mutual
  pub fits : (x : ExpressionTree) → FitsExpression (derivation_of x)
  fits (Typed kind n) = node_fits kind n

  pub node_fits : (kind : Option IntKind) (n : NodeTree) → FitsExpression (node_derivation kind n)
  node_fits kind (t.Number n) = tt
  node_fits kind (t.Character b) = tt
  node_fits kind (t.EnumName name n) = tt
  node_fits kind (t.Text bytes) = tt
  node_fits kind (t.Array home) = tt
  node_fits kind (t.Read p) = target_fits p
  node_fits kind (t.Unary op a) = (prefix_class op, fits_tight (derivation_of a) (fits a))
  node_fits kind (t.Cast a) = fits_cast kind (as_unary (derivation_of a)) (fits_tight (derivation_of a) (fits a))
  node_fits kind (t.Binary op a b) =
      let l = mark_level op in let h = mark_high op in let m = mark_low op in
      let left = binds (binary_level op) (derivation_of a) (omega (arith, m)) in
      let right = binds (binary_level op + 1) (derivation_of b) (omega (arith, m)) in (
        fits_bound (binary_level op) (derivation_of a) (omega (arith, m)) (fits a),
        fits_bound (binary_level op + 1) (derivation_of b) (omega (arith, m)) (fits b),
        omega (arith, l, h),
        omega (arith, l, left),
        omega (arith, l, right),
      )
  node_fits kind (t.Conditional a b c) = (fits_bound 4 (derivation_of a) (omega arith) (fits a), fits b, fits_chosen (derivation_of c) (fits c))
  node_fits kind (t.Assign p a) = (target_fits p, refl, fits_assigned (derivation_of a) (fits a))
  node_fits kind (t.Update op p a) = (target_fits p, refl, fits_assigned (derivation_of a) (fits a))
  node_fits kind (t.Count p up after) = fits_count after (target_of p) (target_fits p)
  node_fits kind (t.Comma a b) = fits_followed (derivation_of a) (as_assignment (derivation_of b)) (fits a) (fits_assigned (derivation_of b) (fits b))
  node_fits kind (t.Call name xs) = fits_call (arguments_of xs) (arguments_fit xs)

  pub target_fits : (p : PlaceTree) → FitsTarget (target_of p)
  target_fits (t.Var home) = tt
  target_fits (t.Cell home a) = fits a

  pub arguments_fit : (xs : Arguments) → AllFit (arguments_of xs)
  arguments_fit NoArgument = tt
  arguments_fit (Argument x xs) = (fits_argument x (derivation_of x) (fits x), arguments_fit xs)

-- ---- levels

followed_level : (e : Expression) (b : Assignment) → loose (followed_by e b) ≡ 1
followed_level (One a) b = refl
followed_level (More a e) b = refl

pub level_is : (x : ExpressionTree) → loose (derivation_of x) ≡ level_of x
level_is (Typed kind (t.Binary op a b)) = mark_level op
level_is (Typed kind (t.Comma a b)) = followed_level (derivation_of a) (as_assignment (derivation_of b))
level_is (Typed kind (t.Conditional a b c)) = refl
level_is (Typed kind (t.Assign p a)) = refl
level_is (Typed kind (t.Update op p a)) = refl
level_is (Typed kind _) = refl

-- ---- counted tokens

-- where a level is needed, the brackets count
pub laid_adds : (need k : ℕ) (x : ExpressionTree) (tokens : List _ → List _) (events : List Event → List Event) →
    Laid need (derivation_of x) tokens events → Adds k (expression_events (derivation_of x))
    → Adds (k + bracket_count (level_of x) need) events
laid_adds need k x tokens events l a =
    adds_along (k + bracket_count (level_of x) need) (bracketed_events (nat_lt (level_of x) need) (derivation_of x)) events
    (λ q. l.1 q ∙ ap (λ n. bracketed_events (nat_lt n need) (derivation_of x) q) (level_is x)) (by_test (nat_lt (level_of x) need))
  where
    by_test : (b : Bool) → Adds (k + cond b 1 0) (bracketed_events b (derivation_of x))
    by_test true =
        adds_as (0 + 1 + k) (k + 1) (λ q. Uncounted ∷ expression_events (derivation_of x) (Counted ∷ q)) (omega arith)
        (adds_uncounted (0 + 1 + k) (λ q. expression_events (derivation_of x) (Counted ∷ q))
        (adds_both (0 + 1) k (λ q. Counted ∷ q) (expression_events (derivation_of x)) (adds_counted 0 (λ q. q) adds_none) a))
    by_test false = adds_as k (k + 0) (expression_events (derivation_of x)) (omega arith) a

adds_type : (kind : IntKind) → Adds 0 (type_events (type_of kind))
adds_type K.Char = adds_uncounted 0 (λ q. q) adds_none
adds_type K.UChar = adds_uncounted 0 (λ q. Uncounted ∷ q) (adds_uncounted 0 (λ q. q) adds_none)
adds_type K.Int = adds_uncounted 0 (λ q. q) adds_none
adds_type K.UInt = adds_uncounted 0 (λ q. q) adds_none
adds_type K.Long = adds_uncounted 0 (λ q. q) adds_none
adds_type K.ULong = adds_uncounted 0 (λ q. Uncounted ∷ q) (adds_uncounted 0 (λ q. q) adds_none)

abbrev one : List Event → List Event
one q = Counted ∷ q

abbrev word : List Event → List Event
word q = Uncounted ∷ q

adds_one : Adds 1 one
adds_one = adds_as (0 + 1) 1 one (omega arith) (adds_counted 0 (λ q. q) adds_none)

adds_word : Adds 0 word
adds_word = adds_uncounted 0 (λ q. q) adds_none

adds_cast : (kind : Option IntKind) (u : Unary) (k : ℕ) → Adds k (unary_events u) → Adds (k + 1) (unary_events (cast_of kind u))
adds_cast None u k a =
    adds_as (1 + k) (k + 1) (λ q. unary_events u (Uncounted ∷ Uncounted ∷ Counted ∷ q)) (omega arith)
    (adds_both 1 k (λ q. Uncounted ∷ Uncounted ∷ Counted ∷ q) (unary_events u)
    (adds_uncounted 1 (λ q. Uncounted ∷ Counted ∷ q) (adds_uncounted 1 one adds_one)) a)
adds_cast (Some kind) u k a =
    adds_as (1 + 0 + k) (k + 1) (λ q. unary_events u (Uncounted ∷ type_events (type_of kind) (Counted ∷ q))) (omega arith)
    (adds_both (1 + 0) k (λ q. Uncounted ∷ type_events (type_of kind) (Counted ∷ q)) (unary_events u)
    (adds_uncounted (1 + 0) (λ q. type_events (type_of kind) (Counted ∷ q)) (adds_both 1 0 one (type_events (type_of kind)) adds_one (adds_type kind))) a)

adds_count : (after : Bool) (p : Target) (k : ℕ) → Adds k (target_events p) → Adds (k + 1) (unary_events (count_of after p))
adds_count false p k a = adds_as (1 + k) (k + 1) (λ q. target_events p (Counted ∷ q)) (omega arith) (adds_both 1 k one (target_events p) adds_one a)
adds_count true p k a = adds_counted k (target_events p) a

adds_followed : (e : Expression) (b : Assignment) (k m : ℕ) → Adds k (expression_events e) → Adds m (assignment_events b) →
    Adds (k + 1 + m) (expression_events (followed_by e b))
adds_followed e b k m a c =
    adds_along (k + 1 + m) (λ q. assignment_events b (Counted ∷ expression_events e q)) (expression_events (followed_by e b)) (followed_events e)
    (adds_both (k + 1) m (λ q. Counted ∷ expression_events e q) (assignment_events b) (adds_counted k (expression_events e) a) c)
  where
    followed_events : (e : Expression) (q : List Event) → expression_events (followed_by e b) q ≡ assignment_events b (Counted ∷ expression_events e q)
    followed_events (One a) q = refl
    followed_events (More a e) q = followed_events e (Counted ∷ assignment_events a q)

-- the arguments of a call count so many tokens together
abbrev AllAdd : ℕ → List g.Argument → Type 0
AllAdd k [] = Unit {0}
AllAdd k (x ∷ xs) = (m : ℕ) × (l : ℕ) × (m + l ≤ k) × Adds m (argument_events x) × AllAdd l xs

adds_all : (k m : ℕ) (x : g.Argument) (xs : List g.Argument) → Adds m (argument_events x) → AllAdd k xs → Adds (m + k) (arguments_events (listed x xs))
adds_all k m x [] a h = adds_as m (m + k) (argument_events x) (omega arith) a
adds_all k m x (y ∷ xs) a (j, l, e, b, c) =
    adds_as (m + (j + l)) (m + k) (arguments_events (listed x (y ∷ xs))) (omega (arith, e))
    (adds_both m (j + l) (λ q. Uncounted ∷ argument_events x q) (arguments_events (listed y xs)) (adds_uncounted m (argument_events x) a)
    (adds_all l j y xs b c))

adds_call : (k : ℕ) (xs : List g.Argument) → AllAdd k xs → Adds (1 + k) (unary_events (call_of xs))
adds_call k [] h = adds_as 1 (1 + k) (λ q. Uncounted ∷ Counted ∷ Uncounted ∷ q) (omega arith)
    (adds_uncounted 1 (λ q. Counted ∷ Uncounted ∷ q) (adds_as (0 + 1) 1 (λ q. Counted ∷ Uncounted ∷ q) (omega arith) (adds_counted 0 word adds_word)))
adds_call k (x ∷ xs) (m, l, e, a, h) =
    adds_as (1 + (m + l)) (1 + k) (λ q. Uncounted ∷ arguments_events (listed x xs) (Counted ∷ Uncounted ∷ q)) (omega (arith, e))
    (adds_uncounted (1 + (m + l)) (λ q. arguments_events (listed x xs) (Counted ∷ Uncounted ∷ q))
    (adds_both 1 (m + l) (λ q. Counted ∷ Uncounted ∷ q) (arguments_events (listed x xs))
    (adds_as (0 + 1) 1 (λ q. Counted ∷ Uncounted ∷ q) (omega arith) (adds_counted 0 word adds_word)) (adds_all l m x xs a h)))

adds_argument : (x : ExpressionTree) → Adds (counted x) (expression_events (derivation_of x)) →
    Adds (counted x + bracket_count (level_of x) 2) (argument_events (argument_of x (derivation_of x)))
adds_argument (Typed kind (t.Text bytes)) a = adds_as 0 (0 + bracket_count 14 2) (λ q. Uncounted ∷ q) (omega arith) adds_word
adds_argument (Typed kind n) a = other kind n a
  where
    other : (kind : Option IntKind) (n : NodeTree) → Adds (counted (Typed kind n)) (expression_events (derivation_of (Typed kind n))) →
        Adds (counted (Typed kind n) + bracket_count (level_of (Typed kind n)) 2) (assignment_events (as_assignment (derivation_of (Typed kind n))))
    other kind n a = laid_adds 2 (counted (Typed kind n)) (Typed kind n) _ (assignment_events (as_assignment (derivation_of (Typed kind n))))
        (lies_assigned (derivation_of (Typed kind n)) (fits (Typed kind n))) a

mutual
  pub costs : (x : ExpressionTree) → Adds (counted x) (expression_events (derivation_of x))
  costs (Typed kind n) = node_costs kind n

  pub node_costs : (kind : Option IntKind) (n : NodeTree) → Adds (node_counted n) (expression_events (node_derivation kind n))
  node_costs kind (t.Number n) = adds_word
  node_costs kind (t.Character b) = adds_word
  node_costs kind (t.EnumName name n) = adds_word
  node_costs kind (t.Text bytes) = adds_word
  node_costs kind (t.Array home) = adds_word
  node_costs kind (t.Read p) = target_costs p
  node_costs kind (t.Unary op a) =
      let u = laid_adds 14 (counted a) a _ (unary_events (as_unary (derivation_of a))) (lies_tight (derivation_of a) (fits a)) (costs a) in
      adds_as (1 + (counted a + bracket_count (level_of a) 14)) (counted a + bracket_count (level_of a) 14 + 1)
      (λ q. unary_events (as_unary (derivation_of a)) (Counted ∷ q)) (omega arith)
      (adds_both 1 (counted a + bracket_count (level_of a) 14) one (unary_events (as_unary (derivation_of a))) adds_one u)
  node_costs kind (t.Cast a) =
      adds_cast kind (as_unary (derivation_of a)) (counted a + bracket_count (level_of a) 14)
      (laid_adds 14 (counted a) a _ (unary_events (as_unary (derivation_of a))) (lies_tight (derivation_of a) (fits a)) (costs a))
  node_costs kind (t.Binary op a b) =
      let h = mark_high op in
      let x = laid_adds (binary_level op) (counted a) a _ (binary_events (as_binary (binary_level op) (derivation_of a)))
      (lies_bound (binary_level op) (derivation_of a) h (fits a)) (costs a) in
      let y = laid_adds (binary_level op + 1) (counted b) b _ (binary_events (as_binary (binary_level op + 1) (derivation_of b)))
      (lies_bound (binary_level op + 1) (derivation_of b) (omega (arith, h)) (fits b)) (costs b) in
      adds_both _ _ (λ q. Counted ∷ binary_events (as_binary (binary_level op) (derivation_of a)) q)
      (binary_events (as_binary (binary_level op + 1) (derivation_of b)))
      (adds_counted _ (binary_events (as_binary (binary_level op) (derivation_of a))) x) y
  node_costs kind (t.Conditional a b c) =
      let x = laid_adds 4 (counted a) a _ (binary_events (as_binary 4 (derivation_of a))) (lies_bound 4 (derivation_of a) (omega arith) (fits a)) (costs a) in
      let z = laid_adds 3 (counted c) c _ (conditional_events (as_conditional (derivation_of c))) (lies_chosen (derivation_of c) (fits c)) (costs c) in
      adds_both _ _ (λ q. Uncounted ∷ expression_events (derivation_of b) (Counted ∷ binary_events (as_binary 4 (derivation_of a)) q))
      (conditional_events (as_conditional (derivation_of c)))
      (adds_uncounted _ (λ q. expression_events (derivation_of b) (Counted ∷ binary_events (as_binary 4 (derivation_of a)) q))
      (adds_both _ _ (λ q. Counted ∷ binary_events (as_binary 4 (derivation_of a)) q) (expression_events (derivation_of b))
      (adds_counted _ (binary_events (as_binary 4 (derivation_of a))) x) (costs b))) z
  node_costs kind (t.Assign p a) =
      adds_both _ _ (λ q. Counted ∷ target_events (target_of p) q) (assignment_events (as_assignment (derivation_of a)))
      (adds_counted _ (target_events (target_of p)) (target_costs p))
      (laid_adds 2 (counted a) a _ (assignment_events (as_assignment (derivation_of a))) (lies_assigned (derivation_of a) (fits a)) (costs a))
  node_costs kind (t.Update op p a) =
      adds_both _ _ (λ q. Counted ∷ target_events (target_of p) q) (assignment_events (as_assignment (derivation_of a)))
      (adds_counted _ (target_events (target_of p)) (target_costs p))
      (laid_adds 2 (counted a) a _ (assignment_events (as_assignment (derivation_of a))) (lies_assigned (derivation_of a) (fits a)) (costs a))
  node_costs kind (t.Count p up after) = adds_count after (target_of p) (place_counted p) (target_costs p)
  node_costs kind (t.Comma a b) =
      adds_followed (derivation_of a) (as_assignment (derivation_of b)) (counted a) (counted b + bracket_count (level_of b) 2) (costs a)
      (laid_adds 2 (counted b) b _ (assignment_events (as_assignment (derivation_of b))) (lies_assigned (derivation_of b) (fits b)) (costs b))
  node_costs kind (t.Call name xs) = adds_call (all_counted xs) (arguments_of xs) (arguments_cost xs)

  pub target_costs : (p : PlaceTree) → Adds (place_counted p) (target_events (target_of p))
  target_costs (t.Var home) = adds_word
  target_costs (t.Cell home a) =
      adds_as (1 + counted a) (1 + counted a) (λ q. Uncounted ∷ expression_events (derivation_of a) (Counted ∷ Uncounted ∷ q)) (omega arith)
      (adds_uncounted (1 + counted a) (λ q. expression_events (derivation_of a) (Counted ∷ Uncounted ∷ q))
      (adds_both 1 (counted a) (λ q. Counted ∷ Uncounted ∷ q) (expression_events (derivation_of a))
      (adds_as (0 + 1) 1 (λ q. Counted ∷ Uncounted ∷ q) (omega arith) (adds_counted 0 word adds_word)) (costs a)))

  pub arguments_cost : (xs : Arguments) → AllAdd (all_counted xs) (arguments_of xs)
  arguments_cost NoArgument = tt
  arguments_cost (Argument x xs) = (counted x + bracket_count (level_of x) 2, all_counted xs, omega arith, adds_argument x (costs x), arguments_cost xs)
