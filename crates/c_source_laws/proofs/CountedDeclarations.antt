-- The full expressions of a derived declaration count no more tokens than the most that count in one of its syntax,
-- and within the limits of a derivation no more than their limit.
use Rattle.std.proofs.Common.{◌≡◌, ◌≤◌, ◌+◌, ℕ, Bool, true, false, cond, List, [], ◌∷◌, ◌++◌, map, Option, Some, None, refl, sym, subst, ◌∙◌, arith}
use Rattle.c_grammar.specs.declared.class.Class.{Class}
use Rattle.c_grammar.specs.declared.class.Class.TheVariants as c
use Rattle.c_grammar.specs.declared.syntax.Syntax.{Syntax}
use Rattle.c_grammar.specs.declared.syntax.Production.{Production}
use Rattle.c_grammar.specs.declared.syntax.Production.TheVariants as p
use Rattle.c_grammar.specs.Nodes.{node, leaf}
use Rattle.c_grammar.specs.Events.{Event, Outside, first_over}
use Rattle.c_grammar.specs.Counts.{type_events, expression_events, assignment_events, conditional_events, word_events, more_events, rest_events, size_events, initialiser_events, value_events, declarator_events, local_events}
use Rattle.c_grammar.specs.Expressions.{Base, LongIntBase, NumberType, OfBase, Signed, SignedOf, Unsigned, UnsignedOf, Expression, Assignment, Conditional, expression_tokens, assignment_tokens, conditional_tokens, FitsExpression, FitsAssignment, FitsConditional}
use Rattle.c_grammar.specs.ExpressionSyntax.{base_parts, type_end, type_parts, type_node, expression_node, assignment_end, assignment_node, conditional_end, conditional_node}
use Rattle.c_grammar.specs.Statements.{Size, NoSize, Unsized, Sized, Initialiser, OneValue, ValueList, Declarator, Declared, Local, Locals, more_tokens, rest_tokens, size_tokens, initialiser_tokens, value_tokens, declarator_tokens, local_tokens, FitsMore, FitsSize, FitsInitialiser, FitsValue, FitsDeclarator, FitsLocal}
use Rattle.c_grammar.specs.StatementSyntax.{word_end, more_end, size_end, initialiser_end, value_end, declarator_end, word_parts, more_parts, rest_parts, size_parts, initialiser_parts, initialiser_node, value_parts, declarator_node, local_node}
use Rattle.c_grammar.specs.Counted.{is_full}
use Rattle.c_grammar.specs.Parts.{part_of, greatest}
use Rattle.c_grammar.specs.Terms.{At}
use Rattle.c_resolved_defs.specs.Within.{Each}
use Rattle.reread_parts_laws.specs.WrittenExpressions.{expression_form, assignment_form, conditional_form}
use Rattle.reread_parts_laws.specs.WrittenStatements.{further_terms, written_initialiser, written_value, written_declarator, further_declarators, written_declaration}
use Rattle.c_resolving_laws.specs.Counts.{IsFew, IsFewInitialiser, IsFewDeclarator, IsFewDeclaration}
use Rattle.c_source_laws.proofs.Depths.{Back, before, assignment_back, more_back, rest_back, value_back, declarator_back}
use Rattle.c_source_laws.proofs.Past.{type_past, assignment_past, word_past, size_past, declarator_past}
use Rattle.c_source_laws.proofs.Numbered.{Along}
use Rattle.c_source_laws.proofs.Weights.{IsWeighed}
use Rattle.c_source_laws.proofs.Counted.{expression_low, assignment_low, conditional_low}
use Rattle.c_source_laws.proofs.CountedPrinted.{expression_printed, assignment_printed, conditional_printed}
use Rattle.c_source_laws.proofs.CountedNodes.{node_most, expression_most, assignment_most, conditional_most}

module _ (word : ℕ → List ℕ) where
  abbrev Stands : ℕ → List Class → Type 0
  Stands at r = Along IsWeighed word at r

  abbrev pub most_in : Syntax → ℕ
  most_in x = (part_of word x).most

  -- in each of these count so many at most
  abbrev pub Low : ℕ → List Syntax → Type 0
  Low m xs = Each (λ x. most_in x ≤ m) xs

  pub split_low : (m : ℕ) (xs ys : List Syntax) → Low m (xs ++ ys) → Low m xs × Low m ys
  split_low m [] ys h = (tt, h)
  split_low m (x ∷ xs) ys h = let g = split_low m xs ys (h.1) in ((h.0, g.0), g.1)

  pub join_low : (m : ℕ) (xs ys : List Syntax) → Low m xs → Low m ys → Low m (xs ++ ys)
  join_low m [] ys g h = h
  join_low m (x ∷ xs) ys g h = (g.0, join_low m xs ys (g.1) h)

  pub greatest_low : (m : ℕ) (xs : List Syntax) → Low m xs → greatest (map (part_of word) xs) ≤ m
  greatest_low m [] h = omega arith
  greatest_low m (x ∷ xs) h = let a = h.0 in let b = greatest_low m xs (h.1) in omega (arith, a, b)

  pub low_greatest : (m : ℕ) (xs : List Syntax) → greatest (map (part_of word) xs) ≤ m → Low m xs
  low_greatest m [] h = tt
  low_greatest m (x ∷ xs) h = (omega (arith, h), low_greatest m xs (omega (arith, h)))

  -- a node that is no full expression, by its parts
  node_greatest : (rule : Production) (first after : ℕ) (xs : List Syntax) → is_full rule ≡ false →
      most_in (node rule first after xs) ≡ greatest (map (part_of word) xs)
  node_greatest rule first after xs e = node_most word rule first after xs ∙ other (is_full rule) _ (greatest (map (part_of word) xs)) e
    where
      other : (b : Bool) (n k : ℕ) → b ≡ false → cond b n k ≡ k
      other true n k e = cc
      other false n k e = refl

  pub parts_low : (m : ℕ) (rule : Production) (first after : ℕ) (xs : List Syntax) → is_full rule ≡ false → most_in (node rule first after xs) ≤ m → Low m xs
  parts_low m rule first after xs e h = low_greatest m xs (subst (λ n. n ≤ m) (node_greatest rule first after xs e) h)

  pub node_low : (m : ℕ) (rule : Production) (first after : ℕ) (xs : List Syntax) → is_full rule ≡ false → Low m xs → most_in (node rule first after xs) ≤ m
  node_low m rule first after xs e h = subst (λ n. n ≤ m) (sym (node_greatest rule first after xs e)) (greatest_low m xs h)

  pub leaf_low : (m at : ℕ) → most_in (leaf at) ≤ m
  leaf_low m at = node_low m p.Token at (at + 1) [] refl tt

  base_low : (m : ℕ) (b : Base) (at : ℕ) → Low m (base_parts at b)
  base_low m LongIntBase at = (leaf_low m at, (leaf_low m (at + 1), tt))
  base_low m _ at = (leaf_low m at, tt)

  type_parts_low : (m : ℕ) (n : NumberType) (at : ℕ) → Low m (type_parts at n)
  type_parts_low m (OfBase b) at = base_low m b at
  type_parts_low m Signed at = (leaf_low m at, tt)
  type_parts_low m (SignedOf b) at = (leaf_low m at, base_low m b (at + 1))
  type_parts_low m Unsigned at = (leaf_low m at, tt)
  type_parts_low m (UnsignedOf b) at = (leaf_low m at, base_low m b (at + 1))

  pub type_low : (m : ℕ) (n : NumberType) (at : ℕ) → most_in (type_node at n) ≤ m
  type_low m n at = node_low m p.NumberType at (type_end at n) (type_parts at n) refl (type_parts_low m n at)

  pub word_low : (m : ℕ) (given : Bool) (at : ℕ) → Low m (word_parts at given)
  word_low m false at = tt
  word_low m true at = (leaf_low m at, tt)

  -- ---- full expressions

  pub expression_few : (m : ℕ) (e : Expression) (at : ℕ) (r : List Class) → FitsExpression e → Stands at (expression_tokens e r) →
      most_in (expression_node at e) ≤ m → IsFew word m 1 (At at (expression_form at e))
  expression_few m e at r f s h = let g = expression_printed word e at r 1 (omega arith) f s in let k = expression_most word e at r f s in
      omega (arith, g, h, k)

  pub assignment_few : (m : ℕ) (a : Assignment) (at : ℕ) (r : List Class) → FitsAssignment a → Stands at (assignment_tokens a r) →
      most_in (assignment_node at a) ≤ m → IsFew word m 2 (At at (assignment_form at a))
  assignment_few m a at r f s h = let g = assignment_printed word a at r 2 (omega arith) f s in let k = assignment_most word a at r f s in
      omega (arith, g, h, k)

  pub conditional_few : (m : ℕ) (d : Conditional) (at : ℕ) (r : List Class) → FitsConditional d → Stands at (conditional_tokens d r) →
      most_in (conditional_node at d) ≤ m → IsFew word m 3 (At at (conditional_form at d))
  conditional_few m d at r f s h = let g = conditional_printed word d at r 3 (omega arith) f s in let k = conditional_most word d at r f s in
      omega (arith, g, h, k)

  pub expression_limit : (e : Expression) (at : ℕ) (r : List Class) (q : List Event) → FitsExpression e → Stands at (expression_tokens e r) →
      first_over (expression_events e q) ≡ None → most_in (expression_node at e) ≤ 400
  expression_limit e at r q f s h = let g = expression_low e q h in let k = expression_most word e at r f s in omega (arith, g, k)

  pub assignment_limit : (a : Assignment) (at : ℕ) (r : List Class) (q : List Event) → FitsAssignment a → Stands at (assignment_tokens a r) →
      first_over (assignment_events a q) ≡ None → most_in (assignment_node at a) ≤ 400
  assignment_limit a at r q f s h = let g = assignment_low a q h in let k = assignment_most word a at r f s in omega (arith, g, k)

  pub conditional_limit : (d : Conditional) (at : ℕ) (r : List Class) (q : List Event) → FitsConditional d → Stands at (conditional_tokens d r) →
      first_over (conditional_events d q) ≡ None → most_in (conditional_node at d) ≤ 400
  conditional_limit d at r q f s h = let g = conditional_low d q h in let k = conditional_most word d at r f s in omega (arith, g, k)

  -- ---- each counts no more than the most

  rest_few : (m : ℕ) (xs : List Assignment) (trailing : Bool) (at : ℕ) (r : List Class) → FitsMore FitsAssignment xs →
      Stands at (rest_tokens assignment_tokens xs trailing r)
      → Low m (rest_parts assignment_end assignment_node at xs trailing) → Each (IsFew word m 2) (further_terms at xs)
  rest_few m [] trailing at r f s h = tt
  rest_few m (a ∷ xs) trailing at r f s h = (
    assignment_few m a (at + 1) _ (f.0) (s.1) ((h.1).0),
    rest_few m xs trailing (assignment_end (at + 1) a) r (f.1)
        (assignment_past IsWeighed word a (at + 1) _ (s.1)) ((h.1).1),
  )

  initialiser_few : (m : ℕ) (i : Initialiser) (at : ℕ) (r : List Class) → FitsInitialiser i → Stands at (initialiser_tokens i r) →
      most_in (initialiser_node at i) ≤ m → IsFewInitialiser word m (written_initialiser at i)
  initialiser_few m (OneValue a) at r f s h = assignment_few m a at r f s
      (parts_low m p.Initialiser at (initialiser_end at (OneValue a)) (initialiser_parts at (OneValue a)) refl h).0
  initialiser_few m (ValueList a xs trailing) at r f s h =
      let l = parts_low m p.Initialiser at (initialiser_end at (ValueList a xs trailing)) (initialiser_parts at (ValueList a xs trailing)) refl h in (
        assignment_few m a (at + 1) _ (f.0) (s.1) ((l.1).0),
        rest_few m xs trailing (assignment_end (at + 1) a) r (f.1)
            (assignment_past IsWeighed word a (at + 1) _ (s.1)) ((l.1).1),
      )

  value_few : (m : ℕ) (o : Option Initialiser) (at : ℕ) (r : List Class) → FitsValue o → Stands at (value_tokens o r) → Low m (value_parts at o) →
      IsFewInitialiser word m (written_value at o)
  value_few m None at r f s h = tt
  value_few m (Some i) at r f s h = initialiser_few m i (at + 1) r f (s.1) ((h.1).0)

  declarator_few : (m : ℕ) (d : Declarator) (at : ℕ) (r : List Class) → FitsDeclarator d → Stands at (declarator_tokens d r) →
      most_in (declarator_node at d) ≤ m → IsFewDeclarator word m (written_declarator at d)
  declarator_few m (Declared size value) at r f s h =
      let x = size_end (at + 1) size in
      let l = parts_low m p.Declarator at (value_end x value) (leaf at ∷ size_parts (at + 1) size ++ value_parts x value) refl h in
      value_few m value x r (f.1) (size_past IsWeighed word size (at + 1) _ (s.1)) (split_low m (size_parts (at + 1) size) (value_parts x value) (l.1)).1

  further_few : (m : ℕ) (ds : List Declarator) (at : ℕ) (r : List Class) → FitsMore FitsDeclarator ds → Stands at (more_tokens declarator_tokens ds r)
      → Low m (more_parts declarator_end declarator_node at ds) → Each (IsFewDeclarator word m) (further_declarators at ds)
  further_few m [] at r f s h = tt
  further_few m (d ∷ ds) at r f s h = (
    declarator_few m d (at + 1) _ (f.0) (s.1) ((h.1).0),
    further_few m ds (declarator_end (at + 1) d) r (f.1)
        (declarator_past IsWeighed word d (at + 1) _ (s.1)) ((h.1).1),
  )

  pub local_few : (m : ℕ) (x : Local) (at : ℕ) (r : List Class) → FitsLocal x → Stands at (local_tokens x r) → most_in (local_node at x) ≤ m →
      IsFewDeclaration word m (written_declaration at x)
  local_few m (Locals constant n d ds) at r f s h =
      let x = word_end at constant in
      let y = type_end x n in
      let z = declarator_end y d in
      let w = more_end declarator_end z ds in
      let more = more_parts declarator_end declarator_node z ds in
      let front = type_node x n ∷ declarator_node y d ∷ more in
      let l = split_low m (word_parts at constant) front (split_low m (word_parts at constant ++ front) (leaf w ∷ [])
      (parts_low m p.Local at (w + 1) (word_parts at constant ++ front ++ leaf w ∷ []) refl h)).0 in
      let u = type_past IsWeighed word n x _ (word_past IsWeighed word constant c.Const at _ s) in
      (declarator_few m d y _ (f.0) u (((l.1).1).0), further_few m ds z (c.Semicolon ∷ r) (f.1) (declarator_past IsWeighed word d y _ u) (((l.1).1).1))

  -- ---- and within the limits of a derivation the most is no more than the limit

  pub size_limit : (x : Size) (at : ℕ) (r : List Class) (q : List Event) → FitsSize x → Stands at (size_tokens x r) →
      first_over (size_events x q) ≡ None → Low 400 (size_parts at x)
  size_limit NoSize at r q f s h = tt
  size_limit Unsized at r q f s h = (leaf_low 400 at, (leaf_low 400 (at + 1), tt))
  size_limit (Sized d) at r q f s h = (
    leaf_low 400 at,
    (
      conditional_limit d (at + 1) _ (Outside ∷ q) f (s.1) (before Outside (conditional_events d (Outside ∷ q)) h),
      (leaf_low 400 (conditional_end (at + 1) d), tt),
    ),
  )

  -- of a list behind its first element
  pub more_limit : {X : Type 0} (F : X → Type 0) (y : X → List Class → List Class) (z : ℕ → X → ℕ) (k : X → List Event → List Event) (n : ℕ → X → Syntax)
      → ((x : X) (at : ℕ) (r : List Class) → Stands at (y x r) → Stands (z at x) r) → ((x : X) → Back (k x))
      → ((x : X) (at : ℕ) (r : List Class) (q : List Event) → F x → Stands at (y x r) → first_over (k x q) ≡ None → most_in (n at x) ≤ 400)
      → (xs : List X) (at : ℕ) (r : List Class) (q : List Event) → FitsMore F xs → Stands at (more_tokens y xs r) →
      first_over (more_events k xs q) ≡ None → Low 400 (more_parts z n at xs)
  more_limit {X} F y z k n past back limit [] at r q f s h = tt
  more_limit {X} F y z k n past back limit (x ∷ xs) at r q f s h =
      let u = k x (Outside ∷ q) in
      let g = limit x (at + 1) _ (Outside ∷ q) (f.0) (s.1) (more_back k back xs u h) in
      (leaf_low 400 at, (g, more_limit F y z k n past back limit xs (z (at + 1) x) r u (f.1) (past x (at + 1) _ (s.1)) h))

  rest_limit : (xs : List Assignment) (trailing : Bool) (at : ℕ) (r : List Class) (q : List Event) → FitsMore FitsAssignment xs →
      Stands at (rest_tokens assignment_tokens xs trailing r)
      → first_over (rest_events assignment_events xs trailing q) ≡ None → Low 400 (rest_parts assignment_end assignment_node at xs trailing)
  rest_limit [] trailing at r q f s h = join_low 400 (word_parts at trailing) (leaf (word_end at trailing) ∷ []) (word_low 400 trailing at)
      (leaf_low 400 (word_end at trailing), tt)
  rest_limit (a ∷ xs) trailing at r q f s h =
      let u = assignment_events a (Outside ∷ q) in
      let g = assignment_limit a (at + 1) _ (Outside ∷ q) (f.0) (s.1) (rest_back assignment_events assignment_back xs trailing u h) in
      (leaf_low 400 at, (g, rest_limit xs trailing (assignment_end (at + 1) a) r u (f.1) (assignment_past IsWeighed word a (at + 1) _ (s.1)) h))

  initialiser_limit : (i : Initialiser) (at : ℕ) (r : List Class) (q : List Event) → FitsInitialiser i → Stands at (initialiser_tokens i r) →
      first_over (initialiser_events i q) ≡ None → most_in (initialiser_node at i) ≤ 400
  initialiser_limit (OneValue a) at r q f s h = node_low 400 p.Initialiser at (initialiser_end at (OneValue a)) (initialiser_parts at (OneValue a))
      refl (assignment_limit a at r q f s h, tt)
  initialiser_limit (ValueList a xs trailing) at r q f s h =
      let u = assignment_events a (Outside ∷ q) in
      let g = assignment_limit a (at + 1) _ (Outside ∷ q) (f.0) (s.1) (rest_back assignment_events assignment_back xs trailing u h) in
      node_low 400 p.Initialiser at (initialiser_end at (ValueList a xs trailing)) (initialiser_parts at (ValueList a xs trailing)) refl
      (leaf_low 400 at, (g, rest_limit xs trailing (assignment_end (at + 1) a) r u (f.1) (assignment_past IsWeighed word a (at + 1) _ (s.1)) h))

  value_limit : (o : Option Initialiser) (at : ℕ) (r : List Class) (q : List Event) → FitsValue o → Stands at (value_tokens o r) →
      first_over (value_events o q) ≡ None → Low 400 (value_parts at o)
  value_limit None at r q f s h = tt
  value_limit (Some i) at r q f s h = (leaf_low 400 at, (initialiser_limit i (at + 1) r (Outside ∷ q) f (s.1) h, tt))

  declarator_limit : (d : Declarator) (at : ℕ) (r : List Class) (q : List Event) → FitsDeclarator d → Stands at (declarator_tokens d r) →
      first_over (declarator_events d q) ≡ None → most_in (declarator_node at d) ≤ 400
  declarator_limit (Declared size value) at r q f s h =
      let x = size_end (at + 1) size in
      let u = size_events size (Outside ∷ q) in
      node_low 400 p.Declarator at (value_end x value) (leaf at ∷ size_parts (at + 1) size ++ value_parts x value) refl (
        leaf_low 400 at,
        join_low 400 (size_parts (at + 1) size) (value_parts x value)
            (size_limit size (at + 1) _ (Outside ∷ q) (f.0) (s.1) (value_back value u h))
            (value_limit value x r u (f.1) (size_past IsWeighed word size (at + 1) _ (s.1)) h),
      )

  pub local_limit : (x : Local) (at : ℕ) (r : List Class) (q : List Event) → FitsLocal x → Stands at (local_tokens x r) →
      first_over (local_events x q) ≡ None → most_in (local_node at x) ≤ 400
  local_limit (Locals constant n d ds) at r q f s h =
      let x = word_end at constant in
      let y = type_end x n in
      let z = declarator_end y d in
      let w = more_end declarator_end z ds in
      let more = more_parts declarator_end declarator_node z ds in
      let front = type_node x n ∷ declarator_node y d ∷ more in
      let u = type_past IsWeighed word n x _ (word_past IsWeighed word constant c.Const at _ s) in
      let k = type_events n (word_events constant q) in
      let v = declarator_events d k in
      let g = before Outside (more_events declarator_events ds v) h in
      let m = more_limit FitsDeclarator declarator_tokens declarator_end declarator_events declarator_node (declarator_past IsWeighed word)
      declarator_back declarator_limit ds z (c.Semicolon ∷ r) v (f.1) (declarator_past IsWeighed word d y _ u) g in
      let e = join_low 400 (word_parts at constant) front (word_low 400 constant at)
      (type_low 400 n x, (declarator_limit d y _ k (f.0) u (more_back declarator_events declarator_back ds v g), m)) in
      node_low 400 p.Local at (w + 1) (word_parts at constant ++ front ++ leaf w ∷ []) refl
      (join_low 400 (word_parts at constant ++ front) (leaf w ∷ []) e (leaf_low 400 w, tt))
