-- The counted tokens of a derivation, by those of its full expressions.
use Rattle.std.proofs.Common.{◌≡◌, ◌≤◌, ◌+◌, ℕ, Bool, List, [], ◌∷◌, ◌++◌, Option, Some, None, refl, sym, subst}
use Rattle.c_grammar.specs.declared.class.Class.{Class}
use Rattle.c_grammar.specs.declared.class.Class.TheVariants as c
use Rattle.c_grammar.specs.declared.syntax.Production.TheVariants as p
use Rattle.c_grammar.specs.Nodes.{leaf}
use Rattle.c_grammar.specs.Expressions.{Expression, Assignment, Conditional, expression_tokens, assignment_tokens, conditional_tokens, FitsExpression, FitsAssignment, FitsConditional}
use Rattle.c_grammar.specs.ExpressionSyntax.{type_end, expression_end, assignment_end, conditional_end, type_node, expression_node, assignment_node, conditional_node}
use Rattle.c_grammar.specs.Statements.{Size, NoSize, Unsized, Sized, Initialiser, OneValue, ValueList, Declarator, Declared, Local, Locals, Label, NameLabel, CaseLabel, DefaultLabel, ForStart, StartLocal, StartValue, Braces, Items, NoItems, LocalItem, StatementItem, Statement, Labelled, Unlabelled, Plain, Compound, Simple, If, IfElse, While, DoWhile, For, Switch, Goto, Break, Continue, Return, more_tokens, rest_tokens, optional_tokens, size_tokens, initialiser_tokens, value_tokens, declarator_tokens, local_tokens, label_tokens, for_start_tokens, items_tokens, statement_tokens, plain_tokens, FitsMore, FitsOptional, FitsSize, FitsInitialiser, FitsValue, FitsDeclarator, FitsLocal, FitsLabel, FitsForStart, FitsItems, FitsStatement, FitsPlain}
use Rattle.c_grammar.specs.StatementSyntax.{word_end, more_end, optional_end, size_end, initialiser_end, value_end, declarator_end, local_end, label_end, for_start_end, items_end, statement_end, plain_end, word_parts, more_parts, rest_parts, optional_parts, size_parts, initialiser_parts, initialiser_node, value_parts, declarator_node, local_node, label_parts, label_node, for_start_parts, block_node, items_parts, statement_parts, statement_node, plain_parts}
use Rattle.c_resolved_defs.specs.Within.{Each}
use Rattle.c_source_laws.proofs.Numbered.{Along}
use Rattle.c_source_laws.proofs.Weights.{IsWeighed}
use Rattle.c_source_laws.proofs.Counted.{expression_count, assignment_count, conditional_count}
use Rattle.c_source_laws.proofs.CountedNodes.{expression_most, assignment_most, conditional_most}
use Rattle.c_source_laws.proofs.CountedDeclarations.{most_in, Low, join_low, node_low, leaf_low, type_low, word_low}
use Rattle.c_source_laws.proofs.Past.{type_past, word_past, expression_past, assignment_past, optional_past, size_past, declarator_past, local_past, label_past, start_past, statement_past}

-- ---- in each full expression of it count so many at most

module _ (m : ℕ) where
  abbrev pub FewOptional : Option Expression → Type 0
  FewOptional None = Unit {0}
  FewOptional (Some e) = expression_count e ≤ m

  abbrev pub FewSize : Size → Type 0
  FewSize (Sized d) = conditional_count d ≤ m
  FewSize _ = Unit {0}

  abbrev pub FewAssignment : Assignment → Type 0
  FewAssignment a = assignment_count a ≤ m

  abbrev pub FewInitialiser : Initialiser → Type 0
  FewInitialiser (OneValue a) = FewAssignment a
  FewInitialiser (ValueList a xs trailing) = FewAssignment a × Each FewAssignment xs

  abbrev pub FewValue : Option Initialiser → Type 0
  FewValue None = Unit {0}
  FewValue (Some i) = FewInitialiser i

  abbrev pub FewDeclarator : Declarator → Type 0
  FewDeclarator (Declared size value) = FewSize size × FewValue value

  abbrev pub FewLocal : Local → Type 0
  FewLocal (Locals constant n d ds) = FewDeclarator d × Each FewDeclarator ds

  abbrev pub FewLabel : Label → Type 0
  FewLabel (CaseLabel d) = conditional_count d ≤ m
  FewLabel _ = Unit {0}

  abbrev pub FewStart : ForStart → Type 0
  FewStart (StartLocal x) = FewLocal x
  FewStart (StartValue o) = FewOptional o

  abbrev mutual
    pub FewItems : Items → Type 0
    FewItems NoItems = Unit {0}
    FewItems (LocalItem x xs) = FewLocal x × FewItems xs
    FewItems (StatementItem s xs) = FewStatement s × FewItems xs

    pub FewStatement : Statement → Type 0
    FewStatement (Labelled x s) = FewLabel x × FewStatement s
    FewStatement (Unlabelled x) = FewPlain x

    pub FewPlain : Plain → Type 0
    FewPlain (Compound (Braces xs)) = FewItems xs
    FewPlain (Simple o) = FewOptional o
    FewPlain (If e s) = (expression_count e ≤ m) × FewStatement s
    FewPlain (IfElse e s t) = (expression_count e ≤ m) × FewStatement s × FewStatement t
    FewPlain (While e s) = (expression_count e ≤ m) × FewStatement s
    FewPlain (DoWhile s e) = FewStatement s × (expression_count e ≤ m)
    FewPlain (For x t u s) = FewStart x × FewOptional t × FewOptional u × FewStatement s
    FewPlain (Switch e s) = (expression_count e ≤ m) × FewStatement s
    FewPlain (Return o) = FewOptional o
    FewPlain _ = Unit {0}

module _ (word : ℕ → List ℕ) (m : ℕ) where
  abbrev pub Stands : ℕ → List Class → Type 0
  Stands at r = Along IsWeighed word at r

  is_low : (n k : ℕ) → n ≡ k → k ≤ m → n ≤ m
  is_low n k e h = subst (λ j. j ≤ m) (sym e) h

  expression_low : (e : Expression) (at : ℕ) (r : List Class) → FitsExpression e → Stands at (expression_tokens e r) → expression_count e ≤ m →
      most_in word (expression_node at e) ≤ m
  expression_low e at r f s h = is_low _ _ (expression_most word e at r f s) h

  assignment_low : (a : Assignment) (at : ℕ) (r : List Class) → FitsAssignment a → Stands at (assignment_tokens a r) → assignment_count a ≤ m →
      most_in word (assignment_node at a) ≤ m
  assignment_low a at r f s h = is_low _ _ (assignment_most word a at r f s) h

  conditional_low : (d : Conditional) (at : ℕ) (r : List Class) → FitsConditional d → Stands at (conditional_tokens d r) → conditional_count d ≤ m →
      most_in word (conditional_node at d) ≤ m
  conditional_low d at r f s h = is_low _ _ (conditional_most word d at r f s) h

  -- ---- declarations

  size_low : (x : Size) (at : ℕ) (r : List Class) → FitsSize x → Stands at (size_tokens x r) → FewSize m x → Low word m (size_parts at x)
  size_low NoSize at r f s h = tt
  size_low Unsized at r f s h = (leaf_low word m at, (leaf_low word m (at + 1), tt))
  size_low (Sized d) at r f s h = (leaf_low word m at, (conditional_low d (at + 1) _ f (s.1) h, (leaf_low word m (conditional_end (at + 1) d), tt)))

  rest_low : (xs : List Assignment) (trailing : Bool) (at : ℕ) (r : List Class) → FitsMore FitsAssignment xs →
      Stands at (rest_tokens assignment_tokens xs trailing r) → Each (FewAssignment m) xs →
      Low word m (rest_parts assignment_end assignment_node at xs trailing)
  rest_low [] trailing at r f s h = join_low word m (word_parts at trailing) (leaf (word_end at trailing) ∷ []) (word_low word m trailing at)
      (leaf_low word m (word_end at trailing), tt)
  rest_low (a ∷ xs) trailing at r f s h = (
    leaf_low word m at,
    (
      assignment_low a (at + 1) _ (f.0) (s.1) (h.0),
      rest_low xs trailing (assignment_end (at + 1) a) r (f.1) (assignment_past IsWeighed word a (at + 1) _ (s.1)) (h.1),
    ),
  )

  initialiser_low : (i : Initialiser) (at : ℕ) (r : List Class) → FitsInitialiser i → Stands at (initialiser_tokens i r) → FewInitialiser m i →
      most_in word (initialiser_node at i) ≤ m
  initialiser_low (OneValue a) at r f s h = node_low word m p.Initialiser at (initialiser_end at (OneValue a)) (initialiser_parts at (OneValue a))
      refl (assignment_low a at r f s h, tt)
  initialiser_low (ValueList a xs trailing) at r f s h =
      node_low word m p.Initialiser at (initialiser_end at (ValueList a xs trailing)) (initialiser_parts at (ValueList a xs trailing)) refl (
        leaf_low word m at,
        (
          assignment_low a (at + 1) _ (f.0) (s.1) (h.0),
          rest_low xs trailing (assignment_end (at + 1) a) r (f.1) (assignment_past IsWeighed word a (at + 1) _ (s.1)) (h.1),
        ),
      )

  value_low : (o : Option Initialiser) (at : ℕ) (r : List Class) → FitsValue o → Stands at (value_tokens o r) → FewValue m o → Low word m (value_parts at o)
  value_low None at r f s h = tt
  value_low (Some i) at r f s h = (leaf_low word m at, (initialiser_low i (at + 1) r f (s.1) h, tt))

  declarator_low : (d : Declarator) (at : ℕ) (r : List Class) → FitsDeclarator d → Stands at (declarator_tokens d r) → FewDeclarator m d →
      most_in word (declarator_node at d) ≤ m
  declarator_low (Declared size value) at r f s h =
      let x = size_end (at + 1) size in
      node_low word m p.Declarator at (value_end x value) (leaf at ∷ size_parts (at + 1) size ++ value_parts x value) refl (
        leaf_low word m at,
        join_low word m (size_parts (at + 1) size) (value_parts x value) (size_low size (at + 1) _ (f.0) (s.1) (h.0))
            (value_low value x r (f.1) (size_past IsWeighed word size (at + 1) _ (s.1)) (h.1)),
      )

  more_low : (ds : List Declarator) (at : ℕ) (r : List Class) → FitsMore FitsDeclarator ds → Stands at (more_tokens declarator_tokens ds r) →
      Each (FewDeclarator m) ds → Low word m (more_parts declarator_end declarator_node at ds)
  more_low [] at r f s h = tt
  more_low (d ∷ ds) at r f s h = (
    leaf_low word m at,
    (
      declarator_low d (at + 1) _ (f.0) (s.1) (h.0),
      more_low ds (declarator_end (at + 1) d) r (f.1) (declarator_past IsWeighed word d (at + 1) _ (s.1)) (h.1),
    ),
  )

  local_low : (x : Local) (at : ℕ) (r : List Class) → FitsLocal x → Stands at (local_tokens x r) → FewLocal m x → most_in word (local_node at x) ≤ m
  local_low (Locals constant n d ds) at r f s h =
      let x = word_end at constant in
      let y = type_end x n in
      let z = declarator_end y d in
      let w = more_end declarator_end z ds in
      let front = type_node x n ∷ declarator_node y d ∷ more_parts declarator_end declarator_node z ds in
      let u = type_past IsWeighed word n x _ (word_past IsWeighed word constant c.Const at _ s) in
      let l = more_low ds z (c.Semicolon ∷ r) (f.1) (declarator_past IsWeighed word d y _ u) (h.1) in
      let e = join_low word m (word_parts at constant) front (word_low word m constant at) (type_low word m n x, (declarator_low d y _ (f.0) u (h.0), l)) in
      node_low word m p.Local at (w + 1) (word_parts at constant ++ front ++ leaf w ∷ []) refl
      (join_low word m (word_parts at constant ++ front) (leaf w ∷ []) e (leaf_low word m w, tt))

  -- ---- statements

  optional_low : (o : Option Expression) (at : ℕ) (r : List Class) → FitsOptional o → Stands at (optional_tokens o r) → FewOptional m o →
      Low word m (optional_parts at o)
  optional_low None at r f s h = tt
  optional_low (Some e) at r f s h = (expression_low e at r f s h, tt)

  label_low : (x : Label) (at : ℕ) (r : List Class) → FitsLabel x → Stands at (label_tokens x r) → FewLabel m x → most_in word (label_node at x) ≤ m
  label_low x at r f s h = node_low word m p.Label at (label_end at x) (label_parts at x) refl (by x f s h)
    where
      by : (x : Label) → FitsLabel x → Stands at (label_tokens x r) → FewLabel m x → Low word m (label_parts at x)
      by NameLabel f s h = (leaf_low word m at, (leaf_low word m (at + 1), tt))
      by (CaseLabel d) f s h = (leaf_low word m at, (conditional_low d (at + 1) _ f (s.1) h, (leaf_low word m (conditional_end (at + 1) d), tt)))
      by DefaultLabel f s h = (leaf_low word m at, (leaf_low word m (at + 1), tt))

  start_low : (x : ForStart) (at : ℕ) (r : List Class) → FitsForStart x → Stands at (for_start_tokens x r) → FewStart m x → Low word m (for_start_parts at x)
  start_low (StartLocal x) at r f s h = (local_low x at r f s h, tt)
  start_low (StartValue o) at r f s h = join_low word m (optional_parts at o) (leaf (optional_end at o) ∷ []) (optional_low o at _ f s h)
      (leaf_low word m (optional_end at o), tt)

  body_low : (at : ℕ) (t : Statement) → Low word m (statement_parts at t) → most_in word (statement_node at t) ≤ m
  body_low at t d = node_low word m p.Statement at (statement_end at t) (statement_parts at t) refl d

  -- an expression in brackets, and the list behind it
  tested_low : (e : Expression) (t : Statement) (at : ℕ) (r : List Class) → FitsExpression e → Stands (at + 1 + 1) (expression_tokens e r) →
      expression_count e ≤ m → Low word m (statement_parts (expression_end (at + 1 + 1) e + 1) t)
      → Low word m (leaf at ∷ leaf (at + 1) ∷ expression_node (at + 1 + 1) e ∷ leaf (expression_end (at + 1 + 1) e) ∷ statement_node
      (expression_end (at + 1 + 1) e + 1) t ∷ [])
  tested_low e t at r f s h d =
      let x = expression_end (at + 1 + 1) e in
      (leaf_low word m at, (leaf_low word m (at + 1), (expression_low e (at + 1 + 1) r f s h, (leaf_low word m x, (body_low (x + 1) t d, tt)))))

  pub block_low : (at : ℕ) (xs : Items) → Low word m (items_parts (at + 1) xs) → most_in word (block_node at (Braces xs)) ≤ m
  block_low at xs h =
      let x = items_end (at + 1) xs in
      node_low word m p.Block at (x + 1) (leaf at ∷ items_parts (at + 1) xs ++ leaf x ∷ []) refl
      (leaf_low word m at, join_low word m (items_parts (at + 1) xs) (leaf x ∷ []) h (leaf_low word m x, tt))

  mutual
    pub items_low : (xs : Items) (at : ℕ) (r : List Class) → FitsItems xs → Stands at (items_tokens xs r) → FewItems m xs → Low word m (items_parts at xs)
    items_low NoItems at r f s h = tt
    items_low (LocalItem x xs) at r f s h = (local_low x at _ (f.0) s (h.0), items_low xs (local_end at x) r (f.1) (local_past IsWeighed word x at _ s) (h.1))
    items_low (StatementItem t xs) at r f s h = (
      body_low at t (statement_low t at _ (f.0) s (h.0)),
      items_low xs (statement_end at t) r (f.1)
          (statement_past IsWeighed word t at _ s) (h.1),
    )

    statement_low : (t : Statement) (at : ℕ) (r : List Class) → FitsStatement t → Stands at (statement_tokens t r) → FewStatement m t →
        Low word m (statement_parts at t)
    statement_low (Labelled x t) at r f s h = (
      label_low x at _ (f.0) s (h.0),
      statement_low t (label_end at x) r (f.1)
          (label_past IsWeighed word x at _ s) (h.1),
    )
    statement_low (Unlabelled x) at r f s h = (node_low word m p.Plain at (plain_end at x) (plain_parts at x) refl (plain_low x at r f s h), tt)

    plain_low : (x : Plain) (at : ℕ) (r : List Class) → FitsPlain x → Stands at (plain_tokens x r) → FewPlain m x → Low word m (plain_parts at x)
    plain_low (Compound (Braces xs)) at r f s h = (block_low at xs (items_low xs (at + 1) _ f (s.1) h), tt)
    plain_low (Simple o) at r f s h = join_low word m (optional_parts at o) (leaf (optional_end at o) ∷ []) (optional_low o at _ f s h)
        (leaf_low word m (optional_end at o), tt)
    plain_low (If e t) at r f s h = tested_low e t at _ (f.0) ((s.1).1) (h.0)
        (statement_low t (expression_end (at + 1 + 1) e + 1) r (f.1) (expression_past IsWeighed word e (at + 1 + 1) _ ((s.1).1)).1 (h.1))
    plain_low (IfElse e t w) at r f s h =
        let x = expression_end (at + 1 + 1) e + 1 in
        let y = statement_end x t + 1 in
        let a = (expression_past IsWeighed word e (at + 1 + 1) _ ((s.1).1)).1 in
        let b = (statement_past IsWeighed word t x _ a).1 in
        let d = body_low y w (statement_low w y r (f.3) b (h.2)) in
        let g = tested_low e t at _ (f.0) ((s.1).1) (h.0) (statement_low t x _ (f.1) a (h.1)) in
        let front = leaf at ∷ leaf (at + 1) ∷ expression_node (at + 1 + 1) e ∷ leaf (expression_end (at + 1 + 1) e) ∷ statement_node x t ∷ [] in
        join_low word m front (leaf (statement_end x t) ∷ statement_node y w ∷ []) g (leaf_low word m (statement_end x t), (d, tt))
    plain_low (While e t) at r f s h = tested_low e t at _ (f.0) ((s.1).1) (h.0)
        (statement_low t (expression_end (at + 1 + 1) e + 1) r (f.1) (expression_past IsWeighed word e (at + 1 + 1) _ ((s.1).1)).1 (h.1))
    plain_low (DoWhile t e) at r f s h =
        let x = statement_end (at + 1) t in
        let y = expression_end (x + 1 + 1) e in
        let a = ((statement_past IsWeighed word t (at + 1) _ (s.1)).1).1 in
        let d = body_low (at + 1) t (statement_low t (at + 1) _ (f.0) (s.1) (h.0)) in
        let l = expression_low e (x + 1 + 1) _ (f.1) a (h.1) in
        (leaf_low word m at, (d, (leaf_low word m x, (leaf_low word m (x + 1), (l, (leaf_low word m y, (leaf_low word m (y + 1), tt)))))))
    plain_low (For i t u b) at r f s h =
        let x = for_start_end (at + 1 + 1) i in
        let y = optional_end x t in
        let z = optional_end (y + 1) u in
        let a = start_past IsWeighed word i (at + 1 + 1) _ ((s.1).1) in
        let e = (optional_past IsWeighed word t x _ a).1 in
        let d = (optional_past IsWeighed word u (y + 1) _ e).1 in
        let g = body_low (z + 1) b (statement_low b (z + 1) r (f.3) d (h.3)) in
        let front = leaf at ∷ leaf (at + 1) ∷ for_start_parts (at + 1 + 1) i in
        let j = join_low word m front (optional_parts x t)
        (leaf_low word m at, (leaf_low word m (at + 1), start_low i (at + 1 + 1) _ (f.0) ((s.1).1) (h.0))) (optional_low t x _ (f.1) a (h.1)) in
        let o = join_low word m (front ++ optional_parts x t) (leaf y ∷ optional_parts (y + 1) u) j
        (leaf_low word m y, optional_low u (y + 1) _ (f.2) e (h.2)) in
        join_low word m (front ++ optional_parts x t ++ leaf y ∷ optional_parts (y + 1) u) (leaf z ∷ statement_node (z + 1) b ∷ []) o
        (leaf_low word m z, (g, tt))
    plain_low (Switch e t) at r f s h = tested_low e t at _ (f.0) ((s.1).1) (h.0)
        (statement_low t (expression_end (at + 1 + 1) e + 1) r (f.1) (expression_past IsWeighed word e (at + 1 + 1) _ ((s.1).1)).1 (h.1))
    plain_low Goto at r f s h = (leaf_low word m at, (leaf_low word m (at + 1), (leaf_low word m (at + 1 + 1), tt)))
    plain_low Break at r f s h = (leaf_low word m at, (leaf_low word m (at + 1), tt))
    plain_low Continue at r f s h = (leaf_low word m at, (leaf_low word m (at + 1), tt))
    plain_low (Return o) at r f s h =
        let x = optional_end (at + 1) o in
        (leaf_low word m at, join_low word m (optional_parts (at + 1) o) (leaf x ∷ []) (optional_low o (at + 1) _ f (s.1) h) (leaf_low word m x, tt))
