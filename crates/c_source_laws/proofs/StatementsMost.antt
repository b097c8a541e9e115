-- The most tokens that count in one full expression of a declaration or statement: by the events of its derivation, and by its syntax.
use Rattle.std.proofs.Common.{◌≡◌, ◌+◌, ℕ, Bool, true, false, cond, max, List, [], ◌∷◌, ◌++◌, Option, Some, None, refl, ◌∙◌, arith}
use Rattle.c_grammar.specs.declared.class.Class.{Class}
use Rattle.c_grammar.specs.declared.class.Class.TheVariants as c
use Rattle.c_grammar.specs.declared.syntax.Syntax.{Syntax}
use Rattle.c_grammar.specs.declared.syntax.Production.TheVariants as p
use Rattle.c_grammar.specs.Nodes.{leaf}
use Rattle.c_grammar.specs.Events.{Event, Outside, Opened, count_of}
use Rattle.c_grammar.specs.Counts.{type_events, expression_events, assignment_events, word_events, more_events, rest_events, size_events, initialiser_events, value_events, declarator_events, local_events, optional_events, label_events, for_start_events, level_within, opened_by, items_events, statement_events, plain_events}
use Rattle.c_grammar.specs.Expressions.{Expression, Assignment, expression_tokens, assignment_tokens}
use Rattle.c_grammar.specs.Expressions.{FitsAssignment, FitsExpression}
use Rattle.c_grammar.specs.ExpressionSyntax.{type_end, expression_end, assignment_end, conditional_end, type_node, expression_node, assignment_node}
use Rattle.c_grammar.specs.Statements.{Size, NoSize, Unsized, Sized, Initialiser, OneValue, ValueList, Declarator, Declared, Local, Locals, Label, NameLabel, CaseLabel, DefaultLabel, ForStart, StartLocal, StartValue, Braces, Items, NoItems, LocalItem, StatementItem, Statement, Labelled, Unlabelled, Plain, Compound, Simple, If, IfElse, While, DoWhile, For, Switch, Goto, Break, Continue, Return, more_tokens, rest_tokens, optional_tokens, size_tokens, initialiser_tokens, value_tokens, declarator_tokens, local_tokens, label_tokens, for_start_tokens, items_tokens, statement_tokens, plain_tokens, is_block, FitsMore, FitsOptional, FitsSize, FitsInitialiser, FitsValue, FitsDeclarator, FitsLocal, FitsLabel, FitsForStart, FitsItems, FitsStatement, FitsPlain}
use Rattle.c_grammar.specs.StatementSyntax.{word_end, more_end, optional_end, size_end, initialiser_end, value_end, declarator_end, local_end, label_end, for_start_end, items_end, statement_end, plain_end, word_parts, more_parts, rest_parts, optional_parts, size_parts, initialiser_parts, value_parts, declarator_node, local_node, label_parts, label_node, for_start_parts, block_node, items_parts, statement_parts, plain_parts, statement_node}
use Rattle.c_source_laws.proofs.Limits.{peak}
use Rattle.c_source_laws.proofs.Numbered.{Along}
use Rattle.c_source_laws.proofs.Weights.{IsWeighed}
use Rattle.c_source_laws.proofs.Past.{type_past, expression_past, assignment_past, word_past, optional_past, size_past, declarator_past, local_past, label_past, start_past, statement_past}
use Rattle.c_source_laws.proofs.Most.{type_quiet, most_in, most_of, joined, node_is, leaf_is, type_is, expression_peak, assignment_peak, conditional_peak}
use Rattle.c_source_laws.proofs.Counted.{type_held}

-- ---- no full expression is open behind these

pub word_closed : (given : Bool) (q : List Event) → count_of q ≡ 0 → count_of (word_events given q) ≡ 0
word_closed false q z = z
word_closed true q z = refl

pub word_quiet : (given : Bool) (q : List Event) → peak (word_events given q) ≡ peak q
word_quiet false q = refl
word_quiet true q = omega arith

opened_closed : (level : ℕ) (b : Bool) (q : List Event) → count_of q ≡ 0 → count_of (cond b q (Opened level ∷ q)) ≡ 0
opened_closed level true q z = z
opened_closed level false q z = z

opened_quiet : (level : ℕ) (b : Bool) (q : List Event) → count_of q ≡ 0 → peak (cond b q (Opened level ∷ q)) ≡ peak q
opened_quiet level true q z = refl
opened_quiet level false q z = omega (arith, z)

local_closed : (x : Local) (q : List Event) → count_of (local_events x q) ≡ 0
local_closed (Locals constant n d ds) q = refl

label_closed : (x : Label) (q : List Event) → count_of (label_events x q) ≡ 0
label_closed NameLabel q = refl
label_closed (CaseLabel d) q = refl
label_closed DefaultLabel q = refl

mutual
  pub items_closed : (xs : Items) (level : ℕ) (q : List Event) → count_of q ≡ 0 → count_of (items_events level xs q) ≡ 0
  items_closed NoItems level q z = z
  items_closed (LocalItem x xs) level q z = items_closed xs level _ (local_closed x q)
  items_closed (StatementItem t xs) level q z = items_closed xs level _ (statement_closed t level q z)

  pub statement_closed : (t : Statement) (level : ℕ) (q : List Event) → count_of q ≡ 0 → count_of (statement_events level t q) ≡ 0
  statement_closed (Labelled x t) level q z = statement_closed t level _ (label_closed x q)
  statement_closed (Unlabelled x) level q z = plain_closed x level q z

  plain_closed : (x : Plain) (level : ℕ) (q : List Event) → count_of q ≡ 0 → count_of (plain_events level x q) ≡ 0
  plain_closed (Compound (Braces xs)) level q z = refl
  plain_closed (Simple o) level q z = refl
  plain_closed (If e t) level q z = statement_closed t (level_within level t) _ (opened_closed (level + 1) (is_block t) _ refl)
  plain_closed (IfElse e t u) level q z = statement_closed u (level_within level u) _ (opened_closed (level + 1) (is_block u) _ refl)
  plain_closed (While e t) level q z = statement_closed t (level_within level t) _ (opened_closed (level + 1) (is_block t) _ refl)
  plain_closed (DoWhile t e) level q z = refl
  plain_closed (For f t u b) level q z = statement_closed b (level_within level b) _ (opened_closed (level + 1) (is_block b) _ refl)
  plain_closed (Switch e t) level q z = statement_closed t (level_within level t) _ (opened_closed (level + 1) (is_block t) _ refl)
  plain_closed _ level q z = refl

-- ---- the greatest of some numbers

-- of a list behind another, where each adds its own
in_turn : (all front back m v p : ℕ) → all ≡ max front back → v ≡ max front p → m ≡ max back v → m ≡ max all p
in_turn all front back m v p e g h = omega (arith, e, g, h)

-- of a token that doesn't count, and a list behind it
list_behind : (m k w v : ℕ) → k ≡ 0 → m ≡ max w (max 0 v) → m ≡ max (max k w) v
list_behind m k w v e h = omega (arith, e, h)

behind_token : (m k w v : ℕ) → k ≡ 0 → m ≡ max w (max 0 v) → m ≡ max (max k (max w 0)) v
behind_token m k w v e h = omega (arith, e, h)

-- of a statement and an expression among tokens that don't count
looped : (a t b i e j k : ℕ) → a ≡ 0 → b ≡ 0 → i ≡ 0 → j ≡ 0 → k ≡ 0 → max a (max t (max b (max i (max e (max j (max k 0)))))) ≡ max t e
looped a t b i e j k ha hb hi hj hk = (λ n. max (ha n) (max t (max (hb n) (max (hi n) (max e (max (hj n) (max (hk n) 0))))))) ∙ omega arith

module _ (word : ℕ → List ℕ) where
  abbrev Stands : ℕ → List Class → Type 0
  Stands at r = Along IsWeighed word at r

  pub word_is : (given : Bool) (at : ℕ) → most_of word (word_parts at given) ≡ 0
  word_is false at = refl
  word_is true at = let g = leaf_is word at in omega (arith, g)

  -- ---- declarations

  pub more_peak : {X : Type 0} (F : X → Type 0) (f : X → List Class → List Class) (z : ℕ → X → ℕ) (k : X → List Event → List Event) (n : ℕ → X → Syntax)
      → ((x : X) (at : ℕ) (r : List Class) → Stands at (f x r) → Stands (z at x) r)
      → ((x : X) (at : ℕ) (r : List Class) (q : List Event) → F x → Stands at (f x r) → count_of q ≡ 0 → peak (k x q) ≡ max (most_in word (n at x)) (peak q))
      → (xs : List X) (at : ℕ) (r : List Class) (q : List Event) → FitsMore F xs → Stands at (more_tokens f xs r) →
      peak (more_events k xs q) ≡ max (most_of word (more_parts z n at xs)) (peak q)
  more_peak {X} F f z k n past peak [] at r q g s = omega arith
  more_peak {X} F f z k n past peak (x ∷ xs) at r q g s =
      let a = leaf_is word at in
      let b = peak x (at + 1) _ (Outside ∷ q) (g.0) (s.1) refl in
      let d = more_peak F f z k n past peak xs (z (at + 1) x) r (k x (Outside ∷ q)) (g.1) (past x (at + 1) _ (s.1)) in
      omega (arith, a, b, d)

  rest_peak : (xs : List Assignment) (trailing : Bool) (at : ℕ) (r : List Class) (q : List Event) → FitsMore FitsAssignment xs →
      Stands at (rest_tokens assignment_tokens xs trailing r)
      → peak (rest_events assignment_events xs trailing q) ≡ max (most_of word (rest_parts assignment_end assignment_node at xs trailing)) (peak q)
  rest_peak [] trailing at r q g s =
      let a = joined word (word_parts at trailing) (leaf (word_end at trailing) ∷ []) in
      let b = word_is trailing at in
      let d = leaf_is word (word_end at trailing) in
      let e = word_quiet trailing q in
      omega (arith, a, b, d, e)
  rest_peak (x ∷ xs) trailing at r q g s =
      let a = leaf_is word at in
      let b = assignment_peak word x (at + 1) _ (Outside ∷ q) (g.0) (s.1) refl in
      let d = rest_peak xs trailing (assignment_end (at + 1) x) r (assignment_events x (Outside ∷ q)) (g.1)
      (assignment_past IsWeighed word x (at + 1) _ (s.1)) in
      omega (arith, a, b, d)

  pub size_peak : (x : Size) (at : ℕ) (r : List Class) (q : List Event) → FitsSize x → Stands at (size_tokens x r) →
      peak (size_events x q) ≡ max (most_of word (size_parts at x)) (peak q)
  size_peak NoSize at r q f s = omega arith
  size_peak Unsized at r q f s = let a = leaf_is word at in let b = leaf_is word (at + 1) in omega (arith, a, b)
  size_peak (Sized d) at r q f s =
      let a = leaf_is word at in
      let b = conditional_peak word d (at + 1) _ (Outside ∷ q) f (s.1) refl in
      let e = leaf_is word (conditional_end (at + 1) d) in
      omega (arith, a, b, e)

  initialiser_peak : (x : Initialiser) (at : ℕ) (r : List Class) (q : List Event) → FitsInitialiser x → Stands at (initialiser_tokens x r) → count_of q ≡ 0
      → peak (initialiser_events x q) ≡ max (most_of word (initialiser_parts at x)) (peak q)
  initialiser_peak (OneValue a) at r q f s z = let b = assignment_peak word a at r q f s z in omega (arith, b)
  initialiser_peak (ValueList a xs trailing) at r q f s z =
      let g = leaf_is word at in
      let b = assignment_peak word a (at + 1) _ (Outside ∷ q) (f.0) (s.1) refl in
      let d = rest_peak xs trailing (assignment_end (at + 1) a) r (assignment_events a (Outside ∷ q)) (f.1)
      (assignment_past IsWeighed word a (at + 1) _ (s.1)) in
      omega (arith, g, b, d)

  value_peak : (o : Option Initialiser) (at : ℕ) (r : List Class) (q : List Event) → FitsValue o → Stands at (value_tokens o r) →
      peak (value_events o q) ≡ max (most_of word (value_parts at o)) (peak q)
  value_peak None at r q f s = omega arith
  value_peak (Some x) at r q f s =
      let a = leaf_is word at in
      let b = initialiser_peak x (at + 1) r (Outside ∷ q) f (s.1) refl in
      let n = node_is word p.Initialiser (at + 1) (initialiser_end (at + 1) x) (initialiser_parts (at + 1) x) refl in
      omega (arith, a, b, n)

  declarator_peak : (d : Declarator) (at : ℕ) (r : List Class) (q : List Event) → FitsDeclarator d → Stands at (declarator_tokens d r) → count_of q ≡ 0
      → peak (declarator_events d q) ≡ max (most_in word (declarator_node at d)) (peak q)
  declarator_peak (Declared size value) at r q f s z =
      let x = size_end (at + 1) size in
      let n = node_is word p.Declarator at (value_end x value) (leaf at ∷ size_parts (at + 1) size ++ value_parts x value) refl in
      let j = joined word (size_parts (at + 1) size) (value_parts x value) in
      let a = leaf_is word at in
      let b = size_peak size (at + 1) _ (Outside ∷ q) (f.0) (s.1) in
      let d = value_peak value x r (size_events size (Outside ∷ q)) (f.1) (size_past IsWeighed word size (at + 1) _ (s.1)) in
      omega (arith, n, j, a, b, d)

  pub local_peak : (x : Local) (at : ℕ) (r : List Class) (q : List Event) → FitsLocal x → Stands at (local_tokens x r) → count_of q ≡ 0
      → peak (local_events x q) ≡ max (most_in word (local_node at x)) (peak q)
  local_peak (Locals constant n d ds) at r q f s z =
      let x = word_end at constant in
      let y = type_end x n in
      let v = more_end declarator_end (declarator_end y d) ds in
      let more = more_parts declarator_end declarator_node (declarator_end y d) ds in
      let w = type_events n (word_events constant q) in
      let t = type_past IsWeighed word n x _ (word_past IsWeighed word constant c.Const at _ s) in
      let i = node_is word p.Local at (v + 1) (word_parts at constant ++ type_node x n ∷ declarator_node y d ∷ more ++ leaf v ∷ []) refl in
      let j = joined word (word_parts at constant) (type_node x n ∷ declarator_node y d ∷ more) in
      let k = joined word (word_parts at constant ++ type_node x n ∷ declarator_node y d ∷ more) (leaf v ∷ []) in
      let a = word_is constant at in
      let b = type_is word n x in
      let e = leaf_is word v in
      let g = word_quiet constant q in
      let h = type_quiet n (word_events constant q) (word_closed constant q z) in
      let l = type_held n (word_events constant q) in
      let o = word_closed constant q z in
      let m = declarator_peak d y _ w (f.0) t (omega (arith, l, o)) in
      let u = more_peak FitsDeclarator declarator_tokens declarator_end declarator_events declarator_node (declarator_past IsWeighed word)
      declarator_peak ds (declarator_end y d) _ (declarator_events d w) (f.1) (declarator_past IsWeighed word d y _ t) in
      omega (arith, i, j, k, a, b, e, g, h, m, u)

  -- ---- statements

  optional_peak : (o : Option Expression) (at : ℕ) (r : List Class) (q : List Event) → FitsOptional o → Stands at (optional_tokens o r) → count_of q ≡ 0
      → peak (optional_events o q) ≡ max (most_of word (optional_parts at o)) (peak q)
  optional_peak None at r q f s z = omega arith
  optional_peak (Some e) at r q f s z = let b = expression_peak word e at r q f s z in omega (arith, b)

  label_peak : (x : Label) (at : ℕ) (r : List Class) (q : List Event) → FitsLabel x → Stands at (label_tokens x r) → count_of q ≡ 0
      → peak (label_events x q) ≡ max (most_in word (label_node at x)) (peak q)
  label_peak NameLabel at r q f s z =
      let n = node_is word p.Label at (label_end at NameLabel) (label_parts at NameLabel) refl in let a = leaf_is word at in let b =
      leaf_is word
      (at + 1) in omega (arith, n, a, b, z)
  label_peak (CaseLabel d) at r q f s z =
      let n = node_is word p.Label at (label_end at (CaseLabel d)) (label_parts at (CaseLabel d)) refl in
      let a = leaf_is word at in
      let b = conditional_peak word d (at + 1) _ (Outside ∷ q) f (s.1) refl in
      let e = leaf_is word (conditional_end (at + 1) d) in
      omega (arith, n, a, b, e)
  label_peak DefaultLabel at r q f s z =
      let n = node_is word p.Label at (label_end at DefaultLabel) (label_parts at DefaultLabel) refl in let a = leaf_is word at in let b =
      leaf_is word
      (at + 1) in omega (arith, n, a, b)

  start_peak : (x : ForStart) (at : ℕ) (r : List Class) (q : List Event) → FitsForStart x → Stands at (for_start_tokens x r) → count_of q ≡ 0
      → peak (for_start_events x q) ≡ max (most_of word (for_start_parts at x)) (peak q)
  start_peak (StartLocal x) at r q f s z = let b = local_peak x at r q f s z in omega (arith, b)
  start_peak (StartValue o) at r q f s z =
      let j = joined word (optional_parts at o) (leaf (optional_end at o) ∷ []) in
      let b = optional_peak o at _ q f s z in
      let e = leaf_is word (optional_end at o) in
      omega (arith, j, b, e)

  start_closed : (x : ForStart) (q : List Event) → count_of (for_start_events x q) ≡ 0
  start_closed (StartLocal (Locals constant n d ds)) q = refl
  start_closed (StartValue o) q = refl

  pub statement_is : (t : Statement) (at : ℕ) → most_in word (statement_node at t) ≡ most_of word (statement_parts at t)
  statement_is t at = node_is word p.Statement at (statement_end at t) (statement_parts at t) refl

  -- by the parts of a statement the events of the list of a construct
  abbrev Peak : ℕ → Statement → ℕ → List Event → Type 0
  Peak level t at q = peak (statement_events (level_within level t) t (opened_by level t q)) ≡ max (most_of word (statement_parts at t))
      (peak (opened_by level t q))

  body_peak : (t : Statement) (level at : ℕ) (q : List Event) → count_of q ≡ 0 → Peak level t at q
      → peak (statement_events (level_within level t) t (opened_by level t q)) ≡ max (most_in word (statement_node at t)) (peak q)
  body_peak t level at q z h = let n = statement_is t at in let o = opened_quiet (level + 1) (is_block t) q z in omega (arith, h, n, o)

  open_closed : (t : Statement) (level : ℕ) (q : List Event) → count_of q ≡ 0 → count_of (opened_by level t q) ≡ 0
  open_closed t level q z = opened_closed (level + 1) (is_block t) q z

  -- an expression in brackets behind a word, and the list behind it
  tested_peak : (e : Expression) (t : Statement) (at level : ℕ) (r : List Class) (q : List Event) → FitsExpression e →
      Stands (at + 1 + 1) (expression_tokens e r)
      → let x = expression_end (at + 1 + 1) e in let u = Outside ∷ expression_events e (Outside ∷ Outside ∷ q) in Peak level t (x + 1) u
      → peak (statement_events (level_within level t) t (opened_by level t u)) ≡ max
      (most_of word (leaf at ∷ leaf (at + 1) ∷ expression_node (at + 1 + 1) e ∷ leaf x ∷ statement_node (x + 1) t ∷ [])) (peak q)
  tested_peak e t at level r q f s h =
      let x = expression_end (at + 1 + 1) e in
      let g = body_peak t level (x + 1) (Outside ∷ expression_events e (Outside ∷ Outside ∷ q)) refl h in
      let b = expression_peak word e (at + 1 + 1) r (Outside ∷ Outside ∷ q) f s refl in
      let i = leaf_is word at in
      let j = leaf_is word (at + 1) in
      let k = leaf_is word x in
      omega (arith, g, b, i, j, k)

  pub block_is : (at : ℕ) (xs : Items) → most_in word (block_node at (Braces xs)) ≡ most_of word (items_parts (at + 1) xs)
  block_is at xs =
      let x = items_end (at + 1) xs in
      let n = node_is word p.Block at (x + 1) (leaf at ∷ items_parts (at + 1) xs ++ leaf x ∷ []) refl in
      let j = joined word (leaf at ∷ items_parts (at + 1) xs) (leaf x ∷ []) in
      let a = leaf_is word at in
      let b = leaf_is word x in
      omega (arith, n, j, a, b)

  mutual
    pub items_peak : (xs : Items) (level at : ℕ) (r : List Class) (q : List Event) → FitsItems xs → Stands at (items_tokens xs r) → count_of q ≡ 0
        → peak (items_events level xs q) ≡ max (most_of word (items_parts at xs)) (peak q)
    items_peak NoItems level at r q f s z = omega arith
    items_peak (LocalItem x xs) level at r q f s z =
        let g = local_peak x at _ q (f.0) s z in
        let h = items_peak xs level (local_end at x) r (local_events x q) (f.1) (local_past IsWeighed word x at _ s) (local_closed x q) in
        omega (arith, g, h)
    items_peak (StatementItem t xs) level at r q f s z =
        let n = statement_is t at in
        let g = statement_peak t level at _ q (f.0) s z in
        let h = items_peak xs level (statement_end at t) r (statement_events level t q) (f.1) (statement_past IsWeighed word t at _ s)
        (statement_closed t level q z) in
        omega (arith, n, g, h)

    statement_peak : (t : Statement) (level at : ℕ) (r : List Class) (q : List Event) → FitsStatement t → Stands at (statement_tokens t r) → count_of q ≡ 0
        → peak (statement_events level t q) ≡ max (most_of word (statement_parts at t)) (peak q)
    statement_peak (Labelled x t) level at r q f s z =
        let g = label_peak x at _ q (f.0) s z in
        let h = statement_peak t level (label_end at x) r (label_events x q) (f.1) (label_past IsWeighed word x at _ s) (label_closed x q) in
        omega (arith, g, h)
    statement_peak (Unlabelled x) level at r q f s z =
        let n = node_is word p.Plain at (plain_end at x) (plain_parts at x) refl in
        let g = plain_peak x level at r q f s z in
        omega (arith, n, g)

    plain_peak : (x : Plain) (level at : ℕ) (r : List Class) (q : List Event) → FitsPlain x → Stands at (plain_tokens x r) → count_of q ≡ 0
        → peak (plain_events level x q) ≡ max (most_of word (plain_parts at x)) (peak q)
    plain_peak (Compound (Braces xs)) level at r q f s z =
        let n = block_is at xs in
        let g = items_peak xs (level + 1) (at + 1) _ (Outside ∷ Opened (level + 1) ∷ q) f (s.1) refl in
        omega (arith, n, g, z)
    plain_peak (Simple o) level at r q f s z =
        let j = joined word (optional_parts at o) (leaf (optional_end at o) ∷ []) in
        let b = optional_peak o at _ q f s z in
        let e = leaf_is word (optional_end at o) in
        omega (arith, j, b, e)
    plain_peak (If e t) level at r q f s z =
        let x = expression_end (at + 1 + 1) e + 1 in
        let u = Outside ∷ expression_events e (Outside ∷ Outside ∷ q) in
        tested_peak e t at level _ q (f.0) ((s.1).1) (statement_peak t (level_within level t) x r (opened_by level t u) (f.1)
        (expression_past IsWeighed word e (at + 1 + 1) _ ((s.1).1)).1 (open_closed t level u refl))
    plain_peak (IfElse e t w) level at r q f s z =
        let x = expression_end (at + 1 + 1) e + 1 in
        let y = statement_end x t in
        let u = Outside ∷ expression_events e (Outside ∷ Outside ∷ q) in
        let v = statement_events (level_within level t) t (opened_by level t u) in
        let a = (expression_past IsWeighed word e (at + 1 + 1) _ ((s.1).1)).1 in
        let b = (statement_past IsWeighed word t x _ a).1 in
        let g = tested_peak e t at level _ q (f.0) ((s.1).1)
        (statement_peak t (level_within level t) x _ (opened_by level t u) (f.1) a (open_closed t level u refl)) in
        let h = body_peak w level (y + 1) (Outside ∷ v) refl
        (statement_peak w (level_within level w) (y + 1) r (opened_by level w (Outside ∷ v)) (f.3) b (open_closed w level (Outside ∷ v) refl)) in
        let front = leaf at ∷ leaf (at + 1) ∷ expression_node (at + 1 + 1) e ∷ leaf (expression_end (at + 1 + 1) e) ∷ statement_node x t ∷ [] in
        let j = joined word front (leaf y ∷ statement_node (y + 1) w ∷ []) in
        let k = behind_token _ (most_in word (leaf y)) (most_in word (statement_node (y + 1) w)) (peak v) (leaf_is word y) h in
        in_turn _ (most_of word front) (most_of word (leaf y ∷ statement_node (y + 1) w ∷ [])) _ (peak v) (peak q) j g k
    plain_peak (While e t) level at r q f s z =
        let x = expression_end (at + 1 + 1) e + 1 in
        let u = Outside ∷ expression_events e (Outside ∷ Outside ∷ q) in
        tested_peak e t at level _ q (f.0) ((s.1).1) (statement_peak t (level_within level t) x r (opened_by level t u) (f.1)
        (expression_past IsWeighed word e (at + 1 + 1) _ ((s.1).1)).1 (open_closed t level u refl))
    plain_peak (DoWhile t e) level at r q f s z =
        let x = statement_end (at + 1) t in
        let y = expression_end (x + 1 + 1) e in
        let v = statement_events (level_within level t) t (opened_by level t (Outside ∷ q)) in
        let d = ((statement_past IsWeighed word t (at + 1) _ (s.1)).1).1 in
        let g = body_peak t level (at + 1) (Outside ∷ q) refl
        (statement_peak t (level_within level t) (at + 1) _ (opened_by level t (Outside ∷ q)) (f.0) (s.1) (open_closed t level (Outside ∷ q) refl)) in
        let h = expression_peak word e (x + 1 + 1) _ (Outside ∷ Outside ∷ v) (f.1) d refl in
        let a = leaf_is word at in
        let b = leaf_is word x in
        let i = leaf_is word (x + 1) in
        let j = leaf_is word y in
        let k = leaf_is word (y + 1) in
        let e0 : most_of word (plain_parts at (DoWhile t e)) ≡ max (most_in word (statement_node (at + 1) t)) (most_in word (expression_node (x + 1 + 1) e)) =
        looped _ _ _ _ _ _ _ a b i j k in
        omega (arith, g, h, e0)
    plain_peak (For i t u b) level at r q f s z =
        let x = for_start_end (at + 1 + 1) i in
        let y = optional_end x t in
        let w = optional_end (y + 1) u in
        let k = Outside ∷ Outside ∷ q in
        let l = for_start_events i k in
        let m = optional_events t l in
        let n = optional_events u (Outside ∷ m) in
        let a = start_past IsWeighed word i (at + 1 + 1) _ ((s.1).1) in
        let d = (optional_past IsWeighed word t x _ a).1 in
        let e = (optional_past IsWeighed word u (y + 1) _ d).1 in
        let front = leaf at ∷ leaf (at + 1) ∷ for_start_parts (at + 1 + 1) i in
        let g = start_peak i (at + 1 + 1) _ k (f.0) ((s.1).1) refl in
        let h = optional_peak t x _ l (f.1) a (start_closed i k) in
        let o = optional_peak u (y + 1) _ (Outside ∷ m) (f.2) d refl in
        let v = body_peak b level (w + 1) (Outside ∷ n) refl
        (statement_peak b (level_within level b) (w + 1) r (opened_by level b (Outside ∷ n)) (f.3) e (open_closed b level (Outside ∷ n) refl)) in
        let j1 = joined word front (optional_parts x t) in
        let j2 = joined word (front ++ optional_parts x t) (leaf y ∷ optional_parts (y + 1) u) in
        let j3 = joined word (front ++ optional_parts x t ++ leaf y ∷ optional_parts (y + 1) u) (leaf w ∷ statement_node (w + 1) b ∷ []) in
        let a1 = leaf_is word at in
        let a2 = leaf_is word (at + 1) in
        let first : peak l ≡ max (most_of word front) (peak q) = omega (arith, g, a1, a2) in
        let second = in_turn _ (most_of word front) _ _ (peak l) (peak q) j1 first h in
        let third = in_turn _ (most_of word (front ++ optional_parts x t)) _ _ (peak m) (peak q) j2 second (list_behind _ _ _ (peak m) (leaf_is word y) o) in
        in_turn _ (most_of word (front ++ optional_parts x t ++ leaf y ∷ optional_parts (y + 1) u)) _ _ (peak n) (peak q) j3 third
        (behind_token _ _ _ (peak n) (leaf_is word w) v)
    plain_peak (Switch e t) level at r q f s z =
        let x = expression_end (at + 1 + 1) e + 1 in
        let u = Outside ∷ expression_events e (Outside ∷ Outside ∷ q) in
        tested_peak e t at level _ q (f.0) ((s.1).1) (statement_peak t (level_within level t) x r (opened_by level t u) (f.1)
        (expression_past IsWeighed word e (at + 1 + 1) _ ((s.1).1)).1 (open_closed t level u refl))
    plain_peak Goto level at r q f s z = let a = leaf_is word at in let b = leaf_is word (at + 1) in let e = leaf_is word (at + 1 + 1) in omega (arith, a, b, e)
    plain_peak Break level at r q f s z = let a = leaf_is word at in let b = leaf_is word (at + 1) in omega (arith, a, b)
    plain_peak Continue level at r q f s z = let a = leaf_is word at in let b = leaf_is word (at + 1) in omega (arith, a, b)
    plain_peak (Return o) level at r q f s z =
        let j = joined word (leaf at ∷ optional_parts (at + 1) o) (leaf (optional_end (at + 1) o) ∷ []) in
        let a = leaf_is word at in
        let b = optional_peak o (at + 1) _ (Outside ∷ q) f (s.1) refl in
        let e = leaf_is word (optional_end (at + 1) o) in
        omega (arith, j, a, b, e)
