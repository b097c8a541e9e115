-- The full expressions of a derived statement count no more tokens than the most that count in one of its syntax, and
-- within the limits of a derivation no more than their limit.
use Rattle.std.proofs.Common.{◌≡◌, ◌≤◌, ◌+◌, ℕ, Bool, true, false, cond, List, [], ◌∷◌, ◌++◌, Option, Some, None, refl}
use Rattle.std.specs.Prelude.{IfSome}
use Rattle.c_grammar.specs.declared.class.Class.{Class}
use Rattle.c_grammar.specs.declared.syntax.Syntax.{Syntax}
use Rattle.c_grammar.specs.declared.syntax.Production.TheVariants as p
use Rattle.c_grammar.specs.Nodes.{leaf}
use Rattle.c_grammar.specs.Events.{Event, Outside, Opened, first_over}
use Rattle.c_grammar.specs.Counts.{expression_events, conditional_events, optional_events, local_events, label_events, for_start_events, level_within, opened_by, items_events, statement_events, plain_events}
use Rattle.c_grammar.specs.Expressions.{Expression, expression_tokens, FitsExpression}
use Rattle.c_grammar.specs.ExpressionSyntax.{expression_end, expression_node, conditional_end}
use Rattle.c_grammar.specs.Statements.{Label, NameLabel, CaseLabel, DefaultLabel, ForStart, StartLocal, StartValue, Braces, Items, NoItems, LocalItem, StatementItem, Statement, Labelled, Unlabelled, Plain, Compound, Simple, If, IfElse, While, DoWhile, For, Switch, Goto, Break, Continue, Return, is_block, optional_tokens, label_tokens, for_start_tokens, items_tokens, statement_tokens, plain_tokens, FitsOptional, FitsLabel, FitsForStart, FitsItems, FitsStatement, FitsPlain}
use Rattle.c_grammar.specs.StatementSyntax.{optional_end, local_end, label_end, for_start_end, items_end, statement_end, plain_end, optional_parts, label_parts, label_node, for_start_parts, items_parts, statement_parts, plain_parts, block_node, statement_node}
use Rattle.c_grammar.specs.Items as s
use Rattle.c_grammar.specs.Parts.{list_of_plain}
use Rattle.c_resolved_defs.specs.Within.{Each}
use Rattle.reread_parts_laws.specs.WrittenStatements.{optional_term, written_label, written_start, written_labels, written_items, behind_labels, written_plain, written_body}
use Rattle.c_resolving_laws.specs.Counts.{IsFew, IsFewLabel, IsFewStart, IsFewPlain, IsFewStatement, IsFewBody, AreFewItems}
use Rattle.c_source_laws.proofs.Depths.{before, expression_back, optional_back, local_back, label_back, start_back, tested}
use Rattle.c_source_laws.proofs.Past.{expression_past, optional_past, local_past, label_past, start_past, statement_past}
use Rattle.c_source_laws.proofs.Numbered.{Along}
use Rattle.c_source_laws.proofs.Weights.{IsWeighed}
use Rattle.c_source_laws.proofs.CountedDeclarations.{most_in, Low, split_low, join_low, parts_low, node_low, leaf_low, expression_few, conditional_few, local_few, expression_limit, conditional_limit, local_limit}

module _ (word : ℕ → List ℕ) where
  abbrev Stands : ℕ → List Class → Type 0
  Stands at r = Along IsWeighed word at r

  -- ---- each counts no more than the most

  label_few : (m : ℕ) (x : Label) (at : ℕ) (r : List Class) → FitsLabel x → Stands at (label_tokens x r) → most_in word (label_node at x) ≤ m →
      IsFewLabel word m (written_label at x)
  label_few m NameLabel at r f s h = tt
  label_few m (CaseLabel d) at r f s h = let l = parts_low word m p.Label at (label_end at (CaseLabel d)) (label_parts at (CaseLabel d)) refl h in
      conditional_few word m d (at + 1) _ f (s.1) ((l.1).0)
  label_few m DefaultLabel at r f s h = tt

  start_few : (m : ℕ) (x : ForStart) (at : ℕ) (r : List Class) → FitsForStart x → Stands at (for_start_tokens x r) →
      Low word m (for_start_parts at x) → IsFewStart word m (written_start at x)
  start_few m (StartLocal x) at r f s h = local_few word m x at r f s (h.0)
  start_few m (StartValue None) at r f s h = tt
  start_few m (StartValue (Some e)) at r f s h = expression_few word m e at _ f s (h.0)

  optional_few : (m : ℕ) (o : Option Expression) (at : ℕ) (r : List Class) → FitsOptional o → Stands at (optional_tokens o r) →
      Low word m (optional_parts at o) → IfSome (optional_term at o) (IsFew word m 1)
  optional_few m None at r f s h = tt
  optional_few m (Some e) at r f s h = expression_few word m e at r f s (h.0)

  -- the list of a construct
  as_list : (m first after : ℕ) (ls : List s.Label) (x : s.Plain) → Each (IsFewLabel word m) ls × IsFewPlain word m x →
      IsFewBody word m (list_of_plain first after ls x)
  as_list m first after [] (s.From a b (s.Block list)) h = h.1
  as_list m first after [] (s.From a b _) h = h
  as_list m first after (l ∷ ls) x h = h

  abbrev StatementFew : ℕ → ℕ → Statement → Type 0
  StatementFew m at t = Each (IsFewLabel word m) (written_labels at t) × IsFewPlain word m (behind_labels at t)

  body_few : (m at : ℕ) (t : Statement) → StatementFew m at t → IsFewBody word m (written_body at t)
  body_few m at t h = as_list m at (statement_end at t) (written_labels at t) (behind_labels at t) h

  statement_opened : (m at : ℕ) (t : Statement) → most_in word (statement_node at t) ≤ m → Low word m (statement_parts at t)
  statement_opened m at t h = parts_low word m p.Statement at (statement_end at t) (statement_parts at t) refl h

  pub block_opened : (m at : ℕ) (xs : Items) → most_in word (block_node at (Braces xs)) ≤ m → Low word m (items_parts (at + 1) xs)
  block_opened m at xs h =
      let x = items_end (at + 1) xs in
      (split_low word m (items_parts (at + 1) xs) (leaf x ∷ [])
      (parts_low word m p.Block at (x + 1) (leaf at ∷ items_parts (at + 1) xs ++ leaf x ∷ []) refl h).1).0

  mutual
    pub items_few : (m : ℕ) (xs : Items) (at : ℕ) (r : List Class) → FitsItems xs → Stands at (items_tokens xs r) → Low word m (items_parts at xs) →
        AreFewItems word m (written_items at xs)
    items_few m NoItems at r f s h = tt
    items_few m (LocalItem x xs) at r f s h = (
      local_few word m x at _ (f.0) s (h.0),
      items_few m xs (local_end at x) r (f.1)
          (local_past IsWeighed word x at _ s) (h.1),
    )
    items_few m (StatementItem t xs) at r f s h = (
      statement_few m t at _ (f.0) s (statement_opened m at t (h.0)),
      items_few m xs (statement_end at t) r (f.1) (statement_past IsWeighed word t at _ s) (h.1),
    )

    statement_few : (m : ℕ) (t : Statement) (at : ℕ) (r : List Class) → FitsStatement t → Stands at (statement_tokens t r) →
        Low word m (statement_parts at t) → StatementFew m at t
    statement_few m (Labelled x t) at r f s h =
        let g = statement_few m t (label_end at x) r (f.1) (label_past IsWeighed word x at _ s) (h.1) in
        ((label_few m x at _ (f.0) s (h.0), g.0), g.1)
    statement_few m (Unlabelled x) at r f s h = (tt, plain_few m x at r f s (parts_low word m p.Plain at (plain_end at x) (plain_parts at x) refl (h.0)))

    plain_few : (m : ℕ) (x : Plain) (at : ℕ) (r : List Class) → FitsPlain x → Stands at (plain_tokens x r) → Low word m (plain_parts at x) →
        IsFewStatement word m (written_plain at x)
    plain_few m (Compound (Braces xs)) at r f s h = items_few m xs (at + 1) _ f (s.1) (block_opened m at xs (h.0))
    plain_few m (Simple None) at r f s h = tt
    plain_few m (Simple (Some e)) at r f s h = expression_few word m e at _ f s (h.0)
    plain_few m (If e t) at r f s h =
        let x = expression_end (at + 1 + 1) e + 1 in
        let v = (expression_past IsWeighed word e (at + 1 + 1) _ ((s.1).1)).1 in (
          expression_few word m e (at + 1 + 1) _ (f.0) ((s.1).1) (((h.1).1).0),
          body_few m x t (statement_few m t x r (f.1) v (statement_opened m x t (((((h.1).1).1).1).0))),
        )
    plain_few m (IfElse e t u) at r f s h =
        let x = expression_end (at + 1 + 1) e + 1 in
        let y = statement_end x t + 1 in
        let v = (expression_past IsWeighed word e (at + 1 + 1) _ ((s.1).1)).1 in
        let w = (statement_past IsWeighed word t x _ v).1 in
        let i = (((h.1).1).1).1 in (
          expression_few word m e (at + 1 + 1) _ (f.0) ((s.1).1) (((h.1).1).0),
          body_few m x t (statement_few m t x _ (f.1) v (statement_opened m x t (i.0))),
          body_few m y u (statement_few m u y r (f.3) w (statement_opened m y u (((i.1).1).0))),
        )
    plain_few m (While e t) at r f s h =
        let x = expression_end (at + 1 + 1) e + 1 in
        let v = (expression_past IsWeighed word e (at + 1 + 1) _ ((s.1).1)).1 in (
          expression_few word m e (at + 1 + 1) _ (f.0) ((s.1).1) (((h.1).1).0),
          body_few m x t (statement_few m t x r (f.1) v (statement_opened m x t (((((h.1).1).1).1).0))),
        )
    plain_few m (DoWhile t e) at r f s h =
        let y = statement_end (at + 1) t + 1 + 1 in
        let v = ((statement_past IsWeighed word t (at + 1) _ (s.1)).1).1 in (
          body_few m (at + 1) t (statement_few m t (at + 1) _ (f.0) (s.1) (statement_opened m (at + 1) t ((h.1).0))),
          expression_few word m e y _ (f.1) v (((((h.1).1).1).1).0),
        )
    plain_few m (For i t u b) at r f s h =
        let x = for_start_end (at + 1 + 1) i in
        let y = optional_end x t + 1 in
        let z = optional_end y u + 1 in
        let before_third = leaf at ∷ leaf (at + 1) ∷ for_start_parts (at + 1 + 1) i ++ optional_parts x t in
        let third = leaf (optional_end x t) ∷ optional_parts y u in
        let j = split_low word m (before_third ++ third) (leaf (optional_end y u) ∷ statement_node z b ∷ []) h in
        let k = split_low word m before_third third (j.0) in
        let l = split_low word m (leaf at ∷ leaf (at + 1) ∷ for_start_parts (at + 1 + 1) i) (optional_parts x t) (k.0) in
        let a = start_past IsWeighed word i (at + 1 + 1) _ ((s.1).1) in
        let d = (optional_past IsWeighed word t x _ a).1 in
        let e = (optional_past IsWeighed word u y _ d).1 in (
          start_few m i (at + 1 + 1) _ (f.0) ((s.1).1) (((l.0).1).1),
          optional_few m t x _ (f.1) a (l.1),
          optional_few m u y _ (f.2) d ((k.1).1),
          body_few m z b (statement_few m b z r (f.3) e (statement_opened m z b (((j.1).1).0))),
        )
    plain_few m (Switch e t) at r f s h =
        let x = expression_end (at + 1 + 1) e + 1 in
        let v = (expression_past IsWeighed word e (at + 1 + 1) _ ((s.1).1)).1 in (
          expression_few word m e (at + 1 + 1) _ (f.0) ((s.1).1) (((h.1).1).0),
          body_few m x t (statement_few m t x r (f.1) v (statement_opened m x t (((((h.1).1).1).1).0))),
        )
    plain_few m Goto at r f s h = tt
    plain_few m Break at r f s h = tt
    plain_few m Continue at r f s h = tt
    plain_few m (Return o) at r f s h = optional_few m o (at + 1) _ f (s.1)
        (split_low word m (optional_parts (at + 1) o) (leaf (optional_end (at + 1) o) ∷ []) (h.1)).0

  -- ---- and within the limits of a derivation the most is no more than the limit

  label_limit : (x : Label) (at : ℕ) (r : List Class) (q : List Event) → FitsLabel x → Stands at (label_tokens x r) →
      first_over (label_events x q) ≡ None → most_in word (label_node at x) ≤ 400
  label_limit NameLabel at r q f s h = node_low word 400 p.Label at (label_end at NameLabel) (label_parts at NameLabel) refl
      (leaf_low word 400 at, (leaf_low word 400 (at + 1), tt))
  label_limit (CaseLabel d) at r q f s h =
      let g = conditional_limit word d (at + 1) _ (Outside ∷ q) f (s.1) (before Outside (conditional_events d (Outside ∷ q)) h) in
      node_low word 400 p.Label at (label_end at (CaseLabel d)) (label_parts at (CaseLabel d)) refl
      (leaf_low word 400 at, (g, (leaf_low word 400 (conditional_end (at + 1) d), tt)))
  label_limit DefaultLabel at r q f s h = node_low word 400 p.Label at (label_end at DefaultLabel) (label_parts at DefaultLabel) refl
      (leaf_low word 400 at, (leaf_low word 400 (at + 1), tt))

  start_limit : (x : ForStart) (at : ℕ) (r : List Class) (q : List Event) → FitsForStart x → Stands at (for_start_tokens x r) →
      first_over (for_start_events x q) ≡ None → Low word 400 (for_start_parts at x)
  start_limit (StartLocal x) at r q f s h = (local_limit word x at r q f s h, tt)
  start_limit (StartValue None) at r q f s h = (leaf_low word 400 at, tt)
  start_limit (StartValue (Some e)) at r q f s h = (
    expression_limit word e at _ q f s (before Outside (expression_events e q) h),
    (leaf_low word 400 (expression_end at e), tt),
  )

  optional_limit : (o : Option Expression) (at : ℕ) (r : List Class) (q : List Event) → FitsOptional o → Stands at (optional_tokens o r) →
      first_over (optional_events o q) ≡ None → Low word 400 (optional_parts at o)
  optional_limit None at r q f s h = tt
  optional_limit (Some e) at r q f s h = (expression_limit word e at r q f s h, tt)

  -- none is over a limit before it, and in each of these counts no more than the limit
  abbrev Limited : List Event → List Syntax → Type 0
  Limited q xs = (first_over q ≡ None) × Low word 400 xs

  opened_back : (level : ℕ) (b : Bool) (q : List Event) → first_over (cond b q (Opened (level + 1) ∷ q)) ≡ None → first_over q ≡ None
  opened_back level true q h = h
  opened_back level false q h = before (Opened (level + 1)) q h

  body_limit : (level at : ℕ) (t : Statement) (q : List Event) → Limited (opened_by level t q) (statement_parts at t) →
      (first_over q ≡ None) × (most_in word (statement_node at t) ≤ 400)
  body_limit level at t q d = (opened_back level (is_block t) q (d.0), node_low word 400 p.Statement at (statement_end at t) (statement_parts at t) refl (d.1))

  -- an expression in brackets, and the list behind it
  tested_limit : (e : Expression) (t : Statement) (at level : ℕ) (r : List Class) (q : List Event) → FitsExpression e →
      Stands (at + 1 + 1) (expression_tokens e r)
      → let x = expression_end (at + 1 + 1) e in let u = Outside ∷ expression_events e (Outside ∷ Outside ∷ q) in
      Limited (opened_by level t u) (statement_parts (x + 1) t) → Limited q
      (leaf at ∷ leaf (at + 1) ∷ expression_node (at + 1 + 1) e ∷ leaf x ∷ statement_node (x + 1) t ∷ [])
  tested_limit e t at level r q f s d =
      let x = expression_end (at + 1 + 1) e in
      let v = Outside ∷ Outside ∷ q in
      let g = body_limit level (x + 1) t (Outside ∷ expression_events e v) d in
      let l = expression_limit word e (at + 1 + 1) r v f s (before Outside (expression_events e v) (g.0)) in
      (tested e q (g.0), (leaf_low word 400 at, (leaf_low word 400 (at + 1), (l, (leaf_low word 400 x, (g.1, tt))))))

  pub block_limit : (at : ℕ) (xs : Items) → Low word 400 (items_parts (at + 1) xs) → most_in word (block_node at (Braces xs)) ≤ 400
  block_limit at xs h =
      let x = items_end (at + 1) xs in
      node_low word 400 p.Block at (x + 1) (leaf at ∷ items_parts (at + 1) xs ++ leaf x ∷ []) refl
      (leaf_low word 400 at, join_low word 400 (items_parts (at + 1) xs) (leaf x ∷ []) h (leaf_low word 400 x, tt))

  mutual
    pub items_limit : (xs : Items) (level at : ℕ) (r : List Class) (q : List Event) → FitsItems xs → Stands at (items_tokens xs r) →
        first_over (items_events level xs q) ≡ None → Limited q (items_parts at xs)
    items_limit NoItems level at r q f s h = (h, tt)
    items_limit (LocalItem x xs) level at r q f s h =
        let d = items_limit xs level (local_end at x) r (local_events x q) (f.1) (local_past IsWeighed word x at _ s) h in
        (local_back x q (d.0), (local_limit word x at _ q (f.0) s (d.0), d.1))
    items_limit (StatementItem t xs) level at r q f s h =
        let d = items_limit xs level (statement_end at t) r (statement_events level t q) (f.1) (statement_past IsWeighed word t at _ s) h in
        let e = statement_limit t level at _ q (f.0) s (d.0) in
        (e.0, (node_low word 400 p.Statement at (statement_end at t) (statement_parts at t) refl (e.1), d.1))

    statement_limit : (t : Statement) (level at : ℕ) (r : List Class) (q : List Event) → FitsStatement t → Stands at (statement_tokens t r) →
        first_over (statement_events level t q) ≡ None → Limited q (statement_parts at t)
    statement_limit (Labelled x t) level at r q f s h =
        let d = statement_limit t level (label_end at x) r (label_events x q) (f.1) (label_past IsWeighed word x at _ s) h in
        (label_back x q (d.0), (label_limit x at _ q (f.0) s (d.0), d.1))
    statement_limit (Unlabelled x) level at r q f s h =
        let d = plain_limit x level at r q f s h in
        (d.0, (node_low word 400 p.Plain at (plain_end at x) (plain_parts at x) refl (d.1), tt))

    plain_limit : (x : Plain) (level at : ℕ) (r : List Class) (q : List Event) → FitsPlain x → Stands at (plain_tokens x r) →
        first_over (plain_events level x q) ≡ None → Limited q (plain_parts at x)
    plain_limit (Compound (Braces xs)) level at r q f s h =
        let u = Outside ∷ Opened (level + 1) ∷ q in
        let d = items_limit xs (level + 1) (at + 1) _ u f (s.1) (before Outside (items_events (level + 1) xs u) h) in
        (before (Opened (level + 1)) q (before Outside (Opened (level + 1) ∷ q) (d.0)), (block_limit at xs (d.1), tt))
    plain_limit (Simple None) level at r q f s h = (before Outside q h, (leaf_low word 400 at, tt))
    plain_limit (Simple (Some e)) level at r q f s h =
        let g = before Outside (expression_events e q) h in
        (expression_back e q g, (expression_limit word e at _ q f s g, (leaf_low word 400 (expression_end at e), tt)))
    plain_limit (If e t) level at r q f s h =
        let x = expression_end (at + 1 + 1) e + 1 in
        let u = Outside ∷ expression_events e (Outside ∷ Outside ∷ q) in
        tested_limit e t at level _ q (f.0) ((s.1).1) (statement_limit t (level_within level t) x r (opened_by level t u) (f.1)
        (expression_past IsWeighed word e (at + 1 + 1) _ ((s.1).1)).1 h)
    plain_limit (IfElse e t w) level at r q f s h =
        let x = expression_end (at + 1 + 1) e + 1 in
        let y = statement_end x t + 1 in
        let u = Outside ∷ expression_events e (Outside ∷ Outside ∷ q) in
        let v = statement_events (level_within level t) t (opened_by level t u) in
        let a = (expression_past IsWeighed word e (at + 1 + 1) _ ((s.1).1)).1 in
        let b = (statement_past IsWeighed word t x _ a).1 in
        let d = body_limit level y w (Outside ∷ v) (statement_limit w (level_within level w) y r (opened_by level w (Outside ∷ v)) (f.3) b h) in
        let g = tested_limit e t at level _ q (f.0) ((s.1).1)
        (statement_limit t (level_within level t) x _ (opened_by level t u) (f.1) a (before Outside v (d.0))) in
        let front = leaf at ∷ leaf (at + 1) ∷ expression_node (at + 1 + 1) e ∷ leaf (expression_end (at + 1 + 1) e) ∷ statement_node x t ∷ [] in
        (g.0, join_low word 400 front (leaf (statement_end x t) ∷ statement_node y w ∷ []) (g.1) (leaf_low word 400 (statement_end x t), (d.1, tt)))
    plain_limit (While e t) level at r q f s h =
        let x = expression_end (at + 1 + 1) e + 1 in
        let u = Outside ∷ expression_events e (Outside ∷ Outside ∷ q) in
        tested_limit e t at level _ q (f.0) ((s.1).1) (statement_limit t (level_within level t) x r (opened_by level t u) (f.1)
        (expression_past IsWeighed word e (at + 1 + 1) _ ((s.1).1)).1 h)
    plain_limit (DoWhile t e) level at r q f s h =
        let x = statement_end (at + 1) t in
        let y = expression_end (x + 1 + 1) e in
        let v = statement_events (level_within level t) t (opened_by level t (Outside ∷ q)) in
        let w = Outside ∷ Outside ∷ v in
        let n = before Outside (Outside ∷ expression_events e w) h in
        let a = ((statement_past IsWeighed word t (at + 1) _ (s.1)).1).1 in
        let d = body_limit level (at + 1) t (Outside ∷ q) (statement_limit t (level_within level t) (at + 1) _ (opened_by level t (Outside ∷ q)) (f.0)
        (s.1) (tested e v n)) in
        let l = expression_limit word e (x + 1 + 1) _ w (f.1) a (before Outside (expression_events e w) n) in (
          before Outside q (d.0),
          (
            leaf_low word 400 at,
            (d.1, (leaf_low word 400 x, (leaf_low word 400 (x + 1), (l, (leaf_low word 400 y, (leaf_low word 400 (y + 1), tt)))))),
          ),
        )
    plain_limit (For i t u b) level at r q f s h =
        let x = for_start_end (at + 1 + 1) i in
        let y = optional_end x t in
        let z = optional_end (y + 1) u in
        let k = Outside ∷ Outside ∷ q in
        let l = for_start_events i k in
        let m = optional_events t l in
        let n = optional_events u (Outside ∷ m) in
        let a = start_past IsWeighed word i (at + 1 + 1) _ ((s.1).1) in
        let c = (optional_past IsWeighed word t x _ a).1 in
        let d = (optional_past IsWeighed word u (y + 1) _ c).1 in
        let g = body_limit level (z + 1) b (Outside ∷ n) (statement_limit b (level_within level b) (z + 1) r (opened_by level b (Outside ∷ n)) (f.3) d h) in
        let third = before Outside n (g.0) in
        let test = before Outside m (optional_back u (Outside ∷ m) third) in
        let start = optional_back t l test in
        let front = leaf at ∷ leaf (at + 1) ∷ for_start_parts (at + 1 + 1) i in
        let j = join_low word 400 front (optional_parts x t)
        (leaf_low word 400 at, (leaf_low word 400 (at + 1), start_limit i (at + 1 + 1) _ k (f.0) ((s.1).1) start))
        (optional_limit t x _ l (f.1) a test) in
        let o = join_low word 400 (front ++ optional_parts x t) (leaf y ∷ optional_parts (y + 1) u) j
        (leaf_low word 400 y, optional_limit u (y + 1) _ (Outside ∷ m) (f.2) c third) in
        let all = join_low word 400 (front ++ optional_parts x t ++ leaf y ∷ optional_parts (y + 1) u) (leaf z ∷ statement_node (z + 1) b ∷ []) o
        (leaf_low word 400 z, (g.1, tt)) in
        (before Outside q (before Outside (Outside ∷ q) (start_back i k start)), all)
    plain_limit (Switch e t) level at r q f s h =
        let x = expression_end (at + 1 + 1) e + 1 in
        let u = Outside ∷ expression_events e (Outside ∷ Outside ∷ q) in
        tested_limit e t at level _ q (f.0) ((s.1).1) (statement_limit t (level_within level t) x r (opened_by level t u) (f.1)
        (expression_past IsWeighed word e (at + 1 + 1) _ ((s.1).1)).1 h)
    plain_limit Goto level at r q f s h = (
      before Outside q (before Outside (Outside ∷ q) (before Outside (Outside ∷ Outside ∷ q) h)),
      (leaf_low word 400 at, (leaf_low word 400 (at + 1), (leaf_low word 400 (at + 1 + 1), tt))),
    )
    plain_limit Break level at r q f s h = (before Outside q (before Outside (Outside ∷ q) h), (leaf_low word 400 at, (leaf_low word 400 (at + 1), tt)))
    plain_limit Continue level at r q f s h = (before Outside q (before Outside (Outside ∷ q) h), (leaf_low word 400 at, (leaf_low word 400 (at + 1), tt)))
    plain_limit (Return o) level at r q f s h =
        let g = before Outside (optional_events o (Outside ∷ q)) h in
        let x = optional_end (at + 1) o in (
          before Outside q (optional_back o (Outside ∷ q) g),
          (
            leaf_low word 400 at,
            join_low word 400 (optional_parts (at + 1) o) (leaf x ∷ []) (optional_limit o (at + 1) _ (Outside ∷ q) f (s.1) g)
                (leaf_low word 400 x, tt),
          ),
        )
