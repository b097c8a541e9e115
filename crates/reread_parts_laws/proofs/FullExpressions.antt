-- The printed text of a whole expression reads back as the expression.
use Rattle.std.proofs.Common.{◌≡◌, ◌≤◌, ℕ, List, ap, sym, subst, ◌∙◌, arith}
use Rattle.c_tree.specs.declared.tree.Expression.{Expression, out-Expression, out-roll-Expression}
use Rattle.c_tree.specs.ExpressionTrees.{ExpressionTree, PlaceTree, NodeTree, Arguments, NoArgument, Argument, expression_tree}
use Rattle.c_tree.specs.ExpressionTrees as t
use Rattle.c_tree.specs.TextPieces.{Piece}
use Rattle.c_tree.specs.TextExpressions.{expression_text}
use Rattle.c_grammar.specs.ExpressionSyntax.{expression_end, assignment_end, conditional_end}
use Rattle.c_grammar.specs.Terms.{Term, Form, At}
use Rattle.c_kinds.specs.Scopes.{Env}
use Rattle.c_kinds.specs.Values.{of_result}
use Rattle.c_kinds.specs.Typing.{typed, faults}
use Rattle.c_resolved_defs.specs.Names.{Names}
use Rattle.c_resolved_defs.specs.Kinds.{KindAgrees, WritesNoConst}
use Rattle.c_resolved_defs.specs.Scopes.{Scope, NameIsBound}
use Rattle.c_resolved_defs.specs.Within.{Within, NodeWithin, PlaceWithin, ArgumentsWithin}
use Rattle.print_laws.specs.Reread.{Spelling}
use Rattle.print_laws.specs.Standing.{Stands}
use Rattle.print_laws.specs.ExpressionDerivations.{derivation_of}
use Rattle.print_laws.specs.StatementDerivations.{assignment_of, conditional_of}
use Rattle.reread_parts_laws.specs.WrittenExpressions.{expression_form, assignment_form, conditional_form}
use Rattle.reread_parts_laws.specs.Places.{IsPlace, IsExpressionOf}
use Rattle.reread_parts_laws.specs.Laws.{ReadsAs}
use Rattle.reread_parts_laws.proofs.Mirrors.{expression_in, node_in, tree_text, whole, text_of_tree}
use Rattle.reread_parts_laws.proofs.Operands.{Lying, beginning, opened, assigned, chosen}
use Rattle.reread_parts_laws.proofs.ExpressionWords.{spelled, as_end}
use Rattle.reread_parts_laws.proofs.Readings.{typed_of, Reads, reads_as}
use Rattle.reread_parts_laws.proofs.ExpressionsRead.{expression_reads}

-- ---- three facts of each part of an expression

module _ (P Q R : ExpressionTree → Type 0) where
  abbrev All : ExpressionTree → Type 0
  All x = P x × Q x × R x

  mutual
    pub within_all : (x : ExpressionTree) → Within P x → Within Q x → Within R x → Within All x
    within_all (t.Typed kind n) p q r = ((p.0, q.0, r.0), node_all n (p.1) (q.1) (r.1))

    node_all : (n : NodeTree) → NodeWithin P n → NodeWithin Q n → NodeWithin R n → NodeWithin All n
    node_all (t.Read a) p q r = place_all a p q r
    node_all (t.Unary op a) p q r = within_all a p q r
    node_all (t.Cast a) p q r = within_all a p q r
    node_all (t.Binary op a b) p q r = (within_all a (p.0) (q.0) (r.0), within_all b (p.1) (q.1) (r.1))
    node_all (t.Conditional a b c) p q r = (within_all a (p.0) (q.0) (r.0), within_all b (p.1) (q.1) (r.1), within_all c (p.2) (q.2) (r.2))
    node_all (t.Assign a b) p q r = (place_all a (p.0) (q.0) (r.0), within_all b (p.1) (q.1) (r.1))
    node_all (t.Update op a b) p q r = (place_all a (p.0) (q.0) (r.0), within_all b (p.1) (q.1) (r.1))
    node_all (t.Count a up after) p q r = place_all a p q r
    node_all (t.Comma a b) p q r = (within_all a (p.0) (q.0) (r.0), within_all b (p.1) (q.1) (r.1))
    node_all (t.Call m xs) p q r = arguments_all xs p q r
    node_all _ p q r = tt

    place_all : (a : PlaceTree) → PlaceWithin P a → PlaceWithin Q a → PlaceWithin R a → PlaceWithin All a
    place_all (t.Var h) p q r = tt
    place_all (t.Cell h a) p q r = within_all a p q r

    arguments_all : (xs : Arguments) → ArgumentsWithin P xs → ArgumentsWithin Q xs → ArgumentsWithin R xs → ArgumentsWithin All xs
    arguments_all NoArgument p q r = tt
    arguments_all (Argument x xs) p q r = (within_all x (p.0) (q.0) (r.0), arguments_all xs (p.1) (q.1) (r.1))

-- ---- whole expressions

-- a form is read as an expression, and these pieces stand behind it
pub record FullReads (env : Env) (tokens : List Spelling) (form : Form) (end : ℕ) (ps : List Piece) (x : ExpressionTree) : Type 0 where
  pub reads : Reads env form x
  pub behind : Stands tokens end ps

module _ (n : Names) (ss : List Scope) (env : Env) (tokens : List Spelling) (here : IsPlace n ss env tokens) where
  full : (need at : ℕ) (ps : List Piece) (x : ExpressionTree) (form : Form) (end : ℕ) → need ≤ 14 → Lying need at x form end → IsExpressionOf n ss x →
      Stands tokens at (tree_text n.slots x need ps)
      → FullReads env tokens form end ps x
  full need at ps x form end h l g s =
      let w = spelled n.slots tokens env.word (here.words) x need at ps h s in
      let f = within_all (KindAgrees n) (NameIsBound n.slots ss) (WritesNoConst n) x (g.kinds) (g.bound) (g.consts) in
      record {
        reads = reads_as env form _ x (l.form_is) (expression_reads n ss env (here.scopes) x (beginning need at x) (w.0) f (g.prints) (g.operand));
        behind = as_end n.slots tokens env.word (here.words) end _ ps (l.end_is) (w.1);
      }

  pub open_full : (at : ℕ) (ps : List Piece) (x : ExpressionTree) → IsExpressionOf n ss x → Stands tokens at (tree_text n.slots x 1 ps)
      → FullReads env tokens (expression_form at (derivation_of x)) (expression_end at (derivation_of x)) ps x
  open_full at ps x g s = full 1 at ps x _ _ (omega arith) (opened at x) g s

  pub assigned_full : (at : ℕ) (ps : List Piece) (x : ExpressionTree) → IsExpressionOf n ss x → Stands tokens at (tree_text n.slots x 2 ps)
      → FullReads env tokens (assignment_form at (assignment_of x)) (assignment_end at (assignment_of x)) ps x
  assigned_full at ps x g s = full 2 at ps x _ _ (omega arith) (assigned at x) g s

  pub chosen_full : (at : ℕ) (ps : List Piece) (x : ExpressionTree) → IsExpressionOf n ss x → Stands tokens at (tree_text n.slots x 3 ps)
      → FullReads env tokens (conditional_form at (conditional_of x)) (conditional_end at (conditional_of x)) ps x
  chosen_full at ps x g s = full 3 at ps x _ _ (omega arith) (chosen at x) g s

  -- ---- of an expression itself

  typed_whole : (x : ExpressionTree) (e : Expression) → expression_in x ≡ e → typed_of x ≡ of_result (out-Expression e).kind (out-Expression e).node
  typed_whole (t.Typed kind y) e h =
      ap (λ o. of_result o.kind o.node) (sym (out-roll-Expression (record { kind = kind; node = node_in y })))
      ∙ ap (λ (i : Expression). of_result (out-Expression i).kind (out-Expression i).node) h

  pub reads_whole : (term : Term) (first : ℕ) (form : Form) (end : ℕ) (ps : List Piece) (e : Expression) → term ≡ At first form →
      FullReads env tokens form end ps (expression_tree e) → ReadsAs env tokens term end ps e
  reads_whole term first form end ps e h r = record {
    typed_as = ap (typed env) h ∙ r.reads.typed ∙ typed_whole (expression_tree e) e (whole e);
    clear = λ vs. ap (λ y. faults env y vs) h ∙ r.reads.clear vs;
    behind = r.behind;
  }

  pub stands_tree : (need at : ℕ) (ps : List Piece) (e : Expression) → Stands tokens at (expression_text n.slots e need ps) →
      Stands tokens at (tree_text n.slots (expression_tree e) need ps)
  stands_tree need at ps e s = subst (λ f. Stands tokens at (f need ps)) (text_of_tree n.slots e) s
