-- Constructs with lists read back as their items (ISO/IEC 9899:2011, 6.8), by those of their lists.
use Rattle.std.proofs.Common.{◌≡◌, ◌+◌, ℕ, cond, List, [], ◌∷◌, ◌++◌, map, refl, ap, sym, subst, ◌∙◌, arith}
use Rattle.std.specs.Prelude.{codes}
use Rattle.c_tree.specs.declared.tree.Slot.{Slot}
use Rattle.c_tree.specs.declared.tree.Function.{Function}
use Rattle.c_tree.specs.declared.tree.Top.{Top}
use Rattle.c_tree.specs.declared.tree.Expression.{Expression}
use Rattle.c_tree.specs.declared.tree.Item.{Item}
use Rattle.c_tree.specs.declared.tree.Item as item
use Rattle.c_tree.specs.declared.tree.Test as test
use Rattle.c_tree.specs.declared.tree.Test.{out-Test, out-roll-Test}
use Rattle.c_tree.specs.declared.tree.Test.TheOpen as OT
use Rattle.c_tree.specs.declared.tree.Test.TheVariants as TV
use Rattle.c_tree.specs.TestTrees.{TestTree, Source}
use Rattle.c_tree.specs.Trees.{Tree, Forest, Nil, Then}
use Rattle.c_tree.specs.Trees as t
use Rattle.c_tree.specs.TextPieces.{Piece, Text, ◌⨾◌, space, newline, indentation, word, punctuator}
use Rattle.c_tree.specs.TextExpressions.{expression_text}
use Rattle.c_tree.specs.TextItems.{test_step, test_text, list_text, braced, deeper}
use Rattle.c_grammar.specs.ExpressionSyntax.{expression_end}
use Rattle.c_grammar.specs.Statements.{NoItems}
use Rattle.c_grammar.specs.Statements as g
use Rattle.c_grammar.specs.StatementSyntax.{items_end, statement_end}
use Rattle.c_grammar.specs.Items as source
use Rattle.c_kinds.specs.Scopes.{Faults}
use Rattle.c_statements.specs.declared.anchors.Anchor.TheVariants.{Before}
use Rattle.c_statements.specs.Context.{Context, Walk, Around, in_loop, env_at, enter, leave, notes_at}
use Rattle.c_statements.specs.Declarations.{value_faults}
use Rattle.c_statements.specs.Statements.{behind_items, behind_body, list_items, body_items, test_at}
use Rattle.c_statements.specs.Violations.{list_faults, body_faults}
use Rattle.c_resolved_defs.specs.Resolved.{names_in}
use Rattle.c_resolved_defs.specs.Scopes.{Scope, behind_all, inside}
use Rattle.print_laws.specs.Reread.{Spelling}
use Rattle.print_laws.specs.Standing.{Stands}
use Rattle.print_laws.specs.ExpressionDerivations.{derivation_of}
use Rattle.print_laws.specs.StatementDerivations.{test_of, is_lone_if, placed, block, statement_of, items_of}
use Rattle.print_laws.proofs.Standings.{past_indentation}
use Rattle.reread_parts_laws.specs.WrittenStatements.{expression_term, written_body}
use Rattle.reread_parts_laws.specs.Keywords.{HasKeywords}
use Rattle.reread_parts_laws.specs.Words.{AreWords}
use Rattle.reread_parts_laws.specs.GoodItems.{IsTest, AreGood, slots_in}
use Rattle.reread_parts_laws.specs.PlacedNotes.{list_end, trailing, NotesOfBody, NotesOfElse}
use Rattle.reread_parts_laws.proofs.Mirrors.{expression_in}
use Rattle.reread_parts_laws.proofs.ItemMirrors.{test_in, forest_in, printed_tree, printed_forest}
use Rattle.reread_parts_laws.proofs.ExpressionWords.{as_end}
use Rattle.reread_parts_laws.specs.Places.{Standing}
use Rattle.reread_parts_laws.proofs.ListsRead.{entered, left, passed, settled, all_settled, written_front, end_front, behind_front, ReadsOne, ReadsList}
use Rattle.reread_parts_laws.proofs.LeavesRead.{full_read, value_here, values_clear, keyword_here, a_mark}
use Rattle.c_tree.specs.TextItems as text
use Rattle.c_statements.specs.Labels.{body_labels, list_labels}
use Rattle.c_resolved_defs.specs.Form.{gathered, marked_label}
use Rattle.reread_parts_laws.proofs.ListsRead.{names_of, names_both, names_alone}

-- ---- tests

test_is : (slots : List Slot) (e : Expression) → test_step slots (out-Test (test.Source e)) ≡ expression_text slots e 1
test_is slots e = ap (λ x. test_step slots (out-Test x)) (sym (TV.rolls-Source e)) ∙ ap (test_step slots) (out-roll-Test (OT.Source e))

module _ (ts : List Top) (f : Function) (ctx : Context) (tokens : List Spelling) (words : AreWords ctx.word tokens) where
  -- a test behind its bracket, and the closing bracket
  pub record TestRead (w : Walk) (at : ℕ) (c : TestTree) (ps : List Piece) : Type 0 where
    pub test_is_read : test_at (env_at ctx w) (expression_term at (test_of c)) ≡ test_in c
    pub clear : (vs : Faults) → value_faults (env_at ctx w) (expression_term at (test_of c)) vs ≡ vs
    pub behind_it : Stands tokens (expression_end at (test_of c) + 1) ps

  pub test_read : (c : TestTree) (ss : List Scope) (k : ℕ) (w : Walk) (at : ℕ) (ps : List Piece) → Standing (names_in ts f) ss k w →
      IsTest (names_in ts f) f ctx ss c → Stands tokens at (test_text f.slots (test_in c) ps) → TestRead w (at + 1) c ps
  test_read (Source x) ss k w at ps h g s =
      let m = a_mark ts f ctx tokens words at (codes "(") ((test_step f.slots (out-Test (test.Source (expression_in x))) ⨾ punctuator (codes ")")) ps) s in
      let b = subst (λ (y : Text). Stands tokens (at + 1) ((y ⨾ punctuator (codes ")")) ps)) (test_is f.slots (expression_in x)) m in
      let u = full_read ts f ctx tokens words ss k w (at + 1) x (punctuator (codes ")") ps) h (g.good) b in
      record {
        test_is_read = ap test.Source (value_here ts f ctx tokens words ss w (at + 1) x _ u (g.kind));
        clear = λ vs. values_clear ts f ctx tokens words ss w (at + 1) x _ u (g.kind) vs;
        behind_it = a_mark ts f ctx tokens words (expression_end (at + 1) (derivation_of x)) (codes ")") ps (u.behind_it);
      }
  test_read _ ss k w at ps h g s = absurd g

  -- ---- lists of constructs

  -- a statement that is the list of a construct
  pub record BodyRead (ss : List Scope) (k : ℕ) (around : Around) (w : Walk) (at : ℕ) (x : g.Statement) (a : Forest) (ps : List Piece) : Type 0 where
    pub behind_it : Stands tokens (statement_end at x) ps
    pub keywords : HasKeywords ctx.word at x
    pub items : body_items ctx (written_body at x) w ≡ forest_in a
    pub standing : Standing (names_in ts f) ss (k + slots_in a) (behind_body ctx (written_body at x) w)
    pub clear : (vs : Faults) → body_faults ctx around (written_body at x) w vs ≡ vs
    pub labels : (rest : List ℕ) → map ctx.word (body_labels (written_body at x) rest) ≡ names_of ts f ctx tokens words (gathered marked_label a) ++
        map ctx.word rest

  nothing_behind : (xs : List Item) → xs ++ [] ≡ xs
  nothing_behind [] = refl
  nothing_behind (x ∷ xs) = ap (λ l. x ∷ l) (nothing_behind xs)

  pub braced_read : (a : Forest) → ReadsList ts f ctx tokens words a →
      (ss : List Scope) (k : ℕ) (around : Around) (w : Walk) (at depth : ℕ) (ps : List Piece) → Standing (names_in ts f) ss k w →
      AreGood (names_in ts f) f ctx (inside ss) k around a
      → NotesOfBody f.slots ctx.notes at a → Stands tokens at (braced (printed_forest f a) depth ps) →
      BodyRead ss k around w at (block (items_of f.slots a NoItems)) a ps
  braced_read a r ss k around w at depth ps h g p s =
      let end = (indentation depth ⨾ punctuator (codes "}")) ps in
      let m = a_mark ts f ctx tokens words at (codes "{") (newline (list_text (printed_forest f a) (deeper depth) end)) s in
      let u = r [] (inside ss) k around (enter w) (at + 1) (deeper depth) end (entered (names_in ts f) ss k w h) g (p.0) m in
      let x = list_end f.slots (at + 1) a in
      let b = a_mark ts f ctx tokens words x (codes "}") ps (past_indentation tokens x (punctuator (codes "}") ps) depth (u.behind_it)) in
      let e = written_front ts f ctx tokens words a (at + 1) NoItems in
      record {
        behind_it = as_end f.slots tokens ctx.word words (items_end (at + 1) (items_of f.slots a NoItems) + 1) (x + 1) ps
            (ap (λ i. i + 1) (end_front ts f ctx tokens words a (at + 1) NoItems)) b;
        keywords = u.keywords NoItems tt;
        items = (λ i. list_items ctx (e i) (enter w) ++ map item.Note (p.1 i))
            ∙ ap (λ l. l ++ map item.Note (trailing [] a)) (u.items source.NoItem ∙ nothing_behind (settled ts f ctx tokens words [] a)) ∙
            all_settled ts f ctx tokens words a [];
        standing = subst (λ v. Standing (names_in ts f) ss (k + slots_in a) (leave w v))
            (sym (ap (λ l. behind_items ctx l (enter w)) e ∙ behind_front ts f ctx tokens words a (at + 1) source.NoItem (enter w)))
            (left (names_in ts f) ss (behind_all f.slots (inside ss) a) k (k + slots_in a) w (passed ts f ctx tokens words (at + 1) a (enter w)) h
            (u.standing));
        labels = λ rest. ap (λ l. map ctx.word (list_labels l rest)) e ∙ u.labels source.NoItem rest;
        clear = λ vs. ap (λ l. list_faults ctx around l (enter w) vs) e ∙ u.clear source.NoItem vs;
      }

  -- ---- a block, and loops

  pub block_reads : (a : Forest) → ReadsList ts f ctx tokens words a → ReadsOne ts f ctx tokens words (t.Block a)
  block_reads a r ss k around w at depth ps h g p s =
      let u = braced_read a r ss k around w at depth (newline ps) h g p s in
      record {
        behind_it = u.behind_it;
        keywords = u.keywords;
        items = λ i. notes_at ctx (Before at) ++ item.Block (u.items i) ∷ [];
        standing = u.standing;
        clear = u.clear;
        labels = u.labels;
      }

  pub while_reads : (c : TestTree) (a : Forest) → ReadsList ts f ctx tokens words a → ReadsOne ts f ctx tokens words (t.While c a)
  while_reads c a r ss k around w at depth ps h g p s =
      let m = keyword_here ts f ctx tokens words at (codes "while")
      ((space ⨾ test_text f.slots (test_in c) ⨾ space ⨾ braced (printed_forest f a) depth ⨾ newline) ps) s in
      let o = test_read c ss k w (at + 1) ((space ⨾ braced (printed_forest f a) depth ⨾ newline) ps) h (g.0) (m.1) in
      let x = expression_end (at + 1 + 1) (test_of c) + 1 in
      let u = braced_read a r ss k (in_loop around) w x depth (newline ps) h (g.1) p (o.behind_it) in
      record {
        behind_it = u.behind_it;
        keywords = (m.0, u.keywords);
        items = λ i. notes_at ctx (Before at) ++ item.While (o.test_is_read i) (u.items i) ∷ [];
        standing = u.standing;
        labels = u.labels;
        clear = λ vs. ap (body_faults ctx (in_loop around) (written_body x (block (items_of f.slots a NoItems))) w) (o.clear vs) ∙ u.clear vs;
      }

  pub do_reads : (a : Forest) (c : TestTree) → ReadsList ts f ctx tokens words a → ReadsOne ts f ctx tokens words (t.Do a c)
  do_reads a c r ss k around w at depth ps h g p s =
      let end = (punctuator (codes ";") ⨾ newline) ps in
      let behind_list = (space ⨾ word (codes "while") ⨾ space ⨾ test_text f.slots (test_in c) ⨾ punctuator (codes ";") ⨾ newline) ps in
      let m = keyword_here ts f ctx tokens words at (codes "do") ((space ⨾ braced (printed_forest f a) depth) behind_list) s in
      let u = braced_read a r ss k (in_loop around) w (at + 1) depth behind_list h (g.0) p (m.1) in
      let x = statement_end (at + 1) (block (items_of f.slots a NoItems)) in
      let b = keyword_here ts f ctx tokens words x (codes "while") ((space ⨾ test_text f.slots (test_in c)) end) (u.behind_it) in
      let o = test_read c ss k w (x + 1) end h (g.1) (b.1) in
      record {
        behind_it = a_mark ts f ctx tokens words (expression_end (x + 1 + 1) (test_of c) + 1) (codes ";") (newline ps) (o.behind_it);
        keywords = (m.0, u.keywords);
        items = λ i. notes_at ctx (Before at) ++ item.Do (u.items i) (o.test_is_read i) ∷ [];
        standing = u.standing;
        labels = u.labels;
        clear = λ vs. o.clear (body_faults ctx (in_loop around) (written_body (at + 1) (block (items_of f.slots a NoItems))) w vs) ∙ u.clear vs;
      }

  -- ---- `if` and `else`

  -- the list behind an `else`, which is a statement of its own where it is one `if`
  abbrev pub else_statement : Tree → Forest → g.Statement
  else_statement x xs = cond (is_lone_if x xs) (statement_of f.slots x) (block (placed f.slots x (statement_of f.slots x) (items_of f.slots xs NoItems)))

  abbrev pub else_lines : Tree → Forest → ℕ → Text
  else_lines x xs depth = cond (text.is_lone_if (printed_forest f (Then x xs))) ((printed_tree f x).lines depth)
      (braced (printed_forest f (Then x xs)) depth ⨾ newline)

  abbrev pub ReadsElse : Forest → Type 0
  ReadsElse Nil = Unit {0}
  ReadsElse (Then x xs) =
      (ss : List Scope) (k : ℕ) (around : Around) (w : Walk) (at depth : ℕ) (ps : List Piece) → Standing (names_in ts f) ss k w →
      AreGood (names_in ts f) f ctx (inside ss) k around (Then x xs)
      → NotesOfElse f.slots ctx.notes at (Then x xs) → Stands tokens at (else_lines x xs depth ps) →
      BodyRead ss k around w at (else_statement x xs) (Then x xs) ps

  pub if_reads : (c : TestTree) (a b : Forest) → ReadsList ts f ctx tokens words a → ReadsElse b → ReadsOne ts f ctx tokens words (t.If c a b)
  if_reads c a Nil r q ss k around w at depth ps h g p s =
      let m = keyword_here ts f ctx tokens words at (codes "if")
      ((space ⨾ test_text f.slots (test_in c) ⨾ space ⨾ braced (printed_forest f a) depth ⨾ newline) ps) s in
      let o = test_read c ss k w (at + 1) ((space ⨾ braced (printed_forest f a) depth ⨾ newline) ps) h (g.0) (m.1) in
      let x = expression_end (at + 1 + 1) (test_of c) + 1 in
      let u = braced_read a r ss k around w x depth (newline ps) h (g.1) (p.0) (o.behind_it) in
      let e : k + slots_in a ≡ k + (slots_in a + 0) = omega arith in
      record {
        behind_it = u.behind_it;
        keywords = (m.0, u.keywords);
        items = λ i. notes_at ctx (Before at) ++ item.If (o.test_is_read i) (u.items i) [] ∷ [];
        standing = subst (λ j. Standing (names_in ts f) ss j (behind_body ctx (written_body x (block (items_of f.slots a NoItems))) w)) e (u.standing);
        labels = λ rest. u.labels rest ∙ names_alone ts f ctx tokens words (gathered marked_label a) (map ctx.word rest);
        clear = λ vs. ap (body_faults ctx around (written_body x (block (items_of f.slots a NoItems))) w) (o.clear vs) ∙ u.clear vs;
      }
  if_reads c a (Then y ys) r q ss k around w at depth ps h g p s =
      let behind_list = (space ⨾ word (codes "else") ⨾ space ⨾ else_lines y ys depth) ps in
      let m = keyword_here ts f ctx tokens words at (codes "if")
      ((space ⨾ test_text f.slots (test_in c) ⨾ space ⨾ braced (printed_forest f a) depth) behind_list) s in
      let o = test_read c ss k w (at + 1) ((space ⨾ braced (printed_forest f a) depth) behind_list) h (g.0) (m.1) in
      let x = expression_end (at + 1 + 1) (test_of c) + 1 in
      let t1 = block (items_of f.slots a NoItems) in
      let t2 = else_statement y ys in
      let u = braced_read a r ss k around w x depth behind_list h (g.1) (p.0) (o.behind_it) in
      let z = statement_end x t1 in
      let b = keyword_here ts f ctx tokens words z (codes "else") (space (else_lines y ys depth ps)) (u.behind_it) in
      let v = behind_body ctx (written_body x t1) w in
      let d = q ss (k + slots_in a) around v (z + 1) depth ps (u.standing) (g.2) (p.1) (b.1) in
      let e : (k + slots_in a) + slots_in (Then y ys) ≡ k + (slots_in a + slots_in (Then y ys)) = omega arith in
      record {
        behind_it = d.behind_it;
        keywords = (m.0, u.keywords, d.keywords);
        items = λ i. notes_at ctx (Before at) ++ item.If (o.test_is_read i) (u.items i) (d.items i) ∷ [];
        standing = subst (λ j. Standing (names_in ts f) ss j (behind_body ctx (written_body (z + 1) t2) v)) e (d.standing);
        labels = λ rest. u.labels (body_labels (written_body (z + 1) t2) rest) ∙
            ap (λ l. names_of ts f ctx tokens words (gathered marked_label a) ++ l) (d.labels rest)
            ∙ names_both ts f ctx tokens words (gathered marked_label a) (gathered marked_label (Then y ys)) (map ctx.word rest);
        clear = λ vs. ap (λ l. body_faults ctx around (written_body (z + 1) t2) v (body_faults ctx around (written_body x t1) w l)) (o.clear vs)
            ∙ ap (body_faults ctx around (written_body (z + 1) t2) v) (u.clear vs) ∙ d.clear vs;
      }
