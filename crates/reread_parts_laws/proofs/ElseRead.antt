-- What stands behind `else` reads back as its list.
use Rattle.std.proofs.Common.{◌≡◌, ◌+◌, ℕ, List, [], ◌∷◌, ◌++◌, map, refl, ap, sym, subst, ◌∙◌, arith}
use Rattle.c_tree.specs.declared.tree.Function.{Function}
use Rattle.c_tree.specs.declared.tree.Top.{Top}
use Rattle.c_tree.specs.declared.tree.Item.{Item}
use Rattle.c_tree.specs.declared.tree.Item as item
use Rattle.c_tree.specs.TestTrees.{TestTree}
use Rattle.c_tree.specs.Trees.{Tree, Forest, Nil, Then}
use Rattle.c_tree.specs.Trees as t
use Rattle.c_tree.specs.TextPieces.{Piece, newline}
use Rattle.c_grammar.specs.Statements.{NoItems}
use Rattle.c_grammar.specs.Statements as g
use Rattle.c_grammar.specs.StatementSyntax.{statement_end}
use Rattle.c_grammar.specs.Items as source
use Rattle.c_statements.specs.declared.anchors.Anchor.TheVariants.{Before, AtEnd}
use Rattle.c_statements.specs.Context.{Context, Walk, Around, enter, leave}
use Rattle.c_statements.specs.Statements.{behind_body, body_items}
use Rattle.c_statements.specs.Violations.{body_faults}
use Rattle.c_resolved_defs.specs.Resolved.{names_in}
use Rattle.c_resolved_defs.specs.Scopes.{Scope, inside}
use Rattle.print_laws.specs.Reread.{Spelling}
use Rattle.print_laws.specs.StatementDerivations.{statement_of}
use Rattle.reread_parts_laws.specs.WrittenStatements.{written_body}
use Rattle.reread_parts_laws.specs.Words.{AreWords}
use Rattle.reread_parts_laws.specs.GoodItems.{slots_of}
use Rattle.reread_parts_laws.proofs.ItemMirrors.{tree_in}
use Rattle.reread_parts_laws.specs.Places.{Standing}
use Rattle.reread_parts_laws.proofs.ListsRead.{entered, left, source_of, ItemRead, ReadsOne, ReadsList}
use Rattle.reread_parts_laws.proofs.ConstructsRead.{BodyRead, braced_read, ReadsElse}
use Rattle.c_statements.specs.Statements.{behind_item}
use Rattle.c_statements.specs.Labels.{body_labels}
use Rattle.c_resolved_defs.specs.Form.{gathered_of, marked_label}
use Rattle.reread_parts_laws.proofs.ListsRead.{names_alone}

-- ---- an `if` alone behind `else`

module _ (ts : List Top) (f : Function) (ctx : Context) (tokens : List Spelling) (words : AreWords ctx.word tokens) where
  nothing_behind : (xs : List Item) → xs ++ [] ≡ xs
  nothing_behind [] = refl
  nothing_behind (x ∷ xs) = ap (λ l. x ∷ l) (nothing_behind xs)

  lone : (c : TestTree) (a b : Forest) (x : source.Item) (ss : List Scope) (k : ℕ) (around : Around) (w : Walk) (at : ℕ) (ps : List Piece) →
      source_of ts f ctx tokens words at (t.If c a b) ≡ x
      → written_body at (statement_of f.slots (t.If c a b)) ≡ source.Lone at (statement_end at (statement_of f.slots (t.If c a b))) x →
      Standing (names_in ts f) ss k w → ctx.notes (Before at) ≡ [] → ctx.notes (AtEnd at) ≡ []
      → ItemRead ts f ctx tokens words (inside ss) k around (enter w) at (t.If c a b) ps →
      BodyRead ts f ctx tokens words ss k around w at (statement_of f.slots (t.If c a b)) (Then (t.If c a b) Nil) ps
  lone c a b x ss k around w at ps e l h first last r =
      let y = source_of ts f ctx tokens words at (t.If c a b) in
      let i : k + slots_of (t.If c a b) ≡ k + (slots_of (t.If c a b) + 0) = omega arith in
      let body = l ∙ ap (source.Lone at (statement_end at (statement_of f.slots (t.If c a b)))) (sym e) in
      record {
        behind_it = r.behind_it;
        keywords = r.keywords;
        items = ap (λ z. body_items ctx z w) body ∙ (λ j. (r.items ∙ ap (λ z. map item.Note z ++ tree_in (t.If c a b) ∷ []) first) j ++ map item.Note (last j));
        standing = subst (λ z. Standing (names_in ts f) ss (k + (slots_of (t.If c a b) + 0)) (behind_body ctx z w)) (sym body)
            (subst (λ j. Standing (names_in ts f) ss j (leave w (behind_item ctx y (enter w)))) i
            (left (names_in ts f) ss (inside ss) k (k + slots_of (t.If c a b)) w (behind_item ctx y (enter w)) h (r.standing)));
        labels = λ rest. ap (λ z. map ctx.word (body_labels z rest)) body ∙ r.labels rest ∙
            names_alone ts f ctx tokens words (gathered_of marked_label (t.If c a b)) (map ctx.word rest);
        clear = λ vs. ap (λ z. body_faults ctx around z w vs) body ∙ r.clear vs;
      }

  -- the `if` of a list that is one
  abbrev pub ReadsLone : Forest → Type 0
  ReadsLone (Then (t.If c a b) Nil) = ReadsOne ts f ctx tokens words (t.If c a b)
  ReadsLone _ = Unit {0}

  lone_no_else : (c : TestTree) (a : Forest) → ReadsOne ts f ctx tokens words (t.If c a Nil) → ReadsElse ts f ctx tokens words (Then (t.If c a Nil) Nil)
  lone_no_else c a r ss k around w at depth ps h g p s =
      lone c a Nil _ ss k around w at ps refl refl h (p.0) (p.2) (r (inside ss) k around (enter w) at depth ps (entered (names_in ts f) ss k w h) (g.0) (p.1) s)

  lone_with_else : (c : TestTree) (a : Forest) (y : Tree) (ys : Forest) → ReadsOne ts f ctx tokens words (t.If c a (Then y ys)) →
      ReadsElse ts f ctx tokens words (Then (t.If c a (Then y ys)) Nil)
  lone_with_else c a y ys r ss k around w at depth ps h g p s =
      lone c a (Then y ys) _ ss k around w at ps refl refl h (p.0) (p.2)
      (r (inside ss) k around (enter w) at depth ps (entered (names_in ts f) ss k w h) (g.0) (p.1) s)

  past_line : (ss : List Scope) (k : ℕ) (around : Around) (w : Walk) (at : ℕ) (x : g.Statement) (a : Forest) (ps : List Piece) →
      BodyRead ts f ctx tokens words ss k around w at x a (newline ps) → BodyRead ts f ctx tokens words ss k around w at x a ps
  past_line ss k around w at x a ps r = record {
    behind_it = r.behind_it;
    keywords = r.keywords;
    items = r.items;
    standing = r.standing;
    clear = r.clear;
    labels = r.labels;
  }

  more_reads : (x y : Tree) (ys : Forest) → ReadsList ts f ctx tokens words (Then x (Then y ys)) → ReadsElse ts f ctx tokens words (Then x (Then y ys))
  more_reads (t.Note bytes) y ys r = λ ss k around w at depth ps h g p s.
      past_line ss k around w at _ (Then (t.Note bytes) (Then y ys)) ps
      (braced_read ts f ctx tokens words (Then (t.Note bytes) (Then y ys)) r ss k around w at depth (newline ps) h g p s)
  more_reads (t.If c a b) y ys r = λ ss k around w at depth ps h g p s.
      past_line ss k around w at _ (Then (t.If c a b) (Then y ys)) ps
      (braced_read ts f ctx tokens words (Then (t.If c a b) (Then y ys)) r ss k around w at depth (newline ps) h g p s)
  more_reads x y ys r = λ ss k around w at depth ps h g p s. past_line ss k around w at _ (Then x (Then y ys)) ps
      (braced_read ts f ctx tokens words (Then x (Then y ys)) r ss k around w at depth (newline ps) h g p s)

  pub else_reads : (b : Forest) → ReadsList ts f ctx tokens words b → ReadsLone b → ReadsElse ts f ctx tokens words b
  else_reads Nil r q = tt
  else_reads (Then (t.If c a Nil) Nil) r q = lone_no_else c a q
  else_reads (Then (t.If c a (Then y ys)) Nil) r q = lone_with_else c a y ys q
  else_reads (Then x Nil) r q = λ ss k around w at depth ps h g p s. past_line ss k around w at _ (Then x Nil) ps
      (braced_read ts f ctx tokens words (Then x Nil) r ss k around w at depth (newline ps) h g p s)
  else_reads (Then x (Then y ys)) r q = more_reads x y ys r
