-- The printed body of a function reads back as the body.
use Rattle.std.proofs.Common.{◌≡◌, ◌+◌, ℕ, List, [], ◌∷◌, ◌++◌, map, refl, ap, sym, subst, ◌∙◌}
use Rattle.std.specs.Prelude.{codes}
use Rattle.c_tree.specs.declared.tree.Function.{Function}
use Rattle.c_tree.specs.declared.tree.Top.{Top}
use Rattle.c_tree.specs.declared.tree.Item.{Item}
use Rattle.c_tree.specs.declared.tree.Item as item
use Rattle.c_tree.specs.Trees.{trees_of}
use Rattle.c_tree.specs.TextPieces.{Piece, ◌⨾◌, newline, indentation, punctuator}
use Rattle.c_tree.specs.TextItems.{Printed, list_text, braced, deeper, printed}
use Rattle.c_grammar.specs.Statements.{NoItems}
use Rattle.c_grammar.specs.StatementSyntax.{items_end}
use Rattle.c_grammar.specs.Items as source
use Rattle.c_statements.specs.Context.{Context, Walk, no_construct}
use Rattle.c_statements.specs.Statements.{behind_items, list_items}
use Rattle.c_statements.specs.Violations.{list_faults}
use Rattle.c_resolved_defs.specs.Resolved.{names_in}
use Rattle.c_resolved_defs.specs.Scopes.{Scope, behind_all}
use Rattle.print_laws.specs.Reread.{Spelling}
use Rattle.print_laws.specs.Standing.{Stands}
use Rattle.print_laws.specs.StatementDerivations.{items_of}
use Rattle.print_laws.proofs.Standings.{past_indentation}
use Rattle.reread_parts_laws.specs.Words.{AreWords}
use Rattle.reread_parts_laws.specs.Places.{Standing}
use Rattle.reread_parts_laws.specs.GoodItems.{AreGood, slots_in}
use Rattle.reread_parts_laws.specs.PlacedNotes.{list_end, trailing, NotesOfBody}
use Rattle.reread_parts_laws.specs.Laws.{BodyReads}
use Rattle.reread_parts_laws.proofs.ItemMirrors.{printed_forest, items_whole, items_printed}
use Rattle.reread_parts_laws.proofs.ExpressionWords.{as_end}
use Rattle.reread_parts_laws.proofs.ListsRead.{settled, all_settled, written_front, end_front, behind_front}
use Rattle.reread_parts_laws.proofs.LeavesRead.{a_mark}
use Rattle.reread_parts_laws.proofs.ItemsRead.{list_reads}
use Rattle.c_statements.specs.Labels.{list_labels}
use Rattle.c_resolved_defs.specs.Form.{gathered, marked_label}
use Rattle.reread_parts_laws.proofs.ListsRead.{names_of}

module _ (ts : List Top) (f : Function) (ctx : Context) (tokens : List Spelling) (words : AreWords ctx.word tokens) where
  nothing_behind : (xs : List Item) → xs ++ [] ≡ xs
  nothing_behind [] = refl
  nothing_behind (x ∷ xs) = ap (λ l. x ∷ l) (nothing_behind xs)

  names_end : (ns : List (List ℕ)) → ns ++ [] ≡ ns
  names_end [] = refl
  names_end (x ∷ ns) = ap (λ l. x ∷ l) (names_end ns)

  pub body_reads : (ss : List Scope) (k : ℕ) (w : Walk) (at depth : ℕ) (xs : List Item) (ps : List Piece) → Standing (names_in ts f) ss k w →
      AreGood (names_in ts f) f ctx ss k no_construct (trees_of xs)
      → NotesOfBody f.slots ctx.notes at (trees_of xs) → Stands tokens at (braced (map (printed f) xs) depth ps) → BodyReads ts f ctx tokens ss k w at xs ps
  body_reads ss k w at depth xs ps h g p b =
      let a = trees_of xs in
      let end = (indentation depth ⨾ punctuator (codes "}")) ps in
      let s = subst (λ (y : List Printed). Stands tokens at (braced y depth ps)) (items_printed f xs) b in
      let m = a_mark ts f ctx tokens words at (codes "{") (newline (list_text (printed_forest f a) (deeper depth) end)) s in
      let u = list_reads ts f ctx tokens words a [] ss k no_construct w (at + 1) (deeper depth) end h g (p.0) m in
      let x = list_end f.slots (at + 1) a in
      let c = a_mark ts f ctx tokens words x (codes "}") ps (past_indentation tokens x (punctuator (codes "}") ps) depth (u.behind_it)) in
      let e = written_front ts f ctx tokens words a (at + 1) NoItems in
      record {
        keywords = u.keywords NoItems tt;
        items = (λ i. list_items ctx (e i) w ++ map item.Note (p.1 i))
            ∙ ap (λ l. l ++ map item.Note (trailing [] a)) (u.items source.NoItem ∙ nothing_behind (settled ts f ctx tokens words [] a)) ∙
            all_settled ts f ctx tokens words a [] ∙ items_whole f xs;
        standing = subst (λ v. Standing (names_in ts f) (behind_all f.slots ss a) (k + slots_in a) v)
            (sym (ap (λ l. behind_items ctx l w) e ∙ behind_front ts f ctx tokens words a (at + 1) source.NoItem w)) (u.standing);
        clear = λ vs. ap (λ l. list_faults ctx no_construct l w vs) e ∙ u.clear source.NoItem vs;
        labels = ap (λ l. map ctx.word (list_labels l [])) e ∙ u.labels source.NoItem [] ∙ names_end (names_of ts f ctx tokens words (gathered marked_label a));
        behind = as_end f.slots tokens ctx.word words (items_end (at + 1) (items_of f.slots a NoItems) + 1) (x + 1) ps
            (ap (λ i. i + 1) (end_front ts f ctx tokens words a (at + 1) NoItems)) c;
      }
