-- The printed text of each item and of each list reads back as it is.
use Rattle.std.proofs.Common.{◌≡◌, ◌+◌, List, [], ◌∷◌, ◌++◌, map, ap, subst, ◌∙◌, arith}
use Rattle.c_tree.specs.declared.tree.Function.{Function}
use Rattle.c_tree.specs.declared.tree.Top.{Top}
use Rattle.c_tree.specs.declared.tree.Item as item
use Rattle.c_tree.specs.Trees.{Tree, Forest, Nil, Then, Sections, NoSection, Section}
use Rattle.c_tree.specs.Trees as t
use Rattle.c_tree.specs.TextItems.{list_text}
use Rattle.c_statements.specs.Context.{Context}
use Rattle.c_statements.specs.Statements.{behind_item, list_items}
use Rattle.c_statements.specs.Violations.{list_faults}
use Rattle.c_resolved_defs.specs.Resolved.{names_in}
use Rattle.c_resolved_defs.specs.Scopes.{behind, behind_all}
use Rattle.print_laws.specs.Reread.{Spelling}
use Rattle.print_laws.proofs.Standings.{past_indentation}
use Rattle.reread_parts_laws.specs.Words.{AreWords}
use Rattle.reread_parts_laws.specs.GoodItems.{slots_of, slots_in}
use Rattle.reread_parts_laws.specs.PlacedNotes.{item_end}
use Rattle.reread_parts_laws.proofs.ItemMirrors.{tree_in, printed_tree, printed_forest}
use Rattle.reread_parts_laws.specs.Places.{Standing}
use Rattle.reread_parts_laws.proofs.ListsRead.{source_of, front, passed, settled, ReadsItem, ReadsList, none_read, note_read, regroup}
use Rattle.reread_parts_laws.proofs.LeavesRead.{evaluate_reads, break_reads, continue_reads, goto_reads, mark_reads, return_reads}
use Rattle.reread_parts_laws.proofs.ConstructsRead.{block_reads, while_reads, do_reads, if_reads}
use Rattle.reread_parts_laws.proofs.ElseRead.{ReadsLone, else_reads}
use Rattle.reread_parts_laws.proofs.SwitchRead.{ReadsSections, no_section, one_section, switch_reads}
use Rattle.reread_parts_laws.proofs.ForRead.{local_reads, for_reads}
use Rattle.c_statements.specs.Labels.{list_labels}
use Rattle.c_resolved_defs.specs.Form.{gathered, gathered_of, marked_label}
use Rattle.reread_parts_laws.proofs.ListsRead.{names_of, names_both}

module _ (ts : List Top) (f : Function) (ctx : Context) (tokens : List Spelling) (words : AreWords ctx.word tokens) where
  mutual
    pub item_reads : (x : Tree) → ReadsItem ts f ctx tokens words x
    item_reads (t.Evaluate e) = evaluate_reads ts f ctx tokens words e
    item_reads (t.Return e) = return_reads ts f ctx tokens words e
    item_reads (t.If c a b) = if_reads ts f ctx tokens words c a b (list_reads a) (else_reads ts f ctx tokens words b (list_reads b) (lone_reads b))
    item_reads (t.While c a) = while_reads ts f ctx tokens words c a (list_reads a)
    item_reads (t.Do a c) = do_reads ts f ctx tokens words a c (list_reads a)
    item_reads (t.For first c u a) = for_reads ts f ctx tokens words first c u a (list_reads a)
    item_reads (t.Block a) = block_reads ts f ctx tokens words a (list_reads a)
    item_reads (t.Local k given) = local_reads ts f ctx tokens words k given
    item_reads t.Break = break_reads ts f ctx tokens words
    item_reads t.Continue = continue_reads ts f ctx tokens words
    item_reads (t.Goto l) = goto_reads ts f ctx tokens words l
    item_reads (t.Mark l) = mark_reads ts f ctx tokens words l
    item_reads (t.Note bytes) = tt
    item_reads (t.Switch s c) = switch_reads ts f ctx tokens words s c (sections_read c)
    item_reads _ = λ ss k around w at depth ps h g p b. absurd g

    lone_reads : (b : Forest) → ReadsLone ts f ctx tokens words b
    lone_reads (Then (t.If c a b) Nil) = if_reads ts f ctx tokens words c a b (list_reads a) (else_reads ts f ctx tokens words b (list_reads b) (lone_reads b))
    lone_reads _ = tt

    pub list_reads : (xs : Forest) → ReadsList ts f ctx tokens words xs
    list_reads Nil = none_read ts f ctx tokens words
    list_reads (Then (t.Note bytes) xs) = note_read ts f ctx tokens words bytes xs (list_reads xs)
    list_reads (Then (t.Arm l e) xs) = λ ns ss k around w at depth ps h g p b. absurd (g.0)
    list_reads (Then (t.Leap l) xs) = λ ns ss k around w at depth ps h g p b. absurd (g.0)
    list_reads (Then (t.Land l) xs) = λ ns ss k around w at depth ps h g p b. absurd (g.0)
    list_reads (Then (t.Arrival e) xs) = λ ns ss k around w at depth ps h g p b. absurd (g.0)
    list_reads (Then (t.Local j given) xs) = λ ns ss k around w at depth ps h g p b.
        let x = t.Local j given in
        let lines = list_text (printed_forest f xs) depth ps in
        let i = local_reads ts f ctx tokens words j given ss k around w at depth lines h (g.0) (p.1)
        (past_indentation tokens at ((printed_tree f x).lines depth lines) depth b) in
        let v = behind_item ctx (source_of ts f ctx tokens words at x) w in
        let y = item_end f.slots at x in
        let l = list_reads xs [] (behind f.slots ss x) (k + slots_of x) around v y depth ps (i.standing) (g.1) (p.2) (i.behind_it) in
        let count : (k + slots_of x) + slots_in xs ≡ k + (slots_of x + slots_in xs) = omega arith in
        record {
          behind_it = l.behind_it;
          keywords = l.keywords;
          items = λ others. (λ j. (i.items ∙ ap (λ z. map item.Note z ++ tree_in x ∷ []) (p.0)) j ++ l.items others j)
              ∙ regroup ts f ctx tokens words (map item.Note ns) (settled ts f ctx tokens words [] xs)
              (list_items ctx others (passed ts f ctx tokens words y xs v)) (tree_in x);
          standing = subst (λ j. Standing (names_in ts f) (behind_all f.slots (behind f.slots ss x) xs) j (passed ts f ctx tokens words y xs v)) count
              (l.standing);
          labels = λ others rest. i.labels (list_labels (front ts f ctx tokens words y xs others) rest) ∙
              ap (λ z. names_of ts f ctx tokens words (gathered_of marked_label x) ++ z) (l.labels others rest)
              ∙ names_both ts f ctx tokens words (gathered_of marked_label x) (gathered marked_label xs) (map ctx.word (list_labels others rest));
          clear = λ others vs. ap (list_faults ctx around (front ts f ctx tokens words y xs others) v) (i.clear vs) ∙ l.clear others vs;
        }
    list_reads (Then x xs) = λ ns ss k around w at depth ps h g p b.
        let lines = list_text (printed_forest f xs) depth ps in
        let i = item_reads x ss k around w at depth lines h (g.0) (p.1) (past_indentation tokens at ((printed_tree f x).lines depth lines) depth b) in
        let v = behind_item ctx (source_of ts f ctx tokens words at x) w in
        let y = item_end f.slots at x in
        let l = list_reads xs [] (behind f.slots ss x) (k + slots_of x) around v y depth ps (i.standing) (g.1) (p.2) (i.behind_it) in
        let count : (k + slots_of x) + slots_in xs ≡ k + (slots_of x + slots_in xs) = omega arith in
        record {
          behind_it = l.behind_it;
          keywords = λ others e. (i.keywords, l.keywords others e);
          items = λ others. (λ j. (i.items ∙ ap (λ z. map item.Note z ++ tree_in x ∷ []) (p.0)) j ++ l.items others j)
              ∙ regroup ts f ctx tokens words (map item.Note ns) (settled ts f ctx tokens words [] xs)
              (list_items ctx others (passed ts f ctx tokens words y xs v)) (tree_in x);
          standing = subst (λ j. Standing (names_in ts f) (behind_all f.slots (behind f.slots ss x) xs) j (passed ts f ctx tokens words y xs v)) count
              (l.standing);
          labels = λ others rest. i.labels (list_labels (front ts f ctx tokens words y xs others) rest) ∙
              ap (λ z. names_of ts f ctx tokens words (gathered_of marked_label x) ++ z) (l.labels others rest)
              ∙ names_both ts f ctx tokens words (gathered_of marked_label x) (gathered marked_label xs) (map ctx.word (list_labels others rest));
          clear = λ others vs. ap (list_faults ctx around (front ts f ctx tokens words y xs others) v) (i.clear vs) ∙ l.clear others vs;
        }

    sections_read : (c : Sections) → ReadsSections ts f ctx tokens words c
    sections_read NoSection = no_section ts f ctx tokens words
    sections_read (Section cases default a ends c) = one_section ts f ctx tokens words cases default a ends c (list_reads a) (sections_read c)
