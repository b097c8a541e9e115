-- The sections of a printed switch, one after the other.
use Rattle.std.proofs.Common.{◌≡◌, ◌<◌, ◌+◌, ◌⊎◌, ℕ, Bool, true, false, not, ◌&&◌, ◌||◌, List, [], ◌∷◌, ◌++◌, map, length, Option, Some, None, refl, ap, sym, subst, ◌∙◌, arith, append_assoc}
use Rattle.std.specs.Prelude.{codes, IsTrue}
use Rattle.c_tree.specs.declared.tree.Function.{Function}
use Rattle.c_tree.specs.declared.tree.Top.{Top}
use Rattle.c_tree.specs.declared.tree.Expression.{Expression}
use Rattle.c_tree.specs.declared.tree.Item.{Item, out-Item, out-roll-Item}
use Rattle.c_tree.specs.declared.tree.Item as item
use Rattle.c_tree.specs.ExpressionTrees.{ExpressionTree}
use Rattle.c_tree.specs.Trees.{Tree, Forest, Nil, Then, Sections, NoSection, Section}
use Rattle.c_tree.specs.Trees as t
use Rattle.c_tree.specs.TextPieces.{Piece, Text, ◌⨾◌, newline, space, indentation, punctuator, only_if, joined}
use Rattle.c_tree.specs.TextItems.{Printed, PrintedSection, deeper, list_text, sections_text, case_line, default_line, null_line}
use Rattle.c_tree.specs.TextItems as text
use Rattle.c_tree.specs.SectionLabels.{labels_passed}
use Rattle.c_grammar.specs.Statements.{NoItems}
use Rattle.c_grammar.specs.Statements as g
use Rattle.c_grammar.specs.StatementSyntax.{items_end}
use Rattle.c_grammar.specs.Items as source
use Rattle.c_kinds.specs.Scopes.{Faults}
use Rattle.c_statements.specs.declared.entries.Entry.{Entry}
use Rattle.c_statements.specs.declared.anchors.Anchor.TheVariants.{Before}
use Rattle.c_statements.specs.Context.{Context, Walk, Around, env_at, notes_at}
use Rattle.c_statements.specs.Sections.{Reading, closed, ended, front as in_front}
use Rattle.c_statements.specs.Statements.{behind_items, list_items, sections_from, outside_items}
use Rattle.c_statements.specs.Violations.{list_faults}
use Rattle.c_statements.specs.Cases.{list_entries}
use Rattle.c_resolved_defs.specs.Resolved.{names_in}
use Rattle.c_resolved_defs.specs.Scopes.{Scope, behind_all}
use Rattle.c_resolved_defs.specs.Form.{ends_with_break}
use Rattle.print_laws.specs.Reread.{Spelling}
use Rattle.print_laws.specs.Standing.{Stands}
use Rattle.print_laws.specs.StatementDerivations.{labels_of, labelled, null_statement, starts_with_local, is_nil, ends_with_note, is_last, optional_item, section_end, items_of, sections_of}
use Rattle.print_laws.proofs.Standings.{past_indentation}
use Rattle.reread_parts_laws.specs.WrittenStatements.{written_items}
use Rattle.reread_parts_laws.specs.Keywords.{ItemsHaveKeywords}
use Rattle.reread_parts_laws.specs.Words.{AreWords}
use Rattle.reread_parts_laws.specs.Places.{Standing}
use Rattle.reread_parts_laws.specs.GoodItems.{SectionsAreGood, slots_in, slots_within}
use Rattle.reread_parts_laws.specs.PlacedNotes.{list_end, trailing, cases_end, section_labels_end, optional_end_of, has_last, section_ends_at, WithNull, WithLast, NotesOfEnd, NotesOfSections}
use Rattle.reread_parts_laws.proofs.Mirrors.{expression_in}
use Rattle.reread_parts_laws.proofs.ItemMirrors.{a_section, forest_in, sections_in, printed_forest, printed_sections}
use Rattle.reread_parts_laws.proofs.ExpressionWords.{as_end}
use Rattle.reread_parts_laws.proofs.ListsRead.{ReadsList, settled, passed, front, all_settled, written_front, end_front, behind_front}
use Rattle.reread_parts_laws.proofs.LeavesRead.{keyword_here, a_mark}
use Rattle.reread_parts_laws.proofs.SectionSources.{BeginsNamed, front_begin}
use Rattle.c_kinds.specs.Scopes.{fault_if}
use Rattle.c_statements.specs.Violations.{outside_faults}
use Rattle.c_resolved_defs.specs.Switches.{switch_labels, section_labels, arrivals}
use Rattle.reread_parts_laws.proofs.ListsRead.{still}
use Rattle.reread_parts_laws.proofs.CaseConstants.{Match, match_both, section_match, section_entries, constants_are, cases_clear, entries_are}
use Rattle.reread_parts_laws.proofs.SectionSources.{section_list, with_labels, reading_of, labelled_written, labelled_end, labelled_keywords, sections_begin, faults_begin, outside_begin, entries_begin, walk_begin}
use Rattle.reread_parts_laws.proofs.SectionFronts.{sections_front, entries_in, no_arrivals}
use Rattle.reread_parts_laws.proofs.SectionEnds.{ended_here, ended_open, AllKept, all_passed}
use Rattle.reread_parts_laws.proofs.SectionsRead.{cases_read, default_read, null_read, end_read, section_begins, begins_same, last_same}
use Rattle.std.specs.Prelude.{option_map, IsSomeAnd}
use Rattle.c_types.specs.declared.kinds.IntKind.{IntKind}
use Rattle.c_types.specs.Numbers.{promoted}
use Rattle.c_lexer.proofs.Truths.{or_second}
use Rattle.c_tree.specs.declared.tree.Selector as selector
use Rattle.c_tree.specs.declared.tree.Selector.{Selector, out-Selector, out-roll-Selector}
use Rattle.c_tree.specs.declared.tree.Selector.TheOpen as OS
use Rattle.c_tree.specs.declared.tree.Selector.TheVariants as SV
use Rattle.c_tree.specs.TestTrees.{SelectorTree, Selects, Pick}
use Rattle.c_tree.specs.Constants.{kind_of}
use Rattle.c_tree.specs.TextExpressions.{expression_text}
use Rattle.c_tree.specs.TextItems.{selector_step, selector_text}
use Rattle.c_grammar.specs.ExpressionSyntax.{expression_end}
use Rattle.c_kinds.specs.declared.typed.Valued.{Valued}
use Rattle.c_kinds.specs.Values.{value_of}
use Rattle.c_kinds.specs.Typing.{typed}
use Rattle.c_statements.specs.Context.{in_switch, enter}
use Rattle.c_statements.specs.Declarations.{value_at, value_faults}
use Rattle.c_statements.specs.Cases.{switch_faults}
use Rattle.c_resolved_defs.specs.Scopes.{inside}
use Rattle.c_resolved_defs.specs.Switches.{AreLabels}
use Rattle.print_laws.specs.ExpressionDerivations.{derivation_of}
use Rattle.reread_parts_laws.specs.WrittenExpressions.{expression_form}
use Rattle.reread_parts_laws.specs.WrittenStatements.{expression_term}
use Rattle.reread_parts_laws.specs.GoodItems.{IsValueOf}
use Rattle.reread_parts_laws.proofs.Readings.{has_valued, value_is as value_is_read}
use Rattle.reread_parts_laws.proofs.ListsRead.{ReadsOne, entered, left}
use Rattle.reread_parts_laws.proofs.LeavesRead.{full_read, value_here, values_clear}
use Rattle.reread_parts_laws.proofs.CaseConstants.{entries_clear}
use Rattle.c_statements.specs.Labels.{list_labels}
use Rattle.c_resolved_defs.specs.Form.{gathered, gathered_in, marked_label}
use Rattle.reread_parts_laws.proofs.ListsRead.{names_of, names_both}
use Rattle.reread_parts_laws.proofs.SectionSources.{labels_begin}

-- ---- what the list and the end of a section write

abbrev pub opt_null : Bool → ℕ → source.Items → source.Items
opt_null true y rest = source.Then (source.States [] (source.From y (y + 1) source.Null)) rest
opt_null false y rest = rest

abbrev pub end_source : Bool → Bool → ℕ → source.Items → source.Items
end_source true h z rest = source.Then (source.States [] (source.From z (z + 1 + 1) source.Break)) rest
end_source false h z rest = opt_null h z rest

written_opt : (b : Bool) (y : ℕ) (xs : g.Items) → written_items y (optional_item b null_statement xs) ≡ opt_null b y (written_items (optional_end_of b 1 y) xs)
written_opt true y xs = refl
written_opt false y xs = refl

end_opt : (b : Bool) (y : ℕ) (xs : g.Items) → items_end y (optional_item b null_statement xs) ≡ items_end (optional_end_of b 1 y) xs
end_opt true y xs = refl
end_opt false y xs = refl

written_end : (ends : Bool) (a : Forest) (last : Bool) (z : ℕ) (xs : g.Items) →
    written_items z (section_end ends a last xs) ≡ end_source ends (has_last a last) z (written_items (section_ends_at z ends a last) xs)
written_end true a last z xs = refl
written_end false a last z xs = written_opt (has_last a last) z xs

end_end : (ends : Bool) (a : Forest) (last : Bool) (z : ℕ) (xs : g.Items) →
    items_end z (section_end ends a last xs) ≡ items_end (section_ends_at z ends a last) xs
end_end true a last z xs = refl
end_end false a last z xs = end_opt (has_last a last) z xs

-- ---- no Notes are left at the end of a list that doesn't end with one

no_trailing : (a : Forest) (ns : List (List ℕ)) → ends_with_note a ≡ false → is_nil a ≡ false → trailing ns a ≡ []
no_trailing Nil ns e h = cc
no_trailing (Then (t.Note bytes) Nil) ns e h = cc
no_trailing (Then (t.Note bytes) (Then y ys)) ns e h = no_trailing (Then y ys) (ns ++ bytes ∷ []) e refl
no_trailing (Then x Nil) ns e h = refl
no_trailing (Then x (Then y ys)) ns e h = no_trailing (Then y ys) [] e refl

none_left : (a : Forest) → ends_with_note a ≡ false → trailing [] a ≡ []
none_left Nil e = refl
none_left (Then x xs) e = no_trailing (Then x xs) [] e refl

not_true : (b : Bool) → (b ≡ true → false ≡ true) → b ≡ false
not_true false h = refl
not_true true h = let e = h refl in cc

module _ (ts : List Top) (f : Function) (ctx : Context) (tokens : List Spelling) (words : AreWords ctx.word tokens) where
  nothing_behind : (xs : List Item) → xs ++ [] ≡ xs
  nothing_behind [] = refl
  nothing_behind (x ∷ xs) = ap (λ l. x ∷ l) (nothing_behind xs)

  pub record SectionsRead (ss : List Scope) (k : ℕ) (around : Around) (w : Walk) (at : ℕ) (cs : Sections) (ps : List Piece) : Type 0 where
    pub behind_it : Stands tokens (items_end at (sections_of f.slots cs)) ps
    pub keywords : ItemsHaveKeywords ctx.word at (sections_of f.slots cs)
    pub sections : (reading : Option Reading) → sections_from ctx reading (written_items at (sections_of f.slots cs)) [] w ≡ closed reading ++ sections_in cs
    pub front_is : outside_items ctx (written_items at (sections_of f.slots cs)) w ≡ []
    pub after : List Scope
    pub standing : Standing (names_in ts f) after (k + slots_within cs) (behind_items ctx (written_items at (sections_of f.slots cs)) w)
    pub clear : (vs : Faults) → list_faults ctx around (written_items at (sections_of f.slots cs)) w vs ≡ vs
    pub outside : (vs : Faults) → outside_faults ctx around (written_items at (sections_of f.slots cs)) w vs ≡ vs
    pub entries : List Entry
    pub entries_are : (found : List Entry) → list_entries ctx (written_items at (sections_of f.slots cs)) w found ≡ found ++ entries
    pub matches : Match (switch_labels cs) entries
    pub labels : (rest : List ℕ) → map ctx.word (list_labels (written_items at (sections_of f.slots cs)) rest) ≡ names_of ts f ctx tokens words
        (gathered_in marked_label cs) ++ map ctx.word rest

  abbrev pub ReadsSections : Sections → Type 0
  ReadsSections cs = (ss : List Scope) (k : ℕ) (around : Around) (w : Walk) (at depth : ℕ) (ps : List Piece) → around.switch ≡ true →
      Standing (names_in ts f) ss k w → SectionsAreGood (names_in ts f) f ctx ss k around cs
      → NotesOfSections f.slots ctx.notes at cs → Stands tokens at (sections_text (printed_sections f cs) depth ps) → SectionsRead ss k around w at cs ps

  pub no_section : ReadsSections NoSection
  no_section ss k around w at depth ps sw h g p b = record {
    behind_it = b;
    keywords = tt;
    sections = by_reading;
    front_is = refl;
    after = ss;
    standing = still (names_in ts f) ss k w h;
    clear = λ vs. refl;
    outside = λ vs. refl;
    entries = [];
    entries_are = none_more;
    matches = tt;
    labels = λ rest. refl;
  }
    where
      by_reading : (reading : Option Reading) → sections_from ctx reading source.NoItem [] w ≡ closed reading ++ []
      by_reading None = refl
      by_reading (Some r) = λ i. ended (reading_of r.cases r.default (nothing_behind r.list i)) ∷ []

      none_more : (found : List Entry) → found ≡ found ++ []
      none_more [] = refl
      none_more (x ∷ xs) = ap (λ l. x ∷ l) (none_more xs)

  -- ---- reading goes on with the list of a section

  null_step : (b : Bool) (y : ℕ) (cases : List Expression) (default : Bool) (rest : source.Items) (w : Walk) → WithNull f.slots ctx.notes b y →
      sections_from ctx (Some (reading_of cases default [])) (opt_null b y rest) [] w ≡ sections_from ctx (Some (reading_of cases default [])) rest [] w
  null_step false y cases default rest w h = refl
  null_step true y cases default rest w h = λ i. sections_from ctx (Some (reading_of cases default (map item.Note (h i) ++ []))) rest [] w

  null_walk : (b : Bool) (y : ℕ) (rest : source.Items) (w : Walk) → behind_items ctx (opt_null b y rest) w ≡ behind_items ctx rest w
  null_walk true y rest w = refl
  null_walk false y rest w = refl

  null_clear : (b : Bool) (y : ℕ) (around : Around) (rest : source.Items) (w : Walk) (vs : Faults) →
      list_faults ctx around (opt_null b y rest) w vs ≡ list_faults ctx around rest w vs
  null_clear true y around rest w vs = refl
  null_clear false y around rest w vs = refl

  null_entries : (b : Bool) (y : ℕ) (rest : source.Items) (w : Walk) (found : List Entry) →
      list_entries ctx (opt_null b y rest) w found ≡ list_entries ctx rest w found
  null_entries true y rest w found = refl
  null_entries false y rest w found = refl

  end_walk : (ends h : Bool) (z : ℕ) (rest : source.Items) (w : Walk) → behind_items ctx (end_source ends h z rest) w ≡ behind_items ctx rest w
  end_walk true h z rest w = refl
  end_walk false h z rest w = null_walk h z rest w

  end_clear : (ends h : Bool) (z : ℕ) (around : Around) (rest : source.Items) (w : Walk) (vs : Faults) → around.switch ≡ true →
      list_faults ctx around (end_source ends h z rest) w vs ≡ list_faults ctx around rest w vs
  end_clear true h z around rest w vs sw = (λ i. list_faults ctx around rest w (fault_if (not (around.loop || sw i)) z 27 vs)) ∙
      ap (λ b. list_faults ctx around rest w (fault_if (not b) z 27 vs)) (or_true around.loop)
    where
      or_true : (b : Bool) → (b || true) ≡ true
      or_true true = refl
      or_true false = refl
  end_clear false h z around rest w vs sw = null_clear h z around rest w vs

  end_entries : (ends h : Bool) (z : ℕ) (rest : source.Items) (w : Walk) (found : List Entry) →
      list_entries ctx (end_source ends h z rest) w found ≡ list_entries ctx rest w found
  end_entries true h z rest w found = refl
  end_entries false h z rest w found = null_entries h z rest w found

  null_labels : (b : Bool) (y : ℕ) (rest : source.Items) (others : List ℕ) →
      map ctx.word (list_labels (opt_null b y rest) others) ≡ map ctx.word (list_labels rest others)
  null_labels true y rest others = refl
  null_labels false y rest others = refl

  end_labels : (ends h : Bool) (z : ℕ) (rest : source.Items) (others : List ℕ) →
      map ctx.word (list_labels (end_source ends h z rest) others) ≡ map ctx.word (list_labels rest others)
  end_labels true h z rest others = refl
  end_labels false h z rest others = null_labels h z rest others

  -- the list of a section as it is read, with a `break` that ends it
  abbrev with_end : Bool → List Item → List Item
  with_end true xs = xs ++ item.Break ∷ []
  with_end false xs = xs

  end_step : (ends : Bool) (a : Forest) (last : Bool) (z : ℕ) (cases : List Expression) (default : Bool) (rest : source.Items) (w : Walk) →
      NotesOfEnd f.slots ctx.notes z ends a last
      → sections_from ctx (Some (reading_of cases default (settled ts f ctx tokens words [] a))) (end_source ends (has_last a last) z rest) []
      w ≡ sections_from ctx (Some (reading_of cases default (with_end ends (forest_in a)))) rest [] w
  end_step true a last z cases default rest w e =
      let xs = settled ts f ctx tokens words [] a in
      (λ i. sections_from ctx (Some (reading_of cases default (xs ++ (map item.Note (e i) ++ item.Break ∷ [])))) rest [] w)
      ∙ (λ i. sections_from ctx (Some (reading_of cases default
      ((sym (append_assoc xs (map item.Note (trailing [] a)) (item.Break ∷ [])) ∙
      ap (λ l. l ++ item.Break ∷ []) (all_settled ts f ctx tokens words a [])) i))) rest [] w)
  end_step false a last z cases default rest w e = by_last (has_last a last) refl e
    where
      by_last : (b : Bool) → has_last a last ≡ b → WithLast f.slots ctx.notes b z a
          → sections_from ctx (Some (reading_of cases default (settled ts f ctx tokens words [] a))) (opt_null b z rest) [] w ≡ sections_from ctx
          (Some (reading_of cases default (forest_in a))) rest [] w
      by_last true h e =
          let xs = settled ts f ctx tokens words [] a in
          (λ i. sections_from ctx (Some (reading_of cases default (xs ++ (map item.Note (e i) ++ [])))) rest [] w)
          ∙ (λ i. sections_from ctx (Some
          (reading_of cases default ((ap (λ l. xs ++ l) (nothing_behind (map item.Note (trailing [] a))) ∙ all_settled ts f ctx tokens words a [])
          i))) rest [] w)
      by_last false h e =
          let xs = settled ts f ctx tokens words [] a in
          let none = none_left a (or_second (last && is_nil a) (ends_with_note a) h) in
          (λ i. sections_from ctx (Some (reading_of cases default
          ((sym (nothing_behind xs) ∙ ap (λ l. xs ++ map item.Note l) (sym none) ∙ all_settled ts f ctx tokens words a []) i))) rest [] w)

  section_ended : (ends : Bool) (cases : List ExpressionTree) (default : Bool) (a : Forest) → (0 < length cases) ⊎ IsTrue default →
      (ends_with_break a ≡ true → ends ≡ true)
      → ended (reading_of (map expression_in cases) default (with_end ends (forest_in a))) ≡ a_section (map expression_in cases) default (forest_in a) ends
  section_ended true cases default a h e = ended_here cases default (forest_in a) h
  section_ended false cases default a h e = ended_open cases default a (not_true (ends_with_break a) e)

  -- ---- one more section

  pub one_section : (cases : List ExpressionTree) (default : Bool) (a : Forest) (ends : Bool) (c : Sections) → ReadsList ts f ctx tokens words a →
      ReadsSections c → ReadsSections (Section cases default a ends c)
  one_section cases default a ends c r q ss k around w at depth ps sw h g p b =
      let last = is_last c in
      let others = sections_of f.slots c in
      let there = starts_with_local a in
      let y = section_labels_end at cases default in
      let y1 = optional_end_of there 1 y in
      let z = list_end f.slots y1 a in
      let e = section_ends_at z ends a last in
      let pa = printed_forest f a in
      let inner = deeper depth in
      let es = map expression_in cases in
      let p5 = sections_text (printed_sections f c) depth ps in
      let p4 = text.section_end ends pa last inner p5 in
      let p3 = list_text pa inner p4 in
      let p2 = only_if there (null_line inner) p3 in
      let p1 = only_if default (default_line depth) p2 in
      let b0 = subst (λ i. Stands tokens at
      ((joined (map (case_line f.slots depth) es) ⨾ only_if default (default_line depth) ⨾ only_if i (null_line inner) ⨾ list_text pa
      inner ⨾ text.section_end ends pa (text.is_empty (printed_sections f c)) inner ⨾ sections_text (printed_sections f c) depth) ps))
      (begins_same ts f ctx tokens words a) b in
      let b1 = subst (λ i. Stands tokens at
      ((joined (map (case_line f.slots depth) es) ⨾ only_if default (default_line depth) ⨾ only_if there (null_line inner) ⨾ list_text pa
      inner ⨾ text.section_end ends pa i inner ⨾ sections_text (printed_sections f c) depth) ps)) (last_same ts f ctx tokens words c) b0 in
      let u1 = cases_read ts f ctx tokens words cases ss k w at depth p1 h (g.0) b1 in
      let u2 = default_read ts f ctx tokens words default (cases_end at cases) depth p2 (u1.behind_it) in
      let u3 = null_read ts f ctx tokens words there y inner p3 (u2.1) in
      let u4 = r [] ss k around w y1 inner p4 h (g.2) (p.2) (u3.behind_it) in
      let u5 = end_read ts f ctx tokens words ends a last z inner p5 (u4.behind_it) in
      let w1 = passed ts f ctx tokens words y1 a w in
      let u6 = q (behind_all f.slots ss a) (k + slots_in a) around w1 e depth ps sw (u4.standing) (g.5) (p.4) (u5.behind_it) in
      let ends_list = section_end ends a last others in
      let x0 = optional_item there null_statement (items_of f.slots a ends_list) in
      let n = section_begins ts f ctx tokens words a ends c others (g.4) in
      let env = env_at ctx w in
      let rest = written_items e others in
      let tail = end_source ends (has_last a last) z rest in
      let body = front ts f ctx tokens words y1 a tail in
      let wx : written_items y x0 ≡ opt_null there y body
      = written_opt there y (items_of f.slots a ends_list) ∙ ap (opt_null there y)
      (written_front ts f ctx tokens words a y1 ends_list ∙ ap (front ts f ctx tokens words y1 a) (written_end ends a last z others)) in
      let wl : written_items at (labelled (labels_of cases default) x0) ≡ with_labels (section_list at cases default) (written_items y x0) =
      labelled_written cases at default x0 (n.stated) in
      let bn : BeginsNamed (written_items y x0) = n.named y in
      let list_is : list_items ctx (front ts f ctx tokens words y1 a source.NoItem) w ≡ settled ts f ctx tokens words [] a =
      u4.items source.NoItem ∙ nothing_behind (settled ts f ctx tokens words [] a) in
      let new = section_entries env at cases default in
      let none : arrivals a ≡ [] = no_arrivals ts f ctx a ss k around (g.2) in
      let count : (k + slots_in a) + slots_within c ≡ k + (slots_in a + slots_within c) = omega arith in
      let walked : behind_items ctx (written_items at (labelled (labels_of cases default) x0)) w ≡ behind_items ctx rest w1
      = ap (λ l. behind_items ctx l w) wl ∙ walk_begin ctx (section_list at cases default) (written_items y x0) w bn ∙
      ap (λ l. behind_items ctx l w) wx ∙ null_walk there y body w
      ∙ behind_front ts f ctx tokens words a y1 tail w ∙ end_walk ends (has_last a last) z rest w1 in
      let cleared : (vs : Faults) → list_faults ctx around (written_items at (labelled (labels_of cases default) x0)) w vs ≡ vs = λ vs.
      ap (λ l. list_faults ctx around l w vs) wl ∙ faults_begin ctx around cases at default (written_items y x0) w bn sw
      (cases_clear env cases at default (u1.reads)) vs
      ∙ ap (λ l. list_faults ctx around l w vs) wx ∙ null_clear there y around body w vs ∙ u4.clear tail vs ∙
      end_clear ends (has_last a last) z around rest w1 vs sw ∙ u6.clear vs in
      record {
        behind_it = as_end f.slots tokens ctx.word words (items_end at (labelled (labels_of cases default) x0)) (items_end e others) ps
            (labelled_end cases at default x0 (n.stated) ∙ end_opt there y (items_of f.slots a ends_list) ∙
            end_front ts f ctx tokens words a y1 ends_list ∙ end_end ends a last z others) (u6.behind_it);
        keywords = labelled_keywords ctx.word cases at default x0 (n.stated) (u2.0)
            (u3.keywords (items_of f.slots a ends_list) (u4.keywords ends_list (u5.keywords others (u6.keywords))));
        sections = λ reading.
            ap (λ l. sections_from ctx reading l [] w) wl ∙ sections_begin ctx reading cases at default (written_items y x0) [] w (g.1) bn (p.0)
            ∙ ap (λ l. closed reading ++ l)
            ((λ i. sections_from ctx (Some (reading_of (constants_are env cases at (u1.reads) ctx i) default [])) (wx i) [] w) ∙
            null_step there y es default body w (p.1)
            ∙ sections_front ts f ctx tokens words a y1 (reading_of es default []) tail [] w ∙
            (λ i. sections_from ctx (Some (reading_of es default (list_is i))) tail [] w1)
            ∙ end_step ends a last z es default rest w1 (p.3) ∙ u6.sections (Some (reading_of es default (with_end ends (forest_in a))))
            ∙ (λ i. section_ended ends cases default a (g.1) (g.3) i ∷ sections_in c));
        front_is = ap (λ l. outside_items ctx l w) wl ∙ front_begin ctx cases at default (written_items y x0) w (g.1) bn;
        after = u6.after;
        standing = subst (λ v. Standing (names_in ts f) (u6.after) (k + (slots_in a + slots_within c)) v) (sym walked)
            (subst (λ j. Standing (names_in ts f) (u6.after) j (behind_items ctx rest w1)) count (u6.standing));
        clear = cleared;
        outside = λ vs.
            ap (λ l. outside_faults ctx around l w vs) wl ∙ outside_begin ctx around cases at default (written_items y x0) w (g.1) bn vs ∙
            sym (ap (λ l. list_faults ctx around l w vs) wl) ∙ cleared vs;
        labels = λ others.
            ap (λ l. map ctx.word (list_labels l others)) wl ∙ ap (map ctx.word) (labels_begin cases at default (written_items y x0) others bn) ∙
            ap (λ l. map ctx.word (list_labels l others)) wx ∙ null_labels there y body others
            ∙ u4.labels tail others ∙ ap (λ l. names_of ts f ctx tokens words (gathered marked_label a) ++ l)
            (end_labels ends (has_last a last) z rest others ∙ u6.labels others)
            ∙ names_both ts f ctx tokens words (gathered marked_label a) (gathered_in marked_label c) (map ctx.word others);
        entries = new ++ (u6.entries);
        entries_are = λ found.
            ap (λ l. list_entries ctx l w found) wl ∙ entries_begin ctx cases at default (written_items y x0) w found bn
            ∙ (λ i. list_entries ctx (wx i) w (entries_are env cases at default found (u1.reads) i)) ∙ null_entries there y body w (found ++ new)
            ∙ entries_in ts f ctx tokens words a y1 tail w (found ++ new) ∙ end_entries ends (has_last a last) z rest w1 (found ++ new) ∙
            u6.entries_are (found ++ new) ∙ append_assoc found new (u6.entries);
        matches = match_both (section_labels cases default) (arrivals a ++ switch_labels c) new (u6.entries)
            (section_match env cases at default (u1.reads)) (subst (λ l. Match (l ++ switch_labels c) (u6.entries)) (sym none) (u6.matches));
      }

  -- ---- the switch

  all_kept : (c : Sections) (ss : List Scope) (k : ℕ) (around : Around) → SectionsAreGood (names_in ts f) f ctx ss k around c → AllKept c
  all_kept NoSection ss k around g = tt
  all_kept (Section cases default a ends c) ss k around g = (g.4, all_kept c _ _ _ (g.5))

  selector_is : (e : Expression) → selector_step f.slots (out-Selector (selector.Source e)) ≡ expression_text f.slots e 1
  selector_is e = ap (λ x. selector_step f.slots (out-Selector x)) (sym (SV.rolls-Source e)) ∙ ap (selector_step f.slots) (out-roll-Selector (OS.Source e))

  -- the value of a selector behind its bracket, and the closing bracket
  record SelectorRead (w : Walk) (at : ℕ) (x : ExpressionTree) (ps : List Piece) : Type 0 where
    value_is : value_at (env_at ctx w) (expression_term at (derivation_of x)) ≡ expression_in x
    kind : IntKind
    kind_is : kind_of x ≡ Some kind
    found : option_map (λ (v : Valued). v.kind) (value_of (typed (env_at ctx w) (expression_term at (derivation_of x)))) ≡ Some kind
    clear : (vs : Faults) → value_faults (env_at ctx w) (expression_term at (derivation_of x)) vs ≡ vs
    behind_it : Stands tokens (expression_end at (derivation_of x) + 1) ps

  selector_read : (x : ExpressionTree) (ss : List Scope) (k : ℕ) (w : Walk) (at : ℕ) (ps : List Piece) → Standing (names_in ts f) ss k w →
      IsValueOf (names_in ts f) ss x → Stands tokens at (selector_text f.slots (selector.Source (expression_in x)) ps) → SelectorRead w (at + 1) x ps
  selector_read x ss k w at ps h g b =
      let m = a_mark ts f ctx tokens words at
      (codes "(") ((selector_step f.slots (out-Selector (selector.Source (expression_in x))) ⨾ punctuator (codes ")")) ps) b in
      let b1 = subst (λ (y : Text). Stands tokens (at + 1) ((y ⨾ punctuator (codes ")")) ps)) (selector_is (expression_in x)) m in
      let u = full_read ts f ctx tokens words ss k w (at + 1) x (punctuator (codes ")") ps) h (g.good) b1 in
      let v = has_valued x (g.kind) in
      record {
        value_is = value_here ts f ctx tokens words ss w (at + 1) x _ u (g.kind);
        kind = v.valued.kind;
        kind_is = v.kind;
        found = ap (option_map (λ (y : Valued). y.kind)) (value_is_read (env_at ctx w) (expression_form (at + 1) (derivation_of x)) x (u.reads) (g.kind));
        clear = λ vs. values_clear ts f ctx tokens words ss w (at + 1) x _ u (g.kind) vs;
        behind_it = a_mark ts f ctx tokens words (expression_end (at + 1) (derivation_of x)) (codes ")") ps (u.behind_it);
      }

  switch_clear : (o : Option IntKind) (kind : IntKind) (es : List Entry) (ls : List (Option ExpressionTree)) (vs : Faults) → o ≡ Some kind →
      Match ls es → AreLabels (promoted kind) ls → switch_faults o es vs ≡ vs
  switch_clear o kind es ls vs e m h = ap (λ z. switch_faults z es vs) e ∙ entries_clear (promoted kind) ls es m h vs

  pub switch_reads : (s : SelectorTree) (c : Sections) → ReadsSections c → ReadsOne ts f ctx tokens words (t.Switch s c)
  switch_reads (Selects x) c q ss k around w at depth ps h g p b =
      let tail = (indentation depth ⨾ punctuator (codes "}") ⨾ newline) ps in
      let p1 = (space ⨾ punctuator (codes "{") ⨾ newline ⨾ sections_text (printed_sections f c) depth) tail in
      let m = keyword_here ts f ctx tokens words at (codes "switch") ((space ⨾ selector_text f.slots (selector.Source (expression_in x))) p1) b in
      let o = selector_read x ss k w (at + 1) p1 h (g.0) (m.1) in
      let y = expression_end (at + 1 + 1) (derivation_of x) + 1 in
      let b1 = a_mark ts f ctx tokens words y (codes "{") (newline (sections_text (printed_sections f c) depth tail)) (o.behind_it) in
      let u = q (inside ss) k (in_switch around) (enter w) (y + 1) depth tail refl (entered (names_in ts f) ss k w h) (g.2) (p.0) b1 in
      let xs = sections_of f.slots c in
      let z = items_end (y + 1) xs in
      let src = written_items (y + 1) xs in
      let term = expression_term (at + 1 + 1) (derivation_of x) in
      let env = env_at ctx w in
      let labels : AreLabels (promoted (o.kind)) (switch_labels c) = holds_of_kind (kind_of x) (o.kind) (λ i. AreLabels i (switch_labels c))
      (o.kind_is) (g.1) in
      record {
        behind_it = a_mark ts f ctx tokens words z (codes "}") (newline ps) (past_indentation tokens z ((punctuator (codes "}") ⨾ newline) ps) depth
            (u.behind_it));
        keywords = (m.0, u.keywords);
        items = λ i. notes_at ctx (Before at) ++ item.Switch (selector.Source (o.value_is i))
            (((λ i. labels_passed (in_front (u.front_is i) ++ sections_from ctx None src (map item.Note (p.1 i)) (enter w))) ∙
            ap labels_passed (u.sections None) ∙ all_passed c (all_kept c (inside ss) k (in_switch around) (g.2))) i) ∷ [];
        standing = left (names_in ts f) ss (u.after) k (k + slots_within c) w (behind_items ctx src (enter w)) h (u.standing);
        labels = u.labels;
        clear = λ vs.
            ap (λ l. switch_faults (option_map (λ (v : Valued). v.kind) (value_of (typed env term))) (list_entries ctx src (enter w) [])
            (outside_faults ctx (in_switch around) src (enter w) l)) (o.clear vs)
            ∙ ap (λ l. switch_faults (option_map (λ (v : Valued). v.kind) (value_of (typed env term))) (list_entries ctx src (enter w) []) l) (u.outside vs)
            ∙ ap (λ l. switch_faults (option_map (λ (v : Valued). v.kind) (value_of (typed env term))) l vs) (u.entries_are [])
            ∙ switch_clear (option_map (λ (v : Valued). v.kind) (value_of (typed env term))) (o.kind) (u.entries) (switch_labels c) vs (o.found)
            (u.matches) labels;
      }
    where
      holds_of_kind : (o : Option IntKind) (kind : IntKind) (P : IntKind → Type 0) → o ≡ Some kind → IsSomeAnd (option_map promoted o) P → P (promoted kind)
      holds_of_kind o kind P e h = subst (λ z. IsSomeAnd (option_map promoted z) P) e h
  switch_reads (Pick l i s) c q ss k around w at depth ps h g p b = absurd (g.0)
