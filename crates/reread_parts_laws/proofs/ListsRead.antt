-- Lists of items: what their text writes, and how it reads back as the list, by its items.
use Rattle.std.proofs.Common.{◌≡◌, ◌+◌, inl, inr, ℕ, List, [], ◌∷◌, ◌++◌, map, refl, ap, sym, subst, ◌∙◌, arith, append_assoc}
use Rattle.c_tree.specs.declared.tree.Function.{Function}
use Rattle.c_tree.specs.declared.tree.Top.{Top}
use Rattle.c_tree.specs.declared.tree.Item.{Item}
use Rattle.c_tree.specs.declared.tree.Item as item
use Rattle.c_tree.specs.Trees.{Tree, Forest, Nil, Then, Sections}
use Rattle.c_tree.specs.Trees as t
use Rattle.c_tree.specs.TextPieces.{Piece, newline, verbatim}
use Rattle.c_tree.specs.TextItems.{list_text}
use Rattle.c_grammar.specs.Statements.{NoItems}
use Rattle.c_grammar.specs.Statements as g
use Rattle.c_grammar.specs.StatementSyntax.{local_end, items_end}
use Rattle.c_grammar.specs.Items as s
use Rattle.c_kinds.specs.Scopes.{Faults}
use Rattle.c_statements.specs.declared.anchors.Anchor.TheVariants.{Before}
use Rattle.c_statements.specs.Context.{Context, Walk, Around, enter, leave, notes_at}
use Rattle.c_statements.specs.Statements.{behind_item, behind_items, item_items, list_items}
use Rattle.c_statements.specs.Violations.{item_faults, list_faults}
use Rattle.c_tree.specs.TextItems.{label_name}
use Rattle.c_statements.specs.Labels.{item_labels, list_labels}
use Rattle.c_resolved_defs.specs.Form.{gathered, gathered_of, marked_label}
use Rattle.c_resolved_defs.specs.Names.{Names}
use Rattle.c_resolved_defs.specs.Resolved.{names_in}
use Rattle.c_resolved_defs.specs.Scopes.{Scope, behind, behind_all, inside}
use Rattle.c_resolved_defs.specs.Verbatims.{IsComment}
use Rattle.print_laws.specs.Reread.{Spelling, spellings, reread_all}
use Rattle.print_laws.specs.Standing.{Stands}
use Rattle.print_laws.specs.StatementDerivations.{slot_declaration, statement_of, items_of}
use Rattle.print_laws.proofs.Standings.{past_indentation}
use Rattle.reread_parts_laws.specs.WrittenStatements.{written_declaration, written_items, written_statement}
use Rattle.reread_parts_laws.specs.Keywords.{ItemsHaveKeywords, HasKeywords}
use Rattle.reread_parts_laws.specs.Words.{AreWords}
use Rattle.reread_parts_laws.specs.GoodItems.{IsGood, AreGood, slots_of, slots_in}
use Rattle.reread_parts_laws.specs.PlacedNotes.{item_end, list_end, trailing, NotesWithin, NotesOfList}
use Rattle.reread_parts_laws.proofs.ItemMirrors.{tree_in, forest_in, printed_tree, printed_forest}
use Rattle.reread_parts_laws.specs.Places.{Standing}

-- ---- comments have no tokens

by_comment : (bs : List ℕ) → IsComment bs → (ps : List Piece) → spellings (reread_all (verbatim bs ps)) ≡ spellings (reread_all ps)
by_comment (a ∷ b ∷ w) (e, inl h) ps = subst (λ x. spellings (reread_all (verbatim (x ∷ b ∷ w) ps)) ≡ spellings (reread_all ps)) (sym e)
    (subst (λ y. spellings (reread_all (verbatim (47 ∷ y ∷ w) ps)) ≡ spellings (reread_all ps)) (sym (h.0)) refl)
by_comment (a ∷ b ∷ w) (e, inr h) ps = subst (λ x. spellings (reread_all (verbatim (x ∷ b ∷ w) ps)) ≡ spellings (reread_all ps)) (sym e)
    (subst (λ y. spellings (reread_all (verbatim (47 ∷ y ∷ w) ps)) ≡ spellings (reread_all ps)) (sym (h.0)) refl)
by_comment [] h ps = absurd h
by_comment (a ∷ []) h ps = absurd h

pub past_comment : (tokens : List Spelling) (at : ℕ) (bs : List ℕ) (ps : List Piece) → IsComment bs → Stands tokens at (verbatim bs ps) → Stands tokens at ps
past_comment tokens at bs ps h s = s ∙ by_comment bs h ps

-- ---- standing

pub still : (n : Names) (ss : List Scope) (k : ℕ) (w : Walk) → Standing n ss k w → Standing n ss (k + 0) w
still n ss k w h = let e : k ≡ k + 0 = omega arith in subst (λ i. Standing n ss i w) e h

pub entered : (n : Names) (ss : List Scope) (k : ℕ) (w : Walk) → Standing n ss k w → Standing n (inside ss) k (enter w)
entered n ss k w h = record { inside = tt; same = (λ m. refl, h.same); slots_are = h.slots_are; count = h.count }

pub left : (n : Names) (ss rs : List Scope) (k i : ℕ) (w v : Walk) → Standing n ss k w → Standing n rs i v → Standing n ss i (leave w v)
left n ss rs k i w v h r = record { inside = h.inside; same = h.same; slots_are = r.slots_are; count = r.count }

module _ (ts : List Top) (f : Function) (ctx : Context) (tokens : List Spelling) (words : AreWords ctx.word tokens) where
  abbrev pub n : Names
  n = names_in ts f

  -- ---- what an item and a list write

  abbrev pub source_of : ℕ → Tree → s.Item
  source_of at (t.Local k given) = let x = slot_declaration f.slots k given [] in s.Declares at (local_end at x) (written_declaration at x)
  source_of at x = written_statement at (statement_of f.slots x)

  abbrev pub front : ℕ → Forest → s.Items → s.Items
  front at Nil rest = rest
  front at (Then (t.Note bytes) xs) rest = front at xs rest
  front at (Then x xs) rest = s.Then (source_of at x) (front (item_end f.slots at x) xs rest)

  abbrev pub passed : ℕ → Forest → Walk → Walk
  passed at Nil w = w
  passed at (Then (t.Note bytes) xs) w = passed at xs w
  passed at (Then x xs) w = passed (item_end f.slots at x) xs (behind_item ctx (source_of at x) w)

  -- the items, with the Notes in front of each, but for those at the end
  abbrev pub settled : List (List ℕ) → Forest → List Item
  settled ns Nil = []
  settled ns (Then (t.Note bytes) xs) = settled (ns ++ bytes ∷ []) xs
  settled ns (Then x xs) = map item.Note ns ++ (tree_in x ∷ settled [] xs)

  note_last : (ns : List (List ℕ)) (bytes : List ℕ) (xs : List Item) → map item.Note ns ++ (item.Note bytes ∷ xs) ≡ map item.Note (ns ++ bytes ∷ []) ++ xs
  note_last [] bytes xs = refl
  note_last (m ∷ ns) bytes xs = ap (λ l. item.Note m ∷ l) (note_last ns bytes xs)

  nothing_behind : (xs : List Item) → xs ++ [] ≡ xs
  nothing_behind [] = refl
  nothing_behind (x ∷ xs) = ap (λ l. x ∷ l) (nothing_behind xs)

  pub all_settled : (xs : Forest) (ns : List (List ℕ)) → settled ns xs ++ map item.Note (trailing ns xs) ≡ map item.Note ns ++ forest_in xs
  all_settled Nil ns = sym (nothing_behind (map item.Note ns))
  all_settled (Then (t.Note bytes) xs) ns = all_settled xs (ns ++ bytes ∷ []) ∙ sym (note_last ns bytes (forest_in xs))
  all_settled (Then x xs) ns = append_assoc (map item.Note ns) (tree_in x ∷ settled [] xs) (map item.Note (trailing [] xs)) ∙
      ap (λ l. map item.Note ns ++ (tree_in x ∷ l)) (all_settled xs [])

  pub written_front : (xs : Forest) (at : ℕ) (others : g.Items) → written_items at (items_of f.slots xs others) ≡ front at xs
      (written_items (list_end f.slots at xs) others)
  written_front Nil at others = refl
  written_front (Then (t.Note bytes) xs) at others = written_front xs at others
  written_front (Then x xs) at others = ap (λ l. s.Then (source_of at x) l) (written_front xs (item_end f.slots at x) others)

  pub end_front : (xs : Forest) (at : ℕ) (others : g.Items) → items_end at (items_of f.slots xs others) ≡ items_end (list_end f.slots at xs) others
  end_front Nil at others = refl
  end_front (Then (t.Note bytes) xs) at others = end_front xs at others
  end_front (Then x xs) at others = end_front xs (item_end f.slots at x) others

  pub behind_front : (xs : Forest) (at : ℕ) (rest : s.Items) (w : Walk) → behind_items ctx (front at xs rest) w ≡ behind_items ctx rest (passed at xs w)
  behind_front Nil at rest w = refl
  behind_front (Then (t.Note bytes) xs) at rest w = behind_front xs at rest w
  behind_front (Then x xs) at rest w = behind_front xs (item_end f.slots at x) rest (behind_item ctx (source_of at x) w)

  -- the names of labels
  abbrev pub names_of : List ℕ → List (List ℕ)
  names_of ls = map (label_name f) ls

  -- ---- how items and lists are read

  abbrev pub ItemHasKeywords : ℕ → Tree → Type 0
  ItemHasKeywords at (t.Local k given) = Unit {0}
  ItemHasKeywords at x = HasKeywords ctx.word at (statement_of f.slots x)

  pub record ItemRead (ss : List Scope) (k : ℕ) (around : Around) (w : Walk) (at : ℕ) (x : Tree) (ps : List Piece) : Type 0 where
    pub behind_it : Stands tokens (item_end f.slots at x) ps
    pub keywords : ItemHasKeywords at x
    pub items : item_items ctx (source_of at x) w ≡ notes_at ctx (Before at) ++ tree_in x ∷ []
    pub standing : Standing n (behind f.slots ss x) (k + slots_of x) (behind_item ctx (source_of at x) w)
    pub clear : (vs : Faults) → item_faults ctx around (source_of at x) w vs ≡ vs
    pub labels : (rest : List ℕ) → map ctx.word (item_labels (source_of at x) rest) ≡ names_of (gathered_of marked_label x) ++ map ctx.word rest

  pub record ListRead (ns : List (List ℕ)) (ss : List Scope) (k : ℕ) (around : Around) (w : Walk) (at : ℕ) (xs : Forest) (ps : List Piece) : Type 0 where
    pub behind_it : Stands tokens (list_end f.slots at xs) ps
    pub keywords : (others : g.Items) → ItemsHaveKeywords ctx.word (list_end f.slots at xs) others → ItemsHaveKeywords ctx.word at (items_of f.slots xs others)
    pub items : (rest : s.Items) → list_items ctx (front at xs rest) w ≡ settled ns xs ++ list_items ctx rest (passed at xs w)
    pub standing : Standing n (behind_all f.slots ss xs) (k + slots_in xs) (passed at xs w)
    pub clear : (rest : s.Items) (vs : Faults) → list_faults ctx around (front at xs rest) w vs ≡ list_faults ctx around rest (passed at xs w) vs
    pub labels : (others : s.Items) (rest : List ℕ) → map ctx.word (list_labels (front at xs others) rest) ≡ names_of (gathered marked_label xs) ++
        map ctx.word (list_labels others rest)

  abbrev pub ReadsOne : Tree → Type 0
  ReadsOne x = (ss : List Scope) (k : ℕ) (around : Around) (w : Walk) (at depth : ℕ) (ps : List Piece) → Standing n ss k w →
      IsGood n f ctx ss k around x → NotesWithin f.slots ctx.notes at x
      → Stands tokens at ((printed_tree f x).lines depth ps) → ItemRead ss k around w at x ps

  abbrev pub ReadsItem : Tree → Type 0
  ReadsItem (t.Note bytes) = Unit {0}
  ReadsItem x = ReadsOne x

  abbrev pub ReadsList : Forest → Type 0
  ReadsList xs = (ns : List (List ℕ)) (ss : List Scope) (k : ℕ) (around : Around) (w : Walk) (at depth : ℕ) (ps : List Piece) → Standing n ss k w →
      AreGood n f ctx ss k around xs → NotesOfList f.slots ctx.notes ns at xs
      → Stands tokens at (list_text (printed_forest f xs) depth ps) → ListRead ns ss k around w at xs ps

  -- ---- lists

  pub none_read : ReadsList Nil
  none_read ns ss k around w at depth ps h g p s = record {
    behind_it = s;
    keywords = λ others e. e;
    items = λ rest. refl;
    standing = still n ss k w
        h;
    clear = λ rest vs. refl;
    labels = λ others rest. refl;
  }

  pub note_read : (bytes : List ℕ) (xs : Forest) → ReadsList xs → ReadsList (Then (t.Note bytes) xs)
  note_read bytes xs r ns ss k around w at depth ps h g p s =
      let s1 = past_indentation tokens at (verbatim bytes (newline (list_text (printed_forest f xs) depth ps))) depth s in
      let s2 = past_comment tokens at bytes (newline (list_text (printed_forest f xs) depth ps)) (g.0) s1 in
      let e : k + 0 ≡ k = omega arith in
      let u = r (ns ++ bytes ∷ []) ss k around w at depth ps h (subst (λ i. AreGood n f ctx ss i around xs) e (g.1)) p s2 in
      let a : k + slots_in xs ≡ k + (0 + slots_in xs) = omega arith in
      record {
        behind_it = u.behind_it;
        keywords = u.keywords;
        items = u.items;
        standing = subst (λ i. Standing n (behind_all f.slots ss xs) i (passed at xs w)) a (u.standing);
        clear = u.clear;
        labels = u.labels;
      }

  pub names_both : (a b : List ℕ) (rest : List (List ℕ)) → names_of a ++ (names_of b ++ rest) ≡ names_of (a ++ b) ++ rest
  names_both [] b rest = refl
  names_both (l ∷ a) b rest = ap (λ r. label_name f l ∷ r) (names_both a b rest)

  pub names_alone : (a : List ℕ) (rest : List (List ℕ)) → names_of a ++ rest ≡ names_of (a ++ []) ++ rest
  names_alone [] rest = refl
  names_alone (l ∷ a) rest = ap (λ r. label_name f l ∷ r) (names_alone a rest)

  -- two lists of items, one after the other
  pub regroup : (a b c : List Item) (x : Item) → (a ++ x ∷ []) ++ (b ++ c) ≡ (a ++ (x ∷ b)) ++ c
  regroup a b c x = append_assoc a (x ∷ []) (b ++ c) ∙ sym (append_assoc a (x ∷ b) c)
