-- Items in the list of a section: they go on with it, and hold no case label of its switch.
use Rattle.std.proofs.Common.{◌≡◌, ◌+◌, ℕ, List, [], ◌∷◌, ◌++◌, Some, None, refl, ap, sym, ◌∙◌, append_assoc}
use Rattle.c_tree.specs.declared.tree.Function.{Function}
use Rattle.c_tree.specs.declared.tree.Top.{Top}
use Rattle.c_tree.specs.declared.tree.Item.{Item}
use Rattle.c_tree.specs.TestTrees.{TestTree}
use Rattle.c_tree.specs.Trees.{Tree, Forest, Nil, Then, Sections, NoSection, Section}
use Rattle.c_tree.specs.Trees as t
use Rattle.c_grammar.specs.Statements.{NoItems}
use Rattle.c_grammar.specs.Items as s
use Rattle.c_statements.specs.declared.entries.Entry.{Entry}
use Rattle.c_statements.specs.Context.{Context, Walk, Around, enter}
use Rattle.c_statements.specs.Sections.{Reading}
use Rattle.c_statements.specs.Statements.{behind_item, item_items, list_items, sections_from}
use Rattle.c_statements.specs.Cases.{item_entries, body_entries, list_entries}
use Rattle.c_resolved_defs.specs.Resolved.{names_in}
use Rattle.c_resolved_defs.specs.Scopes.{Scope}
use Rattle.c_resolved_defs.specs.Switches.{arrivals, arrivals_of}
use Rattle.print_laws.specs.Reread.{Spelling}
use Rattle.print_laws.specs.StatementDerivations.{block, items_of}
use Rattle.reread_parts_laws.specs.WrittenStatements.{written_body}
use Rattle.reread_parts_laws.specs.Words.{AreWords}
use Rattle.reread_parts_laws.specs.GoodItems.{IsGood, AreGood}
use Rattle.reread_parts_laws.specs.PlacedNotes.{item_end}
use Rattle.reread_parts_laws.proofs.ListsRead.{source_of, front, passed, written_front}
use Rattle.reread_parts_laws.proofs.ConstructsRead.{else_statement}
use Rattle.reread_parts_laws.proofs.SectionSources.{reading_of}

module _ (ts : List Top) (f : Function) (ctx : Context) (tokens : List Spelling) (words : AreWords ctx.word tokens) where
  -- ---- items go on with the section that is being read

  abbrev go_on : Reading → List Item → Reading
  go_on r xs = reading_of r.cases r.default (r.list ++ xs)

  nothing_behind : (xs : List Item) → xs ++ [] ≡ xs
  nothing_behind [] = refl
  nothing_behind (x ∷ xs) = ap (λ l. x ∷ l) (nothing_behind xs)

  pub sections_front : (a : Forest) (y : ℕ) (r : Reading) (rest : s.Items) (notes : List Item) (w : Walk)
      → sections_from ctx (Some r) (front ts f ctx tokens words y a rest) notes w ≡ sections_from ctx
      (Some (go_on r (list_items ctx (front ts f ctx tokens words y a s.NoItem) w))) rest notes (passed ts f ctx tokens words y a w)
  sections_front Nil y r rest notes w = λ i. sections_from ctx (Some (reading_of r.cases r.default (sym (nothing_behind r.list) i))) rest notes w
  sections_front (Then (t.Note bytes) xs) y r rest notes w = sections_front xs y r rest notes w
  sections_front (Then (t.If c a Nil) xs) y r rest notes w =
      let src = source_of ts f ctx tokens words y (t.If c a Nil) in
      let v = behind_item ctx src w in
      let z = item_end f.slots y (t.If c a Nil) in
      let new = item_items ctx src w in
      sections_front xs z (go_on r new) rest notes v
      ∙ (λ i. sections_from ctx (Some (reading_of r.cases r.default
      (append_assoc r.list new (list_items ctx (front ts f ctx tokens words z xs s.NoItem) v) i))) rest notes (passed ts f ctx tokens words z xs v))
  sections_front (Then (t.If c a (Then d ds)) xs) y r rest notes w =
      let src = source_of ts f ctx tokens words y (t.If c a (Then d ds)) in
      let v = behind_item ctx src w in
      let z = item_end f.slots y (t.If c a (Then d ds)) in
      let new = item_items ctx src w in
      sections_front xs z (go_on r new) rest notes v
      ∙ (λ i. sections_from ctx (Some (reading_of r.cases r.default
      (append_assoc r.list new (list_items ctx (front ts f ctx tokens words z xs s.NoItem) v) i))) rest notes (passed ts f ctx tokens words z xs v))
  sections_front (Then x xs) y r rest notes w =
      let src = source_of ts f ctx tokens words y x in
      let v = behind_item ctx src w in
      let z = item_end f.slots y x in
      let new = item_items ctx src w in
      sections_front xs z (go_on r new) rest notes v
      ∙ (λ i. sections_from ctx (Some (reading_of r.cases r.default
      (append_assoc r.list new (list_items ctx (front ts f ctx tokens words z xs s.NoItem) v) i))) rest notes (passed ts f ctx tokens words z xs v))

  -- ---- no case label of a switch around it stands in an item

  abbrev EntriesOne : Tree → Type 0
  EntriesOne x = (at : ℕ) (w : Walk) (found : List Entry) → item_entries ctx (source_of ts f ctx tokens words at x) w found ≡ found

  abbrev EntriesOf : Tree → Type 0
  EntriesOf (t.Note bytes) = Unit {0}
  EntriesOf x = EntriesOne x

  abbrev EntriesIn : Forest → Type 0
  EntriesIn a = (at : ℕ) (rest : s.Items) (w : Walk) (found : List Entry) →
      list_entries ctx (front ts f ctx tokens words at a rest) w found ≡ list_entries ctx rest (passed ts f ctx tokens words at a w) found

  body_none : (a : Forest) → EntriesIn a → (at : ℕ) (w : Walk) (found : List Entry) →
      body_entries ctx (written_body at (block (items_of f.slots a NoItems))) w found ≡ found
  body_none a h at w found = ap (λ l. list_entries ctx l (enter w) found) (written_front ts f ctx tokens words a (at + 1) NoItems) ∙
      h (at + 1) s.NoItem (enter w) found

  abbrev EntriesElse : Forest → Type 0
  EntriesElse Nil = Unit {0}
  EntriesElse (Then x xs) = (at : ℕ) (w : Walk) (found : List Entry) →
      body_entries ctx (written_body at (else_statement ts f ctx tokens words x xs)) w found ≡ found

  abbrev EntriesLone : Forest → Type 0
  EntriesLone (Then (t.If c a b) Nil) = EntriesOne (t.If c a b)
  EntriesLone _ = Unit {0}

  more_none : (x y : Tree) (ys : Forest) → EntriesIn (Then x (Then y ys)) → EntriesElse (Then x (Then y ys))
  more_none (t.Note bytes) y ys h = λ at w found. body_none (Then (t.Note bytes) (Then y ys)) h at w found
  more_none (t.If c a b) y ys h = λ at w found. body_none (Then (t.If c a b) (Then y ys)) h at w found
  more_none x y ys h = λ at w found. body_none (Then x (Then y ys)) h at w found

  else_none : (b : Forest) → EntriesIn b → EntriesLone b → EntriesElse b
  else_none Nil h q = tt
  else_none (Then (t.If c a Nil) Nil) h q = λ at w found. q at (enter w) found
  else_none (Then (t.If c a (Then y ys)) Nil) h q = λ at w found. q at (enter w) found
  else_none (Then x Nil) h q = λ at w found. body_none (Then x Nil) h at w found
  else_none (Then x (Then y ys)) h q = more_none x y ys h

  if_none : (c : TestTree) (a b : Forest) → EntriesIn a → EntriesElse b → EntriesOne (t.If c a b)
  if_none c a Nil h q = λ at w found. body_none a h _ w found
  if_none c a (Then y ys) h q = λ at w found. q _ _ _ ∙ body_none a h _ w found

  mutual
    entries_of : (x : Tree) → EntriesOf x
    entries_of (t.If c a b) = if_none c a b (entries_in a) (else_none b (entries_in b) (entries_lone b))
    entries_of (t.While c a) = λ at w found. body_none a (entries_in a) _ w found
    entries_of (t.Do a c) = λ at w found. body_none a (entries_in a) _ w found
    entries_of (t.For first c u a) = λ at w found. body_none a (entries_in a) _ _ found
    entries_of (t.Block a) = λ at w found. body_none a (entries_in a) _ w found
    entries_of (t.Return None) = λ at w found. refl
    entries_of (t.Return (Some e)) = λ at w found. refl
    entries_of (t.Note bytes) = tt
    entries_of _ = λ at w found. refl

    entries_lone : (b : Forest) → EntriesLone b
    entries_lone (Then (t.If c a b) Nil) = if_none c a b (entries_in a) (else_none b (entries_in b) (entries_lone b))
    entries_lone _ = tt

    pub entries_in : (a : Forest) → EntriesIn a
    entries_in Nil = λ at rest w found. refl
    entries_in (Then (t.Note bytes) xs) = entries_in xs
    entries_in (Then x xs) = λ at rest w found.
        let src = source_of ts f ctx tokens words at x in
        let v = behind_item ctx src w in
        ap (list_entries ctx (front ts f ctx tokens words (item_end f.slots at x) xs rest) v) (entries_of x at w found) ∙
        entries_in xs (item_end f.slots at x) rest v found

-- ---- no nested case label stands in good items

module _ (ts : List Top) (f : Function) (ctx : Context) where
  both : {X : Type 0} (a b : List X) → a ≡ [] → b ≡ [] → a ++ b ≡ []
  both a b e h = λ i. e i ++ h i

  mutual
    no_arrival : (x : Tree) (ss : List Scope) (k : ℕ) (around : Around) → IsGood (names_in ts f) f ctx ss k around x → arrivals_of x ≡ []
    no_arrival (t.If c a b) ss k around g = both (arrivals a) (arrivals b) (no_arrivals a _ _ _ (g.1)) (no_arrivals b _ _ _ (g.2))
    no_arrival (t.While c a) ss k around g = no_arrivals a _ _ _ (g.1)
    no_arrival (t.Do a c) ss k around g = no_arrivals a _ _ _ (g.0)
    no_arrival (t.For first c u a) ss k around g = no_arrivals a _ _ _ (g.3)
    no_arrival (t.Block a) ss k around g = no_arrivals a _ _ _ g
    no_arrival (t.Arrival e) ss k around g = absurd g
    no_arrival _ ss k around g = refl

    pub no_arrivals : (xs : Forest) (ss : List Scope) (k : ℕ) (around : Around) → AreGood (names_in ts f) f ctx ss k around xs → arrivals xs ≡ []
    no_arrivals Nil ss k around g = refl
    no_arrivals (Then x xs) ss k around g = both (arrivals_of x) (arrivals xs) (no_arrival x ss k around (g.0)) (no_arrivals xs _ _ _ (g.1))
