-- The full expressions of the printed text of a body count no more tokens than those of the body.
use Rattle.std.proofs.Common.{◌≤◌, ℕ, Bool, true, false, cond, List, [], ◌∷◌, map, Option, Some, None, refl, arith}
use Rattle.std.specs.Prelude.{slice_get, option_map}
use Rattle.std.specs.Option.{option_map_or}
use Rattle.c_tree.specs.declared.tree.Slot.{Slot}
use Rattle.c_tree.specs.declared.tree.Function.{Function}
use Rattle.c_tree.specs.ExpressionTrees.{ExpressionTree}
use Rattle.c_tree.specs.TestTrees.{TestTree, Source, SelectorTree, Selects}
use Rattle.c_tree.specs.Trees.{Tree, Forest, Nil, Then, Sections, NoSection, Section}
use Rattle.c_tree.specs.Trees as t
use Rattle.c_tree.specs.Cases.{selector_source}
use Rattle.c_grammar.specs.Counts.{assignment_events, conditional_events}
use Rattle.c_grammar.specs.Statements.{Declarator, Label, Statement, Items, NoItems, LocalItem, StatementItem}
use Rattle.c_resolved_defs.specs.PrintableExpressions.{counted, counted_at}
use Rattle.c_resolved_defs.specs.PrintableStatements.{FullPrints, OptionPrints, ListPrints, ValuesPrint, SlotPrints, TestPrints, SelectorPrints, FurtherPrint, StartPrints, ItemPrints, ItemsPrint, SectionsPrint}
use Rattle.c_resolved_defs.specs.Limits.{most_of, most_if, most_listed, most_tested, most_counted, most_counted_of, most_counted_in}
use Rattle.c_resolved_defs.specs.Within.{Each}
use Rattle.print_laws.specs.ExpressionDerivations.{derivation_of}
use Rattle.print_laws.specs.StatementDerivations.{assignment_of, conditional_of, size_of, value_of, declarator_of, declaration_of, no_declarator, no_local, slot_declarator, slot_declaration, test_of, selector_of, declarators_of, start_of, labels_of, behind_labels, labelled, null_statement, starts_with_local, is_last, optional_item, section_end, is_lone_if, placed, block, statement_of, items_of, sections_of}
use Rattle.print_laws.proofs.Costs.{Within}
use Rattle.print_laws.proofs.Levels.{lies_assigned, lies_chosen}
use Rattle.print_laws.proofs.ExpressionFits.{fits, costs, laid_adds}
use Rattle.reread_parts_laws.specs.PlacedNotes.{has_last}
use Rattle.c_source_laws.proofs.Counted.{expression_count, assignment_count, conditional_count, expression_held, assignment_held, conditional_held}
use Rattle.reread_program_laws.proofs.CountLow.{FewOptional, FewSize, FewAssignment, FewValue, FewDeclarator, FewLocal, FewLabel, FewStart, FewItems, FewStatement}

nothing : Within 0 []
nothing = record { none = refl; few = omega arith }

module _ (slots : List Slot) (m : ℕ) where
  expression_few : (x : ExpressionTree) → FullPrints slots 1 x → counted x ≤ m → expression_count (derivation_of x) ≤ m
  expression_few x h k =
      let few = h.few in
      let w = (costs x 0 [] (omega (arith, few)) nothing).few in
      let e = expression_held (derivation_of x) [] in
      omega (arith, k, w, e)

  assignment_few : (x : ExpressionTree) → FullPrints slots 2 x → counted_at 2 x ≤ m → assignment_count (assignment_of x) ≤ m
  assignment_few x h k =
      let few = h.few in
      let w = (laid_adds 2 (counted x) x _ (assignment_events (assignment_of x)) (lies_assigned (derivation_of x) (fits x)) (costs x) 0 []
      (omega (arith, few)) nothing).few in
      let e = assignment_held (assignment_of x) [] in
      omega (arith, k, w, e)

  conditional_few : (x : ExpressionTree) → FullPrints slots 3 x → counted_at 3 x ≤ m → conditional_count (conditional_of x) ≤ m
  conditional_few x h k =
      let few = h.few in
      let w = (laid_adds 3 (counted x) x _ (conditional_events (conditional_of x)) (lies_chosen (derivation_of x) (fits x)) (costs x) 0 []
      (omega (arith, few)) nothing).few in
      let e = conditional_held (conditional_of x) [] in
      omega (arith, k, w, e)

  -- ---- declarations

  more_few : (xs : List ExpressionTree) → ListPrints slots 2 xs → most_of 2 xs ≤ m → Each (FewAssignment m) (map assignment_of xs)
  more_few [] h k = tt
  more_few (x ∷ xs) h k = (assignment_few x (h.0) (omega (arith, k)), more_few xs (h.1) (omega (arith, k)))

  value_few : (cells : Option ℕ) (given : Option (List ExpressionTree)) → ValuesPrint slots cells given → most_listed given ≤ m →
      FewValue m (value_of cells given)
  value_few None None h k = tt
  value_few (Some n) None h k = tt
  value_few None (Some (x ∷ [])) h k = assignment_few x h (omega (arith, k))
  value_few (Some n) (Some (x ∷ xs)) h k = (assignment_few x (h.0) (omega (arith, k)), more_few xs (h.1) (omega (arith, k)))
  value_few None (Some []) h k = absurd h
  value_few None (Some (x ∷ y ∷ xs)) h k = absurd h
  value_few (Some n) (Some []) h k = absurd h

  size_few : (cells : Option ℕ) → FewSize m (size_of cells)
  size_few None = tt
  size_few (Some n) = omega arith

  declarator_few : (k : ℕ) (given : Option (List ExpressionTree)) → SlotPrints slots (slice_get slots k) given → most_listed given ≤ m →
      FewDeclarator m (slot_declarator slots k given)
  declarator_few k given h l = by (slice_get slots k) h
    where
      by : (o : Option Slot) → SlotPrints slots o given → FewDeclarator m (option_map_or (λ (s : Slot). declarator_of s given) o no_declarator)
      by None h = absurd h
      by (Some s) h = (size_few s.cells, value_few s.cells given h.values l)

  local_few : (k : ℕ) (given : Option (List ExpressionTree)) (others : List Declarator) → SlotPrints slots (slice_get slots k) given →
      most_listed given ≤ m → Each (FewDeclarator m) others → FewLocal m (slot_declaration slots k given others)
  local_few k given others h l e = by (slice_get slots k) h
    where
      by : (o : Option Slot) → SlotPrints slots o given → FewLocal m (option_map_or (λ (s : Slot). declaration_of s given others) o no_local)
      by None h = absurd h
      by (Some s) h = ((size_few s.cells, value_few s.cells given h.values l), e)

  further_few : (xs : Forest) → FurtherPrint slots xs → most_counted xs ≤ m → Each (FewDeclarator m) (declarators_of slots xs)
  further_few Nil h k = tt
  further_few (Then (t.Local j given) xs) h k = (declarator_few j given (h.0) (omega (arith, k)), further_few xs (h.1) (omega (arith, k)))
  further_few (Then _ xs) h k = absurd h

  start_few : (xs : Forest) → StartPrints slots xs → most_counted xs ≤ m → FewStart m (start_of slots xs)
  start_few Nil h k = tt
  start_few (Then (t.Evaluate x) Nil) h k = expression_few x h (omega (arith, k))
  start_few (Then (t.Evaluate x) (Then y ys)) h k = absurd h
  start_few (Then (t.Local j given) xs) h k = local_few j given (declarators_of slots xs) (h.0) (omega (arith, k)) (further_few xs (h.1) (omega (arith, k)))
  start_few (Then _ xs) h k = absurd h

  -- ---- the parts of statements

  test_few : (x : TestTree) → TestPrints slots x → most_tested x ≤ m → expression_count (test_of x) ≤ m
  test_few (Source e) h k = expression_few e h k
  test_few _ h k = absurd h

  selector_few : (x : SelectorTree) → SelectorPrints slots x → counted (selector_source x) ≤ m → expression_count (selector_of x) ≤ m
  selector_few (Selects e) h k = expression_few e h k
  selector_few _ h k = absurd h

  option_few : (x : Option ExpressionTree) → OptionPrints slots x → most_if x ≤ m → FewOptional m (option_map derivation_of x)
  option_few None h k = tt
  option_few (Some e) h k = expression_few e h k

  labels_few : (cases : List ExpressionTree) (default : Bool) → ListPrints slots 3 cases → most_of 3 cases ≤ m → Each (FewLabel m) (labels_of cases default)
  labels_few [] false h k = tt
  labels_few [] true h k = (tt, tt)
  labels_few (x ∷ xs) default h k = (conditional_few x (h.0) (omega (arith, k)), labels_few xs default (h.1) (omega (arith, k)))

  put_few : (ls : List Label) (x : Statement) → Each (FewLabel m) ls → FewStatement m x → FewStatement m (behind_labels ls x)
  put_few [] x h k = k
  put_few (l ∷ ls) x h k = (h.0, put_few ls x (h.1) k)

  labelled_few : (ls : List Label) (xs : Items) → Each (FewLabel m) ls → FewItems m xs → FewItems m (labelled ls xs)
  labelled_few ls NoItems h k = k
  labelled_few ls (LocalItem x xs) h k = k
  labelled_few ls (StatementItem x xs) h k = (put_few ls x h (k.0), k.1)

  optional_item_few : (b : Bool) (xs : Items) → FewItems m xs → FewItems m (optional_item b null_statement xs)
  optional_item_few true xs h = (tt, h)
  optional_item_few false xs h = h

  end_few : (ends : Bool) (a : Forest) (last : Bool) (xs : Items) → FewItems m xs → FewItems m (section_end ends a last xs)
  end_few true a last xs h = (tt, h)
  end_few false a last xs h = optional_item_few (has_last a last) xs h

module _ (f : Function) (m : ℕ) where
  abbrev TreeF : Tree → Type 0
  TreeF x = ItemPrints f x → most_counted_of x ≤ m → FewStatement m (statement_of f.slots x)

  abbrev ListF : Forest → Type 0
  ListF xs = (others : Items) → ItemsPrint f xs → most_counted xs ≤ m → FewItems m others → FewItems m (items_of f.slots xs others)

  -- a declaration, a statement or a comment
  abbrev PlacedF : Tree → Type 0
  PlacedF x = (others : Items) → ItemPrints f x → most_counted_of x ≤ m → FewItems m others → FewItems m (placed f.slots x (statement_of f.slots x) others)

  placed_few : (x : Tree) → TreeF x → PlacedF x
  placed_few (t.Local k given) g others h l e = (local_few f.slots m k given [] h l tt, e)
  placed_few (t.Note bytes) g others h l e = e
  placed_few x g others h l e = (g h l, e)

  abbrev ElseF : Forest → Type 0
  ElseF Nil = Unit {0}
  ElseF (Then y ys) =
      ItemsPrint f (Then y ys) → most_counted (Then y ys) ≤ m → FewStatement m
      (cond (is_lone_if y ys) (statement_of f.slots y) (block (placed f.slots y (statement_of f.slots y) (items_of f.slots ys NoItems))))

  abbrev LoneF : Forest → Type 0
  LoneF (Then (t.If d a b) Nil) = TreeF (t.If d a b)
  LoneF _ = Unit {0}

  else_few : (b : Forest) → ListF b → LoneF b → ElseF b
  else_few Nil l o = tt
  else_few (Then (t.If d a b) Nil) l o = λ h k. o (h.0) (omega (arith, k))
  else_few (Then y ys) l o = λ h k. l NoItems h k tt

  if_few : (d : TestTree) (a b : Forest) → ListF a → ElseF b → TreeF (t.If d a b)
  if_few d a Nil l e h k = (test_few f.slots m d (h.0) (omega (arith, k)), l NoItems (h.1) (omega (arith, k)) tt)
  if_few d a (Then y ys) l e h k = (test_few f.slots m d (h.0) (omega (arith, k)), l NoItems (h.1) (omega (arith, k)) tt, e (h.2) (omega (arith, k)))

  mutual
    list_few : (xs : Forest) → ListF xs
    list_few Nil = λ others h k e. e
    list_few (Then x xs) = λ others h k e. placed_few x (tree_few x) (items_of f.slots xs others) (h.0) (omega (arith, k))
        (list_few xs others (h.1) (omega (arith, k)) e)

    lone_few : (b : Forest) → LoneF b
    lone_few (Then (t.If d a b) Nil) = if_few d a b (list_few a) (else_few b (list_few b) (lone_few b))
    lone_few _ = tt

    tree_few : (x : Tree) → TreeF x
    tree_few (t.Evaluate x) = λ h k. expression_few f.slots m x h k
    tree_few (t.Return x) = λ h k. option_few f.slots m x h k
    tree_few (t.If d a b) = if_few d a b (list_few a) (else_few b (list_few b) (lone_few b))
    tree_few (t.While d a) = λ h k. (test_few f.slots m d (h.0) (omega (arith, k)), list_few a NoItems (h.1) (omega (arith, k)) tt)
    tree_few (t.Do a d) = λ h k. (list_few a NoItems (h.0) (omega (arith, k)) tt, test_few f.slots m d (h.1) (omega (arith, k)))
    tree_few (t.For first d u a) = λ h k. (
      start_few f.slots m first (h.0) (omega (arith, k)),
      option_few f.slots m d (h.1) (omega (arith, k)),
      option_few f.slots m u (h.2) (omega (arith, k)),
      list_few a NoItems (h.3) (omega (arith, k)) tt,
    )
    tree_few (t.Switch s cs) = λ h k. (selector_few f.slots m s (h.0) (omega (arith, k)), sections_few cs (h.1) (omega (arith, k)))
    tree_few (t.Block a) = λ h k. list_few a NoItems h k tt
    tree_few (t.Mark l) = λ h k. (tt, tt)
    tree_few x = λ h k. tt

    sections_few : (cs : Sections) → SectionsPrint f cs → most_counted_in cs ≤ m → FewItems m (sections_of f.slots cs)
    sections_few NoSection h k = tt
    sections_few (Section cases default a ends cs) h k =
        let rest = sections_of f.slots cs in
        let end = section_end ends a (is_last cs) rest in
        let list = list_few a end (h.1) (omega (arith, k)) (end_few f.slots m ends a (is_last cs) rest (sections_few cs (h.2) (omega (arith, k)))) in
        labelled_few f.slots m (labels_of cases default) (optional_item (starts_with_local a) null_statement (items_of f.slots a end))
        (labels_few f.slots m cases default (h.0) (omega (arith, k)))
        (optional_item_few f.slots m (starts_with_local a) (items_of f.slots a end) list)

  -- the items of a body
  pub body_few : (a : Forest) → ItemsPrint f a → most_counted a ≤ m → FewItems m (items_of f.slots a NoItems)
  body_few a h k = list_few a NoItems h k tt
