-- The derivations of declarations and statements that print stay within the limits.
use Rattle.std.proofs.Common.{◌≡◌, ◌≤◌, ◌+◌, ℕ, Bool, true, false, cond, List, [], ◌∷◌, map, Option, Some, None, refl, sym, subst, arith}
use Rattle.std.specs.Prelude.{◌||◌, ◌&&◌, slice_get, option_map}
use Rattle.std.specs.Option.{option_map_or}
use Rattle.c_types.specs.declared.kinds.IntKind.{IntKind}
use Rattle.c_types.specs.declared.kinds.IntKind.TheVariants as K
use Rattle.c_tree.specs.declared.tree.Slot.{Slot}
use Rattle.c_tree.specs.declared.tree.Function.{Function}
use Rattle.c_tree.specs.ExpressionTrees.{ExpressionTree}
use Rattle.c_tree.specs.TestTrees.{TestTree, Source, SelectorTree, Selects, Pick}
use Rattle.c_tree.specs.Trees.{Tree, Forest, Nil, Then, Sections, NoSection, Section}
use Rattle.c_tree.specs.Trees as t
use Rattle.c_grammar.specs.Events.{Event, Outside, Opened}
use Rattle.c_grammar.specs.Statements.{Label, Items, NoItems, LocalItem, StatementItem, Statement, Declarator, is_block}
use Rattle.c_grammar.specs.Counts.{type_events, expression_events, assignment_events, conditional_events, optional_events, word_events, more_events, rest_events, size_events, value_events, declarator_events, local_events, label_events, for_start_events, level_within, opened_by, items_events, statement_events}
use Rattle.print_laws.specs.ExpressionDerivations.{type_of, derivation_of}
use Rattle.c_resolved_defs.specs.PrintableExpressions.{level_of}
use Rattle.c_resolved_defs.specs.PrintableExpressions.{counted, bracket_count}
use Rattle.print_laws.specs.StatementDerivations.{assignment_of, conditional_of, size_of, value_of, declarator_of, no_declarator, no_local, slot_declarator, declaration_of, slot_declaration, test_of, selector_of, declarators_of, start_of, case_labels, default_label, labels_of, behind_labels, labelled, null_statement, starts_with_local, is_nil, ends_with_note, is_last, optional_item, section_end, is_lone_if, placed, block, statement_of, items_of, sections_of}
use Rattle.c_resolved_defs.specs.PrintableStatements.{FullPrints, OptionPrints, ListPrints, ValuesPrint, DeclaratorPrints, SlotPrints, TestPrints, SelectorPrints, FurtherPrint, StartPrints, ItemPrints, ItemsPrint, SectionsPrint, depth_of, depth, depth_in}
use Rattle.print_laws.proofs.Levels.{lies_assigned, lies_chosen}
use Rattle.print_laws.proofs.Costs.{Within, within_uncounted, within_outside, within_opened}
use Rattle.print_laws.proofs.ExpressionFits.{fits, costs, laid_adds}

-- within the limits, wherever a full expression stands
abbrev pub Any : List Event → Type 0
Any q = (n : ℕ) × Within n q

abbrev pub Clear : List Event → Type 0
Clear q = Within 0 q

pub out : (q : List Event) → Any q → Clear (Outside ∷ q)
out q (n, w) = within_outside n q w

pub any : (q : List Event) → Clear q → Any q
any q w = (0, w)

-- ---- full expressions

pub opened_any : (slots : List Slot) (x : ExpressionTree) → FullPrints slots 1 x → (q : List Event) → Clear q → Any (expression_events (derivation_of x) q)
opened_any slots x h q w = let few = h.few in (0 + counted x, costs x 0 q (omega (arith, few)) w)

pub assigned_any : (slots : List Slot) (x : ExpressionTree) → FullPrints slots 2 x → (q : List Event) → Clear q → Any (assignment_events (assignment_of x) q)
assigned_any slots x h q w =
    let few = h.few in (
      0 + (counted x + bracket_count (level_of x) 2),
      laid_adds 2 (counted x) x _ (assignment_events (assignment_of x))
          (lies_assigned (derivation_of x) (fits x)) (costs x) 0 q (omega (arith, few)) w,
    )

pub chosen_any : (slots : List Slot) (x : ExpressionTree) → FullPrints slots 3 x → (q : List Event) → Clear q → Any (conditional_events (conditional_of x) q)
chosen_any slots x h q w =
    let few = h.few in (
      0 + (counted x + bracket_count (level_of x) 3),
      laid_adds 3 (counted x) x _ (conditional_events (conditional_of x))
          (lies_chosen (derivation_of x) (fits x)) (costs x) 0 q (omega (arith, few)) w,
    )

pub option_any : (slots : List Slot) (x : Option ExpressionTree) → OptionPrints slots x → (q : List Event) → Clear q →
    Any (optional_events (option_map derivation_of x) q)
option_any slots None h q w = any q w
option_any slots (Some x) h q w = opened_any slots x h q w

-- ---- declarations

pub type_any : (kind : IntKind) (q : List Event) → Any q → Any (type_events (type_of kind) q)
type_any K.Char q (n, w) = (n, within_uncounted n _ w)
type_any K.UChar q (n, w) = (n, within_uncounted n _ (within_uncounted n _ w))
type_any K.Int q (n, w) = (n, within_uncounted n _ w)
type_any K.UInt q (n, w) = (n, within_uncounted n _ w)
type_any K.Long q (n, w) = (n, within_uncounted n _ w)
type_any K.ULong q (n, w) = (n, within_uncounted n _ (within_uncounted n _ w))

pub word_any : (b : Bool) (q : List Event) → Any q → Any (word_events b q)
word_any true q w = any _ (out q w)
word_any false q w = w

rest_any : (slots : List Slot) (xs : List ExpressionTree) → ListPrints slots 2 xs → (q : List Event) → Any q →
    Any (rest_events assignment_events (map assignment_of xs) false q)
rest_any slots [] h q w = any _ (out q w)
rest_any slots (x ∷ xs) h q w = rest_any slots xs h.1 _ (assigned_any slots x h.0 _ (out q w))

size_any : (cells : Option ℕ) (q : List Event) → Any q → Any (size_events (size_of cells) q)
size_any None q w = w
size_any (Some n) q w = any _ (out _ (0, within_uncounted 0 _ (out q w)))

value_any : (slots : List Slot) (cells : Option ℕ) (given : Option (List ExpressionTree)) → ValuesPrint slots cells given → (q : List Event) → Any q →
    Any (value_events (value_of cells given) q)
value_any slots None None h q w = w
value_any slots (Some n) None h q w = w
value_any slots None (Some (x ∷ [])) h q w = assigned_any slots x h _ (out q w)
value_any slots (Some n) (Some (x ∷ xs)) h q w = rest_any slots xs h.1 _ (assigned_any slots x h.0 _ (out _ (any _ (out q w))))
value_any slots None (Some []) h q w = absurd h
value_any slots None (Some (x ∷ y ∷ xs)) h q w = absurd h
value_any slots (Some n) (Some []) h q w = absurd h

declarator_any : (slots : List Slot) (s : Slot) (given : Option (List ExpressionTree)) → DeclaratorPrints slots s given → (q : List Event) → Any q →
    Any (declarator_events (declarator_of s given) q)
declarator_any slots s given h q w = value_any slots s.cells given h.values _ (size_any s.cells _ (any _ (out q w)))

-- further declarators
abbrev KeepAny : List Declarator → Type 0
KeepAny ds = (q : List Event) → Any q → Any (more_events declarator_events ds q)

pub declaration_clear : (slots : List Slot) (s : Slot) (given : Option (List ExpressionTree)) (ds : List Declarator) →
    DeclaratorPrints slots s given → KeepAny ds → (q : List Event) → Any q → Clear (local_events (declaration_of s given ds) q)
declaration_clear slots s given ds h k q w = out _ (k _ (declarator_any slots s given h _ (type_any s.kind _ (word_any s.constant q w))))

slot_clear : (slots : List Slot) (l : ℕ) (given : Option (List ExpressionTree)) (ds : List Declarator) → SlotPrints slots (slice_get slots l) given →
    KeepAny ds → (q : List Event) → Any q → Clear (local_events (slot_declaration slots l given ds) q)
slot_clear slots l given ds h k q w = by_slot (slice_get slots l) h
  where
    by_slot : (o : Option Slot) → SlotPrints slots o given → Clear (local_events (option_map_or (λ (s : Slot). declaration_of s given ds) o no_local) q)
    by_slot None h = absurd h
    by_slot (Some s) h = declaration_clear slots s given ds h k q w

slot_declarator_any : (slots : List Slot) (l : ℕ) (given : Option (List ExpressionTree)) → SlotPrints slots (slice_get slots l) given →
    (q : List Event) → Any q → Any (declarator_events (slot_declarator slots l given) q)
slot_declarator_any slots l given h q w = by_slot (slice_get slots l) h
  where
    by_slot : (o : Option Slot) → SlotPrints slots o given → Any (declarator_events (option_map_or (λ (s : Slot). declarator_of s given) o no_declarator) q)
    by_slot None h = absurd h
    by_slot (Some s) h = declarator_any slots s given h q w

pub no_more : KeepAny []
no_more q w = w

further_any : (slots : List Slot) (xs : Forest) → FurtherPrint slots xs → KeepAny (declarators_of slots xs)
further_any slots Nil h q w = w
further_any slots (Then (t.Local k given) xs) h q w = further_any slots xs h.1 _ (slot_declarator_any slots k given h.0 _ (any _ (out q w)))
further_any slots (Then _ xs) h q w = absurd h

-- ---- the parts of statements

test_any : (slots : List Slot) (c : TestTree) → TestPrints slots c → (q : List Event) → Clear q → Any (expression_events (test_of c) q)
test_any slots (Source x) h q w = opened_any slots x h q w
test_any slots _ h q w = absurd h

selector_any : (slots : List Slot) (s : SelectorTree) → SelectorPrints slots s → (q : List Event) → Clear q → Any (expression_events (selector_of s) q)
selector_any slots (Selects x) h q w = opened_any slots x h q w
selector_any slots (Pick l k s) h q w = absurd h

start_clear : (slots : List Slot) (xs : Forest) → StartPrints slots xs → (q : List Event) → Clear q → Clear (for_start_events (start_of slots xs) q)
start_clear slots Nil h q w = out q (any q w)
start_clear slots (Then (t.Evaluate e) Nil) h q w = out _ (opened_any slots e h q w)
start_clear slots (Then (t.Local k given) xs) h q w = slot_clear slots k given (declarators_of slots xs) h.0 (further_any slots xs h.1) q (any q w)
start_clear slots (Then (t.Evaluate e) (Then y xs)) h q w = absurd h
start_clear slots (Then _ xs) h q w = absurd h

-- ---- labels

abbrev labels_events : List Label → List Event → List Event
labels_events [] q = q
labels_events (l ∷ ls) q = labels_events ls (label_events l q)

abbrev LabelsClear : List Label → Type 0
LabelsClear ls = (q : List Event) → Clear q → Clear (labels_events ls q)

cases_clear : (slots : List Slot) (xs : List ExpressionTree) (ls : List Label) → ListPrints slots 3 xs → LabelsClear ls → LabelsClear (case_labels xs ls)
cases_clear slots [] ls h k q w = k q w
cases_clear slots (x ∷ xs) ls h k q w = cases_clear slots xs ls h.1 k _ (out _ (chosen_any slots x h.0 _ (out q (any q w))))

default_clear : (b : Bool) → LabelsClear (default_label b)
default_clear true q w = out _ (any _ (out q (any q w)))
default_clear false q w = w

behind_events : (level : ℕ) (ls : List Label) (s : Statement) (q : List Event) →
    statement_events level (behind_labels ls s) q ≡ statement_events level s (labels_events ls q)
behind_events level [] s q = refl
behind_events level (l ∷ ls) s q = behind_events level ls s (label_events l q)

-- items at a level that stay within the limits
abbrev pub ItemsClear : ℕ → Items → Type 0
ItemsClear level xs = (q : List Event) → Clear q → Clear (items_events level xs q)

labelled_clear : (level : ℕ) (ls : List Label) (xs : Items) → LabelsClear ls → ItemsClear level xs → ItemsClear level (labelled ls xs)
labelled_clear level ls NoItems h k q w = k q w
labelled_clear level ls (LocalItem x xs) h k q w = k q w
labelled_clear level ls (StatementItem s xs) h k q w = subst (λ e. Clear (items_events level xs e)) (sym (behind_events level ls s q))
    (k (labels_events ls q) (h q w))

optional_clear : (level : ℕ) (b : Bool) (xs : Items) → ItemsClear level xs → ItemsClear level (optional_item b null_statement xs)
optional_clear level true xs k q w = k _ (out q (any q w))
optional_clear level false xs k q w = k q w

end_clear : (level : ℕ) (ends : Bool) (a : Forest) (last : Bool) (xs : Items) → ItemsClear level xs → ItemsClear level (section_end ends a last xs)
end_clear level true a last xs k q w = k _ (out _ (any _ (out q (any q w))))
end_clear level false a last xs k q w = optional_clear level ((last && is_nil a) || ends_with_note a) xs k q w

-- ---- statements

-- a list in braces opens the next level
braces_clear : (level : ℕ) (xs : Items) → level + 1 ≤ 400 → ItemsClear (level + 1) xs → (q : List Event) → Clear q → Clear (statement_events level (block xs) q)
braces_clear level xs h k q w = out _ (any _ (k _ (out _ (0, within_opened 0 (level + 1) q h w))))

lone_open : (slots : List Slot) (x : Tree) (xs : Forest) → is_lone_if x xs ≡ true → is_block (statement_of slots x) ≡ false
lone_open slots (t.If c a Nil) xs h = refl
lone_open slots (t.If c a (Then y b)) xs h = refl
lone_open slots _ xs h = cc

-- a statement as the list of a construct
abbrev branch_events : ℕ → Statement → List Event → List Event
branch_events level s q = statement_events (level_within level s) s (opened_by level s q)

open_branch : (level : ℕ) (s : Statement) → is_block s ≡ false → level + 1 ≤ 400 →
    ((q : List Event) → Clear q → Clear (statement_events (level + 1) s q)) → (q : List Event) → Clear q → Clear (branch_events level s q)
open_branch level s e h k q w =
    subst (λ b. Clear (statement_events (cond b level (level + 1)) s (cond b q (Opened (level + 1) ∷ q)))) (sym e) (k _ (within_opened 0 (level + 1) q h w))

placed_clear : (f : Function) (level : ℕ) (x : Tree) (xs : Items) → ItemPrints f x →
    ((q : List Event) → Clear q → Clear (statement_events level (statement_of f.slots x) q)) → ItemsClear level xs →
    ItemsClear level (placed f.slots x (statement_of f.slots x) xs)
placed_clear f level (t.Local k given) xs h s i q w = i _ (slot_clear f.slots k given [] h no_more q (any q w))
placed_clear f level (t.Note bytes) xs h s i q w = i q w
placed_clear f level _ xs h s i q w = i _ (s q w)

none_clear : (level : ℕ) → ItemsClear level NoItems
none_clear level q w = w

either_clear : (b : Bool) (level : ℕ) (s : Statement) (xs : Items) → (b ≡ true → (q : List Event) → Clear q → Clear (branch_events level s q)) →
    level + 1 ≤ 400 → ItemsClear (level + 1) xs → (q : List Event) → Clear q → Clear (branch_events level (cond b s (block xs)) q)
either_clear true level s xs h l k q w = h refl q w
either_clear false level s xs h l k q w = braces_clear level xs l k q w

mutual
  pub statement_clear : (f : Function) (level : ℕ) (x : Tree) → ItemPrints f x → level + depth_of x ≤ 400 → (q : List Event) → Clear q →
      Clear (statement_events level (statement_of f.slots x) q)
  statement_clear f level (t.Evaluate e) h l q w = out _ (opened_any f.slots e h q w)
  statement_clear f level (t.Return e) h l q w = out _ (option_any f.slots e h _ (out q (any q w)))
  statement_clear f level (t.If c a Nil) h l q w =
      braces_clear level (items_of f.slots a NoItems) (omega (arith, l)) (items_clear f (level + 1) a NoItems h.1 (omega (arith, l)) (none_clear (level + 1))) _
      (out _ (test_any f.slots c h.0 _ (out _ (any _ (out q (any q w))))))
  statement_clear f level (t.If c a (Then x xs)) h l q w =
      either_clear (is_lone_if x xs) level (statement_of f.slots x) (placed f.slots x (statement_of f.slots x) (items_of f.slots xs NoItems))
      (λ e. open_branch level (statement_of f.slots x) (lone_open f.slots x xs e) (omega (arith, l)) (statement_clear f (level + 1) x h.2.0 (omega (arith, l))))
      (omega (arith, l))
      (placed_clear f (level + 1) x (items_of f.slots xs NoItems) h.2.0 (statement_clear f (level + 1) x h.2.0 (omega (arith, l)))
      (items_clear f (level + 1) xs NoItems h.2.1 (omega (arith, l)) (none_clear (level + 1))))
      _
      (out _ (any _ (braces_clear level (items_of f.slots a NoItems) (omega (arith, l))
      (items_clear f (level + 1) a NoItems h.1 (omega (arith, l)) (none_clear (level + 1))) _
      (out _ (test_any f.slots c h.0 _ (out _ (any _ (out q (any q w)))))))))
  statement_clear f level (t.While c a) h l q w =
      braces_clear level (items_of f.slots a NoItems) (omega (arith, l)) (items_clear f (level + 1) a NoItems h.1 (omega (arith, l)) (none_clear (level + 1))) _
      (out _ (test_any f.slots c h.0 _ (out _ (any _ (out q (any q w))))))
  statement_clear f level (t.Do a c) h l q w =
      out _ (any _ (out _ (test_any f.slots c h.1 _ (out _ (any _ (out _ (any _
      (braces_clear level (items_of f.slots a NoItems) (omega (arith, l))
      (items_clear f (level + 1) a NoItems h.0 (omega (arith, l)) (none_clear (level + 1))) _ (out q (any q w))))))))))
  statement_clear f level (t.For first c u a) h l q w =
      braces_clear level (items_of f.slots a NoItems) (omega (arith, l)) (items_clear f (level + 1) a NoItems h.3 (omega (arith, l)) (none_clear (level + 1))) _
      (out _ (option_any f.slots u h.2 _ (out _ (option_any f.slots c h.1 _ (start_clear f.slots first h.0 _ (out _ (any _ (out q (any q w)))))))))
  statement_clear f level (t.Switch s cs) h l q w =
      braces_clear level (sections_of f.slots cs) (omega (arith, l)) (sections_clear f (level + 1) cs h.1 (omega (arith, l))) _
      (out _ (selector_any f.slots s h.0 _ (out _ (any _ (out q (any q w))))))
  statement_clear f level (t.Block a) h l q w = braces_clear level (items_of f.slots a NoItems) (omega (arith, l))
      (items_clear f (level + 1) a NoItems h (omega (arith, l)) (none_clear (level + 1))) q w
  statement_clear f level t.Break h l q w = out _ (any _ (out q (any q w)))
  statement_clear f level t.Continue h l q w = out _ (any _ (out q (any q w)))
  statement_clear f level (t.Goto k) h l q w = out _ (any _ (out _ (any _ (out q (any q w)))))
  statement_clear f level (t.Mark k) h l q w = out _ (any _ (out _ (0, within_uncounted 0 q w)))
  statement_clear f level _ h l q w = out q (any q w)

  pub items_clear : (f : Function) (level : ℕ) (a : Forest) (xs : Items) → ItemsPrint f a → level + depth a ≤ 400 → ItemsClear level xs →
      ItemsClear level (items_of f.slots a xs)
  items_clear f level Nil xs h l k q w = k q w
  items_clear f level (Then x a) xs h l k q w =
      placed_clear f level x (items_of f.slots a xs) h.0 (statement_clear f level x h.0 (omega (arith, l)))
      (items_clear f level a xs h.1 (omega (arith, l)) k) q w

  pub sections_clear : (f : Function) (level : ℕ) (cs : Sections) → SectionsPrint f cs → level + depth_in cs ≤ 400 → ItemsClear level (sections_of f.slots cs)
  sections_clear f level NoSection h l q w = w
  sections_clear f level (Section cases default a ends cs) h l q w =
      let rest = section_end ends a (is_last cs) (sections_of f.slots cs) in
      labelled_clear level (labels_of cases default) (optional_item (starts_with_local a) null_statement (items_of f.slots a rest))
      (cases_clear f.slots cases (default_label default) h.0 (default_clear default))
      (optional_clear level (starts_with_local a) (items_of f.slots a rest)
      (items_clear f level a rest h.1 (omega (arith, l)) (end_clear level ends a (is_last cs) (sections_of f.slots cs)
      (sections_clear f level cs h.2 (omega (arith, l)))))) q w
