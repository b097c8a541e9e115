-- The derivations of declarations and statements fit.
use Rattle.std.proofs.Common.{ℕ, Bool, true, false, cond, List, [], ◌∷◌, map, Option, Some, None, refl}
use Rattle.std.specs.Prelude.{◌||◌, ◌&&◌, slice_get, option_map}
use Rattle.std.specs.Option.{option_map_or}
use Rattle.c_tree.specs.declared.tree.Slot.{Slot}
use Rattle.c_tree.specs.ExpressionTrees.{ExpressionTree}
use Rattle.c_tree.specs.TestTrees.{TestTree, Source, SelectorTree, Selects, Pick}
use Rattle.c_tree.specs.Trees.{Tree, Forest, Nil, Then, Sections, NoSection, Section}
use Rattle.c_tree.specs.Trees as t
use Rattle.c_grammar.specs.Expressions.{FitsExpression, FitsAssignment, FitsConditional}
use Rattle.c_grammar.specs.Statements.{Label, Items, NoItems, LocalItem, StatementItem, Statement, Declarator, FitsMore, FitsOptional, FitsSize, FitsValue, FitsDeclarator, FitsLocal, FitsLabel, FitsForStart, FitsItems, FitsStatement}
use Rattle.print_laws.specs.ExpressionDerivations.{derivation_of}
use Rattle.print_laws.specs.StatementDerivations.{assignment_of, conditional_of, size_of, value_of, declarator_of, no_declarator, no_local, slot_declarator, declaration_of, slot_declaration, test_of, selector_of, declarators_of, start_of, case_labels, default_label, labels_of, behind_labels, labelled, null_statement, starts_with_local, is_nil, ends_with_note, is_last, optional_item, section_end, is_lone_if, placed, block, statement_of, items_of, sections_of}
use Rattle.print_laws.proofs.Levels.{fits_assigned, fits_chosen}
use Rattle.print_laws.proofs.ExpressionFits.{fits}

-- ---- declarations

pub assignment_fits : (x : ExpressionTree) → FitsAssignment (assignment_of x)
assignment_fits x = fits_assigned (derivation_of x) (fits x)

pub conditional_fits : (x : ExpressionTree) → FitsConditional (conditional_of x)
conditional_fits x = fits_chosen (derivation_of x) (fits x)

assignments_fit : (xs : List ExpressionTree) → FitsMore FitsAssignment (map assignment_of xs)
assignments_fit [] = tt
assignments_fit (x ∷ xs) = (assignment_fits x, assignments_fit xs)

size_fits : (cells : Option ℕ) → FitsSize (size_of cells)
size_fits None = tt
size_fits (Some n) = tt

value_fits : (cells : Option ℕ) (given : Option (List ExpressionTree)) → FitsValue (value_of cells given)
value_fits None (Some (x ∷ xs)) = assignment_fits x
value_fits (Some n) (Some (x ∷ xs)) = (assignment_fits x, assignments_fit xs)
value_fits None None = tt
value_fits None (Some []) = tt
value_fits (Some n) None = tt
value_fits (Some n) (Some []) = tt

declarator_fits : (s : Slot) (given : Option (List ExpressionTree)) → FitsDeclarator (declarator_of s given)
declarator_fits s given = (size_fits s.cells, value_fits s.cells given)

slot_declarator_fits : (slots : List Slot) (k : ℕ) (given : Option (List ExpressionTree)) → FitsDeclarator (slot_declarator slots k given)
slot_declarator_fits slots k given = by_slot (slice_get slots k)
  where
    by_slot : (o : Option Slot) → FitsDeclarator (option_map_or (λ (s : Slot). declarator_of s given) o no_declarator)
    by_slot None = (tt, tt)
    by_slot (Some s) = declarator_fits s given

pub declaration_fits : (s : Slot) (given : Option (List ExpressionTree)) (others : List Declarator) → FitsMore FitsDeclarator others →
    FitsLocal (declaration_of s given others)
declaration_fits s given others h = (declarator_fits s given, h)

slot_declaration_fits : (slots : List Slot) (k : ℕ) (given : Option (List ExpressionTree)) (others : List Declarator) →
    FitsMore FitsDeclarator others → FitsLocal (slot_declaration slots k given others)
slot_declaration_fits slots k given others h = by_slot (slice_get slots k)
  where
    by_slot : (o : Option Slot) → FitsLocal (option_map_or (λ (s : Slot). declaration_of s given others) o no_local)
    by_slot None = ((tt, tt), tt)
    by_slot (Some s) = declaration_fits s given others h

-- ---- the parts of statements

test_fits : (c : TestTree) → FitsExpression (test_of c)
test_fits (Source e) = fits e
test_fits _ = tt

selector_fits : (s : SelectorTree) → FitsExpression (selector_of s)
selector_fits (Selects e) = fits e
selector_fits (Pick l k s) = tt

option_fits : (x : Option ExpressionTree) → FitsOptional (option_map derivation_of x)
option_fits None = tt
option_fits (Some x) = fits x

declarators_fit : (slots : List Slot) (xs : Forest) → FitsMore FitsDeclarator (declarators_of slots xs)
declarators_fit slots Nil = tt
declarators_fit slots (Then (t.Local k given) xs) = (slot_declarator_fits slots k given, declarators_fit slots xs)
declarators_fit slots (Then _ xs) = declarators_fit slots xs

start_fits : (slots : List Slot) (xs : Forest) → FitsForStart (start_of slots xs)
start_fits slots Nil = tt
start_fits slots (Then (t.Evaluate e) xs) = fits e
start_fits slots (Then (t.Local k given) xs) = slot_declaration_fits slots k given (declarators_of slots xs) (declarators_fit slots xs)
start_fits slots (Then _ xs) = tt

-- ---- labels

abbrev LabelsFit : List Label → Type 0
LabelsFit [] = Unit {0}
LabelsFit (l ∷ ls) = FitsLabel l × LabelsFit ls

cases_fit : (xs : List ExpressionTree) (ls : List Label) → LabelsFit ls → LabelsFit (case_labels xs ls)
cases_fit [] ls h = h
cases_fit (x ∷ xs) ls h = (conditional_fits x, cases_fit xs ls h)

labels_fit : (xs : List ExpressionTree) (default : Bool) → LabelsFit (labels_of xs default)
labels_fit xs true = cases_fit xs (default_label true) (tt, tt)
labels_fit xs false = cases_fit xs (default_label false) tt

behind_fits : (ls : List Label) (s : Statement) → LabelsFit ls → FitsStatement s → FitsStatement (behind_labels ls s)
behind_fits [] s h f = f
behind_fits (l ∷ ls) s h f = (h.0, behind_fits ls s h.1 f)

labelled_fits : (ls : List Label) (xs : Items) → LabelsFit ls → FitsItems xs → FitsItems (labelled ls xs)
labelled_fits ls NoItems h f = f
labelled_fits ls (LocalItem x xs) h f = f
labelled_fits ls (StatementItem s xs) h f = (behind_fits ls s h f.0, f.1)

optional_fits : (b : Bool) (s : Statement) (xs : Items) → FitsStatement s → FitsItems xs → FitsItems (optional_item b s xs)
optional_fits true s xs h f = (h, f)
optional_fits false s xs h f = f

end_fits : (ends : Bool) (a : Forest) (last : Bool) (xs : Items) → FitsItems xs → FitsItems (section_end ends a last xs)
end_fits true a last xs f = (tt, f)
end_fits false a last xs f = optional_fits ((last && is_nil a) || ends_with_note a) null_statement xs tt f

-- ---- statements

placed_fits : (slots : List Slot) (x : Tree) (s : Statement) (xs : Items) → FitsStatement s → FitsItems xs → FitsItems (placed slots x s xs)
placed_fits slots (t.Local k given) s xs h f = (slot_declaration_fits slots k given [] tt, f)
placed_fits slots (t.Note bytes) s xs h f = f
placed_fits slots _ s xs h f = (h, f)

either_fits : (b : Bool) (s u : Statement) → FitsStatement s → FitsStatement u → FitsStatement (cond b s u)
either_fits true s u h k = h
either_fits false s u h k = k

mutual
  pub statement_fits : (slots : List Slot) (x : Tree) → FitsStatement (statement_of slots x)
  statement_fits slots (t.Evaluate e) = fits e
  statement_fits slots (t.Return e) = option_fits e
  statement_fits slots (t.If c a Nil) = (test_fits c, items_fit slots a NoItems tt)
  statement_fits slots (t.If c a (Then x xs)) = (
    test_fits c,
    items_fit slots a NoItems tt,
    refl,
    either_fits (is_lone_if x xs) (statement_of slots x) (block (placed slots x (statement_of slots x) (items_of slots xs NoItems))) (statement_fits slots x)
        (placed_fits slots x (statement_of slots x) (items_of slots xs NoItems) (statement_fits slots x) (items_fit slots xs NoItems tt)),
  )
  statement_fits slots (t.While c a) = (test_fits c, items_fit slots a NoItems tt)
  statement_fits slots (t.Do a c) = (items_fit slots a NoItems tt, test_fits c)
  statement_fits slots (t.For first c u a) = (start_fits slots first, option_fits c, option_fits u, items_fit slots a NoItems tt)
  statement_fits slots (t.Switch s cs) = (selector_fits s, sections_fit slots cs)
  statement_fits slots (t.Block a) = items_fit slots a NoItems tt
  statement_fits slots t.Break = tt
  statement_fits slots t.Continue = tt
  statement_fits slots (t.Goto l) = tt
  statement_fits slots (t.Mark l) = (tt, tt)
  statement_fits slots _ = tt

  pub items_fit : (slots : List Slot) (a : Forest) (xs : Items) → FitsItems xs → FitsItems (items_of slots a xs)
  items_fit slots Nil xs f = f
  items_fit slots (Then x a) xs f = placed_fits slots x (statement_of slots x) (items_of slots a xs) (statement_fits slots x) (items_fit slots a xs f)

  pub sections_fit : (slots : List Slot) (cs : Sections) → FitsItems (sections_of slots cs)
  sections_fit slots NoSection = tt
  sections_fit slots (Section cases default a ends cs) =
      labelled_fits (labels_of cases default) _ (labels_fit cases default)
      (optional_fits (starts_with_local a) null_statement _ tt
      (items_fit slots a _ (end_fits ends a (is_last cs) (sections_of slots cs) (sections_fit slots cs))))
