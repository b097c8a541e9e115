-- The comments of a text stand where the Notes of a list are printed.
use Rattle.std.specs.Prelude.{◌≡◌, ℕ, ◌+◌, Bool, true, false, ◌&&◌, ◌||◌, List, [], ◌∷◌, ◌++◌}
use Rattle.c_tree.specs.declared.tree.Slot.{Slot}
use Rattle.c_tree.specs.ExpressionTrees.{ExpressionTree}
use Rattle.c_tree.specs.Trees.{Tree, Forest, Nil, Then, Sections, NoSection, Section}
use Rattle.c_tree.specs.Trees as t
use Rattle.c_grammar.specs.ExpressionSyntax.{expression_end, conditional_end}
use Rattle.c_grammar.specs.Statements.{NoItems}
use Rattle.c_grammar.specs.StatementSyntax.{local_end, for_start_end, optional_end, statement_end}
use Rattle.c_statements.specs.declared.anchors.Anchor.{Anchor}
use Rattle.c_statements.specs.declared.anchors.Anchor.TheVariants.{Before, AtEnd, AtSection}
use Rattle.std.specs.Prelude.{option_map}
use Rattle.print_laws.specs.ExpressionDerivations.{derivation_of}
use Rattle.print_laws.specs.StatementDerivations.{conditional_of, selector_of, starts_with_local, is_nil, ends_with_note, is_last, test_of, start_of, slot_declaration, block, statement_of, items_of}

-- the number of the token behind an item, and behind a list
abbrev pub item_end : List Slot → ℕ → Tree → ℕ
item_end slots at (t.Local k given) = local_end at (slot_declaration slots k given [])
item_end slots at (t.Note bytes) = at
item_end slots at x = statement_end at (statement_of slots x)

abbrev pub list_end : List Slot → ℕ → Forest → ℕ
list_end slots at Nil = at
list_end slots at (Then x xs) = list_end slots (item_end slots at x) xs

-- the Notes at the end of a list, behind others
abbrev pub trailing : List (List ℕ) → Forest → List (List ℕ)
trailing ns Nil = ns
trailing ns (Then (t.Note bytes) xs) = trailing (ns ++ bytes ∷ []) xs
trailing ns (Then x xs) = trailing [] xs

-- the statement behind an `else`
abbrev pub list_block : List Slot → ℕ → Forest → ℕ
list_block slots at a = statement_end at (block (items_of slots a NoItems))

-- ---- sections

-- behind the labels of a section
abbrev pub cases_end : ℕ → List ExpressionTree → ℕ
cases_end at [] = at
cases_end at (x ∷ xs) = cases_end (conditional_end (at + 1) (conditional_of x) + 1) xs

abbrev pub default_end : ℕ → Bool → ℕ
default_end at false = at
default_end at true = at + 1 + 1

abbrev pub section_labels_end : ℕ → List ExpressionTree → Bool → ℕ
section_labels_end at cases default = default_end (cases_end at cases) default

-- behind a statement that is there or not
abbrev pub optional_end_of : Bool → ℕ → ℕ → ℕ
optional_end_of true n at = at + n
optional_end_of false n at = at

-- whether a `;` stands behind the list of a section that doesn't end
abbrev pub has_last : Forest → Bool → Bool
has_last a last = (last && is_nil a) || ends_with_note a

abbrev pub section_list_end : List Slot → ℕ → Forest → ℕ
section_list_end slots at a = list_end slots (optional_end_of (starts_with_local a) 1 at) a

-- behind the `break` or the `;` of a section
abbrev pub section_ends_at : ℕ → Bool → Forest → Bool → ℕ
section_ends_at at true a last = at + 1 + 1
section_ends_at at false a last = optional_end_of (has_last a last) 1 at

module _ (slots : List Slot) (notes : Anchor → List (List ℕ)) where
  -- behind the list between braces
  abbrev pub WithEnd : Type 0 → ℕ → Forest → Type 0
  WithEnd inner at a = inner × (notes (AtEnd at) ≡ trailing [] a)

  -- none stands in front of a `;` that stands for no item
  abbrev pub WithNull : Bool → ℕ → Type 0
  WithNull true at = notes (Before at) ≡ []
  WithNull false at = Unit {0}

  abbrev pub WithLast : Bool → ℕ → Forest → Type 0
  WithLast true at a = notes (Before at) ≡ trailing [] a
  WithLast false at a = Unit {0}

  -- those at the end of the list of a section stand in front of its `break` or its `;`
  abbrev pub NotesOfEnd : ℕ → Bool → Forest → Bool → Type 0
  NotesOfEnd at true a last = notes (Before at) ≡ trailing [] a
  NotesOfEnd at false a last = WithLast (has_last a last) at a

  abbrev mutual
    -- in the lists of an item that begins at a token
    pub NotesWithin : ℕ → Tree → Type 0
    NotesWithin at (t.If c a b) = let x = expression_end (at + 1 + 1) (test_of c) + 1 in
        WithEnd (NotesOfList [] (x + 1) a) x a × NotesOfElse (list_block slots x a + 1) b
    NotesWithin at (t.While c a) = let x = expression_end (at + 1 + 1) (test_of c) + 1 in WithEnd (NotesOfList [] (x + 1) a) x a
    NotesWithin at (t.Do a c) = WithEnd (NotesOfList [] (at + 1 + 1) a) (at + 1) a
    NotesWithin at (t.For first c u a) =
        let x = optional_end (optional_end (for_start_end (at + 1 + 1) (start_of slots first)) (option_map derivation_of c) + 1)
        (option_map derivation_of u) + 1 in WithEnd (NotesOfList [] (x + 1) a) x a
    NotesWithin at (t.Block a) = WithEnd (NotesOfList [] (at + 1) a) at a
    -- none stands in front of the `;` behind a label
    NotesWithin at (t.Mark l) = notes (Before (at + 1 + 1)) ≡ []
    NotesWithin at (t.Switch s c) = let x = expression_end (at + 1 + 1) (selector_of s) + 1 in NotesOfSections (x + 1) c × (notes (AtEnd x) ≡ [])
    NotesWithin at _ = Unit {0}

    -- in a list, behind Notes of it
    pub NotesOfList : List (List ℕ) → ℕ → Forest → Type 0
    NotesOfList ns at Nil = Unit {0}
    NotesOfList ns at (Then (t.Note bytes) xs) = NotesOfList (ns ++ bytes ∷ []) at xs
    NotesOfList ns at (Then x xs) = (notes (Before at) ≡ ns) × NotesWithin at x × NotesOfList [] (item_end slots at x) xs

    pub NotesOfElse : ℕ → Forest → Type 0
    NotesOfElse at Nil = Unit {0}
    NotesOfElse at (Then (t.If c a b) Nil) = (notes (Before at) ≡ []) × NotesWithin at (t.If c a b) × (notes (AtEnd at) ≡ [])
    NotesOfElse at (Then (t.Note bytes) xs) = WithEnd (NotesOfList (bytes ∷ []) (at + 1) xs) at (Then (t.Note bytes) xs)
    NotesOfElse at (Then x xs) = WithEnd ((notes (Before (at + 1)) ≡ []) × NotesWithin (at + 1) x × NotesOfList [] (item_end slots (at + 1) x) xs) at
        (Then x xs)

    -- none stands in front of the items of a section, but for those of its list
    pub NotesOfSections : ℕ → Sections → Type 0
    NotesOfSections at NoSection = Unit {0}
    NotesOfSections at (Section cases default a ends c) =
        let y = section_labels_end at cases default in
        let z = section_list_end slots y a in
        (notes (AtSection at) ≡ []) × WithNull (starts_with_local a) y × NotesOfList [] (optional_end_of (starts_with_local a) 1 y) a ×
        NotesOfEnd z ends a (is_last c) × NotesOfSections (section_ends_at z ends a (is_last c)) c

  -- in a list between braces, the first of which is this token
  abbrev pub NotesOfBody : ℕ → Forest → Type 0
  NotesOfBody at a = WithEnd (NotesOfList [] (at + 1) a) at a
