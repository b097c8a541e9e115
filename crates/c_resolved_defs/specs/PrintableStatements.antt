-- Statements whose printed text is read again, within the limits.
use Rattle.std.specs.Prelude.{◌≤◌, ◌<◌, ◌^◌, ◌+◌, ℕ, max, List, [], ◌∷◌, Option, Some, None, slice_get}
use Rattle.c_tree.specs.declared.tree.Slot.{Slot}
use Rattle.c_tree.specs.declared.tree.Function.{Function}
use Rattle.c_tree.specs.ExpressionTrees.{ExpressionTree}
use Rattle.c_tree.specs.TestTrees.{TestTree, Source, SelectorTree, Selects}
use Rattle.c_tree.specs.Trees.{Tree, Forest, Nil, Then, Sections, NoSection, Section}
use Rattle.c_tree.specs.Trees as t
use Rattle.c_tree.specs.TextItems.{label_name}
use Rattle.c_resolved_defs.specs.Verbatims.{IsComment}
use Rattle.c_resolved_defs.specs.PrintableExpressions.{IsName, Prints, counted_at}

-- the most counted tokens of a full expression, and the most levels of nesting
abbrev pub most : ℕ
most = 400

-- a full expression, where the grammar needs a level
pub record FullPrints (slots : List Slot) (need : ℕ) (x : ExpressionTree) : Type 0 where
  pub prints : Prints slots x
  pub few : counted_at need x ≤ most

abbrev pub OptionPrints : List Slot → Option ExpressionTree → Type 0
OptionPrints slots None = Unit {0}
OptionPrints slots (Some x) = FullPrints slots 1 x

abbrev pub ListPrints : List Slot → ℕ → List ExpressionTree → Type 0
ListPrints slots need [] = Unit {0}
ListPrints slots need (x ∷ xs) = FullPrints slots need x × ListPrints slots need xs

-- ---- declarations

-- the length of an array is an `int`
abbrev pub LengthPrints : Option ℕ → Type 0
LengthPrints None = Unit {0}
LengthPrints (Some n) = n < 2 ^ 31

-- a number has one value, an array one or more
abbrev pub ValuesPrint : List Slot → Option ℕ → Option (List ExpressionTree) → Type 0
ValuesPrint slots cells None = Unit {0}
ValuesPrint slots None (Some (x ∷ [])) = FullPrints slots 2 x
ValuesPrint slots (Some n) (Some (x ∷ xs)) = ListPrints slots 2 (x ∷ xs)
ValuesPrint slots _ _ = ⊥

-- over the slots that the values name
pub record DeclaratorPrints (slots : List Slot) (s : Slot) (given : Option (List ExpressionTree)) : Type 0 where
  pub named : IsName s.name
  pub length : LengthPrints s.cells
  pub values : ValuesPrint slots s.cells given

-- the slot is there
abbrev pub SlotPrints : List Slot → Option Slot → Option (List ExpressionTree) → Type 0
SlotPrints slots None given = ⊥
SlotPrints slots (Some s) given = DeclaratorPrints slots s given

-- ---- the parts of statements

abbrev pub TestPrints : List Slot → TestTree → Type 0
TestPrints slots (Source x) = FullPrints slots 1 x
TestPrints slots _ = ⊥

abbrev pub SelectorPrints : List Slot → SelectorTree → Type 0
SelectorPrints slots (Selects x) = FullPrints slots 1 x
SelectorPrints slots _ = ⊥

-- declarations alone
abbrev pub FurtherPrint : List Slot → Forest → Type 0
FurtherPrint slots Nil = Unit {0}
FurtherPrint slots (Then (t.Local k given) xs) = SlotPrints slots (slice_get slots k) given × FurtherPrint slots xs
FurtherPrint slots _ = ⊥

-- the first part of a `for`: nothing, one expression, or declarations
abbrev pub StartPrints : List Slot → Forest → Type 0
StartPrints slots Nil = Unit {0}
StartPrints slots (Then (t.Evaluate x) Nil) = FullPrints slots 1 x
StartPrints slots (Then (t.Local k given) xs) = SlotPrints slots (slice_get slots k) given × FurtherPrint slots xs
StartPrints slots _ = ⊥

-- ---- items, in a function

abbrev mutual
  pub ItemPrints : Function → Tree → Type 0
  ItemPrints f (t.Evaluate x) = FullPrints f.slots 1 x
  ItemPrints f (t.Return x) = OptionPrints f.slots x
  ItemPrints f (t.If c a b) = TestPrints f.slots c × ItemsPrint f a × ItemsPrint f b
  ItemPrints f (t.While c a) = TestPrints f.slots c × ItemsPrint f a
  ItemPrints f (t.Do a c) = ItemsPrint f a × TestPrints f.slots c
  ItemPrints f (t.For first c u a) = StartPrints f.slots first × OptionPrints f.slots c × OptionPrints f.slots u × ItemsPrint f a
  ItemPrints f (t.Switch s cs) = SelectorPrints f.slots s × SectionsPrint f cs
  ItemPrints f (t.Block a) = ItemsPrint f a
  ItemPrints f (t.Local k given) = SlotPrints f.slots (slice_get f.slots k) given
  ItemPrints f t.Break = Unit {0}
  ItemPrints f t.Continue = Unit {0}
  ItemPrints f (t.Goto l) = IsName (label_name f l)
  ItemPrints f (t.Mark l) = IsName (label_name f l)
  ItemPrints f (t.Note bytes) = IsComment bytes
  -- Arm, Leap, Land and Arrival
  ItemPrints f _ = ⊥

  pub ItemsPrint : Function → Forest → Type 0
  ItemsPrint f Nil = Unit {0}
  ItemsPrint f (Then x xs) = ItemPrints f x × ItemsPrint f xs

  pub SectionsPrint : Function → Sections → Type 0
  SectionsPrint f NoSection = Unit {0}
  SectionsPrint f (Section cases default a ends cs) = ListPrints f.slots 3 cases × ItemsPrint f a × SectionsPrint f cs

-- ---- statement nesting: each list of an `if`, a loop, a switch or a block is one level more than the list in
-- which that stands; an absent `else` is no list

abbrev mutual
  pub depth_of : Tree → ℕ
  depth_of (t.If c a Nil) = depth a + 1
  depth_of (t.If c a (Then x xs)) = max (depth a) (max (depth_of x) (depth xs)) + 1
  depth_of (t.While c a) = depth a + 1
  depth_of (t.Do a c) = depth a + 1
  depth_of (t.For first c u a) = depth a + 1
  depth_of (t.Switch s cs) = depth_in cs + 1
  depth_of (t.Block a) = depth a + 1
  depth_of _ = 0

  pub depth : Forest → ℕ
  depth Nil = 0
  depth (Then x xs) = max (depth_of x) (depth xs)

  pub depth_in : Sections → ℕ
  depth_in NoSection = 0
  depth_in (Section cases default a ends cs) = max (depth a) (depth_in cs)
