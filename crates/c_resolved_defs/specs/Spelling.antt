-- Names and constants as C spells them, and texts within the limits: what printed text asks, with nested case labels,
-- which a source may have and printed text has not.
use Rattle.std.specs.Prelude.{◌≡◌, ◌≤◌, ◌<◌, ◌+◌, true, List, length, take, is_some, IfSome}
use Rattle.c_tree.specs.declared.tree.Slot.{Slot}
use Rattle.c_tree.specs.declared.tree.Function.{Function}
use Rattle.c_tree.specs.declared.tree.Item.{Item}
use Rattle.c_tree.specs.declared.tree.Top.{Top}
use Rattle.c_tree.specs.declared.tree.Top.TheVariants as T
use Rattle.c_tree.specs.declared.tree.Program.{Program}
use Rattle.c_tree.specs.Trees.{Tree, Forest, Nil, Then, Sections, NoSection, Section, If, While, Do, For, Switch, Block, Arrival, trees_of}
use Rattle.c_resolved_defs.specs.PrintableExpressions.{IsName}
use Rattle.c_resolved_defs.specs.PrintableStatements.{most, FullPrints, OptionPrints, ListPrints, TestPrints, SelectorPrints, StartPrints, ItemPrints, depth}
use Rattle.c_resolved_defs.specs.PrintablePrograms.{ParametersPrint, TopPrints}
use Rattle.c_resolved_defs.specs.Within.{Each, AllDiffer}

abbrev mutual
  pub ItemIsSpelled : Function → Tree → Type 0
  ItemIsSpelled f (If t a b) = TestPrints f.slots t × AreSpelled f a × AreSpelled f b
  ItemIsSpelled f (While t a) = TestPrints f.slots t × AreSpelled f a
  ItemIsSpelled f (Do a t) = AreSpelled f a × TestPrints f.slots t
  ItemIsSpelled f (For first t u a) = StartPrints f.slots first × OptionPrints f.slots t × OptionPrints f.slots u × AreSpelled f a
  ItemIsSpelled f (Switch s c) = SelectorPrints f.slots s × SectionsAreSpelled f c
  ItemIsSpelled f (Block a) = AreSpelled f a
  -- the constant of a nested case label
  ItemIsSpelled f (Arrival e) = IfSome e (FullPrints f.slots 3)
  ItemIsSpelled f x = ItemPrints f x

  pub AreSpelled : Function → Forest → Type 0
  AreSpelled f Nil = Unit {0}
  AreSpelled f (Then x xs) = ItemIsSpelled f x × AreSpelled f xs

  pub SectionsAreSpelled : Function → Sections → Type 0
  SectionsAreSpelled f NoSection = Unit {0}
  SectionsAreSpelled f (Section cases default a ends c) = ListPrints f.slots 3 cases × AreSpelled f a × SectionsAreSpelled f c

-- a body's items, and its nesting
pub record BodyIsSpelled (f : Function) (body : List Item) : Type 0 where
  pub items : AreSpelled f (trees_of body)
  pub shallow : 1 + depth (trees_of body) ≤ most

-- ---- the names of a function

-- in a definition each parameter has a name
abbrev pub HasName : Slot → Type 0
HasName s = 0 < length s.name

abbrev pub AreNamed : Function → Type 0
AreNamed f = is_some f.body ≡ true → Each HasName (take f.params f.slots)

pub record FunctionIsSpelled (f : Function) : Type 0 where
  pub named : IsName f.name
  pub parameters : ParametersPrint (take f.params f.slots)
  pub all_named : AreNamed f
  pub labels : AllDiffer f.labels
  pub body : IfSome f.body (BodyIsSpelled f)

-- ---- files

abbrev pub TopIsSpelled : Top → Type 0
TopIsSpelled (T.Function f) = FunctionIsSpelled f
TopIsSpelled t = TopPrints t

abbrev pub IsSpelled : Program → Type 0
IsSpelled p = Each TopIsSpelled p.tops
