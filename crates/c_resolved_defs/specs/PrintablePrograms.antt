-- Programs whose printed text is read again, within the limits.
use Rattle.std.specs.Prelude.{◌≤◌, ◌+◌, ℕ, List, [], ◌∷◌, take, Option, Some, None, option_map}
use Rattle.c_tree.specs.declared.tree.Slot.{Slot}
use Rattle.c_tree.specs.declared.tree.Expression.{Expression}
use Rattle.c_tree.specs.declared.tree.EnumItem.{EnumItem}
use Rattle.c_tree.specs.declared.tree.Function.{Function}
use Rattle.c_tree.specs.declared.tree.Item.{Item}
use Rattle.c_tree.specs.declared.tree.Top.{Top}
use Rattle.c_tree.specs.declared.tree.Top.TheVariants as T
use Rattle.c_tree.specs.declared.tree.Program.{Program}
use Rattle.c_tree.specs.ExpressionTrees.{expression_tree}
use Rattle.c_tree.specs.Trees.{expression_trees, trees_of}
use Rattle.c_resolved_defs.specs.Verbatims.{IsComment, IsDirective}
use Rattle.c_resolved_defs.specs.PrintableExpressions.{IsName}
use Rattle.c_resolved_defs.specs.PrintableStatements.{most, FullPrints, DeclaratorPrints, ItemsPrint, depth}

abbrev pub GivenPrints : Option Expression → Type 0
GivenPrints None = Unit {0}
GivenPrints (Some e) = FullPrints [] 3 (expression_tree e)

pub record EnumeratorPrints (x : EnumItem) : Type 0 where
  pub named : IsName x.name
  pub given : GivenPrints x.given

abbrev pub EnumeratorsPrint : List EnumItem → Type 0
EnumeratorsPrint [] = Unit {0}
EnumeratorsPrint (x ∷ xs) = EnumeratorPrints x × EnumeratorsPrint xs

-- an enum has a constant
abbrev pub EnumPrints : List EnumItem → Type 0
EnumPrints [] = ⊥
EnumPrints xs = EnumeratorsPrint xs

-- ---- functions

-- the name of a parameter, or none
abbrev pub ParameterPrints : List ℕ → Type 0
ParameterPrints [] = Unit {0}
ParameterPrints (b ∷ bs) = IsName (b ∷ bs)

abbrev pub ParametersPrint : List Slot → Type 0
ParametersPrint [] = Unit {0}
ParametersPrint (s ∷ ss) = ParameterPrints s.name × ParametersPrint ss

-- the items of a body print, and no list is nested too deep
pub record BodyPrints (f : Function) (body : List Item) : Type 0 where
  pub items : ItemsPrint f (trees_of body)
  pub shallow : 1 + depth (trees_of body) ≤ most

abbrev pub MaybeBody : Function → Option (List Item) → Type 0
MaybeBody f None = Unit {0}
MaybeBody f (Some body) = BodyPrints f body

pub record FunctionPrints (f : Function) : Type 0 where
  pub named : IsName f.name
  pub parameters : ParametersPrint (take f.params f.slots)
  pub body : MaybeBody f f.body

-- ---- files

abbrev pub TopPrints : Top → Type 0
TopPrints (T.Include bytes) = IsDirective bytes
TopPrints (T.Enum xs) = EnumPrints xs
TopPrints (T.Global v) = DeclaratorPrints [] v.slot (option_map expression_trees v.init)
TopPrints (T.Function f) = FunctionPrints f
TopPrints (T.Note bytes) = IsComment bytes

abbrev pub TopsPrint : List Top → Type 0
TopsPrint [] = Unit {0}
TopsPrint (t ∷ ts) = TopPrints t × TopsPrint ts

-- the printed text of the program is read again
pub record IsPrintable (p : Program) : Type 0 where
  pub tops : TopsPrint p.tops
