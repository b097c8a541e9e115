-- A function without jumps loses its labels, and nothing else.
use Rattle.std.specs.Prelude.{ℕ, false, None, IsSome, ◌≡◌}
use Rattle.c_tree.specs.Trees.{Tree, Forest, Nil, Then, Sections, NoSection, Section, If, While, Do, For, Switch, Block, Mark, Arrival, join}
use Rattle.c_tree.specs.Changed.{one}
use Rattle.c_tree.specs.Everywhere.{Everywhere}
use Rattle.jump_meaning.specs.Code.{FunctionTree, items_of}
use Rattle.flat_laws.specs.Loose.{Setting, ExtendSlots}
use Rattle.flat_laws.specs.Source.{IsSourceItem}

abbrev mutual
  -- a list without its labels
  pub unlabelled : Forest → Forest
  unlabelled Nil = Nil
  unlabelled (Then x xs) = join (unlabelled_item x) (unlabelled xs)

  -- what stands in the place of an item
  pub unlabelled_item : Tree → Forest
  unlabelled_item (If t a b) = one (If t (unlabelled a) (unlabelled b))
  unlabelled_item (While t a) = one (While t (unlabelled a))
  unlabelled_item (Do a t) = one (Do (unlabelled a) t)
  unlabelled_item (For first t u a) = one (For (unlabelled first) t u (unlabelled a))
  unlabelled_item (Switch s d) = one (Switch s (unlabelled_among d))
  unlabelled_item (Block a) = one (Block (unlabelled a))
  unlabelled_item (Mark l) = Nil
  unlabelled_item x = one x

  -- sections without their labels
  pub unlabelled_among : Sections → Sections
  unlabelled_among NoSection = NoSection
  unlabelled_among (Section cases default a ends d) = Section cases default (unlabelled a) ends (unlabelled_among d)

-- an item of a source without gotos and nested case labels
abbrev pub IsCalmItem : Setting → Tree → Type 0
IsCalmItem s (Arrival e) = ⊥
IsCalmItem s x = IsSourceItem s (λ l. false) x

-- g is f, a function without jumps, without its labels
pub record IsUnlabelledFrom (s : Setting) (f g : FunctionTree) : Type 0 where
  pub defined : IsSome f.body
  pub new_defined : IsSome g.body
  pub items : Everywhere (IsCalmItem s) (items_of f)
  pub dropped : (l : ℕ) → s.labels l ≡ None
  pub body : items_of g ≡ unlabelled (items_of f)
  pub result : f.result ≡ g.result
  pub params : f.params ≡ g.params
  pub slots : ExtendSlots f.slots g.slots
  pub same_params : s.params ≡ f.params
  pub same_old : s.old ≡ f.slots
  pub same_new : s.new ≡ g.slots
