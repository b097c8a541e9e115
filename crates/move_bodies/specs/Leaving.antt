-- How the driver of a body chooses the rule, by the place that the Land had when the Leap was chosen, and
-- then by the list of the Leap alone.
use Rattle.std.specs.Prelude.{◌≡◌, ℕ, ◌<◌, List, ◌++◌, Bool, true, false, Option, Some, None}
use Rattle.c_tree.specs.declared.tree.Item.{Item}
use Rattle.c_tree.specs.declared.tree.Path.{Path}
use Rattle.c_tree.specs.declared.tree.Step.{Step}
use Rattle.c_tree.specs.Paths.{list_at}
use Rattle.c_tree.specs.Join.{list_there}
use Rattle.c_tree.specs.Labels.{lands}
use Rattle.c_tree.specs.Trees.{trees_of}
use Rattle.label_offsets.specs.declared.places.Rule.{Rule}
use Rattle.label_offsets.specs.declared.places.Rule.TheVariants.{Outward}
use Rattle.move_order_laws.specs.declared.kept.Kept.{Kept}
use Rattle.move_bodies.specs.Moving.{IsUnderway}

-- the Leap goes out by the rule
abbrev pub is_outward : Rule → Bool
is_outward Outward = true
is_outward _ = false

-- the list of the Leap has the Land, or an element of it holds it
abbrev pub LeadsOn : ℕ → List Item → Path → Type 0
LeadsOn l body at = 0 < lands l (trees_of (list_there body at.steps))

-- and the Leap at the path stands first in it
pub record IsAhead (l : ℕ) (body : List Item) (at : Path) : Type 0 where
  pub first : at.item ≡ 0
  pub leads : LeadsOn l body at

-- where the Leap is not joined, it stands first in a list that leads on
abbrev pub AheadIf : ℕ → List Item → Option Path → Type 0
AheadIf l body None = Unit {0}
AheadIf l body (Some at) = IsAhead l body at

-- the moves so far led the Leap out: of the lists on the way to it, none has gained or lost a Land
pub record IsLeaving (l : ℕ) (start at : Path) (old new : List Item) (before after : List Kept) : Type 0 where
  pub underway : IsUnderway l start (Some at) old new before after
  pub list : List Item
  pub there : list_at old at.steps ≡ Some list
  pub same : (front rest : List Step) → at.steps ≡ front ++ rest → lands l (trees_of (list_there new front)) ≡ lands l (trees_of (list_there old front))
