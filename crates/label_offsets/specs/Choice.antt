-- The rule that applies to a Leap, by the place of its Land.
use Rattle.std.specs.Prelude.{◌≡◌, ℕ, ◌<◌, List, [], ◌∷◌, ◌++◌, Some}
use Rattle.c_tree.specs.declared.tree.Item.{Item, Leap, Land}
use Rattle.c_tree.specs.declared.tree.Branch.{Branch}
use Rattle.c_tree.specs.declared.tree.Path.{Path}
use Rattle.c_tree.specs.declared.tree.Step.{Step}
use Rattle.c_tree.specs.Paths.{child, item_at}
use Rattle.c_tree.specs.Join.{Holds, CanJoin}
use Rattle.c_tree.specs.Labels.{lands}
use Rattle.c_tree.specs.Lift.{CanLift}
use Rattle.c_tree.specs.Outward.{HasBranch, CanMoveOut}
use Rattle.c_tree.specs.Trees.{trees_of}
use Rattle.label_offsets.specs.declared.places.Rule.{Rule}
use Rattle.label_offsets.specs.declared.places.Rule.TheVariants.{SiblingBefore, SiblingAfter, InwardOf, LiftOf, Outward}

-- rule L applies, for some place
pub record IsLiftable (l i : ℕ) (steps : List Step) (body : List Item) : Type 0 where
  pub place : ℕ
  pub applies : CanLift l i place steps body

-- rule I applies, for some place, branch and number
pub record LeadsIn (l i : ℕ) (steps : List Step) (body : List Item) : Type 0 where
  pub place : ℕ
  pub branch : Branch
  pub item : Item
  pub later : i < place
  pub there : item_at body steps place ≡ Some item
  pub construct : HasBranch branch item
  pub held : Holds (λ a. 0 < lands l (trees_of a)) (child branch item)

-- rule O applies, for the steps before the last
pub record LeadsOut (l i : ℕ) (steps : List Step) (body : List Item) : Type 0 where
  pub outer : List Step
  pub last : Step
  pub steps_are : steps ≡ outer ++ last ∷ []
  pub applies : CanMoveOut l outer last i body

-- what each rule wants, of the Leap at p and the Land at q
abbrev pub Applies : Rule → ℕ → Path → Path → List Item → Type 0
Applies SiblingBefore l p q body = CanJoin l p.item q.item p.steps body
Applies SiblingAfter l p q body = CanJoin l p.item q.item p.steps body
Applies LiftOf l p q body = IsLiftable l p.item p.steps body
Applies InwardOf l p q body = LeadsIn l p.item p.steps body
Applies Outward l p q body = LeadsOut l p.item p.steps body

-- they are the same rule; both siblings are joined
abbrev pub AreAlike : Rule → Rule → Type 0
AreAlike SiblingBefore SiblingBefore = Unit {0}
AreAlike SiblingBefore SiblingAfter = Unit {0}
AreAlike SiblingAfter SiblingBefore = Unit {0}
AreAlike SiblingAfter SiblingAfter = Unit {0}
AreAlike LiftOf LiftOf = Unit {0}
AreAlike InwardOf InwardOf = Unit {0}
AreAlike Outward Outward = Unit {0}
AreAlike _ _ = ⊥

-- the rule applies to the Leap at the path, and no other does
pub record IsRuleAt (r : Rule) (body : List Item) (at : Path) : Type 0 where
  pub label : ℕ
  pub place : Path
  pub leap : item_at body at.steps at.item ≡ Some (Leap label)
  pub land : item_at body place.steps place.item ≡ Some (Land label)
  pub applies : Applies r label at place body
  pub only : (other : Rule) (q : Path) → Applies other label at q body → AreAlike r other
