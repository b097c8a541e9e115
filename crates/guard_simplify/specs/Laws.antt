-- What the law of this crate states.
use Rattle.std.specs.Prelude.{List}
use Rattle.c_tree.specs.declared.tree.Item.{Item}
use Rattle.c_tree.specs.Trees.{trees_of}
use Rattle.c_tree.specs.WellMade.{IsWellMade}
use Rattle.move_laws.specs.MoveRuleLaws.{Keeps}
use Rattle.guard_simplify.specs.declared.choice.Choice.{Choice}
use Rattle.guard_simplify.specs.Choice.{Among, choices}
use Rattle.guard_simplify.specs.Application.{IsApplied, Reaches}

-- simplifications keep a body well made, a steady program steady, and its behaviour
pub record ChoiceLaws : Type 0 where
  -- any one that applies, also one that isn't the next
  pub made : (c : Choice) (old new : List Item) → Among c (choices (trees_of old)) → IsApplied c old new → IsWellMade (trees_of old) → IsWellMade (trees_of new)
  pub keeps : (c : Choice) (old new : List Item) → Among c (choices (trees_of old)) → IsApplied c old new → Keeps old new
  -- many, one after another
  pub reached_made : (old new : List Item) (cs : List Choice) → Reaches old cs new → IsWellMade (trees_of old) → IsWellMade (trees_of new)
  pub reached_keeps : (old new : List Item) (cs : List Choice) → Reaches old cs new → Keeps old new
