-- What `moved_laws` states.
use Rattle.std.specs.Prelude.{◌≡◌, List, Some, All}
use Rattle.c_tree.specs.declared.tree.Item.{Item}
use Rattle.c_tree.specs.declared.tree.Function.{Function}
use Rattle.c_tree.specs.declared.tree.Top.{Top}
use Rattle.c_tree.specs.Conversions.{convert}
use Rattle.c_tree.specs.InRange.{body_of}
use Rattle.c_tree.specs.WellMade.{IsWellMade}
use Rattle.report_moves.specs.declared.moves.Move.{Move}
use Rattle.move_order_laws.specs.Moved.{MovedTops, IsMovable, IsTopMovable}
use Rattle.move_order_laws.specs.MoveFunctionCounts.{joined, jumps}

pub record MovedLaws : Type 0 where
  -- a function whose conversion is well made, on trees, can be moved
  pub movable : (f : Function) (body : List Item) → f.body ≡ Some body → IsWellMade (convert (body_of f)) → IsMovable f
  -- each jump of the flat forms is joined once
  pub joins : (ts us : List Top) (ms : List Move) → All IsTopMovable ts → MovedTops ts us ms → joined ms ≡ jumps ts
