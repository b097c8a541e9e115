-- What a restructured program keeps of its source, and how large it gets.
use Rattle.std.specs.Prelude.{List}
use Rattle.c_tree.specs.declared.tree.Program.{Program}
use Rattle.report_moves.specs.declared.moves.Move.{Move}
use Rattle.restructure_laws.specs.EachPlace.{AtEachPlace, AtEachPair}
use Rattle.restructure_laws.specs.Skeletons.{IsKept}
use Rattle.restructure_laws.specs.Guards.{HasFewGuards}
use Rattle.restructure_laws.specs.Jumps.{TopsMovedWithin}
use Rattle.restructure_laws.specs.Sizes.{IsWithinSizes}
use Rattle.move_driver.specs.declared.counts.Counts.{Counts}
use Rattle.move_driver.specs.Restructured.{IsRestructured}

-- each statement and each test of the flat form of a function with jumps stands once after the moves, in its order and in its
-- own constructs; a function without jumps loses its labels alone
abbrev pub KeepsSkeletons : Program → Program → List Move → Type 0
KeepsSkeletons p q ms = (counts : Counts) (w : IsRestructured p q ms counts) → AtEachPlace IsKept p.tops w.moved.tops q.tops

-- a function declares at most as many guards as it has labels, switches, loops twice, and labels of scattered switches
abbrev pub DeclaresFewGuards : Program → Program → List Move → Type 0
DeclaresFewGuards p q ms = (counts : Counts) (w : IsRestructured p q ms counts) → AtEachPlace HasFewGuards p.tops w.moved.tops q.tops

-- from the flat forms on, each jump has at most as many moves as the levels of its Leap and its Land, and three
abbrev pub IsMovedWithinLevels : Program → Program → List Move → Type 0
IsMovedWithinLevels p q ms = (counts : Counts) (w : IsRestructured p q ms counts) → TopsMovedWithin w.rewritten.flat.tops w.moved.tops ms

-- the result nests at most three levels deeper for each goto of a flat form, and its expressions have at most six counted
-- tokens more for each label
abbrev pub StaysWithinSizes : Program → Program → Type 0
StaysWithinSizes p q = AtEachPair IsWithinSizes p.tops q.tops
