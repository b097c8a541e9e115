-- What `lawful_move_laws` and `replay_laws` state.
use Rattle.std.specs.Prelude.{◌≡◌, ◌+◌, ℕ, true, List, Some, slice_get, sum_by, All}
use Rattle.c_tree.specs.declared.tree.Item.{Item, Leap, Land}
use Rattle.c_tree.specs.declared.tree.Function.{Function}
use Rattle.c_tree.specs.declared.tree.Path.{Path}
use Rattle.c_tree.specs.declared.tree.Top.{Top}
use Rattle.c_tree.specs.declared.tree.Program.{Program}
use Rattle.c_tree.specs.Jumps.{is_jump_free_program}
use Rattle.c_tree.specs.Paths.{item_at}
use Rattle.c_tree.specs.Trees.{trees_of}
use Rattle.c_tree.specs.WellMade.{IsWellMade}
use Rattle.c_resolved_defs.specs.Limits.{FlatCounts}
use Rattle.c_resolved_defs.specs.Resolved.{IsResolvedWith}
use Rattle.jump_meaning.specs.Runs.{BehaveTheSame}
use Rattle.jump_meaning.specs.Steady.{IsSteady}
use Rattle.label_offsets.specs.Relation.{relation}
use Rattle.report_moves.specs.declared.moves.Move.{Move}
use Rattle.move_order_laws.specs.MoveFunctionCounts.{joined, jumps}
use Rattle.move_order_laws.specs.Moved.{MovedTops}
use Rattle.whole_laws.specs.Rewritten.{FlatTops, IsRewritten}
use Rattle.whole_laws.specs.WholeLaws.{IsTopNamed, IsRight}
use Rattle.restructure_laws.specs.Lawful.{kind_of, IsLeapMoved, OneMoved, Moves}
use Rattle.restructure_laws.specs.Replayed.{converted_tops, IsTopWellMade, IsTopLeapless, top_leaps, IsReplayed}

-- what the move makes of a body
pub record CanBeMade (labels : List (List ℕ)) (m : Move) (body : List Item) : Type 0 where
  pub new : List Item
  pub moved : IsLeapMoved labels m body new

-- moves of any lawful order
pub record LawfulMoveLaws : Type 0 where
  -- a move of a Leap is of the kind of the rule by which the Leap stands to its Land
  pub kind : (labels : List (List ℕ)) (m : Move) (body new : List Item) (l : ℕ) (land : Path) → IsWellMade (trees_of body) →
      item_at body m.path.steps m.path.item ≡ Some (Leap l) → item_at body land.steps land.item ≡ Some (Land l)
      → IsLeapMoved labels m body new → m.kind ≡ kind_of (relation m.path.steps m.path.item land.steps land.item)
  -- and each such move can be made
  pub some : (labels : List (List ℕ)) (m : Move) (body : List Item) (l : ℕ) (land : Path) → IsWellMade (trees_of body) →
      item_at body m.path.steps m.path.item ≡ Some (Leap l) → item_at body land.steps land.item ≡ Some (Land l)
      → m.kind ≡ kind_of (relation m.path.steps m.path.item land.steps land.item) → slice_get labels l ≡ m.label → CanBeMade labels m body
  -- flat functions that are well made stay so
  pub well_made : (ts us : List Top) (ms : List Move) → All IsTopWellMade ts → Moves ts ms us → All IsTopWellMade us
  -- moves make one thing of a program
  pub one_move : (m : Move) (ts us vs : List Top) → All IsTopWellMade ts → OneMoved m ts us → OneMoved m ts vs → us ≡ vs
  pub one : (ts us vs : List Top) (ms : List Move) → All IsTopWellMade ts → Moves ts ms us → Moves ts ms vs → us ≡ vs
  -- a steady program stays steady, and behaves the same
  pub steady : (p q : Program) (ms : List Move) → All IsTopWellMade p.tops → Moves p.tops ms q.tops → IsSteady p → IsSteady q × BehaveTheSame p q
  -- each join takes one Leap
  pub joins : (ts us : List Top) (ms : List Move) → Moves ts ms us → joined ms + sum_by top_leaps us ≡ sum_by top_leaps ts

-- moves of a whole resolved program
pub record ReplayLaws : Type 0 where
  -- its converted flat forms are well made
  pub well_made : (counts : FlatCounts) (p : Program) (us : List Top) → IsResolvedWith counts p → FlatTops p.tops us → All IsTopWellMade (converted_tops us)
  -- what it becomes is steady, and behaves the same
  pub steady : (counts : FlatCounts) (p q : Program) (ms : List Move) → IsResolvedWith counts p → IsReplayed p q ms → IsSteady q × BehaveTheSame p q
  -- where no Leap is left, it has no jumps
  pub jump_free : (counts : FlatCounts) (p q : Program) (ms : List Move) → IsResolvedWith counts p → IsReplayed p q ms → All IsTopLeapless q.tops →
      is_jump_free_program q ≡ true
  -- and its plain form is plain, in range, and its structural runs are the runs of the program
  pub whole : (counts : FlatCounts) (names : Function → List (List ℕ)) (p q : Program) (ms : List Move) → IsResolvedWith counts p →
      IsReplayed p q ms → All IsTopLeapless q.tops → All (IsTopNamed names) q.tops → IsRight names p q
  -- each jump of the flat forms was joined once then
  pub joins : (counts : FlatCounts) (p q : Program) (ms : List Move) (r : IsReplayed p q ms) → IsResolvedWith counts p → All IsTopLeapless q.tops →
      joined ms ≡ jumps r.flat.tops
  -- the moves of the rewriting are lawful, and leave no Leap
  pub moves : (counts : FlatCounts) (p : Program) (us vs : List Top) (ms : List Move) → IsResolvedWith counts p → FlatTops p.tops us →
      MovedTops us vs ms → Moves (converted_tops us) ms vs × All IsTopLeapless vs
  -- so a program that is rewritten is what those moves make of it
  pub rewritten : (counts : FlatCounts) (p q : Program) (ms : List Move) → IsResolvedWith counts p → IsRewritten p q ms →
      IsReplayed p q ms × All IsTopLeapless q.tops
