-- The laws that the functions of this crate state.
use Rattle.std.proofs.Common.{List}
use Rattle.c_tree.specs.declared.tree.Item.{Item}
use Rattle.c_tree.specs.Trees.{trees_of}
use Rattle.c_tree.specs.Changed.{Changed}
use Rattle.c_tree.specs.Moves.{Moved}
use Rattle.c_tree.proofs.RuleChanges.{joins_changed, lifts_changed, moves_out_changed, moves_in_changed}
use Rattle.move_laws.specs.MoveRuleLaws.{BetterLaws, MoveLaws, ProgramLaws, BehaviourLaws, Keeps}
use Rattle.move_laws.proofs.BetterLists.{better_refl, better_trans, better_changed}
use Rattle.move_laws.proofs.BetterMoved.{moved_better}
use Rattle.move_laws.proofs.ProgramsMoved.{program_in_range, program_made, program_core}
use Rattle.move_laws.proofs.SteadyMoved.{moved_steady, moved_keeps}

pub better_laws : BetterLaws
better_laws = record { itself = better_refl; chain = λ xs ys zs p q. better_trans p q; anywhere = λ xs ys c. better_changed (λ xs ys h. h) c }

pub move_laws : MoveLaws
move_laws = record {
  moved = moved_better;
  joins = λ l i j steps old new h w. moved_better (trees_of old) (trees_of new) (joins_changed l i j steps old new h) w;
  lifts = λ l i j steps old new to h w. moved_better (trees_of old) (trees_of new) (lifts_changed l i j steps old new to h) w;
  moves_out = λ l outer last i old new to h w. moved_better (trees_of old) (trees_of new) (moves_out_changed l outer last i old new to h) w;
  moves_in = λ l n i j b steps old new to h w. moved_better (trees_of old) (trees_of new) (moves_in_changed l n i j b steps old new to h) w;
}

pub program_laws : ProgramLaws
program_laws = record { ranged = program_in_range; made = program_made; core = program_core }

keeps : (old new : List Item) → Changed Moved (trees_of old) (trees_of new) → Keeps old new
keeps old new m w = moved_keeps old new (record { made = w; moved = m })

pub behaviour_laws : BehaviourLaws
behaviour_laws = record {
  steady = moved_steady;
  joins = λ l i j steps old new h. keeps old new (joins_changed l i j steps old new h);
  lifts = λ l i j steps old new to h. keeps old new (lifts_changed l i j steps old new to h);
  moves_out = λ l outer last i old new to h. keeps old new (moves_out_changed l outer last i old new to h);
  moves_in = λ l n i j b steps old new to h. keeps old new (moves_in_changed l n i j b steps old new to h);
}
