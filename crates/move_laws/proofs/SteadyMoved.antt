-- A program stays steady and behaves the same where a rule changes one body.
use Rattle.std.proofs.Common.{List, sym, subst}
use Rattle.c_tree.specs.declared.tree.Item.{Item}
use Rattle.c_tree.specs.declared.tree.Top.{Top}
use Rattle.c_tree.specs.declared.tree.Program.{Program}
use Rattle.jump_meaning.specs.Runs.{BehaveTheSame}
use Rattle.jump_meaning.specs.Steady.{IsSteady}
use Rattle.core_laws.proofs.Programs.{core_laws}
use Rattle.move_laws.specs.Bodies.{OneBodyChanged, this_function, later_function, MovesWell, IsExchange, KeepsBehaviour}
use Rattle.move_laws.proofs.ProgramsMoved.{program_in_range, program_made, program_core}

pub moved_steady : (p q : Program) → OneBodyChanged MovesWell p.tops q.tops → IsSteady p → IsSteady q × BehaveTheSame p q
moved_steady p q r s = core_laws.of_programs p q (program_in_range p q r s.ranged) (program_made p q r s.made) (program_core p q r) s

exchanged : {old new : List Item} {ts us : List Top} → MovesWell old new → OneBodyChanged (IsExchange old new) ts us → OneBodyChanged MovesWell ts us
exchanged {old} {new} w (this_function f a b ts e h) = this_function f a b ts e
    (subst (λ x. MovesWell x b) (sym h.0) (subst (λ y. MovesWell old y) (sym h.1) w))
exchanged w (later_function t r) = later_function t (exchanged w r)

pub moved_keeps : (old new : List Item) → MovesWell old new → KeepsBehaviour old new
moved_keeps old new w = record { programs = λ p q r s. moved_steady p q (exchanged w r) s }
