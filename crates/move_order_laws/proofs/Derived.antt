-- What is derived from a steady program is steady, and behaves as it does.
use Rattle.c_tree.specs.declared.tree.Program.{Program}
use Rattle.jump_meaning.specs.Code.{code_of}
use Rattle.jump_meaning.specs.Runs.{BehaveTheSame}
use Rattle.jump_meaning.specs.Steady.{IsSteady}
use Rattle.jump_meaning.proofs.RunFacts.{same_refl, same_trans}
use Rattle.move_laws.proofs.SteadyMoved.{moved_steady}
use Rattle.move_order_laws.proofs.ProgramsConverted.{converted_steady}
use Rattle.move_laws.proofs.ProgramsSimplified.{steady_simplified}
use Rattle.move_laws.proofs.ProgramsDropped.{guard_dropped}
use Rattle.move_order_laws.specs.Sequences.{Step, converts, moves, simplifies, drops, Derives, none, then, DerivationLaws}

one_step : (p q : Program) → Step p q → IsSteady p → IsSteady q × BehaveTheSame p q
one_step p q (converts r) s = converted_steady p q r s
one_step p q (moves r) s = moved_steady p q r s
one_step p q (simplifies r) s = steady_simplified p q r s
one_step p q (drops r) s = guard_dropped p q r s

derived : {p q : Program} → Derives p q → IsSteady p → IsSteady q × BehaveTheSame p q
derived (none {p = p}) s = (s, record { codes = same_refl (code_of p) })
derived (then {p = p} {q = q} {r = r} step d) s =
    let a = one_step p q step s in
    let b = derived d a.0 in
    (b.0, record { codes = same_trans (code_of p) (code_of q) (code_of r) a.1.codes b.1.codes })

pub sequence_laws : DerivationLaws
sequence_laws = record { steady = λ p q d s. derived d s }
