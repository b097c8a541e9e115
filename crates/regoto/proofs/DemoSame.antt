-- What a program is restructured to behaves by steps as the program does.
use Rattle.std.proofs.Common.{◌≡◌, ℕ, List, sym, subst}
use Rattle.std.proofs.lemmas.List.Elements.{All-from_recursion}
use Rattle.c_copies.specs.Names.{names}
use Rattle.c_tree.specs.declared.tree.Program.{Program}
use Rattle.guard_vars.specs.GuardNames.{guard_names}
use Rattle.jump_meaning.specs.Code.{code_of}
use Rattle.jump_meaning.specs.Runs.{BehaveTheSame}
use Rattle.jump_meaning.proofs.RunFacts.{same_trans}
use Rattle.report_moves.specs.declared.moves.Move.{Move}
use Rattle.plain_laws.specs.Plain.{plain_with}
use Rattle.plain_laws.proofs.TheLaws.{plain_laws}
use Rattle.c_resolved_laws.specs.Counts.{flat_counts, IsResolved}
use Rattle.whole_laws.specs.WholeLaws.{IsTopNamed}
use Rattle.whole_laws.proofs.Whole.{whole_laws, resolved_ready}
use Rattle.whole_laws.proofs.NamedForm.{tops_named}
use Rattle.restructure_laws.proofs.NamedTops.{named_program_laws}
use Rattle.c_text.specs.Reading.{IsProgramOf}
use Rattle.c_text.proofs.Readings.{program_back, same_read}
use Rattle.move_driver.specs.declared.counts.Counts.{Counts}
use Rattle.move_driver.specs.Restructured.{IsRestructured}
use Rattle.move_driver.specs.Text.{Output, IsTextRestructured}

restructured_same : (p q : Program) (ms : List Move) (counts : Counts) → IsResolved p → IsRestructured p q ms counts → BehaveTheSame p q
restructured_same p q ms counts r w =
    let given = guard_names (names p) in
    let form = plain_with given w.moved in
    let rewritten = named_program_laws.rewritten flat_counts p w.moved ms r w.rewritten in
    let named = All-from_recursion (IsTopNamed given) w.moved.tops (tops_named p w.moved.tops) in
    let moved = (whole_laws.steady flat_counts p w.moved ms r rewritten).1 in
    let plain = plain_laws.of_programs given w.moved (resolved_ready flat_counts given p w.moved ms r rewritten named) in
    subst (BehaveTheSame p) (sym w.result) (record { codes = same_trans (code_of p) (code_of w.moved) (code_of form) moved.codes plain.codes })

-- a text has one program
pub one_program : (t : List ℕ) (p q : Program) → IsProgramOf t p → IsProgramOf t q → p ≡ q
one_program t p q h k = same_read _ p q (program_back t p h) (program_back t q k)

-- the programs of a text and of what it is restructured to
pub same : (t : List ℕ) (made : Output) (p q : Program) → IsResolved p → IsProgramOf t p → IsTextRestructured t made → IsProgramOf made.text q →
    BehaveTheSame p q
same t made p q r h w k =
    let source = one_program t w.program p w.reads h in
    let result = one_program made.text w.result q w.reads_back k in
    let behave = restructured_same w.program w.result w.moves made.counts (subst IsResolved (sym source) r) w.restructured in
    subst (λ a. BehaveTheSame a q) source (subst (BehaveTheSame w.program) result behave)
