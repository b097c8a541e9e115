use Rattle.std.proofs.Common.{ap, ◌∙◌}
use Rattle.c_copies.specs.Names.{names, file_names}
use Rattle.c_tree.specs.Text.{text_of}
use Rattle.c_text.proofs.Readings.{program_as}
use Rattle.plain_form.specs.Plain.{plain}
use Rattle.move_driver.proofs.Kept.{skeletons, guards, levels, sizes}
use Rattle.move_driver.proofs.Programs.{movable, restructured, reads_back, ranged}
use Rattle.move_driver.proofs.Settled.{notes_kept, only, settled}
use Rattle.move_driver.proofs.program.rewrite.Goals as goal

pub move_program-requires : goal.move_program-requires
move_program-requires c = movable c.args.program (names c.args.program) (file_names c.args.program) c.flatten_program.new.program.tops c.requires
    c.in_ok-names.ensures.flat

pub returns-clause-value : goal.returns-clause-value
returns-clause-value c =
    restructured c.args.program c.flatten_program.new.program.tops c.move_program.new.program c.in_ok-plain.plain c.in_ok-moves.moves
    c.count-counts.result c.requires c.in_ok-names.ensures.held c.in_ok-names.ensures.flat c.in_ok-moves.ensures
    (c.in_ok-plain.ensures.value ∙ ap (λ n. plain n c.move_program.new.program) c.in_ok-names.ensures.names)
    (c.count-counts.ensures c.move_program.new.program c.in_ok-before.ensures)

pub returns-clause-plain : goal.returns-clause-plain
returns-clause-plain c = (reads_back c.args.program c.in_ok-plain.plain c.in_ok-moves.moves c.count-counts.result c.requires (returns-clause-value c)).plain

pub returns-clause-ranged : goal.returns-clause-ranged
returns-clause-ranged c = ranged c.args.program c.in_ok-plain.plain c.in_ok-moves.moves c.count-counts.result c.requires (returns-clause-value c)

pub returns-clause-behaves : goal.returns-clause-behaves
returns-clause-behaves c = (reads_back c.args.program c.in_ok-plain.plain c.in_ok-moves.moves c.count-counts.result c.requires (returns-clause-value c)).runs

pub returns-clause-resolved : goal.returns-clause-resolved
returns-clause-resolved c = (reads_back c.args.program c.in_ok-plain.plain c.in_ok-moves.moves c.count-counts.result c.requires
    (returns-clause-value c)).resolved

pub returns-clause-reads_back : goal.returns-clause-reads_back
returns-clause-reads_back c =
    program_as (text_of c.in_ok-plain.plain) c.in_ok-plain.plain
    (reads_back c.args.program c.in_ok-plain.plain c.in_ok-moves.moves c.count-counts.result c.requires (returns-clause-value c)).reads

pub returns-clause-skeletons : goal.returns-clause-skeletons
returns-clause-skeletons c = skeletons c.args.program c.in_ok-plain.plain c.in_ok-moves.moves c.requires

pub returns-clause-guards : goal.returns-clause-guards
returns-clause-guards c = guards c.args.program c.in_ok-plain.plain c.in_ok-moves.moves c.requires

pub returns-clause-levels : goal.returns-clause-levels
returns-clause-levels c = levels c.args.program c.in_ok-plain.plain c.in_ok-moves.moves c.requires

pub returns-clause-sizes : goal.returns-clause-sizes
returns-clause-sizes c = sizes c.args.program c.in_ok-plain.plain c.in_ok-moves.moves c.count-counts.result c.requires (returns-clause-value c)

pub returns-clause-notes : goal.returns-clause-notes
returns-clause-notes c = notes_kept c.args.program c.in_ok-plain.plain c.in_ok-moves.moves c.count-counts.result c.requires (returns-clause-value c)

pub returns-clause-settled : goal.returns-clause-settled
returns-clause-settled c = settled c.in_ok-plain.plain (returns-clause-resolved c) (returns-clause-plain c)

pub returns-clause-only : goal.returns-clause-only
returns-clause-only c = only c.args.program c.in_ok-plain.plain c.in_ok-moves.moves c.count-counts.result c.requires (returns-clause-value c)
