use Rattle.std.proofs.Common.{sym, ◌∙◌}
use Rattle.std.specs.Int.{w128}
use Rattle.std.proofs.lemmas.Int.{to_z-of_z}
use Rattle.step_interp.proofs.FileLemmas.{first_is, first_none}
use Rattle.step_interp.proofs.files.first_number.Goals as goal

pub returns-then-at-initialisers : goal.returns-then-at-initialisers
returns-then-at-initialisers c = sym (first_none c.args.kind c.args.initialisers.now c.args.at c.if-at-initialisers.true)

pub returns : goal.returns
returns c =
    to_z-of_z w128 c.initial_number.result (record { sfits = c.initial_number.type_inv })
    ∙ c.initial_number.ensures
    ∙ sym (first_is c.args.kind c.args.initialisers.now c.args.at c.index-initialisers-at.result c.if-at-initialisers.false c.index-initialisers-at.is)
