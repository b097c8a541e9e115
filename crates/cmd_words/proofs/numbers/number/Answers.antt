use Rattle.std.proofs.Common.{ap, sym, ◌∙◌}
use Rattle.cmd_words.specs.Numbers.{spells_number}
use Rattle.cmd_words.proofs.Spelled.{parsed}
use Rattle.cmd_words.proofs.numbers.number.Goals as goal

pub returns-then-spells_number : goal.returns-then-spells_number
returns-then-spells_number c =
    c.ok.ensures.value
    ∙ parsed c.args.word.now c.parse.result (ap spells_number (sym c.as_bytes.ensures.value) ∙ sym c.spells_number.ensures ∙ c.if-spells_number.true)
    c.parse.ensures.value.0
