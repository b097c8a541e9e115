use Rattle.std.proofs.Common.{◌∙◌, ap}
use Rattle.std.specs.Int.{w128}
use Rattle.std.specs.Fmt.{signed_decimal}
use Rattle.std.proofs.lemmas.Int.{to_z-of_z}
use Rattle.cmd_words.proofs.run_lines.write_ended.Goals as goal

pub returns : goal.returns
returns g c =
    let text = c.format.ensures.text ∙ ap signed_decimal (to_z-of_z w128 c.args.value c.ranges.value) in
    rw text at c.write_pieces.ensures
