use Rattle.std.proofs.Common.{◌∙◌, ap, rules}
use Rattle.std.specs.Int.{w128}
use Rattle.std.specs.Fmt.{signed_decimal}
use Rattle.std.proofs.lemmas.Int.{to_z-of_z}
use Rattle.cmd_words.proofs.demo_lines.write_demo.Goals as goal

pub returns : goal.returns
returns g c =
    let text = c.format-6.ensures.text ∙ ap signed_decimal (to_z-of_z w128 c.args.shown.value (search rules)) in
    rw (c.format.ensures.text, c.format-2.ensures.text, c.format-3.ensures.text, c.format-4.ensures.text, c.format-5.ensures.text, text) at
    c.write_pieces.ensures
