use Rattle.std.specs.Int.{w128}
use Rattle.std.proofs.lemmas.Int.{to_z-of_z}
use Rattle.cmd_words.proofs.Told.{tells_of, ended_as}
use Rattle.cmd_words.proofs.run_lines.tell_ended.Goals as goal

pub returns : goal.returns
returns g c =
    let same = to_z-of_z w128 c.args.value c.ranges.value in
    ended_as _ _ _ _ _ c.args.value same (tells_of _ _ _ _ _ c.write_ended-whole.result c.write_ended-whole.ensures)
