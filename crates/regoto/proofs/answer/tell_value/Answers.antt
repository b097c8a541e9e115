use Rattle.std.proofs.Common.{rules}
use Rattle.std.specs.Int.{w128}
use Rattle.std.proofs.lemmas.Int.{ints, to_z-of_z}
use Rattle.cmd_words.proofs.Told.{ended_as}
use Rattle.regoto.proofs.answer.tell_value.Goals as goal

pub returns : goal.returns
returns g c = ended_as _ _ _ _ _ c.args.value.now (search (rules, ints, to_z-of_z w128 c.args.value.now)) c.tell_ended.ensures
