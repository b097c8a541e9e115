use Rattle.std.proofs.Common.{drop, ap, ◌∙◌}
use Rattle.move_list_edits.proofs.CutLemmas.{cut_front}
use Rattle.move_list_edits.proofs.edits.cut_many.Goals as goal

pub returns-in-Ok-mid-clause-cut : goal.returns-in-Ok-mid-clause-cut
returns-in-Ok-mid-clause-cut g c =
    c.in-Ok-mid.ensures.tail ∙ ap (drop c.args.from) c.in_ok-tail.ensures.items ∙ cut_front c.args.items.now.items c.args.from c.args.to c.requires.start_le_end
