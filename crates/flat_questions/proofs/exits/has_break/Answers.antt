use Rattle.c_tree.specs.Exits.{breaks}
use Rattle.c_tree.specs.Trees.{trees_of}
use Rattle.flat_questions.proofs.LastBreaks.{some_counted}
use Rattle.flat_questions.proofs.exits.has_break.Goals as goal

pub returns : goal.returns
returns c = some_counted c.count_breaks.result (breaks (trees_of c.args.list.now)) c.count_breaks.ensures
