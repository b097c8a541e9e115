use Rattle.std.proofs.Common.{◌≡◌, drop, max}
use Rattle.c_grammar.specs.ItemViews.{declarators_of}
use Rattle.c_grammar.specs.Views.{words_of}
use Rattle.c_statements.specs.Measures.{longest_declared}
use Rattle.c_statements.proofs.longest.longest_name.Given as goal

abbrev pub invariant-loop-x : goal.invariant-loop-x
invariant-loop-x l =
    max l.longest (longest_declared (words_of l.words) (declarators_of (words_of l.words) (drop l.x-index l.nodes))) ≡ longest_declared
    (words_of l.words) (declarators_of (words_of l.words) l.nodes)
