use Rattle.std.proofs.Common.{◌≡◌, ◌++◌, [], length, map}
use Rattle.c_grammar.specs.Views.{words_of}
use Rattle.c_statements.specs.Labels.{numbers_from, distinct_from, twice_from}
use Rattle.c_statements.proofs.label_list.function_labels.Given as goal

abbrev pub invariant-loop-at : goal.invariant-loop-at
invariant-loop-at l = record {
  numbers : numbers_from l.numbers (map (words_of l.words) l.left) ≡ numbers_from [] (map (words_of l.words) l.fn.labels);
  names : l.names ++ distinct_from l.numbers (map (words_of l.words) l.left) ≡ distinct_from [] (map (words_of l.words) l.fn.labels);
  faults : twice_from l.numbers (words_of l.words) l.left l.faults ≡ twice_from [] (words_of l.words) l.fn.labels l.initial.faults;
}

abbrev pub decreases-loop-at : goal.decreases-loop-at
decreases-loop-at l = length l.left
