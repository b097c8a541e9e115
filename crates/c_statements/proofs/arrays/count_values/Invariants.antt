use Rattle.std.proofs.Common.{◌≡◌, ◌≤◌, ◌+◌, drop, length}
use Rattle.c_grammar.specs.ItemViews.{term_list_of}
use Rattle.c_grammar.specs.Views.{words_of}
use Rattle.c_statements.proofs.arrays.count_values.Given as goal

abbrev pub invariant-loop-x : goal.invariant-loop-x
invariant-loop-x l = record {
  within : l.count ≤ l.x-index;
  count : l.count + length (term_list_of (words_of l.words) (drop l.x-index l.parts)) ≡ length (term_list_of (words_of l.words) l.parts);
}
