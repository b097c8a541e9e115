use Rattle.std.proofs.Common.{◌≡◌, ◌≤◌, ◌+◌, ◌*◌, drop, length, map}
use Rattle.c_grammar.specs.Parts.{part_of, greatest, sum_counted}
use Rattle.c_grammar.specs.Weights.{weight, weights}
use Rattle.c_grammar.specs.Views.{words_of}
use Rattle.c_statements.specs.Measures.{bounded}
use Rattle.c_scopes.proofs.counted.+counts.Given as goal

abbrev pub decreases-counts_of : goal.decreases-counts_of
decreases-counts_of l = 3 * weight l.x.now

abbrev pub decreases-counts_in : goal.decreases-counts_in
decreases-counts_in l = 3 * weights l.nodes.now + 1

abbrev pub decreases-innermost_counts : goal.decreases-innermost_counts
decreases-innermost_counts l = 3 * weights l.node.parts.now + 2

abbrev pub invariant-counts_in-loop-i : goal.invariant-counts_in-loop-i
invariant-counts_in-loop-i l = record {
  within : l.i ≤ length l.nodes;
  counted : l.counted ≡ bounded (sum_counted (map (part_of (words_of l.words)) (drop l.i l.nodes)));
  most : l.most ≡ bounded (greatest (map (part_of (words_of l.words)) (drop l.i l.nodes)));
}

abbrev pub decreases-counts_in-loop-i : goal.decreases-counts_in-loop-i
decreases-counts_in-loop-i l = l.i
