use Rattle.std.proofs.Common.{◌≡◌, ◌≤◌, drop, length}
use Rattle.c_grammar.specs.Views.{words_of}
use Rattle.c_scopes.specs.FunctionNames.{bodies_of}
use Rattle.c_comments.specs.NodeViews.{tops_in}
use Rattle.c_scopes.proofs.function_names.bodies_of.Given as goal

abbrev pub invariant-loop-i : goal.invariant-loop-i
invariant-loop-i l = record {
  within : l.i ≤ length l.nodes;
  bodies : l.bodies ≡ bodies_of (words_of l.words) (tops_in (words_of l.words) (drop l.i l.nodes));
}

abbrev pub decreases-loop-i : goal.decreases-loop-i
decreases-loop-i l = l.i
