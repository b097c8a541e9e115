use Rattle.std.proofs.Common.{◌≡◌, drop}
use Rattle.c_grammar.specs.Views.{words_of}
use Rattle.c_scopes.specs.FunctionNames.{is_empty}
use Rattle.c_scopes.specs.NodeViews.{parameters_of}
use Rattle.c_scopes.proofs.function_names.has_no_parameter.Given as goal

abbrev pub invariant-loop-x : goal.invariant-loop-x
invariant-loop-x l = is_empty (parameters_of (words_of l.words) (drop l.x-index l.nodes)) ≡ is_empty (parameters_of (words_of l.words) l.nodes)
