use Rattle.std.proofs.Common.{◌≡◌, ◌++◌, drop, map}
use Rattle.c_grammar.specs.Views.{words_of}
use Rattle.c_statements.specs.Functions.{want_of}
use Rattle.c_scopes.specs.NodeViews.{parameters_of}
use Rattle.c_scopes.proofs.signatures.wants_of.Given as goal

abbrev pub invariant-loop-x : goal.invariant-loop-x
invariant-loop-x l =
    l.wants ++ map (want_of (words_of l.words) l.fn.external) (parameters_of (words_of l.words) (drop l.x-index l.nodes))
    ≡ map (want_of (words_of l.words) l.fn.external) (parameters_of (words_of l.words) l.nodes)
