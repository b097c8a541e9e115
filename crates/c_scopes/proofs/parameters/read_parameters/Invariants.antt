use Rattle.std.proofs.Common.{◌≡◌, drop}
use Rattle.c_bodies.specs.Views.{walk_of}
use Rattle.c_grammar.specs.Views.{words_of}
use Rattle.c_statements.specs.Functions.{bind_parameters, parameters_faults}
use Rattle.c_scopes.specs.NodeViews.{parameters_of}
use Rattle.c_scopes.proofs.parameters.read_parameters.Given as goal

abbrev pub invariant-loop-x : goal.invariant-loop-x
invariant-loop-x l = record {
  words : l.state.known.words ≡ l.initial.state.known.words;
  walk : bind_parameters (words_of l.initial.state.known.words) (parameters_of (words_of l.initial.state.known.words) (drop l.x-index l.nodes))
      (walk_of l.state) ≡ bind_parameters (words_of l.initial.state.known.words) (parameters_of (words_of l.initial.state.known.words) l.nodes)
      (walk_of l.initial.state);
  faults : parameters_faults (words_of l.initial.state.known.words) l.fn.defines
      (parameters_of (words_of l.initial.state.known.words) (drop l.x-index l.nodes)) (walk_of l.state) l.state.faults ≡ parameters_faults
      (words_of l.initial.state.known.words) l.fn.defines (parameters_of (words_of l.initial.state.known.words) l.nodes) (walk_of l.initial.state)
      l.initial.state.faults;
}
