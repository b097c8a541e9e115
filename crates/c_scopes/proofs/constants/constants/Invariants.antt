use Rattle.std.proofs.Common.{◌≡◌, ◌++◌, drop, map}
use Rattle.c_kinds.specs.Typing.{constant_faults}
use Rattle.c_kinds.specs.Views.{env_of}
use Rattle.c_grammar.specs.ItemViews.{term_list_of}
use Rattle.c_grammar.specs.Views.{words_of}
use Rattle.c_statements.specs.Declarations.{constant_at, each_faults}
use Rattle.c_scopes.proofs.constants.constants.Given as goal

abbrev pub invariant-loop-x : goal.invariant-loop-x
invariant-loop-x l = record {
  value : l.out ++ map (constant_at (env_of l.known)) (term_list_of (words_of l.known.words) (drop l.x-index l.parts)) ≡ map
      (constant_at (env_of l.known)) (term_list_of (words_of l.known.words) l.parts);
  faults : each_faults (constant_faults (env_of l.known)) (term_list_of (words_of l.known.words) (drop l.x-index l.parts)) l.faults ≡ each_faults
      (constant_faults (env_of l.known)) (term_list_of (words_of l.known.words) l.parts) l.initial.faults;
}
