use Rattle.std.proofs.Common.{◌≡◌, ◌++◌, drop, map}
use Rattle.c_kinds.specs.Views.{env_of}
use Rattle.c_grammar.specs.ItemViews.{term_list_of}
use Rattle.c_grammar.specs.Views.{words_of}
use Rattle.c_statements.specs.Declarations.{value_at, value_faults, each_faults}
use Rattle.c_statements.proofs.initialisers.values.Given as goal

abbrev pub invariant-loop-x : goal.invariant-loop-x
invariant-loop-x l = record {
  value : l.out ++ map (value_at (env_of l.known)) (term_list_of (words_of l.known.words) (drop l.x-index l.parts)) ≡ map (value_at (env_of l.known))
      (term_list_of (words_of l.known.words) l.parts);
  faults : each_faults (value_faults (env_of l.known)) (term_list_of (words_of l.known.words) (drop l.x-index l.parts)) l.faults ≡ each_faults
      (value_faults (env_of l.known)) (term_list_of (words_of l.known.words) l.parts) l.initial.faults;
}
