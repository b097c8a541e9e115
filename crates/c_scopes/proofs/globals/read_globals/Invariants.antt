use Rattle.std.proofs.Common.{◌≡◌, ◌++◌, drop}
use Rattle.c_kinds.specs.Views.{env_of}
use Rattle.c_grammar.specs.ItemViews.{declarators_of}
use Rattle.c_grammar.specs.Views.{words_of}
use Rattle.c_scopes.specs.Globals.{behind_globals, globals, globals_faults}
use Rattle.c_scopes.proofs.globals.read_globals.Given as goal

abbrev pub invariant-loop-x : goal.invariant-loop-x
invariant-loop-x l = record {
  words : l.known.words ≡ l.initial.known.words;
  env : behind_globals l.fn.kinded (declarators_of (words_of l.initial.known.words) (drop l.x-index l.nodes)) (env_of l.known) ≡ behind_globals
      l.fn.kinded (declarators_of (words_of l.initial.known.words) l.nodes) (env_of l.initial.known);
  out : l.out ++ globals l.fn.is_static l.fn.kinded (declarators_of (words_of l.initial.known.words) (drop l.x-index l.nodes))
      (env_of l.known) ≡ l.initial.out ++ globals l.fn.is_static l.fn.kinded (declarators_of (words_of l.initial.known.words) l.nodes) (env_of l.initial.known);
  faults : globals_faults l.fn.kinded (declarators_of (words_of l.initial.known.words) (drop l.x-index l.nodes)) (env_of l.known)
      l.faults ≡ globals_faults l.fn.kinded (declarators_of (words_of l.initial.known.words) l.nodes) (env_of l.initial.known) l.initial.faults;
}
