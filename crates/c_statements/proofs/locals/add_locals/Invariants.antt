use Rattle.std.proofs.Common.{◌≡◌, ◌++◌, drop}
use Rattle.c_grammar.specs.ItemViews.{declarators_of}
use Rattle.c_grammar.specs.Views.{words_of}
use Rattle.c_statements.specs.Declarations.{walk, all_declared, locals, locals_faults}
use Rattle.c_statements.proofs.locals.add_locals.Given as goal

abbrev pub invariant-loop-x : goal.invariant-loop-x
invariant-loop-x l = record {
  behind : all_declared (words_of l.words) l.kinded (declarators_of (words_of l.words) (drop l.x-index l.names)) (walk l.known.scopes l.slots)
      ≡ all_declared (words_of l.words) l.kinded (declarators_of (words_of l.words) l.names) (walk l.initial.known.scopes l.initial.slots);
  out : l.out ++ locals (words_of l.words) l.kinded (declarators_of (words_of l.words) (drop l.x-index l.names)) (walk l.known.scopes l.slots)
      ≡ l.initial.out ++ locals (words_of l.words) l.kinded (declarators_of (words_of l.words) l.names) (walk l.initial.known.scopes l.initial.slots);
  faults : locals_faults (words_of l.words) l.kinded (declarators_of (words_of l.words) (drop l.x-index l.names)) (walk l.known.scopes l.slots) l.faults
      ≡ locals_faults (words_of l.words) l.kinded (declarators_of (words_of l.words) l.names) (walk l.initial.known.scopes l.initial.slots) l.initial.faults;
}
