use Rattle.std.proofs.Common.{◌≡◌, ◌++◌, drop, Some, negsuc}
use Rattle.c_kinds.specs.Views.{env_of}
use Rattle.c_grammar.specs.Views.{words_of}
use Rattle.c_scopes.specs.Enums.{behind_enum, enum_items, enum_faults}
use Rattle.c_scopes.specs.NodeViews.{enumerators_of}
use Rattle.c_scopes.proofs.enums.read_enum.Given as goal

abbrev pub invariant-loop-x : goal.invariant-loop-x
invariant-loop-x l = record {
  words : l.known.words ≡ l.initial.known.words;
  env : behind_enum (enumerators_of (words_of l.initial.known.words) (drop l.x-index l.nodes)) l.before (env_of l.known) ≡ behind_enum
      (enumerators_of (words_of l.initial.known.words) l.nodes) (Some (negsuc 0)) (env_of l.initial.known);
  items : l.out ++ enum_items (enumerators_of (words_of l.initial.known.words) (drop l.x-index l.nodes)) l.before (env_of l.known) ≡ enum_items
      (enumerators_of (words_of l.initial.known.words) l.nodes) (Some (negsuc 0)) (env_of l.initial.known);
  faults : enum_faults (enumerators_of (words_of l.initial.known.words) (drop l.x-index l.nodes)) l.before (env_of l.known) l.faults ≡ enum_faults
      (enumerators_of (words_of l.initial.known.words) l.nodes) (Some (negsuc 0)) (env_of l.initial.known) l.initial.faults;
}
