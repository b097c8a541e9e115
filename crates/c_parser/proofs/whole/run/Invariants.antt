use Rattle.std.proofs.Common.{◌≡◌, ◌≤◌, ◌++◌, ◌∷◌, [], drop}
use Rattle.c_grammar.specs.declared.class.Class.TheVariants.{End}
use Rattle.c_grammar.specs.TokenClasses.{classes_of}
use Rattle.c_parser.specs.Answers as answers
use Rattle.c_parse_step.specs.Machine as spec
use Rattle.c_parser.proofs.whole.run.Given as goal

-- what is left goes on to what the whole text gives
abbrev pub invariant-loop-i : goal.invariant-loop-i
invariant-loop-i l = record {
  same : answers.parsed l.text l.tokens ≡ answers.answer l.text l.tokens (spec.run l.stack l.count l.i (classes_of l.text (drop l.i l.tokens) ++ End ∷ []));
  small : l.count ≤ 400;
}
