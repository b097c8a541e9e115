use Rattle.std.proofs.Common.{rules, ◌≡◌, get_or, ◌∙◌}
use Rattle.c_grammar.specs.DecodingSteps.{decoded}
use Rattle.c_grammar.proofs.DecodedSteps.{character_decoded}
use Rattle.c_grammar.proofs.decode.character.Goals as goal

pub returns-in-Some : goal.returns-in-Some
returns-in-Some c = let h : c.in-Some.byte.now ≡ get_or (decoded c.args.word.now) 0 0 = search rules in h ∙ character_decoded c.args.word.now

pub returns : goal.returns
returns c = let h : 0 ≡ get_or (decoded c.args.word.now) 0 0 = search rules in h ∙ character_decoded c.args.word.now
