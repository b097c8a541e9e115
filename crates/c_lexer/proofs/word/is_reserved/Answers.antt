use Rattle.std.proofs.Common.{◌∙◌}
use Rattle.c_lexer.proofs.KeywordLemmas.{by_first_of}
use Rattle.c_lexer.proofs.word.is_reserved.Goals as goal

pub returns-in-Some : goal.returns-in-Some
returns-in-Some c = c.is_early.ensures ∙ by_first_of c.args.word.now _ c.in-Some.ensures.value
