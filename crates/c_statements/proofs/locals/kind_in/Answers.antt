use Rattle.std.proofs.Common.{ap, sym, ◌∙◌}
use Rattle.c_grammar.specs.Views.{words_of}
use Rattle.c_grammar.specs.Words.{kind_of as the_kind}
use Rattle.c_statements.specs.Nodes.{type_words}
use Rattle.c_statements.proofs.locals.kind_in.Goals as goal

pub returns-in-Some : goal.returns-in-Some
returns-in-Some c = c.kind_of.ensures ∙ ap (λ n. the_kind (words_of c.args.words.now) (type_words (words_of c.args.words.now) n)) (sym c.in-Some.is)
