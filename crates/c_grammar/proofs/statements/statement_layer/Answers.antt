use Rattle.std.proofs.Common.{ap, ◌∙◌}
use Rattle.c_grammar.specs.Levels.{keeps_parts}
use Rattle.c_grammar.specs.Items as items
use Rattle.c_grammar.specs.Views.{words_of}
use Rattle.c_grammar.specs.declared.syntax.Syntax.{out-Syntax}
use Rattle.c_grammar.proofs.Items.{open_plain}
use Rattle.c_grammar.proofs.statements.statement_layer.Goals as goal

pub returns-in-Plain-clause-form : goal.returns-in-Plain-clause-form
returns-in-Plain-clause-form c =
    rw (open_plain (words_of c.args.words.now) c.args.x.now, c.rule.ensures, c.in-Plain.is, c.parts.ensures (ap keeps_parts (c.rule.ensures ∙ c.in-Plain.is)))
    (ap (λ s. items.From (out-Syntax c.args.x.now).first (out-Syntax c.args.x.now).after s) c.plain_layer.ensures.form)
