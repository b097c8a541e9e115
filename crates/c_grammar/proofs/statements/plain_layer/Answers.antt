use Rattle.std.proofs.Common.{ap, sym, ◌∙◌, arith}
use Rattle.c_grammar.specs.Parts.{is_token}
use Rattle.c_grammar.specs.declared.syntax.Syntax.{out-Syntax}
use Rattle.c_grammar.specs.Views.{words_of}
use Rattle.c_grammar.proofs.Items.{keyword-statement}
use Rattle.c_grammar.proofs.statements.plain_layer.Goals as goal

pub returns-then-is_token-clause-form : goal.returns-then-is_token-clause-form
returns-then-is_token-clause-form c =
    keyword-statement (words_of c.args.words.now) c.args.parts.now c.index-parts-0.result (omega arith)
    (ap (λ x. is_token (out-Syntax x).rule) (sym c.index-parts-0.is) ∙ ap is_token c.rule.ensures ∙ sym c.is_token.ensures ∙ c.if-is_token.true)
    ∙ rw (← c.first_at.ensures, ← c.get.ensures, ← c.keyword_class-class.ensures) c.keyword_layer.ensures.form
