use Rattle.std.proofs.Common.{ap, sym, ◌∙◌, arith}
use Rattle.c_grammar.specs.Parts.{is_local}
use Rattle.c_grammar.specs.declared.syntax.Syntax.{out-Syntax}
use Rattle.c_grammar.specs.Views.{words_of}
use Rattle.c_grammar.proofs.Items.{local-behind}
use Rattle.c_grammar.proofs.statements.behind_start.Goals as goal

pub returns-then-is_local-clause-rest : goal.returns-then-is_local-clause-rest
returns-then-is_local-clause-rest c = local-behind (words_of c.args.words.now) c.args.parts.now c.index-parts-0.result (omega arith)
    (ap (λ x. is_local (out-Syntax x).rule) (sym c.index-parts-0.is) ∙ ap is_local c.rule.ensures ∙ sym c.is_local.ensures ∙ c.if-is_local.true)
