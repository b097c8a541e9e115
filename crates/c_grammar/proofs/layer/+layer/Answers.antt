use Rattle.std.proofs.Common.{ap, sym, ◌∙◌}
use Rattle.c_grammar.specs.Parts.{is_token}
use Rattle.c_grammar.specs.declared.syntax.Syntax.{out-Syntax}
use Rattle.c_grammar.specs.Views.{words_of}
use Rattle.c_grammar.proofs.Layers.{brackets}
use Rattle.c_grammar.proofs.layer.+layer.Goals as goal

pub bracket_layer-returns-then-is_token-clause-form : goal.bracket_layer-returns-then-is_token-clause-form
bracket_layer-returns-then-is_token-clause-form t c =
    rw (← c.first.ensures, c.index-parts-0.is) (
    brackets (words_of c.args.words.now) c.args.parts.now c.index-parts-0.result c.index-parts-1.result c.requires
    (ap (λ x. is_token (out-Syntax x).rule) (sym c.index-parts-1.is) ∙ ap is_token c.rule.ensures ∙ sym c.is_token.ensures ∙ c.if-is_token.true))
