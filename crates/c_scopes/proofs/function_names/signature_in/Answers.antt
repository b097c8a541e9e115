use Rattle.std.proofs.Common.{◌≡◌, not, ap, ◌∙◌, subst, IfOk}
use Rattle.c_grammar.specs.TopViews.{function_form}
use Rattle.c_grammar.specs.Views.{words_of}
use Rattle.c_statements.specs.Functions.{signature}
use Rattle.c_scopes.specs.FunctionNames.{has_function}
use Rattle.c_scopes.proofs.function_names.signature_in.Goals as goal

pub returns : goal.returns
returns c =
    let e : not c.has-external.result ≡ not (has_function c.args.bodies.now (words_of c.args.words.now c.args.f.name)) =
    ap not (c.has-external.ensures ∙ ap (has_function c.args.bodies.now) c.get.ensures) in
    subst (λ b. IfOk c.signature.result (λ s. s ≡ signature (words_of c.args.words.now) b (function_form (words_of c.args.words.now) c.args.f))) e
    c.signature.ensures
