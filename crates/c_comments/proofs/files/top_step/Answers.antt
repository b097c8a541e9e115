use Rattle.std.proofs.Common.{ap, ◌∙◌}
use Rattle.c_grammar.specs.declared.syntax.Syntax.{out-Syntax}
use Rattle.c_grammar.specs.declared.tops.TopLayer.TheVariants as layer
use Rattle.c_grammar.specs.Tops as tops
use Rattle.c_grammar.specs.TopViews.{top_of, top_form}
use Rattle.c_grammar.specs.Views.{words_of}
use Rattle.c_comments.specs.Notes.{top_place, form_place}
use Rattle.c_comments.proofs.StepPlaces.{leads_on, at_top}
use Rattle.c_comments.proofs.files.top_step.Goals as goal

pub returns-in-Defines : goal.returns-in-Defines
returns-in-Defines c =
    let word = words_of c.args.words.now in
    let x = out-Syntax c.args.x.now in
    let form = top_form word (layer.Defines c.in-Defines.f) in
    leads_on word (top_place (top_of word c.args.x.now)) (form_place c.first-first.result form) c.args.token c.function_step.result
    (at_top (top_of word c.args.x.now) c.first-first.result x.after form c.args.token
    (c.in-Defines.ensures ∙ ap (λ n. tops.From n x.after form) c.first-first.ensures) c.if-token-first.false)
    c.function_step.ensures
