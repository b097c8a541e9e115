use Rattle.std.proofs.Common.{subst, sym}
use Rattle.c_grammar.specs.ItemViews.{body_form}
use Rattle.c_grammar.specs.Views.{words_of}
use Rattle.c_comments.specs.Notes.{body_place}
use Rattle.c_comments.specs.Steps.{Leads}
use Rattle.c_comments.proofs.statements.layer_step.Goals as goal

pub returns-in-Braces-clause-leads : goal.returns-in-Braces-clause-leads
returns-in-Braces-clause-leads c =
    let word = words_of c.args.words.now in
    subst (λ b. Leads word (body_place c.args.before (body_form word b)) c.args.token c.block_step.result) (sym c.in-Braces.is)
    (c.block_step.ensures.leads word)

pub returns-in-Lone-clause-leads : goal.returns-in-Lone-clause-leads
returns-in-Lone-clause-leads c =
    let word = words_of c.args.words.now in
    subst (λ b. Leads word (body_place c.args.before (body_form word b)) c.args.token c.lone_step.result) (sym c.in-Lone.is) c.lone_step.ensures.leads
