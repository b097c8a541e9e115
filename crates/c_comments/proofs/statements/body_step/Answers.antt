use Rattle.std.proofs.Common.{subst, sym}
use Rattle.c_grammar.specs.Weights.{weight}
use Rattle.c_grammar.specs.Views.{words_of}
use Rattle.c_comments.specs.Notes.{body_place}
use Rattle.c_comments.specs.Steps.{Leads}
use Rattle.c_comments.proofs.statements.body_step.Goals as goal

pub returns-clause-leads : goal.returns-clause-leads
returns-clause-leads c = subst (λ b. Leads (words_of c.args.words.now) (body_place c.args.before b) c.args.token c.layer_step.result)
    (sym c.body_layer.ensures.form) c.layer_step.ensures.leads

pub returns-clause-smaller : goal.returns-clause-smaller
returns-clause-smaller c = c.layer_step.ensures.smaller (weight c.args.x.now) c.body_layer.ensures.smaller
