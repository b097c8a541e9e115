use Rattle.std.proofs.Common.{ℕ, ap, sym, ◌∙◌}
use Rattle.c_grammar.specs.ItemViews.{labels_of, plain_of}
use Rattle.c_grammar.specs.Views.{words_of}
use Rattle.c_statements.specs.declared.anchors.Anchor.{Anchor}
use Rattle.c_comments.specs.Notes.{or_behind, plain_place}
use Rattle.c_comments.specs.Steps.{place_in_labels}
use Rattle.c_comments.proofs.StepPlaces.{leads_on, labels_none}
use Rattle.c_comments.proofs.lists.pass_labels.Goals as goal

pub returns-clause-leads : goal.returns-clause-leads
returns-clause-leads c =
    let word = words_of c.args.words.now in
    let p = plain_of word c.args.plain.now in
    let place : ℕ → Anchor = λ t. or_behind (place_in_labels c.args.section (labels_of word c.args.labels.now) t) (plain_place p t) in
    leads_on word place (plain_place p) c.args.token c.plain_step.result
    (λ s l. ap (λ o. or_behind o (plain_place p s)) (sym (c.loop-i.invariant.rest s l) ∙
    labels_none word c.args.section c.args.labels.now c.loop-i.i s c.loop-i-test.false)) c.plain_step.ensures.leads
