use Rattle.std.proofs.Common.{ℕ, ◌<◌, ◌≤◌, arith, subst, sym}
use Rattle.c_grammar.specs.ItemViews.{body_of}
use Rattle.c_grammar.specs.Views.{words_of}
use Rattle.c_statements.specs.declared.anchors.Anchor.{Anchor}
use Rattle.c_comments.specs.Notes.{body_place}
use Rattle.c_comments.specs.Steps.{Leads}
use Rattle.c_comments.proofs.StepPlaces.{leads_on, leads_within, ahead, not_ahead}
use Rattle.c_comments.proofs.statements.branch_step.Goals as goal

pub returns-then-token-ahead-clause-leads : goal.returns-then-token-ahead-clause-leads
returns-then-token-ahead-clause-leads c =
    let word = words_of c.args.words.now in
    let first = body_of word c.args.x.now in
    let second = body_of word c.args.other.now in
    let place : ℕ → Anchor = λ t. body_place (body_place c.args.before first t) second t in
    subst (Leads word place c.args.token) (sym c.bounded.ensures)
    (leads_within word place (body_place c.args.before first) c.args.token c.body_ahead-ahead.result c.body_step.result c.if-token-ahead.true
    (λ s l u. ahead (body_place c.args.before first s) second s (subst (λ n. s < n) c.body_ahead-ahead.ensures u)) c.body_step.ensures.leads)

pub returns-clause-leads : goal.returns-clause-leads
returns-clause-leads c =
    let word = words_of c.args.words.now in
    let first = body_of word c.args.x.now in
    let second = body_of word c.args.other.now in
    let place : ℕ → Anchor = λ t. body_place (body_place c.args.before first t) second t in
    leads_on word place (body_place c.args.before second) c.args.token c.body_step-2.result
    (λ s l. not_ahead (body_place c.args.before first s) c.args.before second s
    (subst (λ n. n ≤ s) c.body_ahead-ahead.ensures (omega (arith, l, c.if-token-ahead.false)))) c.body_step-2.ensures.leads
