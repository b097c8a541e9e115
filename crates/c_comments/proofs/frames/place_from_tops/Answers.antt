use Rattle.std.proofs.Common.{sym, ap, ◌∙◌, arith, subst}
use Rattle.std.proofs.lemmas.Result.{IfOk-weaker}
use Rattle.c_grammar.specs.Views.{words_of}
use Rattle.c_comments.specs.Frames.{Speaks}
use Rattle.c_comments.specs.NodeViews.{tops_in}
use Rattle.c_comments.specs.Notes.{place_in}
use Rattle.c_comments.specs.Steps.{Behind, Leads}
use Rattle.c_comments.proofs.frames.place_from_tops.Goals.{then-walk-token, else-walk-token}
use Rattle.c_comments.proofs.frames.place_from_tops.Goals as goal

pub returns-in-Into-clause-walk : goal.returns-in-Into-clause-walk
returns-in-Into-clause-walk c =
    let word = words_of c.args.words.now in
    let file = place_in (tops_in word c.args.nodes.now) in
    let tops = c.if-walk-token.tops.now in
    let whole : Behind (place_in (tops_in word tops)) file c.args.token =
    elim c.if-walk-token.branch [
      | then-walk-token w ↦ λ s l. ap (λ r. place_in (tops_in word r.now) s) w.tops-is ∙ c.requires.0 s (omega (arith, l, w.if-walk-token.true))
      | else-walk-token w ↦ λ s l. ap (λ r. place_in (tops_in word r.now) s) w.tops-is
    ] in
    let step = subst (Leads word (place_in (tops_in word tops)) c.args.token) c.in-Into.is c.pass_tops-passed.ensures.leads in
    let speaks : Speaks word file (record { rest = c.in-Into.rest; from = c.args.token; to = c.in-Into.bound }) = λ s l u. sym (step.1 s l u) ∙ whole s l in
    IfOk-weaker c.descend.result _ _ (λ a frames. (λ s l. c.pass_tops-passed.ensures.tops s l ∙ whole s l, frames file speaks c.requires.1))
    c.descend.ensures.frames
