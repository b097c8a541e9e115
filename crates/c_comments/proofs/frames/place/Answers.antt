use Rattle.std.proofs.Common.{◌∙◌}
use Rattle.std.proofs.lemmas.Result.{IfOk-weaker}
use Rattle.c_grammar.specs.Views.{words_of}
use Rattle.c_comments.specs.Frames.{Speaks}
use Rattle.c_comments.specs.NodeViews.{tops_in}
use Rattle.c_comments.specs.Notes.{place_in}
use Rattle.c_comments.proofs.Entered.{taken, taken_holds, from_holds}
use Rattle.c_comments.proofs.frames.place.Goals as goal

pub descend-requires : goal.descend-requires
descend-requires c = taken_holds c.args.token c.args.walk.now.frames c.in-Some.frame c.leave.new.frames c.in-Some.ensures

pub returns-in-Some-clause-place : goal.returns-in-Some-clause-place
returns-in-Some-clause-place c =
    let word = words_of c.args.words.now in
    let file = place_in (tops_in word c.args.nodes.now) in
    let frame = c.in-Some.frame in
    let speaks = (taken (Speaks word file) c.args.token c.args.walk.now.frames frame c.leave.new.frames c.in-Some.ensures c.requires.1).0 in
    let at = from_holds c.args.token frame (taken_holds c.args.token c.args.walk.now.frames frame c.leave.new.frames c.in-Some.ensures) in
    IfOk-weaker c.descend.result _ _ (λ a is. is ∙ speaks c.args.token at.0 at.1) c.descend.ensures.place

pub returns-in-Some-clause-walk : goal.returns-in-Some-clause-walk
returns-in-Some-clause-walk c =
    let word = words_of c.args.words.now in
    let file = place_in (tops_in word c.args.nodes.now) in
    let both = taken (Speaks word file) c.args.token c.args.walk.now.frames c.in-Some.frame c.leave.new.frames c.in-Some.ensures c.requires.1 in
    IfOk-weaker c.descend.result _ _ (λ a frames. (c.requires.0, frames file both.0 both.1)) c.descend.ensures.frames
