use Rattle.std.proofs.Common.{◌≡◌, ◌<◌, ◌≤◌, ℕ, arith, subst, sym, ◌∙◌, All}
use Rattle.std.proofs.lemmas.List.Elements.{All-cons}
use Rattle.c_grammar.specs.Views.{words_of}
use Rattle.c_comments.specs.Frames.{Speaks}
use Rattle.c_comments.specs.Steps.{Leads, rest_place}
use Rattle.c_comments.specs.declared.frames.Frame.{Frame}
use Rattle.c_comments.proofs.Entered.{still, inner}
use Rattle.c_comments.proofs.frames.descend.Goals as goal

pub loop-place-preserved : goal.loop-place-preserved
loop-place-preserved c =
    let word = words_of c.args.words.now in
    let frame : Frame = c.loop-place.frame in
    let passed : Frame = record { rest = c.pass-passed.result.rest; from = c.args.token; to = frame.to } in
    let step = subst (Leads word (rest_place word frame.rest) c.args.token) c.in-Into.is c.pass-passed.ensures.leads in
    let bound = sym c.min.ensures in
    record {
      from = omega arith;
      to = subst (λ n. c.args.token < n) bound (omega (arith, step.0, c.loop-place.invariant.to));
      here = sym (step.1 c.args.token (omega arith) step.0) ∙ c.loop-place.invariant.here;
      frames =
          λ place p all.
          let both = c.loop-place.invariant.frames place p all in (
            subst (λ n. (t : ℕ) → c.args.token ≤ t → t < n → rest_place word c.in-Into.rest t ≡ place t) bound
                (inner word place frame c.in-Into.rest c.args.token c.in-Into.bound c.loop-place.invariant.from step.1 both.0),
            subst (All (Speaks word place)) (sym c.in_ok-push.ensures.ok)
                (All-cons (Speaks word place) passed c.loop-place.frames
                (still word place frame c.pass-passed.result.rest c.args.token c.loop-place.invariant.from c.pass-passed.ensures.rest both.0) both.1),
          );
    }
