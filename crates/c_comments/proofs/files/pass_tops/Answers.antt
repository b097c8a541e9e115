use Rattle.std.proofs.Common.{arith, subst, sym, ◌∙◌}
use Rattle.c_grammar.specs.Views.{words_of}
use Rattle.c_comments.specs.NodeViews.{tops_in}
use Rattle.c_comments.specs.Notes.{place_in}
use Rattle.c_comments.specs.Steps.{Leads}
use Rattle.c_comments.proofs.StepPlaces.{tops_step, tops_past}
use Rattle.c_comments.proofs.files.pass_tops.Goals as goal

pub returns-then-token-after-clause-leads : goal.returns-then-token-after-clause-leads
returns-then-token-after-clause-leads c =
    let word = words_of c.args.words.now in
    subst (Leads word (place_in (tops_in word c.args.tops.now)) c.args.token) (sym c.bounded.ensures)
    (tops_step word c.args.tops.now c.loop-i.i c.index-tops-i.result c.args.token c.top_after-after.result c.top_step.result c.loop-i-test.true
    c.index-tops-i.is c.if-token-after.true c.top_after-after.ensures
    c.loop-i.invariant.rest c.top_step.ensures)

pub loop-i-preserved : goal.loop-i-preserved
loop-i-preserved c =
    record {
      within = omega (arith, c.loop-i-test.true);
      rest =
          λ s l. tops_past (words_of c.args.words.now) c.args.tops.now c.loop-i.i c.index-tops-i.result c.args.token c.top_after-after.result
          c.loop-i-test.true c.index-tops-i.is c.if-token-after.false
          c.top_after-after.ensures s l
          ∙ c.loop-i.invariant.rest s l;
    }
