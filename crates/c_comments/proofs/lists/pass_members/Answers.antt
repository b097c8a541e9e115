use Rattle.std.proofs.Common.{arith, ap, subst, sym, ◌∙◌, drop, ◌+◌}
use Rattle.c_grammar.specs.Weights.{weights}
use Rattle.c_grammar.specs.Views.{words_of}
use Rattle.c_statements.specs.Nodes.{items_of}
use Rattle.c_comments.specs.Notes.{members_place}
use Rattle.c_comments.specs.Steps.{Leads, IsBelow}
use Rattle.c_comments.proofs.StepPlaces.{members_step, switch_past, below_node}
use Rattle.c_comments.proofs.lists.pass_members.Goals as goal

pub returns-then-ends_behind-clause-leads : goal.returns-then-ends_behind-clause-leads
returns-then-ends_behind-clause-leads c =
    let word = words_of c.args.words.now in
    subst (Leads word (members_place c.args.had_begun c.args.switch c.args.first (items_of word c.args.items.now)) c.args.token) (sym c.bounded.ensures)
    (members_step word c.loop-i.begun c.args.had_begun c.args.switch c.args.first c.args.items.now c.loop-i.i c.index-items-i.result c.args.token
    c.item_after.result c.member_step.result c.loop-i-test.true c.index-items-i.is
    (sym c.ends_behind.ensures ∙ c.if-ends_behind.true) c.item_after.ensures c.loop-i.invariant.rest c.member_step.ensures.leads)

pub returns-then-ends_behind-clause-smaller : goal.returns-then-ends_behind-clause-smaller
returns-then-ends_behind-clause-smaller c =
    subst (IsBelow (weights c.args.items.now)) (sym c.bounded.ensures)
    (below_node c.args.items.now c.loop-i.i c.index-items-i.result c.item_after.result c.member_step.result c.loop-i-test.true c.index-items-i.is
    c.member_step.ensures.smaller)

pub loop-i-preserved : goal.loop-i-preserved
loop-i-preserved c =
    let word = words_of c.args.words.now in
    record {
      within = omega (arith, c.loop-i-test.true);
      rest =
          λ s l. ap (λ b. members_place b c.args.switch c.args.first (items_of word (drop (c.loop-i.i + 1) c.args.items.now)) s) c.has_begun-begun.ensures
          ∙ switch_past word c.loop-i.begun c.args.switch c.args.first c.args.items.now c.loop-i.i c.index-items-i.result c.args.token
          c.loop-i-test.true c.index-items-i.is
          (sym c.ends_behind.ensures ∙ c.if-ends_behind.false) s l
          ∙ c.loop-i.invariant.rest s l;
    }
