use Rattle.std.proofs.Common.{All, refl, sym, subst, ◌∙◌, true≢false, arith}
use Rattle.std.proofs.lemmas.List.Elements.{All-more}
use Rattle.print_limits.specs.Limits.{TopIsWithin}
use Rattle.print_limits.proofs.Measures.{taken, not_all}
use Rattle.print_limits.proofs.tops.are_tops_within.Goals as goal

pub returns-then-not-is_top_within : goal.returns-then-not-is_top_within
returns-then-not-is_top_within c = not_all TopIsWithin c.args.tops.now c.loop-i.i c.index-tops-i.result c.loop-i-test.true c.index-tops-i.is
    (λ f. true≢false (sym (c.is_top_within.ensures.1 f) ∙ c.if-not-is_top_within.true))

pub loop-i-preserved : goal.loop-i-preserved
loop-i-preserved c = All-more TopIsWithin c.args.tops.now c.loop-i.i c.index-tops-i.result c.loop-i-test.true c.loop-i.invariant
    (subst TopIsWithin c.index-tops-i.is (c.is_top_within.ensures.0 c.if-not-is_top_within.false))

pub returns : goal.returns
returns c = ((λ t. subst (All TopIsWithin) (taken c.args.tops.now c.loop-i.i (omega (arith, c.loop-i-test.false))) c.loop-i.invariant), λ a. refl)
