use Rattle.std.proofs.Common.{All, refl, sym, subst, ◌∙◌, true≢false, arith}
use Rattle.std.proofs.lemmas.List.Elements.{All-more}
use Rattle.print_limits.specs.Limits.{EnumItemIsWithin}
use Rattle.print_limits.proofs.Measures.{taken, not_all}
use Rattle.print_limits.proofs.tops.is_enum_within.Goals as goal

pub returns-then-not-is_short_constant : goal.returns-then-not-is_short_constant
returns-then-not-is_short_constant c = not_all EnumItemIsWithin c.args.items.now c.loop-i.i c.index-items-i.result c.loop-i-test.true
    c.index-items-i.is (λ f. true≢false (sym (c.is_short_constant.ensures.1 (subst EnumItemIsWithin c.index-items-i.is f)) ∙ c.if-not-is_short_constant.true))

pub loop-i-preserved : goal.loop-i-preserved
loop-i-preserved c = All-more EnumItemIsWithin c.args.items.now c.loop-i.i c.index-items-i.result c.loop-i-test.true c.loop-i.invariant
    (c.is_short_constant.ensures.0 c.if-not-is_short_constant.false)

pub returns : goal.returns
returns c = ((λ t. subst (All EnumItemIsWithin) (taken c.args.items.now c.loop-i.i (omega (arith, c.loop-i-test.false))) c.loop-i.invariant), λ a. refl)
