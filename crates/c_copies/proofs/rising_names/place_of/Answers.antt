use Rattle.std.proofs.Common.{◌≡◌, ◌+◌, ◌-◌, ◌/◌, get_or, drop, ap, sym, subst, ◌∙◌, arith}
use Rattle.std.specs.declared.cmp.Ordering.TheVariants.{Less, Equal, Greater}
use Rattle.c_types.specs.Words.{name_cmp}
use Rattle.c_copies.proofs.Places.{AreAbove, below_it, above_it, with_name-gap, has_name-gap, with_name-at, has_name-at}
use Rattle.c_copies.proofs.rising_names.place_of.Goals as goal

pub loop-from-preserved-in-Less : goal.loop-from-preserved-in-Less
loop-from-preserved-in-Less c =
    let m = c.loop-from.from + (c.loop-from.to - c.loop-from.from) / 2 in
    let n = c.args.name.now in
    let x = c.index-names-middle.result in
    let less : name_cmp n (get_or c.args.names.now m x) ≡ Less = ap (name_cmp n) (sym (c.key.ensures ∙ c.index-names-middle.is)) ∙ sym c.cmp.ensures ∙
    c.in-Less.is in
    record {
      order = omega arith;
      within = omega arith;
      below = c.loop-from.invariant.below;
      above = above_it n c.args.names.now m x c.requires (omega arith) less;
    }

pub loop-from-preserved : goal.loop-from-preserved
loop-from-preserved c =
    let m = c.loop-from.from + (c.loop-from.to - c.loop-from.from) / 2 in
    let n = c.args.name.now in
    let x = c.index-names-middle.result in
    let above : name_cmp n (get_or c.args.names.now m x) ≡ Greater = ap (name_cmp n) (sym (c.key.ensures ∙ c.index-names-middle.is)) ∙ sym
    c.cmp.ensures ∙ c.in-Greater.is in
    record {
      order = omega arith;
      within = omega arith;
      below = below_it n c.args.names.now m x c.requires (omega arith) above;
      above = c.loop-from.invariant.above;
    }

pub returns-in-Equal-clause-has : goal.returns-in-Equal-clause-has
returns-in-Equal-clause-has c =
    let m = c.loop-from.from + (c.loop-from.to - c.loop-from.from) / 2 in
    let n = c.args.name.now in
    let x = c.index-names-middle.result in
    let same : name_cmp n (get_or c.args.names.now m x) ≡ Equal = ap (name_cmp n) (sym (c.key.ensures ∙ c.index-names-middle.is)) ∙ sym
    c.cmp.ensures ∙ c.in-Equal.is in
    sym (has_name-at n c.args.names.now m x (omega arith) same)

pub returns-in-Equal-clause-there : goal.returns-in-Equal-clause-there
returns-in-Equal-clause-there c =
    let m = c.loop-from.from + (c.loop-from.to - c.loop-from.from) / 2 in
    let n = c.args.name.now in
    let x = c.index-names-middle.result in
    let same : name_cmp n (get_or c.args.names.now m x) ≡ Equal = ap (name_cmp n) (sym (c.key.ensures ∙ c.index-names-middle.is)) ∙ sym
    c.cmp.ensures ∙ c.in-Equal.is in
    with_name-at n c.args.names.now m x c.requires (omega arith) same

pub returns-clause-has : goal.returns-clause-has
returns-clause-has c =
    let n = c.args.name.now in
    let met : c.loop-from.to ≡ c.loop-from.from = omega arith in
    sym (has_name-gap n c.args.names.now c.loop-from.from (omega arith) c.loop-from.invariant.below
    (subst (λ k. AreAbove n (drop k c.args.names.now)) met c.loop-from.invariant.above))

pub returns-clause-new : goal.returns-clause-new
returns-clause-new c =
    let n = c.args.name.now in
    let met : c.loop-from.to ≡ c.loop-from.from = omega arith in
    with_name-gap n c.args.names.now c.loop-from.from (omega arith) c.loop-from.invariant.below
    (subst (λ k. AreAbove n (drop k c.args.names.now)) met c.loop-from.invariant.above)
