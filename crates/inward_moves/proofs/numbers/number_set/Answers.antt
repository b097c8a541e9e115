use Rattle.std.proofs.Common.{None, get_or, take, sym, ap, ◌∙◌}
use Rattle.std.specs.BTreeSet.{contains}
use Rattle.std.specs.List.{list_any}
use Rattle.std.specs.Option.{option_cmp}
use Rattle.std.specs.Ordering.{int_cmp}
use Rattle.std.proofs.lemmas.List.{take_all}
use Rattle.std.proofs.lemmas.List.Folds.{list_any_more}
use Rattle.inward_moves.proofs.FreeNumbers.{same, set_more, set_is}
use Rattle.inward_moves.proofs.numbers.number_set.Goals as goal

pub loop-number-preserved : goal.loop-number-preserved
loop-number-preserved c = λ n.
    let i = c.loop-number.number-index in
    let xs = c.args.numbers.now in
    let had = contains (option_cmp int_cmp) c.loop-number.set n in
    let has = contains (option_cmp int_cmp) c.insert.new.self n in
    set_more (get_or xs i None) n had (list_any (same n) (take i xs)) has (c.in_ok-insert.ensures.updates.0 n) (c.loop-number.invariant n)
    ∙ sym (list_any_more (same n) xs i None c.loop-number-test.true)

pub returns : goal.returns
returns c = λ n. set_is _ n c.args.numbers.now (c.loop-number.invariant n ∙
    ap (list_any (same n)) (take_all c.loop-number.number-index c.args.numbers.now c.loop-number-test.false))
