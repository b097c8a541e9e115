use Rattle.std.proofs.Common.{◌≡◌, ◌+◌, ◌-◌, length, get_or, take, ap, sym, subst, ◌∙◌, arith}
use Rattle.std.specs.declared.cmp.Ordering.TheVariants.{Greater}
use Rattle.std.proofs.Math.Seq.{drop-length}
use Rattle.c_types.specs.Words.{name_cmp}
use Rattle.c_copies.proofs.Places.{AreBelow, AreAbove, below_it, with_name-gap}
use Rattle.c_copies.proofs.rising_names.comes_last.Goals as goal

pub returns-in-Greater : goal.returns-in-Greater
returns-in-Greater c _ =
    let xs = c.args.names.now in
    let n = c.args.name.now in
    let x = c.index-names-end.result in
    let more : name_cmp n (get_or xs (length xs - 1) x) ≡ Greater = ap (name_cmp n) (sym (c.key.ensures ∙ c.index-names-end.is)) ∙ sym c.cmp.ensures ∙
    c.in-Greater.is in
    let end : length xs - 1 + 1 ≡ length xs = omega arith in
    with_name-gap n xs (length xs) (omega arith) (subst (λ k. AreBelow n (take k xs)) end (below_it n xs (length xs - 1) x c.requires (omega arith) more))
    (subst (AreAbove n) (sym (drop-length xs)) tt)
