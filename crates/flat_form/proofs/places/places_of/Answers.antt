use Rattle.std.proofs.Common.{◌≡◌, take, ◌+◌, length, get_or, None, sym, ap, ◌∙◌, arith}
use Rattle.flat_form.proofs.PlaceLaws.{place_if, place_is, place_push}
use Rattle.flat_form.specs.Places.{with_place}
use Rattle.std.specs.Option.{option_map_or}
use Rattle.std.proofs.lemmas.List.{take_more, take_all, length-take-le}
use Rattle.flat_form.proofs.places.places_of.Goals as goal

pub loop-i-init : goal.loop-i-init
loop-i-init c = λ m. ap (λ z. get_or z m None) c.new-table.ensures

pub loop-i-preserved : goal.loop-i-preserved
loop-i-preserved c = λ m.
    let cs = c.args.codes.now in
    let i = c.loop-i.i in
    let x = get_or cs i 0 in
    c.in_ok-enter.ensures m ∙ ap (λ o. with_place o x i m) (c.loop-i.invariant m)
    ∙ sym (ap (λ z. place_if z m) (take_more cs i 0 c.loop-i-test.true) ∙ place_push (take i cs) x m ∙
    ap (λ n. with_place (place_if (take i cs) m) x n m) (length-take-le i cs (omega arith)))

pub returns : goal.returns
returns c = λ m.
    let cs = c.args.codes.now in
    let whole : take c.loop-i.i cs ≡ cs = take_all c.loop-i.i cs c.loop-i-test.false in
    ap (λ o. option_map_or (λ n. n) o (m + length cs)) (c.loop-i.invariant m ∙ ap (λ z. place_if z m) whole) ∙ place_is cs m
