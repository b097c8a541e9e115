use Rattle.std.proofs.Common.{◌≡◌, sym, subst, ◌∙◌}
use Rattle.flat_names.specs.Gathered.{all_used}
use Rattle.flat_names.specs.Numbers.{IsUsedBelow, AreUsedBelow}
use Rattle.flat_names.proofs.UsedBelow.{next_of, number_kept}
use Rattle.flat_names.proofs.numbers.fresh_beside.Goals as goal

pub free_from-requires-clause-first : goal.free_from-requires-clause-first
free_from-requires-clause-first c =
    let us = all_used c.args.used.now in
    let next = next_of us c.args.base.now c.as_bytes-key.result.now c.args.numbers.now c.next-start.result
    (c.as_bytes-key.ensures.value ∙ c.as_str-then-contains.ensures) c.next-start.ensures c.requires in
    next.0

pub free_from-requires-clause-used : goal.free_from-requires-clause-used
free_from-requires-clause-used c =
    let us = all_used c.args.used.now in
    let next = next_of us c.args.base.now c.as_bytes-key.result.now c.args.numbers.now c.next-start.result
    (c.as_bytes-key.ensures.value ∙ c.as_str-then-contains.ensures) c.next-start.ensures c.requires in
    subst (λ b. IsUsedBelow us b c.next-start.result) (sym c.as_str-then-contains-2.ensures) next.1

pub returns-in_ok-put-clause-numbers : goal.returns-in_ok-put-clause-numbers
returns-in_ok-put-clause-numbers c =
    let us = all_used c.args.used.now in
    let key : c.as_str-then-contains-2.result.now ≡ c.as_bytes-key.result.now =
    c.as_str-then-contains-2.ensures ∙ sym (c.as_bytes-key.ensures.value ∙ c.as_str-then-contains.ensures) in
    subst (AreUsedBelow us) (sym c.in_ok-put.ensures)
    (number_kept us c.as_bytes-key.result.now c.in_ok-name.number c.args.numbers.now c.requires
    (c.in_ok-name.ensures.first, subst (λ b. IsUsedBelow us b c.in_ok-name.number) key c.in_ok-name.ensures.used))
