use Rattle.std.proofs.Common.{◌+◌, ◌-◌, ◌&&◌, length, drop, sym, ap, ◌∙◌, arith}
use Rattle.c_tree.specs.Trees.{trees_of}
use Rattle.tidy_laws.specs.Tails.{is_end}
use Rattle.tidy_loops.proofs.Ends.{last_only, last_two}
use Rattle.tidy_loops.proofs.tails.first_at_tail.Goals as goal

pub returns-then-length-eq1 : goal.returns-then-length-eq1
returns-then-length-eq1 c =
    let g = c.args.slot in
    let xs = c.args.items.now in
    let n = c.if-length-eq1.true in
    λ i l. last_only g xs 0 (omega (arith, n)) (λ q e. absurd (omega (arith, e, n))) i l ∙
    sym (ap (λ b. b && is_end g (trees_of (drop (i + 1) xs))) c.if-not-tail.false)

pub returns-then-is_last : goal.returns-then-is_last
returns-then-is_last c =
    let g = c.args.slot in
    let xs = c.args.items.now in
    let m = c.if-length-eq0.false in
    let n = c.if-length-eq1.false in
    λ i l. last_two g xs (length xs - 2) (omega (arith, m, n)) (sym c.if-is_last.true ∙ c.is_last.ensures) i l ∙
    sym (ap (λ b. b && is_end g (trees_of (drop (i + 1) xs))) c.if-not-tail.false)

pub returns : goal.returns
returns c =
    let g = c.args.slot in
    let xs = c.args.items.now in
    let m = c.if-length-eq0.false in
    let n = c.if-length-eq1.false in
    λ i l. last_only g xs (length xs - 1) (omega (arith, m))
    (λ q e. sym c.if-is_last.false ∙ c.is_last.ensures ∙ ap (λ z. is_end g (trees_of (drop (z + 1) xs))) (omega (arith, e))) i l ∙
    sym (ap (λ b. b && is_end g (trees_of (drop (i + 1) xs))) c.if-not-tail.false)
