use Rattle.std.proofs.Common.{◌≡◌, ℕ, pos, ◌+◌, ◌<◌, ◌≤◌, sym, ◌∙◌, arith, to_z}
use Rattle.std.specs.Int.{w128}
use Rattle.std.proofs.lemmas.Int.{to_z_pos}
use Rattle.inward_moves.proofs.FreeNumbers.{not_all_taken, taken_more, free_is}
use Rattle.inward_moves.proofs.numbers.free_number.Goals.{else-loop-m-test, then-loop-m-test+else-not-contains+else-m-end}
use Rattle.inward_moves.proofs.numbers.free_number.Goals as goal

small : (m n : ℕ) → n < 18446744073709551616 → m ≤ n → to_z w128 m ≡ pos m
small m n h k = to_z_pos w128 m (omega arith)

pub returns-then-not-contains : goal.returns-then-not-contains
returns-then-not-contains c =
    let m = c.loop-m.m in
    let xs = c.in_ok-numbers.numbers.items in
    free_is c.in_ok-taken.taken xs m _ (small m c.len-end.result c.len-end.type_inv c.loop-m-test.true)
    (rw c.as_slice.ensures.value at c.in_ok-taken.ensures) c.loop-m.invariant
    c.args.kind _ c.in_ok-numbers.ensures (sym c.contains.ensures ∙ c.if-not-contains.true)

pub loop-m-preserved : goal.loop-m-preserved
loop-m-preserved c =
    let m = c.loop-m.m in
    let xs = c.in_ok-numbers.numbers.items in
    taken_more c.in_ok-taken.taken xs m _ (small m c.len-end.result c.len-end.type_inv c.loop-m-test.true)
    (rw c.as_slice.ensures.value at c.in_ok-taken.ensures) c.loop-m.invariant
    (sym c.contains.ensures ∙ c.if-not-contains.false)

pub unreachable-requires : goal.unreachable-requires
unreachable-requires c =
    let m = c.loop-m.m in
    let xs = c.in_ok-numbers.numbers.items in
    elim c.loop-m-test.branch [
      | else-loop-m-test w ↦ not_all_taken m xs (let l = c.len-end.ensures in let h = w.loop-m-test in omega arith) c.loop-m.invariant
      | then-loop-m-test+else-not-contains+else-m-end w ↦
          not_all_taken (m + 1) xs (let l = c.len-end.ensures in let h = w.loop-m-test in omega arith)
          (taken_more c.in_ok-taken.taken xs m _ (small m c.len-end.result c.len-end.type_inv c.loop-m.auto.m-end)
          (rw c.as_slice.ensures.value at c.in_ok-taken.ensures) c.loop-m.invariant
          (sym w.contains.ensures ∙ w.if-not-contains.false))
    ]
