use Rattle.std.proofs.Common.{◌≡◌, ◌<◌, length, get_or, sym, ap, ◌∙◌, arith}
use Rattle.c_tree.specs.Views.{tree_at}
use Rattle.break_recovery.specs.Fronts.{holds_none}
use Rattle.break_recovery.proofs.Rests.{first_there}
use Rattle.break_recovery.proofs.Walks.{slice_there}
use Rattle.break_recovery.proofs.functions.goes_in.Goals as goal

pub returns : goal.returns
returns c =
    let xs = c.args.list.now in
    let k = c.args.start.from in
    let x = c.index-as_slice-start.result in
    let i : x ≡ get_or xs k x = c.index-as_slice-start.is ∙ ap (λ z. get_or z k x) c.as_slice.ensures.value in
    let h : k < length xs = omega (arith, c.if-start-len.false, c.len.ensures.value) in
    record {
      sure = λ e. c.was_asked.ensures c.if-not-was_asked.false;
      there = λ e. (
        h,
        ap holds_none (first_there xs k x h (slice_there xs k x h i)) ∙ ap (λ z. holds_none (tree_at z)) (sym c.get.ensures) ∙
            sym c.holds_none.ensures ∙ c.if-holds_none.false,
      );
      quiet = c.is_doubtless.ensures;
    }
