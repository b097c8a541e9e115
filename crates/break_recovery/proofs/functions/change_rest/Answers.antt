use Rattle.std.proofs.Common.{◌≡◌, ◌-◌, [], true, length, reverse, refl, sym, ap, subst, ◌∙◌, arith}
use Rattle.std.proofs.lemmas.List.{length-set}
use Rattle.c_tree.specs.Trees.{trees_of}
use Rattle.c_tree.specs.Views.{tree_at}
use Rattle.jump_meaning.specs.Code.{FunctionTree, function_tree}
use Rattle.tidy_loops.specs.Slots.{Tells}
use Rattle.break_recovery.specs.Ends.{with_body, WentOnBy}
use Rattle.break_recovery.specs.Places.{behind, AreQuiet}
use Rattle.break_recovery.specs.Ways.{IsWayAt, IsAhead}
use Rattle.break_recovery.specs.Starts.{IsStart}
use Rattle.break_recovery.specs.Fronts.{holds_none}
use Rattle.break_recovery.proofs.Likeness.{empty_back}
use Rattle.break_recovery.proofs.RowsWithin.{RowOfItem}
use Rattle.break_recovery.proofs.Rests.{first_there, none_went, rest_went, rest_starts}
use Rattle.tidy_loops.specs.Slots.{count_in}
use Rattle.break_recovery.specs.Within.{AreWithin}
use Rattle.break_recovery.proofs.Steps.{entry_is}
use Rattle.break_recovery.proofs.Within.{in_apart}
use Rattle.break_recovery.proofs.functions.change_rest.Goals as goal

pub returns-then-not-first : goal.returns-then-not-first
returns-then-not-first c = record {
  went = λ f s d. none_went c.args.gone.now c.args.counts.now (with_body f c.args.list.now);
  start = λ f n s u i d. (i, d);
}

pub returns-then-not-goes_in : goal.returns-then-not-goes_in
returns-then-not-goes_in c = record {
  went = λ f s d. none_went c.args.gone.now c.args.counts.now (with_body f c.args.list.now);
  start = λ f n s u i d. (i, d);
}

pub returns : goal.returns
returns c =
    let xs = c.args.list.now in
    let k = c.args.start.now.from in
    let v = reverse c.args.way.now in
    let w = reverse c.change_on_in.new.way in
    let x = c.at_mut.result.now in
    let y = c.change_on_in.new.item in
    let zs = c.undeclare_all.new.list in
    let s = c.change_on_in.new.counts in
    let gs = c.in_ok-slots.slots in
    let yes = c.if-not-goes_in.false in
    let sure = c.goes_in.ensures.sure yes in
    let there = c.goes_in.ensures.there yes in
    let e = c.at_mut.ensures.value in
    let plain = ap holds_none (sym (first_there xs k x there.0 e)) ∙ there.1 in
    let q = subst (λ z. RowOfItem 2 c.args.counts.now s gs v w (tree_at z) (tree_at y)) c.get_mut.ensures.value c.in_ok-slots.ensures in
    let ahead : IsStart c.args.counts.now c.args.start.now c.args.sure v (trees_of xs) → (f : FunctionTree) → Tells c.args.counts.now f →
    AreQuiet f 2 k (trees_of xs) × IsWayAt true f 2 v (behind k (trees_of xs)) = λ i f t. (
      c.goes_in.ensures.quiet yes f 2 (i f t).0,
      subst (λ b. IsWayAt b f 2 v (behind k (trees_of xs))) sure.0 (i f t).1,
    ) in
    let o : v ≡ [] → ⊥ = λ e. sure.1 (empty_back c.args.way.now e) in
    let first = c.if-not-first.false in
    let i = length-set xs k y in
    let from : c.saturating_sub-from.result ≡ k - (length xs - length zs) = omega
    (arith, c.saturating_sub-from.ensures, c.saturating_sub.ensures, c.len-before.ensures.value, c.len-after.ensures.value, i) in
    record {
      went = λ f i d. subst (λ m. WentOnBy m c.args.gone.now c.args.counts.now (with_body f xs) c.undeclare_all.new.gone s (with_body f zs))
          (sym c.len-count.ensures.value)
          (rest_went c.args.counts.now s gs v w k xs zs x y there.0 e q c.undeclare_all.ensures.gone (ahead i) plain o (d first) c.requires c.args.gone.now
          c.undeclare_all.new.gone f c.undeclare_all.ensures.marked);
      start = λ f n start u i d.
          let r = rest_starts c.args.counts.now s gs v w k xs zs x y there.0 e q c.undeclare_all.ensures.gone (ahead i) plain o (d first) c.requires n start
          c.args.gone.now (function_tree (with_body f xs)) c.saturating_sub-from.result refl u from in (
            λ g t. subst (λ b. IsAhead b g 2 c.saturating_sub-from.result c.saturating_sub-from.result w (trees_of zs)) (sym sure.0) (r.0 g t),
            λ b. r.1,
          );
    }

pub change_on_in-requires : goal.change_on_in-requires
change_on_in-requires c =
    let xs = c.args.list.now in
    let x = c.at_mut.result.now in
    let there = c.goes_in.ensures.there c.if-not-goes_in.false in
    subst (λ z. AreWithin (count_in c.args.counts.now) (tree_at z)) (sym c.get_mut.ensures.value)
    (in_apart (count_in c.args.counts.now) xs c.args.start.now.from x there.0 (entry_is xs c.args.start.now.from x c.at_mut.ensures.value) c.requires)
