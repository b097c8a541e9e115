use Rattle.std.proofs.Common.{◌≡◌, suc, refl, subst, ap, replicate, reverse, true, false, ◌∙◌, arith}
use Rattle.c_tree.specs.Trees.{trees_of}
use Rattle.jump_meaning.specs.Code.{function_tree}
use Rattle.break_recovery.proofs.WaysSearched.{no_way}
use Rattle.break_recovery.specs.Fronts.{DeclaresFirst}
use Rattle.break_recovery.specs.Ends.{with_body, WentOn}
use Rattle.break_recovery.proofs.Numbered.{going, goes, goes_by, fewer_by, all_made}
use Rattle.break_recovery.proofs.Within.{outermost_apart}
use Rattle.break_recovery.proofs.functions.change_boxes.Goals as goal

pub changes-init : goal.changes-init
changes-init c = (
  going (with_body c.args.function.now c.args.list.now) c.in_ok-gone.gone c.args.counts
      (c.in_ok-gone.ensures ∙ ap (λ n. replicate n false) c.len.ensures.value) c.requires,
  (
    λ h t. (λ j i p. absurd (omega (arith, i)), no_way true h 2 (reverse c.new-way.result) (trees_of c.args.list.now) (ap reverse c.new-way.ensures)),
    c.declares_first-first.ensures,
  ),
)

pub changes-smaller : goal.changes-smaller
changes-smaller c =
    let f = c.args.function.now in
    let h = with_body f c.changes.list in
    let k = with_body f c.change_once.new.list in
    let z = with_body f c.change_rest.new.list in
    let i = c.changes.invariant in
    let t = i.0.underway.told in
    let w = subst (λ b. WentOn b c.changes.gone c.changes.counts h c.change_once.new.gone c.change_once.new.counts k) c.if-branch.true
    (c.in_ok-change_once.ensures.went f i.1.0) in
    fewer_by c.changes.count c.in_ok-more.more (with_body f c.args.list.now) c.changes.gone c.change_once.new.gone c.change_rest.new.gone
    c.changes.counts c.change_once.new.counts c.change_rest.new.counts h k z w
    (c.in_ok-more.ensures.went f (c.in_ok-change_once.ensures.start c.if-branch.true f t i.1.0)
    (λ e. c.in_ok-change_once.ensures.first f t i.1.0 (i.1.1 e))) i.0

pub changes-preserved : goal.changes-preserved
changes-preserved c =
    let f = c.args.function.now in
    let h = with_body f c.changes.list in
    let k = with_body f c.change_once.new.list in
    let z = with_body f c.change_rest.new.list in
    let i = c.changes.invariant in
    let t = i.0.underway.told in
    let w = subst (λ b. WentOn b c.changes.gone c.changes.counts h c.change_once.new.gone c.change_once.new.counts k) c.if-branch.true
    (c.in_ok-change_once.ensures.went f i.1.0) in
    let s = c.in_ok-change_once.ensures.start c.if-branch.true f t i.1.0 in
    let d : c.declares_first-first.result ≡ true →
    DeclaresFirst (trees_of c.change_once.new.list) = λ e. c.in_ok-change_once.ensures.first f t i.1.0 (i.1.1 e) in
    let g = goes c.changes.count (suc c.changes.count) (with_body f c.args.list.now) c.changes.gone c.change_once.new.gone c.changes.counts
    c.change_once.new.counts h k refl w i.0 in (
      goes_by c.changes.count c.in_ok-more.more c.in_ok-count.count (with_body f c.args.list.now) c.changes.gone c.change_once.new.gone
          c.change_rest.new.gone c.changes.counts c.change_once.new.counts c.change_rest.new.counts h k z c.in_ok-count.ensures w
          (c.in_ok-more.ensures.went f s d) i.0,
      c.in_ok-more.ensures.start f (suc c.changes.count) (function_tree (with_body f c.args.list.now)) g.underway s d,
    )

pub returns : goal.returns
returns c =
    let f = c.args.function.now in
    let h = with_body f c.changes.list in
    let k = with_body f c.change_once.new.list in
    let w = subst (λ b. WentOn b c.changes.gone c.changes.counts h c.change_once.new.gone c.change_once.new.counts k) c.if-branch.false
    (c.in_ok-change_once.ensures.went f c.changes.invariant.1.0) in
    all_made c.changes.count (with_body f c.args.list.now) c.changes.gone c.change_once.new.gone c.changes.counts c.change_once.new.counts h k w
    c.changes.invariant.0

pub change_once-requires : goal.change_once-requires
change_once-requires c =
    outermost_apart c.changes.counts (function_tree (with_body c.args.function.now c.changes.list)) c.changes.invariant.0.underway.told

pub change_rest-requires : goal.change_rest-requires
change_rest-requires c =
    let f = c.args.function.now in
    let h = with_body f c.changes.list in
    let k = with_body f c.change_once.new.list in
    let i = c.changes.invariant in
    let w = subst (λ b. WentOn b c.changes.gone c.changes.counts h c.change_once.new.gone c.change_once.new.counts k) c.if-branch.true
    (c.in_ok-change_once.ensures.went f i.1.0) in
    let g = goes c.changes.count (suc c.changes.count) (with_body f c.args.list.now) c.changes.gone c.change_once.new.gone c.changes.counts
    c.change_once.new.counts h k refl w i.0 in
    outermost_apart c.change_once.new.counts (function_tree k) g.underway.told
