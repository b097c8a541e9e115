use Rattle.std.proofs.Common.{◌≡◌, ◌+◌, ◌∷◌, length, drop, get_or, sym, ap, subst, ◌∙◌, arith}
use Rattle.c_tree.specs.Trees.{trees_of}
use Rattle.break_recovery.specs.Fronts.{all_marked, all_undeclared}
use Rattle.break_recovery.proofs.FrontLaws.{drop_here, drop_none, get_or_same}
use Rattle.break_recovery.proofs.functions.undeclare_all.Goals as goal

pub loop-i-preserved : goal.loop-i-preserved
loop-i-preserved c =
    let gs = c.args.slots.now in
    let i = c.loop-i.i in
    let ys = c.as_slice-all.result.now in
    let e = subst (λ zs. drop i zs ≡ get_or ys i 0 ∷ drop (i + 1) zs) c.as_slice-all.ensures.value
    (drop_here ys i (get_or ys i 0) c.loop-i-test.true (get_or_same ys i 0 c.loop-i-test.true)) in (
      ap (λ z. all_marked z (drop (i + 1) gs)) c.mark.ensures ∙ sym (ap (all_marked c.loop-i.gone) e) ∙ c.loop-i.invariant.0,
      ap (all_undeclared (drop (i + 1) gs)) c.undeclare.ensures.gone ∙ sym (ap (λ z. all_undeclared z (trees_of c.loop-i.list)) e) ∙ c.loop-i.invariant.1,
    )

pub returns : goal.returns
returns c =
    let gs = c.args.slots.now in
    let k = ap length c.as_slice-all.ensures.value in
    let h = c.loop-i-test.false in
    let e = drop_none gs c.loop-i.i (omega (arith, h, k)) in
    record {
      marked = sym (ap (all_marked c.loop-i.gone) e) ∙ c.loop-i.invariant.0;
      gone = sym (ap (λ z. all_undeclared z (trees_of c.loop-i.list)) e) ∙ c.loop-i.invariant.1;
    }
