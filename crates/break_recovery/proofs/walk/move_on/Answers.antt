use Rattle.std.proofs.Common.{◌≡◌, ◌+◌, Some, length, slice_get, slice_set, refl, sym, ap, subst, ◌∙◌, arith}
use Rattle.std.proofs.lemmas.List.{length-set}
use Rattle.break_recovery.specs.InARow.{closed}
use Rattle.break_recovery.specs.Held.{SameBehind}
use Rattle.break_recovery.proofs.HeldLaws.{set_both}
use Rattle.break_recovery.proofs.Walks.{closed_moved}
use Rattle.break_recovery.proofs.walk.move_on.Goals as goal

pub returns : goal.returns
returns c =
    let xs = c.args.list.now in
    let w = c.args.walk.now in
    let z = c.replace-item.result in
    let b = c.replace-item.new.dest in
    let e : slice_get xs w.next ≡ Some z = c.at_mut.ensures.value ∙ ap Some (sym c.replace-item.ensures.value) in
    let i = length-set xs w.next b in
    let j = length-set (slice_set xs w.next b) (w.at + 1) z in
    let k = ap length c.set.ensures in
    record {
      within = (omega (arith, c.requires.within), omega (arith, c.requires.within, i, j, k));
      place = refl;
      behind = (
        omega arith,
        subst (SameBehind (w.next + 1) xs) (sym c.set.ensures)
            (set_both (w.next + 1) w.next (w.at + 1) xs b z (omega arith) (omega (arith, c.requires.within))),
      );
      same = ap (closed (w.at + 1) (w.next + 1)) c.set.ensures ∙ closed_moved w.at w.next xs z b c.requires.within.0 e;
    }
