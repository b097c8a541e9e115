use Rattle.std.proofs.Common.{◌+◌, refl, sym, ◌∙◌, arith}
use Rattle.std.proofs.lemmas.List.{length-set}
use Rattle.break_recovery.proofs.HeldLaws.{set_before}
use Rattle.break_recovery.proofs.Walks.{closed_kept, closed_taken, closed_last}
use Rattle.break_recovery.proofs.walk.make.Goals as goal

pub returns-then-keeps_next : goal.returns-then-keeps_next
returns-then-keeps_next c =
    let xs = c.args.list.now in
    let w = c.args.walk.now in
    let x = c.at_mut.result.now in
    let y = c.changed_loop.new.item in
    record {
      within = let i = length-set xs w.at y in (c.requires.place.0, omega (arith, c.requires.place, i));
      place = refl;
      behind = (omega arith, set_before w.next w.at xs y (omega (arith, c.requires.place)));
      made = closed_kept w.at w.next xs x c.requires.place.0 c.requires.place.1 c.at_mut.ensures.value y c.args.change c.in_ok-changed_loop.ensures
          (sym c.keeps_next.ensures ∙ c.if-keeps_next.true);
    }

pub returns-then-walk-len : goal.returns-then-walk-len
returns-then-walk-len c =
    let xs = c.args.list.now in
    let w = c.args.walk.now in
    let x = c.at_mut.result.now in
    let y = c.changed_loop.new.item in
    let i = length-set xs w.at y in
    record {
      within = (omega (arith, c.requires.place), omega (arith, c.if-walk-len.true, c.len.ensures.value));
      place = refl;
      behind = (omega arith, set_before (w.next + 1) w.at xs y (omega (arith, c.requires.place)));
      made = closed_taken w.at w.next xs x c.requires.place.0 c.requires.place.1 c.at_mut.ensures.value y c.args.change c.in_ok-changed_loop.ensures
          (sym c.keeps_next.ensures ∙ c.if-keeps_next.false) (omega (arith, c.if-walk-len.true, c.len.ensures.value, i));
    }

pub returns-else-walk-len : goal.returns-else-walk-len
returns-else-walk-len c =
    let xs = c.args.list.now in
    let w = c.args.walk.now in
    let x = c.at_mut.result.now in
    let y = c.changed_loop.new.item in
    let i = length-set xs w.at y in
    record {
      within = (c.requires.place.0, omega (arith, c.requires.place, i));
      place = refl;
      behind = (omega arith, set_before w.next w.at xs y (omega (arith, c.requires.place)));
      made = closed_last w.at w.next xs x c.requires.place.0 c.requires.place.1 c.at_mut.ensures.value y c.args.change c.in_ok-changed_loop.ensures
          (sym c.keeps_next.ensures ∙ c.if-keeps_next.false) (omega (arith, c.if-walk-len.false, c.len.ensures.value, i));
    }

pub changed_loop-requires : goal.changed_loop-requires
changed_loop-requires c = c.requires.exits c.at_mut.result.now c.at_mut.ensures.value
