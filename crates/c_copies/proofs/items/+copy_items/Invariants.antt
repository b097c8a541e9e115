use Rattle.std.proofs.Common.{◌≡◌, take}
use Rattle.c_copies.proofs.items.+copy_items.Given as goal

abbrev pub invariant-copy_slice-loop-item : goal.invariant-copy_slice-loop-item
invariant-copy_slice-loop-item l = l.out ≡ take l.item-index l.items

abbrev pub invariant-copy_sections-loop-item : goal.invariant-copy_sections-loop-item
invariant-copy_sections-loop-item l = l.out ≡ take l.item-index l.items
