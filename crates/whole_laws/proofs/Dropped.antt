-- Kinds that agree in a list do so without a guard that nothing reads.
use Rattle.std.proofs.Common.{ℕ, Bool, List}
use Rattle.c_tree.specs.declared.tree.Slot.{Slot}
use Rattle.c_tree.specs.Trees.{Forest}
use Rattle.c_tree.specs.Everywhere.{Everywhere}
use Rattle.jump_meaning.specs.Code.{Code}
use Rattle.move_laws.specs.Drops.{dropped}
use Rattle.move_laws.proofs.DroppedItems.{Becomes, becomes}
use Rattle.plain_laws.specs.Kinded.{KindedItem}

kinds_become : (p : Code) (ss : List Slot) (d : ℕ → Bool) → Becomes d (KindedItem p ss) (KindedItem p ss)
kinds_become p ss d = record {
  arm = λ l e i h. h;
  arm_if = λ l e i h. h.0;
  land = λ l i h. tt;
  ifs = λ t a b h. h;
  whiles = λ t a h. h;
  dos = λ t a h. h;
  fors = λ first t u a h. h;
  switches = λ s c h. h;
  blocks = λ a h. tt;
  others = λ x o h. h;
}

pub kinds_dropped : (p : Code) (ss : List Slot) (d : ℕ → Bool) (a : Forest) → Everywhere (KindedItem p ss) a → Everywhere (KindedItem p ss) (dropped d a)
kinds_dropped p ss d a h = becomes d (KindedItem p ss) (KindedItem p ss) (kinds_become p ss d) a h
