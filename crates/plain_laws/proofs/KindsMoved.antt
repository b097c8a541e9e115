-- Kinds that agree in a list do so after each move.
use Rattle.std.proofs.Common.{List}
use Rattle.c_tree.specs.declared.tree.Slot.{Slot}
use Rattle.c_tree.specs.Trees.{Forest}
use Rattle.c_tree.specs.Everywhere.{Everywhere}
use Rattle.c_tree.specs.Changed.{Changed}
use Rattle.c_tree.specs.Moves.{Moved}
use Rattle.c_tree.proofs.KeptLemmas.{IsKept, changed_kept}
use Rattle.jump_meaning.specs.Code.{Code}
use Rattle.plain_laws.specs.Kinded.{KindedItem}

kinds_kept : (p : Code) (ss : List Slot) → IsKept (KindedItem p ss)
kinds_kept p ss = record {
  made_if = λ m a h. tt;
  made_do = λ m a h. tt;
  then = λ t a b c h. h;
  else = λ t a b c j h. h;
  whiles = λ t a b h. h;
  dos = λ t a b h. h;
  fors = λ f a b t u j h. h;
  switches = λ s c d e h. h;
  blocks = λ a b h. tt;
  or_if = λ m t a b i h. h;
  and_if = λ m t a b i h. h;
  or_while = λ m t a i h. h;
  and_while = λ m t a i h. h;
  and_do = λ m t a i h. h;
  picks = λ m k n s c i e h. h;
}

pub kinds_moved : (p : Code) (ss : List Slot) {xs ys : Forest} → Changed Moved xs ys → Everywhere (KindedItem p ss) xs → Everywhere (KindedItem p ss) ys
kinds_moved p ss r h = changed_kept (KindedItem p ss) (kinds_kept p ss) r h
