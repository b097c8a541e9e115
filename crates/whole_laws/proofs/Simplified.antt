-- Kinds that agree in a list do so after each simplification.
use Rattle.std.proofs.Common.{ℕ, List}
use Rattle.c_tree.specs.declared.tree.Slot.{Slot}
use Rattle.c_tree.specs.Trees.{Forest}
use Rattle.c_tree.specs.Everywhere.{Everywhere}
use Rattle.c_tree.specs.Changed.{Changed}
use Rattle.jump_meaning.specs.Code.{Code}
use Rattle.move_laws.specs.Simplifications.{Simplified}
use Rattle.move_laws.proofs.Kept.{IsOfLabels, shorter_kept, round_kept, selector_kept, IsStable, simplified_kept}
use Rattle.plain_laws.specs.Kinded.{KindedTest, KindedSelector, KindedItem}

abbrev AnyLabel : ℕ → Type 0
AnyLabel l = Unit {0}

kinds_of_tests : (p : Code) (ss : List Slot) → IsOfLabels (KindedTest p ss) AnyLabel
kinds_of_tests p ss = record { off = λ l h. tt; and_out = λ l t h. (tt, h); or_out = λ l t h. (tt, h); and_in = λ l t q h. h; or_in = λ l t q h. h }

kinds_stable : (p : Code) (ss : List Slot) → IsStable (KindedItem p ss)
kinds_stable p ss = record {
  ifs = λ t a b a' b' e h. h;
  whiles = λ t a a' n h. h;
  dos = λ t a a' n h. h;
  fors = λ first t u a a' n h. h;
  switches = λ s c d e h. h;
  blocks = λ a a' h. tt;
  if_tests = λ a b r h. shorter_kept (KindedTest p ss) AnyLabel (kinds_of_tests p ss) r h;
  while_tests = λ a r h. shorter_kept (KindedTest p ss) AnyLabel (kinds_of_tests p ss) r h;
  do_tests = λ a r h. shorter_kept (KindedTest p ss) AnyLabel (kinds_of_tests p ss) r h;
  selectors = λ c r h. selector_kept (KindedSelector p ss) (λ l n s h. h) (λ l n s u h i. i) r h;
  nests = λ t u a o h j. round_kept (KindedTest p ss) AnyLabel (kinds_of_tests p ss) t u o h j;
}

pub kinds_simplified : (p : Code) (ss : List Slot) {xs ys : Forest} → Changed Simplified xs ys → Everywhere (KindedItem p ss) xs →
    Everywhere (KindedItem p ss) ys
kinds_simplified p ss r h = simplified_kept (KindedItem p ss) (kinds_stable p ss) r h
