-- The rules keep the slots and the labels that a body names among those of its function.
use Rattle.std.proofs.Common.{ℕ, List, [], ◌∷◌, ◌++◌, subst}
use Rattle.std.specs.List.{AllByRecursion}
use Rattle.std.proofs.lemmas.List.Elements.{All-from_recursion, recursion_from_All}
use Rattle.c_tree.specs.ExpressionTrees.{ExpressionTree}
use Rattle.c_tree.specs.Trees.{Sections, NoSection, Section}
use Rattle.c_tree.specs.Cases.{all_cases}
use Rattle.c_tree.specs.Slots.{ExpressionSlots, CaseSlots, ItemSlots}
use Rattle.c_tree.specs.Labels.{ItemLabels}
use Rattle.c_tree.proofs.KeptLemmas.{IsKept}

-- ---- labels

pub item_labels_kept : (D : ℕ → Type 0) → IsKept (ItemLabels D)
item_labels_kept D = record {
  made_if = λ m a p. p;
  made_do = λ m a p. p;
  then = λ t a b c h. h;
  else = λ t a b c j h. h;
  whiles = λ t a b h. h;
  dos = λ t a b h. h;
  fors = λ f a b t u j h. tt;
  switches = λ s c d e h. h;
  blocks = λ a b h. tt;
  or_if = λ m t a b p h. (p, h);
  and_if = λ m t a b p h. (p, h);
  or_while = λ m t a p h. (p, h);
  and_while = λ m t a p h. (p, h);
  and_do = λ m t a p h. (p, h);
  picks = λ m k n s c p q h. (p, h);
}

-- ---- slots

module _ (P : ExpressionTree → Type 0) where
  every_join : (xs ys : List ExpressionTree) → AllByRecursion P xs → AllByRecursion P ys → AllByRecursion P (xs ++ ys)
  every_join [] ys h k = k
  every_join (x ∷ xs) ys h k = (h.0, every_join xs ys h.1 k)

  every_front : (xs ys : List ExpressionTree) → AllByRecursion P (xs ++ ys) → AllByRecursion P xs
  every_front [] ys h = tt
  every_front (x ∷ xs) ys h = (h.0, every_front xs ys h.1)

  every_back : (xs ys : List ExpressionTree) → AllByRecursion P (xs ++ ys) → AllByRecursion P ys
  every_back [] ys h = h
  every_back (x ∷ xs) ys h = every_back xs ys h.1

slots_all : (P : ℕ → Type 0) (c : Sections) → CaseSlots P c → AllByRecursion (ExpressionSlots P) (all_cases c)
slots_all P NoSection h = tt
slots_all P (Section cases default a ends c) h = every_join (ExpressionSlots P) cases (all_cases c) (recursion_from_All (ExpressionSlots P) cases h.0)
    (slots_all P c h.1)

all_slots : (P : ℕ → Type 0) (c : Sections) → AllByRecursion (ExpressionSlots P) (all_cases c) → CaseSlots P c
all_slots P NoSection h = tt
all_slots P (Section cases default a ends c) h = (
  All-from_recursion (ExpressionSlots P) cases (every_front (ExpressionSlots P) cases (all_cases c) h),
  all_slots P c (every_back (ExpressionSlots P) cases (all_cases c) h),
)

pub item_slots_kept : (P : ℕ → Type 0) → IsKept (ItemSlots P)
item_slots_kept P = record {
  made_if = λ m a p. tt;
  made_do = λ m a p. tt;
  then = λ t a b c h. h;
  else = λ t a b c j h. h;
  whiles = λ t a b h. h;
  dos = λ t a b h. h;
  fors = λ f a b t u j h. h;
  switches = λ s c d e h. (h.0, all_slots P d (subst (AllByRecursion (ExpressionSlots P)) e.cases (slots_all P c h.1)));
  blocks = λ a b h. tt;
  or_if = λ m t a b p h. h;
  and_if = λ m t a b p h. h;
  or_while = λ m t a p h. h;
  and_while = λ m t a p h. h;
  and_do = λ m t a p h. h;
  picks = λ m k n s c p q h. h;
}
