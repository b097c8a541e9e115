-- What holds of each item of a body holds of the item at a path.
use Rattle.std.proofs.Common.{◌≡◌, ℕ, suc, List, Some, take, drop, slice_get, refl, subst}
use Rattle.c_tree.specs.declared.tree.Item.{Item}
use Rattle.c_tree.specs.declared.tree.Step.{Step}
use Rattle.c_tree.specs.Paths.{list_at}
use Rattle.c_tree.specs.Trees.{Tree, Forest, Sections, If, While, Do, For, Switch, Block, join, tree_of, trees_of}
use Rattle.c_tree.specs.Everywhere.{Everywhere, EverywhereOf, EverywhereIn}
use Rattle.c_tree.specs.Changed.{one, Changed, ChangedSections, here, within, in_then, in_else, in_while, in_do, in_for, in_switch, in_block, in_section, in_later}
use Rattle.c_tree.proofs.ChangeLemmas.{trees-split, changed_at}
use Rattle.c_tree.proofs.KeptLemmas.{everywhere_front, everywhere_back}

module _ (P : Tree → Type 0) (A : Forest) where
  mutual
    inside : {xs ys : Forest} → Changed (λ u v. u ≡ A) xs ys → Everywhere P xs → Everywhere P A
    inside (here r) h = subst (Everywhere P) r h
    inside (within a b {xs = xs} c) h = inside c (everywhere_front P xs b (everywhere_back P a (join xs b) h))
    inside (in_then t b c) h = inside c h.0.1
    inside (in_else t a c) h = inside c h.0.2
    inside (in_while t c) h = inside c h.0.1
    inside (in_do t c) h = inside c h.0.1
    inside (in_for f t u c) h = inside c h.0.2
    inside (in_switch s c) h = inside_sections c h.0.1
    inside (in_block c) h = inside c h.0.1

    inside_sections : {c d : Sections} → ChangedSections (λ u v. u ≡ A) c d → EverywhereIn P c → Everywhere P A
    inside_sections (in_section cases default ends c r) h = inside r h.0
    inside_sections (in_later cases default ends a r) h = inside_sections r h.1

module _ (P : Tree → Type 0) where
  self : (x : Tree) → EverywhereOf P x → P x
  self (If t a b) h = h.0
  self (While t a) h = h.0
  self (Do a t) h = h.0
  self (For f t u a) h = h.0
  self (Switch s c) h = h.0
  self (Block a) h = h.0
  self _ h = h

  pub holds_at : (body : List Item) (steps : List Step) (a : List Item) (i : ℕ) (x : Item) → list_at body steps ≡ Some a → slice_get a i ≡ Some x →
      Everywhere P (trees_of body) → P (tree_of x)
  holds_at body steps a i x t e h =
      let all = inside P (trees_of a) (changed_at (λ u v. u ≡ trees_of a) body steps a a t (here refl)) h in
      let split = subst (Everywhere P) (trees-split a i x e) all in
      self (tree_of x) (everywhere_front P (one (tree_of x)) (trees_of (drop (suc i) a))
      (everywhere_back P (trees_of (take i a)) (join (one (tree_of x)) (trees_of (drop (suc i) a))) split)).0
