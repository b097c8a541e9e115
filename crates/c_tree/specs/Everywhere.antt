-- Sums and facts over all items of a list, at any depth.
use Rattle.std.specs.Prelude.{ℕ, ◌+◌}
use Rattle.c_tree.specs.Trees.{Tree, Forest, Nil, Then, Sections, NoSection, Section, If, While, Do, For, Switch, Block}

abbrev mutual
  -- the sum of a number over all items of a list
  pub total : (Tree → ℕ) → Forest → ℕ
  total f Nil = 0
  total f (Then x xs) = total_of f x + total f xs

  -- over an item and those that stand in it
  pub total_of : (Tree → ℕ) → Tree → ℕ
  total_of f (If t a b) = f (If t a b) + total f a + total f b
  total_of f (While t a) = f (While t a) + total f a
  total_of f (Do a t) = f (Do a t) + total f a
  total_of f (For first t u a) = f (For first t u a) + total f first + total f a
  total_of f (Switch s c) = f (Switch s c) + total_in f c
  total_of f (Block a) = f (Block a) + total f a
  total_of f x = f x

  -- over the items in sections
  pub total_in : (Tree → ℕ) → Sections → ℕ
  total_in f NoSection = 0
  total_in f (Section cases default a ends c) = total f a + total_in f c

abbrev mutual
  -- a fact holds of each item of a list
  pub Everywhere : (Tree → Type 0) → Forest → Type 0
  Everywhere P Nil = Unit {0}
  Everywhere P (Then x xs) = EverywhereOf P x × Everywhere P xs

  -- of an item and of those that stand in it
  pub EverywhereOf : (Tree → Type 0) → Tree → Type 0
  EverywhereOf P (If t a b) = P (If t a b) × Everywhere P a × Everywhere P b
  EverywhereOf P (While t a) = P (While t a) × Everywhere P a
  EverywhereOf P (Do a t) = P (Do a t) × Everywhere P a
  EverywhereOf P (For first t u a) = P (For first t u a) × Everywhere P first × Everywhere P a
  EverywhereOf P (Switch s c) = P (Switch s c) × EverywhereIn P c
  EverywhereOf P (Block a) = P (Block a) × Everywhere P a
  EverywhereOf P x = P x

  -- of the items in sections
  pub EverywhereIn : (Tree → Type 0) → Sections → Type 0
  EverywhereIn P NoSection = Unit {0}
  EverywhereIn P (Section cases default a ends c) = Everywhere P a × EverywhereIn P c
