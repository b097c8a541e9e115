-- The change at a loop: it is the next one there, and what it makes of a list.
use Rattle.std.proofs.Common.{ℕ, zero, suc, ◌+◌, ◌<◌, ◌≤◌, ◌&&◌, eqb, arith, true, false, List, [], ◌∷◌, length, take, drop, get_or, slice_get, slice_set, option_map, Option, Some, None, ◌≡◌, refl, sym, ap, ◌∙◌}
use Rattle.std.specs.Prelude.{remove}
use Rattle.c_tree.specs.declared.tree.Item.{Item}
use Rattle.c_tree.specs.Trees.{Tree, Forest, Nil, Then, While, Do, trees_of, join}
use Rattle.c_tree.specs.Views.{tree_at}
use Rattle.c_tree.proofs.TreeLaws.{trees-none}
use Rattle.c_tree.proofs.Views.{trees-first, trees-at, trees-end}
use Rattle.jump_meaning.specs.Code.{FunctionTree}
use Rattle.tidy_laws.specs.Changes.{are_low}
use Rattle.tidy_loops.specs.Exits.{exits_in}
use Rattle.tidy_loops.specs.Views.{is_it}
use Rattle.tidy_loops.specs.Slots.{counts_of, allowed, stop_slot, first_reset, break_slot, continue_slot}
use Rattle.break_recovery.specs.Next.{or_else, put, of_slot, next_here, broken_first, continued_first, changed_to}
use Rattle.break_recovery.specs.declared.here.Change.{Change}
use Rattle.break_recovery.specs.declared.here.Change.TheVariants as V
use Rattle.break_recovery.specs.Loops.{slot_of, keeps_next, continue_there, change_there, change_first, loop_after, list_after}
use Rattle.break_recovery.proofs.Steps.{entry_is, breaks_next, breaks_last, continues_at}

-- ---- the next change there

chosen : (s t : Option ℕ) (a : Forest)
    → or_else (of_slot (λ g. broken_first g a) s) (of_slot (λ g. continued_first g a) t) ≡ option_map (λ x. (slot_of x, list_after x a))
    (or_else (option_map V.Break s) (option_map V.Continue t))
chosen None None a = refl
chosen None (Some h) a = refl
chosen (Some g) t a = refl

next_told : (f : FunctionTree) (n : ℕ) (a : Forest) → next_here f n a ≡ option_map (λ x. (slot_of x, list_after x a)) (change_first (counts_of f) n a)
next_told f n Nil = refl
next_told f n (Then x xs) = chosen (break_slot (counts_of f) n x xs) (continue_slot (counts_of f) n x) (Then x xs)

module _ (f : FunctionTree) (n : ℕ) (a : Forest) (F : Forest → Forest) (c : ℕ → ℕ) (k : c ≡ counts_of f) (s : Option Change) (e : s ≡ change_first c n a) where
  told : put F (option_map (λ x. (slot_of x, list_after x a)) s) ≡ put F (next_here f n a)
  told = ap (λ r. put F (option_map (λ x. (slot_of x, list_after x a)) r)) (e ∙ ap (λ c. change_first c n a) k) ∙ ap (put F) (sym (next_told f n a))

  pub here_changed : (x : Change) (b : Forest) → s ≡ Some x → b ≡ F (list_after x a) → changed_to (Some (slot_of x)) b ≡ put F (next_here f n a)
  here_changed x b h i = ap (λ z. Some (slot_of x, z)) i ∙ ap (λ r. put F (option_map (λ x. (slot_of x, list_after x a)) r)) (sym h) ∙ told

  pub here_none : (b : Forest) → s ≡ None → changed_to None b ≡ put F (next_here f n a)
  here_none b h = ap (λ r. put F (option_map (λ x. (slot_of x, list_after x a)) r)) (sym h) ∙ told

-- ---- what it makes of a list

module _ (xs : List Item) (i : ℕ) (x : Item) (h : i < length xs) (e : x ≡ get_or xs i x) (y : Item) where
  pub next_kept : (c : Change) → tree_at y ≡ loop_after c (tree_at x) → keeps_next c ≡ true →
      trees_of (slice_set xs i y) ≡ join (trees_of (take i xs)) (list_after c (trees_of (drop i xs)))
  next_kept (V.Break g) k t = cc
  next_kept (V.Continue g) k t = continues_at xs i x h e g y k

  pub next_taken : (c : Change) → tree_at y ≡ loop_after c (tree_at x) → keeps_next c ≡ false → i + 1 < length xs →
      trees_of (remove (slice_set xs i y) (i + 1)) ≡ join (trees_of (take i xs)) (list_after c (trees_of (drop i xs)))
  next_taken (V.Break g) k t l = breaks_next xs i x h e g y k l
  next_taken (V.Continue g) k t l = cc

  pub none_next : (c : Change) → tree_at y ≡ loop_after c (tree_at x) → keeps_next c ≡ false → length xs ≤ i + 1 →
      trees_of (slice_set xs i y) ≡ join (trees_of (take i xs)) (list_after c (trees_of (drop i xs)))
  none_next (V.Break g) k t l = breaks_last xs i x h e g y k l
  none_next (V.Continue g) k t l = cc

-- ---- of the items behind a loop the first alone is read

same_break : (c : ℕ → ℕ) (n : ℕ) (x : Tree) (a b : Forest) → first_reset a ≡ first_reset b → break_slot c n x a ≡ break_slot c n x b
same_break c n (While t l) a b e = ap (λ r. allowed (λ g. is_it g r && (are_low g n l && eqb (c g) (3 + exits_in g l))) (stop_slot t)) e
same_break c n (Do l t) a b e = ap (λ r. allowed (λ g. is_it g r && (are_low g n l && eqb (c g) (3 + exits_in g l))) (stop_slot t)) e
same_break c n x a b e = refl

same_change : (c : ℕ → ℕ) (n : ℕ) (x : Tree) (a b : Forest) → first_reset a ≡ first_reset b → change_there c n x a ≡ change_there c n x b
same_change c n x a b e = ap (λ s. or_else (option_map V.Break s) (continue_there c n x)) (same_break c n x a b e)

within : {A : Type 0} (xs : List A) (i : ℕ) (x : A) → slice_get xs i ≡ Some x → i < length xs
within [] i x e = cc
within (y ∷ ys) zero x e = omega arith
within (y ∷ ys) (suc i) x e = let k = within ys i x e in omega (arith, k)

module _ (c : ℕ → ℕ) (n : ℕ) (xs : List Item) (i : ℕ) (x : Item) (h : i < length xs) (e : x ≡ get_or xs i x) where
  pub before_next : (y : Item) → slice_get xs (i + 1) ≡ Some y → change_there c n (tree_at x) (trees_of (y ∷ [])) ≡ change_first c n (trees_of (drop i xs))
  before_next y k =
      same_change c n (tree_at x) (trees_of (y ∷ [])) (trees_of (drop (i + 1) xs))
      (ap first_reset (trees-first y []) ∙ sym (ap first_reset (trees-at xs (i + 1) y (within xs (i + 1) y k) (entry_is xs (i + 1) y k))))
      ∙ sym (ap (change_first c n) (trees-at xs i x h e))

  pub before_none : length xs ≤ i + 1 → change_there c n (tree_at x) (trees_of []) ≡ change_first c n (trees_of (drop i xs))
  before_none l = ap (change_there c n (tree_at x)) (trees-none ∙ sym (trees-end xs (i + 1) l)) ∙ sym (ap (change_first c n) (trees-at xs i x h e))

  pub before_rest : change_there c n (tree_at x) (trees_of (drop (i + 1) xs)) ≡ change_first c n (trees_of (drop i xs))
  before_rest = sym (ap (change_first c n) (trees-at xs i x h e))

pub none_there : {A : Type 0} (xs : List A) (i : ℕ) → slice_get xs i ≡ None → length xs ≤ i
none_there [] i e = omega arith
none_there (x ∷ xs) zero e = cc
none_there (x ∷ xs) (suc i) e = let k = none_there xs i e in omega (arith, k)
