-- The law of loops: at a loop at most one change by `break` and one by `continue` apply.
use Rattle.std.specs.Prelude.{ℕ, ◌≡◌, filter}
use Rattle.c_tree.specs.Trees.{Tree, Forest, Then}
use Rattle.jump_meaning.specs.Code.{FunctionTree}
use Rattle.tidy_loops.specs.Fits.{fits}
use Rattle.tidy_loops.specs.Slots.{counts_of, break_slot, continue_slot, broken, continued, but_first, broken_lists, continued_lists, found}

pub record LoopLaws : Type 0 where
  pub by_break : (f : FunctionTree) (n : ℕ) (x : Tree) (xs : Forest)
      → filter (fits f (Then x xs)) (broken_lists f n x xs) ≡ found (λ g. Then (broken g x) (but_first xs)) (break_slot (counts_of f) n x xs)
  pub by_continue : (f : FunctionTree) (n : ℕ) (x : Tree) (xs : Forest)
      → filter (fits f (Then x xs)) (continued_lists f n x xs) ≡ found (λ g. Then (continued g x) xs) (continue_slot (counts_of f) n x)
