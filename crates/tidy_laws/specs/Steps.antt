-- The first step of both changes: where a set makes the rest of a turn skip, a jump leaves it.
use Rattle.std.specs.Prelude.{ℕ, true, Option, ◌≡◌}
use Rattle.c_tree.specs.ExpressionTrees.{ExpressionTree}
use Rattle.c_tree.specs.TestTrees.{TestTree}
use Rattle.c_tree.specs.Trees.{Tree, Forest, While, Do, For, join}
use Rattle.c_tree.specs.Changed.{one}
use Rattle.tidy_laws.specs.Tails.{stops, leaves, reset, by_break, by_continue}

-- a loop, and the same with its jumps
pub data Leaves (g : ℕ) : Tree → Tree → Type 0 where
  -- a loop with the test `!g && t` is left by `break`
  breaks_while : (t : TestTree) (a : Forest) → stops g t ≡ true → Leaves g (While t a) (While t (leaves g by_break a))
  breaks_do : (t : TestTree) (a : Forest) → stops g t ≡ true → Leaves g (Do a t) (Do (leaves g by_break a) t)
  -- a turn whose last item is `g = 0;` is left by `g = 0; continue;`
  continues_while : (t : TestTree) (a : Forest) → Leaves g (While t (join a (one (reset g)))) (While t (join (leaves g (by_continue g) a) (one (reset g))))
  continues_do : (t : TestTree) (a : Forest) → Leaves g (Do (join a (one (reset g))) t) (Do (join (leaves g (by_continue g) a) (one (reset g))) t)
  continues_for : (f : Forest) (t u : Option ExpressionTree) (a : Forest)
      → Leaves g (For f t u (join a (one (reset g)))) (For f t u (join (leaves g (by_continue g) a) (one (reset g))))

-- of some slot
abbrev pub LeavesOne : Tree → Tree → Type 0
LeavesOne x y = (g : ℕ) × Leaves g x y
