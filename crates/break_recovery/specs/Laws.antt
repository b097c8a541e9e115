-- The laws of the search: the next change is told item by item.
use Rattle.std.specs.Prelude.{ℕ, suc, ◌≡◌, Bool, List, Option, Some, None}
use Rattle.c_tree.specs.ExpressionTrees.{ExpressionTree}
use Rattle.c_tree.specs.TestTrees.{TestTree, SelectorTree}
use Rattle.c_tree.specs.Trees.{Tree, Forest, Nil, Then, Sections, NoSection, Section, If, While, Do, For, Switch, Block}
use Rattle.jump_meaning.specs.Code.{FunctionTree}
use Rattle.tidy_laws.specs.Changes.{changes}
use Rattle.break_recovery.specs.Next.{first, or_else, put, next_list, next_item, next_sections, next_at}

pub record SearchLaws : Type 0 where
  pub none : (f : FunctionTree) (n : ℕ) → next_list f n Nil ≡ None
  pub more : (f : FunctionTree) (n : ℕ) (x : Tree) (xs : Forest) → next_list f n (Then x xs) ≡ or_else (next_at f (suc n) (Then x xs))
      (put (Then x) (next_list f n xs))
  pub in_if : (f : FunctionTree) (n : ℕ) (t : TestTree) (a b : Forest) →
      next_item f n (If t a b) ≡ or_else (put (λ c. If t c b) (next_list f n a)) (put (If t a) (next_list f n b))
  pub in_while : (f : FunctionTree) (n : ℕ) (t : TestTree) (a : Forest) → next_item f n (While t a) ≡ put (While t) (next_list f n a)
  pub in_do : (f : FunctionTree) (n : ℕ) (a : Forest) (t : TestTree) → next_item f n (Do a t) ≡ put (λ c. Do c t) (next_list f n a)
  pub in_for : (f : FunctionTree) (n : ℕ) (b : Forest) (t u : Option ExpressionTree) (a : Forest)
      → next_item f n (For b t u a) ≡ or_else (put (λ c. For c t u a) (next_list f n b)) (put (For b t u) (next_list f n a))
  pub in_switch : (f : FunctionTree) (n : ℕ) (s : SelectorTree) (c : Sections) → next_item f n (Switch s c) ≡ put (Switch s) (next_sections f n c)
  pub in_block : (f : FunctionTree) (n : ℕ) (a : Forest) → next_item f n (Block a) ≡ put Block (next_list f n a)
  pub no_section : (f : FunctionTree) (n : ℕ) → next_sections f n NoSection ≡ None
  pub more_sections : (f : FunctionTree) (n : ℕ) (cases : List ExpressionTree) (default : Bool) (a : Forest) (ends : Bool) (c : Sections)
      → next_sections f n (Section cases default a ends c)
      ≡ or_else (put (λ b. Section cases default b ends c) (next_list f n a)) (put (Section cases default a ends) (next_sections f n c))
  -- in the whole body it is the first of its changes
  pub whole : (f : FunctionTree) (a : Forest) → f.body ≡ Some a → next_list f 1 a ≡ first (changes f a)
