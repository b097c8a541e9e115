-- The first of several paths, and the paths in an item and in a list.
use Rattle.std.proofs.Common.{◌≡◌, ℕ, zero, suc, ◌+◌, List, [], ◌∷◌, ◌++◌, Option, Some, None, take, drop, refl, sym, ap, ◌∙◌, append_assoc, arith}
use Rattle.c_tree.specs.declared.tree.Expression.{Expression}
use Rattle.c_tree.specs.declared.tree.Item.{Item, Item-F, If, While, Do, For, Switch, Block, out-Item, roll-Item, map-Item, roll-out-Item, fold-roll-Item, fold_out-Item}
use Rattle.c_tree.specs.declared.tree.Item.TheVariants.{rolls-If, rolls-While, rolls-Do, rolls-For, rolls-Switch, rolls-Block}
use Rattle.c_tree.specs.declared.tree.Item.TheOpen as O
use Rattle.c_tree.specs.declared.tree.Section.{Section}
use Rattle.c_tree.specs.declared.tree.Selector.{Selector}
use Rattle.c_tree.specs.declared.tree.Test.{Test}
use Rattle.c_tree.specs.declared.tree.Path.{Path}
use Rattle.c_tree.specs.declared.tree.Branch.TheVariants as B
use Rattle.label_offsets.specs.declared.first.Sought.{Sought}
use Rattle.label_offsets.specs.Leaps.{is_sought_F, is_sought, here_if, under, paths_step, section_step, paths_of, section_paths, paths_from, first}

pub first_some : (a b : List Path) (p : Path) → first a ≡ Some p → first (a ++ b) ≡ Some p
first_some [] b p e = cc
first_some (q ∷ a) b p e = e

pub first_none : (a b : List Path) → first a ≡ None → first (a ++ b) ≡ first b
first_none [] b e = refl
first_none (q ∷ a) b e = cc

pub paths-If : (s : Sought) (t : Test) (a b : List Item) (i : ℕ) → paths_of s (If t a b) i ≡ under i B.Then (paths_from s 0 a) ++ under i B.Else
    (paths_from s 0 b)
paths-If s t a b i =
    ap (λ (f : ℕ → List Path). f i)
    (ap (paths_of s) (sym (rolls-If t a b)) ∙ fold-roll-Item (ℕ → List Path) (List Path) (paths_step s) section_step (O.If t a b))

-- an item without lists
pub paths-other : (s : Sought) (x : Item) (i : ℕ) → ((t : Test) (a b : List Item) → x ≡ If t a b → ⊥) → ((t : Test) (a : List Item) → x ≡ While t a → ⊥)
    → ((a : List Item) (t : Test) → x ≡ Do a t → ⊥) → ((f : List Item) (t u : Option Expression) (a : List Item) → x ≡ For f t u a → ⊥)
    → ((a : List Item) → x ≡ Block a → ⊥) → ((c : Selector) (cs : List Section) → x ≡ Switch c cs → ⊥) → paths_of s x i ≡ here_if (is_sought s x) i
paths-other s x i n w d f b c =
    ap (λ (f : ℕ → List Path). f i) (fold_out-Item (ℕ → List Path) (List Path) (paths_step s) section_step x)
    ∙ at (out-Item x) (sym (roll-out-Item x)) where
      at : (y : Item-F Item Section) → x ≡ roll-Item y →
          paths_step s (map-Item Item Section (ℕ → List Path) (List Path) (paths_of s) (section_paths s) y) i ≡ here_if (is_sought_F s y) i
      at (O.If t p q) e = absurd (n t p q (e ∙ rolls-If t p q))
      at (O.While t p) e = absurd (w t p (e ∙ rolls-While t p))
      at (O.Do p t) e = absurd (d p t (e ∙ rolls-Do p t))
      at (O.For p t u q) e = absurd (f p t u q (e ∙ rolls-For p t u q))
      at (O.Block p) e = absurd (b p (e ∙ rolls-Block p))
      at (O.Switch t cs) e = absurd (c t cs (e ∙ rolls-Switch t cs))
      at _ e = refl

-- the paths in the first items of a list, and in those behind them
pub paths-cut : (s : Sought) (k n : ℕ) (xs : List Item) → paths_from s n xs ≡ paths_from s n (take k xs) ++ paths_from s (n + k) (drop k xs)
paths-cut s zero n xs = let same : n ≡ n + zero = omega arith in ap (λ m. paths_from s m xs) same
paths-cut s (suc k) n [] = refl
paths-cut s (suc k) n (x ∷ xs) =
    let same : n + 1 + k ≡ n + suc k = omega arith in
    ap (λ ps. paths_of s x n ++ ps)
    (paths-cut s k (n + 1) xs ∙ ap (λ m. paths_from s (n + 1) (take k xs) ++ paths_from s m (drop k xs)) same)
    ∙ sym (append_assoc (paths_of s x n) (paths_from s (n + 1) (take k xs)) (paths_from s (n + suc k) (drop k xs)))

pub paths-from : (s : Sought) (k : ℕ) (xs : List Item) → paths_from s 0 (take k xs) ≡ [] → paths_from s 0 xs ≡ paths_from s k (drop k xs)
paths-from s k xs e =
    let same : 0 + k ≡ k = omega arith in
    paths-cut s k 0 xs ∙ ap (λ ps. ps ++ paths_from s (0 + k) (drop k xs)) e ∙ ap (λ m. paths_from s m (drop k xs)) same
