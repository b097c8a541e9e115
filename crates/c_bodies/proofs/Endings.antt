-- The last item of a list.
use Rattle.std.proofs.Common.{◌≡◌, List, [], ◌∷◌, ◌++◌, refl, ap}
use Rattle.c_statements.specs.Sections.{is_break, ends_in_break, without_last}
use Rattle.c_tree.specs.declared.tree.Item.{Item}

pub ends_last : (xs : List Item) (x : Item) → ends_in_break (xs ++ x ∷ []) ≡ is_break x
ends_last [] x = refl
ends_last (y ∷ []) x = refl
ends_last (y ∷ z ∷ ys) x = ends_last (z ∷ ys) x

pub cut_behind : (xs : List Item) (x : Item) → without_last (xs ++ x ∷ []) ≡ xs
cut_behind [] x = refl
cut_behind (y ∷ []) x = refl
cut_behind (y ∷ z ∷ ys) x = ap (λ l. y ∷ l) (cut_behind (z ∷ ys) x)

pub ruleset last = (ends_last, cut_behind)
