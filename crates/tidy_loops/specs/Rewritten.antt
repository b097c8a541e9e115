-- What a list and its items become, whether at a tail or not.
use Rattle.std.specs.Prelude.{ℕ, Bool, cond, is_some}
use Rattle.c_tree.specs.Trees.{Tree, Forest, Evaluate, If}
use Rattle.tidy_laws.specs.Changes.{set_value, set_or, inner, tailed}
use Rattle.tidy_slots.specs.Counts.{one_if}
use Rattle.tidy_loops.specs.Exits.{inner_kept, each_inner, each_tailed}

abbrev pub list_rewritten : Bool → ℕ → Tree → Forest → Forest
list_rewritten tail g l a = cond tail (tailed g l a) (inner g a)

-- each of its items, before the checks give way
abbrev pub each_rewritten : Bool → ℕ → Tree → Forest → Forest
each_rewritten tail g l a = cond tail (each_tailed g l a) (each_inner g a)

-- an item, where it stays
abbrev pub item_rewritten : Bool → ℕ → Tree → Tree → Tree
item_rewritten tail g l (Evaluate e) = cond tail (set_or l e (set_value g e)) (Evaluate e)
item_rewritten tail g l (If t a b) = If t (list_rewritten tail g l a) (list_rewritten tail g l b)
item_rewritten tail g l x = inner_kept g x

-- whether an item is a set, as a count
abbrev pub sets_of : ℕ → Tree → ℕ
sets_of g (Evaluate e) = one_if (is_some (set_value g e))
sets_of g x = 0
