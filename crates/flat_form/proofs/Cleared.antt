-- What is taken out of the items of a list and then out of the list has gone from it.
use Rattle.std.proofs.Common.{◌≡◌, ◌++◌, Bool, true, false, not, cond, List, [], ◌∷◌, length, take, refl, sym, ap, ◌∙◌, arith}
use Rattle.std.proofs.lemmas.List.{take_all, drop_all, append-nil}
use Rattle.std.specs.List.{filter}
use Rattle.c_types.specs.Refill.{refilled}
use Rattle.c_tree.specs.declared.tree.Item.{Item}
use Rattle.c_tree.specs.Trees.{Tree, Forest, Nil, Then, If, While, Do, For, Switch, Block, Mark, Arrival, trees_of, join}
use Rattle.c_tree.specs.Views.{tree_at}
use Rattle.c_tree.proofs.TreeLaws.{trees-none}
use Rattle.c_tree.proofs.Views.{trees-first}
use Rattle.flat_laws.specs.Unlabelled.{unlabelled, unlabelled_item}
use Rattle.c_resolved_laws.specs.Counts.{without_strays, without_stray}
use Rattle.flat_form.specs.Cleared.{goes, kept, inside, each_inside, cleared}

labels_gone : (a : Forest) → kept false (each_inside false a) ≡ unlabelled a
labels_gone Nil = refl
labels_gone (Then x xs) = by x (labels_gone xs)
  where
    by : (x : Tree) → kept false (each_inside false xs) ≡ unlabelled xs →
        kept false (Then (inside false x) (each_inside false xs)) ≡ join (unlabelled_item x) (unlabelled xs)
    by (Mark l) e = e
    by (If t a b) e = ap (Then (inside false (If t a b))) e
    by (While t a) e = ap (Then (inside false (While t a))) e
    by (Do a t) e = ap (Then (inside false (Do a t))) e
    by (For f t u a) e = ap (Then (inside false (For f t u a))) e
    by (Switch s d) e = ap (Then (inside false (Switch s d))) e
    by (Block a) e = ap (Then (inside false (Block a))) e
    by x e = ap (Then x) e

strays_gone : (a : Forest) → kept true (each_inside true a) ≡ without_strays a
strays_gone Nil = refl
strays_gone (Then x xs) = by x (strays_gone xs)
  where
    by : (x : Tree) → kept true (each_inside true xs) ≡ without_strays xs →
        kept true (Then (inside true x) (each_inside true xs)) ≡ join (without_stray x) (without_strays xs)
    by (Arrival e) g = g
    by (If t a b) e = ap (Then (inside true (If t a b))) e
    by (While t a) e = ap (Then (inside true (While t a))) e
    by (Do a t) e = ap (Then (inside true (Do a t))) e
    by (For f t u a) e = ap (Then (inside true (For f t u a))) e
    by (Switch s d) e = ap (Then (Switch s d)) e
    by (Block a) e = ap (Then (inside true (Block a))) e
    by x e = ap (Then x) e

pub all_gone : (strays : Bool) (a : Forest) → kept strays (each_inside strays a) ≡ cleared strays a
all_gone true a = strays_gone a
all_gone false a = labels_gone a

-- what a filter leaves of the items
pub kept_items : (strays : Bool) (xs : List Item) → trees_of (filter (λ x. not (goes strays (tree_at x))) xs) ≡ kept strays (trees_of xs)
kept_items strays [] = trees-none ∙ sym (ap (kept strays) trees-none)
kept_items strays (x ∷ xs) = by (goes strays (tree_at x)) (kept_items strays xs) ∙ sym (ap (kept strays) (trees-first x xs))
  where
    left : List Item
    left = filter (λ x. not (goes strays (tree_at x))) xs

    by : (b : Bool) → trees_of left ≡ kept strays (trees_of xs) → trees_of (cond (not b) (x ∷ left) left) ≡ cond b (kept strays (trees_of xs))
        (Then (tree_at x) (kept strays (trees_of xs)))
    by true e = e
    by false e = trees-first x left ∙ ap (Then (tree_at x)) e

-- a list that was lent as a slice holds what was left there
pub refilled_same : (old lent new : List Item) → lent ≡ old → length new ≡ length lent → refilled old new ≡ new
refilled_same old lent new e h =
    let same : length new ≡ length old = h ∙ ap length e in
    ap (λ z. take (length old) (new ++ z)) (drop_all (length new) old (omega (arith, same))) ∙ ap (take (length old)) (append-nil new) ∙
    take_all (length old) new (omega (arith, same))
