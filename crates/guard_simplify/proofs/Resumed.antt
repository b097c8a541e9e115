-- The search that goes on at a place, by its steps.
use Rattle.std.proofs.Common.{◌≡◌, ℕ, ◌-◌, ◌≤◌, Bool, List, [], ◌∷◌, length, take, drop, get_or, Some, option_map, option_and_then, slice_get, sym, ap, ◌∙◌, arith}
use Rattle.std.proofs.lemmas.List.{take_all}
use Rattle.c_tree.specs.declared.tree.Item.{Item}
use Rattle.c_tree.specs.declared.tree.Step.{Step}
use Rattle.c_tree.specs.Paths.{child}
use Rattle.guard_simplify.specs.Choice.{under_one, first}
use Rattle.guard_simplify.specs.Later.{after, else_first, first_from}

pub first_and_rest : {A : Type 0} (xs : List A) (d : A) → 1 ≤ length xs → xs ≡ get_or xs 0 d ∷ take (length xs - 1) (drop 1 xs)
first_and_rest [] d h = absurd (omega arith)
first_and_rest (x ∷ xs) d h = ap (λ ys. x ∷ ys) (sym (take_all (length (x ∷ xs) - 1) xs (omega arith)))

step_from : (bar : ℕ → Bool) (xs : List Item) (s : Step) (ss : List Step) (i : ℕ) (x : Item) (a : List Item) → slice_get xs s.item ≡ Some x →
    child s.branch x ≡ Some a
    → first_from bar xs (s ∷ ss) i ≡ else_first (option_map (under_one s.item s.branch) (first_from bar a ss i)) (first (after bar xs x s))
step_from bar xs s ss i x a e f =
    ap (option_and_then (λ x. else_first (option_and_then (λ a. option_map (under_one s.item s.branch) (first_from bar a ss i)) (child s.branch x))
    (first (after bar xs x s)))) e
    ∙ ap (λ o. else_first (option_and_then (λ a. option_map (under_one s.item s.branch) (first_from bar a ss i)) o) (first (after bar xs x s))) f

-- with the steps as the code has them
pub stepped_from : (bar : ℕ → Bool) (xs : List Item) (steps : List Step) (d : Step) (i : ℕ) (x : Item) (a : List Item) → 1 ≤ length steps →
    slice_get xs (get_or steps 0 d).item ≡ Some x → child (get_or steps 0 d).branch x ≡ Some a
    → else_first (option_map (under_one (get_or steps 0 d).item (get_or steps 0 d).branch)
    (first_from bar a (take (length steps - 1) (drop 1 steps)) i)) (first (after bar xs x (get_or steps 0 d))) ≡ first_from bar xs steps i
stepped_from bar xs steps d i x a h e f =
    let s = get_or steps 0 d in
    sym (ap (λ ss. first_from bar xs ss i) (first_and_rest steps d h) ∙ step_from bar xs s (take (length steps - 1) (drop 1 steps)) i x a e f)
