-- What is read from a function and its loops.
use Rattle.std.proofs.Common.{ℕ, zero, suc, ◌-◌, ◌<◌, ◌≤◌, arith, Bool, true, false, ◌&&◌, leb, ltb, List, [], ◌∷◌, ◌++◌, length, take, drop, get_or, map, Option, Some, None, slice_get, ◌≡◌, refl, sym, ap, ◌∙◌}
use Rattle.std.specs.Prelude.{MatchOption}
use Rattle.std.specs.Option.{option_map_or}
use Rattle.std.proofs.lemmas.List.{length_push, take_at}
use Rattle.std.proofs.lemmas.Bool.{le-leb, lt-ltb, ltb-true}
use Rattle.c_tree.specs.declared.tree.Expression.{Expression}
use Rattle.c_tree.specs.declared.tree.Test as S
use Rattle.c_tree.specs.declared.tree.Test.{Test}
use Rattle.c_tree.specs.declared.tree.Slot.{Slot}
use Rattle.c_tree.specs.declared.tree.Item.{Item}
use Rattle.c_tree.specs.declared.tree.Function.{Function}
use Rattle.c_tree.specs.ExpressionTrees.{expression_tree}
use Rattle.c_tree.specs.TestTrees.{Source, test_tree}
use Rattle.c_tree.specs.Trees.{Tree, Then, trees_of}
use Rattle.c_tree.proofs.TreeLaws.{trees-none}
use Rattle.jump_meaning.specs.Code.{FunctionTree, function_tree, entry_or}
use Rattle.jump_meaning.specs.World.{no_slot}
use Rattle.c_tree.specs.Views.{tree_at}
use Rattle.c_tree.proofs.Views.{trees-first}
use Rattle.tidy_laws.specs.Changes.{is_number, is_zero_value, is_flag}
use Rattle.tidy_loops.specs.Views.{test_at}
use Rattle.tidy_loops.proofs.FormLaws.{test_same}
use Rattle.tidy_loops.specs.Slots.{second_half, rest_test, reset_slot, first_reset, last_reset, but_last, is_free}

pub rest_some : (t : Test) (e : Expression) → Some (expression_tree e) ≡ second_half (test_at t) → rest_test (test_tree t) ≡ Source (expression_tree e)
rest_some t e h = ap rest_test (test_same t) ∙ sym (ap (λ o. option_map_or Source o (test_at t)) h)

pub rest_none : (t : Test) → None ≡ second_half (test_at t) → rest_test (test_tree t) ≡ test_tree t
rest_none t h = ap rest_test (test_same t) ∙ sym (ap (λ o. option_map_or Source o (test_at t)) h) ∙ sym (test_same t)

pub one_zero : (es : List Expression) (e : Expression) → length es < 2 → 1 ≤ length es → e ≡ get_or es 0 e →
    is_number 0 (expression_tree e) ≡ is_zero_value (Some (map expression_tree es))
one_zero [] e h k i = absurd (omega (arith, k))
one_zero (x ∷ []) e h k i = ap (λ z. is_number 0 (expression_tree z)) i
one_zero (x ∷ y ∷ ys) e h k i = absurd (omega (arith, h))

pub first_none : (xs : List Item) → length xs < 1 → None ≡ first_reset (trees_of xs)
first_none [] h = sym (ap first_reset trees-none)
first_none (x ∷ xs) h = absurd (omega (arith, h))

pub first_some : (xs : List Item) (x : Item) → 1 ≤ length xs → x ≡ get_or xs 0 x → reset_slot (tree_at x) ≡ first_reset (trees_of xs)
first_some [] x h e = absurd (omega (arith, h))
first_some (y ∷ ys) x h e = ap (λ z. reset_slot (tree_at z)) e ∙ sym (ap first_reset (trees-first y ys))

-- ---- the last item

last_first : (x : Tree) (xs : List Item) (y : Item) → last_reset (Then x (trees_of (y ∷ xs))) ≡ last_reset (trees_of (y ∷ xs))
last_first x xs y = ap (λ z. last_reset (Then x z)) (trees-first y xs) ∙ sym (ap last_reset (trees-first y xs))

pub back_is : (xs : List Item) → first_reset (trees_of (drop (length xs - 1) xs)) ≡ last_reset (trees_of xs)
back_is [] = ap first_reset trees-none ∙ sym (ap last_reset trees-none)
back_is (x ∷ []) = ap first_reset (trees-first x []) ∙ sym (ap last_reset (trees-first x [] ∙ ap (Then (tree_at x)) trees-none))
back_is (x ∷ y ∷ ys) =
    let k : length (x ∷ y ∷ ys) - 1 ≡ suc (length (y ∷ ys) - 1) = omega arith in
    ap (λ m. first_reset (trees_of (drop m (x ∷ y ∷ ys)))) k ∙ back_is (y ∷ ys) ∙ sym (ap last_reset (trees-first x (y ∷ ys)) ∙ last_first (tree_at x) ys y)

front_first : (x : Tree) (xs : List Item) (y : Item) → but_last (Then x (trees_of (y ∷ xs))) ≡ Then x (but_last (trees_of (y ∷ xs)))
front_first x xs y = ap (λ z. but_last (Then x z)) (trees-first y xs) ∙ sym (ap (λ z. Then x (but_last z)) (trees-first y xs))

pub front_is : (xs : List Item) → trees_of (take (length xs - 1) xs) ≡ but_last (trees_of xs)
front_is [] = trees-none ∙ sym (ap but_last trees-none)
front_is (x ∷ []) = trees-none ∙ sym (ap but_last (trees-first x [] ∙ ap (Then (tree_at x)) trees-none))
front_is (x ∷ y ∷ ys) =
    let k : length (x ∷ y ∷ ys) - 1 ≡ suc (length (y ∷ ys) - 1) = omega arith in
    ap (λ m. trees_of (take m (x ∷ y ∷ ys))) k ∙ trees-first x (take (length (y ∷ ys) - 1) (y ∷ ys)) ∙ ap (Then (tree_at x)) (front_is (y ∷ ys))
    ∙ sym (ap but_last (trees-first x (y ∷ ys)) ∙ front_first (tree_at x) ys y)

pub front_left : (old new : List Item) (r : Option Item) → MatchOption r ((old ≡ []) × (new ≡ [])) (λ last. old ≡ new ++ last ∷ []) →
    trees_of new ≡ but_last (trees_of old)
front_left old new None h = ap trees_of h.1 ∙ trees-none ∙ sym (ap but_last (ap trees_of h.0 ∙ trees-none))
front_left old new (Some y) h =
    let n : length old - 1 ≡ length new = omega (arith, ap length h, length_push new y) in
    sym (ap trees_of (ap (λ k. take k old) n ∙ ap (take (length new)) h ∙ take_at new (y ∷ []) (length new) refl)) ∙ front_is old

-- ---- which variable may go

entry_at : (ss : List Slot) (g : ℕ) (s : Slot) → Some s ≡ slice_get ss g → entry_or no_slot ss g ≡ s
entry_at [] g s e = cc
entry_at (x ∷ xs) zero s e = cc
entry_at (x ∷ xs) (suc g) s e = entry_at xs g s e

past : (ss : List Slot) (g : ℕ) → None ≡ slice_get ss g → length ss ≤ g
past [] g e = omega arith
past (x ∷ xs) zero e = absurd (no e)
  where
    no : None ≡ Some x → ⊥
    no e = cc
past (x ∷ xs) (suc g) e = let h = past xs g e in omega (arith, h)

pub free_in : (f : Function) (g : ℕ) (s : Slot) → f.params ≤ g → g < length f.slots → Some s ≡ slice_get f.slots g → is_free (function_tree f) g ≡ is_flag s
free_in f g s h k e =
    ap (λ z. (z && ltb g (length f.slots)) && is_flag (entry_or no_slot f.slots g)) (le-leb f.params g h)
    ∙ ap (λ z. z && is_flag (entry_or no_slot f.slots g)) (lt-ltb g (length f.slots) k)
    ∙ ap is_flag (entry_at f.slots g s e)

not_below : (g n : ℕ) (b : Bool) → ltb g n ≡ b → n ≤ g → b ≡ false
not_below g n true e h = let k = ltb-true g n e in absurd (omega (arith, h, k))
not_below g n false e h = refl

none_then : (a z : Bool) → ((a && false) && z) ≡ false
none_then true z = refl
none_then false z = refl

-- past the last there is none
pub none_past : (f : FunctionTree) (g : ℕ) (z : Bool) → length f.slots ≤ g → ((leb f.params g && ltb g (length f.slots)) && z) ≡ false
none_past f g z h = ap (λ b. (leb f.params g && b) && z) (not_below g (length f.slots) (ltb g (length f.slots)) refl h) ∙ none_then (leb f.params g) z

pub not_free : (f : Function) (g : ℕ) → None ≡ slice_get f.slots g → false ≡ is_free (function_tree f) g
not_free f g e = sym (none_past (function_tree f) g (is_flag (entry_or no_slot f.slots g)) (past f.slots g e))
