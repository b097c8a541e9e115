-- A body without the declaration of a variable.
use mathlib.Core.Path.{ap₂}
use Rattle.std.proofs.Common.{ℕ, zero, suc, ◌+◌, ◌<◌, ◌≤◌, arith, true, false, cond, List, [], ◌∷◌, ◌++◌, length, take, drop, get_or, Some, None, ◌≡◌, refl, sym, ap, ◌∙◌}
use Rattle.std.specs.Option.{option_map_or}
use Rattle.std.specs.Prelude.{remove}
use Rattle.std.proofs.lemmas.List.{take_more, take_all}
use Rattle.c_tree.specs.declared.tree.Item.{Item}
use Rattle.jump_meaning.specs.Code.{FunctionTree}
use Rattle.c_tree.specs.Trees.{Forest, Then, trees_of, join}
use Rattle.c_tree.specs.Changed.{one}
use Rattle.c_tree.proofs.TreeLaws.{trees-none, join-join, join-nil}
use Rattle.c_tree.specs.Views.{tree_at}
use Rattle.c_tree.proofs.Views.{trees-first, trees-at, trees-end, trees-push}
use Rattle.tidy_laws.specs.Changes.{undeclared, is_declaration, changes, changes_of}
use Rattle.break_recovery.specs.Next.{first, next_list}
use Rattle.break_recovery.specs.Ends.{IsBodyChanged}
use Rattle.break_recovery.proofs.Steps.{some_none}
use Rattle.break_recovery.proofs.BodyLaws.{search_laws_hold}

-- the first so many items are not the declaration
pub record Passed (g i : ℕ) (old now : List Item) : Type 0 where
  pub same : now ≡ old
  pub rest : undeclared g (trees_of now) ≡ join (trees_of (take i now)) (undeclared g (trees_of (drop i now)))

pub none_passed : (g : ℕ) (xs : List Item) → Passed g 0 xs xs
none_passed g xs = record { same = refl; rest = sym (ap (λ z. join z (undeclared g (trees_of xs))) trees-none) }

pub one_passed : (g i : ℕ) (old xs : List Item) (x : Item) → i < length xs → x ≡ get_or xs i x → is_declaration g (tree_at x) ≡ false →
    Passed g i old xs → Passed g (i + 1) old xs
one_passed g i old xs x h e n p =
    let rest = trees_of (drop (i + 1) xs) in
    record {
      same = p.same;
      rest =
          p.rest ∙ ap (λ z. join (trees_of (take i xs)) (undeclared g z)) (trees-at xs i x h e)
          ∙ ap (λ b. join (trees_of (take i xs)) (cond b rest (Then (tree_at x) (undeclared g rest)))) n
          ∙ sym (ap (λ z. join z (undeclared g rest)) (ap trees_of (take_more xs i x h ∙ ap (λ z. take i xs ++ z ∷ []) (sym e)) ∙
          trees-push (take i xs) x) ∙ join-join (trees_of (take i xs)) (one (tree_at x)) (undeclared g rest));
    }

removed : (xs : List Item) (i : ℕ) → i < length xs → trees_of (remove xs i) ≡ join (trees_of (take i xs)) (trees_of (drop (i + 1) xs))
removed [] i h = absurd (omega (arith, h))
removed (x ∷ xs) zero h = sym (ap (λ z. join z (trees_of xs)) trees-none)
removed (x ∷ xs) (suc i) h =
    let k : i < length xs = omega (arith, h) in
    let j : suc i + 1 ≡ suc (i + 1) = omega arith in
    trees-first x (remove xs i) ∙ ap (Then (tree_at x)) (removed xs i k)
    ∙ sym (ap (λ m. join (trees_of (x ∷ take i xs)) (trees_of (drop m (x ∷ xs)))) j ∙ ap (λ z. join z (trees_of (drop (i + 1) xs))) (trees-first x (take i xs)))

pub declaration_gone : (g i : ℕ) (old xs new : List Item) (x : Item) → i < length xs → x ≡ get_or xs i x → is_declaration g (tree_at x) ≡ true →
    new ≡ remove xs i → Passed g i old xs → trees_of new ≡ undeclared g (trees_of old)
declaration_gone g i old xs new x h e d r p =
    let rest = trees_of (drop (i + 1) xs) in
    ap trees_of r ∙ removed xs i h
    ∙ sym (ap (λ z. undeclared g (trees_of z)) (sym p.same) ∙ p.rest ∙ ap (λ z. join (trees_of (take i xs)) (undeclared g z)) (trees-at xs i x h e)
    ∙ ap (λ b. join (trees_of (take i xs)) (cond b rest (Then (tree_at x) (undeclared g rest)))) d)

pub none_declared : (g i : ℕ) (old xs : List Item) → length xs ≤ i → Passed g i old xs → trees_of xs ≡ undeclared g (trees_of old)
none_declared g i old xs h p =
    sym (ap (λ z. undeclared g (trees_of z)) (sym p.same) ∙ p.rest
    ∙ ap₂ join (ap trees_of (take_all i xs h)) (ap (undeclared g) (trees-end xs i h)) ∙ join-nil (trees_of xs))

-- ---- the next change of a function

first_some : {A : Type 0} (cs : List A) (c : A) → Some c ≡ first cs → (later : List A) × (cs ≡ c ∷ later)
first_some [] c e = cc
first_some (d ∷ ds) c e = let g : c ≡ d = cc in (ds, ap (λ z. z ∷ ds) (sym g))

first_none : {A : Type 0} (cs : List A) → None ≡ first cs → cs ≡ []
first_none [] e = refl
first_none (d ∷ ds) e = absurd (some_none d (sym e))

next_is : (f : FunctionTree) (a : Forest) → f.body ≡ Some a → next_list f 1 a ≡ first (changes_of f)
next_is f a h = search_laws_hold.whole f a h ∙ sym (ap (λ b. first (option_map_or (changes f) b [])) h)

pub body_changed : (f : FunctionTree) (g : ℕ) (a b d : Forest) → f.body ≡ Some a → Some (g, b) ≡ next_list f 1 a → d ≡ undeclared g b →
    IsBodyChanged f (Some g) (Some d)
body_changed f g a b d e h k = let l = first_some (changes_of f) (g, b) (h ∙ next_is f a e) in (b, l.0, l.1, ap Some k)

pub body_settled : (f : FunctionTree) (a : Forest) → f.body ≡ Some a → None ≡ next_list f 1 a → changes_of f ≡ []
body_settled f a e h = first_none (changes_of f) (h ∙ next_is f a e)

pub no_body : (f : FunctionTree) → f.body ≡ None → changes_of f ≡ []
no_body f e = ap (λ b. option_map_or (changes f) b []) e
