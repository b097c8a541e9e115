-- Expressions with a slot gone, which they don't name: facts of them stay, over the slots without it.
use mathlib.Core.Path.{ap₂}
use Rattle.std.proofs.Common.{ℕ, zero, suc, pred, ◌≤◌, ◌<◌, Bool, true, false, ◌&&◌, eqb, nat_lt, List, [], ◌∷◌, drop, slice_get, ◌≡◌, refl, sym, ap, ◌∙◌, true≢false, arith}
use Rattle.std.proofs.lemmas.Bool.Decides.{nat_tests}
use Rattle.std.specs.Option.{option_map_or}
use Rattle.std.proofs.lemmas.Bool.{and_parts, and_from, not-true}
use Rattle.c_tree.specs.declared.tree.Slot.{Slot}
use Rattle.c_tree.specs.declared.tree.Home.{Home}
use Rattle.c_tree.specs.declared.tree.Home.TheVariants as H
use Rattle.c_tree.specs.Constants.{kind_of, IsConstant}
use Rattle.c_tree.specs.ExpressionTrees.{ExpressionTree, PlaceTree, NodeTree, Arguments, Typed, Var, Cell, Number, Character, EnumName, Text, Array, Read, Unary, Cast, Binary, Conditional, Assign, Update, Count, Comma, Call, NoArgument, Argument}
use Rattle.c_tree.specs.TextExpressions.{slot_name, home_name}
use Rattle.c_resolved_defs.specs.Within.{Within, NodeWithin, PlaceWithin, ArgumentsWithin}
use Rattle.tidy_laws.specs.Mentions.{home_lacks, lacks, node_lacks, place_lacks, arguments_lack}
use Rattle.tidy_laws.specs.Renumbered.{new_number, without, renumbered_home, renumbered, renumbered_place, renumbered_node, renumbered_arguments}
use Rattle.tidy_laws.proofs.TidyChangesNumbers.{other, number_before, number_behind}

-- ---- slots without one

get_behind : (g x : ℕ) (ss : List Slot) → g ≤ x → slice_get (without g ss) x ≡ slice_get ss (suc x)
get_behind zero x [] l = refl
get_behind (suc g) x [] l = refl
get_behind zero x (s ∷ ss) l = refl
get_behind (suc g) zero (s ∷ ss) l = absurd (omega (arith, l))
get_behind (suc g) (suc x) (s ∷ ss) l = get_behind g x ss (omega (arith, l))

get_before : (g x : ℕ) (ss : List Slot) → x < g → slice_get (without g ss) x ≡ slice_get ss x
get_before zero x ss l = absurd (omega (arith, l))
get_before (suc g) x [] l = refl
get_before (suc g) zero (s ∷ ss) l = refl
get_before (suc g) (suc x) (s ∷ ss) l = get_before g x ss (omega (arith, l))

-- each other slot is there as before
pub same_get : (g x : ℕ) (ss : List Slot) → eqb x g ≡ false → slice_get (without g ss) (new_number g x) ≡ slice_get ss x
same_get g x ss h = at (nat_lt g x) refl
  where
    behind : (x : ℕ) → nat_lt g x ≡ true → slice_get (without g ss) (pred x) ≡ slice_get ss x
    behind zero i = let n : nat_lt g 0 ≡ false = grind (arith, nat_tests) in absurd (true≢false (sym i ∙ n))
    behind (suc x) i = get_behind g x ss (grind (arith, nat_tests))

    at : (b : Bool) → nat_lt g x ≡ b → slice_get (without g ss) (new_number g x) ≡ slice_get ss x
    at true i = ap (slice_get (without g ss)) (number_behind g x i) ∙ behind x i
    at false i = let n = other x g h in let l : x < g = grind (arith, nat_tests) in ap (slice_get (without g ss)) (number_before g x i) ∙ get_before g x ss l

pub drop_without : (P : List Slot → Type 0) (n g : ℕ) (ss : List Slot) → n ≤ g → ((h : ℕ) (ts : List Slot) → P ts → P (without h ts)) →
    P (drop n ss) → P (drop n (without g ss))
drop_without P zero g ss l f h = f g ss h
drop_without P (suc n) zero ss l f h = absurd (omega (arith, l))
drop_without P (suc n) (suc g) [] l f h = h
drop_without P (suc n) (suc g) (s ∷ ss) l f h = drop_without P n g ss (omega (arith, l)) f h

module _ (g : ℕ) (ss : List Slot) where
  abbrev pub fewer : List Slot
  fewer = without g ss

  pub slot_same : (x : ℕ) → eqb x g ≡ false → slot_name fewer (new_number g x) ≡ slot_name ss x
  slot_same x h = ap (λ o. option_map_or (λ (s : Slot). s.name) o []) (same_get g x ss h)

  pub home_same : (h : Home) → home_lacks g h ≡ true → home_name fewer (renumbered_home g h) ≡ home_name ss h
  home_same (H.Slot x) l = slot_same x (not-true (eqb x g) l)
  home_same (H.Global m) l = refl

-- ---- facts of each part of an expression

pub kind_stays : (g : ℕ) (e : ExpressionTree) → kind_of (renumbered g e) ≡ kind_of e
kind_stays g (Typed kind node) = refl

module _ (g : ℕ) (P Q : ExpressionTree → Type 0) (f : (e : ExpressionTree) → lacks g e ≡ true → P e → Q (renumbered g e)) where
  mutual
    pub within_without : (e : ExpressionTree) → lacks g e ≡ true → Within P e → Within Q (renumbered g e)
    within_without (Typed kind node) l h = (f (Typed kind node) l h.0, node_without node l h.1)

    node_without : (n : NodeTree) → node_lacks g n ≡ true → NodeWithin P n → NodeWithin Q (renumbered_node g n)
    node_without (Read at) l h = place_without at l h
    node_without (Unary op a) l h = within_without a l h
    node_without (Cast a) l h = within_without a l h
    node_without (Binary op a b) l h = let i = and_parts (lacks g a) (lacks g b) l in (within_without a i.0 h.0, within_without b i.1 h.1)
    node_without (Conditional a b c) l h =
        let i = and_parts (lacks g a) (lacks g b && lacks g c) l in
        let j = and_parts (lacks g b) (lacks g c) i.1 in (within_without a i.0 h.0, within_without b j.0 h.1, within_without c j.1 h.2)
    node_without (Assign at a) l h = let i = and_parts (place_lacks g at) (lacks g a) l in (place_without at i.0 h.0, within_without a i.1 h.1)
    node_without (Update op at a) l h = let i = and_parts (place_lacks g at) (lacks g a) l in (place_without at i.0 h.0, within_without a i.1 h.1)
    node_without (Count at up after) l h = place_without at l h
    node_without (Comma a b) l h = let i = and_parts (lacks g a) (lacks g b) l in (within_without a i.0 h.0, within_without b i.1 h.1)
    node_without (Call m xs) l h = arguments_without xs l h
    node_without _ l h = tt

    place_without : (at : PlaceTree) → place_lacks g at ≡ true → PlaceWithin P at → PlaceWithin Q (renumbered_place g at)
    place_without (Var h) l i = tt
    place_without (Cell h a) l i = within_without a (and_parts (home_lacks g h) (lacks g a) l).1 i

    arguments_without : (xs : Arguments) → arguments_lack g xs ≡ true → ArgumentsWithin P xs → ArgumentsWithin Q (renumbered_arguments g xs)
    arguments_without NoArgument l h = tt
    arguments_without (Argument x xs) l h = let i = and_parts (lacks g x) (arguments_lack g xs) l in (within_without x i.0 h.0, arguments_without xs i.1 h.1)

-- ---- constants name no slot

-- an expression that names no slot
abbrev pub IsFreeOf : ℕ → ExpressionTree → Type 0
IsFreeOf g e = (lacks g e ≡ true) × (renumbered g e ≡ e)

pub constant_free : (g : ℕ) (e : ExpressionTree) → IsConstant e → IsFreeOf g e
constant_free g (Typed kind (Number z)) h = (refl, refl)
constant_free g (Typed kind (Character b)) h = (refl, refl)
constant_free g (Typed kind (EnumName m z)) h = (refl, refl)
constant_free g (Typed kind (Unary op a)) h = let i = constant_free g a h in (i.0, ap (λ x. Typed kind (Unary op x)) i.1)
constant_free g (Typed kind (Cast a)) h = let i = constant_free g a h.1 in (i.0, ap (λ x. Typed kind (Cast x)) i.1)
constant_free g (Typed kind (Binary op a b)) h =
    let i = constant_free g a h.0 in
    let j = constant_free g b h.1 in (and_from (lacks g a) (lacks g b) i.0 j.0, ap₂ (λ x y. Typed kind (Binary op x y)) i.1 j.1)
constant_free g (Typed kind (Conditional a b c)) h =
    let i = constant_free g a h.0 in
    let j = constant_free g b h.1 in
    let k = constant_free g c h.2 in
    (and_from (lacks g a) (lacks g b && lacks g c) i.0 (and_from (lacks g b) (lacks g c) j.0 k.0), (λ t. Typed kind (Conditional (i.1 t) (j.1 t) (k.1 t))))
constant_free g (Typed kind (Text bs)) h = absurd h
constant_free g (Typed kind (Array a)) h = absurd h
constant_free g (Typed kind (Read at)) h = absurd h
constant_free g (Typed kind (Assign at a)) h = absurd h
constant_free g (Typed kind (Update op at a)) h = absurd h
constant_free g (Typed kind (Count at up after)) h = absurd h
constant_free g (Typed kind (Comma a b)) h = absurd h
constant_free g (Typed kind (Call m xs)) h = absurd h
