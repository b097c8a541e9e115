-- An item after a Leap, in the list in which the items between are under the guard.
use Rattle.std.proofs.Common.{◌≡◌, ℕ, ◌+◌, ◌-◌, ◌<◌, ◌≤◌, ℤ, List, [], ◌∷◌, ◌++◌, Some, IsSome, Bool, true, false, cond, nat_eq, length, take, drop, slice_range, slice_get, slice_set, get_or, refl, sym, ap, subst, ◌∙◌, arith, rules, add-one, length-append}
use Rattle.std.specs.Option.{option_map_or}
use Rattle.std.proofs.Math.ListN.{length-take, length-drop}
use Rattle.std.proofs.lemmas.Bool.{eqb-true, eqb-false}
use Rattle.std.proofs.lemmas.Option.{slice_get_within, slice_get-get_or}
use Rattle.c_tree.specs.declared.tree.Item.{Item}
use Rattle.c_tree.specs.declared.tree.Branch.{Branch}
use Rattle.c_tree.specs.declared.tree.Step.{Step}
use Rattle.c_tree.specs.Paths.{child, list_at}
use Rattle.c_tree.specs.Join.{guarded, joined_after, Holds}
use Rattle.c_tree.specs.Inward.{entered, moved_in, CanMoveIn}
use Rattle.c_tree.proofs.PathLemmas.{stepped}
use Rattle.c_tree.proofs.ExchangeLemmas.{list-append}
use Rattle.c_tree.proofs.RuleChanges.{held_some}
use Rattle.c_tree.proofs.MoveLemmas.{drop_at}

get_behind : {X : Type 0} (a b : List X) (x : X) → slice_get (a ++ x ∷ b) (length a) ≡ Some x
get_behind [] b x = refl
get_behind (y ∷ a) b x = get_behind a b x

set_behind : {X : Type 0} (a b : List X) (x y : X) → slice_set (a ++ x ∷ b) (length a) y ≡ a ++ y ∷ b
set_behind [] b x y = refl
set_behind (z ∷ a) b x y = ap (λ l. z ∷ l) (set_behind a b x y)

guarded_none : (l i j : ℕ) (xs : List Item) → i + 1 ≡ j → length (guarded l (slice_range xs (i + 1) j)) ≡ 0
guarded_none l i j xs e = empty (slice_range xs (i + 1) j) (omega (arith, length-take (j - (i + 1)) (drop (i + 1) xs), length-drop (i + 1) xs)) where
  empty : (a : List Item) → length a ≡ 0 → length (guarded l a) ≡ 0
  empty [] h = refl
  empty (x ∷ a) h = absurd (omega arith)

guarded_one : (l i j : ℕ) (xs : List Item) → i + 1 < j → j ≤ length xs → length (guarded l (slice_range xs (i + 1) j)) ≡ 1
guarded_one l i j xs h k = some (slice_range xs (i + 1) j) (omega (arith, length-take (j - (i + 1)) (drop (i + 1) xs), length-drop (i + 1) xs)) where
  some : (a : List Item) → 0 < length a → length (guarded l a) ≡ 1
  some [] h = absurd (omega arith)
  some (x ∷ a) h = refl

beyond : (i j : ℕ) → i < j → (i + 1 ≡ j → ⊥) → i + 1 < j
beyond i j h n = omega arith

-- the place of the item
pub spot-is : (l i j : ℕ) (xs : List Item) → i < j → j < length xs → cond (nat_eq (i + 1) j) i (i + 1) ≡ i + length (guarded l (slice_range xs (i + 1) j))
spot-is l i j xs h k = put (nat_eq (i + 1) j) refl where
  put : (b : Bool) → nat_eq (i + 1) j ≡ b → cond b i (i + 1) ≡ i + length (guarded l (slice_range xs (i + 1) j))
  put true e = omega (arith, guarded_none l i j xs (eqb-true (i + 1) j e))
  put false e = omega (arith, guarded_one l i j xs (beyond i j h (eqb-false (i + 1) j e)) (omega arith))

module _ (l i j : ℕ) (xs : List Item) (x : Item) (h : i < j) (e : slice_get xs j ≡ Some x) where
  front : List Item
  front = take i xs ++ guarded l (slice_range xs (i + 1) j)

  front_length : length front ≡ i + length (guarded l (slice_range xs (i + 1) j))
  unfolding front
  front_length =
      let within = slice_get_within xs j x e in
      omega (arith, length-append (take i xs) (guarded l (slice_range xs (i + 1) j)), length-take i xs)

  whole : joined_after l i j xs ≡ front ++ x ∷ drop (j + 1) xs
  unfolding front
  whole = ap (λ d. take i xs ++ guarded l (slice_range xs (i + 1) j) ++ d) (rw add-one (drop_at xs j x e))

  pub item_there : (p : ℕ) → p ≡ i + length (guarded l (slice_range xs (i + 1) j)) → slice_get (joined_after l i j xs) p ≡ Some x
  item_there p q = ap (λ a. slice_get a p) whole ∙ ap (slice_get (front ++ x ∷ drop (j + 1) xs)) (q ∙ sym front_length) ∙ get_behind front (drop (j + 1) xs) x

  pub moved_in-is : (n : ℤ) (b : Branch) (p : ℕ) (ys zs : List Item) → p ≡ i + length (guarded l (slice_range xs (i + 1) j)) → ys ≡ joined_after l i j xs
      → zs ≡ option_map_or (λ x. slice_set ys p (entered l n b x)) (slice_get ys p) ys → zs ≡ moved_in l n i j b xs
  unfolding front
  moved_in-is n b p ys zs q f g =
      g ∙ ap (λ o. option_map_or (λ x. slice_set ys p (entered l n b x)) o ys) (ap (λ a. slice_get a p) f ∙ item_there p q)
      ∙ ap (λ a. slice_set a p (entered l n b x)) (f ∙ whole)
      ∙ ap (λ k. slice_set (front ++ x ∷ drop (j + 1) xs) k (entered l n b x)) (q ∙ sym front_length)
      ∙ set_behind front (drop (j + 1) xs) x (entered l n b x)
      ∙ sym (ap (λ o. option_map_or (λ x. take i xs ++ guarded l (slice_range xs (i + 1) j) ++ entered l n b x ∷ drop (j + 1) xs) o xs) e)

-- the item and its list in the list that is taken out
pub list_of_item : (l : ℕ) (n : ℤ) (i j : ℕ) (b : Branch) (steps : List Step) (body a : List Item) → CanMoveIn l n i j b steps body →
    list_at body steps ≡ Some a
    → Holds (λ x. IsSome (child b x)) (slice_get a j)
list_of_item l n i j b steps body a h t =
    let step : Step = record { item = j; branch = b } in
    let q = held_some _ (list_at body (steps ++ step ∷ [])) h.held in
    let r = stepped a step [] q.0 (sym (list-append body steps (step ∷ []) a t) ∙ q.1) in
    subst (λ o. Holds (λ x. IsSome (child b x)) o) (sym r.item_is) (subst (λ o. IsSome o) (sym r.inner_is) (search rules))

-- the item that was read
pub item_read : (xs : List Item) (j : ℕ) (x : Item) (P : Item → Type 0) → Holds P (slice_get xs j) → x ≡ get_or xs j x → slice_get xs j ≡ Some x
item_read xs j x P h e =
    let p = held_some P (slice_get xs j) h in
    slice_get-get_or xs j x (slice_get_within xs j p.0 p.1) ∙ ap Some (sym e)
