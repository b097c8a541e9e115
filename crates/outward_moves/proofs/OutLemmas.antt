-- A Leap that goes out of a construct.
use Rattle.std.proofs.Common.{◌≡◌, ℕ, ◌+◌, ◌-◌, ◌<◌, List, [], ◌∷◌, ◌++◌, Some, length, take, drop, slice_get, slice_set, refl, sym, ap, subst, ◌∙◌, arith, append_assoc}
use Rattle.std.specs.Option.{option_map_or}
use Rattle.std.specs.List.{insert}
use Rattle.std.proofs.lemmas.List.{take_more_set, drop-set-lt}
use Rattle.std.proofs.lemmas.Option.{slice_get_within}
use Rattle.c_tree.specs.declared.tree.Item.{Item, Leap}
use Rattle.c_tree.specs.declared.tree.Branch.{Branch}
use Rattle.c_tree.specs.declared.tree.Path.{Path}
use Rattle.c_tree.specs.declared.tree.Step.{Step}
use Rattle.c_tree.specs.Paths.{child, list_at, item_at}
use Rattle.c_tree.specs.Join.{Holds}
use Rattle.c_tree.specs.Outward.{left, moved_out, CanMoveOut}
use Rattle.c_tree.proofs.PathLemmas.{stepped}
use Rattle.c_tree.proofs.ExchangeLemmas.{list-append}
use Rattle.c_tree.proofs.RuleChanges.{stands}
use Rattle.label_offsets.specs.Marks.{label_at}
use Rattle.label_offsets.proofs.MarkLaws.{same_label}
use Rattle.outward_moves.specs.Leaving.{IsHeldElsewhere}

-- the list of the construct, which is left and has the Leap put after it
pub moved_out-is : (l k : ℕ) (b : Branch) (i : ℕ) (xs ys : List Item) (x : Item) → slice_get xs k ≡ Some x →
    ys ≡ option_map_or (λ x. slice_set xs k (left l b i x)) (slice_get xs k) xs
    → insert ys (k + 1) (Leap l) ≡ moved_out l k b i xs
moved_out-is l k b i xs ys x g e =
    let z = left l b i x in
    let rest = Leap l ∷ drop (k + 1) xs in
    let within : k < length xs = slice_get_within xs k x g in
    let made : ys ≡ slice_set xs k z = e ∙ ap (λ o. option_map_or (λ x. slice_set xs k (left l b i x)) o xs) g in
    ap (λ y. insert y (k + 1) (Leap l)) made
    ∙ ap (λ a. a ++ Leap l ∷ drop (k + 1) (slice_set xs k z)) (take_more_set xs k z within)
    ∙ ap (λ (d : List Item). take k xs ++ z ∷ [] ++ Leap l ∷ d) (drop-set-lt (k + 1) xs k z (omega arith))
    ∙ append_assoc (take k xs) (z ∷ []) rest
    ∙ sym (ap (λ o. option_map_or (λ x. take k xs ++ left l b i x ∷ Leap l ∷ drop (k + 1) xs) o xs) g)

-- the last step of a way

record Ended (outer other : List Step) (last end : Step) : Type 0 where
  same : outer ≡ other
  step : last ≡ end

ended : (outer other : List Step) (last end : Step) → outer ++ last ∷ [] ≡ other ++ end ∷ [] → Ended outer other last end
ended [] [] last end e = record { same = refl; step = cc }
ended [] (o ∷ other) last end e = absurd (let n : [] ≡ other ++ end ∷ [] = cc in none other end n)
  where
    none : (xs : List Step) (x : Step) → [] ≡ xs ++ x ∷ [] → ⊥
    none [] x e = cc
    none (y ∷ xs) x e = cc
ended (o ∷ outer) [] last end e = absurd (let n : outer ++ last ∷ [] ≡ [] = cc in none outer last n)
  where
    none : (xs : List Step) (x : Step) → xs ++ x ∷ [] ≡ [] → ⊥
    none [] x e = cc
    none (y ∷ xs) x e = cc
ended (o ∷ outer) (p ∷ other) last end e =
    let first : o ≡ p = cc in
    let later : outer ++ last ∷ [] ≡ other ++ end ∷ [] = cc in
    let r = ended outer other last end later in
    record { same = ap (λ x. x ∷ outer) first ∙ ap (λ xs. p ∷ xs) r.same; step = r.step }

-- rule O applies with the label and the steps that were found
pub found_applies : (body : List Item) (at : Path) → IsHeldElsewhere body at → (l : ℕ) (outer : List Step) (last : Step) → Some l ≡ label_at body at →
    at.steps ≡ outer ++ last ∷ []
    → CanMoveOut l outer last at.item body
found_applies body at h l outer last e s =
    let r = ended h.outer outer h.last last (sym h.steps ∙ s) in
    let leap = ap (λ ss. item_at body ss at.item) h.steps ∙ h.applies.leap in
    let m = same_label body at h.label l leap e in
    subst (λ n. CanMoveOut n outer last at.item body) m
    (subst (λ o. CanMoveOut h.label o last at.item body) r.same (subst (λ s. CanMoveOut h.label h.outer s at.item body) r.step h.applies))

-- the list of the Leap in the list of its construct, as it is taken out
pub leap_in_construct : (l : ℕ) (outer : List Step) (last : Step) (i : ℕ) (body a : List Item) → CanMoveOut l outer last i body → list_at body outer ≡ Some a
    → Holds (λ x. Holds (λ b. i < length b) (child last.branch x)) (slice_get a last.item)
leap_in_construct l outer last i body a h t =
    let p = stands body (outer ++ last ∷ []) i (Leap l) h.leap in
    let r = stepped a last [] p.list (sym (list-append body outer (last ∷ []) a t) ∙ p.list_is) in
    let within : i < length p.list = slice_get_within p.list i (Leap l) p.item_is in
    let same : Some r.inner ≡ Some p.list = r.rest in
    let there : child last.branch r.item ≡ Some p.list = r.inner_is ∙ same in
    subst (λ o. Holds (λ x. Holds (λ b. i < length b) (child last.branch x)) o) (sym r.item_is)
    (subst (λ o. Holds (λ b. i < length b) o) (sym there) within)
