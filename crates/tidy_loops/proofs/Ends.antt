-- From which place on the items of a list at a tail are at a tail.
use Rattle.std.proofs.Common.{ℕ, ◌+◌, ◌<◌, ◌≤◌, ◌≢◌, Bool, true, false, eqb, eqb-true, eq-eqb, true≢false, leb, List, length, drop, ◌≡◌, refl, sym, ap, ◌∙◌, arith}
use Rattle.std.proofs.lemmas.Bool.{leb-true, leb-false}
use Rattle.c_tree.specs.declared.tree.Item.{Item}
use Rattle.c_tree.specs.Trees.{trees_of}
use Rattle.tidy_laws.specs.Tails.{is_end}
use Rattle.tidy_loops.proofs.FormLaws.{end_none, end_more}

module _ (g : ℕ) (xs : List Item) where
  abbrev AtEnd : ℕ → Bool → Type 0
  AtEnd i b = b ≡ is_end g (trees_of (drop (i + 1) xs))

  pub last_only : (p : ℕ) → p + 1 ≡ length xs → ((q : ℕ) → q + 2 ≡ length xs → false ≡ is_end g (trees_of (drop (q + 1) xs)))
      → (i : ℕ) → i < length xs → leb p i ≡ is_end g (trees_of (drop (i + 1) xs))
  last_only p e h i l = by (leb p i) refl
    where
      before_last : (b : Bool) → eqb (i + 2) (length xs) ≡ b → i < p → AtEnd i false
      before_last true k m = h i (eqb-true (i + 2) (length xs) k)
      before_last false k m = end_more g i xs l (omega (arith, e, m)) (λ o. true≢false (sym (eq-eqb (i + 2) (length xs) o) ∙ k))

      by : (b : Bool) → leb p i ≡ b → leb p i ≡ is_end g (trees_of (drop (i + 1) xs))
      by true k = let m = leb-true p i k in k ∙ end_none g i xs (omega (arith, e, m, l))
      by false k = k ∙ before_last (eqb (i + 2) (length xs)) refl (leb-false p i k)

  pub last_two : (p : ℕ) → p + 2 ≡ length xs → true ≡ is_end g (trees_of (drop (p + 1) xs))
      → (i : ℕ) → i < length xs → leb p i ≡ is_end g (trees_of (drop (i + 1) xs))
  last_two p e h i l = by (leb p i) refl
    where
      at_place : (b : Bool) → eqb p i ≡ b → p ≤ i → AtEnd i true
      at_place true k m = h ∙ ap (λ z. is_end g (trees_of (drop (z + 1) xs))) (eqb-true p i k)
      at_place false k m =
          let n : p ≢ i = λ o. true≢false (sym (eq-eqb p i o) ∙ k) in
          end_none g i xs (omega (arith, e, m, l, n))

      by : (b : Bool) → leb p i ≡ b → leb p i ≡ is_end g (trees_of (drop (i + 1) xs))
      by true k = k ∙ at_place (eqb p i) refl (leb-true p i k)
      by false k = let m = leb-false p i k in k ∙ end_more g i xs l (omega (arith, e, m)) (omega (arith, e, m))
