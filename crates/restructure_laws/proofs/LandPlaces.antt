-- In a well made body the Land of a label stands at a path.
use Rattle.std.proofs.Common.{◌≡◌, ℕ, zero, suc, ◌≤◌, ◌<◌, Bool, true, false, cond, List, [], ◌∷◌, ◌++◌, Some, option_and_then, slice_get, refl, ap, subst, ◌∙◌, arith}
use Rattle.c_tree.specs.declared.tree.Item.{Item, Land, out-Item}
use Rattle.c_tree.specs.declared.tree.Path.{Path}
use Rattle.c_tree.specs.declared.tree.Step.{Step}
use Rattle.c_tree.specs.Everywhere.{Everywhere}
use Rattle.c_tree.specs.Labels.{lands, lands_inside}
use Rattle.c_tree.specs.Paths.{list_at, item_at}
use Rattle.c_tree.specs.Trees.{Tree, tree_of, trees_of}
use Rattle.c_tree.specs.WellMade.{IsConverted, IsPlainFor, HasSelectorKind, HasCases, IsWellMade}
use Rattle.c_tree.proofs.ChangeLemmas.{tree-out}
use Rattle.c_tree.proofs.ExchangeLemmas.{list-append}
use Rattle.c_tree.proofs.PathLemmas.{list_step}
use Rattle.label_offsets.specs.Marks.{is_land}
use Rattle.label_offsets.proofs.HeldLaws.{lands-parts, held-is, land-is}
use Rattle.label_offsets.proofs.ItemFacts.{holds_at}
use Rattle.move_order_laws.specs.Levels.{levels}
use Rattle.move_order_laws.proofs.ListTotals.{element_total}
use Rattle.move_order_laws.proofs.SomeMove.{layer_way, ElementWith, element_with}

pub record LandPlace (l : ℕ) (body : List Item) : Type 0 where
  pub path : Path
  pub stands : item_at body path.steps path.item ≡ Some (Land l)

module _ (l : ℕ) (body : List Item) (w : IsWellMade (trees_of body)) where
  -- in a list of the body, or deeper
  abbrev Deeper : List Item → Type 0
  Deeper a = (ss : List Step) (c : List Item) → list_at body ss ≡ Some c → 0 < lands l (trees_of c) → levels l (trees_of c) < levels l (trees_of a) →
      LandPlace l body

  at_land : (ss : List Step) (a : List Item) → list_at body ss ≡ Some a → (x : ElementWith l a) → is_land l x.item ≡ true → LandPlace l body
  at_land ss a e x t = record {
    path = record { steps = ss; item = x.place };
    stands = ap (option_and_then (λ z. slice_get z x.place)) e ∙ x.item_is ∙ ap (λ z. Some z) (land-is l x.item t);
  }

  in_element : (ss : List Step) (a : List Item) → list_at body ss ≡ Some a → (x : ElementWith l a) → 0 < lands_inside l (tree_of x.item) → Deeper a →
      LandPlace l body
  in_element ss a e x h deeper =
      let each = λ (P : Tree → Type 0) (k : Everywhere P (trees_of body)). subst P (tree-out x.item) (holds_at P body ss a x.place x.item e x.item_is k) in
      let y = layer_way l (out-Item x.item) (subst (λ z. 0 < lands_inside l z) (tree-out x.item) h) (each IsConverted w.converted)
      (each IsPlainFor w.loops) (each HasSelectorKind w.selectors) (each HasCases w.cases) in
      let step : Step = record { item = x.place; branch = y.branch } in
      let there = list-append body ss (step ∷ []) a e ∙ list_step a step [] x.item y.list x.item_is y.child_is in
      let less = element_total (lands_inside l) a x.place x.item y.branch y.list x.item_is y.child_is in
      deeper (ss ++ step ∷ []) y.list there y.held (omega (arith, less, h))

  by_element : (b : Bool) (ss : List Step) (a : List Item) → list_at body ss ≡ Some a → (x : ElementWith l a) → is_land l x.item ≡ b → Deeper a →
      LandPlace l body
  by_element true ss a e x t deeper = at_land ss a e x t
  by_element false ss a e x t deeper =
      let parts = lands-parts l x.item in
      let held = held-is l x.item in
      let some = x.some in
      let none : cond {A = ℕ} (is_land l x.item) 1 0 ≡ 0 = ap (λ b. cond {A = ℕ} b 1 0) t in
      in_element ss a e x (omega (arith, parts, held, some, none)) deeper

  within : (n : ℕ) (ss : List Step) (a : List Item) → list_at body ss ≡ Some a → 0 < lands l (trees_of a) → levels l (trees_of a) ≤ n → LandPlace l body
  within zero ss a e h b = let x = element_with l a h in by_element (is_land l x.item) ss a e x refl (λ ts c i k d. absurd (omega (arith, d, b)))
  within (suc n) ss a e h b = let x = element_with l a h in by_element (is_land l x.item) ss a e x refl (λ ts c i k d. within n ts c i k (omega (arith, d, b)))

  pub land_place : 0 < lands l (trees_of body) → LandPlace l body
  land_place h = within (levels l (trees_of body)) [] body refl h (omega arith)
