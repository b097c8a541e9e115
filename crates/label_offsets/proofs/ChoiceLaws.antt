-- In a well made body the rule of the relation applies.
use Rattle.std.proofs.Common.{◌≡◌, ℕ, suc, ◌<◌, ◌≤◌, List, [], ◌∷◌, ◌++◌, Option, Some, None, option_and_then, unwrap_or, take, drop, slice_get, refl, sym, ap, subst, ◌∙◌, arith}
use Rattle.c_tree.specs.declared.tree.Item.{Item, Item-F, Leap, Land, out-Item, out-roll-Item}
use Rattle.c_tree.specs.declared.tree.Item.TheOpen as O
use Rattle.c_tree.specs.declared.tree.Item.TheVariants.{rolls-Leap}
use Rattle.c_tree.specs.declared.tree.Section.{Section}
use Rattle.c_tree.specs.declared.tree.Branch.{Branch}
use Rattle.c_tree.specs.declared.tree.Branch.TheVariants as B
use Rattle.c_tree.specs.declared.tree.Path.{Path}
use Rattle.c_tree.specs.declared.tree.Step.{Step}
use Rattle.c_tree.specs.Paths.{child_F, child, list_at, item_at}
use Rattle.c_tree.specs.Join.{Holds, CanJoin, list_there}
use Rattle.c_tree.specs.Outward.{HasBranch_F, HasBranch}
use Rattle.c_tree.specs.Trees.{join, tree_of, trees_of, sections_of}
use Rattle.c_tree.specs.Changed.{one}
use Rattle.c_tree.specs.Labels.{lands, lands_inside, jumps, GuardLabels}
use Rattle.c_tree.specs.WellMade.{IsConverted, IsPlainFor, IsWellMade}
use Rattle.c_tree.proofs.TreeLaws.{tree-Leap}
use Rattle.c_tree.proofs.ChangeLemmas.{layer_tree, tree-out, trees-split}
use Rattle.c_tree.proofs.ExchangeLemmas.{list-append}
use Rattle.c_tree.proofs.KeptLemmas.{left_jumps, lands-jumps}
use Rattle.c_tree.proofs.PathLemmas.{Stepped, and_then_some, stepped, list_step}
use Rattle.label_offsets.specs.declared.places.Rule.{Rule}
use Rattle.label_offsets.specs.declared.places.Rule.TheVariants.{SiblingBefore, SiblingAfter, InwardOf, LiftOf, Outward}
use Rattle.label_offsets.specs.Relation.{relation, Means, IsFurther}
use Rattle.label_offsets.specs.Choice.{Applies, LeadsIn, IsLiftable, LeadsOut}
use Rattle.label_offsets.proofs.ItemFacts.{holds_at}
use Rattle.label_offsets.proofs.MarkLaws.{item_of_list}
use Rattle.label_offsets.proofs.PlaceCounts.{Held, land_inside}
use Rattle.label_offsets.proofs.OutCounts.{apart}
use Rattle.label_offsets.proofs.RelationLaws.{means}

-- a Leap has no lists

no_list : (l : ℕ) (b : Branch) → child_F b (O.Leap l) ≡ None
no_list l B.Body = refl
no_list l B.Then = refl
no_list l B.Else = refl
no_list l (B.Section k) = refl

leap_holds_nothing : (l : ℕ) (b : Branch) (a : List Item) → child b (Leap l) ≡ Some a → ⊥
leap_holds_nothing l b a e =
    let h : child b (Leap l) ≡ None = ap (child b) (sym (rolls-Leap l)) ∙ ap (child_F b) (out-roll-Item (O.Leap l)) ∙ no_list l b in
    absurd (differ (child b (Leap l)) e h) where
      differ : (o : Option (List Item)) → o ≡ Some a → o ≡ None → ⊥
      differ None f g = cc
      differ (Some z) f g = cc

-- where a jump stands in a list of an item, the item is an `if`, a `while`, a `do` or a `switch`

layer_branch : (b : Branch) (y : Item-F Item Section) (a : List Item) → child_F b y ≡ Some a → 0 < jumps (trees_of a) → IsConverted (layer_tree y) →
    IsPlainFor (layer_tree y) → HasBranch_F b y
unfolding trees_of sections_of
layer_branch B.Body (O.While t x) a e j c f = tt
layer_branch B.Body (O.Do x t) a e j c f = tt
layer_branch B.Body (O.For g t u x) a e j c f = let h : x ≡ a = cc in let z : jumps (trees_of x) ≡ jumps (trees_of a) =
    ap (λ z. jumps (trees_of z)) h in let w = f.1 in absurd (omega arith)
layer_branch B.Body (O.Block x) a e j c f = absurd c
layer_branch B.Then (O.If t x z) a e j c f = tt
layer_branch B.Else (O.If t x z) a e j c f = tt
layer_branch (B.Section k) (O.Switch s cs) a e j c f = tt
layer_branch _ _ a e j c f = cc

pub leap_jumps : (a : List Item) (i l : ℕ) → slice_get a i ≡ Some (Leap l) → 0 < jumps (trees_of a)
leap_jumps a i l e =
    let split = trees-split a i (Leap l) e ∙ ap (λ z. join (trees_of (take i a)) (join (one z) (trees_of (drop (suc i) a)))) (tree-Leap l) in
    subst (λ z. 0 < jumps z) (sym split) (left_jumps l (trees_of (take i a)) (trees_of (drop (suc i) a)))

-- the list before the last step, and the item that the step goes into
last_step : (xs : List Item) (outer : List Step) (last : Step) (a : List Item) → list_at xs (outer ++ last ∷ []) ≡ Some a →
    (list : List Item) × (list_at xs outer ≡ Some list) × Stepped list last [] a
last_step xs [] last a e = (xs, refl, stepped xs last [] a e)
last_step xs (s ∷ outer) last a e =
    let t = stepped xs s (outer ++ last ∷ []) a e in
    let r = last_step t.inner outer last a t.rest in
    (r.0, list_step xs s outer t.item t.inner t.item_is t.inner_is ∙ r.1, r.2)

module _ (body : List Item) (w : IsWellMade (trees_of body)) where
  branch_of : (steps : List Step) (list : List Item) (i : ℕ) (x : Item) (b : Branch) (a : List Item) → list_at body steps ≡ Some list →
      slice_get list i ≡ Some x → child b x ≡ Some a
      → 0 < jumps (trees_of a) → HasBranch b x
  branch_of steps list i x b a t e f j =
      layer_branch b (out-Item x) a f j
      (subst IsConverted (tree-out x) (holds_at IsConverted body steps list i x t e w.converted))
      (subst IsPlainFor (tree-out x) (holds_at IsPlainFor body steps list i x t e w.loops))

  -- the label of a Leap has one Land
  pub one_land : (l : ℕ) (at : Path) → item_at body at.steps at.item ≡ Some (Leap l) → lands l (trees_of body) ≡ 1
  one_land l at leap =
      let here = and_then_some (λ a. slice_get a at.item) (list_at body at.steps) (Leap l) leap in
      let P = GuardLabels (λ m. lands m (trees_of body) ≡ 1) in
      subst P (tree-Leap l) (holds_at P body at.steps here.0 at.item (Leap l) here.1 here.2 w.landed)

  module _ (l : ℕ) (p q : Path) (leap : item_at body p.steps p.item ≡ Some (Leap l)) (land : item_at body q.steps q.item ≡ Some (Land l)) where
    only : lands l (trees_of body) ≡ 1
    only = one_land l p leap

    here : (a : List Item) × (list_at body p.steps ≡ Some a) × (slice_get a p.item ≡ Some (Leap l))
    here = and_then_some (λ a. slice_get a p.item) (list_at body p.steps) (Leap l) leap

    goes_on : (P : ℕ → Type 0) (f : IsFurther P p.steps q.steps) → Held l here.0 f.next
    goes_on P f =
        let there = ap (λ (z : List Step). item_at body z q.item) (sym f.steps) ∙ land in
        land_inside l here.0 f.next f.rest q.item
        (sym (ap (option_and_then (λ a. slice_get a q.item)) (list-append body p.steps (f.next ∷ f.rest) here.0 here.1)) ∙ there)

    item_there : (k : ℕ) (x : Item) → slice_get here.0 k ≡ Some x → item_at body p.steps k ≡ Some x
    item_there k x e = item_of_list body p.steps here.0 k (sym here.1) ∙ e

    joins : q.steps ≡ p.steps → CanJoin l p.item q.item p.steps body
    joins e = record { leap = leap; land = ap (λ (z : List Step). item_at body z q.item) (sym e) ∙ land }

    lifts : IsFurther (λ k. k < p.item) p.steps q.steps → IsLiftable l p.item p.steps body
    lifts f =
        let h = goes_on (λ k. k < p.item) f in
        record {
          place = f.next.item;
          applies = record {
            leap = leap;
            earlier = f.item;
            held = subst (Holds (λ x. 0 < lands_inside l (tree_of x)))
                (sym (item_there f.next.item h.item h.item_is)) h.inside;
          };
        }

    goes_in : IsFurther (λ k. p.item ≤ k) p.steps q.steps → LeadsIn l p.item p.steps body
    goes_in f =
        let h = goes_on (λ k. p.item ≤ k) f in
        let more = lands-jumps l (trees_of h.list) in
        let some = h.in_list in
        record {
          place = f.next.item;
          branch = f.next.branch;
          item = h.item;
          later = beyond p.item f.next.item f.item (λ e. other h e);
          there = item_there f.next.item h.item h.item_is;
          construct = branch_of p.steps here.0 f.next.item h.item f.next.branch h.list here.1 h.item_is h.list_is (omega (arith, more, some));
          held = subst (Holds (λ a. 0 < lands l (trees_of a))) (sym h.list_is) h.in_list;
        } where
          beyond : (i k : ℕ) → i ≤ k → (i ≡ k → ⊥) → i < k
          beyond i k h n = omega arith

          other : (h : Held l here.0 f.next) → p.item ≡ f.next.item → ⊥
          other h e =
              let same : Some (Leap l) ≡ Some h.item = sym here.2 ∙ ap (slice_get here.0) e ∙ h.item_is in
              let x : Leap l ≡ h.item = cc in
              leap_holds_nothing l f.next.branch h.list (ap (child f.next.branch) x ∙ h.list_is)

    goes_out : relation p.steps p.item q.steps q.item ≡ Outward → (outer : List Step) (last : Step) → p.steps ≡ outer ++ last ∷ [] →
        LeadsOut l p.item p.steps body
    goes_out r outer last e = record {
      outer = outer;
      last = last;
      steps_are = e;
      applies = record { leap = ap (λ (z : List Step). item_at body z p.item) (sym e) ∙ leap; construct = construct; elsewhere = elsewhere };
    } where
      list : list_at body (outer ++ last ∷ []) ≡ Some here.0
      list = ap (list_at body) (sym e) ∙ here.1

      construct : Holds (HasBranch last.branch) (item_at body outer last.item)
      construct =
          let t = last_step body outer last here.0 list in
          subst (Holds (HasBranch last.branch)) (sym (item_of_list body outer t.0 last.item (sym t.1) ∙ t.2.item_is))
          (branch_of outer t.0 last.item t.2.item last.branch here.0 t.1 t.2.item_is (t.2.inner_is ∙ t.2.rest) (leap_jumps here.0 p.item l here.2))

      elsewhere : lands l (trees_of (list_there body (outer ++ last ∷ []))) ≡ 0
      elsewhere =
          let same : lands l (trees_of (list_there body (outer ++ last ∷ []))) ≡ lands l (trees_of here.0) =
          ap (λ o. lands l (trees_of (unwrap_or o []))) list in
          omega (arith, same, only, apart l body p.steps p.item q.steps q.item here.0 r here.1 land)

    by_rule : (r : Rule) → relation p.steps p.item q.steps q.item ≡ r → Means r p.steps p.item q.steps q.item → Applies r l p q body
    by_rule SiblingBefore e m = joins m.0
    by_rule SiblingAfter e m = joins m.0
    by_rule LiftOf e m = lifts m
    by_rule InwardOf e m = goes_in m
    by_rule Outward e m = goes_out e m.outer m.last m.steps

    pub rule_applies : Applies (relation p.steps p.item q.steps q.item) l p q body
    rule_applies = by_rule (relation p.steps p.item q.steps q.item) refl (means p.steps p.item q.steps q.item)
