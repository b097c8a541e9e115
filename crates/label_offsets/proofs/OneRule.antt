-- Where a label has one Land, no two rules apply to a Leap.
use Rattle.std.proofs.Common.{◌≡◌, ◌≢◌, inl, inr, ℕ, ◌<◌, List, [], Some, unwrap_or, slice_get, refl, sym, ap, subst, ◌∙◌, arith}
use Rattle.std.proofs.lemmas.Bool.{cases_eq}
use Rattle.c_tree.specs.declared.tree.Item.{Item, Land, out-roll-Item}
use Rattle.c_tree.specs.declared.tree.Item.TheOpen as O
use Rattle.c_tree.specs.declared.tree.Item.TheVariants.{rolls-Land}
use Rattle.c_tree.specs.declared.tree.Step.{Step}
use Rattle.c_tree.specs.declared.tree.Path.{Path}
use Rattle.c_tree.specs.Paths.{child, list_at, item_at}
use Rattle.c_tree.specs.Join.{CanJoin, list_there}
use Rattle.c_tree.specs.Labels.{lands, lands_inside}
use Rattle.c_tree.specs.Trees.{tree_of, trees_of}
use Rattle.c_tree.proofs.PathLemmas.{and_then_some}
use Rattle.c_tree.proofs.RuleChanges.{held_some}
use Rattle.label_offsets.specs.declared.places.Rule.{Rule}
use Rattle.label_offsets.specs.declared.places.Rule.TheVariants.{SiblingBefore, SiblingAfter, InwardOf, LiftOf, Outward}
use Rattle.label_offsets.specs.Marks.{held_F, held}
use Rattle.label_offsets.specs.Choice.{Applies, AreAlike, LeadsIn, IsLiftable, LeadsOut}
use Rattle.label_offsets.proofs.HeldLaws.{held-is}
use Rattle.label_offsets.proofs.PlaceCounts.{counted, counted-Land, child_lands, item_lands, two_lands, list_lands}

held-Land : (l : ℕ) → held l (Land l) ≡ 0
held-Land l = ap (held l) (sym (rolls-Land l)) ∙ ap (held_F l) (out-roll-Item (O.Land l))

module _ (body : List Item) (l : ℕ) (one : lands l (trees_of body) ≡ 1) (steps : List Step) (i : ℕ) where
  -- an item of the Leap's list that is the Land or holds it
  record Counts (P : ℕ → Type 0) (Q : Item → Type 0) : Type 0 where
    list : List Item
    list_is : list_at body steps ≡ Some list
    place : ℕ
    item : Item
    item_is : slice_get list place ≡ Some item
    at : P place
    kind : Q item
    some : 0 < counted l item

  found : (P : ℕ → Type 0) (Q : Item → Type 0) (k : ℕ) (x : Item) → item_at body steps k ≡ Some x → P k → Q x → 0 < counted l x → Counts P Q
  found P Q k x e p q s =
      let t = and_then_some (λ a. slice_get a k) (list_at body steps) x e in
      record { list = t.0; list_is = t.1; place = k; item = x; item_is = t.2; at = p; kind = q; some = s }

  joined : (j : ℕ) → CanJoin l i j steps body → Counts (λ k. Unit {0}) (λ x. x ≡ Land l)
  joined j h = found (λ k. Unit {0}) (λ x. x ≡ Land l) j (Land l) h.land tt refl (counted-Land l)

  lifted : IsLiftable l i steps body → Counts (λ k. k < i) (λ x. 0 < held l x)
  lifted h =
      let p = held_some (λ x. 0 < lands_inside l (tree_of x)) (item_at body steps h.place) h.applies.held in
      let some : 0 < held l p.0 = subst (λ n. 0 < n) (held-is l p.0) p.2 in
      found (λ k. k < i) (λ x. 0 < held l x) h.place p.0 p.1 h.applies.earlier some (omega (arith, some))

  led_in : LeadsIn l i steps body → Counts (λ k. i < k) (λ x. 0 < held l x)
  led_in h =
      let p = held_some (λ a. 0 < lands l (trees_of a)) (child h.branch h.item) h.held in
      let some : 0 < held l h.item = let n = p.2 in omega (arith, n, child_lands l h.branch h.item p.0 p.1) in
      found (λ k. i < k) (λ x. 0 < held l x) h.place h.item h.there h.later some (omega (arith, some))

  same_list : (a b : List Item) → list_at body steps ≡ Some a → list_at body steps ≡ Some b → b ≡ a
  same_list a b e f = let g : Some b ≡ Some a = sym f ∙ e in cc

  -- two places would count two Lands
  twice : {P Q : ℕ → Type 0} {R S : Item → Type 0} (c : Counts P R) (d : Counts Q S) → c.place ≢ d.place → ⊥
  twice c d n =
      let same = same_list c.list d.list c.list_is d.list_is in
      let there = ap (λ a. slice_get a d.place) (sym same) ∙ d.item_is in
      let s = c.some in
      let t = d.some in
      omega (arith, one, s, t, two_lands l c.list c.place d.place c.item d.item n c.item_is there, list_lands l body steps c.list c.list_is)

  -- a Land holds nothing
  land_or_held : {P Q : ℕ → Type 0} (c : Counts P (λ x. x ≡ Land l)) (d : Counts Q (λ x. 0 < held l x)) → ⊥
  land_or_held c d = elim (cases_eq c.place d.place) [
    | inl e ↦
        let same = same_list c.list d.list c.list_is d.list_is in
        let there = ap (λ a. slice_get a d.place) (sym same) ∙ d.item_is in
        let x : Some d.item ≡ Some c.item = sym there ∙ ap (slice_get c.list) (sym e) ∙ c.item_is in
        let y : d.item ≡ c.item = cc in
        let z : held l d.item ≡ 0 = ap (held l) (y ∙ c.kind) ∙ held-Land l in
        let k = d.kind in
        omega (arith, z, k)
    | inr n ↦ twice c d n
  ]

  before_and_after : Counts (λ k. k < i) (λ x. 0 < held l x) → Counts (λ k. i < k) (λ x. 0 < held l x) → ⊥
  before_and_after c d = twice c d (λ e. let p = c.at in let q = d.at in omega arith)

  led_out : {P : ℕ → Type 0} {Q : Item → Type 0} → LeadsOut l i steps body → Counts P Q → ⊥
  led_out h c =
      let none = h.applies.elsewhere in
      let same : lands l (trees_of (list_there body steps)) ≡ lands l (trees_of c.list) = ap (λ o. lands l (trees_of (unwrap_or o []))) c.list_is in
      let there = ap (λ (z : List Step). lands l (trees_of (list_there body z))) h.steps_are in
      let s = c.some in
      omega (arith, none, same, there, s, item_lands l c.list c.place c.item c.item_is)

module _ (body : List Item) (l : ℕ) (one : lands l (trees_of body) ≡ 1) (p : Path) where
  pub one_rule : (r s : Rule) (q t : Path) → Applies r l p q body → Applies s l p t body → AreAlike r s
  one_rule SiblingBefore SiblingBefore q t h k = tt
  one_rule SiblingBefore SiblingAfter q t h k = tt
  one_rule SiblingBefore LiftOf q t h k = land_or_held body l one p.steps p.item (joined body l one p.steps p.item q.item h)
      (lifted body l one p.steps p.item k)
  one_rule SiblingBefore InwardOf q t h k = land_or_held body l one p.steps p.item (joined body l one p.steps p.item q.item h)
      (led_in body l one p.steps p.item k)
  one_rule SiblingBefore Outward q t h k = led_out body l one p.steps p.item k (joined body l one p.steps p.item q.item h)
  one_rule SiblingAfter SiblingBefore q t h k = tt
  one_rule SiblingAfter SiblingAfter q t h k = tt
  one_rule SiblingAfter LiftOf q t h k = land_or_held body l one p.steps p.item (joined body l one p.steps p.item q.item h) (lifted body l one p.steps p.item k)
  one_rule SiblingAfter InwardOf q t h k = land_or_held body l one p.steps p.item (joined body l one p.steps p.item q.item h)
      (led_in body l one p.steps p.item k)
  one_rule SiblingAfter Outward q t h k = led_out body l one p.steps p.item k (joined body l one p.steps p.item q.item h)
  one_rule LiftOf SiblingBefore q t h k = land_or_held body l one p.steps p.item (joined body l one p.steps p.item t.item k)
      (lifted body l one p.steps p.item h)
  one_rule LiftOf SiblingAfter q t h k = land_or_held body l one p.steps p.item (joined body l one p.steps p.item t.item k) (lifted body l one p.steps p.item h)
  one_rule LiftOf LiftOf q t h k = tt
  one_rule LiftOf InwardOf q t h k = before_and_after body l one p.steps p.item (lifted body l one p.steps p.item h) (led_in body l one p.steps p.item k)
  one_rule LiftOf Outward q t h k = led_out body l one p.steps p.item k (lifted body l one p.steps p.item h)
  one_rule InwardOf SiblingBefore q t h k = land_or_held body l one p.steps p.item (joined body l one p.steps p.item t.item k)
      (led_in body l one p.steps p.item h)
  one_rule InwardOf SiblingAfter q t h k = land_or_held body l one p.steps p.item (joined body l one p.steps p.item t.item k)
      (led_in body l one p.steps p.item h)
  one_rule InwardOf LiftOf q t h k = before_and_after body l one p.steps p.item (lifted body l one p.steps p.item k) (led_in body l one p.steps p.item h)
  one_rule InwardOf InwardOf q t h k = tt
  one_rule InwardOf Outward q t h k = led_out body l one p.steps p.item k (led_in body l one p.steps p.item h)
  one_rule Outward SiblingBefore q t h k = led_out body l one p.steps p.item h (joined body l one p.steps p.item t.item k)
  one_rule Outward SiblingAfter q t h k = led_out body l one p.steps p.item h (joined body l one p.steps p.item t.item k)
  one_rule Outward LiftOf q t h k = led_out body l one p.steps p.item h (lifted body l one p.steps p.item k)
  one_rule Outward InwardOf q t h k = led_out body l one p.steps p.item h (led_in body l one p.steps p.item k)
  one_rule Outward Outward q t h k = tt
