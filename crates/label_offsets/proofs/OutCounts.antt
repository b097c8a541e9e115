-- Where the relation is Outward, the Land isn't in the Leap's list.
use Rattle.std.proofs.Common.{◌≡◌, ◌≢◌, inl, inr, ℕ, zero, suc, ◌+◌, ◌≤◌, List, [], ◌∷◌, Option, Some, None, Bool, true, false, cond, ◌&&◌, nat_lt, option_and_then, slice_get, refl, sym, ap, ◌∙◌, arith}
use Rattle.std.proofs.lemmas.Bool.{cases_eq, eq-eqb, true≢false}
use Rattle.c_tree.specs.declared.tree.Item.{Item, Item-F, Land, out-Item, out-roll-Item}
use Rattle.c_tree.specs.declared.tree.Item.TheOpen as O
use Rattle.c_tree.specs.declared.tree.Item.TheVariants.{rolls-Land}
use Rattle.c_tree.specs.declared.tree.Section.{Section}
use Rattle.c_tree.specs.declared.tree.Branch.{Branch}
use Rattle.c_tree.specs.declared.tree.Branch.TheVariants as B
use Rattle.c_tree.specs.declared.tree.Step.{Step}
use Rattle.c_tree.specs.Paths.{list_of, child_F, child, list_at, item_at}
use Rattle.c_tree.specs.Trees.{trees_of, sections_of}
use Rattle.c_tree.specs.Everywhere.{total_in}
use Rattle.c_tree.specs.Labels.{land_of, lands}
use Rattle.c_tree.proofs.PathLemmas.{Stepped, map_some, stepped, list_step}
use Rattle.label_offsets.specs.declared.places.Rule.TheVariants.{SiblingBefore, SiblingAfter, InwardOf, LiftOf, Outward}
use Rattle.label_offsets.specs.Marks.{held_F}
use Rattle.label_offsets.specs.Relation.{same_branch, same_step, relation}
use Rattle.label_offsets.proofs.HeldLaws.{section_lands-first}
use Rattle.label_offsets.proofs.PlaceCounts.{counted-Land, section_lands, child_lands, item_lands, two_lands, list_lands, land_inside}
use Rattle.label_offsets.proofs.RelationLaws.{same_step-is}

-- two lists of one item

two_sections : (l : ℕ) (cs : List Section) (i j : ℕ) (c d : Section) → i ≢ j → slice_get cs i ≡ Some c → slice_get cs j ≡ Some d
    → lands l (trees_of (list_of c)) + lands l (trees_of (list_of d)) ≤ total_in (land_of l) (sections_of cs)
two_sections l [] i j c d n e f = cc
two_sections l (x ∷ cs) zero zero c d n e f = absurd (n refl)
two_sections l (x ∷ cs) zero (suc j) c d n e f =
    let h : x ≡ c = cc in
    let g : lands l (trees_of (list_of x)) ≡ lands l (trees_of (list_of c)) = ap (λ z. lands l (trees_of (list_of z))) h in
    omega (arith, g, section_lands-first l x cs, section_lands l cs j d f)
two_sections l (x ∷ cs) (suc i) zero c d n e f =
    let h : x ≡ d = cc in
    let g : lands l (trees_of (list_of x)) ≡ lands l (trees_of (list_of d)) = ap (λ z. lands l (trees_of (list_of z))) h in
    omega (arith, g, section_lands-first l x cs, section_lands l cs i c e)
two_sections l (x ∷ cs) (suc i) (suc j) c d n e f = omega (arith, section_lands-first l x cs, two_sections l cs i j c d (λ h. n (ap suc h)) e f)

lands_alike : (l : ℕ) (x a : List Item) → Some x ≡ Some a → lands l (trees_of x) ≡ lands l (trees_of a)
lands_alike l x a e = let h : x ≡ a = cc in ap (λ z. lands l (trees_of z)) h

two_lists : (l : ℕ) (b d : Branch) (y : Item-F Item Section) (u v : List Item) → same_branch b d ≡ false → child_F b y ≡ Some u → child_F d y ≡ Some v
    → lands l (trees_of u) + lands l (trees_of v) ≤ held_F l y
two_lists l B.Then B.Else (O.If t x z) u v n e f = omega (arith, lands_alike l x u e, lands_alike l z v f)
two_lists l B.Else B.Then (O.If t x z) u v n e f = omega (arith, lands_alike l z u e, lands_alike l x v f)
two_lists l (B.Section i) (B.Section j) (O.Switch s cs) u v n e f =
    let p = map_some list_of (slice_get cs i) u e in
    let q = map_some list_of (slice_get cs j) v f in
    let differ : i ≢ j = λ h. true≢false (sym (eq-eqb i j h) ∙ n) in
    let g = ap (λ z. lands l (trees_of z)) p.2 in
    let h = ap (λ z. lands l (trees_of z)) q.2 in
    omega (arith, g, h, two_sections l cs i j p.0 q.0 differ p.1 q.1)
two_lists l B.Body B.Body y u v n e f = absurd (true≢false n)
two_lists l B.Then B.Then y u v n e f = absurd (true≢false n)
two_lists l B.Else B.Else y u v n e f = absurd (true≢false n)
two_lists l B.Body _ (O.While t x) u v n e f = cc
two_lists l B.Then B.Body (O.While t x) u v n e f = cc
two_lists l B.Else B.Body (O.While t x) u v n e f = cc
two_lists l (B.Section k) B.Body (O.While t x) u v n e f = cc
two_lists l B.Then (B.Section k) (O.If t x z) u v n e f = cc
two_lists l B.Else (B.Section k) (O.If t x z) u v n e f = cc
two_lists l (B.Section k) B.Then (O.If t x z) u v n e f = cc
two_lists l (B.Section k) B.Else (O.If t x z) u v n e f = cc
two_lists l _ _ _ u v n e f = cc

-- a Land has no lists

no_list : (l : ℕ) (b : Branch) → child_F b (O.Land l) ≡ None
no_list l B.Body = refl
no_list l B.Then = refl
no_list l B.Else = refl
no_list l (B.Section k) = refl

land_holds_nothing : (l : ℕ) (b : Branch) (a : List Item) → child b (Land l) ≡ Some a → ⊥
land_holds_nothing l b a e =
    let h : child b (Land l) ≡ None = ap (child b) (sym (rolls-Land l)) ∙ ap (child_F b) (out-roll-Item (O.Land l)) ∙ no_list l b in
    differ (child b (Land l)) e h where
      differ : (o : Option (List Item)) → o ≡ Some a → o ≡ None → ⊥
      differ None f g = cc
      differ (Some z) f g = cc

other_branch : (s t : Step) → same_step s t ≡ false → s.item ≡ t.item → same_branch s.branch t.branch ≡ false
other_branch s t e h = ap (λ b. b && same_branch s.branch t.branch) (sym (eq-eqb s.item t.item h)) ∙ e

same_item : {x y : Item} (xs : List Item) (i j : ℕ) → i ≡ j → slice_get xs i ≡ Some x → slice_get xs j ≡ Some y → y ≡ x
same_item {x} {y} xs i j h e f = let g : Some y ≡ Some x = sym f ∙ ap (slice_get xs) (sym h) ∙ e in cc

no_sibling : (b : Bool) → cond b SiblingBefore SiblingAfter ≡ Outward → ⊥
no_sibling true e = cc
no_sibling false e = cc

no_way : (b : Bool) → cond b LiftOf InwardOf ≡ Outward → ⊥
no_way true e = cc
no_way false e = cc

pub apart : (l : ℕ) (xs : List Item) (ss : List Step) (i : ℕ) (ts : List Step) (j : ℕ) (a : List Item) → relation ss i ts j ≡ Outward →
    list_at xs ss ≡ Some a → item_at xs ts j ≡ Some (Land l)
    → lands l (trees_of a) + 1 ≤ lands l (trees_of xs)
apart l xs [] i [] j a r e f = absurd (no_sibling (nat_lt i j) r)
apart l xs [] i (t ∷ ts) j a r e f = absurd (no_way (nat_lt t.item i) r)
apart l xs (s ∷ ss) i [] j a r e f =
    let x = stepped xs s ss a e in
    let within = list_lands l x.inner ss a x.rest in
    let held = child_lands l s.branch x.item x.inner x.inner_is in
    let one = counted-Land l in
    let differ : s.item ≢ j = λ h. land_holds_nothing l s.branch x.inner (ap (child s.branch) (same_item xs s.item j h x.item_is f) ∙ x.inner_is) in
    omega (arith, within, held, one, two_lands l xs s.item j x.item (Land l) differ x.item_is f)
apart l xs (s ∷ ss) i (t ∷ ts) j a r e f =
    let x = stepped xs s ss a e in
    put x (λ g h. apart l x.inner ss i ts j a g x.rest h) (same_step s t) refl r where
      put : (x : Stepped xs s ss a) → (relation ss i ts j ≡ Outward → item_at x.inner ts j ≡ Some (Land l) →
          lands l (trees_of a) + 1 ≤ lands l (trees_of x.inner))
          → (b : Bool) → same_step s t ≡ b → cond b (relation ss i ts j) Outward ≡ Outward → lands l (trees_of a) + 1 ≤ lands l (trees_of xs)
      put x more true k g =
          let there = ap (option_and_then (λ z. slice_get z j)) (sym (list_step xs s ts x.item x.inner x.item_is x.inner_is)) ∙
          ap (λ (z : Step). item_at xs (z ∷ ts) j) (same_step-is s t k) ∙ f in
          let held = child_lands l s.branch x.item x.inner x.inner_is in
          omega (arith, more g there, held, item_lands l xs s.item x.item x.item_is)
      put x more false k g =
          let y = land_inside l xs t ts j f in
          let within = list_lands l x.inner ss a x.rest in
          let some = y.in_list in
          elim (cases_eq s.item t.item) [
            | inl h ↦
                let same = same_item xs s.item t.item h x.item_is y.item_is in
                let two = two_lists l s.branch t.branch (out-Item x.item) x.inner y.list (other_branch s t k h) x.inner_is
                (ap (child t.branch) (sym same) ∙ y.list_is) in
                omega (arith, within, some, two, item_lands l xs s.item x.item x.item_is)
            | inr n ↦
                let held = child_lands l s.branch x.item x.inner x.inner_is in
                let other = child_lands l t.branch y.item y.list y.list_is in
                omega (arith, within, some, held, other, two_lands l xs s.item t.item x.item y.item n x.item_is y.item_is)
          ]
