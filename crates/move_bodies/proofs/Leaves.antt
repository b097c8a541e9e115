-- What the driver knows while a Leap goes out, and when it goes in.
use Rattle.std.proofs.Common.{◌≡◌, ℕ, zero, suc, ◌<◌, List, [], ◌∷◌, ◌++◌, Bool, true, false, inl, inr, cond, Option, Some, None, option_and_then, slice_get, slice_range, refl, sym, ap, subst, ◌∙◌, arith}
use Rattle.std.specs.List.{position}
use Rattle.std.proofs.lemmas.List.Quantifiers.{position-Some}
use Rattle.std.proofs.lemmas.Option.{slice_get-get_or, slice_get_within, get_or_from_slice_get}
use Rattle.c_tree.specs.declared.tree.Item.{Item, Leap, Land, out-Item}
use Rattle.c_tree.specs.declared.tree.Path.{Path}
use Rattle.c_tree.specs.declared.tree.Step.{Step}
use Rattle.c_tree.specs.Paths.{list_at, item_at}
use Rattle.c_tree.specs.Join.{Holds, list_there}
use Rattle.c_tree.specs.Outward.{HasBranch}
use Rattle.c_tree.specs.Labels.{lands, lands_of, lands_inside}
use Rattle.c_tree.specs.Everywhere.{Everywhere}
use Rattle.c_tree.specs.Trees.{Tree, tree_of, trees_of}
use Rattle.c_tree.specs.WellMade.{IsConverted, IsPlainFor, HasSelectorKind, HasCases, IsWellMade}
use Rattle.c_tree.proofs.ChangeLemmas.{tree-out}
use Rattle.c_tree.proofs.TreeLaws.{tree-Leap}
use Rattle.c_tree.proofs.MoveLemmas.{some_same}
use Rattle.c_tree.proofs.RuleChanges.{Stands, stands}
use Rattle.label_offsets.specs.Marks.{is_land}
use Rattle.label_offsets.proofs.HeldLaws.{land-is, lands-parts, held-is}
use Rattle.label_offsets.proofs.ItemFacts.{holds_at}
use Rattle.label_offsets.proofs.ChoiceLaws.{one_land, leap_jumps}
use Rattle.sibling_elim.specs.Sibling.{HasSibling}
use Rattle.sibling_elim.proofs.PairLemmas.{present}
use Rattle.outward_moves.specs.Leaving.{IsHeldElsewhere}
use Rattle.inward_moves.specs.Entering.{LeadsTo, IsHeldAfter}
use Rattle.report_moves.specs.declared.moves.MoveKind.{MoveKind}
use Rattle.report_moves.specs.declared.moves.MoveKind.TheVariants.{Out, Lift, Inward}
use Rattle.move_order_laws.specs.Next.{Point, GoesOut, MovesBy}
use Rattle.move_order_laws.proofs.ListTotals.{lands_within}
use Rattle.move_order_laws.proofs.Parts.{there_is, ends, lift_parts, out_parts, in_parts, lifted_list, entered_list}
use Rattle.move_order_laws.proofs.MovesLeft.{lands-leap, range_held}
use Rattle.move_order_laws.proofs.SomeMove.{snoc, branch_of, none_or_some, ElementWith, element_with, layer_way}
use Rattle.move_bodies.specs.Moving.{IsMove}
use Rattle.move_bodies.specs.Leaving.{LeadsOn, IsAhead, AheadIf}

-- the Leap at a path whose list has no Land and holds none

module _ (body : List Item) (at : Path) (l : ℕ) (w : IsWellMade (trees_of body)) (leap : item_at body at.steps at.item ≡ Some (Leap l)) where
  here : Stands body at.steps at.item (Leap l)
  here = stands body at.steps at.item (Leap l) leap

  count : lands l (trees_of (list_there body at.steps)) ≡ lands l (trees_of here.list)
  count = ap (λ z. lands l (trees_of z)) (there_is body at.steps here.list here.list_is)

  in_construct : (s : Step) (ss : List Step) → at.steps ≡ s ∷ ss → lands l (trees_of here.list) ≡ 0 → IsHeldElsewhere body at
  in_construct s ss e none =
      let n = snoc s ss in
      let steps = e ∙ n.same in
      let all = ap (list_at body) (sym steps) ∙ here.list_is in
      let t = ends body n.outer n.last here.list all in
      let branch =
      branch_of n.last.branch (out-Item t.item) here.list t.child_is (leap_jumps here.list at.item l here.item_is)
      (subst IsConverted (tree-out t.item) (holds_at IsConverted body n.outer t.list n.last.item t.item t.list_is t.item_is w.converted))
      (subst IsPlainFor (tree-out t.item) (holds_at IsPlainFor body n.outer t.list n.last.item t.item t.list_is t.item_is w.loops)) in
      let there = ap (option_and_then (λ a. slice_get a n.last.item)) t.list_is ∙ t.item_is in
      record {
        label = l;
        outer = n.outer;
        last = n.last;
        steps = steps;
        applies = record {
          leap = ap (λ z. item_at body z at.item) (sym steps) ∙ leap;
          construct = subst (Holds (HasBranch n.last.branch)) (sym there) branch;
          elsewhere = ap (λ z. lands l (trees_of z)) (there_is body (n.outer ++ n.last ∷ []) here.list all) ∙ none;
        };
      }

  by_steps : (ss : List Step) → at.steps ≡ ss → lands l (trees_of here.list) ≡ 0 → IsHeldElsewhere body at
  by_steps [] e none =
      let f : Some body ≡ Some here.list = ap (list_at body) (sym e) ∙ here.list_is in
      let g = ap (λ z. lands l (trees_of z)) (some_same f) in
      let one = one_land body w l at leap in
      absurd (omega (arith, g, none, one))
  by_steps (s ∷ ss) e none = in_construct s ss e none

  pub held_elsewhere_here : lands l (trees_of (list_there body at.steps)) ≡ 0 → IsHeldElsewhere body at
  held_elsewhere_here none = by_steps at.steps refl (let c = count in omega (arith, c, none))

  -- the Leap first in a list that leads on

  pub joined_here : (j : ℕ) (list : List Item) → list_at body at.steps ≡ Some list → position (is_land l) list ≡ Some j → HasSibling body at
  joined_here j list e f =
      let p = position-Some (is_land l) list j (Land l) f in
      let x = slice_get-get_or list j (Land l) p.0 in
      record {
        label = l;
        place = j;
        applies = record { leap = leap; land = ap (option_and_then (λ a. slice_get a j)) e ∙ x ∙ ap (λ z. Some z) (land-is l _ p.1) };
      }

-- a list without the Land itself

no_land : (l : ℕ) (xs : List Item) (k : ℕ) (x : Item) → position (is_land l) xs ≡ None → slice_get xs k ≡ Some x → is_land l x ≡ true → ⊥
no_land l xs k x e f t =
    let n = slice_get_within xs k x f in
    let g = get_or_from_slice_get xs k x x f in
    present (is_land l) xs k x n (ap (is_land l) g ∙ t) e

module _ (body : List Item) (at : Path) (l : ℕ) (w : IsWellMade (trees_of body)) (leap : item_at body at.steps at.item ≡ Some (Leap l))
    (ahead : IsAhead l body at) where
  holds_inside : (x : Item) → 0 < lands_of l (tree_of x) → (is_land l x ≡ true → ⊥) → 0 < lands_inside l (tree_of x)
  holds_inside x s n = elim (none_or_some (lands_inside l (tree_of x))) [
    | inr i ↦ i
    | inl z ↦ absurd (n (by_test (is_land l x) refl z))
  ] where
    by_test : (b : Bool) → is_land l x ≡ b → lands_inside l (tree_of x) ≡ 0 → is_land l x ≡ true
    by_test true e z = e
    by_test false e z =
        let a = lands-parts l x in
        let b = held-is l x in
        let c : cond {A = ℕ} (is_land l x) 1 0 ≡ 0 = ap (λ z. cond {A = ℕ} z 1 0) e in
        absurd (omega (arith, a, b, c, s, z))

  in_element : (list : List Item) → list_at body at.steps ≡ Some list → ((x : Item) (k : ℕ) → slice_get list k ≡ Some x → is_land l x ≡ true → ⊥) →
      ElementWith l list → IsHeldAfter body at
  in_element list e none v =
      let first : slice_get list 0 ≡ Some (Leap l) = sym (ap (option_and_then (λ a. slice_get a 0)) e) ∙ ap (item_at body at.steps) (sym ahead.first) ∙ leap in
      let i = holds_inside v.item v.some (none v.item v.place v.item_is) in
      let each = λ (P : Tree → Type 0) (a : Everywhere P (trees_of body)). subst P (tree-out v.item)
      (holds_at P body at.steps list v.place v.item e v.item_is a) in
      let y = layer_way l (out-Item v.item) (subst (λ z. 0 < lands_inside l z) (tree-out v.item) i) (each IsConverted w.converted)
      (each IsPlainFor w.loops) (each HasSelectorKind w.selectors) (each HasCases w.cases) in
      let there = ap (option_and_then (λ a. slice_get a v.place)) e ∙ v.item_is in
      record {
        label = l;
        place = v.place;
        branch = y.branch;
        well_made = w;
        leap = leap;
        later = later (λ z. not_first first v z) ahead.first;
        leads = subst (Holds (LeadsTo l y.branch)) (sym there)
            (record { construct = y.has; held = subst (Holds (λ a. 0 < lands l (trees_of a))) (sym y.child_is) y.held });
      } where
        later : {k i : ℕ} → (k ≡ 0 → ⊥) → i ≡ 0 → i < k
        later {k} {i} n e = positive k n e where
          positive : (k : ℕ) → (k ≡ 0 → ⊥) → i ≡ 0 → i < k
          positive zero n e = absurd (n refl)
          positive (suc k) n e = omega arith

        not_first : slice_get list 0 ≡ Some (Leap l) → (v : ElementWith l list) → v.place ≡ 0 → ⊥
        not_first f v z =
            let x : Some v.item ≡ Some (Leap l) = sym v.item_is ∙ ap (slice_get list) z ∙ f in
            let g = ap (λ z. lands_of l (tree_of z)) (some_same x) ∙ ap (lands_of l) (tree-Leap l) in
            let s = v.some in
            omega (arith, g, s)

  pub held_after_here : (list : List Item) → list_at body at.steps ≡ Some list → position (is_land l) list ≡ None → IsHeldAfter body at
  held_after_here list e f =
      let leads = ahead.leads in
      let n = ap (λ z. lands l (trees_of z)) (there_is body at.steps list e) in
      in_element list e (λ x k g t. no_land l list k x f g t) (element_with l list (omega (arith, leads, n)))

-- where the list of the Leap leads on, it stands first in one that does after a move, or is joined

out_leads_nowhere : (l : ℕ) (p q : Point) → GoesOut l p q → LeadsOn l p.body p.at → ⊥
out_leads_nowhere l p q h leads =
    let t = out_parts l p q h in
    let here = ap (list_at p.body) h.steps ∙ t.all_is in
    let n = ap (λ z. lands l (trees_of z)) (there_is p.body p.at.steps t.inner here) in
    let z = t.elsewhere in
    omega (arith, n, z, leads)

ahead_by : (k : MoveKind) (l : ℕ) (p q : Point) → MovesBy k l p q → LeadsOn l p.body p.at → IsAhead l q.body q.at
ahead_by Out l p q h leads = absurd (out_leads_nowhere l p q h leads)
ahead_by Lift l p q h leads =
    let t = lift_parts l p q h in
    let a = slice_range t.list h.place p.at.item in
    let i = t.held in
    let w = lands_within l (tree_of t.item) in
    let r = range_held l t.list h.place p.at.item t.item t.earlier t.item_is (omega (arith, i, w)) in
    let n = ap (λ z. lands l (trees_of z)) (there_is q.body q.at.steps (Leap l ∷ a) (lifted_list l p q h.place t)) ∙ lands-leap l a in
    record { first = t.first; leads = omega (arith, n, r) }
ahead_by Inward l p q h leads =
    let t = in_parts l p q h in
    let i = t.held in
    let n = ap (λ z. lands l (trees_of z)) (there_is q.body q.at.steps (Leap l ∷ t.inner) (entered_list l p q h.number h.place h.branch t)) ∙
    lands-leap l t.inner in
    record { first = t.first; leads = omega (arith, n, i) }
ahead_by _ l p q h leads = absurd h

pub ahead_after : (l : ℕ) (at : Path) (kind : MoveKind) (to : Option Path) (old new : List Item) → IsMove l at kind to old new → LeadsOn l old at →
    AheadIf l new to
ahead_after l at kind None old new m leads = tt
ahead_after l at kind (Some to) old new m leads = ahead_by kind l (record { body = old; at = at }) (record { body = new; at = to }) m.moves leads
