-- Where a Leap goes in.
use Rattle.std.proofs.Common.{◌≡◌, ℕ, ◌+◌, ◌<◌, ℤ, cond, nat_eq, slice_range, unwrap_or, List, [], ◌∷◌, ◌++◌, Option, Some, None, option_and_then, length, slice_get, refl, sym, ap, subst, ◌∙◌}
use Rattle.std.proofs.lemmas.Option.{slice_get_within}
use Rattle.c_tree.specs.declared.tree.Item.{Item, Item-F, Leap, Switch, out-Item, roll-Item, roll-out-Item}
use Rattle.c_tree.specs.declared.tree.Item.TheOpen as O
use Rattle.c_tree.specs.declared.tree.Item.TheVariants.{rolls-Switch}
use Rattle.c_tree.specs.declared.tree.Selector.{Selector}
use Rattle.c_tree.specs.declared.tree.Section.{Section}
use Rattle.c_tree.specs.declared.tree.Branch.{Branch}
use Rattle.c_tree.specs.declared.tree.Branch.TheVariants as B
use Rattle.c_tree.specs.declared.tree.Path.{Path}
use Rattle.c_tree.specs.declared.tree.Step.{Step}
use Rattle.c_tree.specs.Paths.{child, list_at, item_at}
use Rattle.c_tree.specs.Join.{guarded, list_there, Holds}
use Rattle.c_tree.specs.Labels.{lands}
use Rattle.c_tree.specs.Outward.{HasBranch}
use Rattle.c_tree.specs.Inward.{path_inside, CanMoveIn}
use Rattle.c_tree.specs.Trees.{tree_of, trees_of}
use Rattle.c_tree.specs.Cases.{SelectsBranch}
use Rattle.c_tree.proofs.ChangeLemmas.{layer_tree, tree-out}
use Rattle.c_tree.proofs.ExchangeLemmas.{list-append}
use Rattle.c_tree.proofs.PathLemmas.{and_then_some}
use Rattle.c_tree.proofs.RuleChanges.{held_some}
use Rattle.inward_moves.proofs.SpotLemmas.{spot-is}
use Rattle.label_offsets.specs.Marks.{label_at}
use Rattle.label_offsets.proofs.MarkLaws.{same_label, item_of_list}
use Rattle.inward_moves.specs.Entering.{LeadsTo, IsHeldAfter}

pub no_target : (body : List Item) (at : Path) → (h : IsHeldAfter body at) → (l : ℕ) (a : List Item) → Some l ≡ label_at body at →
    Some a ≡ list_at body at.steps
    → ((j : ℕ) (b : Branch) → at.item < j → Holds (LeadsTo l b) (slice_get a j) → ⊥) → ⊥
no_target body at h l a e t f =
    let m = same_label body at h.label l h.leap e in
    f h.place h.branch h.later
    (subst (Holds (LeadsTo l h.branch)) (item_of_list body at.steps a h.place t)
    (subst (λ n. Holds (LeadsTo n h.branch) (item_at body at.steps h.place)) m h.leads))

pub target_within : (l : ℕ) (b : Branch) (a : List Item) (j : ℕ) → Holds (LeadsTo l b) (slice_get a j) → j < length a
target_within l b a j h = let p = held_some (LeadsTo l b) (slice_get a j) h in slice_get_within a j p.0 p.1

held_there : {A : Type 0} (P : A → Type 0) (o : Option A) → Holds P o → Holds P (option_and_then (λ a. Some a) o)
held_there P None h = h
held_there P (Some x) h = h

pub goes_in : (body : List Item) (at : Path) (h : IsHeldAfter body at) (l : ℕ) (n : ℤ) (a : List Item) (j : ℕ) (b : Branch) (x : Item) →
    Some l ≡ label_at body at → Some a ≡ list_at body at.steps → at.item < j
    → Holds (LeadsTo l b) (slice_get a j) → slice_get a j ≡ Some x → SelectsBranch b n (tree_of x) → CanMoveIn l n at.item j b at.steps body
goes_in body at h l n a j b x e t after leads there number =
    let step : Step = record { item = j; branch = b } in
    let item = item_of_list body at.steps a j t ∙ there in
    let lead : LeadsTo l b x = subst (Holds (LeadsTo l b)) there leads in
    let list : list_at body (at.steps ++ step ∷ []) ≡ option_and_then (λ a. Some a) (child b x) =
    list-append body at.steps (step ∷ []) a (sym t) ∙ ap (option_and_then (λ x. option_and_then (λ a. list_at a []) (child b x))) there in
    record {
      leap = h.leap ∙ ap (λ (m : ℕ). Some (Leap m)) (same_label body at h.label l h.leap e);
      later = after;
      construct = subst (Holds (HasBranch b)) (sym item) lead.construct;
      held = subst (Holds (λ a. 0 < lands l (trees_of a))) (sym list) (held_there (λ a. 0 < lands l (trees_of a)) (child b x) lead.held);
      number = subst (Holds (λ x. SelectsBranch b n (tree_of x))) (sym item) number;
    }

-- where no section is selected, any number serves

pub other_branch : (b : Branch) (n : ℤ) (x : Item) → ((k : ℕ) → b ≡ B.Section k → ⊥) → SelectsBranch b n (tree_of x)
other_branch B.Body n x h = tt
other_branch B.Then n x h = tt
other_branch B.Else n x h = tt
other_branch (B.Section k) n x h = absurd (h k refl)

pub other_item : (k : ℕ) (n : ℤ) (x : Item) → ((s : Selector) (cs : List Section) → x ≡ Switch s cs → ⊥) → SelectsBranch (B.Section k) n (tree_of x)
other_item k n x h = subst (SelectsBranch (B.Section k) n) (sym (tree-out x)) (put (out-Item x) (sym (roll-out-Item x))) where
  put : (y : Item-F Item Section) → x ≡ roll-Item y → SelectsBranch (B.Section k) n (layer_tree y)
  put (O.Switch s cs) e = absurd (h s cs (e ∙ rolls-Switch s cs))
  put _ e = tt

-- the path that is answered

abbrev entry : Branch → List Step → ℕ → Path
entry b z k = record { steps = z ++ record { item = k; branch = b } ∷ []; item = 0 }

pub path_is : (body : List Item) (at : Path) (l : ℕ) (n : ℤ) (j : ℕ) (b : Branch) (p : ℕ) (steps : List Step) (to : Path) →
    CanMoveIn l n at.item j b at.steps body → p ≡ cond (nat_eq (at.item + 1) j) at.item (at.item + 1) → steps ≡ at.steps
    → to ≡ record { steps = steps ++ record { item = p; branch = b } ∷ []; item = 0 } → to ≡ path_inside l at.item j b at.steps body
path_is body at l n j b p steps to h e s f =
    let q = held_some _ (item_at body at.steps j) h.construct in
    let r = and_then_some (λ a. slice_get a j) (list_at body at.steps) q.0 q.1 in
    let there : list_there body at.steps ≡ r.0 = ap (λ o. unwrap_or o []) r.1 in
    let spot = e ∙ spot-is l at.item j r.0 h.later (slice_get_within r.0 j q.0 r.2) ∙
    ap (λ a. at.item + length (guarded l (slice_range a (at.item + 1) j))) (sym there) in
    f ∙ ap (λ (z : List Step). entry b z p) s ∙ ap (λ (k : ℕ). entry b at.steps k) spot
