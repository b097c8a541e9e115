-- Where a rule makes a body of another, their trees differ in one place, by that rule on plain lists.
use Rattle.std.proofs.Common.{◌≡◌, ℕ, ℤ, List, [], ◌∷◌, ◌++◌, Option, Some, None, option_and_then, slice_get, refl, sym, ap, subst, ◌∙◌}
use Rattle.std.specs.Prelude.{unwrap_or}
use Rattle.c_tree.specs.declared.tree.Item.{Item, Leap, Land}
use Rattle.c_tree.specs.declared.tree.Branch.{Branch}
use Rattle.c_tree.specs.declared.tree.Step.{Step}
use Rattle.c_tree.specs.declared.tree.Path.{Path}
use Rattle.c_tree.specs.Paths.{child, list_at, put_at, item_at}
use Rattle.c_tree.specs.Join.{Holds, list_there, joined, Joins}
use Rattle.c_tree.specs.Lift.{lifted, Lifts}
use Rattle.c_tree.specs.Outward.{moved_out, HasBranch, MovesOut}
use Rattle.c_tree.specs.Inward.{moved_in, MovesIn}
use Rattle.c_tree.specs.Cases.{SelectsBranch}
use Rattle.c_tree.specs.Trees.{tree_of, trees_of}
use Rattle.c_tree.specs.Changed.{Changed}
use Rattle.c_tree.specs.Moves.{Moved}
use Rattle.c_tree.proofs.PathLemmas.{and_then_some, stepped, list_step}
use Rattle.c_tree.proofs.ChangeLemmas.{changed_at}
use Rattle.c_tree.proofs.MoveLemmas.{some_same, joined_changed, lifted_changed}
use Rattle.c_tree.proofs.CrossLemmas.{moved_out_changed, moved_in_changed}

-- an item that stands at a path
pub record Stands (xs : List Item) (steps : List Step) (i : ℕ) (x : Item) : Type 0 where
  pub list : List Item
  pub list_is : list_at xs steps ≡ Some list
  pub item_is : slice_get list i ≡ Some x

pub stands : (xs : List Item) (steps : List Step) (i : ℕ) (x : Item) → item_at xs steps i ≡ Some x → Stands xs steps i x
stands xs steps i x e = let p = and_then_some (λ a. slice_get a i) (list_at xs steps) x e in record { list = p.0; list_is = p.1; item_is = p.2 }

pub held_some : {A : Type 0} (P : A → Type 0) (o : Option A) → Holds P o → (x : A) × (o ≡ Some x) × P x
held_some P None h = absurd h
held_some P (Some x) h = (x, refl, h)

there_is : (xs : List Item) (steps : List Step) (a : List Item) → list_at xs steps ≡ Some a → list_there xs steps ≡ a
there_is xs steps a e = ap (λ o. unwrap_or o []) e

-- a body with the list at the steps changed by a function
changed_by : (f : List Item → List Item) (old new : List Item) (steps : List Step) (a : List Item) → list_at old steps ≡ Some a →
    new ≡ put_at old steps (f (list_there old steps))
    → Changed Moved (trees_of a) (trees_of (f a)) → Changed Moved (trees_of old) (trees_of new)
changed_by f old new steps a e h m =
    subst (λ z. Changed Moved (trees_of old) (trees_of z)) (sym (h ∙ ap (λ l. put_at old steps (f l)) (there_is old steps a e)))
    (changed_at Moved old steps a (f a) e m)

-- two items of one list
same_list : (old : List Item) (steps : List Step) (a b : List Item) → list_at old steps ≡ Some a → list_at old steps ≡ Some b → b ≡ a
same_list old steps a b e f = some_same (sym f ∙ e)

pub joins_changed : (l i j : ℕ) (steps : List Step) (old new : List Item) → Joins l i j steps old new → Changed Moved (trees_of old) (trees_of new)
joins_changed l i j steps old new h =
    let p = stands old steps i (Leap l) h.applies.leap in
    let q = stands old steps j (Land l) h.applies.land in
    let land = subst (λ z. slice_get z j ≡ Some (Land l)) (same_list old steps p.list q.list p.list_is q.list_is) q.item_is in
    changed_by (joined l i j) old new steps p.list p.list_is h.body (joined_changed l i j p.list p.item_is land)

pub lifts_changed : (l i j : ℕ) (steps : List Step) (old new : List Item) (to : Path) → Lifts l i j steps old new to →
    Changed Moved (trees_of old) (trees_of new)
lifts_changed l i j steps old new to h =
    let p = stands old steps i (Leap l) h.applies.leap in
    let s = held_some _ (item_at old steps j) h.applies.held in
    let q = stands old steps j s.0 s.1 in
    let item = subst (λ z. slice_get z j ≡ Some s.0) (same_list old steps p.list q.list p.list_is q.list_is) q.item_is in
    changed_by (lifted l i j) old new steps p.list p.list_is h.body (lifted_changed l i j p.list s.0 h.applies.earlier p.item_is item s.2)

-- the last step of a way
record Ends (xs : List Item) (steps : List Step) (last : Step) (a : List Item) : Type 0 where
  list : List Item
  item : Item
  list_is : list_at xs steps ≡ Some list
  item_is : slice_get list last.item ≡ Some item
  child_is : child last.branch item ≡ Some a

ends : (xs : List Item) (steps : List Step) (last : Step) (a : List Item) → list_at xs (steps ++ last ∷ []) ≡ Some a → Ends xs steps last a
ends xs [] last a e =
    let t = stepped xs last [] a e in
    record { list = xs; item = t.item; list_is = refl; item_is = t.item_is; child_is = t.inner_is ∙ t.rest }
ends xs (s ∷ steps) last a e =
    let t = stepped xs s (steps ++ last ∷ []) a e in
    let r = ends t.inner steps last a t.rest in
    record {
      list = r.list;
      item = r.item;
      list_is = list_step xs s steps t.item t.inner t.item_is t.inner_is ∙ r.list_is;
      item_is = r.item_is;
      child_is = r.child_is;
    }

pub item_there : (xs : List Item) (steps : List Step) (i : ℕ) (a : List Item) (x : Item) → list_at xs steps ≡ Some a → slice_get a i ≡ Some x →
    item_at xs steps i ≡ Some x
item_there xs steps i a x e f = ap (option_and_then (λ a. slice_get a i)) e ∙ f

-- what holds of the item at a path
holds_of : (P : Item → Type 0) (xs : List Item) (steps : List Step) (i : ℕ) (x : Item) → item_at xs steps i ≡ Some x → Holds P (item_at xs steps i) → P x
holds_of P xs steps i x e h = subst (Holds P) e h

pub moves_out_changed : (l : ℕ) (outer : List Step) (last : Step) (i : ℕ) (old new : List Item) (to : Path) → MovesOut l outer last i old new to →
    Changed Moved (trees_of old) (trees_of new)
moves_out_changed l outer last i old new to h =
    let p = stands old (outer ++ last ∷ []) i (Leap l) h.applies.leap in
    let r = ends old outer last p.list p.list_is in
    let branch = holds_of (HasBranch last.branch) old outer last.item r.item (item_there old outer last.item r.list r.item r.list_is r.item_is)
    h.applies.construct in
    changed_by (moved_out l last.item last.branch i) old new outer r.list r.list_is h.body
    (moved_out_changed l last.item i last.branch r.list r.item p.list r.item_is r.child_is p.item_is branch)

pub moves_in_changed : (l : ℕ) (n : ℤ) (i j : ℕ) (b : Branch) (steps : List Step) (old new : List Item) (to : Path) →
    MovesIn l n i j b steps old new to → Changed Moved (trees_of old) (trees_of new)
moves_in_changed l n i j b steps old new to h =
    let p = stands old steps i (Leap l) h.applies.leap in
    let step : Step = record { item = j; branch = b } in
    let q = held_some _ (list_at old (steps ++ step ∷ [])) h.applies.held in
    let r = ends old steps step q.0 q.1 in
    let there = item_there old steps j r.list r.item r.list_is r.item_is in
    let branch = holds_of (HasBranch b) old steps j r.item there h.applies.construct in
    let number = holds_of (λ x. SelectsBranch b n (tree_of x)) old steps j r.item there h.applies.number in
    let item = subst (λ z. slice_get z j ≡ Some r.item) (same_list old steps p.list r.list p.list_is r.list_is) r.item_is in
    changed_by (moved_in l n i j b) old new steps p.list p.list_is h.body
    (moved_in_changed l n i j b p.list r.item q.0 h.applies.later p.item_is item r.child_is q.2 branch number)
