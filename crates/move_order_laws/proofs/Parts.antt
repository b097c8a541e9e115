-- What the lists are that a rule changes, and those that its Leap stands in before and after.
use Rattle.std.proofs.Common.{◌≡◌, ℕ, zero, suc, ◌+◌, ◌≤◌, ◌<◌, ℤ, List, [], ◌∷◌, ◌++◌, Some, option_map, option_and_then, unwrap_or, length, take, drop, slice_get, slice_set, slice_range, refl, sym, ap, subst, ◌∙◌, arith}
use Rattle.std.specs.Option.{option_map_or}
use Rattle.std.proofs.lemmas.List.{length-append, length-take-le}
use Rattle.std.proofs.lemmas.Option.{slice_get_within}
use Rattle.c_tree.specs.declared.tree.Item.{Item, Item-F, Do, Leap, Land, out-Item, out-roll-Item}
use Rattle.c_tree.specs.declared.tree.Item.TheOpen as O
use Rattle.c_tree.specs.declared.tree.Item.TheVariants.{rolls-Do}
use Rattle.c_tree.specs.declared.tree.Section.{Section}
use Rattle.c_tree.specs.declared.tree.Section as Real
use Rattle.c_tree.specs.declared.tree.Test.{On}
use Rattle.c_tree.specs.declared.tree.Branch.{Branch}
use Rattle.c_tree.specs.declared.tree.Branch.TheVariants as B
use Rattle.c_tree.specs.declared.tree.Path.{Path}
use Rattle.c_tree.specs.declared.tree.Step.{Step}
use Rattle.c_tree.specs.Paths.{list_of, with_list, child_F, child, list_at, put_at, item_at}
use Rattle.c_tree.specs.Join.{guarded, Holds, list_there, joined}
use Rattle.c_tree.specs.Lift.{lifted}
use Rattle.c_tree.specs.Outward.{moved_out, HasBranch_F, HasBranch}
use Rattle.c_tree.specs.Inward.{entered_F, entered, moved_in}
use Rattle.c_tree.specs.Labels.{lands, lands_inside}
use Rattle.c_tree.specs.Cases.{SelectsBranch}
use Rattle.c_tree.specs.Trees.{trees_of, tree_of}
use Rattle.c_tree.proofs.PathLemmas.{map_some, get_set, stepped, list_step, list_put}
use Rattle.c_tree.proofs.ExchangeLemmas.{list-append}
use Rattle.c_tree.proofs.MoveLemmas.{some_same}
use Rattle.c_tree.proofs.RuleChanges.{stands, held_some, item_there}
use Rattle.move_order_laws.specs.Next.{Point, GoesOut, IsLifted, GoesIn, IsJoined}

pub there_is : (xs : List Item) (steps : List Step) (a : List Item) → list_at xs steps ≡ Some a → list_there xs steps ≡ a
there_is xs steps a e = ap (λ o. unwrap_or o []) e

pub same_list : (xs : List Item) (steps : List Step) (a b : List Item) → list_at xs steps ≡ Some a → list_at xs steps ≡ Some b → b ≡ a
same_list xs steps a b e f = some_same (sym f ∙ e)

-- the item at a place of a list that is known
item_in : (xs : List Item) (steps : List Step) (i : ℕ) (a : List Item) (x : Item) → list_at xs steps ≡ Some a → item_at xs steps i ≡ Some x →
    slice_get a i ≡ Some x
item_in xs steps i a x e f = sym (ap (option_and_then (λ a. slice_get a i)) e) ∙ f

pub get_middle : {A : Type 0} (xs ys : List A) (x : A) (n : ℕ) → length xs ≡ n → slice_get (xs ++ x ∷ ys) n ≡ Some x
get_middle [] ys x zero e = refl
get_middle [] ys x (suc n) e = absurd (omega arith)
get_middle (z ∷ xs) ys x zero e = absurd (omega arith)
get_middle (z ∷ xs) ys x (suc n) e = get_middle xs ys x n (omega arith)

-- rule J
pub record JoinParts (l : ℕ) (p : Point) (new : List Item) (place : ℕ) : Type 0 where
  pub list : List Item
  pub list_is : list_at p.body p.at.steps ≡ Some list
  pub leap : slice_get list p.at.item ≡ Some (Leap l)
  pub land : slice_get list place ≡ Some (Land l)
  pub body : new ≡ put_at p.body p.at.steps (joined l p.at.item place list)

pub join_parts : (l : ℕ) (p : Point) (new : List Item) (h : IsJoined l p new) → JoinParts l p new h.place
join_parts l p new h =
    let s = stands p.body p.at.steps p.at.item (Leap l) h.moves.applies.leap in
    record {
      list = s.list;
      list_is = s.list_is;
      leap = s.item_is;
      land = item_in p.body p.at.steps h.place s.list (Land l) s.list_is h.moves.applies.land;
      body = h.moves.body ∙ ap (λ a. put_at p.body p.at.steps (joined l p.at.item h.place a)) (there_is p.body p.at.steps s.list s.list_is);
    }

-- rule L
pub record LiftParts (l : ℕ) (p q : Point) (place : ℕ) : Type 0 where
  pub list : List Item
  pub item : Item
  pub list_is : list_at p.body p.at.steps ≡ Some list
  pub leap : slice_get list p.at.item ≡ Some (Leap l)
  pub item_is : slice_get list place ≡ Some item
  pub earlier : place < p.at.item
  pub held : 0 < lands_inside l (tree_of item)
  pub body : q.body ≡ put_at p.body p.at.steps (lifted l p.at.item place list)
  pub steps : q.at.steps ≡ p.at.steps ++ record { item = place; branch = B.Body } ∷ []
  pub first : q.at.item ≡ 0

pub lift_parts : (l : ℕ) (p q : Point) (h : IsLifted l p q) → LiftParts l p q h.place
lift_parts l p q h =
    let s = stands p.body p.at.steps p.at.item (Leap l) h.moves.applies.leap in
    let x = held_some (λ x. 0 < lands_inside l (tree_of x)) (item_at p.body p.at.steps h.place) h.moves.applies.held in
    record {
      list = s.list;
      item = x.0;
      list_is = s.list_is;
      leap = s.item_is;
      item_is = item_in p.body p.at.steps h.place s.list x.0 s.list_is x.1;
      earlier = h.moves.applies.earlier;
      held = x.2;
      body = h.moves.body ∙ ap (λ a. put_at p.body p.at.steps (lifted l p.at.item h.place a)) (there_is p.body p.at.steps s.list s.list_is);
      steps = ap (λ (z : Path). z.steps) h.moves.path;
      first = ap (λ (z : Path). z.item) h.moves.path;
    }

-- the list of the Leap after rule L
pub lifted_child : (l i j : ℕ) (a : List Item) → j ≤ length a → slice_get (lifted l i j a) j ≡ Some (Do (Leap l ∷ slice_range a j i) (On l))
lifted_child l i j a h = get_middle (take j a) (drop (i + 1) a) (Do (Leap l ∷ slice_range a j i) (On l)) j (length-take-le j a h)

pub child-Do : (a : List Item) (l : ℕ) → child B.Body (Do a (On l)) ≡ Some a
child-Do a l = ap (child B.Body) (sym (rolls-Do a (On l))) ∙ ap (child_F B.Body) (out-roll-Item (O.Do a (On l)))

pub lifted_list : (l : ℕ) (p q : Point) (place : ℕ) (h : LiftParts l p q place) → list_at q.body q.at.steps ≡ Some (Leap l ∷ slice_range h.list place p.at.item)
lifted_list l p q place h =
    let n = slice_get_within h.list place h.item h.item_is in
    let w = lifted l p.at.item place h.list in
    let step : Step = record { item = place; branch = B.Body } in
    let a = Leap l ∷ slice_range h.list place p.at.item in
    ap (list_at q.body) h.steps
    ∙ ap (λ z. list_at z (p.at.steps ++ step ∷ [])) h.body
    ∙ list-append (put_at p.body p.at.steps w) p.at.steps (step ∷ []) w (list_put p.body p.at.steps w h.list h.list_is)
    ∙ list_step w step [] (Do a (On l)) a (lifted_child l p.at.item place h.list (omega arith)) (child-Do a l)

-- the last step of a way
pub record Ends (xs : List Item) (steps : List Step) (last : Step) (a : List Item) : Type 0 where
  pub list : List Item
  pub item : Item
  pub list_is : list_at xs steps ≡ Some list
  pub item_is : slice_get list last.item ≡ Some item
  pub child_is : child last.branch item ≡ Some a

pub ends : (xs : List Item) (steps : List Step) (last : Step) (a : List Item) → list_at xs (steps ++ last ∷ []) ≡ Some a → Ends xs steps last a
ends xs [] last a e =
    let t = stepped xs last [] a e in
    record { list = xs; item = t.item; list_is = refl; item_is = t.item_is; child_is = t.inner_is ∙ t.rest }
ends xs (s ∷ steps) last a e =
    let t = stepped xs s (steps ++ last ∷ []) a e in
    let r = ends t.inner steps last a t.rest in
    record {
      list = r.list;
      item = r.item;
      list_is = list_step xs s steps t.item t.inner t.item_is t.inner_is ∙ r.list_is;
      item_is = r.item_is;
      child_is = r.child_is;
    }

-- what holds of the item at a path
holds_of : (P : Item → Type 0) (xs : List Item) (steps : List Step) (i : ℕ) (x : Item) → item_at xs steps i ≡ Some x → Holds P (item_at xs steps i) → P x
holds_of P xs steps i x e h = subst (Holds P) e h

-- rule O
pub record OutParts (l : ℕ) (p q : Point) (outer : List Step) (last : Step) : Type 0 where
  -- the list of the construct, the construct, and the list of the Leap
  pub list : List Item
  pub item : Item
  pub inner : List Item
  pub list_is : list_at p.body outer ≡ Some list
  pub item_is : slice_get list last.item ≡ Some item
  pub inner_is : child last.branch item ≡ Some inner
  pub all_is : list_at p.body (outer ++ last ∷ []) ≡ Some inner
  pub leap : slice_get inner p.at.item ≡ Some (Leap l)
  pub branch : HasBranch last.branch item
  pub elsewhere : lands l (trees_of inner) ≡ 0
  pub body : q.body ≡ put_at p.body outer (moved_out l last.item last.branch p.at.item list)
  pub steps : q.at.steps ≡ outer
  pub after : q.at.item ≡ last.item + 1

pub out_parts : (l : ℕ) (p q : Point) (h : GoesOut l p q) → OutParts l p q h.outer h.last
out_parts l p q h =
    let s = stands p.body (h.outer ++ h.last ∷ []) p.at.item (Leap l) h.moves.applies.leap in
    let r = ends p.body h.outer h.last s.list s.list_is in
    record {
      list = r.list;
      item = r.item;
      inner = s.list;
      list_is = r.list_is;
      item_is = r.item_is;
      inner_is = r.child_is;
      all_is = s.list_is;
      leap = s.item_is;
      branch = holds_of (HasBranch h.last.branch) p.body h.outer h.last.item r.item
          (item_there p.body h.outer h.last.item r.list r.item r.list_is r.item_is) h.moves.applies.construct;
      elsewhere = ap (λ z. lands l (trees_of z)) (sym (there_is p.body (h.outer ++ h.last ∷ []) s.list s.list_is)) ∙ h.moves.applies.elsewhere;
      body = h.moves.body ∙ ap (λ a. put_at p.body h.outer (moved_out l h.last.item h.last.branch p.at.item a)) (there_is p.body h.outer r.list r.list_is);
      steps = ap (λ (z : Path). z.steps) h.moves.path;
      after = ap (λ (z : Path). z.item) h.moves.path;
    }

-- rule I
pub record InParts (l : ℕ) (p q : Point) (n : ℤ) (place : ℕ) (b : Branch) : Type 0 where
  pub list : List Item
  pub item : Item
  pub inner : List Item
  pub list_is : list_at p.body p.at.steps ≡ Some list
  pub leap : slice_get list p.at.item ≡ Some (Leap l)
  pub item_is : slice_get list place ≡ Some item
  pub inner_is : child b item ≡ Some inner
  pub later : p.at.item < place
  pub branch : HasBranch b item
  pub held : 0 < lands l (trees_of inner)
  pub number : SelectsBranch b n (tree_of item)
  pub body : q.body ≡ put_at p.body p.at.steps (moved_in l n p.at.item place b list)
  pub steps : q.at.steps ≡ p.at.steps ++ record { item = p.at.item + length (guarded l (slice_range list (p.at.item + 1) place)); branch = b } ∷ []
  pub first : q.at.item ≡ 0

pub in_parts : (l : ℕ) (p q : Point) (h : GoesIn l p q) → InParts l p q h.number h.place h.branch
in_parts l p q h =
    let s = stands p.body p.at.steps p.at.item (Leap l) h.moves.applies.leap in
    let step : Step = record { item = h.place; branch = h.branch } in
    let c = held_some (λ a. 0 < lands l (trees_of a)) (list_at p.body (p.at.steps ++ step ∷ [])) h.moves.applies.held in
    let r = ends p.body p.at.steps step c.0 c.1 in
    let there = item_there p.body p.at.steps h.place r.list r.item r.list_is r.item_is in
    record {
      list = s.list;
      item = r.item;
      inner = c.0;
      list_is = s.list_is;
      leap = s.item_is;
      item_is = item_in p.body p.at.steps h.place s.list r.item s.list_is there;
      inner_is = r.child_is;
      later = h.moves.applies.later;
      branch = holds_of (HasBranch h.branch) p.body p.at.steps h.place r.item there h.moves.applies.construct;
      held = c.2;
      number = holds_of (λ x. SelectsBranch h.branch h.number (tree_of x)) p.body p.at.steps h.place r.item there h.moves.applies.number;
      body = h.moves.body ∙ ap (λ a. put_at p.body p.at.steps (moved_in l h.number p.at.item h.place h.branch a)) (there_is p.body p.at.steps s.list s.list_is);
      steps =
          ap (λ (z : Path). z.steps) h.moves.path
          ∙ ap (λ a. p.at.steps ++ record { item = p.at.item + length (guarded l (slice_range a (p.at.item + 1) h.place)); branch = h.branch } ∷ [])
          (there_is p.body p.at.steps s.list s.list_is);
      first = ap (λ (z : Path). z.item) h.moves.path;
    }

-- the list of the Leap after rule I

layer_entered : (l : ℕ) (n : ℤ) (b : Branch) (y : Item-F Item Section) (a : List Item) → child_F b y ≡ Some a → HasBranch_F b y →
    child_F b (entered_F l n b y) ≡ Some (Leap l ∷ a)
layer_entered l n B.Then (O.If t x z) a e h = let g : x ≡ a = cc in ap (λ v. Some (Leap l ∷ v)) g
layer_entered l n B.Else (O.If t x z) a e h = let g : z ≡ a = cc in ap (λ v. Some (Leap l ∷ v)) g
layer_entered l n B.Body (O.While t x) a e h = let g : x ≡ a = cc in ap (λ v. Some (Leap l ∷ v)) g
layer_entered l n B.Body (O.Do x t) a e h = let g : x ≡ a = cc in ap (λ v. Some (Leap l ∷ v)) g
layer_entered l n (B.Section k) (O.Switch s cs) a e h =
    let q = map_some list_of (slice_get cs k) a e in
    let made = with_list (Leap l ∷ list_of q.0) q.0 in
    ap (λ o. option_map list_of (slice_get (option_map_or (λ c. slice_set cs k (with_list (Leap l ∷ list_of c) c)) o cs) k)) q.1
    ∙ ap (option_map list_of) (get_set cs k q.0 made q.1)
    ∙ ap Some (list_with (Leap l ∷ list_of q.0) q.0 ∙ ap (λ v. Leap l ∷ v) q.2) where
      list_with : (w : List Item) (c : Section) → list_of (with_list w c) ≡ w
      list_with w c =
          let o = Real.out-Section c in
          ap (λ (z : Real.Section-F Item Section). z.list) (Real.out-roll-Section (record { cases = o.cases; default = o.default; list = w; ends = o.ends }))
layer_entered l n _ _ a e h = absurd h

pub entered_child : (l : ℕ) (n : ℤ) (b : Branch) (x : Item) (a : List Item) → child b x ≡ Some a → HasBranch b x → child b (entered l n b x) ≡ Some (Leap l ∷ a)
entered_child l n b x a e h = ap (child_F b) (out-roll-Item (entered_F l n b (out-Item x))) ∙ layer_entered l n b (out-Item x) a e h

pub moved_in_is : (l : ℕ) (n : ℤ) (i j : ℕ) (b : Branch) (xs : List Item) (x : Item) → slice_get xs j ≡ Some x
    → moved_in l n i j b xs ≡ take i xs ++ guarded l (slice_range xs (i + 1) j) ++ entered l n b x ∷ drop (j + 1) xs
moved_in_is l n i j b xs x e = ap (λ o. option_map_or (λ x. take i xs ++ guarded l (slice_range xs (i + 1) j) ++ entered l n b x ∷ drop (j + 1) xs) o xs) e

pub entered_at : (l : ℕ) (n : ℤ) (i j : ℕ) (b : Branch) (xs : List Item) (x : Item) → i ≤ length xs → slice_get xs j ≡ Some x
    → slice_get (moved_in l n i j b xs) (i + length (guarded l (slice_range xs (i + 1) j))) ≡ Some (entered l n b x)
entered_at l n i j b xs x h e =
    let mid = guarded l (slice_range xs (i + 1) j) in
    ap (λ z. slice_get z (i + length mid)) (moved_in_is l n i j b xs x e)
    ∙ get_middle (take i xs ++ mid) (drop (j + 1) xs) (entered l n b x) (i + length mid)
    (length-append (take i xs) mid ∙ ap (λ z. z + length mid) (length-take-le i xs h))

pub entered_list : (l : ℕ) (p q : Point) (n : ℤ) (place : ℕ) (b : Branch) (h : InParts l p q n place b) → list_at q.body q.at.steps ≡ Some (Leap l ∷ h.inner)
entered_list l p q n place b h =
    let m = slice_get_within h.list p.at.item (Leap l) h.leap in
    let w = moved_in l n p.at.item place b h.list in
    let step : Step = record { item = p.at.item + length (guarded l (slice_range h.list (p.at.item + 1) place)); branch = b } in
    ap (list_at q.body) h.steps
    ∙ ap (λ z. list_at z (p.at.steps ++ step ∷ [])) h.body
    ∙ list-append (put_at p.body p.at.steps w) p.at.steps (step ∷ []) w (list_put p.body p.at.steps w h.list h.list_is)
    ∙ list_step w step [] (entered l n b h.item) (Leap l ∷ h.inner) (entered_at l n p.at.item place b h.list h.item (omega arith) h.item_is)
    (entered_child l n b h.item h.inner h.inner_is h.branch)

-- the list of the Leap after rule O
pub left_list : (l : ℕ) (p q : Point) (outer : List Step) (last : Step) (h : OutParts l p q outer last) →
    list_at q.body q.at.steps ≡ Some (moved_out l last.item last.branch p.at.item h.list)
left_list l p q outer last h =
    let w = moved_out l last.item last.branch p.at.item h.list in
    ap (list_at q.body) h.steps ∙ ap (λ z. list_at z outer) h.body ∙ list_put p.body outer w h.list h.list_is
