-- Where the label has one Land, the next move of a Leap is one alone.
use Rattle.std.proofs.Common.{◌≡◌, inl, inr, ℕ, zero, suc, ◌+◌, ◌≤◌, ◌<◌, ℤ, pos, List, [], ◌∷◌, ◌++◌, Option, Some, None, option_map, take, drop, slice_get, slice_range, refl, sym, ap, ap₂, subst, ◌∙◌, arith}
use Rattle.std.specs.Prelude.{Contains}
use Rattle.std.specs.Option.{IsSomeAnd}
use Rattle.std.proofs.lemmas.Bool.{cases_lt}
use Rattle.std.proofs.lemmas.List.{same_from_push}
use Rattle.c_types.specs.declared.kinds.IntKind.{IntKind}
use Rattle.c_tree.specs.declared.tree.Item.{Item, Item-F, Land, out-Item, roll-Item}
use Rattle.c_tree.specs.declared.tree.Item.TheOpen as O
use Rattle.c_tree.specs.declared.tree.Section.{Section}
use Rattle.c_tree.specs.declared.tree.Branch.{Branch}
use Rattle.c_tree.specs.declared.tree.Branch.TheVariants as B
use Rattle.c_tree.specs.declared.tree.Path.{Path}
use Rattle.c_tree.specs.declared.tree.Step.{Step}
use Rattle.c_tree.specs.Paths.{list_of, child_F, child, list_at, put_at}
use Rattle.c_tree.specs.declared.tree.Test.{Test}
use Rattle.c_tree.specs.declared.tree.Selector.{Selector}
use Rattle.c_tree.specs.TestTrees.{selector_tree}
use Rattle.c_tree.specs.Join.{guarded, joined_at}
use Rattle.c_tree.specs.Lift.{lifted_at, path_lifted}
use Rattle.c_tree.specs.Outward.{HasBranch_F, HasBranch, moved_out_at, path_outside}
use Rattle.c_tree.specs.Inward.{entered_F, entered, moved_in, moved_in_at, path_inside}
use Rattle.c_tree.specs.Labels.{land_of, lands, lands_of, lands_inside}
use Rattle.c_tree.specs.Everywhere.{total_in}
use Rattle.c_tree.specs.ExpressionTrees.{ExpressionTree}
use Rattle.c_tree.specs.Cases.{SelectsBranch, IsNumberFor, IsFree, case_numbers, selector_kind, cases_at}
use Rattle.c_tree.specs.Trees.{Sections, tree_of, trees_of, sections_of}
use Rattle.c_tree.proofs.TreeLaws.{tree-Land}
use Rattle.c_tree.proofs.ChangeLemmas.{layer_tree, tree-out}
use Rattle.c_tree.proofs.MoveLemmas.{some_same}
use Rattle.label_offsets.proofs.HeldLaws.{section_lands-first}
use Rattle.report_moves.specs.declared.moves.MoveKind.{MoveKind}
use Rattle.report_moves.specs.declared.moves.MoveKind.TheVariants.{Out, Lift, Inward}
use Rattle.move_order_laws.specs.Next.{Point, GoesOut, IsLifted, GoesIn, IsJoined, MovesBy}
use Rattle.move_order_laws.proofs.ListTotals.{total-split, list_total, early_total, other_lists, lands_within}
use Rattle.move_order_laws.proofs.LandLevel.{lands-Land}
use Rattle.move_order_laws.proofs.Parts.{same_list, there_is, join_parts, lift_parts, out_parts, in_parts, moved_in_is}

-- two elements of a list, each of which is the one Land or holds it

early : (l : ℕ) (a : List Item) (j k : ℕ) (x y : Item) → slice_get a j ≡ Some x → slice_get a k ≡ Some y → 0 < lands_of l (tree_of x) →
    0 < lands_of l (tree_of y) → lands l (trees_of a) ≤ 1 → j < k → ⊥
early l a j k x y e f p q one h =
    let s = total-split (land_of l) a k y f in
    let t = early_total (land_of l) a k j x h e in
    omega (arith, s, t, p, q, one)

one_place : (l : ℕ) (a : List Item) (j k : ℕ) (x y : Item) → slice_get a j ≡ Some x → slice_get a k ≡ Some y → 0 < lands_of l (tree_of x) →
    0 < lands_of l (tree_of y) → lands l (trees_of a) ≤ 1 → j ≡ k
one_place l a j k x y e f p q one = elim (cases_lt j k) [
  | inl h ↦ absurd (early l a j k x y e f p q one h)
  | inr h ↦ elim (cases_lt k j) [
    | inl g ↦ absurd (early l a k j y x f e q p one g)
    | inr g ↦ omega arith
  ]
]

-- an element that is the Land or holds it, by the place of the Leap
record Target (l : ℕ) (p : Point) (place : ℕ) : Type 0 where
  list : List Item
  item : Item
  list_is : list_at p.body p.at.steps ≡ Some list
  item_is : slice_get list place ≡ Some item
  some : 0 < lands_of l (tree_of item)

abbrev lift_target : (l : ℕ) (p q : Point) (h : IsLifted l p q) → Target l p h.place
lift_target l p q h =
    let t = lift_parts l p q h in
    let w = lands_within l (tree_of t.item) in
    let k = t.held in
    record { list = t.list; item = t.item; list_is = t.list_is; item_is = t.item_is; some = omega (arith, w, k) }

in_inside : (l : ℕ) (x : Item) (b : Branch) (a : List Item) → child b x ≡ Some a → 0 < lands l (trees_of a) → 0 < lands_inside l (tree_of x)
in_inside l x b a e h = let o = other_lists b x a e in let i = o.inside l in omega (arith, i, h)

abbrev in_target : (l : ℕ) (p q : Point) (h : GoesIn l p q) → Target l p h.place
in_target l p q h =
    let t = in_parts l p q h in
    let i = in_inside l t.item h.branch t.inner t.inner_is t.held in
    let w = lands_within l (tree_of t.item) in
    record { list = t.list; item = t.item; list_is = t.list_is; item_is = t.item_is; some = omega (arith, w, i) }

abbrev join_target : (l : ℕ) (p : Point) (new : List Item) (h : IsJoined l p new) → Target l p h.place
join_target l p new h =
    let t = join_parts l p new h in
    let n = lands-Land l in
    record { list = t.list; item = Land l; list_is = t.list_is; item_is = t.land; some = omega (arith, n) }

holds_nothing : (l : ℕ) → lands_inside l (tree_of (Land l)) ≡ 0
holds_nothing l = ap (lands_inside l) (tree-Land l)

module _ (l : ℕ) (p : Point) (one : lands l (trees_of p.body) ≡ 1) where
  same_target : (j k : ℕ) (s : Target l p j) (t : Target l p k) → (j ≡ k) × (s.item ≡ t.item)
  same_target j k s t =
      let e = same_list p.body p.at.steps s.list t.list s.list_is t.list_is in
      let there = subst (λ z. slice_get z k ≡ Some t.item) e t.item_is in
      let few = list_total (land_of l) p.body p.at.steps s.list s.list_is in
      let n = one_place l s.list j k s.item t.item s.item_is there s.some t.some (omega (arith, few, one)) in
      let f : Some s.item ≡ Some t.item = sym s.item_is ∙ ap (slice_get s.list) n ∙ there in
      (n, some_same f)

  out_or : (q : Point) (h : GoesOut l p q) (j : ℕ) → Target l p j → ⊥
  out_or q h j s =
      let t = out_parts l p q h in
      let e = same_list p.body p.at.steps s.list t.inner s.list_is (ap (list_at p.body) h.steps ∙ t.all_is) in
      let n = ap (λ z. lands l (trees_of z)) e in
      let z = t.elsewhere in
      let m = total-split (land_of l) s.list j s.item s.item_is in
      let k = s.some in
      omega (arith, n, z, m, k)

  lift_or_in : (q r : Point) → IsLifted l p q → GoesIn l p r → ⊥
  lift_or_in q r h g =
      let n = (same_target h.place g.place (lift_target l p q h) (in_target l p r g)).0 in
      let a = (lift_parts l p q h).earlier in
      let b = (in_parts l p r g).later in
      omega (arith, n, a, b)

  lift_or_join : (q : Point) (new : List Item) → IsLifted l p q → IsJoined l p new → ⊥
  lift_or_join q new h g =
      let t = lift_parts l p q h in
      let n = (same_target h.place g.place (lift_target l p q h) (join_target l p new g)).1 in
      let a = ap (λ z. lands_inside l (tree_of z)) n ∙ holds_nothing l in
      let b = t.held in
      omega (arith, a, b)

  in_or_join : (q : Point) (new : List Item) → GoesIn l p q → IsJoined l p new → ⊥
  in_or_join q new h g =
      let t = in_parts l p q h in
      let n = (same_target h.place g.place (in_target l p q h) (join_target l p new g)).1 in
      let a = ap (λ z. lands_inside l (tree_of z)) n ∙ holds_nothing l in
      let b = in_inside l t.item h.branch t.inner t.inner_is t.held in
      omega (arith, a, b)

  -- no Leap that can be joined has another move
  pub join_alone : (k : MoveKind) (q : Point) (new : List Item) → MovesBy k l p q → IsJoined l p new → ⊥
  join_alone Out q new h g = out_or q h g.place (join_target l p new g)
  join_alone Lift q new h g = lift_or_join q new h g
  join_alone Inward q new h g = in_or_join q new h g
  join_alone _ q new h g = absurd h

  pub one_join : (new other : List Item) → IsJoined l p new → IsJoined l p other → new ≡ other
  one_join new other h g =
      let n = (same_target h.place g.place (join_target l p new h) (join_target l p other g)).0 in
      h.moves.body ∙ ap (λ j. joined_at l p.at.item j p.at.steps p.body) n ∙ sym g.moves.body

-- rule O

points : (p q : Point) → p.body ≡ q.body → p.at ≡ q.at → p ≡ q
points p q e f = ap₂ (λ (b : List Item) (a : Path). record { body = b; at = a }) e f

one_out : (l : ℕ) (p q r : Point) → GoesOut l p q → GoesOut l p r → q ≡ r
one_out l p q r h g =
    let s = same_from_push h.outer g.outer h.last g.last (sym h.steps ∙ g.steps) in
    points q r
    (h.moves.body ∙ ap₂ (λ (o : List Step) (z : Step). moved_out_at l o z p.at.item p.body) s.0 s.1 ∙ sym g.moves.body)
    (h.moves.path ∙ ap₂ path_outside s.0 s.1 ∙ sym g.moves.path)

-- rule I: the branch, and what the number does

section_some : (l : ℕ) (cs : List Section) (k : ℕ) (a : List Item) → option_map list_of (slice_get cs k) ≡ Some a →
    lands l (trees_of a) ≤ total_in (land_of l) (sections_of cs)
section_some l [] k a e = cc
section_some l (c ∷ cs) zero a e = let h : list_of c ≡ a = cc in let g = ap (λ z. lands l (trees_of z)) h in let m = section_lands-first l c cs in omega (arith, g, m)
section_some l (c ∷ cs) (suc k) a e = let m = section_lands-first l c cs in let h = section_some l cs k a e in omega (arith, m, h)

one_section : (l : ℕ) (cs : List Section) (j k : ℕ) (a c : List Item) → option_map list_of (slice_get cs j) ≡ Some a →
    option_map list_of (slice_get cs k) ≡ Some c → 0 < lands l (trees_of a) → 0 < lands l (trees_of c)
    → total_in (land_of l) (sections_of cs) ≤ 1 → j ≡ k
one_section l [] j k a c e f p q one = cc
one_section l (x ∷ cs) zero zero a c e f p q one = refl
one_section l (x ∷ cs) zero (suc k) a c e f p q one =
    let h : list_of x ≡ a = cc in let g = ap (λ z. lands l (trees_of z)) h in let m = section_lands-first l x cs in let n = section_some l cs k c f in
    absurd (omega (arith, g, m, n, p, q, one))
one_section l (x ∷ cs) (suc j) zero a c e f p q one =
    let h : list_of x ≡ c = cc in let g = ap (λ z. lands l (trees_of z)) h in let m = section_lands-first l x cs in let n = section_some l cs j a e in
    absurd (omega (arith, g, m, n, p, q, one))
one_section l (x ∷ cs) (suc j) (suc k) a c e f p q one = let m = section_lands-first l x cs in ap suc (one_section l cs j k a c e f p q (omega (arith, m, one)))

while_body : (b : Branch) (t : Test) (x : List Item) → HasBranch_F b (O.While t x) → b ≡ B.Body
while_body B.Body t x h = refl
while_body _ t x h = absurd h

do_body : (b : Branch) (t : Test) (x : List Item) → HasBranch_F b (O.Do x t) → b ≡ B.Body
do_body B.Body t x h = refl
do_body _ t x h = absurd h

if_branch : (l : ℕ) (b d : Branch) (t : Test) (x z a c : List Item) → child_F b (O.If t x z) ≡ Some a → child_F d (O.If t x z) ≡ Some c →
    0 < lands l (trees_of a) → 0 < lands l (trees_of c)
    → lands l (trees_of x) + lands l (trees_of z) ≤ 1 → b ≡ d
if_branch l B.Then B.Then t x z a c e f p q one = refl
if_branch l B.Else B.Else t x z a c e f p q one = refl
if_branch l B.Then B.Else t x z a c e f p q one =
    let g : x ≡ a = cc in let h : z ≡ c = cc in let m = ap (λ w. lands l (trees_of w)) g in let n = ap (λ w. lands l (trees_of w)) h in
    absurd (omega (arith, m, n, p, q, one))
if_branch l B.Else B.Then t x z a c e f p q one =
    let g : x ≡ c = cc in let h : z ≡ a = cc in let m = ap (λ w. lands l (trees_of w)) g in let n = ap (λ w. lands l (trees_of w)) h in
    absurd (omega (arith, m, n, p, q, one))
if_branch l B.Body d t x z a c e f p q one = cc
if_branch l (B.Section k) d t x z a c e f p q one = cc
if_branch l B.Then _ t x z a c e f p q one = cc
if_branch l B.Else _ t x z a c e f p q one = cc

switch_branch : (l : ℕ) (b d : Branch) (s : Selector) (cs : List Section) (a c : List Item) → child_F b (O.Switch s cs) ≡ Some a →
    child_F d (O.Switch s cs) ≡ Some c → 0 < lands l (trees_of a) → 0 < lands l (trees_of c)
    → total_in (land_of l) (sections_of cs) ≤ 1 → b ≡ d
switch_branch l (B.Section j) (B.Section k) s cs a c e f p q one = ap B.Section (one_section l cs j k a c e f p q one)
switch_branch l (B.Section j) _ s cs a c e f p q one = cc
switch_branch l _ d s cs a c e f p q one = cc

layer_branch : (l : ℕ) (y : Item-F Item Section) (b d : Branch) (a c : List Item) → child_F b y ≡ Some a → child_F d y ≡ Some c →
    0 < lands l (trees_of a) → 0 < lands l (trees_of c) → lands_inside l (layer_tree y) ≤ 1
    → HasBranch_F b y → HasBranch_F d y → b ≡ d
unfolding trees_of sections_of
layer_branch l (O.If t x z) b d a c e f p q one u v = if_branch l b d t x z a c e f p q (omega (arith, one))
layer_branch l (O.While t x) b d a c e f p q one u v = while_body b t x u ∙ sym (while_body d t x v)
layer_branch l (O.Do x t) b d a c e f p q one u v = do_body b t x u ∙ sym (do_body d t x v)
layer_branch l (O.Switch s cs) b d a c e f p q one u v = switch_branch l b d s cs a c e f p q (omega (arith, one))
layer_branch l _ B.Body d a c e f p q one u v = absurd u
layer_branch l _ B.Then d a c e f p q one u v = absurd u
layer_branch l _ B.Else d a c e f p q one u v = absurd u
layer_branch l _ (B.Section k) d a c e f p q one u v = absurd u

one_branch : (l : ℕ) (x : Item) (b d : Branch) (a c : List Item) → child b x ≡ Some a → child d x ≡ Some c → 0 < lands l (trees_of a) →
    0 < lands l (trees_of c) → lands_inside l (tree_of x) ≤ 1
    → HasBranch b x → HasBranch d x → b ≡ d
one_branch l x b d a c e f p q one u v = layer_branch l (out-Item x) b d a c e f p q (subst (λ t. lands_inside l t ≤ 1) (tree-out x) one) u v

-- the number for a section is one alone

free_below : (k : IntKind) (c : Sections) (n m : ℤ) (f : IsFree k c n) (g : IsFree k c m) → f.count < g.count → ⊥
free_below k c n m f g h = f.free (subst (λ z. Contains (case_numbers k c) (Some z)) (sym f.number) (g.least f.count h))

one_free : (k : IntKind) (c : Sections) (n m : ℤ) → IsFree k c n → IsFree k c m → n ≡ m
one_free k c n m f g = elim (cases_lt f.count g.count) [
  | inl h ↦ absurd (free_below k c n m f g h)
  | inr h ↦ elim (cases_lt g.count f.count) [
    | inl i ↦ absurd (free_below k c m n g f i)
    | inr i ↦ let e : f.count ≡ g.count = omega arith in f.number ∙ ap pos e ∙ sym g.number
  ]
]

one_number : (k : IntKind) (c : Sections) (cases : List ExpressionTree) (n m : ℤ) → IsNumberFor k c cases n → IsNumberFor k c cases m → n ≡ m
one_number k c [] n m f g = one_free k c n m f g
one_number k c (e ∷ es) n m f g = some_same (sym f ∙ g)

some_number : (o : Option IntKind) (c : Sections) (cases : List ExpressionTree) (n m : ℤ) → IsSomeAnd o (λ k. IsNumberFor k c cases n) →
    IsSomeAnd o (λ k. IsNumberFor k c cases m) → n ≡ m
some_number None c cases n m f g = absurd f
some_number (Some k) c cases n m f g = one_number k c cases n m f g

layer_entered : (l : ℕ) (b : Branch) (n m : ℤ) (y : Item-F Item Section) → HasBranch_F b y → SelectsBranch b n (layer_tree y) →
    SelectsBranch b m (layer_tree y) → entered_F l n b y ≡ entered_F l m b y
unfolding trees_of sections_of
layer_entered l B.Then n m (O.If t x z) h p q = refl
layer_entered l B.Else n m (O.If t x z) h p q = refl
layer_entered l B.Body n m (O.While t x) h p q = refl
layer_entered l B.Body n m (O.Do x t) h p q = refl
layer_entered l (B.Section k) n m (O.Switch s cs) h p q =
    let c = sections_of cs in
    ap (λ z. entered_F l z (B.Section k) (O.Switch s cs)) (some_number (selector_kind (selector_tree s)) c (cases_at k c) n m p q)
layer_entered l _ n m _ h p q = absurd h

same_entered : (l : ℕ) (b : Branch) (n m : ℤ) (x : Item) → HasBranch b x → SelectsBranch b n (tree_of x) → SelectsBranch b m (tree_of x) →
    entered l n b x ≡ entered l m b x
same_entered l b n m x h p q =
    ap roll-Item (layer_entered l b n m (out-Item x) h (subst (SelectsBranch b n) (tree-out x) p) (subst (SelectsBranch b m) (tree-out x) q))

same_moved_in : (l : ℕ) (n m : ℤ) (i j : ℕ) (b : Branch) (xs : List Item) (x : Item) → slice_get xs j ≡ Some x → HasBranch b x →
    SelectsBranch b n (tree_of x) → SelectsBranch b m (tree_of x) → moved_in l n i j b xs ≡ moved_in l m i j b xs
same_moved_in l n m i j b xs x e h p q =
    moved_in_is l n i j b xs x e ∙ ap (λ z. take i xs ++ guarded l (slice_range xs (i + 1) j) ++ z ∷ drop (j + 1) xs) (same_entered l b n m x h p q) ∙
    sym (moved_in_is l m i j b xs x e)

module _ (l : ℕ) (p : Point) (one : lands l (trees_of p.body) ≡ 1) where
  one_lift : (q r : Point) → IsLifted l p q → IsLifted l p r → q ≡ r
  one_lift q r h g =
      let n = (same_target l p one h.place g.place (lift_target l p q h) (lift_target l p r g)).0 in
      points q r
      (h.moves.body ∙ ap (λ j. lifted_at l p.at.item j p.at.steps p.body) n ∙ sym g.moves.body)
      (h.moves.path ∙ ap (λ j. path_lifted j p.at.steps) n ∙ sym g.moves.path)

  one_in : (q r : Point) → GoesIn l p q → GoesIn l p r → q ≡ r
  one_in q r h g =
      let s = in_parts l p q h in
      let t = in_parts l p r g in
      let same = same_target l p one h.place g.place (in_target l p q h) (in_target l p r g) in
      let few = list_total (land_of l) p.body p.at.steps s.list s.list_is in
      let here = total-split (land_of l) s.list h.place s.item s.item_is in
      let w = lands_within l (tree_of s.item) in
      let child = subst (λ z. child g.branch z ≡ Some t.inner) (sym same.1) t.inner_is in
      let branch = subst (HasBranch g.branch) (sym same.1) t.branch in
      let b = one_branch l s.item h.branch g.branch s.inner t.inner s.inner_is child s.held t.held (omega (arith, few, here, w, one)) s.branch branch in
      let number = subst (λ z. SelectsBranch g.branch g.number (tree_of z)) (sym same.1) t.number in
      let selects = subst (λ z. SelectsBranch z g.number (tree_of s.item)) (sym b) number in
      let lists = same_moved_in l h.number g.number p.at.item h.place h.branch s.list s.item s.item_is s.branch s.number selects in
      points q r
      (s.body ∙ ap (put_at p.body p.at.steps) lists
      ∙ ap (λ z. put_at p.body p.at.steps (moved_in l g.number p.at.item h.place h.branch z)) (sym (there_is p.body p.at.steps s.list s.list_is))
      ∙ ap₂ (λ (j : ℕ) (d : Branch). moved_in_at l g.number p.at.item j d p.at.steps p.body) same.0 b
      ∙ sym g.moves.body)
      (h.moves.path ∙ ap₂ (λ (j : ℕ) (d : Branch). path_inside l p.at.item j d p.at.steps p.body) same.0 b ∙ sym g.moves.path)

  pub one_move : (k j : MoveKind) (q r : Point) → MovesBy k l p q → MovesBy j l p r → (k ≡ j) × (q ≡ r)
  one_move Out Out q r h g = (refl, one_out l p q r h g)
  one_move Out Lift q r h g = absurd (out_or l p one q h g.place (lift_target l p r g))
  one_move Out Inward q r h g = absurd (out_or l p one q h g.place (in_target l p r g))
  one_move Lift Out q r h g = absurd (out_or l p one r g h.place (lift_target l p q h))
  one_move Lift Lift q r h g = (refl, one_lift q r h g)
  one_move Lift Inward q r h g = absurd (lift_or_in l p one q r h g)
  one_move Inward Out q r h g = absurd (out_or l p one r g h.place (in_target l p q h))
  one_move Inward Lift q r h g = absurd (lift_or_in l p one r q g h)
  one_move Inward Inward q r h g = (refl, one_in q r h g)
  one_move Out _ q r h g = absurd g
  one_move Lift _ q r h g = absurd g
  one_move Inward _ q r h g = absurd g
  one_move _ _ q r h g = absurd h
