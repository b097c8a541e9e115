-- What the first path of a search leads to, and what it says of a body that there is none.
use Rattle.std.proofs.Common.{◌≡◌, ℕ, zero, suc, ◌+◌, ◌≤◌, List, [], ◌∷◌, ◌++◌, Bool, true, false, Option, Some, None, option_and_then, option_map, cond, map, take, slice_get, refl, sym, ap, subst, ◌∙◌, add-zero, arith}
use Rattle.std.specs.Prelude.{MatchOption}
use Rattle.std.proofs.lemmas.List.{take-take}
use Rattle.c_tree.specs.declared.tree.Branch.{Branch}
use Rattle.c_tree.specs.declared.tree.Branch.TheVariants as B
use Rattle.c_tree.specs.declared.tree.Item.{Item, Item-F, out-Item, roll-Item, fold-roll-Item, out-roll-Item, ind-Item, map-Item}
use Rattle.c_tree.specs.declared.tree.Item.TheOpen.{Section-F, If, While, Do, For, Switch, Block, Leap, Arm, Land}
use Rattle.c_tree.specs.declared.tree.Section.{Section, map-Section, fold-roll-Section, out-roll-Section, roll-Section}
use Rattle.c_tree.specs.declared.tree.Selector.{Selector}
use Rattle.c_tree.specs.declared.tree.Path.{Path}
use Rattle.c_tree.specs.Everywhere.{total, total_of, total_in, Everywhere, EverywhereOf, EverywhereIn}
use Rattle.c_tree.specs.Paths.{list_of, child_F, list_at, item_at}
use Rattle.c_tree.specs.Trees as T
use Rattle.c_tree.specs.Trees.{Tree, SectionTree, tree_of, trees_of, section_tree, sections_of}
use Rattle.c_tree.specs.WellMade.{IsPlainFor}
use Rattle.c_tree.proofs.ChangeLemmas.{layer_tree, tree-roll}
use Rattle.c_tree.proofs.PathLemmas.{list_step}
use Rattle.c_tree.proofs.RuleChanges.{stands}
use Rattle.c_tree.proofs.TreeLaws.{section-parts}
use Rattle.label_offsets.specs.Standing.{outermost}
use Rattle.label_offsets.specs.declared.first.Sought.{Sought}
use Rattle.label_offsets.specs.declared.first.Sought.TheVariants as S
use Rattle.label_offsets.specs.Leaps.{seeks_leaps, seeks_arms, seeks_lands, is_sought_F, is_sought, here_if, under, sections_from, paths_step, section_step, paths_of, section_paths, paths_from, leaps_from, first}
use Rattle.label_offsets.proofs.Firsts.{paths-cut}

-- 1 for a tree that is sought
abbrev pub weight : Sought → Tree → ℕ
weight s (T.Leap l) = cond (seeks_leaps s) 1 0
weight s (T.Arm l e) = cond (seeks_arms s l) 1 0
weight s (T.Land l) = cond (seeks_lands s l) 1 0
weight s _ = 0

-- a sought item stands at the path
pub record IsFound (s : Sought) (xs : List Item) (at : Path) : Type 0 where
  pub item : Item
  pub there : item_at xs at.steps at.item ≡ Some item
  pub sought : is_sought s item ≡ true

module _ (s : Sought) where
  -- the path leads to the item of the number i, or into it
  abbrev pub IsFoundIn : Item → ℕ → Path → Type 0
  IsFoundIn x i at = ((xs : List Item) → slice_get xs i ≡ Some x → IsFound s xs at) × (outermost at ≡ i)

  -- into an item of a list whose items have the numbers from n on, and no item before that is sought or holds one
  record FoundFrom (xs : List Item) (n : ℕ) (at : Path) : Type 0 where
    place : ℕ
    number : ℕ
    item : Item
    number_is : number ≡ n + place
    item_is : slice_get xs place ≡ Some item
    before : paths_from s n (take place xs) ≡ []
    inside : IsFoundIn item number at

  -- a tree, a list and sections without a sought item, where each `for` has an empty first part
  abbrev pub HasNone : Tree → Type 0
  HasNone t = EverywhereOf IsPlainFor t → total_of (weight s) t ≡ 0

  abbrev pub HaveNone : List Item → Type 0
  HaveNone xs = Everywhere IsPlainFor (trees_of xs) → total (weight s) (trees_of xs) ≡ 0

  abbrev SectionsHaveNone : List Section → Type 0
  SectionsHaveNone cs = EverywhereIn IsPlainFor (sections_of cs) → total_in (weight s) (sections_of cs) ≡ 0

  -- two lists of paths, and a list under a branch

  joined : {N M K : Type 0} {F G H : Path → Type 0} (ps qs : List Path) → (N → M → K) → ((p : Path) → F p → H p) → (ps ≡ [] → (p : Path) → G p → H p)
      → MatchOption (first ps) N F → MatchOption (first qs) M G → MatchOption (first (ps ++ qs)) K H
  joined (p ∷ ps) qs none here later f g = here p f
  joined [] [] none here later f g = none f g
  joined [] (q ∷ qs) none here later f g = later refl q g

  weaken : {N M : Type 0} {F G : Path → Type 0} (o : Option Path) → (N → M) → ((p : Path) → F p → G p) → MatchOption o N F → MatchOption o M G
  weaken None none some f = none f
  weaken (Some p) none some f = some p f

  abbrev IsListFound : List Item → Option Path → Type 0
  IsListFound xs o = MatchOption o (HaveNone xs) (IsFound s xs)

  abbrev P : Item → Type 0
  P x = (i : ℕ) → MatchOption (first (paths_of s x i)) (HasNone (tree_of x)) (IsFoundIn x i)

  abbrev Q : Section → Type 0
  Q c = IsListFound (list_of c) (first (section_paths s c))

  abbrev I : Type 0
  I = (x : Item) × P x

  abbrev C : Type 0
  C = (c : Section) × Q c

  abbrev item_of : I → Item
  item_of e = e.0

  abbrev section_of : C → Section
  section_of e = e.0

  found_among : (a : List I) (n : ℕ) →
      MatchOption (first (paths_from s n (map item_of a))) (HaveNone (map item_of a)) (FoundFrom (map item_of a) n)
  unfolding trees_of
  found_among [] n = λ h. refl
  found_among (e ∷ a) n =
      joined (paths_of s e.0 n) (paths_from s (n + 1) (map item_of a)) (λ f g h. let p = f h.0 in let q = g h.1 in omega (arith, p, q))
      (λ p f. record { place = zero; number = n; item = e.0; number_is = sym (add-zero n); item_is = refl; before = refl; inside = f })
      (λ z p f. record {
        place = suc f.place;
        number = f.number;
        item = f.item;
        number_is = omega (arith, f.number_is);
        item_is = f.item_is;
        before = ap (λ ps. ps ++ paths_from s (n + 1) (take f.place (map item_of a))) z ∙ f.before;
        inside = f.inside;
      }) (e.1 n) (found_among a (n + 1))

  whole : (xs : List Item) (at : Path) → FoundFrom xs 0 at → IsFound s xs at
  whole xs at f = let k : f.number ≡ f.place = omega (arith, f.number_is) in f.inside.0 xs (ap (slice_get xs) k ∙ f.item_is)

  found_list : (a : List I) → IsListFound (map item_of a) (first (paths_from s 0 (map item_of a)))
  found_list a = weaken (first (paths_from s 0 (map item_of a))) (λ f. f) (whole (map item_of a)) (found_among a 0)

  -- what stands in the list of a branch
  found_under : {K : Type 0} (z : Item-F Item Section) (i : ℕ) (b : Branch) (a : List Item) (ps : List Path) → child_F b z ≡ Some a → (HaveNone a → K)
      → IsListFound a (first ps) → MatchOption (first (under i b ps)) K (IsFoundIn (roll-Item z) i)
  found_under z i b a [] e none f = none f
  found_under z i b a (p ∷ ps) e none f = (
    λ xs h. record {
      item = f.item;
      there = ap (option_and_then (λ a. slice_get a p.item)) (list_step xs (record { item = i; branch = b }) p.steps (roll-Item z) a h
          (ap (child_F b) (out-roll-Item z) ∙ e)) ∙ f.there;
      sought = f.sought;
    },
    refl,
  )

  found_branch : {K : Type 0} (z : Item-F Item Section) (i : ℕ) (b : Branch) (a : List I) → child_F b z ≡ Some (map item_of a) → (HaveNone (map item_of a) → K)
      → MatchOption (first (under i b (paths_from s 0 (map item_of a)))) K (IsFoundIn (roll-Item z) i)
  found_branch z i b a e none = found_under z i b (map item_of a) (paths_from s 0 (map item_of a)) e none (found_list a)

  -- in the sections from k on
  found_sections : (t : Selector) (all : List Section) (i : ℕ) (cs : List C) (k : ℕ)
      → ((j : ℕ) → slice_get all (k + j) ≡ slice_get (map section_of cs) j)
      → MatchOption (first (sections_from i k (map (section_paths s) (map section_of cs)))) (SectionsHaveNone (map section_of cs))
      (IsFoundIn (roll-Item (Switch t all)) i)
  unfolding sections_of
  found_sections t all i [] k same = λ h. refl
  found_sections t all i (e ∷ cs) k same =
      let this = ap (slice_get all) (sym (add-zero k)) ∙ same 0 in
      let list : (section_tree e.0).list ≡ trees_of (list_of e.0) = ap (λ (z : SectionTree). z.list) (section-parts e.0) in
      joined (under i (B.Section k) (section_paths s e.0)) (sections_from i (k + 1) (map (section_paths s) (map section_of cs)))
      (λ f g h. let p = f (subst (Everywhere IsPlainFor) list h.0) in let q = g h.1 in let l = ap (total (weight s)) list in omega (arith, p, q, l))
      (λ p f. f) (λ z p f. f)
      (found_under (Switch t all) i (B.Section k) (list_of e.0) (section_paths s e.0) (ap (option_map list_of) this) (λ f. f) e.1)
      (found_sections t all i cs (k + 1) (λ j. let next : k + 1 + j ≡ k + suc j = omega arith in ap (slice_get all) next ∙ same (suc j)))

  -- an item without lists

  weightless : (z : Item-F Item Section) → is_sought_F s z ≡ false → total_of (weight s) (layer_tree z) ≡ weight s (layer_tree z) →
      total_of (weight s) (layer_tree z) ≡ 0
  weightless (Leap l) e w = ap (λ b. cond b 1 0) e
  weightless (Arm l t) e w = ap (λ b. cond b 1 0) e
  weightless (Land l) e w = ap (λ b. cond b 1 0) e
  weightless _ e w = w

  found_here : (z : Item-F Item Section) (i : ℕ) (b : Bool) → is_sought_F s z ≡ b → total_of (weight s) (layer_tree z) ≡ weight s (layer_tree z)
      → MatchOption (first (here_if b i)) (HasNone (layer_tree z)) (IsFoundIn (roll-Item z) i)
  found_here z i true e w = (λ xs h. record { item = roll-Item z; there = h; sought = ap (is_sought_F s) (out-roll-Item z) ∙ e }, refl)
  found_here z i false e w = λ h. weightless z e w

  -- one layer

  abbrev IsLayerFound : Item-F Item Section → ℕ → Option Path → Tree → Type 0
  IsLayerFound z i o t = MatchOption o (HasNone t) (IsFoundIn (roll-Item z) i)

  abbrev layer_paths : Item-F Item Section → ℕ → List Path
  layer_paths z i = paths_step s (map-Item Item Section (ℕ → List Path) (List Path) (paths_of s) (section_paths s) z) i

  layer : (y : Item-F I C) (i : ℕ) → let z = map-Item I C Item Section item_of section_of y in IsLayerFound z i (first (layer_paths z i)) (layer_tree z)
  unfolding trees_of sections_of
  layer (If t a b) i =
      let z = If t (map item_of a) (map item_of b) in
      joined (under i B.Then (paths_from s 0 (map item_of a))) (under i B.Else (paths_from s 0 (map item_of b)))
      (λ f g h. let p = f h.1 in let q = g h.2 in omega (arith, p, q)) (λ p f. f) (λ e p f. f)
      (found_branch z i B.Then a refl (λ f. f)) (found_branch z i B.Else b refl (λ f. f))
  layer (While t a) i = found_branch (While t (map item_of a)) i B.Body a refl (λ f h. let p = f h.1 in omega (arith, p))
  layer (Do a t) i = found_branch (Do (map item_of a) t) i B.Body a refl (λ f h. let p = f h.1 in omega (arith, p))
  layer (For f t u a) i = found_branch (For (map item_of f) t u (map item_of a)) i B.Body a refl
      (λ g h. let p = g h.2 in let q = ap (total (weight s)) h.0.0 in omega (arith, p, q))
  layer (Block a) i = found_branch (Block (map item_of a)) i B.Body a refl (λ f h. let p = f h.1 in omega (arith, p))
  layer (Switch t cs) i =
      weaken (first (sections_from i 0 (map (section_paths s) (map section_of cs)))) (λ f h. let p = f h.1 in omega (arith, p)) (λ p f. f)
      (found_sections t (map section_of cs) i cs 0 (λ j. let same : 0 + j ≡ j = omega arith in ap (slice_get (map section_of cs)) same))
  layer y i = let z = map-Item I C Item Section item_of section_of y in found_here z i (is_sought_F s z) refl refl

  rolled : (z : Item-F Item Section) (i : ℕ) → IsLayerFound z i (first (layer_paths z i)) (layer_tree z)
      → IsLayerFound z i (first (paths_of s (roll-Item z) i)) (tree_of (roll-Item z))
  rolled z i f =
      subst (λ o. IsLayerFound z i o (tree_of (roll-Item z)))
      (sym (ap (λ (f : ℕ → List Path). first (f i)) (fold-roll-Item (ℕ → List Path) (List Path) (paths_step s) section_step z)))
      (subst (λ t. IsLayerFound z i (first (layer_paths z i)) t) (sym (tree-roll z)) f)

  section_rolled : (z : Section-F Item Section) → IsListFound z.list (first (paths_from s 0 z.list)) → Q (roll-Section z)
  section_rolled z f =
      subst (λ l. IsListFound l (first (section_paths s (roll-Section z)))) (sym (ap (λ (o : Section-F Item Section). o.list) (out-roll-Section z)))
      (subst (IsListFound z.list) (sym (ap first (fold-roll-Section (ℕ → List Path) (List Path) (paths_step s) section_step z))) f)

  -- an item, and the first path in it
  pub item_found : (x : Item) → P x
  item_found = ind-Item P Q
      (λ x y e. subst (λ (z : Item-F Item Section). P (roll-Item z)) e (λ i. rolled (map-Item I C Item Section item_of section_of y) i (layer y i)))
      (λ x y e. subst (λ (z : Section-F Item Section). Q (roll-Section z)) e
      (section_rolled (map-Section I C Item Section item_of section_of y) (found_list y.list)))

  abbrev each : Item → I
  each x = (x, item_found x)

  each_is : (xs : List Item) → map item_of (map each xs) ≡ xs
  each_is [] = refl
  each_is (x ∷ xs) = ap (λ l. x ∷ l) (each_is xs)

  found_first : (xs : List Item) → MatchOption (first (paths_from s 0 xs)) (HaveNone xs) (FoundFrom xs 0)
  found_first xs = subst (λ l. MatchOption (first (paths_from s 0 l)) (HaveNone l) (FoundFrom l 0)) (each_is xs) (found_among (map each xs) 0)

-- where there is no path, no item is sought
pub none_there : (s : Sought) (xs : List Item) → first (paths_from s 0 xs) ≡ None → HaveNone s xs
none_there s xs h = subst (λ o. MatchOption o (HaveNone s xs) (FoundFrom s xs 0)) h (found_first s xs)

-- Leaps

leap_sought : (y : Item-F Item Section) → is_sought_F S.Leap y ≡ true → (l : ℕ) × (y ≡ Leap l)
leap_sought (Leap l) e = (l, refl)
leap_sought _ e = cc

first_leap : (xs : List Item) (at : Path) → first (leaps_from 0 xs) ≡ Some at → FoundFrom S.Leap xs 0 at
first_leap xs at h = subst (λ o. MatchOption o (HaveNone S.Leap xs) (FoundFrom S.Leap xs 0)) h (found_first S.Leap xs)

-- a Leap stands at the path
pub record Found (xs : List Item) (at : Path) : Type 0 where
  pub list : List Item
  pub item : Item
  pub label : ℕ
  pub list_is : list_at xs at.steps ≡ Some list
  pub item_is : slice_get list at.item ≡ Some item
  pub label_is : out-Item item ≡ Leap label

-- the first Leap in text order
pub first_found : (xs : List Item) (at : Path) → first (leaps_from 0 xs) ≡ Some at → Found xs at
first_found xs at h =
    let f = whole S.Leap xs at (first_leap xs at h) in
    let t = stands xs at.steps at.item f.item f.there in
    let l = leap_sought (out-Item f.item) f.sought in
    record { list = t.list; item = f.item; label = l.0; list_is = t.list_is; item_is = t.item_is; label_is = l.1 }

no_front : (ps qs : List Path) → ps ++ qs ≡ [] → ps ≡ []
no_front [] qs e = refl
no_front (p ∷ ps) qs e = cc

-- no Leap stands before it in the outermost list
pub none_in_front : (xs : List Item) (at : Path) (n : ℕ) → first (leaps_from 0 xs) ≡ Some at → n ≤ outermost at → leaps_from 0 (take n xs) ≡ []
none_in_front xs at n e h =
    let f = first_leap xs at e in
    let k : n ≤ f.place = omega (arith, h, f.inside.1, f.number_is) in
    ap (leaps_from 0) (sym (take-take n f.place xs k)) ∙ no_front (leaps_from 0 (take n (take f.place xs))) _
    (sym (paths-cut S.Leap n 0 (take f.place xs)) ∙ f.before)
