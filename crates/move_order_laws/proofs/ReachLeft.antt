-- How that nesting changes in the rules O and J, and how deep a body may come before the Leap is joined.
use Rattle.std.proofs.Common.{◌≡◌, ℕ, ◌+◌, ◌≤◌, List, [], ◌∷◌, ◌++◌, Bool, true, false, cond, Some, length, take, drop, slice_get, refl, sym, ap, subst, ◌∙◌, arith}
use Rattle.std.specs.Prelude.{max}
use Rattle.std.specs.Option.{option_map_or}
use Rattle.std.proofs.lemmas.List.{take_at, length-append, length-take-le}
use Rattle.std.proofs.lemmas.Option.{slice_get_within}
use Rattle.c_tree.specs.declared.tree.Item.{Item, Item-F, Leap, out-Item}
use Rattle.c_tree.specs.declared.tree.Item.TheOpen as O
use Rattle.c_tree.specs.declared.tree.Section.{Section, out-Section}
use Rattle.c_tree.specs.declared.tree.Branch.{Branch}
use Rattle.c_tree.specs.declared.tree.Branch.TheVariants as B
use Rattle.c_tree.specs.declared.tree.Step.{Step}
use Rattle.c_tree.specs.Paths.{list_of, with_list, child_F, child, list_at}
use Rattle.c_tree.specs.Join.{guarded}
use Rattle.c_tree.specs.Outward.{rest_guarded, later_guarded, sections_left, left_F, left, moved_out, HasBranch_F, HasBranch}
use Rattle.c_tree.specs.Trees.{SectionTree, tree_of, trees_of, section_tree, sections_of}
use Rattle.c_tree.proofs.PathLemmas.{map_some}
use Rattle.c_tree.proofs.TreeLaws.{trees-none, sections-none, sections-more, section-parts}
use Rattle.c_tree.proofs.ChangeLemmas.{layer_tree, tree-roll, section-with}
use Rattle.move_order_laws.specs.Nesting.{nesting, nesting_of, nesting_in, later, later_in, beside_F, beside, around_element, around, at_leap, reach}
use Rattle.move_order_laws.specs.Next.{Point}
use Rattle.move_order_laws.proofs.Parts.{OutParts, left_list}
use Rattle.move_order_laws.proofs.Around.{later_more, around_step, around_put, around-append, around_more, section_nesting-first, nesting_in_some, later_in-more}
use Rattle.move_order_laws.proofs.Reached.{nesting-three, nesting-append, nesting-guarded, reach_is, drop_after, drop_here}

-- rule O

nesting-rest : (l i : ℕ) (a : List Item) → nesting (trees_of (rest_guarded l i a)) ≡ at_leap a i
nesting-rest l i a = let p = nesting-append (take i a) (guarded l (drop (i + 1) a)) in let q = nesting-guarded l (drop (i + 1) a) in omega (arith, p, q)

section_list : (w : List Item) (c : Section) → (section_tree (with_list w c)).list ≡ trees_of w
section_list w c = ap (λ (z : SectionTree). z.list) (section-with w c)

later_first : (c : Section) (cs : List Section) → later_in (sections_of (c ∷ cs)) ≡ max (later (trees_of (list_of c))) (later_in (sections_of cs))
later_first c cs = ap later_in (sections-more c cs) ∙ ap (λ (z : SectionTree). max (later z.list) (later_in (sections_of cs))) (section-parts c)

section_nesting-with : (w : List Item) (c : Section) (cs : List Section) →
    nesting_in (sections_of (with_list w c ∷ cs)) ≡ max (nesting (trees_of w)) (nesting_in (sections_of cs))
section_nesting-with w c cs = ap nesting_in (sections-more (with_list w c) cs) ∙ ap (λ z. max (nesting z) (nesting_in (sections_of cs))) (section_list w c)

chosen_most : (l : ℕ) (e : Bool) (cs : List Section) → nesting_in (sections_of (later_guarded l cs)) ≤ later_in (sections_of cs) →
    nesting_in (sections_of (cond e cs (later_guarded l cs))) ≤ later_in (sections_of cs)
chosen_most l true cs h = later_in-more cs
chosen_most l false cs h = h

nesting_later : (l : ℕ) (cs : List Section) → nesting_in (sections_of (later_guarded l cs)) ≤ later_in (sections_of cs)
nesting_later l [] = let a = ap nesting_in sections-none in let b = ap later_in sections-none in omega (arith, a, b)
nesting_later l (c ∷ cs) =
    let rest = cond (out-Section c).ends cs (later_guarded l cs) in
    let a = section_nesting-with (guarded l (list_of c)) c rest in
    let g = nesting-guarded l (list_of c) in
    let b = later_first c cs in
    let d = chosen_most l (out-Section c).ends cs (nesting_later l cs) in
    omega (arith, a, g, b, d)

nesting_in-append : (cs ds : List Section) → nesting_in (sections_of (cs ++ ds)) ≡ max (nesting_in (sections_of cs)) (nesting_in (sections_of ds))
nesting_in-append [] ds = let a = ap nesting_in sections-none in let b = nesting_in_some (sections_of ds) in omega (arith, a, b)
nesting_in-append (c ∷ cs) ds =
    let a = section_nesting-first c (cs ++ ds) in
    let b = section_nesting-first c cs in
    let h = nesting_in-append cs ds in
    omega (arith, a, b, h)

layer_left : (l i : ℕ) (b : Branch) (y : Item-F Item Section) (a : List Item) → child_F b y ≡ Some a → HasBranch_F b y →
    nesting_of (layer_tree (left_F l b i y)) ≤ beside_F b (at_leap a i) y
unfolding trees_of sections_of
layer_left l i B.Then (O.If t x z) a e h = let g : x ≡ a = cc in let r = nesting-rest l i x ∙ ap (λ w. at_leap w i) g in let k =
    later_more
    (trees_of z) in omega (arith, r, k)
layer_left l i B.Else (O.If t x z) a e h = let g : z ≡ a = cc in let r = nesting-rest l i z ∙ ap (λ w. at_leap w i) g in omega (arith, r)
layer_left l i B.Body (O.While t x) a e h = let g : x ≡ a = cc in let r = nesting-rest l i x ∙ ap (λ w. at_leap w i) g in omega (arith, r)
layer_left l i B.Body (O.Do x t) a e h = let g : x ≡ a = cc in let r = nesting-rest l i x ∙ ap (λ w. at_leap w i) g in omega (arith, r)
layer_left l i (B.Section k) (O.Switch s cs) a e h =
    let t = map_some list_of (slice_get cs k) a e in
    let back = drop (k + 1) cs in
    let rest = cond (out-Section t.0).ends back (later_guarded l back) in
    let d = ap (λ (z : List Section). nesting_in (sections_of (take k cs ++ sections_left l i z))) (drop_here cs k t.0 t.1) in
    let p = nesting_in-append (take k cs) (with_list (rest_guarded l i (list_of t.0)) t.0 ∷ rest) in
    let q = section_nesting-with (rest_guarded l i (list_of t.0)) t.0 rest in
    let r = nesting-rest l i (list_of t.0) ∙ ap (λ w. at_leap w i) t.2 in
    let m = chosen_most l (out-Section t.0).ends back (nesting_later l back) in
    omega (arith, d, p, q, r, m)
layer_left l i _ _ a e h = absurd h

item_left : (l i : ℕ) (b : Branch) (x : Item) (a : List Item) → child b x ≡ Some a → HasBranch b x →
    nesting_of (tree_of (left l b i x)) ≤ beside b (at_leap a i) x
item_left l i b x a e h = subst (λ t. nesting_of t ≤ beside b (at_leap a i) x) (sym (tree-roll (left_F l b i (out-Item x))))
    (layer_left l i b (out-Item x) a e h)

out_reach_here : (l i k : ℕ) (b : Branch) (xs : List Item) (x : Item) (a : List Item) → slice_get xs k ≡ Some x → child b x ≡ Some a → HasBranch b x
    → at_leap (moved_out l k b i xs) (k + 1) ≤ around_element xs k (beside b (at_leap a i) x)
out_reach_here l i k b xs x a e f h =
    let n = slice_get_within xs k x e in
    let back = drop (k + 1) xs in
    let x' = left l b i x in
    let made : moved_out l k b i xs ≡ take k xs ++ x' ∷ (Leap l ∷ back) =
    ap (λ o. option_map_or (λ x. take k xs ++ left l b i x ∷ Leap l ∷ drop (k + 1) xs) o xs) e in
    let size : length (take k xs) ≡ k = length-take-le k xs (omega arith) in
    let front : take (k + 1) (moved_out l k b i xs) ≡ take k xs ++ x' ∷ [] =
    ap (take (k + 1)) (made ∙ one_more (take k xs) x' (Leap l ∷ back)) ∙
    take_at (take k xs ++ x' ∷ []) (Leap l ∷ back) (k + 1) (length-append (take k xs) (x' ∷ []) ∙ ap (λ m. m + 1) size) in
    let rest : drop (k + 1 + 1) (moved_out l k b i xs) ≡ back =
    ap (drop (k + 1 + 1)) (made ∙ one_more (take k xs) x' (Leap l ∷ back)) ∙
    drop_after (take k xs ++ x' ∷ []) back (Leap l) (k + 1) (length-append (take k xs) (x' ∷ []) ∙ ap (λ m. m + 1) size) in
    let p = ap (λ z. nesting (trees_of z)) front ∙ nesting-three (take k xs) [] x' in
    let q = ap (λ z. later (trees_of z)) rest in
    let r = item_left l i b x a f h in
    let z : nesting (trees_of []) ≡ 1 = ap nesting trees-none in
    omega (arith, p, q, r, z) where
      one_more : {A : Type 0} (ys : List A) (y : A) (zs : List A) → ys ++ y ∷ zs ≡ (ys ++ y ∷ []) ++ zs
      one_more [] y zs = refl
      one_more (w ∷ ys) y zs = ap (λ v. w ∷ v) (one_more ys y zs)

pub out_reach : (l : ℕ) (p q : Point) (outer : List Step) (last : Step) → OutParts l p q outer last → p.at.steps ≡ outer ++ last ∷ [] →
    reach q.body q.at ≤ reach p.body p.at
out_reach l p q outer last t steps =
    let w = moved_out l last.item last.branch p.at.item t.list in
    let new =
    reach_is q.body q.at w (left_list l p q outer last t)
    ∙ ap (λ z. around q.body q.at.steps (at_leap w z)) t.after
    ∙ ap (λ z. around q.body z (at_leap w (last.item + 1))) t.steps
    ∙ ap (λ z. around z outer (at_leap w (last.item + 1))) t.body
    ∙ around_put p.body outer (at_leap w (last.item + 1)) w t.list t.list_is in
    let old =
    reach_is p.body p.at t.inner (ap (list_at p.body) steps ∙ t.all_is)
    ∙ ap (λ z. around p.body z (at_leap t.inner p.at.item)) steps
    ∙ around-append p.body outer (last ∷ []) (at_leap t.inner p.at.item) t.list t.list_is
    ∙ ap (around p.body outer) (around_step t.list last [] (at_leap t.inner p.at.item) t.item t.inner t.item_is t.inner_is) in
    let here = out_reach_here l p.at.item last.item last.branch t.list t.item t.inner t.item_is t.inner_is t.branch in
    let h = around_more p.body outer (at_leap w (last.item + 1))
    (around_element t.list last.item (beside last.branch (at_leap t.inner p.at.item) t.item)) 0 t.list t.list_is (omega (arith, here)) in
    omega (arith, new, old, h)
