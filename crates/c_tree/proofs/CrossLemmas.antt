-- The rules out and in on a body change its trees in one place, by those rules on plain lists.
use Rattle.std.proofs.Common.{◌≡◌, ℕ, zero, suc, ◌+◌, ◌<◌, ℤ, List, [], ◌∷◌, ◌++◌, Bool, true, false, cond, Some, take, drop, slice_get, slice_set, slice_range, refl, sym, ap, subst, ◌∙◌}
use Rattle.std.specs.Option.{option_map_or}
use Rattle.c_tree.specs.declared.tree.Item.{Item, Item-F, Leap, out-Item}
use Rattle.c_tree.specs.declared.tree.Item.TheOpen as Open
use Rattle.c_tree.specs.declared.tree.Section as Real
use Rattle.c_tree.specs.declared.tree.Branch.{Branch}
use Rattle.c_tree.specs.declared.tree.Branch.TheVariants as B
use Rattle.c_tree.specs.declared.tree.Test.{AndOff, OrOn}
use Rattle.c_tree.specs.declared.tree.Selector.{Pick}
use Rattle.c_tree.specs.Paths.{list_of, with_list, child_F, child}
use Rattle.c_tree.specs.Join as J
use Rattle.c_tree.specs.Outward.{rest_guarded, later_guarded, sections_left, left_F, left, moved_out, HasBranch_F, HasBranch}
use Rattle.c_tree.specs.Inward.{section_entered, entered_F, entered, moved_in}
use Rattle.c_tree.specs.Labels.{lands}
use Rattle.c_tree.specs.Cases.{SelectsBranch}
use Rattle.c_tree.specs.TestTrees as Plain
use Rattle.c_tree.specs.TestTrees.{test_tree, selector_tree}
use Rattle.c_tree.specs.Trees as T
use Rattle.c_tree.specs.Trees.{Tree, Forest, Nil, Then, Sections, SectionTree, join, sections, tree_of, trees_of, section_tree, sections_of}
use Rattle.c_tree.specs.Changed.{Changed, one}
use Rattle.c_tree.specs.Moves as M
use Rattle.c_tree.specs.Moves.{Moved, SectionsLeft, SectionsEntered}
use Rattle.c_tree.proofs.PathLemmas.{map_some}
use Rattle.c_tree.proofs.TreeLaws.{trees-append, trees-more, tree-Leap, section-parts}
use Rattle.c_tree.proofs.ExpressionLaws.{test-AndOff, test-OrOn, selector-Pick}
use Rattle.c_tree.proofs.ChangeLemmas.{layer_tree, tree-roll, tree-out, relisted, first, section-with}
use Rattle.c_tree.proofs.MoveLemmas.{cut_at, cut_twice, placed, trees-three, trees-stretch, trees-guarded, trees-guarded_stretch}

-- the list that the Leap leaves

list_before : (l i : ℕ) (a : List Item) → slice_get a i ≡ Some (Leap l) → trees_of a ≡ join (trees_of (take i a)) (Then (T.Leap l) (trees_of (drop (i + 1) a)))
list_before l i a e =
    ap trees_of (cut_at a i (Leap l) e) ∙ trees-three (take i a) (drop (i + 1) a) (Leap l)
    ∙ ap (λ t. join (trees_of (take i a)) (Then t (trees_of (drop (i + 1) a)))) (tree-Leap l)

list_after : (l i : ℕ) (a : List Item) → trees_of (rest_guarded l i a) ≡ join (trees_of (take i a)) (M.guarded l (trees_of (drop (i + 1) a)))
list_after l i a = trees-append (take i a) (J.guarded l (drop (i + 1) a)) ∙ ap (join (trees_of (take i a))) (trees-guarded l (drop (i + 1) a))

-- sections

ends_of : (c : Real.Section) → (section_tree c).ends ≡ (Real.out-Section c).ends
ends_of c = ap (λ (z : SectionTree). z.ends) (section-parts c)

list_tree : (c : Real.Section) → (section_tree c).list ≡ trees_of (list_of c)
list_tree c = ap (λ (z : SectionTree). z.list) (section-parts c)

sections-chosen : (b : Bool) (cs ds : List Real.Section) → sections_of (cond b cs ds) ≡ cond b (sections_of cs) (sections_of ds)
sections-chosen true cs ds = refl
sections-chosen false cs ds = refl

later : (l : ℕ) (cs : List Real.Section) → sections_of (later_guarded l cs) ≡ M.later_guarded l (sections_of cs)
unfolding sections_of
later l [] = refl
later l (c ∷ cs) =
    let s = section_tree c in
    let e = (Real.out-Section c).ends in
    ap (λ z. first z (sections_of (cond e cs (later_guarded l cs)))) (section-with (J.guarded l (list_of c)) c)
    ∙ ap (λ a. T.Section s.cases s.default a s.ends (sections_of (cond e cs (later_guarded l cs))))
    (trees-guarded l (list_of c) ∙ ap (M.guarded l) (sym (list_tree c)))
    ∙ ap (T.Section s.cases s.default (M.guarded l s.list) s.ends)
    (sections-chosen e cs (later_guarded l cs) ∙ ap (λ b. cond b (sections_of cs) (sections_of (later_guarded l cs))) (sym (ends_of c)) ∙
    ap (cond s.ends (sections_of cs)) (later l cs))

left_sections : (l k i : ℕ) (cs : List Real.Section) (c : Real.Section) → slice_get cs k ≡ Some c → slice_get (list_of c) i ≡ Some (Leap l)
    → SectionsLeft l (sections_of cs) (sections_of (take k cs ++ sections_left l i (drop k cs)))
unfolding sections_of
left_sections l k i [] c e f = cc
left_sections l zero i (d ∷ cs) c e f =
    let h : d ≡ c = cc in
    let s = section_tree c in
    let ends = (Real.out-Section c).ends in
    let back = sections_of (cond ends cs (later_guarded l cs)) in
    let tail : back ≡ cond s.ends (sections_of cs) (M.later_guarded l (sections_of cs)) =
    sections-chosen ends cs (later_guarded l cs) ∙ ap (λ b. cond b (sections_of cs) (sections_of (later_guarded l cs))) (sym (ends_of c)) ∙
    ap (cond s.ends (sections_of cs)) (later l cs) in
    let front = trees_of (take i (list_of c)) in
    let rest = trees_of (drop (i + 1) (list_of c)) in
    let new : first (section_tree (with_list (rest_guarded l i (list_of c)) c)) back ≡ T.Section s.cases s.default (join front (M.guarded l rest))
    s.ends (cond s.ends (sections_of cs) (M.later_guarded l (sections_of cs))) =
    ap (λ z. first z back) (section-with (rest_guarded l i (list_of c)) c) ∙ ap (λ a. T.Section s.cases s.default a s.ends back) (list_after l i (list_of c))
    ∙ ap (T.Section s.cases s.default (join front (M.guarded l rest)) s.ends) tail in
    let old : first s (sections_of cs) ≡ T.Section s.cases s.default (join front (Then (T.Leap l) rest)) s.ends (sections_of cs) =
    ap (λ a. T.Section s.cases s.default a s.ends (sections_of cs)) (list_tree c ∙ list_before l i (list_of c) f) in
    subst (λ z. SectionsLeft l (first (section_tree z) (sections_of cs)) (sections_of (sections_left l i (z ∷ cs)))) (sym h)
    (subst (λ z. SectionsLeft l (first s (sections_of cs)) z) (sym new)
    (subst (λ z. SectionsLeft l z (T.Section s.cases s.default (join front (M.guarded l rest)) s.ends
    (cond s.ends (sections_of cs) (M.later_guarded l (sections_of cs))))) (sym old)
    (M.left_here s.cases s.default s.ends front rest (sections_of cs))))
left_sections l (suc k) i (d ∷ cs) c e f = let s = section_tree d in M.left_later s.cases s.default s.ends s.list (left_sections l k i cs c e f)

-- one layer that a Leap leaves

layer_left : (l i : ℕ) (b : Branch) (y : Item-F Item Real.Section) (a : List Item) → child_F b y ≡ Some a → slice_get a i ≡ Some (Leap l) → HasBranch_F b y
    → Moved (one (layer_tree y)) (Then (layer_tree (left_F l b i y)) (one (T.Leap l)))
unfolding trees_of sections_of
layer_left l i B.Then (Open.If t x z) a e f h =
    let g : x ≡ a = cc in
    subst (λ v. Moved (one (T.If (test_tree t) v (trees_of z)))
    (Then (T.If (test_tree t) (trees_of (rest_guarded l i x)) (trees_of z)) (one (T.Leap l))))
    (sym (list_before l i x (subst (λ v. slice_get v i ≡ Some (Leap l)) (sym g) f)))
    (subst (λ v. Moved (one (T.If (test_tree t) (join (trees_of (take i x)) (Then (T.Leap l) (trees_of (drop (i + 1) x)))) (trees_of z)))
    (Then (T.If (test_tree t) v (trees_of z)) (one (T.Leap l)))) (sym (list_after l i x))
    (M.out_then l (test_tree t) (trees_of (take i x)) (trees_of (drop (i + 1) x)) (trees_of z)))
layer_left l i B.Else (Open.If t z x) a e f h =
    let g : x ≡ a = cc in
    subst (λ v. Moved (one (T.If (test_tree t) (trees_of z) v))
    (Then (T.If (test_tree t) (trees_of z) (trees_of (rest_guarded l i x))) (one (T.Leap l))))
    (sym (list_before l i x (subst (λ v. slice_get v i ≡ Some (Leap l)) (sym g) f)))
    (subst (λ v. Moved (one (T.If (test_tree t) (trees_of z) (join (trees_of (take i x)) (Then (T.Leap l) (trees_of (drop (i + 1) x))))))
    (Then (T.If (test_tree t) (trees_of z) v) (one (T.Leap l)))) (sym (list_after l i x))
    (M.out_else l (test_tree t) (trees_of (take i x)) (trees_of (drop (i + 1) x)) (trees_of z)))
layer_left l i B.Body (Open.While t x) a e f h =
    let g : x ≡ a = cc in
    subst (λ v. Moved (one (T.While (test_tree t) v)) (Then (T.While (test_tree (AndOff l t)) (trees_of (rest_guarded l i x))) (one (T.Leap l))))
    (sym (list_before l i x (subst (λ v. slice_get v i ≡ Some (Leap l)) (sym g) f)))
    (subst (λ v. Moved (one (T.While (test_tree t) (join (trees_of (take i x)) (Then (T.Leap l) (trees_of (drop (i + 1) x))))))
    (Then (T.While (test_tree (AndOff l t)) v) (one (T.Leap l)))) (sym (list_after l i x))
    (subst (λ v. Moved (one (T.While (test_tree t) (join (trees_of (take i x)) (Then (T.Leap l) (trees_of (drop (i + 1) x))))))
    (Then (T.While v (join (trees_of (take i x)) (M.guarded l (trees_of (drop (i + 1) x))))) (one (T.Leap l)))) (sym (test-AndOff l t))
    (M.out_while l (test_tree t) (trees_of (take i x)) (trees_of (drop (i + 1) x)))))
layer_left l i B.Body (Open.Do x t) a e f h =
    let g : x ≡ a = cc in
    subst (λ v. Moved (one (T.Do v (test_tree t))) (Then (T.Do (trees_of (rest_guarded l i x)) (test_tree (AndOff l t))) (one (T.Leap l))))
    (sym (list_before l i x (subst (λ v. slice_get v i ≡ Some (Leap l)) (sym g) f)))
    (subst (λ v. Moved (one (T.Do (join (trees_of (take i x)) (Then (T.Leap l) (trees_of (drop (i + 1) x)))) (test_tree t)))
    (Then (T.Do v (test_tree (AndOff l t))) (one (T.Leap l)))) (sym (list_after l i x))
    (subst (λ v. Moved (one (T.Do (join (trees_of (take i x)) (Then (T.Leap l) (trees_of (drop (i + 1) x)))) (test_tree t)))
    (Then (T.Do (join (trees_of (take i x)) (M.guarded l (trees_of (drop (i + 1) x)))) v) (one (T.Leap l)))) (sym (test-AndOff l t))
    (M.out_do l (test_tree t) (trees_of (take i x)) (trees_of (drop (i + 1) x)))))
layer_left l i (B.Section k) (Open.Switch s cs) a e f h =
    let p = map_some list_of (slice_get cs k) a e in
    M.out_switch l (selector_tree s) (left_sections l k i cs p.0 p.1 (subst (λ v. slice_get v i ≡ Some (Leap l)) (sym p.2) f))
layer_left l i _ _ a e f h = absurd h

item_left : (l i : ℕ) (b : Branch) (x : Item) (a : List Item) → child b x ≡ Some a → slice_get a i ≡ Some (Leap l) → HasBranch b x →
    Moved (one (tree_of x)) (Then (tree_of (left l b i x)) (one (T.Leap l)))
item_left l i b x a e f h =
    subst (λ t. Moved (one t) (Then (tree_of (left l b i x)) (one (T.Leap l)))) (sym (tree-out x))
    (subst (λ t. Moved (one (layer_tree (out-Item x))) (Then t (one (T.Leap l)))) (sym (tree-roll (left_F l b i (out-Item x))))
    (layer_left l i b (out-Item x) a e f h))

-- rule O on the list of the construct
pub moved_out_changed : (l k i : ℕ) (b : Branch) (xs : List Item) (x : Item) (a : List Item) → slice_get xs k ≡ Some x → child b x ≡ Some a →
    slice_get a i ≡ Some (Leap l) → HasBranch b x
    → Changed Moved (trees_of xs) (trees_of (moved_out l k b i xs))
moved_out_changed l k i b xs x a e f g h =
    let made = left l b i x in
    let back = drop (k + 1) xs in
    placed xs (moved_out l k b i xs) (trees_of (take k xs)) (trees_of back)
    (ap trees_of (cut_at xs k x e) ∙ trees-three (take k xs) back x)
    (ap (λ o. trees_of (option_map_or (λ x. take k xs ++ left l b i x ∷ Leap l ∷ drop (k + 1) xs) o xs)) e
    ∙ trees-three (take k xs) (Leap l ∷ back) made
    ∙ ap (λ t. join (trees_of (take k xs)) (Then (tree_of made) t)) (trees-more (Leap l) back ∙ ap (λ t. Then t (trees_of back)) (tree-Leap l)))
    (item_left l i b x a f g h)

-- sections that a Leap enters

entered_sections : (l k : ℕ) (cs : List Real.Section) (c : Real.Section) → slice_get cs k ≡ Some c → 0 < lands l (trees_of (list_of c)) →
    SectionsEntered l k (sections_of cs) (sections_of (slice_set cs k (with_list (Leap l ∷ list_of c) c)))
unfolding sections_of
entered_sections l k [] c e g = cc
entered_sections l zero (d ∷ cs) c e g =
    let h : d ≡ c = cc in
    let s = section_tree c in
    let new : section_tree (with_list (Leap l ∷ list_of c) c) ≡ relisted s (Then (T.Leap l) s.list) =
    section-with (Leap l ∷ list_of c) c ∙ ap (relisted s) (trees-more (Leap l) (list_of c) ∙ ap (λ t. Then t (trees_of (list_of c))) (tree-Leap l) ∙
    ap (Then (T.Leap l)) (sym (list_tree c))) in
    subst (λ z. SectionsEntered l zero (first (section_tree z) (sections_of cs))
    (first (section_tree (with_list (Leap l ∷ list_of c) c)) (sections_of cs))) (sym h)
    (subst (λ z. SectionsEntered l zero (first s (sections_of cs)) (first z (sections_of cs))) (sym new)
    (M.entered_here s.cases s.default s.ends s.list (sections_of cs) (subst (λ z. 0 < lands l z) (sym (list_tree c)) g)))
entered_sections l (suc k) (d ∷ cs) c e g = let s = section_tree d in M.entered_later s.cases s.default s.ends s.list (entered_sections l k cs c e g)

-- one layer that a Leap enters

layer_entered : (l : ℕ) (n : ℤ) (b : Branch) (y : Item-F Item Real.Section) (a : List Item) → child_F b y ≡ Some a → 0 < lands l (trees_of a) →
    HasBranch_F b y → SelectsBranch b n (layer_tree y) → (t : Forest)
    → Moved (Then (T.Leap l) (join t (one (layer_tree y)))) (join (M.guarded l t) (one (layer_tree (entered_F l n b y))))
unfolding trees_of sections_of
layer_entered l n B.Then (Open.If u x z) a e w h p t =
    let new : T.If (test_tree (OrOn l u)) (Then (tree_of (Leap l)) (trees_of x)) (trees_of z) ≡ T.If (Plain.OrOn l (test_tree u))
    (Then (T.Leap l) (trees_of x)) (trees_of z) =
    ap (λ v. T.If v (Then (tree_of (Leap l)) (trees_of x)) (trees_of z)) (test-OrOn l u) ∙
    ap (λ v. T.If (Plain.OrOn l (test_tree u)) (Then v (trees_of x)) (trees_of z)) (tree-Leap l) in
    subst (λ v. Moved (Then (T.Leap l) (join t (one (T.If (test_tree u) (trees_of x) (trees_of z))))) (join (M.guarded l t) (one v))) (sym new)
    (M.in_then l t (test_tree u) (trees_of x) (trees_of z) (subst (λ z. 0 < lands l (trees_of z)) (let g : x ≡ a = cc in sym g) w))
layer_entered l n B.Else (Open.If u z x) a e w h p t =
    let new : T.If (test_tree (AndOff l u)) (trees_of z) (Then (tree_of (Leap l)) (trees_of x)) ≡ T.If (Plain.AndOff l (test_tree u)) (trees_of z)
    (Then (T.Leap l) (trees_of x)) =
    ap (λ v. T.If v (trees_of z) (Then (tree_of (Leap l)) (trees_of x))) (test-AndOff l u) ∙
    ap (λ v. T.If (Plain.AndOff l (test_tree u)) (trees_of z) (Then v (trees_of x))) (tree-Leap l) in
    subst (λ v. Moved (Then (T.Leap l) (join t (one (T.If (test_tree u) (trees_of z) (trees_of x))))) (join (M.guarded l t) (one v))) (sym new)
    (M.in_else l t (test_tree u) (trees_of z) (trees_of x) (subst (λ z. 0 < lands l (trees_of z)) (let g : x ≡ a = cc in sym g) w))
layer_entered l n B.Body (Open.While u x) a e w h p t =
    let new : T.While (test_tree (OrOn l u)) (Then (tree_of (Leap l)) (trees_of x)) ≡ T.While (Plain.OrOn l (test_tree u)) (Then (T.Leap l) (trees_of x)) =
    ap (λ v. T.While v (Then (tree_of (Leap l)) (trees_of x))) (test-OrOn l u) ∙
    ap (λ v. T.While (Plain.OrOn l (test_tree u)) (Then v (trees_of x))) (tree-Leap l) in
    subst (λ v. Moved (Then (T.Leap l) (join t (one (T.While (test_tree u) (trees_of x))))) (join (M.guarded l t) (one v))) (sym new)
    (M.in_while l t (test_tree u) (trees_of x) (subst (λ z. 0 < lands l (trees_of z)) (let g : x ≡ a = cc in sym g) w))
layer_entered l n B.Body (Open.Do x u) a e w h p t =
    subst (λ v. Moved (Then (T.Leap l) (join t (one (T.Do (trees_of x) (test_tree u)))))
    (join (M.guarded l t) (one (T.Do (Then v (trees_of x)) (test_tree u))))) (sym (tree-Leap l))
    (M.in_do l t (test_tree u) (trees_of x) (subst (λ z. 0 < lands l (trees_of z)) (let g : x ≡ a = cc in sym g) w))
layer_entered l n (B.Section k) (Open.Switch s cs) a e w h p t =
    let q = map_some list_of (slice_get cs k) a e in
    let c = q.0 in
    let made = slice_set cs k (with_list (Leap l ∷ list_of c) c) in
    let sections_are : section_entered l k cs ≡ made = ap (λ o. option_map_or (λ c. slice_set cs k (with_list (Leap l ∷ list_of c) c)) o cs) q.1 in
    let new : T.Switch (selector_tree (Pick l n s)) (sections_of (section_entered l k cs)) ≡ T.Switch (Plain.Pick l n (selector_tree s)) (sections_of made) =
    ap (λ v. T.Switch v (sections_of (section_entered l k cs))) (selector-Pick l n s) ∙
    ap (λ v. T.Switch (Plain.Pick l n (selector_tree s)) (sections_of v)) sections_are in
    subst (λ v. Moved (Then (T.Leap l) (join t (one (T.Switch (selector_tree s) (sections_of cs))))) (join (M.guarded l t) (one v))) (sym new)
    (M.in_switch l t (selector_tree s) k n (entered_sections l k cs c q.1 (subst (λ z. 0 < lands l (trees_of z)) (sym q.2) w)) p)
layer_entered l n _ _ a e w h p t = absurd h

item_entered : (l : ℕ) (n : ℤ) (b : Branch) (x : Item) (a : List Item) → child b x ≡ Some a → 0 < lands l (trees_of a) → HasBranch b x →
    SelectsBranch b n (tree_of x) → (t : Forest)
    → Moved (Then (T.Leap l) (join t (one (tree_of x)))) (join (M.guarded l t) (one (tree_of (entered l n b x))))
item_entered l n b x a e w h p t =
    subst (λ v. Moved (Then (T.Leap l) (join t (one v))) (join (M.guarded l t) (one (tree_of (entered l n b x))))) (sym (tree-out x))
    (subst (λ v. Moved (Then (T.Leap l) (join t (one (layer_tree (out-Item x))))) (join (M.guarded l t) (one v)))
    (sym (tree-roll (entered_F l n b (out-Item x))))
    (layer_entered l n b (out-Item x) a e w h (subst (SelectsBranch b n) (tree-out x) p) t))

-- rule I on the list of the Leap
pub moved_in_changed : (l : ℕ) (n : ℤ) (i j : ℕ) (b : Branch) (xs : List Item) (x : Item) (a : List Item) → i < j → slice_get xs i ≡ Some (Leap l) →
    slice_get xs j ≡ Some x
    → child b x ≡ Some a → 0 < lands l (trees_of a) → HasBranch b x → SelectsBranch b n (tree_of x) →
    Changed Moved (trees_of xs) (trees_of (moved_in l n i j b xs))
moved_in_changed l n i j b xs x a h e f g w q p =
    let mid = slice_range xs (i + 1) j in
    let back = drop (j + 1) xs in
    placed xs (moved_in l n i j b xs) (trees_of (take i xs)) (trees_of back)
    (ap trees_of (cut_twice xs i j (Leap l) x h e f)
    ∙ trees-stretch (take i xs) mid back (Leap l) x
    ∙ ap (λ t. join (trees_of (take i xs)) (join (Then t (join (trees_of mid) (one (tree_of x)))) (trees_of back))) (tree-Leap l))
    (ap (λ o. trees_of (option_map_or (λ x. take i xs ++ J.guarded l mid ++ entered l n b x ∷ back) o xs)) f
    ∙ trees-guarded_stretch l (take i xs) mid back (entered l n b x))
    (item_entered l n b x a g w q p (trees_of mid))
