-- What items show of their trees, item by item.
use Rattle.std.proofs.Common.{◌≡◌, ◌↔◌, ℕ, ℤ, zero, suc, ◌+◌, ◌<◌, ◌≤◌, Bool, true, false, cond, ◌&&◌, ◌||◌, not, ◌==◌, List, [], ◌∷◌, ◌++◌, length, drop, get_or, Option, Some, None, is_some, slice_get, option_map, refl, sym, ap, ◌∙◌}
use Rattle.std.proofs.lemmas.List.{at_drop_more, at_drop_all}
use Rattle.std.proofs.Math.Path.{fun_ext}
use Rattle.c_types.specs.declared.kinds.IntKind.{IntKind}
use Rattle.c_tree.specs.declared.tree.Item.{Item, Item-F, If, For, out-Item, out-roll-Item}
use Rattle.c_tree.specs.declared.tree.Item.TheVariants.{rolls-If, rolls-For}
use Rattle.c_tree.specs.declared.tree.Item.TheOpen as O
use Rattle.c_tree.specs.declared.tree.Section as Real
use Rattle.c_tree.specs.declared.tree.Test.{Test, Test-F, AndOff, OrOn, out-Test, roll-out-Test, roll-Test, fold-roll-Test}
use Rattle.c_tree.specs.declared.tree.Selector.{Selector}
use Rattle.c_tree.specs.declared.tree.Selector as Selectors
use Rattle.c_tree.specs.declared.tree.Place.{Place}
use Rattle.c_tree.specs.declared.tree.Node.{Node, Node-F, Conditional, Comma, Call, out-Node, roll-Node, roll-out-Node, fold-roll-Node}
use Rattle.c_tree.specs.declared.tree.Node.TheVariants.{rolls-Conditional, rolls-Comma, rolls-Call}
use Rattle.c_tree.specs.declared.tree.Node.TheOpen as N
use Rattle.c_tree.specs.declared.tree.Test.TheOpen as OT
use Rattle.c_tree.specs.declared.tree.Expression.{Expression, out-Expression}
use Rattle.c_tree.specs.declared.tree.Branch.{Branch}
use Rattle.c_tree.specs.declared.tree.Branch.TheVariants as B
use Rattle.c_tree.specs.Paths.{list_of}
use Rattle.c_tree.specs.TestTrees.{TestTree, test_layer, test_tree, selector_tree}
use Rattle.c_tree.specs.TestTrees as PT
use Rattle.c_tree.specs.Trees.{Tree, Forest, Nil, Then, SectionTree, tree_of, trees_of, sections_of}
use Rattle.c_tree.specs.Trees as P
use Rattle.c_tree.specs.ExpressionTrees.{ExpressionTree, NodeTree, PlaceTree, node_layer, place_layer, expression_layer, expression_tree, node_tree}
use Rattle.c_tree.specs.ExpressionTrees as PE
use Rattle.c_tree.proofs.ExpressionLaws.{test-AndOff, test-OrOn, selector-Pick, expression-parts, node-Call, node-Comma, node-Conditional}
use Rattle.c_tree.proofs.TreeLaws.{trees-none, trees-more, sections-none, sections-more, section-parts}
use Rattle.c_tree.proofs.ChangeLemmas.{layer_tree, tree-out}
use Rattle.guard_simplify.specs.declared.choice.Choice.{Choice}
use Rattle.guard_simplify.specs.declared.choice.Repeat.{Repeat}
use Rattle.report_moves.specs.declared.moves.MoveKind.{MoveKind}
use Rattle.report_moves.specs.declared.moves.MoveKind.TheVariants.{Z1, Z2, Z3, Z4, Z5}
use Rattle.guard_simplify.specs.Own.{choice_at, else_label, else_repeat, own_at}
use Rattle.guard_simplify.specs.Choice.{first, if_true, if_some, repeat_label, has, is_off_of, inside, repeat, repeat_pick, is_nil, is_made, is_off, is_empty_if, is_made_if, is_one_if, is_nested, arms, arms_of, arms_in, barred, barred_of, barred_in, ends_in_call, unread_guard, own, under_one, under, choices_from, choices_in, choices_of_sections, neighbours, joins_next, repeat_of}
use Rattle.guard_simplify.specs.Views.{empty_if_F, empty_if, repeat_F, repeat_in, off_label_F, off_label, guard_F, guard, made_if_F, one_if, nested_F, nested, arms_F, arms_item, bars_F, bars_item, unread_F, unread, inside_F, inside_item, beside, next_guard}

abbrev pub off_of_label : ℕ → Option ℕ → Bool
off_of_label l None = false
off_of_label l (Some m) = m == l

abbrev pub none_is : {A : Type 0} → Option A → Bool
none_is None = true
none_is (Some a) = false

-- lists

abbrev pub nil_of : List Item → Bool
nil_of [] = true
nil_of (x ∷ xs) = false

pub nil_is : (xs : List Item) → is_nil (trees_of xs) ≡ nil_of xs
unfolding trees_of
nil_is [] = refl
nil_is (x ∷ xs) = refl

pub nil_by : (b : Bool) (xs : List Item) → ((b ≡ true) ↔ (xs ≡ [])) → b ≡ is_nil (trees_of xs)
nil_by true xs h = let e : xs ≡ [] = h.0 refl in sym (nil_is xs ∙ ap nil_of e)
nil_by false [] h = let f : false ≡ true = h.1 refl in cc
nil_by false (x ∷ xs) h = sym (nil_is (x ∷ xs))

-- ---- Arms

layer_arms : (l : ℕ) (y : Item-F Item Real.Section) → arms_of l (layer_tree y) ≡ arms_F l y
unfolding trees_of sections_of
layer_arms l (O.If t a b) = refl
layer_arms l (O.While t a) = refl
layer_arms l (O.Do a t) = refl
layer_arms l (O.For f t u a) = refl
layer_arms l (O.Switch s cs) = refl
layer_arms l (O.Block a) = refl
layer_arms l (O.Arm m e) = refl
layer_arms l _ = refl

pub arms-item : (l : ℕ) (x : Item) → arms_of l (tree_of x) ≡ arms_item l x
arms-item l x = ap (arms_of l) (tree-out x) ∙ layer_arms l (out-Item x)

pub arms-more : (l : ℕ) (xs : List Item) (i : ℕ) (x : Item) → i < length xs → x ≡ get_or xs i x →
    arms l (trees_of (drop i xs)) ≡ (arms_item l x || arms l (trees_of (drop (i + 1) xs)))
arms-more l xs i x h e =
    at_drop_more (λ z. arms l (trees_of z)) xs i x h ∙ ap (arms l) (trees-more (get_or xs i x) (drop (i + 1) xs))
    ∙ ap (λ b. b || arms l (trees_of (drop (i + 1) xs))) (arms-item l (get_or xs i x) ∙ ap (arms_item l) (sym e))

pub arms-all : (l : ℕ) (xs : List Item) (i : ℕ) → length xs ≤ i → arms l (trees_of (drop i xs)) ≡ false
arms-all l xs i h = at_drop_all (λ z. arms l (trees_of z)) xs i h ∙ ap (arms l) trees-none

pub section_arms-more : (l : ℕ) (cs : List Real.Section) (i : ℕ) (c : Real.Section) → i < length cs → c ≡ get_or cs i c
    → arms_in l (sections_of (drop i cs)) ≡ (arms l (trees_of (list_of c)) || arms_in l (sections_of (drop (i + 1) cs)))
section_arms-more l cs i c h e =
    let rest = sections_of (drop (i + 1) cs) in
    at_drop_more (λ z. arms_in l (sections_of z)) cs i c h ∙ ap (arms_in l) (sections-more (get_or cs i c) (drop (i + 1) cs))
    ∙ ap (λ (z : SectionTree). arms l z.list || arms_in l rest) (section-parts (get_or cs i c))
    ∙ ap (λ z. arms l (trees_of (list_of z)) || arms_in l rest) (sym e)

pub section_arms-all : (l : ℕ) (cs : List Real.Section) (i : ℕ) → length cs ≤ i → arms_in l (sections_of (drop i cs)) ≡ false
section_arms-all l cs i h = at_drop_all (λ z. arms_in l (sections_of z)) cs i h ∙ ap (arms_in l) sections-none

-- ---- what bars a guard

layer_bars : (l : ℕ) (y : Item-F Item Real.Section) → barred_of l (layer_tree y) ≡ bars_F l y
unfolding trees_of sections_of
layer_bars l (O.If t a b) = refl
layer_bars l (O.While t a) = refl
layer_bars l (O.Do a t) = refl
layer_bars l (O.For f t u a) = refl
layer_bars l (O.Switch s cs) = refl
layer_bars l (O.Block a) = refl
layer_bars l (O.Goto m) = refl
layer_bars l (O.Leap m) = refl
layer_bars l (O.Arm m None) = refl
layer_bars l (O.Arm m (Some e)) = refl
layer_bars l _ = refl

pub bars-item : (l : ℕ) (x : Item) → barred_of l (tree_of x) ≡ bars_item l x
bars-item l x = ap (barred_of l) (tree-out x) ∙ layer_bars l (out-Item x)

pub bars-more : (l : ℕ) (xs : List Item) (i : ℕ) (x : Item) → i < length xs → x ≡ get_or xs i x →
    barred l (trees_of (drop i xs)) ≡ (bars_item l x || barred l (trees_of (drop (i + 1) xs)))
bars-more l xs i x h e =
    at_drop_more (λ z. barred l (trees_of z)) xs i x h ∙ ap (barred l) (trees-more (get_or xs i x) (drop (i + 1) xs))
    ∙ ap (λ b. b || barred l (trees_of (drop (i + 1) xs))) (bars-item l (get_or xs i x) ∙ ap (bars_item l) (sym e))

pub bars-all : (l : ℕ) (xs : List Item) (i : ℕ) → length xs ≤ i → barred l (trees_of (drop i xs)) ≡ false
bars-all l xs i h = at_drop_all (λ z. barred l (trees_of z)) xs i h ∙ ap (barred l) trees-none

pub section_bars-more : (l : ℕ) (cs : List Real.Section) (i : ℕ) (c : Real.Section) → i < length cs → c ≡ get_or cs i c
    → barred_in l (sections_of (drop i cs)) ≡ (barred l (trees_of (list_of c)) || barred_in l (sections_of (drop (i + 1) cs)))
section_bars-more l cs i c h e =
    let rest = sections_of (drop (i + 1) cs) in
    at_drop_more (λ z. barred_in l (sections_of z)) cs i c h ∙ ap (barred_in l) (sections-more (get_or cs i c) (drop (i + 1) cs))
    ∙ ap (λ (z : SectionTree). barred l z.list || barred_in l rest) (section-parts (get_or cs i c))
    ∙ ap (λ z. barred l (trees_of (list_of z)) || barred_in l rest) (sym e)

pub section_bars-all : (l : ℕ) (cs : List Real.Section) (i : ℕ) → length cs ≤ i → barred_in l (sections_of (drop i cs)) ≡ false
section_bars-all l cs i h = at_drop_all (λ z. barred_in l (sections_of z)) cs i h ∙ ap (barred_in l) sections-none

pub bars-For : (l : ℕ) (f : List Item) (t u : Option Expression) (a : List Item) → bars_item l (For f t u a) ≡ (barred l (trees_of f) || barred l (trees_of a))
bars-For l f t u a = ap (bars_item l) (sym (rolls-For f t u a)) ∙ ap (bars_F l) (out-roll-Item (O.For f t u a))

pub inside-If : (bar : ℕ → Bool) (i : ℕ) (t : Test) (a b : List Item) →
    inside_item bar i (If t a b) ≡ under i B.Then (choices_from bar 0 (trees_of a)) ++ under i B.Else (choices_from bar 0 (trees_of b))
inside-If bar i t a b = ap (inside_item bar i) (sym (rolls-If t a b)) ∙ ap (inside_F bar i) (out-roll-Item (O.If t a b))

-- one after another
pub or_both : (o a b x y : Bool) → x ≡ (o || a) → y ≡ (x || b) → y ≡ (o || (a || b))
or_both true a b x y e f = f ∙ ap (λ z. z || b) e
or_both false a b x y e f = f ∙ ap (λ z. z || b) e

pub or_step : (all o a b x y : Bool) → (x || (a || b)) ≡ all → y ≡ (x || a) → (y || b) ≡ all
or_step all o a b true y e f = ap (λ z. z || b) f ∙ e
or_step all o a b false y e f = ap (λ z. z || b) f ∙ e

pub or_none : (a : Bool) → (a || false) ≡ a
or_none true = refl
or_none false = refl

-- ---- the shapes

layer_empty : (y : Item-F Item Real.Section) → is_empty_if (layer_tree y) ≡ empty_if_F y
unfolding trees_of
layer_empty (O.If t a b) = refl
layer_empty _ = refl

pub empty-item : (x : Item) → is_empty_if (tree_of x) ≡ empty_if x
empty-item x = ap is_empty_if (tree-out x) ∙ layer_empty (out-Item x)

layer_repeat : (y : Item-F Item Real.Section) → repeat_of (layer_tree y) ≡ repeat_F y
layer_repeat (O.If t a b) = refl
layer_repeat (O.While t a) = refl
layer_repeat (O.Do a t) = refl
layer_repeat (O.Switch s cs) = refl
layer_repeat _ = refl

pub repeat-item : (x : Item) → repeat_of (tree_of x) ≡ repeat_in x
repeat-item x = ap repeat_of (tree-out x) ∙ layer_repeat (out-Item x)

layer_unread : (bar : ℕ → Bool) (y : Item-F Item Real.Section) → unread_guard bar (layer_tree y) ≡ unread_F bar y
layer_unread bar (O.Arm m e) = refl
layer_unread bar (O.Land m) = refl
layer_unread bar _ = refl

pub unread-item : (bar : ℕ → Bool) (x : Item) → unread_guard bar (tree_of x) ≡ unread bar x
unread-item bar x = ap (unread_guard bar) (tree-out x) ∙ layer_unread bar (out-Item x)

layer_inside : (bar : ℕ → Bool) (i : ℕ) (y : Item-F Item Real.Section) → choices_in bar i (layer_tree y) ≡ inside_F bar i y
unfolding trees_of sections_of
layer_inside bar i (O.If t a b) = refl
layer_inside bar i (O.While t a) = refl
layer_inside bar i (O.Do a t) = refl
layer_inside bar i (O.For f t u a) = refl
layer_inside bar i (O.Switch s cs) = refl
layer_inside bar i (O.Block a) = refl
layer_inside bar i _ = refl

pub inside-item : (bar : ℕ → Bool) (i : ℕ) (x : Item) → choices_in bar i (tree_of x) ≡ inside_item bar i x
inside-item bar i x = ap (choices_in bar i) (tree-out x) ∙ layer_inside bar i (out-Item x)

-- ---- tests

layer_off : (l : ℕ) (y : Test-F Test) → is_off_of l (test_tree (roll-Test y)) ≡ off_of_label l (off_label_F y)
unfolding test_tree
layer_off l (OT.Off m) = ap (is_off_of l) (fold-roll-Test TestTree test_layer (OT.Off m))
layer_off l (OT.Source e) = ap (is_off_of l) (fold-roll-Test TestTree test_layer (OT.Source e))
layer_off l (OT.On m) = ap (is_off_of l) (fold-roll-Test TestTree test_layer (OT.On m))
layer_off l (OT.AndOff m u) = ap (is_off_of l) (fold-roll-Test TestTree test_layer (OT.AndOff m u))
layer_off l (OT.OrOn m u) = ap (is_off_of l) (fold-roll-Test TestTree test_layer (OT.OrOn m u))

pub off_of-is : (l : ℕ) (t : Test) → is_off_of l (test_tree t) ≡ off_of_label l (off_label t)
off_of-is l t = ap (λ z. is_off_of l (test_tree z)) (sym (roll-out-Test t)) ∙ layer_off l (out-Test t)

abbrev here_at : ℕ → Option Repeat
here_at l = Some (record { at = 0; label = l })

pub and_is : (ands ors : List ℕ) (t : Test) (l : ℕ) (u v : Test) (b : Bool) → t ≡ AndOff l u → v ≡ u → b ≡ (has l ands || is_off_of l (test_tree v))
    → repeat ands ors (test_tree t) ≡ cond b (here_at l) (inside (repeat (ands ++ l ∷ []) ors (test_tree v)))
and_is ands ors t l u v b e f g =
    ap (λ z. repeat ands ors (test_tree z)) e ∙ ap (repeat ands ors) (test-AndOff l u) ∙ ap (λ z. repeat ands ors (PT.AndOff l (test_tree z))) (sym f)
    ∙ ap (λ z. cond z (here_at l) (inside (repeat (ands ++ l ∷ []) ors (test_tree v)))) (sym g)

pub or_is : (ands ors : List ℕ) (t : Test) (l : ℕ) (u v : Test) (b : Bool) → t ≡ OrOn l u → v ≡ u → b ≡ has l ors
    → repeat ands ors (test_tree t) ≡ cond b (here_at l) (inside (repeat ands (ors ++ l ∷ []) (test_tree v)))
or_is ands ors t l u v b e f g =
    ap (λ z. repeat ands ors (test_tree z)) e ∙ ap (repeat ands ors) (test-OrOn l u) ∙ ap (λ z. repeat ands ors (PT.OrOn l (test_tree z))) (sym f)
    ∙ ap (λ z. cond z (here_at l) (inside (repeat ands (ors ++ l ∷ []) (test_tree v)))) (sym g)

pub pick_is : (picks : List ℕ) (s : Selector) (l : ℕ) (n : ℤ) (u v : Selector) (b : Bool) → s ≡ Selectors.Pick l n u → v ≡ u → b ≡ has l picks
    → repeat_pick picks (selector_tree s) ≡ cond b (here_at l) (inside (repeat_pick (picks ++ l ∷ []) (selector_tree v)))
pick_is picks s l n u v b e f g =
    ap (λ z. repeat_pick picks (selector_tree z)) e ∙ ap (repeat_pick picks) (selector-Pick l n u) ∙
    ap (λ z. repeat_pick picks (PT.Pick l n (selector_tree z))) (sym f)
    ∙ ap (λ z. cond z (here_at l) (inside (repeat_pick (picks ++ l ∷ []) (selector_tree v)))) (sym g)

-- a found wrapper
pub then_is : (o w : Option Repeat) (b : Bool) (l : ℕ) → o ≡ cond b (here_at l) w → b ≡ true → here_at l ≡ o
then_is o w b l e h = sym (e ∙ ap (λ z. cond z (here_at l) w) h)

pub else_is : (o w : Option Repeat) (b : Bool) (l : ℕ) → o ≡ cond b (here_at l) w → b ≡ false → w ≡ o
else_is o w b l e h = sym (e ∙ ap (λ z. cond z (here_at l) w) h)

-- ---- calls

conditional_none : (k : Option IntKind) (a b d : ExpressionTree) → ends_in_call (PE.Typed k (PE.Conditional a b d)) ≡ none_is k
conditional_none None a b d = refl
conditional_none (Some k) a b d = refl

pub call-is : (e : Expression) (f : List ℕ) (xs : List Expression) → (out-Expression e).node ≡ Call f xs → ends_in_call (expression_tree e) ≡ true
call-is e f xs h =
    let k = (out-Expression e).kind in
    ap ends_in_call (expression-parts e) ∙ ap (λ n. ends_in_call (PE.Typed k (node_tree n))) h ∙ ap (λ n. ends_in_call (PE.Typed k n)) (node-Call f xs)

pub comma-is : (e a b : Expression) → (out-Expression e).node ≡ Comma a b → ends_in_call (expression_tree e) ≡ ends_in_call (expression_tree b)
comma-is e a b h =
    let k = (out-Expression e).kind in
    ap ends_in_call (expression-parts e) ∙ ap (λ n. ends_in_call (PE.Typed k (node_tree n))) h ∙ ap (λ n. ends_in_call (PE.Typed k n)) (node-Comma a b)

pub conditional-is : (e a b d : Expression) → (out-Expression e).node ≡ Conditional a b d → ends_in_call (expression_tree e) ≡ none_is (out-Expression e).kind
conditional-is e a b d h =
    let k = (out-Expression e).kind in
    ap ends_in_call (expression-parts e) ∙ ap (λ n. ends_in_call (PE.Typed k (node_tree n))) h ∙
    ap (λ n. ends_in_call (PE.Typed k n)) (node-Conditional a b d) ∙ conditional_none k _ _ _

other_layer : (k : Option IntKind) (n : Node) (y : Node-F Node Place Expression) → n ≡ roll-Node y
    → ((a b d : Expression) → n ≡ Conditional a b d → ⊥) → ((a b : Expression) → n ≡ Comma a b → ⊥) → ((f : List ℕ) (xs : List Expression) → n ≡ Call f xs → ⊥)
    → ends_in_call (PE.Typed k (node_tree (roll-Node y))) ≡ false
unfolding node_tree
other_layer k n (N.Conditional a b d) e p q r = absurd (p a b d (e ∙ rolls-Conditional a b d))
other_layer k n (N.Comma a b) e p q r = absurd (q a b (e ∙ rolls-Comma a b))
other_layer k n (N.Call f xs) e p q r = absurd (r f xs (e ∙ rolls-Call f xs))
other_layer k n y e p q r = ap (λ z. ends_in_call (PE.Typed k z)) (fold-roll-Node NodeTree PlaceTree ExpressionTree node_layer place_layer expression_layer y)

pub other-is : (e : Expression) → ((a b d : Expression) → (out-Expression e).node ≡ Conditional a b d → ⊥) →
    ((a b : Expression) → (out-Expression e).node ≡ Comma a b → ⊥)
    → ((f : List ℕ) (xs : List Expression) → (out-Expression e).node ≡ Call f xs → ⊥) → ends_in_call (expression_tree e) ≡ false
other-is e p q r =
    let k = (out-Expression e).kind in
    let n = (out-Expression e).node in
    ap ends_in_call (expression-parts e) ∙ ap (λ z. ends_in_call (PE.Typed k (node_tree z))) (sym (roll-out-Node n)) ∙
    other_layer k n (out-Node n) (sym (roll-out-Node n)) p q r

pub none_by : {A : Type 0} (o : Option A) (b : Bool) → is_some o ≡ not b → b ≡ none_is o
none_by None true h = refl
none_by None false h = cc
none_by (Some a) true h = cc
none_by (Some a) false h = refl

-- ---- guards and nested `if`s

-- the label of an `if` without else-list whose test is `Off` of it
abbrev guard_of : Tree → Option ℕ
guard_of (P.If (PT.Off l) a Nil) = Some l
guard_of _ = None

abbrev off_of_tree : TestTree → Option ℕ
off_of_tree (PT.Off l) = Some l
off_of_tree _ = None

guard_tree : (t : TestTree) (a b : Forest) → guard_of (P.If t a b) ≡ cond (is_nil b) (off_of_tree t) None
guard_tree (PT.Off l) a Nil = refl
guard_tree (PT.Off l) a (Then x xs) = refl
guard_tree (PT.Source e) a Nil = refl
guard_tree (PT.Source e) a (Then x xs) = refl
guard_tree (PT.On l) a Nil = refl
guard_tree (PT.On l) a (Then x xs) = refl
guard_tree (PT.AndOff l t) a Nil = refl
guard_tree (PT.AndOff l t) a (Then x xs) = refl
guard_tree (PT.OrOn l t) a Nil = refl
guard_tree (PT.OrOn l t) a (Then x xs) = refl

layer_off_label : (y : Test-F Test) → off_of_tree (test_tree (roll-Test y)) ≡ off_label_F y
unfolding test_tree
layer_off_label (OT.Off m) = ap off_of_tree (fold-roll-Test TestTree test_layer (OT.Off m))
layer_off_label (OT.Source e) = ap off_of_tree (fold-roll-Test TestTree test_layer (OT.Source e))
layer_off_label (OT.On m) = ap off_of_tree (fold-roll-Test TestTree test_layer (OT.On m))
layer_off_label (OT.AndOff m u) = ap off_of_tree (fold-roll-Test TestTree test_layer (OT.AndOff m u))
layer_off_label (OT.OrOn m u) = ap off_of_tree (fold-roll-Test TestTree test_layer (OT.OrOn m u))

off_label-is : (t : Test) → off_of_tree (test_tree t) ≡ off_label t
off_label-is t = ap (λ z. off_of_tree (test_tree z)) (sym (roll-out-Test t)) ∙ layer_off_label (out-Test t)

layer_guard : (y : Item-F Item Real.Section) → guard_of (layer_tree y) ≡ guard_F y
unfolding trees_of
layer_guard (O.If t a b) = guard_tree (test_tree t) (trees_of a) (trees_of b) ∙ ap (λ o. cond (is_nil (trees_of b)) o None) (off_label-is t)
layer_guard _ = refl

pub guard-item : (x : Item) → guard_of (tree_of x) ≡ guard x
guard-item x = ap guard_of (tree-out x) ∙ layer_guard (out-Item x)

neighbours_next : (l : ℕ) (x y : Tree) → joins_next l x y ≡ beside (Some l) (guard_of y) (λ k. arms_of k x)
neighbours_next l x (P.If (PT.Off m) b Nil) = refl
neighbours_next l x _ = refl

neighbours_is : (x y : Tree) (ys : Forest) → neighbours x (Then y ys) ≡ beside (guard_of x) (guard_of y) (λ k. arms_of k x)
neighbours_is (P.If (PT.Off l) a Nil) y ys = neighbours_next l (P.If (PT.Off l) a Nil) y
neighbours_is _ y ys = refl

neighbours_nil : (x : Tree) → neighbours x Nil ≡ None
neighbours_nil (P.If (PT.Off l) a Nil) = refl
neighbours_nil _ = refl

beside_none : (o : Option ℕ) (f : ℕ → Bool) → beside o None f ≡ None
beside_none None f = refl
beside_none (Some l) f = refl

neighbours_of : (x : Item) (ys : List Item) → neighbours (tree_of x) (trees_of ys) ≡ beside (guard x) (next_guard (slice_get ys 0)) (λ l. arms_item l x)
unfolding trees_of
neighbours_of x [] = neighbours_nil (tree_of x) ∙ sym (beside_none (guard x) (λ l. arms_item l x))
neighbours_of x (y ∷ ys) =
    neighbours_is (tree_of x) (tree_of y) (trees_of ys) ∙ ap (λ o. beside o (guard_of (tree_of y)) (λ k. arms_of k (tree_of x))) (guard-item x)
    ∙ ap (λ o. beside (guard x) o (λ k. arms_of k (tree_of x))) (guard-item y) ∙ ap (beside (guard x) (guard y)) (fun_ext (λ l. arms-item l x))

get_drop : {A : Type 0} (xs : List A) (i : ℕ) → slice_get (drop i xs) 0 ≡ slice_get xs i
get_drop [] zero = refl
get_drop [] (suc i) = refl
get_drop (x ∷ xs) zero = refl
get_drop (x ∷ xs) (suc i) = get_drop xs i

pub neighbours-item : (x : Item) (xs : List Item) (i : ℕ) → neighbours (tree_of x) (trees_of (drop (i + 1) xs)) ≡ beside (guard x)
    (next_guard (slice_get xs (i + 1))) (λ l. arms_item l x)
neighbours-item x xs i = neighbours_of x (drop (i + 1) xs) ∙ ap (λ o. beside (guard x) (next_guard o) (λ l. arms_item l x)) (get_drop xs (i + 1))

made_tree : (t : TestTree) (a b : Forest) → is_made_if (P.If t a b) ≡ (is_nil b && is_made t)
made_tree t a Nil = refl
made_tree t a (Then x xs) = refl

layer_made : (y : Item-F Item Real.Section) → is_made_if (layer_tree y) ≡ made_if_F y
unfolding trees_of
layer_made (O.If t a b) = made_tree (test_tree t) (trees_of a) (trees_of b)
layer_made _ = refl

one_if-is : (xs : List Item) → is_one_if (trees_of xs) ≡ one_if xs
unfolding trees_of
one_if-is [] = refl
one_if-is (x ∷ []) = ap is_made_if (tree-out x) ∙ layer_made (out-Item x)
one_if-is (x ∷ y ∷ ys) = refl

nested_tree : (t : TestTree) (a b : Forest) → is_nested (P.If t a b) ≡ (is_nil b && (is_off t && is_one_if a))
nested_tree t a Nil = refl
nested_tree t a (Then x xs) = refl

layer_nested : (y : Item-F Item Real.Section) → is_nested (layer_tree y) ≡ nested_F y
unfolding trees_of
layer_nested (O.If t a b) = nested_tree (test_tree t) (trees_of a) (trees_of b) ∙ ap (λ z. is_nil (trees_of b) && (is_off (test_tree t) && z)) (one_if-is a)
layer_nested _ = refl

pub nested-item : (x : Item) → is_nested (tree_of x) ≡ nested x
nested-item x = ap is_nested (tree-out x) ∙ layer_nested (out-Item x)

-- ---- the first of all

pub first_some : (a b : List Choice) (c : Choice) → first a ≡ Some c → first (a ++ b) ≡ Some c
first_some [] b c e = cc
first_some (d ∷ a) b c e = e

pub first_none : (a b : List Choice) → first a ≡ None → first (a ++ b) ≡ first b
first_none [] b e = refl
first_none (d ∷ a) b e = cc

else_true : (i : ℕ) (k : MoveKind) (b : Bool) (rest : List Choice) → first (if_true i k b ++ rest) ≡ cond b (Some (choice_at k None i)) (first rest)
else_true i k true rest = refl
else_true i k false rest = refl

else_some : (i : ℕ) (k : MoveKind) (o : Option ℕ) (rest : List Choice) → first (if_some i k o ++ rest) ≡ else_label i k o (first rest)
else_some i k None rest = refl
else_some i k (Some l) rest = refl

else_found : (i : ℕ) (o : Option Repeat) (rest : List Choice) → first (if_some i Z2 (repeat_label o) ++ rest) ≡ else_repeat i o (first rest)
else_found i None rest = refl
else_found i (Some r) rest = refl

last_some : (i : ℕ) (k : MoveKind) (o : Option ℕ) → first (if_some i k o) ≡ else_label i k o None
last_some i k None = refl
last_some i k (Some l) = refl

pub own-is : (bar : ℕ → Bool) (i : ℕ) (x : Item) (xs : List Item) (j : ℕ) →
    first (own bar i (tree_of x) (trees_of (drop (j + 1) xs))) ≡ own_at bar i x (slice_get xs (j + 1))
own-is bar i x xs j =
    let t = tree_of x in
    let rest = trees_of (drop (j + 1) xs) in
    else_true i Z1 (is_empty_if t) _
    ∙ ap (cond (is_empty_if t) (Some (choice_at Z1 None i)))
    (else_found i (repeat_of t) _ ∙ ap (else_repeat i (repeat_of t))
    (else_some i Z3 (neighbours t rest) _ ∙ ap (else_label i Z3 (neighbours t rest))
    (else_true i Z4 (is_nested t) _ ∙ ap (cond (is_nested t) (Some (choice_at Z4 None i))) (last_some i Z5 (unread_guard bar t)))))
    ∙ (simp (empty-item x, repeat-item x, neighbours-item x xs j, nested-item x, unread-item bar x))

pub choices-more : (bar : ℕ → Bool) (n : ℕ) (xs : List Item) (i : ℕ) (x : Item) → i < length xs → x ≡ get_or xs i x
    → choices_from bar n (trees_of (drop i xs)) ≡ own bar n (tree_of x) (trees_of (drop (i + 1) xs)) ++
    (inside_item bar n x ++ choices_from bar (n + 1) (trees_of (drop (i + 1) xs)))
choices-more bar n xs i x h e =
    let rest = trees_of (drop (i + 1) xs) in
    at_drop_more (λ z. choices_from bar n (trees_of z)) xs i x h ∙ ap (choices_from bar n) (trees-more (get_or xs i x) (drop (i + 1) xs))
    ∙ ap (λ z. own bar n (tree_of z) rest ++ (choices_in bar n (tree_of z) ++ choices_from bar (n + 1) rest)) (sym e)
    ∙ ap (λ z. own bar n (tree_of x) rest ++ (z ++ choices_from bar (n + 1) rest)) (inside-item bar n x)

pub choices-all : (bar : ℕ → Bool) (n : ℕ) (xs : List Item) (i : ℕ) → length xs ≤ i → choices_from bar n (trees_of (drop i xs)) ≡ []
choices-all bar n xs i h = at_drop_all (λ z. choices_from bar n (trees_of z)) xs i h ∙ ap (choices_from bar n) trees-none

pub section_choices-more : (bar : ℕ → Bool) (at k : ℕ) (cs : List Real.Section) (i : ℕ) (c : Real.Section) → i < length cs → c ≡ get_or cs i c
    → choices_of_sections bar at k (sections_of (drop i cs)) ≡ under at (B.Section k) (choices_from bar 0 (trees_of (list_of c))) ++
    choices_of_sections bar at (k + 1) (sections_of (drop (i + 1) cs))
section_choices-more bar at k cs i c h e =
    let rest = sections_of (drop (i + 1) cs) in
    at_drop_more (λ z. choices_of_sections bar at k (sections_of z)) cs i c h ∙
    ap (choices_of_sections bar at k) (sections-more (get_or cs i c) (drop (i + 1) cs))
    ∙ ap (λ (z : SectionTree). under at (B.Section k) (choices_from bar 0 z.list) ++ choices_of_sections bar at (k + 1) rest) (section-parts (get_or cs i c))
    ∙ ap (λ z. under at (B.Section k) (choices_from bar 0 (trees_of (list_of z))) ++ choices_of_sections bar at (k + 1) rest) (sym e)

pub section_choices-all : (bar : ℕ → Bool) (at k : ℕ) (cs : List Real.Section) (i : ℕ) → length cs ≤ i →
    choices_of_sections bar at k (sections_of (drop i cs)) ≡ []
section_choices-all bar at k cs i h = at_drop_all (λ z. choices_of_sections bar at k (sections_of z)) cs i h ∙ ap (choices_of_sections bar at k) sections-none

-- bars that agree choose alike
pub same_choices : (f g : ℕ → Bool) (xs : Forest) → ((l : ℕ) → f l ≡ g l) → choices_from f 0 xs ≡ choices_from g 0 xs
same_choices f g xs h = ap (λ z. choices_from z 0 xs) (fun_ext h)

pub under_first : (i : ℕ) (b : Branch) (cs : List Choice) → option_map (under_one i b) (first cs) ≡ first (under i b cs)
under_first i b [] = refl
under_first i b (c ∷ cs) = refl

-- the item i decides, or what is behind it does
module _ (bar : ℕ → Bool) (xs : List Item) (i : ℕ) (x : Item) (h : i < length xs) (e : x ≡ get_or xs i x) where
  abbrev rest_choices : List Choice
  rest_choices = choices_from bar (i + 1) (trees_of (drop (i + 1) xs))

  pub own_decides : (all : Option Choice) (c : Choice) → all ≡ first (choices_from bar i (trees_of (drop i xs))) →
      own_at bar i x (slice_get xs (i + 1)) ≡ Some c → Some c ≡ all
  own_decides all c a f =
      sym (a ∙ ap first (choices-more bar i xs i x h e) ∙ first_some (own bar i (tree_of x) (trees_of (drop (i + 1) xs)))
      (inside_item bar i x ++ rest_choices) c (own-is bar i x xs i ∙ f))

  past_own : own_at bar i x (slice_get xs (i + 1)) ≡ None → first (choices_from bar i (trees_of (drop i xs))) ≡ first (inside_item bar i x ++ rest_choices)
  past_own f = ap first (choices-more bar i xs i x h e) ∙ first_none (own bar i (tree_of x) (trees_of (drop (i + 1) xs)))
      (inside_item bar i x ++ rest_choices) (own-is bar i x xs i ∙ f)

  pub inside_decides : (all : Option Choice) (c : Choice) → all ≡ first (choices_from bar i (trees_of (drop i xs))) →
      own_at bar i x (slice_get xs (i + 1)) ≡ None → first (inside_item bar i x) ≡ Some c → Some c ≡ all
  inside_decides all c a f g = sym (a ∙ past_own f ∙ first_some (inside_item bar i x) rest_choices c g)

  pub past_both : (all : Option Choice) → all ≡ first (choices_from bar i (trees_of (drop i xs))) → own_at bar i x (slice_get xs (i + 1)) ≡ None →
      first (inside_item bar i x) ≡ None → all ≡ first rest_choices
  past_both all a f g = a ∙ past_own f ∙ first_none (inside_item bar i x) rest_choices g
