-- The tree of an item by its form, and lists from one place on.
use Rattle.std.proofs.Common.{◌≡◌, ℕ, ◌+◌, ◌<◌, ◌≤◌, List, [], ◌∷◌, ◌++◌, length, drop, get_or, Option, option_map, refl, sym, ap, ◌∙◌}
use Rattle.std.proofs.lemmas.List.{at_drop_more, at_drop_all}
use Rattle.c_tree.specs.declared.tree.Item.{Item, Item-F, Evaluate, Return, If, While, Do, For, Switch, Block, Local, Break, Continue, Goto, Mark, Arm, Leap, Land, Arrival, Note, out-Item, out-roll-Item}
use Rattle.c_tree.specs.declared.tree.Item.TheVariants.{rolls-Evaluate, rolls-Return, rolls-If, rolls-While, rolls-Do, rolls-For, rolls-Switch, rolls-Block, rolls-Local, rolls-Break, rolls-Continue, rolls-Goto, rolls-Mark, rolls-Arm, rolls-Leap, rolls-Land, rolls-Arrival, rolls-Note}
use Rattle.c_tree.specs.declared.tree.Item.TheOpen as O
use Rattle.c_tree.specs.declared.tree.Section as Real
use Rattle.c_tree.specs.declared.tree.Test.{Test}
use Rattle.c_tree.specs.declared.tree.Selector.{Selector}
use Rattle.c_tree.specs.declared.tree.Expression.{Expression}
use Rattle.c_tree.specs.ExpressionTrees.{expression_tree}
use Rattle.c_tree.specs.TestTrees.{test_tree, selector_tree}
use Rattle.c_tree.specs.Trees as Plain
use Rattle.c_tree.specs.Trees.{Tree, Forest, Nil, Then, NoSection, Section, SectionTree, tree_of, trees_of, section_tree, sections_of, expression_trees, join}
use Rattle.c_tree.specs.Changed.{one}
use Rattle.c_tree.proofs.TreeLaws.{trees-none, trees-more, trees-append, sections-none, sections-more, section-parts}
use Rattle.c_tree.proofs.ChangeLemmas.{layer_tree, tree-out}
use Rattle.c_tree.specs.Views.{layer_at, tree_at, before, ViewLaws}

layers : (y : Item-F Item Real.Section) → layer_tree y ≡ layer_at y
unfolding trees_of sections_of
layers (O.If t a b) = refl
layers _ = refl

pub at-tree : (x : Item) → tree_of x ≡ tree_at x
at-tree x = tree-out x ∙ layers (out-Item x)

pub trees-first : (x : Item) (xs : List Item) → trees_of (x ∷ xs) ≡ Then (tree_at x) (trees_of xs)
trees-first x xs = trees-more x xs ∙ ap (λ t. Then t (trees_of xs)) (at-tree x)

pub trees-at : (xs : List Item) (i : ℕ) (x : Item) → i < length xs → x ≡ get_or xs i x → trees_of (drop i xs) ≡ Then (tree_at x) (trees_of (drop (i + 1) xs))
trees-at xs i x h e = at_drop_more trees_of xs i x h ∙ trees-first (get_or xs i x) (drop (i + 1) xs) ∙
    ap (λ z. Then (tree_at z) (trees_of (drop (i + 1) xs))) (sym e)

pub trees-end : (xs : List Item) (i : ℕ) → length xs ≤ i → trees_of (drop i xs) ≡ Nil
trees-end xs i h = at_drop_all trees_of xs i h ∙ trees-none

-- a list with one more item
pub trees-push : (xs : List Item) (x : Item) → trees_of (xs ++ x ∷ []) ≡ join (trees_of xs) (one (tree_at x))
trees-push xs x = trees-append xs (x ∷ []) ∙ ap (join (trees_of xs)) (trees-first x [] ∙ ap (Then (tree_at x)) trees-none)

pub section-first : (c : Real.Section) (cs : List Real.Section) → sections_of (c ∷ cs) ≡ before c (sections_of cs)
section-first c cs = sections-more c cs ∙ ap (λ (z : SectionTree). Section z.cases z.default z.list z.ends (sections_of cs)) (section-parts c)

pub sections-at : (cs : List Real.Section) (i : ℕ) (c : Real.Section) → i < length cs → c ≡ get_or cs i c →
    sections_of (drop i cs) ≡ before c (sections_of (drop (i + 1) cs))
sections-at cs i c h e = at_drop_more sections_of cs i c h ∙ section-first (get_or cs i c) (drop (i + 1) cs) ∙
    ap (λ z. before z (sections_of (drop (i + 1) cs))) (sym e)

pub sections-end : (cs : List Real.Section) (i : ℕ) → length cs ≤ i → sections_of (drop i cs) ≡ NoSection
sections-end cs i h = at_drop_all sections_of cs i h ∙ sections-none

pub view_laws : ViewLaws
view_laws = record { same = at-tree; items = trees-at; sections = sections-at }

-- ---- each form

pub at-Evaluate : (e : Expression) → tree_at (Evaluate e) ≡ Plain.Evaluate (expression_tree e)
at-Evaluate e = ap tree_at (sym (rolls-Evaluate e)) ∙ ap layer_at (out-roll-Item (O.Evaluate e))

pub at-Return : (e : Option Expression) → tree_at (Return e) ≡ Plain.Return (option_map expression_tree e)
at-Return e = ap tree_at (sym (rolls-Return e)) ∙ ap layer_at (out-roll-Item (O.Return e))

pub at-If : (t : Test) (a b : List Item) → tree_at (If t a b) ≡ Plain.If (test_tree t) (trees_of a) (trees_of b)
at-If t a b = ap tree_at (sym (rolls-If t a b)) ∙ ap layer_at (out-roll-Item (O.If t a b))

pub at-While : (t : Test) (a : List Item) → tree_at (While t a) ≡ Plain.While (test_tree t) (trees_of a)
at-While t a = ap tree_at (sym (rolls-While t a)) ∙ ap layer_at (out-roll-Item (O.While t a))

pub at-Do : (a : List Item) (t : Test) → tree_at (Do a t) ≡ Plain.Do (trees_of a) (test_tree t)
at-Do a t = ap tree_at (sym (rolls-Do a t)) ∙ ap layer_at (out-roll-Item (O.Do a t))

pub at-For : (f : List Item) (t u : Option Expression) (a : List Item) →
    tree_at (For f t u a) ≡ Plain.For (trees_of f) (option_map expression_tree t) (option_map expression_tree u) (trees_of a)
at-For f t u a = ap tree_at (sym (rolls-For f t u a)) ∙ ap layer_at (out-roll-Item (O.For f t u a))

pub at-Switch : (s : Selector) (cs : List Real.Section) → tree_at (Switch s cs) ≡ Plain.Switch (selector_tree s) (sections_of cs)
at-Switch s cs = ap tree_at (sym (rolls-Switch s cs)) ∙ ap layer_at (out-roll-Item (O.Switch s cs))

pub at-Block : (a : List Item) → tree_at (Block a) ≡ Plain.Block (trees_of a)
at-Block a = ap tree_at (sym (rolls-Block a)) ∙ ap layer_at (out-roll-Item (O.Block a))

pub at-Local : (x : ℕ) (es : Option (List Expression)) → tree_at (Local x es) ≡ Plain.Local x (option_map expression_trees es)
at-Local x es = ap tree_at (sym (rolls-Local x es)) ∙ ap layer_at (out-roll-Item (O.Local x es))

pub at-Break : tree_at Break ≡ Plain.Break
at-Break = ap tree_at (sym rolls-Break) ∙ ap layer_at (out-roll-Item O.Break)

pub at-Continue : tree_at Continue ≡ Plain.Continue
at-Continue = ap tree_at (sym rolls-Continue) ∙ ap layer_at (out-roll-Item O.Continue)

pub at-Goto : (l : ℕ) → tree_at (Goto l) ≡ Plain.Goto l
at-Goto l = ap tree_at (sym (rolls-Goto l)) ∙ ap layer_at (out-roll-Item (O.Goto l))

pub at-Mark : (l : ℕ) → tree_at (Mark l) ≡ Plain.Mark l
at-Mark l = ap tree_at (sym (rolls-Mark l)) ∙ ap layer_at (out-roll-Item (O.Mark l))

pub at-Arrival : (e : Option Expression) → tree_at (Arrival e) ≡ Plain.Arrival (option_map expression_tree e)
at-Arrival e = ap tree_at (sym (rolls-Arrival e)) ∙ ap layer_at (out-roll-Item (O.Arrival e))

pub at-Arm : (l : ℕ) (e : Option Expression) → tree_at (Arm l e) ≡ Plain.Arm l (option_map expression_tree e)
at-Arm l e = ap tree_at (sym (rolls-Arm l e)) ∙ ap layer_at (out-roll-Item (O.Arm l e))

pub at-Leap : (l : ℕ) → tree_at (Leap l) ≡ Plain.Leap l
at-Leap l = ap tree_at (sym (rolls-Leap l)) ∙ ap layer_at (out-roll-Item (O.Leap l))

pub at-Land : (l : ℕ) → tree_at (Land l) ≡ Plain.Land l
at-Land l = ap tree_at (sym (rolls-Land l)) ∙ ap layer_at (out-roll-Item (O.Land l))

pub at-Note : (bs : List ℕ) → tree_at (Note bs) ≡ Plain.Note bs
at-Note bs = ap tree_at (sym (rolls-Note bs)) ∙ ap layer_at (out-roll-Item (O.Note bs))
