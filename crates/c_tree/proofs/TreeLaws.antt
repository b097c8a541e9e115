-- What the plain tree of each kind of item is.
use Rattle.std.proofs.Common.{ℕ, List, [], ◌∷◌, ◌++◌, ◌≡◌, Option, option_map, refl, ap, sym, ◌∙◌}
use Rattle.c_tree.specs.declared.tree.Item.{Item, Evaluate, Return, If, While, Do, For, Switch, Block, Local, Break, Continue, Goto, Mark, Arm, Leap, Land, Arrival, Note, fold-roll-Item}
use Rattle.c_tree.specs.declared.tree.Item.TheOpen as Open
use Rattle.c_tree.specs.declared.tree.Item.TheVariants.{rolls-Evaluate, rolls-Return, rolls-If, rolls-While, rolls-Do, rolls-For, rolls-Switch, rolls-Block, rolls-Local, rolls-Break, rolls-Continue, rolls-Goto, rolls-Mark, rolls-Arm, rolls-Leap, rolls-Land, rolls-Arrival, rolls-Note}
use Rattle.c_tree.specs.declared.tree.Section as Real
use Rattle.c_tree.specs.declared.tree.Expression.{Expression}
use Rattle.c_tree.specs.declared.tree.Test.{Test}
use Rattle.c_tree.specs.declared.tree.Selector.{Selector}
use Rattle.c_tree.specs.ExpressionTrees.{expression_tree}
use Rattle.c_tree.specs.TestTrees.{test_tree, selector_tree}
use Rattle.c_tree.specs.Trees as Plain
use Rattle.c_tree.specs.Trees.{Tree, Forest, SectionTree, Nil, Then, join, layer, section_layer, expression_trees, tree_of, trees_of, section_tree, sections_of}

pub tree-Evaluate : (e : Expression) → tree_of (Evaluate e) ≡ Plain.Evaluate (expression_tree e)
unfolding tree_of
tree-Evaluate e = ap tree_of (sym (rolls-Evaluate e)) ∙ fold-roll-Item Tree SectionTree layer section_layer (Open.Evaluate e)

pub tree-Return : (e : Option Expression) → tree_of (Return e) ≡ Plain.Return (option_map expression_tree e)
unfolding tree_of
tree-Return e = ap tree_of (sym (rolls-Return e)) ∙ fold-roll-Item Tree SectionTree layer section_layer (Open.Return e)

pub tree-If : (t : Test) (a b : List Item) → tree_of (If t a b) ≡ Plain.If (test_tree t) (trees_of a) (trees_of b)
unfolding tree_of trees_of
tree-If t a b = ap tree_of (sym (rolls-If t a b)) ∙ fold-roll-Item Tree SectionTree layer section_layer (Open.If t a b)

pub tree-While : (t : Test) (a : List Item) → tree_of (While t a) ≡ Plain.While (test_tree t) (trees_of a)
unfolding tree_of trees_of
tree-While t a = ap tree_of (sym (rolls-While t a)) ∙ fold-roll-Item Tree SectionTree layer section_layer (Open.While t a)

pub tree-Do : (a : List Item) (t : Test) → tree_of (Do a t) ≡ Plain.Do (trees_of a) (test_tree t)
unfolding tree_of trees_of
tree-Do a t = ap tree_of (sym (rolls-Do a t)) ∙ fold-roll-Item Tree SectionTree layer section_layer (Open.Do a t)

pub tree-For : (f : List Item) (t u : Option Expression) (a : List Item) →
    tree_of (For f t u a) ≡ Plain.For (trees_of f) (option_map expression_tree t) (option_map expression_tree u) (trees_of a)
unfolding tree_of trees_of
tree-For f t u a = ap tree_of (sym (rolls-For f t u a)) ∙ fold-roll-Item Tree SectionTree layer section_layer (Open.For f t u a)

pub tree-Switch : (s : Selector) (cs : List Real.Section) → tree_of (Switch s cs) ≡ Plain.Switch (selector_tree s) (sections_of cs)
unfolding tree_of sections_of section_tree
tree-Switch s cs = ap tree_of (sym (rolls-Switch s cs)) ∙ fold-roll-Item Tree SectionTree layer section_layer (Open.Switch s cs)

pub tree-Block : (a : List Item) → tree_of (Block a) ≡ Plain.Block (trees_of a)
unfolding tree_of trees_of
tree-Block a = ap tree_of (sym (rolls-Block a)) ∙ fold-roll-Item Tree SectionTree layer section_layer (Open.Block a)

pub tree-Local : (x : ℕ) (es : Option (List Expression)) → tree_of (Local x es) ≡ Plain.Local x (option_map expression_trees es)
unfolding tree_of
tree-Local x es = ap tree_of (sym (rolls-Local x es)) ∙ fold-roll-Item Tree SectionTree layer section_layer (Open.Local x es)

pub tree-Break : tree_of Break ≡ Plain.Break
unfolding tree_of
tree-Break = ap tree_of (sym rolls-Break) ∙ fold-roll-Item Tree SectionTree layer section_layer Open.Break

pub tree-Continue : tree_of Continue ≡ Plain.Continue
unfolding tree_of
tree-Continue = ap tree_of (sym rolls-Continue) ∙ fold-roll-Item Tree SectionTree layer section_layer Open.Continue

pub tree-Goto : (l : ℕ) → tree_of (Goto l) ≡ Plain.Goto l
unfolding tree_of
tree-Goto l = ap tree_of (sym (rolls-Goto l)) ∙ fold-roll-Item Tree SectionTree layer section_layer (Open.Goto l)

pub tree-Mark : (l : ℕ) → tree_of (Mark l) ≡ Plain.Mark l
unfolding tree_of
tree-Mark l = ap tree_of (sym (rolls-Mark l)) ∙ fold-roll-Item Tree SectionTree layer section_layer (Open.Mark l)

pub tree-Arm : (l : ℕ) (e : Option Expression) → tree_of (Arm l e) ≡ Plain.Arm l (option_map expression_tree e)
unfolding tree_of
tree-Arm l e = ap tree_of (sym (rolls-Arm l e)) ∙ fold-roll-Item Tree SectionTree layer section_layer (Open.Arm l e)

pub tree-Leap : (l : ℕ) → tree_of (Leap l) ≡ Plain.Leap l
unfolding tree_of
tree-Leap l = ap tree_of (sym (rolls-Leap l)) ∙ fold-roll-Item Tree SectionTree layer section_layer (Open.Leap l)

pub tree-Land : (l : ℕ) → tree_of (Land l) ≡ Plain.Land l
unfolding tree_of
tree-Land l = ap tree_of (sym (rolls-Land l)) ∙ fold-roll-Item Tree SectionTree layer section_layer (Open.Land l)

pub tree-Arrival : (e : Option Expression) → tree_of (Arrival e) ≡ Plain.Arrival (option_map expression_tree e)
unfolding tree_of
tree-Arrival e = ap tree_of (sym (rolls-Arrival e)) ∙ fold-roll-Item Tree SectionTree layer section_layer (Open.Arrival e)

pub tree-Note : (bs : List ℕ) → tree_of (Note bs) ≡ Plain.Note bs
unfolding tree_of
tree-Note bs = ap tree_of (sym (rolls-Note bs)) ∙ fold-roll-Item Tree SectionTree layer section_layer (Open.Note bs)

-- lists

pub trees-none : trees_of [] ≡ Nil
unfolding trees_of
trees-none = refl

pub trees-more : (x : Item) (xs : List Item) → trees_of (x ∷ xs) ≡ Then (tree_of x) (trees_of xs)
unfolding trees_of
trees-more x xs = refl

pub sections-none : sections_of [] ≡ Plain.NoSection
unfolding sections_of
sections-none = refl

pub sections-more : (c : Real.Section) (cs : List Real.Section) →
    let s = section_tree c in sections_of (c ∷ cs) ≡ Plain.Section s.cases s.default s.list s.ends (sections_of cs)
unfolding sections_of section_tree
sections-more c cs = refl

-- the tree of a section, by its parts
pub section-parts : (c : Real.Section) →
    let o = Real.out-Section c in section_tree c ≡ record { cases = expression_trees o.cases; default = o.default; list = trees_of o.list; ends = o.ends }
unfolding section_tree trees_of tree_of
section-parts c = ap (Real.fold-Section Tree SectionTree layer section_layer) (sym (Real.roll-out-Section c)) ∙
    Real.fold-roll-Section Tree SectionTree layer section_layer (Real.out-Section c)

pub trees-append : (xs ys : List Item) → trees_of (xs ++ ys) ≡ join (trees_of xs) (trees_of ys)
unfolding trees_of
trees-append [] ys = refl
trees-append (x ∷ xs) ys = ap (Then (tree_of x)) (trees-append xs ys)

pub join-nil : (xs : Forest) → join xs Nil ≡ xs
join-nil Nil = refl
join-nil (Then x xs) = ap (Then x) (join-nil xs)

pub join-join : (xs ys zs : Forest) → join (join xs ys) zs ≡ join xs (join ys zs)
join-join Nil ys zs = refl
join-join (Then x xs) ys zs = ap (Then x) (join-join xs ys zs)
