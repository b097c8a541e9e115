-- The sections of a switch, as plain data, are read as those of the tree.
use Rattle.std.proofs.Common.{Bool, true, false, not, cond, ◌&&◌, ◌||◌, List, [], ◌∷◌, ◌++◌, map, ◌≡◌, refl, sym, ap, ◌∙◌, true≢false}
use Rattle.c_tree.specs.declared.tree.Expression.{Expression}
use Rattle.c_tree.specs.declared.tree.Item.{Item, Item-F, out-Item, roll-Item, roll-out-Item, fold-roll-Item, map-Item}
use Rattle.c_tree.specs.declared.tree.Item.TheOpen as Open
use Rattle.c_tree.specs.declared.tree.Section.{Section, out-Section, fold-roll-Section}
use Rattle.c_tree.specs.ExpressionTrees.{ExpressionTree, expression_tree}
use Rattle.c_tree.specs.Trees.{Tree, Forest, SectionTree, Nil, Then, Break, layer, section_layer, expression_trees, tree_of, trees_of, section_tree, sections, sections_of}
use Rattle.c_tree.proofs.TreeLaws.{section-parts}
use Rattle.c_tree.specs.SectionLabels.{labels_passed}
use Rattle.c_tree.specs.TextItems.{is_empty}
use Rattle.c_statements.specs.Sections.{Reading, section, has_label, is_break, ends_in_break, without_last, ended}
use Rattle.c_resolving_laws.proofs.LabelsPassed.{is_passing, with_labels, passed_on, in_one_walk}
use Rattle.c_resolved_defs.specs.Form.{ends_with_break}

-- ---- the same on trees

abbrev pub has_entry : List ExpressionTree → Bool → Bool
has_entry cases default = elim cases [ [] ↦ default | c ∷ cs ↦ true ]

abbrev pub without_end : Forest → Forest
without_end Nil = Nil
without_end (Then x Nil) = Nil
without_end (Then x (Then y ys)) = Then x (without_end (Then y ys))

abbrev pub section_of : List ExpressionTree → Bool → Forest → Bool → SectionTree
section_of cases default list ends = record { cases = cases; default = default; list = list; ends = ends }

abbrev pub ended_tree : List ExpressionTree → Bool → Forest → SectionTree
ended_tree cases default a = cond (has_entry cases default && ends_with_break a) (section_of cases default (without_end a) true)
    (section_of cases default a false)

abbrev pub passes : SectionTree → Bool
passes s = elim s.list [ Nil ↦ not s.ends | Then x xs ↦ false ]

abbrev pub with_entries : List ExpressionTree → Bool → SectionTree → SectionTree
with_entries cases default s = section_of (cases ++ s.cases) (default || s.default) s.list s.ends

abbrev pub passed_trees : List ExpressionTree → Bool → List SectionTree → List SectionTree
passed_trees cases default [] = []
passed_trees cases default (s ∷ []) = with_entries cases default s ∷ []
passed_trees cases default (s ∷ t ∷ ss) =
    elim (passes s) [
      | true ↦ passed_trees (cases ++ s.cases) (default || s.default) (t ∷ ss)
      | false ↦ with_entries cases default s ∷ passed_trees [] false (t ∷ ss)
    ]

-- ---- that they are

pub trees-map-append : (xs ys : List Expression) → expression_trees (xs ++ ys) ≡ expression_trees xs ++ expression_trees ys
trees-map-append [] ys = refl
trees-map-append (x ∷ xs) ys = ap (λ l. expression_tree x ∷ l) (trees-map-append xs ys)

pub section_rolls : (cases : List Expression) (default : Bool) (list : List Item) (ends : Bool) →
    section_tree (section cases default list ends) ≡ section_of (expression_trees cases) default (trees_of list) ends
unfolding section_tree trees_of tree_of
section_rolls cases default list ends = fold-roll-Section Tree SectionTree layer section_layer
    (record { cases = cases; default = default; list = list; ends = ends })

abbrev open_break : Item-F Item Section → Bool
open_break y = elim y [ Open.Break ↦ true | _ ↦ false ]

open_same : (y : Item-F Item Section) → open_break y ≡ ends_with_break (Then (layer (map-Item Item Section Tree SectionTree tree_of section_tree y)) Nil)
open_same Open.Break = refl
open_same _ = refl

tree_rolls : (y : Item-F Item Section) → tree_of (roll-Item y) ≡ layer (map-Item Item Section Tree SectionTree tree_of section_tree y)
unfolding tree_of section_tree
tree_rolls y = fold-roll-Item Tree SectionTree layer section_layer y

is_break_same : (x : Item) → is_break x ≡ ends_with_break (Then (tree_of x) Nil)
is_break_same x = open_same (out-Item x) ∙ ap (λ t. ends_with_break (Then t Nil)) (sym (ap tree_of (sym (roll-out-Item x)) ∙ tree_rolls (out-Item x)))

with_same : (cases : List Expression) (default : Bool) (s : Section) →
    section_tree (with_labels cases default s) ≡ with_entries (expression_trees cases) default (section_tree s)
with_same cases default s =
    let o = out-Section s in
    section_rolls (cases ++ o.cases) (default || o.default) o.list o.ends
    ∙ (ap (λ cs. section_of cs (default || o.default) (trees_of o.list) o.ends) (trees-map-append cases o.cases) ∙
    ap (with_entries (expression_trees cases) default) (sym (section-parts s)))

passing_at : (l : List Item) (e : Bool) → ◌≡◌ {A = Bool} (is_empty l && not e) (elim (trees_of l) [ Nil ↦ not e | Then x xs ↦ false ])
unfolding trees_of
passing_at [] e = refl
passing_at (x ∷ xs) e = refl

passes_same : (s : Section) → is_passing s ≡ passes (section_tree s)
passes_same s = let o = out-Section s in passing_at o.list o.ends ∙ ap passes (sym (section-parts s))

-- by whether the first hands on its cases
passed_by : (cases : List Expression) (default : Bool) (s : Section) (ss : List Section) (b c : Bool) → b ≡ c
    → ((cs : List Expression) (d : Bool) → map section_tree (passed_on cs d ss) ≡ passed_trees (expression_trees cs) d (map section_tree ss))
    → map section_tree (elim b [
      | true ↦ passed_on (cases ++ (out-Section s).cases) (default || (out-Section s).default) ss
      | false ↦ with_labels cases
          default s ∷ passed_on [] false ss
    ])
    ≡ elim c [
      | true ↦ passed_trees (expression_trees cases ++ (section_tree s).cases) (default || (section_tree s).default) (map section_tree ss)
      | false ↦ with_entries (expression_trees cases) default (section_tree s) ∷ passed_trees [] false (map section_tree ss)
    ]
passed_by cases default s ss true true e f =
    let o = out-Section s in
    f (cases ++ o.cases) (default || o.default)
    ∙ (ap (λ cs. passed_trees cs (default || o.default) (map section_tree ss)) (trees-map-append cases o.cases)
    ∙ ap (λ (t : SectionTree). passed_trees (expression_trees cases ++ t.cases) (default || t.default) (map section_tree ss)) (sym (section-parts s)))
passed_by cases default s ss false false e f = ap (λ x. x ∷ map section_tree (passed_on [] false ss)) (with_same cases default s) ∙
    ap (λ l. with_entries (expression_trees cases) default (section_tree s) ∷ l) (f [] false)
passed_by cases default s ss true false e f = absurd (true≢false e)
passed_by cases default s ss false true e f = absurd (true≢false (sym e))

walk_same : (cases : List Expression) (default : Bool) (ss : List Section) →
    map section_tree (passed_on cases default ss) ≡ passed_trees (expression_trees cases) default (map section_tree ss)
walk_same cases default [] = refl
walk_same cases default (s ∷ []) = ap (λ x. x ∷ []) (with_same cases default s)
walk_same cases default (s ∷ t ∷ ss) =
    passed_by cases default s (t ∷ ss) (is_passing s) (passes (section_tree s)) (passes_same s)
    (λ cs d. walk_same cs d (t ∷ ss))

-- empty sections hand on their cases
pub passed_same : (ss : List Section) → map section_tree (labels_passed ss) ≡ passed_trees [] false (map section_tree ss)
passed_same ss = ap (map section_tree) (sym (in_one_walk ss)) ∙ walk_same [] false ss

pub later_break : (x y : Tree) (ys : Forest) → ends_with_break (Then x (Then y ys)) ≡ ends_with_break (Then y ys)
later_break Break y ys = refl
later_break _ y ys = refl

break_same : (xs : List Item) → ends_in_break xs ≡ ends_with_break (trees_of xs)
unfolding trees_of
break_same [] = refl
break_same (x ∷ []) = is_break_same x
break_same (x ∷ y ∷ ys) = break_same (y ∷ ys) ∙ sym (later_break (tree_of x) (tree_of y) (trees_of ys))

last_same : (xs : List Item) → trees_of (without_last xs) ≡ without_end (trees_of xs)
unfolding trees_of
last_same [] = refl
last_same (x ∷ []) = refl
last_same (x ∷ y ∷ ys) = ap (Then (tree_of x)) (last_same (y ∷ ys))

entry_same : (s : Reading) → has_label s ≡ has_entry (expression_trees s.cases) s.default
entry_same s = by s.cases s.default
  where
    by : (cs : List Expression) (d : Bool) → elim cs [ [] ↦ d | c ∷ cs ↦ true ] ≡ has_entry (expression_trees cs) d
    by [] d = refl
    by (c ∷ cs) d = refl

pub ended_same : (s : Reading) → section_tree (ended s) ≡ ended_tree (expression_trees s.cases) s.default (trees_of s.list)
ended_same s = by (has_label s && ends_in_break s.list) (has_entry (expression_trees s.cases) s.default && ends_with_break (trees_of s.list))
    (ap (λ b. b && ends_in_break s.list) (entry_same s) ∙ ap (λ b. has_entry (expression_trees s.cases) s.default && b) (break_same s.list))
  where
    by : (b c : Bool) → b ≡ c → section_tree (cond b (section s.cases s.default (without_last s.list) true) (section s.cases s.default s.list false))
        ≡ cond c (section_of (expression_trees s.cases) s.default (without_end (trees_of s.list)) true)
        (section_of (expression_trees s.cases) s.default (trees_of s.list) false)
    by true true e = section_rolls s.cases s.default (without_last s.list) true ∙
        ap (λ l. section_of (expression_trees s.cases) s.default l true) (last_same s.list)
    by false false e = section_rolls s.cases s.default s.list false
    by true false e = absurd (true≢false e)
    by false true e = absurd (true≢false (sym e))

pub sections_are : (ss : List Section) → sections_of ss ≡ sections (map section_tree ss)
unfolding sections_of section_tree
sections_are ss = refl
