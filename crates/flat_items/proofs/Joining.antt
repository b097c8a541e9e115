-- Lists that get more items at their end.
use Rattle.std.proofs.Common.{◌≡◌, ℕ, zero, suc, ◌+◌, ◌-◌, ◌<◌, ◌≤◌, Bool, true, false, List, [], ◌∷◌, ◌++◌, get_or, Option, arith, refl, sym, ap, ◌∙◌}
use Rattle.c_types.specs.declared.kinds.IntKind.{IntKind}
use Rattle.c_tree.specs.Changed.{one}
use Rattle.c_tree.specs.declared.tree.Slot.{Slot}
use Rattle.jump_meaning.specs.Code.{entry_or}
use Rattle.jump_meaning.specs.World.{no_slot}
use Rattle.c_tree.specs.declared.tree.Expression.{Expression}
use Rattle.c_tree.specs.declared.tree.Section as Real
use Rattle.c_tree.specs.ExpressionTrees.{ExpressionTree, expression_tree}
use Rattle.c_tree.specs.Trees.{Tree, Forest, Nil, Then, Sections, NoSection, Section, Evaluate, While, sections_of, expression_trees, join}
use Rattle.c_tree.proofs.TreeLaws.{sections-none}
use Rattle.c_tree.specs.TestTrees.{Source}
use Rattle.flat_laws.specs.Pieces.{Aim, test_or_one, mark_of, third_items, assign_cell, assigned_cells, zero_tree}
use Rattle.flat_laws.specs.FlatForm.{flat_for}
use Rattle.flat_items.specs.Pieces.{behind, for_loop}
use Rattle.c_tree.specs.Views.{before}
use Rattle.c_tree.proofs.Views.{section-first}

pub joined : (a b c : Forest) → join (join a b) c ≡ join a (join b c)
joined Nil b c = refl
joined (Then x a) b c = ap (Then x) (joined a b c)

-- an item, and what stands behind it
pub one_more : (out a : Forest) (x : Tree) (m : Forest) → a ≡ join out (one x) → join a m ≡ join out (Then x m)
one_more out a x m e = ap (λ z. join z m) e ∙ joined out (one x) m

-- a `for` and the label behind it
pub with_loop : (jumpy : Bool) (t u : Option ExpressionTree) (a : Forest) (b c : Aim) →
    Then (for_loop jumpy t u (join a (mark_of c))) (mark_of b) ≡ flat_for jumpy t u a b c
with_loop true t u a b c = ap (λ z. Then (While (Source (test_or_one t)) z) (mark_of b)) (joined a (mark_of c) (third_items u))
with_loop false t u a b c = refl

-- the cells of an array from i on
pub cells_more : (k : IntKind) (x i n : ℕ) → i < n → assigned_cells k x i [] (n - i) ≡ Then (Evaluate (assign_cell k x i zero_tree))
    (assigned_cells k x (i + 1) [] (n - (i + 1)))
cells_more k x i n h =
    let e : n - i ≡ suc (n - (i + 1)) = omega arith in
    let f : suc i ≡ i + 1 = omega arith in
    ap (assigned_cells k x i []) e ∙ ap (λ j. Then (Evaluate (assign_cell k x i zero_tree)) (assigned_cells k x j [] (n - (i + 1)))) f

pub cells_end : (k : IntKind) (x i n : ℕ) → n ≤ i → assigned_cells k x i [] (n - i) ≡ Nil
cells_end k x i n h = let e : n - i ≡ 0 = omega arith in ap (assigned_cells k x i []) e

pub cells_step : (k : IntKind) (x i m : ℕ) (e : Expression) (es : List Expression) (out new all : Forest) →
    new ≡ join out (one (Evaluate (assign_cell k x i (expression_tree e))))
    → join out (assigned_cells k x i (expression_trees (e ∷ es)) m) ≡ all → join new (assigned_cells k x (i + 1) (expression_trees es) m) ≡ all
cells_step k x i m e es out new all n inv =
    let f : i + 1 ≡ suc i = omega arith in
    one_more out new (Evaluate (assign_cell k x i (expression_tree e))) (assigned_cells k x (i + 1) (expression_trees es) m) n
    ∙ ap (λ j. join out (Then (Evaluate (assign_cell k x i (expression_tree e))) (assigned_cells k x j (expression_trees es) m))) f ∙ inv

-- ---- sections

pub behind_none : (c : Sections) → behind c NoSection ≡ c
behind_none NoSection = refl
behind_none (Section cases default a ends c) = ap (Section cases default a ends) (behind_none c)

pub behind_behind : (a b c : Sections) → behind (behind a b) c ≡ behind a (behind b c)
behind_behind NoSection b c = refl
behind_behind (Section cases default x ends a) b c = ap (Section cases default x ends) (behind_behind a b c)

pub sections-append : (xs ys : List Real.Section) → sections_of (xs ++ ys) ≡ behind (sections_of xs) (sections_of ys)
sections-append [] ys = sym (ap (λ z. behind z (sections_of ys)) sections-none)
sections-append (x ∷ xs) ys = section-first x (xs ++ ys) ∙ ap (before x) (sections-append xs ys) ∙
    sym (ap (λ z. behind z (sections_of ys)) (section-first x xs))

pub sections-push : (xs : List Real.Section) (x : Real.Section) → sections_of (xs ++ x ∷ []) ≡ behind (sections_of xs) (before x NoSection)
sections-push xs x = sections-append xs (x ∷ []) ∙ ap (behind (sections_of xs)) (section-first x [] ∙ ap (before x) sections-none)

-- ---- variables

pub entry_is : (xs : List Slot) (i : ℕ) → get_or xs i no_slot ≡ entry_or no_slot xs i
entry_is [] i = refl
entry_is (x ∷ xs) zero = refl
entry_is (x ∷ xs) (suc i) = entry_is xs i
