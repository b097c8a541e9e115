-- Each property of a list as that of its first item, or of the rest.
use Rattle.std.proofs.Common.{◌≡◌, ℕ, ℤ, zero, suc, ◌+◌, Bool, true, false, not, ◌||◌, List, [], ◌∷◌, ◌++◌, map, Option, append_assoc, arith, refl, sym, ap, ◌∙◌}
use Rattle.std.proofs.lemmas.List.{map-append}
use Rattle.c_types.specs.declared.kinds.IntKind.{IntKind}
use Rattle.c_tree.specs.ExpressionTrees.{ExpressionTree}
use Rattle.c_tree.specs.declared.tree.Section as Real
use Rattle.c_tree.specs.Cases.{case_number}
use Rattle.c_tree.specs.TextItems.{is_empty}
use Rattle.c_tree.specs.Trees.{Sections, trees_of, expression_trees}
use Rattle.flat_laws.specs.Parts.{is_some_number, arrivals, section_labels, switch_labels, cases_among, has_default}
use Rattle.flat_laws.proofs.Unscattered.{cases_append, section_cases}
use Rattle.flat_laws.proofs.LooserItems.{default_append}
use Rattle.flat_questions.specs.Reading.{default_in}
use Rattle.c_tree.specs.Views.{before}

pub or_assoc : (a b c : Bool) → ((a || b) || c) ≡ (a || (b || c))
or_assoc true b c = refl
or_assoc false b c = refl

pub some_append : {A : Type 0} (xs ys : List A) → not (is_empty (xs ++ ys)) ≡ (not (is_empty xs) || not (is_empty ys))
some_append [] ys = refl
some_append (a ∷ xs) ys = refl

pub some_sum : (a b : ℕ) → is_some_number (a + b) ≡ (is_some_number a || is_some_number b)
some_sum zero b = let e : zero + b ≡ b = omega arith in ap is_some_number e
some_sum (suc a) b = let e : suc a + b ≡ suc (a + b) = omega arith in ap is_some_number e

section_default : (cases : List ExpressionTree) (d : Bool) → has_default (section_labels cases d) ≡ d
section_default [] true = refl
section_default [] false = refl
section_default (e ∷ es) d = section_default es d

pub default_more : (c : Real.Section) (d : Sections) → has_default (switch_labels (before c d)) ≡ (default_in c || has_default (switch_labels d))
default_more c d =
    let o = Real.out-Section c in
    let a = arrivals (trees_of o.list) in
    default_append (section_labels (expression_trees o.cases) o.default) (a ++ switch_labels d)
    ∙ ap (λ y. y || has_default (a ++ switch_labels d)) (section_default (expression_trees o.cases) o.default)
    ∙ ap (λ y. o.default || y) (default_append a (switch_labels d))
    ∙ sym (or_assoc o.default (has_default a) (has_default (switch_labels d)))

-- the numbers of the cases of a section and of those nested in it
abbrev pub numbers_in : IntKind → Real.Section → List (Option ℤ)
numbers_in k c = let o = Real.out-Section c in map (case_number k) (expression_trees o.cases) ++ map (case_number k) (cases_among (arrivals (trees_of o.list)))

pub numbers_append : (k : IntKind) (xs ys : List (Option ExpressionTree)) →
    map (case_number k) (cases_among (xs ++ ys)) ≡ map (case_number k) (cases_among xs) ++ map (case_number k) (cases_among ys)
numbers_append k xs ys = ap (map (case_number k)) (cases_append xs ys) ∙ map-append (case_number k) (cases_among xs) (cases_among ys)

pub numbers_more : (k : IntKind) (c : Real.Section) (d : Sections) → map (case_number k) (cases_among (switch_labels (before c d))) ≡ numbers_in k
    c ++ map (case_number k) (cases_among (switch_labels d))
numbers_more k c d =
    let o = Real.out-Section c in
    let a = arrivals (trees_of o.list) in
    let s = section_labels (expression_trees o.cases) o.default in
    numbers_append k s (a ++ switch_labels d)
    ∙ ap (λ z. map (case_number k) z ++ map (case_number k) (cases_among (a ++ switch_labels d))) (section_cases (expression_trees o.cases) o.default)
    ∙ ap (λ z. map (case_number k) (expression_trees o.cases) ++ z) (numbers_append k a (switch_labels d))
    ∙ sym (append_assoc (map (case_number k) (expression_trees o.cases)) (map (case_number k) (cases_among a))
    (map (case_number k) (cases_among (switch_labels d))))
