-- A switch that isn't scattered has the labels of its sections alone.
use mathlib.Core.Path.{ap₂}
use Rattle.std.proofs.Common.{◌+◌, Bool, true, false, not, cond, ◌||◌, List, [], ◌∷◌, ◌++◌, Option, Some, None, ◌≡◌, refl, sym, ◌∙◌, ap, arith, true≢false}
use Rattle.c_tree.specs.Cases.{all_cases, defaults}
use Rattle.c_tree.specs.ExpressionTrees.{ExpressionTree}
use Rattle.c_tree.specs.Trees.{Sections, NoSection, Section}
use Rattle.c_tree.specs.TextItems.{is_empty}
use Rattle.flat_laws.specs.Parts.{arrivals, is_scattered, section_labels, switch_labels, cases_among}
use Rattle.flat_laws.specs.Source.{nones}

no_elements : {A : Type 0} (xs : List A) → is_empty xs ≡ true → xs ≡ []
no_elements [] e = refl
no_elements (x ∷ xs) e = absurd (true≢false (sym e))

pub whole : (x y : Bool) → (not x || y) ≡ false → (x ≡ true) × (y ≡ false)
whole true y e = (refl, e)
whole false y e = absurd (true≢false e)

pub cases_append : (xs ys : List (Option ExpressionTree)) → cases_among (xs ++ ys) ≡ cases_among xs ++ cases_among ys
cases_append [] ys = refl
cases_append (Some e ∷ xs) ys = ap (λ l. e ∷ l) (cases_append xs ys)
cases_append (None ∷ xs) ys = cases_append xs ys

nones_append : (xs ys : List (Option ExpressionTree)) → nones (xs ++ ys) ≡ nones xs + nones ys
nones_append [] ys = omega arith
nones_append (Some e ∷ xs) ys = nones_append xs ys
nones_append (None ∷ xs) ys = let h = nones_append xs ys in omega (arith, h)

pub section_cases : (cases : List ExpressionTree) (default : Bool) → cases_among (section_labels cases default) ≡ cases
section_cases [] true = refl
section_cases [] false = refl
section_cases (e ∷ es) default = ap (λ l. e ∷ l) (section_cases es default)

section_nones : (cases : List ExpressionTree) (default : Bool) → nones (section_labels cases default) ≡ cond default 1 0
section_nones [] true = refl
section_nones [] false = refl
section_nones (e ∷ es) default = section_nones es default

pub unscattered_cases : (d : Sections) → is_scattered d ≡ false → cases_among (switch_labels d) ≡ all_cases d
unscattered_cases NoSection e = refl
unscattered_cases (Section cases default a ends d) e =
    let q = whole (is_empty (arrivals a)) (is_scattered d) e in
    cases_append (section_labels cases default) (arrivals a ++ switch_labels d)
    ∙ ap₂ (λ k l. k ++ l) (section_cases cases default) (ap (λ l. cases_among (l ++ switch_labels d)) (no_elements (arrivals a) q.0) ∙ unscattered_cases d q.1)

pub unscattered_defaults : (d : Sections) → is_scattered d ≡ false → nones (switch_labels d) ≡ defaults d
unscattered_defaults NoSection e = refl
unscattered_defaults (Section cases default a ends d) e =
    let q = whole (is_empty (arrivals a)) (is_scattered d) e in
    let i = nones_append (section_labels cases default) (arrivals a ++ switch_labels d) in
    let j = section_nones cases default in
    let k = ap (λ l. nones (l ++ switch_labels d)) (no_elements (arrivals a) q.0) in
    let m = unscattered_defaults d q.1 in omega (arith, i, j, k, m)
