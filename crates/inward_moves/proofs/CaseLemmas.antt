-- The numbers of the cases of a switch.
use Rattle.std.proofs.Common.{◌≡◌, ℕ, zero, suc, ◌+◌, ◌<◌, ◌≤◌, ℤ, List, [], ◌∷◌, ◌++◌, map, Option, Some, None, option_map, length, drop, get_or, slice_get, refl, sym, ap, subst, ◌∙◌, arith}
use Rattle.std.specs.Prelude.{Contains, IsSome}
use Rattle.std.proofs.lemmas.Bool.{true≢false}
use Rattle.std.proofs.lemmas.Option.{slice_get-get_or}
use Rattle.std.proofs.lemmas.List.Elements.{All-contains, Contains-append_left, Contains-append_right}
use Rattle.std.proofs.lemmas.List.{at_drop_more, at_drop_all, map-append}
use Rattle.c_types.specs.declared.kinds.IntKind.{IntKind}
use Rattle.c_types.specs.Numbers.{promoted, converted}
use Rattle.c_tree.specs.declared.tree.Expression.{Expression, out-Expression}
use Rattle.c_tree.specs.declared.tree.Section.{Section, out-Section}
use Rattle.c_tree.specs.declared.tree.Selector.{Selector, Source, Pick}
use Rattle.c_tree.specs.Constants.{kind_of, constant_value}
use Rattle.c_tree.specs.ExpressionTrees.{ExpressionTree, expression_tree}
use Rattle.c_tree.specs.TestTrees.{selector_tree}
use Rattle.c_tree.specs.Trees.{SectionTree, Sections, NoSection, Section as TheSection, expression_trees, sections_of}
use Rattle.c_tree.specs.Cases.{selector_kind, all_cases, cases_at, case_number, case_numbers, AreCases}
use Rattle.c_tree.proofs.ExpressionLaws.{expression-parts, selector-Source, selector-Pick}
use Rattle.c_tree.proofs.TreeLaws.{sections-none, sections-more, section-parts}

pub kind-Source : (e : Expression) → selector_kind (selector_tree (Source e)) ≡ option_map promoted (out-Expression e).kind
kind-Source e = ap selector_kind (selector-Source e) ∙ ap (λ x. option_map promoted (kind_of x)) (expression-parts e)

pub kind-Pick : (l : ℕ) (n : ℤ) (s : Selector) → selector_kind (selector_tree (Pick l n s)) ≡ selector_kind (selector_tree s)
kind-Pick l n s = ap selector_kind (selector-Pick l n s)

cases_first : (c : Section) (cs : List Section) → all_cases (sections_of (c ∷ cs)) ≡ expression_trees (out-Section c).cases ++ all_cases (sections_of cs)
cases_first c cs = ap all_cases (sections-more c cs) ∙ ap (λ (z : SectionTree). z.cases ++ all_cases (sections_of cs)) (section-parts c)

pub numbers-more : (k : IntKind) (cs : List Section) (i : ℕ) (c : Section) → i < length cs → c ≡ get_or cs i c
    → case_numbers k (sections_of (drop i cs)) ≡ map (case_number k) (expression_trees (out-Section c).cases) ++ case_numbers k (sections_of (drop (i + 1) cs))
numbers-more k cs i c h e =
    at_drop_more (λ z. case_numbers k (sections_of z)) cs i c h
    ∙ ap (map (case_number k)) (cases_first (get_or cs i c) (drop (i + 1) cs))
    ∙ map-append (case_number k) (expression_trees (out-Section (get_or cs i c)).cases) (all_cases (sections_of (drop (i + 1) cs)))
    ∙ ap (λ y. map (case_number k) (expression_trees (out-Section y).cases) ++ case_numbers k (sections_of (drop (i + 1) cs))) (sym e)

pub numbers-all : (k : IntKind) (cs : List Section) (i : ℕ) → length cs ≤ i → case_numbers k (sections_of (drop i cs)) ≡ []
numbers-all k cs i h = at_drop_all (λ z. case_numbers k (sections_of z)) cs i h ∙ ap (case_numbers k) sections-none

-- the cases of one section

pub cases_in : (cs : List Section) (k : ℕ) (c : Section) → slice_get cs k ≡ Some c → cases_at k (sections_of cs) ≡ expression_trees (out-Section c).cases
cases_in [] k c e = cc
cases_in (x ∷ cs) zero c e =
    let h : x ≡ c = cc in
    ap (cases_at 0) (sections-more x cs) ∙ ap (λ (z : SectionTree). z.cases) (section-parts x) ∙ ap (λ (z : Section). expression_trees (out-Section z).cases) h
cases_in (x ∷ cs) (suc k) c e = ap (cases_at (suc k)) (sections-more x cs) ∙ cases_in cs k c e

pub cases_past : (cs : List Section) (k : ℕ) → length cs ≤ k → cases_at k (sections_of cs) ≡ []
cases_past [] k h = ap (cases_at k) sections-none
cases_past (x ∷ cs) zero h = absurd (omega arith)
cases_past (x ∷ cs) (suc k) h = ap (cases_at (suc k)) (sections-more x cs) ∙ cases_past cs k (omega arith)

pub section_read : (cs : List Section) (k : ℕ) (c : Section) → k < length cs → c ≡ get_or cs k c → slice_get cs k ≡ Some c
section_read cs k c h e = slice_get-get_or cs k c h ∙ ap Some (sym e)

trees_none : (es : List Expression) → slice_get es 0 ≡ None → expression_trees es ≡ []
trees_none [] h = refl
trees_none (e ∷ es) h = cc

trees_first : (es : List Expression) (e : Expression) → slice_get es 0 ≡ Some e → expression_trees es ≡ expression_tree e ∷ expression_trees (drop 1 es)
trees_first [] e h = cc
trees_first (x ∷ es) e h = let f : x ≡ e = cc in ap (λ z. expression_tree z ∷ expression_trees es) f

pub no_case : (cs : List Section) (k : ℕ) (c : Section) → slice_get cs k ≡ Some c → slice_get (out-Section c).cases 0 ≡ None → cases_at k (sections_of cs) ≡ []
no_case cs k c e h = cases_in cs k c e ∙ trees_none (out-Section c).cases h

pub first_case : (cs : List Section) (k : ℕ) (c : Section) (e : Expression) → slice_get cs k ≡ Some c → slice_get (out-Section c).cases 0 ≡ Some e
    → cases_at k (sections_of cs) ≡ expression_tree e ∷ expression_trees (drop 1 (out-Section c).cases)
first_case cs k c e h f = cases_in cs k c h ∙ trees_first (out-Section c).cases e f

has_case : (k : ℕ) (s : Sections) (e : ExpressionTree) (es : List ExpressionTree) → cases_at k s ≡ e ∷ es → Contains (all_cases s) e
has_case k NoSection e es h = cc
has_case zero (TheSection cases default a ends c) e es h = Contains-append_left cases (all_cases c) e (subst (λ z. Contains z e) (sym h) (0, omega arith, refl))
has_case (suc k) (TheSection cases default a ends c) e es h = Contains-append_right cases (all_cases c) e (has_case k c e es h)

-- the first case of a section has a number
pub has_number : (kind : IntKind) (k : ℕ) (s : Sections) (e : ExpressionTree) (es : List ExpressionTree) → AreCases kind s → cases_at k s ≡ e ∷ es →
    case_number kind e ≡ None → ⊥
has_number kind k s e es h f n = none (constant_value e) (All-contains (λ x. IsSome (constant_value x)) (all_cases s) e h.untrapped
    (has_case k s e es f)) n where
      none : (o : Option ℤ) → IsSome o → option_map (converted kind) o ≡ None → ⊥
      none None p q = absurd (true≢false (sym p))
      none (Some v) p q = cc
