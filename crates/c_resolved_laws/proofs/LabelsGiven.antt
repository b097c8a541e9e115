-- Each label of a resolved function has one Mark, and each switch has different cases: what the flat form takes.
use Rattle.std.proofs.Common.{ℕ, zero, suc, ◌+◌, ◌≤◌, ◌<◌, ◌≢◌, ℤ, Bool, true, false, cond, eqb, List, [], ◌∷◌, ◌++◌, map, length, Option, Some, None, option_map, IsSome, ◌≡◌, refl, sym, ap, subst, ◌∙◌, true≢false, arith}
use Rattle.std.proofs.lemmas.Bool.Decides.{Decides-eqb, Decides-int_eq}
use Rattle.std.specs.Prelude.{IsSomeAnd}
use Rattle.std.proofs.lemmas.Bool.{false_from_ne_true}
use Rattle.c_types.specs.declared.kinds.IntKind.{IntKind}
use Rattle.c_types.specs.Numbers.{promoted, converted}
use Rattle.c_tree.specs.declared.tree.Function.{Function}
use Rattle.c_tree.specs.declared.tree.Top.{Top}
use Rattle.c_tree.specs.ExpressionTrees.{ExpressionTree}
use Rattle.c_tree.specs.TestTrees.{SelectorTree}
use Rattle.c_tree.specs.Constants.{kind_of, constant_value}
use Rattle.c_tree.specs.Cases.{selector_source, selector_kind, case_number}
use Rattle.c_tree.specs.Trees.{Tree, Forest, Nil, Then, Sections, NoSection, Section, If, While, Do, For, Switch, Block, Mark, Land}
use Rattle.c_tree.specs.Everywhere.{total, total_of, total_in}
use Rattle.c_tree.specs.InRange.{body_of}
use Rattle.c_tree.proofs.WellMoved.{everywhere_map, everywhere_both}
use Rattle.jump_meaning.specs.Operations.{operand_kind}
use Rattle.jump_meaning.specs.Step.{switch_kind}
use Rattle.flat_laws.specs.Parts as P
use Rattle.flat_laws.specs.FlatForm.{same_number}
use Rattle.flat_laws.specs.Source.{IfTrue, mark_bit, nones, AreOther, AreDifferent, HasOwnCases, HasOwnLabels}
use Rattle.c_resolved_defs.specs.Within.{Each, AllDiffer}
use Rattle.c_resolved_defs.specs.Form.{gathered, gathered_of, gathered_in, marked_label, numbers_from, HasSourceForm}
use Rattle.c_resolved_defs.specs.Switches.{arrivals, arrivals_of, section_labels, switch_labels, cases_among, defaults_among, IsConstantValue, AreLabels, HasCases}
use Rattle.c_resolved_defs.specs.Limits.{FlatCounts}
use Rattle.c_resolved_defs.specs.Resolved.{IsResolvedFunction}

-- ---- Marks are counted by the list of their numbers

-- how often a number stands in a list
abbrev pub count_in : ℕ → List ℕ → ℕ
count_in l [] = 0
count_in l (m ∷ ms) = cond (eqb l m) 1 0 + count_in l ms

count_joined : (l : ℕ) (xs ys : List ℕ) → count_in l (xs ++ ys) ≡ count_in l xs + count_in l ys
count_joined l [] ys = grind (arith)
count_joined l (x ∷ xs) ys = let e = count_joined l xs ys in grind (arith)

module _ (l : ℕ) where
  abbrev Bit : Tree → ℕ
  Bit x = mark_bit l x

  mutual
    pub counted : (xs : Forest) → total Bit xs ≡ count_in l (gathered marked_label xs)
    counted Nil = refl
    counted (Then x xs) =
        let e = counted_of x in
        let f = counted xs in
        let g = count_joined l (gathered_of marked_label x) (gathered marked_label xs) in
        grind (arith)

    counted_of : (x : Tree) → total_of Bit x ≡ count_in l (gathered_of marked_label x)
    counted_of (If t a b) = let e = counted a in let f = counted b in let g = count_joined l (gathered marked_label a) (gathered marked_label b) in
        grind (arith)
    counted_of (While t a) = let e = counted a in grind (arith)
    counted_of (Do a t) = let e = counted a in grind (arith)
    counted_of (For first t u a) = let e = counted first in let f = counted a in let g =
        count_joined l (gathered marked_label first)
        (gathered marked_label a) in grind (arith)
    counted_of (Switch s c) = let e = counted_in c in grind (arith)
    counted_of (Block a) = let e = counted a in grind (arith)
    counted_of (Mark m) = grind (arith)
    counted_of _ = refl

    counted_in : (c : Sections) → total_in Bit c ≡ count_in l (gathered_in marked_label c)
    counted_in NoSection = refl
    counted_in (Section cases default a ends c) = let e = counted a in let f = counted_in c in let g =
        count_joined l (gathered marked_label a)
        (gathered_in marked_label c) in grind (arith)

abbrev bit : Bool → ℕ
bit b = cond b 1 0

bit_off : (b : Bool) → (b ≡ true → ⊥) → bit b ≡ 0
bit_off true f = absurd (f refl)
bit_off false f = refl

bit_zero : (l m : ℕ) → l ≢ m → bit (eqb l m) ≡ 0
bit_zero l m h = bit_off (eqb l m) (λ e. h ((Decides-eqb l m).0 e))

-- a number below i, or from i + n on, is not among n numbers from i on
none_before : (l i n : ℕ) → l < i → count_in l (numbers_from i n) ≡ 0
none_before l i zero h = refl
none_before l i (suc n) h = let e = bit_zero l i (λ q. let r = q in grind (arith)) in let f = none_before l (suc i) n (grind (arith)) in grind (arith)

none_behind : (l i n : ℕ) → i + n ≤ l → count_in l (numbers_from i n) ≡ 0
none_behind l i zero h = refl
none_behind l i (suc n) h = let e = bit_zero l i (λ q. let r = q in grind (arith)) in let f = none_behind l (suc i) n (grind (arith)) in grind (arith)

once_more : (b : Bool) (n : ℕ) → (b ≡ true → n ≡ 0) → n ≤ 1 → bit b + n ≤ 1
once_more true n f h = let e = f refl in grind (arith)
once_more false n f h = grind (arith)

-- each stands there at most once
once_there : (l i n : ℕ) → count_in l (numbers_from i n) ≤ 1
once_there l i zero = grind (arith)
once_there l i (suc n) = once_more (eqb l i) (count_in l (numbers_from (suc i) n))
    (λ t. let e = (Decides-eqb l i).0 t in none_before l (suc i) n (grind (arith))) (once_there l (suc i) n)

-- ---- labels of switches

mutual
  arrivals_same : (xs : Forest) → P.arrivals xs ≡ arrivals xs
  arrivals_same Nil = refl
  arrivals_same (Then x xs) = ap (λ l. l ++ P.arrivals xs) (arrivals_same_of x) ∙ ap (λ l. arrivals_of x ++ l) (arrivals_same xs)

  arrivals_same_of : (x : Tree) → P.arrivals_in x ≡ arrivals_of x
  arrivals_same_of (If t a b) = ap (λ l. l ++ P.arrivals b) (arrivals_same a) ∙ ap (λ l. arrivals a ++ l) (arrivals_same b)
  arrivals_same_of (While t a) = arrivals_same a
  arrivals_same_of (Do a t) = arrivals_same a
  arrivals_same_of (For first t u a) = arrivals_same a
  arrivals_same_of (Block a) = arrivals_same a
  arrivals_same_of _ = refl

section_same : (es : List ExpressionTree) (default : Bool) → P.section_labels es default ≡ section_labels es default
section_same [] true = refl
section_same [] false = refl
section_same (e ∷ es) default = ap (λ l. Some e ∷ l) (section_same es default)

pub labels_same : (c : Sections) → P.switch_labels c ≡ switch_labels c
labels_same NoSection = refl
labels_same (Section cases default a ends c) =
    ap (λ l. l ++ (P.arrivals a ++ P.switch_labels c)) (section_same cases default)
    ∙ ap (λ l. section_labels cases default ++ (l ++ P.switch_labels c)) (arrivals_same a)
    ∙ ap (λ l. section_labels cases default ++ (arrivals a ++ l)) (labels_same c)

pub cases_same : (ls : List (Option ExpressionTree)) → P.cases_among ls ≡ cases_among ls
cases_same [] = refl
cases_same (Some e ∷ ls) = ap (λ l. e ∷ l) (cases_same ls)
cases_same (None ∷ ls) = cases_same ls

pub nones_same : (ls : List (Option ExpressionTree)) → nones ls ≡ defaults_among ls
nones_same [] = refl
nones_same (Some e ∷ ls) = nones_same ls
nones_same (None ∷ ls) = ap suc (nones_same ls)

-- ---- different cases

other : (m n : Option ℤ) → n ≢ m → same_number n m ≡ false
other (Some m) (Some n) h = false_from_ne_true (same_number (Some n) (Some m)) (λ e. h (ap Some ((Decides-int_eq n m).0 e)))
other None (Some n) h = refl
other _ None h = refl

others : (m : Option ℤ) (ns : List (Option ℤ)) → Each (λ n. n ≢ m) ns → AreOther m ns
others m [] h = tt
others m (n ∷ ns) h = (other m n h.0, others m ns h.1)

same_self : (m : Option ℤ) → IsSome m → same_number m m ≡ true
same_self None h = absurd (true≢false (sym h))
same_self (Some z) h = (Decides-int_eq z z).1 refl

mapped_some : (k : IntKind) (o : Option ℤ) → IsSome o → IsSome (option_map (converted k) o)
mapped_some k None h = h
mapped_some k (Some z) h = refl

pub different : (k : IntKind) (es : List ExpressionTree) → Each IsConstantValue es → AllDiffer (map (case_number k) es) → AreDifferent (map (case_number k) es)
different k [] c h = tt
different k (e ∷ es) c h = (
  same_self (case_number k e) (mapped_some k (constant_value e) c.0.untrapped),
  others (case_number k e) (map (case_number k) es) h.0,
  different k es c.1 h.1,
)

always : (b : Bool) (A : Type 0) → A → IfTrue b A
always true A a = a
always false A a = tt

pub own_labels : (k : IntKind) (c : Sections) → AreLabels k (switch_labels c) →
    (nones (P.switch_labels c) ≤ 1) × AreDifferent (map (case_number k) (P.cases_among (P.switch_labels c)))
own_labels k c h =
    subst (λ ls. (nones ls ≤ 1) × AreDifferent (map (case_number k) (P.cases_among ls))) (sym (labels_same c)) (
      subst (λ n. n ≤ 1) (sym (nones_same (switch_labels c))) h.single,
      subst (λ es. AreDifferent (map (case_number k) es)) (sym (cases_same (switch_labels c)))
          (different k (cases_among (switch_labels c)) h.constant h.distinct),
    )

kind_there : (s : SelectorTree) (Q : IntKind → Type 0) → IsSomeAnd (selector_kind s) Q → Q (switch_kind s)
kind_there s Q h = promoted_there (kind_of (selector_source s)) h
  where
    promoted_there : (o : Option IntKind) → IsSomeAnd (option_map promoted o) Q → Q (promoted (operand_kind o))
    promoted_there None i = absurd i
    promoted_there (Some k) i = i

own_cases : (f : Function) (x : Tree) → HasCases x × HasSourceForm f x → HasOwnCases x
own_cases f (Switch s c) h = always (P.is_scattered c) _ (own_labels (switch_kind s) c (kind_there s (λ k. AreLabels k (switch_labels c)) h.0))
own_cases f (Land l) h = absurd h.1
own_cases f x h = tt

-- ---- functions

pub function_labels : (counts : FlatCounts) (ts : List Top) (f : Function) → IsResolvedFunction counts ts f → HasOwnLabels (length f.labels) (body_of f)
function_labels counts ts f r = record {
  once = λ l. subst (λ n. n ≤ 1) (sym (counted l (body_of f) ∙ ap (count_in l) r.form.labels)) (once_there l 0 (length f.labels));
  all = λ l h. counted l (body_of f) ∙ ap (count_in l) r.form.labels ∙ none_behind l 0 (length f.labels) (grind (arith));
  cases = everywhere_map (λ x. HasCases x × HasSourceForm f x) HasOwnCases (own_cases f) (body_of f)
      (everywhere_both HasCases (HasSourceForm f) (body_of f) r.cases r.form.items);
}
