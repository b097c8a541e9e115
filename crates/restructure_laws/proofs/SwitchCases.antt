-- The loops and switches of a body have its cases, and each switch of a resolved function has few.
use Rattle.std.proofs.Common.{◌≡◌, ℕ, ◌+◌, ◌<◌, Bool, true, false, cond, List, [], ◌∷◌, ◌++◌, length, refl, ap, ◌∙◌, arith}
use Rattle.c_types.specs.declared.kinds.IntKind.{IntKind}
use Rattle.c_tree.specs.Cases.{selector_kind}
use Rattle.c_tree.specs.TestTrees.{SelectorTree}
use Rattle.c_tree.specs.Everywhere.{total, total_of, total_in, Everywhere, EverywhereOf, EverywhereIn}
use Rattle.c_tree.specs.Trees.{Tree, Forest, Nil, Then, Sections, NoSection, Section, Evaluate, If, While, Do, For, Switch, Block}
use Rattle.jump_meaning.specs.Step.{switch_kind}
use Rattle.flat_laws.specs.Parts.{is_scattered, switch_labels, cases_among, has_default, leaves, cases_of}
use Rattle.flat_names.specs.declared.constructs.Construct.{Construct}
use Rattle.flat_names.specs.declared.constructs.Construct.TheVariants as c
use Rattle.flat_names.specs.FlatNames.{constructs, constructs_in, constructs_among}
use Rattle.c_resolved_defs.specs.Switches as S
use Rattle.c_resolved_defs.specs.Switches.{AreLabels, HasCases}
use Rattle.c_resolved_defs.specs.Within.{Each}
use Rattle.c_resolved_laws.proofs.LabelsGiven.{labels_same, cases_same}
use Rattle.c_resolved_laws.proofs.Ranged.{the_some}
use Rattle.whole_laws.proofs.PlainLists.{each_append}
use Rattle.restructure_laws.proofs.MadeLabels.{case_count, HasFewCases}

-- ---- how many

count_append : (xs ys : List Construct) → case_count (xs ++ ys) ≡ case_count xs + case_count ys
count_append [] ys = omega arith
count_append (c.Stays ∷ xs) ys = count_append xs ys
count_append (c.Scattered k n d l ∷ xs) ys = let h = count_append xs ys in omega (arith, h)

count_switch : (b : Bool) (k : IntKind) (n : ℕ) (d l : Bool) (xs : List Construct) →
    case_count (cond b (c.Scattered k n d l) c.Stays ∷ xs) ≡ cond b n 0 + case_count xs
count_switch true k n d l xs = omega arith
count_switch false k n d l xs = omega arith

mutual
  pub cases_counted : (a : Forest) → case_count (constructs a) ≡ total cases_of a
  cases_counted Nil = refl
  cases_counted (Then x a) = let e = count_append (constructs_in x) (constructs a) in let i = counted_in x in let j = cases_counted a in omega (arith, e, i, j)

  counted_in : (x : Tree) → case_count (constructs_in x) ≡ total_of cases_of x
  counted_in (If t a b) = let e = count_append (constructs a) (constructs b) in let i = cases_counted a in let j = cases_counted b in omega (arith, e, i, j)
  counted_in (While t a) = let i = cases_counted a in omega (arith, i)
  counted_in (Do a t) = let i = cases_counted a in omega (arith, i)
  counted_in (For first t u a) = let e = count_append (constructs first) (constructs a) in let i = cases_counted first in let j = cases_counted a in
      omega (arith, e, i, j)
  counted_in (Block a) = let i = cases_counted a in omega (arith, i)
  counted_in (Switch s d) =
      let e = count_switch (is_scattered d) (switch_kind s) (length (cases_among (switch_labels d))) (has_default (switch_labels d)) (leaves d)
      (constructs_among d) in
      let i = counted_among d in omega (arith, e, i)
  counted_in (Evaluate e) = refl
  counted_in _ = refl

  counted_among : (d : Sections) → case_count (constructs_among d) ≡ total_in cases_of d
  counted_among NoSection = refl
  counted_among (Section cases default a ends d) = let e = count_append (constructs a) (constructs_among d) in let i = cases_counted a in let j =
      counted_among
      d in omega (arith, e, i, j)

-- ---- few

few_labels : (s : SelectorTree) (d : Sections) → HasCases (Switch s d) → length (cases_among (switch_labels d)) < 2147483648
few_labels s d h =
    let k = the_some (λ j. AreLabels j (S.switch_labels d)) (selector_kind s) h in
    let e = ap length (cases_same (switch_labels d) ∙ ap S.cases_among (labels_same d)) in
    let f = k.2.few in omega (arith, e, f)

few_switch : (b : Bool) (k : IntKind) (n : ℕ) (d l : Bool) → n < 2147483648 → HasFewCases (cond b (c.Scattered k n d l) c.Stays)
few_switch true k n d l h = h
few_switch false k n d l h = tt

mutual
  pub few_cases : (a : Forest) → Everywhere HasCases a → Each HasFewCases (constructs a)
  few_cases Nil h = tt
  few_cases (Then x a) h = each_append HasFewCases (constructs_in x) (constructs a) (few_in x h.0) (few_cases a h.1)

  few_in : (x : Tree) → EverywhereOf HasCases x → Each HasFewCases (constructs_in x)
  few_in (If t a b) h = each_append HasFewCases (constructs a) (constructs b) (few_cases a h.1) (few_cases b h.2)
  few_in (While t a) h = (tt, few_cases a h.1)
  few_in (Do a t) h = (tt, few_cases a h.1)
  few_in (For first t u a) h = (tt, each_append HasFewCases (constructs first) (constructs a) (few_cases first h.1) (few_cases a h.2))
  few_in (Block a) h = few_cases a h.1
  few_in (Switch s d) h = (
    few_switch (is_scattered d) (switch_kind s) (length (cases_among (switch_labels d))) (has_default (switch_labels d)) (leaves d)
        (few_labels s d h.0),
    few_among d h.1,
  )
  few_in (Evaluate e) h = tt
  few_in _ h = tt

  few_among : (d : Sections) → EverywhereIn HasCases d → Each HasFewCases (constructs_among d)
  few_among NoSection h = tt
  few_among (Section cases default a ends d) h = each_append HasFewCases (constructs a) (constructs_among d) (few_cases a h.0) (few_among d h.1)
