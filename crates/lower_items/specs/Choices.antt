-- A switch that becomes tests and gotos: its cases, where its exits lead, and its first items.
use Rattle.std.specs.Prelude.{ℕ, ◌+◌, ◌*◌, ℤ, ◌≡◌, true, cond, List, map, Option}
use Rattle.c_types.specs.declared.kinds.IntKind.{IntKind}
use Rattle.c_tree.specs.Cases.{case_number, selector_source}
use Rattle.c_tree.specs.Changed.{one}
use Rattle.c_tree.specs.TestTrees.{SelectorTree}
use Rattle.c_tree.specs.Trees.{Forest, Then, Sections, Evaluate, Goto, join}
use Rattle.jump_meaning.specs.Step.{switch_kind}
use Rattle.flat_laws.specs.Pieces.{Aim, Becomes, Absent, assign_number}
use Rattle.flat_laws.specs.Parts.{Here, switch_labels, cases_among, has_default, leaves}
use Rattle.flat_laws.specs.FlatForm.{place_of}
use Rattle.flat_items.specs.Pieces.{number_tests}
use Rattle.lower_items.specs.declared.plans.Cases as C
use Rattle.lower_items.specs.Plans.{number_label}

-- the numbers of the cases of a switch, and their labels, where it stands here
abbrev pub numbers_of : IntKind → Sections → List (Option ℤ)
numbers_of k d = map (case_number k) (cases_among (switch_labels d))

abbrev pub label_of : IntKind → Sections → Here → Option ℤ → ℕ
label_of k d h n = 7 * (h.case + place_of n (numbers_of k d)) + 4

-- they are the cases of this switch
pub record AreCases (cs : C.Cases) (k : IntKind) (d : Sections) (h : Here) : Type 0 where
  pub bound : cs.bound ≡ true
  pub kind : cs.kind ≡ k
  pub default : cs.default ≡ 7 * h.construct + 3
  pub numbers : cs.numbers ≡ numbers_of k d
  pub labels : (n : Option ℤ) → number_label cs n ≡ label_of k d h n

-- what its `break`s become, and where it goes if no case is selected, where it is number n
abbrev pub breaks_of : Sections → ℕ → Aim
breaks_of d n = cond (leaves d) (Becomes (7 * n + 1)) Absent

abbrev pub otherwise_of : Sections → ℕ → ℕ
otherwise_of d n = cond (has_default (switch_labels d)) (7 * n + 3) (7 * n + 1)

-- its variable gets the value of the selector, then come the tests of its cases, and a goto for where none of them holds
abbrev pub choice_form : SelectorTree → Sections → Here → Forest
choice_form s d h =
    let k = switch_kind s in
    Then (Evaluate (assign_number k h.variable (selector_source s)))
    (join (number_tests k h.variable (label_of k d h) (numbers_of k d)) (one (Goto (otherwise_of d h.construct))))
