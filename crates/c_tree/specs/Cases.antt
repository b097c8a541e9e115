-- The cases of a switch, and the number by which a guard selects one of its sections.
use Rattle.std.specs.Prelude.{◌≡◌, ◌≢◌, ℕ, zero, suc, ◌<◌, ℤ, pos, IsTrue, ◌⊎◌, length, List, [], ◌∷◌, ◌++◌, map, All, AllPairs, Contains, Option, Some, IsSome, option_map, ◌+◌, cond}
use Rattle.std.specs.Option.{IsSomeAnd}
use Rattle.c_types.specs.declared.kinds.IntKind.{IntKind}
use Rattle.c_types.specs.Numbers as Numbers
use Rattle.c_types.specs.Numbers.{promoted, converted}
use Rattle.c_tree.specs.declared.tree.Branch.{Branch}
use Rattle.c_tree.specs.declared.tree.Branch.TheVariants as B
use Rattle.c_tree.specs.ExpressionTrees.{ExpressionTree}
use Rattle.c_tree.specs.TestTrees.{SelectorTree, Selects, Pick}
use Rattle.c_tree.specs.Trees.{Tree, Sections, NoSection, Section, Switch}
use Rattle.c_tree.specs.Constants.{kind_of, IsConstant, constant_value}

-- the source expression of a selector
abbrev pub selector_source : SelectorTree → ExpressionTree
selector_source (Selects e) = e
selector_source (Pick l n s) = selector_source s

-- the promoted kind of a selector, in which its cases are compared
abbrev pub selector_kind : SelectorTree → Option IntKind
selector_kind s = option_map promoted (kind_of (selector_source s))

-- the cases of all sections
abbrev pub all_cases : Sections → List ExpressionTree
all_cases NoSection = []
all_cases (Section cases default a ends c) = cases ++ all_cases c

-- the cases of section k
abbrev pub cases_at : ℕ → Sections → List ExpressionTree
cases_at k NoSection = []
cases_at zero (Section cases default a ends c) = cases
cases_at (suc k) (Section cases default a ends c) = cases_at k c

-- how many sections have the default
abbrev pub defaults : Sections → ℕ
defaults NoSection = 0
defaults (Section cases default a ends c) = cond default 1 0 + defaults c

-- the number that a case has in the kind
abbrev pub case_number : IntKind → ExpressionTree → Option ℤ
case_number k e = option_map (converted k) (constant_value e)

abbrev pub case_numbers : IntKind → Sections → List (Option ℤ)
case_numbers k c = map (case_number k) (all_cases c)

-- each section has a case or the default
abbrev pub AllEntered : Sections → Type 0
AllEntered NoSection = Unit {0}
AllEntered (Section cases default a ends c) = ((0 < length cases) ⊎ IsTrue default) × AllEntered c

-- the cases of a switch whose selector has the kind
pub record AreCases (k : IntKind) (c : Sections) : Type 0 where
  -- they are constant expressions
  pub constant : All IsConstant (all_cases c)
  -- without trap
  pub untrapped : All (λ e. IsSome (constant_value e)) (all_cases c)
  -- which differ in the kind
  pub distinct : AllPairs (λ m n. m ≢ n) (case_numbers k c)
  pub few : length (all_cases c) < 2147483648

-- each number that a guard selects by is one of the kind
abbrev pub ArePicks : IntKind → SelectorTree → Type 0
ArePicks k (Selects e) = Unit {0}
ArePicks k (Pick l n s) = Numbers.IsInRange k n × ArePicks k s

-- the least number from 0 on that no case has
pub record IsFree (k : IntKind) (c : Sections) (n : ℤ) : Type 0 where
  pub count : ℕ
  pub number : n ≡ pos count
  pub free : ¬ (Contains (case_numbers k c) (Some n))
  pub least : (m : ℕ) → m < count → Contains (case_numbers k c) (Some (pos m))

-- the number for a section with these cases: that of its first case, and for the default alone a free one
abbrev pub IsNumberFor : IntKind → Sections → List ExpressionTree → ℤ → Type 0
IsNumberFor k c [] n = IsFree k c n
IsNumberFor k c (e ∷ es) n = case_number k e ≡ Some n

-- the number by which a guard selects the branch, where that is a section of a switch
abbrev pub SelectsBranch : Branch → ℤ → Tree → Type 0
SelectsBranch (B.Section k) n (Switch s c) = IsSomeAnd (selector_kind s) (λ kind. IsNumberFor kind c (cases_at k c) n)
SelectsBranch b n x = Unit {0}
