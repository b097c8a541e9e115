-- The cases of a switch, nested ones among them: constant expressions, distinct in the promoted kind of the selector.
use Rattle.std.specs.Prelude.{ℕ, suc, ◌≤◌, ◌<◌, Bool, true, false, List, [], ◌∷◌, ◌++◌, map, length, Option, Some, None, IsSome, IsSomeAnd}
use Rattle.c_types.specs.declared.kinds.IntKind.{IntKind}
use Rattle.c_tree.specs.ExpressionTrees.{ExpressionTree}
use Rattle.c_tree.specs.Constants.{kind_of, HasKind, IsConstant, constant_value}
use Rattle.c_tree.specs.Cases.{selector_kind, case_number}
use Rattle.c_tree.specs.Trees.{Tree, Forest, Nil, Then, Sections, NoSection, Section, If, While, Do, For, Switch, Block, Arrival}
use Rattle.c_resolved_defs.specs.Within.{Each, AllDiffer}

abbrev mutual
  -- the case labels of a list that are bound to a switch around it, in text order; an absent one is a default
  pub arrivals : Forest → List (Option ExpressionTree)
  arrivals Nil = []
  arrivals (Then x xs) = arrivals_of x ++ arrivals xs

  pub arrivals_of : Tree → List (Option ExpressionTree)
  arrivals_of (If t a b) = arrivals a ++ arrivals b
  arrivals_of (While t a) = arrivals a
  arrivals_of (Do a t) = arrivals a
  arrivals_of (For first t u a) = arrivals a
  arrivals_of (Block a) = arrivals a
  arrivals_of (Arrival e) = e ∷ []
  arrivals_of _ = []

-- of a section: its cases, and its default
abbrev pub section_labels : List ExpressionTree → Bool → List (Option ExpressionTree)
section_labels [] true = None ∷ []
section_labels [] false = []
section_labels (e ∷ es) default = Some e ∷ section_labels es default

-- all labels of a switch
abbrev pub switch_labels : Sections → List (Option ExpressionTree)
switch_labels NoSection = []
switch_labels (Section cases default a ends c) = section_labels cases default ++ (arrivals a ++ switch_labels c)

-- the cases among labels, and how many are the default
abbrev pub cases_among : List (Option ExpressionTree) → List ExpressionTree
cases_among [] = []
cases_among (Some e ∷ ls) = e ∷ cases_among ls
cases_among (None ∷ ls) = cases_among ls

abbrev pub defaults_among : List (Option ExpressionTree) → ℕ
defaults_among [] = 0
defaults_among (Some e ∷ ls) = defaults_among ls
defaults_among (None ∷ ls) = suc (defaults_among ls)

-- a constant expression without trap (6.6)
pub record IsConstantValue (e : ExpressionTree) : Type 0 where
  pub kind : HasKind (kind_of e)
  pub constant : IsConstant e
  pub untrapped : IsSome (constant_value e)

-- the labels of a switch whose selector has the promoted kind
pub record AreLabels (k : IntKind) (ls : List (Option ExpressionTree)) : Type 0 where
  pub single : defaults_among ls ≤ 1
  pub constant : Each IsConstantValue (cases_among ls)
  pub distinct : AllDiffer (map (case_number k) (cases_among ls))
  pub few : length (cases_among ls) < 2147483648

abbrev pub HasCases : Tree → Type 0
HasCases (Switch s c) = IsSomeAnd (selector_kind s) (λ k. AreLabels k (switch_labels c))
HasCases _ = Unit {0}
