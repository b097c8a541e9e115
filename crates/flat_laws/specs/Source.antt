-- What the flat form takes for granted of the body of a resolved function.
use Rattle.std.specs.Prelude.{ℕ, suc, ℤ, Bool, true, false, cond, eqb, map, List, [], ◌∷◌, length, Option, Some, None, ◌≡◌, ◌≤◌, IfSome}
use Rattle.c_types.specs.declared.kinds.IntKind.{IntKind}
use Rattle.c_tree.specs.ExpressionTrees.{ExpressionTree}
use Rattle.c_tree.specs.TestTrees.{TestTree, Source, SelectorTree, Selects}
use Rattle.c_tree.specs.Trees.{Tree, Forest, Nil, Then, Sections, NoSection, Section, Evaluate, Return, If, While, Do, For, Switch, Block, Local, Goto, Mark, Arm, Leap, Land}
use Rattle.jump_meaning.specs.Step.{switch_kind}
use Rattle.flat_laws.specs.Loose.{Setting, In, AreIn, slot_of, IsLocal, IsNew}
use Rattle.c_tree.specs.TextItems.{is_empty}
use Rattle.flat_laws.specs.Parts.{arrivals, is_scattered, switch_labels, cases_among, Here, past, past_item, inside}
use Rattle.flat_laws.specs.FlatForm.{same_number}
use Rattle.c_tree.specs.Cases.{case_number}
use Rattle.c_tree.specs.Everywhere.{total, Everywhere}

-- a test of the source names slots of the first
abbrev pub InTest : Setting → TestTree → Type 0
InTest s (Source e) = In s e
InTest s _ = ⊥

-- a selector of the source names slots of the first
abbrev pub InSelector : Setting → SelectorTree → Type 0
InSelector s (Selects e) = In s e
InSelector s _ = ⊥

-- a number has one initialiser, an array at most one for each cell
abbrev pub AreInitialisers : Option ℕ → List ExpressionTree → Type 0
AreInitialisers None [] = ⊥
AreInitialisers None (e ∷ []) = Unit {0}
AreInitialisers None (e ∷ f ∷ es) = ⊥
AreInitialisers (Some n) es = length es ≤ n

-- an item of a source, apart from those that stand in it
abbrev pub IsSourceItem : Setting → (ℕ → Bool) → Tree → Type 0
IsSourceItem s live (Evaluate e) = In s e
IsSourceItem s live (Return e) = IfSome e (In s)
IsSourceItem s live (If t a b) = InTest s t
IsSourceItem s live (While t a) = InTest s t
IsSourceItem s live (Do a t) = InTest s t
IsSourceItem s live (For first t u a) = IfSome t (In s) × IfSome u (In s) × (is_empty (arrivals first) ≡ true)
IsSourceItem s live (Switch t d) = InSelector s t
IsSourceItem s live (Local x None) = Unit {0}
IsSourceItem s live (Local x (Some es)) = IsLocal s x × AreInitialisers (slot_of s x).cells es × AreIn s es
IsSourceItem s live (Goto l) = live l ≡ true
IsSourceItem s live (Arm l e) = ⊥
IsSourceItem s live (Leap l) = ⊥
IsSourceItem s live (Land l) = ⊥
IsSourceItem s live _ = Unit {0}

-- slot v is a new number of the kind
pub record IsVariable (s : Setting) (v : ℕ) (k : IntKind) : Type 0 where
  pub new : IsNew s v
  pub cells : (slot_of s v).cells ≡ None
  pub kind : (slot_of s v).kind ≡ k

-- a fact, where the test holds
abbrev pub IfTrue : Bool → Type 0 → Type 0
IfTrue true P = P
IfTrue false P = Unit {0}

abbrev mutual
  -- each scattered switch has its variable
  pub HaveVariables : Setting → Here → Forest → Type 0
  HaveVariables s h Nil = Unit {0}
  HaveVariables s h (Then x xs) = HasVariables s h x × HaveVariables s (past_item x h) xs

  -- in an item
  pub HasVariables : Setting → Here → Tree → Type 0
  HasVariables s h (If t a b) = HaveVariables s h a × HaveVariables s (past a h) b
  HasVariables s h (While t a) = HaveVariables s (inside (While t a) h) a
  HasVariables s h (Do a t) = HaveVariables s (inside (Do a t) h) a
  HasVariables s h (For first t u a) = HaveVariables s (inside (For first t u a) h) first × HaveVariables s (past first (inside (For first t u a) h)) a
  HasVariables s h (Block a) = HaveVariables s h a
  HasVariables s h (Switch t d) = IfTrue (is_scattered d) (IsVariable s h.variable (switch_kind t)) × HaveVariablesAmong s (inside (Switch t d) h) d
  HasVariables s h _ = Unit {0}

  -- in sections
  pub HaveVariablesAmong : Setting → Here → Sections → Type 0
  HaveVariablesAmong s h NoSection = Unit {0}
  HaveVariablesAmong s h (Section cases default a ends d) = HaveVariables s h a × HaveVariablesAmong s (past a h) d

-- ---- labels and cases

-- 1 for the Mark of the label
abbrev pub mark_bit : ℕ → Tree → ℕ
mark_bit l (Mark m) = cond (eqb l m) 1 0
mark_bit l _ = 0

-- how many labels are the default
abbrev pub nones : List (Option ExpressionTree) → ℕ
nones [] = 0
nones (Some e ∷ es) = nones es
nones (None ∷ es) = suc (nones es)

-- none of these is the number m
abbrev pub AreOther : Option ℤ → List (Option ℤ) → Type 0
AreOther m [] = Unit {0}
AreOther m (n ∷ ns) = (same_number n m ≡ false) × AreOther m ns

-- they are numbers, pairwise different
abbrev pub AreDifferent : List (Option ℤ) → Type 0
AreDifferent [] = Unit {0}
AreDifferent (m ∷ ms) = (same_number m m ≡ true) × AreOther m ms × AreDifferent ms

-- a scattered switch has at most one default, and its cases differ; there is no Land
abbrev pub HasOwnCases : Tree → Type 0
HasOwnCases (Switch s d) = IfTrue (is_scattered d) ((nones (switch_labels d) ≤ 1) ×
    AreDifferent (map (case_number (switch_kind s)) (cases_among (switch_labels d))))
HasOwnCases (Land l) = ⊥
HasOwnCases _ = Unit {0}

-- each of the n labels of a body stands at most once, and there are no others
pub record HasOwnLabels (n : ℕ) (body : Forest) : Type 0 where
  pub once : (l : ℕ) → total (mark_bit l) body ≤ 1
  pub all : (l : ℕ) → n ≤ l → total (mark_bit l) body ≡ 0
  pub cases : Everywhere HasOwnCases body
