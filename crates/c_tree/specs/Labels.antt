-- The labels that items name.
use Rattle.std.specs.Prelude.{ℕ, ◌==◌, cond}
use Rattle.c_tree.specs.TestTrees.{TestTree, Source, On, Off, AndOff, OrOn, SelectorTree, Selects, Pick}
use Rattle.c_tree.specs.Trees.{Tree, Forest, If, While, Do, Switch, Goto, Mark, Arm, Leap, Land}
use Rattle.c_tree.specs.Everywhere.{total, total_of}

-- 1 for the Land of the label
abbrev pub land_of : ℕ → Tree → ℕ
land_of l (Land m) = cond (m == l) 1 0
land_of l _ = 0

-- how many Lands of the label stand in a list, at any depth
abbrev pub lands : ℕ → Forest → ℕ
lands l xs = total (land_of l) xs

-- in an item, which may be the Land itself
abbrev pub lands_of : ℕ → Tree → ℕ
lands_of l x = total_of (land_of l) x

-- in the lists of an item: it holds the label where this is not 0
abbrev pub lands_inside : ℕ → Tree → ℕ
lands_inside l (Land m) = 0
lands_inside l x = lands_of l x

-- 1 for a Leap or a Land
abbrev pub jump_of : Tree → ℕ
jump_of (Leap l) = 1
jump_of (Land l) = 1
jump_of _ = 0

-- how many Leaps and Lands stand in a list, at any depth
abbrev pub jumps : Forest → ℕ
jumps xs = total jump_of xs

-- a fact holds of each label whose guard the test reads
abbrev pub TestLabels : (ℕ → Type 0) → TestTree → Type 0
TestLabels P (Source e) = Unit {0}
TestLabels P (On l) = P l
TestLabels P (Off l) = P l
TestLabels P (AndOff l t) = P l × TestLabels P t
TestLabels P (OrOn l t) = P l × TestLabels P t

abbrev pub SelectorLabels : (ℕ → Type 0) → SelectorTree → Type 0
SelectorLabels P (Selects e) = Unit {0}
SelectorLabels P (Pick l k s) = P l × SelectorLabels P s

-- of each label that an item arms, leaps to, or has in a test; a label that a selector alone names doesn't count
abbrev pub GuardLabels : (ℕ → Type 0) → Tree → Type 0
GuardLabels P (Arm l e) = P l
GuardLabels P (Leap l) = P l
GuardLabels P (If t a b) = TestLabels P t
GuardLabels P (While t a) = TestLabels P t
GuardLabels P (Do a t) = TestLabels P t
GuardLabels P _ = Unit {0}

-- of each label that an item names itself, or in its test or selector
abbrev pub ItemLabels : (ℕ → Type 0) → Tree → Type 0
ItemLabels P (Goto l) = P l
ItemLabels P (Mark l) = P l
ItemLabels P (Arm l e) = P l
ItemLabels P (Leap l) = P l
ItemLabels P (Land l) = P l
ItemLabels P (If t a b) = TestLabels P t
ItemLabels P (While t a) = TestLabels P t
ItemLabels P (Do a t) = TestLabels P t
ItemLabels P (Switch s c) = SelectorLabels P s
ItemLabels P _ = Unit {0}
