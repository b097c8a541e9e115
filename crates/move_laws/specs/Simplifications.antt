-- Four simplifications of made tests on plain lists: the stretch of a list that one changes, before and after it.
use Rattle.std.specs.Prelude.{◌≡◌, ℕ, ℤ, eqb, false}
use Rattle.c_tree.specs.TestTrees.{TestTree, Off, AndOff, OrOn, SelectorTree, Pick}
use Rattle.c_tree.specs.Trees.{Tree, Forest, Nil, Then, Sections, If, While, Do, Switch, Arm, join}
use Rattle.c_tree.specs.Everywhere.{Everywhere}
use Rattle.c_tree.specs.Changed.{one}
use Rattle.c_tree.specs.WellMade.{IsMade}

-- ---- tests and selectors with one wrapper fewer

-- a wrapper `AndOff` of the label goes
pub data DropsAnd (m : ℕ) : TestTree → TestTree → Type 0 where
  and_here : (t : TestTree) → DropsAnd m (AndOff m t) t
  and_in_and : (l : ℕ) {t u : TestTree} → DropsAnd m t u → DropsAnd m (AndOff l t) (AndOff l u)
  and_in_or : (l : ℕ) {t u : TestTree} → DropsAnd m t u → DropsAnd m (OrOn l t) (OrOn l u)

-- a wrapper `OrOn` of the label goes
pub data DropsOr (m : ℕ) : TestTree → TestTree → Type 0 where
  or_here : (t : TestTree) → DropsOr m (OrOn m t) t
  or_in_and : (l : ℕ) {t u : TestTree} → DropsOr m t u → DropsOr m (AndOff l t) (AndOff l u)
  or_in_or : (l : ℕ) {t u : TestTree} → DropsOr m t u → DropsOr m (OrOn l t) (OrOn l u)

-- one goes that stands inside an earlier one of its kind and label, or right round `Off` of its label
pub data ShorterTest : TestTree → TestTree → Type 0 where
  again_and : (m : ℕ) {t u : TestTree} → DropsAnd m t u → ShorterTest (AndOff m t) (AndOff m u)
  again_or : (m : ℕ) {t u : TestTree} → DropsOr m t u → ShorterTest (OrOn m t) (OrOn m u)
  only_off : (m : ℕ) → ShorterTest (AndOff m (Off m)) (Off m)
  shorter_and : (l : ℕ) {t u : TestTree} → ShorterTest t u → ShorterTest (AndOff l t) (AndOff l u)
  shorter_or : (l : ℕ) {t u : TestTree} → ShorterTest t u → ShorterTest (OrOn l t) (OrOn l u)

-- a wrapper `Pick` of the label goes
pub data DropsPick (m : ℕ) : SelectorTree → SelectorTree → Type 0 where
  pick_here : (n : ℤ) (s : SelectorTree) → DropsPick m (Pick m n s) s
  pick_in : (l : ℕ) (n : ℤ) {s u : SelectorTree} → DropsPick m s u → DropsPick m (Pick l n s) (Pick l n u)

-- one goes that stands inside an earlier one of its label
pub data ShorterSelector : SelectorTree → SelectorTree → Type 0 where
  again_pick : (m : ℕ) (n : ℤ) {s u : SelectorTree} → DropsPick m s u → ShorterSelector (Pick m n s) (Pick m n u)
  shorter_pick : (l : ℕ) (n : ℤ) {s u : SelectorTree} → ShorterSelector s u → ShorterSelector (Pick l n s) (Pick l n u)

-- ---- tests of `Off` and `AndOff` alone

abbrev pub IsOff : TestTree → Type 0
IsOff (Off l) = Unit {0}
IsOff (AndOff l t) = IsOff t
IsOff _ = ⊥

-- their labels, as wrappers round another test
abbrev pub round : TestTree → TestTree → TestTree
round (Off l) u = AndOff l u
round (AndOff l t) u = AndOff l (round t u)
round _ u = u

-- no Arm of the label
abbrev pub ArmsOther : ℕ → Tree → Type 0
ArmsOther m (Arm l e) = eqb l m ≡ false
ArmsOther m _ = Unit {0}

pub data Simplified : Forest → Forest → Type 0 where
  -- a made `if` with empty lists goes
  empty_if : (t : TestTree) → IsMade t → Simplified (one (If t Nil Nil)) Nil
  -- a wrapper that repeats an earlier one goes
  shorter_if : {t u : TestTree} (a b : Forest) → ShorterTest t u → Simplified (one (If t a b)) (one (If u a b))
  shorter_while : {t u : TestTree} (a : Forest) → ShorterTest t u → Simplified (one (While t a)) (one (While u a))
  shorter_do : {t u : TestTree} (a : Forest) → ShorterTest t u → Simplified (one (Do a t)) (one (Do a u))
  shorter_switch : {s u : SelectorTree} (c : Sections) → ShorterSelector s u → Simplified (one (Switch s c)) (one (Switch u c))
  -- two neighbours under one guard become one, where the first has no Arm of it
  neighbours : (m : ℕ) (a b : Forest) → Everywhere (ArmsOther m) a → Simplified (Then (If (Off m) a Nil) (one (If (Off m) b Nil)))
      (one (If (Off m) (join a b) Nil))
  -- a made `if` that is alone in one of `Off` and `AndOff` becomes one with it
  nested : (t u : TestTree) (a : Forest) → IsOff t → IsMade u → Simplified (one (If t (one (If u a Nil)) Nil)) (one (If (round t u) a Nil))
