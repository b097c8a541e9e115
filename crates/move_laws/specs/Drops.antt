-- The removal of guards that nothing reads: their Arms and Lands go, and of an Arm with a condition the
-- condition stays as a statement.
use Rattle.std.specs.Prelude.{ℕ, ◌≡◌, Bool, true, false, cond, Some, None}
use Rattle.c_tree.specs.ExpressionTrees.{ExpressionTree, Typed, Call, Comma, Conditional}
use Rattle.c_tree.specs.Trees.{Tree, Forest, Nil, Then, Sections, NoSection, Section, Evaluate, If, While, Do, For, Switch, Block, Goto, Arm, Leap, Land, join}
use Rattle.c_tree.specs.Labels.{TestLabels, SelectorLabels}
use Rattle.c_tree.specs.Changed.{one}

abbrev mutual
  -- a list without the guards of the labels for which d holds
  pub dropped : (ℕ → Bool) → Forest → Forest
  dropped d Nil = Nil
  dropped d (Then x a) = join (dropped_item d x) (dropped d a)

  pub dropped_item : (ℕ → Bool) → Tree → Forest
  dropped_item d (If t a b) = one (If t (dropped d a) (dropped d b))
  dropped_item d (While t a) = one (While t (dropped d a))
  dropped_item d (Do a t) = one (Do (dropped d a) t)
  dropped_item d (For first t u a) = one (For (dropped d first) t u (dropped d a))
  dropped_item d (Switch s c) = one (Switch s (dropped_sections d c))
  dropped_item d (Block a) = one (Block (dropped d a))
  dropped_item d (Arm l None) = cond (d l) Nil (one (Arm l None))
  dropped_item d (Arm l (Some e)) = cond (d l) (one (Evaluate e)) (one (Arm l (Some e)))
  dropped_item d (Land l) = cond (d l) Nil (one (Land l))
  dropped_item d x = one x

  pub dropped_sections : (ℕ → Bool) → Sections → Sections
  dropped_sections d NoSection = NoSection
  dropped_sections d (Section cases default a ends c) = Section cases default (dropped d a) ends (dropped_sections d c)

-- its value may be that of a call, and missing: it is a call, a conditional expression without a kind, or a comma expression that ends in one of them
abbrev pub EndsInCall : ExpressionTree → Type 0
EndsInCall (Typed kind (Call m xs)) = Unit {0}
EndsInCall (Typed kind (Comma a b)) = EndsInCall b
EndsInCall (Typed None (Conditional a b c)) = Unit {0}
EndsInCall _ = ⊥

-- a label stays
abbrev pub Stays : (ℕ → Bool) → ℕ → Type 0
Stays d l = d l ≡ false

-- no test, selector, Leap and Goto names a label that goes, and no condition of an Arm of one ends in a call
abbrev pub IsUnread : (ℕ → Bool) → Tree → Type 0
IsUnread d (If t a b) = TestLabels (Stays d) t
IsUnread d (While t a) = TestLabels (Stays d) t
IsUnread d (Do a t) = TestLabels (Stays d) t
IsUnread d (Switch s c) = SelectorLabels (Stays d) s
IsUnread d (Goto l) = Stays d l
IsUnread d (Leap l) = Stays d l
IsUnread d (Arm l (Some e)) = d l ≡ true → ¬ (EndsInCall e)
IsUnread d _ = Unit {0}
