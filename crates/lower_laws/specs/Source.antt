-- What a flat list takes for granted of the body of a resolved function.
use Rattle.std.specs.Prelude.{ℕ, true, cond, map, Some, None, ◌≡◌, ◌≤◌}
use Rattle.c_tree.specs.Cases.{case_number}
use Rattle.c_tree.specs.Everywhere.{Everywhere, total}
use Rattle.c_tree.specs.TextItems.{is_empty}
use Rattle.c_tree.specs.Trees.{Tree, Forest, Nil, Then, Sections, NoSection, Section, If, While, Do, For, Switch, Block, Land}
use Rattle.jump_meaning.specs.Code.{entry_or}
use Rattle.jump_meaning.specs.World.{no_slot}
use Rattle.jump_meaning.specs.Step.{switch_kind}
use Rattle.flat_laws.specs.Loose.{Setting, slot_of, IsLocal}
use Rattle.flat_laws.specs.Parts.{arrivals, switch_labels, cases_among, Here}
use Rattle.flat_laws.specs.Source.{IsSourceItem, IsVariable, mark_bit, nones, AreDifferent}
use Rattle.lower_laws.specs.Lowered.{Layout, past, past_item, inside}

abbrev mutual
  -- each switch has its variable
  pub HaveVariables : Setting → Here → Forest → Type 0
  HaveVariables s h Nil = Unit {0}
  HaveVariables s h (Then x xs) = HasVariables s h x × HaveVariables s (past_item x h) xs

  -- in an item
  pub HasVariables : Setting → Here → Tree → Type 0
  HasVariables s h (If t a b) = HaveVariables s (inside (If t a b) h) a × HaveVariables s (past a (inside (If t a b) h)) b
  HasVariables s h (While t a) = HaveVariables s (inside (While t a) h) a
  HasVariables s h (Do a t) = HaveVariables s (inside (Do a t) h) a
  HasVariables s h (For first t u a) = HaveVariables s (inside (For first t u a) h) first × HaveVariables s (past first (inside (For first t u a) h)) a
  HasVariables s h (Block a) = HaveVariables s h a
  HasVariables s h (Switch t d) = IsVariable s h.variable (switch_kind t) × HaveVariablesAmong s (inside (Switch t d) h) d
  HasVariables s h _ = Unit {0}

  -- in sections
  pub HaveVariablesAmong : Setting → Here → Sections → Type 0
  HaveVariablesAmong s h NoSection = Unit {0}
  HaveVariablesAmong s h (Section cases default a ends d) = HaveVariables s h a × HaveVariablesAmong s (past a h) d

-- the body of a resolved function, with what the layout of its flat list takes of it
pub record IsSourceBody (p : Layout) (s : Setting) (h : Here) (body : Forest) : Type 0 where
  -- the labels that are named stay, under their new numbers
  pub labels : (l : ℕ) → s.labels l ≡ cond (p.plan.live l) (Some (p.plan.source l)) None
  pub slots : (x : ℕ) → IsLocal s x → (slot_of s x).cells ≡ (entry_or no_slot p.plan.slots x).cells
  pub number : s.number ≡ p.plan.number
  pub items : Everywhere (IsSourceItem s p.plan.live) body
  -- each switch has its variable, and no case label is outside a switch
  pub variables : HaveVariables s h body
  pub bound : is_empty (arrivals body) ≡ true

-- ---- labels and cases

-- a switch has at most one default, and its cases differ; there is no Land
abbrev pub HasOwnCases : Tree → Type 0
HasOwnCases (Switch s d) = (nones (switch_labels d) ≤ 1) × AreDifferent (map (case_number (switch_kind s)) (cases_among (switch_labels d)))
HasOwnCases (Land l) = ⊥
HasOwnCases _ = Unit {0}

-- each of the n labels of a body stands at most once, and there are no others
pub record HasOwnLabels (n : ℕ) (body : Forest) : Type 0 where
  pub once : (l : ℕ) → total (mark_bit l) body ≤ 1
  pub all : (l : ℕ) → n ≤ l → total (mark_bit l) body ≡ 0
  pub cases : Everywhere HasOwnCases body
