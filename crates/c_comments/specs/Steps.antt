-- What is left of a list, and where a token in it leads.
use Rattle.std.specs.Prelude.{◌≡◌, ◌<◌, ◌≤◌, ℕ, true, false, nat_lt, min, suc, List, [], ◌∷◌, Option, Some, None}
use Rattle.c_grammar.specs.Items.{Label, Named, label_first, Body, Braces, Lone}
use Rattle.c_grammar.specs.ItemViews.{labels_of, plain_of}
use Rattle.c_grammar.specs.Weights.{weight, weights}
use Rattle.c_statements.specs.declared.anchors.Anchor.{Anchor}
use Rattle.c_statements.specs.declared.anchors.Anchor.TheVariants.{Before}
use Rattle.c_statements.specs.Nodes.{items_of}
use Rattle.c_comments.specs.Notes.{label_after, or_behind, plain_place, list_place, members_place}
use Rattle.c_comments.specs.declared.steps.Rest.{Rest}
use Rattle.c_comments.specs.declared.steps.Rest.TheVariants as R
use Rattle.c_comments.specs.declared.steps.Step.{Step}
use Rattle.c_comments.specs.declared.steps.Step.TheVariants as S

-- the place of a label; a case or default label of a section has the one that is given
abbrev pub label_place : Option Anchor → Label → Anchor
label_place None l = Before (label_first l)
label_place (Some place) (Named first after) = Before first
label_place (Some place) _ = place

-- the place of token t, if it stands in what may be a label
abbrev pub place_in_label : Option Anchor → Option Label → ℕ → Option Anchor
place_in_label section None t = None
place_in_label section (Some l) t = elim (nat_lt t (label_after l)) [ true ↦ Some (label_place section l) | false ↦ None ]

-- the place of token t, if it stands in these labels
abbrev pub place_in_labels : Option Anchor → List Label → ℕ → Option Anchor
place_in_labels section [] t = None
place_in_labels section (l ∷ ls) t = elim (nat_lt t (label_after l)) [ true ↦ Some (label_place section l) | false ↦ place_in_labels section ls t ]

-- the place of token t in what is left
abbrev pub rest_place : (ℕ → List ℕ) → Rest → ℕ → Anchor
rest_place word (R.Items end xs) t = list_place end (items_of word xs.now) t
rest_place word (R.Members begun switch first xs) t = members_place begun switch first (items_of word xs.now) t
rest_place word (R.Labels section ls p) t = or_behind (place_in_labels section (labels_of word ls.now) t) (plain_place (plain_of word p.now) t)

-- the nodes that may still be entered
abbrev pub rest_weight : Rest → ℕ
rest_weight (R.Items end xs) = weights xs.now
rest_weight (R.Members begun switch first xs) = weights xs.now
rest_weight (R.Labels section ls p) = weight p.now

-- the same places for the tokens from t on
abbrev pub Behind : (ℕ → Anchor) → (ℕ → Anchor) → ℕ → Type 0
Behind f g t = (s : ℕ) → t ≤ s → f s ≡ g s

-- the same places for the tokens from t up to a bound
abbrev pub Between : (ℕ → Anchor) → (ℕ → Anchor) → ℕ → ℕ → Type 0
Between f g t bound = (s : ℕ) → t ≤ s → s < bound → f s ≡ g s

-- a step from token t, by the places of tokens
abbrev pub Leads : (ℕ → List ℕ) → (ℕ → Anchor) → ℕ → Step → Type 0
Leads word place t (S.At a) = place t ≡ a
Leads word place t (S.Into rest bound) = (t < bound) × Between place (rest_place word rest) t bound

-- a walk ends, since what is entered has fewer nodes
abbrev pub IsBelow : ℕ → Step → Type 0
IsBelow n (S.At a) = Unit {0}
IsBelow n (S.Into rest bound) = rest_weight rest < n

abbrev pub bounded : Step → ℕ → Step
bounded (S.At a) bound = S.At a
bounded (S.Into rest other) bound = S.Into rest (min other bound)

-- the tokens before this one are in front of a list
abbrev pub body_ahead : Body → ℕ
body_ahead (Braces first after xs) = suc first
body_ahead (Lone first after x) = first
