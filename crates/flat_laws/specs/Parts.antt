-- What the flat form asks of a body: which labels are named, which switches are scattered, which loops and
-- switches are jumpy, and how the lists of sections end.
use Rattle.std.specs.Prelude.{ℕ, zero, suc, ◌+◌, Bool, true, false, not, cond, ◌&&◌, ◌||◌, eqb, List, [], ◌∷◌, ◌++◌, length, Option, Some, None}
use Rattle.c_tree.specs.ExpressionTrees.{ExpressionTree}
use Rattle.c_tree.specs.Everywhere.{total}
use Rattle.c_tree.specs.Exits.{breaks, breaks_in}
use Rattle.c_tree.specs.Trees.{Tree, Forest, Nil, Then, Sections, NoSection, Section, If, While, Do, For, Switch, Block, Local, Break, Goto, Mark, Arrival}
use Rattle.c_tree.specs.Changed.{one}
use Rattle.c_tree.specs.TextItems.{is_empty}

-- whether a number of things is not 0
abbrev pub is_some_number : ℕ → Bool
is_some_number zero = false
is_some_number (suc n) = true

-- ---- scattered switches

abbrev mutual
  -- the case labels of a list that are bound to a switch around it, in text order; an absent one is a default
  pub arrivals : Forest → List (Option ExpressionTree)
  arrivals Nil = []
  arrivals (Then x xs) = arrivals_in x ++ arrivals xs

  -- of an item; those in a switch inside belong to that one
  pub arrivals_in : Tree → List (Option ExpressionTree)
  arrivals_in (If t a b) = arrivals a ++ arrivals b
  arrivals_in (While t a) = arrivals a
  arrivals_in (Do a t) = arrivals a
  arrivals_in (For first t u a) = arrivals a
  arrivals_in (Block a) = arrivals a
  arrivals_in (Arrival e) = e ∷ []
  arrivals_in _ = []

-- a switch with a label in a nested statement
abbrev pub is_scattered : Sections → Bool
is_scattered NoSection = false
is_scattered (Section cases default a ends d) = not (is_empty (arrivals a)) || is_scattered d

-- the labels of a section itself: its cases, then its default
abbrev pub section_labels : List ExpressionTree → Bool → List (Option ExpressionTree)
section_labels [] true = None ∷ []
section_labels [] false = []
section_labels (e ∷ es) default = Some e ∷ section_labels es default

-- all labels of a switch, of its sections and nested ones
abbrev pub switch_labels : Sections → List (Option ExpressionTree)
switch_labels NoSection = []
switch_labels (Section cases default a ends d) = section_labels cases default ++ (arrivals a ++ switch_labels d)

-- the cases among labels
abbrev pub cases_among : List (Option ExpressionTree) → List ExpressionTree
cases_among [] = []
cases_among (Some e ∷ ls) = e ∷ cases_among ls
cases_among (None ∷ ls) = cases_among ls

-- whether the default is among labels
abbrev pub has_default : List (Option ExpressionTree) → Bool
has_default [] = false
has_default (Some e ∷ ls) = has_default ls
has_default (None ∷ ls) = true

-- whether some section has an end
abbrev pub ends_some : Sections → Bool
ends_some NoSection = false
ends_some (Section cases default a ends d) = ends || ends_some d

-- a goto leads behind the scattered switch: from the end of a section, from a `break`, or since there is no default
abbrev pub leaves : Sections → Bool
leaves d = not (has_default (switch_labels d)) || ends_some d || is_some_number (breaks_in d)

-- ---- jumps

abbrev mutual
  -- a list holds a goto or a named label, also one that a scattered switch makes
  pub holds_jump : (ℕ → Bool) → Forest → Bool
  holds_jump live Nil = false
  holds_jump live (Then x xs) = holds_jump_in live x || holds_jump live xs

  -- an item is or holds one; the first part of a `for` never does
  pub holds_jump_in : (ℕ → Bool) → Tree → Bool
  holds_jump_in live (If t a b) = holds_jump live a || holds_jump live b
  holds_jump_in live (While t a) = holds_jump live a
  holds_jump_in live (Do a t) = holds_jump live a
  holds_jump_in live (For first t u a) = holds_jump live a
  holds_jump_in live (Block a) = holds_jump live a
  holds_jump_in live (Switch s d) = is_scattered d || holds_jump_among live d
  holds_jump_in live (Goto l) = true
  holds_jump_in live (Mark l) = live l
  holds_jump_in live (Arrival e) = true
  holds_jump_in live _ = false

  -- sections hold one
  pub holds_jump_among : (ℕ → Bool) → Sections → Bool
  holds_jump_among live NoSection = false
  holds_jump_among live (Section cases default a ends d) = holds_jump live a || holds_jump_among live d

-- 1 for a goto that names the label
abbrev pub gotos_to : ℕ → Tree → ℕ
gotos_to l (Goto m) = cond (eqb l m) 1 0
gotos_to l _ = 0

-- a goto names the label
abbrev pub is_named : Forest → ℕ → Bool
is_named body l = is_some_number (total (gotos_to l) body)

-- 1 for a goto or a scattered switch
abbrev pub jumps_of : Tree → ℕ
jumps_of (Goto l) = 1
jumps_of (Switch s d) = cond (is_scattered d) 1 0
jumps_of _ = 0

-- whether a function with this body has jumps: it holds a goto or a scattered switch
abbrev pub has_jumps : Forest → Bool
has_jumps body = is_some_number (total jumps_of body)

-- ---- numbers in text order

-- 1 for a loop or switch
abbrev pub constructs_of : Tree → ℕ
constructs_of (While t a) = 1
constructs_of (Do a t) = 1
constructs_of (For first t u a) = 1
constructs_of (Switch s d) = 1
constructs_of _ = 0

-- how many case labels a scattered switch has
abbrev pub cases_of : Tree → ℕ
cases_of (Switch s d) = cond (is_scattered d) (length (cases_among (switch_labels d))) 0
cases_of _ = 0

-- 1 for a scattered switch, which has a variable
abbrev pub variables_of : Tree → ℕ
variables_of (Switch s d) = cond (is_scattered d) 1 0
variables_of _ = 0

-- the numbers of what comes next: of the next loop or switch, of the next case label and of the next variable of scattered switches
pub record Here : Type 0 where
  pub construct : ℕ
  pub case : ℕ
  pub variable : ℕ

-- the numbers of what comes behind a list
abbrev pub past : Forest → Here → Here
past xs h = record { construct = h.construct + total constructs_of xs; case = h.case + total cases_of xs; variable = h.variable + total variables_of xs }

-- behind an item
abbrev pub past_item : Tree → Here → Here
past_item x h = past (one x) h

-- inside a loop or switch with so many case labels and variables of its own
abbrev pub inside : Tree → Here → Here
inside x h = record { construct = suc h.construct; case = h.case + cases_of x; variable = h.variable + variables_of x }

-- ---- how lists end

-- by nothing that stays; by a `break`; by a goto; by something else
pub data Ending : Type 0 where
  Gone : Ending
  Breaks : Ending
  Jumps : Ending
  Otherwise : Ending

-- how a list ends whose later part and whose earlier part end so
abbrev pub later : Ending → Ending → Ending
later Gone e = e
later e f = e

-- a label stays or goes
abbrev pub gone_or : Bool → Ending
gone_or true = Otherwise
gone_or false = Gone

-- a switch that is dissolved ends by a goto where its last list does
abbrev pub if_jumps : Ending → Ending
if_jumps Jumps = Jumps
if_jumps _ = Otherwise

abbrev mutual
  -- how a list ends
  pub ending : (ℕ → Bool) → Forest → Ending
  ending live Nil = Gone
  ending live (Then x xs) = later (ending live xs) (ending_of live x)

  -- how the list of one item ends; a goto that a `continue` becomes is none yet
  pub ending_of : (ℕ → Bool) → Tree → Ending
  ending_of live Break = Breaks
  ending_of live (Goto l) = Jumps
  ending_of live (Mark l) = gone_or (live l)
  ending_of live (Local x None) = Gone
  ending_of live (Block a) = ending live a
  ending_of live (Switch s d) = cond (is_scattered d && not (leaves d)) (if_jumps (last_ending live d)) Otherwise
  ending_of live _ = Otherwise

  -- of the last list of sections
  pub last_ending : (ℕ → Bool) → Sections → Ending
  last_ending live NoSection = Gone
  last_ending live (Section cases default a ends NoSection) = ending live a
  last_ending live (Section cases default a ends (Section cases' default' b ends' d)) = last_ending live (Section cases' default' b ends' d)

-- nothing of a list stays
abbrev pub is_gone : Ending → Bool
is_gone Gone = true
is_gone _ = false

abbrev mutual
  -- a list that ends by a `break`, without it
  pub trimmed : (ℕ → Bool) → Forest → Forest
  trimmed live Nil = Nil
  trimmed live (Then x xs) = cond (is_gone (ending live xs)) (trimmed_item live x) (Then x (trimmed live xs))

  -- an item that ends by a `break`, without it
  pub trimmed_item : (ℕ → Bool) → Tree → Forest
  trimmed_item live Break = Nil
  trimmed_item live (Block a) = one (Block (trimmed live a))
  trimmed_item live x = one x

-- the list of a section without the `break` that becomes its end
abbrev pub section_list : (ℕ → Bool) → Forest → Ending → Forest
section_list live a Breaks = trimmed live a
section_list live a _ = a

-- the breaks of a switch that stay: all but those that become ends of sections
abbrev pub kept_breaks : (ℕ → Bool) → Sections → ℕ
kept_breaks live NoSection = 0
kept_breaks live (Section cases default a ends d) = breaks (section_list live a (ending live a)) + kept_breaks live d

-- a section has an end afterwards
abbrev pub ends_then : Bool → Bool → Ending → Bool
ends_then jumpy ends Breaks = true
ends_then jumpy ends Jumps = ends || jumpy
ends_then jumpy ends _ = ends
