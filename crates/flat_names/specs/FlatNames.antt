-- The names that a flat form makes, in the order in which they are given: of each scattered switch its variable, its
-- cases, its default and the label behind it; then of block variables; then of the labels of exits.
use Rattle.std.specs.Prelude.{ℕ, zero, suc, ◌+◌, ◌-◌, ◌/◌, ◌%◌, nat_lt, Bool, true, false, cond, List, [], ◌∷◌, ◌++◌, length, get_or, Option, Some, None, codes}
use Rattle.c_types.specs.Words.{known_functions}
use Rattle.c_types.specs.declared.kinds.IntKind.{IntKind}
use Rattle.c_tree.specs.declared.tree.Function.{Function}
use Rattle.c_tree.specs.declared.tree.Slot.{Slot}
use Rattle.c_tree.specs.Trees.{Tree, Forest, Nil, Then, Sections, NoSection, Section, If, While, Do, For, Switch, Block}
use Rattle.c_tree.specs.TestTrees.{SelectorTree}
use Rattle.c_copies.specs.Names.{has_name, with_name, with_names}
use Rattle.jump_meaning.specs.Step.{switch_kind}
use Rattle.flat_laws.specs.Parts.{is_scattered, switch_labels, cases_among, has_default, leaves}
use Rattle.c_fresh_names.specs.Fresh.{numbered, fresh}
use Rattle.flat_names.specs.declared.giving.Made.{Made}
use Rattle.flat_names.specs.declared.labels.Label.{Label}
use Rattle.flat_names.specs.declared.labels.Label.TheVariants.{OfSource, OfBreak, OfContinue, OfDefault, OfCase}
use Rattle.flat_names.specs.declared.whole.FlatNames.{FlatNames}
use Rattle.flat_names.specs.declared.constructs.Construct.{Construct}
use Rattle.flat_names.specs.declared.constructs.Construct.TheVariants.{Stays, Scattered}

-- ---- what is named

-- a switch: of a scattered one the kind of its variable, how many cases it has, whether it has a default, and whether a
-- goto leads behind it
abbrev pub switch_construct : SelectorTree → Sections → Construct
switch_construct s d = cond (is_scattered d) (Scattered (switch_kind s) (length (cases_among (switch_labels d))) (has_default (switch_labels d))
    (leaves d)) Stays

abbrev mutual
  -- the loops and switches of a list, in text order
  pub constructs : Forest → List Construct
  constructs Nil = []
  constructs (Then x xs) = constructs_in x ++ constructs xs

  -- of an item
  pub constructs_in : Tree → List Construct
  constructs_in (If t a b) = constructs a ++ constructs b
  constructs_in (While t a) = Stays ∷ constructs a
  constructs_in (Do a t) = Stays ∷ constructs a
  constructs_in (For first t u a) = Stays ∷ (constructs first ++ constructs a)
  constructs_in (Block a) = constructs a
  constructs_in (Switch s d) = switch_construct s d ∷ constructs_among d
  constructs_in _ = []

  -- of sections
  pub constructs_among : Sections → List Construct
  constructs_among NoSection = []
  constructs_among (Section cases default a ends d) = constructs a ++ constructs_among d

-- ---- scattered switches

-- the names that were given so far: all that are used, the variables of scattered switches, and the labels
pub record Given : Type 0 where
  pub used : List (List ℕ)
  pub variables : List Slot
  pub made : Made

-- a number with this name
abbrev pub number_slot : IntKind → List ℕ → Slot
number_slot k n = record { name = n; kind = k; cells = None; constant = false }

-- the variable of switch k
abbrev pub name_variable : ℕ → IntKind → Given → Given
name_variable k kind g =
    let n = fresh (numbered (codes "switch") k) g.used in
    record g { used = with_name g.used n; variables = g.variables ++ number_slot kind n ∷ [] }

-- case i of switch k
abbrev pub name_case : ℕ → ℕ → Given → Given
name_case k i g =
    let n = fresh (numbered (numbered (codes "case") k) i) g.used in
    record g { used = with_name g.used n; made = record g.made { cases = g.made.cases ++ n ∷ [] } }

-- so many cases of switch k, from case i on
abbrev pub name_cases : ℕ → ℕ → ℕ → Given → Given
name_cases k i zero g = g
name_cases k i (suc m) g = name_cases k (i + 1) m (name_case k i g)

-- the default of loop or switch k, if it has one
abbrev pub name_default : ℕ → Bool → Given → Given
name_default k false g = record g { made = record g.made { defaults = g.made.defaults ++ None ∷ [] } }
name_default k true g =
    let n = fresh (numbered (codes "default") k) g.used in
    record g { used = with_name g.used n; made = record g.made { defaults = g.made.defaults ++ Some n ∷ [] } }

-- the label behind it, if a scattered switch has one
abbrev pub name_break : ℕ → Bool → Given → Given
name_break k false g = record g { made = record g.made { breaks = g.made.breaks ++ None ∷ [] } }
name_break k true g =
    let n = fresh (numbered (codes "break") k) g.used in
    record g { used = with_name g.used n; made = record g.made { breaks = g.made.breaks ++ Some n ∷ [] } }

abbrev pub name_construct : ℕ → Construct → Given → Given
name_construct k Stays g = name_break k false (name_default k false g)
name_construct k (Scattered kind n default behind) g = name_break k behind (name_default k default (name_cases k 1 n (name_variable k kind g)))

-- of these loops and switches, of which the first is number k
abbrev pub name_constructs : ℕ → List Construct → Given → Given
name_constructs k [] g = g
name_constructs k (x ∷ xs) g = name_constructs (k + 1) xs (name_construct k x g)

-- before any name is made
abbrev pub none_given : List (List ℕ) → Given
none_given used = record { used = used; variables = []; made = record { cases = []; defaults = []; breaks = [] } }

-- ---- block variables

-- variables, and the names that are used then
pub record Named : Type 0 where
  pub slots : List Slot
  pub used : List (List ℕ)

-- one more variable
abbrev pub with_slot : Slot → Named → Named
with_slot s n = record n { slots = s ∷ n.slots }

-- a variable with another name, which is not `const`
abbrev pub renamed : Slot → List ℕ → Slot
renamed s n = record s { name = n; constant = false }

-- the name of a block variable: its own, unless that is taken
abbrev pub variable_name : List (List ℕ) → List (List ℕ) → List ℕ → List ℕ
variable_name taken used n = cond (has_name taken n) (fresh n used) n

-- a variable in the flat form: a parameter stays, a block variable gets its name and is not `const`
abbrev pub slot_named : Bool → List (List ℕ) → List (List ℕ) → Slot → Slot
slot_named true taken used s = s
slot_named false taken used s = renamed s (variable_name taken used s.name)

-- the names that are taken after it: its own, and the one that it got
abbrev pub slot_taken : Bool → List (List ℕ) → List (List ℕ) → Slot → List (List ℕ)
slot_taken true taken used s = with_name taken s.name
slot_taken false taken used s = with_name (with_name taken s.name) (variable_name taken used s.name)

-- the names that are used after it
abbrev pub slot_used : Bool → List (List ℕ) → List (List ℕ) → Slot → List (List ℕ)
slot_used true taken used s = used
slot_used false taken used s = cond (has_name taken s.name) (with_name used (fresh s.name used)) used

-- the variables, of which the first so many are parameters
abbrev pub named_slots : ℕ → List (List ℕ) → List (List ℕ) → List Slot → Named
named_slots n taken used [] = record { slots = []; used = used }
named_slots n taken used (s ∷ ss) = let p = nat_lt 0 n in with_slot (slot_named p taken used s)
    (named_slots (n - 1) (slot_taken p taken used s) (slot_used p taken used s) ss)

-- ---- labels

-- which label a code is, where the source has n: its own, or one that was made
abbrev pub made_label : ℕ → ℕ → Label
made_label zero k = OfBreak k
made_label (suc zero) k = OfContinue k
made_label (suc (suc zero)) k = OfDefault k
made_label _ k = OfCase k

abbrev pub label_of : ℕ → ℕ → Label
label_of n c = cond (nat_lt c n) (OfSource c) (made_label ((c - n) % 4) ((c - n) / 4))

-- how a label is named: it has its name, or gets one of this base now
pub data Naming : Type 0 where
  Has : List ℕ → Naming
  Gets : List ℕ → Naming

abbrev pub named_or : Option (List ℕ) → List ℕ → Naming
named_or (Some n) base = Has n
named_or None base = Gets base

-- of a label of a function with these labels
abbrev pub naming : List (List ℕ) → Made → Label → Naming
naming labels g (OfSource l) = Has (get_or labels l [])
naming labels g (OfBreak k) = named_or (get_or g.breaks k None) (numbered (codes "break") (k + 1))
naming labels g (OfContinue k) = Gets (numbered (codes "continue") (k + 1))
naming labels g (OfDefault k) = named_or (get_or g.defaults k None) (numbered (codes "default") (k + 1))
naming labels g (OfCase j) = Has (get_or g.cases j [])

-- its name, and the names that are used then
abbrev pub chosen : Naming → List (List ℕ) → List ℕ
chosen (Has n) used = n
chosen (Gets base) used = fresh base used

abbrev pub used_then : Naming → List (List ℕ) → List (List ℕ)
used_then (Has n) used = used
used_then (Gets base) used = with_name used (fresh base used)

-- the names of labels, in their order
abbrev pub label_names : List (List ℕ) → Made → List (List ℕ) → List ℕ → List (List ℕ)
label_names labels g used [] = []
label_names labels g used (c ∷ cs) = let m = naming labels g (label_of (length labels) c) in chosen m used ∷ label_names labels g (used_then m used) cs

-- ---- the whole

-- some variables before others
abbrev pub before_named : List Slot → Named → Named
before_named xs n = record n { slots = xs ++ n.slots }

-- a function, its body, and the codes of the labels of its flat form, where no new name may be one of the first names
-- and no block variable may keep one of the second
abbrev pub flat_names_beside : List (List ℕ) → List (List ℕ) → Function → Forest → List ℕ → FlatNames
flat_names_beside used taken f body codes' =
    let g = name_constructs 1 (constructs body) (none_given used) in
    let v = named_slots f.params taken g.used f.slots in
    record { slots = v.slots ++ g.variables; labels = label_names f.labels g.made v.used codes' }

-- names, with those of the known functions
abbrev pub with_known : List (List ℕ) → List (List ℕ)
with_known names = with_names (with_names [] names) known_functions

-- the variables and labels of the flat form of a function, with the names of its program and those of its file scope
abbrev pub flat_names : List (List ℕ) → List (List ℕ) → Function → Forest → List ℕ → FlatNames
flat_names names file f body codes' = flat_names_beside (with_known names) (with_known file) f body codes'
