-- What lowering makes of each function of a program: a flat list of gotos for its body, behind the declarations of its
-- variables, and their names and those of its labels.
use Rattle.std.specs.Prelude.{ℕ, zero, suc, ◌+◌, ◌/◌, ◌%◌, eqb, false, cond, List, [], ◌∷◌, ◌++◌, length, get_or, Option, Some, None, codes, ◌≡◌, ◌≤◌}
use Rattle.c_types.specs.declared.kinds.IntKind.{IntKind}
use Rattle.c_tree.specs.declared.tree.Function.{Function}
use Rattle.c_tree.specs.declared.tree.Item.{Item}
use Rattle.c_tree.specs.declared.tree.Slot.{Slot}
use Rattle.c_tree.specs.declared.tree.Top.{Top}
use Rattle.c_tree.specs.declared.tree.Top.TheVariants as T
use Rattle.c_tree.specs.declared.tree.Program.{Program}
use Rattle.c_tree.specs.InRange.{body_of}
use Rattle.c_tree.specs.Numerals.{constant}
use Rattle.c_tree.specs.Trees.{Tree, Forest, Nil, Then, Sections, NoSection, Section, If, While, Do, For, Switch, Block, trees_of}
use Rattle.c_copies.specs.Names.{with_name, names, file_names}
use Rattle.c_fresh_names.specs.Fresh.{numbered, fresh}
use Rattle.jump_meaning.specs.Step.{switch_kind}
use Rattle.flat_laws.specs.Pieces.{Stays}
use Rattle.flat_laws.specs.Loose.{NoArrival}
use Rattle.flat_laws.specs.FlatForm.{marks, first_here}
use Rattle.lower_laws.specs.Lowered.{coded, lowered, lowered_body, gotos}
use Rattle.flat_names.specs.declared.whole.FlatNames.{FlatNames}
use Rattle.flat_names.specs.FlatNames.{Named, number_slot, named_slots, with_known}

-- ---- variables

abbrev mutual
  -- the loops and switches of a list, in text order; of a switch the kind of its variable
  pub constructs : Forest → List (Option IntKind)
  constructs Nil = []
  constructs (Then x xs) = constructs_in x ++ constructs xs

  -- of an item
  pub constructs_in : Tree → List (Option IntKind)
  constructs_in (If t a b) = constructs a ++ constructs b
  constructs_in (While t a) = None ∷ constructs a
  constructs_in (Do a t) = None ∷ constructs a
  constructs_in (For first t u a) = None ∷ (constructs first ++ constructs a)
  constructs_in (Block a) = constructs a
  constructs_in (Switch s d) = Some (switch_kind s) ∷ constructs_among d
  constructs_in _ = []

  -- of sections
  pub constructs_among : Sections → List (Option IntKind)
  constructs_among NoSection = []
  constructs_among (Section cases default a ends d) = constructs a ++ constructs_among d

-- one more variable, of loop or switch k, if it is a switch
abbrev pub with_variable : ℕ → Option IntKind → Named → Named
with_variable k None n = n
with_variable k (Some kind) n =
    let m = fresh (numbered (codes "switch") k) n.used in
    record { slots = n.slots ++ number_slot kind m ∷ []; used = with_name n.used m }

-- those of these loops and switches, of which the first is number k
abbrev pub with_variables : ℕ → List (Option IntKind) → Named → Named
with_variables k [] n = n
with_variables k (x ∷ xs) n = with_variables (k + 1) xs (with_variable k x n)

-- the variables of a function with this body, where no new name may be one of the first names and no block variable may
-- keep one of the second; and the names that are used then
abbrev pub variables_beside : List (List ℕ) → List (List ℕ) → Function → Forest → Named
variables_beside used taken f body = with_variables 1 (constructs body) (named_slots f.params taken used f.slots)

-- ---- labels

-- the labels of the flat list of a function with this body, in text order: seven times the number of a label of the
-- source, or another number for one that is made
abbrev pub label_codes : Function → Forest → List ℕ
label_codes f body = marks (lowered (coded constant f.slots body) (first_here (length f.slots)) Stays Stays NoArrival body)

-- their names: a label of the source has its own; those that are made get low_n, low_(n + 1) and so on
abbrev pub label_names : List (List ℕ) → List (List ℕ) → ℕ → List ℕ → List (List ℕ)
label_names labels used n [] = []
label_names labels used n (c ∷ cs) =
    cond (eqb (c % 7) 0) (get_or labels (c / 7) [] ∷ label_names labels used n cs)
    (let m = fresh (numbered (codes "low") n) used in m ∷ label_names labels (with_name used m) (n + 1) cs)

-- ---- functions

-- the variables and the labels
abbrev pub lowered_names : List (List ℕ) → List (List ℕ) → Function → Forest → FlatNames
lowered_names used taken f body =
    let v = variables_beside used taken f body in
    record { slots = v.slots; labels = label_names f.labels v.used 1 (label_codes f body) }

-- h is f, which has this body, with a flat list of gotos
pub record IsBodyLowered (used taken : List (List ℕ)) (f : Function) (body : List Item) (h : Function) : Type 0 where
  pub new : List Item
  pub trees : trees_of new ≡ lowered_body constant f.params f.slots (trees_of body)
  pub whole : h ≡ record f {
    slots = (lowered_names used taken f (trees_of body)).slots;
    labels = (lowered_names used taken f (trees_of body)).labels;
    body = Some new;
    flat = false;
  }

-- h is f lowered, where these names are used and taken; a prototype stays as it is
abbrev pub IsLoweredBeside : List (List ℕ) → List (List ℕ) → Function → Function → Type 0
IsLoweredBeside used taken f h = elim f.body [ None ↦ h ≡ f | Some body ↦ IsBodyLowered used taken f body h ]

-- h is f lowered, with the names of a program and those of its file scope; a prototype stays as it is
abbrev pub IsLoweredFunction : List (List ℕ) → List (List ℕ) → Function → Function → Type 0
IsLoweredFunction names file f h = IsLoweredBeside (with_known names) (with_known file) f h

-- ---- programs

-- the most entries of a list that is held in memory
abbrev pub most_held : ℕ
most_held = 4294967295

-- what stands at file scope, before and after: a function is lowered, and its variables and labels are held in memory; all
-- else is the same
abbrev pub IsTopLowered : List (List ℕ) → List (List ℕ) → Top → Top → Type 0
IsTopLowered names file (T.Function f) (T.Function h) = IsLoweredFunction names file f h × (length h.slots ≤ most_held) × (length h.labels ≤ most_held)
IsTopLowered names file (T.Function f) _ = ⊥
IsTopLowered names file t u = u ≡ t

-- all of it, in file order
pub data LoweredTops (names file : List (List ℕ)) : List Top → List Top → Type 0 where
  lt_none : LoweredTops names file [] []
  lt_more : {t u : Top} {ts us : List Top} → IsTopLowered names file t u → LoweredTops names file ts us → LoweredTops names file (t ∷ ts) (u ∷ us)

-- q is p lowered, where the names of p are held in memory
pub record IsLoweredProgram (p q : Program) : Type 0 where
  pub held : length (names p) ≤ most_held
  pub tops : LoweredTops (names p) (file_names p) p.tops q.tops

-- how many gotos stand at file scope
abbrev pub top_gotos : Top → ℕ
top_gotos (T.Function f) = gotos (body_of f)
top_gotos _ = 0

abbrev pub tops_gotos : List Top → ℕ
tops_gotos [] = 0
tops_gotos (t ∷ ts) = top_gotos t + tops_gotos ts

-- how many a program has
abbrev pub program_gotos : Program → ℕ
program_gotos p = tops_gotos p.tops
