-- A resolved program: what `resolve` gives, and what every call that takes programs may rely on. On the tree alone.
use Rattle.std.specs.Prelude.{negsuc, List, take, drop, slice_get, option_map}
use Rattle.c_tree.specs.declared.tree.Slot.{Slot}
use Rattle.c_tree.specs.declared.tree.Function.{Function}
use Rattle.c_tree.specs.declared.tree.Top.{Top}
use Rattle.c_tree.specs.declared.tree.Top.TheVariants as T
use Rattle.c_tree.specs.declared.tree.Program.{Program}
use Rattle.c_tree.specs.Trees.{Tree, Local, expression_trees}
use Rattle.c_tree.specs.Everywhere.{Everywhere}
use Rattle.c_tree.specs.InRange.{body_of}
use Rattle.c_resolved_defs.specs.Within.{Each}
use Rattle.c_resolved_defs.specs.Names.{Names}
use Rattle.c_resolved_defs.specs.Kinds.{ItemAgrees, KeepsConsts, ReturnFits}
use Rattle.c_resolved_defs.specs.Scopes.{NamesAreBound}
use Rattle.c_resolved_defs.specs.Form.{HasForm}
use Rattle.c_resolved_defs.specs.Switches.{HasCases}
use Rattle.c_resolved_defs.specs.Spelling.{IsSpelled}
use Rattle.c_resolved_defs.specs.Files.{HaveValues, IsGlobal, AreLengths, IsLength, IsParameterLength, SlotIsInitialised, DeclarationsAgree, MainIsFormed}
use Rattle.c_resolved_defs.specs.Limits.{FlatCounts, IsUntangled}

-- ---- variables

-- the parameters of a function are numbers or arrays without a length, its other slots have a length
pub record HasLengths (f : Function) : Type 0 where
  pub parameters : AreLengths IsParameterLength (take f.params f.slots)
  pub others : AreLengths IsLength (drop f.params f.slots)

-- a declared slot is there, and its initialisers fit
abbrev pub IsInitialised : List Slot → Tree → Type 0
IsInitialised slots (Local k given) = SlotIsInitialised (slice_get slots k) given
IsInitialised slots _ = Unit {0}

-- ---- functions, among what stands at file scope

abbrev pub names_in : List Top → Function → Names
names_in ts f = record { tops = ts; slots = f.slots }

pub record IsResolvedFunction (counts : FlatCounts) (ts : List Top) (f : Function) : Type 0 where
  -- nothing made by the rewriting; slots, labels and sections as they are read
  pub form : HasForm f
  -- kinds agree, values stand where they are used, calls have the right arguments
  pub kinds : Everywhere (ItemAgrees (names_in ts f)) (body_of f)
  -- a value is returned exactly where the function gives one
  pub returns : Everywhere (ReturnFits f.result) (body_of f)
  -- cases are constants, distinct in the promoted kind of their selector, and not too many
  pub cases : Everywhere HasCases (body_of f)
  -- no const variable is assigned
  pub consts : Everywhere (KeepsConsts (names_in ts f)) (body_of f)
  -- arrays have lengths, and as many initialisers at most
  pub lengths : HasLengths f
  pub initialised : Everywhere (IsInitialised f.slots) (body_of f)
  -- a function with jumps is not too tangled
  pub untangled : IsUntangled counts f

abbrev pub IsResolvedTop : FlatCounts → List Top → Top → Type 0
IsResolvedTop counts ts (T.Enum xs) = HaveValues ts (negsuc 0) xs
IsResolvedTop counts ts (T.Global g) = IsGlobal ts g (option_map expression_trees g.init)
IsResolvedTop counts ts (T.Function f) = IsResolvedFunction counts ts f
IsResolvedTop counts ts _ = Unit {0}

-- ---- programs

-- given how many gotos and labels the flat form of a body has
pub record IsResolvedWith (counts : FlatCounts) (p : Program) : Type 0 where
  -- names and constants are spelled as C spells them, labels and parameters have names of their own, and the printed
  -- text is within the limits
  pub spelled : IsSpelled p
  -- each name is bound to what the tree has there, and none is declared twice in a scope
  pub bound : NamesAreBound p.tops
  -- the declarations of each function agree, and `main` has its form
  pub declarations : DeclarationsAgree p.tops
  pub main : Each MainIsFormed p.tops
  -- enum constants, variables and functions, each by itself
  pub tops : Each (IsResolvedTop counts p.tops) p.tops
