-- What `resolved_laws` states: what a resolved program is known to be.
use Rattle.std.specs.Prelude.{ℕ, ◌≡◌, ◌≢◌, ◌<◌, true, List, ◌∷◌, length, Some, All}
use Rattle.c_tree.specs.declared.tree.Function.{Function}
use Rattle.c_tree.specs.declared.tree.Slot.{Slot}
use Rattle.c_tree.specs.declared.tree.Top.{Top}
use Rattle.c_tree.specs.declared.tree.Top.TheVariants as T
use Rattle.c_tree.specs.declared.tree.Program.{Program}
use Rattle.c_tree.specs.Trees.{Tree, Forest, Local, Arrival}
use Rattle.c_tree.specs.Everywhere.{Everywhere}
use Rattle.c_tree.specs.InRange.{body_of, IsProgramInRange}
use Rattle.c_tree.specs.Jumps.{is_jump_free_program, is_plain_program}
use Rattle.jump_meaning.specs.Code.{entry_or, code_of}
use Rattle.jump_meaning.specs.World.{no_slot}
use Rattle.jump_meaning.specs.Steady.{IsSteady}
use Rattle.jump_meaning.specs.Laws.{IsTopUnflat}
use Rattle.struct_meaning.specs.Runs.{MeaningsAgreeOn}
use Rattle.c_resolved_defs.specs.PrintablePrograms.{IsPrintable}
use Rattle.plain_laws.specs.Kinded.{KindedItem}
use Rattle.plain_laws.specs.Laws.{IsProgramReady}
use Rattle.flat_laws.specs.Loose.{Setting, slot_of}
use Rattle.c_tree.specs.TextItems.{is_empty}
use Rattle.flat_laws.specs.Parts.{arrivals, is_named}
use Rattle.flat_laws.specs.Source.{IsSourceItem, HasOwnLabels}
use Rattle.flat_laws.specs.FlatWellMadeLaws.{IsGoodSource}
use Rattle.c_resolved_defs.specs.Within.{ItemExpressions}
use Rattle.c_resolved_defs.specs.Scopes.{Meaning, Scope, look_up, bind, IsBound, AreBound}
use Rattle.c_resolved_defs.specs.Limits.{FlatCounts, no_counts}
use Rattle.c_resolved_defs.specs.Resolved.{IsResolvedFunction, IsResolvedWith}

-- kinds agree in each item, as the meaning needs it
abbrev pub IsTopKinded : Program → Top → Type 0
IsTopKinded p (T.Function f) = Everywhere (KindedItem (code_of p) f.slots) (body_of f)
IsTopKinded p _ = Unit {0}

-- a name for each label
abbrev pub HasNameEach : (Function → List (List ℕ)) → Function → Type 0
HasNameEach names f = length (names f) ≡ length f.labels

abbrev pub HaveNames : (Function → List (List ℕ)) → Type 0
HaveNames names = (f : Function) → HasNameEach names f

-- no nested case label, which has no text
abbrev pub IsNoArrival : Tree → Type 0
IsNoArrival (Arrival e) = ⊥
IsNoArrival _ = Unit {0}

abbrev pub TopHasText : Top → Type 0
TopHasText (T.Function f) = Everywhere IsNoArrival (body_of f)
TopHasText _ = Unit {0}

abbrev pub HasText : Program → Type 0
HasText p = All TopHasText p.tops

-- ---- what the flat form takes of a function

-- the setting has the slots of the function, with the same lengths
pub record IsSettingOf (s : Setting) (f : Function) : Type 0 where
  pub old : s.old ≡ f.slots
  pub params : s.params ≡ f.params
  pub cells : (x : ℕ) → x < length f.slots → (slot_of s x).cells ≡ (entry_or no_slot f.slots x).cells

-- ---- scopes

abbrev pub IsUndeclaring : Tree → Type 0
IsUndeclaring (Local k given) = ⊥
IsUndeclaring _ = Unit {0}

-- an item that declares nothing, and whose names are bound in these scopes
abbrev pub BindsNothing : List Slot → List Scope → Tree → Type 0
BindsNothing slots ss x = ItemExpressions (IsBound slots ss) x × IsUndeclaring x

-- ---- the laws

pub record ResolvedLaws : Type 0 where
  -- it is in range, none of its functions is flat, and it is steady
  pub ranged : (counts : FlatCounts) (p : Program) → IsResolvedWith counts p → IsProgramInRange p
  pub unflat : (counts : FlatCounts) (p : Program) → IsResolvedWith counts p → All IsTopUnflat p.tops
  pub steady : (counts : FlatCounts) (p : Program) → IsResolvedWith counts p → IsSteady p
  -- its printed text is read again, where it has one
  pub printable : (counts : FlatCounts) (p : Program) → IsResolvedWith counts p → HasText p → IsPrintable p
  pub text : (p : Program) → is_plain_program p ≡ true → HasText p
  -- its kinds agree, and it is ready for its plain form
  pub kinded : (counts : FlatCounts) (p : Program) → IsResolvedWith counts p → All (IsTopKinded p) p.tops
  pub ready : (counts : FlatCounts) (p : Program) → IsResolvedWith counts p → (names : Function → List (List ℕ)) → HaveNames names → IsProgramReady names p
  -- without jumps it is plain, and both meanings agree on it
  pub plain : (counts : FlatCounts) (p : Program) → IsResolvedWith counts p → is_jump_free_program p ≡ true → is_plain_program p ≡ true
  pub meanings : (counts : FlatCounts) (p : Program) → IsResolvedWith counts p → is_jump_free_program p ≡ true → MeaningsAgreeOn (code_of p)
  -- each label of a function has one Mark, and the cases of a switch differ
  pub labels : (counts : FlatCounts) (ts : List Top) (f : Function) → IsResolvedFunction counts ts f → HasOwnLabels (length f.labels) (body_of f)
  -- its body can be flattened
  pub good : (counts : FlatCounts) (ts : List Top) (f : Function) → IsResolvedFunction counts ts f → IsGoodSource (length f.labels) (body_of f)
  -- its items are those that the flat form takes
  pub source : (counts : FlatCounts) (ts : List Top) (f : Function) (s : Setting) → IsResolvedFunction counts ts f → IsSettingOf s f →
      Everywhere (IsSourceItem s (is_named (body_of f))) (body_of f)
  -- and no nested case label stands outside of a switch
  pub calm : (counts : FlatCounts) (ts : List Top) (f : Function) → IsResolvedFunction counts ts f → is_empty (arrivals (body_of f)) ≡ true
  -- a list without declarations is bound if each of its names is, in whatever lists of it they stand
  pub one_scope : (slots : List Slot) (ss : List Scope) (xs : Forest) → Everywhere (BindsNothing slots ss) xs → AreBound slots ss xs
  -- what is bound is found, and every other name is what it was
  pub bound : (m : List ℕ) (b : Meaning) (s : Scope) (ss : List Scope) → look_up (bind m b (s ∷ ss)) m ≡ Some b
  pub others : (m n : List ℕ) (b : Meaning) (s : Scope) (ss : List Scope) → n ≢ m → look_up (bind m b (s ∷ ss)) n ≡ look_up (s ∷ ss) n
  -- it is resolved without regard to the measures of flat forms
  pub uncounted : (counts : FlatCounts) (p : Program) → IsResolvedWith counts p → IsResolvedWith no_counts p
