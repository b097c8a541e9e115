-- What stands at file scope: enum constants and their values, variables and their initialisers, and functions whose
-- declarations agree (ISO/IEC 9899:2011, 6.7, 6.9).
use Rattle.std.specs.Prelude.{ℕ, ◌≡◌, ◌≤◌, ℤ, pos, ◌+ℤ◌, true, false, List, [], ◌∷◌, length, codes, take, is_some, Option, Some, None, IfSome, IsSomeAnd}
use Rattle.std.specs.Str.{bytes_eq}
use Rattle.c_types.specs.declared.kinds.IntKind.TheVariants.{Int}
use Rattle.c_types.specs.Numbers.{IsInRange}
use Rattle.c_tree.specs.declared.tree.Slot.{Slot}
use Rattle.c_tree.specs.declared.tree.EnumItem.{EnumItem}
use Rattle.c_tree.specs.declared.tree.GlobalVariable.{GlobalVariable}
use Rattle.c_tree.specs.declared.tree.Expression.{Expression}
use Rattle.c_tree.specs.declared.tree.Function.{Function}
use Rattle.c_tree.specs.declared.tree.Top.{Top}
use Rattle.c_tree.specs.declared.tree.Top.TheVariants as T
use Rattle.c_tree.specs.ExpressionTrees.{ExpressionTree, expression_tree}
use Rattle.c_tree.specs.Constants.{constant_value}
use Rattle.c_resolved_defs.specs.Within.{Each}
use Rattle.c_resolved_defs.specs.Kinds.{KindsAgree}
use Rattle.c_resolved_defs.specs.Switches.{IsConstantValue}

-- ---- arrays and initialisers

-- a number, or an array of 1 to 65,536 cells
abbrev pub IsLength : Option ℕ → Type 0
IsLength None = Unit {0}
IsLength (Some n) = (1 ≤ n) × (n ≤ 65536)

-- a number, or an array parameter
abbrev pub IsParameterLength : Option ℕ → Type 0
IsParameterLength None = Unit {0}
IsParameterLength (Some n) = n ≡ 0

-- the initialisers of a number, or of an array of at most so many cells
abbrev pub AreInitialisers : ℕ → Option ℕ → List ExpressionTree → Type 0
AreInitialisers most None es = length es ≡ 1
AreInitialisers most (Some n) es = (length es ≤ n) × (n ≤ most)

abbrev pub AreLengths : (Option ℕ → Type 0) → List Slot → Type 0
AreLengths P [] = Unit {0}
AreLengths P (s ∷ ss) = P s.cells × AreLengths P ss

-- a local array with initialisers has at most 1,024 cells
abbrev pub SlotIsInitialised : Option Slot → Option (List ExpressionTree) → Type 0
SlotIsInitialised s given = IsSomeAnd s (λ r. IfSome given (AreInitialisers 1024 r.cells))

-- ---- constant expressions

-- a constant expression of the file
abbrev pub IsConstantOf : List Top → ExpressionTree → Type 0
IsConstantOf ts e = IsConstantValue e × KindsAgree (record { tops = ts; slots = [] }) e

-- ---- enums

-- the value that is written, or one more than that of the constant before
abbrev pub HasNextValue : List Top → ℤ → EnumItem → Option Expression → Type 0
HasNextValue ts before x None = x.value ≡ before +ℤ pos 1
HasNextValue ts before x (Some e) = IsConstantOf ts (expression_tree e) × (constant_value (expression_tree e) ≡ Some x.value)

abbrev pub HaveValues : List Top → ℤ → List EnumItem → Type 0
HaveValues ts before [] = Unit {0}
HaveValues ts before (x ∷ xs) = HasNextValue ts before x x.given × IsInRange Int x.value × HaveValues ts x.value xs

-- ---- variables

pub record IsGlobal (ts : List Top) (g : GlobalVariable) (given : Option (List ExpressionTree)) : Type 0 where
  pub length : IsLength g.slot.cells
  pub values : IfSome given (AreInitialisers 65536 g.slot.cells)
  pub constant : IfSome given (Each (IsConstantOf ts))

-- ---- functions

pub record SameParameter (s r : Slot) : Type 0 where
  pub kind : s.kind ≡ r.kind
  pub array : is_some s.cells ≡ is_some r.cells
  pub constant : s.constant ≡ r.constant

abbrev pub SameParameters : List Slot → List Slot → Type 0
SameParameters [] [] = Unit {0}
SameParameters (s ∷ ss) (r ∷ rs) = SameParameter s r × SameParameters ss rs
SameParameters _ _ = ⊥

-- two declarations of one function agree, and one of them at most has a body
pub record Agree (f g : Function) : Type 0 where
  pub result : f.result ≡ g.result
  pub parameters : SameParameters (take f.params f.slots) (take g.params g.slots)
  pub single : (is_some f.body ≡ true) → is_some g.body ≡ false

abbrev pub AgreesWith : Function → Top → Type 0
AgreesWith f (T.Function g) = bytes_eq f.name g.name ≡ true → Agree f g
AgreesWith f _ = Unit {0}

-- each declaration with those behind it
abbrev pub DeclarationsAgree : List Top → Type 0
DeclarationsAgree [] = Unit {0}
DeclarationsAgree (T.Function f ∷ ts) = Each (AgreesWith f) ts × DeclarationsAgree ts
DeclarationsAgree (_ ∷ ts) = DeclarationsAgree ts

-- ---- main (5.1.2.2.1)

-- `int main(void)`, not static
pub record IsMainForm (f : Function) : Type 0 where
  pub result : f.result ≡ Some Int
  pub parameters : f.params ≡ 0
  pub public : f.file_only ≡ false

abbrev pub IsNotMain : List ℕ → Type 0
IsNotMain m = bytes_eq m (codes "main") ≡ false

abbrev pub AreNotMain : List EnumItem → Type 0
AreNotMain [] = Unit {0}
AreNotMain (x ∷ xs) = IsNotMain x.name × AreNotMain xs

-- nothing of file scope has the name `main` but a function of this form
abbrev pub MainIsFormed : Top → Type 0
MainIsFormed (T.Enum xs) = AreNotMain xs
MainIsFormed (T.Global g) = IsNotMain g.slot.name
MainIsFormed (T.Function f) = bytes_eq f.name (codes "main") ≡ true → IsMainForm f
MainIsFormed _ = Unit {0}
