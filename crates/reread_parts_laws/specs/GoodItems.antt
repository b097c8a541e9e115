-- Items of a resolved function, by what reading their text needs at each place.
use Rattle.std.specs.Prelude.{◌≡◌, ◌<◌, ◌⊎◌, IsTrue, length, ℕ, ◌+◌, suc, true, ◌||◌, List, Option, Some, None, is_some, IfSome, IsSomeAnd, slice_get}
use Rattle.c_tree.specs.declared.tree.Slot.{Slot}
use Rattle.c_tree.specs.declared.tree.Home.TheVariants as H
use Rattle.c_tree.specs.declared.tree.Function.{Function}
use Rattle.c_tree.specs.ExpressionTrees.{ExpressionTree}
use Rattle.c_tree.specs.TestTrees.{TestTree, Source, SelectorTree, Selects}
use Rattle.c_tree.specs.Trees.{Tree, Forest, Nil, Then, Sections, NoSection, Section}
use Rattle.c_tree.specs.Trees as t
use Rattle.c_tree.specs.Constants.{kind_of, HasKind}
use Rattle.c_tree.specs.TextItems.{label_name}
use Rattle.c_kinds.specs.Scopes.{found}
use Rattle.c_statements.specs.Context.{Context, Around, in_loop, in_switch}
use Rattle.c_resolved_defs.specs.Names.{Names}
use Rattle.c_resolved_defs.specs.Scopes.{Scope, AVariable, IsNew, bind, behind, behind_all, inside}
use Rattle.c_resolved_defs.specs.Within.{Each}
use Rattle.c_resolved_defs.specs.Form.{ends_with_break, IsKept}
use Rattle.c_resolved_defs.specs.Switches.{IsConstantValue, HasCases}
use Rattle.c_resolved_defs.specs.Files.{IsLength, AreInitialisers}
use Rattle.c_resolved_defs.specs.PrintableExpressions.{IsName}
use Rattle.c_resolved_defs.specs.PrintableStatements.{DeclaratorPrints}
use Rattle.c_resolved_defs.specs.Verbatims.{IsComment}
use Rattle.reread_parts_laws.specs.Places.{IsExpressionOf}

-- an expression of which the value is used
pub record IsValueOf (n : Names) (ss : List Scope) (x : ExpressionTree) : Type 0 where
  pub good : IsExpressionOf n ss x
  pub kind : HasKind (kind_of x)

-- ---- variables

-- the scopes behind the name of slot k
abbrev pub with_slot : ℕ → Slot → List Scope → List Scope
with_slot k s ss = bind s.name (AVariable (H.Slot k)) ss

-- a variable of a resolved function, which prints
pub record IsVariable (n : Names) (ss : List Scope) (k : ℕ) (s : Slot) (given : Option (List ExpressionTree)) : Type 0 where
  pub slot_is : slice_get n.slots k ≡ Some s
  pub prints : DeclaratorPrints n.slots s given
  pub length : IsLength s.cells
  pub fits : IfSome given (AreInitialisers 1024 s.cells)
  pub new : IsNew s.name ss
  pub values : IfSome given (Each (IsValueOf n (with_slot k s ss)))

-- how many slots are declared in a list
abbrev mutual
  pub slots_in : Forest → ℕ
  slots_in Nil = 0
  slots_in (Then x xs) = slots_of x + slots_in xs

  pub slots_of : Tree → ℕ
  slots_of (t.If c a b) = slots_in a + slots_in b
  slots_of (t.While c a) = slots_in a
  slots_of (t.Do a c) = slots_in a
  slots_of (t.For first c u a) = slots_in first + slots_in a
  slots_of (t.Switch s c) = slots_within c
  slots_of (t.Block a) = slots_in a
  slots_of (t.Local k given) = 1
  slots_of _ = 0

  pub slots_within : Sections → ℕ
  slots_within NoSection = 0
  slots_within (Section cases default a ends c) = slots_in a + slots_within c

-- ---- items, at a place: the scopes around it, the slots that are declared before it, and the constructs around it

module _ (n : Names) (f : Function) (ctx : Context) where
  abbrev pub IsTest : List Scope → TestTree → Type 0
  IsTest ss (Source e) = IsValueOf n ss e
  IsTest ss _ = ⊥

  -- a value where the function gives one
  abbrev pub IsReturned : List Scope → Option ExpressionTree → Type 0
  IsReturned ss None = ctx.result ≡ None
  IsReturned ss (Some e) = IsValueOf n ss e × (is_some ctx.result ≡ true)

  -- further variables of one declaration, of the kind and const of a slot
  abbrev pub AreFurther : List Scope → ℕ → Slot → Forest → Type 0
  AreFurther ss k s Nil = Unit {0}
  AreFurther ss k s (Then (t.Local j given) xs) =
      (j ≡ k) × IsSomeAnd (slice_get n.slots k) (λ r. IsVariable n ss k r given × (r.kind ≡ s.kind) × (r.constant ≡ s.constant) ×
      AreFurther (with_slot k r ss) (suc k) s xs)
  AreFurther ss k s _ = ⊥

  -- the first part of a `for`
  abbrev pub IsStart : List Scope → ℕ → Forest → Type 0
  IsStart ss k Nil = Unit {0}
  IsStart ss k (Then (t.Evaluate e) Nil) = IsExpressionOf n ss e
  IsStart ss k (Then (t.Local j given) xs) = (j ≡ k) × IsSomeAnd (slice_get n.slots k)
      (λ s. IsVariable n ss k s given × AreFurther (with_slot k s ss) (suc k) s xs)
  IsStart ss k _ = ⊥

  -- a label of the function, by its number
  pub record IsLabel (l : ℕ) : Type 0 where
    pub name : IsName (label_name f l)
    pub number : found (label_name f l) ctx.labels ≡ Some l

  -- the constant of a case label (6.8.4.2)
  pub record IsCase (ss : List Scope) (e : ExpressionTree) : Type 0 where
    pub good : IsExpressionOf n ss e
    pub constant : IsConstantValue e

  abbrev pub IsSelector : List Scope → SelectorTree → Type 0
  IsSelector ss (Selects e) = IsValueOf n ss e
  IsSelector ss _ = ⊥

  abbrev mutual
    pub IsGood : List Scope → ℕ → Around → Tree → Type 0
    IsGood ss k around (t.Evaluate e) = IsExpressionOf n ss e
    IsGood ss k around (t.Return e) = IsReturned ss e
    IsGood ss k around (t.If c a b) = IsTest ss c × AreGood (inside ss) k around a × AreGood (inside ss) (k + slots_in a) around b
    IsGood ss k around (t.While c a) = IsTest ss c × AreGood (inside ss) k (in_loop around) a
    IsGood ss k around (t.Do a c) = AreGood (inside ss) k (in_loop around) a × IsTest ss c
    IsGood ss k around (t.For first c u a) =
        let rs = behind_all n.slots (inside ss) first in
        IsStart (inside ss) k first × IfSome c (IsValueOf n rs) × IfSome u (IsExpressionOf n rs) × AreGood (inside rs) (k + slots_in first) (in_loop around) a
    IsGood ss k around (t.Block a) = AreGood (inside ss) k around a
    IsGood ss k around (t.Local j given) = (j ≡ k) × IsSomeAnd (slice_get n.slots k) (λ s. IsVariable n ss k s given)
    IsGood ss k around t.Break = (around.loop || around.switch) ≡ true
    IsGood ss k around t.Continue = around.loop ≡ true
    IsGood ss k around (t.Goto l) = IsLabel l
    IsGood ss k around (t.Mark l) = IsLabel l
    IsGood ss k around (t.Note bytes) = IsComment bytes
    IsGood ss k around (t.Switch s c) = IsSelector ss s × HasCases (t.Switch s c) × SectionsAreGood (inside ss) k (in_switch around) c
    -- what the rewriting makes
    IsGood ss k around _ = ⊥

    pub AreGood : List Scope → ℕ → Around → Forest → Type 0
    AreGood ss k around Nil = Unit {0}
    AreGood ss k around (Then x xs) = IsGood ss k around x × AreGood (behind n.slots ss x) (k + slots_of x) around xs

    -- the sections of a switch: each has a label, a `break` at its end is its end, and one that gives its cases on is the last
    pub SectionsAreGood : List Scope → ℕ → Around → Sections → Type 0
    SectionsAreGood ss k around NoSection = Unit {0}
    SectionsAreGood ss k around (Section cases default a ends c) =
        Each (IsCase ss) cases × ((0 < length cases) ⊎ IsTrue default) × AreGood ss k around a × (ends_with_break a ≡ true → ends ≡ true) × IsKept a ends c
        × SectionsAreGood (behind_all n.slots ss a) (k + slots_in a) around c
