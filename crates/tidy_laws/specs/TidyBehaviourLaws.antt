-- What `tidy_laws` states: changes keep the behaviour, by the structural meaning.
use Rattle.std.specs.Prelude.{ℕ, suc, ◌≡◌, ◌≤◌, ◌<◌, ◌⊎◌, ◌↔◌, ℤ, List, [], ◌∷◌, length, is_some, All, Contains}
use Rattle.c_tree.specs.declared.tree.Function.{Function}
use Rattle.c_tree.specs.declared.tree.Top.{Top}
use Rattle.c_tree.specs.declared.tree.Top.TheVariants as T
use Rattle.c_tree.specs.declared.tree.Program.{Program}
use Rattle.c_tree.specs.InRange.{body_of}
use Rattle.c_tree.specs.Trees.{Forest}
use Rattle.c_tree.specs.Everywhere.{Everywhere}
use Rattle.jump_meaning.specs.Code.{FunctionTree, Code, items_of, function_tree, code_of}
use Rattle.jump_meaning.specs.Behaviour.{AreSameRuns}
use Rattle.jump_meaning.specs.Runs.{IsEntry}
use Rattle.struct_meaning.specs.Runs.{structural_run, IsCodeStructured}
use Rattle.plain_laws.specs.Kinded.{KindedItem}
use Rattle.plain_laws.specs.Slotted.{HoldsInKind}
use Rattle.plain_laws.specs.Tidied.{tidy_code}
use Rattle.tidy_laws.specs.Changes.{changes_of, changed, changed_once}

-- a program whose kinds agree
pub record HasKinds (p : Code) : Type 0 where
  -- those of each item
  pub items : (m : List ℕ) → Everywhere (KindedItem p (p.functions m).slots) (items_of (p.functions m))
  -- each parameter is a slot
  pub parameters : (m : List ℕ) → (p.functions m).params ≤ length (p.functions m).slots
  -- a variable of file scope holds numbers of its kind
  pub numbers : (m : List ℕ) → HoldsInKind (p.globals m)

-- a function whose kinds agree
pub record FunctionHasKinds (p : Code) (f : Function) : Type 0 where
  pub items : Everywhere (KindedItem p f.slots) (body_of f)
  pub parameters : f.params ≤ length f.slots

-- what stands at file scope: a function whose kinds agree, or anything else
abbrev pub TopHasKinds : Code → Top → Type 0
TopHasKinds p (T.Function f) = FunctionHasKinds p f
TopHasKinds p _ = Unit {0}

-- a function as it was, or after a change that applies
abbrev pub IsChanged : FunctionTree → FunctionTree → Type 0
IsChanged f h = (h ≡ f) ⊎ ((c : ℕ × Forest) × Contains (changes_of f) c × (h ≡ changed f c))

-- a program of such functions
pub record IsChangedCode (p q : Code) : Type 0 where
  pub functions : (m : List ℕ) → IsChanged (p.functions m) (q.functions m)
  pub globals : q.globals ≡ p.globals
  pub cells : q.cells ≡ p.cells

-- a function of the same name, as it was or after a change that applies
pub record IsChangedFunction (f h : Function) : Type 0 where
  pub name : h.name ≡ f.name
  pub body : is_some h.body ≡ is_some f.body
  pub tree : IsChanged (function_tree f) (function_tree h)

-- what stands at file scope, where functions were changed
abbrev pub IsChangedTop : Top → Top → Type 0
IsChangedTop (T.Function f) (T.Function h) = IsChangedFunction f h
IsChangedTop (T.Function f) y = ⊥
IsChangedTop x y = y ≡ x

abbrev pub AreChangedTops : List Top → List Top → Type 0
AreChangedTops [] [] = Unit {0}
AreChangedTops (x ∷ xs) (y ∷ ys) = IsChangedTop x y × AreChangedTops xs ys
AreChangedTops _ _ = ⊥

-- both have the same entries, and the same structural runs from each, on each input and all answers
pub record BehaveAlike (p q : Code) : Type 0 where
  pub entries : (m : List ℕ) (arguments : List ℤ) → IsEntry p m arguments ↔ IsEntry q m arguments
  pub runs : (m : List ℕ) (arguments : List ℤ) → IsEntry p m arguments → (input : List ℕ) (answers : List ℤ)
      → AreSameRuns (structural_run p m arguments input answers) (structural_run q m arguments input answers)

pub record TidyLaws : Type 0 where
  -- the first change of a function is one that applies
  pub first : (f : FunctionTree) → IsChanged f (changed_once f)
  -- the kinds of a program agree where those of its functions do
  pub kinds : (p : Program) → All (TopHasKinds (code_of p)) p.tops → HasKinds (code_of p)
  -- and a program of which some functions are changed is such a one as the meaning reads it
  pub programs : (p q : Program) → AreChangedTops p.tops q.tops → IsChangedCode (code_of p) (code_of q)
  -- a change in each of some functions keeps the behaviour
  pub changes : (p q : Code) → HasKinds p → IsChangedCode p q → BehaveAlike p q
  -- so do n of them in a row, where kinds agree before each
  pub several : (n : ℕ) (p : ℕ → Code) → ((i : ℕ) → i < n → HasKinds (p i)) → ((i : ℕ) → i < n → IsChangedCode (p i) (p (suc i))) → BehaveAlike (p 0) (p n)
  -- and then the sections of switches may get their plain form
  pub sections : (n : ℕ) (p : ℕ → Code) → ((i : ℕ) → i < n → HasKinds (p i)) → ((i : ℕ) → i < n → IsChangedCode (p i) (p (suc i))) →
      IsCodeStructured (p n) → BehaveAlike (p 0) (tidy_code (p n))
