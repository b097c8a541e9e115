-- A program whose guards are turned back into `break` and `continue`, one change after another, until none applies. Each
-- change is the first that applies in the first function that has one, so the first of the file, in text order.
use Rattle.std.specs.Prelude.{ℕ, zero, suc, ◌+◌, ◌≡◌, ◌⊎◌, List, [], ◌∷◌, length, All}
use Rattle.c_tree.specs.declared.tree.Function.{Function}
use Rattle.c_tree.specs.declared.tree.Top.{Top}
use Rattle.c_tree.specs.declared.tree.Top.TheVariants as T
use Rattle.c_tree.specs.declared.tree.Program.{Program}
use Rattle.c_tree.specs.Trees.{Forest}
use Rattle.jump_meaning.specs.Code.{function_tree}
use Rattle.plain_laws.specs.Plain.{plain_with}
use Rattle.tidy_laws.specs.Changes.{changes_of, changed}

-- ---- one change

-- a function after its first change: all but its variables and its items stays
pub record IsChangedFirst (f h : Function) : Type 0 where
  pub kept : h ≡ record f { slots = h.slots; body = h.body }
  pub first : ℕ × Forest
  pub later : List (ℕ × Forest)
  pub changes : changes_of (function_tree f) ≡ first ∷ later
  pub tree : function_tree h ≡ changed (function_tree f) first

abbrev pub TopIsChangedFirst : Top → Top → Type 0
TopIsChangedFirst (T.Function f) (T.Function h) = IsChangedFirst f h
TopIsChangedFirst _ _ = ⊥

-- to what stands at file scope no change applies
abbrev pub TopIsSettled : Top → Type 0
TopIsSettled (T.Function f) = changes_of (function_tree f) ≡ []
TopIsSettled _ = Unit {0}

-- the first function to which a change applies has its first one, and all else stays
abbrev pub AreChangedFirst : List Top → List Top → Type 0
AreChangedFirst (x ∷ xs) (y ∷ ys) = (TopIsChangedFirst x y × (ys ≡ xs)) ⊎ (TopIsSettled x × (y ≡ x) × AreChangedFirst xs ys)
AreChangedFirst _ _ = ⊥

-- ---- one after another

-- after n changes, one after another
abbrev pub AreChangedTimes : ℕ → List Top → List Top → Type 0
AreChangedTimes zero ts us = us ≡ ts
AreChangedTimes (suc n) ts us = (vs : List Top) × AreChangedFirst ts vs × AreChangedTimes n vs us

-- a program without jumps, in which the sections of each switch have their plain form
abbrev pub with_sections : Program → Program
with_sections p = plain_with (λ f. f.labels) p

-- q is the end of p: n changes are made, none applies any more, and then sections get their plain form
pub record IsTidied (p : Program) (n : ℕ) (q : Program) : Type 0 where
  pub last : Program
  pub changes : AreChangedTimes n p.tops last.tops
  pub settled : All TopIsSettled last.tops
  pub sections : q ≡ with_sections last

-- ---- the variables of a program

abbrev pub variables_in : Top → ℕ
variables_in (T.Function f) = length f.slots
variables_in _ = 0

abbrev pub variables : List Top → ℕ
variables [] = 0
variables (t ∷ ts) = variables_in t + variables ts
