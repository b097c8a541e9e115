-- The functions of a program in a table that is made once.
use Rattle.std.specs.Prelude.{ℕ, ◌≡◌, Bool, false, not, ◌||◌, List, [], ◌∷◌, ◌++◌, Option, Some, None, is_some}
use Rattle.std.specs.BTreeMap.{get_by}
use Rattle.std.specs.Cmp.Lexicographic.{slice_cmp}
use Rattle.std.specs.Ordering.{nat_cmp}
use Rattle.c_tree.specs.declared.tree.Function.{Function}
use Rattle.c_tree.specs.declared.tree.Program.{Program}
use Rattle.c_tree.specs.declared.tree.Top.{Top}
use Rattle.c_tree.specs.declared.tree.Top.TheVariants as T
use Rattle.jump_meaning.specs.Code.{function_named}
use Rattle.step_tasks.specs.Labels.{AreLabelsOf}
use Rattle.step_interp.specs.declared.functions.Functions.{Functions}
use Rattle.step_interp.specs.declared.functions.Routine.{Routine}

-- the function of a name
abbrev pub routine_at : Functions → List ℕ → Option Routine
routine_at t m = get_by (λ k. slice_cmp nat_cmp m k.now) t.routines

-- the function has the name, and the labels are its own
pub record IsRoutineOf (m : List ℕ) (r : Routine) : Type 0 where
  pub named : r.function.now.name ≡ m
  pub labels : AreLabelsOf r.function.now r.labels

-- it has a body, or the one that follows has none
abbrev pub stays : Function → Function → Bool
stays f g = is_some f.body || not (is_some g.body)

abbrev pub stays_before : Option Routine → Function → Bool
stays_before None g = false
stays_before (Some r) g = stays r.function.now g

abbrev pub keeps : Functions → Function → Bool
keeps t g = stays_before (routine_at t g.name) g

-- a function as a declaration of the file
abbrev pub as_top : Option Routine → List Top
as_top None = []
as_top (Some r) = T.Function r.function.now ∷ []

-- each function of the file is that of the table, or is declared by what is left
pub record HasFunctions (tops left : List Top) (t : Functions) : Type 0 where
  pub same : (m : List ℕ) → function_named m (as_top (routine_at t m) ++ left) ≡ function_named m tops
  pub routines : (m : List ℕ) (r : Routine) → routine_at t m ≡ Some r → IsRoutineOf m r

-- a declaration is the next one
abbrev pub AddsTop : Top → Functions → Functions → Type 0
AddsTop t old new = (tops left : List Top) → HasFunctions tops (t ∷ left) old → HasFunctions tops left new

abbrev pub AddsFunction : Function → Functions → Functions → Type 0
AddsFunction f old new = AddsTop (T.Function f) old new

abbrev pub IsEmpty : Functions → Type 0
IsEmpty t = (m : List ℕ) → routine_at t m ≡ None

abbrev pub AreFunctionsOf : Program → Functions → Type 0
AreFunctionsOf p t = HasFunctions p.tops [] t
