-- What the names of a program stand for: the variables and functions of the file, and the slots of a function
-- (ISO/IEC 9899:2011, 6.2.2, 6.9 and 7).
use Rattle.std.specs.Prelude.{ℕ, Bool, true, false, cond, ◌&&◌, List, [], ◌∷◌, codes, take, is_some, Option, Some, None, slice_get}
use Rattle.std.specs.Option.{option_or}
use Rattle.std.specs.Str.{bytes_eq}
use Rattle.c_types.specs.declared.kinds.IntKind.{IntKind}
use Rattle.c_types.specs.declared.kinds.IntKind.TheVariants.{Int}
use Rattle.c_tree.specs.declared.tree.Slot.{Slot}
use Rattle.c_tree.specs.declared.tree.Home.{Home}
use Rattle.c_tree.specs.declared.tree.Home.TheVariants as H
use Rattle.c_tree.specs.declared.tree.Function.{Function}
use Rattle.c_tree.specs.declared.tree.Top.{Top}
use Rattle.c_tree.specs.declared.tree.Top.TheVariants as T
use Rattle.c_tree.specs.ExpressionTrees.{PlaceTree, Var, Cell}

-- ---- of the file

-- the first function of the name for which the test holds
abbrev pub first_function : (Function → Bool) → List ℕ → List Top → Option Function
first_function p m [] = None
first_function p m (T.Function f ∷ ts) = cond (bytes_eq f.name m && p f) (Some f) (first_function p m ts)
first_function p m (_ ∷ ts) = first_function p m ts

-- the definition of the name, else its first declaration
abbrev pub the_function : List ℕ → List Top → Option Function
the_function m ts = option_or (first_function (λ f. is_some f.body) m ts) (first_function (λ f. true) m ts)

-- the variable of the name
abbrev pub the_global : List ℕ → List Top → Option Slot
the_global m [] = None
the_global m (T.Global g ∷ ts) = cond (bytes_eq g.slot.name m) (Some g.slot) (the_global m ts)
the_global m (_ ∷ ts) = the_global m ts

-- ---- of a function

pub record Names : Type 0 where
  pub tops : List Top
  pub slots : List Slot

-- the variable that a name stands for
abbrev pub variable : Names → Home → Option Slot
variable n (H.Slot x) = slice_get n.slots x
variable n (H.Global m) = the_global m n.tops

-- the variable of a place
abbrev pub home_of : PlaceTree → Home
home_of (Var h) = h
home_of (Cell h a) = h

-- ---- of calls

-- what a call gives and takes, and whether the function has a body in the file
pub record Signature : Type 0 where
  pub result : Option IntKind
  pub parameters : List Slot
  pub defined : Bool

abbrev pub signature : Function → Signature
signature f = record { result = f.result; parameters = take f.params f.slots; defined = is_some f.body }

-- what is called: a function with a signature, `printf`, or nothing that there is
pub data Callee : Type 0 where
  Plain : Signature → Callee
  Printf : Callee
  Unknown : Callee

-- a function of the library
abbrev pub library : Option IntKind → List Slot → Callee
library result parameters = Plain (record { result = result; parameters = parameters; defined = false })

abbrev pub an_int : Slot
an_int = record { name = []; kind = Int; cells = None; constant = false }

abbrev pub known : List ℕ → Callee
known m =
    cond (bytes_eq m (codes "getchar")) (library (Some Int) [])
    (cond (bytes_eq m (codes "putchar")) (library (Some Int) (an_int ∷ []))
    (cond (bytes_eq m (codes "printf")) Printf
    (cond (bytes_eq m (codes "exit")) (library None (an_int ∷ []))
    (cond (bytes_eq m (codes "abort")) (library None []) Unknown))))

abbrev pub declared_or : Callee → Option Function → Callee
declared_or c (Some f) = Plain (signature f)
declared_or c None = c

abbrev pub callee : Names → List ℕ → Callee
callee n m = declared_or (known m) (the_function m n.tops)
