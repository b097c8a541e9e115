-- A program as the meaning reads it: its functions and its variables of file scope, by their names.
use Rattle.std.specs.Prelude.{ℕ, zero, suc, ◌+◌, ℤ, pos, Bool, true, cond, ◌&&◌, List, [], ◌∷◌, map, Option, Some, None, option_map, is_some}
use Rattle.std.specs.Option.{option_map_or}
use Rattle.std.specs.Str.{bytes_eq}
use Rattle.c_types.specs.declared.kinds.IntKind.{IntKind}
use Rattle.c_types.specs.declared.kinds.IntKind.TheVariants.{Int}
use Rattle.c_types.specs.Numbers.{converted}
use Rattle.c_tree.specs.declared.tree.Slot.{Slot}
use Rattle.c_tree.specs.declared.tree.Function.{Function}
use Rattle.c_tree.specs.declared.tree.GlobalVariable.{GlobalVariable}
use Rattle.c_tree.specs.declared.tree.Top.{Top}
use Rattle.c_tree.specs.declared.tree.Top.TheVariants as T
use Rattle.c_tree.specs.declared.tree.Program.{Program}
use Rattle.c_tree.specs.ExpressionTrees.{ExpressionTree}
use Rattle.c_tree.specs.Constants.{constant_value}
use Rattle.c_tree.specs.Trees.{Forest, Nil, trees_of, expression_trees}
use Rattle.jump_meaning.specs.Values.{Variable, Holds}

-- a function: its kind, its slots, of which the first are the parameters, and its items, if it has a body (6.9.1)
pub record FunctionTree : Type 0 where
  pub result : Option IntKind
  pub params : ℕ
  pub slots : List Slot
  pub body : Option Forest

-- a whole program (6.9)
pub record Code : Type 0 where
  -- the function of each name
  pub functions : List ℕ → FunctionTree
  -- what the variable of each name holds at the start
  pub globals : List ℕ → Variable
  -- how many cells the arrays of file scope have
  pub cells : ℕ

-- the items of a function, none where it has no body
abbrev pub items_of : FunctionTree → Forest
items_of f = option_map_or (λ a. a) f.body Nil

-- the entry of a list at a place, or what stands for those past its end
abbrev pub entry_or : {A : Type 0} → A → List A → ℕ → A
entry_or a [] i = a
entry_or a (x ∷ xs) zero = x
entry_or a (x ∷ xs) (suc i) = entry_or a xs i

-- the cells of an array, none of a number and of an array parameter
abbrev pub cell_count : Slot → ℕ
cell_count s = option_map_or (λ n. n) s.cells 0

-- the cells of all arrays of the slots
abbrev pub cells_of : List Slot → ℕ
cells_of [] = 0
cells_of (s ∷ ss) = cell_count s + cells_of ss

-- ---- of a resolved program

-- a function of the tree, with its items as plain data
abbrev pub function_tree : Function → FunctionTree
function_tree f = record { result = f.result; params = f.params; slots = f.slots; body = option_map trees_of f.body }

-- a name that no function has
abbrev pub undeclared : FunctionTree
undeclared = record { result = None; params = 0; slots = []; body = None }

-- the first function of the name for which the test holds
abbrev pub function_in : (Function → Bool) → List ℕ → List Top → Option FunctionTree
function_in p m [] = None
function_in p m (T.Function f ∷ ts) = cond (bytes_eq f.name m && p f) (Some (function_tree f)) (function_in p m ts)
function_in p m (_ ∷ ts) = function_in p m ts

-- the first that is there, or else the last
abbrev pub first_of : {A : Type 0} → Option A → Option A → A → A
first_of (Some a) b c = a
first_of None (Some b) c = b
first_of None None c = c

-- the definition of the name, else its first declaration (6.2.2)
abbrev pub function_named : List ℕ → List Top → FunctionTree
function_named m ts = first_of (function_in (λ f. is_some f.body) m ts) (function_in (λ f. true) m ts) undeclared

-- the value of an initialiser of file scope
abbrev pub constant_or_zero : ExpressionTree → ℤ
constant_or_zero e = option_map_or (λ n. n) (constant_value e) (pos 0)

-- what a variable of file scope holds at the start: its initialisers, converted, then 0 (6.7.9)
abbrev pub initial_variable : GlobalVariable → Variable
initial_variable g =
    Holds g.slot.kind g.slot.cells (entry_or (pos 0)
    (option_map_or (λ es. map (λ e. converted g.slot.kind (constant_or_zero e)) (expression_trees es)) g.init []))

-- the variable of file scope of a name; no name of a resolved program is without one (6.2.1)
abbrev pub global_named : List ℕ → List Top → Variable
global_named m [] = Holds Int None (λ i. pos 0)
global_named m (T.Global g ∷ ts) = cond (bytes_eq g.slot.name m) (initial_variable g) (global_named m ts)
global_named m (_ ∷ ts) = global_named m ts

-- the cells of all arrays of file scope
abbrev pub global_cells : List Top → ℕ
global_cells [] = 0
global_cells (T.Global g ∷ ts) = cell_count g.slot + global_cells ts
global_cells (_ ∷ ts) = global_cells ts

-- a resolved program as the meaning reads it
abbrev pub code_of : Program → Code
code_of p = record { functions = λ m. function_named m p.tops; globals = λ m. global_named m p.tops; cells = global_cells p.tops }
