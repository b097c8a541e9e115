-- What a call leaves with its caller, and how local variables get their initialisers.
use Rattle.std.specs.Prelude.{ℕ, zero, suc, pos, Bool, true, false, cond, not, ◌&&◌, List, [], ◌∷◌, codes, Some, None, is_some}
use Rattle.std.specs.Option.{option_map_or}
use Rattle.std.specs.Str.{bytes_eq}
use Rattle.c_types.specs.declared.trap.Trap.{Trap}
use Rattle.c_tree.specs.declared.tree.Home.TheVariants as H
use Rattle.jump_meaning.specs.Values.{OfCall, Variable, Holds, Lent, Value, Integer, Designates, Missing, integer}
use Rattle.jump_meaning.specs.Code.{FunctionTree}
use Rattle.jump_meaning.specs.World.{World, Outcome, Gives, Traps, Exits, pop, owner}
use Rattle.jump_meaning.specs.Operations.{converted_value}

-- the last n of the values pending, in the order in which they came, before those that are taken already
abbrev pub last_values : ℕ → List Value → List Value → List Value
last_values zero vs v = vs
last_values (suc n) vs [] = vs
last_values (suc n) vs (x ∷ v) = last_values n (x ∷ vs) v

-- the arguments of a call that takes n of the values pending
abbrev pub arguments_taken : ℕ → List Value → List Value
arguments_taken n v = last_values n [] v

-- the values pending without the last n
abbrev pub without_last : ℕ → List Value → List Value
without_last zero v = v
without_last (suc n) [] = []
without_last (suc n) (x ∷ v) = without_last n v

-- ---- the end of a call (6.8.6.4, 6.9.1)

-- the value that `return` gives, converted to the kind of the function
abbrev pub returned : FunctionTree → Value → Value
returned f v = option_map_or (λ k. converted_value k v) f.result Missing

-- the value of a function that ends without one: 0 of `main` (5.1.2.2.3), else none
abbrev pub fallen : List ℕ → Value
fallen m = cond (bytes_eq m (codes "main")) (Integer (pos 0)) Missing

-- whether there is no value
abbrev pub is_missing : Value → Bool
is_missing Missing = true
is_missing _ = false

-- whether the value is missing that the function should give
abbrev pub lacks : FunctionTree → Value → Bool
lacks f v = is_missing v && is_some f.result

-- the call is over, and its value is left with the caller; a value that is missing may only be dropped (this profile)
abbrev pub leave_call : Bool → FunctionTree → Value → World → Outcome
leave_call dropped f v w = cond (lacks f v && not dropped) (Traps Trap.NoValue w) (Gives v (pop f w))

-- the first call is over, and the run ends with its value, with 0 after a void function (this profile)
abbrev pub leave_entry : FunctionTree → Value → World → Outcome
leave_entry f v w = cond (lacks f v) (Traps Trap.NoValue w) (Exits (integer v) w)

-- ---- initialisers of local variables (6.7.9)

-- cell i of slot x
abbrev pub slot_cell : ℕ → ℕ → World → Value
slot_cell x i w = Designates (owner (H.Slot x) w) i

-- whether a variable is an array, one of its own or a lent one
abbrev pub is_array : Variable → Bool
is_array (Holds k None cells) = false
is_array (Holds k (Some n) cells) = true
is_array (Lent o) = true

-- whether slot x is an array
abbrev pub is_array_slot : ℕ → World → Bool
is_array_slot x w = is_array (w.variables (OfCall w.calls x))
