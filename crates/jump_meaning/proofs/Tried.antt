-- Definitions tried on small values, by computation.
use Rattle.std.proofs.Common.{◌≡◌, [], ◌∷◌, false, pos, negsuc, Some, None, refl, codes}
use Rattle.std.specs.Fmt.{digits}
use Rattle.c_types.specs.declared.kinds.IntKind.TheVariants.{Char, Int}
use Rattle.c_types.specs.declared.trap.Trap.{Trap}
use Rattle.c_types.specs.Numbers.{converted}
use Rattle.c_tree.specs.declared.tree.Slot.{Slot}
use Rattle.c_tree.specs.declared.tree.Home.TheVariants as H
use Rattle.c_tree.specs.declared.tree.Function.{Function}
use Rattle.c_tree.specs.declared.tree.Top.TheVariants as T
use Rattle.c_tree.specs.declared.tree.Program.{Program}
use Rattle.c_tree.specs.Trees.{Nil, trees_of}
use Rattle.jump_meaning.specs.Values.{OfCall, Integer, Designates, Lends, Format}
use Rattle.jump_meaning.specs.Code.{FunctionTree, Code, undeclared, code_of}
use Rattle.jump_meaning.specs.World.{cells_held, World, Gives, Traps, load, store, cell, enter_call, world_at_start, zeros, no_slot}
use Rattle.jump_meaning.specs.Known.{printed_bytes}

-- "%d|%u|%x|%c|%ld|%%"
printf_text : printed_bytes (Format (codes "%d|%u|%x|%c|%ld|%%") ∷ Integer (negsuc 4) ∷ Integer (negsuc 0) ∷ Integer (pos 255) ∷ Integer
    (pos 65) ∷ Integer (pos 7) ∷ []) ≡ codes "-5|4294967295|ff|A|7|%"
unfolding converted digits
printf_text = refl

abbrev array_slot : Slot
array_slot = record { name = codes "a"; kind = Char; cells = Some 3; constant = false }

abbrev small : FunctionTree
small = record { result = Some Int; params = 0; slots = array_slot ∷ no_slot ∷ []; body = None }

abbrev empty : Code
empty = record { functions = λ m. undeclared; globals = λ m. zeros no_slot; cells = 0 }

abbrev first : World
first = enter_call small [] (world_at_start empty [] [])

-- a[2] = 200 in an array of chars, read again
stored : load (Designates (OfCall 1 0) 2) (store (Designates (OfCall 1 0) 2) (pos 200) first) ≡ negsuc 55
unfolding converted
stored = refl

-- the cell beside it
kept : load (Designates (OfCall 1 0) 1) (store (Designates (OfCall 1 0) 2) (pos 200) first) ≡ pos 0
unfolding converted
kept = refl

outside : cell (H.Slot 0) (pos 3) first ≡ Traps Trap.Index first
outside = refl

-- an array that a call lends to the next, written there
abbrev lent_slot : Slot
lent_slot = record { name = codes "b"; kind = Char; cells = Some 0; constant = false }

abbrev second : World
second = enter_call (record { result = None; params = 1; slots = lent_slot ∷ []; body = None }) (Lends (OfCall 1 0) ∷ []) first

lent : cell (H.Slot 0) (pos 2) second ≡ Gives (Designates (OfCall 1 0) 2) second
lent = refl

-- ---- a resolved program as code: `int f(); char a[5]; int f(void) { }`

abbrev declaration : Function
declaration = record { name = codes "f"; result = Some Int; file_only = false; params = 0; slots = []; labels = []; body = None; flat = false }

abbrev file : Program
file = record {
  tops = T.Function declaration
      ∷ T.Global (record { slot = record array_slot { cells = Some 5 }; init = None; file_only = false })
      ∷ T.Function (record declaration { body = Some [] })
      ∷ [];
}

-- the definition counts, wherever the declaration stands
defined : ((code_of file).functions (codes "f")).body ≡ Some Nil
unfolding trees_of
defined = refl

-- another name has no function
unknown : (code_of file).functions (codes "g") ≡ undeclared
unknown = refl

global_start : cells_held ((code_of file).globals (codes "a")) ≡ 5
global_start = refl

global_count : (code_of file).cells ≡ 5
global_count = refl
