-- The change at a loop, as it is told before it is made.
use Rattle.std.specs.Prelude.{ℕ, Bool, true, false, Option, None, option_map}
use Rattle.c_tree.specs.Trees.{Tree, Forest, Nil, Then}
use Rattle.tidy_loops.specs.Slots.{break_slot, continue_slot, broken, continued}
use Rattle.break_recovery.specs.Next.{or_else, broken_first, continued_first}
use Rattle.break_recovery.specs.declared.here.Change.{Change}
use Rattle.break_recovery.specs.declared.here.Change.TheVariants as V

abbrev pub slot_of : Change → ℕ
slot_of (V.Break g) = g
slot_of (V.Continue g) = g

-- whether the item behind the loop stays
abbrev pub keeps_next : Change → Bool
keeps_next (V.Break g) = false
keeps_next (V.Continue g) = true

-- the change by `continue` at an item
abbrev pub continue_there : (ℕ → ℕ) → ℕ → Tree → Option Change
continue_there c n x = option_map V.Continue (continue_slot c n x)

-- the change at an item before these
abbrev pub change_there : (ℕ → ℕ) → ℕ → Tree → Forest → Option Change
change_there c n x xs = or_else (option_map V.Break (break_slot c n x xs)) (continue_there c n x)

-- at the first item of a list
abbrev pub change_first : (ℕ → ℕ) → ℕ → Forest → Option Change
change_first c n Nil = None
change_first c n (Then x xs) = change_there c n x xs

-- what the loop becomes
abbrev pub loop_after : Change → Tree → Tree
loop_after (V.Break g) x = broken g x
loop_after (V.Continue g) x = continued g x

-- what the list becomes that begins with it
abbrev pub list_after : Change → Forest → Forest
list_after (V.Break g) a = broken_first g a
list_after (V.Continue g) a = continued_first g a
