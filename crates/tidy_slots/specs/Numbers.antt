-- The new numbers of slots, by how many are gone before each.
use Rattle.std.specs.Prelude.{ℕ, ◌-◌, get_or}
use Rattle.tidy_slots.specs.declared.numbers.Numbers.{Numbers}

-- the number of a slot that is left
abbrev pub number : Numbers → ℕ → ℕ
number n x = x - get_or n.before x n.total
