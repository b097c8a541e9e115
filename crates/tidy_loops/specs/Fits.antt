-- Which of the changes of a part of a body apply, told by how often it names the slot.
use Rattle.std.specs.Prelude.{ℕ, suc, ◌+◌, Bool, eqb, ◌&&◌}
use Rattle.c_tree.specs.Trees.{Tree, Forest, Sections}
use Rattle.jump_meaning.specs.Code.{FunctionTree, items_of, entry_or}
use Rattle.jump_meaning.specs.World.{no_slot}
use Rattle.tidy_laws.specs.Changes.{is_flag, declares}
use Rattle.tidy_slots.specs.Counts.{list_count, item_count, sections_count}

-- a variable that may go, declared by `int g = 0;` in the outermost list
abbrev pub is_declared_flag : FunctionTree → ℕ → Bool
is_declared_flag f g = is_flag (entry_or no_slot f.slots g) && declares g (items_of f)

-- with so much of it less, the body names the slot only where it declares it
abbrev pub leaves_one : FunctionTree → ℕ → ℕ → ℕ → Bool
leaves_one f g before after = eqb (list_count g (items_of f) + after) (suc before)

-- of a list of the body
abbrev pub fits : FunctionTree → Forest → ℕ × Forest → Bool
fits f a c = is_declared_flag f c.0 && leaves_one f c.0 (list_count c.0 a) (list_count c.0 c.1)

-- of an item
abbrev pub item_fits : FunctionTree → Tree → ℕ × Tree → Bool
item_fits f x c = is_declared_flag f c.0 && leaves_one f c.0 (item_count c.0 x) (item_count c.0 c.1)

-- of sections
abbrev pub sections_fit : FunctionTree → Sections → ℕ × Sections → Bool
sections_fit f s c = is_declared_flag f c.0 && leaves_one f c.0 (sections_count c.0 s) (sections_count c.0 c.1)
