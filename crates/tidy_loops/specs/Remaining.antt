-- What is left of the mentions of a slot behind a part of a loop, and where the slots of a loop are named elsewhere too.
use Rattle.std.specs.Prelude.{ℕ, ◌+◌, ◌<◌, ◌≡◌, ◌⊎◌, Bool, false, cond, Option, Some, None}
use Rattle.c_tree.specs.Trees.{Tree, Forest, Nil, While, Do, For}
use Rattle.tidy_laws.specs.Changes.{is_declaration}
use Rattle.tidy_slots.specs.Counts.{one_if, item_count}
use Rattle.tidy_loops.specs.Views.{is_it}
use Rattle.tidy_loops.specs.Exits.{checks_in, checks_of, exits_in, exits_of}
use Rattle.tidy_loops.specs.Slots.{first_reset}

-- the checks in a list, and where it is at a tail its sets at a tail too
abbrev pub exits_within : Bool → ℕ → Forest → ℕ
exits_within tail g a = cond tail (exits_in g a) (checks_in g a)

-- in an item
abbrev pub item_exits : Bool → ℕ → Tree → ℕ
item_exits tail g x = cond tail (exits_of g x) (checks_of g x)

-- of so many mentions, those that are left behind a part with so many exits and mentions; none where one of these is no exit
abbrev pub IsLeft : ℕ → ℕ → ℕ → Option ℕ → Type 0
IsLeft sofar exits mentions None = exits < mentions
IsLeft sofar exits mentions (Some n) = (exits ≡ mentions) × (n + mentions ≡ sofar)

-- a loop before these items, and the `g = 0;` right behind it, are not all that names a slot that counts
abbrev pub IsApart : (ℕ → ℕ) → Tree → Forest → Type 0
IsApart c x xs = (g : ℕ) → is_declaration g x ≡ false → (c g ≡ 0) ⊎ (item_count g x + one_if (is_it g (first_reset xs)) < c g)

-- the body of a loop
abbrev pub loop_list : Tree → Forest
loop_list (While t a) = a
loop_list (Do a t) = a
loop_list (For f t u a) = a
loop_list _ = Nil
