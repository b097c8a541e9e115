-- Lists that are not all that names a slot that counts: each such slot is declared in the outermost list of the body.
use Rattle.std.specs.Prelude.{ℕ, ◌<◌, ◌≡◌, ◌⊎◌}
use Rattle.c_tree.specs.Trees.{Tree, Forest, Nil, Then, Sections, NoSection, Section, If, While, Do, For, Switch, Block}
use Rattle.tidy_slots.specs.Counts.{list_count}
use Rattle.tidy_loops.specs.Remaining.{IsApart}

-- c counts each slot that counts more often than the list names it
abbrev pub IsWithin : (ℕ → ℕ) → Forest → Type 0
IsWithin c a = (g : ℕ) → (c g ≡ 0) ⊎ (list_count g a < c g)

-- more often than each list of these sections
abbrev pub AreSectionsWithin : (ℕ → ℕ) → Sections → Type 0
AreSectionsWithin c NoSection = Unit {0}
AreSectionsWithin c (Section cases default a ends d) = IsWithin c a × AreSectionsWithin c d

-- than each list of an item
abbrev pub AreWithin : (ℕ → ℕ) → Tree → Type 0
AreWithin c (If t a b) = IsWithin c a × IsWithin c b
AreWithin c (While t a) = IsWithin c a
AreWithin c (Do a t) = IsWithin c a
AreWithin c (For f t u a) = IsWithin c f × IsWithin c a
AreWithin c (Switch s d) = AreSectionsWithin c d
AreWithin c (Block a) = IsWithin c a
AreWithin c x = Unit {0}

-- than each item of a list with the `g = 0;` right behind it
abbrev pub AreApart : (ℕ → ℕ) → Forest → Type 0
AreApart c Nil = Unit {0}
AreApart c (Then x xs) = IsApart c x xs × AreApart c xs
