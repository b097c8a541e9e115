-- The next change of a part of a body: the first that applies, with its slot.
use Rattle.std.specs.Prelude.{ℕ, ◌-◌, List, [], ◌∷◌, length, filter, Option, Some, None, option_map}
use Rattle.c_tree.specs.Trees.{Tree, Forest, Nil, Then, Sections, NoSection, Section, expression_trees}
use Rattle.c_tree.specs.declared.tree.Section as Real
use Rattle.jump_meaning.specs.Code.{FunctionTree}
use Rattle.tidy_laws.specs.Changes.{changed_lists, changed_items, changed_sections}
use Rattle.tidy_loops.specs.Fits.{fits, item_fits, sections_fit}
use Rattle.tidy_loops.specs.Slots.{counts_of, break_slot, continue_slot, broken, continued, but_first}

-- the first of a list, if there is one
abbrev pub first : {A : Type 0} → List A → Option A
first [] = None
first (x ∷ xs) = Some x

abbrev pub or_else : {A : Type 0} → Option A → Option A → Option A
or_else None y = y
or_else (Some x) y = Some x

-- a change of a part, made in the whole
abbrev pub put : {A B : Type 0} → (A → B) → Option (ℕ × A) → Option (ℕ × B)
put f c = option_map (λ c. (c.0, f c.1)) c

-- the change of a slot
abbrev pub of_slot : {A : Type 0} → (ℕ → A) → Option ℕ → Option (ℕ × A)
of_slot make s = option_map (λ g. (g, make g)) s

-- of a list at this level
abbrev pub next_list : FunctionTree → ℕ → Forest → Option (ℕ × Forest)
next_list f n a = first (filter (fits f a) (changed_lists f.params (length f.slots - f.params) n a))

-- of an item whose lists stand at this level
abbrev pub next_item : FunctionTree → ℕ → Tree → Option (ℕ × Tree)
next_item f n x = first (filter (item_fits f x) (changed_items f.params (length f.slots - f.params) n x))

-- of sections whose lists stand at this level
abbrev pub next_sections : FunctionTree → ℕ → Sections → Option (ℕ × Sections)
next_sections f n c = first (filter (sections_fit f c) (changed_sections f.params (length f.slots - f.params) n c))

-- the slot of the change by `break` at the loop that a list begins with, and of that by `continue`
abbrev pub break_first : (ℕ → ℕ) → ℕ → Forest → Option ℕ
break_first c n Nil = None
break_first c n (Then x xs) = break_slot c n x xs

abbrev pub continue_first : (ℕ → ℕ) → ℕ → Forest → Option ℕ
continue_first c n Nil = None
continue_first c n (Then x xs) = continue_slot c n x

-- the list after it
abbrev pub broken_first : ℕ → Forest → Forest
broken_first g Nil = Nil
broken_first g (Then x xs) = Then (broken g x) (but_first xs)

abbrev pub continued_first : ℕ → Forest → Forest
continued_first g Nil = Nil
continued_first g (Then x xs) = Then (continued g x) xs

-- at the loop that a list begins with, whose body stands at this level
abbrev pub next_here : FunctionTree → ℕ → Forest → Option (ℕ × Forest)
next_here f n a = or_else (of_slot (λ g. broken_first g a) (break_first (counts_of f) n a))
    (of_slot (λ g. continued_first g a) (continue_first (counts_of f) n a))

-- at the first item of a list, or in it; its lists stand at this level
abbrev pub next_at : FunctionTree → ℕ → Forest → Option (ℕ × Forest)
next_at f n Nil = None
next_at f n (Then x xs) = or_else (next_here f n (Then x xs)) (put (λ y. Then y xs) (next_item f n x))

-- in the first of two lists, or else in the second
abbrev pub next_either : FunctionTree → ℕ → Forest → Forest → Option (ℕ × (Forest × Forest))
next_either f n a b = or_else (put (λ c. (c, b)) (next_list f n a)) (put (λ c. (a, c)) (next_list f n b))

-- a section with another list, before others
abbrev pub with_list : Forest → Real.Section → Sections → Sections
with_list b c d = let o = Real.out-Section c in Section (expression_trees o.cases) o.default b o.ends d

-- sections behind others
abbrev pub behind_sections : Sections → Sections → Sections
behind_sections NoSection d = d
behind_sections (Section cases default a ends c) d = Section cases default a ends (behind_sections c d)

-- what was changed to this, if a slot says so
abbrev pub changed_to : {A : Type 0} → Option ℕ → A → Option (ℕ × A)
changed_to s a = option_map (λ g. (g, a)) s
