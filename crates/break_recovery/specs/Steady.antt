-- Changes that leave all other slots that count as they are, or name them otherwise than in exits: then nothing round the loop
-- allows a change that it didn't allow before.
use Rattle.std.specs.Prelude.{ℕ, List, [], ◌∷◌, ◌++◌, ◌≡◌, ◌<◌, ◌≤◌, ◌⊎◌, Bool, true, false, not, cond, ◌&&◌, ◌||◌, eqb, is_some, Option, Some, None}
use Rattle.std.specs.List.{list_any}
use Rattle.c_tree.specs.ExpressionTrees.{ExpressionTree, PlaceTree, Typed, Assign}
use Rattle.c_tree.specs.TestTrees.{TestTree, Source}
use Rattle.c_tree.specs.Trees.{Tree, Forest, Nil, Then, Sections, NoSection, Section, Evaluate, If, While, Do, For, Switch, Block}
use Rattle.jump_meaning.specs.Code.{FunctionTree}
use Rattle.tidy_laws.specs.Tails.{is_check, is_end}
use Rattle.tidy_laws.specs.Mentions.{list_lacks}
use Rattle.tidy_laws.specs.Changes.{are_low, is_low}
use Rattle.tidy_slots.specs.Counts.{list_count, item_count, sections_count}
use Rattle.tidy_loops.specs.Views.{place_slot, off_slot, is_it}
use Rattle.tidy_loops.specs.Exits.{checks_in, checks_of, checks_within, exits_in, exits_of}
use Rattle.tidy_loops.specs.Slots.{Tells, count_in, counts_of, reset_slot, last_reset, but_last}
use Rattle.tidy_loops.specs.Remaining.{IsApart}
use Rattle.break_recovery.specs.Next.{next_here}
use Rattle.break_recovery.specs.Places.{Fewer}
use Rattle.break_recovery.specs.declared.steady.Turned.{Turned}

-- ---- which checks of other slots a change makes or takes

abbrev pub no_slot : Turned
no_slot = record { slots = []; any = false }

abbrev pub any_slot : Turned
any_slot = record { slots = []; any = true }

abbrev pub one_of : Option ℕ → Turned
one_of None = no_slot
one_of (Some x) = record { slots = x ∷ []; any = false }

-- those of two parts
abbrev pub both : Turned → Turned → Turned
both a b = record { slots = a.slots ++ b.slots; any = a.any || b.any }

-- whether they may be checks of this slot
abbrev pub is_turned : ℕ → Turned → Bool
is_turned h t = t.any || list_any (λ x. eqb x h) t.slots

-- a set of the slot at this place to `!x` becomes the check `if (!x) { jump }`
abbrev pub assigned : ℕ → PlaceTree → ExpressionTree → Turned
assigned g p e = cond (is_it g (place_slot p)) (one_of (off_slot e)) no_slot

abbrev pub set_turned : ℕ → ExpressionTree → Turned
set_turned g (Typed k (Assign p e)) = assigned g p e
set_turned g _ = no_slot

-- an `if (!x)` with an else-list: without its else-list it is a check of x
abbrev pub has_else : TestTree → Forest → Bool
has_else (Source e) (Then x xs) = is_some (off_slot e)
has_else _ _ = false

abbrev mutual
  -- by the sets of a list at any depth; an `if (!x)` whose else-list names the slot may lose that, and any check in it
  pub turned : ℕ → Forest → Turned
  turned g Nil = no_slot
  turned g (Then x xs) = both (item_turned g x) (turned g xs)

  pub item_turned : ℕ → Tree → Turned
  item_turned g (Evaluate e) = set_turned g e
  item_turned g (If t a b) = both (turned g a) (cond (has_else t b && not (list_lacks g b)) any_slot (turned g b))
  item_turned g (While t a) = turned g a
  item_turned g (Do a t) = turned g a
  item_turned g (For f t u a) = turned g a
  item_turned g (Switch s c) = sections_turned g c
  item_turned g (Block a) = turned g a
  item_turned g x = no_slot

  pub sections_turned : ℕ → Sections → Turned
  sections_turned g NoSection = no_slot
  sections_turned g (Section cases default a ends c) = both (turned g a) (sections_turned g c)

-- ---- what stays

abbrev pub HasItems : Forest → Type 0
HasItems Nil = ⊥
HasItems (Then x xs) = Unit {0}

-- two lists show as much of a slot
pub record ShowsAlike (h : ℕ) (a b : Forest) : Type 0 where
  pub checks : checks_in h b ≡ checks_in h a
  pub exits : exits_in h b ≡ exits_in h a
  pub low : (n : ℕ) → are_low h n b ≡ are_low h n a
  pub ending : is_end h b ≡ is_end h a

-- and two items
pub record ItemShowsAlike (h : ℕ) (x y : Tree) : Type 0 where
  pub checks : checks_of h y ≡ checks_of h x
  pub exits : exits_of h y ≡ exits_of h x
  pub low : (n : ℕ) → is_low h n y ≡ is_low h n x
  pub check : is_check h y ≡ is_check h x

-- a list names the slot otherwise than in exits
abbrev pub NamesOtherwise : ℕ → Forest → Type 0
NamesOtherwise h a = exits_in h a < list_count h a

-- and without its last item too
abbrev pub NeedsOtherwise : ℕ → Forest → Type 0
NeedsOtherwise h a = NamesOtherwise h a × NamesOtherwise h (but_last a)

-- the second list names the slot no more often than the first, and shows as much of it or names it otherwise
pub record IsKept (h : ℕ) (a b : Forest) : Type 0 where
  pub less : list_count h b ≤ list_count h a
  pub some : HasItems a × HasItems b
  pub shows : ShowsAlike h a b ⊎ NamesOtherwise h b

-- and the second item
pub record ItemIsKept (h : ℕ) (x y : Tree) : Type 0 where
  pub less : item_count h y ≤ item_count h x
  pub shows : ItemShowsAlike h x y ⊎ (exits_of h y < item_count h y)

-- each slot that counts is kept but this one, and without a last `h = 0;` of the second list too
abbrev pub AreAlike : List ℕ → ℕ → Forest → Forest → Type 0
AreAlike counts g a b = (h : ℕ) → eqb g h ≡ false →
    (count_in counts h ≡ 0) ⊎ (IsKept h a b × (last_reset b ≡ Some h → (last_reset a ≡ Some h) × IsKept h (but_last a) (but_last b)))

-- of two pairs of lists, one pair is alike and the other the same
abbrev pub AreAlikeOf : List ℕ → ℕ → Forest → Forest → Forest → Forest → Type 0
AreAlikeOf counts g a b c d = (AreAlike counts g a c × (d ≡ b)) ⊎ ((c ≡ a) × AreAlike counts g b d)

-- of sections
pub record SectionsKept (h : ℕ) (c d : Sections) : Type 0 where
  pub less : sections_count h d ≤ sections_count h c
  pub shows : (checks_within h d ≡ checks_within h c) ⊎ (checks_within h d < sections_count h d)

abbrev pub AreSectionsAlike : List ℕ → ℕ → Sections → Sections → Type 0
AreSectionsAlike counts g c d = (h : ℕ) → eqb g h ≡ false → (count_in counts h ≡ 0) ⊎ SectionsKept h c d

-- where the one item allows no change itself, neither does the other, once the slot counts no more
abbrev pub AsksAlike : List ℕ → ℕ → Tree → Tree → Type 0
AsksAlike counts g x y = (f h : FunctionTree) → Tells counts f → Fewer (counts_of f) (counts_of h) → counts_of h g ≡ 0 → (n : ℕ) (xs : Forest) →
    IsApart (counts_of f) x xs → next_here f n (Then x xs) ≡ None → next_here h n (Then y xs) ≡ None

-- two items are alike but for what they show of this slot and of those that don't count
pub record IsAlike (counts : List ℕ) (g : ℕ) (x y : Tree) : Type 0 where
  pub shows : (h : ℕ) → eqb g h ≡ false → (count_in counts h ≡ 0) ⊎ ItemIsKept h x y
  pub asks : AsksAlike counts g x y
  pub none : reset_slot y ≡ None

-- where a slot was found, and it is sure, this is said of it
abbrev pub IsSaid : Option ℕ → Bool → (ℕ → Type 0) → Type 0
IsSaid s sure P = (g : ℕ) → s ≡ Some g → sure ≡ true → P g
