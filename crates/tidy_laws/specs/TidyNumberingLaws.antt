-- The laws of this crate: slots go one after another, and get their new numbers at once.
use Rattle.std.specs.Prelude.{ℕ, ◌-◌, ◌<◌, ◌≡◌, Bool, true, false, eqb, leb, ltb, List, length, replicate, slice_set}
use Rattle.c_tree.specs.declared.tree.Slot.{Slot}
use Rattle.c_tree.specs.Trees.{Forest}
use Rattle.jump_meaning.specs.Code.{entry_or}
use Rattle.jump_meaning.specs.World.{no_slot}
use Rattle.tidy_laws.specs.Mentions.{list_lacks}
use Rattle.tidy_laws.specs.Renumbered.{without, renumbered_list}
use Rattle.tidy_laws.specs.Renamed.{renamed_list}
use Rattle.tidy_laws.specs.Gone.{is_gone, old_number, gone_before, left}

pub record NumberLaws : Type 0 where
  -- where none is gone yet
  pub none : (n : ℕ) (a : Forest) → renamed_list (old_number (replicate n false)) a ≡ a
  pub none_left : (n : ℕ) (ss : List Slot) → left (replicate n false) ss ≡ ss
  -- slots of two numbers are two
  pub apart : (gone : List Bool) (x y : ℕ) → eqb (old_number gone x) (old_number gone y) ≡ eqb x y
  -- the slots in front stay, where none of them is gone
  pub in_front : (gone : List Bool) (p x : ℕ) → ((y : ℕ) → y < p → is_gone gone y ≡ false) → leb p (old_number gone x) ≡ leb p x
  -- each slot that is left is what it was
  pub there : (gone : List Bool) (ss : List Slot) (x : ℕ) → ltb (old_number gone x) (length ss) ≡ ltb x (length (left gone ss))
  pub entry : (gone : List Bool) (ss : List Slot) (x : ℕ) → entry_or no_slot ss (old_number gone x) ≡ entry_or no_slot (left gone ss) x
  -- one more is gone, which a list doesn't name
  pub one_more : (gone : List Bool) (g : ℕ) (a : Forest) → old_number gone g < length gone → list_lacks g a ≡ true
      → renamed_list (old_number (slice_set gone (old_number gone g) true)) (renumbered_list g a) ≡ renamed_list (old_number gone) a
  pub one_less : (gone : List Bool) (g : ℕ) (ss : List Slot) → old_number gone g < length gone →
      left (slice_set gone (old_number gone g) true) ss ≡ without g (left gone ss)
  -- and back to the new numbers
  pub back : (gone : List Bool) (r : ℕ → ℕ) (a : Forest) → ((x : ℕ) → r x ≡ x - gone_before gone x) → renamed_list r (renamed_list (old_number gone) a) ≡ a
