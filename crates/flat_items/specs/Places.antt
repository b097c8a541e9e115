-- Where the numbers of cases stand in a list of them.
use Rattle.std.specs.Prelude.{ℕ, ℤ, ◌≡◌, List, Option, Some, None}
use Rattle.std.specs.BTreeMap.{get}
use Rattle.std.specs.Option.{unwrap_or}
use Rattle.std.specs.Ordering.{int_cmp}
use Rattle.flat_laws.specs.FlatForm.{place_of}
use Rattle.flat_items.specs.declared.places.CasePlaces as P

-- the place of a number; what is none, as that of a case that is no constant, comes behind
abbrev pub place_at : P.CasePlaces → Option ℤ → ℕ
place_at p None = p.behind
place_at p (Some n) = unwrap_or (get int_cmp p.table n) p.behind

-- they are those of this list
abbrev pub ArePlaces : P.CasePlaces → List (Option ℤ) → Type 0
ArePlaces p numbers = (n : Option ℤ) → place_at p n ≡ place_of n numbers
