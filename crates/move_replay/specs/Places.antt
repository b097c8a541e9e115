-- The place of the first flat function of a name.
use Rattle.std.specs.Prelude.{◌≡◌, ℕ, suc, cond, ◌&&◌, List, [], ◌∷◌, Option, Some, None}
use Rattle.std.specs.BTreeMap.{get_by_text}
use Rattle.std.specs.Str.{bytes_eq}
use Rattle.c_tree.specs.declared.tree.Top.{Top}
use Rattle.c_tree.specs.declared.tree.Top.TheVariants as T
use Rattle.move_replay.specs.declared.places.Places.{Places}

-- the place k, where a flat function of the name stands there, or else another
abbrev pub found_at : List ℕ → ℕ → Top → Option ℕ → Option ℕ
found_at m k (T.Function f) other = cond (f.flat && bytes_eq f.name m) (Some k) other
found_at m k _ other = other

-- in a list whose first stands at the place k
abbrev pub place_from : ℕ → List ℕ → List Top → Option ℕ
place_from k m [] = None
place_from k m (t ∷ ts) = found_at m k t (place_from (suc k) m ts)

abbrev pub place_in : List ℕ → List Top → Option ℕ
place_in m ts = place_from 0 m ts

-- the table has the place of each name
abbrev pub Finds : Places → List Top → Type 0
Finds p ts = (m : List ℕ) → get_by_text p.table m ≡ place_in m ts
