-- Looking a name up in a map.
use Rattle.std.proofs.Common.{◌≡◌, ℕ, cond, List, [], ◌∷◌, Some, refl}
use Rattle.std.specs.BTreeMap.{is_at}
use Rattle.std.specs.Map.{lookup}
use Rattle.std.proofs.lemmas.Map.Text.{is_eq-slice_cmp}
use Rattle.c_types.specs.Words.{name_cmp}
use Rattle.c_kinds.specs.Scopes.{Names, found}

pub found_in : {X : Type 0} (name : List ℕ) (es : Names X) → lookup (is_at (name_cmp name)) es ≡ found name es
found_in name [] = refl
found_in name (e ∷ es) = λ i. cond (is_eq-slice_cmp name e.0 i) (Some e.1) (found_in name es i)
