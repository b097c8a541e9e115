-- Names in a set.
use Rattle.std.proofs.Common.{◌≡◌, ℕ, ◌||◌, List, [], ◌∷◌, refl}
use Rattle.std.specs.List.{list_any}
use Rattle.std.specs.BTreeMap.{is_at}
use Rattle.std.proofs.lemmas.Map.Text.{is_eq-slice_cmp}
use Rattle.c_types.specs.Words.{name_cmp}
use Rattle.c_scopes.specs.FunctionNames.{has_function}

pub has_in : (name : List ℕ) (ks : List (List ℕ)) → list_any (is_at (name_cmp name)) ks ≡ has_function ks name
has_in name [] = refl
has_in name (k ∷ ks) = λ i. is_eq-slice_cmp name k i || has_in name ks i
