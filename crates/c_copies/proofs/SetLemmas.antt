-- A set of strings, seen as the list of their bytes.
use Rattle.std.proofs.Common.{◌≡◌, ℕ, ◌||◌, List, [], ◌∷◌, map, refl, ap}
use Rattle.std.specs.declared.cmp.Ordering.{Ordering}
use Rattle.std.specs.declared.cmp.Ordering.TheVariants.{Less, Equal, Greater}
use Rattle.std.specs.Ordering.{nat_cmp, match_ordering}
use Rattle.std.specs.Cmp.Lexicographic.{slice_cmp}
use Rattle.std.specs.List.{list_any}
use Rattle.std.specs.declared.string.String.{String}
use Rattle.std.specs.String.{string_bytes, string_cmp}
use Rattle.std.specs.BTreeSet.{insert_key}
use Rattle.std.specs.BTreeMap.{is_at}
use Rattle.std.proofs.lemmas.Map.Text.{is_eq-slice_cmp}
use Rattle.c_copies.specs.Names.{with_name, has_name}

module _ {Z : Type 0} where
  insert_at : (o : Ordering) (k x : String Z) (xs : List (String Z))
      → map string_bytes (insert_key string_cmp xs k) ≡ with_name (map string_bytes xs) (string_bytes k)
      → map string_bytes (match_ordering o (k ∷ x ∷ xs) (x ∷ xs) (x ∷ insert_key string_cmp xs k))
      ≡ match_ordering o (string_bytes k ∷ string_bytes x ∷ map string_bytes xs) (string_bytes x ∷ map string_bytes xs)
      (string_bytes x ∷ with_name (map string_bytes xs) (string_bytes k))
  insert_at Less k x xs e = refl
  insert_at Equal k x xs e = refl
  insert_at Greater k x xs e = ap (λ l. string_bytes x ∷ l) e

  -- a string put into a set of strings
  pub map-insert_key : (ks : List (String Z)) (k : String Z) → map string_bytes (insert_key string_cmp ks k) ≡ with_name (map string_bytes ks) (string_bytes k)
  map-insert_key [] k = refl
  map-insert_key (x ∷ xs) k = insert_at (string_cmp k x) k x xs (map-insert_key xs k)

  -- a name looked up in a set of strings
  pub list_any-has_name : (n : List ℕ) (ks : List (String Z)) → list_any (is_at (λ k. slice_cmp nat_cmp n (string_bytes k))) ks ≡ has_name
      (map string_bytes ks) n
  list_any-has_name n [] = refl
  list_any-has_name n (k ∷ ks) = λ i. is_eq-slice_cmp n (string_bytes k) i || list_any-has_name n ks i
