-- The Land that a Leap is joined with.
use Rattle.std.proofs.Common.{◌≡◌, ◌≢◌, ℕ, zero, suc, ◌+◌, ◌<◌, List, [], ◌∷◌, ◌++◌, Option, Some, None, Bool, true, cond, inl, inr, length, take, drop, slice_range, get_or, slice_get, option_and_then, zero-add, suc-add, refl, sym, ap, subst, ◌∙◌, arith}
use Rattle.std.specs.List.{position, position_or_len}
use Rattle.std.proofs.lemmas.Bool.{cases_lt, lt-ltb, false≢true}
use Rattle.std.proofs.lemmas.List.Sums.{fails_before_first}
use Rattle.std.proofs.lemmas.List.Quantifiers.{position-Some}
use Rattle.std.proofs.lemmas.Option.{slice_get_within, get_or_from_slice_get, slice_get-get_or}
use Rattle.std.proofs.Math.ListN.{set}
use Rattle.c_tree.specs.declared.tree.Item.{Item, Do, Leap, Land}
use Rattle.c_tree.specs.declared.tree.Test.{On}
use Rattle.c_tree.specs.declared.tree.Step.{Step}
use Rattle.c_tree.specs.declared.tree.Path.{Path}
use Rattle.c_tree.specs.Paths.{list_at}
use Rattle.c_tree.specs.Join.{CanJoin, joined_before}
use Rattle.move_list_edits.proofs.CutLemmas.{set_lap}
use Rattle.c_tree.proofs.PathLemmas.{map_some}
use Rattle.c_tree.proofs.RuleChanges.{stands}
use Rattle.label_offsets.specs.Marks.{leap_label, label_at, is_land, land_after}
use Rattle.label_offsets.proofs.HeldLaws.{leap_label-Leap, is_land-Land, is_land-Leap, land-is}
use Rattle.sibling_elim.specs.Sibling.{HasSibling, or_else, land_beside}

-- the list, the Leap and the Land
pub record Pair (body : List Item) (at : Path) : Type 0 where
  pub label : ℕ
  pub place : ℕ
  pub list : List Item
  pub list_is : list_at body at.steps ≡ Some list
  pub leap_is : slice_get list at.item ≡ Some (Leap label)
  pub land_is : slice_get list place ≡ Some (Land label)
  pub label_is : label_at body at ≡ Some label

pub pair : (body : List Item) (at : Path) → HasSibling body at → Pair body at
pair body at h =
    let p = stands body at.steps at.item (Leap h.label) h.applies.leap in
    let q = stands body at.steps h.place (Land h.label) h.applies.land in
    let same : q.list ≡ p.list = let e : Some q.list ≡ Some p.list = sym q.list_is ∙ p.list_is in cc in
    record {
      label = h.label;
      place = h.place;
      list = p.list;
      list_is = p.list_is;
      leap_is = p.item_is;
      land_is = subst (λ z. slice_get z h.place ≡ Some (Land h.label)) same q.item_is;
      label_is = ap (option_and_then leap_label) h.applies.leap ∙ leap_label-Leap h.label;
    }

-- the first item that passes is there if one passes

pub present : {X : Type 0} (p : X → Bool) (xs : List X) (k : ℕ) (d : X) → k < length xs → p (get_or xs k d) ≡ true → position p xs ≡ None → ⊥
present p xs k d h t e = elim (cases_lt k (position_or_len p xs)) [
  | inl before ↦ false≢true (sym (fails_before_first p xs k d before) ∙ t)
  | inr after ↦
      let within : position_or_len p xs < length xs = omega arith in
      let some : Some (position_or_len p xs) ≡ None = sym (ap (λ b. cond b (Some (position_or_len p xs)) None)
      (lt-ltb (position_or_len p xs) (length xs) within)) ∙ e in
      cc
]

beside_none : (a b : Option ℕ) → or_else a b ≡ None → b ≡ None
beside_none None b e = e
beside_none (Some k) b e = cc

pub land_found : (l i k : ℕ) (xs : List Item) → slice_get xs k ≡ Some (Land l) → land_beside l i xs ≡ None → ⊥
land_found l i k xs e f =
    present (is_land l) xs k (Land l) (slice_get_within xs k (Land l) e) (ap (is_land l) (get_or_from_slice_get xs k (Land l) (Land l) e) ∙ is_land-Land l)
    (beside_none (land_after l i xs) (position (is_land l) xs) f)

position_land : (l k : ℕ) (xs : List Item) → position (is_land l) xs ≡ Some k → slice_get xs k ≡ Some (Land l)
position_land l k xs e =
    let p = position-Some (is_land l) xs k (Land l) e in
    slice_get-get_or xs k (Land l) p.0 ∙ ap Some (land-is l (get_or xs k (Land l)) p.1)

get_drop : {X : Type 0} (xs : List X) (n k : ℕ) → slice_get (drop n xs) k ≡ slice_get xs (n + k)
get_drop [] zero k = refl
get_drop [] (suc n) k = refl
get_drop (x ∷ xs) zero k = ap (slice_get (x ∷ xs)) (sym (zero-add k))
get_drop (x ∷ xs) (suc n) k = get_drop xs n k ∙ ap (slice_get (x ∷ xs)) (sym (suc-add n k))

pub land_beside-is : (l i k : ℕ) (xs : List Item) → land_beside l i xs ≡ Some k → slice_get xs k ≡ Some (Land l)
land_beside-is l i k xs e = put (land_after l i xs) refl e where
  put : (o : Option ℕ) → land_after l i xs ≡ o → or_else o (position (is_land l) xs) ≡ Some k → slice_get xs k ≡ Some (Land l)
  put None f g = position_land l k xs g
  put (Some j) f g =
      let t = map_some (λ n. i + 1 + n) (position (is_land l) (drop (i + 1) xs)) j f in
      let same : j ≡ k = cc in
      ap (slice_get xs) (sym (t.2 ∙ same)) ∙ sym (get_drop xs (i + 1) t.0) ∙ position_land l t.0 (drop (i + 1) xs) t.1

-- a Land is no Leap

apart : (l : ℕ) (xs : List Item) (i j : ℕ) → slice_get xs i ≡ Some (Leap l) → slice_get xs j ≡ Some (Land l) → i ≢ j
apart l xs i j e f g =
    let same : Some (Leap l) ≡ Some (Land l) = sym e ∙ ap (slice_get xs) g ∙ f in
    let item : Leap l ≡ Land l = cc in
    false≢true (sym (is_land-Leap l l) ∙ ap (is_land l) item ∙ is_land-Land l)

-- a Leap and its Land in a list that is taken out
pub record InList (l i j : ℕ) (a : List Item) : Type 0 where
  pub leap_in : i < length a
  pub land_in : j < length a
  pub differ : i ≢ j

pub taken : (l i j : ℕ) (steps : List Step) (body a : List Item) → CanJoin l i j steps body → list_at body steps ≡ Some a → InList l i j a
taken l i j steps body a h t =
    let e : slice_get a i ≡ Some (Leap l) = sym (ap (option_and_then (λ a. slice_get a i)) t) ∙ h.leap in
    let f : slice_get a j ≡ Some (Land l) = sym (ap (option_and_then (λ a. slice_get a j)) t) ∙ h.land in
    record { leap_in = slice_get_within a i (Leap l) e; land_in = slice_get_within a j (Land l) f; differ = apart l a i j e f }

-- what was found in the list

same_label : (body : List Item) (at : Path) (h : HasSibling body at) (l : ℕ) → Some l ≡ label_at body at → h.label ≡ l
unfolding pair
same_label body at h l e =
    let p = pair body at h in
    let f : Some h.label ≡ Some l = sym p.label_is ∙ sym e in cc

pub no_place : (body : List Item) (at : Path) → HasSibling body at → (l : ℕ) (a : List Item) → Some l ≡ label_at body at →
    Some a ≡ list_at body at.steps → land_beside l at.item a ≡ None → ⊥
no_place body at h l a e t f =
    let m = same_label body at h l e in
    let r = taken h.label at.item h.place at.steps body a h.applies (sym t) in
    let land : slice_get a h.place ≡ Some (Land h.label) = sym (ap (option_and_then (λ a. slice_get a h.place)) (sym t)) ∙ h.applies.land in
    land_found l at.item h.place a (land ∙ ap (λ (m : ℕ). Some (Land m)) m) f

pub place_is : (body : List Item) (at : Path) → HasSibling body at → (l : ℕ) (a : List Item) (k : ℕ) → Some l ≡ label_at body at →
    Some a ≡ list_at body at.steps → land_beside l at.item a ≡ Some k
    → CanJoin l at.item k at.steps body
place_is body at h l a k e t f =
    let m = same_label body at h l e in
    record {
      leap = h.applies.leap ∙ ap (λ (m : ℕ). Some (Leap m)) m;
      land = ap (option_and_then (λ a. slice_get a k)) (sym t) ∙ land_beside-is l at.item k a f;
    }

-- Land, T, Leap in a list

pub joined_before-is : (l i j : ℕ) (xs ys mid : List Item) → j < i → i < length xs → ys ≡ take j xs ++ drop i xs → mid ≡ slice_range xs j i
    → set ys j (Do mid (On l)) ≡ joined_before l i j xs
joined_before-is l i j xs ys mid h k e f = rw (e, f) (set_lap xs j i (Do (slice_range xs j i) (On l)) (omega arith) k)
