-- The values pending for a call are its arguments.
use Rattle.std.proofs.Common.{ℕ, zero, suc, ℤ, List, [], ◌∷◌, ◌++◌, map, ◌≡◌, refl, sym, ap, ◌∙◌, subst}
use Rattle.c_types.specs.declared.kinds.IntKind.{IntKind}
use Rattle.c_tree.specs.declared.tree.Slot.{Slot}
use Rattle.jump_meaning.specs.Values.{Value, Integer, Missing}
use Rattle.jump_meaning.specs.Code.{FunctionTree, Code, entry_or}
use Rattle.jump_meaning.specs.World.{no_slot}
use Rattle.jump_meaning.specs.Effects.{rest}
use Rattle.jump_meaning.specs.Calls.{last_values, without_last}
use Rattle.plain_laws.specs.Kinded.{first_slot, later_slots}
use Rattle.plain_laws.proofs.Memories.{Shapes}
use Rattle.plain_laws.proofs.Sorts.{Sort, ForSlot, HasSort, HaveSorts}
use Rattle.plain_laws.proofs.Relation.{argument_sorts}
use Rattle.plain_laws.proofs.Entering.{AreArguments}

-- one more of the last values
without_more : (n : ℕ) (u : List Value) → without_last (suc n) u ≡ rest (without_last n u)
without_more zero [] = refl
without_more zero (x ∷ u) = refl
without_more (suc n) [] = refl
without_more (suc n) (x ∷ u) = without_more n u

last_more : (n : ℕ) (xs u : List Value) (y : Value) (w : List Value) → without_last n u ≡ y ∷ w → last_values (suc n) xs u ≡ y ∷ last_values n xs u
last_more zero xs [] y w e = cc
last_more zero xs (x ∷ u) y w e = let i : x ≡ y = cc in ap (λ z. z ∷ xs) i
last_more (suc n) xs [] y w e = cc
last_more (suc n) xs (x ∷ u) y w e = last_more n (x ∷ xs) u y w e

module _ (p : Code) (sh : Shapes) (c : ℕ) where
  abbrev Fit : List Slot → List Value → Type 0
  Fit ts [] = Unit {0}
  Fit ts (v ∷ vs) = HasSort p sh c (ForSlot (first_slot ts).kind) v × Fit (later_slots ts) vs

  -- the arguments, and the values below them
  pub record Parted (n : ℕ) (ts : List Slot) (ss : List Sort) (u : List Value) : Type 0 where
    pub arguments : List Value
    pub below : List Value
    pub fit : Fit ts arguments
    pub sorts : HaveSorts p sh c ss below
    pub last : (w : List Value) → last_values n [] (u ++ w) ≡ arguments
    pub without : (w : List Value) → without_last n (u ++ w) ≡ below ++ w

  none_parted : (ts : List Slot) (ss : List Sort) (u : List Value) → HaveSorts p sh c ss u → Parted zero ts ss u
  none_parted ts ss u h = record { arguments = []; below = u; fit = tt; sorts = h; last = λ w. refl; without = λ w. refl }

  one_parted : (n : ℕ) (ts : List Slot) (ss : List Sort) (u xs : List Value) → Fit (later_slots ts) xs → ((w : List Value) → last_values n [] (u ++ w) ≡ xs)
      → (b : List Value) → HaveSorts p sh c (ForSlot (first_slot ts).kind ∷ ss) b → ((w : List Value) → without_last n (u ++ w) ≡ b ++ w) →
      Parted (suc n) ts ss u
  one_parted n ts ss u xs f l [] h e = absurd h
  one_parted n ts ss u xs f l (y ∷ b) h e = record {
    arguments = y ∷ xs;
    below = b;
    fit = (h.0, f);
    sorts = h.1;
    last = λ w. last_more n [] (u ++ w) y (b ++ w) (e w) ∙ ap (λ z. y ∷ z) (l w);
    without = λ w. without_more n (u ++ w) ∙ ap rest (e w);
  }

  pub parted : (n : ℕ) (ts : List Slot) (ss : List Sort) (u : List Value) → HaveSorts p sh c (argument_sorts n ts ss) u → Parted n ts ss u
  parted zero ts ss u h = none_parted ts ss u h
  parted (suc n) ts ss u h =
      let r = parted n (later_slots ts) (ForSlot (first_slot ts).kind ∷ ss) u h in
      one_parted n ts ss u r.arguments r.fit r.last r.below r.sorts r.without

  first_entry : (ts : List Slot) → entry_or no_slot ts 0 ≡ first_slot ts
  first_entry [] = refl
  first_entry (t ∷ ts) = refl

  later_entry : (ts : List Slot) (x : ℕ) → entry_or no_slot ts (suc x) ≡ entry_or no_slot (later_slots ts) x
  later_entry [] x = refl
  later_entry (t ∷ ts) x = refl

  each_fits : (ts : List Slot) (vs : List Value) → Fit ts vs → (x : ℕ) → HasSort p sh c (ForSlot (entry_or no_slot ts x).kind) (entry_or Missing vs x)
  each_fits ts [] h x = tt
  each_fits ts (v ∷ vs) h zero = subst (λ (s : Slot). HasSort p sh c (ForSlot s.kind) v) (sym (first_entry ts)) h.0
  each_fits ts (v ∷ vs) h (suc x) = subst (λ (s : Slot). HasSort p sh c (ForSlot s.kind) (entry_or Missing vs x)) (sym (later_entry ts x))
      (each_fits (later_slots ts) vs h.1 x)

  pub arguments_fit : (f : FunctionTree) (n : ℕ) (ss : List Sort) (u : List Value) (r : Parted n f.slots ss u) → AreArguments p sh c f r.arguments
  arguments_fit f n ss u r = record { each = each_fits f.slots r.arguments r.fit }

  number_entry : (k : IntKind) (ns : List ℤ) (x : ℕ) → HasSort p sh c (ForSlot k) (entry_or Missing (map Integer ns) x)
  number_entry k [] x = tt
  number_entry k (z ∷ ns) zero = tt
  number_entry k (z ∷ ns) (suc x) = number_entry k ns x

  pub numbers_fit : (f : FunctionTree) (ns : List ℤ) → AreArguments p sh c f (map Integer ns)
  numbers_fit f ns = record { each = λ x. number_entry (entry_or no_slot f.slots x).kind ns x }
