-- An array in which a number is stored.
use Rattle.std.proofs.Common.{ℕ, ◌<◌, ℤ, List, eqb, false, slice_set, slice_get, length, Some, None, ◌≡◌, ◌≢◌, sym, ap, ◌∙◌, true≢false, arith}
use Rattle.std.proofs.lemmas.Bool.Decides.{Decides-eqb}
use Rattle.std.proofs.lemmas.List.{length-set}
use Rattle.c_types.specs.Numbers.{converted}
use Rattle.c_types.specs.declared.kinds.IntKind.{IntKind}
use Rattle.c_tree.proofs.ExchangeLemmas.{get_set-other}
use Rattle.c_tree.proofs.PathLemmas.{get_set}
use Rattle.jump_meaning.specs.Values as Meant
use Rattle.jump_meaning.specs.Values.{Variable, Holds}
use Rattle.jump_meaning.specs.World.{with_number}
use Rattle.jump_meaning.proofs.Memory.{chosen}
use Rattle.step_memory.specs.Rooms.{AreCells}
use Rattle.step_memory.specs.declared.room.Cells.TheVariants.{Array}

length_set : (xs : List ℤ) (i : ℕ) (x : ℤ) → length (slice_set xs i x) ≡ length xs
length_set xs i x = length-set xs i x

pub stored_cells : (ns : List (List ℕ)) (k : IntKind) (xs : List ℤ) (i : ℕ) (z : ℤ) (ys : List ℤ) (v : Variable)
    → i < length xs → ys ≡ slice_set xs i (converted k z) → AreCells ns k (Array xs) v → AreCells ns k (Array ys) (with_number i z v)
stored_cells ns k xs i z ys (Holds j None c) lt e h = absurd h
stored_cells ns k xs i z ys (Meant.Lent o) lt e h = absurd h
stored_cells ns k xs i z ys (Holds j (Some n) c) lt e h = (
  h.0,
  h.1 ∙ sym (ap length e ∙ length_set xs i (converted k z)),
  (λ m l.
      let within : m < length xs = omega (arith, l, ap length e, length_set xs i (converted k z)) in
      ap (λ a. slice_get a m) e
      ∙ chosen (λ x. slice_get (slice_set xs i (converted k z)) m ≡ Some x) (eqb i m) (converted j z) (c m)
      (λ t. let same : i ≡ m = (Decides-eqb i m).0 t in
      ap (λ y. slice_get (slice_set xs y (converted k z)) m) same
      ∙ get_set xs m (c m) (converted k z) (h.2 m within) ∙ ap (λ k. Some (converted k z)) (sym h.0))
      (λ f. get_set-other xs i m (converted k z) (neq f) ∙ h.2 m within)),
)
  where
    neq : {i m : ℕ} → eqb i m ≡ false → i ≢ m
    neq {i} {m} f s = true≢false (sym ((Decides-eqb i m).1 s) ∙ f)
