-- The counts tell how often the loop of a change names its slot.
use Rattle.std.proofs.Common.{ℕ, ◌+◌, ◌-◌, ◌≤◌, ◌<◌, ◌⊎◌, inl, inr, Bool, true, false, cond, ◌&&◌, eqb, eqb-true, Option, Some, None, option_map, ◌≡◌, refl, sym, ap, subst, ◌∙◌, arith}
use Rattle.std.proofs.lemmas.Bool.{and_parts}
use Rattle.c_tree.specs.TestTrees.{TestTree}
use Rattle.c_tree.specs.Trees.{Tree, Forest, While, Do, For}
use Rattle.tidy_laws.specs.Changes.{are_low}
use Rattle.tidy_slots.specs.Counts.{one_if, test_count, list_count}
use Rattle.tidy_loops.specs.Views.{is_it}
use Rattle.tidy_loops.specs.Exits.{exits_in}
use Rattle.tidy_loops.specs.Slots.{stop_slot, first_reset, last_reset, but_last, allowed, breaks, continues, break_slot, continue_slot}
use Rattle.tidy_loops.specs.Remaining.{IsApart}
use Rattle.tidy_loops.proofs.Outside.{stop_one, last_one}
use Rattle.break_recovery.specs.Next.{or_else}
use Rattle.break_recovery.specs.Loops.{slot_of, continue_there, change_there}
use Rattle.break_recovery.specs.declared.here.Change.{Change}
use Rattle.break_recovery.specs.declared.here.Change.TheVariants as V
use Rattle.break_recovery.specs.Exits.{exits_of, NamesAtMost, HoldsAtMost}
use Rattle.break_recovery.specs.Steady.{no_slot, item_turned}
use Rattle.break_recovery.proofs.Lacking.{loop_turned_uncounted, loop_turned_reset}
use Rattle.break_recovery.proofs.Within.{is_less}

pub allowed_so : (p : ℕ → Bool) (s : Option ℕ) (g : ℕ) → allowed p s ≡ Some g → (s ≡ Some g) × (p g ≡ true)
allowed_so p None g e = cc
allowed_so p (Some h) g e = by (p h) refl e
  where
    by : (b : Bool) → p h ≡ b → cond b (Some h) None ≡ Some g → (Some h ≡ Some g) × (p g ≡ true)
    by true q e = let k : h ≡ g = cc in (e, ap p (sym k) ∙ q)
    by false q e = cc

few_break : (c t l e : ℕ) (r : Bool) → c ≡ 3 + e → (c ≡ 0) ⊎ (t + l + one_if r < c) → 1 ≤ t → r ≡ true → l ≤ c - 3
few_break c t l e r q (inl z) h k = absurd (omega (arith, q, z))
few_break c t l e r q (inr m) h k = let o = ap one_if k in omega (arith, q, m, h, o)

few_continue : (c i l f e : ℕ) → c ≡ 2 + e → (c ≡ 0) ⊎ (i < c) → l ≤ i → f + 1 ≤ l → f ≤ c - 2
few_continue c i l f e q (inl z) h k = absurd (omega (arith, q, z))
few_continue c i l f e q (inr m) h k = omega (arith, q, m, h, k)

module _ (c : ℕ → ℕ) (n : ℕ) (xs : Forest) (g : ℕ) where
  break_few : (t : TestTree) (a : Forest) → allowed (breaks c n a xs) (stop_slot t) ≡ Some g →
      (c g ≡ 0) ⊎ (test_count g t + list_count g a + one_if (is_it g (first_reset xs)) < c g) → list_count g a ≤ c g - 3
  break_few t a e w =
      let s = allowed_so (breaks c n a xs) (stop_slot t) g e in
      let p = and_parts (is_it g (first_reset xs)) (are_low g n a && eqb (c g) (3 + exits_in g a)) s.1 in
      let q = eqb-true (c g) (3 + exits_in g a) (and_parts (are_low g n a) (eqb (c g) (3 + exits_in g a)) p.1).1 in
      few_break (c g) (test_count g t) (list_count g a) (exits_in g a) (is_it g (first_reset xs)) q w (stop_one g t s.0) p.0

  break_holds : (x : Tree) → IsApart c x xs → break_slot c n x xs ≡ Some g → HoldsAtMost (V.Break g) (c g - 3) x
  break_holds (While t a) w e = (refl, break_few t a e (w g refl))
  break_holds (Do a t) w e = (refl, break_few t a e (is_less (c g) _ _ (omega arith) (w g refl)))
  break_holds _ w e = cc

  continue_few : (a : Forest) (i : ℕ) → allowed (continues c n (but_last a)) (last_reset a) ≡ Some g → (c g ≡ 0) ⊎ (i < c g) → list_count g a ≤ i →
      NamesAtMost (V.Continue g) (c g - 2) a
  continue_few a i e w h =
      let s = allowed_so (continues c n (but_last a)) (last_reset a) g e in
      let q = eqb-true (c g) (2 + exits_in g (but_last a)) (and_parts (are_low g n (but_last a)) (eqb (c g) (2 + exits_in g (but_last a))) s.1).1 in
      (few_continue (c g) i (list_count g a) (list_count g (but_last a)) (exits_in g (but_last a)) q w h (last_one g a s.0), s.0)

  continue_holds : (x : Tree) → IsApart c x xs → continue_slot c n x ≡ Some g → HoldsAtMost (V.Continue g) (c g - 2) x
  continue_holds (While t a) w e = (refl, continue_few a _ e (w g refl) (omega arith))
  continue_holds (Do a t) w e = (refl, continue_few a _ e (w g refl) (omega arith))
  continue_holds (For f t u a) w e = (refl, continue_few a _ e (w g refl) (omega arith))
  continue_holds _ w e = cc

pub change_holds : (c : ℕ → ℕ) (n : ℕ) (x : Tree) (xs : Forest) (r : Change) → IsApart c x xs → change_there c n x xs ≡ Some r →
    HoldsAtMost r (exits_of c r) x
change_holds c n x xs r w e = by_break (break_slot c n x xs) refl e
  where
    by_continue : (s : Option ℕ) → continue_slot c n x ≡ s → option_map V.Continue s ≡ Some r → HoldsAtMost r (exits_of c r) x
    by_continue None h k = cc
    by_continue (Some g) h k = let q : V.Continue g ≡ r = cc in subst (λ z. HoldsAtMost z (exits_of c z) x) q (continue_holds c n xs g x w h)

    by_break : (s : Option ℕ) → break_slot c n x xs ≡ s → or_else (option_map V.Break s) (continue_there c n x) ≡ Some r → HoldsAtMost r (exits_of c r) x
    by_break None h k = by_continue (continue_slot c n x) refl k
    by_break (Some g) h k = let q : V.Break g ≡ r = cc in subst (λ z. HoldsAtMost z (exits_of c z) x) q (break_holds c n xs g x w h)

-- a change without exits turns no other slot
pub none_turned : (r : Change) (n : ℕ) (x : Tree) → n ≡ 0 → HoldsAtMost r n x → item_turned (slot_of r) x ≡ no_slot
none_turned (V.Break g) n x z (e, h) = loop_turned_uncounted g x e (omega (arith, z, h))
none_turned (V.Continue g) n x z (e, (h, l)) = loop_turned_reset g x e l (omega (arith, z, h))
