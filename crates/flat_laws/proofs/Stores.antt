-- Assignments to a variable of a call, run: to the place of each, and whole rows of zeros.
use mathlib.Core.Path.{ap₂, fun_ext}
use Rattle.std.proofs.Common.{ℕ, zero, suc, ◌<◌, ◌+◌, ℤ, pos, Bool, true, false, cond, eqb, nat_lt, List, [], ◌∷◌, Some, None, ◌≡◌, refl, sym, ◌∙◌, ap, arith, eqb-true, lt-ltb, le-ltb}
use Rattle.c_types.specs.declared.kinds.IntKind.{IntKind}
use Rattle.c_types.specs.declared.kinds.IntKind.TheVariants.{Char, UChar, Int, UInt, Long, ULong}
use Rattle.c_types.specs.declared.trap.Trap.{Trap}
use Rattle.c_types.specs.Numbers.{converted}
use Rattle.c_tree.specs.declared.tree.Slot.{Slot}
use Rattle.c_tree.specs.declared.tree.Home.TheVariants as H
use Rattle.c_tree.specs.ExpressionTrees.{ExpressionTree}
use Rattle.c_tree.specs.Trees.{Evaluate}
use Rattle.jump_meaning.specs.Values.{Owner, OfCall, Variable, Holds, Lent, Designates}
use Rattle.jump_meaning.specs.Code.{Code}
use Rattle.jump_meaning.specs.World.{World, Gives, Traps, same_owner, put, holder, owner, cells_held, with_number, with_zeros, cell, cell_of}
use Rattle.jump_meaning.specs.Effects.{Computes, Stores, Drops, left}
use Rattle.jump_meaning.specs.Tasks.{Task, Runs, Works, items}
use Rattle.jump_meaning.specs.Step.{Guards, Frame, At, perform}
use Rattle.jump_meaning.proofs.Memory.{same_owner_decides}
use Rattle.core_laws.proofs.Reach.{Reach, stay, more, reach_on}
use Rattle.core_laws.proofs.Match.{SafeAt}
use Rattle.flat_laws.specs.Pieces.{assign_number, assign_cell, zero_tree, assigned_cells}
use Rattle.flat_laws.proofs.Worlds.{over}
use Rattle.flat_laws.proofs.Names.{HasShape}
use Rattle.flat_laws.proofs.Tests.{turn, turned}

-- ---- memory

pub record OfShape (t : Slot) (v : Variable) : Type 0 where
  pub cells : ℕ → ℤ
  pub is : v ≡ Holds t.kind t.cells cells

pub of_shape : (t : Slot) (v : Variable) → HasShape t v → OfShape t v
of_shape t (Holds k n cells) h = record { cells = cells; is = ap₂ (λ k n. Holds k n cells) h.0 h.1 }
of_shape t (Lent o) h = absurd h

pub put_here : (o : Owner) (v : Variable) (s : Owner → Variable) → put o v s o ≡ v
put_here o v s = ap (λ b. cond b v (s o)) ((same_owner_decides o o).1 refl)

put_same : (o : Owner) (s : Owner → Variable) → put o (s o) s ≡ s
put_same o s = fun_ext (λ p. at p (same_owner o p) refl)
  where
    at : (p : Owner) (b : Bool) → same_owner o p ≡ b → cond b (s o) (s p) ≡ s p
    at p true e = ap s ((same_owner_decides o p).0 e)
    at p false e = refl

put_twice : (o : Owner) (u v : Variable) (s : Owner → Variable) → put o v (put o u s) ≡ put o v s
put_twice o u v s = fun_ext (λ p. at (same_owner o p) (s p))
  where
    at : (b : Bool) (x : Variable) → cond b v (cond b u x) ≡ cond b v x
    at true x = refl
    at false x = refl

zero_converted : (k : IntKind) → converted k (pos 0) ≡ pos 0
unfolding converted
zero_converted Char = refl
zero_converted UChar = refl
zero_converted Int = refl
zero_converted UInt = refl
zero_converted Long = refl
zero_converted ULong = refl

no_zeros : (k : IntKind) (n : ℕ) (cells : ℕ → ℤ) → with_zeros n (Holds k (Some n) cells) ≡ Holds k (Some n) cells
no_zeros k n cells = ap (Holds k (Some n)) (fun_ext (λ j. at j (nat_lt j n)))
  where
    at : (j : ℕ) (b : Bool) → cond b (cells j) (cond b (pos 0) (cells j)) ≡ cells j
    at j true = refl
    at j false = refl

one_zero : (k : IntKind) (n i : ℕ) (cells : ℕ → ℤ) → i < n → with_zeros (suc i) (with_number i (pos 0) (Holds k (Some n) cells)) ≡ with_zeros i
    (Holds k (Some n) cells)
one_zero k n i cells l = ap (Holds k (Some n)) (fun_ext (λ j. at j (eqb i j) refl))
  where
    at : (j : ℕ) (b : Bool) → eqb i j ≡ b → cond (nat_lt j (suc i)) (cond b (converted k (pos 0)) (cells j))
        (cond (nat_lt j n) (pos 0) (cond b (converted k (pos 0)) (cells j))) ≡ cond (nat_lt j i) (cells j) (cond (nat_lt j n) (pos 0) (cells j))
    at j true e =
        let d : i ≡ j = eqb-true i j e in
        ap (λ b. cond b (converted k (pos 0)) (cond (nat_lt j n) (pos 0) (converted k (pos 0)))) (lt-ltb j (suc i) (omega (arith, d)))
        ∙ zero_converted k
        ∙ sym (ap (λ b. cond b (cells j) (cond (nat_lt j n) (pos 0) (cells j))) (le-ltb j i (omega (arith, d))) ∙
        ap (λ b. cond b (pos 0) (cells j)) (lt-ltb j n (omega (arith, d, l))))
    at j false e = ap (λ b. cond b (cells j) (cond (nat_lt j n) (pos 0) (cells j))) (same j e)
      where
        same : (j : ℕ) → eqb i j ≡ false → nat_lt j (suc i) ≡ nat_lt j i
        same j e = grind (arith, e)

module _ (q : Code) (f : List ℕ) (g : Guards) (cs : List Frame) where
  -- to the place of an assignment
  pub number_place : (w : World) (k : IntKind) (x : ℕ) (e : ExpressionTree) (kd : IntKind) (cells : ℕ → ℤ) (K : List Task) →
      w.variables (OfCall w.calls x) ≡ Holds kd None cells
      → Reach q SafeAt (At f g (Runs (Evaluate (assign_number k x e)) ∷ K) [] cs w)
      (At f g (Works (Computes e) ∷ Works Stores ∷ Works Drops ∷ K) (Designates (OfCall w.calls x) 0 ∷ []) cs w)
  number_place w k x e kd cells K held =
      let o : owner (H.Slot x) w ≡ OfCall w.calls x = ap (holder (OfCall w.calls x)) held in
      more tt (more tt (more tt (turn q f g cs w (ap (λ z. At f g (Works (Computes e) ∷ Works Stores ∷ Works Drops ∷ K) (Designates z 0 ∷ []) cs w) o) stay)))

  pub cell_place : (w : World) (k : IntKind) (x i n : ℕ) (e : ExpressionTree) (kd : IntKind) (cells : ℕ → ℤ) (K : List Task) →
      w.variables (OfCall w.calls x) ≡ Holds kd (Some n) cells → i < n
      → Reach q SafeAt (At f g (Runs (Evaluate (assign_cell k x i e)) ∷ K) [] cs w)
      (At f g (Works (Computes e) ∷ Works Stores ∷ Works Drops ∷ K) (Designates (OfCall w.calls x) i ∷ []) cs w)
  cell_place w k x i n e kd cells K held b =
      let o : owner (H.Slot x) w ≡ OfCall w.calls x = ap (holder (OfCall w.calls x)) held in
      let c : cell (H.Slot x) (pos i) w ≡ Gives (Designates (OfCall w.calls x) i) w =
      ap (λ z. cell_of z (pos i) w) o ∙ ap (λ v. cond (nat_lt i (cells_held v)) (Gives (Designates (OfCall w.calls x) i) w) (Traps Trap.Index w)) held
      ∙ ap (λ y. cond y (Gives (Designates (OfCall w.calls x) i) w) (Traps Trap.Index w)) (lt-ltb i n b) in
      more tt (more tt (more tt (more tt
      (more tt (turn q f g cs w (ap (λ z. perform q (left z []) f g (Works (Computes e) ∷ Works Stores ∷ Works Drops ∷ K) cs) c) stay)))))

  one_cell : (w : World) (k : IntKind) (x i n : ℕ) (kd : IntKind) (cells : ℕ → ℤ) (K : List Task) →
      w.variables (OfCall w.calls x) ≡ Holds kd (Some n) cells → i < n
      → Reach q SafeAt (At f g (Runs (Evaluate (assign_cell k x i zero_tree)) ∷ K) [] cs w)
      (At f g K [] cs (over (put (OfCall w.calls x) (with_number i (pos 0) (w.variables (OfCall w.calls x))) w.variables) w))
  one_cell w k x i n kd cells K held b = reach_on (cell_place w k x i n zero_tree kd cells K held b) (more tt (more tt (more tt stay)))

  -- zeros from cell i on
  pub zero_cells : (w : World) (k : IntKind) (x i m n : ℕ) (kd : IntKind) (cells : ℕ → ℤ) (K : List Task) → i + m ≡ n →
      w.variables (OfCall w.calls x) ≡ Holds kd (Some n) cells
      → Reach q SafeAt (At f g (items (assigned_cells k x i [] m) K) [] cs w)
      (At f g K [] cs (over (put (OfCall w.calls x) (with_zeros i (w.variables (OfCall w.calls x))) w.variables) w))
  zero_cells w k x i zero n kd cells K e held =
      let o = OfCall w.calls x in
      let d : i ≡ n = omega (arith, e) in
      let z : with_zeros i (w.variables o) ≡ w.variables o = ap (λ j. with_zeros j (w.variables o)) d ∙ ap (with_zeros n) held ∙ no_zeros kd n cells ∙
      sym held in
      turn q f g cs w (ap (λ s. At f g K [] cs (over s w)) (sym (ap (λ v. put o v w.variables) z ∙ put_same o w.variables))) stay
  zero_cells w k x i (suc m) n kd cells K e held =
      let o = OfCall w.calls x in
      let l : i < n = omega (arith, e) in
      let v1 = with_number i (pos 0) (w.variables o) in
      let s1 = put o v1 w.variables in
      let h1 : s1 o ≡ with_number i (pos 0) (Holds kd (Some n) cells) = put_here o v1 w.variables ∙ ap (with_number i (pos 0)) held in
      let z : with_zeros (suc i) (s1 o) ≡ with_zeros i (w.variables o) = ap (with_zeros (suc i)) h1 ∙ one_zero kd n i cells l ∙ ap (with_zeros i) (sym held) in
      let s : put o (with_zeros (suc i) (s1 o)) s1 ≡ put o (with_zeros i (w.variables o)) w.variables =
      put_twice o v1 (with_zeros (suc i) (s1 o)) w.variables ∙ ap (λ v. put o v w.variables) z in
      reach_on (one_cell w k x i n kd cells (items (assigned_cells k x (suc i) [] m) K) held l)
      (turned q f g cs w (zero_cells (over s1 w) k x (suc i) m n kd (λ j. cond (eqb i j) (converted kd (pos 0)) (cells j)) K (omega (arith, e)) h1)
      (ap (λ s. At f g K [] cs (over s w)) s))
