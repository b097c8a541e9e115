-- What the expressions and statements that stand for guards come to, step by step.
use Rattle.std.proofs.Common.{ℕ, ℤ, Bool, true, false, not, List, ◌∷◌, ◌≡◌, refl, ap, ◌∙◌}
use Rattle.c_types.specs.declared.kinds.IntKind.TheVariants.{Int}
use Rattle.c_tree.specs.Operators.{truth, is_zero}
use Rattle.c_tree.specs.ExpressionTrees.{ExpressionTree}
use Rattle.jump_meaning.specs.Values.{OfCall, Variable, Holds, Lent, Value, Integer, Designates, Event}
use Rattle.jump_meaning.specs.Code.{Code}
use Rattle.jump_meaning.specs.World.{holder, number_held, put, with_number}
use Rattle.jump_meaning.specs.Effects.{Computes, Stores, Drops}
use Rattle.jump_meaning.specs.Tasks.{Task, Runs, Works}
use Rattle.jump_meaning.specs.Step.{Guards, Frame, State, At}
use Rattle.jump_meaning.specs.Runs.{run}
use Rattle.c_tree.specs.Numerals.{number}
use Rattle.plain_laws.specs.GuardSlots.{guard, guard_off, guard_set}
use Rattle.plain_laws.proofs.Memories.{Variables}
use Rattle.plain_laws.proofs.Relation.{IsBit, world}
use Rattle.plain_laws.proofs.Carried.{set_variable}

pub holder_is : (c x : ℕ) (u : Variable) (b : Bool) → IsBit u b → holder (OfCall c x) u ≡ OfCall c x
holder_is c x (Holds k n cells) b h = refl
holder_is c x (Lent o) b h = absurd h

number_is : (u : Variable) (b : Bool) → IsBit u b → number_held u 0 ≡ truth b
number_is (Holds k n cells) b h = h.2
number_is (Lent o) b h = absurd h

turned : (b : Bool) → truth (is_zero (truth b)) ≡ truth (not b)
turned true = refl
turned false = refl

module _ (q : Code) (f : List ℕ) (g : Guards) (cs : List Frame) (v : Variables) (c cells : ℕ) (input : List ℕ) (answers : List ℤ) (events : List Event) where
  abbrev there : List Task → List Value → State
  there k u = At f g k u cs (world v c cells input answers events)

  found : (x : ℕ) (b : Bool) → IsBit (v (OfCall c x)) b → holder (OfCall c x) (v (OfCall c x)) ≡ OfCall c x
  found x b h = holder_is c x (v (OfCall c x)) b h

  -- a guard is read in three steps
  pub reads : (x : ℕ) (b : Bool) (k : List Task) (u : List Value) → IsBit (v (OfCall c x)) b →
      run q 3 (there (Works (Computes (guard x)) ∷ k) u) ≡ there k (Integer (truth b) ∷ u)
  reads x b k u h = ap (λ o. there k (Integer (number_held (v o) 0) ∷ u)) (found x b h) ∙ ap (λ z. there k (Integer z ∷ u)) (number_is (v (OfCall c x)) b h)

  -- and turned round in five
  pub reads_off : (x : ℕ) (b : Bool) (k : List Task) (u : List Value) → IsBit (v (OfCall c x)) b →
      run q 5 (there (Works (Computes (guard_off x)) ∷ k) u) ≡ there k (Integer (truth (not b)) ∷ u)
  reads_off x b k u h =
      ap (λ o. there k (Integer (truth (is_zero (number_held (v o) 0))) ∷ u)) (found x b h)
      ∙ ap (λ z. there k (Integer (truth (is_zero z)) ∷ u)) (number_is (v (OfCall c x)) b h)
      ∙ ap (λ z. there k (Integer z ∷ u)) (turned b)

  -- a guard is set to 0 or 1 in six steps
  pub sets : (x : ℕ) (b d : Bool) (k : List Task) (u : List Value) → IsBit (v (OfCall c x)) d
      → run q 6 (there (Runs (guard_set x (number Int (truth b))) ∷ k) u) ≡ At f g k u cs (world (set_variable c x b v) c cells input answers events)
  sets x b d k u h = ap (λ o. At f g k u cs (world (put o (with_number 0 (truth b) (v o)) v) c cells input answers events)) (found x d h)

  -- until the value is evaluated, in three
  pub sets_by : (x : ℕ) (d : Bool) (e : ExpressionTree) (k : List Task) (u : List Value) → IsBit (v (OfCall c x)) d
      → run q 3 (there (Runs (guard_set x e) ∷ k) u) ≡ there (Works (Computes e) ∷ Works Stores ∷ Works Drops ∷ k) (Designates (OfCall c x) 0 ∷ u)
  sets_by x d e k u h = ap (λ o. there (Works (Computes e) ∷ Works Stores ∷ Works Drops ∷ k) (Designates o 0 ∷ u)) (found x d h)
