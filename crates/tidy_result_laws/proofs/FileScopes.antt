-- At file scope no name is bound to a slot, and behind the parameters each is bound to one of them.
use Rattle.std.proofs.Common.{◌≡◌, ℕ, zero, suc, ◌+◌, ◌<◌, ◌≤◌, Bool, true, false, cond, List, [], ◌∷◌, map, Option, Some, None, bytes_eq, sym, ap, ◌∙◌, subst, arith}
use Rattle.std.specs.Option.{option_or}
use Rattle.c_types.specs.Words.{known_functions}
use Rattle.c_tree.specs.declared.tree.EnumItem.{EnumItem}
use Rattle.c_tree.specs.declared.tree.Home.TheVariants as H
use Rattle.c_tree.specs.declared.tree.Slot.{Slot}
use Rattle.c_tree.specs.declared.tree.Top.{Top}
use Rattle.c_tree.specs.declared.tree.Top.TheVariants as T
use Rattle.c_resolved_defs.specs.Scopes.{Meaning, AConstant, AVariable, AFunction, Scope, found, look_up, bind, inside, bind_parameter, with_parameters, bind_constants, behind_top, at_start}
use Rattle.tidy_result_laws.proofs.TrimBound.{look_bound}

-- each slot that a name is bound to has a number below this one
abbrev pub AreBelow : ℕ → List Scope → Type 0
AreBelow n ss = (m : List ℕ) (k : ℕ) → look_up ss m ≡ Some (AVariable (H.Slot k)) → k < n

-- the number of the slot that a meaning is
abbrev slot_or : ℕ → Option Meaning → ℕ
slot_or d (Some (AVariable (H.Slot k))) = k
slot_or d _ = d

abbrev IsBelow : ℕ → Meaning → Type 0
IsBelow n (AVariable (H.Slot k)) = k < n
IsBelow n _ = Unit {0}

below : (n : ℕ) (b : Meaning) (k : ℕ) → IsBelow n b → Some b ≡ Some (AVariable (H.Slot k)) → k < n
below n (AVariable (H.Slot j)) k h e = subst (λ i. i < n) (ap (slot_or j) e) h
below n (AVariable (H.Global m)) k h e = cc
below n (AConstant z) k h e = cc
below n AFunction k h e = cc

none_some : {A : Type 0} {a : A} → None ≡ Some a → ⊥
none_some e = cc

module _ (n : ℕ) where
  below_bind : (name : List ℕ) (b : Meaning) (ss : List Scope) → IsBelow n b → AreBelow n ss → AreBelow n (bind name b ss)
  below_bind name b ss i h m k e = at (bytes_eq m name) (sym (look_bound m name b ss) ∙ e)
    where
      at : (t : Bool) → cond t (Some b) (look_up ss m) ≡ Some (AVariable (H.Slot k)) → k < n
      at true e = below n b k i e
      at false e = h m k e

  below_constants : (xs : List EnumItem) (ss : List Scope) → AreBelow n ss → AreBelow n (bind_constants xs ss)
  below_constants [] ss h = h
  below_constants (x ∷ xs) ss h = below_constants xs (bind x.name (AConstant x.value) ss) (below_bind x.name (AConstant x.value) ss tt h)

  pub below_top : (t : Top) (ss : List Scope) → AreBelow n ss → AreBelow n (behind_top ss t)
  below_top (T.Enum xs) ss h = below_constants xs ss h
  below_top (T.Global g) ss h = below_bind g.slot.name (AVariable (H.Global g.slot.name)) ss tt h
  below_top (T.Function f) ss h = below_bind f.name AFunction ss tt h
  below_top _ ss h = h

  library : (ms : List (List ℕ)) (m : List ℕ) (k : ℕ) → option_or (found m (map (λ w. (w, AFunction)) ms)) None ≡ Some (AVariable (H.Slot k)) → k < n
  library [] m k e = absurd (none_some e)
  library (w ∷ ms) m k e = at (bytes_eq m w) (library ms m k) e
    where
      at : (t : Bool) → (option_or (found m (map (λ w. (w, AFunction)) ms)) None ≡ Some (AVariable (H.Slot k)) → k < n) →
          option_or (cond t (Some AFunction) (found m (map (λ w. (w, AFunction)) ms))) None ≡ Some (AVariable (H.Slot k)) → k < n
      at true f e = cc
      at false f e = f e

  pub below_start : AreBelow n at_start
  below_start m k e = library known_functions m k e

  pub below_inside : (ss : List Scope) → AreBelow n ss → AreBelow n (inside ss)
  below_inside ss h m k e = h m k e

  below_parameter : (name : List ℕ) (i : ℕ) (ss : List Scope) → i < n → AreBelow n ss → AreBelow n (bind_parameter name i ss)
  below_parameter [] i ss l h = h
  below_parameter (b ∷ bs) i ss l h = below_bind (b ∷ bs) (AVariable (H.Slot i)) ss l h

  pub below_parameters : (p i : ℕ) (slots : List Slot) (ss : List Scope) → i + p ≤ n → AreBelow n ss → AreBelow n (with_parameters p i slots ss)
  below_parameters zero i slots ss l h = h
  below_parameters (suc p) i [] ss l h = h
  below_parameters (suc p) i (s ∷ slots) ss l h = below_parameters p (suc i) slots (bind_parameter s.name i ss) (omega (arith, l))
      (below_parameter s.name i ss (omega (arith, l)) h)
