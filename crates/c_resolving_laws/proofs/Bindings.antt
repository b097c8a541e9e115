-- A name that is bound is found, and every other name is what it was.
use Rattle.std.proofs.Common.{ℕ, Bool, true, false, cond, List, [], ◌∷◌, Option, Some, None, is_some, ◌≡◌, refl, sym, ap, subst, ◌∙◌, bytes_eq}
use Rattle.std.specs.Prelude.{IfSome}
use Rattle.std.specs.Option.{option_or}
use Rattle.c_kinds.specs.declared.binding.Binding.{Binding}
use Rattle.c_kinds.specs.declared.binding.Binding.TheVariants.{Constant, Global, Local, Function, Printf}
use Rattle.c_kinds.proofs.Entries.{same_names, found_new}
use Rattle.c_kinds.specs.Scopes.{Scope, Names, found, with_entry, look_up, bind, is_bound, or_else}
use Rattle.c_resolved_defs.specs.Names as Tree
use Rattle.c_resolved_defs.specs.Scopes as Scopes
use Rattle.c_resolved_defs.specs.Scopes.{Meaning}
use Rattle.c_resolving_laws.proofs.Known.{IsKnown, Knows}

-- ---- scopes

chosen_else : {X : Type 0} (t : Bool) (b : X) (o u : Option X) → or_else (cond t (Some b) o) u ≡ cond t (Some b) (or_else o u)
chosen_else true b o u = refl
chosen_else false b o u = refl

chosen_or : {X : Type 0} (t : Bool) (b : X) (o u : Option X) → option_or (cond t (Some b) o) u ≡ cond t (Some b) (option_or o u)
chosen_or true b o u = refl
chosen_or false b o u = refl

-- a new name
pub look_up_bound : (q m : List ℕ) (b : Binding) (s : Scope) (ss : List Scope) → is_bound m (s ∷ ss) ≡ false →
    look_up (bind m b (s ∷ ss)) q ≡ cond (bytes_eq q m) (Some b) (look_up (s ∷ ss) q)
look_up_bound q m b s ss h = ap (λ o. or_else o (look_up ss q)) (found_new q m b s h) ∙ chosen_else (bytes_eq q m) b (found q s) (look_up ss q)

pub look_up_tree : (q m : List ℕ) (b : Meaning) (ss : List Scopes.Scope) →
    Scopes.look_up (Scopes.bind m b ss) q ≡ cond (bytes_eq q m) (Some b) (Scopes.look_up ss q)
look_up_tree q m b [] = chosen_or (bytes_eq q m) b None None
look_up_tree q m b (s ∷ ss) = chosen_or (bytes_eq q m) b (Scopes.found q s) (Scopes.look_up ss q)

module _ (n : Tree.Names) where
  known_moved : (ss tt' : List Scopes.Scope) (q : List ℕ) (b : Binding) → Scopes.look_up tt' q ≡ Scopes.look_up ss q → IsKnown n ss q b → IsKnown n tt' q b
  known_moved ss tt' q (Constant v) e h = (h.0, e ∙ h.1)
  known_moved ss tt' q (Global shape) e h = (h.0, e ∙ h.1)
  known_moved ss tt' q (Local k shape) e h = (h.0, e ∙ h.1)
  known_moved ss tt' q (Function s) e h = (h.0, e ∙ h.1)
  known_moved ss tt' q Printf e h = (h.0, e ∙ h.1)

  known_if : (ss tt' : List Scopes.Scope) (q : List ℕ) (o : Option Binding) → Scopes.look_up tt' q ≡ Scopes.look_up ss q → IfSome o (IsKnown n ss q) →
      IfSome o (IsKnown n tt' q)
  known_if ss tt' q None e h = tt
  known_if ss tt' q (Some b) e h = known_moved ss tt' q b e h

  -- behind a declared name
  pub knows_bound : (word : ℕ → List ℕ) (m : List ℕ) (b : Binding) (μ : Meaning) (scopes : List Scope) (ss : List Scopes.Scope) →
      is_bound m scopes ≡ false → IsKnown n (Scopes.bind m μ ss) m b
      → Knows n ss (record { word = word; scopes = scopes }) → Knows n (Scopes.bind m μ ss) (record { word = word; scopes = bind m b scopes })
  knows_bound word m b μ [] ss h k old q = tt
  knows_bound word m b μ (s ∷ scopes) ss h k old q =
      subst (λ o. IfSome o (IsKnown n (Scopes.bind m μ ss) q)) (sym (look_up_bound q m b s scopes h)) (by (bytes_eq q m) refl)
    where
      by : (t : Bool) → bytes_eq q m ≡ t → IfSome (cond t (Some b) (look_up (s ∷ scopes) q)) (IsKnown n (Scopes.bind m μ ss) q)
      by true e = subst (λ w. IsKnown n (Scopes.bind m μ ss) w b) (sym (same_names q m e)) k
      by false e = known_if ss (Scopes.bind m μ ss) q (look_up (s ∷ scopes) q)
          (look_up_tree q m μ ss ∙ ap (λ t. cond t (Some μ) (Scopes.look_up ss q)) e) (old q)

  pub knows_inside : (word : ℕ → List ℕ) (scopes : List Scope) (ss : List Scopes.Scope) → Knows n ss (record { word = word; scopes = scopes }) →
      Knows n ([] ∷ ss) (record { word = word; scopes = [] ∷ scopes })
  knows_inside word scopes ss old q = known_if ss ([] ∷ ss) q (look_up scopes q) refl (old q)
