-- Scopes that are the same in a resolved program and where its text is read.
use Rattle.std.proofs.Common.{◌≡◌, ℕ, true, false, cond, List, [], ◌∷◌, Option, Some, None, is_some, refl, ap, sym, subst, ◌∙◌, bytes_eq}
use Rattle.std.specs.Option.{option_or}
use Rattle.c_kinds.specs.declared.binding.Binding.{Binding}
use Rattle.c_kinds.specs.Scopes.{Scope, found, look_up, or_else, with_name, bind, is_bound}
use Rattle.c_resolved_defs.specs.Names.{Names}
use Rattle.c_resolved_defs.specs.Scopes.{Meaning}
use Rattle.c_resolved_defs.specs.Scopes as resolved
use Rattle.reread_parts_laws.specs.Bindings.{IsInScope, binding_of, IsSame, IsSameScope, AreSameScopes, ScopesAgree}
use Rattle.c_kinds.proofs.Entries.{same_names, by_bool, found_new}

module _ (n : Names) where
  nearest : (m : List ℕ) (b : Meaning) (o : Option Meaning) (later : Option Meaning) (p q : Option Binding) → IsSame n m o p →
      (later ≡ Some b → q ≡ binding_of n m b) → option_or o later ≡ Some b → or_else p q ≡ binding_of n m b
  nearest m b (Some x) later p q h k e =
      let u : Some x ≡ Some b = e in
      there p q h.0 h.1 ∙ same x b u
    where
      there : (p q : Option Binding) → p ≡ binding_of n m x → is_some p ≡ true → or_else p q ≡ binding_of n m x
      there (Some y) q f g = f
      there None q f g = cc

      same : (x b : Meaning) → Some x ≡ Some b → binding_of n m x ≡ binding_of n m b
      same x b e = let f : x ≡ b = cc in ap (binding_of n m) f
  nearest m b None later p q h k e = ap (λ o. or_else o q) h ∙ k e

  -- what is bound in the program is found
  pub scopes_agree : (ss : List resolved.Scope) (ts : List Scope) → AreSameScopes n ss ts → ScopesAgree n ss ts
  scopes_agree [] [] h m b e = cc
  scopes_agree (s ∷ ss) (t ∷ ts) h m b e = nearest m b (resolved.found m s) (resolved.look_up ss m) (found m t) (look_up ts m) (h.0 m)
      (λ f. scopes_agree ss ts h.1 m b f) e
  scopes_agree [] (t ∷ ts) h m b e = absurd h
  scopes_agree (s ∷ ss) [] h m b e = absurd h

  -- ---- a new name

  absent : (m : List ℕ) (o : Option Meaning) (p : Option Binding) → IsSame n m o p → o ≡ None → p ≡ None
  absent m None p h e = h
  absent m (Some b) p h e = cc

  bound_one : (m : List ℕ) (x : Meaning) (b : Binding) (s : resolved.Scope) (t : Scope) → IsSameScope n s t → resolved.found m s ≡ None →
      Some b ≡ binding_of n m x → IsSameScope n ((m, x) ∷ s) (with_name m b t)
  bound_one m x b s t h e f k =
      let new : is_some (found m t) ≡ false = ap is_some (absent m (resolved.found m s) (found m t) (h m) e) in
      subst (IsSame n k (cond (bytes_eq k m) (Some x) (resolved.found k s))) (sym (found_new k m b t new))
      (by_bool (bytes_eq k m)
      (λ y. let same : k ≡ m = same_names k m y in
      subst (λ z. IsSame n k (cond z (Some x) (resolved.found k s)) (cond z (Some b) (found k t))) (sym y) (f ∙ ap (λ z. binding_of n z x) (sym same), refl))
      (λ y. subst (λ z. IsSame n k (cond z (Some x) (resolved.found k s)) (cond z (Some b) (found k t))) (sym y) (h k)))

  pub bind_same : (m : List ℕ) (x : Meaning) (b : Binding) (ss : List resolved.Scope) (ts : List Scope) → AreSameScopes n ss ts → IsInScope ss →
      resolved.IsNew m ss → Some b ≡ binding_of n m x
      → AreSameScopes n (resolved.bind m x ss) (bind m b ts)
  bind_same m x b [] [] h there e f = absurd there
  bind_same m x b (s ∷ ss) (t ∷ ts) h there e f = (bound_one m x b s t h.0 e f, h.1)
  bind_same m x b [] (t ∷ ts) h there e f = absurd h
  bind_same m x b (s ∷ ss) [] h there e f = absurd h

  -- which is not bound yet
  pub new_unbound : (m : List ℕ) (ss : List resolved.Scope) (ts : List Scope) → AreSameScopes n ss ts → resolved.IsNew m ss → is_bound m ts ≡ false
  new_unbound m [] [] h e = refl
  new_unbound m (s ∷ ss) (t ∷ ts) h e = ap is_some (absent m (resolved.found m s) (found m t) (h.0 m) e)
  new_unbound m [] (t ∷ ts) h e = absurd h
  new_unbound m (s ∷ ss) [] h e = absurd h
