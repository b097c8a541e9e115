-- A name that is looked up is what it is bound to.
use Rattle.std.proofs.Common.{◌≡◌, ◌≢◌, inl, inr, ℕ, Bool, true, false, cond, List, [], ◌∷◌, Option, Some, None, refl, ap, sym, ◌∙◌}
use Rattle.std.specs.Str.{bytes_eq}
use Rattle.std.proofs.lemmas.Slice.Eq.{bytes_eq-Decides}
use Rattle.c_kinds.specs.declared.binding.Binding.{Binding}
use Rattle.c_kinds.specs.Scopes.{Scope, found, look_up, or_else}
use Rattle.c_reading_defs.specs.Bindings.{DeclaresNot, DeclaresAs, IsBoundTo, IsUnbound}
use Rattle.c_violation_laws.proofs.Bound.{there_not, there_back}

-- what a test of two names says
data Same (a b : List ℕ) : Bool → Type 0 where
  same : a ≡ b → Same a b true
  other : a ≢ b → Same a b false

same_by : (a b : List ℕ) (t : Bool) → (t ≡ true → a ≡ b) → (a ≡ b → t ≡ true) → Same a b t
same_by a b true to fro = same (to refl)
same_by a b false to fro = other (λ e. let k : false ≡ true = fro e in cc)

same_if : (a b : List ℕ) → Same a b (bytes_eq a b)
same_if a b = same_by a b (bytes_eq a b) (bytes_eq-Decides a b).0 (bytes_eq-Decides a b).1

found_by : (name : List ℕ) (b : Binding) (d : List ℕ × Binding) (ds : Scope) (t : Bool) → (found name ds ≡ Some b → DeclaresAs name b ds) → Same name d.0 t
    → cond t (Some d.1) (found name ds) ≡ Some b → DeclaresAs name b (d ∷ ds)
found_by name b d ds true rest (same h) e = let k : d.1 ≡ b = cc in inl (sym h, k)
found_by name b d ds false rest (other h) e = inr (λ k. h (sym k), rest e)

found_is : (name : List ℕ) (b : Binding) (s : Scope) → found name s ≡ Some b → DeclaresAs name b s
found_is name b [] e = cc
found_is name b (d ∷ ds) e = found_by name b d ds (bytes_eq name d.0) (found_is name b ds) (same_if name d.0) e

lost_by : (name : List ℕ) (d : List ℕ × Binding) (ds : Scope) (t : Bool) → (found name ds ≡ None → DeclaresNot name ds) → Same name d.0 t
    → cond t (Some d.1) (found name ds) ≡ None → DeclaresNot name (d ∷ ds)
lost_by name d ds true rest (same h) e = cc
lost_by name d ds false rest (other h) e = (λ k. h (sym k), rest e)

lost_not : (name : List ℕ) (s : Scope) → found name s ≡ None → DeclaresNot name s
lost_not name [] e = tt
lost_not name (d ∷ ds) e = lost_by name d ds (bytes_eq name d.0) (lost_not name ds) (same_if name d.0) e

bound_by : (name : List ℕ) (s : Scope) (ss : List Scope) (b : Binding) (o : Option Binding) → (look_up ss name ≡ Some b → IsBoundTo name b ss)
    → found name s ≡ o → or_else o (look_up ss name) ≡ Some b → IsBoundTo name b (s ∷ ss)
bound_by name s ss b (Some x) rest f g = inl (found_is name b s (f ∙ g))
bound_by name s ss b None rest f g = inr (lost_not name s f, rest g)

pub bound_is : (name : List ℕ) (ss : List Scope) (b : Binding) → look_up ss name ≡ Some b → IsBoundTo name b ss
bound_is name [] b e = cc
bound_is name (s ∷ ss) b e = bound_by name s ss b (found name s) (bound_is name ss b) refl e

pub is_bound : (name : List ℕ) (ss : List Scope) (b : Binding) → IsBoundTo name b ss → look_up ss name ≡ Some b
is_bound name [] b h = absurd h
is_bound name (s ∷ ss) b (inl h) = ap (λ o. or_else o (look_up ss name)) (there_back name b s h)
is_bound name (s ∷ ss) b (inr h) = ap (λ o. or_else o (look_up ss name)) (there_not name s h.0) ∙ is_bound name ss b h.1

unbound_by : (name : List ℕ) (s : Scope) (ss : List Scope) (o : Option Binding) → (look_up ss name ≡ None → IsUnbound name ss)
    → found name s ≡ o → or_else o (look_up ss name) ≡ None → IsUnbound name (s ∷ ss)
unbound_by name s ss (Some x) rest f g = cc
unbound_by name s ss None rest f g = (lost_not name s f, rest g)

pub unbound_is : (name : List ℕ) (ss : List Scope) → look_up ss name ≡ None → IsUnbound name ss
unbound_is name [] e = tt
unbound_is name (s ∷ ss) e = unbound_by name s ss (found name s) (unbound_is name ss) refl e
