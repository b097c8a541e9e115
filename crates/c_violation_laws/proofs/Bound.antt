-- What the walk looks up is what a name is bound to.
use Rattle.std.proofs.Common.{◌≡◌, inl, inr, ℕ, Bool, true, false, cond, List, [], ◌∷◌, Option, Some, None, refl, sym, ap, ◌∙◌, bytes_eq, true≢false}
use Rattle.c_kinds.specs.declared.binding.Binding.{Binding}
use Rattle.c_kinds.specs.Scopes.{Scope, found, or_else, look_up}
use Rattle.c_kinds.proofs.Entries.{same_names, names_same}
use Rattle.c_reading_defs.specs.Bindings.{DeclaresNot, DeclaresAs, IsBoundTo, IsUnbound}

other : (name other : List ℕ) → bytes_eq name other ≡ false → other ≡ name → ⊥
other name m e g = true≢false (sym (names_same name m (sym g)) ∙ e)

pub not_there : (name : List ℕ) (s : Scope) → found name s ≡ None → DeclaresNot name s
not_there name [] e = tt
not_there name (d ∷ ds) e = by (bytes_eq name d.0) refl (λ g. not_there name ds g) e
  where
    by : (b : Bool) → bytes_eq name d.0 ≡ b → (found name ds ≡ None → DeclaresNot name ds) → cond b (Some d.1) (found name ds) ≡ None →
        DeclaresNot name (d ∷ ds)
    by true i f e = cc
    by false i f e = (other name d.0 i, f e)

pub there_not : (name : List ℕ) (s : Scope) → DeclaresNot name s → found name s ≡ None
there_not name [] h = refl
there_not name (d ∷ ds) h = by (bytes_eq name d.0) refl (there_not name ds h.1)
  where
    by : (b : Bool) → bytes_eq name d.0 ≡ b → found name ds ≡ None → cond b (Some d.1) (found name ds) ≡ None
    by true i f = absurd (h.0 (sym (same_names name d.0 i)))
    by false i f = f

pub there : (name : List ℕ) (b : Binding) (s : Scope) → found name s ≡ Some b → DeclaresAs name b s
there name b [] e = cc
there name b (d ∷ ds) e = by (bytes_eq name d.0) refl (λ g. there name b ds g) e
  where
    by : (t : Bool) → bytes_eq name d.0 ≡ t → (found name ds ≡ Some b → DeclaresAs name b ds) → cond t (Some d.1) (found name ds) ≡ Some b →
        DeclaresAs name b (d ∷ ds)
    by true i f e = let same : d.1 ≡ b = cc in inl (sym (same_names name d.0 i), same)
    by false i f e = inr (other name d.0 i, f e)

pub there_back : (name : List ℕ) (b : Binding) (s : Scope) → DeclaresAs name b s → found name s ≡ Some b
there_back name b [] h = absurd h
there_back name b (d ∷ ds) h = by (bytes_eq name d.0) refl (λ g. there_back name b ds g) h
  where
    by : (t : Bool) → bytes_eq name d.0 ≡ t → (DeclaresAs name b ds → found name ds ≡ Some b) → DeclaresAs name b (d ∷ ds) →
        cond t (Some d.1) (found name ds) ≡ Some b
    by true i f (inl p) = ap Some p.1
    by true i f (inr p) = absurd (p.0 (sym (same_names name d.0 i)))
    by false i f (inl p) = absurd (true≢false (sym (names_same name d.0 (sym p.0)) ∙ i))
    by false i f (inr p) = f p.1

-- ---- scopes round a place

pub unbound_of : (name : List ℕ) (ss : List Scope) → look_up ss name ≡ None → IsUnbound name ss
unbound_of name [] e = tt
unbound_of name (s ∷ ss) e = by (found name s) refl (λ g. unbound_of name ss g) e
  where
    by : (o : Option Binding) → found name s ≡ o → (look_up ss name ≡ None → IsUnbound name ss) → or_else o (look_up ss name) ≡ None → IsUnbound name (s ∷ ss)
    by (Some x) i f e = cc
    by None i f e = (not_there name s i, f e)

pub unbound_back : (name : List ℕ) (ss : List Scope) → IsUnbound name ss → look_up ss name ≡ None
unbound_back name [] h = refl
unbound_back name (s ∷ ss) h = ap (λ o. or_else o (look_up ss name)) (there_not name s h.0) ∙ unbound_back name ss h.1

pub bound_of : (name : List ℕ) (b : Binding) (ss : List Scope) → look_up ss name ≡ Some b → IsBoundTo name b ss
bound_of name b [] e = cc
bound_of name b (s ∷ ss) e = by (found name s) refl (λ g. bound_of name b ss g) e
  where
    by : (o : Option Binding) → found name s ≡ o → (look_up ss name ≡ Some b → IsBoundTo name b ss) → or_else o (look_up ss name) ≡ Some b →
        IsBoundTo name b (s ∷ ss)
    by (Some x) i f e = inl (there name b s (i ∙ e))
    by None i f e = inr (not_there name s i, f e)

pub bound_back : (name : List ℕ) (b : Binding) (ss : List Scope) → IsBoundTo name b ss → look_up ss name ≡ Some b
bound_back name b [] h = absurd h
bound_back name b (s ∷ ss) (inl p) = ap (λ o. or_else o (look_up ss name)) (there_back name b s p)
bound_back name b (s ∷ ss) (inr p) = ap (λ o. or_else o (look_up ss name)) (there_not name s p.0) ∙ bound_back name b ss p.1
