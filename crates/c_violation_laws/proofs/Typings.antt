-- What the walk finds all expressions to be is the one typing.
use Rattle.std.proofs.Common.{◌≡◌, ◌⊎◌, inl, inr, refl, sym, subst, ◌∙◌}
use Rattle.c_grammar.specs.Terms.{Term}
use Rattle.c_kinds.specs.declared.typed.Typed.{Typed}
use Rattle.c_kinds.specs.declared.typed.Typed.TheVariants.{Value, Void, Text, Array, Wrong}
use Rattle.c_kinds.specs.Scopes.{Env}
use Rattle.c_kinds.specs.Typing.{typed}
use Rattle.c_reading_defs.specs.Meanings.{Means}
use Rattle.c_reading_defs.specs.Typings.{Typing, IsTyping}
use Rattle.c_violation_laws.proofs.Meanings.{is_typed, typed_is, wrong_not}

meant : (env : Env) (t : Term) (x : Typed) → typed env t ≡ x → Means env t (typed env t) ⊎ ((typed env t ≡ Wrong) × ((y : Typed) → Means env t y → ⊥))
meant env t (Value v) e = inl (typed_is env t (typed env t) refl (λ w. let g : ◌≡◌ {A = Typed} (Value v) Wrong = sym e ∙ w in cc))
meant env t (Void n) e = inl (typed_is env t (typed env t) refl (λ w. let g : ◌≡◌ {A = Typed} (Void n) Wrong = sym e ∙ w in cc))
meant env t (Text bytes) e = inl (typed_is env t (typed env t) refl (λ w. let g : ◌≡◌ {A = Typed} (Text bytes) Wrong = sym e ∙ w in cc))
meant env t (Array a) e = inl (typed_is env t (typed env t) refl (λ w. let g : ◌≡◌ {A = Typed} (Array a) Wrong = sym e ∙ w in cc))
meant env t Wrong e = inr (e, λ y h. wrong_not env t (subst (Means env t) (sym (is_typed env t y h) ∙ e) h))

pub typed_typing : IsTyping typed
typed_typing env t = meant env t (typed env t) refl

-- nothing that is found means nothing
wrong_by : (env : Env) (t : Term) → ((y : Typed) → Means env t y → ⊥) →
    Means env t (typed env t) ⊎ ((typed env t ≡ Wrong) × ((y : Typed) → Means env t y → ⊥)) → typed env t ≡ Wrong
wrong_by env t h (inl m) = absurd (h (typed env t) m)
wrong_by env t h (inr n) = n.0

same_by : (typing : Typing) (env : Env) (t : Term) → Means env t (typing env t) ⊎ ((typing env t ≡ Wrong) × ((y : Typed) → Means env t y → ⊥)) →
    typing env t ≡ typed env t
same_by typing env t (inl m) = sym (is_typed env t (typing env t) m)
same_by typing env t (inr n) = n.0 ∙ sym (wrong_by env t n.1 (typed_typing env t))

pub sole_typing : (typing : Typing) → IsTyping typing → typing ≡ typed
sole_typing typing h = λ i env t. same_by typing env t (h env t) i
