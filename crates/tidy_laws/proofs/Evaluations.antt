-- Two evaluations that come to the same side by side, where what they yield is related.
use Rattle.std.proofs.Common.{◌≡◌}
use Rattle.jump_meaning.specs.World.{World}
use Rattle.struct_meaning.specs.Structural.{Evaluation, Yields, Faults, Quits, Spent, and_then}

-- both yield what R relates, or both stop in the same way with the same events
abbrev pub Alike : {A B : Type 0} → (A → World → B → World → Type 0) → Evaluation A → Evaluation B → Type 0
Alike R (Yields a w) (Yields b u) = R a w b u
Alike R (Faults t w) (Faults s u) = (s ≡ t) × (u.events ≡ w.events)
Alike R (Quits n w) (Quits k u) = (k ≡ n) × (u.events ≡ w.events)
Alike R (Spent w) (Spent u) = u.events ≡ w.events
Alike R _ _ = ⊥

pub bind_alike : {A B C D : Type 0} (R : A → World → B → World → Type 0) (S : C → World → D → World → Type 0) (x : Evaluation A) (y : Evaluation B)
    (f : A → World → Evaluation C) (g : B → World → Evaluation D)
    → Alike R x y → ((a : A) (w : World) (b : B) (u : World) → R a w b u → Alike S (f a w) (g b u)) → Alike S (and_then x f) (and_then y g)
bind_alike R S (Yields a w) (Yields b u) f g h k = k a w b u h
bind_alike R S (Faults t w) (Faults s u) f g h k = h
bind_alike R S (Quits n w) (Quits m u) f g h k = h
bind_alike R S (Spent w) (Spent u) f g h k = h
bind_alike R S (Yields a w) _ f g h k = absurd h
bind_alike R S (Faults t w) _ f g h k = absurd h
bind_alike R S (Quits n w) _ f g h k = absurd h
bind_alike R S (Spent w) _ f g h k = absurd h

-- what is related more loosely
pub looser : {A B : Type 0} (R S : A → World → B → World → Type 0) (x : Evaluation A) (y : Evaluation B) →
    ((a : A) (w : World) (b : B) (u : World) → R a w b u → S a w b u) → Alike R x y → Alike S x y
looser R S (Yields a w) (Yields b u) k h = k a w b u h
looser R S (Faults t w) (Faults s u) k h = h
looser R S (Quits n w) (Quits m u) k h = h
looser R S (Spent w) (Spent u) k h = h
looser R S (Yields a w) _ k h = absurd h
looser R S (Faults t w) _ k h = absurd h
looser R S (Quits n w) _ k h = absurd h
looser R S (Spent w) _ k h = absurd h
