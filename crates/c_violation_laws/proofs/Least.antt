-- The least of what a walk finds.
use Rattle.std.proofs.Common.{◌≡◌, ◌⊎◌, inl, inr, ℕ, ◌<◌, Bool, true, false, cond, ◌||◌, ◌&&◌, ◌==◌, nat_lt, [], ◌∷◌, Option, Some, None, refl, sym, ap, subst, ◌∙◌, arith, true≢false}
use Rattle.std.proofs.lemmas.Bool.{ltb-true, lt-ltb, eqb-true, eq-eqb, or_cases, and_parts, and_from, cases_order, or_right}
use Rattle.c_kinds.specs.declared.typed.Fault.{Fault}
use Rattle.c_kinds.specs.Scopes.{Faults}
use Rattle.c_scopes.specs.Resolving.{is_before, least_with, least}
use Rattle.c_reading_defs.specs.Violations.{IsLeast, IsFaultless}
use Rattle.c_violation_laws.specs.Finds.{IsAmong, Finds}
use Rattle.c_violation_laws.proofs.Finding.{Rule}

-- ---- the order of places and reasons

abbrev Before : Fault → Fault → Type 0
Before a b = (a.at < b.at) ⊎ ((a.at ≡ b.at) × (a.reason < b.reason))

before_of : (a b : Fault) → is_before a b ≡ true → Before a b
before_of a b e = elim (or_cases (nat_lt a.at b.at) (a.at == b.at && nat_lt a.reason b.reason) e) [
  | inl p ↦ inl (ltb-true a.at b.at p)
  | inr p ↦ let q = and_parts (a.at == b.at) (nat_lt a.reason b.reason) p in inr (eqb-true a.at b.at q.0, ltb-true a.reason b.reason q.1)
]

of_before : (a b : Fault) → Before a b → is_before a b ≡ true
of_before a b (inl p) = ap (λ x. x || (a.at == b.at && nat_lt a.reason b.reason)) (lt-ltb a.at b.at p)
of_before a b (inr p) = or_right (nat_lt a.at b.at) (a.at == b.at && nat_lt a.reason b.reason)
    (and_from (a.at == b.at) (nat_lt a.reason b.reason) (eq-eqb a.at b.at p.0) (lt-ltb a.reason b.reason p.1))

through : (a b c : ℕ) → a < b → b < c → a < c
through a b c h k = omega arith

left_same : (a b c : ℕ) → a ≡ b → b < c → a < c
left_same a b c h k = omega arith

right_same : (a b c : ℕ) → a < b → b ≡ c → a < c
right_same a b c h k = omega arith

not_less : (a : ℕ) → a < a → ⊥
not_less a h = omega arith

both_before : (a b c : Fault) → Before a b → Before b c → Before a c
both_before a b c (inl p) (inl q) = inl (through a.at b.at c.at p q)
both_before a b c (inl p) (inr q) = inl (right_same a.at b.at c.at p q.0)
both_before a b c (inr p) (inl q) = inl (left_same a.at b.at c.at p.0 q)
both_before a b c (inr p) (inr q) = inr (p.0 ∙ q.0, through a.reason b.reason c.reason p.1 q.1)

not_itself : (a : Fault) → Before a a → ⊥
not_itself a (inl p) = not_less a.at p
not_itself a (inr p) = not_less a.reason p.1

same_fault : (a b : Fault) → a.at ≡ b.at → a.reason ≡ b.reason → a ≡ b
same_fault a b e g = λ i. record { at = e i; reason = g i }

compared : (a b : Fault) → (a ≡ b) ⊎ (Before a b ⊎ Before b a)
compared a b = elim (cases_order a.at b.at) [
  | inl e ↦ elim (cases_order a.reason b.reason) [
    | inl g ↦ inl (same_fault a b e g)
    | inr g ↦ elim g [ inl h ↦ inr (inl (inr (e, h))) | inr h ↦ inr (inr (inr (sym e, h))) ]
  ]
  | inr g ↦ elim g [ inl h ↦ inr (inl (inl h)) | inr h ↦ inr (inr (inl h)) ]
]

-- ---- of a list, and one that was found before

record HasLeast (found : Fault) (vs : Faults) (o : Option Fault) : Type 0 where
  least : Fault
  is : o ≡ Some least
  there : (least ≡ found) ⊎ IsAmong least vs
  not_found : Before found least → ⊥
  first : (w : Fault) → IsAmong w vs → Before w least → ⊥

least_behind : (vs : Faults) (found : Fault) → HasLeast found vs (least_with (Some found) vs)
least_behind [] found = record { least = found; is = refl; there = inl refl; not_found = not_itself found; first = λ w h. absurd h }
least_behind (x ∷ xs) found = by (is_before x found) refl (λ f. least_behind xs f)
  where
    by : (b : Bool) → is_before x found ≡ b → ((f : Fault) → HasLeast f xs (least_with (Some f) xs)) →
        HasLeast found (x ∷ xs) (least_with (Some (cond b x found)) xs)
    by true e r =
        let q = r x in
        record {
          least = q.least;
          is = q.is;
          there = elim q.there [ inl s ↦ inr (inl s) | inr h ↦ inr (inr h) ];
          not_found = λ h. q.not_found (both_before x found q.least (before_of x found e) h);
          first = λ w h k. elim h [ inl s ↦ q.not_found (subst (λ z. Before z q.least) s k) | inr m ↦ q.first w m k ];
        }
    by false e r =
        let q = r found in
        let not_x : Before x q.least → ⊥ = λ h. elim (compared found q.least) [
          | inl s ↦ true≢false (sym (of_before x found (subst (λ z. Before x z) (sym s) h)) ∙ e)
          | inr k ↦ elim k [ inl l ↦ q.not_found l | inr g ↦ true≢false (sym (of_before x found (both_before x q.least found h g)) ∙ e) ]
        ] in
        record {
          least = q.least;
          is = q.is;
          there = elim q.there [ inl s ↦ inl s | inr h ↦ inr (inr h) ];
          not_found = q.not_found;
          first = λ w h k. elim h [ inl s ↦ not_x (subst (λ z. Before z q.least) s k) | inr m ↦ q.first w m k ];
        }

some_same : (o : Option Fault) (a b : Fault) → o ≡ Some a → o ≡ Some b → a ≡ b
some_same o a b e g = cc

some_none : (o : Option Fault) (a : Fault) → o ≡ Some a → o ≡ None → ⊥
some_none o a e g = cc

abbrev IsFirst : Fault → Faults → Type 0
IsFirst v vs = IsAmong v vs × ((w : Fault) → IsAmong w vs → Before w v → ⊥)

among_least : (x : Fault) (xs : Faults) (q : HasLeast x xs (least_with (Some x) xs)) → IsFirst q.least (x ∷ xs)
among_least x xs q = (
  elim q.there [ inl s ↦ inl s | inr h ↦ inr h ],
  λ w h k. elim h
      [ inl s ↦ q.not_found (subst (λ z. Before z q.least) s k) | inr m ↦ q.first w m k ],
)

least_first : (vs : Faults) (v : Fault) → least vs ≡ Some v → IsFirst v vs
least_first [] v e = cc
least_first (x ∷ xs) v e =
    let q = least_behind xs x in subst (λ z. IsFirst z (x ∷ xs)) (some_same (least_with (Some x) xs) q.least v q.is e) (among_least x xs q)

one_first : (vs : Faults) (u v : Fault) → IsFirst u vs → IsFirst v vs → u ≡ v
one_first vs u v h k = elim (compared u v) [ inl e ↦ e | inr c ↦ elim c [ inl l ↦ absurd (k.1 u h.0 l) | inr g ↦ absurd (h.1 v k.0 g) ] ]

first_least : (vs : Faults) (v : Fault) → IsFirst v vs → least vs ≡ Some v
first_least [] v h = absurd h.0
first_least (x ∷ xs) v h = let q = least_behind xs x in q.is ∙ ap Some (one_first (x ∷ xs) q.least v (among_least x xs q) h)

least_none : (vs : Faults) → least vs ≡ None → (v : Fault) → IsAmong v vs → ⊥
least_none [] e v h = h
least_none (x ∷ xs) e v h = let q = least_behind xs x in some_none (least_with (Some x) xs) q.least q.is e

none_least : (vs : Faults) → ((v : Fault) → IsAmong v vs → ⊥) → least vs ≡ None
none_least [] f = refl
none_least (x ∷ xs) f = absurd (f x (inl refl))

-- ---- of a walk

module _ (walk : Faults → Faults) (P : Rule) (finds : Finds walk P) where
  broken_of : (v : Fault) → IsAmong v (walk []) → P v
  broken_of v h = elim ((finds v []).0 h) [ inl p ↦ p | inr k ↦ absurd k ]

  of_broken : (v : Fault) → P v → IsAmong v (walk [])
  of_broken v p = (finds v []).1 (inl p)

  pub the_least : (v : Fault) → least (walk []) ≡ Some v → IsLeast P v
  the_least v e =
      let h = least_first (walk []) v e in
      record { is = broken_of v h.0; first = λ w p b. h.1 w (of_broken w p) (before_of w v b) }

  pub least_back : (v : Fault) → IsLeast P v → least (walk []) ≡ Some v
  least_back v h = first_least (walk []) v (of_broken v h.is, λ w k b. h.first w (broken_of w k) (of_before w v b))

  pub the_faultless : least (walk []) ≡ None → IsFaultless P
  the_faultless e v p = least_none (walk []) e v (of_broken v p)

  pub faultless_back : IsFaultless P → least (walk []) ≡ None
  faultless_back f = none_least (walk []) (λ v h. f v (broken_of v h))
