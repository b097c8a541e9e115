-- A derivation where a higher level may be needed: brackets stand round it exactly where its own is lower.
use Rattle.std.proofs.Common.{◌≡◌, ◌<◌, ◌≤◌, ℕ, Bool, true, false, cond, nat_lt, List, ◌∷◌, refl, ap, sym, ◌∙◌, arith}
use Rattle.std.proofs.lemmas.Bool.{ltb-false, le-ltb, lt-ltb}
use Rattle.c_grammar.specs.declared.class.Class.{Class}
use Rattle.c_grammar.specs.declared.class.Class.TheVariants as c
use Rattle.c_grammar.specs.Classes.{level}
use Rattle.c_grammar.specs.Events.{Event, Counted, Uncounted}
use Rattle.c_grammar.specs.Expressions.{Expression, One, More, To, Value, Choose, Only, Binary, Single, Both, Within, root, is_lone, expression_tokens, assignment_tokens, conditional_tokens, binary_tokens, unary_tokens, FitsExpression, FitsAssignment, FitsConditional, FitsBinary, FitsUnary}
use Rattle.c_grammar.specs.Counts.{expression_events, assignment_events, conditional_events, binary_events, unary_events}
use Rattle.print_laws.specs.ExpressionDerivations.{as_assignment, as_conditional, as_binary, as_unary}

-- the level of a derivation
abbrev pub loose : Expression → ℕ
loose (More a e) = 1
loose (One (To t m a)) = 2
loose (One (Value (Choose b e d))) = 3
loose (One (Value (Only b))) = root b

abbrev pub bracketed_tokens : Bool → Expression → List Class → List Class
bracketed_tokens b e r = cond b (c.Open ∷ expression_tokens e (c.Close ∷ r)) (expression_tokens e r)

abbrev pub bracketed_events : Bool → Expression → List Event → List Event
bracketed_events b e q = cond b (Uncounted ∷ expression_events e (Counted ∷ q)) (expression_events e q)

-- what it is to stand where a level is needed
abbrev pub Laid : ℕ → Expression → (List Class → List Class) → (List Event → List Event) → Type 0
Laid need e tokens events =
    ((r : List Class) → tokens r ≡ bracketed_tokens (nat_lt (loose e) need) e r) × ((q : List Event) → events q ≡ bracketed_events (nat_lt (loose e) need) e q)

level_high : (m : Class) → 0 < level m → 4 ≤ level m
level_high c.OrElse h = omega arith
level_high c.AndThen h = omega arith
level_high c.BitOr h = omega arith
level_high c.BitXor h = omega arith
level_high c.BitAnd h = omega arith
level_high c.Equality h = omega arith
level_high c.Order h = omega arith
level_high c.Shift h = omega arith
level_high c.Sign h = omega arith
level_high c.Product h = omega arith
level_high _ h = absurd (omega (arith, h))

pub level_low : (m : Class) → level m < 14
level_low c.OrElse = omega arith
level_low c.AndThen = omega arith
level_low c.BitOr = omega arith
level_low c.BitXor = omega arith
level_low c.BitAnd = omega arith
level_low c.Equality = omega arith
level_low c.Order = omega arith
level_low c.Shift = omega arith
level_low c.Sign = omega arith
level_low c.Product = omega arith
level_low _ = omega arith

pub root_high : (b : Binary) → FitsBinary b → 4 ≤ root b
root_high (Single u) f = omega arith
root_high (Both a m b) f = level_high m f.2

-- an expression by itself
pub lies_open : (e : Expression) → FitsExpression e → Laid 1 e (expression_tokens e) (expression_events e)
lies_open (More a e) f = (λ r. refl, λ q. refl)
lies_open (One (To t m a)) f = (λ r. refl, λ q. refl)
lies_open (One (Value (Choose b e d))) f = (λ r. refl, λ q. refl)
lies_open (One (Value (Only b))) f =
    let h = root_high b f in
    let n : nat_lt (root b) 1 ≡ false = le-ltb (root b) 1 (omega (arith, h)) in
    (λ r. ap (λ x. bracketed_tokens x (One (Value (Only b))) r) (sym n), λ q. ap (λ x. bracketed_events x (One (Value (Only b))) q) (sym n))

pub lies_assigned : (e : Expression) → FitsExpression e → Laid 2 e (assignment_tokens (as_assignment e)) (assignment_events (as_assignment e))
lies_assigned (More a e) f = (λ r. refl, λ q. refl)
lies_assigned (One (To t m a)) f = (λ r. refl, λ q. refl)
lies_assigned (One (Value (Choose b e d))) f = (λ r. refl, λ q. refl)
lies_assigned (One (Value (Only b))) f =
    let h = root_high b f in
    let n : nat_lt (root b) 2 ≡ false = le-ltb (root b) 2 (omega (arith, h)) in
    (λ r. ap (λ x. bracketed_tokens x (One (Value (Only b))) r) (sym n), λ q. ap (λ x. bracketed_events x (One (Value (Only b))) q) (sym n))

pub lies_chosen : (e : Expression) → FitsExpression e → Laid 3 e (conditional_tokens (as_conditional e)) (conditional_events (as_conditional e))
lies_chosen (More a e) f = (λ r. refl, λ q. refl)
lies_chosen (One (To t m a)) f = (λ r. refl, λ q. refl)
lies_chosen (One (Value (Choose b e d))) f = (λ r. refl, λ q. refl)
lies_chosen (One (Value (Only b))) f =
    let h = root_high b f in
    let n : nat_lt (root b) 3 ≡ false = le-ltb (root b) 3 (omega (arith, h)) in
    (λ r. ap (λ x. bracketed_tokens x (One (Value (Only b))) r) (sym n), λ q. ap (λ x. bracketed_events x (One (Value (Only b))) q) (sym n))

below : (n need : ℕ) (e : Expression) → n < need → (tokens : List Class → List Class) (events : List Event → List Event) → loose e ≡ n
    → ((r : List Class) → tokens r ≡ bracketed_tokens true e r) → ((q : List Event) → events q ≡ bracketed_events true e q) → Laid need e tokens events
below n need e h tokens events l t q =
    let b : nat_lt (loose e) need ≡ true = ap (λ x. nat_lt x need) l ∙ lt-ltb n need h in
    (λ r. t r ∙ ap (λ x. bracketed_tokens x e r) (sym b), λ p. q p ∙ ap (λ x. bracketed_events x e p) (sym b))

binary_chosen : (x : Bool) (b : Binary) (r : List Class) → binary_tokens (cond x (Single (Within (One (Value (Only b))))) b) r ≡ bracketed_tokens x
    (One (Value (Only b))) r
binary_chosen true b r = refl
binary_chosen false b r = refl

binary_counted : (x : Bool) (b : Binary) (q : List Event) → binary_events (cond x (Single (Within (One (Value (Only b))))) b) q ≡ bracketed_events x
    (One (Value (Only b))) q
binary_counted true b q = refl
binary_counted false b q = refl

pub lies_bound : (need : ℕ) (e : Expression) → 4 ≤ need → FitsExpression e → Laid need e (binary_tokens (as_binary need e)) (binary_events (as_binary need e))
lies_bound need (More a e) h f = below 1 need (More a e) (omega (arith, h)) _ _ refl (λ r. refl) (λ q. refl)
lies_bound need (One (To t m a)) h f = below 2 need (One (To t m a)) (omega (arith, h)) _ _ refl (λ r. refl) (λ q. refl)
lies_bound need (One (Value (Choose b e d))) h f = below 3 need (One (Value (Choose b e d))) (omega (arith, h)) _ _ refl (λ r. refl) (λ q. refl)
lies_bound need (One (Value (Only b))) h f = (binary_chosen (nat_lt (root b) need) b, binary_counted (nat_lt (root b) need) b)

pub lies_tight : (e : Expression) → FitsExpression e → Laid 14 e (unary_tokens (as_unary e)) (unary_events (as_unary e))
lies_tight (More a e) f = (λ r. refl, λ q. refl)
lies_tight (One (To t m a)) f = (λ r. refl, λ q. refl)
lies_tight (One (Value (Choose b e d))) f = (λ r. refl, λ q. refl)
lies_tight (One (Value (Only (Single u)))) f = (λ r. refl, λ q. refl)
lies_tight (One (Value (Only (Both a m b)))) f = below (level m) 14 (One (Value (Only (Both a m b)))) (level_low m) _ _ refl (λ r. refl) (λ q. refl)

-- ---- it fits there

pub fits_assigned : (e : Expression) → FitsExpression e → FitsAssignment (as_assignment e)
fits_assigned (More a e) f = (refl, f)
fits_assigned (One a) f = f

pub fits_chosen : (e : Expression) → FitsExpression e → FitsConditional (as_conditional e)
fits_chosen (More a e) f = (refl, f)
fits_chosen (One (To t m a)) f = (refl, f)
fits_chosen (One (Value d)) f = f

-- a mark that binds less tightly stands in no lone target
not_lone : (b : Binary) (need : ℕ) → need ≤ 14 → nat_lt (root b) need ≡ true → is_lone (One (Value (Only b))) ≡ false
not_lone (Single u) need h e = let n = le-ltb 14 need h in cc
not_lone (Both a m b) need h e = refl

fits_either : (x : Bool) (b : Binary) → (x ≡ true → is_lone (One (Value (Only b))) ≡ false) → FitsBinary b →
    FitsBinary (cond x (Single (Within (One (Value (Only b))))) b)
fits_either true b l f = (l refl, f)
fits_either false b l f = f

pub fits_bound : (need : ℕ) (e : Expression) → need ≤ 14 → FitsExpression e → FitsBinary (as_binary need e)
fits_bound need (More a e) h f = (refl, f)
fits_bound need (One (To t m a)) h f = (refl, f)
fits_bound need (One (Value (Choose b e d))) h f = (refl, f)
fits_bound need (One (Value (Only b))) h f = fits_either (nat_lt (root b) need) b (not_lone b need h) f

pub fits_tight : (e : Expression) → FitsExpression e → FitsUnary (as_unary e)
fits_tight (More a e) f = (refl, f)
fits_tight (One (To t m a)) f = (refl, f)
fits_tight (One (Value (Choose b e d))) f = (refl, f)
fits_tight (One (Value (Only (Single u)))) f = f
fits_tight (One (Value (Only (Both a m b)))) f = (refl, f)

-- ---- and binds as tightly as it must

root_either : (x : Bool) (b : Binary) (need : ℕ) → need ≤ 14 → nat_lt (root b) need ≡ x → need ≤ root (cond x (Single (Within (One (Value (Only b))))) b)
root_either true b need h e = h
root_either false b need h e = ltb-false (root b) need e

pub binds : (need : ℕ) (e : Expression) → need ≤ 14 → need ≤ root (as_binary need e)
binds need (More a e) h = h
binds need (One (To t m a)) h = h
binds need (One (Value (Choose b e d))) h = h
binds need (One (Value (Only b))) h = root_either (nat_lt (root b) need) b need h refl
