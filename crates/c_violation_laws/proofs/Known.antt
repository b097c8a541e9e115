-- What is known at a token of what a scope declares.
use Rattle.std.proofs.Common.{◌≡◌, ◌≤◌, ◌<◌, ◌+◌, ℕ, Bool, true, false, cond, nat_lt, List, [], ◌∷◌, ◌++◌, refl, ap, sym, subst, ◌∙◌, append_assoc, append-nil, arith, lt-ltb, le-ltb}
use Rattle.c_kinds.specs.declared.binding.Binding.{Binding}
use Rattle.c_kinds.specs.Scopes.{Scope, bind}
use Rattle.c_reading_defs.specs.Scopes.{Identifier, known_at, scopes_at}
use Rattle.c_violation_laws.proofs.Scopes.{AreMaps, maps_bind}

-- all of them, as names with what they are bound to
abbrev pub names_of : List Identifier → Scope
names_of [] = []
names_of (x ∷ xs) = (x.name, x.binding) ∷ names_of xs

-- they are declared in front of a token, or at it or behind it
abbrev pub InFront : ℕ → List Identifier → Type 0
InFront token [] = Unit {0}
InFront token (x ∷ xs) = (x.at < token) × InFront token xs

abbrev pub FromOn : ℕ → List Identifier → Type 0
FromOn token [] = Unit {0}
FromOn token (x ∷ xs) = (token ≤ x.at) × FromOn token xs

pub in_front_of_more : (less more : ℕ) (xs : List Identifier) → less ≤ more → InFront less xs → InFront more xs
in_front_of_more less more [] h f = tt
in_front_of_more less more (x ∷ xs) h f = let g = f.0 in (omega (arith, g, h), in_front_of_more less more xs h f.1)

pub from_earlier : (less more : ℕ) (xs : List Identifier) → less ≤ more → FromOn more xs → FromOn less xs
from_earlier less more [] h f = tt
from_earlier less more (x ∷ xs) h f = let g = f.0 in (omega (arith, g, h), from_earlier less more xs h f.1)

pub from_both : (token : ℕ) (xs ys : List Identifier) → FromOn token xs → FromOn token ys → FromOn token (xs ++ ys)
from_both token [] ys f g = g
from_both token (x ∷ xs) ys f g = (f.0, from_both token xs ys f.1 g)

front_both : (token : ℕ) (xs : List Identifier) (y : Identifier) → InFront token xs → y.at < token → InFront token (xs ++ y ∷ [])
front_both token [] y f g = (g, tt)
front_both token (x ∷ xs) y f g = (f.0, front_both token xs y f.1 g)

-- ---- known, or not

by_test : (token : ℕ) (x : Identifier) (b : Bool) (rest : Scope) → nat_lt x.at token ≡ b →
    cond (nat_lt x.at token) ((x.name, x.binding) ∷ rest) rest ≡ cond b ((x.name, x.binding) ∷ rest) rest
by_test token x b rest e = ap (λ t. cond t ((x.name, x.binding) ∷ rest) rest) e

known_front : (token : ℕ) (xs : List Identifier) → InFront token xs → known_at token xs ≡ names_of xs
known_front token [] f = refl
known_front token (x ∷ xs) f = by_test token x true (known_at token xs) (lt-ltb x.at token f.0) ∙ ap (λ l. (x.name, x.binding) ∷ l) (known_front token xs f.1)

pub known_none : (token : ℕ) (xs : List Identifier) → FromOn token xs → known_at token xs ≡ []
known_none token [] f = refl
known_none token (x ∷ xs) f = by_test token x false (known_at token xs) (le-ltb x.at token f.0) ∙ known_none token xs f.1

cond_append : (b : Bool) (x : List ℕ × Binding) (xs ys : Scope) → cond b (x ∷ (xs ++ ys)) (xs ++ ys) ≡ cond b (x ∷ xs) xs ++ ys
cond_append true x xs ys = refl
cond_append false x xs ys = refl

pub known_both : (token : ℕ) (xs ys : List Identifier) → known_at token (xs ++ ys) ≡ known_at token xs ++ known_at token ys
known_both token [] ys = refl
known_both token (x ∷ xs) ys =
    ap (λ l. cond (nat_lt x.at token) ((x.name, x.binding) ∷ l) l) (known_both token xs ys) ∙
    cond_append (nat_lt x.at token) (x.name, x.binding) (known_at token xs) (known_at token ys)

known_parts : (token : ℕ) (front rest : List Identifier) → InFront token front → FromOn token rest → known_at token (front ++ rest) ≡ names_of front
known_parts token front rest f g =
    known_both token front rest ∙ ap (λ l. l ++ known_at token rest) (known_front token front f) ∙
    ap (λ l. names_of front ++ l) (known_none token rest g) ∙ append-nil (names_of front)

names_more : (xs : List Identifier) (y : Identifier) → names_of (xs ++ y ∷ []) ≡ names_of xs ++ (y.name, y.binding) ∷ []
names_more [] y = refl
names_more (x ∷ xs) y = ap (λ l. (x.name, x.binding) ∷ l) (names_more xs y)

-- ---- what the maps of a walk find

-- at each token from one to another the maps find what is known
abbrev pub Sees : List Scope → List (List Identifier) → ℕ → ℕ → Type 0
Sees ms ss lo hi = (token : ℕ) → lo ≤ token → token ≤ hi → AreMaps ms (scopes_at ss token)

-- of what the nearest scope declares they find all but `rest`, and at each of these tokens what is known round it
pub record InScope (ms : List Scope) (ss : List (List Identifier)) (lo hi : ℕ) (rest : List Identifier) : Type 0 where
  pub front : List Identifier
  pub outer : List (List Identifier)
  pub split : ss ≡ (front ++ rest) ∷ outer
  pub early : InFront lo front
  pub maps : (token : ℕ) → lo ≤ token → token ≤ hi → AreMaps ms (names_of front ∷ scopes_at outer token)

pub scope_entered : (ms : List Scope) (s : List Identifier) (ss : List (List Identifier)) (lo hi : ℕ) → Sees ms ss lo hi → InScope ([] ∷ ms) (s ∷ ss) lo hi s
scope_entered ms s ss lo hi h = record { front = []; outer = ss; split = refl; early = tt; maps = λ token g l. (λ name. refl, h token g l) }

pub scope_sees : (ms : List Scope) (ss : List (List Identifier)) (lo hi mid : ℕ) (rest : List Identifier) → InScope ms ss lo hi rest → mid ≤ hi →
    FromOn mid rest → Sees ms ss lo mid
scope_sees ms ss lo hi mid rest h less from token g l =
    let known = known_parts token h.front rest (in_front_of_more lo token h.front g h.early) (from_earlier token mid rest l from) in
    subst (λ z. AreMaps ms (scopes_at z token)) (sym h.split)
    (subst (λ z. AreMaps ms (z ∷ scopes_at h.outer token)) (sym known) (h.maps token g (omega (arith, l, less))))

-- behind one of them
pub scope_declared : (ms : List Scope) (ss : List (List Identifier)) (lo hi : ℕ) (b : Binding) (x : Identifier) (rest : List Identifier) →
    InScope ms ss lo hi (x ∷ rest) → lo ≤ x.at → b ≡ x.binding
    → InScope (bind x.name b ms) ss (x.at + 1) hi rest
scope_declared ms ss lo hi b x rest h g e = record {
  front = h.front ++ x ∷ [];
  outer = h.outer;
  split = h.split ∙ ap (λ l. l ∷ h.outer) (sym (append_assoc h.front (x ∷ []) rest));
  early = front_both (x.at + 1) h.front x (in_front_of_more lo (x.at + 1) h.front (omega (arith, g)) h.early) (omega arith);
  maps = λ token k l.
      subst (λ z. AreMaps (bind x.name b ms) (z ∷ scopes_at h.outer token)) (sym (names_more h.front x))
      (maps_bind x.name b x.binding ms (names_of h.front ∷ scopes_at h.outer token) e (h.maps token (omega (arith, g, k)) l));
}

-- between other tokens
pub scope_narrow : (ms : List Scope) (ss : List (List Identifier)) (lo hi from to : ℕ) (rest : List Identifier) → InScope ms ss lo hi rest →
    lo ≤ from → to ≤ hi → InScope ms ss from to rest
scope_narrow ms ss lo hi from to rest h g l = record {
  front = h.front;
  outer = h.outer;
  split = h.split;
  early = in_front_of_more lo from h.front g h.early;
  maps = λ token k m. h.maps token (omega (arith, g, k)) (omega (arith, l, m));
}

-- with the same maps
pub scope_same : (ms ns : List Scope) (ss : List (List Identifier)) (lo hi : ℕ) (rest : List Identifier) → ns ≡ ms → InScope ms ss lo hi rest →
    InScope ns ss lo hi rest
scope_same ms ns ss lo hi rest e h = subst (λ z. InScope z ss lo hi rest) (sym e) h
