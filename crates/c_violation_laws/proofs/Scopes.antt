-- The maps of a walk and the scopes of a place: a map of each scope finds what its declarations say.
use Rattle.std.proofs.Common.{◌≡◌, inl, inr, ℕ, Bool, true, false, cond, List, [], ◌∷◌, ◌++◌, Option, Some, None, is_some, refl, ap, sym, ◌∙◌, bytes_eq, true≢false}
use Rattle.c_kinds.specs.declared.binding.Binding.{Binding}
use Rattle.c_kinds.specs.Scopes.{Scope, found, look_up, or_else, with_name, with_entry, bind, bound, is_bound}
use Rattle.c_kinds.proofs.Entries.{same_names, names_same, by_bool, found_new}
use Rattle.c_reading_defs.specs.Bindings.{DeclaresAs, IsDeclared}

-- each map finds in its scope the first declaration of a name
abbrev pub AreMaps : List Scope → List Scope → Type 0
AreMaps [] [] = Unit {0}
AreMaps (m ∷ ms) (s ∷ ss) = ((name : List ℕ) → found name m ≡ found name s) × AreMaps ms ss
AreMaps [] (s ∷ ss) = ⊥
AreMaps (m ∷ ms) [] = ⊥

pub looks_up : (ms ss : List Scope) → AreMaps ms ss → (name : List ℕ) → look_up ms name ≡ look_up ss name
looks_up [] [] h name = refl
looks_up (m ∷ ms) (s ∷ ss) h name = λ i. or_else (h.0 name i) (looks_up ms ss h.1 name i)
looks_up [] (s ∷ ss) h name = absurd h
looks_up (m ∷ ms) [] h name = absurd h

pub alike : (ss : List Scope) → AreMaps ss ss
alike [] = tt
alike (s ∷ ss) = (λ name. refl, alike ss)

-- ---- one more declaration

-- it stands last in the nearest scope
abbrev pub with_declaration : List ℕ → Binding → List Scope → List Scope
with_declaration name b [] = []
with_declaration name b (s ∷ ss) = (s ++ (name, b) ∷ []) ∷ ss

found_behind : (q name : List ℕ) (b : Binding) (s : Scope) → found q (s ++ (name, b) ∷ []) ≡ or_else (found q s) (cond (bytes_eq q name) (Some b) None)
found_behind q name b [] = refl
found_behind q name b (d ∷ ds) = by_first (bytes_eq q d.0) (found_behind q name b ds)
  where
    by_first : (t : Bool) → found q (ds ++ (name, b) ∷ []) ≡ or_else (found q ds) (cond (bytes_eq q name) (Some b) None)
        → cond t (Some d.1) (found q (ds ++ (name, b) ∷ [])) ≡ or_else (cond t (Some d.1) (found q ds)) (cond (bytes_eq q name) (Some b) None)
    by_first true h = refl
    by_first false h = h

-- a name that has something keeps it
kept_name : (q name : List ℕ) (b x : Binding) (o p : Option Binding) → p ≡ Some x → (q ≡ name → o ≡ p) → o ≡ or_else o (cond (bytes_eq q name) (Some b) None)
kept_name q name b x (Some y) p e h = refl
kept_name q name b x None p e h = by_bool (bytes_eq q name)
    (λ y. let k : None ≡ p = h (same_names q name y) in cc)
    (λ n. ap (λ t. cond t (Some b) None) (sym n))

-- a new one gets it
new_name : (q name : List ℕ) (b : Binding) (o p : Option Binding) → p ≡ None → (q ≡ name → o ≡ p) →
    cond (bytes_eq q name) (Some b) o ≡ or_else o (cond (bytes_eq q name) (Some b) None)
new_name q name b None p e h = refl
new_name q name b (Some y) p e h = by_bool (bytes_eq q name)
    (λ t. let k : Some y ≡ p = h (same_names q name t) in cc)
    (λ n. ap (λ t. cond t (Some b) (Some y)) n)

named_alike : (q name : List ℕ) (b : Binding) (m : Scope) (o : Option Binding) → found name m ≡ o →
    found q (with_name name b m) ≡ or_else (found q m) (cond (bytes_eq q name) (Some b) None)
named_alike q name b m (Some x) e =
    ap (λ p. found q (cond (is_some p) m (with_entry name b m))) e ∙ kept_name q name b x (found q m) (found name m) e (λ f. ap (λ z. found z m) f)
named_alike q name b m None e =
    found_new q name b m (ap is_some e) ∙ new_name q name b (found q m) (found name m) e (λ f. ap (λ z. found z m) f)

pub maps_bind : (name : List ℕ) (b c : Binding) (ms ss : List Scope) → b ≡ c → AreMaps ms ss → AreMaps (bind name b ms) (with_declaration name c ss)
maps_bind name b c [] [] e h = tt
maps_bind name b c (m ∷ ms) (s ∷ ss) e h =
    (λ q. named_alike q name b m (found name m) refl ∙ (λ i. or_else (h.0 q i) (cond (bytes_eq q name) (Some (e i)) None)) ∙ sym (found_behind q name c s), h.1)
maps_bind name b c [] (s ∷ ss) e h = absurd h
maps_bind name b c (m ∷ ms) [] e h = absurd h

-- ---- what the nearest scope has

pub found_alike : (name : List ℕ) (ms ss : List Scope) → AreMaps ms ss → bound name ms ≡ bound name ss
found_alike name [] [] h = refl
found_alike name (m ∷ ms) (s ∷ ss) h = h.0 name
found_alike name [] (s ∷ ss) h = absurd h
found_alike name (m ∷ ms) [] h = absurd h

pub bound_alike : (name : List ℕ) (ms ss : List Scope) → AreMaps ms ss → is_bound name ms ≡ is_bound name ss
bound_alike name ms ss h = ap is_some (found_alike name ms ss h)

some_declared : (name : List ℕ) (s : Scope) → is_some (found name s) ≡ true → (b : Binding) × DeclaresAs name b s
some_declared name [] e = absurd (true≢false (sym e))
some_declared name (d ∷ ds) e = by_bool (bytes_eq name d.0)
    (λ y. (d.1, inl (sym (same_names name d.0 y), refl)))
    (λ n.
    let h = some_declared name ds (ap (λ t. is_some (cond t (Some d.1) (found name ds))) (sym n) ∙ e) in
    (h.0, inr (λ f. true≢false (sym (names_same name d.0 (sym f)) ∙ n), h.1)))

declared_some : (name : List ℕ) (b : Binding) (s : Scope) → DeclaresAs name b s → is_some (found name s) ≡ true
declared_some name b [] h = absurd h
declared_some name b (d ∷ ds) (inl p) = ap (λ t. is_some (cond t (Some d.1) (found name ds))) (names_same name d.0 (sym p.0))
declared_some name b (d ∷ ds) (inr p) = by_bool (bytes_eq name d.0)
    (λ y. ap (λ t. is_some (cond t (Some d.1) (found name ds))) y)
    (λ n. ap (λ t. is_some (cond t (Some d.1) (found name ds))) n ∙ declared_some name b ds p.1)

pub is_declared : (name : List ℕ) (ss : List Scope) → is_bound name ss ≡ true → IsDeclared name ss
is_declared name [] e = absurd (true≢false (sym e))
is_declared name (s ∷ ss) e = some_declared name s e

pub declared_is : (name : List ℕ) (ss : List Scope) → IsDeclared name ss → is_bound name ss ≡ true
declared_is name [] h = absurd h.1
declared_is name (s ∷ ss) h = declared_some name h.0 s h.1
