-- What scopes have: the parameters of a function, its declared variables, and what stands at file scope.
use Rattle.std.proofs.Common.{◌≡◌, ◌≢◌, ℕ, zero, suc, ◌+◌, ◌-◌, ◌<◌, ◌≤◌, Bool, true, false, cond, List, [], ◌∷◌, ◌++◌, length, map, take, drop, Option, Some, None, ◌⊎◌, inl, inr, refl, sym, ap, subst, ◌∙◌, bytes_eq, arith, append_assoc, length-append}
use Rattle.c_tree.specs.declared.tree.Slot.{Slot}
use Rattle.c_tree.specs.declared.tree.Home.TheVariants as H
use Rattle.c_tree.specs.Trees.{Forest, Nil, Then, join}
use Rattle.c_tree.specs.TextExpressions.{slot_name}
use Rattle.plain_laws.specs.Slotted.{AreDeclarations, none, one_more, variable, guarding}
use Rattle.c_resolved_defs.specs.Within.{Each, AllDiffer}
use Rattle.c_resolved_defs.specs.Form.{gathered, declared_slot, numbers_from}
use Rattle.c_resolved_defs.specs.Scopes.{Meaning, AVariable, Scope, found, behind, behind_all, AreBound, bind_parameter, with_parameters, IsNewParameter, AreNewParameters}
use Rattle.c_resolved_laws.proofs.Scoped.{other_name, same_name}
use Rattle.whole_laws.proofs.NamesKept.{same_first, same_rest}

-- ---- meanings

pub none_some : {A : Type 0} (a : A) → None ≡ Some a → ⊥
none_some a e = cc

abbrev meaning_or : Meaning → Option Meaning → Meaning
meaning_or d (Some b) = b
meaning_or d None = d

pub same_meaning : (b c : Meaning) → Some b ≡ Some c → b ≡ c
same_meaning b c e = ap (meaning_or b) e

-- a slot, or another meaning
abbrev pub slot_in : Meaning → Option ℕ
slot_in (AVariable (H.Slot k)) = Some k
slot_in _ = None

abbrev pub IsNoSlot : Option Meaning → Type 0
IsNoSlot None = Unit {0}
IsNoSlot (Some b) = slot_in b ≡ None

-- ---- scopes that hold the names of parameters

abbrev pub parameter_entry : List ℕ → ℕ → Scope → Scope
parameter_entry [] i s = s
parameter_entry (b ∷ bs) i s = (b ∷ bs, AVariable (H.Slot i)) ∷ s

abbrev pub parameter_scope : ℕ → ℕ → List Slot → Scope → Scope
parameter_scope zero i slots s = s
parameter_scope (suc n) i [] s = s
parameter_scope (suc n) i (t ∷ slots) s = parameter_scope n (suc i) slots (parameter_entry t.name i s)

entry_bound : (m : List ℕ) (i : ℕ) (s : Scope) (ss : List Scope) → bind_parameter m i (s ∷ ss) ≡ parameter_entry m i s ∷ ss
entry_bound [] i s ss = refl
entry_bound (b ∷ bs) i s ss = refl

pub parameters_bound : (n i : ℕ) (slots : List Slot) (s : Scope) (ss : List Scope) → with_parameters n i slots (s ∷ ss) ≡ parameter_scope n i slots s ∷ ss
parameters_bound zero i slots s ss = refl
parameters_bound (suc n) i [] s ss = refl
parameters_bound (suc n) i (t ∷ slots) s ss = ap (with_parameters n (suc i) slots) (entry_bound t.name i s ss) ∙ parameters_bound n (suc i) slots
    (parameter_entry t.name i s) ss

-- they depend on the parameters alone
pub parameters_take : (n i : ℕ) (ss ts : List Slot) (sc : List Scope) → take n ts ≡ take n ss → with_parameters n i ts sc ≡ with_parameters n i ss sc
parameters_take zero i ss ts sc e = refl
parameters_take (suc n) i [] [] sc e = refl
parameters_take (suc n) i [] (t ∷ ts) sc e = cc
parameters_take (suc n) i (s ∷ ss) [] sc e = cc
parameters_take (suc n) i (s ∷ ss) (t ∷ ts) sc e =
    ap (λ (r : Slot). with_parameters n (suc i) ts (bind_parameter r.name i sc)) (same_first n s t ss ts e) ∙
    parameters_take n (suc i) ss ts (bind_parameter s.name i sc) (same_rest n s t ss ts e)

pub new_take : (n i : ℕ) (ss ts : List Slot) (sc : List Scope) → take n ts ≡ take n ss → AreNewParameters n i ss sc → AreNewParameters n i ts sc
new_take zero i ss ts sc e h = tt
new_take (suc n) i [] [] sc e h = tt
new_take (suc n) i [] (t ∷ ts) sc e h = cc
new_take (suc n) i (s ∷ ss) [] sc e h = cc
new_take (suc n) i (s ∷ ss) (t ∷ ts) sc e h =
    let f = sym (same_first n s t ss ts e) in (
      subst (λ (r : Slot). IsNewParameter r.name sc) f h.0,
      subst (λ (r : Slot). AreNewParameters n (suc i) ts (bind_parameter r.name i sc)) f
          (new_take n (suc i) ss ts (bind_parameter s.name i sc) (same_rest n s t ss ts e) h.1),
    )

found_entry : (m k : List ℕ) (i : ℕ) (s : Scope) → k ≢ m → found m (parameter_entry k i s) ≡ found m s
found_entry m [] i s d = refl
found_entry m (b ∷ bs) i s d = ap (λ t. cond t (Some (AVariable (H.Slot i))) (found m s)) (other_name m (b ∷ bs) (λ e. d (sym e)))

-- a name that no parameter has
pub found_beside : (n i : ℕ) (slots : List Slot) (s : Scope) (m : List ℕ) → Each (λ (t : Slot). t.name ≢ m) (take n slots) →
    found m (parameter_scope n i slots s) ≡ found m s
found_beside zero i slots s m d = refl
found_beside (suc n) i [] s m d = refl
found_beside (suc n) i (t ∷ slots) s m d = found_beside n (suc i) slots (parameter_entry t.name i s) m d.1 ∙ found_entry m t.name i s d.0

-- what is found there is one of the parameters, or was there
pub data FromParameters (n i : ℕ) (o q : Option Meaning) : Type 0 where
  parameter : (k : ℕ) → i ≤ k → k < i + n → q ≡ Some (AVariable (H.Slot k)) → FromParameters n i o q
  before : q ≡ o → FromParameters n i o q

entry_found : (m k : List ℕ) (i : ℕ) (s : Scope) → (found m (parameter_entry k i s) ≡ found m s) ⊎
    (found m (parameter_entry k i s) ≡ Some (AVariable (H.Slot i)))
entry_found m [] i s = inl refl
entry_found m (b ∷ bs) i s = by_test (bytes_eq m (b ∷ bs))
  where
    by_test : (t : Bool) → (cond t (Some (AVariable (H.Slot i))) (found m s) ≡ found m s) ⊎
        (cond t (Some (AVariable (H.Slot i))) (found m s) ≡ Some (AVariable (H.Slot i)))
    by_test true = inr refl
    by_test false = inl refl

pub parameters_found : (n i : ℕ) (slots : List Slot) (s : Scope) (m : List ℕ) → FromParameters n i (found m s) (found m (parameter_scope n i slots s))
parameters_found zero i slots s m = before refl
parameters_found (suc n) i [] s m = before refl
parameters_found (suc n) i (t ∷ slots) s m = at (parameters_found n (suc i) slots (parameter_entry t.name i s) m) (entry_found m t.name i s)
  where
    at : FromParameters n (suc i) (found m (parameter_entry t.name i s)) (found m (parameter_scope n (suc i) slots (parameter_entry t.name i s)))
        → (found m (parameter_entry t.name i s) ≡ found m s) ⊎ (found m (parameter_entry t.name i s) ≡ Some (AVariable (H.Slot i)))
        → FromParameters (suc n) i (found m s) (found m (parameter_scope n (suc i) slots (parameter_entry t.name i s)))
    at (parameter k a b e) w = parameter k (omega (arith, a)) (omega (arith, b)) e
    at (before e) (inl w) = before (e ∙ w)
    at (before e) (inr w) = parameter i (omega arith) (omega arith) (e ∙ w)

-- ---- scopes that hold the names of declared variables

abbrev pub declared_scope : List Slot → List ℕ → Scope → Scope
declared_scope slots [] s = s
declared_scope slots (k ∷ ks) s = declared_scope slots ks ((slot_name slots k, AVariable (H.Slot k)) ∷ s)

pub declarations_bind : (slots : List Slot) (base end : ℕ) (a : Forest) (s : Scope) (ss : List Scope) → AreDeclarations base end a →
    behind_all slots (s ∷ ss) a ≡ declared_scope slots (gathered declared_slot a) s ∷ ss
declarations_bind slots base end Nil s ss none = refl
declarations_bind slots base end (Then x a) s ss (one_more (variable k) r) =
    declarations_bind slots base end a ((slot_name slots k, AVariable (H.Slot k)) ∷ s) ss r
declarations_bind slots base end (Then x a) s ss (one_more (guarding k i j) r) =
    declarations_bind slots base end a ((slot_name slots k, AVariable (H.Slot k)) ∷ s) ss r

found_other : (m k : List ℕ) (b : Meaning) (s : Scope) → k ≢ m → found m ((k, b) ∷ s) ≡ found m s
found_other m k b s d = ap (λ t. cond t (Some b) (found m s)) (other_name m k (λ e. d (sym e)))

pub found_undeclared : (slots : List Slot) (ks : List ℕ) (s : Scope) (m : List ℕ) → Each (λ k. slot_name slots k ≢ m) ks →
    found m (declared_scope slots ks s) ≡ found m s
found_undeclared slots [] s m d = refl
found_undeclared slots (k ∷ ks) s m d = found_undeclared slots ks ((slot_name slots k, AVariable (H.Slot k)) ∷ s) m d.1 ∙
    found_other m (slot_name slots k) (AVariable (H.Slot k)) s d.0

each_named : (slots : List Slot) (m : List ℕ) (ks : List ℕ) → Each (λ n. n ≢ m) (map (slot_name slots) ks) → Each (λ k. slot_name slots k ≢ m) ks
each_named slots m [] h = tt
each_named slots m (k ∷ ks) h = (h.0, each_named slots m ks h.1)

pub found_declared : (slots : List Slot) (i n : ℕ) (s : Scope) (k : ℕ) → i ≤ k → k < i + n → AllDiffer (map (slot_name slots) (numbers_from i n)) →
    found (slot_name slots k) (declared_scope slots (numbers_from i n) s) ≡ Some (AVariable (H.Slot k))
found_declared slots i zero s k a b d = absurd (omega (arith, a, b))
found_declared slots i (suc n) s k a b d = at (is_first k i)
    (λ g. found_declared slots (suc i) n ((slot_name slots i, AVariable (H.Slot i)) ∷ s) k g (omega (arith, b)) d.1)
  where
    is_first : (k i : ℕ) → (k ≡ i) ⊎ (i < k ⊎ k < i)
    is_first zero zero = inl refl
    is_first zero (suc i) = inr (inr (omega arith))
    is_first (suc k) zero = inr (inl (omega arith))
    is_first (suc k) (suc i) = up (is_first k i)
      where
        up : (k ≡ i) ⊎ (i < k ⊎ k < i) → (suc k ≡ suc i) ⊎ (suc i < suc k ⊎ suc k < suc i)
        up (inl e) = inl (ap suc e)
        up (inr (inl h)) = inr (inl (omega (arith, h)))
        up (inr (inr h)) = inr (inr (omega (arith, h)))

    at : (k ≡ i) ⊎ (i < k ⊎ k < i) → (suc i ≤ k → found (slot_name slots k)
        (declared_scope slots (numbers_from (suc i) n) ((slot_name slots i, AVariable (H.Slot i)) ∷ s)) ≡ Some (AVariable (H.Slot k)))
        → found (slot_name slots k) (declared_scope slots (numbers_from (suc i) n) ((slot_name slots i, AVariable (H.Slot i)) ∷ s)) ≡ Some
        (AVariable (H.Slot k))
    at (inl e) later =
        subst (λ j. found (slot_name slots j) (declared_scope slots (numbers_from (suc i) n) ((slot_name slots i, AVariable (H.Slot i)) ∷ s)) ≡ Some
        (AVariable (H.Slot j))) (sym e)
        (found_undeclared slots (numbers_from (suc i) n) _ (slot_name slots i) (each_named slots (slot_name slots i) (numbers_from (suc i) n) d.0)
        ∙ ap (λ t. cond t (Some (AVariable (H.Slot i))) (found (slot_name slots i) s)) (same_name (slot_name slots i)))
    at (inr (inl h)) later = later h
    at (inr (inr h)) later = absurd (omega (arith, h, a))

-- ---- declarations are bound

still_new : (slots : List Slot) (ks : List ℕ) (s : Scope) (k : ℕ) → Each (λ n. n ≢ slot_name slots k) (map (slot_name slots) ks) →
    Each (λ j. found (slot_name slots j) s ≡ None) ks
    → Each (λ j. found (slot_name slots j) ((slot_name slots k, AVariable (H.Slot k)) ∷ s) ≡ None) ks
still_new slots [] s k d h = tt
still_new slots (j ∷ ks) s k d h = (
  found_other (slot_name slots j) (slot_name slots k) (AVariable (H.Slot k)) s (λ e. d.0 (sym e)) ∙ h.0,
  still_new slots ks s k d.1 h.1,
)

pub declarations_bound : (slots : List Slot) (base end : ℕ) (a : Forest) (s : Scope) (ss : List Scope) → AreDeclarations base end a →
    AllDiffer (map (slot_name slots) (gathered declared_slot a))
    → Each (λ k. found (slot_name slots k) s ≡ None) (gathered declared_slot a) → AreBound slots (s ∷ ss) a
declarations_bound slots base end Nil s ss none d h = tt
declarations_bound slots base end (Then x a) s ss (one_more (variable k) r) d h =
    ((h.0, tt), declarations_bound slots base end a _ ss r d.1 (still_new slots (gathered declared_slot a) s k d.0 h.1))
declarations_bound slots base end (Then x a) s ss (one_more (guarding k i j) r) d h =
    ((h.0, ((tt, tt), tt)), declarations_bound slots base end a _ ss r d.1 (still_new slots (gathered declared_slot a) s k d.0 h.1))

pub bound_join : (slots : List Slot) (a b : Forest) (ss : List Scope) → AreBound slots ss a → AreBound slots (behind_all slots ss a) b →
    AreBound slots ss (join a b)
bound_join slots Nil b ss h g = g
bound_join slots (Then x a) b ss h g = (h.0, bound_join slots a b (behind slots ss x) h.1 g)

-- ---- the names of slots by their numbers

pub names_behind : (front more : List Slot) → map (slot_name (front ++ more)) (numbers_from (length front) (length more)) ≡ map (λ (s : Slot). s.name) more
names_behind front [] = refl
names_behind front (t ∷ more) =
    let e = length-append front (t ∷ []) in
    let n : suc (length front) ≡ length (front ++ t ∷ []) = omega (arith, e) in
    (λ i. name_at front t more i ∷ map (slot_name (front ++ t ∷ more)) (numbers_from (n i) (length more)))
    ∙ ap (λ l. t.name ∷ l) (ap (λ (ss : List Slot). map (slot_name ss) (numbers_from (length (front ++ t ∷ [])) (length more)))
    (sym (append_assoc front (t ∷ []) more)) ∙ names_behind (front ++ t ∷ []) more)
  where
    name_at : (front : List Slot) (t : Slot) (more : List Slot) → slot_name (front ++ t ∷ more) (length front) ≡ t.name
    name_at [] t more = refl
    name_at (s ∷ front) t more = name_at front t more

pub take_drop : (n : ℕ) (ss : List Slot) → take n ss ++ drop n ss ≡ ss
take_drop zero ss = refl
take_drop (suc n) [] = refl
take_drop (suc n) (s ∷ ss) = ap (λ l. s ∷ l) (take_drop n ss)

take_length : (n : ℕ) (ss : List Slot) → n ≤ length ss → length (take n ss) ≡ n
take_length zero ss h = refl
take_length (suc n) [] h = absurd (omega (arith, h))
take_length (suc n) (s ∷ ss) h = ap suc (take_length n ss (omega (arith, h)))

drop_length : (n : ℕ) (ss : List Slot) → length (drop n ss) ≡ length ss - n
drop_length zero ss = omega arith
drop_length (suc n) [] = omega arith
drop_length (suc n) (s ∷ ss) = let e = drop_length n ss in omega (arith, e)

-- those of the slots from n on
pub names_from : (n : ℕ) (ss : List Slot) → n ≤ length ss → map (slot_name ss) (numbers_from n (length ss - n)) ≡ map (λ (s : Slot). s.name) (drop n ss)
names_from n ss h =
    let e = take_drop n ss in
    (λ i. map (slot_name (sym e i)) (numbers_from (sym (take_length n ss h) i) (sym (drop_length n ss) i)))
    ∙ names_behind (take n ss) (drop n ss)
