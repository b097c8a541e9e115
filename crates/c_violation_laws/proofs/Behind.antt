-- One of a list with those in front of it, by a walk that goes on with more and more in front.
use Rattle.std.proofs.Common.{◌⊎◌, inl, inr, List, [], ◌∷◌, ◌++◌, sym, subst, append_assoc, append-nil}
use Rattle.c_kinds.specs.declared.typed.Fault.{Fault}
use Rattle.c_kinds.specs.Scopes.{Faults}
use Rattle.c_reading_defs.specs.Behind.{SomeBehind}
use Rattle.c_violation_laws.specs.Finds.{Finds}
use Rattle.c_violation_laws.proofs.Finding.{finds_same}

-- P holds of one of these, which stand behind the others
abbrev pub Behind : {A : Type 0} → (List A → A → Type 0) → List A → List A → Type 0
Behind P before [] = ⊥
Behind P before (x ∷ xs) = P before x ⊎ Behind P (before ++ x ∷ []) xs

some_as : {A : Type 0} (P Q : List A → A → Type 0) → ((before : List A) (x : A) → P before x → Q before x) → (xs : List A) → SomeBehind P xs → SomeBehind Q xs
some_as P Q h [] s = s
some_as P Q h (x ∷ xs) (inl p) = inl (h [] x p)
some_as P Q h (x ∷ xs) (inr s) = inr (some_as (λ before. P (x ∷ before)) (λ before. Q (x ∷ before)) (λ before. h (x ∷ before)) xs s)

to : {A : Type 0} (P : List A → A → Type 0) (before xs : List A) → Behind P before xs → SomeBehind (λ front. P (before ++ front)) xs
to P before [] h = h
to P before (x ∷ xs) (inl p) = inl (subst (λ l. P l x) (sym (append-nil before)) p)
to P before (x ∷ xs) (inr h) =
    inr (some_as (λ front. P ((before ++ x ∷ []) ++ front)) (λ front. P (before ++ x ∷ front))
    (λ front y. subst (λ l. P l y) (append_assoc before (x ∷ []) front)) xs (to P (before ++ x ∷ []) xs h))

fro : {A : Type 0} (P : List A → A → Type 0) (before xs : List A) → SomeBehind (λ front. P (before ++ front)) xs → Behind P before xs
fro P before [] s = s
fro P before (x ∷ xs) (inl p) = inl (subst (λ l. P l x) (append-nil before) p)
fro P before (x ∷ xs) (inr s) =
    inr (fro P (before ++ x ∷ []) xs
    (some_as (λ front. P (before ++ x ∷ front)) (λ front. P ((before ++ x ∷ []) ++ front))
    (λ front y. subst (λ l. P l y) (sym (append_assoc before (x ∷ []) front))) xs s))

pub finds_behind : {A : Type 0} (f : Faults → Faults) (P : Fault → List A → A → Type 0) (xs : List A) → Finds f (λ v. Behind (P v) [] xs) →
    Finds f (λ v. SomeBehind (P v) xs)
finds_behind f P xs h = finds_same f (λ v. Behind (P v) [] xs) (λ v. SomeBehind (P v) xs) h (λ v. to (P v) [] xs) (λ v. fro (P v) [] xs)
