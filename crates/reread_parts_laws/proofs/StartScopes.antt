-- The scopes at the start of a file are the same in a resolved program and where its text is read (ISO/IEC 9899:2011, 6.2.1).
use Rattle.std.proofs.Common.{◌≡◌, ℕ, Bool, true, false, cond, ◌&&◌, List, [], ◌∷◌, Option, Some, None, is_some, refl, ap, sym, subst, ◌∙◌, true≢false, bytes_eq}
use Rattle.std.specs.Prelude.{codes, IfSome}
use Rattle.std.specs.Option.{option_or}
use Rattle.c_types.specs.Words.{is_known}
use Rattle.c_tree.specs.declared.tree.Top.{Top}
use Rattle.c_tree.specs.declared.tree.Top.TheVariants as T
use Rattle.c_tree.specs.declared.tree.Function.{Function}
use Rattle.c_tree.specs.declared.tree.Home.TheVariants as H
use Rattle.c_kinds.specs.declared.binding.Binding.{Binding}
use Rattle.c_kinds.specs.Scopes.{Scope, found, known_scope}
use Rattle.c_scopes.specs.Files.{start}
use Rattle.c_resolved_defs.specs.Names.{Names, known, declared_or, the_function, first_function}
use Rattle.c_resolved_defs.specs.Scopes.{Meaning, AConstant, AVariable, AFunction, at_start, TopsAreBound, behind_top}
use Rattle.c_resolved_defs.specs.Scopes as resolved
use Rattle.c_resolved_defs.specs.Resolved.{names_in}
use Rattle.reread_parts_laws.specs.Bindings.{function_of, binding_of, IsSame, IsSameScope, AreSameScopes}
use Rattle.reread_parts_laws.specs.Laws.{AreOfFile, IsOfFile, ScopeIsOfFile}
use Rattle.c_kinds.proofs.Entries.{same_names, by_bool}

-- ---- no function of the program is named like one of the library

module _ (p : Function → Bool) (m : List ℕ) (h : is_known m ≡ true) where
  none_named : (ts : List Top) (ss : List resolved.Scope) → TopsAreBound ss ts → first_function p m ts ≡ None
  none_named [] ss b = refl
  none_named (T.Function f ∷ ts) ss b =
      ap (λ z. cond (z && p f) (Some f) (first_function p m ts)) (differs (b.0.unknown)) ∙ none_named ts (behind_top ss (T.Function f)) (b.1)
    where
      differs : is_known f.name ≡ false → bytes_eq f.name m ≡ false
      differs u = by_bool (bytes_eq f.name m) (λ y. let e = same_names f.name m y in absurd (true≢false (sym h ∙ ap is_known (sym e) ∙ u))) (λ n. n)
  none_named (T.Enum xs ∷ ts) ss b = none_named ts (behind_top ss (T.Enum xs)) (b.1)
  none_named (T.Global g ∷ ts) ss b = none_named ts (behind_top ss (T.Global g)) (b.1)
  none_named (T.Include bytes ∷ ts) ss b = none_named ts ss (b.1)
  none_named (T.Note bytes ∷ ts) ss b = none_named ts ss (b.1)

-- ---- the scope of the library

module _ (ts : List Top) (free : (m : List ℕ) → is_known m ≡ true → the_function m ts ≡ None) where
  abbrev n : Names
  n = record { tops = ts; slots = [] }

  abbrev library : resolved.Scope
  library = (codes "getchar", AFunction) ∷ (codes "putchar", AFunction) ∷ (codes "printf", AFunction) ∷ (codes "exit", AFunction) ∷ (
    codes "abort",
    AFunction,
  ) ∷ []

  abbrev Same : List ℕ → Type 0
  Same m = IsSame n m (resolved.found m library) (found m known_scope)

  called : (m : List ℕ) → is_known m ≡ true → function_of (known m) ≡ binding_of n m AFunction
  called m h = sym (ap (λ o. function_of (declared_or (known m) o)) (free m h))

  at_name : (m k : List ℕ) → Same k → bytes_eq m k ≡ true → Same m
  at_name m k h y = subst Same (sym (same_names m k y)) h

  pub library_same : IsSameScope n library known_scope
  library_same m =
      by_bool (bytes_eq m (codes "abort")) (at_name m (codes "abort") (called (codes "abort") refl, refl))
      (λ a. by_bool (bytes_eq m (codes "exit")) (at_name m (codes "exit") (called (codes "exit") refl, refl))
      (λ e. by_bool (bytes_eq m (codes "getchar")) (at_name m (codes "getchar") (called (codes "getchar") refl, refl))
      (λ g. by_bool (bytes_eq m (codes "printf")) (at_name m (codes "printf") (called (codes "printf") refl, refl))
      (λ f. by_bool (bytes_eq m (codes "putchar")) (at_name m (codes "putchar") (called (codes "putchar") refl, refl))
      (λ p. in_none m a e g f p)))))
    where
      in_none : (m : List ℕ) → bytes_eq m (codes "abort") ≡ false → bytes_eq m (codes "exit") ≡ false → bytes_eq m (codes "getchar") ≡ false →
          bytes_eq m (codes "printf") ≡ false → bytes_eq m (codes "putchar") ≡ false → Same m
      in_none m a e g f p =
          let some = Some AFunction in
          let here : resolved.found m library ≡ None = λ i. cond (g i) some (cond (p i) some (cond (f i) some (cond (e i) some (cond (a i) some None)))) in
          let bound = function_of in
          let there : found m known_scope ≡ None =
          λ i. cond (a i) (bound (known (codes "abort"))) (cond (e i) (bound (known (codes "exit")))
          (cond (g i) (bound (known (codes "getchar"))) (cond (f i) (bound (known (codes "printf")))
          (cond (p i) (bound (known (codes "putchar"))) None)))) in
          subst (λ o. IsSame n m o (found m known_scope)) (sym here) there

  pub start_same : AreSameScopes n at_start start.scopes
  start_same = ((λ m. refl), (library_same, tt))

pub at_the_start : (ts : List Top) → TopsAreBound at_start ts → AreSameScopes (record { tops = ts; slots = [] }) at_start start.scopes
at_the_start ts b = start_same ts (λ m h. nothing m h)
  where
    nothing : (m : List ℕ) → is_known m ≡ true → the_function m ts ≡ None
    nothing m h = ap (λ o. option_or o (first_function (λ f. true) m ts)) (none_named (λ f. is_some f.body) m h ts at_start b) ∙
        none_named (λ f. true) m h ts at_start b

-- ---- the names of file scope are the same in each function

module _ (ts : List Top) (f : Function) where
  abbrev file : Names
  file = record { tops = ts; slots = [] }

  one_name : (m : List ℕ) (o : Option Meaning) (p : Option Binding) → IfSome o IsOfFile → IsSame file m o p → IsSame (names_in ts f) m o p
  one_name m None p k h = h
  one_name m (Some (AConstant z)) p k h = h
  one_name m (Some AFunction) p k h = h
  one_name m (Some (AVariable (H.Global x))) p k h = h
  one_name m (Some (AVariable (H.Slot x))) p k h = absurd k

  of_file : (m : List ℕ) (s : resolved.Scope) → ScopeIsOfFile s → IfSome (resolved.found m s) IsOfFile
  of_file m [] h = tt
  of_file m (e ∷ s) h = by_first (bytes_eq m e.0) (h.0) (of_file m s (h.1))
    where
      by_first : (b : Bool) → IsOfFile e.1 → IfSome (resolved.found m s) IsOfFile → IfSome (cond b (Some e.1) (resolved.found m s)) IsOfFile
      by_first true p q = p
      by_first false p q = q

  pub in_function : (ss : List resolved.Scope) (scopes : List Scope) → AreOfFile ss → AreSameScopes file ss scopes → AreSameScopes (names_in ts f) ss scopes
  in_function [] [] k h = tt
  in_function (s ∷ ss) (t ∷ scopes) k h = ((λ m. one_name m (resolved.found m s) (found m t) (of_file m s (k.0)) (h.0 m)), in_function ss scopes (k.1) (h.1))
  in_function [] (t ∷ scopes) k h = absurd h
  in_function (s ∷ ss) [] k h = absurd h
