-- What a walk finds at file scope, but in functions.
use Rattle.std.proofs.Common.{◌≡◌, ◌⊎◌, inl, inr, ℕ, Bool, true, false, not, List, [], ◌∷◌, ◌++◌, map, codes, Option, Some, None, refl, sym, ap, subst, ◌∙◌, bytes_eq, true≢false}
use Rattle.std.specs.Prelude.{ℤ}
use Rattle.c_types.specs.declared.kinds.IntKind.TheVariants.{Int}
use Rattle.c_types.specs.Numbers.{is_in_range}
use Rattle.c_types.specs.Words.{is_known}
use Rattle.c_grammar.specs.Terms.{Term, first_of}
use Rattle.c_grammar.specs.Items.{Declarator}
use Rattle.c_grammar.specs.Tops.{Enumerator}
use Rattle.c_kinds.specs.declared.binding.Binding.TheVariants.{Constant}
use Rattle.c_kinds.specs.declared.typed.Fault.{Fault}
use Rattle.c_kinds.specs.Scopes.{Scope, fault_if, bind, bind_fault}
use Rattle.c_kinds.specs.Typing.{typed, constant_faults}
use Rattle.c_kinds.proofs.Entries.{same_names, names_same}
use Rattle.c_statements.specs.declared.extents.Kinded.{Kinded}
use Rattle.c_statements.specs.Declarations.{is_bad_array, size_faults, initial_faults}
use Rattle.c_scopes.specs.Enums.{number_of, value_of, or_zero, enumerated, int_fault, number_first, given_faults, value_faults, enum_faults}
use Rattle.c_scopes.specs.FileNames.{file_name_faults}
use Rattle.c_scopes.specs.Globals.{global_declared, global_faults, globals_faults}
use Rattle.c_reading_defs.specs.Bindings.{IsDeclared}
use Rattle.c_reading_defs.specs.Expressions.{NeedsConstant}
use Rattle.c_reading_defs.specs.Scopes.{Identifier, scopes_at, names_for}
use Rattle.c_reading_defs.specs.FileScopes.{enumerator_number, global_variable}
use Rattle.c_reading_defs.specs.Behind.{SomeOf}
use Rattle.c_reading_defs.specs.Files.{FileNameBreaks, EnumeratorBreaks, GivenBreaks, ConstantBreaks, GlobalBreaks, VariableBreaks}
use Rattle.c_reading_defs.specs.Violations.{broken}
use Rattle.c_violation_laws.specs.Finds.{Finds}
use Rattle.c_violation_laws.proofs.Finding.{Rule, finds_none, finds_both, finds_same, finds_nothing, finds_if}
use Rattle.c_violation_laws.proofs.Standing.{AreMaps}
use Rattle.c_violation_laws.proofs.Marks.{each_marks, enumerator_marks, declarator_marks}
use Rattle.c_violation_laws.proofs.Behind.{Behind}
use Rattle.c_violation_laws.proofs.Enumerated.{constants, last_value, number_is, value_more}
use Rattle.c_violation_laws.proofs.FileStanding.{in_scopes, FileIn, Follow, number_alike, value_alike, constant_here, constant_past, global_here, global_values, global_past}
use Rattle.c_violation_laws.proofs.Declared.{constant_at, sizes, initialiser, bad_breaks, breaks_are_bad, twice}

module _ (word : ℕ → List ℕ) where
  -- ---- names

  module _ (ms : List Scope) (scopes : List (List Identifier)) (at : ℕ) (m : AreMaps ms (scopes_at scopes at)) where
    abbrev main : Bool
    main = bytes_eq (word at) (codes "main")

    abbrev Parts : Rule
    Parts v = ((is_known (word at) ≡ true) × (v ≡ broken at 21)) ⊎
        (((main ≡ true) × (v ≡ broken at 36)) ⊎ (IsDeclared (word at) (scopes_at scopes at) × (v ≡ broken at 21)))

    pub name : Finds (file_name_faults at (in_scopes word ms)) (λ v. FileNameBreaks word scopes at v)
    name =
        finds_same (file_name_faults at (in_scopes word ms)) Parts (λ v. FileNameBreaks word scopes at v)
        (finds_both (fault_if (is_known (word at)) at 21) (λ vs. bind_fault at (word at) ms (fault_if main at 36 vs)) _ _ (finds_if (is_known (word at)) at 21)
        (finds_both (fault_if main at 36) (bind_fault at (word at) ms) _ _ (finds_if main at 36) (twice word ms (scopes_at scopes at) m (word at) at)))
        to fro
      where
        to : (v : Fault) → ((is_known (word at) ≡ true) × (v ≡ broken at 21)) ⊎
            (((bytes_eq (word at) (codes "main") ≡ true) × (v ≡ broken at 36)) ⊎ (IsDeclared (word at) (scopes_at scopes at) × (v ≡ broken at 21))) →
            FileNameBreaks word scopes at v
        to v (inl q) = subst (FileNameBreaks word scopes at) (sym q.1) (FileNameBreaks.known_function q.0)
        to v (inr (inl q)) = subst (FileNameBreaks word scopes at) (sym q.1) (FileNameBreaks.is_main (same_names (word at) (codes "main") q.0))
        to v (inr (inr q)) = subst (FileNameBreaks word scopes at) (sym q.1) (FileNameBreaks.declared_twice q.0)

        fro : (v : Fault) → FileNameBreaks word scopes at v → ((is_known (word at) ≡ true) × (v ≡ broken at 21)) ⊎
            (((bytes_eq (word at) (codes "main") ≡ true) × (v ≡ broken at 36)) ⊎ (IsDeclared (word at) (scopes_at scopes at) × (v ≡ broken at 21)))
        fro v (FileNameBreaks.declared_twice h) = inr (inr (h, refl))
        fro v (FileNameBreaks.known_function e) = inl (e, refl)
        fro v (FileNameBreaks.is_main e) = inr (inl (names_same (word at) (codes "main") e, refl))

  -- ---- enums

  module _ (ms ss : List Scope) (m : AreMaps ms ss) where
    given : (t : Option Term) → Finds (given_faults (in_scopes word ms) t) (λ v. GivenBreaks (in_scopes word ss) t v)
    given None = finds_none
    given (Some t) = constant_at word ms ss m t

  module _ (ss : List (List Identifier)) (front : List Enumerator) (e : Enumerator) where
    abbrev at : ℕ
    at = number_first e.name e.value

    abbrev number : Option ℤ
    number = enumerator_number typed word ss front e

    abbrev Breaks : Rule
    Breaks v = EnumeratorBreaks number e v

    some_same : (a b : ℤ) → number ≡ Some a → number ≡ Some b → a ≡ b
    some_same a b i j = cc

    some_none : (a : ℤ) → number ≡ Some a → number ≡ None → ⊥
    some_none a i j = cc

    untrue : (b : Bool) → not b ≡ true → b ≡ false
    untrue true i = absurd (true≢false (sym i))
    untrue false i = refl

    by_number : (o : Option ℤ) → number ≡ o → Finds (int_fault at o) Breaks
    by_number (Some n) i =
        finds_same (fault_if (not (is_in_range Int n)) at 34) _ Breaks (finds_if (not (is_in_range Int n)) at 34)
        (λ v q. subst Breaks (sym q.1) (EnumeratorBreaks.no_int n i (untrue (is_in_range Int n) q.0))) fro
      where
        fro : (v : Fault) → EnumeratorBreaks number e v → (not (is_in_range Int n) ≡ true) × (v ≡ broken at 34)
        fro v (EnumeratorBreaks.no_int k j r) = (ap not (subst (λ z. is_in_range Int z ≡ false) (some_same k n j i) r), refl)
    by_number None i = finds_nothing Breaks no
      where
        no : (v : Fault) → EnumeratorBreaks number e v → ⊥
        no v (EnumeratorBreaks.no_int k j r) = some_none k j i

    int : (ms : List Scope) → AreMaps ms (scopes_at ss e.name) → Finds (int_fault at (number_of (in_scopes word ms) e.value (last_value word ss front))) Breaks
    int ms m =
        let before = last_value word ss front in
        by_number (number_of (in_scopes word ms) e.value before) (number_is word ss front e ∙ sym (number_alike word ms ss e m before))

  module _ (ss : List (List Identifier)) where
    pub enumerators : (es front : List Enumerator) (ms : List Scope) (zs : List Identifier) (ns : List ℕ)
        → FileIn ms ss (constants word ss (last_value word ss front) es ++ zs) (each_marks enumerator_marks es ++ ns) → Follow ns zs
        → Finds (enum_faults es (last_value word ss front) (in_scopes word ms)) (λ v. Behind (λ front e. ConstantBreaks typed word ss front e v) front es)
    enumerators [] front ms zs ns h follow = finds_none
    enumerators (e ∷ es) front ms zs ns h follow =
        let env = in_scopes word ms in
        let before = last_value word ss front in
        let m = constant_here word ss e es before ms zs ns h follow in
        let ours = value_of env e.value before in
        let more = front ++ e ∷ [] in
        let theirs = last_value word ss more in
        let value = value_more word ss front e in
        let same : theirs ≡ ours = value ∙ sym (value_alike word ms ss e m before) in
        let inner = bind (word e.name) (Constant (or_zero theirs)) ms in
        let rest = subst (λ z. FileIn inner ss (constants word ss z es ++ zs) (each_marks enumerator_marks es ++ ns)) (sym value)
        (constant_past word ss e es before ms zs ns theirs value h) in
        finds_both (λ vs. file_name_faults e.name env (value_faults env e.name e.value before vs)) (enum_faults es ours (enumerated e ours env)) _ _
        (finds_both (given_faults env e.value)
        (λ vs. file_name_faults e.name env (int_fault (number_first e.name e.value) (number_of env e.value before) vs))
        _ _ (given ms (scopes_at ss e.name) m e.value)
        (finds_both (int_fault (number_first e.name e.value) (number_of env e.value before)) (file_name_faults e.name env) _ _ (int ss front e ms m)
        (name ms ss e.name m)))
        (subst (λ z. Finds (enum_faults es z (enumerated e z env)) (λ v. Behind (λ front e. ConstantBreaks typed word ss front e v) more es)) same
        (enumerators es more inner zs ns rest follow))

  -- ---- variables

  module _ (k : Kinded) where
    bad : (ms ss : List Scope) → AreMaps ms ss → (d : Declarator) → Finds (fault_if (is_bad_array false (in_scopes word ms) d) d.name 35)
        (λ v. GlobalBreaks typed (in_scopes word ss) d v)
    bad ms ss m d =
        finds_same (fault_if (is_bad_array false (in_scopes word ms) d) d.name 35) _ (λ v. GlobalBreaks typed (in_scopes word ss) d v)
        (finds_if (is_bad_array false (in_scopes word ms) d) d.name 35)
        (λ v q. subst (GlobalBreaks typed (in_scopes word ss) d) (sym q.1) (GlobalBreaks.bad_array (bad_breaks word ms ss m false d q.0))) fro
      where
        fro : (v : Fault) → GlobalBreaks typed (in_scopes word ss) d v → (is_bad_array false (in_scopes word ms) d ≡ true) × (v ≡ broken d.name 35)
        fro v (GlobalBreaks.bad_array e) = (breaks_are_bad word ms ss m false d e, refl)

    pub variables : (ss : List (List Identifier)) (ds : List Declarator) (ms : List Scope) (zs : List Identifier) (ns : List ℕ) →
        FileIn ms ss (map (global_variable word k) ds ++ zs) (each_marks declarator_marks ds ++ ns) → Follow ns zs
        → Finds (globals_faults k ds (in_scopes word ms)) (λ v. SomeOf (λ d. VariableBreaks typed word ss d v) ds)
    variables ss [] ms zs ns h follow = finds_none
    variables ss (d ∷ ds) ms zs ns h follow =
        let env = in_scopes word ms in
        let inner = global_declared k d env in
        let known = scopes_at ss d.name in
        let m = global_here word ss k d ds ms zs ns h follow in
        let values = global_values word ss k d ds ms zs ns h follow in
        finds_both (global_faults k d env) (globals_faults k ds inner) _ _
        (finds_both (size_faults env d.size) (λ vs. initial_faults (constant_faults inner) d.value
        (file_name_faults d.name env (fault_if (is_bad_array false env d) d.name 35 vs))) _ _ (sizes word ms known m d.size)
        (finds_both (fault_if (is_bad_array false env d) d.name 35)
        (λ vs. initial_faults (constant_faults inner) d.value (file_name_faults d.name env vs)) _ _ (bad ms known m d)
        (finds_both (file_name_faults d.name env) (initial_faults (constant_faults inner) d.value) _ _ (name ms ss d.name m)
        (initialiser values.lo values.hi (names_for word ss) (constant_faults inner) NeedsConstant
        (λ t l g. constant_at word inner.scopes (scopes_at ss (first_of t)) (values.sees (first_of t) l g) t) d.value values.order))))
        (variables ss ds inner.scopes zs ns (global_past word ss k d ds ms zs ns h follow) follow)
