-- What a walk finds at the name of a function.
use Rattle.std.proofs.Common.{◌≡◌, ◌⊎◌, inl, inr, ℕ, Bool, true, false, cond, not, ◌&&◌, ◌||◌, List, [], ◌∷◌, ◌++◌, codes, Option, Some, None, is_some, refl, sym, ap, subst, ◌∙◌, bytes_eq, true≢false}
use Rattle.std.proofs.lemmas.Bool.{and_parts, or_cases, or_left, or_right, and_from, not-true}
use Rattle.std.specs.declared.cmp.Ordering.{Ordering}
use Rattle.std.specs.declared.cmp.Ordering.TheVariants.{Less, Equal, Greater}
use Rattle.std.specs.Ordering.{match_ordering, is_eq}
use Rattle.std.proofs.lemmas.Map.Text.{is_eq-slice_cmp}
use Rattle.c_types.specs.Words.{is_known, name_cmp}
use Rattle.c_grammar.specs.Tops.{Function, Line, Enum, Globals, Defines, Unread, Top, From}
use Rattle.c_kinds.specs.declared.binding.Signature.{Signature}
use Rattle.c_kinds.specs.declared.binding.Binding.{Binding}
use Rattle.c_kinds.specs.declared.binding.Binding.TheVariants as binding
use Rattle.c_kinds.specs.declared.typed.Fault.{Fault}
use Rattle.c_kinds.specs.Scopes.{Scope, fault_if, bound}
use Rattle.c_kinds.proofs.Entries.{same_names, names_same}
use Rattle.c_scopes.specs.Files.{File}
use Rattle.c_scopes.specs.FunctionNames.{has_function, with_function, has_body, with_body, again_faults, is_main_form, same_signature, signature_in, function_name_faults}
use Rattle.c_reading_defs.specs.Bindings.{IsDeclared, IsDeclaredAs}
use Rattle.c_reading_defs.specs.Files.{IsDefinedIn, FunctionNameBreaks}
use Rattle.c_reading_defs.specs.Violations.{broken}
use Rattle.c_violation_laws.specs.Finds.{Finds}
use Rattle.c_violation_laws.proofs.Bound.{there, there_back}
use Rattle.c_violation_laws.proofs.Finding.{Rule, finds_none, finds_both, finds_same, finds_fault, finds_if}
use Rattle.c_violation_laws.proofs.Standing.{AreMaps}
use Rattle.c_violation_laws.proofs.FileStanding.{in_scopes}
use Rattle.c_violation_laws.proofs.Scopes.{found_alike, is_declared, declared_is}

-- ---- functions that have a body so far

doubled : (a c : Bool) → (a || c) ≡ (a || (a || c))
doubled true c = refl
doubled false c = refl

turned : (a b c : Bool) → (a || (b || c)) ≡ (b || (a || c))
turned true true c = refl
turned true false c = refl
turned false true c = refl
turned false false c = refl

has_more : (q n : List ℕ) (xs : List (List ℕ)) → has_function (with_function n xs) q ≡ (bytes_eq q n || has_function xs q)
has_more q n [] = refl
has_more q n (x ∷ xs) = by (name_cmp n x) (is_eq-slice_cmp n x) (has_more q n xs)
  where
    by : (o : Ordering) → is_eq o ≡ bytes_eq n x → has_function (with_function n xs) q ≡ (bytes_eq q n || has_function xs q)
        → has_function (match_ordering o (n ∷ x ∷ xs) (x ∷ xs) (x ∷ with_function n xs)) q ≡ (bytes_eq q n || (bytes_eq q x || has_function xs q))
    by Less e h = refl
    by Equal e h = doubled (bytes_eq q x) (has_function xs q) ∙ ap (λ w. bytes_eq q w || (bytes_eq q x || has_function xs q)) (sym (same_names n x (sym e)))
    by Greater e h = ap (λ b. bytes_eq q x || b) h ∙ turned (bytes_eq q x) (bytes_eq q n) (has_function xs q)

module _ (word : ℕ → List ℕ) where
  -- those that one of these defines
  abbrev pub AreBodies : List Top → List (List ℕ) → Type 0
  AreBodies before bodies = (q : List ℕ) → (has_function bodies q ≡ true → IsDefinedIn word q before) ×
      (IsDefinedIn word q before → has_function bodies q ≡ true)

  defined_more : (q : List ℕ) (before : List Top) (x : Top) → IsDefinedIn word q (before ++ x ∷ []) → IsDefinedIn word q before ⊎ IsDefinedIn word q (x ∷ [])
  defined_more q [] x h = inr h
  defined_more q (From first after (Defines f) ∷ xs) x (inl p) = inl (inl p)
  defined_more q (From first after (Defines f) ∷ xs) x (inr h) = elim (defined_more q xs x h) [ inl a ↦ inl (inr a) | inr b ↦ inr b ]
  defined_more q (From first after Line ∷ xs) x h = defined_more q xs x h
  defined_more q (From first after (Enum es) ∷ xs) x h = defined_more q xs x h
  defined_more q (From first after (Globals static d) ∷ xs) x h = defined_more q xs x h
  defined_more q (From first after Unread ∷ xs) x h = defined_more q xs x h

  more_defined : (q : List ℕ) (before : List Top) (x : Top) → IsDefinedIn word q before ⊎ IsDefinedIn word q (x ∷ []) → IsDefinedIn word q (before ++ x ∷ [])
  more_defined q [] x (inl h) = absurd h
  more_defined q [] x (inr h) = h
  more_defined q (From first after (Defines f) ∷ xs) x (inl (inl p)) = inl p
  more_defined q (From first after (Defines f) ∷ xs) x (inl (inr h)) = inr (more_defined q xs x (inl h))
  more_defined q (From first after (Defines f) ∷ xs) x (inr h) = inr (more_defined q xs x (inr h))
  more_defined q (From first after Line ∷ xs) x h = more_defined q xs x h
  more_defined q (From first after (Enum es) ∷ xs) x h = more_defined q xs x h
  more_defined q (From first after (Globals static d) ∷ xs) x h = more_defined q xs x h
  more_defined q (From first after Unread ∷ xs) x h = more_defined q xs x h

  -- behind something that is no function
  pub bodies_same : (before : List Top) (x : Top) (bodies : List (List ℕ)) → ((q : List ℕ) → IsDefinedIn word q (x ∷ []) → ⊥) →
      AreBodies before bodies → AreBodies (before ++ x ∷ []) bodies
  bodies_same before x bodies never h q = (
    λ e. more_defined q before x (inl ((h q).0 e)),
    λ d. elim (defined_more q before x d)
        [ inl a ↦ (h q).1 a | inr b ↦ absurd (never q b) ],
  )

  with_body_by : (q : List ℕ) (f : Function) (bodies : List (List ℕ)) →
      has_function (with_body word f bodies) q ≡ ((has_body f && bytes_eq q (word f.name)) || has_function bodies q)
  with_body_by q f bodies = by (has_body f)
    where
      by : (b : Bool) → has_function (cond b (with_function (word f.name) bodies) bodies) q ≡ ((b && bytes_eq q (word f.name)) || has_function bodies q)
      by true = has_more q (word f.name) bodies
      by false = refl

  -- behind a function
  pub bodies_more : (before : List Top) (first after : ℕ) (f : Function) (bodies : List (List ℕ)) → AreBodies before bodies →
      AreBodies (before ++ From first after (Defines f) ∷ []) (with_body word f bodies)
  bodies_more before first after f bodies h q = (
    λ e. more_defined q before (From first after (Defines f))
        (elim (or_cases (has_body f && bytes_eq q (word f.name)) (has_function bodies q) (sym (with_body_by q f bodies) ∙ e)) [
          | inl g ↦ let p = and_parts (has_body f) (bytes_eq q (word f.name)) g in inr (inl (p.0, same_names q (word f.name) p.1))
          | inr g ↦ inl ((h q).0 g)
        ]),
    λ d. with_body_by q f bodies ∙ elim (defined_more q before (From first after (Defines f)) d) [
      | inl a ↦ or_right (has_body f && bytes_eq q (word f.name)) (has_function bodies q) ((h q).1 a)
      | inr b ↦ elim b [
        | inl p ↦ or_left (has_body f && bytes_eq q (word f.name)) (has_function bodies q)
            (and_from (has_body f) (bytes_eq q (word f.name)) p.0 (names_same q (word f.name) p.1))
        | inr n ↦ absurd n
      ]
    ],
  )

-- ---- the name

declared_as : (name : List ℕ) (b : Binding) (ss : List Scope) → bound name ss ≡ Some b → IsDeclaredAs name b ss
declared_as name b [] e = cc
declared_as name b (s ∷ ss) e = there name b s e

as_declared : (name : List ℕ) (b : Binding) (ss : List Scope) → IsDeclaredAs name b ss → bound name ss ≡ Some b
as_declared name b [] h = absurd h
as_declared name b (s ∷ ss) h = there_back name b s h

-- what is found where the file declares the name already
abbrev again_rule : ℕ → Bool → Signature → Option Binding → Rule
again_rule at again s None v = ⊥
again_rule at again s (Some (binding.Function g)) v = ((not (same_signature g s) ≡ true) × (v ≡ broken at 37)) ⊎ ((again ≡ true) × (v ≡ broken at 21))
again_rule at again s (Some _) v = v ≡ broken at 21

again_finds : (at : ℕ) (again : Bool) (s : Signature) (o : Option Binding) → Finds (again_faults at again s o) (again_rule at again s o)
again_finds at again s None = finds_none
again_finds at again s (Some (binding.Function g)) = finds_both (fault_if (not (same_signature g s)) at 37) (fault_if again at 21)
    _ _ (finds_if (not (same_signature g s)) at 37) (finds_if again at 21)
again_finds at again s (Some (binding.Constant n)) = finds_fault at 21
again_finds at again s (Some (binding.Global shape)) = finds_fault at 21
again_finds at again s (Some (binding.Local slot shape)) = finds_fault at 21
again_finds at again s (Some binding.Printf) = finds_fault at 21

module _ (file : File) (before : List Top) (bodies : List (List ℕ)) (defined : AreBodies file.word before bodies) (ms ss : List Scope)
    (m : AreMaps ms ss) (f : Function) where
  abbrev name : List ℕ
  name = file.word f.name

  abbrev main : Bool
  main = bytes_eq name (codes "main") && not (is_main_form file.word f)

  abbrev again : Bool
  again = has_body f && has_function bodies name

  abbrev own : Signature
  own = signature_in file.bodies file.word f

  abbrev Breaks : Rule
  Breaks v = FunctionNameBreaks file before ss f v

  abbrev Parts : Rule
  Parts v = ((is_known name ≡ true) × (v ≡ broken f.name 21)) ⊎ (((main ≡ true) × (v ≡ broken f.name 36)) ⊎ again_rule f.name again own (bound name ss) v)

  other : (b : Binding) → bound name ss ≡ Some b → ((s : Signature) → b ≡ binding.Function s → ⊥) → (v : Fault) → v ≡ broken f.name 21 → Breaks v
  other b e i v g =
      subst Breaks (sym g)
      (FunctionNameBreaks.no_function (is_declared name ss (ap is_some e))
      (λ s h. let q : Some b ≡ Some (binding.Function s) = sym e ∙ as_declared name (binding.Function s) ss h in i s (cc)))

  declared_before : (o : Option Binding) → bound name ss ≡ o → (v : Fault) → again_rule f.name again own o v → Breaks v
  declared_before None e v h = absurd h
  declared_before (Some (binding.Function g)) e v (inl q) = subst Breaks (sym q.1)
      (FunctionNameBreaks.disagrees g (declared_as name (binding.Function g) ss e) (not-true (same_signature g own) q.0))
  declared_before (Some (binding.Function g)) e v (inr q) =
      let p = and_parts (has_body f) (has_function bodies name) q.0 in
      subst Breaks (sym q.1) (FunctionNameBreaks.second_body g (declared_as name (binding.Function g) ss e) p.0 ((defined name).0 p.1))
  declared_before (Some (binding.Constant n)) e v h = other (binding.Constant n) e (λ s q. cc) v h
  declared_before (Some (binding.Global shape)) e v h = other (binding.Global shape) e (λ s q. cc) v h
  declared_before (Some (binding.Local slot shape)) e v h = other (binding.Local slot shape) e (λ s q. cc) v h
  declared_before (Some binding.Printf) e v h = other binding.Printf e (λ s q. cc) v h

  to : (v : Fault) → Parts v → Breaks v
  to v (inl q) = subst Breaks (sym q.1) (FunctionNameBreaks.known_function q.0)
  to v (inr (inl q)) =
      let p = and_parts (bytes_eq name (codes "main")) (not (is_main_form file.word f)) q.0 in
      subst Breaks (sym q.1) (FunctionNameBreaks.other_main (same_names name (codes "main") p.0) (not-true (is_main_form file.word f) p.1))
  to v (inr (inr h)) = declared_before (bound name ss) refl v h

  other_rule : (o : Option Binding) → bound name ss ≡ o → IsDeclared name ss → ((s : Signature) → IsDeclaredAs name (binding.Function s) ss → ⊥) →
      again_rule f.name again own o (broken f.name 21)
  other_rule None e d i = absurd (true≢false (sym (declared_is name ss d) ∙ ap is_some e))
  other_rule (Some (binding.Function g)) e d i = absurd (i g (declared_as name (binding.Function g) ss e))
  other_rule (Some (binding.Constant n)) e d i = refl
  other_rule (Some (binding.Global shape)) e d i = refl
  other_rule (Some (binding.Local slot shape)) e d i = refl
  other_rule (Some binding.Printf) e d i = refl

  known : (b : Binding) (v : Fault) → IsDeclaredAs name b ss → again_rule f.name again own (Some b) v → again_rule f.name again own (bound name ss) v
  known b v h r = subst (λ o. again_rule f.name again own o v) (sym (as_declared name b ss h)) r

  fro : (v : Fault) → FunctionNameBreaks file before ss f v → Parts v
  fro v (FunctionNameBreaks.known_function e) = inl (e, refl)
  fro v (FunctionNameBreaks.no_function d i) = inr (inr (other_rule (bound name ss) refl d i))
  fro v (FunctionNameBreaks.second_body g h e d) = inr
      (inr (known (binding.Function g) (broken f.name 21) h (inr (and_from (has_body f) (has_function bodies name) e ((defined name).1 d), refl))))
  fro v (FunctionNameBreaks.other_main e g) = inr
      (inl (and_from (bytes_eq name (codes "main")) (not (is_main_form file.word f)) (names_same name (codes "main") e) (ap not g), refl))
  fro v (FunctionNameBreaks.disagrees g h e) = inr (inr (known (binding.Function g) (broken f.name 37) h (inl (ap not e, refl))))

  pub function_name : Finds (function_name_faults file.bodies bodies f (in_scopes file.word ms)) Breaks
  function_name =
      finds_same (function_name_faults file.bodies bodies f (in_scopes file.word ms)) Parts Breaks
      (finds_both (fault_if (is_known name) f.name 21) (λ vs. again_faults f.name again own (bound name ms) (fault_if main f.name 36 vs))
      _ _ (finds_if (is_known name) f.name 21)
      (finds_both (fault_if main f.name 36) (again_faults f.name again own (bound name ms)) _ _ (finds_if main f.name 36)
      (subst (λ o. Finds (again_faults f.name again own o) (again_rule f.name again own (bound name ss))) (sym (found_alike name ms ss m))
      (again_finds f.name again own (bound name ss)))))
      to fro
