-- Expressions are the same, and break the same rules, by the maps of a walk and by the scopes of its place.
use Rattle.std.proofs.Common.{◌≡◌, ℕ, true, false, List, ◌∷◌, Some, None, refl}
use Rattle.c_grammar.specs.Terms.{Term, Form, Terms, At, Constant, Variable, Cell, Prefix, Suffix, CastTo, CastVoid, Binary, Choice, Assign, Commas, Call, NoTerm, Then, first_of}
use Rattle.c_grammar.specs.Words.{kind_of}
use Rattle.c_lexer.specs.Marks.{mark_of}
use Rattle.c_kinds.specs.declared.typed.Typed.{Typed}
use Rattle.c_kinds.specs.Marks.{step_of, counts_up, unary_op, binary_op, update_op}
use Rattle.c_kinds.specs.Values.{value_of, dropped, number_target, cell_target, writable, reading, unary, counting, cast, cast_void, binary, choice, assignment, comma}
use Rattle.c_kinds.specs.Names.{variable_of, named}
use Rattle.c_kinds.specs.Calls.{called}
use Rattle.c_kinds.specs.Typing.{typed, form_typed, commas, target_of, form_target, given}
use Rattle.c_kinds.specs.Scopes.{Scope, Env, Faults, look_up}
use Rattle.c_kinds.specs.Values.{use_fault, drop_fault}
use Rattle.c_kinds.specs.Names.{name_fault, target_fault}
use Rattle.c_kinds.specs.Calls.{call_faults}
use Rattle.c_kinds.specs.Typing.{faults, form_faults, unused_faults, target_faults, form_target_faults, given_faults}
use Rattle.c_violation_laws.proofs.Scopes.{AreMaps, looks_up}

module _ (word : ℕ → List ℕ) (ms ss : List Scope) (m : AreMaps ms ss) where
  same : (name : List ℕ) → look_up ms name ≡ look_up ss name
  same name = looks_up ms ss m name

  abbrev the_maps : Env
  the_maps = record { word = word; scopes = ms }

  abbrev the_texts : Env
  the_texts = record { word = word; scopes = ss }

  mutual
    pub typed_alike : (t : Term) → typed the_maps t ≡ typed the_texts t
    typed_alike (At first form) = form_alike form

    form_alike : (f : Form) → form_typed the_maps f ≡ form_typed the_texts f
    form_alike (Constant at) = refl
    form_alike (Variable at) = λ i. named at (word at) (same (word at) i)
    form_alike (Cell at x) = λ i. reading (cell_target (variable_of (word at) (same (word at) i)) (value_of (typed_alike x i)))
    form_alike (Prefix k a) = λ i. elim (step_of (mark_of (word k)))
        [ Some up ↦ counting up false (writable (target_alike a i)) | None ↦ unary (unary_op (mark_of (word k))) (value_of (typed_alike a i)) ]
    form_alike (Suffix k a) = λ i. counting (counts_up (mark_of (word k))) true (writable (target_alike a i))
    form_alike (CastTo words a) = λ i. cast (kind_of word words) (value_of (typed_alike a i))
    form_alike (CastVoid a) = λ i. cast_void (dropped (typed_alike a i))
    form_alike (Binary k a b) = λ i. binary (binary_op (mark_of (word k))) (value_of (typed_alike a i)) (value_of (typed_alike b i))
    form_alike (Choice a b c) = λ i. choice (value_of (typed_alike a i)) (value_of (typed_alike b i)) (value_of (typed_alike c i))
    form_alike (Assign k t a) = λ i. assignment (update_op (mark_of (word k))) (writable (target_alike t i)) (value_of (typed_alike a i))
    form_alike (Commas a bs) = commas_alike (typed the_maps a) (typed the_texts a) (typed_alike a) bs
    form_alike (Call at xs) = λ i. called (word at) (same (word at) i) (given_alike xs i)
    form_alike _ = refl

    commas_alike : (x y : Typed) → x ≡ y → (bs : Terms) → commas the_maps x bs ≡ commas the_texts y bs
    commas_alike x y e NoTerm = e
    commas_alike x y e (Then b bs) = commas_alike (comma (dropped x) (typed the_maps b)) (comma (dropped y) (typed the_texts b))
        (λ i. comma (dropped (e i)) (typed_alike b i)) bs

    pub target_alike : (t : Term) → target_of the_maps t ≡ target_of the_texts t
    target_alike (At first form) = form_target_alike form

    form_target_alike : (f : Form) → form_target the_maps f ≡ form_target the_texts f
    form_target_alike (Variable at) = λ i. number_target (variable_of (word at) (same (word at) i))
    form_target_alike (Cell at x) = λ i. cell_target (variable_of (word at) (same (word at) i)) (value_of (typed_alike x i))
    form_target_alike _ = refl

    pub given_alike : (xs : Terms) → given the_maps xs ≡ given the_texts xs
    given_alike NoTerm = refl
    given_alike (Then x xs) = λ i. record { first = first_of x; typed = typed_alike x i } ∷ given_alike xs i

  -- ---- violations

  used_alike : (t : Term) (vs ws : Faults) → vs ≡ ws → use_fault (first_of t) (typed the_maps t) vs ≡ use_fault (first_of t) (typed the_texts t) ws
  used_alike t vs ws e = λ i. use_fault (first_of t) (typed_alike t i) (e i)

  unused_alike : (t : Term) (vs ws : Faults) → vs ≡ ws → drop_fault (first_of t) (typed the_maps t) vs ≡ drop_fault (first_of t) (typed the_texts t) ws
  unused_alike t vs ws e = λ i. drop_fault (first_of t) (typed_alike t i) (e i)

  mutual
    pub faults_alike : (t : Term) (vs : Faults) → faults the_maps t vs ≡ faults the_texts t vs
    faults_alike (At first form) vs = form_faults_alike form vs

    form_faults_alike : (f : Form) (vs : Faults) → form_faults the_maps f vs ≡ form_faults the_texts f vs
    form_faults_alike (Constant at) vs = refl
    form_faults_alike (Variable at) vs = λ i. name_fault at (same (word at) i) vs
    form_faults_alike (Cell at x) vs = λ i. target_fault false true at (same (word at) i) (used_alike x _ _ (faults_alike x vs) i)
    form_faults_alike (Prefix k a) vs =
        λ i. elim (step_of (mark_of (word k))) [ Some up ↦ target_faults_alike a vs i | None ↦ used_alike a _ _ (faults_alike a vs) i ]
    form_faults_alike (Suffix k a) vs = target_faults_alike a vs
    form_faults_alike (CastTo words a) vs = used_alike a _ _ (faults_alike a vs)
    form_faults_alike (CastVoid a) vs = unused_alike a _ _ (faults_alike a vs)
    form_faults_alike (Binary k a b) vs = used_alike b _ _ (λ i. faults_alike b (used_alike a _ _ (faults_alike a vs) i) i)
    form_faults_alike (Choice a b c) vs =
        used_alike c _ _ (λ i. faults_alike c (used_alike b _ _ (λ j. faults_alike b (used_alike a _ _ (faults_alike a vs) j) j) i) i)
    form_faults_alike (Assign k t a) vs = used_alike a _ _ (λ i. faults_alike a (target_faults_alike t vs i) i)
    form_faults_alike (Commas a bs) vs = λ i. unused_faults_alike bs (unused_alike a _ _ (faults_alike a vs) i) i
    form_faults_alike (Call at xs) vs = λ i. call_faults at (same (word at) i) (given_alike xs i) (given_faults_alike xs vs i)
    form_faults_alike _ vs = refl

    unused_faults_alike : (bs : Terms) (vs : Faults) → unused_faults the_maps bs vs ≡ unused_faults the_texts bs vs
    unused_faults_alike NoTerm vs = refl
    unused_faults_alike (Then b bs) vs = λ i. unused_faults_alike bs (unused_alike b _ _ (faults_alike b vs) i) i

    target_faults_alike : (t : Term) (vs : Faults) → target_faults the_maps t vs ≡ target_faults the_texts t vs
    target_faults_alike (At first form) vs = form_target_faults_alike form vs

    form_target_faults_alike : (f : Form) (vs : Faults) → form_target_faults the_maps f vs ≡ form_target_faults the_texts f vs
    form_target_faults_alike (Variable at) vs = λ i. target_fault true false at (same (word at) i) vs
    form_target_faults_alike (Cell at x) vs = λ i. target_fault true true at (same (word at) i) (used_alike x _ _ (faults_alike x vs) i)
    form_target_faults_alike _ vs = refl

    given_faults_alike : (xs : Terms) (vs : Faults) → given_faults the_maps xs vs ≡ given_faults the_texts xs vs
    given_faults_alike NoTerm vs = refl
    given_faults_alike (Then x xs) vs = λ i. given_faults_alike xs (faults_alike x vs i) i
