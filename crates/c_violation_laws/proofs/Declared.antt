-- What a walk finds in a declaration of a block.
use Rattle.std.proofs.Common.{◌≡◌, ◌≤◌, ◌⊎◌, inl, inr, ℕ, Bool, true, List, [], ◌∷◌, ◌++◌, map, option_map, refl, sym, ap, subst, ◌∙◌, arith}
use Rattle.c_grammar.specs.Terms.{Term, first_of}
use Rattle.c_grammar.specs.Items.{Size, NoSize, Unsized, Sized, Initialiser, NoValue, OneValue, ValueList, Declarator}
use Rattle.c_kinds.specs.declared.typed.Fault.{Fault}
use Rattle.c_kinds.specs.declared.typed.Typed.{Typed}
use Rattle.c_kinds.specs.Constants.{constant_of, constant_fault}
use Rattle.c_kinds.specs.Scopes.{Env, Scope, Faults, fault_if, is_bound, bind_fault}
use Rattle.c_kinds.specs.Typing.{typed, faults, constant_faults}
use Rattle.c_kinds.specs.Values.{use_fault, drop_fault}
use Rattle.c_statements.specs.declared.extents.Kinded.{Kinded}
use Rattle.c_statements.specs.declared.extents.Length.{Length}
use Rattle.c_statements.specs.declared.extents.Length.TheVariants.{Constant}
use Rattle.c_statements.specs.Context.{Walk, env_in}
use Rattle.c_statements.specs.Declarations.{declared, is_bad_array, is_bad_shape, length_in, size_faults, each_faults, initial_faults, value_faults, local_faults, locals_faults}
use Rattle.c_statements.specs.Violations.{dropped_faults}
use Rattle.c_reading_defs.specs.Written as written
use Rattle.c_reading_defs.specs.Violations.{broken}
use Rattle.c_reading_defs.specs.Arrays.{ArrayBreaks}
use Rattle.c_reading_defs.specs.Bindings.{IsDeclared}
use Rattle.c_reading_defs.specs.Behind.{SomeOf}
use Rattle.c_reading_defs.specs.Labels.{InFunction}
use Rattle.c_reading_defs.specs.Variables.{name_tokens}
use Rattle.c_reading_defs.specs.Scopes.{scopes_at}
use Rattle.c_reading_defs.specs.Places as places
use Rattle.c_reading_defs.specs.Places.{Place, variable}
use Rattle.c_reading_defs.specs.Expressions.{Role, NeedsValue, NeedsConstant, MayBeVoid, IsJudgedElsewhere, ExpressionBreaks}
use Rattle.c_reading_defs.specs.Declared.{SizeBreaks, ValuesBreak, InitialiserBreaks, LocalBreaks, DeclaratorBreaks}
use Rattle.c_violation_laws.specs.Finds.{Finds}
use Rattle.c_violation_laws.proofs.Finding.{finds_none, finds_both, finds_same, finds_as, finds_if}
use Rattle.c_violation_laws.proofs.Expressions.{value, dropped, constant, argument}
use Rattle.c_violation_laws.proofs.Arrays.{array_breaks, breaks_bad}
use Rattle.c_violation_laws.proofs.Rising.{Rising, rising_ends, Apart}
use Rattle.c_violation_laws.proofs.Marks.{each_marks, term_marks, value_marks, declarator_marks}
use Rattle.c_violation_laws.proofs.Standing.{AreMaps, StandsIn, stands_name_here, stands_values, stands_name}
use Rattle.c_violation_laws.proofs.Scopes.{bound_alike, is_declared, declared_is}
use Rattle.c_violation_laws.proofs.AlikeTerms.{typed_alike, faults_alike}

abbrev length_of : Typed → Length
length_of x = Constant (option_map (λ c. c.1) (constant_of x))

module _ (word : ℕ → List ℕ) (ms ss : List Scope) (m : AreMaps ms ss) where
  abbrev ours : Env
  ours = record { word = word; scopes = ms }

  abbrev theirs : Env
  theirs = record { word = word; scopes = ss }

  pub value_at : (t : Term) → Finds (value_faults ours t) (λ v. ExpressionBreaks theirs NeedsValue t v)
  value_at t = finds_as (value_faults ours t) (value_faults theirs t)
      _ (λ vs i. use_fault (first_of t) (typed_alike word ms ss m t i) (faults_alike word ms ss m t vs i)) (value theirs t)

  pub dropped_at : (t : Term) → Finds (dropped_faults ours t) (λ v. ExpressionBreaks theirs MayBeVoid t v)
  dropped_at t = finds_as (dropped_faults ours t) (dropped_faults theirs t)
      _ (λ vs i. drop_fault (first_of t) (typed_alike word ms ss m t i) (faults_alike word ms ss m t vs i)) (dropped theirs t)

  pub constant_at : (t : Term) → Finds (constant_faults ours t) (λ v. ExpressionBreaks theirs NeedsConstant t v)
  constant_at t = finds_as (constant_faults ours t) (constant_faults theirs t)
      _ (λ vs i. constant_fault (first_of t) (typed_alike word ms ss m t i) (faults_alike word ms ss m t vs i)) (constant theirs t)

  pub any_at : (t : Term) → Finds (faults ours t) (λ v. ExpressionBreaks theirs IsJudgedElsewhere t v)
  any_at t = finds_as (faults ours t) (faults theirs t) _ (λ vs. faults_alike word ms ss m t vs) (argument theirs t)

  pub sizes : (size : Size) → Finds (size_faults ours size) (λ v. SizeBreaks theirs size v)
  sizes NoSize = finds_none
  sizes Unsized = finds_none
  sizes (Sized t) = constant_at t

  length_alike : (size : Size) → length_in ours size ≡ written.length_in typed theirs size
  length_alike NoSize = refl
  length_alike Unsized = refl
  length_alike (Sized t) = λ i. length_of (typed_alike word ms ss m t i)

  shape_alike : (local : Bool) (d : Declarator) → is_bad_array local ours d ≡ is_bad_shape local (written.length_in typed theirs d.size) d.value
  shape_alike local d = ap (λ l. is_bad_shape local l d.value) (length_alike d.size)

  pub bad_breaks : (local : Bool) (d : Declarator) → is_bad_array local ours d ≡ true → ArrayBreaks typed theirs local d.size d.value
  bad_breaks local d e = array_breaks theirs local d.size d.value (sym (shape_alike local d) ∙ e)

  pub breaks_are_bad : (local : Bool) (d : Declarator) → ArrayBreaks typed theirs local d.size d.value → is_bad_array local ours d ≡ true
  breaks_are_bad local d h = shape_alike local d ∙ breaks_bad theirs local d.size d.value h

  pub twice : (name : List ℕ) (at : ℕ) → Finds (fault_if (is_bound name ms) at 21) (λ v. IsDeclared name ss × (v ≡ broken at 21))
  twice name at =
      finds_same (fault_if (is_bound name ms) at 21) _ _ (finds_if (is_bound name ms) at 21)
      (λ v p. (is_declared name ss (sym (bound_alike name ms ss m) ∙ p.0), p.1))
      (λ v p. (bound_alike name ms ss m ∙ declared_is name ss p.0, p.1))

-- an initialiser, of which the values begin from one token to another
module _ (lo hi : ℕ) (env : Term → Env) (k : Term → Faults → Faults) (role : Role)
    (h : (t : Term) → lo ≤ first_of t → first_of t ≤ hi → Finds (k t) (λ v. ExpressionBreaks (env t) role t v)) where
  values : (from : ℕ) (ts : List Term) → lo ≤ from → Rising from (each_marks term_marks ts) hi → Finds (each_faults k ts) (λ v. ValuesBreak env role ts v)
  values from [] l r = finds_none
  values from (t ∷ ts) l r =
      let first = r.0 in
      finds_both (k t) (each_faults k ts) _ _ (h t (omega (arith, l, first)) (rising_ends (first_of t) (each_marks term_marks ts) hi r.1))
      (values (first_of t) ts (omega (arith, l, first)) r.1)

  pub initialiser : (x : Initialiser) → Rising lo (value_marks x) hi → Finds (initial_faults k x) (λ v. InitialiserBreaks env role x v)
  initialiser NoValue r = finds_none
  initialiser (OneValue t) r = h t r.0 r.1
  initialiser (ValueList ts) r = values lo ts (omega arith) r

module _ (f : InFunction) (apart : Apart f.variables) (k : Kinded) where
  -- of the name
  names : (w : Walk) (p : Place) (d : Declarator) → AreMaps w.scopes (scopes_at p.scopes d.name)
      → Finds (λ vs. bind_fault d.name (f.word d.name) w.scopes (fault_if (is_bad_array true (env_in f.word w) d) d.name 35 vs))
      (λ v. LocalBreaks typed f p d v)
  names w p d s =
      let ss = scopes_at p.scopes d.name in
      finds_same (λ vs. bind_fault d.name (f.word d.name) w.scopes (fault_if (is_bad_array true (env_in f.word w) d) d.name 35 vs))
      _ (λ v. LocalBreaks typed f p d v)
      (finds_both (fault_if (is_bad_array true (env_in f.word w) d) d.name 35) (bind_fault d.name (f.word d.name) w.scopes) _ _
      (finds_if (is_bad_array true (env_in f.word w) d) d.name 35) (twice f.word w.scopes ss s (f.word d.name) d.name))
      to fro
    where
      to : (v : Fault) → ((is_bad_array true (env_in f.word w) d ≡ true) × (v ≡ broken d.name 35)) ⊎
          (IsDeclared (f.word d.name) (scopes_at p.scopes d.name) × (v ≡ broken d.name 21)) → LocalBreaks typed f p d v
      to v (inl q) = subst (LocalBreaks typed f p d) (sym q.1) (LocalBreaks.bad_array (bad_breaks f.word w.scopes (scopes_at p.scopes d.name) s true d q.0))
      to v (inr q) = subst (LocalBreaks typed f p d) (sym q.1) (LocalBreaks.declared_twice q.0)

      fro : (v : Fault) → LocalBreaks typed f p d v → ((is_bad_array true (env_in f.word w) d ≡ true) × (v ≡ broken d.name 35)) ⊎
          (IsDeclared (f.word d.name) (scopes_at p.scopes d.name) × (v ≡ broken d.name 21))
      fro v (LocalBreaks.declared_twice h) = inr (h, refl)
      fro v (LocalBreaks.bad_array e) = inl (breaks_are_bad f.word w.scopes (scopes_at p.scopes d.name) s true d e, refl)

  -- what is declared in turn
  abbrev DeclareIn : Walk → Place → List Declarator → List ℕ → Type 0
  DeclareIn w p ds rest = StandsIn f.variables w p (map (variable f k) ds) (each_marks declarator_marks ds) (name_tokens ds ++ rest)

  declarator : (d : Declarator) (ds : List Declarator) (w : Walk) (p : Place) (rest : List ℕ) → DeclareIn w p (d ∷ ds) rest →
      Finds (local_faults f.word k d w) (λ v. DeclaratorBreaks typed f p d v)
  declarator d ds w p rest s =
      let here = stands_name_here f apart k d ds w p rest s in
      let inner = declared f.word k d w in
      let given = stands_values f apart k d ds w p rest s in
      finds_both (size_faults (env_in f.word w) d.size) (λ vs. initial_faults (value_faults (env_in f.word inner)) d.value
      (bind_fault d.name (f.word d.name) w.scopes (fault_if (is_bad_array true (env_in f.word w) d) d.name 35 vs))) _ _
      (sizes f.word w.scopes (scopes_at p.scopes d.name) here d.size)
      (finds_both (λ vs. bind_fault d.name (f.word d.name) w.scopes (fault_if (is_bad_array true (env_in f.word w) d) d.name 35 vs))
      (initial_faults (value_faults (env_in f.word inner)) d.value) _ _
      (names w p d here)
      (initialiser given.lo given.hi (places.names f p) (value_faults (env_in f.word inner)) NeedsValue
      (λ t l m. value_at f.word inner.scopes (scopes_at p.scopes (first_of t)) (given.sees (first_of t) l m) t) d.value given.order))

  pub declarators : (ds : List Declarator) (w : Walk) (p : Place) (rest : List ℕ) → DeclareIn w p ds rest →
      Finds (locals_faults f.word k ds w) (λ v. SomeOf (λ d. DeclaratorBreaks typed f p d v) ds)
  declarators [] w p rest s = finds_none
  declarators (d ∷ ds) w p rest s =
      finds_both (local_faults f.word k d w) (locals_faults f.word k ds (declared f.word k d w)) _ _ (declarator d ds w p rest s)
      (declarators ds (declared f.word k d w) p rest (stands_name f apart k d ds w p rest s))
