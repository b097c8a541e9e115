-- What a walk finds at a name, and at an expression that is used for something.
use Rattle.std.proofs.Common.{◌≡◌, ◌≢◌, ◌⊎◌, inl, inr, ℕ, Bool, true, false, cond, not, ◌&&◌, Option, Some, None, is_some, refl, sym, ap, subst, ◌∙◌, true≢false}
use Rattle.c_grammar.specs.Terms.{Term, Variable, Cell, first_of}
use Rattle.c_kinds.specs.declared.binding.Binding.{Binding}
use Rattle.c_kinds.specs.declared.binding.Binding.TheVariants.{Constant, Global, Local, Function, Printf}
use Rattle.c_kinds.specs.declared.typed.Fault.{Fault}
use Rattle.c_kinds.specs.declared.typed.Typed.{Typed}
use Rattle.c_kinds.specs.declared.typed.Typed.TheVariants.{Value, Void, Text, Array, Wrong}
use Rattle.c_kinds.specs.Constants.{constant_of, constant_fault}
use Rattle.c_kinds.specs.Names.{name_fault, target_fault}
use Rattle.c_kinds.specs.Scopes.{Env, Faults, meaning, fault, fault_if}
use Rattle.c_kinds.specs.Typing.{typed, used, unused}
use Rattle.c_kinds.specs.Values.{use_fault, drop_fault}
use Rattle.c_reading_defs.specs.Violations.{broken}
use Rattle.c_reading_defs.specs.Bindings.{IsBoundTo, IsUnbound}
use Rattle.c_reading_defs.specs.Expressions.{IsFunctionBinding, is_array_binding, is_number_variable, is_const, ReadBreaks, WriteBreaks, NeedsValue, NeedsConstant, MayBeVoid, IsJudgedElsewhere, UseBreaks}
use Rattle.c_reading_defs.specs.Meanings.{Means}
use Rattle.c_violation_laws.proofs.Meanings.{is_typed, typed_is}
use Rattle.c_violation_laws.proofs.Constants.{constant_not, no_constant}
use Rattle.c_violation_laws.specs.Finds.{Finds}
use Rattle.c_violation_laws.proofs.Finding.{Rule, finds_both, finds_same, finds_nothing, finds_fault, finds_if, finds_one, finds_as}
use Rattle.c_violation_laws.proofs.Bound.{bound_of, bound_back, unbound_of, unbound_back}

none_some : {A : Type 0} (o : Option A) (a : A) → o ≡ None → o ≡ Some a → ⊥
none_some o a e g = cc

some_same : {A : Type 0} (o : Option A) (a b : A) → o ≡ Some a → o ≡ Some b → a ≡ b
some_same o a b e g = cc

module _ (env : Env) (at : ℕ) where
  unbound : meaning env at ≡ None → IsUnbound (env.word at) env.scopes
  unbound e = unbound_of (env.word at) env.scopes e

  bound : (b : Binding) → meaning env at ≡ Some b → IsBoundTo (env.word at) b env.scopes
  bound b e = bound_of (env.word at) b env.scopes e

  pub not_both : (b : Binding) → IsUnbound (env.word at) env.scopes → meaning env at ≡ Some b → ⊥
  not_both b u e = none_some (meaning env at) b (unbound_back (env.word at) env.scopes u) e

  pub not_bound : (b : Binding) → IsBoundTo (env.word at) b env.scopes → meaning env at ≡ None → ⊥
  not_bound b h e = none_some (meaning env at) b e (bound_back (env.word at) b env.scopes h)

  pub same_bound : (b c : Binding) → IsBoundTo (env.word at) b env.scopes → meaning env at ≡ Some c → b ≡ c
  same_bound b c h e = some_same (meaning env at) b c (bound_back (env.word at) b env.scopes h) e

  -- ---- a name that is read

  abbrev reads : Rule
  reads v = ReadBreaks env (Variable at) v

  read_function : (c : Binding) → meaning env at ≡ Some c → IsFunctionBinding c → Finds (fault at 22) reads
  read_function c e i = finds_one at 22 reads (ReadBreaks.not_called c (bound c e) i) only
    where
      only : (v : Fault) → ReadBreaks env (Variable at) v → v ≡ broken at 22
      only v (ReadBreaks.undeclared u) = absurd (not_both c u e)
      only v (ReadBreaks.not_called b h f) = refl

  read_other : (c : Binding) → meaning env at ≡ Some c → (IsFunctionBinding c → ⊥) → Finds (λ vs. vs) reads
  read_other c e i = finds_nothing reads only
    where
      only : (v : Fault) → ReadBreaks env (Variable at) v → ⊥
      only v (ReadBreaks.undeclared u) = not_both c u e
      only v (ReadBreaks.not_called b h f) = i (subst IsFunctionBinding (same_bound b c h e) f)

  by_name : (m : Option Binding) → meaning env at ≡ m → Finds (name_fault at m) reads
  by_name None e = finds_one at 20 reads (ReadBreaks.undeclared (unbound e)) only
    where
      only : (v : Fault) → ReadBreaks env (Variable at) v → v ≡ broken at 20
      only v (ReadBreaks.undeclared u) = refl
      only v (ReadBreaks.not_called b h f) = absurd (not_bound b h e)
  by_name (Some (Function s)) e = read_function (Function s) e tt
  by_name (Some Printf) e = read_function Printf e tt
  by_name (Some (Constant n)) e = read_other (Constant n) e (λ f. f)
  by_name (Some (Global shape)) e = read_other (Global shape) e (λ f. f)
  by_name (Some (Local slot shape)) e = read_other (Local slot shape) e (λ f. f)

  pub read_name : Finds (name_fault at (meaning env at)) (ReadBreaks env (Variable at))
  read_name = by_name (meaning env at) refl

  -- ---- a cell that is read, a name or a cell that is written to

  -- a name of another kind, or one that is const
  shaped : (k c : Bool) → Finds (λ vs. cond k (fault_if c at 26 vs) (fault at 22 vs))
      (λ v. ((k ≡ false) × (v ≡ broken at 22)) ⊎ ((k ≡ true) × (c ≡ true) × (v ≡ broken at 26)))
  shaped false c = finds_same (fault at 22) (λ v. v ≡ broken at 22) _ (finds_fault at 22) (λ v e. inl (refl, e))
      (λ v h. elim h [ inl p ↦ p.1 | inr p ↦ absurd (true≢false (sym p.0)) ])
  shaped true c = finds_same (fault_if c at 26) (λ v. (c ≡ true) × (v ≡ broken at 26)) _ (finds_if c at 26) (λ v p. inr (refl, p.0, p.1))
      (λ v h. elim h [ inl p ↦ absurd (true≢false p.0) | inr p ↦ (p.1, p.2) ])

  a_cell : (writes : Bool) (b : Binding) (vs : Faults) → target_fault writes true at (Some b) vs ≡ cond (is_array_binding b)
      (fault_if (writes && is_const b) at 26 vs) (fault at 22 vs)
  a_cell writes (Constant n) vs = refl
  a_cell writes (Global shape) vs = refl
  a_cell writes (Local slot shape) vs = refl
  a_cell writes (Function s) vs = refl
  a_cell writes Printf vs = refl

  turned : (t : Bool) (x y : Faults) → cond t x y ≡ cond (not t) y x
  turned true x y = refl
  turned false x y = refl

  a_number : (b : Binding) (vs : Faults) → target_fault true false at (Some b) vs ≡ cond (is_number_variable b) (fault_if (is_const b) at 26 vs)
      (fault at 22 vs)
  a_number (Constant n) vs = refl
  a_number (Global shape) vs = turned shape.array (fault at 22 vs) (fault_if shape.constant at 26 vs)
  a_number (Local slot shape) vs = turned shape.array (fault at 22 vs) (fault_if shape.constant at 26 vs)
  a_number _ vs = refl

  -- of a name that has no declaration, all rules but that are kept
  module _ (i : Term) where
    read_cell_by : (m : Option Binding) → meaning env at ≡ m → Finds (target_fault false true at m) (λ v. ReadBreaks env (Cell at i) v)
    read_cell_by None e = finds_one at 20 (λ v. ReadBreaks env (Cell at i) v) (ReadBreaks.undeclared_array (unbound e)) only
      where
        only : (v : Fault) → ReadBreaks env (Cell at i) v → v ≡ broken at 20
        only v (ReadBreaks.undeclared_array u) = refl
        only v (ReadBreaks.no_array b h f) = absurd (not_bound b h e)
    read_cell_by (Some c) e =
        finds_as (target_fault false true at (Some c)) _ _ (a_cell false c)
        (finds_same _ _ (λ v. ReadBreaks env (Cell at i) v) (shaped (is_array_binding c) false) to fro)
      where
        to : (v : Fault) → ((is_array_binding c ≡ false) × (v ≡ broken at 22)) ⊎ ((is_array_binding c ≡ true) × (false ≡ true) × (v ≡ broken at 26)) →
            ReadBreaks env (Cell at i) v
        to v (inl p) = subst (λ w. ReadBreaks env (Cell at i) w) (sym p.1) (ReadBreaks.no_array c (bound c e) p.0)
        to v (inr p) = absurd (true≢false (sym p.1))

        fro : (v : Fault) → ReadBreaks env (Cell at i) v → ((is_array_binding c ≡ false) × (v ≡ broken at 22)) ⊎
            ((is_array_binding c ≡ true) × (false ≡ true) × (v ≡ broken at 26))
        fro v (ReadBreaks.undeclared_array u) = absurd (not_both c u e)
        fro v (ReadBreaks.no_array b h f) = inl (subst (λ x. is_array_binding x ≡ false) (same_bound b c h e) f, refl)

    pub read_cell : Finds (target_fault false true at (meaning env at)) (λ v. ReadBreaks env (Cell at i) v)
    read_cell = read_cell_by (meaning env at) refl

    write_cell_by : (m : Option Binding) → meaning env at ≡ m → Finds (target_fault true true at m) (λ v. WriteBreaks env (Cell at i) v)
    write_cell_by None e = finds_one at 20 (λ v. WriteBreaks env (Cell at i) v) (WriteBreaks.undeclared_array (unbound e)) only
      where
        only : (v : Fault) → WriteBreaks env (Cell at i) v → v ≡ broken at 20
        only v (WriteBreaks.undeclared_array u) = refl
        only v (WriteBreaks.no_array b h f) = absurd (not_bound b h e)
        only v (WriteBreaks.const_cell b h f g) = absurd (not_bound b h e)
    write_cell_by (Some c) e =
        finds_as (target_fault true true at (Some c)) _ _ (a_cell true c)
        (finds_same _ _ (λ v. WriteBreaks env (Cell at i) v) (shaped (is_array_binding c) (is_const c)) to fro)
      where
        to : (v : Fault) → ((is_array_binding c ≡ false) × (v ≡ broken at 22)) ⊎
            ((is_array_binding c ≡ true) × (is_const c ≡ true) × (v ≡ broken at 26)) → WriteBreaks env (Cell at i) v
        to v (inl p) = subst (λ w. WriteBreaks env (Cell at i) w) (sym p.1) (WriteBreaks.no_array c (bound c e) p.0)
        to v (inr p) = subst (λ w. WriteBreaks env (Cell at i) w) (sym p.2) (WriteBreaks.const_cell c (bound c e) p.0 p.1)

        fro : (v : Fault) → WriteBreaks env (Cell at i) v → ((is_array_binding c ≡ false) × (v ≡ broken at 22)) ⊎
            ((is_array_binding c ≡ true) × (is_const c ≡ true) × (v ≡ broken at 26))
        fro v (WriteBreaks.undeclared_array u) = absurd (not_both c u e)
        fro v (WriteBreaks.no_array b h f) = inl (subst (λ x. is_array_binding x ≡ false) (same_bound b c h e) f, refl)
        fro v (WriteBreaks.const_cell b h f g) = inr (
          subst (λ x. is_array_binding x ≡ true) (same_bound b c h e) f,
          subst (λ x. is_const x ≡ true)
              (same_bound b c h e) g,
          refl,
        )

    pub write_cell : Finds (target_fault true true at (meaning env at)) (λ v. WriteBreaks env (Cell at i) v)
    write_cell = write_cell_by (meaning env at) refl

  write_name_by : (m : Option Binding) → meaning env at ≡ m → Finds (target_fault true false at m) (λ v. WriteBreaks env (Variable at) v)
  write_name_by None e = finds_one at 20 (λ v. WriteBreaks env (Variable at) v) (WriteBreaks.undeclared (unbound e)) only
    where
      only : (v : Fault) → WriteBreaks env (Variable at) v → v ≡ broken at 20
      only v (WriteBreaks.undeclared u) = refl
      only v (WriteBreaks.no_number b h f) = absurd (not_bound b h e)
      only v (WriteBreaks.const b h f g) = absurd (not_bound b h e)
  write_name_by (Some c) e =
      finds_as (target_fault true false at (Some c)) _ _ (a_number c)
      (finds_same _ _ (λ v. WriteBreaks env (Variable at) v) (shaped (is_number_variable c) (is_const c)) to fro)
    where
      to : (v : Fault) → ((is_number_variable c ≡ false) × (v ≡ broken at 22)) ⊎
          ((is_number_variable c ≡ true) × (is_const c ≡ true) × (v ≡ broken at 26)) → WriteBreaks env (Variable at) v
      to v (inl p) = subst (λ w. WriteBreaks env (Variable at) w) (sym p.1) (WriteBreaks.no_number c (bound c e) p.0)
      to v (inr p) = subst (λ w. WriteBreaks env (Variable at) w) (sym p.2) (WriteBreaks.const c (bound c e) p.0 p.1)

      fro : (v : Fault) → WriteBreaks env (Variable at) v → ((is_number_variable c ≡ false) × (v ≡ broken at 22)) ⊎
          ((is_number_variable c ≡ true) × (is_const c ≡ true) × (v ≡ broken at 26))
      fro v (WriteBreaks.undeclared u) = absurd (not_both c u e)
      fro v (WriteBreaks.no_number b h f) = inl (subst (λ x. is_number_variable x ≡ false) (same_bound b c h e) f, refl)
      fro v (WriteBreaks.const b h f g) = inr (
        subst (λ x. is_number_variable x ≡ true) (same_bound b c h e) f,
        subst (λ x. is_const x ≡ true)
            (same_bound b c h e) g,
        refl,
      )

  pub write_name : Finds (target_fault true false at (meaning env at)) (λ v. WriteBreaks env (Variable at) v)
  write_name = write_name_by (meaning env at) refl

-- ---- what an expression is used for

abbrev array_token : Typed → ℕ
array_token (Array a) = a.token
array_token _ = 0

module _ (env : Env) (t : Term) where
  -- what is found to be x means x, and nothing else
  meant : (x : Typed) → typed env t ≡ x → x ≢ Wrong → Means env t x
  meant x e r = typed_is env t x e r

  same : (x y : Typed) → typed env t ≡ x → Means env t y → x ≡ y
  same x y e h = sym e ∙ is_typed env t y h

  -- one that is used is void, a text or an array
  use_by : (x : Typed) → typed env t ≡ x → Finds (use_fault (first_of t) x) (λ v. UseBreaks env t NeedsValue v)
  use_by (Value a) e = finds_nothing (λ v. UseBreaks env t NeedsValue v) only
    where
      only : (v : Fault) → UseBreaks env t NeedsValue v → ⊥
      only v (UseBreaks.void n i f) = let g : ◌≡◌ {A = Typed} (Value a) (Void n) = same (Value a) (Void n) e f in cc
      only v (UseBreaks.text bytes i f) = let g : ◌≡◌ {A = Typed} (Value a) (Text bytes) = same (Value a) (Text bytes) e f in cc
      only v (UseBreaks.array b i f) = let g : ◌≡◌ {A = Typed} (Value a) (Array b) = same (Value a) (Array b) e f in cc
  use_by (Void n) e = finds_one (first_of t) 24 (λ v. UseBreaks env t NeedsValue v) (UseBreaks.void n tt (meant (Void n) e (λ w. cc))) only
    where
      only : (v : Fault) → UseBreaks env t NeedsValue v → v ≡ broken (first_of t) 24
      only v (UseBreaks.void n i f) = refl
      only v (UseBreaks.text bytes i f) = let g : ◌≡◌ {A = Typed} (Void n) (Text bytes) = same (Void n) (Text bytes) e f in cc
      only v (UseBreaks.array a i f) = let g : ◌≡◌ {A = Typed} (Void n) (Array a) = same (Void n) (Array a) e f in cc
  use_by (Text bytes) e = finds_one (first_of t) 40 (λ v. UseBreaks env t NeedsValue v) (UseBreaks.text bytes tt (meant (Text bytes) e (λ w. cc))) only
    where
      only : (v : Fault) → UseBreaks env t NeedsValue v → v ≡ broken (first_of t) 40
      only v (UseBreaks.void n i f) = let g : ◌≡◌ {A = Typed} (Text bytes) (Void n) = same (Text bytes) (Void n) e f in cc
      only v (UseBreaks.text bytes i f) = refl
      only v (UseBreaks.array a i f) = let g : ◌≡◌ {A = Typed} (Text bytes) (Array a) = same (Text bytes) (Array a) e f in cc
  use_by (Array a) e = finds_one a.token 22 (λ v. UseBreaks env t NeedsValue v) (UseBreaks.array a tt (meant (Array a) e (λ w. cc))) only
    where
      only : (v : Fault) → UseBreaks env t NeedsValue v → v ≡ broken a.token 22
      only v (UseBreaks.void n i f) = let g : ◌≡◌ {A = Typed} (Array a) (Void n) = same (Array a) (Void n) e f in cc
      only v (UseBreaks.text bytes i f) = let g : ◌≡◌ {A = Typed} (Array a) (Text bytes) = same (Array a) (Text bytes) e f in cc
      only v (UseBreaks.array b i f) = ap (λ x. broken x 22) (ap array_token (sym (same (Array a) (Array b) e f)))
  use_by Wrong e = finds_nothing (λ v. UseBreaks env t NeedsValue v) only
    where
      only : (v : Fault) → UseBreaks env t NeedsValue v → ⊥
      only v (UseBreaks.void n i f) = let g : ◌≡◌ {A = Typed} Wrong (Void n) = same Wrong (Void n) e f in cc
      only v (UseBreaks.text bytes i f) = let g : ◌≡◌ {A = Typed} Wrong (Text bytes) = same Wrong (Text bytes) e f in cc
      only v (UseBreaks.array a i f) = let g : ◌≡◌ {A = Typed} Wrong (Array a) = same Wrong (Array a) e f in cc

  pub needs_value : Finds (used env t) (λ v. UseBreaks env t NeedsValue v)
  needs_value = use_by (typed env t) refl

  drop_by : (x : Typed) → typed env t ≡ x → Finds (drop_fault (first_of t) x) (λ v. UseBreaks env t MayBeVoid v)
  drop_by (Value a) e = finds_nothing (λ v. UseBreaks env t MayBeVoid v) only
    where
      only : (v : Fault) → UseBreaks env t MayBeVoid v → ⊥
      only v (UseBreaks.void n i f) = i
      only v (UseBreaks.text bytes i f) = let g : ◌≡◌ {A = Typed} (Value a) (Text bytes) = same (Value a) (Text bytes) e f in cc
      only v (UseBreaks.array b i f) = let g : ◌≡◌ {A = Typed} (Value a) (Array b) = same (Value a) (Array b) e f in cc
  drop_by (Void n) e = finds_nothing (λ v. UseBreaks env t MayBeVoid v) only
    where
      only : (v : Fault) → UseBreaks env t MayBeVoid v → ⊥
      only v (UseBreaks.void n i f) = i
      only v (UseBreaks.text bytes i f) = let g : ◌≡◌ {A = Typed} (Void n) (Text bytes) = same (Void n) (Text bytes) e f in cc
      only v (UseBreaks.array a i f) = let g : ◌≡◌ {A = Typed} (Void n) (Array a) = same (Void n) (Array a) e f in cc
  drop_by (Text bytes) e = finds_one (first_of t) 40 (λ v. UseBreaks env t MayBeVoid v) (UseBreaks.text bytes tt (meant (Text bytes) e (λ w. cc))) only
    where
      only : (v : Fault) → UseBreaks env t MayBeVoid v → v ≡ broken (first_of t) 40
      only v (UseBreaks.void n i f) = absurd i
      only v (UseBreaks.text bytes i f) = refl
      only v (UseBreaks.array a i f) = let g : ◌≡◌ {A = Typed} (Text bytes) (Array a) = same (Text bytes) (Array a) e f in cc
  drop_by (Array a) e = finds_one a.token 22 (λ v. UseBreaks env t MayBeVoid v) (UseBreaks.array a tt (meant (Array a) e (λ w. cc))) only
    where
      only : (v : Fault) → UseBreaks env t MayBeVoid v → v ≡ broken a.token 22
      only v (UseBreaks.void n i f) = absurd i
      only v (UseBreaks.text bytes i f) = let g : ◌≡◌ {A = Typed} (Array a) (Text bytes) = same (Array a) (Text bytes) e f in cc
      only v (UseBreaks.array b i f) = ap (λ x. broken x 22) (ap array_token (sym (same (Array a) (Array b) e f)))
  drop_by Wrong e = finds_nothing (λ v. UseBreaks env t MayBeVoid v) only
    where
      only : (v : Fault) → UseBreaks env t MayBeVoid v → ⊥
      only v (UseBreaks.void n i f) = i
      only v (UseBreaks.text bytes i f) = let g : ◌≡◌ {A = Typed} Wrong (Text bytes) = same Wrong (Text bytes) e f in cc
      only v (UseBreaks.array a i f) = let g : ◌≡◌ {A = Typed} Wrong (Array a) = same Wrong (Array a) e f in cc

  pub may_be_void : Finds (unused env t) (λ v. UseBreaks env t MayBeVoid v)
  may_be_void = drop_by (typed env t) refl

  pub may_be_anything : Finds (λ vs. vs) (λ v. UseBreaks env t IsJudgedElsewhere v)
  may_be_anything = finds_nothing (λ v. UseBreaks env t IsJudgedElsewhere v) only
    where
      only : (v : Fault) → UseBreaks env t IsJudgedElsewhere v → ⊥
      only v (UseBreaks.void n i f) = i
      only v (UseBreaks.text bytes i f) = i
      only v (UseBreaks.array a i f) = i

  -- a value that has to be constant
  unfixed : {X : Type 0} (o : Option X) → not (is_some o) ≡ true → o ≡ None
  unfixed None e = refl
  unfixed (Some x) e = absurd (true≢false (sym e))

  fixed : {X : Type 0} (o : Option X) → o ≡ None → not (is_some o) ≡ true
  fixed o e = ap (λ x. not (is_some x)) e

  pub needs_constant : Finds (constant_fault (first_of t) (typed env t)) (λ v. UseBreaks env t NeedsConstant v)
  needs_constant =
      finds_same _ _ (λ v. UseBreaks env t NeedsConstant v)
      (finds_both (used env t) (fault_if (not (is_some (constant_of (typed env t)))) (first_of t) 34) _ _ needs_value
      (finds_if (not (is_some (constant_of (typed env t)))) (first_of t) 34)) to fro
    where
      to : (v : Fault) → UseBreaks env t NeedsValue v ⊎ ((not (is_some (constant_of (typed env t))) ≡ true) × (v ≡ broken (first_of t) 34)) →
          UseBreaks env t NeedsConstant v
      to v (inl (UseBreaks.void n i f)) = UseBreaks.void n tt f
      to v (inl (UseBreaks.text bytes i f)) = UseBreaks.text bytes tt f
      to v (inl (UseBreaks.array a i f)) = UseBreaks.array a tt f
      to v (inr p) = subst (λ w. UseBreaks env t NeedsConstant w) (sym p.1)
          (UseBreaks.not_constant (constant_not env t (unfixed (constant_of (typed env t)) p.0)))

      fro : (v : Fault) → UseBreaks env t NeedsConstant v → UseBreaks env t NeedsValue v ⊎
          ((not (is_some (constant_of (typed env t))) ≡ true) × (v ≡ broken (first_of t) 34))
      fro v (UseBreaks.void n i f) = inl (UseBreaks.void n tt f)
      fro v (UseBreaks.text bytes i f) = inl (UseBreaks.text bytes tt f)
      fro v (UseBreaks.array a i f) = inl (UseBreaks.array a tt f)
      fro v (UseBreaks.not_constant e) = inr (fixed (constant_of (typed env t)) (no_constant env t e), refl)
