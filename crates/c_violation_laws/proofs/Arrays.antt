-- Brackets and initialisers that a walk finds bad are those that the rule for arrays names.
use Rattle.std.proofs.Common.{◌≡◌, inl, inr, ℕ, ℤ, Bool, true, not, ◌&&◌, ◌||◌, nat_lt, List, length, Option, Some, None, is_some, refl, sym, subst, true≢false}
use Rattle.std.proofs.lemmas.Bool.{ltb-true, lt-ltb, or_cases, and_parts, or_left, or_right}
use Rattle.c_grammar.specs.Terms.{Term}
use Rattle.c_grammar.specs.Items.{Size, NoSize, Unsized, Sized, Initialiser, NoValue, OneValue, ValueList}
use Rattle.c_kinds.specs.Scopes.{Env}
use Rattle.c_kinds.specs.Typing.{typed}
use Rattle.c_statements.specs.Declarations.{in_bounds, of_length, constant_extent, is_out_of_bounds, is_bad_list, is_bad_value, is_bad_shape}
use Rattle.c_reading_defs.specs.Arrays.{HasCells, ArrayBreaks}
use Rattle.c_reading_defs.specs.Written.{length_in, worth}

module _ (env : Env) (local : Bool) where
  abbrev Breaks : Size → Initialiser → Type 0
  Breaks = ArrayBreaks typed env local

  -- a list for an array of n cells
  of_list : (size : Size) (ts : List Term) (n : ℕ) → HasCells typed env size ts n → (nat_lt n (length ts) || (local && nat_lt 1024 n)) ≡ true →
      Breaks size (ValueList ts)
  of_list size ts n h e = elim (or_cases (nat_lt n (length ts)) (local && nat_lt 1024 n) e) [
    | inl p ↦ ArrayBreaks.more_values n h (ltb-true n (length ts) p)
    | inr p ↦ let q = and_parts local (nat_lt 1024 n) p in ArrayBreaks.long_local n q.0 h (ltb-true 1024 n q.1)
  ]

  of_cells : (t : Term) (z : ℤ) (o : Option ℕ) (value : Initialiser) → worth typed env t ≡ Some z → in_bounds z ≡ o
      → (not (is_some o) || is_bad_value local (of_length o) value) ≡ true → Breaks (Sized t) value
  of_cells t z None value w b e = ArrayBreaks.length_outside z w b
  of_cells t z (Some n) NoValue w b e = absurd (true≢false (sym e))
  of_cells t z (Some n) (OneValue x) w b e = ArrayBreaks.bare_value refl
  of_cells t z (Some n) (ValueList ts) w b e = of_list (Sized t) ts n (z, (w, b)) e

  of_constant : (t : Term) (o : Option ℤ) (value : Initialiser) → worth typed env t ≡ o →
      (is_out_of_bounds o || is_bad_value local (constant_extent o) value) ≡ true → Breaks (Sized t) value
  of_constant t None NoValue w e = absurd (true≢false (sym e))
  of_constant t None (OneValue x) w e = ArrayBreaks.bare_value refl
  of_constant t None (ValueList ts) w e = absurd (true≢false (sym e))
  of_constant t (Some z) value w e = of_cells t z (in_bounds z) value w refl e

  of_own_list : (ts : List Term) → (nat_lt 65536 (length ts) || (nat_lt (length ts) (length ts) || (local && nat_lt 1024 (length ts)))) ≡ true →
      Breaks Unsized (ValueList ts)
  of_own_list ts e = elim (or_cases (nat_lt 65536 (length ts)) _ e) [
    | inl p ↦ ArrayBreaks.long_list (ltb-true 65536 (length ts) p)
    | inr p ↦ of_list Unsized ts (length ts) refl p
  ]

  pub array_breaks : (size : Size) (value : Initialiser) → is_bad_shape local (length_in typed env size) value ≡ true → Breaks size value
  array_breaks NoSize NoValue e = absurd (true≢false (sym e))
  array_breaks NoSize (OneValue t) e = absurd (true≢false (sym e))
  array_breaks NoSize (ValueList ts) e = ArrayBreaks.list_of_number
  array_breaks Unsized NoValue e = ArrayBreaks.no_list
  array_breaks Unsized (OneValue t) e = ArrayBreaks.bare_value refl
  array_breaks Unsized (ValueList ts) e = of_own_list ts e
  array_breaks (Sized t) value e = of_constant t (worth typed env t) value refl e

  -- ---- and back

  abbrev IsBad : Size → Initialiser → Type 0
  IsBad size value = is_bad_shape local (length_in typed env size) value ≡ true

  constant_bad : (t : Term) (z : ℤ) (value : Initialiser) → worth typed env t ≡ Some z →
      (not (is_some (in_bounds z)) || is_bad_value local (of_length (in_bounds z)) value) ≡ true → IsBad (Sized t) value
  constant_bad t z value w e = subst (λ o. (is_out_of_bounds o || is_bad_value local (constant_extent o) value) ≡ true) (sym w) e

  cells_bad : (t : Term) (z : ℤ) (n : ℕ) (ts : List Term) → worth typed env t ≡ Some z → in_bounds z ≡ Some n →
      is_bad_list local (of_length (Some n)) (length ts) ≡ true → IsBad (Sized t) (ValueList ts)
  cells_bad t z n ts w b e = constant_bad t z (ValueList ts) w (subst (λ o. (not (is_some o) || is_bad_list local (of_length o) (length ts)) ≡ true) (sym b) e)

  list_bad : (size : Size) (ts : List Term) (n : ℕ) → HasCells typed env size ts n → (nat_lt n (length ts) || (local && nat_lt 1024 n)) ≡ true →
      IsBad size (ValueList ts)
  list_bad NoSize ts n h e = absurd h
  list_bad Unsized ts n h e = or_right (nat_lt 65536 (length ts)) _ (subst (λ m. (nat_lt m (length ts) || (local && nat_lt 1024 m)) ≡ true) h e)
  list_bad (Sized t) ts n h e = cells_bad t h.0 n ts h.1.0 h.1.1 e

  pub breaks_bad : (size : Size) (value : Initialiser) → Breaks size value → IsBad size value
  breaks_bad (Sized t) value (ArrayBreaks.length_outside z w b) = constant_bad t z value w
      (subst (λ o. (not (is_some o) || is_bad_value local (of_length o) value) ≡ true) (sym b) refl)
  breaks_bad Unsized (ValueList ts) (ArrayBreaks.long_list h) = or_left (nat_lt 65536 (length ts)) _ (lt-ltb 65536 (length ts) h)
  breaks_bad Unsized NoValue ArrayBreaks.no_list = refl
  breaks_bad NoSize (OneValue t) (ArrayBreaks.bare_value e) = absurd (true≢false (sym e))
  breaks_bad Unsized (OneValue t) (ArrayBreaks.bare_value e) = refl
  breaks_bad (Sized s) (OneValue t) (ArrayBreaks.bare_value e) = bare (worth typed env s)
    where
      with_length : (o : Option ℕ) → (not (is_some o) || is_bad_value local (of_length o) (OneValue t)) ≡ true
      with_length None = refl
      with_length (Some n) = refl

      bare : (o : Option ℤ) → (is_out_of_bounds o || is_bad_value local (constant_extent o) (OneValue t)) ≡ true
      bare None = refl
      bare (Some z) = with_length (in_bounds z)
  breaks_bad NoSize (ValueList ts) ArrayBreaks.list_of_number = refl
  breaks_bad size (ValueList ts) (ArrayBreaks.more_values n h e) = list_bad size ts n h (or_left (nat_lt n (length ts)) _ (lt-ltb n (length ts) e))
  breaks_bad size (ValueList ts) (ArrayBreaks.long_local n l h e) = list_bad size ts n h
      (or_right (nat_lt n (length ts)) _ (subst (λ b. (b && nat_lt 1024 n) ≡ true) (sym l) (lt-ltb 1024 n e)))
