-- Arrays without a violation have a length, and as many initialisers at most.
use Rattle.std.proofs.Common.{ℕ, ℤ, pos, negsuc, ◌≤◌, Bool, true, false, cond, not, ◌&&◌, nat_le, nat_lt, List, [], map, length, Option, Some, None, is_some, option_map, ◌≡◌, refl, sym, subst, ◌∙◌, true≢false, arith, ltb-false}
use Rattle.std.proofs.lemmas.List.{length-map}
use Rattle.std.specs.Prelude.{IfSome}
use Rattle.std.proofs.lemmas.Bool.Decides.{nat_tests}
use Rattle.c_tree.specs.declared.tree.Expression.{Expression}
use Rattle.c_tree.specs.Trees.{expression_trees}
use Rattle.c_tree.specs.ExpressionTrees.{expression_tree}
use Rattle.c_grammar.specs.Terms.{Term, first_of}
use Rattle.c_grammar.specs.Items.{Size, NoSize, Unsized, Sized, Initialiser, NoValue, OneValue, ValueList, Declarator}
use Rattle.c_kinds.specs.Constants.{constant_of}
use Rattle.c_kinds.specs.Scopes.{Env, fault_if}
use Rattle.c_kinds.specs.Typing.{typed, faults, used, constant_faults}
use Rattle.c_statements.specs.declared.extents.Extent.TheVariants.{One, Many}
use Rattle.c_statements.specs.declared.extents.Length.{Length}
use Rattle.c_statements.specs.declared.extents.Length.TheVariants.{NoLength, OfList, Constant}
use Rattle.c_statements.specs.Declarations.{in_bounds, length_in, of_length, extent_of, extent, cells_of, is_bad_list, is_bad_value, is_bad_shape, is_bad_array, size_faults, initial}
use Rattle.c_resolved_defs.specs.Files.{IsLength, AreInitialisers}
use Rattle.c_resolving_laws.proofs.Lists.{none_left, and_left, and_right, or_left, or_right}
use Rattle.c_resolving_laws.specs.Read.{IsReadInitialiser}

-- no violation: the constant is one
pub constant_there : (env : Env) (t : Term) → constant_faults env t [] ≡ [] → is_some (constant_of (typed env t)) ≡ true
constant_there env t e = by (is_some (constant_of (typed env t))) e
  where
    by : (b : Bool) → fault_if (not b) (first_of t) 34 (used env t (faults env t [])) ≡ [] → b ≡ true
    by true e = refl
    by false e = absurd (none_left _ _ e)

abbrev pub HasBounds : Option ℕ → Type 0
HasBounds o = IfSome o (λ n. (1 ≤ n) × (n ≤ 65536))

pub in_bounds_is : (z : ℤ) → HasBounds (in_bounds z)
in_bounds_is (negsuc n) = tt
in_bounds_is (pos n) = by (nat_le 1 n && nat_le n 65536) refl
  where
    by : (b : Bool) → (nat_le 1 n && nat_le n 65536) ≡ b → HasBounds (cond b (Some n) None)
    by false e = tt
    by true e = let l = and_left (nat_le 1 n) (nat_le n 65536) e in let r = and_right (nat_le 1 n) (nat_le n 65536) e in
        (grind (arith, nat_tests), grind (arith, nat_tests))

-- the length is a constant
abbrev pub IsGivenLength : Length → Type 0
IsGivenLength (Constant None) = ⊥
IsGivenLength _ = Unit {0}

length_given : (o : Option (Expression × ℤ)) → is_some o ≡ true → IsGivenLength (Constant (option_map (λ c. c.1) o))
length_given None e = absurd (true≢false (sym e))
length_given (Some c) e = tt

pub size_given : (env : Env) (s : Size) → size_faults env s [] ≡ [] → IsGivenLength (length_in env s)
size_given env NoSize e = tt
size_given env Unsized e = tt
size_given env (Sized t) e = length_given (constant_of (typed env t)) (constant_there env t e)

-- the most cells of an array that has initialisers
abbrev pub most_cells : Bool → ℕ
most_cells local = cond local 1024 65536

few : (local : Bool) (n : ℕ) → n ≤ 65536 → (local && nat_lt 1024 n) ≡ false → n ≤ most_cells local
few true n h e = grind (arith, nat_tests)
few false n h e = h

module _ (word : ℕ → List ℕ) (v : Term → Expression) where
  abbrev Given : Bool → Option ℕ → Initialiser → Type 0
  Given local cells i = IfSome (option_map expression_trees (initial v i)) (AreInitialisers (most_cells local) cells)

  abbrev Fine : Bool → Option ℕ → Initialiser → Type 0
  Fine local cells i = IsLength cells × Given local cells i

  many_given : (local : Bool) (n : ℕ) (i : Initialiser) → n ≤ 65536 → is_bad_value local (Many n) i ≡ false → Given local (Some n) i
  many_given local n NoValue h e = tt
  many_given local n (OneValue t) h e = absurd (true≢false e)
  many_given local n (ValueList ts) h e =
      let l = or_left (nat_lt n (length ts)) (local && nat_lt 1024 n) e in
      let r = or_right (nat_lt n (length ts)) (local && nat_lt 1024 n) e in
      (subst (λ k. k ≤ n) (sym (length-map (map v ts) expression_tree ∙ length-map ts v)) (ltb-false n (length ts) l), few local n h r)

  bounded : (local : Bool) (o : Option ℕ) (i : Initialiser) → HasBounds o → not (is_some o) ≡ false → is_bad_value local (of_length o) i ≡ false →
      Fine local (cells_of (of_length o)) i
  bounded local None i h e f = absurd (true≢false e)
  bounded local (Some n) i h e f = (h, many_given local n i h.1 f)

  number_given : (local : Bool) (i : Initialiser) → is_bad_value local One i ≡ false → Given local None i
  number_given local NoValue e = tt
  number_given local (OneValue t) e = refl
  number_given local (ValueList ts) e = absurd (true≢false e)

  shaped : (local : Bool) (l : Length) (i : Initialiser) → IsGivenLength l → IsReadInitialiser word i → is_bad_shape local l i ≡ false →
      Fine local (cells_of (extent_of l i)) i
  shaped local NoLength i g r e = (tt, number_given local i e)
  shaped local OfList NoValue g r e = absurd (true≢false e)
  shaped local OfList (OneValue t) g r e = absurd (true≢false e)
  shaped local OfList (ValueList ts) g r e =
      let n = length ts in
      let l = or_left (nat_lt 65536 n) (is_bad_list local (Many n) n) e in
      let b = or_right (nat_lt 65536 n) (is_bad_list local (Many n) n) e in
      let most = ltb-false 65536 n l in
      ((r.0, most), many_given local n (ValueList ts) most b)
  shaped local (Constant None) i g r e = absurd g
  shaped local (Constant (Some z)) i g r e =
      bounded local (in_bounds z) i (in_bounds_is z) (or_left (not (is_some (in_bounds z))) (is_bad_value local (of_length (in_bounds z)) i) e)
      (or_right (not (is_some (in_bounds z))) (is_bad_value local (of_length (in_bounds z)) i) e)

  -- the cells of a declared variable, and its initialisers
  pub array_fine : (local : Bool) (env : Env) (d : Declarator) → size_faults env d.size [] ≡ [] → IsReadInitialiser word d.value →
      is_bad_array local env d ≡ false
      → Fine local (cells_of (extent env d.size d.value)) d.value
  array_fine local env d s r e = shaped local (length_in env d.size) d.value (size_given env d.size s) r e
