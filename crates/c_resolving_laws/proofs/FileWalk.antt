-- What file scope binds behind each part of the file, and behind the whole.
use Rattle.std.proofs.Common.{ℕ, ℤ, pos, Bool, true, false, cond, not, ◌&&◌, List, [], ◌∷◌, ◌++◌, append_assoc, Option, Some, None, is_some, option_and_then, ◌≡◌, refl, sym, ap, subst, ◌∙◌, true≢false, arith}
use Rattle.std.specs.Prelude.{IfSome, IsSomeAnd, IsSome, int_le}
use Rattle.std.specs.Option.{option_or}
use Rattle.std.proofs.lemmas.Int.{ints}
use Rattle.std.proofs.lemmas.List.{append-nil}
use Rattle.c_types.specs.declared.kinds.IntKind.TheVariants.{Int}
use Rattle.c_types.specs.Numbers.{is_in_range, IsInRange, least, greatest}
use Rattle.c_types.specs.Words.{is_known}
use Rattle.c_tree.specs.declared.tree.Home.TheVariants as H
use Rattle.c_tree.specs.declared.tree.Function as tree
use Rattle.c_tree.specs.declared.tree.Top.{Top}
use Rattle.c_tree.specs.declared.tree.Top.TheVariants as T
use Rattle.c_grammar.specs.Terms.{Term}
use Rattle.c_grammar.specs.Items.{Declarator}
use Rattle.c_grammar.specs.Tops.{Enumerator}
use Rattle.c_kinds.specs.declared.binding.Signature.{Signature}
use Rattle.c_kinds.specs.declared.binding.Binding.{Binding}
use Rattle.c_kinds.specs.declared.binding.Binding.TheVariants as B
use Rattle.c_kinds.specs.Scopes.{Env, Scope, found, bound, is_bound, bind, with_name, known_scope}
use Rattle.c_scopes.specs.Enums.{an_int, next_value, worth, value_of, or_zero, enumerated, behind_enum, enum_items, enum_faults}
use Rattle.c_scopes.specs.FunctionNames.{again_faults, same_signature}
use Rattle.c_scopes.specs.Globals.{global_declared, behind_globals, global, globals, globals_faults}
use Rattle.c_statements.specs.declared.extents.Kinded.{Kinded}
use Rattle.c_statements.specs.Declarations.{shape_of}
use Rattle.c_resolved_defs.specs.Names.{first_function, the_global}
use Rattle.c_resolved_defs.specs.Scopes as Scopes
use Rattle.c_resolved_defs.specs.Scopes.{AConstant, AVariable, AFunction, behind_top, bind_constants}
use Rattle.c_kinds.proofs.Entries.{names_same, same_names}
use Rattle.c_resolving_laws.proofs.Declared.{slot_shape}
use Rattle.c_resolving_laws.proofs.FileNames.{NoF, NoG, Unnamed, unnamed_all, no_global, function_append, global_append, FunctionAgrees, FileGood, library_scope}
use Rattle.c_resolving_laws.proofs.FileParts.{enum_parts, global_parts, globals_parts}
use Rattle.c_resolving_laws.proofs.FileScope.{Grows, grows_twice, name_grows, Inv, inv_bound, inv_again}
use Rattle.c_resolving_laws.proofs.Known.{HasShape}
use Rattle.c_resolving_laws.proofs.Lists.{and_left, and_right, not_true, clean_if, none_left, each_append, is_some_and}

-- ---- values of constants

in_range_is : (z : ℤ) → is_in_range Int z ≡ true → IsInRange Int z
in_range_is z e =
    let l = and_left (int_le (least Int) z) (int_le z (greatest Int)) e in
    let r = and_right (int_le (least Int) z) (int_le z (greatest Int)) e in
    record { from_least = grind (arith, ints); to_greatest = grind (arith, ints) }

int_is : (v : ℤ) → IfSome (an_int v) (IsInRange Int)
int_is v = by (is_in_range Int v) refl
  where
    by : (b : Bool) → is_in_range Int v ≡ b → IfSome (cond b (Some v) None) (IsInRange Int)
    by true e = in_range_is v e
    by false e = tt

then_int : (o : Option ℤ) → IfSome (option_and_then an_int o) (IsInRange Int)
then_int None = tt
then_int (Some v) = int_is v

pub value_is_int : (env : Env) (o : Option Term) (before : Option ℤ) → IfSome (value_of env o before) (IsInRange Int)
value_is_int env (Some t) before = then_int (worth env t)
value_is_int env None before = then_int (next_value before)

no_int : IsInRange Int (pos 0)
no_int = record { from_least = grind (arith, ints); to_greatest = grind (arith, ints) }

pub zero_is_int : (o : Option ℤ) → IfSome o (IsInRange Int) → IsInRange Int (or_zero o)
zero_is_int None h = no_int
zero_is_int (Some v) h = h

-- ---- a step of file scope

abbrev pub Shaped : List Scope → Scope → Type 0
Shaped scopes fs = scopes ≡ fs ∷ known_scope ∷ []

-- the scopes of the tree, that of the file in that of the library
abbrev pub tree_scopes : Scopes.Scope → List Scopes.Scope
tree_scopes rs = rs ∷ library_scope ∷ []

pub bound_shaped : (scopes : List Scope) (fs : Scope) (m : List ℕ) (b : Binding) → Shaped scopes fs → Shaped (bind m b scopes) (with_name m b fs)
bound_shaped scopes fs m b s = ap (bind m b) s

pub new_shaped : (scopes : List Scope) (fs : Scope) (m : List ℕ) → Shaped scopes fs → is_bound m scopes ≡ false → is_some (found m fs) ≡ false
new_shaped scopes fs m s e = sym (ap (is_bound m) s) ∙ e

module _ (defined : List ℕ → Bool) where
  -- from one place of file scope to a later one
  pub record Stepped (done : List Top) (fs : Scope) (rs : Scopes.Scope) (scopes : List Scope) (ss : List Scopes.Scope) : Type 0 where
    pub fs' : Scope
    pub rs' : Scopes.Scope
    pub shaped : Shaped scopes fs'
    pub inv : Inv defined done fs' rs'
    pub grows : Grows fs fs'
    pub tree : ss ≡ tree_scopes rs'

  no_tops : (m : List ℕ) → Unnamed m []
  no_tops m = tt

  constant_good : (done : List Top) (fs : Scope) (rs : Scopes.Scope) (m : List ℕ) (v : ℤ) → is_some (found m fs) ≡ false → IsInRange Int v →
      Inv defined done fs rs → FileGood defined (done ++ []) m (B.Constant v)
  constant_good done fs rs m v e r i = (r, each_append _ done [] (i.fresh m e) tt)

  pub one_constant : (done : List Top) (fs : Scope) (rs : Scopes.Scope) (m : List ℕ) (v : ℤ) → is_some (found m fs) ≡ false → IsInRange Int v →
      Inv defined done fs rs
      → Inv defined done (with_name m (B.Constant v) fs) ((m, AConstant v) ∷ rs)
  one_constant done fs rs m v e r i =
      subst (λ l. Inv defined l (with_name m (B.Constant v) fs) ((m, AConstant v) ∷ rs)) (append-nil done)
      (inv_bound defined done [] fs rs m (B.Constant v) e (constant_good done fs rs m v e r i) (λ q h. tt) i)

  pub enums_step : (es : List Enumerator) (before : Option ℤ) (env : Env) (done : List Top) (fs : Scope) (rs : Scopes.Scope) → Shaped env.scopes fs →
      enum_faults es before env [] ≡ [] → Inv defined done fs rs
      → Stepped done fs rs (behind_enum es before env).scopes (bind_constants (enum_items es before env) (tree_scopes rs))
  enums_step [] before env done fs rs s e i = record { fs' = fs; rs' = rs; shaped = s; inv = i; grows = λ m x h. h; tree = refl }
  enums_step (x ∷ es) before env done fs rs s e i =
      let p = enum_parts x es before env e in
      let v = value_of env x.value before in
      let m = env.word x.name in
      let b = B.Constant (or_zero v) in
      let n = new_shaped env.scopes fs m s p.name.new in
      let r = enums_step es v (enumerated x v env) done (with_name m b fs) ((m, AConstant (or_zero v)) ∷ rs) (bound_shaped env.scopes fs m b s) p.rest
      (one_constant done fs rs m (or_zero v) n (zero_is_int v (value_is_int env x.value before)) i) in
      record {
        fs' = r.fs';
        rs' = r.rs';
        shaped = r.shaped;
        inv = r.inv;
        grows = grows_twice fs (with_name m b fs) r.fs' (name_grows m b fs) r.grows;
        tree = r.tree;
      }

  -- the scopes of the tree behind what stands there
  abbrev pub behind_tops : List Scopes.Scope → List Top → List Scopes.Scope
  behind_tops ss [] = ss
  behind_tops ss (t ∷ ts) = behind_tops (behind_top ss t) ts

  pub one_global : (done : List Top) (fs : Scope) (rs : Scopes.Scope) (static : Bool) (k : Kinded) (d : Declarator) (env : Env) →
      is_some (found (env.word d.name) fs) ≡ false → Inv defined done fs rs
      → Inv defined (done ++ T.Global (global static k d env) ∷ []) (with_name (env.word d.name) (B.Global (shape_of k d)) fs)
      ((env.word d.name, AVariable (H.Global (env.word d.name))) ∷ rs)
  one_global done fs rs static k d env e i =
      let m = env.word d.name in
      let g = global static k d env in
      inv_bound defined done (T.Global g ∷ []) fs rs m (B.Global (shape_of k d)) e (
        subst (λ o. IsSomeAnd o (HasShape (shape_of k d)))
            (sym (global_append m done (T.Global g ∷ []) ∙ (ap (λ o. option_or o (the_global m (T.Global g ∷ []))) (no_global NoF m done (i.fresh m e)))))
            (is_some_and (HasShape (shape_of k d)) (the_global m (T.Global g ∷ [])) g.slot (ap (λ t. cond t (Some g.slot) None) (names_same m m refl))
            (slot_shape env k d)),
        each_append _ done (T.Global g ∷ []) (unnamed_all NoF (λ g. Unit {0}) m done (i.fresh m e)) (λ h. tt, tt),
      )
      (λ q h. (λ j. true≢false (sym (names_same q m (sym (same_names m q j))) ∙ h), tt)) i

  pub globals_step : (static : Bool) (k : Kinded) (ds : List Declarator) (env : Env) (done : List Top) (fs : Scope) (rs : Scopes.Scope) →
      Shaped env.scopes fs → globals_faults k ds env [] ≡ [] → Inv defined done fs rs
      → Stepped (done ++ globals static k ds env) fs rs (behind_globals k ds env).scopes (behind_tops (tree_scopes rs) (globals static k ds env))
  globals_step static k [] env done fs rs s e i = record {
    fs' = fs;
    rs' = rs;
    shaped = s;
    inv = subst (λ l. Inv defined l fs rs)
        (sym (append-nil done)) i;
    grows = λ m x h. h;
    tree = refl;
  }
  globals_step static k (d ∷ ds) env done fs rs s e i =
      let p = globals_parts k d ds env e in
      let q = global_parts k d env p.0 in
      let m = env.word d.name in
      let b = B.Global (shape_of k d) in
      let n = new_shaped env.scopes fs m s q.name.new in
      let g = T.Global (global static k d env) in
      let more = globals static k ds (global_declared k d env) in
      let r = globals_step static k ds (global_declared k d env) (done ++ g ∷ []) (with_name m b fs) _ (bound_shaped env.scopes fs m b s) p.1
      (one_global done fs rs static k d env n i) in
      record {
        fs' = r.fs';
        rs' = r.rs';
        shaped = r.shaped;
        inv = subst (λ l. Inv defined l r.fs' r.rs') (append_assoc done (g ∷ []) more) r.inv;
        grows = grows_twice fs (with_name m b fs) r.fs' (name_grows m b fs) r.grows;
        tree = r.tree;
      }

  new_function : (f : tree.Function) (s : Signature) (done : List Top) (fs : Scope) (rs : Scopes.Scope) → is_some (found f.name fs) ≡ false →
      is_known f.name ≡ false → FunctionAgrees (defined f.name) s f → Inv defined done fs rs
      → Inv defined (done ++ T.Function f ∷ []) (with_name f.name (B.Function s) fs) ((f.name, AFunction) ∷ rs)
  new_function f s done fs rs e u a i =
      let m = f.name in
      inv_bound defined done (T.Function f ∷ []) fs rs m (B.Function s) e (
        subst IsSome (sym (function_append (λ f. true) m done (T.Function f ∷ [])))
            (right_there (first_function (λ f. true) m done) (first_function (λ f. true) m (T.Function f ∷ []))
            (ap (λ t. is_some (cond (t && true) (Some f) None)) (names_same m m refl))),
        each_append _ done (T.Function f ∷ []) (unnamed_all (FunctionAgrees (defined m) s) NoG m done (i.fresh m e)) (λ k. a, tt),
        u,
      )
      (λ q h. (λ k. true≢false (sym (names_same q m (sym (same_names m q k))) ∙ h), tt)) i
    where
      right_there : (o v : Option tree.Function) → is_some v ≡ true → IsSome (option_or o v)
      right_there None v h = h
      right_there (Some x) v h = refl

  function_by : (f : tree.Function) (m : List ℕ) (s : Signature) (done : List Top) (fs : Scope) (rs : Scopes.Scope) (scopes : List Scope) (at : ℕ)
      (again : Bool) → f.name ≡ m → Shaped scopes fs
      → is_known m ≡ false → FunctionAgrees (defined m) s f → Inv defined done fs rs → (o : Option Binding) → found m fs ≡ o → again_faults at again s o [] ≡ []
      → Stepped (done ++ T.Function f ∷ []) fs rs (bind m (B.Function s) scopes) (behind_tops (tree_scopes rs) (T.Function f ∷ []))
  function_by f m s done fs rs scopes at again j h u a i None k e =
      record {
        fs' = with_name m (B.Function s) fs;
        rs' = (f.name, AFunction) ∷ rs;
        shaped = bound_shaped scopes fs m (B.Function s) h;
        inv = subst (λ w. Inv defined (done ++ T.Function f ∷ []) (with_name w (B.Function s) fs) ((f.name, AFunction) ∷ rs)) j
            (new_function f s done fs rs (ap (λ w. is_some (found w fs)) j ∙ ap is_some k) (ap is_known j ∙ u)
            (subst (λ w. FunctionAgrees (defined w) s f) (sym j) a) i);
        grows = name_grows m (B.Function s) fs;
        tree = refl;
      }
  function_by f m s done fs rs scopes at again j h u a i (Some (B.Function g)) k e =
      let p = clean_if again at 21 _ e in
      let q = clean_if (not (same_signature g s)) at 37 [] p.0 in
      record {
        fs' = with_name m (B.Function s) fs;
        rs' = (f.name, AFunction) ∷ rs;
        shaped = bound_shaped scopes fs m (B.Function s) h;
        inv = subst (λ w. Inv defined (done ++ T.Function f ∷ []) (with_name w (B.Function s) fs) ((f.name, AFunction) ∷ rs)) j
            (inv_again defined done f fs rs g s (B.Function s) (ap (λ w. found w fs) j ∙ k) (not_true (same_signature g s) q.1)
            (subst (λ w. FunctionAgrees (defined w) s f) (sym j) a) i);
        grows = name_grows m (B.Function s) fs;
        tree = refl;
      }
  function_by f m s done fs rs scopes at again j h u a i (Some (B.Constant v)) k e = absurd (none_left _ _ e)
  function_by f m s done fs rs scopes at again j h u a i (Some (B.Global shape)) k e = absurd (none_left _ _ e)
  function_by f m s done fs rs scopes at again j h u a i (Some (B.Local x shape)) k e = absurd (none_left _ _ e)
  function_by f m s done fs rs scopes at again j h u a i (Some B.Printf) k e = absurd (none_left _ _ e)

  -- a function, new or declared again
  pub function_step : (f : tree.Function) (m : List ℕ) (s : Signature) (done : List Top) (fs : Scope) (rs : Scopes.Scope) (scopes : List Scope)
      (at : ℕ) (again : Bool) → f.name ≡ m → Shaped scopes fs
      → again_faults at again s (bound m scopes) [] ≡ [] → is_known m ≡ false → FunctionAgrees (defined m) s f → Inv defined done fs rs
      → Stepped (done ++ T.Function f ∷ []) fs rs (bind m (B.Function s) scopes) (behind_tops (tree_scopes rs) (T.Function f ∷ []))
  function_step f m s done fs rs scopes at again j h e u a i =
      function_by f m s done fs rs scopes at again j h u a i (found m fs) refl (subst (λ o. again_faults at again s o [] ≡ []) (ap (bound m) h) e)
