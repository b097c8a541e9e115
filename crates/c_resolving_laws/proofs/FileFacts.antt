-- Enums, variables and functions of a file without a violation, each by itself.
use Rattle.std.proofs.Common.{ℕ, ℤ, pos, negsuc, ◌+ℤ◌, Bool, true, false, cond, not, ◌&&◌, List, [], ◌∷◌, ◌++◌, append_assoc, map, codes, length, Option, Some, None, is_some, option_map, option_and_then, ◌≡◌, refl, sym, ap, subst, ◌∙◌, true≢false, bytes_eq}
use Rattle.std.specs.Prelude.{IfSome}
use Rattle.std.proofs.lemmas.Bool.{not-true}
use Rattle.c_types.specs.declared.kinds.IntKind.TheVariants.{Int}
use Rattle.c_types.specs.Numbers.{is_in_range}
use Rattle.c_tree.specs.declared.tree.Slot.{Slot}
use Rattle.c_tree.specs.declared.tree.EnumItem.{EnumItem}
use Rattle.c_tree.specs.declared.tree.Home.TheVariants as H
use Rattle.c_tree.specs.declared.tree.Top.{Top}
use Rattle.c_tree.specs.declared.tree.Top.TheVariants as T
use Rattle.c_tree.specs.declared.tree.Expression.{Expression}
use Rattle.c_tree.specs.ExpressionTrees.{expression_tree}
use Rattle.c_tree.specs.Trees.{expression_trees}
use Rattle.c_grammar.specs.Terms.{Term, first_of}
use Rattle.c_grammar.specs.Items.{Declarator, Body}
use Rattle.c_grammar.specs.Tops.{Enumerator, Function, Form, Line, Enum, Globals, Defines, Unread}
use Rattle.c_grammar.specs.Tops as tops
use Rattle.c_kinds.specs.declared.binding.Binding.TheVariants as B
use Rattle.c_kinds.specs.declared.binding.Binding.{Binding}
use Rattle.c_kinds.specs.declared.binding.Signature.{Signature}
use Rattle.c_kinds.specs.Scopes.{Env, Scope, Faults, found, bound, with_name}
use Rattle.c_kinds.specs.Typing.{constant_faults}
use Rattle.c_scopes.specs.Enums.{an_int, worth, value_of, or_zero, enumerated, behind_enum, enum_item, enum_items, enum_faults, int_fault, value_faults}
use Rattle.c_scopes.specs.Files.{File, State, env_of, function_declared, notes_tops, form_tops, behind_form, form_faults, tops_of, file_faults}
use Rattle.c_types.specs.Words.{is_known}
use Rattle.c_scopes.specs.FunctionNames.{has_function, has_body, signature_in, again_faults, is_main_form, is_empty, same_result}
use Rattle.c_scopes.specs.Globals.{global_declared, behind_globals, global, globals, globals_faults}
use Rattle.c_statements.specs.declared.extents.Kinded.{Kinded}
use Rattle.c_statements.specs.declared.anchors.Anchor.{Anchor}
use Rattle.c_statements.specs.declared.anchors.Anchor.TheVariants.{Before, Last}
use Rattle.c_statements.specs.Declarations.{kinded, shape_of, constant_at, initial, initial_faults}
use Rattle.c_resolving_laws.proofs.Defined as the_function
use Rattle.c_statements.specs.Functions.{result_kind, function_of}
use Rattle.c_resolved_defs.specs.Files.{IsConstantOf, HasNextValue, HaveValues, IsGlobal, IsMainForm, AreNotMain, MainIsFormed}
use Rattle.c_resolved_defs.specs.Names.{Names}
use Rattle.c_resolved_defs.specs.Scopes as Scopes
use Rattle.c_resolved_defs.specs.Scopes.{AConstant, NameIsBound, IsBound, IsBoundGiven, GivenAreBound, ConstantsAreBound, TopsAreBound, IsNew, IsFunctionName, AreNewParameters, BodyIsBound}
use Rattle.c_resolved_defs.specs.Within.{Each}
use Rattle.c_resolving_laws.proofs.Arrays.{array_fine}
use Rattle.c_resolving_laws.proofs.Declared.{values_are}
use Rattle.c_resolving_laws.proofs.Empty.{constant_empty}
use Rattle.c_resolving_laws.proofs.FileNames.{Same, meaning_of, IsDefined}
use Rattle.c_resolving_laws.proofs.FileParts.{enum_parts, GlobalParts, global_parts, globals_parts, function_parts, file_parts}
use Rattle.c_resolving_laws.proofs.FilePlaces.{notes_behind, defined, Place, noted, form_step, stepped_place, AtEnd, at_end, place_knows}
use Rattle.c_resolving_laws.proofs.FileScope.{Grows, grows_twice, Inv, result_same}
use Rattle.c_resolving_laws.proofs.FileWalk.{behind_tops, Shaped, tree_scopes, bound_shaped, new_shaped, enums_step, globals_step, one_constant, one_global, value_is_int, zero_is_int}
use Rattle.c_resolving_laws.proofs.FunctionTrees.{function_name}
use Rattle.c_resolving_laws.proofs.Functions.{Resolves, resolves, function_is_bound}
use Rattle.c_resolving_laws.proofs.ItemKinds.{good, within_map}
use Rattle.c_resolving_laws.proofs.Values.{IsSound}
use Rattle.c_resolving_laws.proofs.Known.{Knows}
use Rattle.c_resolving_laws.proofs.Lists.{none_left, and_left, and_right, not_true, clean_if, each_append}
use Rattle.c_resolving_laws.proofs.Parts.{parted}
use Rattle.c_resolving_laws.specs.Read.{IsReadInitialiser, IsReadTerm, IsReadDeclarator, IsReadEnumerator, IsReadTopForm, IsReadLine, IsReadFile}
use Rattle.c_resolving_laws.proofs.Uses.{constant_is_value}
use Rattle.c_statements.specs.Declarations.{slot_of}
use Rattle.c_resolved_defs.specs.PrintablePrograms.{EnumeratorsPrint}
use Rattle.c_resolved_defs.specs.Spelling.{TopIsSpelled}
use Rattle.c_resolved_defs.specs.Verbatims.{IsComment}
use Rattle.c_resolving_laws.specs.Counts.{IsFewDeclarator}
use Rattle.c_resolving_laws.proofs.SpelledFiles.{enum_spelled, constant_spelled, variable_spelled}
use Rattle.c_resolving_laws.proofs.SpelledFunctions.{function_is_spelled}

-- ---- constants

module _ (ts : List Top) (ss : List Scopes.Scope) (env : Env) (knows : Knows (record { tops = ts; slots = [] }) ss env) where
  abbrev n : Names
  n = record { tops = ts; slots = [] }

  pub constant_of_file : (t : Term) → IsReadTerm env.word t → constant_faults env t [] ≡ [] → IsConstantOf ts (expression_tree (constant_at env t))
  constant_of_file t r e = let c = constant_is_value n ss env knows t r e in (c.constant, (good n ss _ c.operand.0).kinds)

  constant_bound : (t : Term) → IsReadTerm env.word t → constant_faults env t [] ≡ [] → IsBound [] ss (expression_tree (constant_at env t))
  constant_bound t r e = within_map (IsSound n ss) (NameIsBound [] ss) (λ x h. h.2) _ (constant_is_value n ss env knows t r e).operand.0

  -- the names of a value are bound
  pub given_bound : (name : ℕ) (o : Option Term) (b : Option ℤ) → IfSome o (IsReadTerm env.word) → value_faults env name o b [] ≡ [] →
      IsBoundGiven ss (option_map (constant_at env) o)
  given_bound name None b r e = tt
  given_bound name (Some t) b r e = constant_bound t r (int_none (first_of t) (worth env t) (constant_faults env t []) e)
    where
      int_none : (at : ℕ) (o : Option ℤ) (vs : Faults) → int_fault at o vs ≡ [] → vs ≡ []
      int_none at None vs e = e
      int_none at (Some v) vs e = (clean_if (not (is_in_range Int v)) at 34 vs e).0

  pub all_given : (d : Declarator) → IsReadInitialiser env.word d.value → initial_faults (constant_faults env) d.value [] ≡ [] →
      GivenAreBound ss (initial (constant_at env) d.value)
  all_given d r e = as_given (initial (constant_at env) d.value)
      (values_are env.word (constant_faults env) (constant_empty env) (constant_at env) (IsBound [] ss) (λ t rt et. constant_bound t rt et) d.value r e)
    where
      as_given : (o : Option (List Expression)) → IfSome (option_map expression_trees o) (Each (IsBound [] ss)) → GivenAreBound ss o
      as_given None h = tt
      as_given (Some es) h = h

  an_int_there : (v : ℤ) → not (is_in_range Int v) ≡ false → an_int v ≡ Some v
  an_int_there v e = ap (λ b. cond b (Some v) None) (not_true (is_in_range Int v) e)

  -- the value that is written, or one more than that before
  pub next_is : (name : ℕ) (o : Option Term) (z : ℤ) → IfSome o (IsReadTerm env.word) → value_faults env name o (Some z) [] ≡ []
      → (v : ℤ) × (value_of env o (Some z) ≡ Some v) × ((x : EnumItem) → x.value ≡ v → HasNextValue ts z x (option_map (constant_at env) o))
  next_is name None z r e =
      let c = clean_if (not (is_in_range Int (z +ℤ pos 1))) name 34 [] e in
      (z +ℤ pos 1, an_int_there (z +ℤ pos 1) c.1, λ x h. h)
  next_is name (Some t) z r e =
      let p = parted (int_fault (first_of t) (worth env t)) (constant_faults env t) int_clean e in
      let c = constant_is_value n ss env knows t r p.0 in
      let w = ap (option_map (λ k. k.1)) c.given in
      let i = clean_if (not (is_in_range Int c.number)) (first_of t) 34 [] (subst (λ o. int_fault (first_of t) o [] ≡ []) w p.1) in
      (c.number, ap (option_and_then an_int) w ∙ an_int_there c.number i.1, λ x h. ((c.constant, (good n ss _ c.operand.0).kinds), c.value ∙ ap Some (sym h)))
    where
      int_clean : (vs : Faults) → int_fault (first_of t) (worth env t) vs ≡ [] → vs ≡ []
      int_clean vs e = by (worth env t) e
        where
          by : (o : Option ℤ) → int_fault (first_of t) o vs ≡ [] → vs ≡ []
          by None e = e
          by (Some v) e = (clean_if (not (is_in_range Int v)) (first_of t) 34 vs e).0

  -- the same, behind a value
  pub next_at : (name : ℕ) (o : Option Term) (b : Option ℤ) (z : ℤ) → b ≡ Some z → IfSome o (IsReadTerm env.word) → value_faults env name o b [] ≡ []
      → (v : ℤ) × (value_of env o b ≡ Some v) × ((x : EnumItem) → x.value ≡ v → HasNextValue ts z x (option_map (constant_at env) o))
  next_at name o b z q r e =
      subst (λ b. (v : ℤ) × (value_of env o b ≡ Some v) × ((x : EnumItem) → x.value ≡ v → HasNextValue ts z x (option_map (constant_at env) o))) (sym q)
      (next_is name o z r (subst (λ b. value_faults env name o b [] ≡ []) q e))

-- ---- lists at file scope

module _ (file : File) (ts : List Top) (known : IsDefined (defined file) ts []) (start : Scope) (z : AtEnd file ts start) where
  abbrev Knowing : Scope → Scopes.Scope → Env → Type 0
  Knowing fs rs env = Knows (record { tops = ts; slots = [] }) (tree_scopes rs) (record { word = file.word; scopes = env.scopes })

  knowing : (env : Env) (fs : Scope) (rs : Scopes.Scope) → Shaped env.scopes fs → Grows fs z.last → Same fs rs → Knowing fs rs env
  knowing env fs rs s g m = subst (λ sc. Knows (record { tops = ts; slots = [] }) (tree_scopes rs) (record { word = file.word; scopes = sc })) (sym s)
      (place_knows file ts [] known start z fs rs g m)

  -- the scope behind is reached from here
  abbrev Reaches : List Scope → Type 0
  Reaches scopes = (fs : Scope) → Shaped scopes fs → Grows fs z.last

  new_of_tree : (fs : Scope) (rs : Scopes.Scope) (m : List ℕ) → Same fs rs → is_some (found m fs) ≡ false → IsNew m (tree_scopes rs)
  new_of_tree fs rs m h e = h m ∙ by (found m fs) e
    where
      by : (o : Option Binding) → is_some o ≡ false → option_map (meaning_of m) o ≡ None
      by None e = refl
      by (Some b) e = absurd (true≢false e)

  -- the values of constants, each by the one before
  pub values_have : (es : List Enumerator) (o : Option ℤ) (before : ℤ) → o ≡ Some before →
      (scopes : List Scope) (done : List Top) (fs : Scope) (rs : Scopes.Scope) → let env : Env = record { word = file.word; scopes = scopes } in
      Shaped scopes fs → Each (IsReadEnumerator file.word) es → enum_faults es o env [] ≡ [] → Inv (defined file) done fs rs →
      Reaches (behind_enum es o env).scopes
      → HaveValues ts before (enum_items es o env) × AreNotMain (enum_items es o env) × ConstantsAreBound (tree_scopes rs) (enum_items es o env) ×
      EnumeratorsPrint (enum_items es o env)
  values_have [] o before q scopes done fs rs s r e i h = (tt, tt, tt, tt)
  values_have (x ∷ es) o before q scopes done fs rs s r e i h =
      let env : Env = record { word = file.word; scopes = scopes } in
      let p = enum_parts x es o env e in
      let v = value_of env x.value o in
      let m = file.word x.name in
      let b = B.Constant (or_zero v) in
      let all = enums_step (defined file) (x ∷ es) o env done fs rs s e i in
      let here = knowing env fs rs s (grows_twice fs all.fs' z.last all.grows (h all.fs' all.shaped)) i.same in
      let k = next_at ts (tree_scopes rs) env here x.name x.value o before q r.0.value p.value in
      let new = new_shaped scopes fs m s p.name.new in
      let ranged = zero_is_int v (value_is_int env x.value o) in
      let next = one_constant (defined file) done fs rs m (or_zero v) new ranged i in
      let value = ap or_zero k.1 in
      let rest = values_have es v k.0 k.1 (enumerated x v env).scopes done (with_name m b fs) ((m, AConstant (or_zero v)) ∷ rs)
      (bound_shaped scopes fs m b s) r.1 p.rest next h in (
        (k.2 (enum_item x v env) value, ranged, subst (λ w. HaveValues ts w (enum_items es v (enumerated x v env))) (sym value) rest.0),
        (p.name.other, rest.1),
        ((new_of_tree fs rs m i.same new, p.name.unknown), given_bound ts (tree_scopes rs) env here x.name x.value o r.0.value p.value, rest.2),
        (constant_spelled ts (tree_scopes rs) env here x v r.0, rest.3),
      )

  -- ---- variables

  one_is : (static : Bool) (k : Kinded) (d : Declarator) (scopes : List Scope) (fs : Scope) (rs : Scopes.Scope) → let env : Env =
      record {
        word = file.word;
        scopes = scopes;
      } in
      IsReadDeclarator file.word d → GlobalParts k d env → Knowing fs rs (global_declared k d env) → let g = global static k d env in
      IsGlobal ts g (option_map expression_trees g.init)
  one_is static k d scopes fs rs r p h =
      let env : Env = record { word = file.word; scopes = scopes } in
      let inner = global_declared k d env in
      let a = array_fine file.word (constant_at inner) false env d p.size r.value p.array in
      record {
        length = a.0;
        values = a.1;
        constant = values_are file.word (constant_faults inner) (constant_empty inner) (constant_at inner) (IsConstantOf ts)
            (λ t rt et. constant_of_file ts (tree_scopes rs) inner h t rt et) d.value r.value p.values;
      }

  abbrev pub GlobalFact : Top → Type 0
  GlobalFact (T.Global g) = IsGlobal ts g (option_map expression_trees g.init)
  GlobalFact _ = Unit {0}

  pub globals_are : (static : Bool) (k : Kinded) (ds : List Declarator) (scopes : List Scope) (done : List Top) (fs : Scope) (rs : Scopes.Scope) →
      let env : Env = record { word = file.word; scopes = scopes } in
      Shaped scopes fs → Each (IsReadDeclarator file.word) ds → Each (IsFewDeclarator file.word 400) ds → globals_faults k ds env [] ≡ [] →
      Inv (defined file) done fs rs → Reaches (behind_globals k ds env).scopes
      → Each GlobalFact (globals static k ds env) × Each MainIsFormed (globals static k ds env) ×
      TopsAreBound (tree_scopes rs) (globals static k ds env) × Each TopIsSpelled (globals static k ds env)
  globals_are static k [] scopes done fs rs s r few e i h = (tt, tt, tt, tt)
  globals_are static k (d ∷ ds) scopes done fs rs s r few e i h =
      let env : Env = record { word = file.word; scopes = scopes } in
      let p = globals_parts k d ds env e in
      let q = global_parts k d env p.0 in
      let m = file.word d.name in
      let b = B.Global (shape_of k d) in
      let rs' : Scopes.Scope = (m, Scopes.AVariable (H.Global m)) ∷ rs in
      let inner = global_declared k d env in
      let new = new_shaped scopes fs m s q.name.new in
      let next = one_global (defined file) done fs rs static k d env new i in
      let s' = bound_shaped scopes fs m b s in
      let all = globals_step (defined file) static k ds inner (done ++ T.Global (global static k d env) ∷ []) (with_name m b fs) rs' s' p.1 next in
      let here = knowing inner (with_name m b fs) rs' s' (grows_twice (with_name m b fs) all.fs' z.last all.grows (h all.fs' all.shaped)) next.same in
      let rest = globals_are static k ds inner.scopes (done ++ T.Global (global static k d env) ∷ []) (with_name m b fs) rs' s' r.1 few.1 p.1 next h in
      let one = one_is static k d scopes (with_name m b fs) rs' r.0 q here in (
        (one, rest.0),
        (q.name.other, rest.1),
        (((new_of_tree fs rs m i.same new, q.name.unknown), all_given ts (tree_scopes rs') inner here d r.0.value q.values), rest.2),
        (variable_spelled ts (tree_scopes rs') inner here (slot_of env k d) d r.0.named r.0 few.0 one.length one.values, rest.3),
      )

-- ---- main

no_elements : {A : Type 0} (xs : List A) → is_empty xs ≡ true → length xs ≡ 0
no_elements [] e = refl
no_elements (x ∷ xs) e = absurd (true≢false (sym e))

main_by : (word : ℕ → List ℕ) (notes : Anchor → List (List ℕ)) (f : Function) (scopes : List Scope) (o : Option Body) → is_main_form word f ≡ true →
    IsMainForm (the_function.defined word notes f o scopes)
main_by word notes f scopes o e =
    let l = and_left (same_result (result_kind word f) (Some Int) && not f.static) (is_empty f.parameters) e in
    let result = result_same (result_kind word f) (Some Int) (and_left (same_result (result_kind word f) (Some Int)) (not f.static) l) in
    let public = not-true f.static (and_right (same_result (result_kind word f) (Some Int)) (not f.static) l) in
    let none = no_elements f.parameters (and_right (same_result (result_kind word f) (Some Int) && not f.static) (is_empty f.parameters) e) in
    formed o result public none
  where
    formed : (o : Option Body) → result_kind word f ≡ Some Int → f.static ≡ false → length f.parameters ≡ 0 →
        IsMainForm (the_function.defined word notes f o scopes)
    formed None r p n = record { result = r; parameters = n; public = p }
    formed (Some b) r p n = record { result = r; parameters = n; public = p }

either_true : (a b : Bool) → (a && not b) ≡ false → a ≡ true → b ≡ true
either_true true b e h = not_true b e
either_true false b e h = absurd (true≢false (sym h))

-- ---- all that stands at file scope

module _ (file : File) (ts : List Top) (known : (slots : List Slot) → IsDefined (defined file) ts slots)
    (comments : (a : Anchor) → Each IsComment (file.notes a)) where
  -- what is proved of each part
  abbrev pub TopHolds : Top → Type 0
  TopHolds (T.Enum xs) = HaveValues ts (negsuc 0) xs
  TopHolds (T.Global g) = IsGlobal ts g (option_map expression_trees g.init)
  TopHolds (T.Function f) = Resolves file.flat ts f
  TopHolds _ = Unit {0}

  abbrev pub Hold : List Top → Type 0
  Hold xs = Each TopHolds xs × Each MainIsFormed xs × Each TopIsSpelled xs

  -- and the names of each are bound, from these scopes on
  abbrev pub HoldFrom : List Scopes.Scope → List Top → Type 0
  HoldFrom ss xs = Hold xs × TopsAreBound ss xs

  bound_both : (ss : List Scopes.Scope) (xs ys : List Top) → TopsAreBound ss xs → TopsAreBound (behind_tops (defined file) ss xs) ys →
      TopsAreBound ss (xs ++ ys)
  bound_both ss [] ys h k = k
  bound_both ss (x ∷ xs) ys h k = (h.0, bound_both (Scopes.behind_top ss x) xs ys h.1 k)

  hold_both : (ss : List Scopes.Scope) (xs ys : List Top) → HoldFrom ss xs → HoldFrom (behind_tops (defined file) ss xs) ys → HoldFrom ss (xs ++ ys)
  hold_both ss xs ys h k = (
    (
      each_append TopHolds xs ys h.0.0 k.0.0,
      each_append MainIsFormed xs ys h.0.1 k.0.1,
      each_append TopIsSpelled xs ys h.0.2 k.0.2,
    ),
    bound_both ss xs ys h.1 k.1,
  )

  notes_hold : (ss : List Scopes.Scope) (bs : List (List ℕ)) → Each IsComment bs → HoldFrom ss (map T.Note bs)
  notes_hold ss [] h = ((tt, tt, tt), tt)
  notes_hold ss (b ∷ bs) h = let r = notes_hold ss bs h.1 in (((tt, r.0.0), (tt, r.0.1), (h.0, r.0.2)), (tt, r.1))

  -- a function is declared once, or again
  function_named : (at : ℕ) (again : Bool) (s : Signature) (m : List ℕ) (scopes : List Scope) (fs : Scope) (rs : Scopes.Scope) → Shaped scopes fs →
      Same fs rs → again_faults at again s (bound m scopes) [] ≡ [] → IsFunctionName m (tree_scopes rs)
  function_named at again s m scopes fs rs h same e = subst (λ o. IfSome o (λ b. b ≡ Scopes.AFunction)) (sym (same m))
      (by (found m fs) (subst (λ o. again_faults at again s o [] ≡ []) (ap (bound m) h) e))
    where
      by : (o : Option Binding) → again_faults at again s o [] ≡ [] → IfSome (option_map (meaning_of m) o) (λ b. b ≡ Scopes.AFunction)
      by None e = tt
      by (Some (B.Function g)) e = refl
      by (Some B.Printf) e = refl
      by (Some (B.Constant v)) e = absurd (none_left _ _ e)
      by (Some (B.Global shape)) e = absurd (none_left _ _ e)
      by (Some (B.Local k shape)) e = absurd (none_left _ _ e)

  globals_hold : (start : Scope) (z : AtEnd file ts start) (static : Bool) (k : Kinded) (ds : List Declarator) (env : Env) →
      Each (GlobalFact file ts (known []) start z) (globals static k ds env) → Each TopHolds (globals static k ds env)
  globals_hold start z static k [] env h = tt
  globals_hold start z static k (d ∷ ds) env h = (h.0, globals_hold start z static k ds (global_declared k d env) h.1)

  same_head : (scopes : List Scope) (a b : Scope) → Shaped scopes a → Shaped scopes b → a ≡ b
  same_head scopes a b e f = ap head (sym e ∙ f)
    where
      head : List Scope → Scope
      head [] = []
      head (s ∷ ss) = s

  form_holds : (done : List Top) (first : ℕ) (form : Form) (s : State) (p : Place file done s.scopes) → IsReadTopForm file.word form →
      IsReadLine file.word first form → (e : form_faults file form s [] ≡ [])
      → (now : Scope) → Shaped (behind_form file form s).scopes now → (names : Scopes.Scope) →
      behind_tops (defined file) (tree_scopes p.rs) (form_tops file first form s) ≡ tree_scopes names → Same now names → (z : AtEnd file ts now)
      → HoldFrom (tree_scopes p.rs) (form_tops file first form s)
  form_holds done first Line s p r line e now h names tree same z = (((tt, tt), (tt, tt), (line, tt)), (tt, tt))
  form_holds done first (Enum es) s p r line e now h names tree same z =
      let v = values_have file ts (known []) now z es (Some (negsuc 0)) (negsuc 0) refl s.scopes done p.fs p.rs p.shaped r.1 e p.inv
      (λ fs k. subst (λ a. Grows a z.last) (same_head _ now fs h k) z.grows) in
      (((v.0, tt), (v.1, tt), (enum_spelled es (Some (negsuc 0)) (env_of file s) r.0 v.3, tt)), (v.2, tt))
  form_holds done first (Globals static d) s p r line e now h names tree same z =
      let k = kinded file.word d in
      let v = globals_are file ts (known []) now z static k d.names s.scopes done p.fs p.rs p.shaped r.0 r.1 e p.inv
      (λ fs k. subst (λ a. Grows a z.last) (same_head _ now fs h k) z.grows) in
      ((globals_hold now z static k d.names (env_of file s) v.0, v.1, v.3), v.2)
  form_holds done first (Defines f) s p r line e now h names tree same z =
      let q = function_parts file f s e in
      let scopes = (function_declared file f s).scopes in
      let m = file.word f.name in
      let named = function_name file.word file.notes f scopes f.body in
      let knows : (slots : List Slot) → Knows (record { tops = ts; slots = slots }) (tree_scopes names) (record { word = file.word; scopes = scopes })
      = λ slots. subst (λ sc. Knows (record { tops = ts; slots = slots }) (tree_scopes names) (record { word = file.word; scopes = sc })) (sym h)
      (place_knows file ts slots (known slots) now z now names z.grows same) in
      let holds = resolves file.flat file.word file.notes f scopes ts r q.1 (λ slots. (tree_scopes names, knows slots)) in
      let b = function_is_bound file.flat file.word file.notes f scopes ts (tree_scopes names) knows r q.1 in (
        (
          (holds, tt),
          (
            λ k. main_by file.word file.notes f scopes f.body
                (either_true (bytes_eq m (codes "main")) (is_main_form file.word f) q.0.main (ap (λ w. bytes_eq w (codes "main")) (sym named) ∙ k)),
            tt,
          ),
          (function_is_spelled file.flat file.word file.notes f scopes ts comments r q.1 (λ slots. (tree_scopes names, knows slots)) holds, tt),
        ),
        (
          record {
            named = subst (λ w. IsFunctionName w (tree_scopes p.rs)) (sym named)
                (function_named f.name (has_body f && has_function s.bodies m) (signature_in file.bodies file.word f) m s.scopes p.fs p.rs p.shaped
                p.inv.same q.0.again);
            unknown = ap is_known named ∙ q.0.unknown;
            parameters = subst (λ ss. AreNewParameters (function_of file.word file.notes f scopes).params 0
                (function_of file.word file.notes f scopes).slots (Scopes.inside ss)) (sym tree) b.0;
            body = subst (λ ss. BodyIsBound (function_of file.word file.notes f scopes) ss (function_of file.word file.notes f scopes).body) (sym tree) b.1;
          },
          tt,
        ),
      )
  form_holds done first Unread s p r line e now h names tree same z = absurd r

  pub file_holds : (xs : List tops.Top) (s : State) (done : List Top) (p : Place file done s.scopes) → IsReadFile file.word xs →
      file_faults file xs s [] ≡ [] → ts ≡ done ++ tops_of file xs s → HoldFrom (tree_scopes p.rs) (tops_of file xs s)
  file_holds [] s done p r e a = notes_hold (tree_scopes p.rs) (file.notes Last) (comments Last)
  file_holds (tops.From first after form ∷ xs) s done p r e a =
      let q = file_parts file first after form xs s e in
      let bs = file.notes (Before first) in
      let noted_done = done ++ map T.Note bs in
      let v = form_step file noted_done first form s (noted file done s.scopes bs p) r.0.0 q.0 in
      let forms = form_tops file first form s in
      let new = notes_tops file (Before first) ++ forms in
      let rest = tops_of file xs (behind_form file form s) in
      let place = stepped_place file done first form s p r.0.0 q.0 in
      let a' = a ∙ sym (append_assoc done new rest) in
      let z = subst (λ l. AtEnd file l v.fs') (sym a') (at_end file xs (behind_form file form s) (done ++ new) place r.1 q.1) in
      let ss = tree_scopes p.rs in
      let quiet = notes_behind (defined file) ss bs in
      let here = form_holds noted_done first form s (noted file done s.scopes bs p) r.0.0 r.0.1 q.0 v.fs' v.shaped v.rs' v.tree v.inv.same z in
      let front = hold_both ss (map T.Note bs) forms (notes_hold ss bs (comments (Before first))) (subst (λ x. HoldFrom x forms) (sym quiet) here) in
      hold_both ss new rest front (subst (λ x. HoldFrom x rest)
      (sym (behind_both ss (map T.Note bs) forms ∙ (ap (λ x. behind_tops (defined file) x forms) quiet ∙ v.tree)))
      (file_holds xs (behind_form file form s) (done ++ new) place r.1 q.1 a'))
    where
      behind_both : (ss : List Scopes.Scope) (xs ys : List Top) → behind_tops (defined file) ss (xs ++ ys) ≡ behind_tops (defined file)
          (behind_tops (defined file) ss xs) ys
      behind_both ss [] ys = refl
      behind_both ss (x ∷ xs) ys = behind_both (Scopes.behind_top ss x) xs ys
