-- The plain form of a program that is ready, as the meaning reads it.
use mathlib.Core.Path.{ap₂, fun_ext}
use Rattle.std.proofs.Common.{◌≡◌, ℕ, zero, suc, ◌+◌, pos, Bool, true, false, ◌&&◌, cond, Option, Some, None, option_map, is_some, List, [], ◌∷◌, map, refl, sym, ap, subst, ◌∙◌, true≢false, bytes_eq, arith}
use Rattle.std.specs.List.{AllByRecursion}
use Rattle.std.specs.Option.{option_map_or}
use Rattle.std.proofs.lemmas.List.Elements.{recursion_from_All}
use Rattle.c_types.specs.declared.kinds.IntKind.{IntKind}
use Rattle.c_types.specs.Numbers.{converted, IsInRange}
use Rattle.c_types.proofs.Residues.{converted-in_range}
use Rattle.c_tree.specs.declared.tree.Expression.{Expression}
use Rattle.c_tree.specs.declared.tree.Item.{Item}
use Rattle.c_tree.specs.declared.tree.Function.{Function}
use Rattle.c_tree.specs.declared.tree.Top.{Top}
use Rattle.c_tree.specs.declared.tree.Top.TheVariants as T
use Rattle.c_tree.specs.declared.tree.Program.{Program}
use Rattle.c_tree.specs.ExpressionTrees.{ExpressionTree}
use Rattle.c_tree.specs.Trees.{expression_trees}
use Rattle.jump_meaning.specs.Values.{Variable}
use Rattle.jump_meaning.specs.Code.{Code, function_tree, undeclared, function_in, first_of, function_named, entry_or, initial_variable, global_named, cell_count, global_cells, constant_or_zero, code_of}
use Rattle.jump_meaning.specs.Runs.{SameBehaviour, BehaveTheSame}
use Rattle.jump_meaning.proofs.RunFacts.{same_trans}
use Rattle.plain_laws.specs.Tidied.{tidy_function, tidy_code}
use Rattle.plain_laws.specs.Slotted.{Guarding, slotted, slotted_code, IsSlotted, HoldsInKind, IsSlottedCode, none}
use Rattle.plain_laws.specs.Plain.{with_guard_variables, tidied, plain_body, plain_function, plain_top, plain_with}
use Rattle.plain_laws.specs.Laws.{IsReady, IsTopReady, IsProgramReady}
use Rattle.plain_laws.proofs.Memories.{zero_in_range}
use Rattle.plain_laws.proofs.SlottedRuns.{slotted_same}
use Rattle.plain_laws.proofs.TidyRuns.{tidy_same}
use Rattle.plain_laws.proofs.PlainFunctions.{no_guarding, guarding_of, plain_tree}
use Rattle.plain_laws.proofs.PlainPrograms.{function_slotted}

-- ---- functions by their names

abbrev Names : Type 0
Names = Function → List (List ℕ)

abbrev plain : Names → Function → Function
plain names f = plain_function (names f) f

abbrev pub found : (Function → Bool) → List ℕ → List Top → Option Function
found r m [] = None
found r m (T.Function f ∷ ts) = cond (bytes_eq f.name m && r f) (Some f) (found r m ts)
found r m (_ ∷ ts) = found r m ts

abbrev pub first : Option Function → Option Function → Option Function
first (Some f) o = Some f
first None o = o

-- the definition of a name, else its first declaration
abbrev pub picked : List ℕ → List Top → Option Function
picked m ts = first (found (λ f. is_some f.body) m ts) (found (λ f. true) m ts)

pub map_choice : {A B : Type 0} (h : A → B) (b : Bool) (x y : Option A) → option_map h (cond b x y) ≡ cond b (option_map h x) (option_map h y)
map_choice h true x y = refl
map_choice h false x y = refl

found_tree : (r : Function → Bool) (m : List ℕ) (ts : List Top) → function_in r m ts ≡ option_map function_tree (found r m ts)
found_tree r m [] = refl
found_tree r m (T.Function f ∷ ts) = ap (cond (bytes_eq f.name m && r f) (Some (function_tree f))) (found_tree r m ts) ∙
    sym (map_choice function_tree (bytes_eq f.name m && r f) (Some f) (found r m ts))
found_tree r m (T.Include b ∷ ts) = found_tree r m ts
found_tree r m (T.Enum es ∷ ts) = found_tree r m ts
found_tree r m (T.Global g ∷ ts) = found_tree r m ts
found_tree r m (T.Note b ∷ ts) = found_tree r m ts

first_tree : (o p : Option Function) → first_of (option_map function_tree o) (option_map function_tree p) undeclared ≡ option_map_or function_tree
    (first o p) undeclared
first_tree (Some f) p = refl
first_tree None (Some f) = refl
first_tree None None = refl

pub named_tree : (m : List ℕ) (ts : List Top) → function_named m ts ≡ option_map_or function_tree (picked m ts) undeclared
named_tree m ts =
    ap₂ (λ o p. first_of o p undeclared) (found_tree (λ f. is_some f.body) m ts) (found_tree (λ f. true) m ts) ∙
    first_tree (found (λ f. is_some f.body) m ts) (found (λ f. true) m ts)

-- ---- of the plain form

name_by : (flat : Bool) (ns : List (List ℕ)) (f : Function) (xs : List Item) →
    (cond flat (with_guard_variables ns f xs) (record f { body = Some (tidied xs) })).name ≡ f.name
name_by true ns f xs = refl
name_by false ns f xs = refl

body_by : (flat : Bool) (ns : List (List ℕ)) (f : Function) (xs : List Item) →
    is_some (cond flat (with_guard_variables ns f xs) (record f { body = Some (tidied xs) })).body ≡ true
body_by true ns f xs = refl
body_by false ns f xs = refl

plain_name : (ns : List (List ℕ)) (f : Function) (b : Option (List Item)) → (plain_body ns f b).name ≡ f.name
plain_name ns f None = refl
plain_name ns f (Some xs) = name_by f.flat ns f xs

plain_some : (ns : List (List ℕ)) (f : Function) (b : Option (List Item)) → f.body ≡ b → is_some (plain_body ns f b).body ≡ is_some f.body
plain_some ns f None e = refl
plain_some ns f (Some xs) e = body_by f.flat ns f xs ∙ ap is_some (sym e)

module _ (names : Names) where
  abbrev Kept : (Function → Bool) → Type 0
  Kept r = (f : Function) → r (plain names f) ≡ r f

  found_plain : (r : Function → Bool) → Kept r → (m : List ℕ) (ts : List Top) → found r m (map (plain_top names) ts) ≡ option_map (plain names) (found r m ts)
  found_plain r h m [] = refl
  found_plain r h m (T.Function f ∷ ts) =
      ap₂ (λ n b. cond (bytes_eq n m && b) (Some (plain names f)) (found r m (map (plain_top names) ts))) (plain_name (names f) f f.body) (h f)
      ∙ ap (cond (bytes_eq f.name m && r f) (Some (plain names f))) (found_plain r h m ts)
      ∙ sym (map_choice (plain names) (bytes_eq f.name m && r f) (Some f) (found r m ts))
  found_plain r h m (T.Include b ∷ ts) = found_plain r h m ts
  found_plain r h m (T.Enum es ∷ ts) = found_plain r h m ts
  found_plain r h m (T.Global g ∷ ts) = found_plain r h m ts
  found_plain r h m (T.Note b ∷ ts) = found_plain r h m ts

  first_plain : (o p : Option Function) → first (option_map (plain names) o) (option_map (plain names) p) ≡ option_map (plain names) (first o p)
  first_plain (Some f) p = refl
  first_plain None p = refl

  picked_plain : (m : List ℕ) (ts : List Top) → picked m (map (plain_top names) ts) ≡ option_map (plain names) (picked m ts)
  picked_plain m ts =
      ap₂ first (found_plain (λ f. is_some f.body) (λ f. plain_some (names f) f f.body refl) m ts) (found_plain (λ f. true) (λ f. refl) m ts)
      ∙ first_plain (found (λ f. is_some f.body) m ts) (found (λ f. true) m ts)

  -- ---- ready programs

  abbrev IsFound : Code → Option Function → Type 0
  IsFound p None = Unit {0}
  IsFound p (Some f) = IsReady p names f

  found_choice : (p : Code) (b : Bool) (f : Function) (o : Option Function) → IsReady p names f → IsFound p o → IsFound p (cond b (Some f) o)
  found_choice p true f o h g = h
  found_choice p false f o h g = g

  found_ready : (p : Code) (r : Function → Bool) (m : List ℕ) (ts : List Top) → AllByRecursion (IsTopReady p names) ts → IsFound p (found r m ts)
  found_ready p r m [] h = tt
  found_ready p r m (T.Function f ∷ ts) h = found_choice p (bytes_eq f.name m && r f) f (found r m ts) h.0 (found_ready p r m ts h.1)
  found_ready p r m (T.Include b ∷ ts) h = found_ready p r m ts h.1
  found_ready p r m (T.Enum es ∷ ts) h = found_ready p r m ts h.1
  found_ready p r m (T.Global g ∷ ts) h = found_ready p r m ts h.1
  found_ready p r m (T.Note b ∷ ts) h = found_ready p r m ts h.1

  first_ready : (p : Code) (o q : Option Function) → IsFound p o → IsFound p q → IsFound p (first o q)
  first_ready p (Some f) q h g = h
  first_ready p None q h g = g

  picked_ready : (p : Code) (m : List ℕ) (ts : List Top) → AllByRecursion (IsTopReady p names) ts → IsFound p (picked m ts)
  picked_ready p m ts h = first_ready p (found (λ f. is_some f.body) m ts) (found (λ f. true) m ts) (found_ready p (λ f. is_some f.body) m ts h)
      (found_ready p (λ f. true) m ts h)

  -- what stands for the guards of the function of a name
  abbrev pub guarding : List Top → List ℕ → Guarding
  guarding ts m = option_map_or (λ f. guarding_of (names f) f) (picked m ts) no_guarding

  tree_of_found : (p : Code) (o : Option Function) → IsFound p o
      → option_map_or function_tree (option_map (plain names) o) undeclared ≡ tidy_function
      (slotted (option_map_or (λ f. guarding_of (names f) f) o no_guarding) (option_map_or function_tree o undeclared))
  tree_of_found p (Some f) h = plain_tree (names f) f h.ranged.unguarded
  tree_of_found p None h = refl

  slotted_of_found : (p : Code) (o : Option Function) → IsFound p o → IsSlotted p (option_map_or function_tree o undeclared)
      (option_map_or (λ f. guarding_of (names f) f) o no_guarding)
  slotted_of_found p (Some f) h = function_slotted p names f h
  slotted_of_found p None h = record {
    parameters = omega arith;
    ints = tt;
    bodiless = λ z. refl;
    beyond = λ l i. absurd (true≢false (sym i));
    within = λ l i. absurd (true≢false (sym i));
    apart = λ l m i j z. absurd (true≢false (sym i));
    declared = none;
    jumping = true;
    fits = tt;
  }

  -- ---- variables of file scope

  global_plain : (m : List ℕ) (ts : List Top) → global_named m (map (plain_top names) ts) ≡ global_named m ts
  global_plain m [] = refl
  global_plain m (T.Global g ∷ ts) = ap (cond (bytes_eq g.slot.name m) (initial_variable g)) (global_plain m ts)
  global_plain m (T.Function f ∷ ts) = global_plain m ts
  global_plain m (T.Include b ∷ ts) = global_plain m ts
  global_plain m (T.Enum es ∷ ts) = global_plain m ts
  global_plain m (T.Note b ∷ ts) = global_plain m ts

  cells_plain : (ts : List Top) → global_cells (map (plain_top names) ts) ≡ global_cells ts
  cells_plain [] = refl
  cells_plain (T.Global g ∷ ts) = ap (λ n. cell_count g.slot + n) (cells_plain ts)
  cells_plain (T.Function f ∷ ts) = cells_plain ts
  cells_plain (T.Include b ∷ ts) = cells_plain ts
  cells_plain (T.Enum es ∷ ts) = cells_plain ts
  cells_plain (T.Note b ∷ ts) = cells_plain ts

entries_in : (k : IntKind) (es : List ExpressionTree) (i : ℕ) → IsInRange k (entry_or (pos 0) (map (λ e. converted k (constant_or_zero e)) es) i)
entries_in k [] i = zero_in_range k
entries_in k (e ∷ es) zero = converted-in_range k (constant_or_zero e)
entries_in k (e ∷ es) (suc i) = entries_in k es i

initial_in : (k : IntKind) (o : Option (List Expression)) (i : ℕ) → IsInRange k
    (entry_or (pos 0) (option_map_or (λ es. map (λ e. converted k (constant_or_zero e)) (expression_trees es)) o []) i)
initial_in k None i = zero_in_range k
initial_in k (Some es) i = entries_in k (expression_trees es) i

chosen_variable : (b : Bool) (x y : Variable) → HoldsInKind x → HoldsInKind y → HoldsInKind (cond b x y)
chosen_variable true x y h g = h
chosen_variable false x y h g = g

globals_in : (m : List ℕ) (ts : List Top) → HoldsInKind (global_named m ts)
globals_in m [] = λ i. zero_in_range _
globals_in m (T.Global g ∷ ts) = chosen_variable (bytes_eq g.slot.name m) (initial_variable g) (global_named m ts) (initial_in g.slot.kind g.init)
    (globals_in m ts)
globals_in m (T.Function f ∷ ts) = globals_in m ts
globals_in m (T.Include b ∷ ts) = globals_in m ts
globals_in m (T.Enum es ∷ ts) = globals_in m ts
globals_in m (T.Note b ∷ ts) = globals_in m ts

-- ---- programs

module _ (names : Names) (p : Program) (ready : IsProgramReady names p) where
  tops : AllByRecursion (IsTopReady (code_of p) names) p.tops
  tops = recursion_from_All (IsTopReady (code_of p) names) p.tops ready

  functions_same : (m : List ℕ) → function_named m (map (plain_top names) p.tops) ≡ tidy_function (slotted (guarding names p.tops m) (function_named m p.tops))
  functions_same m =
      named_tree m (map (plain_top names) p.tops) ∙ ap (λ o. option_map_or function_tree o undeclared) (picked_plain names m p.tops)
      ∙ tree_of_found names (code_of p) (picked m p.tops) (picked_ready names (code_of p) m p.tops tops)
      ∙ ap (λ t. tidy_function (slotted (guarding names p.tops m) t)) (sym (named_tree m p.tops))

  code_same : code_of (plain_with names p) ≡ tidy_code (slotted_code (guarding names p.tops) (code_of p))
  code_same =
      ap₂ (λ fs (g : List ℕ → Variable). record { functions = fs; globals = g; cells = global_cells (map (plain_top names) p.tops) })
      (fun_ext functions_same) (fun_ext (λ m. global_plain names m p.tops))
      ∙ ap (λ n. record {
        functions = λ m. tidy_function (slotted (guarding names p.tops m) (function_named m p.tops));
        globals = λ m. global_named m p.tops;
        cells = n;
      }) (cells_plain names p.tops)

  is_slotted : IsSlottedCode (code_of p) (guarding names p.tops)
  is_slotted = record {
    functions = λ m. subst (λ t. IsSlotted (code_of p) t (guarding names p.tops m)) (sym (named_tree m p.tops))
        (slotted_of_found names (code_of p) (picked m p.tops) (picked_ready names (code_of p) m p.tops tops));
    globals = λ m. globals_in m p.tops;
  }

  pub plain_same : BehaveTheSame p (plain_with names p)
  plain_same = record {
    codes = subst (SameBehaviour (code_of p)) (sym code_same)
        (same_trans (code_of p) (slotted_code (guarding names p.tops) (code_of p)) (tidy_code (slotted_code (guarding names p.tops) (code_of p)))
        (slotted_same (code_of p) (guarding names p.tops) is_slotted) (tidy_same (slotted_code (guarding names p.tops) (code_of p))));
  }
